-- What a host sees of calls that keep their contracts is a run of the definitions, so what is proved of such runs holds of it. Assumes nothing.
use Rattle.std.proofs.Common.{ℕ, ◌≡◌, refl, sym, ◌∙◌, ap, subst, subst₂, List, [], ◌∷◌, true, ⊎_elim}
use mathlib.Core.List.Memᴰ
use mathlib.Core.List.{Memᴰ}
use Rattle.state.specs.State.{state_ok}
use Rattle.engine.specs.Create.{create_state}
use Rattle.calls.specs.Calls.{After}
use Rattle.agreement.specs.History.{Call, propose, message, skip, Turn, turn_of, state_after, turns, none_fails, Event, history}
use Rattle.agreement.specs.Demand3.{Sound, encrypted_of, Premises, Conclusions}
use Rattle.agreement.specs.Demand2.{state_after_all}
use Rattle.agreement.specs.Operations.{Seen, Keeps, KeepAll, Host, Kept, step_seen, turns_seen, calls_seen, state_seen, made_by, Unfailing, OperationsDefined, OperationsInRange, OperationsRule, OperationsAgree}
use Rattle.agreement.proofs.Created.{create_ok}
use Rattle.agreement.proofs.Ranges.{calls_in_range}
use Rattle.agreement.proofs.Demand2.{engine_rule}
use Rattle.agreement.proofs.Demand3.{agreement}

-- ONE CALL
abbrev seen_turn : Call → Seen → Turn
seen_turn c x = record { call = c; reply = x.reply; step = step_seen c x.step }

call_turn : (w : List ℕ) (c : Call) (x : Seen) → Keeps w c x → seen_turn c x ≡ turn_of w c
unfolding turn_of
call_turn w (propose scratch answers step) x k = ap (λ (r : After). record { call = propose scratch answers step; reply = r.reply; step = r.step }) k
call_turn w (message sender epoch content proposer item scratch answers step) x k =
    ap (λ (r : After). record { call = message sender epoch content proposer item scratch answers step; reply = r.reply; step = r.step }) k
call_turn w (skip target) x k = ap (λ (r : ℕ). record { call = skip target; reply = r; step = [] }) k.0

call_state : (w : List ℕ) (c : Call) (x : Seen) → Keeps w c x → x.state ≡ state_after w c
unfolding state_after
call_state w (propose scratch answers step) x k = ap (λ (r : After). r.state) k
call_state w (message sender epoch content proposer item scratch answers step) x k = ap (λ (r : After). r.state) k
call_state w (skip target) x k = k.1

-- ALL CALLS
all_turns : (w : List ℕ) (xs : List Seen) → KeepAll w xs → turns_seen xs ≡ turns w (calls_seen xs)
unfolding turns_seen calls_seen turns
all_turns w [] k = refl
all_turns w (x ∷ xs) k =
    rw (call_turn w x.call x k.0, all_turns x.state xs k.1, call_state w x.call x k.0)

all_state : (w : List ℕ) (xs : List Seen) → KeepAll w xs → state_seen w xs ≡ state_after_all w (calls_seen xs)
unfolding state_seen calls_seen state_after_all
all_state w [] k = refl
all_state w (x ∷ xs) k = all_state x.state xs k.1 ∙ ap (λ v. state_after_all v (calls_seen xs)) (call_state w x.call x k.0)

all_ok : (w : List ℕ) (xs : List Seen) → state_ok w ≡ true → KeepAll w xs → (x : Seen) → Memᴰ x xs → state_ok x.state ≡ true
all_ok w [] ok k x m = absurd (Memᴰ.not-nil m)
all_ok w (y ∷ xs) ok k x m =
    let okʹ : state_ok y.state ≡ true = subst (λ (v : List ℕ). state_ok v ≡ true) (sym (call_state w y.call y k.0)) (calls_in_range w y.call ok) in
    ⊎_elim (λ (e : x ≡ y). rw e okʹ) (all_ok y.state xs okʹ k.1 x) (Memᴰ.cases_cons m)

-- THE HOST
pub operations_defined : OperationsDefined
operations_defined h k =
    let ts : turns_seen h.seen ≡ turns (create_state h.numbers h.lent) (calls_seen h.seen) =
    subst (λ (w : List ℕ). turns_seen h.seen ≡ turns w (calls_seen h.seen)) k.created (all_turns h.state h.seen k.calls) in
    record {
      turns = ts;
      history = ap (history h.numbers.epoch) ts;
      state = all_state h.state h.seen k.calls ∙ ap (λ v. state_after_all v (calls_seen h.seen)) k.created;
    }

pub operations_in_range : OperationsInRange
operations_in_range h k e =
    all_ok h.state h.seen
    (subst (λ (v : List ℕ). state_ok v ≡ true) (sym k.created) (create_ok h.numbers h.lent (sym k.replied ∙ e)))
    k.calls

sound : (h : Host) → Kept h → Unfailing h → Sound (made_by h)
sound h k u = record {
  created = sym k.replied ∙ u.created;
  unfailing = subst (λ (ts : List Turn). none_fails ts ≡ true) (operations_defined h k).turns u.unfailing;
}

pub operations_rule : OperationsRule
operations_rule h k u = engine_rule (made_by h) (sound h k u)

pub operations_agree : OperationsAgree
operations_agree h₁ h₂ k₁ k₂ u₁ u₂ same p =
    let e₁ = (operations_defined h₁ k₁).history in
    let e₂ = (operations_defined h₂ k₂).history in
    subst₂ (λ (a b : List Event). Conclusions h₁.numbers.nodes h₁.numbers.faulty (encrypted_of (made_by h₁)) a b) (sym e₁) (sym e₂)
    (agreement (made_by h₁) (made_by h₂) (sound h₁ k₁ u₁) (sound h₂ k₂ u₂) same
    (subst₂ (λ (a b : List Event). Premises h₁.numbers.nodes (encrypted_of (made_by h₁)) a b) e₁ e₂ p))
