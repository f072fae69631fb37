-- A proposal's state is what was taken of its value and of its decision, and each move keeps it so. Assumes nothing.
use Rattle.std.proofs.Common.{ℕ, zero, suc, ◌<◌, ◌≡◌, refl, sym, ap, ◌∙◌, ◌≢◌, List, [], ◌∷◌, Bool, true, false, cond, ◌&&◌, ◌||◌, not, Option, None, Some, arith, eqb, eqb-true, ne_eqb}
use Rattle.std.proofs.lemmas.Bool.{and_parts, false≢true, eqb-false}
use Rattle.steps.specs.declared.reader.Content.{Content}
use Rattle.steps.specs.declared.reader.Content.TheVariants.{Broadcast, Agreement}
use Rattle.steps.specs.Answers.{Got, Refused}
use Rattle.steps.specs.Table.{within}
use Rattle.steps.specs.Answers.{Rec, Tape, tape, asked, ask_for, ask_about}
use Rattle.steps.specs.Taken.{or_else, is_there, last_output_in, first_taken, of_value, of_decision, is_asked}
use Rattle.steps.specs.Parts.{is_part, read_parts, parts_from}
use Rattle.steps.specs.Runs.{failed, Run, ends, heard_as, heard}
use Rattle.steps.proofs.TakenFromChain.{or_else_none, Good, parts_output, parts_rest, NoPart, apart, Bit, Instance, kind6, Heard, heard_answer}
use Rattle.proposal.specs.declared.ProposalState.{ProposalState}
use Rattle.proposal.specs.declared.ProposalState.TheVariants.{Ongoing, HasValue, Accepted, Complete}
use Rattle.proposal.specs.Proposal.{moved, after_agreement, after_broadcast, asks_agreement, asks_broadcast, instance_answer, answer_agreement, vote_true, after_value, answer_broadcast}
use Rattle.steps.proofs.AfterRun.{Afterwards, after_map, after_onward}

-- the state of a proposal whose value and decision taken so far are these
abbrev pub state_of : Option ℕ → Option ℕ → ProposalState
state_of None None = Ongoing
state_of (Some v) None = HasValue v
state_of None (Some zero) = Complete false
state_of (Some v) (Some zero) = Complete false
state_of None (Some (suc d)) = Accepted
state_of (Some v) (Some (suc d)) = Complete true

-- the value that it has output
abbrev pub output_of : Option ℕ → Option ℕ → Option ℕ
output_of None d = None
output_of (Some v) None = None
output_of (Some v) (Some zero) = None
output_of (Some v) (Some (suc d)) = Some v

module _ (n error p k : ℕ) (content : Content) (i : Instance k) (s : ProposalState) where
  -- an instance's answer, where there is one
  pub instance_ok : (u : Tape) → Good n u.rest → Afterwards (instance_answer error p k content s u) (λ out t z. (t ≡ s) × Heard n k p u.rest out z.rest)
  unfolding instance_answer heard heard_as ask_about ask_for
  instance_ok u g = go u.rest g
    where
      want : Rec → Bool
      want r = eqb r.kind k && eqb r.b p

      goes : ℕ → ℕ → Tape → Run ProposalState (Option ℕ)
      goes a b q = cond (eqb a 0) (ends (failed error) s q) (read_parts content p s q)

      told : (r : Rec) (rs : List Rec) → Good n (r ∷ rs) → want r ≡ true → (x : Bool) → eqb r.a 0 ≡ x
          → Afterwards (cond x (ends (failed error) s (tape r.next rs)) (read_parts content p s (tape r.next rs))) (λ out t z. (t ≡ s) × Heard n k p (r ∷ rs) out z.rest)
      told r rs g w true e = tt
      told r rs g w false e =
          let both = and_parts (eqb r.kind k) (eqb r.b p) w in
          let h = heard_answer n k p r rs i g (eqb-true _ _ both.0) (eqb-true _ _ both.1) (eqb-false r.a 0 e) in
          let o : (parts_from content p None r.next rs).output ≡ last_output_in rs = parts_output content p None r.next rs ∙ or_else_none (last_output_in rs) in
          (refl, rw (o, parts_rest content p None r.next rs) h)

      found : (r : Rec) (rs : List Rec) → Good n (r ∷ rs) → (x : Bool) → want r ≡ x
          → Afterwards (heard (cond x (asked (Got r.a r.b) (tape r.next rs)) (asked Refused u)) s goes) (λ out t z. (t ≡ s) × Heard n k p (r ∷ rs) out z.rest)
      found r rs g true w = told r rs g w (eqb r.a 0) refl
      found r rs g false w = tt

      go : (l : List Rec) → Good n l → Afterwards (heard (ask_for want u l) s goes) (λ out t z. (t ≡ s) × Heard n k p l out z.rest)
      go [] g = tt
      go (r ∷ rs) g = found r rs g (want r) refl

-- AN AGREEMENT'S ANSWER of kind k about p, whose value is v, and which is undecided
pub record Agreed (n k p : ℕ) (v : Option ℕ) (ws : List Rec) (o : Option ℕ) (s : ProposalState) (r : List Rec) : Type 0 where
  pub answer : Option ℕ
  pub heard : Heard n k p ws answer r
  pub state : s ≡ state_of v answer
  pub out : o ≡ output_of v answer

agree_move : (v : Option ℕ) (out : Option ℕ) → after_agreement (state_of v None) out ≡ moved (state_of v out) (output_of v out)
unfolding after_agreement
agree_move None None = refl
agree_move None (Some zero) = refl
agree_move None (Some (suc d)) = rw (ne_eqb (suc d) 0 (λ e. omega arith))
agree_move (Some v) None = refl
agree_move (Some v) (Some zero) = refl
agree_move (Some v) (Some (suc d)) = rw (ne_eqb (suc d) 0 (λ e. omega arith))

pub agreement_ok : (n error p k : ℕ) → Instance k → (v : Option ℕ) (u : Tape) → Good n u.rest
    → Afterwards (answer_agreement error p k (state_of v None) u) (λ o s z. Agreed n k p v u.rest o s z.rest)
unfolding answer_agreement
agreement_ok n error p k i v u g =
    after_onward (instance_answer error p k Agreement (state_of v None) u) _ _
    (after_map (instance_answer error p k Agreement (state_of v None) u) _ _ (instance_ok n error p k Agreement i (state_of v None) u g) (λ out t z h.
    rw (h.0, agree_move v out) (record { answer = out; heard = h.1; state = refl; out = refl })))

-- A BROADCAST OR AGREEMENT MESSAGE, with the vote 1 that it may bring: what it took for p, by the kinds asked about
pub record Went (n p : ℕ) (v d : Option ℕ) (ws : List Rec) (o : Option ℕ) (s : ProposalState) (r : List Rec) : Type 0 where
  pub took : (ℕ → Bool) → Option ℕ
  pub first : (is : ℕ → Bool) → NoPart is → (q : ℕ) → first_taken is q ws ≡ or_else (cond (eqb p q) (took is) None) (first_taken is q r)
  pub state : s ≡ state_of (or_else v (took of_value)) (or_else d (took of_decision))
  pub out : o ≡ output_of (or_else v (took of_value)) (or_else d (took of_decision))
  pub bit : Bit (took of_decision)
  -- no vote 0 yet
  pub early : took (within 5 6) ≡ took of_decision
  -- the kinds asked for, all about p: a vote 1 for a value that has come, no vote 0
  pub asks : ℕ → Bool
  pub asking : (kind : ℕ) → is_part kind ≡ false → (q : ℕ) → is_asked kind q ws ≡ ((asks kind && eqb p q) || is_asked kind q r)
  pub six : asks 6 ≡ (is_there (took of_value) && not (is_there d))
  pub seven : asks 7 ≡ false
  pub broadcast : (k : ℕ) → of_value k ≡ true → asks k ≡ true → (v ≡ None) × (d ≢ Some 0)
  pub agreement : asks 5 ≡ true → d ≡ None
  pub named : p < n
  pub good : Good n r

-- of two answers about p
two_asked : (x y z t : Bool) → (x && z) || ((y && z) || t) ≡ ((x || y) && z) || t
two_asked true y true t = refl
two_asked true true false t = refl
two_asked true false false t = refl
two_asked false y z t = refl

there_zero : (d : Option ℕ) → d ≡ None → d ≢ Some 0
there_zero d e f = let z : ◌≡◌ {A = ℕ} 0 1 = cc in omega arith

one_zero : (m : ℕ) (d : Option ℕ) → d ≡ Some (suc m) → d ≢ Some 0
one_zero m d e f = let z : suc m ≡ 0 = cc in omega arith

by_name : (s t : Bool) (o x : Option ℕ) → or_else (cond (s && t) o None) x ≡ or_else (cond t (cond s o None) None) x
by_name true true o x = refl
by_name true false o x = refl
by_name false true o x = refl
by_name false false o x = refl

by_names : (s s' t : Bool) (o o' x : Option ℕ) → or_else (cond (s && t) o None) (or_else (cond (s' && t) o' None) x) ≡ or_else (cond t (or_else (cond s o None) (cond s' o' None)) None) x
unfolding or_else
by_names true s' true None o' x = by_name s' true o' x
by_names true s' true (Some y) o' x = refl
by_names false s' true o o' x = by_name s' true o' x
by_names true s' false o o' x = by_name s' false o' x
by_names false s' false o o' x = by_name s' false o' x

-- a message of the agreement
pub went_agreed : (n p : ℕ) (v : Option ℕ) (ws : List Rec) (o : Option ℕ) (s : ProposalState) (r : List Rec) → Agreed n 5 p v ws o s r → Went n p v None ws o s r
unfolding or_else is_there
went_agreed n p v ws o s r a = record {
  took = λ is. cond (is 5) a.answer None;
  first = λ is np q. a.heard.first is np q ∙ by_name (is 5) (eqb p q) a.answer (first_taken is q r);
  state = rw (or_else_none v) a.state;
  out = rw (or_else_none v) a.out;
  bit = a.heard.bit (omega arith);
  early = refl;
  asks = eqb 5;
  asking = a.heard.asking;
  six = refl;
  seven = refl;
  broadcast = λ k e f. absurd (false≢true (sym (apart of_value 5 k refl e) ∙ f));
  agreement = λ e. refl;
  named = a.heard.named;
  good = a.heard.good;
}

-- the kinds of broadcast answers
pub record Broadcasts (k : ℕ) : Type 0 where
  pub kind : Instance k
  pub value : of_value k ≡ true
  pub decision : of_decision k ≡ false
  pub early : within 5 6 k ≡ false

module _ (n error p k : ℕ) (i : Broadcasts k) where
  not_agreement : (j : ℕ) → of_decision j ≡ true → eqb k j ≡ false
  not_agreement j e = apart of_decision k j i.decision e

  -- nothing came, or the value of a proposal that is accepted
  quiet : (d o : Option ℕ) (ws r : List Rec) → d ≢ Some 0 → Heard n k p ws o r → is_there o && not (is_there d) ≡ false → Went n p None d ws (output_of o d) (state_of o d) r
  unfolding or_else Bit is_there
  quiet d o ws r nz h vote = record {
    took = λ is. cond (is k) o None;
    first = λ is np q. h.first is np q ∙ by_name (is k) (eqb p q) o (first_taken is q r);
    state = rw (i.value, i.decision, or_else_none d);
    out = rw (i.value, i.decision, or_else_none d);
    bit = rw i.decision tt;
    early = rw (i.early, i.decision);
    asks = eqb k;
    asking = h.asking;
    six = rw (not_agreement 6 refl, i.value) (sym vote);
    seven = not_agreement 7 refl;
    broadcast = λ j e f. (refl, nz);
    agreement = λ e. absurd (false≢true (sym (not_agreement 5 refl) ∙ e));
    named = h.named;
    good = h.good;
  }

  -- a value and its vote 1
  voted : (x : ℕ) (ws r z : List Rec) (o : Option ℕ) (s : ProposalState) → Heard n k p ws (Some x) r → Agreed n 6 p (Some x) r o s z → Went n p None None ws o s z
  unfolding or_else is_there
  voted x ws r z o s h a = record {
    took = λ is. or_else (cond (is k) (Some x) None) (cond (is 6) a.answer None);
    first = λ is np q. h.first is np q ∙ ap (or_else (cond (is k && eqb p q) (Some x) None)) (a.heard.first is np q) ∙ by_names (is k) (is 6) (eqb p q) (Some x) a.answer (first_taken is q z);
    state = rw (i.value, i.decision) a.state;
    out = rw (i.value, i.decision) a.out;
    bit = rw i.decision (a.heard.bit (omega arith));
    early = rw (i.early, i.decision);
    asks = λ kind. eqb k kind || eqb 6 kind;
    asking = λ kind np q.
        h.asking kind np q ∙ ap (λ x. (eqb k kind && eqb p q) || x) (a.heard.asking kind np q) ∙ two_asked (eqb k kind) (eqb 6 kind) (eqb p q) (is_asked kind q z);
    six = rw (not_agreement 6 refl, i.value);
    seven = rw (not_agreement 7 refl);
    broadcast = λ j e f. (refl, there_zero None refl);
    agreement = λ e. refl;
    named = h.named;
    good = a.heard.good;
  }

  ongoing_ok : (out : Option ℕ) (ws : List Rec) (z : Tape) → Heard n k p ws out z.rest → Afterwards (after_value error p Ongoing out z) (λ o s y. Went n p None None ws o s y.rest)
  unfolding after_value after_broadcast vote_true asks_agreement is_there
  ongoing_ok None ws z h = quiet None None ws z.rest (there_zero None refl) h refl
  ongoing_ok (Some x) ws z h =
      after_map (answer_agreement error p 6 (HasValue x) z) _ _ (agreement_ok n error p 6 kind6 (Some x) z h.good) (λ o s y a. voted x ws z.rest y.rest o s h a)

  accepted_ok : (d : ℕ) (out : Option ℕ) (ws : List Rec) (z : Tape) → Heard n k p ws out z.rest → Afterwards (after_value error p Accepted out z) (λ o s y. Went n p None (Some (suc d)) ws o s y.rest)
  unfolding after_value after_broadcast vote_true asks_agreement is_there
  accepted_ok d None ws z h = quiet (Some (suc d)) None ws z.rest (one_zero d (Some (suc d)) refl) h refl
  accepted_ok d (Some y) ws z h = quiet (Some (suc d)) (Some y) ws z.rest (one_zero d (Some (suc d)) refl) h refl

  pub broadcast_ok : (v d : Option ℕ) → asks_broadcast (state_of v d) ≡ true → (u : Tape) → Good n u.rest
      → Afterwards (answer_broadcast error p k (state_of v d) u) (λ o s z. Went n p v d u.rest o s z.rest)
  unfolding answer_broadcast asks_broadcast
  broadcast_ok None None e u g =
      after_onward (instance_answer error p k Broadcast Ongoing u) _ _
      (after_map (instance_answer error p k Broadcast Ongoing u) _ _ (instance_ok n error p k Broadcast i.kind Ongoing u g) (λ out t z h.
      rw h.0 (ongoing_ok out u.rest z h.1)))
  broadcast_ok (Some v) None e u g = absurd (false≢true e)
  broadcast_ok None (Some zero) e u g = absurd (false≢true e)
  broadcast_ok (Some v) (Some zero) e u g = absurd (false≢true e)
  broadcast_ok None (Some (suc d)) e u g =
      after_onward (instance_answer error p k Broadcast Accepted u) _ _
      (after_map (instance_answer error p k Broadcast Accepted u) _ _ (instance_ok n error p k Broadcast i.kind Accepted u g) (λ out t z h.
      rw h.0 (accepted_ok d out u.rest z h.1)))
  broadcast_ok (Some v) (Some (suc d)) e u g = absurd (false≢true e)
