-- What a call that passed its checks comes to, by runs on one epoch's words and a commit: in reply and in every word. Assumes nothing.
use Rattle.std.proofs.Common.{ℕ, ◌+◌, ◌≤◌, ◌≡◌, refl, ap, ◌∙◌, List, [], ◌∷◌, Bool, true, false, cond, arith, set, ltb, le-leb}
use Rattle.std.proofs.lemmas.List.{set-get_or}
use Rattle.steps.specs.Numbers.{fault_limit}
use Rattle.network.specs.Network.{is_validator}
use Rattle.steps.specs.Answers.{Tape}
use Rattle.steps.specs.Steps.{fault, faults}
use Rattle.steps.specs.Runs.{going, Run, ends, before, inside}
use Rattle.epoch.specs.declared.MessageContent.{MessageContent}
use Rattle.state.specs.State.{ahead, current_epoch, fault_count, input_at, faults_at, net_of, state_ok}
use Rattle.work.specs.HoneyBadger.{propose, handle_message}
use Rattle.calls.specs.Calls.{count_faults, conclude}
use Rattle.work.specs.Work.{propose_work, message_work, committed}
use Rattle.calls.specs.Shape.{settled}
use Rattle.work.proofs.RunBesideState.{propose_apart, message_apart}

-- the runs that `propose_after` and `message_call` conclude
module _ (state : List ℕ) (ok : state_ok state ≡ true) (p : Tape) (scratch step : List ℕ) where
  -- an observer's propose asks nothing and changes nothing
  pub propose_settled : conclude (propose state p) (current_epoch state) state scratch step
      ≡ cond (is_validator (net_of state))
      (settled (propose_work state p) (current_epoch state) (set state input_at 1) state scratch step)
      (conclude (ends (going tt) state p) (current_epoch state) state scratch step)
  propose_settled =
      ap (λ r. conclude r (current_epoch state) state scratch step) (propose_apart state ok p) ∙ go (is_validator (net_of state))
    where
      r : Run (List ℕ) (Unit {0})
      r = inside (committed (set state input_at 1) (current_epoch state)) (propose_work state p)

      go : (t : Bool) → conclude (cond t r (ends (going tt) state p)) (current_epoch state) state scratch step
          ≡ cond t (conclude r (current_epoch state) state scratch step) (conclude (ends (going tt) state p) (current_epoch state) state scratch step)
      go true = refl
      go false = refl

  -- beyond the look-ahead and late messages run no epoch
  pub message_settled : (sender epoch proposer : ℕ) (content : MessageContent) → conclude (handle_message sender epoch proposer content state p) epoch state scratch step
      ≡ cond (ltb (current_epoch state + ahead state) epoch)
      (conclude (before (fault 1 sender 0 ∷ []) (ends (going tt) state p)) epoch state scratch step)
      (cond (ltb epoch (current_epoch state))
      (conclude (ends (going tt) state p) epoch state scratch step)
      (settled (message_work sender epoch proposer content state p) epoch state state scratch step))
  message_settled sender epoch proposer content =
      ap (λ r. conclude r epoch state scratch step) (message_apart state ok p sender epoch proposer content)
      ∙ go (ltb (current_epoch state + ahead state) epoch) (ltb epoch (current_epoch state))
    where
      far : Run (List ℕ) (Unit {0})
      far = before (fault 1 sender 0 ∷ []) (ends (going tt) state p)

      r : Run (List ℕ) (Unit {0})
      r = inside (committed state epoch) (message_work sender epoch proposer content state p)

      go : (s t : Bool) → conclude (cond s far (cond t (ends (going tt) state p) r)) epoch state scratch step
          ≡ cond s (conclude far epoch state scratch step) (cond t (conclude (ends (going tt) state p) epoch state scratch step) (conclude r epoch state scratch step))
      go true t = refl
      go false true = refl
      go false false = refl

-- a step without faults leaves a count that is in range
pub count_none : (w : List ℕ) → fault_count w ≤ fault_limit → count_faults w [] ≡ w
unfolding count_faults faults
count_none w few =
    let z : fault_count w + 0 ≡ fault_count w = omega arith in
    rw (z, le-leb (fault_count w) fault_limit few) (set-get_or w faults_at 0)
