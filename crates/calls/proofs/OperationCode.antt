-- THE WAYS of an operation that has passed its checks, each by its test: an observer's propose, a message that runs no epoch, and the run of one
-- epoch with its commit. Assumes nothing.
use Rattle.std.proofs.Common.{ℕ, ◌+◌, ◌≤◌, ◌<◌, ◌≡◌, sym, ◌∙◌, List, [], ◌∷◌, true, false, lt-ltb, le-ltb}
use Rattle.network.specs.Network.{is_validator}
use Rattle.steps.specs.Answers.{Tape}
use Rattle.steps.specs.Steps.{fault}
use Rattle.steps.specs.Runs.{going, ends, before}
use Rattle.epoch.specs.declared.MessageContent.{MessageContent}
use Rattle.state.specs.State.{ahead, current_epoch, net_of, state_ok}
use Rattle.work.specs.declared.honey_badger.Call.TheVariants.{Propose, Message}
use Rattle.work.specs.HoneyBadger.{propose, handle_message}
use Rattle.calls.specs.Calls.{conclude}
use Rattle.work.specs.Work.{propose_work, message_work}
use Rattle.calls.specs.Shape.{settled}
use Rattle.work.specs.Shape.{call_work, call_base}
use Rattle.calls.proofs.Settled.{propose_settled, message_settled}

module _ (state : List ℕ) (ok : state_ok state ≡ true) (p : Tape) (scratch step : List ℕ) where
  pub propose_observer : is_validator (net_of state) ≡ false
      → conclude (ends (going tt) state p) (current_epoch state) state scratch step ≡ conclude (propose state p) (current_epoch state) state scratch step
  propose_observer e = sym (propose_settled state ok p scratch step ∙ rw e)

  pub propose_runs : is_validator (net_of state) ≡ true
      → settled (call_work Propose (current_epoch state) state p) (current_epoch state) (call_base Propose state) state scratch step
      ≡ conclude (propose state p) (current_epoch state) state scratch step
  unfolding propose_work
  propose_runs e = sym (propose_settled state ok p scratch step ∙ rw e)

  module _ (sender epoch proposer : ℕ) (content : MessageContent) where
    pub message_early : current_epoch state + ahead state < epoch
        → conclude (before (fault 1 sender 0 ∷ []) (ends (going tt) state p)) epoch state scratch step
        ≡ conclude (handle_message sender epoch proposer content state p) epoch state scratch step
    message_early l = sym (message_settled state ok p scratch step sender epoch proposer content ∙ rw (lt-ltb _ _ l))

    module _ (near : epoch ≤ current_epoch state + ahead state) where
      pub message_late : epoch < current_epoch state
          → conclude (ends (going tt) state p) epoch state scratch step ≡ conclude (handle_message sender epoch proposer content state p) epoch state scratch step
      message_late l = sym (message_settled state ok p scratch step sender epoch proposer content ∙ rw (le-ltb _ _ near, lt-ltb _ _ l))

      pub message_runs : current_epoch state ≤ epoch
          → settled (call_work (Message sender proposer content) epoch state p) epoch (call_base (Message sender proposer content) state) state scratch step
          ≡ conclude (handle_message sender epoch proposer content state p) epoch state scratch step
      unfolding message_work
      message_runs l = sym (message_settled state ok p scratch step sender epoch proposer content ∙ rw (le-ltb _ _ near, le-ltb _ _ l))
