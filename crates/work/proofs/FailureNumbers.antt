-- The numbers with which a run can fail: of an epoch's call, of a run beside the state, of the engine. Assumes nothing.
use Rattle.std.proofs.Common.{ℕ, ◌≡◌, List, Bool, true}
use Rattle.network.specs.declared.network_info.NetworkInfo.{NetworkInfo}
use Rattle.steps.specs.Answers.{Tape}
use Rattle.steps.specs.Runs.{Run}
use Rattle.epochwords.specs.declared.SubsetHandlingStrategy.{SubsetHandlingStrategy}
use Rattle.epoch.specs.declared.MessageContent.{MessageContent}
use Rattle.epoch.specs.Epoch.{propose as propose_epoch, handle_message_content}
pub use Rattle.steps.proofs.FailureNumbers.{Meant, Only}
use Rattle.steps.proofs.FailureNumbers.{numbers_permit, failing_stateless}
use Rattle.epoch.proofs.Walk.{any_rules, propose_keeps, content_keeps}
use Rattle.state.specs.State.{state_ok}
use Rattle.work.specs.HoneyBadger.{propose, handle_message}
use Rattle.work.specs.Work.{work_in, propose_work, message_work}
use Rattle.work.proofs.Walk.{any_works, work_keeps}
use Rattle.work.proofs.RunBesideState.{by_propose_apart, by_message_apart}

module _ (ok : ℕ → Bool) (ok_24 : ok 24 ≡ true) (ok_25 : ok 25 ≡ true) where
  -- AN EPOCH fails with 24 and 25 of threshold decryption, with the number that the subset's caller gives, and with 21 where the proposal is serialised
  module _ (net : NetworkInfo) (strategy : SubsetHandlingStrategy) (encrypted : Bool) where
    pub only_propose_epoch : ok 21 ≡ true → ok 22 ≡ true → (w : List ℕ) (t : Tape) → Only ok (propose_epoch net strategy encrypted w t)
    only_propose_epoch ok_21 ok_22 w t = propose_keeps _ _ _ net _ (any_rules (failing_stateless ok) (numbers_permit ok) ok_24 ok_25 _) strategy encrypted tt ok_21 ok_22 w t

    pub only_content : ok 23 ≡ true → (sender p : ℕ) (c : MessageContent) (w : List ℕ) (t : Tape) → Only ok (handle_message_content net strategy encrypted sender p c w t)
    only_content ok_23 sender p c w t =
        content_keeps _ _ _ net _ (any_rules (failing_stateless ok) (numbers_permit ok) ok_24 ok_25 _) strategy encrypted ok_23 sender p c tt (λ share e. tt) w t

  -- A RUN fails as the epoch's call does, and with 20 where the epoch is built; batches do not fail
  module _ (ok_20 : ok 20 ≡ true) where
    only_work : (w : List ℕ) (e : ℕ) (body : List ℕ → Tape → Run (List ℕ) (Unit {0})) → ((x : List ℕ) (q : Tape) → Only ok (body x q)) → (p : Tape) → Only ok (work_in w e body p)
    only_work w e body f p =
        work_keeps _ _ _ _ w e (any_works (failing_stateless ok) tt ok_20 (record { reads = tt; faults = λ p. tt; outputs = λ k a b e. tt }) w e) 0 body f p

    -- THE ENGINE, with a state in range
    pub only_propose : ok 21 ≡ true → ok 22 ≡ true → (w : List ℕ) → state_ok w ≡ true → (p : Tape) → Only ok (propose w p)
    unfolding propose_work
    only_propose ok_21 ok_22 w good p =
        by_propose_apart w good p (Only ok) (record { fails = (only_work w _ _ (only_propose_epoch _ _ _ ok_21 ok_22) p).fails }) (record { fails = tt })

    pub only_message : ok 23 ≡ true → (sender epoch proposer : ℕ) (c : MessageContent) (w : List ℕ) → state_ok w ≡ true → (p : Tape) → Only ok (handle_message sender epoch proposer c w p)
    unfolding message_work
    only_message ok_23 sender epoch proposer c w good p =
        by_message_apart w good p sender epoch proposer c (Only ok) (λ _ _. record { fails = (only_work w _ _ (only_content _ _ _ ok_23 sender proposer c) p).fails })
        (record { fails = tt }) (record { fails = tt })
