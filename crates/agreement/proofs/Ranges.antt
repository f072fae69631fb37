-- Every call keeps the range rule of the state, failed and refused ones too. Assumes nothing.
use Rattle.std.proofs.Common.{ℕ, zero, suc, ◌+◌, ◌/◌, ◌≤◌, ◌<◌, ◌≡◌, refl, List, Bool, true, false, cond, not, arith, length, set, eqb, leb, ltb, eqb-true, leb-true, ltb-true, ltb-false}
use Rattle.std.proofs.lemmas.Bool.{and_parts}
use Rattle.steps.specs.Numbers.{last_epoch, fault_limit}
use Rattle.steps.specs.Table.{handle, within, table_ok}
use Rattle.steps.specs.Answers.{Tape, tape_of}
use Rattle.steps.specs.Steps.{Entry, faults}
use Rattle.steps.specs.Runs.{Verdict, going, refused, failed, Run}
use Rattle.steps.proofs.Ranges.{by_test, AllSmall, table_small, Kept, Any}
use Rattle.epoch.specs.declared.MessageContent.{MessageContent}
use Rattle.steps.specs.declared.reader.Content.TheVariants.{Broadcast, Agreement}
use Rattle.epoch.specs.declared.MessageContent.TheVariants.{Subset, DecryptionShare}
use Rattle.epoch.proofs.Ranges.{ContentOk}
use Rattle.state.specs.State.{nodes, ahead, current_epoch, fault_count, input_at, faults_at, epoch_at, epoch_words, without_epoch, state_ok}
use Rattle.work.specs.HoneyBadger.{propose, handle_message, clear_below, skip_to_epoch}
use Rattle.work.specs.Work.{epoch_call, work_in, propose_work, message_work, committed}
use Rattle.calls.specs.Calls.{After, count_faults, is_end, conclude_as, propose_after, message_call, content_ok, item_ok, content_of, skip_reply, skip_state}
use Rattle.agreement.specs.History.{propose as proposing, message as messaging, skip as skipping, state_after}
use Rattle.agreement.specs.Demand2.{CallsInRange}
use Rattle.calls.proofs.CheckCases.{by_branch, by_propose, by_message}
use Rattle.work.proofs.RunBesideState.{work_words, work_next, by_propose_apart, by_message_apart}
use Rattle.work.proofs.WorkRanges.{WordsOk, propose_in_range as propose_runs, message_in_range as message_runs}
use Rattle.state.proofs.RangesState.{StateOk, input_ok, epoch_ok, faults_ok, with_ok, without_ok, header_ok, enter, leave}

-- WHAT IS WRITTEN to a state that came from w, which has nodes
module _ (w : List ℕ) (some : 0 < nodes w) where
  -- skip
  clear_ok : (b target m epoch : ℕ) (v : List ℕ) → StateOk w b v → StateOk w b (clear_below target m epoch v)
  unfolding clear_below
  clear_ok b target zero epoch v h = h
  clear_ok b target (suc m) epoch v h = clear_ok b target m (epoch + 1) _ (by (ltb epoch target))
    where
      by : (x : Bool) → StateOk w b (cond x (without_epoch v epoch) v)
      by true = without_ok w b some v h epoch
      by false = h

  pub skip_ok : (b target : ℕ) (v : List ℕ) → target ≤ b → StateOk w b v → StateOk w b (skip_to_epoch target v)
  unfolding skip_to_epoch
  skip_ok b target v l h = by (leb target (current_epoch v))
    where
      by : (x : Bool) → StateOk w b (cond x v (set (set (clear_below target (ahead v + 1) (current_epoch v) v) epoch_at target) input_at 0))
      by true = h
      by false =
          input_ok w b some _
          (epoch_ok w b some _ (clear_ok b target (ahead v + 1) (current_epoch v) v h) target l)
          0 (omega arith)

  count_ok : (b : ℕ) (v : List ℕ) (log : List Entry) → StateOk w b v → StateOk w b (count_faults v log)
  unfolding count_faults
  count_ok b v log h = by (leb (fault_count v + length (faults log)) fault_limit) refl
    where
      by : (x : Bool) → leb (fault_count v + length (faults log)) fault_limit ≡ x
          → StateOk w b (cond x (set v faults_at (fault_count v + length (faults log))) (set v faults_at fault_limit))
      by true e = faults_ok w b some v h _ (leb-true _ _ e)
      by false e = faults_ok w b some v h fault_limit (omega arith)

-- THE CALLS
abbrev Ranged : After → Type 0
Ranged r = state_ok r.state ≡ true

module _ (w : List ℕ) (ok : state_ok w ≡ true) where
  abbrev some : 0 < nodes w
  some = (header_ok w ok).some

  -- a state that came from w, whose current epoch is at most the last that the rule allows
  abbrev InRange : List ℕ → Type 0
  InRange v = StateOk w (last_epoch + ahead w + 1) v

  entered : InRange w
  entered = enter w ok (last_epoch + ahead w + 1) (header_ok w ok).epoch

  -- what a run comes to
  conclude_ok : (v : Verdict (Unit {0})) (r : Run (List ℕ) (Unit {0})) (epoch : ℕ) (scratch step : List ℕ) → InRange r.state → state_ok (conclude_as v r epoch w scratch step).state ≡ true
  unfolding conclude_as
  conclude_ok refused r epoch scratch step h = ok
  conclude_ok (going x) r epoch scratch step h =
      by_branch Ranged (not (is_end r.tape.rest)) (λ _. ok)
      (λ _. by_branch Ranged (ltb (length step / 4) (1 + length r.log)) (λ _. ok) (λ _. leave w ok _ (count_ok w some _ r.state r.log h)))
  conclude_ok (failed error) r epoch scratch step h =
      by_branch Ranged (not (is_end r.tape.rest)) (λ _. ok)
      (λ _. by_branch Ranged (ltb (length step / 4) 1) (λ _. ok) (λ _. leave w ok r.state h))

  -- a run and its commit: the epoch's words are in range, and at most F + 1 batches went out
  module _ (early : current_epoch w ≤ last_epoch) where
    commit_ok : (v : List ℕ) → InRange v → (e : ℕ) (body : List ℕ → Tape → Run (List ℕ) (Unit {0})) (p : Tape) → Kept (WordsOk w) Any (epoch_call (nodes w) body (epoch_words w e) p)
        → InRange (committed v e (work_in w e body p).state)
    unfolding committed
    commit_ok v h e body p k =
        let x : WordsOk w (work_in w e body p).state.words = rw (work_words w e body p) k.state in
        skip_ok w some _ _ _ (omega (arith, work_next w e body p)) (with_ok w _ some v h e _ x.0 x.1)

    propose_ok : (p : Tape) → AllSmall p.rest → InRange (propose w p).state
    unfolding propose_work
    propose_ok p small =
        by_propose_apart w ok p (λ r. InRange r.state)
        (commit_ok (set w input_at 1) (input_ok w _ some w entered 1 (omega arith)) (current_epoch w) _ p (propose_runs w ok p small (current_epoch w))) entered

    message_ok : (sender epoch proposer : ℕ) (content : MessageContent) → proposer < nodes w → ContentOk content → (p : Tape) → AllSmall p.rest
        → InRange (handle_message sender epoch proposer content w p).state
    unfolding message_work
    message_ok sender epoch proposer content l u p small =
        by_message_apart w ok p sender epoch proposer content (λ r. InRange r.state)
        (λ _ _. commit_ok w entered epoch _ p (message_runs w ok p small epoch sender proposer content l u)) entered entered

  answers_small : (answers : List ℕ) → table_ok (nodes w) answers ≡ true → AllSmall (tape_of answers).rest
  answers_small answers e = table_small (nodes w) answers (header_ok w ok).few e

  -- g is the reply of a further check, 0 for propose
  pub propose_in_range : (scratch answers step : List ℕ) (g : ℕ) → state_ok (propose_after w scratch answers step g).state ≡ true
  propose_in_range scratch answers step g =
      by_propose Ranged w scratch answers step ok ok (λ _. ok) (λ _. ok) g (λ _ _. ok)
      (λ c. conclude_ok _ (propose w (tape_of answers)) _ _ step (propose_ok c.epoch (tape_of answers) (answers_small answers c.table)))

  content_ok_lem : (content item : ℕ) → item_ok content item ≡ true → ContentOk (content_of content item)
  unfolding item_ok content_of ContentOk
  content_ok_lem content item e = by (eqb content 1) (eqb content 2) e
    where
      by : (x y : Bool) → cond (eqb content 3) (handle item) (eqb item 0) ≡ true → ContentOk (cond x (Subset Broadcast) (cond y (Subset Agreement) (DecryptionShare item)))
      by true y h = tt
      by false true h = tt
      by false false h =
          by_test (eqb content 3) (handle item) (eqb item 0) h
          (λ _ u. omega (arith, leb-true item 0xffff_ffff (and_parts (leb 1 item) _ u).1))
          (λ _ u. omega (arith, eqb-true item 0 u))

  proposer_known : (content proposer : ℕ) → content_ok (nodes w) content proposer ≡ true → proposer < nodes w
  unfolding content_ok
  proposer_known content proposer e = ltb-true _ _ (and_parts (within 1 3 content) _ e).1

  message_in_range : (scratch answers step : List ℕ) (sender epoch content proposer item : ℕ)
      → state_ok (message_call w scratch answers step sender epoch content proposer item).state ≡ true
  message_in_range scratch answers step sender epoch content proposer item =
      by_message Ranged w scratch answers step ok ok (λ _. ok) (λ _. ok) (λ _. ok) (λ _. ok) sender epoch content proposer item
      (λ c d. conclude_ok _ (handle_message sender epoch proposer (content_of content item) w (tape_of answers)) epoch _ step
      (message_ok c.epoch sender epoch proposer _ (proposer_known content proposer d.content_is) (content_ok_lem content item d.item_is) (tape_of answers) (answers_small answers c.table)))

  skip_in_range : (target : ℕ) → state_ok (skip_state target w) ≡ true
  unfolding skip_state skip_reply
  skip_in_range target = by (ltb last_epoch target) refl
    where
      by : (x : Bool) → ltb last_epoch target ≡ x → state_ok (cond (eqb (cond (not (state_ok w)) 3 (cond x 12 0)) 0) (skip_to_epoch target w) w) ≡ true
      by true e = rw ok ok
      by false e =
          rw ok
          (leave w ok _ (skip_ok w some _ target w (omega (arith, ltb-false last_epoch target e)) entered))

-- "no state the engine leaves breaks them"
pub calls_in_range : CallsInRange
unfolding state_after
calls_in_range w (proposing scratch answers step) ok = propose_in_range w ok scratch answers step 0
calls_in_range w (messaging sender epoch content proposer item scratch answers step) ok = message_in_range w ok scratch answers step sender epoch content proposer item
calls_in_range w (skipping target) ok = skip_in_range w ok target
