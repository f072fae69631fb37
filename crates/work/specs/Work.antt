-- A call as the code does it: the run reads the state and works on the words of one epoch apart from it, and a commit writes afterwards.
-- Nobody has to believe these: proofs/RunBesideState.antt proves that they are the runs of HoneyBadger.antt, and calls/proofs/Settled.antt that calls come to the same.
use Rattle.std.specs.Prelude.{ℕ, zero, suc, ◌+◌, List, true, false, cond, eqb}
use Rattle.steps.specs.Numbers.{instances_built, create_subset}
use Rattle.steps.specs.Answers.{Tape, ask}
use Rattle.steps.specs.Runs.{going, failed, Run, ends, onward, heard, inside}
use Rattle.epoch.specs.declared.MessageContent.{MessageContent}
use Rattle.epochwords.specs.Words.{is_vacant}
use Rattle.epoch.specs.Epoch.{new_epoch, propose as propose_in_epoch, handle_message_content}
use Rattle.epochwords.specs.Batch.{is_ready, output_batch}
use Rattle.state.specs.State.{nodes, ahead, current_epoch, net_of, strategy_of, encrypted_in, epoch_words, with_epoch}
use Rattle.work.specs.HoneyBadger.{skip_to_epoch}

-- ONE EPOCH: its instances are built where there are none (20 `CreateSubset`), then its own call runs
unfoldable pub built : ℕ → List ℕ → Tape → Run (List ℕ) (Unit {0})
built n x p =
    cond (is_vacant x)
    (heard (ask p instances_built) x (λ a b q.
    cond (eqb a 0) (ends (failed create_subset) x q) (ends (going tt) (new_epoch n) q)))
    (ends (going tt) x p)

unfoldable pub epoch_call : ℕ → (List ℕ → Tape → Run (List ℕ) (Unit {0})) → List ℕ → Tape → Run (List ℕ) (Unit {0})
epoch_call n body x p = onward (built n x p) (λ _ x q. body x q)

-- BATCHES go out from epoch e on, as long as it is ready, at most m; `words` gives an epoch's words by its number. No word is written: the
-- run's state is the epoch that is next
unfoldable pub batches_from : ℕ → (ℕ → List ℕ) → ℕ → ℕ → Tape → Run ℕ (Unit {0})
batches_from n words zero e p = ends (going tt) e p
batches_from n words (suc m) e p =
    elim (is_ready n (words e)) [
      | true ↦ onward (inside (λ _. e) (output_batch n e (words e) p)) (λ _ e q. batches_from n words m (e + 1) q)
      | false ↦ ends (going tt) e p
    ]

-- THE RUN of a call: the words of its epoch, and the epoch that is current afterwards
pub record Worked : Type 0 where
  pub words : List ℕ
  pub next : ℕ

abbrev pub worked : List ℕ → ℕ → Worked
worked words next = record { words = words; next = next }

-- x are the words of epoch e, those of the others stand in the state
unfoldable pub beside : List ℕ → ℕ → List ℕ → ℕ → List ℕ
beside w e x d = cond (eqb d e) x (epoch_words w d)

unfoldable pub work_in : List ℕ → ℕ → (List ℕ → Tape → Run (List ℕ) (Unit {0})) → Tape → Run Worked (Unit {0})
work_in w e body p =
    onward (inside (λ x. worked x (current_epoch w)) (epoch_call (nodes w) body (epoch_words w e) p)) (λ _ s q.
    inside (worked s.words) (batches_from (nodes w) (beside w e s.words) (ahead w + 1) s.next q))

unfoldable pub propose_work : List ℕ → Tape → Run Worked (Unit {0})
propose_work w p = work_in w (current_epoch w) (propose_in_epoch (net_of w) (strategy_of w) (encrypted_in w (current_epoch w))) p

unfoldable pub message_work : ℕ → ℕ → ℕ → MessageContent → List ℕ → Tape → Run Worked (Unit {0})
message_work sender epoch proposer content w p =
    work_in w epoch (handle_message_content (net_of w) (strategy_of w) (encrypted_in w epoch) sender proposer content) p

-- THE COMMIT: the epoch's words to their place, then skip to the epoch that is next
unfoldable pub committed : List ℕ → ℕ → Worked → List ℕ
committed w e s = skip_to_epoch s.next (with_epoch w e s.words)
