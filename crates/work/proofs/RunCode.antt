-- A run, from what its parts left: building the epoch, its call, the batches. For the proofs of the code. Assumes nothing.
use Rattle.std.proofs.Common.{ℕ, ◌+◌, ◌≡◌, refl, ap, List, true, Result, Ok, Err}
use Rattle.network.specs.declared.network_info.NetworkInfo.{NetworkInfo}
use Rattle.network.specs.Network.{Network}
use Rattle.steps.specs.declared.kinds.Failure.{Failure}
use Rattle.steps.specs.declared.kinds.Stop.{Stop}
use Rattle.steps.specs.declared.kinds.Stop.TheVariants.{NotNext, Failed}
use Rattle.steps.specs.declared.step.Writer.{Writer}
use Rattle.steps.specs.Answers.{Tape}
use Rattle.steps.specs.Steps.{Out}
use Rattle.steps.specs.Kinds.{verdict_of}
use Rattle.steps.specs.Runs.{going, Run, leaves}
use Rattle.steps.specs.Written.{out_of, left, left_reading}
use Rattle.epoch.specs.Epoch.{handle_message_content}
use Rattle.epoch.specs.Outcomes.{input_run, Comes}
use Rattle.epochwords.specs.Shape.{Listed}
use Rattle.epoch.proofs.Ranges.{new_epoch_ok}
use Rattle.epochwords.proofs.LimitsOfWords.{ok_listed}
use Rattle.state.specs.State.{nodes, ahead, current_epoch, net_of, strategy_of, encrypted_in, epoch_words, state_ok}
use Rattle.state.proofs.RangesState.{header_ok, network_ok}
use Rattle.state.proofs.RangeCode.{words_listed}
use Rattle.work.specs.Work.{built, epoch_call, batches_from, beside, worked, work_in}
use Rattle.epoch.specs.declared.MessageContent.TheVariants.{Subset, DecryptionShare}
use Rattle.work.specs.declared.honey_badger.Call.{Call}
use Rattle.work.specs.declared.honey_badger.Call.TheVariants.{Propose, Message}
use Rattle.work.specs.Shape.{CallOk, body_of, input_of}
use Rattle.work.proofs.RunLeaves.{work_goes, work_stops}
use Rattle.work.proofs.RunBesideState.{built_keeps}

-- WHAT THE EPOCH'S CALL REQUIRES, of a state in range
module _ (w : List ℕ) (ok : state_ok w ≡ true) where
  -- the words that building left have a list of contributions as it must be
  pub built_listed : (e : ℕ) (p : Tape) (r : Result (Unit {0}) (Stop Failure)) (x : List ℕ) (q : Tape) → left_reading x r q ≡ built (nodes w) (epoch_words w e) p → Listed (nodes w) x
  built_listed e p r x q left =
      rw (ap (λ s. s.state) left)
      (built_keeps (nodes w) (epoch_words w e) p (Listed (nodes w)) (words_listed w ok e) (ok_listed _ _ (new_epoch_ok (nodes w) (header_ok w ok).some)))

  module _ (net : NetworkInfo) (is : net ≡ net_of w) where
    pub net_network : Network net
    net_network = rw is (network_ok w ok)

    pub net_nodes : net.num_nodes ≡ nodes w
    unfolding net_of
    net_nodes = rw is

-- THE EPOCH'S CALL: what comes to the epoch is what the call runs, and who is named is a node
pub body_input : (call : Call) (w : List ℕ) (epoch : ℕ) (x : List ℕ) (p : Tape) → input_run (net_of w) (strategy_of w) (encrypted_in w epoch) (input_of call) x p ≡ body_of call w epoch x p
unfolding handle_message_content
body_input Propose w epoch x p = refl
body_input (Message sender proposer (Subset content)) w epoch x p = refl
body_input (Message sender proposer (DecryptionShare share)) w epoch x p = refl

pub call_comes : (call : Call) (n : ℕ) → CallOk call n → Comes (input_of call) n
call_comes Propose n h = tt
call_comes (Message sender proposer (Subset content)) n h = h.1
call_comes (Message sender proposer (DecryptionShare share)) n h = h

-- THE RUN, from what its epoch's call left: it ended there, or went on with the batches
stopped : (f : Stop Failure) (a : Unit {0}) → verdict_of {A = Unit {0}} (Err f) ≡ going a → ⊥
stopped NotNext a e = absurd (cc)
stopped (Failed c) a e = absurd (cc)

module _ (w : List ℕ) (e : ℕ) (body : List ℕ → Tape → Run (List ℕ) (Unit {0})) (p : Tape) (o : Out) (x : List ℕ) (q : Tape) (v : Writer) where
  pub run_ends : (f : Stop Failure) → left {A = Unit {0}} x (Err f) q v ≡ leaves o (epoch_call (nodes w) body (epoch_words w e) p)
      → left {A = Unit {0}} (worked x (current_epoch w)) (Err f) q v ≡ leaves o (work_in w e body p)
  run_ends f h = work_stops w e body p o (left x (Err f) q v) h (stopped f)

  pub run_goes : left x (Ok tt) q v ≡ leaves o (epoch_call (nodes w) body (epoch_words w e) p)
      → (n : ℕ) (r : Result (Unit {0}) (Stop Failure)) (z : Tape) (u : Writer) → left n r z u ≡ leaves (out_of v) (batches_from (nodes w) (beside w e x) (ahead w + 1) (current_epoch w) q)
      → left (worked x n) r z u ≡ leaves o (work_in w e body p)
  run_goes h n r z u b = work_goes w e body p o (left x (Ok tt) q v) h refl (left n r z u) b
