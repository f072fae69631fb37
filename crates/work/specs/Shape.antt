-- What the functions of a run and of its commit require, and the runs that they are.
use Rattle.std.specs.Prelude.{ℕ, ◌+◌, ◌<◌, List, Bool, true, false, cond, set, leb}
use Rattle.std.specs.Coded.{×_prop, Unit-prop, le_prop}
use Rattle.steps.specs.Numbers.{fault_limit}
use Rattle.steps.specs.Answers.{Tape}
use Rattle.steps.specs.Runs.{going, Run, ends, onward}
use Rattle.epoch.specs.declared.MessageContent.{MessageContent}
use Rattle.epoch.specs.declared.MessageContent.TheVariants.{Subset, DecryptionShare}
use Rattle.epoch.specs.declared.epoch_state.SubsetInput.TheVariants.{Proposal, Message as ToProposer}
use Rattle.epoch.specs.declared.epoch_state.Input.{Input}
use Rattle.epoch.specs.declared.epoch_state.Input.TheVariants.{Subset as OfSubset, Share as OfShare}
use Rattle.epoch.specs.Epoch.{propose as propose_in_epoch, handle_message_content}
use Rattle.epochwords.specs.Batch.{is_ready, output_batch}
use Rattle.state.specs.State.{fault_count, input_at, faults_at, net_of, strategy_of, encrypted_in}
use Rattle.work.specs.declared.honey_badger.Call.{Call}
use Rattle.work.specs.declared.honey_badger.Call.TheVariants.{Propose, Message}
use Rattle.work.specs.Work.{Worked, work_in}

-- A CALL OF ONE EPOCH, on its words: the own proposal, or a message
abbrev pub body_of : Call → List ℕ → ℕ → List ℕ → Tape → Run (List ℕ) (Unit {0})
body_of Propose w epoch = propose_in_epoch (net_of w) (strategy_of w) (encrypted_in w epoch)
body_of (Message sender proposer content) w epoch = handle_message_content (net_of w) (strategy_of w) (encrypted_in w epoch) sender proposer content

-- what comes to the epoch with a call
abbrev pub content_input : ℕ → ℕ → MessageContent → Input
content_input sender proposer (Subset content) = OfSubset (ToProposer content proposer)
content_input sender proposer (DecryptionShare share) = OfShare sender proposer share

abbrev pub input_of : Call → Input
input_of Propose = OfSubset Proposal
input_of (Message sender proposer content) = content_input sender proposer content

-- sender and proposer of a message are nodes
abbrev pub CallOk : Call → ℕ → Type 0
CallOk Propose n = Unit {0}
CallOk (Message sender proposer content) n = (sender < n) × (proposer < n)

-- which has one proof, so that a type may hold it
pub CallOk-prop : (call : Call) (n : ℕ) → IsProp (CallOk call n)
CallOk-prop Propose n = Unit-prop
CallOk-prop (Message sender proposer content) n = ×_prop le_prop le_prop

-- the run of a call in this epoch, which is that of `propose_work` or `message_work`
abbrev pub call_work : Call → ℕ → List ℕ → Tape → Run Worked (Unit {0})
call_work call epoch w p = work_in w epoch (body_of call w epoch) p

-- the state that its commit writes on: has_input becomes true before anything can fail
abbrev pub call_base : Call → List ℕ → List ℕ
call_base Propose w = set w input_at 1
call_base (Message sender proposer content) w = w

-- ONE BATCH of an epoch, if it is ready: whether it went out
unfoldable pub try_output_batch : ℕ → ℕ → List ℕ → Tape → Run (List ℕ) Bool
try_output_batch n e x p =
    cond (is_ready n x)
    (onward (output_batch n e x p) (λ _ x q. ends (going true) x q))
    (ends (going false) x p)

-- the fault count with k more
unfoldable pub count_more : List ℕ → ℕ → List ℕ
count_more w k = cond (leb (fault_count w + k) fault_limit) (set w faults_at (fault_count w + k)) (set w faults_at fault_limit)
