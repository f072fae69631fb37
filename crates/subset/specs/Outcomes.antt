-- The words of an epoch, and an answer for one proposer by its content.
use Rattle.std.specs.Prelude.{ℕ, ◌≤◌, ◌≡◌, List, length}
use Rattle.network.specs.declared.network_info.NetworkInfo.{NetworkInfo}
use Rattle.steps.specs.Numbers.{broadcast_message, agreement_message}
use Rattle.steps.specs.Answers.{Tape}
use Rattle.steps.specs.declared.kinds.AnswerKind.{AnswerKind}
use Rattle.steps.specs.declared.kinds.AnswerKind.TheVariants as kinds
use Rattle.steps.specs.declared.reader.Content.{Content}
use Rattle.steps.specs.declared.reader.Content.TheVariants.{Broadcast, Agreement}
use Rattle.steps.specs.Runs.{Run}
use Rattle.subset.specs.Words.{epoch_length}
use Rattle.subset.specs.Subset.{broadcast_at, agreement_at}

-- the words of an epoch of n proposers
pub record EpochWords (n : ℕ) (w : List ℕ) : Type 0 where
  pub few : n ≤ 16
  pub long : length w ≡ epoch_length n

-- an answer of this kind for one proposer, of its broadcast or its agreement
abbrev pub answer_at : NetworkInfo → ℕ → Content → ℕ → ℕ → List ℕ → Tape → Run (List ℕ) (Unit {0})
answer_at net error Broadcast kind p w tape = broadcast_at net error kind p w tape
answer_at net error Agreement kind p w tape = agreement_at net error kind p w tape

-- whose answers are of this kind
abbrev pub content_of : AnswerKind → Content
content_of kinds.BroadcastProposal = Broadcast
content_of kinds.BroadcastMessage = Broadcast
content_of _ = Agreement

-- a message is asked about by its content
abbrev pub message_kind : Content → ℕ
message_kind Broadcast = broadcast_message
message_kind Agreement = agreement_message
