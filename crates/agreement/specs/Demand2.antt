-- THE PAPER'S RULE (Miller et al., CCS 2016) over one run of the engine without a failing call: `EngineRule`,
-- proved as `engine_rule` in proofs/Demand2.antt. And the range rule over every call.
use Rattle.std.specs.Prelude.{ℕ, ◌+◌, ◌≤◌, ◌<◌, ◌≡◌, ◌≢◌, Bool, true, false, cond, ◌&&◌, not, eqb}
use mathlib.Core.List.{List, [], ◌∷◌, ◌++◌, Memᴰ}
use Rattle.std.specs.Prelude.{Option, None, Some}
use Rattle.steps.specs.Numbers.{agreement_message, propose_true, propose_false, ciphertext_reads}
use Rattle.network.specs.declared.network_info.NetworkInfo.{NetworkInfo}
use Rattle.network.specs.Network.{is_validator, num_correct}
use Rattle.steps.specs.Table.{within}
use Rattle.steps.specs.Taken.{or_else, is_there, is_true, first_taken, of_value, is_asked, ones_from}
use Rattle.subset.specs.Rule.{is_over}
use Rattle.epochwords.specs.declared.SubsetHandlingStrategy.{SubsetHandlingStrategy}
use Rattle.epochwords.specs.Words.{is_complete, is_accepted, load_decryption}
use Rattle.state.specs.State.{ahead, current_epoch, net_of, strategy_of, epoch_words, state_ok}
use Rattle.engine.specs.Create.{Numbers, create_reply, create_state}
use Rattle.agreement.specs.History.{Call, state_after, Event, value_taken, decision_taken, plaintext, Handed, handed}
use Rattle.agreement.specs.Demand3.{Made, Sound, history_of, encrypted_of}
use Rattle.agreement.specs.Outputs.{pairs_in, pairs_read, pairs_given, plaintext_of, times_asked_in, is_handled}

-- the state that a list of calls leaves
unfoldable pub state_after_all : List ℕ → List Call → List ℕ
state_after_all w [] = w
state_after_all w (c ∷ cs) = state_after_all (state_after w c) cs

abbrev pub end_of : Made → List ℕ
end_of m = state_after_all (create_state m.numbers m.words) m.calls

abbrev pub net_in : Made → NetworkInfo
net_in m = net_of (create_state m.numbers m.words)

abbrev pub strategy_in : Made → SubsetHandlingStrategy
strategy_in m = strategy_of (create_state m.numbers m.words)

-- the decision for p in x's epoch, as far as the answers 5 and 6 of x bring it: before the round of votes 0
abbrev pub decided_before7 : List Event → Event → ℕ → Option ℕ
decided_before7 h x p = or_else (decision_taken h x.epoch p) (first_taken (within agreement_message propose_true) p x.answers)

-- the call of x comes to the subset of its epoch: a propose of a validator, or a message that is no share, for an epoch from the current
-- one up to look-ahead more ("Epoch 5, F 3: 8 handled, 9 fault 1, 4 empty step.")
unfoldable pub speaks : NetworkInfo → ℕ → Event → Bool
speaks net ahead x =
    cond x.is_message
    (not (is_there x.share_of) && within x.current (x.current + ahead) x.epoch)
    (is_validator net)

-- the votes in one call x, after the calls h
pub record Votes (net : NetworkInfo) (ahead : ℕ) (h : List Event) (x : Event) : Type 0 where
  -- "a delivered value earns a vote 1 while its agreement is undecided": then, and only then, vote 1 is asked for
  pub one : (p : ℕ)
      → is_asked propose_true p x.answers ≡ (is_there (first_taken of_value p x.answers) && not (is_there (decision_taken h x.epoch p)))
  -- "N−f ones bring vote 0 to undecided agreements without a vote", in the Rust also to those with one, "again on each such call. Above: no
  -- vote.": in every call that comes to a subset with exactly N−f ones, and in no other
  pub zero : (p : ℕ) → p < net.num_nodes
      → is_asked propose_false p x.answers
      ≡ (speaks net ahead x && (eqb (ones_from (decided_before7 h x) net.num_nodes 0) (num_correct net) && not (is_there (decided_before7 h x p))))
  -- "No outside call is made in HasValue for broadcast, in Accepted for agreement, in Complete at all."
  pub broadcasts : (k p : ℕ) → of_value k ≡ true → is_asked k p x.answers ≡ true
      → (value_taken h x.epoch p ≡ None) × (decision_taken h x.epoch p ≢ Some 0)
  pub agrees : (p : ℕ) → is_asked agreement_message p x.answers ≡ true → decision_taken h x.epoch p ≡ None

pub record PaperRule (m : Made) : Type 0 where
  pub votes : (h : List Event) (x : Event) (l : List Event) → history_of m ≡ h ++ (x ∷ l) → Votes (net_in m) m.numbers.ahead h x
  -- "when all have decided, at least N−f of them 1, and every value decided 1 is here": for every epoch that is in the state
  pub complete : (e : ℕ) → current_epoch (end_of m) ≤ e → e ≤ current_epoch (end_of m) + ahead (end_of m)
      → is_complete (epoch_words (end_of m) e) ≡ is_over (net_in m) (value_taken (history_of m) e) (decision_taken (history_of m) e)
  -- "the output is those pairs": the accepted proposers are those decided 1
  pub accepted : (e p : ℕ) → current_epoch (end_of m) ≤ e → e ≤ current_epoch (end_of m) + ahead (end_of m)
      → is_complete (epoch_words (end_of m) e) ≡ true → p < (net_in m).num_nodes
      → is_accepted (epoch_words (end_of m) e) p ≡ is_true (decision_taken (history_of m) e p)
  -- "those pairs", with their values: a proposer decided 1 is decrypted with the plaintext that the history gives, which in a plain epoch "is
  -- the value itself", and where there is none it is not decrypted; no other proposer is
  pub decrypted : (e p : ℕ) → current_epoch (end_of m) ≤ e → e ≤ current_epoch (end_of m) + ahead (end_of m)
      → is_complete (epoch_words (end_of m) e) ≡ true → p < (net_in m).num_nodes
      → plaintext_of (load_decryption (net_in m).num_nodes (epoch_words (end_of m) e) p)
      ≡ cond (is_true (decision_taken (history_of m) e p)) (plaintext (encrypted_of m) (history_of m) e p) None
  -- and for every epoch that was handed out
  pub handed_out : (x : Handed) → Memᴰ x (handed m.numbers.nodes (encrypted_of m) (history_of m))
      → is_over (net_in m) (value_taken (history_of m) x.batch.epoch) (decision_taken (history_of m) x.batch.epoch) ≡ true
  -- "the output is those pairs": a batch has an entry for each of its 13s that reads, in their order, the proposer and the plaintext that the
  -- history gives. Its 13s name the proposers decided 1 (`Exact` in Demand3.antt)
  pub entries : (x : Handed) → Memᴰ x (handed m.numbers.nodes (encrypted_of m) (history_of m))
      → pairs_in x.batch.entries ≡ pairs_given (encrypted_of m) (history_of m) x
  -- "The plaintext is the value itself where the epoch is not encrypted": in a plain epoch the entries are proposers and values taken
  pub plain_entries : (x : Handed) → Memᴰ x (handed m.numbers.nodes (encrypted_of m) (history_of m))
      → encrypted_of m x.batch.epoch ≡ false
      → pairs_in x.batch.entries ≡ pairs_read (value_taken (history_of m) x.batch.epoch) x.thirteens
  -- "8 ciphertext reads": in an encrypted epoch each pair of the output is read once. In every epoch, whatever became of it, all calls together
  -- have asked kind 8 once about each proposer whose contribution has been handled and about no other, and never where the epoch is plain
  -- (a name at or above N is a malformed table, reply 5)
  pub eights : (e p : ℕ) → p < (net_in m).num_nodes
      → times_asked_in ciphertext_reads (history_of m) e p
      ≡ cond (encrypted_of m e && is_handled (net_in m) (strategy_in m) (value_taken (history_of m) e) (decision_taken (history_of m) e) p) 1 0
  -- in an epoch that is over, so in each one that is complete (`complete`) or was handed out (`handed_out`): about each proposer decided 1
  pub eights_over : (e p : ℕ) → p < (net_in m).num_nodes
      → is_over (net_in m) (value_taken (history_of m) e) (decision_taken (history_of m) e) ≡ true
      → times_asked_in ciphertext_reads (history_of m) e p ≡ cond (encrypted_of m e && is_true (decision_taken (history_of m) e p)) 1 0

abbrev pub EngineRule : Type 0
EngineRule = (m : Made) → Sound m → PaperRule m

-- "no state the engine leaves breaks them": the range rule after create and after every call, failed ones too. Proved: `create_ok` in
-- proofs/Created.antt, `calls_in_range` in proofs/Ranges.antt
abbrev pub CreateInRange : Type 0
CreateInRange = (c : Numbers) (w : List ℕ) → create_reply c w ≡ 0 → state_ok (create_state c w) ≡ true

abbrev pub CallsInRange : Type 0
CallsInRange = (w : List ℕ) (c : Call) → state_ok w ≡ true → state_ok (state_after w c) ≡ true
