-- A run beside the state works on words in range: those of its epoch stay so. Assumes nothing.
use Rattle.std.proofs.Common.{ℕ, ◌≤◌, ◌<◌, ◌≡◌, refl, List, true, arith}
use Rattle.steps.specs.Answers.{Tape}
use Rattle.steps.specs.Runs.{Run}
use Rattle.steps.proofs.Ranges.{AllSmall, Kept, Any, SmallOption, small, keeping}
use Rattle.subset.specs.Words.{count_of}
use Rattle.subset.proofs.Ranges.{EpochOk, SafeEpoch}
use Rattle.epochwords.specs.Words.{most_kept}
use Rattle.epoch.specs.declared.MessageContent.{MessageContent}
use Rattle.epoch.specs.Epoch.{new_epoch, propose as propose_in_epoch, handle_message_content}
use Rattle.epoch.proofs.ListEmptied.{new_epoch_none, propose_keeps, content_keeps}
use Rattle.epoch.proofs.Ranges.{ContentOk, new_epoch_ok, propose_safe, content_safe}
use Rattle.state.specs.State.{nodes, net_of, strategy_of, encrypted_in, epoch_words, state_ok}
use Rattle.work.specs.Work.{epoch_call}
use Rattle.work.proofs.Walk.{call_keeps}
use Rattle.state.proofs.RangesState.{header_ok, words_in_range, lists_in_range}

-- the words x of an epoch of the state w: in range, with no more contributions kept than the strategy allows
abbrev pub WordsOk : List ℕ → List ℕ → Type 0
WordsOk w x = EpochOk (nodes w) x × (count_of x ≤ most_kept (strategy_of w) (nodes w))

-- operations on an epoch's words that keep P, whatever their verdict
abbrev pub SafeIn : (List ℕ → Type 0) → (List ℕ → Tape → Run (List ℕ) (Unit {0})) → Type 0
SafeIn P k = (x : List ℕ) (p : Tape) → P x → AllSmall p.rest → Kept P Any (k x p)

-- what a new epoch has and the epoch's call keeps
pub call_safe : (n : ℕ) (P : List ℕ → Type 0) → P (new_epoch n) → (body : List ℕ → Tape → Run (List ℕ) (Unit {0})) → SafeIn P body → SafeIn P (epoch_call n body)
unfolding SmallOption
call_safe n P new body s x p h o = call_keeps (small n) (keeping n P) n (record { reads = refl; number = tt; new = λ x h u. (new, tt) }) 0 body (λ x q h o u. s x q h o) x p h o tt

module _ (w : List ℕ) (ok : state_ok w ≡ true) where
  in_range : (body : List ℕ → Tape → Run (List ℕ) (Unit {0})) → SafeEpoch (nodes w) body
      → ((x : List ℕ) (q : Tape) → count_of x ≤ most_kept (strategy_of w) (nodes w) → EpochOk (nodes w) (body x q).state → count_of (body x q).state ≤ most_kept (strategy_of w) (nodes w))
      → (e : ℕ) (p : Tape) → AllSmall p.rest → Kept (WordsOk w) Any (epoch_call (nodes w) body (epoch_words w e) p)
  in_range body safe lists e p small =
      call_safe (nodes w) (WordsOk w) (new_epoch_ok (nodes w) (header_ok w ok).some, omega (arith, new_epoch_none (nodes w))) body
      (λ x q h o. let k = safe x q h.0 o in record { state = (k.state, lists x q h.1 k.state); tape = k.tape; value = k.value })
      (epoch_words w e) p (words_in_range w ok e, lists_in_range w ok e) small

  module _ (p : Tape) (small : AllSmall p.rest) where
    pub propose_in_range : (e : ℕ) → Kept (WordsOk w) Any (epoch_call (nodes w) (propose_in_epoch (net_of w) (strategy_of w) (encrypted_in w e)) (epoch_words w e) p)
    unfolding net_of
    propose_in_range e =
        in_range _ (propose_safe (net_of w) (header_ok w ok).some (header_ok w ok).few (strategy_of w) (encrypted_in w e))
        (λ x q. propose_keeps (net_of w) (encrypted_in w e) x q (strategy_of w)) e p small

    pub message_in_range : (e sender proposer : ℕ) (content : MessageContent) → proposer < nodes w → ContentOk content
        → Kept (WordsOk w) Any (epoch_call (nodes w) (handle_message_content (net_of w) (strategy_of w) (encrypted_in w e) sender proposer content) (epoch_words w e) p)
    unfolding net_of
    message_in_range e sender proposer content l u =
        in_range _ (content_safe (net_of w) (header_ok w ok).some (header_ok w ok).few (strategy_of w) (encrypted_in w e) sender proposer content l u)
        (λ x q. content_keeps (net_of w) (encrypted_in w e) x q (strategy_of w) sender proposer content) e p small
