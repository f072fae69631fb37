-- What a query may take for granted of a state, and the replies that results stand for. Assumes nothing.
use Rattle.std.proofs.Common.{◌≤◌, ◌≡◌, true, List, ℕ, length, Result, Ok, Err, MatchResult}
use Rattle.calls.specs.declared.refusal.Refusal.{Refusal}
use Rattle.calls.specs.declared.refusal.End.{End}
use Rattle.calls.specs.Refusals.{refusal_number, reply_of, end_number, call_reply}
use Rattle.state.specs.State.{header_length, state_ok}
use Rattle.state.proofs.WordsCode.{header_inside}
use Rattle.state.proofs.RangeCode.{ok_words}

-- its header is inside
pub header_of : (w : List ℕ) → state_ok w ≡ true → header_length ≤ length w
header_of w e = header_inside w (ok_words w e)

-- the number that is replied
pub replied : (r : Result (Unit {0}) Refusal) (n : ℕ) → MatchResult r (λ _. n ≡ 0) (λ e. n ≡ refusal_number e) → n ≡ reply_of r
replied (Ok a) n h = h
replied (Err e) n h = h

pub call_replied : (r : Result (Unit {0}) End) (n : ℕ) → MatchResult r (λ _. n ≡ 0) (λ e. n ≡ end_number e) → n ≡ call_reply r
call_replied (Ok a) n h = h
call_replied (Err e) n h = h
