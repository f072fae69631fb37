-- The interface's number of each refusal and of each end of a call, and the replies that results stand for.
use Rattle.std.specs.Prelude.{ℕ, Result, Ok, Err}
use Rattle.steps.specs.Kinds.{failure_number}
use Rattle.steps.specs.Numbers.{success, numbers_out_of_range, wrong_state_length, not_a_state, scratch_too_short, answers_malformed, epoch_too_high, message_malformed, answer_not_next, answers_unread, step_table_too_short, unknown_sender, target_too_high}
use Rattle.steps.specs.declared.kinds.Failure.{Failure}
use Rattle.calls.specs.declared.refusal.Refusal.{Refusal}
use Rattle.calls.specs.declared.refusal.Refusal.TheVariants.{NumbersOutOfRange, WrongStateLength, NotAState, ScratchTooShort, AnswersMalformed, EpochTooHigh, MessageMalformed, AnswerNotNext, AnswersUnread, StepTableTooShort, UnknownSender, TargetTooHigh}
use Rattle.calls.specs.declared.refusal.End.{End}
use Rattle.calls.specs.declared.refusal.End.TheVariants.{Refused, Failed}

abbrev pub refusal_number : Refusal → ℕ
refusal_number NumbersOutOfRange = numbers_out_of_range
refusal_number WrongStateLength = wrong_state_length
refusal_number NotAState = not_a_state
refusal_number ScratchTooShort = scratch_too_short
refusal_number AnswersMalformed = answers_malformed
refusal_number EpochTooHigh = epoch_too_high
refusal_number MessageMalformed = message_malformed
refusal_number AnswerNotNext = answer_not_next
refusal_number AnswersUnread = answers_unread
refusal_number StepTableTooShort = step_table_too_short
refusal_number UnknownSender = unknown_sender
refusal_number TargetTooHigh = target_too_high

-- 0 where nothing turns the call down
abbrev pub reply_of : {A : Type 0} → Result A Refusal → ℕ
reply_of (Ok passed) = success
reply_of (Err refusal) = refusal_number refusal

-- why a call does not end with success
abbrev pub end_number : End → ℕ
end_number (Refused refusal) = refusal_number refusal
end_number (Failed failure) = failure_number failure

-- the reply of a call that has passed its checks
abbrev pub call_reply : Result (Unit {0}) End → ℕ
call_reply (Ok done) = success
call_reply (Err end) = end_number end

-- what a run that ended with no refusal came to
abbrev pub failure_of : Result (Unit {0}) Failure → ℕ
failure_of (Ok done) = success
failure_of (Err failure) = failure_number failure
