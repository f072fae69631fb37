-- `state_ok` meets its contract, test by test. Assumes nothing.
use Rattle.std.proofs.Common.{sym, ◌∙◌, arith}
use Rattle.state.proofs.RangeCode.{header_on_sheet, header_words, ok_short, ok_header, ok_length, ok_epochs}
use Rattle.state.proofs.range.state_ok.Goals as goal

pub returns-then-state-lt-HEADER_LENGTH : goal.returns-then-state-lt-HEADER_LENGTH
returns-then-state-lt-HEADER_LENGTH c = ok_short c.args.state.now c.if-state-lt-HEADER_LENGTH.true

pub returns-then-not-header_in_range : goal.returns-then-not-header_in_range
returns-then-not-header_in_range c = ok_header c.args.state.now (sym c.header_in_range.ensures ∙ c.if-not-header_in_range.true)

pub state_length-requires : goal.state_length-requires
state_length-requires c = header_on_sheet c.args.state.now (sym c.header_in_range.ensures ∙ c.if-not-header_in_range.false)

pub returns-then-state-state_length : goal.returns-then-state-state_length
returns-then-state-state_length c = ok_length c.args.state.now (λ e. omega (arith, e, c.if-state-state_length.true, c.state_length.ensures))

pub epochs_in_range-requires : goal.epochs_in_range-requires
epochs_in_range-requires c = header_words c.args.state.now (sym c.header_in_range.ensures ∙ c.if-not-header_in_range.false) (omega (arith, c.if-state-state_length.false, c.state_length.ensures))

pub returns : goal.returns
returns c = c.epochs_in_range.ensures ∙ ok_epochs c.args.state.now (sym c.header_in_range.ensures ∙ c.if-not-header_in_range.false) (omega (arith, c.if-state-state_length.false, c.state_length.ensures))
