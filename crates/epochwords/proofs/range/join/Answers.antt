-- `join` meets its contract. The invariant: what was joined so far, and the words from here on. Assumes nothing.
use Rattle.std.proofs.Common.{◌∙◌, length}
use Rattle.epochwords.proofs.RangeCode.{join_turn, join_over}
use Rattle.epochwords.proofs.range.join.Goals as goal

pub loop-word-preserved : goal.loop-word-preserved
loop-word-preserved c = λ k. join_turn k c.args.words.now c.loop-word.joined c.loop-word.word-index (length c.args.words.now) c.loop-word-test.true ∙ c.loop-word.invariant k

pub returns : goal.returns
returns c = λ k. join_over k c.args.words.now c.loop-word.joined c.loop-word.word-index (length c.args.words.now) c.loop-word-test.false ∙ c.loop-word.invariant k
