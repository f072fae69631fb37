-- `proposals_in` meets its contract. The invariant: the bits so far and those from here on make up the word. Assumes nothing.
use Rattle.std.proofs.Common.{ℕ, Bool, List, arith}
use Rattle.subset.specs.Words.{proposal_tag}
use Rattle.subset.specs.Bits.{tag_in, proposals_in}
use Rattle.subset.proofs.WordsCode.{bits_turn, bits_done, bits_small, bit_of}
use Rattle.subset.proofs.words.proposals_in.Goals as goal

-- the bits of the word
abbrev of : ℕ → ℕ → List ℕ → ℕ → Bool
of size tags w i = tag_in tags (proposal_tag size w i)

pub overflow_add-bits : goal.overflow_add-bits
unfolding tag_in
overflow_add-bits c = omega (arith, bits_turn (of c.args.size c.args.tags c.args.epoch.now) c.args.n c.loop-p.p c.loop-p-test.true, bits_small (of c.args.size c.args.tags c.args.epoch.now) c.args.n c.requires.0, bit_of _ c.loop-p.p _ _ c.from.ensures (rw (c.min-tag.ensures, c.field_at.ensures) at c.has_bit.ensures) (omega (arith, c.requires.0)))

pub loop-p-preserved : goal.loop-p-preserved
unfolding tag_in
loop-p-preserved c = omega (arith, bits_turn (of c.args.size c.args.tags c.args.epoch.now) c.args.n c.loop-p.p c.loop-p-test.true, bit_of _ c.loop-p.p _ _ c.from.ensures (rw (c.min-tag.ensures, c.field_at.ensures) at c.has_bit.ensures) (omega (arith, c.requires.0)))

pub returns : goal.returns
unfolding proposals_in
returns c = omega (arith, bits_done (of c.args.size c.args.tags c.args.epoch.now) c.args.n c.loop-p.p (omega arith))
