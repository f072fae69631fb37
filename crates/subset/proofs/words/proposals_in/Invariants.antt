use Rattle.std.proofs.Common.{ℕ, ◌+◌, ◌-◌, ◌≡◌}
use Rattle.steps.specs.Bits.{bits_from}
use Rattle.subset.specs.Words.{proposal_tag}
use Rattle.subset.specs.Bits.{tag_in}
use Rattle.subset.proofs.words.proposals_in.Given as goal

abbrev pub invariant-loop-p : goal.invariant-loop-p
invariant-loop-p l = l.bits + bits_from (λ (i : ℕ). tag_in l.tags (proposal_tag l.size l.epoch i)) (l.n - l.p) l.p ≡ bits_from (λ (i : ℕ). tag_in l.tags (proposal_tag l.size l.epoch i)) l.n 0
