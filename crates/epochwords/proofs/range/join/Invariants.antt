use Rattle.std.proofs.Common.{ℕ, ◌-◌, ◌^◌, ◌≡◌, ◌&&◌, length, ltb}
use Rattle.epochwords.specs.Words.{all_from}
use Rattle.epochwords.proofs.range.join.Given as goal

abbrev pub invariant-loop-word : goal.invariant-loop-word
invariant-loop-word l = (k : ℕ) → ltb l.joined (2 ^ k) && all_from (λ x. ltb x (2 ^ k)) (length l.words - l.word-index) l.word-index l.words ≡ all_from (λ x. ltb x (2 ^ k)) (length l.words) 0 l.words
