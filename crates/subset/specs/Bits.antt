-- The proposals whose tag is in a given set, as a word of bits, which the language's count of ones counts.
use Rattle.std.specs.Prelude.{ℕ, ◌+◌, ◌^◌, min, List, Bool}
use Rattle.steps.specs.Bits.{has_bit, bits_from}
use Rattle.subset.specs.Words.{proposal_tag, tag_ongoing, tag_has_value, tag_accepted, tag_complete_true}

-- a set of tags is a word of bits too. A tag above the last reads as the last
unfoldable pub tag_in : ℕ → ℕ → Bool
tag_in set tag = has_bit set (min tag tag_complete_true)

-- the agreement has decided 1
abbrev pub accepted_tags : ℕ
accepted_tags = 2 ^ tag_accepted + 2 ^ tag_complete_true

-- the value is here, or was output
abbrev pub received_tags : ℕ
received_tags = 2 ^ tag_has_value + 2 ^ tag_complete_true

-- the agreement has not decided
abbrev pub undecided_tags : ℕ
undecided_tags = 2 ^ tag_ongoing + 2 ^ tag_has_value

-- neither rejected nor output
abbrev pub incomplete_tags : ℕ
incomplete_tags = 2 ^ tag_ongoing + 2 ^ tag_has_value + 2 ^ tag_accepted

-- of n proposals, in records of `size` words, those whose tag is in the set
unfoldable pub proposals_in : ℕ → ℕ → ℕ → List ℕ → ℕ
proposals_in size set n w = bits_from (λ p. tag_in set (proposal_tag size w p)) n 0
