-- A WORD OF BITS has the bits that it was made of, and the language's count of ones counts them; so for the proposals whose tag is in a set. Assumes nothing.
use Rattle.std.proofs.Common.{ℕ, zero, suc, ◌+◌, ◌*◌, ◌/◌, ◌%◌, ◌^◌, ◌≤◌, ◌<◌, min, ◌≡◌, refl, sym, ap, ap₂, ◌∙◌, ◌⊎◌, inl, inr, List, Bool, true, false, cond, ◌&&◌, not, arith, eq-or-lt_of_le, div-one, eqb, pow_pos, shr-shr, shr_lt, eq-eqb, ne_eqb}
use Rattle.std.proofs.Math.Nat.{two-pow-succ}
use Rattle.std.proofs.Math.Pow.{high}
use Rattle.std.proofs.lemmas.Nat.{ones_cat}
use lib.Count.{ones, ones_step}
use Rattle.steps.specs.Bits.{has_bit, count_bits, bits_from}
use Rattle.proposal.specs.declared.ProposalState.{ProposalState}
use Rattle.proposal.specs.declared.ProposalState.TheVariants.{Ongoing, HasValue, Accepted, Complete}
use Rattle.subset.specs.Words.{record_length, tag_ongoing, tag_has_value, tag_accepted, tag_complete_false, tag_complete_true, proposal_of, proposal_tag, proposal_in}
use Rattle.proposal.specs.Proposal.{received, accepted, complete, asks_agreement}
use Rattle.subset.specs.Subset.{count_from, complete_from, received_proposals, count_accepted, all_complete}
use Rattle.subset.specs.Bits.{tag_in, accepted_tags, received_tags, undecided_tags, incomplete_tags, proposals_in}
use Rattle.subset.proofs.Counts.{count_if}

-- THE COUNT OF ONES. A digit is 0 or 1
digit : (y : ℕ) → y < 2 → cond (eqb y 1) 1 0 ≡ y
digit zero h = refl
digit (suc zero) h = refl
digit (suc (suc y)) h = absurd (omega arith)

ones_none : ones 0 ≡ 0
unfolding ones
ones_none = refl

ones_one : ones 1 ≡ 1
unfolding ones
ones_one = refl

ones_digits : (m i x : ℕ) → x < 2 ^ (m + i) → ones (x / 2 ^ i) ≡ count_bits m i x
unfolding count_bits has_bit
ones_digits zero i x h =
    let z : x / 2 ^ i < 1 = shr_lt 0 i h in
    let e : x / 2 ^ i ≡ 0 = omega arith in
    rw e ones_none
ones_digits (suc m) i x h =
    let e : suc m + i ≡ m + (i + 1) = omega arith in
    let b : x / 2 ^ i % 2 < 2 = omega arith in
    ones_step (x / 2 ^ i)
    ∙ ap₂ (λ (y z : ℕ). y + z) (sym (digit (x / 2 ^ i % 2) b)) (ap ones (shr-shr x i 1) ∙ ones_digits m (i + 1) x (rw e at h))

-- the language's count of ones, where no bit above the n-th is set
pub ones_bits : (n x : ℕ) → x < 2 ^ n → ones x ≡ count_bits n 0 x
ones_bits n x h =
    let e : n ≡ n + 0 = omega arith in
    sym (ap ones (div-one x)) ∙ ones_digits n 0 x (rw e at h)

-- A WORD MADE OF BITS, above a word r of the bits before them
module _ (is : ℕ → Bool) where
  abbrev at : ℕ → ℕ
  at i = cond (is i) (2 ^ i) 0

  with_digit : (r i : ℕ) → r < 2 ^ i → r + at i < 2 ^ (i + 1)
  with_digit r i h = go (is i)
    where
      e : i + 1 ≡ suc i
      e = omega arith

      go : (x : Bool) → r + cond x (2 ^ i) 0 < 2 ^ (i + 1)
      go true = rw (e, two-pow-succ) (omega arith)
      go false = rw (e, two-pow-succ) (omega arith)

  bits_above : (m i r : ℕ) → r < 2 ^ i → r + bits_from is m i < 2 ^ (i + m)
  unfolding bits_from
  bits_above zero i r h = let e : i + 0 ≡ i = omega arith in rw e (omega arith)
  bits_above (suc m) i r h =
      let e : i + suc m ≡ (i + 1) + m = omega arith in
      rw e (omega (arith, bits_above m (i + 1) (r + at i) (with_digit r i h)))

  -- the n bits from the first on make a word below 2^n
  pub bits_below : (n : ℕ) → bits_from is n 0 < 2 ^ n
  bits_below n = let e : 0 + n ≡ n = omega arith in let h : 0 + bits_from is n 0 < 2 ^ n = rw e at (bits_above n 0 0 (omega arith)) in omega arith

  ones_above : (m i r : ℕ) → r < 2 ^ i → ones (r + bits_from is m i) ≡ ones r + count_if is m i
  unfolding bits_from count_if
  ones_above zero i r h = let e : r + 0 ≡ r = omega arith in ap ones e ∙ omega arith
  ones_above (suc m) i r h =
      let e : r + (at i + bits_from is m (i + 1)) ≡ (r + at i) + bits_from is m (i + 1) = omega arith in
      ap ones e ∙ ones_above m (i + 1) (r + at i) (with_digit r i h) ∙ omega (arith, one (is i))
    where
      one : (x : Bool) → ones (r + cond x (2 ^ i) 0) ≡ ones r + cond x 1 0
      one true = let e : r + 2 ^ i ≡ 1 * 2 ^ i + r = omega arith in ap ones e ∙ ones_cat i 1 r h ∙ omega (arith, ones_one)
      one false = let e : r + 0 ≡ r = omega arith in ap ones e ∙ omega arith

  -- THE LANGUAGE'S COUNT OF ONES is how many are so
  pub bits_ones : (n : ℕ) → ones (bits_from is n 0) ≡ count_if is n 0
  bits_ones n =
      let e : bits_from is n 0 ≡ 0 + bits_from is n 0 = omega arith in
      ap ones e ∙ ones_above n 0 0 (omega arith) ∙ omega (arith, ones_none)

  -- it has exactly these bits
  highs : ℕ → ℕ → ℕ
  highs zero i = 0
  highs (suc m) i = cond (is i) 1 0 + 2 * highs m (i + 1)

  bits_high : (m i : ℕ) → bits_from is m i ≡ highs m i * 2 ^ i
  unfolding bits_from highs
  bits_high zero i = omega arith
  bits_high (suc m) i =
      let e : i + 1 ≡ suc i = omega arith in
      let h : bits_from is m (i + 1) ≡ highs m (i + 1) * (2 ^ i + 2 ^ i) = bits_high m (i + 1) ∙ ap (λ (k : ℕ). highs m (i + 1) * 2 ^ k) e ∙ ap (λ (k : ℕ). highs m (i + 1) * k) (two-pow-succ i) in
      go (is i) h
    where
      go : (x : Bool) → bits_from is m (i + 1) ≡ highs m (i + 1) * (2 ^ i + 2 ^ i) → cond x (2 ^ i) 0 + bits_from is m (i + 1) ≡ (cond x 1 0 + 2 * highs m (i + 1)) * 2 ^ i
      go true h = omega arith
      go false h = omega arith

  has_above : (m i r j : ℕ) → r < 2 ^ i → i ≤ j → j < i + m → has_bit (r + bits_from is m i) j ≡ is j
  unfolding bits_from has_bit highs
  has_above zero i r j h l u = absurd (omega arith)
  has_above (suc m) i r j h l u = go (eq-or-lt_of_le l) (λ v. has_above m (i + 1) (r + at i) j (with_digit r i h) (omega arith) (omega arith))
    where
      first : (x : Bool) (k : ℕ) → eqb ((cond x 1 0 + 2 * k) % 2) 1 ≡ x
      first true k = eq-eqb ((1 + 2 * k) % 2) 1 (omega arith)
      first false k = ne_eqb ((0 + 2 * k) % 2) 1 (λ e. omega arith)

      go : (i ≡ j) ⊎ (i < j) → (i < j → has_bit ((r + at i) + bits_from is m (i + 1)) j ≡ is j) → has_bit (r + bits_from is (suc m) i) j ≡ is j
      go (inl e) f =
          let z : r + bits_from is (suc m) i ≡ highs (suc m) i * 2 ^ i + r = omega (arith, bits_high (suc m) i) in
          rw (← e) (ap (λ (y : ℕ). eqb (y / 2 ^ i % 2) 1) z ∙ ap (λ (y : ℕ). eqb (y % 2) 1) (high (highs (suc m) i) i h) ∙ first (is i) (highs m (i + 1)))
      go (inr v) f =
          let z : r + bits_from is (suc m) i ≡ (r + at i) + bits_from is m (i + 1) = omega arith in
          ap (λ (y : ℕ). has_bit y j) z ∙ f v

  pub bits_has : (n j : ℕ) → j < n → has_bit (bits_from is n 0) j ≡ is j
  bits_has n j l =
      let e : bits_from is n 0 ≡ 0 + bits_from is n 0 = omega arith in
      ap (λ (y : ℕ). has_bit y j) e ∙ has_above n 0 0 j (omega arith) (omega arith) (omega arith)

-- a word with one bit more is 0 where the bit is not set and the rest is 0
bit_none : (x : Bool) (i k : ℕ) → eqb (cond x (2 ^ i) 0 + k) 0 ≡ not x && eqb k 0
bit_none true i k = ne_eqb (2 ^ i + k) 0 (λ e. omega (arith, pow_pos i))
bit_none false i k = let e : 0 + k ≡ k = omega arith in ap (λ (j : ℕ). eqb j 0) e

-- A SET OF TAGS means those states of a proposal that are so
pub record Means (set : ℕ) (is : ProposalState → Bool) : Type 0 where
  pub ongoing : has_bit set tag_ongoing ≡ is Ongoing
  pub value : (v : ℕ) → has_bit set tag_has_value ≡ is (HasValue v)
  pub accepted : has_bit set tag_accepted ≡ is Accepted
  pub rejected : has_bit set tag_complete_false ≡ is (Complete false)
  pub output : has_bit set tag_complete_true ≡ is (Complete true)

pub accepted_means : Means accepted_tags accepted
unfolding has_bit accepted
accepted_means = record { ongoing = refl; value = λ v. refl; accepted = refl; rejected = refl; output = refl }

pub received_means : Means received_tags received
unfolding has_bit received
received_means = record { ongoing = refl; value = λ v. refl; accepted = refl; rejected = refl; output = refl }

-- those whose agreement is asked, and which get vote 0
pub undecided_means : Means undecided_tags asks_agreement
unfolding has_bit asks_agreement
undecided_means = record { ongoing = refl; value = λ v. refl; accepted = refl; rejected = refl; output = refl }

pub incomplete_means : Means incomplete_tags (λ s. not (complete s))
unfolding has_bit complete
incomplete_means = record { ongoing = refl; value = λ v. refl; accepted = refl; rejected = refl; output = refl }

module _ (set : ℕ) (is : ProposalState → Bool) (means : Means set is) where
  tag_means : (tag v : ℕ) → tag_in set tag ≡ is (proposal_of tag v)
  unfolding tag_in proposal_of
  tag_means zero v = means.ongoing
  tag_means (suc zero) v = means.value v
  tag_means (suc (suc zero)) v = means.accepted
  tag_means (suc (suc (suc zero))) v = means.rejected
  tag_means (suc (suc (suc (suc t)))) v =
      let tag = suc (suc (suc (suc t))) in
      let e : min tag 4 ≡ 4 = omega arith in
      rw (e, ne_eqb tag 0 (λ e. omega arith), ne_eqb tag 1 (λ e. omega arith), ne_eqb tag 2 (λ e. omega arith), ne_eqb tag 3 (λ e. omega arith)) means.output

  module _ (size n : ℕ) (w : List ℕ) where
    at_means : (p : ℕ) → tag_in set (proposal_tag size w p) ≡ is (proposal_in size w p)
    at_means p = tag_means (proposal_tag size w p) _

    counted : (m p : ℕ) → count_if (λ p. tag_in set (proposal_tag size w p)) m p ≡ count_from size is m p w
    unfolding count_if count_from
    counted zero p = refl
    counted (suc m) p = rw (at_means p, counted m (p + 1))

    -- the word has the bits of these proposals, and none from n on (`bits_below`),
    pub proposals_has : (p : ℕ) → p < n → has_bit (proposals_in size set n w) p ≡ is (proposal_in size w p)
    unfolding proposals_in
    proposals_has p l = bits_has _ n p l ∙ at_means p

    -- and its ones are as many as they are
    pub proposals_ones : ones (proposals_in size set n w) ≡ count_from size is n 0 w
    unfolding proposals_in
    proposals_ones = bits_ones _ n ∙ counted n 0

module _ (n : ℕ) (w : List ℕ) where
  -- "The number of accepted proposers"
  pub accepted_ones : ones (proposals_in (record_length n) accepted_tags n w) ≡ count_accepted n w
  accepted_ones = proposals_ones accepted_tags accepted accepted_means (record_length n) n w

  pub received_ones : ones (proposals_in (record_length n) received_tags n w) ≡ received_proposals n w
  received_ones = proposals_ones received_tags received received_means (record_length n) n w

  -- all are complete where the incomplete ones are none
  pub incomplete_none : eqb (proposals_in (record_length n) incomplete_tags n w) 0 ≡ all_complete n w
  unfolding proposals_in bits_from complete_from
  incomplete_none = go n 0
    where
      not_not : (x : Bool) → not (not x) ≡ x
      not_not true = refl
      not_not false = refl

      tags : ℕ → Bool
      tags p = tag_in incomplete_tags (proposal_tag (record_length n) w p)

      over : (p : ℕ) → not (tags p) ≡ complete (proposal_in (record_length n) w p)
      over p = ap not (at_means incomplete_tags _ incomplete_means (record_length n) n w p) ∙ not_not _

      go : (m i : ℕ) → eqb (bits_from tags m i) 0 ≡ complete_from (record_length n) m i w
      go zero i = refl
      go (suc m) i = bit_none (tags i) i (bits_from tags m (i + 1)) ∙ ap₂ (λ (x y : Bool). x && y) (over i) (go m (i + 1))
