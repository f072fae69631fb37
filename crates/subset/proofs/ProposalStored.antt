-- What storing a proposal and adding a contribution change of an epoch's words, and what they leave. Assumes nothing.
use Rattle.std.proofs.Common.{ℕ, ◌+◌, ◌<◌, ◌≡◌, refl, ap, ◌∙◌, List, Bool, true, false, arith, mul-le-mul_right, suc-mul, length, get_or, set, length-set, get_or-set_same, get_or-set_other, eqb, ltb, eqb-true, ltb-true, ltb-false, lt-ltb}
use Rattle.std.proofs.lemmas.Bool.{eqb-false}
use Rattle.proposal.specs.declared.ProposalState.{ProposalState}
use Rattle.proposal.specs.declared.ProposalState.TheVariants.{Ongoing, HasValue, Accepted, Complete}
use Rattle.subset.specs.Words.{epoch_length, count_at, record_at, proposal_at, value_at, arrival_at, proposal_of, tag_of, value_of, load_proposal, store_proposal, add_contribution}

-- PLACES. Two proposers' words are at different places, and all are inside
pub places : (n p q j k : ℕ) → j < 8 + n → k < 8 + n → (p ≡ q → ⊥) → record_at n p j ≡ record_at n q k → ⊥
places n p q j k a b ne e = go (ltb p q) refl
  where
    go : (x : Bool) → ltb p q ≡ x → ⊥
    go true t = let u = ltb-true p q t in omega (arith, mul-le-mul_right (8 + n) u, suc-mul p (8 + n))
    go false t =
        let u : q < p = omega (arith, ltb-false p q t) in
        omega (arith, mul-le-mul_right (8 + n) u, suc-mul q (8 + n))

pub apart : (n p q j k : ℕ) → j < 8 → k < 8 → (p ≡ q → ⊥) → record_at n p j ≡ record_at n q k → ⊥
apart n p q j k a b = places n p q j k (omega arith) (omega arith)

-- and so are two words of different numbers
pub differ : (n p q j k : ℕ) → j < 8 → k < 8 → (j ≡ k → ⊥) → record_at n p j ≡ record_at n q k → ⊥
differ n p q j k a b ne e = go (eqb p q) refl
  where
    go : (t : Bool) → eqb p q ≡ t → ⊥
    go true t = omega (arith, ap (λ i. record_at n i j) (eqb-true p q t))
    go false t = apart n p q j k a b (eqb-false p q t) e

pub within_epoch : (n p j : ℕ) → p < n → j < 8 → record_at n p j < epoch_length n
within_epoch n p j h l = omega (arith, mul-le-mul_right (8 + n) h, suc-mul p (8 + n))

-- STORING A PROPOSAL
kept_state : (s : ProposalState) → proposal_of (tag_of s) (value_of s) ≡ s
unfolding proposal_of tag_of value_of
kept_state Ongoing = refl
kept_state (HasValue v) = refl
kept_state Accepted = refl
kept_state (Complete true) = refl
kept_state (Complete false) = refl

module _ (n : ℕ) (w : List ℕ) (p : ℕ) (s : ProposalState) where
  pub store_size : length (store_proposal n w p s) ≡ length w
  unfolding store_proposal
  store_size = length-set (set w (proposal_at n p) (tag_of s)) (value_at n p) (value_of s) ∙ length-set w (proposal_at n p) (tag_of s)

  pub store_word : (i : ℕ) → (i ≡ proposal_at n p → ⊥) → (i ≡ value_at n p → ⊥) → get_or (store_proposal n w p s) i 0 ≡ get_or w i 0
  unfolding store_proposal
  store_word i a b = get_or-set_other (set w (proposal_at n p) (tag_of s)) (value_at n p) i (value_of s) 0 b ∙ get_or-set_other w (proposal_at n p) i (tag_of s) 0 a

  module _ (inside : p < n) (size : length w ≡ epoch_length n) where
    pub store_tag : get_or (store_proposal n w p s) (proposal_at n p) 0 ≡ tag_of s
    unfolding store_proposal
    store_tag =
        get_or-set_other (set w (proposal_at n p) (tag_of s)) (value_at n p) (proposal_at n p) (value_of s) 0 (λ e. omega arith)
        ∙ get_or-set_same w (proposal_at n p) (tag_of s) 0 (omega (arith, within_epoch n p 0 inside (omega arith)))

    store_value : get_or (store_proposal n w p s) (value_at n p) 0 ≡ value_of s
    unfolding store_proposal
    store_value =
        get_or-set_same (set w (proposal_at n p) (tag_of s)) (value_at n p) (value_of s) 0
        (omega (arith, within_epoch n p 1 inside (omega arith), length-set w (proposal_at n p) (tag_of s)))

    pub store_load : load_proposal n (store_proposal n w p s) p ≡ s
    unfolding load_proposal
    store_load = rw (store_tag, store_value) (kept_state s)

  pub store_other : (q : ℕ) → (q ≡ p → ⊥) → load_proposal n (store_proposal n w p s) q ≡ load_proposal n w q
  unfolding load_proposal
  store_other q ne =
      rw (
        store_word (proposal_at n q) (apart n q p 0 0 (omega arith) (omega arith) ne) (apart n q p 0 1 (omega arith) (omega arith) ne),
        store_word (value_at n q) (apart n q p 1 0 (omega arith) (omega arith) ne) (apart n q p 1 1 (omega arith) (omega arith) ne),
      )

-- ADDING A CONTRIBUTION to a list that has room for it
module _ (n : ℕ) (w : List ℕ) (p x c : ℕ) (counted : get_or w count_at 0 ≡ c) (room : c < n) where
  abbrev added : List ℕ
  added = add_contribution n w p x

  abbrev one : List ℕ
  one = set w (arrival_at n c) p

  abbrev two : List ℕ
  two = set one (value_at n p) x

  added_is : added ≡ set two count_at (c + 1)
  unfolding add_contribution
  added_is = rw (counted, lt-ltb c n room)

  pub add_size : length added ≡ length w
  add_size = rw added_is (length-set two count_at (c + 1) ∙ length-set one (value_at n p) x ∙ length-set w (arrival_at n c) p)

  pub add_word : (i : ℕ) → (i ≡ arrival_at n c → ⊥) → (i ≡ value_at n p → ⊥) → (i ≡ count_at → ⊥) → get_or added i 0 ≡ get_or w i 0
  add_word i a b k =
      rw added_is (get_or-set_other two count_at i (c + 1) 0 k ∙ get_or-set_other one (value_at n p) i x 0 b ∙ get_or-set_other w (arrival_at n c) i p 0 a)

  module _ (inside : p < n) (size : length w ≡ epoch_length n) where
    sized : length two ≡ epoch_length n
    sized = length-set one (value_at n p) x ∙ length-set w (arrival_at n c) p ∙ size

    pub add_count : get_or added count_at 0 ≡ c + 1
    add_count = rw added_is (get_or-set_same two count_at (c + 1) 0 (omega (arith, sized)))

    pub add_value : get_or added (value_at n p) 0 ≡ x
    add_value =
        rw added_is
        (get_or-set_other two count_at (value_at n p) (c + 1) 0 (λ e. omega arith)
        ∙ get_or-set_same one (value_at n p) x 0 (omega (arith, within_epoch n p 1 inside (omega arith), length-set w (arrival_at n c) p)))

    pub add_arrival : get_or added (arrival_at n c) 0 ≡ p
    add_arrival =
        rw added_is
        (get_or-set_other two count_at (arrival_at n c) (c + 1) 0 (λ e. omega arith)
        ∙ get_or-set_other one (value_at n p) (arrival_at n c) x 0 (differ n c p 7 1 (omega arith) (omega arith) (λ e. omega arith))
        ∙ get_or-set_same w (arrival_at n c) p 0 (omega (arith, within_epoch n c 7 room (omega arith))))
