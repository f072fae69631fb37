-- The accepted proposers and the entries of decryption in an epoch's words: what setting one changes, and what it leaves. Assumes nothing.
use Rattle.std.proofs.Common.{ℕ, zero, suc, ◌+◌, ◌*◌, ◌/◌, ◌-◌, ◌%◌, ◌^◌, ◌≤◌, ◌<◌, ◌≡◌, refl, sym, ap, ◌∙◌, List, Bool, true, false, cond, arith, mul-le-mul_right, suc-mul, length, get_or, set, length-set, get_or-set_same, get_or-set_other, pow_pos, pow-add, shr-shr, eqb, ltb, eqb-true, ltb-true, ltb-false, eq-eqb}
use Rattle.std.proofs.Math.Nat.{add-div_right, add-mul-div_right, two-pow-succ}
use Rattle.std.proofs.lemmas.Bool.{eqb-false}
use Rattle.steps.specs.Bits.{has_bit, with_bit}
use Rattle.decryption.specs.declared.ThresholdDecrypt.{ThresholdDecrypt}
use Rattle.decryption.specs.Decrypt.{new}
use Rattle.subset.specs.Words.{epoch_length, accepted_at, record_at}
use Rattle.subset.proofs.ProposalStored.{places}
use Rattle.epochwords.specs.Words.{is_accepted, accept, DecryptionState, missing, ongoing, complete, decryption_at, plaintext_at, ciphertext_at, had_input_at, terminated_at, share_at, set_shares, flag, store_entry, store_decryption}

-- THE ACCEPTED PROPOSERS
module _ (x p : ℕ) (no : has_bit x p ≡ false) where
  even : x / 2 ^ p % 2 ≡ 0
  unfolding has_bit
  even = let z = eqb-false (x / 2 ^ p % 2) 1 no in omega arith

  up_here : (x + 2 ^ p) / 2 ^ p ≡ x / 2 ^ p + 1
  up_here = add-div_right x (pow_pos p)

  add_same : has_bit (x + 2 ^ p) p ≡ true
  unfolding has_bit
  add_same = rw up_here (eq-eqb ((x / 2 ^ p + 1) % 2) 1 (omega (arith, even)))

  -- a lower bit
  add_below : (k q : ℕ) → p ≡ suc k + q → (x + 2 ^ p) / 2 ^ q % 2 ≡ x / 2 ^ q % 2
  add_below k q e =
      let two : 2 ^ p ≡ (2 ^ k + 2 ^ k) * 2 ^ q = ap (λ m. 2 ^ m) e ∙ pow-add 2 (suc k) q ∙ rw (two-pow-succ k) in
      let up : (x + 2 ^ p) / 2 ^ q ≡ x / 2 ^ q + (2 ^ k + 2 ^ k) = rw two (add-mul-div_right x (2 ^ k + 2 ^ k) (pow_pos q)) in
      rw up (omega arith)

  -- a higher one
  add_above : (k q : ℕ) → q ≡ p + (1 + k) → (x + 2 ^ p) / 2 ^ q ≡ x / 2 ^ q
  add_above k q e =
      let half : (x / 2 ^ p + 1) / 2 ≡ x / 2 ^ p / 2 = omega (arith, even) in
      let a : (x + 2 ^ p) / 2 ^ q ≡ (x + 2 ^ p) / 2 ^ p / 2 ^ 1 / 2 ^ k = rw (e, shr-shr ((x + 2 ^ p) / 2 ^ p) 1 k, shr-shr (x + 2 ^ p) p (1 + k)) in
      let b : x / 2 ^ q ≡ x / 2 ^ p / 2 ^ 1 / 2 ^ k = rw (e, shr-shr (x / 2 ^ p) 1 k, shr-shr x p (1 + k)) in
      a ∙ rw (up_here, half) (sym b)

  add_other : (q : ℕ) → (q ≡ p → ⊥) → has_bit (x + 2 ^ p) q ≡ has_bit x q
  unfolding has_bit
  add_other q ne = go (ltb q p) refl
    where
      go : (y : Bool) → ltb q p ≡ y → eqb ((x + 2 ^ p) / 2 ^ q % 2) 1 ≡ eqb (x / 2 ^ q % 2) 1
      go true t = let l = ltb-true q p t in rw (add_below (p - suc q) q (omega arith))
      go false t =
          let l = ltb-false q p t in
          rw (add_above (q - suc p) q (omega arith))

module _ (x p : ℕ) where
  with_same : has_bit (with_bit x p) p ≡ true
  unfolding with_bit
  with_same = go (has_bit x p) refl
    where
      go : (y : Bool) → has_bit x p ≡ y → has_bit (cond y x (x + 2 ^ p)) p ≡ true
      go true e = e
      go false e = add_same x p e

  with_other : (q : ℕ) → (q ≡ p → ⊥) → has_bit (with_bit x p) q ≡ has_bit x q
  unfolding with_bit
  with_other q ne = go (has_bit x p) refl
    where
      go : (y : Bool) → has_bit x p ≡ y → has_bit (cond y x (x + 2 ^ p)) q ≡ has_bit x q
      go true e = refl
      go false e = add_other x p e q ne

module _ (w : List ℕ) (p : ℕ) where
  pub accept_size : length (accept w p) ≡ length w
  unfolding accept
  accept_size = length-set w accepted_at _

  pub accept_word : (i : ℕ) → (i ≡ accepted_at → ⊥) → get_or (accept w p) i 0 ≡ get_or w i 0
  unfolding accept
  accept_word i ne = get_or-set_other w accepted_at i _ 0 ne

  module _ (size : 2 < length w) where
    pub accept_same : is_accepted (accept w p) p ≡ true
    unfolding accept is_accepted
    accept_same = rw (get_or-set_same w accepted_at (with_bit (get_or w accepted_at 0) p) 0 size) (with_same (get_or w accepted_at 0) p)

    pub accept_other : (q : ℕ) → (q ≡ p → ⊥) → is_accepted (accept w p) q ≡ is_accepted w q
    unfolding accept is_accepted
    accept_other q ne = rw (get_or-set_same w accepted_at (with_bit (get_or w accepted_at 0) p) 0 size) (with_other (get_or w accepted_at 0) p q ne)

pub accepted_kept : (w w' : List ℕ) → get_or w' accepted_at 0 ≡ get_or w accepted_at 0 → (q : ℕ) → is_accepted w' q ≡ is_accepted w q
unfolding is_accepted
accepted_kept w w' e q = rw e

-- AN ENTRY
-- i is none of the words that p's entry has
abbrev pub Apart : ℕ → ℕ → ℕ → Type 0
Apart n p i = (j : ℕ) → 2 ≤ j → j < 8 + n → (j ≡ 7 → ⊥) → i ≡ record_at n p j → ⊥

module _ (n p : ℕ) where
  shares_word : (m k : ℕ) (s w : List ℕ) → k + m ≤ n → (i : ℕ) → ((j : ℕ) → 8 ≤ j → j < 8 + n → i ≡ record_at n p j → ⊥) → get_or (set_shares n p m k s w) i 0 ≡ get_or w i 0
  unfolding set_shares
  shares_word zero k s w l i f = refl
  shares_word (suc m) k s w l i f =
      shares_word m (k + 1) s (set w (share_at n p k) (get_or s k 0)) (omega arith) i f
      ∙ get_or-set_other w (share_at n p k) i (get_or s k 0) 0 (f (8 + k) (omega arith) (omega arith))

  shares_size : (m k : ℕ) (s w : List ℕ) → length (set_shares n p m k s w) ≡ length w
  unfolding set_shares
  shares_size zero k s w = refl
  shares_size (suc m) k s w = shares_size m (k + 1) s (set w (share_at n p k) (get_or s k 0)) ∙ length-set w (share_at n p k) (get_or s k 0)

  module _ (w : List ℕ) (tag plaintext : ℕ) (td : ThresholdDecrypt) where
    abbrev w2 : List ℕ
    w2 = set w (decryption_at n p) tag

    abbrev w3 : List ℕ
    w3 = set w2 (plaintext_at n p) plaintext

    abbrev w4 : List ℕ
    w4 = set w3 (ciphertext_at n p) td.ciphertext

    abbrev w5 : List ℕ
    w5 = set w4 (had_input_at n p) (flag td.had_input)

    abbrev w6 : List ℕ
    w6 = set w5 (terminated_at n p) (flag td.terminated)

    entry_size : length (store_entry n w p tag plaintext td) ≡ length w
    unfolding store_entry
    entry_size =
        shares_size n 0 td.shares w6
        ∙ length-set w5 (terminated_at n p) (flag td.terminated)
        ∙ length-set w4 (had_input_at n p) (flag td.had_input)
        ∙ length-set w3 (ciphertext_at n p) td.ciphertext
        ∙ length-set w2 (plaintext_at n p) plaintext
        ∙ length-set w (decryption_at n p) tag

    last : (i : ℕ) → ((j : ℕ) → 8 ≤ j → j < 8 + n → i ≡ record_at n p j → ⊥) → get_or (store_entry n w p tag plaintext td) i 0 ≡ get_or w6 i 0
    unfolding store_entry
    last i f = shares_word n 0 td.shares w6 (omega arith) i f

    entry_word : (i : ℕ) → Apart n p i → get_or (store_entry n w p tag plaintext td) i 0 ≡ get_or w i 0
    entry_word i f =
        last i (λ j a b. f j (omega arith) b (λ e. omega arith))
        ∙ get_or-set_other w5 (terminated_at n p) i _ 0 (f 6 (omega arith) (omega arith) (λ e. omega arith))
        ∙ get_or-set_other w4 (had_input_at n p) i _ 0 (f 5 (omega arith) (omega arith) (λ e. omega arith))
        ∙ get_or-set_other w3 (ciphertext_at n p) i _ 0 (f 4 (omega arith) (omega arith) (λ e. omega arith))
        ∙ get_or-set_other w2 (plaintext_at n p) i _ 0 (f 3 (omega arith) (omega arith) (λ e. omega arith))
        ∙ get_or-set_other w (decryption_at n p) i _ 0 (f 2 (omega arith) (omega arith) (λ e. omega arith))

    module _ (inside : p < n) (size : length w ≡ epoch_length n) where
      fits : (j : ℕ) → j < 8 → record_at n p j < length w
      fits j l = omega (arith, mul-le-mul_right (8 + n) inside, suc-mul p (8 + n))

      pub entry_tag : get_or (store_entry n w p tag plaintext td) (decryption_at n p) 0 ≡ tag
      entry_tag =
          last (decryption_at n p) (λ j a b e. omega arith)
          ∙ get_or-set_other w5 (terminated_at n p) (decryption_at n p) _ 0 (λ e. omega arith)
          ∙ get_or-set_other w4 (had_input_at n p) (decryption_at n p) _ 0 (λ e. omega arith)
          ∙ get_or-set_other w3 (ciphertext_at n p) (decryption_at n p) _ 0 (λ e. omega arith)
          ∙ get_or-set_other w2 (plaintext_at n p) (decryption_at n p) _ 0 (λ e. omega arith)
          ∙ get_or-set_same w (decryption_at n p) tag 0 (fits 2 (omega arith))

      pub entry_plaintext : get_or (store_entry n w p tag plaintext td) (plaintext_at n p) 0 ≡ plaintext
      entry_plaintext =
          last (plaintext_at n p) (λ j a b e. omega arith)
          ∙ get_or-set_other w5 (terminated_at n p) (plaintext_at n p) _ 0 (λ e. omega arith)
          ∙ get_or-set_other w4 (had_input_at n p) (plaintext_at n p) _ 0 (λ e. omega arith)
          ∙ get_or-set_other w3 (ciphertext_at n p) (plaintext_at n p) _ 0 (λ e. omega arith)
          ∙ get_or-set_same w2 (plaintext_at n p) plaintext 0 (omega (arith, fits 3 (omega arith), length-set w (decryption_at n p) tag))

      pub entry_ciphertext : get_or (store_entry n w p tag plaintext td) (ciphertext_at n p) 0 ≡ td.ciphertext
      entry_ciphertext =
          last (ciphertext_at n p) (λ j a b e. omega arith)
          ∙ get_or-set_other w5 (terminated_at n p) (ciphertext_at n p) _ 0 (λ e. omega arith)
          ∙ get_or-set_other w4 (had_input_at n p) (ciphertext_at n p) _ 0 (λ e. omega arith)
          ∙ get_or-set_same w3 (ciphertext_at n p) td.ciphertext 0 (omega (arith, fits 4 (omega arith), length-set w2 (plaintext_at n p) plaintext, length-set w (decryption_at n p) tag))

  -- storing an entry
  module _ (w : List ℕ) (e : DecryptionState) where
    pub store_size : length (store_decryption n w p e) ≡ length w
    unfolding store_decryption
    store_size = go e
      where
        go : (e : DecryptionState) → length (store_decryption n w p e) ≡ length w
        go missing = entry_size w 0 0 new
        go (ongoing td) = entry_size w 1 0 td
        go (complete x) = entry_size w 2 x new

    pub store_word : (i : ℕ) → Apart n p i → get_or (store_decryption n w p e) i 0 ≡ get_or w i 0
    unfolding store_decryption
    store_word i f = go e
      where
        go : (e : DecryptionState) → get_or (store_decryption n w p e) i 0 ≡ get_or w i 0
        go missing = entry_word w 0 0 new i f
        go (ongoing td) = entry_word w 1 0 td i f
        go (complete x) = entry_word w 2 x new i f

    -- the epoch's own words, the subset's words of a record, and another's record stay
    pub store_low : (i : ℕ) → i < 16 → get_or (store_decryption n w p e) i 0 ≡ get_or w i 0
    store_low i l = store_word i (λ j a b c z. omega arith)

    pub store_other : (q k : ℕ) → k < 8 → (q ≡ p → ⊥) → get_or (store_decryption n w p e) (record_at n q k) 0 ≡ get_or w (record_at n q k) 0
    store_other q k l ne = store_word (record_at n q k) (λ j a b c z. places n q p k j (omega arith) b ne z)

    pub store_subset : (q k : ℕ) → k < 8 → (2 ≤ k → k ≡ 7) → get_or (store_decryption n w p e) (record_at n q k) 0 ≡ get_or w (record_at n q k) 0
    store_subset q k l f = go (eqb q p) refl
      where
        go : (x : Bool) → eqb q p ≡ x → get_or (store_decryption n w p e) (record_at n q k) 0 ≡ get_or w (record_at n q k) 0
        go true t =
            store_word (record_at n q k) (λ j a b c z.
            let s : q ≡ p = eqb-true q p t in
            let same : record_at n p k ≡ record_at n p j = ap (λ r. record_at n r k) (sym s) ∙ z in
            let y : k ≡ j = omega arith in
            c (sym y ∙ f (omega arith)))
        go false t = store_other q k l (eqb-false q p t)
