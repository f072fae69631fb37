-- Laws for the code that loads and stores decryption entries. Assumes nothing.
use Rattle.std.proofs.Common.{ℕ, zero, suc, ◌+◌, ◌-◌, ◌*◌, ◌<◌, ◌≤◌, ◌≡◌, refl, sym, Bool, true, false, cond, ◌||◌, eqb, List, [], ◌∷◌, ◌++◌, append_assoc, arith, mul-le-mul_right, suc-mul, length, get_or, set, take, drop, replicate, length-set, take-append-drop, drop-cons, take-suc-set, drop-set-lt, drop-drop}
use Rattle.std.proofs.lemmas.List.{drop-replicate}
use borrow.Rule.Slice.PartMut.{put_mid}
use mir.Val.{bool_byte}
use Rattle.subset.specs.Words.{record_at, epoch_length}
use Rattle.decryption.specs.declared.ThresholdDecrypt.{ThresholdDecrypt}
use Rattle.decryption.specs.Decrypt.{new}
use Rattle.epochwords.specs.Words.{missing, ongoing, complete, decryption_at, plaintext_at, share_at, shares_from, asks, load_instance, load_entry, load_decryption, set_shares, flag}

-- PLACES. A word of a record is inside, and the words of an epoch are few
pub within_record : (n p j : ℕ) → p < n → j < 8 + n → record_at n p j < epoch_length n
within_record n p j h l = omega (arith, mul-le-mul_right (8 + n) h, suc-mul p (8 + n))

pub epoch_small : (n : ℕ) → n ≤ 16 → epoch_length n ≤ 400
epoch_small n h =
    let a : n * (8 + n) ≤ 16 * (8 + n) = mul-le-mul_right (8 + n) h in
    omega arith

-- the eight words of a record are inside its epoch, which is small
pub record_inside : (n p : ℕ) → n ≤ 16 → p < n → (record_at n p 7 < epoch_length n) × (epoch_length n ≤ 400)
record_inside n p few h = (within_record n p 7 h (omega arith), epoch_small n few)

-- SHARES as one part of the words: those that are loaded
module _ (n p : ℕ) where
  shares_part : (m i : ℕ) (w : List ℕ) → share_at n p i + m ≤ length w → shares_from n p m i w ≡ take m (drop (share_at n p i) w)
  unfolding shares_from
  shares_part zero i w h = refl
  shares_part (suc m) i w h =
      let l : share_at n p i < length w = omega arith in
      let e : share_at n p (i + 1) ≡ suc (share_at n p i) = omega arith in
      rw (shares_part m (i + 1) w (omega arith), e, drop-cons w (share_at n p i) 0 l)

  -- and those that are stored
  shares_put : (m i : ℕ) (s w : List ℕ) → share_at n p i + m ≤ length w → i + m ≤ length s
      → set_shares n p m i s w ≡ take (share_at n p i) w ++ (take m (drop i s) ++ drop (share_at n p i + m) w)
  unfolding set_shares
  shares_put zero i s w h k =
      let e : share_at n p i + 0 ≡ share_at n p i = omega arith in
      rw e (sym (take-append-drop (share_at n p i) w))
  shares_put (suc m) i s w h k =
      let a = share_at n p i in
      let x = get_or s i 0 in
      let v = set w a x in
      let l : share_at n p i < length w = omega arith in
      let b : i < length s = omega arith in
      let e : share_at n p (i + 1) ≡ suc (share_at n p i) = omega arith in
      let f : suc (share_at n p i) + m ≡ share_at n p i + suc m = omega arith in
      let g : i + 1 ≡ suc i = omega arith in
      rw (shares_put m (i + 1) s (set w (share_at n p i) (get_or s i 0)) (rw length-set (omega arith)) (omega arith), e, f, g, drop-cons s i 0 b, take-suc-set w (share_at n p i) (get_or s i 0) l, drop-set-lt (share_at n p i + suc m) w (share_at n p i) (get_or s i 0) (omega arith))
      (append_assoc (take (share_at n p i) w) (get_or s i 0 ∷ []) _)

  -- as the code has them
  module _ (few : n ≤ 16) (h : p < n) (w : List ℕ) (long : length w ≡ epoch_length n) where
    last_share : share_at n p 0 + n ≤ length w
    last_share = omega (arith, within_record n p (7 + n) h (omega arith))

    pub loaded : (x : List ℕ) (at : ℕ) → at ≡ share_at n p 0 → x ≡ take (at + n - at) (drop at w) → x ++ drop n (replicate 16 0) ≡ shares_from n p n 0 w ++ replicate (16 - n) 0
    loaded x at a e =
        let z : at + n - at ≡ n = omega arith in
        rw (e, z, a, shares_part n 0 w last_share, drop-replicate {X = ℕ} n 16 0)

    pub stored : (x s : List ℕ) (at : ℕ) → at ≡ share_at n p 0 → n ≤ length s → x ≡ take n s → put_mid at (at + n - at) w x ≡ set_shares n p n 0 s w
    stored x s at a l e =
        let z : at + n - at ≡ n = omega arith in
        rw (e, z, a, shares_put n 0 s w last_share (omega arith), drop-drop)

pub flag_is : (b : Bool) → bool_byte b ≡ flag b
flag_is true = refl
flag_is false = refl

-- AN ENTRY that is loaded: whether it asks, and for which instance
module _ (n p : ℕ) (w : List ℕ) where
  abbrev tag : ℕ
  tag = get_or w (decryption_at n p) 0

  pub open_missing : missing ≡ load_decryption n w p → (asks tag ≡ true) × (new ≡ load_entry n w p)
  unfolding load_decryption asks load_entry
  open_missing = go (eqb tag 0) (eqb tag 1)
    where
      go : (a b : Bool) → missing ≡ cond a missing (cond b (ongoing (load_instance n w p)) (complete (get_or w (plaintext_at n p) 0)))
          → (a || b ≡ true) × (new ≡ cond a new (load_instance n w p))
      go true b e = (refl, refl)
      go false true e = cc
      go false false e = cc

  pub open_ongoing : (td : ThresholdDecrypt) → ongoing td ≡ load_decryption n w p → (asks tag ≡ true) × (td ≡ load_entry n w p)
  unfolding load_decryption asks load_entry
  open_ongoing td = go (eqb tag 0) (eqb tag 1)
    where
      go : (a b : Bool) → ongoing td ≡ cond a missing (cond b (ongoing (load_instance n w p)) (complete (get_or w (plaintext_at n p) 0)))
          → (a || b ≡ true) × (td ≡ cond a new (load_instance n w p))
      go true b e = cc
      go false true e = (refl, cc)
      go false false e = cc

  pub open_complete : (x : ℕ) → complete x ≡ load_decryption n w p → asks tag ≡ false
  unfolding load_decryption asks
  open_complete x = go (eqb tag 0) (eqb tag 1)
    where
      go : (a b : Bool) → complete x ≡ cond a missing (cond b (ongoing (load_instance n w p)) (complete (get_or w (plaintext_at n p) 0))) → a || b ≡ false
      go true b e = cc
      go false true e = cc
      go false false e = refl
