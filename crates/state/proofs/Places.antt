-- Places in a list: parts of one length, one after the other from some word on, and what writing one of them leaves. Assumes nothing.
use Rattle.std.proofs.Common.{ℕ, suc, ◌+◌, ◌*◌, ◌-◌, ◌≤◌, ◌<◌, mul-le-mul_right, suc-mul, arith, ◌≡◌, refl, sym, ap, ◌∙◌, List, ◌++◌, Bool, true, false, ltb, length, get_or, take, drop, length-append, length-drop, take-append-drop, get_or-append-add, get_or-take, get_or-drop, length-take-le, ext_get_or, drop_at, take_at, drop-drop, ltb-true, ltb-false}
use Rattle.std.proofs.Math.ListN.{get_or-append}

-- A PART OF A LIST, `size` words from word `at` on, is replaced
abbrev pub pasted : List ℕ → ℕ → ℕ → List ℕ → List ℕ
pasted v at size x = take at v ++ (x ++ drop (at + size) v)

-- by itself
pub pasted_own : (v : List ℕ) (at size : ℕ) → pasted v at size (take size (drop at v)) ≡ v
pasted_own v at size = rw (← drop-drop size at v, take-append-drop size (drop at v)) (take-append-drop at v)

module _ (v x : List ℕ) (at size : ℕ) (fits : at + size ≤ length v) (full : length x ≡ size) where
  front : length (take at v) ≡ at
  front = length-take-le at v (omega arith)

  pasted_long : length (pasted v at size x) ≡ length v
  pasted_long = simp (length-append, length-drop, front) (omega arith)

  pasted_in : take size (drop at (pasted v at size x)) ≡ x
  pasted_in = rw (drop_at (take at v) (x ++ drop (at + size) v) at front) (take_at x (drop (at + size) v) size full)

  pasted_before : (j : ℕ) → j < at → get_or (pasted v at size x) j 0 ≡ get_or v j 0
  pasted_before j h = get_or-append (take at v) (x ++ drop (at + size) v) 0 j (rw front h) ∙ get_or-take at v j 0 h

  pasted_after : (i : ℕ) → get_or (pasted v at size x) (at + (size + i)) 0 ≡ get_or v (at + (size + i)) 0
  pasted_after i =
      ap (λ (y : ℕ). get_or (pasted v at size x) (y + (size + i)) 0) (sym front)
      ∙ (get_or-append-add (take at v) (x ++ drop (at + size) v) (size + i) 0
      ∙ (ap (λ (y : ℕ). get_or (x ++ drop (at + size) v) (y + i) 0) (sym full)
      ∙ (get_or-append-add x (drop (at + size) v) i 0
      ∙ (get_or-drop (at + size) v i 0 ∙ ap (λ (y : ℕ). get_or v y 0) (omega arith)))))

  -- twice
  pub pasted_twice : (y : List ℕ) → pasted (pasted v at size x) at size y ≡ pasted v at size y
  pasted_twice y =
      rw (
        take_at (take at v) (x ++ drop (at + size) v) at front,
        ← drop-drop size at (pasted v at size x),
        drop_at (take at v) (x ++ drop (at + size) v) at front,
        drop_at x (drop (at + size) v) size full,
      )

-- a part in which two lists agree
part_same : (u v : List ℕ) (at size : ℕ) → at + size ≤ length u → length u ≡ length v → ((i : ℕ) → i < size → get_or u (at + i) 0 ≡ get_or v (at + i) 0)
    → take size (drop at u) ≡ take size (drop at v)
part_same u v at size fits e same = ext_get_or 0 (take size (drop at u)) (take size (drop at v)) (long u fits ∙ sym (long v (omega arith))) words
  where
    long : (y : List ℕ) → at + size ≤ length y → length (take size (drop at y)) ≡ size
    long y f = length-take-le size (drop at y) (simp length-drop (omega arith))

    words : (i : ℕ) → i < length (take size (drop at u)) → get_or (take size (drop at u)) i 0 ≡ get_or (take size (drop at v)) i 0
    words i h =
        let k : i < size = rw (long u fits) at h in
        (get_or-take size (drop at u) i 0 k ∙ get_or-drop at u i 0) ∙ (same i k ∙ sym (get_or-take size (drop at v) i 0 k ∙ get_or-drop at v i 0))

-- PLACES: `count` of them, `size` words each, from word `start` on
module _ (start size count : ℕ) (v : List ℕ) (long : length v ≡ start + count * size) (k : ℕ) (there : k < count) where
  pub place_fits : start + k * size + size ≤ length v
  place_fits = omega (arith, mul-le-mul_right size there, suc-mul k size)

  pub place_long : length (take size (drop (start + k * size) v)) ≡ size
  place_long = length-take-le size (drop (start + k * size) v) (simp length-drop (omega (arith, place_fits)))

  -- place k is written
  module _ (x : List ℕ) (full : length x ≡ size) where
    pub placed_long : length (pasted v (start + k * size) size x) ≡ length v
    placed_long = pasted_long v x (start + k * size) size place_fits full

    -- what stands before all places stays
    pub placed_before : (i : ℕ) → i < start → get_or (pasted v (start + k * size) size x) i 0 ≡ get_or v i 0
    placed_before i h = pasted_before v x (start + k * size) size place_fits full i (omega arith)

    pub placed_in : take size (drop (start + k * size) (pasted v (start + k * size) size x)) ≡ x
    placed_in = pasted_in v x (start + k * size) size place_fits full

    -- and so does every other place
    pub placed_other : (j : ℕ) → j < count → (k ≡ j → ⊥)
        → take size (drop (start + j * size) (pasted v (start + k * size) size x)) ≡ take size (drop (start + j * size) v)
    placed_other j l apart =
        part_same (pasted v (start + k * size) size x) v (start + j * size) size
        (omega (arith, placed_long, mul-le-mul_right size l, suc-mul j size)) placed_long (λ i m. go i m (ltb j k) refl)
      where
        go : (i : ℕ) → i < size → (b : Bool) → ltb j k ≡ b → get_or (pasted v (start + k * size) size x) (start + j * size + i) 0 ≡ get_or v (start + j * size + i) 0
        go i m true q =
            pasted_before v x (start + k * size) size place_fits full (start + j * size + i)
            (omega (arith, mul-le-mul_right size (ltb-true j k q), suc-mul j size))
        go i m false q =
            let below : suc k ≤ j = omega (arith, ltb-false j k q) in
            let at : start + j * size + i ≡ start + k * size + (size + (j * size + i - (k * size + size))) = omega (arith, mul-le-mul_right size below, suc-mul k size) in
            ap (λ (y : ℕ). get_or (pasted v (start + k * size) size x) y 0) at
            ∙ (pasted_after v x (start + k * size) size place_fits full (j * size + i - (k * size + size)) ∙ ap (λ (y : ℕ). get_or v y 0) (sym at))
