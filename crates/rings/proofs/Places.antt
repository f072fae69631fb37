-- Which numbers share a place of a ring. Assumes nothing.
use Rattle.std.proofs.Common.{ℕ, suc, ◌+◌, ◌/◌, ◌%◌, ◌≤◌, ◌<◌, mul-le-mul_left, mul-suc, le_antisymm, lt_of_not-le, le_of_suc-le-suc, arith, ◌≡◌, sym, ◌∙◌}
use Rattle.std.proofs.Math.Nat.{div-add-mod}

-- of m numbers in a row no two have the same place modulo m
quotient_le : (m d e : ℕ) → d % m ≡ e % m → e < d + m → e / m ≤ d / m
quotient_le m d e h l = le_of_suc-le-suc (lt_of_not-le (λ (q : suc (d / m) ≤ e / m).
    omega (arith, div-add-mod d m, div-add-mod e m, mul-le-mul_left m q, mul-suc m (d / m))))

pub same_place : (m d e : ℕ) → d % m ≡ e % m → e < d + m → d < e + m → d ≡ e
same_place m d e h k l =
    let q : d / m ≡ e / m = le_antisymm (quotient_le m e d (sym h) l) (quotient_le m d e h k) in
    sym (div-add-mod d m) ∙ rw (q, h) (div-add-mod e m)
