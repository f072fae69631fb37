-- The table of state lengths holds the formula: one test of all its entries, which antt computes, and one law that carries it to N and F. Assumes nothing.
use Rattle.std.proofs.Common.{ℕ, zero, suc, ◌+◌, ◌-◌, ◌*◌, ◌/◌, ◌%◌, ◌≤◌, ◌<◌, add-zero, zero-add, add-suc, suc-add, le_of_suc-le-suc, not-suc-le-zero, arith, ◌≡◌, refl, ap, sym, ◌∙◌, Bool, true, ◌&&◌, List, [], ◌∷◌, eqb, length, get_or, eqb-true}
use Rattle.std.proofs.lemmas.Bool.{and_parts}
use Rattle.steps.specs.Numbers.{node_limit, ahead_limit}
use Rattle.state.specs.State.{epochs_at, state_length}
use Rattle.state.proofs.LengthTable.{lengths}

-- A TEST of each entry of a table and its index, the first of which is i
unfoldable pub every : (ℕ → ℕ → Bool) → ℕ → List ℕ → Bool
every test i [] = true
every test i (x ∷ xs) = test i x && every test (suc i) xs

-- it holds at each
every_from : (test : ℕ → ℕ → Bool) (i : ℕ) (xs : List ℕ) → every test i xs ≡ true → (k : ℕ) → k < length xs → test (i + k) (get_or xs k 0) ≡ true
unfolding every
every_from test i [] h k l = absurd (not-suc-le-zero l)
every_from test i (x ∷ xs) h zero l = ap (λ m. test m x) (add-zero i) ∙ (and_parts (test i x) _ h).0
every_from test i (x ∷ xs) h (suc k) l =
    ap (λ m. test m (get_or xs k 0)) (add-suc i k ∙ sym (suc-add i k)) ∙ every_from test (suc i) xs (and_parts (test i x) _ h).1 k (le_of_suc-le-suc l)

every_at : (test : ℕ → ℕ → Bool) (xs : List ℕ) → every test 0 xs ≡ true → (k : ℕ) → k < length xs → test k (get_or xs k 0) ≡ true
every_at test xs h k l = ap (λ m. test m (get_or xs k 0)) (sym (zero-add k)) ∙ every_from test 0 xs h k l

-- THE SHEET. N and F have a figure on it
abbrev pub OnSheet : ℕ → ℕ → Type 0
OnSheet n ahead = (1 ≤ n) × (n ≤ node_limit) × (ahead ≤ ahead_limit)

-- and where
abbrev pub entry_of : ℕ → ℕ → ℕ
entry_of n ahead = (n - 1) * 16 + ahead

-- ALL 256 FIGURES, in one test: entry k is that of N = k / 16 + 1 and F = k % 16
abbrev pub right : ℕ → ℕ → Bool
right k figure = eqb figure (state_length (k / 16 + 1) (k % 16))

pub all_right : every right 0 lengths ≡ true
unfolding every epochs_at
all_right = refl

-- the engine's lengths are the sheet's
pub sheet_right : (n ahead : ℕ) → OnSheet n ahead → get_or lengths (entry_of n ahead) 0 ≡ state_length n ahead
sheet_right n ahead on =
    let row : entry_of n ahead / 16 + 1 ≡ n = omega arith in
    let column : entry_of n ahead % 16 ≡ ahead = omega arith in
    eqb-true _ _ (every_at right lengths all_right (entry_of n ahead) (omega arith))
    ∙ ap (λ m. state_length m (entry_of n ahead % 16)) row ∙ ap (state_length n) column
