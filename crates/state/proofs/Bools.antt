-- Tests that all hold. Assumes nothing.
use Rattle.std.proofs.Common.{ℕ, zero, suc, ◌≡◌, refl, List, [], ◌∷◌, Bool, true, get_or}
use Rattle.std.proofs.lemmas.Bool.{and_parts}
use Rattle.state.specs.State.{all_hold}

-- of tests that all hold, test i does
pub test_holds : (ts : List Bool) → all_hold ts ≡ true → (i : ℕ) → get_or ts i true ≡ true
unfolding all_hold
test_holds [] h i = refl
test_holds (t ∷ ts) h zero = (and_parts t (all_hold ts) h).0
test_holds (t ∷ ts) h (suc i) = test_holds ts (and_parts t (all_hold ts) h).1 i
