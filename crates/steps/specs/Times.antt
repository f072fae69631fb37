-- How often a chain has an answer of one kind about one proposer.
use Rattle.std.specs.Prelude.{ℕ, ◌+◌, List, [], ◌∷◌, cond, ◌&&◌, eqb}
use Rattle.steps.specs.Answers.{Rec}

unfoldable pub times_asked : ℕ → ℕ → List Rec → ℕ
times_asked kind p [] = 0
times_asked kind p (r ∷ rs) = cond (eqb r.kind kind && eqb r.b p) 1 0 + times_asked kind p rs
