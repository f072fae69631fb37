-- What a run of any layer comes to. A is the value with which it goes on.
use Rattle.std.specs.Prelude.{ℕ}
use Rattle.steps.specs.Numbers.{success, answer_not_next}

-- a run goes on with a value, is refused for want of an answer, or fails with the number of the Rust's error
pub data Verdict (A : Type 0) : Type 0 where
  going : A → Verdict A
  refused : Verdict A
  failed : ℕ → Verdict A

-- the reply that it leads to
unfoldable pub number_of : {A : Type 0} → Verdict A → ℕ
number_of (going a) = success
number_of refused = answer_not_next
number_of (failed n) = n
