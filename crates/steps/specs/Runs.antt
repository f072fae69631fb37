-- Runs of every layer. S is the layer's state, A the value with which a run goes on.
use Rattle.std.specs.Prelude.{ℕ, List, [], ◌++◌}
pub use Rattle.steps.specs.Verdicts.{Verdict, going, refused, failed}
unfoldable pub use Rattle.steps.specs.Verdicts.{number_of}
use Rattle.steps.specs.Answers.{Answer}
use Rattle.steps.specs.Answers.{Got, Refused}
use Rattle.steps.specs.Answers.{Tape, Asked}
use Rattle.steps.specs.Steps.{Entry, Out, put_all}

-- the state afterwards, the verdict, the answers that are left, and the entries that the step got, in order
pub record Run (S A : Type 0) : Type 0 where
  pub state : S
  pub verdict : Verdict A
  pub tape : Tape
  pub log : List Entry

-- a run that ends here
abbrev pub ends : {S A : Type 0} → Verdict A → S → Tape → Run S A
ends v s p = record { state = s; verdict = v; tape = p; log = [] }

-- a run with entries before its own
abbrev pub before : {S A : Type 0} → List Entry → Run S A → Run S A
before l r = record { state = r.state; verdict = r.verdict; tape = r.tape; log = l ++ r.log }

-- Rust's `?`: k goes on with the value, the state and the answers; a refusal or failure stays
unfoldable pub onward_as : {S A B : Type 0} → Verdict A → Run S A → (A → S → Tape → Run S B) → Run S B
onward_as (going a) r k = before r.log (k a r.state r.tape)
onward_as refused r k = record { state = r.state; verdict = refused; tape = r.tape; log = r.log }
onward_as (failed n) r k = record { state = r.state; verdict = failed n; tape = r.tape; log = r.log }

unfoldable pub onward : {S A B : Type 0} → Run S A → (A → S → Tape → Run S B) → Run S B
onward r k = onward_as r.verdict r k

-- k goes on with the words of an answer; no answer refuses the call
unfoldable pub heard_as : {S A : Type 0} → Answer → S → Tape → (ℕ → ℕ → Tape → Run S A) → Run S A
heard_as (Got a b) s p k = k a b p
heard_as Refused s p k = ends refused s p

unfoldable pub heard : {S A : Type 0} → Asked → S → (ℕ → ℕ → Tape → Run S A) → Run S A
heard q s k = heard_as q.answer s q.tape k

-- a run of a small state, as one of the state that it is a part of
abbrev pub inside : {S T A : Type 0} → (T → S) → Run T A → Run S A
inside put r = record { state = put r.state; verdict = r.verdict; tape = r.tape; log = r.log }

-- what a function leaves: state, verdict, place with the answers left, and the step's counts and words
pub record Left (S A : Type 0) : Type 0 where
  pub state : S
  pub verdict : Verdict A
  pub tape : Tape
  pub out : Out

-- what a run leaves of a step that stood at o
abbrev pub leaves : {S A : Type 0} → Out → Run S A → Left S A
leaves o r = record { state = r.state; verdict = r.verdict; tape = r.tape; out = put_all o r.log }
