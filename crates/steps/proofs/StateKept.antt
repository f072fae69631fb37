-- WHAT EVERY WRITE KEEPS of a state, a run keeps, whatever its verdict. Assumes nothing.
use Rattle.std.proofs.Common.{ℕ}
use Rattle.steps.specs.Answers.{Answer}
use Rattle.steps.specs.Answers.{Got, Refused}
use Rattle.steps.specs.Answers.{Tape, Asked, ask, ask_about}
use Rattle.steps.specs.Runs.{Verdict, going, refused, failed, Run, onward_as, onward, heard_as, heard}
use Rattle.steps.proofs.Logic.{about, anything, Logic}

module _ {S : Type 0} (P : S → Type 0) where
  pub keeps_heard : {A : Type 0} (q : Asked) (s : S) (k : ℕ → ℕ → Tape → Run S A) → ((a b : ℕ) (p : Tape) → P (k a b p).state) → P s → P (heard q s k).state
  unfolding heard heard_as
  keeps_heard q s k f h = go q.answer
    where
      go : (x : Answer) → P (heard_as x s q.tape k).state
      go (Got a b) = f a b q.tape
      go Refused = h

  pub keeps_onward : {A B : Type 0} (r : Run S A) (k : A → S → Tape → Run S B) → P r.state → ((a : A) (s : S) (p : Tape) → P s → P (k a s p).state) → P (onward r k).state
  unfolding onward onward_as
  keeps_onward {A} r k h f = go r.verdict
    where
      go : (v : Verdict A) → P (onward_as v r k).state
      go (going a) = f a r.state r.tape h
      go refused = h
      go (failed e) = h

  -- as a logic of runs
  abbrev pub holding : (index : ℕ → Type 0) → Logic (about index) S
  holding index = record {
    Good = λ A f h s p r. P s → P r.state;
    Step = λ x s y t. P s → P t;
    steps = λ A f x y n s t p r e g h. g (e h);
    goes = λ A f h a s p e l i. i;
    fails = λ A f h n s p e i. i;
    writes = λ A f x n e s p r w g. g;
    asks = λ A f x n kind s p k e g h. keeps_heard (ask p kind) s k (λ a b q. g a b q tt h) h;
    asks_about = λ A f x n kind who s p k e g h. keeps_heard (ask_about p kind who) s k (λ a b q. g a b q h) h;
    asks_text = λ A f n s p k e g h. keeps_heard (ask p 12) s k (λ a b q. g a b q tt h) h;
    parts = λ content proposer n s p e h. h;
    spares = λ A n left all s p r e g. g;
    goes_on = λ A B f g h s p r k l m i. keeps_onward r k (l i) (λ a t q. m a t q);
  }

-- of a state of which nothing is said
abbrev pub still : {S : Type 0} → Logic anything S
still = holding (λ s. Unit {0}) (λ i. Unit {0})
