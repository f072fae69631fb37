-- The numbers with which a run can fail. Assumes nothing.
use Rattle.std.proofs.Common.{ℕ, ◌≡◌, Bool, true}
use Rattle.steps.specs.Answers.{Answer}
use Rattle.steps.specs.Answers.{Got, Refused}
use Rattle.steps.specs.Answers.{Tape, Asked, ask, ask_about}
use Rattle.steps.specs.Runs.{Verdict, going, refused, failed, Run, onward_as, onward, heard_as, heard}
use Rattle.steps.proofs.Logic.{Terms, Permits, Logic, Stateless}

-- the number of a failure is one of those that are meant
abbrev pub Meant : {A : Type 0} → (ℕ → Bool) → Verdict A → Type 0
Meant ok (going a) = Unit {0}
Meant ok refused = Unit {0}
Meant ok (failed n) = ok n ≡ true

pub record Only {S A : Type 0} (ok : ℕ → Bool) (r : Run S A) : Type 0 where
  pub fails : Meant ok r.verdict

pub only_number : {S A : Type 0} (ok : ℕ → Bool) (r : Run S A) (n : ℕ) → Only ok r → r.verdict ≡ failed n → ok n ≡ true
only_number ok r n h e = rw e at h.fails

pub only_heard : {S A : Type 0} {ok : ℕ → Bool} (q : Asked) (s : S) {k : ℕ → ℕ → Tape → Run S A} → ((a b : ℕ) (p : Tape) → Only ok (k a b p)) → Only ok (heard q s k)
unfolding heard heard_as
only_heard {A = A} {ok = ok} q s {k} f = go q.answer
  where
    go : (a : Answer) → Only ok (heard_as a s q.tape k)
    go (Got a b) = f a b q.tape
    go Refused = record { fails = tt }

pub only_onward : {S A B : Type 0} {ok : ℕ → Bool} (r : Run S A) {k : A → S → Tape → Run S B} → Only ok r → ((a : A) (s : S) (p : Tape) → Only ok (k a s p)) → Only ok (onward r k)
unfolding onward onward_as
only_onward {A = A} {ok = ok} r {k} h f = go r.verdict h.fails
  where
    go : (v : Verdict A) → Meant ok v → Only ok (onward_as v r k)
    go (going a) m = record { fails = (f a r.state r.tape).fails }
    go refused m = record { fails = tt }
    go (failed n) m = record { fails = m }

-- as a logic of runs
abbrev pub numbers : (ℕ → Bool) → Terms
numbers ok = record { Kind = λ k. Unit {0}; Text = Unit {0}; Parts = Unit {0}; Writes = λ e. Unit {0}; Number = λ n. ok n ≡ true; Handle = λ b. Unit {0}; Index = λ i. Unit {0} }

pub numbers_permit : (ok : ℕ → Bool) → Permits (numbers ok)
numbers_permit ok = record { reads = λ k. tt; text = tt; parts = tt; sends = λ a b. tt; faults = λ k a e. tt; handle = λ b. tt; index = λ i. tt }

abbrev pub failing : (ok : ℕ → Bool) (S : Type 0) → Logic (numbers ok) S
failing ok S = record {
  Good = λ A f h s p r. Only ok r;
  Step = λ x s y t. Unit {0};
  steps = λ A f x y n s t p r e g. g;
  goes = λ A f h a s p e l. record { fails = tt };
  fails = λ A f h n s p e. record { fails = e };
  writes = λ A f x n e s p r w g. record { fails = g.fails };
  asks = λ A f x n kind s p k e g. only_heard (ask p kind) s (λ a b q. g a b q tt);
  asks_about = λ A f x n kind who s p k e g. only_heard (ask_about p kind who) s g;
  asks_text = λ A f n s p k e g. only_heard (ask p 12) s (λ a b q. g a b q tt);
  parts = λ content proposer n s p e. record { fails = tt };
  spares = λ A n left all s p r e g. g;
  goes_on = λ A B f g h s p r k l m. only_onward r l m;
}

pub failing_stateless : (ok : ℕ → Bool) → Stateless (numbers ok) (failing ok)
failing_stateless ok = record { allows = λ S x y s t. tt; moves = λ S R A f h s t u p r g. record { fails = g.fails } }
