-- Runs that have read answers of certain kinds only, whose log has no outputs and no faults 5, and whose state has a property. Assumes nothing.
use Rattle.std.proofs.Common.{Option, None, ℕ, ◌≡◌, refl, sym, List, [], ◌∷◌, ◌++◌, append_assoc, Bool, true, false, cond, eqb}
use Rattle.steps.specs.declared.reader.Content.{Content}
use Rattle.steps.specs.declared.reader.Content.TheVariants.{Broadcast, Agreement}
use Rattle.steps.specs.Answers.{Answer}
use Rattle.steps.specs.Answers.{Got, Refused}
use Rattle.steps.specs.Answers.{Rec, Tape, Asked, ask, ask_about}
use Rattle.steps.specs.Steps.{Entry, message, fault, Item, faults, outputs}
use Rattle.steps.specs.Runs.{Verdict, going, refused, failed, Run, ends, before, onward_as, onward, heard_as, heard, inside}
use Rattle.steps.specs.Parts.{is_part, message_kind, fault_kind, part_entries, last_output, parts_from, read_parts}
use Rattle.steps.proofs.Parts.{parts_on, parts_off}
use Rattle.steps.proofs.ReadByKinds.{Past, past_same, past_then, past_ask, past_about, past_parts_lem}
use Rattle.steps.proofs.ReadsFirstPart.{any_kind}
use Rattle.steps.proofs.Logic.{Terms, Permits, Logic, Stateless}
use Rattle.steps.proofs.Ranges.{Any}
use Rattle.steps.proofs.GivenWithLog.{outputs_append, faults_append}
use Rattle.epoch.proofs.Interface.{fives_among, Quiet}

-- LOGS
pub fives_append : (a b : List Item) → fives_among (a ++ b) ≡ fives_among a ++ fives_among b
unfolding fives_among
fives_append [] b = refl
fives_append (x ∷ a) b = rw (fives_append a b) (sym (append_assoc (cond (eqb x.kind 5) (x.a ∷ []) []) (fives_among a) (fives_among b)))

pub quiet_none : Quiet []
unfolding outputs faults fives_among
quiet_none = record { no_outputs = refl; no_fives = refl }

pub quiet_append : (a b : List Entry) → Quiet a → Quiet b → Quiet (a ++ b)
quiet_append a b f g = record {
  no_outputs = rw (outputs_append a b, f.no_outputs, g.no_outputs);
  no_fives = rw (faults_append a b, fives_append (faults a) (faults b), f.no_fives, g.no_fives);
}

pub quiet_message : (k x y : ℕ) → Quiet (message k x y ∷ [])
unfolding outputs faults fives_among
quiet_message k x y = record { no_outputs = refl; no_fives = refl }

pub quiet_fault : (k x y : ℕ) → eqb k 5 ≡ false → Quiet (fault k x y ∷ [])
unfolding outputs faults fives_among
quiet_fault k x y e = record { no_outputs = refl; no_fives = rw e }

quiet_part : (content : Content) (proposer kind a b : ℕ) → Quiet (part_entries content proposer kind a b)
unfolding part_entries
quiet_part content proposer kind a b = go (eqb kind 16) (eqb kind 17)
  where
    other : (x : Content) → eqb (fault_kind x) 5 ≡ false
    other Broadcast = refl
    other Agreement = refl

    go : (x y : Bool) → Quiet (cond x (message (message_kind content) proposer b ∷ []) (cond y (fault (fault_kind content) a b ∷ []) []))
    go true y = quiet_message (message_kind content) proposer b
    go false true = quiet_fault (fault_kind content) a b (other content)
    go false false = quiet_none

quiet_parts : (content : Content) (proposer : ℕ) (o : Option ℕ) (i : ℕ) (l : List Rec) → Quiet (parts_from content proposer o i l).log
unfolding parts_from
quiet_parts content proposer o i [] = quiet_none
quiet_parts content proposer o i (r ∷ rs) = go (is_part r.kind) refl (quiet_parts content proposer (last_output o r.kind r.b) r.next rs)
  where
    go : (x : Bool) → is_part r.kind ≡ x → Quiet (parts_from content proposer (last_output o r.kind r.b) r.next rs).log → Quiet (parts_from content proposer o i (r ∷ rs)).log
    go true e q = rw (parts_on content proposer o i r rs e) (quiet_append _ _ (quiet_part content proposer r.kind r.a r.b) q)
    go false e q = rw (parts_off content proposer o i r rs e) quiet_none

-- RUNS from the tape p
pub record Orderly {S A : Type 0} (P : S → Type 0) (is : ℕ → Bool) (p : Tape) (r : Run S A) : Type 0 where
  pub state : P r.state
  pub past : Past is p.rest r.tape.rest
  pub quiet : Quiet r.log

module _ {S A : Type 0} {P : S → Type 0} {is : ℕ → Bool} where
  pub orderly_ends : {v : Verdict A} {s : S} {p : Tape} → P s → Orderly P is p (ends v s p)
  orderly_ends {p = p} h = record { state = h; past = past_same is p.rest; quiet = quiet_none }

  pub orderly_before : {l : List Entry} {p : Tape} {r : Run S A} → Quiet l → Orderly P is p r → Orderly P is p (before l r)
  orderly_before q k = record { state = k.state; past = k.past; quiet = quiet_append _ _ q k.quiet }

  -- answers read before a run
  orderly_after : {p q : Tape} {r : Run S A} → Past is p.rest q.rest → Orderly P is q r → Orderly P is p r
  orderly_after l k = record { state = k.state; past = past_then is l k.past; quiet = k.quiet }

  orderly_heard : (p : Tape) (q : Asked) (s : S) (k : ℕ → ℕ → Tape → Run S A) → Past is p.rest q.tape.rest → P s
      → ((a b : ℕ) (u : Tape) → Orderly P is u (k a b u)) → Orderly P is p (heard q s k)
  unfolding heard heard_as
  orderly_heard p q s k l h f = go q.answer
    where
      go : (x : Answer) → Orderly P is p (heard_as x s q.tape k)
      go (Got a b) = orderly_after l (f a b q.tape)
      go Refused = record { state = h; past = l; quiet = quiet_none }

  pub orderly_ask : (p : Tape) (kind : ℕ) (s : S) (k : ℕ → ℕ → Tape → Run S A) → is kind ≡ true → P s
      → ((a b : ℕ) (u : Tape) → Orderly P is u (k a b u)) → Orderly P is p (heard (ask p kind) s k)
  orderly_ask p kind s k e h f = orderly_heard p (ask p kind) s k (past_ask is p kind e) h f

  pub orderly_about : (p : Tape) (kind who : ℕ) (s : S) (k : ℕ → ℕ → Tape → Run S A) → is kind ≡ true → P s
      → ((a b : ℕ) (u : Tape) → Orderly P is u (k a b u)) → Orderly P is p (heard (ask_about p kind who) s k)
  orderly_about p kind who s k e h f = orderly_heard p (ask_about p kind who) s k (past_about is p kind who e) h f

module _ {S A B : Type 0} {P : S → Type 0} {is : ℕ → Bool} where
  pub orderly_onward : {p : Tape} (r : Run S A) (k : A → S → Tape → Run S B) → Orderly P is p r → ((a : A) (s : S) (q : Tape) → P s → Orderly P is q (k a s q)) → Orderly P is p (onward r k)
  unfolding onward onward_as
  orderly_onward {p} r k h f = go r.verdict
    where
      go : (v : Verdict A) → Orderly P is p (onward_as v r k)
      go (going a) =
          let n = f a r.state r.tape h.state in
          record { state = n.state; past = past_then is h.past n.past; quiet = quiet_append _ _ h.quiet n.quiet }
      go refused = record { state = h.state; past = h.past; quiet = h.quiet }
      go (failed n) = record { state = h.state; past = h.past; quiet = h.quiet }

pub orderly_inside : {S T A : Type 0} {P : S → Type 0} {R : T → Type 0} {is : ℕ → Bool} {p : Tape} (put : T → S) (r : Run T A)
    → ((t : T) → R t → P (put t)) → Orderly R is p r → Orderly P is p (inside put r)
orderly_inside put r f k = record { state = f _ k.state; past = k.past; quiet = k.quiet }

pub orderly_parts : {S : Type 0} {P : S → Type 0} (is : ℕ → Bool) → ((k : ℕ) → is_part k ≡ true → is k ≡ true) → (content : Content) (proposer : ℕ) (s : S) (p : Tape) → P s
    → Orderly P is p (read_parts content proposer s p)
orderly_parts is f content proposer s p h = record {
  state = h;
  past = past_parts_lem is f content proposer None p.place p.rest;
  quiet = quiet_parts content proposer None p.place p.rest;
}

-- as a logic of runs
abbrev pub orders : (ℕ → Bool) → Terms
orders is = record {
  Kind = λ k. is k ≡ true;
  Text = is 12 ≡ true;
  Parts = (k : ℕ) → is_part k ≡ true → is k ≡ true;
  Writes = λ e. Quiet (e ∷ []);
  Number = λ n. Unit {0};
  Handle = λ b. Unit {0};
  Index = λ i. Unit {0};
}

abbrev pub ordering : {S : Type 0} (is : ℕ → Bool) → (S → Type 0) → Logic (orders is) S
ordering is P = record {
  Good = λ A f h s p r. P s → Orderly P is p r;
  Step = λ x s y t. P s → P t;
  steps = λ A f x y n s t p r e g h. g (e h);
  goes = λ A f h a s p e l i. orderly_ends i;
  fails = λ A f h n s p e i. orderly_ends i;
  writes = λ A f x n e s p r w g h. orderly_before w (g h);
  asks = λ A f x n kind s p k e g h. orderly_ask p kind s k e h (λ a b u. g a b u tt h);
  asks_about = λ A f x n kind who s p k e g h. orderly_about p kind who s k e h (λ a b u. g a b u h);
  asks_text = λ A f n s p k e g h. orderly_ask p 12 s k e h (λ a b u. g a b u tt h);
  parts = λ content proposer n s p e h. orderly_parts is e content proposer s p h;
  spares = λ A n left all s p r e g. g;
  goes_on = λ A B f g h s p r k l m i. orderly_onward r k (l i) (λ a t q. m a t q);
}

-- of a state of which nothing is said
pub ordering_stateless : (is : ℕ → Bool) → Stateless (orders is) (λ S. ordering {S = S} is Any)
ordering_stateless is = record { allows = λ S x y s t h. tt; moves = λ S R A f h s t u p r g i. let k = g tt in record { state = tt; past = k.past; quiet = k.quiet } }

pub orders_permit : Permits (orders any_kind)
orders_permit = record {
  reads = λ k. refl;
  text = refl;
  parts = λ k e. refl;
  sends = λ a b. quiet_message 3 a b;
  faults = λ k a e. quiet_fault k a 0 e;
  handle = λ b. tt;
  index = λ i. tt;
}
