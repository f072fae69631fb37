-- What a run that is neither refused nor fails gives, with its log, and what asking for an answer that takes nothing reads of the chain. Assumes nothing.
use Rattle.std.proofs.Common.{ℕ, ◌≡◌, refl, ◌∙◌, List, [], ◌∷◌, ◌++◌, Bool, true, false, cond, ◌&&◌, Option, eqb, eqb-true}
use Rattle.std.proofs.lemmas.Bool.{and_parts}
use Rattle.steps.specs.Answers.{Rec, Tape, tape, ask_for, ask, ask_about}
use Rattle.steps.specs.Table.{within}
use Rattle.steps.specs.Steps.{Entry, message, fault, output, faults, outputs}
use Rattle.steps.specs.Runs.{Verdict, going, refused, failed, Run, before, onward_as, onward, heard_as, heard, inside}
use Rattle.steps.specs.Taken.{or_else, first_taken, of_value, of_decision, is_asked, concerned_after, first_decrypted, thirteens_in}
use Rattle.steps.proofs.TakenFromChain.{Good, GoodFrom, apart}

-- WHAT A RUN GIVES: of its value, state, tape and log
module _ {S A : Type 0} where
  abbrev pub GivesAs : Verdict A → S → Tape → List Entry → (A → S → Tape → List Entry → Type 0) → Type 0
  GivesAs (going a) s p l Q = Q a s p l
  GivesAs refused s p l Q = Unit {0}
  GivesAs (failed n) s p l Q = Unit {0}

  abbrev pub Gives : Run S A → (A → S → Tape → List Entry → Type 0) → Type 0
  Gives r Q = GivesAs r.verdict r.state r.tape r.log Q

  -- as gives_map, of the run's own state, tape and log
  pub gives_own : (r : Run S A) (P Q : A → S → Tape → List Entry → Type 0) → Gives r P
      → ((a : A) → P a r.state r.tape r.log → Q a r.state r.tape r.log) → Gives r Q
  gives_own r P Q h k = go r.verdict h
    where
      go : (v : Verdict A) → GivesAs v r.state r.tape r.log P → GivesAs v r.state r.tape r.log Q
      go (going a) h = k a h
      go refused h = tt
      go (failed n) h = tt

  pub gives_map : (r : Run S A) (P Q : A → S → Tape → List Entry → Type 0) → Gives r P
      → ((a : A) (s : S) (p : Tape) (l : List Entry) → P a s p l → Q a s p l) → Gives r Q
  gives_map r P Q h k = gives_own r P Q h (λ a h. k a r.state r.tape r.log h)

  -- what holds of a run's state and answers, whatever its verdict
  pub gives_with : (r : Run S A) (Q : A → S → Tape → List Entry → Type 0) (T : S → Tape → Type 0) → T r.state r.tape → Gives r Q → Gives r (λ a s p l. Q a s p l × T s p)
  gives_with r Q T t h = gives_own r Q _ h (λ a h. (h, t))

  pub gives_any : (r : Run S A) (Q : A → S → Tape → List Entry → Type 0) → ((a : A) (s : S) (p : Tape) (l : List Entry) → Q a s p l) → Gives r Q
  gives_any r Q f = go r.verdict
    where
      go : (v : Verdict A) → GivesAs v r.state r.tape r.log Q
      go (going a) = f a r.state r.tape r.log
      go refused = tt
      go (failed n) = tt

  pub gives_both : (r : Run S A) (P Q : A → S → Tape → List Entry → Type 0) → Gives r P → Gives r Q → Gives r (λ a s p l. P a s p l × Q a s p l)
  gives_both r P Q f g = go r.verdict f g
    where
      go : (v : Verdict A) → GivesAs v r.state r.tape r.log P → GivesAs v r.state r.tape r.log Q → GivesAs v r.state r.tape r.log (λ a s p l. P a s p l × Q a s p l)
      go (going a) f g = (f, g)
      go refused f g = tt
      go (failed n) f g = tt

  pub gives_cond : (x : Bool) (r s : Run S A) (Q : A → S → Tape → List Entry → Type 0) → (x ≡ true → Gives r Q) → (x ≡ false → Gives s Q) → Gives (cond x r s) Q
  gives_cond true r s Q f g = f refl
  gives_cond false r s Q f g = g refl

  pub gives_before : (l : List Entry) (r : Run S A) (Q : A → S → Tape → List Entry → Type 0) → Gives r (λ a s p m. Q a s p (l ++ m)) → Gives (before l r) Q
  gives_before l r Q h = go r.verdict h
    where
      go : (v : Verdict A) → GivesAs v r.state r.tape r.log (λ a s p m. Q a s p (l ++ m)) → GivesAs v r.state r.tape (l ++ r.log) Q
      go (going a) h = h
      go refused h = tt
      go (failed n) h = tt

  -- of a run that goes on
  pub gives_out : (r : Run S A) (Q : A → S → Tape → List Entry → Type 0) (a : A) → Gives r Q → r.verdict ≡ going a → Q a r.state r.tape r.log
  gives_out r Q a h e = rw e at h

  -- by the answers that are asked for
  gives_for : (want : Rec → Bool) (p : Tape) (s : S) (k : ℕ → ℕ → Tape → Run S A) (Q : A → S → Tape → List Entry → Type 0)
      → ((r : Rec) (rs : List Rec) → p.rest ≡ r ∷ rs → want r ≡ true → Gives (k r.a r.b (tape r.next rs)) Q) → Gives (heard (ask_for want p p.rest) s k) Q
  unfolding heard heard_as ask_for
  gives_for want p s k Q f = go p.rest refl
    where
      go : (l : List Rec) → p.rest ≡ l → Gives (heard (ask_for want p l) s k) Q
      go [] e = tt
      go (r ∷ rs) e = by (want r) refl
        where
          by : (x : Bool) → want r ≡ x → Gives (heard (ask_for want p (r ∷ rs)) s k) Q
          by true w = rw w (f r rs e w)
          by false w = rw w tt

  pub gives_ask : (p : Tape) (kind : ℕ) (s : S) (k : ℕ → ℕ → Tape → Run S A) (Q : A → S → Tape → List Entry → Type 0)
      → ((r : Rec) (rs : List Rec) → p.rest ≡ r ∷ rs → r.kind ≡ kind → Gives (k r.a r.b (tape r.next rs)) Q) → Gives (heard (ask p kind) s k) Q
  unfolding ask
  gives_ask p kind s k Q f = gives_for (λ r. eqb r.kind kind) p s k Q (λ r rs e w. f r rs e (eqb-true r.kind kind w))

  pub gives_about : (p : Tape) (kind who : ℕ) (s : S) (k : ℕ → ℕ → Tape → Run S A) (Q : A → S → Tape → List Entry → Type 0)
      → ((r : Rec) (rs : List Rec) → p.rest ≡ r ∷ rs → r.kind ≡ kind → r.b ≡ who → Gives (k r.a r.b (tape r.next rs)) Q) → Gives (heard (ask_about p kind who) s k) Q
  unfolding ask_about
  gives_about p kind who s k Q f =
      gives_for (λ r. eqb r.kind kind && eqb r.b who) p s k Q
      (λ r rs e w. let h = and_parts (eqb r.kind kind) (eqb r.b who) w in f r rs e (eqb-true r.kind kind h.0) (eqb-true r.b who h.1))

pub gives_onward : {S A B : Type 0} (r : Run S A) (k : A → S → Tape → Run S B) (Q : B → S → Tape → List Entry → Type 0)
    → Gives r (λ a s p l. Gives (k a s p) (λ b s p m. Q b s p (l ++ m))) → Gives (onward r k) Q
unfolding onward onward_as
gives_onward {A = A} r k Q h = go r.verdict h
  where
    go : (v : Verdict A) → GivesAs v r.state r.tape r.log (λ a s p l. Gives (k a s p) (λ b s p m. Q b s p (l ++ m))) → Gives (onward_as v r k) Q
    go (going a) h = gives_before r.log (k a r.state r.tape) Q h
    go refused h = tt
    go (failed n) h = tt

pub gives_inside : {S T A : Type 0} (put : T → S) (r : Run T A) (Q : A → S → Tape → List Entry → Type 0) → Gives r (λ a t p l. Q a (put t) p l) → Gives (inside put r) Q
gives_inside {A = A} put r Q h = go r.verdict h
  where
    go : (v : Verdict A) → GivesAs v r.state r.tape r.log (λ a t p l. Q a (put t) p l) → GivesAs v (put r.state) r.tape r.log Q
    go (going a) h = h
    go refused h = tt
    go (failed n) h = tt

-- NOTHING TAKEN between ws and r: no value, no decision, no plaintext
pub record Neither (ws r : List Rec) : Type 0 where
  pub value : (q : ℕ) → first_taken of_value q ws ≡ first_taken of_value q r
  pub decision : (q : ℕ) → first_taken of_decision q ws ≡ first_taken of_decision q r
  pub text : (q : ℕ) (who : Option ℕ) → first_decrypted q who ws ≡ first_decrypted q who r
  -- nor a decision by a 5 or 6, and of the subset's kinds nothing is asked for
  pub early : (q : ℕ) → first_taken (within 5 6) q ws ≡ first_taken (within 5 6) q r
  pub asks : (kind : ℕ) → within 3 7 kind ≡ true → (q : ℕ) → is_asked kind q ws ≡ is_asked kind q r

pub neither : (ws : List Rec) → Neither ws ws
neither ws = record { value = λ q. refl; decision = λ q. refl; text = λ q who. refl; early = λ q. refl; asks = λ kind e q. refl }

pub neither_then : {ws r z : List Rec} → Neither ws r → Neither r z → Neither ws z
neither_then a b = record {
  value = λ q. a.value q ∙ b.value q;
  decision = λ q. a.decision q ∙ b.decision q;
  text = λ q who. a.text q who ∙ b.text q who;
  early = λ q. a.early q ∙ b.early q;
  asks = λ kind e q. a.asks kind e q ∙ b.asks kind e q;
}

module _ (r : Rec) (rs : List Rec) where
  -- a record of kind k, by what is computed of k
  pub neither_of : (k : ℕ) → of_value k ≡ false → of_decision k ≡ false → within 5 6 k ≡ false → eqb k 8 ≡ false → eqb k 12 ≡ false → within 3 7 k ≡ false → r.kind ≡ k → Neither (r ∷ rs) rs
  unfolding first_taken first_decrypted concerned_after or_else is_asked
  neither_of k v d l i x s e = record {
    value = λ q. rw (e, v);
    decision = λ q. rw (e, d);
    text = λ q who. rw (e, i, x);
    early = λ q. rw (e, l);
    asks = λ kind among q. rw (e, apart (within 3 7) k kind s among);
  }

  pub neither_1 : r.kind ≡ 1 → Neither (r ∷ rs) rs
  neither_1 e = neither_of 1 refl refl refl refl refl refl e

  pub neither_13 : r.kind ≡ 13 → Neither (r ∷ rs) rs
  neither_13 e = neither_of 13 refl refl refl refl refl refl e

  pub thirteens_1 : r.kind ≡ 1 → thirteens_in (r ∷ rs) ≡ thirteens_in rs
  unfolding thirteens_in
  thirteens_1 e = rw e

  pub thirteens_13 : r.kind ≡ 13 → thirteens_in (r ∷ rs) ≡ r ∷ thirteens_in rs
  unfolding thirteens_in
  thirteens_13 e = rw e

  pub good_tail : (n : ℕ) → Good n (r ∷ rs) → Good n rs
  unfolding GoodFrom
  good_tail n g = record { context = _; good = g.good.1 }

-- THE LISTS OF TWO LOGS
pub outputs_append : (l m : List Entry) → outputs (l ++ m) ≡ outputs l ++ outputs m
unfolding outputs
outputs_append [] m = refl
outputs_append (message k a b ∷ l) m = outputs_append l m
outputs_append (fault k a b ∷ l) m = outputs_append l m
outputs_append (output k a b ∷ l) m = rw (outputs_append l m)

pub faults_append : (l m : List Entry) → faults (l ++ m) ≡ faults l ++ faults m
unfolding faults
faults_append [] m = refl
faults_append (message k a b ∷ l) m = faults_append l m
faults_append (fault k a b ∷ l) m = rw (faults_append l m)
faults_append (output k a b ∷ l) m = faults_append l m
