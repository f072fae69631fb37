-- What was read, by its kinds, and what the chain tells all the same without it. Assumes nothing.
use Rattle.std.proofs.Common.{ℕ, ◌≡◌, refl, ap, ◌∙◌, List, [], ◌∷◌, ◌++◌, append_assoc, Bool, true, false, cond, ◌&&◌, Option, eqb, eqb-true}
use Rattle.std.proofs.lemmas.Bool.{and_parts}
use Rattle.steps.specs.declared.reader.Content.{Content}
use Rattle.steps.specs.Answers.{Got, Refused}
use Rattle.steps.specs.Answers.{Rec, Tape, tape, Asked, asked as answered, ask_for, ask, ask_about}
use Rattle.steps.specs.Table.{context_after}
use Rattle.steps.specs.Parts.{is_part, last_output, parts_from}
use Rattle.steps.specs.Taken.{or_else, first_taken, is_asked, concerned_after, first_decrypted, thirteens_in}
use Rattle.steps.proofs.TakenFromChain.{GoodFrom, Good}
use Rattle.steps.proofs.Parts.{parts_on, parts_off}

-- records of these kinds
unfoldable pub OfKinds : (ℕ → Bool) → List Rec → Type 0
OfKinds is [] = Unit {0}
OfKinds is (r ∷ rs) = (is r.kind ≡ true) × OfKinds is rs

-- between ws and r records of these kinds were read
pub record Past (is : ℕ → Bool) (ws r : List Rec) : Type 0 where
  pub read : List Rec
  pub rests : ws ≡ read ++ r
  pub kinds : OfKinds is read

module _ (is : ℕ → Bool) where
  pub past_same : (ws : List Rec) → Past is ws ws
  unfolding OfKinds
  past_same ws = record { read = []; rests = refl; kinds = tt }

  kinds_append : (a b : List Rec) → OfKinds is a → OfKinds is b → OfKinds is (a ++ b)
  unfolding OfKinds
  kinds_append [] b f g = g
  kinds_append (r ∷ rs) b f g = (f.0, kinds_append rs b f.1 g)

  pub past_then : {ws r z : List Rec} → Past is ws r → Past is r z → Past is ws z
  past_then a b = record {
    read = a.read ++ b.read;
    rests = a.rests ∙ ap (λ l. a.read ++ l) b.rests ∙ rw append_assoc;
    kinds = kinds_append a.read b.read a.kinds b.kinds;
  }

  pub past_one : (r : Rec) (rs : List Rec) → is r.kind ≡ true → Past is (r ∷ rs) rs
  unfolding OfKinds
  past_one r rs e = record { read = r ∷ []; rests = refl; kinds = (e, tt) }

  past_for : (want : Rec → Bool) → ((r : Rec) → want r ≡ true → is r.kind ≡ true) → (p : Tape) → Past is p.rest (ask_for want p p.rest).tape.rest
  unfolding ask_for
  past_for want f p = go p.rest refl
    where
      go : (l : List Rec) → p.rest ≡ l → Past is l (ask_for want p l).tape.rest
      go [] e = rw e (past_same [])
      go (r ∷ rs) e = by (want r) refl
        where
          by : (x : Bool) → want r ≡ x → Past is (r ∷ rs) (cond {A = Asked} x (answered (Got r.a r.b) (tape r.next rs)) (answered Refused p)).tape.rest
          by true t = past_one r rs (f r t)
          by false t = rw e (past_same (r ∷ rs))

  pub past_ask : (p : Tape) (k : ℕ) → is k ≡ true → Past is p.rest (ask p k).tape.rest
  unfolding ask
  past_ask p k e = past_for (λ r. eqb r.kind k) (λ r t. ap is (eqb-true r.kind k t) ∙ e) p

  pub past_about : (p : Tape) (k who : ℕ) → is k ≡ true → Past is p.rest (ask_about p k who).tape.rest
  unfolding ask_about
  past_about p k who e =
      past_for (λ r. eqb r.kind k && eqb r.b who) (λ r t. ap is (eqb-true r.kind k (and_parts (eqb r.kind k) _ t).0) ∙ e) p

  -- the parts of an answer
  pub past_parts_lem : ((k : ℕ) → is_part k ≡ true → is k ≡ true) → (content : Content) (proposer : ℕ) (output : Option ℕ) (i : ℕ) (l : List Rec)
      → Past is l (parts_from content proposer output i l).tape.rest
  unfolding parts_from
  past_parts_lem f content proposer output i [] = past_same []
  past_parts_lem f content proposer output i (r ∷ rs) = go (is_part r.kind) refl (past_parts_lem f content proposer (last_output output r.kind r.b) r.next rs)
    where
      go : (x : Bool) → is_part r.kind ≡ x → Past is rs (parts_from content proposer (last_output output r.kind r.b) r.next rs).tape.rest
          → Past is (r ∷ rs) (parts_from content proposer output i (r ∷ rs)).tape.rest
      go true e l = rw (parts_on content proposer output i r rs e) (past_then (past_one r rs (f r.kind e)) l)
      go false e l = rw (parts_off content proposer output i r rs e) (past_same (r ∷ rs))

  -- WHAT IS TOLD ALL THE SAME, by answers of other kinds
  abbrev pub Others : (ℕ → Bool) → Type 0
  Others of = (k : ℕ) → is k ≡ true → of k ≡ false

  first_on : (of : ℕ → Bool) → Others of → (q : ℕ) (l r : List Rec) → OfKinds is l → first_taken of q (l ++ r) ≡ first_taken of q r
  unfolding OfKinds first_taken or_else
  first_on of f q [] r k = refl
  first_on of f q (x ∷ xs) r k = rw (f x.kind k.0) (first_on of f q xs r k.1)

  pub past_first : (of : ℕ → Bool) → Others of → {ws r : List Rec} → Past is ws r → (q : ℕ) → first_taken of q ws ≡ first_taken of q r
  past_first of f {ws} {r} p q = rw p.rests (first_on of f q p.read r p.kinds)

  asked_on : (kind : ℕ) → Others (λ k. eqb k kind) → (q : ℕ) (l r : List Rec) → OfKinds is l → is_asked kind q (l ++ r) ≡ is_asked kind q r
  unfolding OfKinds is_asked
  asked_on kind f q [] r k = refl
  asked_on kind f q (x ∷ xs) r k = rw (f x.kind k.0) (asked_on kind f q xs r k.1)

  pub past_asked : (kind : ℕ) → Others (λ k. eqb k kind) → {ws r : List Rec} → Past is ws r → (q : ℕ) → is_asked kind q ws ≡ is_asked kind q r
  past_asked kind f {ws} {r} p q = rw p.rests (asked_on kind f q p.read r p.kinds)

  thirteens_on : Others (λ k. eqb k 13) → (l r : List Rec) → OfKinds is l → thirteens_in (l ++ r) ≡ thirteens_in r
  unfolding OfKinds thirteens_in
  thirteens_on f [] r k = refl
  thirteens_on f (x ∷ xs) r k = rw (f x.kind k.0) (thirteens_on f xs r k.1)

  pub past_thirteens : Others (λ k. eqb k 13) → {ws r : List Rec} → Past is ws r → thirteens_in ws ≡ thirteens_in r
  past_thirteens f {ws} {r} p = rw p.rests (thirteens_on f p.read r p.kinds)

  decrypted_on : Others (λ k. eqb k 8) → Others (λ k. eqb k 12) → (q : ℕ) (who : Option ℕ) (l r : List Rec) → OfKinds is l → first_decrypted q who (l ++ r) ≡ first_decrypted q who r
  unfolding OfKinds first_decrypted concerned_after or_else
  decrypted_on f g q who [] r k = refl
  decrypted_on f g q who (x ∷ xs) r k = rw (g x.kind k.0, f x.kind k.0) (decrypted_on f g q who xs r k.1)

  pub past_decrypted : Others (λ k. eqb k 8) → Others (λ k. eqb k 12) → {ws r : List Rec} → Past is ws r → (q : ℕ) (who : Option ℕ) → first_decrypted q who ws ≡ first_decrypted q who r
  past_decrypted f g {ws} {r} p q who = rw p.rests (decrypted_on f g q who p.read r p.kinds)

  good_on : (n : ℕ) (l r : List Rec) (context : ℕ) → GoodFrom n context (l ++ r) → Good n r
  unfolding GoodFrom
  good_on n [] r context g = record { context = context; good = g }
  good_on n (x ∷ xs) r context g = good_on n xs r (context_after context x.kind x.a) g.1

  pub past_good : (n : ℕ) {ws r : List Rec} → Past is ws r → Good n ws → Good n r
  past_good n {ws} {r} p g = good_on n p.read r g.context (rw p.rests at g.good)
