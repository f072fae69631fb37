-- Two hosts whose values, decisions and readings are alike hand out the same batch of an epoch. Assumes nothing.
use Rattle.std.proofs.Common.{ℕ, ◌<◌, arith, ◌≡◌, refl, sym, ap, ◌∙◌, ◌⊎◌, inl, inr, List, [], ◌∷◌, ◌++◌, Bool, true, false, cond, ◌&&◌, Option, None, Some, eqb, length, eqb-true}
use mathlib.Core.List.Memᴰ
use mathlib.Core.List.{Memᴰ}
use Rattle.std.proofs.lemmas.Bool.{and_parts, false≢true}
use Rattle.std.proofs.lemmas.Option.{none-some}
use Rattle.steps.specs.Answers.{Rec}
use Rattle.steps.specs.Taken.{or_else, is_true, concerned_after, concerns, first_decrypted}
use Rattle.steps.specs.Batches.{BatchEntry, Batch}
use Rattle.agreement.specs.History.{Event, plaintext, decision_taken, value_taken, decrypted, Handed, handed, names_of, unreadable_in, unreadable, Reading, reading_of, value_concerned, readings_at, readings_in, readings_of13, readings_of_batches, readings_of_calls, readings}
use Rattle.agreement.specs.Demand3.{Premises}
use Rattle.agreement.proofs.OneBatch.{entries_of}
use Rattle.agreement.proofs.BatchesDealt.{InAll, there, is_true_lem, names_same, of_names}

-- WHAT WAS READ is among the readings
abbrev reading : ℕ → ℕ → ℕ → ℕ → Reading
reading kind subject a b = record { kind = kind; subject = subject; a = a; b = b }

some_of : (o u : Option ℕ) (x : ℕ) → or_else o u ≡ Some x → (o ≡ Some x) ⊎ (u ≡ Some x)
unfolding or_else
some_of None u x e = inr e
some_of (Some y) u x e = inl e

concerned : (who : Option ℕ) (p : ℕ) → concerns who p ≡ true → who ≡ Some p
unfolding concerns
concerned None p e = absurd (false≢true e)
concerned (Some q) p e = ap Some (eqb-true q p e)

-- a 12 that gave a plaintext
module _ (value : ℕ → Option ℕ) (p v : ℕ) (is : value p ≡ Some v) where
  at_12 : (who : Option ℕ) (r : Rec) → r.kind ≡ 12 → who ≡ Some p → readings_at value who r ≡ reading 12 v r.a r.b ∷ []
  unfolding readings_at reading_of value_concerned
  at_12 who r ek ew = rw (ek, ew, is)

  found_in : (who : Option ℕ) (rs : List Rec) (x : ℕ) → first_decrypted p who rs ≡ Some x → (a : ℕ) × Memᴰ (reading 12 v a x) (readings_in value who rs)
  unfolding first_decrypted readings_in or_else
  found_in who [] x e = absurd (none-some x e)
  found_in who (r ∷ rs) x e = go (eqb r.kind 12 && concerns who p) refl e (found_in (concerned_after who r) rs x)
    where
      go : (t : Bool) → eqb r.kind 12 && concerns who p ≡ t → or_else (cond t (Some r.b) None) (first_decrypted p (concerned_after who r) rs) ≡ Some x
          → (first_decrypted p (concerned_after who r) rs ≡ Some x → (a : ℕ) × Memᴰ (reading 12 v a x) (readings_in value (concerned_after who r) rs))
          → (a : ℕ) × Memᴰ (reading 12 v a x) (readings_at value who r ++ readings_in value (concerned_after who r) rs)
      go true t e ih =
          let h = and_parts (eqb r.kind 12) (concerns who p) t in
          let z : r.b ≡ x = cc in
          (r.a, rw (at_12 who r (eqb-true r.kind 12 h.0) (concerned who p h.1), z) (Memᴰ.head refl))
      go false t e ih = let y = ih e in (y.0, Memᴰ.append_right (readings_at value who r) y.1)

found_12 : (whole h : List Event) (e p v x : ℕ) → value_taken whole e p ≡ Some v → decrypted h e p ≡ Some x → (a : ℕ) × Memᴰ (reading 12 v a x) (readings_of_calls whole h)
unfolding decrypted readings_of_calls or_else
found_12 whole [] e p v x is k = absurd (none-some x k)
found_12 whole (y ∷ ys) e p v x is k = go (eqb y.epoch e) refl k (found_12 whole ys e p v x is)
  where
    go : (t : Bool) → eqb y.epoch e ≡ t → or_else (cond t (first_decrypted p y.share_of y.answers) None) (decrypted ys e p) ≡ Some x
        → (decrypted ys e p ≡ Some x → (a : ℕ) × Memᴰ (reading 12 v a x) (readings_of_calls whole ys))
        → (a : ℕ) × Memᴰ (reading 12 v a x) (readings_in (value_taken whole y.epoch) y.share_of y.answers ++ readings_of_calls whole ys)
    go true t k ih = by (some_of (first_decrypted p y.share_of y.answers) (decrypted ys e p) x k)
      where
        by : (first_decrypted p y.share_of y.answers ≡ Some x) ⊎ (decrypted ys e p ≡ Some x)
            → (a : ℕ) × Memᴰ (reading 12 v a x) (readings_in (value_taken whole y.epoch) y.share_of y.answers ++ readings_of_calls whole ys)
        by (inl i) =
            let z = found_in (value_taken whole y.epoch) p v (rw (eqb-true y.epoch e t) is) y.share_of y.answers x i in
            (z.0, Memᴰ.append_left (readings_of_calls whole ys) z.1)
        by (inr i) = let z = ih i in (z.0, Memᴰ.append_right (readings_in (value_taken whole y.epoch) y.share_of y.answers) z.1)
    go false t k ih = let z = ih k in (z.0, Memᴰ.append_right (readings_in (value_taken whole y.epoch) y.share_of y.answers) z.1)

-- a 13 of a batch
at_13 : (text : ℕ → Option ℕ) (r y : Rec) (s : ℕ) → r ≡ y → text r.b ≡ Some s → reading_of 13 (text y.b) y ≡ reading 13 s r.a r.b ∷ []
unfolding reading_of
at_13 text r y s i e = rw (← i, e)

found_13 : (text : ℕ → Option ℕ) (rs : List Rec) (r : Rec) (s : ℕ) → Memᴰ r rs → text r.b ≡ Some s → Memᴰ (reading 13 s r.a r.b) (readings_of13 text rs)
unfolding readings_of13
found_13 text [] r s m e = absurd (Memᴰ.not-nil m)
found_13 text (y ∷ rs) r s m e = go (Memᴰ.cases_cons m) (λ k. found_13 text rs r s k e)
  where
    go : (r ≡ y) ⊎ Memᴰ r rs → (Memᴰ r rs → Memᴰ (reading 13 s r.a r.b) (readings_of13 text rs))
        → Memᴰ (reading 13 s r.a r.b) (reading_of 13 (text y.b) y ++ readings_of13 text rs)
    go (inl i) ih = rw (at_13 text r y s i e) (Memᴰ.head refl)
    go (inr k) ih = Memᴰ.append_right (reading_of 13 (text y.b) y) (ih k)

found_batch : (encrypted : ℕ → Bool) (h : List Event) (hs : List Handed) (x : Handed) (y : Reading) → Memᴰ x hs
    → Memᴰ y (readings_of13 (plaintext encrypted h x.batch.epoch) x.thirteens) → Memᴰ y (readings_of_batches encrypted h hs)
unfolding readings_of_batches
found_batch encrypted h [] x y m k = absurd (Memᴰ.not-nil m)
found_batch encrypted h (z ∷ hs) x y m k = go (Memᴰ.cases_cons m) (λ i. found_batch encrypted h hs x y i k)
  where
    go : (x ≡ z) ⊎ Memᴰ x hs → (Memᴰ x hs → Memᴰ y (readings_of_batches encrypted h hs))
        → Memᴰ y (readings_of13 (plaintext encrypted h z.batch.epoch) z.thirteens ++ readings_of_batches encrypted h hs)
    go (inl e) ih = Memᴰ.append_left (readings_of_batches encrypted h hs) (rw e at k)
    go (inr i) ih = Memᴰ.append_right (readings_of13 (plaintext encrypted h z.batch.epoch) z.thirteens) (ih i)

-- EQUAL 13s
name_in : (rs : List Rec) (r : Rec) → Memᴰ r rs → Memᴰ r.b (names_of rs)
unfolding names_of
name_in [] r m = absurd (Memᴰ.not-nil m)
name_in (y ∷ rs) r m = go (Memᴰ.cases_cons m) (name_in rs r)
  where
    go : (r ≡ y) ⊎ Memᴰ r rs → (Memᴰ r rs → Memᴰ r.b (names_of rs)) → Memᴰ r.b (y.b ∷ names_of rs)
    go (inl e) ih = Memᴰ.head (ap (λ (z : Rec). z.b) e)
    go (inr k) ih = Memᴰ.tail (ih k)

same_reads : (t u : ℕ → ℕ) (rs ss : List Rec) → names_of rs ≡ names_of ss
    → ((r s : Rec) → Memᴰ r rs → Memᴰ s ss → r.b ≡ s.b → (r.a ≡ s.a) × (t r.b ≡ u s.b))
    → (entries_of t rs ≡ entries_of u ss) × (unreadable_in rs ≡ unreadable_in ss)
unfolding names_of entries_of unreadable_in
same_reads t u [] [] e k = (refl, refl)
same_reads t u [] (s ∷ ss) e k = absurd (omega (arith, ap length e))
same_reads t u (r ∷ rs) [] e k = absurd (omega (arith, ap length e))
same_reads t u (r ∷ rs) (s ∷ ss) e k =
    let b : r.b ≡ s.b = cc in
    let es : names_of rs ≡ names_of ss = cc in
    let one = k r s (Memᴰ.head refl) (Memᴰ.head refl) b in
    let ih = same_reads t u rs ss es (λ x y m i. k x y (Memᴰ.tail m) (Memᴰ.tail i)) in
    (rw (one.0, one.1, b, ih.0), rw (one.0, b, ih.1))

same_batch : (x y : Batch) → x.epoch ≡ y.epoch → x.count ≡ y.count → x.entries ≡ y.entries → x ≡ y
same_batch x y e c k =
    ap (λ (z : ℕ). record { epoch = z; count = x.count; entries = x.entries }) e
    ∙ (ap (λ (z : ℕ). record { epoch = y.epoch; count = z; entries = x.entries }) c
    ∙ ap (λ (z : List BatchEntry). record { epoch = y.epoch; count = y.count; entries = z }) k)

-- TWO BATCHES OF ONE EPOCH
module _ (n f : ℕ) (encrypted : ℕ → Bool) (h₁ h₂ : List Event) (same : Premises n encrypted h₁ h₂) (x y : Handed)
    (mx : Memᴰ x (handed n encrypted h₁)) (my : Memᴰ y (handed n encrypted h₂)) (e : x.batch.epoch ≡ y.batch.epoch)
    (k₁ : InAll n f encrypted h₁ x.batch x.thirteens) (k₂ : InAll n f encrypted h₂ y.batch y.thirteens) where
  abbrev epoch : ℕ
  epoch = x.batch.epoch

  decisions : (q : ℕ) → q < n → decision_taken h₁ epoch q ≡ decision_taken h₂ y.batch.epoch q
  decisions q l =
      let a = there (decision_taken h₁ epoch q) (k₁.decided q l) in
      let b = there (decision_taken h₂ y.batch.epoch q) (k₂.decided q l) in
      a.1 ∙ (ap Some (same.decisions epoch q a.0 b.0 a.1 (rw e b.1)) ∙ sym b.1)

  names : names_of x.thirteens ≡ names_of y.thirteens
  names =
      k₁.named
      ∙ (names_same (λ q. is_true (decision_taken h₁ epoch q)) (λ q. is_true (decision_taken h₂ y.batch.epoch q)) n 0 (λ q a l. ap is_true (decisions q (omega arith)))
      ∙ sym k₂.named)

  in_first : (z : Reading) → Memᴰ z (readings n encrypted h₁) → Memᴰ z (readings n encrypted h₁ ++ readings n encrypted h₂)
  in_first z m = Memᴰ.append_left (readings n encrypted h₂) m

  in_second : (z : Reading) → Memᴰ z (readings n encrypted h₂) → Memᴰ z (readings n encrypted h₁ ++ readings n encrypted h₂)
  in_second z m = Memᴰ.append_right (readings n encrypted h₁) m

  texts : (q : ℕ) → q < n → is_true (decision_taken h₁ epoch q) ≡ true → k₁.text q ≡ k₂.text q
  texts q l t = go (encrypted epoch) (k₁.texts q l t) (rw (← e) at (k₂.texts q l t₂))
    where
      t₂ : is_true (decision_taken h₂ y.batch.epoch q) ≡ true
      t₂ = rw (← decisions q l) t

      go : (c : Bool) → cond c (decrypted h₁ epoch q) (value_taken h₁ epoch q) ≡ Some (k₁.text q) → cond c (decrypted h₂ epoch q) (value_taken h₂ epoch q) ≡ Some (k₂.text q)
          → k₁.text q ≡ k₂.text q
      go true a b =
          let u = there (value_taken h₁ epoch q) (k₁.known q l t) in
          let v = there (value_taken h₂ epoch q) (rw (← e) at (k₂.known q l t₂)) in
          let i = found_12 h₁ h₁ epoch q u.0 (k₁.text q) u.1 a in
          let j = found_12 h₂ h₂ epoch q v.0 (k₂.text q) v.1 b in
          (same.readings (reading 12 u.0 i.0 (k₁.text q)) (reading 12 v.0 j.0 (k₂.text q))
          (in_first _ (Memᴰ.append_left _ i.1)) (in_second _ (Memᴰ.append_left _ j.1)) refl (same.values epoch q u.0 v.0 u.1 v.1)).1 refl
      go false a b = same.values epoch q (k₁.text q) (k₂.text q) a b

  reads : (r s : Rec) → Memᴰ r x.thirteens → Memᴰ s y.thirteens → r.b ≡ s.b → (r.a ≡ s.a) × (k₁.text r.b ≡ k₂.text s.b)
  unfolding plaintext
  reads r s mr ms b =
      let d = of_names n f encrypted h₁ x k₁ r.b (name_in x.thirteens r mr) in
      let c = of_names n f encrypted h₂ y k₂ s.b (name_in y.thirteens s ms) in
      let t₁ = is_true_lem (decision_taken h₁ epoch r.b) d.1 in
      let t₂ = is_true_lem (decision_taken h₂ y.batch.epoch s.b) c.1 in
      let eq : k₁.text r.b ≡ k₂.text s.b = texts r.b d.0 t₁ ∙ ap k₂.text b in
      let i = found_13 (plaintext encrypted h₁ epoch) x.thirteens r (k₁.text r.b) mr (k₁.texts r.b d.0 t₁) in
      let j = found_13 (plaintext encrypted h₂ y.batch.epoch) y.thirteens s (k₂.text s.b) ms (k₂.texts s.b c.0 t₂) in (
        (same.readings (reading 13 (k₁.text r.b) r.a r.b) (reading 13 (k₂.text s.b) s.a s.b)
            (in_first _ (Memᴰ.append_right (readings_of_calls h₁ h₁) (found_batch encrypted h₁ (handed n encrypted h₁) x _ mx i)))
            (in_second _ (Memᴰ.append_right (readings_of_calls h₂ h₂) (found_batch encrypted h₂ (handed n encrypted h₂) y _ my j))) refl eq).0,
        eq,
      )

  pub alike : (x.batch ≡ y.batch) × (unreadable x ≡ unreadable y)
  alike =
      let z = same_reads k₁.text k₂.text x.thirteens y.thirteens names reads in
      let es : x.batch.entries ≡ y.batch.entries = k₁.entries ∙ (z.0 ∙ sym k₂.entries) in
      (same_batch x.batch y.batch e (k₁.count ∙ (ap length es ∙ sym k₂.count)) es, z.1)
