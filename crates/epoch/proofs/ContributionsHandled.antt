-- Contributions that are handled are accepted, and what the words hold of the subset stays. Assumes nothing.
use Rattle.std.proofs.Common.{ℕ, zero, suc, ◌+◌, ◌≤◌, ◌<◌, ◌≡◌, refl, sym, ap, ◌∙◌, List, Bool, true, false, Option, None, Some, arith, length, get_or, eqb, eqb-true}
use Rattle.std.proofs.lemmas.Bool.{eqb-false}
use Rattle.network.specs.declared.network_info.NetworkInfo.{NetworkInfo}
use Rattle.steps.specs.Answers.{Rec, Tape}
use Rattle.steps.specs.Runs.{going, ends}
use Rattle.steps.specs.Taken.{or_else}
use Rattle.subset.specs.Words.{epoch_length, accepted_at, count_at, record_at, value_at, arrival_at, load_proposal}
use Rattle.steps.proofs.AfterRun.{Afterwards, after_map, after_cond, after_onward, Reads, after_about}
use Rattle.proposal.proofs.TakenByProposal.{output_of}
use Rattle.subset.proofs.Invariant.{Held, is_out, there}
use Rattle.subset.proofs.TakenTests.{put_same, put_other, more}
use Rattle.epochwords.specs.declared.SubsetHandlingStrategy.{SubsetHandlingStrategy}
use Rattle.epochwords.specs.Words.{is_accepted, accept, DecryptionState, missing, ongoing, complete, load_decryption, store_decryption}
use Rattle.epoch.specs.Epoch.{call_entry, input_ciphertext, send_decryption_share, handle_contribution, handle_from}
use Rattle.epoch.proofs.QuietLayers.{decryption_kinds}
use Rattle.epoch.proofs.Plaintexts.{reads_eight, reads_past}
use Rattle.epochwords.proofs.EntryStored.{accept_size, accept_word, accept_same, accept_other, accepted_kept}
use Rattle.epoch.proofs.EntryInvariant.{TextOk, text_words, text_stored, text_accept, Opening, opening_same, opening_then, opening_ran, Stays, stays_same, stays_store, input_entry, TextsOk}

-- THE WORDS THAT HANDLING LEAVES
pub record SubsetSame (n : ℕ) (w w' : List ℕ) : Type 0 where
  pub size : length w' ≡ length w
  pub low : (i : ℕ) → i < 16 → (i ≡ accepted_at → ⊥) → get_or w' i 0 ≡ get_or w i 0
  pub words : (q k : ℕ) → k < 8 → (2 ≤ k → k ≡ 7) → get_or w' (record_at n q k) 0 ≡ get_or w (record_at n q k) 0

same_same : (n : ℕ) (w : List ℕ) → SubsetSame n w w
same_same n w = record { size = refl; low = λ i l ne. refl; words = λ q k l f. refl }

same_then : {n : ℕ} {w w' w'' : List ℕ} → SubsetSame n w w' → SubsetSame n w' w'' → SubsetSame n w w''
same_then a b = record { size = b.size ∙ a.size; low = λ i l ne. b.low i l ne ∙ a.low i l ne; words = λ q k l f. b.words q k l f ∙ a.words q k l f }

pub same_stays : {n p : ℕ} {w w' : List ℕ} → Stays n p w w' → SubsetSame n w w'
same_stays s = record { size = s.size; low = λ i l ne. s.low i l; words = s.subset }

same_accept : (n p : ℕ) (w : List ℕ) → SubsetSame n w (accept w p)
same_accept n p w = record { size = accept_size w p; low = λ i l ne. accept_word w p i ne; words = λ q k l f. accept_word w p (record_at n q k) (λ e. omega arith) }

pub held_same : (old : ℕ → Bool) (n : ℕ) (w w' : List ℕ) (v d : ℕ → Option ℕ) → SubsetSame n w w' → Held old n w v d → Held old n w' v d
unfolding load_proposal
held_same old n w w' v d s h = record {
  size = s.size ∙ h.size;
  load = λ q l. rw (s.words q 0 (omega arith) (λ e. omega arith), value q) (h.load q l);
  bits = h.bits;
  count = count ∙ h.count;
  gone = h.gone;
  listed = λ q l t f.
      let k = h.listed q l t f in
      record { index = k.index; below = rw count k.below; who = arrival k.index ∙ k.who };
  entries = λ i q l e. rw (value q) (h.entries i q (rw count at l) (sym (arrival i) ∙ e));
  once = λ i j l r e. h.once i j (rw count at l) (rw count at r) (sym (arrival i) ∙ e ∙ arrival j);
  fresh = λ i l. ap old (arrival i) ∙ h.fresh i (rw count at l);
}
  where
    count : get_or w' count_at 0 ≡ get_or w count_at 0
    count = s.low count_at (omega arith) (λ e. omega arith)

    value : (q : ℕ) → get_or w' (value_at n q) 0 ≡ get_or w (value_at n q) 0
    value q = s.words q 1 (omega arith) (λ e. omega arith)

    arrival : (i : ℕ) → get_or w' (arrival_at n i) 0 ≡ get_or w (arrival_at n i) 0
    arrival i = s.words i 7 (omega arith) (λ e. refl)

-- ONE CONTRIBUTION, before its proposer is accepted, and then
record Accepting (encrypted : Bool) (n p : ℕ) (w : List ℕ) (v t : ℕ → Option ℕ) (who : Option ℕ) (ws : List Rec) (w' : List ℕ) (r : List Rec) : Type 0 where
  t' : ℕ → Option ℕ
  who' : Option ℕ
  opening : Opening t who ws t' who' r
  stays : Stays n p w w'
  text : TextOk encrypted (load_decryption n w' p) true (v p) (t' p)
  others : (q : ℕ) → (q ≡ p → ⊥) → t' q ≡ t q

pub record Contributed (encrypted : Bool) (n p : ℕ) (w : List ℕ) (v t : ℕ → Option ℕ) (who : Option ℕ) (ws : List Rec) (w' : List ℕ) (r : List Rec) : Type 0 where
  pub t' : ℕ → Option ℕ
  pub who' : Option ℕ
  pub opening : Opening t who ws t' who' r
  pub same : SubsetSame n w w'
  pub texts : TextsOk encrypted n w' v t'
  pub here : is_accepted w' p ≡ true
  pub others : (q : ℕ) → (q ≡ p → ⊥) → is_accepted w' q ≡ is_accepted w q

accepting_then : (encrypted : Bool) (n p : ℕ) (w w₁ : List ℕ) (v t : ℕ → Option ℕ) (who : Option ℕ) (ws r : List Rec) → length w ≡ epoch_length n → TextsOk encrypted n w v t
    → Accepting encrypted n p w v t who ws w₁ r → Contributed encrypted n p w v t who ws (accept w₁ p) r
accepting_then encrypted n p w w₁ v t who ws r size k h = record {
  t' = h.t';
  who' = h.who';
  opening = h.opening;
  same = same_then (same_stays h.stays) (same_accept n p w₁);
  texts = λ q l. go q l (eqb q p) refl;
  here = accept_same w₁ p long;
  others = others';
}
  where
    long : 2 < length w₁
    long = omega (arith, h.stays.size, size)

    others' : (q : ℕ) → (q ≡ p → ⊥) → is_accepted (accept w₁ p) q ≡ is_accepted w q
    others' q ne = accept_other w₁ p long q ne ∙ accepted_kept w w₁ (h.stays.low accepted_at (omega arith)) q

    go : (q : ℕ) → q < n → (x : Bool) → eqb q p ≡ x → TextOk encrypted (load_decryption n (accept w₁ p) q) (is_accepted (accept w₁ p) q) (v q) (h.t' q)
    go q l true e =
        rw (eqb-true q p e, accept_same w₁ p long)
        (text_words encrypted n w₁ (accept w₁ p) p true (v p) (h.t' p) (λ j a b. accept_word w₁ p (record_at n p j) (λ z. omega arith)) h.text)
    go q l false e =
        let ne = eqb-false q p e in
        rw (others' q ne, h.others q ne)
        (text_words encrypted n w (accept w₁ p) q (is_accepted w q) (v q) (t q) (λ j a b.
        accept_word w₁ p (record_at n q j) (λ z. omega arith) ∙ h.stays.other q j (omega arith) ne) (k q l))

plain_none : (d : DecryptionState) (a : Bool) (v t : Option ℕ) → TextOk false d a v t → t ≡ None
unfolding TextOk
plain_none missing a v t h = h.0
plain_none (ongoing td) a v t h = h.0
plain_none (complete x) a v t h = h.0

module _ (net : NetworkInfo) (p value : ℕ) (w : List ℕ) (u : Tape) (v t : ℕ → Option ℕ) (who : Option ℕ) (inside : p < net.num_nodes) (size : length w ≡ epoch_length net.num_nodes) where
  abbrev n : ℕ
  n = net.num_nodes

  send_ok : TextsOk true n w v t → Afterwards (send_decryption_share net p value w u) (λ _ w' z. Accepting true n p w v t who u.rest w' z.rest)
  unfolding send_decryption_share
  send_ok k =
      after_about u 8 w _ _ p (λ a b z r.
      after_cond (eqb a 0) _ _ _
      (record {
        t' = t;
        who' = Some p;
        opening = eight z r;
        stays = stays_same n p w;
        text = text_accept (load_decryption n w p) (is_accepted w p) (v p) (t p) (k p inside);
        others = λ q ne. refl;
      })
      (after_map (call_entry net p (input_ciphertext net p value) w z) _ _ (input_entry net p w z inside size value (is_accepted w p) (v p) (t p) (k p inside)) (λ _ w' y h. record {
        t' = more t p h.o;
        who' = Some p;
        opening = opening_then (eight z r) (opening_ran t p z.rest h.o y.rest h.ran);
        stays = h.stays;
        text = rw (put_same t p (or_else (t p) h.o)) h.text;
        others = λ q ne. put_other t p (or_else (t p) h.o) q ne;
      })))
    where
      eight : (z : Tape) → Reads u 8 p z → Opening t who u.rest t (Some p) z.rest
      eight z r = record { past = reads_past decryption_kinds u 8 p z refl r; text = λ q. ap (or_else (t q)) (reads_eight u p z r q who) }

  plain_ok : v p ≡ Some value → TextsOk false n w v t → Accepting false n p w v t who u.rest (store_decryption n w p (complete value)) u.rest
  unfolding TextOk
  plain_ok e k = record {
    t' = t;
    who' = who;
    opening = opening_same t who u.rest;
    stays = stays_store n p w (complete value);
    text = text_stored n p w inside size false (complete value) true (v p) (t p) (plain_none (load_decryption n w p) (is_accepted w p) (v p) (t p) (k p inside), e, refl);
    others = λ q ne. refl;
  }

  pub contribution_ok : (strategy : SubsetHandlingStrategy) (encrypted : Bool) → v p ≡ Some value → TextsOk encrypted n w v t
      → Afterwards (handle_contribution net strategy encrypted p value w u) (λ _ w' z. Contributed encrypted n p w v t who u.rest w' z.rest)
  unfolding handle_contribution
  contribution_ok strategy true e k =
      after_onward (send_decryption_share net p value w u) _ _
      (after_map (send_decryption_share net p value w u) _ _ (send_ok k) (λ _ w' z h. accepting_then true n p w w' v t who u.rest z.rest size k h))
  contribution_ok strategy false e k =
      after_onward (ends {A = Unit {0}} (going tt) (store_decryption n w p (complete value)) u) _ _
      (accepting_then false n p w (store_decryption n w p (complete value)) v t who u.rest u.rest size k (plain_ok e k))

-- THE CONTRIBUTIONS from the i-th on, m of them
pub record Looped (encrypted : Bool) (n m i : ℕ) (w : List ℕ) (v d t : ℕ → Option ℕ) (who : Option ℕ) (ws : List Rec) (w' : List ℕ) (r : List Rec) : Type 0 where
  pub t' : ℕ → Option ℕ
  pub who' : Option ℕ
  pub opening : Opening t who ws t' who' r
  pub same : SubsetSame n w w'
  pub texts : TextsOk encrypted n w' v t'
  -- those accepted stay so, and they are the ones that are handled, and outputs
  pub grows : (q : ℕ) → is_accepted w q ≡ true → is_accepted w' q ≡ true
  pub handled : (j : ℕ) → i ≤ j → j < i + m → is_accepted w' (get_or w (arrival_at n j) 0) ≡ true
  pub outs : ((q : ℕ) → q < n → is_accepted w q ≡ true → is_out v d q ≡ true) → (q : ℕ) → q < n → is_accepted w' q ≡ true → is_out v d q ≡ true

-- an output is of a value
pub output_value : (a b : Option ℕ) (x : ℕ) → output_of a b ≡ Some x → a ≡ Some x
output_value None b x e = let z : ◌≡◌ {A = ℕ} 0 1 = cc in absurd (omega arith)
output_value (Some v) None x e = let z : ◌≡◌ {A = ℕ} 0 1 = cc in absurd (omega arith)
output_value (Some v) (Some zero) x e = let z : ◌≡◌ {A = ℕ} 0 1 = cc in absurd (omega arith)
output_value (Some v) (Some (suc d)) x e = e

module _ (net : NetworkInfo) (strategy : SubsetHandlingStrategy) (encrypted : Bool) (old : ℕ → Bool) (v d : ℕ → Option ℕ) where
  abbrev N : ℕ
  N = net.num_nodes

  looped_more : (m i : ℕ) (w w₁ w₂ : List ℕ) (t : ℕ → Option ℕ) (who : Option ℕ) (ws r z : List Rec) (p : ℕ) → get_or w (arrival_at N i) 0 ≡ p → is_out v d p ≡ true
      → (a : Contributed encrypted N p w v t who ws w₁ r) → Looped encrypted N m (i + 1) w₁ v d a.t' a.who' r w₂ z → Looped encrypted N (suc m) i w v d t who ws w₂ z
  looped_more m i w w₁ w₂ t who ws r z p who_is out a b = record {
    t' = b.t';
    who' = b.who';
    opening = opening_then a.opening b.opening;
    same = same_then a.same b.same;
    texts = b.texts;
    grows = λ q e. b.grows q (stays q e (eqb q p) refl);
    handled = λ j l h. at j l h (eqb j i) refl;
    outs = λ f. b.outs (λ q l e. was f q l e (eqb q p) refl);
  }
    where
      stays : (q : ℕ) → is_accepted w q ≡ true → (x : Bool) → eqb q p ≡ x → is_accepted w₁ q ≡ true
      stays q e true x = rw (eqb-true q p x) a.here
      stays q e false x = a.others q (eqb-false q p x) ∙ e

      was : ((q : ℕ) → q < N → is_accepted w q ≡ true → is_out v d q ≡ true) → (q : ℕ) → q < N → is_accepted w₁ q ≡ true → (x : Bool) → eqb q p ≡ x → is_out v d q ≡ true
      was f q l e true x = rw (eqb-true q p x) out
      was f q l e false x = f q l (sym (a.others q (eqb-false q p x)) ∙ e)

      at : (j : ℕ) → i ≤ j → j < i + suc m → (x : Bool) → eqb j i ≡ x → is_accepted w₂ (get_or w (arrival_at N j) 0) ≡ true
      at j l h true x = b.grows (get_or w (arrival_at N j) 0) (rw (eqb-true j i x, who_is) a.here)
      at j l h false x =
          let ne = eqb-false j i x in
          let same : get_or w₁ (arrival_at N j) 0 ≡ get_or w (arrival_at N j) 0 = a.same.words j 7 (omega arith) (λ e. refl) in
          rw same at (b.handled j (omega arith) (omega arith))

  pub handle_ok : (m i : ℕ) (w : List ℕ) (u : Tape) (t : ℕ → Option ℕ) (who : Option ℕ) → Held old N w v d → TextsOk encrypted N w v t → i + m ≤ get_or w count_at 0
      → Afterwards (handle_from net strategy encrypted m i w u) (λ _ w' z. Looped encrypted N m i w v d t who u.rest w' z.rest)
  unfolding handle_from
  handle_ok zero i w u t who h k l = record {
    t' = t;
    who' = who;
    opening = opening_same t who u.rest;
    same = same_same N w;
    texts = k;
    grows = λ q e. e;
    handled = λ j a b. absurd (omega arith);
    outs = λ f. f;
  }
  handle_ok (suc m) i w u t who h k l =
      after_onward (handle_contribution net strategy encrypted p (get_or w (value_at N p) 0) w u) _ _
      (after_map (handle_contribution net strategy encrypted p (get_or w (value_at N p) 0) w u) _ _
      (contribution_ok net p (get_or w (value_at N p) 0) w u v t who entry.0 h.size strategy encrypted (output_value (v p) (d p) (get_or w (value_at N p) 0) entry.1) k) (λ _ w₁ z a.
      after_map (handle_from net strategy encrypted m (i + 1) w₁ z) _ _
      (handle_ok m (i + 1) w₁ z a.t' a.who' (held_same old N w w₁ v d a.same h) a.texts (omega (arith, a.same.low count_at (omega arith) (λ e. omega arith)))) (λ _ w₂ y b.
      looped_more m i w w₁ w₂ t who u.rest z.rest y.rest p refl (there (output_of (v p) (d p)) (get_or w (value_at N p) 0) entry.1) a b)))
    where
      p : ℕ
      p = get_or w (arrival_at N i) 0

      entry : (p < N) × (output_of (v p) (d p) ≡ Some (get_or w (value_at N p) 0))
      entry = h.entries i p (omega arith) refl
