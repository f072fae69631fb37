-- Cutting the list of contributions and finishing an epoch's subset, and what of the words they leave. Assumes nothing.
use Rattle.std.proofs.Common.{ℕ, zero, suc, ◌+◌, ◌-◌, ◌≤◌, ◌<◌, ◌≡◌, refl, sym, ap, ◌∙◌, List, Bool, true, false, cond, Option, None, Some, arith, length, get_or, set, length-set, get_or-set_same, get_or-set_other, eqb, eqb-true}
use Rattle.std.proofs.lemmas.Bool.{false≢true, eqb-false}
use Rattle.std.proofs.Math.Bool.{and-not_self}
use Rattle.network.specs.declared.network_info.NetworkInfo.{NetworkInfo}
use Rattle.steps.specs.Answers.{Tape}
use Rattle.steps.specs.Runs.{going, ends, before}
use Rattle.proposal.specs.declared.ProposalState.TheVariants.{Ongoing, HasValue, Accepted, Complete}
use Rattle.subset.specs.Words.{epoch_length, status_at, decided_at, accepted_at, count_at, record_at, proposal_at, value_at, arrival_at, proposal_of, load_proposal, drop_from}
use Rattle.steps.proofs.AfterRun.{Afterwards, after_map, after_onward}
use Rattle.proposal.proofs.TakenByProposal.{state_of, output_of}
use Rattle.subset.proofs.Counts.{count_if}
use Rattle.subset.proofs.ProposalStored.{apart, differ}
use Rattle.subset.proofs.Invariant.{Held, is_out, is_new}
use Rattle.epochwords.specs.Words.{is_accepted, missing, load_decryption, store_decryption}
use Rattle.epoch.specs.Epoch.{first_contributions, unexpected_shares, subset_complete, proposal_dropped, finish_at, finish_from}
use Rattle.epochwords.proofs.EntryStored.{accepted_kept}
use Rattle.epoch.proofs.EntryInvariant.{TextOk, text_words, text_stored, text_drop, Stays, stays_store, TextsOk}

-- CUTTING THE LIST. The words that are neither a value nor an arrival stay
module _ (n : ℕ) where
  drop_word : (m i : ℕ) (w : List ℕ) (k : ℕ) → ((q : ℕ) → k ≡ value_at n q → ⊥) → ((q : ℕ) → k ≡ arrival_at n q → ⊥) → get_or (drop_from n m i w) k 0 ≡ get_or w k 0
  unfolding drop_from
  drop_word zero i w k f g = refl
  drop_word (suc m) i w k f g =
      let p = get_or w (arrival_at n i) 0 in
      drop_word m (i + 1) (set (set w (value_at n p) 0) (arrival_at n i) 0) k f g
      ∙ get_or-set_other (set w (value_at n p) 0) (arrival_at n i) k 0 0 (g i)
      ∙ get_or-set_other w (value_at n p) k 0 0 (f p)

  drop_size : (m i : ℕ) (w : List ℕ) → length (drop_from n m i w) ≡ length w
  unfolding drop_from
  drop_size zero i w = refl
  drop_size (suc m) i w =
      let p = get_or w (arrival_at n i) 0 in
      drop_size m (i + 1) (set (set w (value_at n p) 0) (arrival_at n i) 0) ∙ length-set (set w (value_at n p) 0) (arrival_at n i) 0 ∙ length-set w (value_at n p) 0

  -- a proposal that is complete has no value any more
  cleared : (tag x y : ℕ) → proposal_of tag x ≡ Complete true → proposal_of tag y ≡ proposal_of tag x
  unfolding proposal_of
  cleared tag x y e = go (eqb tag 0) (eqb tag 1) (eqb tag 2) (eqb tag 3) e
    where
      go : (a b c d : Bool) → cond a Ongoing (cond b (HasValue x) (cond c Accepted (cond d (Complete false) (Complete true)))) ≡ Complete true
          → cond a Ongoing (cond b (HasValue y) (cond c Accepted (cond d (Complete false) (Complete true)))) ≡ cond a Ongoing (cond b (HasValue x) (cond c Accepted (cond d (Complete false) (Complete true))))
      go true b c d e = refl
      go false true c d e = let z : ◌≡◌ {A = ℕ} 0 1 = cc in absurd (omega arith)
      go false false c d e = refl

  drop_load : (m i : ℕ) (w : List ℕ) → ((j : ℕ) → i ≤ j → j < i + m → load_proposal n w (get_or w (arrival_at n j) 0) ≡ Complete true)
      → (q : ℕ) → load_proposal n (drop_from n m i w) q ≡ load_proposal n w q
  unfolding drop_from load_proposal
  drop_load zero i w f q = refl
  drop_load (suc m) i w f q = drop_load m (i + 1) w₁ after q ∙ one q (eqb q p) refl
    where
      p : ℕ
      p = get_or w (arrival_at n i) 0

      w₁ : List ℕ
      w₁ = set (set w (value_at n (get_or w (arrival_at n i) 0)) 0) (arrival_at n i) 0

      tag : (q : ℕ) → get_or w₁ (proposal_at n q) 0 ≡ get_or w (proposal_at n q) 0
      tag q =
          get_or-set_other (set w (value_at n p) 0) (arrival_at n i) (proposal_at n q) 0 0 (differ n q i 0 7 (omega arith) (omega arith) (λ e. omega arith))
          ∙ get_or-set_other w (value_at n p) (proposal_at n q) 0 0 (differ n q p 0 1 (omega arith) (omega arith) (λ e. omega arith))

      one : (q : ℕ) (x : Bool) → eqb q p ≡ x → proposal_of (get_or w₁ (proposal_at n q) 0) (get_or w₁ (value_at n q) 0) ≡ proposal_of (get_or w (proposal_at n q) 0) (get_or w (value_at n q) 0)
      one q true t =
          rw (tag q) (cleared (get_or w (proposal_at n q) 0) (get_or w (value_at n q) 0) (get_or w₁ (value_at n q) 0) (rw (eqb-true q p t) (f i (omega arith) (omega arith))))
      one q false t =
          let ne = eqb-false q p t in
          let value : get_or w₁ (value_at n q) 0 ≡ get_or w (value_at n q) 0 =
          get_or-set_other (set w (value_at n p) 0) (arrival_at n i) (value_at n q) 0 0 (differ n q i 1 7 (omega arith) (omega arith) (λ e. omega arith))
          ∙ get_or-set_other w (value_at n p) (value_at n q) 0 0 (apart n q p 1 1 (omega arith) (omega arith) ne) in
          rw (tag q, value)

      arrival : (j : ℕ) → (j ≡ i → ⊥) → get_or w₁ (arrival_at n j) 0 ≡ get_or w (arrival_at n j) 0
      arrival j ne =
          get_or-set_other (set w (value_at n p) 0) (arrival_at n i) (arrival_at n j) 0 0 (apart n j i 7 7 (omega arith) (omega arith) ne)
          ∙ get_or-set_other w (value_at n p) (arrival_at n j) 0 0 (differ n j p 7 1 (omega arith) (omega arith) (λ e. omega arith))

      after : (j : ℕ) → i + 1 ≤ j → j < i + 1 + m → load_proposal n w₁ (get_or w₁ (arrival_at n j) 0) ≡ Complete true
      after j l h =
          let a : get_or w₁ (arrival_at n j) 0 ≡ get_or w (arrival_at n j) 0 = arrival j (λ e. omega arith) in
          ap (λ r. proposal_of (get_or w₁ (proposal_at n r) 0) (get_or w₁ (value_at n r) 0)) a
          ∙ one (get_or w (arrival_at n j) 0) (eqb (get_or w (arrival_at n j) 0) p) refl
          ∙ f j (omega arith) (omega arith)

-- an output is of a complete proposal
output_complete : (a b : Option ℕ) (x : ℕ) → output_of a b ≡ Some x → state_of a b ≡ Complete true
output_complete None b x e = let z : ◌≡◌ {A = ℕ} 0 1 = cc in absurd (omega arith)
output_complete (Some v) None x e = let z : ◌≡◌ {A = ℕ} 0 1 = cc in absurd (omega arith)
output_complete (Some v) (Some zero) x e = let z : ◌≡◌ {A = ℕ} 0 1 = cc in absurd (omega arith)
output_complete (Some v) (Some (suc d)) x e = refl

none_new : (v d : ℕ → Option ℕ) (m p : ℕ) → count_if (is_new (is_out v d) v d) m p ≡ 0
unfolding count_if
none_new v d zero p = refl
none_new v d (suc m) p = rw (and-not_self (is_out v d p)) (omega (arith, none_new v d m (p + 1)))

module _ (n : ℕ) (w : List ℕ) where
  abbrev cut : List ℕ
  cut = first_contributions n 0 w

  pub cut_word : (k : ℕ) → (k ≡ count_at → ⊥) → ((q : ℕ) → k ≡ value_at n q → ⊥) → ((q : ℕ) → k ≡ arrival_at n q → ⊥) → get_or cut k 0 ≡ get_or w k 0
  unfolding first_contributions
  cut_word k c f g =
      get_or-set_other (drop_from n (get_or w count_at 0 - 0) 0 w) count_at k 0 0 c
      ∙ drop_word n (get_or w count_at 0 - 0) 0 w k f g

  pub cut_held : (old : ℕ → Bool) (v d : ℕ → Option ℕ) → Held old n w v d → Held (is_out v d) n cut v d
  unfolding first_contributions load_proposal
  cut_held old v d h = record {
    size = sized;
    load = λ q l.
        rw (
          get_or-set_other (drop_from n (get_or w count_at 0 - 0) 0 w) count_at (proposal_at n q) 0 0 (λ e. omega arith),
          get_or-set_other (drop_from n (get_or w count_at 0 - 0) 0 w) count_at (value_at n q) 0 0 (λ e. omega arith),
        )
        (drop_load n (get_or w count_at 0 - 0) 0 w complete q ∙ h.load q l);
    bits = h.bits;
    count = counted ∙ sym (none_new v d n 0);
    gone = λ q e. e;
    listed = λ q l t f. absurd (false≢true (sym f ∙ t));
    entries = λ i q l e. absurd (omega (arith, counted));
    once = λ i j l r e. absurd (omega (arith, counted));
    fresh = λ i l. absurd (omega (arith, counted));
  }
    where
      sized : length cut ≡ epoch_length n
      sized = length-set (drop_from n (get_or w count_at 0 - 0) 0 w) count_at 0 ∙ drop_size n (get_or w count_at 0 - 0) 0 w ∙ h.size

      counted : get_or cut count_at 0 ≡ 0
      counted = get_or-set_same (drop_from n (get_or w count_at 0 - 0) 0 w) count_at 0 0 (omega (arith, drop_size n (get_or w count_at 0 - 0) 0 w, h.size))

      complete : (j : ℕ) → 0 ≤ j → j < 0 + (get_or w count_at 0 - 0) → load_proposal n w (get_or w (arrival_at n j) 0) ≡ Complete true
      complete j a b =
          let p = get_or w (arrival_at n j) 0 in
          let e = h.entries j p (omega arith) refl in
          h.load p e.0 ∙ output_complete (v p) (d p) (get_or w (value_at n p) 0) e.1

-- FINISHING: no answer is read, and the accepted proposers and all entries that matter stay
pub record Finished (encrypted : Bool) (n : ℕ) (w : List ℕ) (v t : ℕ → Option ℕ) (u : Tape) (w' : List ℕ) (z : Tape) : Type 0 where
  pub tape : z ≡ u
  pub size : length w' ≡ length w
  pub low : (i : ℕ) → i < 16 → get_or w' i 0 ≡ get_or w i 0
  pub texts : TextsOk encrypted n w' v t

module _ (n p : ℕ) (w : List ℕ) where
  dropped_size : length (proposal_dropped n w p) ≡ length w
  unfolding proposal_dropped
  dropped_size = length-set (set w (proposal_at n p) 0) (value_at n p) 0 ∙ length-set w (proposal_at n p) 0

  dropped_word : (i : ℕ) → (i ≡ proposal_at n p → ⊥) → (i ≡ value_at n p → ⊥) → get_or (proposal_dropped n w p) i 0 ≡ get_or w i 0
  unfolding proposal_dropped
  dropped_word i a b = get_or-set_other (set w (proposal_at n p) 0) (value_at n p) i 0 0 b ∙ get_or-set_other w (proposal_at n p) i 0 0 a

  dropped_low : (i : ℕ) → i < 16 → get_or (proposal_dropped n w p) i 0 ≡ get_or w i 0
  dropped_low i l = dropped_word i (λ e. omega arith) (λ e. omega arith)

  dropped_entry : (q j : ℕ) → 2 ≤ j → j < 5 → get_or (proposal_dropped n w p) (record_at n q j) 0 ≡ get_or w (record_at n q j) 0
  dropped_entry q j a b =
      dropped_word (record_at n q j) (differ n q p j 0 (omega arith) (omega arith) (λ e. omega arith)) (differ n q p j 1 (omega arith) (omega arith) (λ e. omega arith))

module _ (net : NetworkInfo) (encrypted : Bool) (v t : ℕ → Option ℕ) where
  abbrev N : ℕ
  N = net.num_nodes

  texts_low : (w w' : List ℕ) → get_or w' accepted_at 0 ≡ get_or w accepted_at 0 → (q : ℕ) → ((j : ℕ) → 2 ≤ j → j < 5 → get_or w' (record_at N q j) 0 ≡ get_or w (record_at N q j) 0)
      → TextOk encrypted (load_decryption N w q) (is_accepted w q) (v q) (t q) → TextOk encrypted (load_decryption N w' q) (is_accepted w' q) (v q) (t q)
  texts_low w w' e q f h = rw (accepted_kept w w' e q) (text_words encrypted N w w' q (is_accepted w q) (v q) (t q) f h)

  finish_at_ok : (p : ℕ) (w : List ℕ) (u : Tape) → p < N → length w ≡ epoch_length N → TextsOk encrypted N w v t → Afterwards (finish_at net p w u) (λ _ w' z. Finished encrypted N w v t u w' z)
  unfolding finish_at
  finish_at_ok p w u inside size k = go (is_accepted w p) refl
    where
      w₁ : List ℕ
      w₁ = proposal_dropped N w p

      w₂ : List ℕ
      w₂ = store_decryption N w₁ p missing

      s : Stays N p w₁ w₂
      s = stays_store N p w₁ missing

      lost : is_accepted w p ≡ false → (q : ℕ) → q < N → (x : Bool) → eqb q p ≡ x → TextOk encrypted (load_decryption N w₂ q) (is_accepted w₂ q) (v q) (t q)
      lost e q l true y =
          rw (eqb-true q p y, accepted_kept w w₂ (s.low accepted_at (omega arith) ∙ dropped_low N p w accepted_at (omega arith)) p, e)
          (text_stored N p w₁ inside (dropped_size N p w ∙ size) encrypted missing false (v p) (t p) (text_drop encrypted (load_decryption N w p) (v p) (t p) (rw e at (k p inside))))
      lost e q l false y =
          texts_low w w₂ (s.low accepted_at (omega arith) ∙ dropped_low N p w accepted_at (omega arith)) q
          (λ j a b. s.other q j (omega arith) (eqb-false q p y) ∙ dropped_entry N p w q j a b) (k q l)

      go : (x : Bool) → is_accepted w p ≡ x → Afterwards (cond x (ends {A = Unit {0}} (going tt) w₁ u) (before (unexpected_shares N (load_decryption N w p)) (ends (going tt) w₂ u))) (λ _ w' z. Finished encrypted N w v t u w' z)
      go true e = record {
        tape = refl;
        size = dropped_size N p w;
        low = dropped_low N p w;
        texts = λ q l. texts_low w w₁ (dropped_low N p w accepted_at (omega arith)) q (dropped_entry N p w q) (k q l);
      }
      go false e = record {
        tape = refl;
        size = s.size ∙ dropped_size N p w;
        low = λ i l. s.low i l ∙ dropped_low N p w i l;
        texts = λ q l. lost e q l (eqb q p) refl;
      }

  finish_ok : (m p : ℕ) (w : List ℕ) (u : Tape) → p + m ≤ N → length w ≡ epoch_length N → TextsOk encrypted N w v t → Afterwards (finish_from net m p w u) (λ _ w' z. Finished encrypted N w v t u w' z)
  unfolding finish_from
  finish_ok zero p w u l size k = record { tape = refl; size = refl; low = λ i l. refl; texts = k }
  finish_ok (suc m) p w u l size k =
      after_onward (finish_at net p w u) _ _
      (after_map (finish_at net p w u) _ _ (finish_at_ok p w u (omega arith) size k) (λ _ w₁ z a.
      after_map (finish_from net m (p + 1) w₁ z) _ _ (finish_ok m (p + 1) w₁ z (omega arith) (a.size ∙ size) a.texts) (λ _ w₂ y b. record {
        tape = b.tape ∙ a.tape;
        size = b.size ∙ a.size;
        low = λ i l. b.low i l ∙ a.low i l;
        texts = b.texts;
      })))

  -- the subset is dropped, and every proposer's end of `Done`
  pub done_ok : (w : List ℕ) (u : Tape) → length w ≡ epoch_length N → TextsOk encrypted N w v t
      → Afterwards (finish_from net N 0 (subset_complete w) u) (λ _ w' z. Finished encrypted N (subset_complete w) v t u w' z)
  unfolding subset_complete
  done_ok w u size k =
      finish_ok N 0 (subset_complete w) u (omega arith) (length-set (set w status_at 2) decided_at 0 ∙ length-set w status_at 2 ∙ size)
      (λ q l. texts_low w (subset_complete w) (word accepted_at (λ e. omega arith) (λ e. omega arith)) q (λ j a b. word (record_at N q j) (λ e. omega arith) (λ e. omega arith)) (k q l))
    where
      word : (i : ℕ) → (i ≡ status_at → ⊥) → (i ≡ decided_at → ⊥) → get_or (subset_complete w) i 0 ≡ get_or w i 0
      word i a b = get_or-set_other (set w status_at 2) decided_at i 0 0 b ∙ get_or-set_other w status_at i 2 0 a
