-- What the state's words know of the history, and that writing an epoch, a word of the header or the next current epoch keeps it. Assumes nothing.
use Rattle.std.proofs.Common.{ℕ, ◌+◌, ◌≤◌, ◌<◌, arith, ◌≡◌, refl, ap, ◌∙◌, List, Bool, true, false, Option, eqb, leb, length, get_or, set, replicate, get_or-set_other, eqb-true, leb-true, leb-false}
use Rattle.std.proofs.lemmas.Bool.{eqb-false}
use Rattle.network.specs.declared.network_info.NetworkInfo.{NetworkInfo}
use Rattle.steps.proofs.Ranges.{zeros_at}
use Rattle.subset.specs.Words.{epoch_length}
use Rattle.epochwords.specs.declared.SubsetHandlingStrategy.{SubsetHandlingStrategy}
use Rattle.epochwords.specs.Words.{is_vacant}
use Rattle.epoch.proofs.Interface.{nothing}
use Rattle.epoch.proofs.Occupied.{Alive}
use Rattle.state.specs.State.{header_length, epoch_at, nodes, ahead, current_epoch, net_of, strategy_of, encrypted_in, epoch_words, with_epoch}
use Rattle.work.specs.HoneyBadger.{update_epoch}
use Rattle.rings.proofs.Places.{same_place}
use Rattle.state.proofs.Window as window
use Rattle.state.proofs.Window.{Shaped, with_head, with_shaped, with_same, with_other, set_shaped, set_words}
use Rattle.work.proofs.Updates.{update_shaped, update_head, update_current, update_kept, update_next}
use Rattle.agreement.proofs.BatchesDealt.{Tk}

-- a place that was cleared
pub zeros_vacant : (n : ℕ) → is_vacant (replicate (epoch_length n) 0) ≡ true
zeros_vacant n = rw (zeros_at (epoch_length n) 0)

module _ (Holds : NetworkInfo → SubsetHandlingStrategy → Bool → List ℕ → (ℕ → Option ℕ) → (ℕ → Option ℕ) → (ℕ → Option ℕ) → Type 0) where
  -- the words x of an epoch in which v, d and t were taken: nothing was taken and there is no epoch yet, or they hold it
  pub data Slot (net : NetworkInfo) (strategy : SubsetHandlingStrategy) (encrypted : Bool) (x : List ℕ) (v d t : ℕ → Option ℕ) : Type 0 where
    vacant : is_vacant x ≡ true → v ≡ nothing → d ≡ nothing → t ≡ nothing → Slot net strategy encrypted x v d t
    lives : Alive x → Holds net strategy encrypted x v d t → Slot net strategy encrypted x v d t

  module _ (w₀ : List ℕ) where
    -- a state w that came from w₀, in which epoch cur is current; vs, ds and ts were taken so far
    pub record Sim (w : List ℕ) (cur : ℕ) (vs ds ts : Tk) : Type 0 where
      pub shaped : Shaped (nodes w₀) (ahead w₀) w
      pub same : (i : ℕ) → i < epoch_at → get_or w i 0 ≡ get_or w₀ i 0
      pub current : current_epoch w ≡ cur
      pub slots : (e : ℕ) → cur ≤ e → e ≤ cur + ahead w₀ → Slot (net_of w₀) (strategy_of w₀) (encrypted_in w₀ e) (epoch_words w e) (vs e) (ds e) (ts e)
      pub beyond : (e : ℕ) → cur + ahead w₀ < e → (vs e ≡ nothing) × (ds e ≡ nothing) × (ts e ≡ nothing)

    module _ (w : List ℕ) (cur : ℕ) (vs ds ts : Tk) (h : Sim w cur vs ds ts) where
      -- what the header says stays
      pub net_same : net_of w ≡ net_of w₀
      net_same = window.net_same w w₀ h.same

      pub strategy_same : strategy_of w ≡ strategy_of w₀
      strategy_same = window.strategy_same w w₀ h.same

      pub encrypted_same : (e : ℕ) → encrypted_in w e ≡ encrypted_in w₀ e
      encrypted_same = window.encrypted_same w w₀ h.same

      -- has input or the fault count is written
      pub sim_set : (j a : ℕ) → epoch_at < j → j < header_length → Sim (set w j a) cur vs ds ts
      sim_set j a low head = record {
        shaped = set_shaped (nodes w₀) (ahead w₀) w h.shaped j a (omega arith) head;
        same = λ i l. get_or-set_other w j i a 0 (omega arith) ∙ h.same i l;
        current = get_or-set_other w j epoch_at a 0 (omega arith) ∙ h.current;
        slots = λ e l u. rw (set_words (nodes w₀) (ahead w₀) w h.shaped j a (omega arith) head e) (h.slots e l u);
        beyond = h.beyond;
      }

      -- the words of one epoch are written
      pub sim_with : (e : ℕ) → cur ≤ e → e ≤ cur + ahead w₀ → (x : List ℕ) → length x ≡ epoch_length (nodes w₀) → Alive x → (vs' ds' ts' : Tk)
          → Holds (net_of w₀) (strategy_of w₀) (encrypted_in w₀ e) x (vs' e) (ds' e) (ts' e)
          → ((i : ℕ) → eqb e i ≡ false → (vs' i ≡ vs i) × (ds' i ≡ ds i) × (ts' i ≡ ts i)) → Sim (with_epoch w e x) cur vs' ds' ts'
      sim_with e l u x long there vs' ds' ts' k other = record {
        shaped = with_shaped (nodes w₀) (ahead w₀) w h.shaped e x long;
        same = λ i m. with_head (nodes w₀) (ahead w₀) w h.shaped e x long i (omega arith) ∙ h.same i m;
        current = with_head (nodes w₀) (ahead w₀) w h.shaped e x long epoch_at (omega arith) ∙ h.current;
        slots = λ i a b. slot i a b (eqb e i) refl;
        beyond = λ i a. past i a (eqb e i) refl;
      }
        where
          slot : (i : ℕ) → cur ≤ i → i ≤ cur + ahead w₀ → (t : Bool) → eqb e i ≡ t
              → Slot (net_of w₀) (strategy_of w₀) (encrypted_in w₀ i) (epoch_words (with_epoch w e x) i) (vs' i) (ds' i) (ts' i)
          slot i a b true z = rw (← eqb-true e i z, with_same (nodes w₀) (ahead w₀) w h.shaped e x long) (lives there k)
          slot i a b false z =
              let o = other i z in
              let ne : e ≡ i → ⊥ = eqb-false e i z in
              rw (o.0, o.1, o.2, with_other (nodes w₀) (ahead w₀) w h.shaped e i x long (λ q. ne (same_place (ahead w₀ + 1) e i q (omega arith) (omega arith))))
              (h.slots i a b)

          past : (i : ℕ) → cur + ahead w₀ < i → (t : Bool) → eqb e i ≡ t → (vs' i ≡ nothing) × (ds' i ≡ nothing) × (ts' i ≡ nothing)
          past i a true z = absurd (omega (arith, eqb-true e i z))
          past i a false z = let o = other i z in let p = h.beyond i a in (o.0 ∙ p.0, o.1 ∙ p.1, o.2 ∙ p.2)

      -- the current epoch is over
      pub sim_update : Sim (update_epoch w) (cur + 1) vs ds ts
      sim_update = record {
        shaped = update_shaped (nodes w₀) (ahead w₀) w h.shaped;
        same = λ i l. update_head (nodes w₀) (ahead w₀) w h.shaped i l ∙ h.same i l;
        current = update_current (nodes w₀) (ahead w₀) w h.shaped ∙ ap (λ (c : ℕ). c + 1) h.current;
        slots = λ e l u. slot e l u (leb e (cur + ahead w₀)) refl;
        beyond = λ e l. h.beyond e (omega arith);
      }
        where
          now : current_epoch w ≡ cur
          now = h.current

          slot : (e : ℕ) → cur + 1 ≤ e → e ≤ cur + 1 + ahead w₀ → (t : Bool) → leb e (cur + ahead w₀) ≡ t
              → Slot (net_of w₀) (strategy_of w₀) (encrypted_in w₀ e) (epoch_words (update_epoch w) e) (vs e) (ds e) (ts e)
          slot e l u true z =
              let b : e ≤ cur + ahead w₀ = leb-true e (cur + ahead w₀) z in
              rw (update_kept (nodes w₀) (ahead w₀) w h.shaped e (omega arith) (omega arith)) (h.slots e (omega arith) b)
          slot e l u false z =
              let b : cur + ahead w₀ < e = leb-false e (cur + ahead w₀) z in
              let at : e ≡ current_epoch w + (ahead w₀ + 1) = omega arith in
              let n = h.beyond e b in
              vacant (rw (at, update_next (nodes w₀) (ahead w₀) w h.shaped) (zeros_vacant (nodes w₀))) n.0 n.1 n.2
