-- Clearing epochs one by one is skipping past them. Over every state of the right shape, whatever its past. Assumes nothing.
use Rattle.std.proofs.Common.{ℕ, zero, suc, ◌+◌, ◌≤◌, ◌<◌, add-one, arith, ◌≡◌, refl, sym, ap, ◌∙◌, List, ◌++◌, Bool, true, false, cond, leb, ltb, set, take, drop, replicate, length-take, get_or-set_other, drop-set-lt, set-set, lt-ltb, le-ltb, leb-true, leb-false}
use Rattle.std.proofs.Math.Seq.{take-set-lt}
use Rattle.std.proofs.lemmas.Bool.{lt-leb}
use Rattle.std.proofs.lemmas.List.{set-append_left, set_comm}
use Rattle.subset.specs.Words.{epoch_length}
use Rattle.state.specs.State.{header_length, nodes_at, ahead_at, epoch_at, input_at, nodes, ahead, current_epoch, place_of, epoch_words, with_epoch, without_epoch, state_ok}
use Rattle.work.specs.HoneyBadger.{update_epoch, clear_below, skip_to_epoch}
use Rattle.state.proofs.Window.{Shaped, header_first, place_is, place_in, set_shaped, without_shaped}
use Rattle.work.proofs.Updates.{update_shaped, update_current, update_kept}
use Rattle.state.proofs.RangesState.{shaped}
use Rattle.work.proofs.Skips.{step_shaped, skip_stays}

-- a word of the header behind the look-ahead moves no place
place_set : (w : List ℕ) (j a e : ℕ) → ahead_at < j → place_of (set w j a) e ≡ place_of w e
unfolding place_of
place_set w j a e low = rw (get_or-set_other w j ahead_at a 0 (omega arith), get_or-set_other w j nodes_at a 0 (omega arith))

-- and is written before an epoch or after it
pub set_with : (n f : ℕ) (w : List ℕ) → Shaped n f w → (j a : ℕ) → ahead_at < j → j < header_length → (e : ℕ) (x : List ℕ)
    → with_epoch (set w j a) e x ≡ set (with_epoch w e x) j a
unfolding with_epoch
set_with n f w h j a low head e x =
    let p : ℕ = place_of w e in
    let first : header_length ≤ p = omega (arith, place_is n f w h e, header_first n) in
    let fits = place_in n f w h e in
    rw (
      place_set w j a e low,
      get_or-set_other w j nodes_at a 0 (omega arith),
      take-set-lt p w j a (omega arith),
      drop-set-lt (p + epoch_length (nodes w)) w j a (omega arith),
    ) (sym (set-append_left (take p w) (x ++ drop (p + epoch_length (nodes w)) w) j a (rw length-take (omega arith))))

-- CLEARING
skip_is : (n f : ℕ) (w : List ℕ) → Shaped n f w → (target : ℕ) → current_epoch w < target
    → skip_to_epoch target w ≡ set (set (clear_below target (suc f) (current_epoch w) w) epoch_at target) input_at 0
unfolding skip_to_epoch
skip_is n f w h target up = rw (lt-leb target (current_epoch w) up, h.ahead, add-one f)

-- at or above the target nothing is cleared
pub clear_none : (target m e : ℕ) (v : List ℕ) → target ≤ e → clear_below target m e v ≡ v
unfolding clear_below
clear_none target zero e v h = refl
clear_none target (suc m) e v h = rw (le-ltb e target h) (clear_none target m (e + 1) v (omega arith))

clear_more : (target m e : ℕ) (v : List ℕ) → target ≤ e + m → clear_below target (suc m) e v ≡ clear_below target m e v
unfolding clear_below
clear_more target zero e v h = rw (le-ltb e target (omega arith))
clear_more target (suc m) e v h = clear_more target m (e + 1) (cond (ltb e target) (without_epoch v e) v) (omega arith)

module _ (n f j a : ℕ) (low : ahead_at < j) (head : j < header_length) where
  without_set : (e : ℕ) (v : List ℕ) → Shaped n f v → without_epoch (set v j a) e ≡ set (without_epoch v e) j a
  unfolding without_epoch
  without_set e v h = rw (get_or-set_other v j nodes_at a 0 (omega arith)) (set_with n f v h j a low head e (replicate (epoch_length (nodes v)) 0))

  clear_set : (target m e : ℕ) (v : List ℕ) → Shaped n f v → clear_below target m e (set v j a) ≡ set (clear_below target m e v) j a
  unfolding clear_below
  clear_set target zero e v h = refl
  clear_set target (suc m) e v h =
      ap (clear_below target m (e + 1)) (go (ltb e target))
      ∙ clear_set target m (e + 1) (cond (ltb e target) (without_epoch v e) v) (step_shaped n f target v e h)
    where
      go : (t : Bool) → cond t (without_epoch (set v j a) e) (set v j a) ≡ set (cond t (without_epoch v e) v) j a
      go true = without_set e v h
      go false = refl

-- two words of the header are written twice
set_again : (v : List ℕ) (a b c d : ℕ) → set (set (set (set v epoch_at a) input_at b) epoch_at c) input_at d ≡ set (set v epoch_at c) input_at d
set_again v a b c d =
    rw (set_comm (set v epoch_at a) input_at epoch_at b c (omega arith), set-set v epoch_at a c, set-set (set v epoch_at c) input_at b d)

module _ (n f : ℕ) (w : List ℕ) (h : Shaped n f w) where
  -- THE STEP: a target in the window, or right behind it, is reached as well after the current epoch was cleared
  pub skip_update : (target : ℕ) → current_epoch w < target → target ≤ current_epoch w + (f + 1)
      → skip_to_epoch target (update_epoch w) ≡ skip_to_epoch target w
  unfolding update_epoch clear_below
  skip_update target up near = by (leb target (c + 1)) refl
    where
      c : ℕ
      c = current_epoch w

      u : List ℕ
      u = without_epoch w c

      whole : skip_to_epoch target w ≡ set (set (clear_below target f (c + 1) u) epoch_at target) input_at 0
      whole = skip_is n f w h target up ∙ rw (clear_below, lt-ltb c target up)

      by : (t : Bool) → leb target (c + 1) ≡ t → skip_to_epoch target (update_epoch w) ≡ skip_to_epoch target w
      by true e =
          let b : target ≤ c + 1 = leb-true target (c + 1) e in
          let z : target ≡ c + 1 = omega arith in
          skip_stays target (update_epoch w) (omega (arith, update_current n f w h))
          ∙ sym (whole ∙ rw (clear_none target f (c + 1) u b, z))
      by false e =
          let b : c + 1 < target = leb-false target (c + 1) e in
          let k : Shaped n f (set u epoch_at (c + 1)) = set_shaped n f u (without_shaped n f w h c) epoch_at (c + 1) (omega arith) (omega arith) in
          skip_is n f (update_epoch w) (update_shaped n f w h) target (omega (arith, update_current n f w h))
          ∙ rw (
            update_current n f w h,
            clear_set n f input_at 0 (omega arith) (omega arith) target (suc f) (c + 1) (set u epoch_at (c + 1)) k,
            clear_set n f epoch_at (c + 1) (omega arith) (omega arith) target (suc f) (c + 1) u (without_shaped n f w h c),
            clear_more target f (c + 1) u (omega arith),
            set_again (clear_below target f (c + 1) u) (c + 1) 0 target 0,
          ) (sym whole)

-- THE CURRENT EPOCH IS OVER, k times
unfoldable pub updates : ℕ → List ℕ → List ℕ
updates zero w = w
updates (suc k) w = updates k (update_epoch w)

module _ (n f : ℕ) where
  -- that is one skip
  pub updates_skip : (k : ℕ) (w : List ℕ) → Shaped n f w → k ≤ f + 1 → updates k w ≡ skip_to_epoch (current_epoch w + k) w
  unfolding updates
  updates_skip zero w h l = sym (skip_stays (current_epoch w + 0) w (omega arith))
  updates_skip (suc k) w h l =
      let z : current_epoch (update_epoch w) + k ≡ current_epoch w + suc k = omega (arith, update_current n f w h) in
      updates_skip k (update_epoch w) (update_shaped n f w h) (omega arith)
      ∙ (ap (λ (t : ℕ). skip_to_epoch t (update_epoch w)) z ∙ skip_update n f w h (current_epoch w + suc k) (omega arith) (omega arith))

  -- an epoch of the window that is not over keeps its words
  pub updates_kept : (k : ℕ) (w : List ℕ) → Shaped n f w → (e : ℕ) → current_epoch w + k ≤ e → e ≤ current_epoch w + f
      → epoch_words (updates k w) e ≡ epoch_words w e
  unfolding updates
  updates_kept zero w h e a b = refl
  updates_kept (suc k) w h e a b =
      updates_kept k (update_epoch w) (update_shaped n f w h) e (omega (arith, update_current n f w h)) (omega (arith, update_current n f w h))
      ∙ update_kept n f w h e (omega arith) b

-- of a state that keeps the range rule
module _ (w : List ℕ) (ok : state_ok w ≡ true) where
  pub update_is_skip : (k : ℕ) → k ≤ ahead w + 1 → updates k w ≡ skip_to_epoch (current_epoch w + k) w
  update_is_skip k l = updates_skip (nodes w) (ahead w) k w (shaped w ok) l

  pub update_keeps : (i k : ℕ) → i ≤ ahead w → k ≤ i → epoch_words (updates k w) (current_epoch w + i) ≡ epoch_words w (current_epoch w + i)
  update_keeps i k l m = updates_kept (nodes w) (ahead w) k w (shaped w ok) (current_epoch w + i) (omega arith) (omega arith)
