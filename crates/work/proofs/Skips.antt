-- What skip does to the state. Assumes nothing.
use Rattle.std.proofs.Common.{ℕ, zero, suc, ◌+◌, ◌-◌, ◌%◌, ◌≤◌, ◌<◌, mod-lt, lt_of_not-le, arith, ◌≡◌, refl, sym, ap, ◌∙◌, ◌≢◌, List, Bool, true, false, cond, eqb, leb, ltb, get_or, set, replicate, length-set, get_or-set_same, get_or-set_other, eqb-true, le-leb, ltb-true, lt-ltb}
use Rattle.std.proofs.Math.Nat.{add-mod-mod}
use Rattle.std.proofs.lemmas.Bool.{eqb-false, lt-leb}
use Rattle.subset.specs.Words.{epoch_length}
use Rattle.state.specs.State.{header_length, nodes, ahead, current_epoch, epoch_at, input_at, epoch_words, without_epoch, state_ok}
use Rattle.work.specs.HoneyBadger.{clear_below, skip_to_epoch}
use Rattle.work.specs.SkipLaws.{Skipped}
use Rattle.rings.proofs.Places.{same_place}
use Rattle.state.proofs.Window.{Shaped, header_first, set_shaped, set_words, without_shaped, without_head, without_place, without_other}
use Rattle.state.proofs.RangesState.{shaped}

-- CLEARING epochs below the target, one and many
module _ (n f target : ℕ) where
  abbrev step : List ℕ → ℕ → List ℕ
  step v c = cond (ltb c target) (without_epoch v c) v

  pub step_shaped : (v : List ℕ) (c : ℕ) → Shaped n f v → Shaped n f (step v c)
  step_shaped v c h = go (ltb c target)
    where
      go : (t : Bool) → Shaped n f (cond t (without_epoch v c) v)
      go true = without_shaped n f v h c
      go false = h

  clear_shaped : (m c : ℕ) (v : List ℕ) → Shaped n f v → Shaped n f (clear_below target m c v)
  unfolding clear_below
  clear_shaped zero c v h = h
  clear_shaped (suc m) c v h = clear_shaped m (c + 1) (step v c) (step_shaped v c h)

  clear_head : (m c : ℕ) (v : List ℕ) → Shaped n f v → (i : ℕ) → i < header_length → get_or (clear_below target m c v) i 0 ≡ get_or v i 0
  unfolding clear_below
  clear_head zero c v h i k = refl
  clear_head (suc m) c v h i k = clear_head m (c + 1) (step v c) (step_shaped v c h) i k ∙ go (ltb c target)
    where
      go : (t : Bool) → get_or (cond t (without_epoch v c) v) i 0 ≡ get_or v i 0
      go true = without_head n f v h c i k
      go false = refl

  module _ (d : ℕ) where
    -- an epoch at or above the target that lives beside those cleared keeps its words
    clear_kept : (m c : ℕ) (v : List ℕ) → Shaped n f v → target ≤ d → d < c + (f + 1) → epoch_words (clear_below target m c v) d ≡ epoch_words v d
    unfolding clear_below
    clear_kept zero c v h above near = refl
    clear_kept (suc m) c v h above near = clear_kept m (c + 1) (step v c) (step_shaped v c h) above (omega arith) ∙ go (ltb c target) refl
      where
        go : (t : Bool) → ltb c target ≡ t → epoch_words (cond t (without_epoch v c) v) d ≡ epoch_words v d
        go false e = refl
        go true e =
            let below : c < target = ltb-true c target e in
            without_other n f v h c d (λ q. omega (arith, same_place (f + 1) c d q near (omega arith)))

    -- a place with nothing but zeros stays so
    clear_zeros : (m c : ℕ) (v : List ℕ) → Shaped n f v → epoch_words v d ≡ replicate (epoch_length n) 0 → epoch_words (clear_below target m c v) d ≡ replicate (epoch_length n) 0
    unfolding clear_below
    clear_zeros zero c v h z = z
    clear_zeros (suc m) c v h z = clear_zeros m (c + 1) (step v c) (step_shaped v c h) (go (ltb c target) (eqb (c % (f + 1)) (d % (f + 1))) refl)
      where
        go : (t s : Bool) → eqb (c % (f + 1)) (d % (f + 1)) ≡ s → epoch_words (cond t (without_epoch v c) v) d ≡ replicate (epoch_length n) 0
        go false s e = z
        go true true e = without_place n f v h c d (eqb-true _ _ e)
        go true false e = without_other n f v h c d (eqb-false _ _ e) ∙ z

    -- and so does one in which an epoch below the target is cleared
    clear_gone : (m c : ℕ) (v : List ℕ) → Shaped n f v → (e : ℕ) → c ≤ e → e < c + m → e < target → e % (f + 1) ≡ d % (f + 1)
        → epoch_words (clear_below target m c v) d ≡ replicate (epoch_length n) 0
    unfolding clear_below
    clear_gone zero c v h e low up below q = absurd (omega arith)
    clear_gone (suc m) c v h e low up below q =
        go (eqb c e) refl (λ a b. clear_gone m (c + 1) (step v c) (step_shaped v c h) e a b below q)
      where
        go : (t : Bool) → eqb c e ≡ t → (c + 1 ≤ e → e < c + 1 + m → epoch_words (clear_below target m (c + 1) (step v c)) d ≡ replicate (epoch_length n) 0)
            → epoch_words (clear_below target m (c + 1) (step v c)) d ≡ replicate (epoch_length n) 0
        go true x ih =
            let same : c ≡ e = eqb-true c e x in
            clear_zeros m (c + 1) (step v c) (step_shaped v c h)
            (rw (lt-ltb c target (omega arith)) (without_place n f v h c d (ap (λ (y : ℕ). y % (f + 1)) same ∙ q)))
        go false x ih =
            let ne : c ≢ e = eqb-false c e x in
            ih (omega arith) (omega arith)

-- SKIP
pub skip_stays : (target : ℕ) (w : List ℕ) → target ≤ current_epoch w → skip_to_epoch target w ≡ w
unfolding skip_to_epoch
skip_stays target w h = rw (le-leb target (current_epoch w) h)

-- of the header it writes current epoch and has input alone
pub skip_head : (n f target : ℕ) (w : List ℕ) → Shaped n f w → (i : ℕ) → i < header_length → i ≢ epoch_at → i ≢ input_at → get_or (skip_to_epoch target w) i 0 ≡ get_or w i 0
unfolding skip_to_epoch
skip_head n f target w h i l a b = go (leb target (current_epoch w))
  where
    cleared : List ℕ
    cleared = clear_below target (ahead w + 1) (current_epoch w) w

    go : (t : Bool) → get_or (cond t w (set (set cleared epoch_at target) input_at 0)) i 0 ≡ get_or w i 0
    go true = refl
    go false =
        get_or-set_other (set cleared epoch_at target) input_at i 0 0 b
        ∙ (get_or-set_other cleared epoch_at i target 0 a ∙ clear_head n f target (ahead w + 1) (current_epoch w) w h i l)

module _ (target : ℕ) (w : List ℕ) (h : Shaped (nodes w) (ahead w) w) (up : current_epoch w < target) where
  abbrev n : ℕ
  n = nodes w

  abbrev f : ℕ
  f = ahead w

  abbrev cleared : List ℕ
  cleared = clear_below target (ahead w + 1) (current_epoch w) w

  cleared_shaped : Shaped n f cleared
  cleared_shaped = clear_shaped n f target (f + 1) (current_epoch w) w h

  abbrev moved : List ℕ
  moved = set cleared epoch_at target

  moved_shaped : Shaped n f moved
  moved_shaped = set_shaped n f cleared cleared_shaped epoch_at target (omega arith) (omega arith)

  abbrev left : List ℕ
  left = set moved input_at 0

  left_is : skip_to_epoch target w ≡ left
  unfolding skip_to_epoch
  left_is = rw (lt-leb target (current_epoch w) up)

  left_words : (d : ℕ) → epoch_words left d ≡ epoch_words cleared d
  left_words d =
      set_words n f moved moved_shaped input_at 0 (omega arith) (omega arith) d ∙ set_words n f cleared cleared_shaped epoch_at target (omega arith) (omega arith) d

  -- the epoch of the window before that was in the place of e
  before : ℕ → ℕ
  before e = current_epoch w + (e - current_epoch w) % (f + 1)

  same_before : (e : ℕ) → current_epoch w ≤ e → before e % (f + 1) ≡ e % (f + 1)
  unfolding before
  same_before e l = add-mod-mod (current_epoch w) (e - current_epoch w) (f + 1) ∙ ap (λ (x : ℕ). x % (f + 1)) (omega arith)

  near_before : (e : ℕ) → before e < current_epoch w + (f + 1)
  unfolding before
  near_before e = omega (arith, mod-lt (e - current_epoch w) {m = f + 1} (omega arith))

  low_before : (e : ℕ) → current_epoch w ≤ before e
  unfolding before
  low_before e = omega arith

  below_before : (e : ℕ) → current_epoch w + ahead w + 1 ≤ e → e < target + ahead w + 1 → before e < target
  below_before e a b =
      lt_of_not-le (λ (q : target ≤ before e).
      omega (arith, near_before e, same_place (f + 1) (before e) e (same_before e (omega arith)) (omega arith) (omega (arith, near_before e))))

  pub skipped : Skipped target w (skip_to_epoch target w)
  skipped =
      rw left_is (record {
        long = length-set moved input_at 0 ∙ length-set cleared epoch_at target ∙ cleared_shaped.long ∙ sym h.long;
        epoch =
            get_or-set_other moved input_at epoch_at 0 0 (omega arith)
            ∙ get_or-set_same cleared epoch_at target 0 (omega (arith, cleared_shaped.long, header_first n));
        input = get_or-set_same moved input_at 0 0 (omega (arith, moved_shaped.long, header_first n));
        header = λ i l a b. rw left_is at (skip_head n f target w h i l a b);
        kept = λ e a b. left_words e ∙ clear_kept n f target e (f + 1) (current_epoch w) w h a (omega arith);
        cleared = λ e a b c. left_words e ∙ clear_gone n f target e (f + 1) (current_epoch w) w h e a (omega arith) b refl;
        vacant = λ e a b.
            left_words e
            ∙ clear_gone n f target e (f + 1) (current_epoch w) w h (before e) (low_before e) (near_before e) (below_before e a b) (same_before e (omega arith));
      })

pub skip_moves : (target : ℕ) (w : List ℕ) → state_ok w ≡ true → current_epoch w < target → Skipped target w (skip_to_epoch target w)
skip_moves target w ok up = skipped target w (shaped w ok) up
