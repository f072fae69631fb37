-- The places of the state: what writing one epoch, or a word of the header, leaves of the others. Assumes nothing.
use Rattle.std.proofs.Common.{ℕ, ◌+◌, ◌*◌, ◌%◌, ◌≤◌, ◌<◌, mod-lt, arith, ◌≡◌, refl, sym, ap, ◌∙◌, List, length, get_or, set, take, drop, replicate, length-set, get_or-set_other, drop-set-lt}
use Rattle.std.proofs.lemmas.List.{length-replicate}
use Rattle.subset.specs.Words.{epoch_length}
use Rattle.state.specs.State.{header_length, nodes_at, faulty_at, ahead_at, own_at, key_at, strategy_at, schedule_at, first_number_at, second_number_at, epoch_at, epochs_at, state_length, nodes, ahead, net_of, strategy_of, encrypted_in, place_of, epoch_words, with_epoch, without_epoch}
use Rattle.state.proofs.Places.{pasted, pasted_own, pasted_twice, place_fits, place_long, placed_long, placed_before, placed_in, placed_other}

-- WHERE EPOCHS BEGIN: not inside the header. All that the laws know of it
pub header_first : (n : ℕ) → header_length ≤ epochs_at n
unfolding epochs_at
header_first n = omega arith

-- an epoch's own words change nothing
pub with_own : (w : List ℕ) (e : ℕ) → with_epoch w e (epoch_words w e) ≡ w
unfolding with_epoch epoch_words
with_own w e = pasted_own w (place_of w e) (epoch_length (nodes w))

-- THE NUMBERS OF CREATION stand before the current epoch
module _ (u w : List ℕ) (same : (i : ℕ) → i < epoch_at → get_or u i 0 ≡ get_or w i 0) where
  pub net_same : net_of u ≡ net_of w
  unfolding net_of
  net_same = rw (same nodes_at (omega arith), same faulty_at (omega arith), same own_at (omega arith), same key_at (omega arith))

  pub strategy_same : strategy_of u ≡ strategy_of w
  unfolding strategy_of
  strategy_same = rw (same strategy_at (omega arith))

  pub encrypted_same : (e : ℕ) → encrypted_in u e ≡ encrypted_in w e
  unfolding encrypted_in
  encrypted_same e = rw (same schedule_at (omega arith), same first_number_at (omega arith), same second_number_at (omega arith))

-- A STATE OF N HOSTS AND LOOK-AHEAD F
pub record Shaped (n f : ℕ) (w : List ℕ) : Type 0 where
  pub long : length w ≡ state_length n f
  pub nodes : nodes w ≡ n
  pub ahead : ahead w ≡ f

module _ (n f : ℕ) where
  abbrev place : ℕ → ℕ
  place e = epochs_at n + e % (f + 1) * epoch_length n

  in_place : (e : ℕ) → e % (f + 1) < f + 1
  in_place e = mod-lt e (omega arith)

  module _ (w : List ℕ) (h : Shaped n f w) where
    pub place_is : (e : ℕ) → place_of w e ≡ place e
    unfolding place_of
    place_is e = rw (h.nodes, h.ahead)

    pub place_in : (e : ℕ) → place_of w e + epoch_length n ≤ length w
    place_in e = rw (place_is e) (place_fits (epochs_at n) (epoch_length n) (f + 1) w h.long (e % (f + 1)) (in_place e))

    with_is : (e : ℕ) (x : List ℕ) → with_epoch w e x ≡ pasted w (place e) (epoch_length n) x
    unfolding with_epoch
    with_is e x = rw (place_is e, h.nodes)

    pub words_are : (e : ℕ) → epoch_words w e ≡ take (epoch_length n) (drop (place e) w)
    unfolding epoch_words
    words_are e = rw (place_is e, h.nodes)

    -- the epoch's words are as many as an epoch has
    pub words_long : (e : ℕ) → length (epoch_words w e) ≡ epoch_length n
    words_long e = rw (words_are e) (place_long (epochs_at n) (epoch_length n) (f + 1) w h.long (e % (f + 1)) (in_place e))

    module _ (e : ℕ) (x : List ℕ) (full : length x ≡ epoch_length n) where
      pub with_long : length (with_epoch w e x) ≡ length w
      with_long = rw (with_is e x) (placed_long (epochs_at n) (epoch_length n) (f + 1) w h.long (e % (f + 1)) (in_place e) x full)

      pub with_head : (i : ℕ) → i < header_length → get_or (with_epoch w e x) i 0 ≡ get_or w i 0
      with_head i l =
          rw (with_is e x)
          (placed_before (epochs_at n) (epoch_length n) (f + 1) w h.long (e % (f + 1)) (in_place e) x full i (omega (arith, header_first n)))

      pub with_shaped : Shaped n f (with_epoch w e x)
      with_shaped =
          record { long = with_long ∙ h.long; nodes = with_head nodes_at (omega arith) ∙ h.nodes; ahead = with_head ahead_at (omega arith) ∙ h.ahead }

      place_again : place_of (with_epoch w e x) e ≡ place_of w e
      unfolding place_of
      place_again = rw (with_head nodes_at (omega arith), with_head ahead_at (omega arith))

      -- the later words stay
      pub with_twice : (y : List ℕ) → with_epoch (with_epoch w e x) e y ≡ with_epoch w e y
      unfolding with_epoch
      with_twice y =
          rw (with_head nodes_at (omega arith), place_again)
          (pasted_twice w x (place_of w e) (epoch_length (nodes w)) (rw h.nodes (place_in e)) (full ∙ rw h.nodes) y)

  -- the place of epoch e, read as that of an epoch d
  pub with_place : (w : List ℕ) → Shaped n f w → (e d : ℕ) (x : List ℕ) → length x ≡ epoch_length n → e % (f + 1) ≡ d % (f + 1)
      → epoch_words (with_epoch w e x) d ≡ x
  with_place w h e d x full same =
      words_are (with_epoch w e x) (with_shaped w h e x full) d
      ∙ rw (with_is w h e x, ← same) (placed_in (epochs_at n) (epoch_length n) (f + 1) w h.long (e % (f + 1)) (in_place e) x full)

  pub with_same : (w : List ℕ) → Shaped n f w → (e : ℕ) (x : List ℕ) → length x ≡ epoch_length n → epoch_words (with_epoch w e x) e ≡ x
  with_same w h e x full = with_place w h e e x full refl

  pub with_other : (w : List ℕ) → Shaped n f w → (e d : ℕ) (x : List ℕ) → length x ≡ epoch_length n → (e % (f + 1) ≡ d % (f + 1) → ⊥)
      → epoch_words (with_epoch w e x) d ≡ epoch_words w d
  with_other w h e d x full apart =
      words_are (with_epoch w e x) (with_shaped w h e x full) d
      ∙ (rw (with_is w h e x) (placed_other (epochs_at n) (epoch_length n) (f + 1) w h.long (e % (f + 1)) (in_place e) x full (d % (f + 1)) (in_place d) apart)
      ∙ sym (words_are w h d))

  -- A WORD OF THE HEADER behind the look-ahead is written
  module _ (w : List ℕ) (h : Shaped n f w) (j a : ℕ) (low : ahead_at < j) (head : j < header_length) where
    pub set_shaped : Shaped n f (set w j a)
    set_shaped =
        record {
          long = length-set w j a ∙ h.long;
          nodes = get_or-set_other w j nodes_at a 0 (omega arith) ∙ h.nodes;
          ahead = get_or-set_other w j ahead_at a 0 (omega arith) ∙ h.ahead;
        }

    pub set_words : (d : ℕ) → epoch_words (set w j a) d ≡ epoch_words w d
    set_words d =
        words_are (set w j a) set_shaped d
        ∙ (ap (take (epoch_length n)) (drop-set-lt (place d) w j a (omega (arith, header_first n))) ∙ sym (words_are w h d))

  -- AN EPOCH IS CLEARED
  module _ (w : List ℕ) (h : Shaped n f w) where
    zeros : List ℕ
    zeros = replicate (epoch_length n) 0

    without_is : (e : ℕ) → without_epoch w e ≡ with_epoch w e zeros
    unfolding without_epoch zeros
    without_is e = rw h.nodes

    zeros_long : length zeros ≡ epoch_length n
    unfolding zeros
    zeros_long = length-replicate (epoch_length n) 0

    pub without_shaped : (e : ℕ) → Shaped n f (without_epoch w e)
    without_shaped e = rw (without_is e) (with_shaped w h e zeros zeros_long)

    pub without_head : (e i : ℕ) → i < header_length → get_or (without_epoch w e) i 0 ≡ get_or w i 0
    without_head e i l = rw (without_is e) (with_head w h e zeros zeros_long i l)

    pub without_place : (e d : ℕ) → e % (f + 1) ≡ d % (f + 1) → epoch_words (without_epoch w e) d ≡ replicate (epoch_length n) 0
    unfolding zeros
    without_place e d same = rw (without_is e) (with_place w h e d zeros zeros_long same)

    pub without_other : (e d : ℕ) → (e % (f + 1) ≡ d % (f + 1) → ⊥) → epoch_words (without_epoch w e) d ≡ epoch_words w d
    without_other e d apart = rw (without_is e) (with_other w h e d zeros zeros_long apart)
