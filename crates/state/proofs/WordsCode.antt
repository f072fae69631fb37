-- Laws for the code that finds an epoch in the state, and what it may take for granted (`StateWords`). Assumes nothing.
use Rattle.std.proofs.Common.{ℕ, ◌+◌, ◌*◌, ◌-◌, ◌%◌, ◌≤◌, ◌<◌, ◌≡◌, refl, sym, ap, ◌∙◌, List, ◌++◌, arith, mul-le-mul_right, length, get_or, set, take, drop, replicate, length-set, drop-drop, get_or-set_other}
use Rattle.std.proofs.lemmas.List.{length-replicate}
use Rattle.steps.specs.Numbers.{node_limit, ahead_limit, last_epoch}
use Rattle.subset.specs.Words.{epoch_length}
use Rattle.epochwords.specs.Shape.{EpochWords}
use Rattle.state.specs.State.{header_length, nodes_at, ahead_at, epoch_at, input_at, epochs_at, state_length, nodes, ahead, place_of, epoch_words, with_epoch, without_epoch}
use Rattle.state.specs.Shape.{StateWords}
use Rattle.state.proofs.Window.{Shaped, header_first, place_is, place_in, words_long, with_head, with_long}

-- SIZES are small, so that the code's sums fit
pub epoch_small : (n : ℕ) → n ≤ node_limit → epoch_length n ≤ 400
epoch_small n h = omega (arith, mul-le-mul_right (8 + n) h)

-- the only law that knows how early the epochs begin
pub epochs_early : (n : ℕ) → epochs_at n ≤ 1024
unfolding epochs_at
epochs_early n = omega arith

pub state_size : (n f : ℕ) → n ≤ node_limit → f ≤ ahead_limit → ((f + 1) * epoch_length n ≤ 6400) × (state_length n f ≤ 7424)
state_size n f h k =
    let m : f + 1 ≤ 16 = omega arith in
    let s : (f + 1) * epoch_length n ≤ 16 * epoch_length n = mul-le-mul_right (epoch_length n) m in
    (omega (arith, epoch_small n h), omega (arith, epoch_small n h, epochs_early n))

module _ (w : List ℕ) (h : StateWords w) where
  pub state_small : length w ≤ 7424
  state_small = omega (arith, h.long, (state_size (nodes w) (ahead w) h.few h.near).1)

  -- the header is inside
  pub header_inside : header_length ≤ length w
  header_inside = omega (arith, h.long, header_first (nodes w))

  pub shape : Shaped (nodes w) (ahead w) w
  shape = record { long = h.long; nodes = refl; ahead = refl }

  -- THE PLACE of an epoch is inside
  pub place_inside : (e : ℕ) → place_of w e + epoch_length (nodes w) ≤ length w
  place_inside e = place_in (nodes w) (ahead w) w shape e

  -- as the code computes it
  pub place_code : (e start l : ℕ) → start ≡ epochs_at (nodes w) → l ≡ epoch_length (nodes w) → start + e % (ahead w + 1) * l ≡ place_of w e
  place_code e start l s z = rw (s, z) (sym (place_is (nodes w) (ahead w) w shape e))

  pub words_epoch : (e : ℕ) → EpochWords (nodes w) (epoch_words w e)
  words_epoch e = record { few = h.few; long = words_long (nodes w) (ahead w) w shape e }

  -- WHAT IS WRITTEN keeps it: an epoch
  pub with_kept : (e : ℕ) (x : List ℕ) → length x ≡ epoch_length (nodes w) → StateWords (with_epoch w e x)
  with_kept e x full =
      let at = with_head (nodes w) (ahead w) w shape e x full in
      record {
        few = rw (at nodes_at (omega arith)) h.few;
        near = rw (at ahead_at (omega arith)) h.near;
        epoch = rw (at ahead_at (omega arith), at epoch_at (omega arith)) h.epoch;
        long = rw (at nodes_at (omega arith), at ahead_at (omega arith), with_long (nodes w) (ahead w) w shape e x full) h.long;
      }

  pub without_kept : (e : ℕ) → StateWords (without_epoch w e)
  unfolding without_epoch
  without_kept e = with_kept e (replicate (epoch_length (nodes w)) 0) (length-replicate (epoch_length (nodes w)) 0)

  -- a word of the header behind the look-ahead
  set_kept : (j a : ℕ) → ahead_at < j → get_or (set w j a) epoch_at 0 ≤ last_epoch + ahead w + 1 → StateWords (set w j a)
  set_kept j a low e =
      let n = get_or-set_other w j nodes_at a 0 (omega arith) in
      let f = get_or-set_other w j ahead_at a 0 (omega arith) in
      record { few = rw n h.few; near = rw f h.near; epoch = rw f e; long = rw (n, f, length-set w j a) h.long }

  pub input_kept : (a : ℕ) → StateWords (set w input_at a)
  input_kept a = set_kept input_at a (omega arith) (rw (get_or-set_other w input_at epoch_at a 0 (omega arith)) h.epoch)

-- A PART OF THE STATE, as the code lends it: from the place on, as many words as an epoch has
module _ (w : List ℕ) (e at end : ℕ) (a : at ≡ place_of w e) (b : end ≡ place_of w e + epoch_length (nodes w)) where
  part_long : end - at ≡ epoch_length (nodes w)
  part_long = omega arith

  pub part_words : take (end - at) (drop at w) ≡ epoch_words w e
  unfolding epoch_words
  part_words = rw (part_long, a)

  -- and as it comes back
  pub part_back : (x : List ℕ) → take at w ++ (x ++ drop (end - at) (drop at w)) ≡ with_epoch w e x
  unfolding with_epoch
  part_back x = rw (part_long, drop-drop (epoch_length (nodes w)) at w, a)

  pub part_clear : StateWords w → (x : List ℕ) → x ≡ replicate (length (take (end - at) (drop at w))) 0
      → take at w ++ (x ++ drop (end - at) (drop at w)) ≡ without_epoch w e
  unfolding without_epoch
  part_clear h x z =
      part_back x ∙ ap (with_epoch w e) (z ∙ ap (λ k. replicate k 0) (ap length part_words ∙ (words_epoch w h e).long))
