-- `update_epoch`: what it leaves of the state. Assumes nothing.
use Rattle.std.proofs.Common.{ℕ, ◌+◌, ◌≤◌, ◌<◌, arith, ◌≡◌, sym, ◌∙◌, List, get_or, set, replicate, get_or-set_same, get_or-set_other}
use Rattle.std.proofs.Math.Nat.{add-mod_right}
use Rattle.subset.specs.Words.{epoch_length}
use Rattle.state.specs.State.{epoch_at, input_at, current_epoch, epoch_words, without_epoch}
use Rattle.work.specs.HoneyBadger.{update_epoch}
use Rattle.rings.proofs.Places.{same_place}
use Rattle.state.proofs.Window.{header_first, Shaped, set_shaped, set_words, without_shaped, without_head, without_place, without_other}

module _ (n f : ℕ) where
  -- THE CURRENT EPOCH is cleared, and the next one is current
  module _ (w : List ℕ) (h : Shaped n f w) where
    abbrev bare : List ℕ
    bare = without_epoch w (current_epoch w)

    abbrev moved : List ℕ
    moved = set bare epoch_at (current_epoch w + 1)

    bare_shaped : Shaped n f bare
    bare_shaped = without_shaped n f w h (current_epoch w)

    moved_shaped : Shaped n f moved
    moved_shaped = set_shaped n f bare bare_shaped epoch_at (current_epoch w + 1) (omega arith) (omega arith)

    pub update_shaped : Shaped n f (update_epoch w)
    unfolding update_epoch
    update_shaped = set_shaped n f moved moved_shaped input_at 0 (omega arith) (omega arith)

    pub update_head : (i : ℕ) → i < epoch_at → get_or (update_epoch w) i 0 ≡ get_or w i 0
    unfolding update_epoch
    update_head i l =
        get_or-set_other moved input_at i 0 0 (omega arith)
        ∙ (get_or-set_other bare epoch_at i (current_epoch w + 1) 0 (omega arith) ∙ without_head n f w h (current_epoch w) i (omega arith))

    pub update_current : current_epoch (update_epoch w) ≡ current_epoch w + 1
    unfolding update_epoch
    update_current =
        get_or-set_other moved input_at epoch_at 0 0 (omega arith)
        ∙ get_or-set_same bare epoch_at (current_epoch w + 1) 0 (omega (arith, bare_shaped.long, header_first n))

    update_words : (d : ℕ) → epoch_words (update_epoch w) d ≡ epoch_words bare d
    unfolding update_epoch
    update_words d =
        set_words n f moved moved_shaped input_at 0 (omega arith) (omega arith) d ∙ set_words n f bare bare_shaped epoch_at (current_epoch w + 1) (omega arith) (omega arith) d

    pub update_kept : (d : ℕ) → current_epoch w < d → d ≤ current_epoch w + f → epoch_words (update_epoch w) d ≡ epoch_words w d
    update_kept d a b =
        update_words d ∙ without_other n f w h (current_epoch w) d (λ q. omega (arith, same_place (f + 1) (current_epoch w) d q (omega arith) (omega arith)))

    -- the epoch that comes into the state is in the place of the one that was cleared
    pub update_next : epoch_words (update_epoch w) (current_epoch w + (f + 1)) ≡ replicate (epoch_length n) 0
    update_next =
        update_words (current_epoch w + (f + 1)) ∙ without_place n f w h (current_epoch w) (current_epoch w + (f + 1)) (sym (add-mod_right (current_epoch w) (f + 1)))
