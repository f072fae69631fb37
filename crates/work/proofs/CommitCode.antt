-- Laws for the code that writes the state. Assumes nothing.
use Rattle.std.proofs.Common.{ℕ, suc, ◌+◌, ◌-◌, ◌≤◌, ◌<◌, min, ◌≡◌, refl, sym, Bool, true, false, List, arith, get_or-set_other, ltb, lt-ltb, ltb-true, ltb-false}
use Rattle.state.specs.State.{nodes, nodes_at, input_at, without_epoch}
use Rattle.state.specs.Shape.{StateWords}
use Rattle.state.proofs.WordsCode.{input_kept}
use Rattle.work.specs.declared.honey_badger.Call.{Call}
use Rattle.work.specs.declared.honey_badger.Call.TheVariants.{Propose, Message}
use Rattle.work.specs.HoneyBadger.{clear_below}
use Rattle.work.specs.Shape.{call_base}
use Rattle.work.proofs.ClearingIsSkipping.{clear_none}

-- CLEARING: one epoch more, or none left
module _ (target behind e : ℕ) (w : List ℕ) where
  pub clear_turn : e < min target behind → clear_below target (behind - (e + 1)) (e + 1) (without_epoch w e) ≡ clear_below target (behind - e) e w
  unfolding clear_below
  clear_turn h =
      let z : behind - e ≡ suc (behind - (e + 1)) = omega arith in
      rw (z, clear_below, lt-ltb e target (omega arith))

  pub clear_over : min target behind ≤ e → w ≡ clear_below target (behind - e) e w
  unfolding clear_below
  clear_over h = go (ltb e target) refl
    where
      go : (x : Bool) → ltb e target ≡ x → w ≡ clear_below target (behind - e) e w
      go true t = let z : behind - e ≡ 0 = omega (arith, ltb-true e target t) in rw z
      go false f = sym (clear_none target (behind - e) e w (ltb-false e target f))

-- WHAT THE COMMIT WRITES ON is still a state, and of as many nodes
pub base_kept : (call : Call) (w : List ℕ) → StateWords w → StateWords (call_base call w)
base_kept Propose w h = input_kept w h 1
base_kept (Message sender proposer content) w h = h

pub base_nodes : (call : Call) (w : List ℕ) → nodes (call_base call w) ≡ nodes w
base_nodes Propose w = get_or-set_other w input_at nodes_at 1 0 (omega arith)
base_nodes (Message sender proposer content) w = refl
