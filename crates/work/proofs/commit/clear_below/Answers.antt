-- `clear_below` meets its contract. The invariant: clearing from here on is clearing from the start. Assumes nothing.
use Rattle.std.proofs.Common.{◌+◌, ◌-◌, ap, ◌∙◌, arith}
use Rattle.state.specs.State.{ahead, current_epoch}
use Rattle.state.proofs.WordsCode.{without_kept}
use Rattle.work.specs.HoneyBadger.{clear_below}
use Rattle.work.proofs.CommitCode.{clear_turn}
use Rattle.work.proofs.commit.clear_below.Goals as goal

pub loop-epoch-preserved : goal.loop-epoch-preserved
loop-epoch-preserved c =
    let w = c.args.state.now in
    let behind = current_epoch w + ahead w + 1 in (
      rw c.clear_epoch.ensures (without_kept c.loop-epoch.state c.loop-epoch.invariant.0 c.loop-epoch.epoch),
      ap (clear_below c.args.target (behind - (c.loop-epoch.epoch + 1)) (c.loop-epoch.epoch + 1)) c.clear_epoch.ensures
          ∙ clear_turn c.args.target behind c.loop-epoch.epoch c.loop-epoch.state (omega arith)
          ∙ c.loop-epoch.invariant.1,
    )
