-- `start_decryption` and `try_output` meet their contracts, case by case. Each call of one by the other sets a flag that was not set.
-- Assumes nothing.
use Rattle.std.proofs.Common.{sym, ap, ◌∙◌}
use Rattle.steps.specs.Runs.{leaves}
use Rattle.steps.specs.Steps.{put_all}
use Rattle.steps.proofs.LentRuns.{onward_ok, onward_err, stops}
use Rattle.decryption.proofs.CycleCode.{start_redundant, start_none, start_goes, start_stops, own_observer, own_sends, own_stops, started_falls, try_ended, try_few, try_none, try_onward}
use Rattle.decryption.proofs.ThresholdDecrypt.+start_decryption_try_output.Goals as goal
use Rattle.decryption.proofs.ThresholdDecrypt.+start_decryption_try_output.Goals.{start_decryption-then-is_validator+then-net+in_ok-share, start_decryption-else-is_validator, start_decryption-else-is_validator-via-then-is_validator+else-net, start_decryption-else-is_validator-via-else-is_validator, try_output-then-self-via-then-self, try_output-then-self-via-else-self+then-count-net, try_output-then-self-via-else-self+else-count-net+then-self-eq0}

pub start_decryption-returns-then-self-clause-run : goal.start_decryption-returns-then-self-clause-run
unfolding put_all
start_decryption-returns-then-self-clause-run t c = ap (leaves _) (sym (start_redundant _ _ _ _ c.if-self.true))

pub start_decryption-returns-then-self-eq0-clause-run : goal.start_decryption-returns-then-self-eq0-clause-run
unfolding put_all
start_decryption-returns-then-self-eq0-clause-run t c = ap (leaves _) (sym (start_none _ _ _ _ c.if-self.false c.if-self-eq0.true))

pub start_decryption-returns-in_err-remove_invalid_shares-clause-run : goal.start_decryption-returns-in_err-remove_invalid_shares-clause-run
start_decryption-returns-in_err-remove_invalid_shares-clause-run t c =
    rw (stops _ _ c.from_residual.ensures.1)
    (start_stops _ _ _ _ c.if-self.false c.if-self-eq0.false _ _ c.remove_invalid_shares.new.writer _ _ c.in_err-remove_invalid_shares.ensures.run)

pub start_decryption-returns-in_err-share-clause-run : goal.start_decryption-returns-in_err-share-clause-run
start_decryption-returns-in_err-share-clause-run t c =
    rw (stops _ _ c.from_residual-in_err-share.ensures.1)
    (start_goes _ _ _ _ c.if-self.false c.if-self-eq0.false _ _ c.remove_invalid_shares.new.writer _ c.in_ok-remove_invalid_shares.ensures.run _
    (own_stops _ _ _ _ _ (rw (← c.if-is_validator.ensures, c.if-net.true)) _ _ c.in_err-share.ensures c.remove_invalid_shares.new.writer))

pub start_decryption-try_output-requires : goal.start_decryption-try_output-requires
start_decryption-try_output-requires t c =
    let falls = started_falls c.args.self.now c.remove_invalid_shares.new.self _ _ _ _ _ t c.decreases c.if-self.false c.in_ok-remove_invalid_shares.ensures.run in
    elim c.if-is_validator.branch [
      | start_decryption-then-is_validator+then-net+in_ok-share w ↦ rw w.self-is (falls, c.requires)
      | start_decryption-else-is_validator w ↦ rw w.self-is (falls, c.requires)
    ]

pub start_decryption-returns-clause-run : goal.start_decryption-returns-clause-run
start_decryption-returns-clause-run t c =
    start_goes _ _ _ _ c.if-self.false c.if-self-eq0.false _ _ c.remove_invalid_shares.new.writer _ c.in_ok-remove_invalid_shares.ensures.run _
    (elim c.if-is_validator.branch [
      | start_decryption-then-is_validator+then-net+in_ok-share w ↦
          own_sends _ _ _ _ _ (rw (← w.if-is_validator.ensures, w.if-net.true)) _ _ w.in_ok-share.ensures _ _ w.message.ensures.step _
          (rw (w.self-is, w.reader-is, w.writer-is) at c.try_output.ensures.run)
      | start_decryption-else-is_validator w ↦
          (rw (w.self-is, w.reader-is, w.writer-is) at c.try_output.ensures.run)
          ∙ ap (leaves _) (sym (own_observer _ _ _ _ _
          (elim w.else-is_validator.branch [
            | start_decryption-else-is_validator-via-then-is_validator+else-net v ↦ rw (← v.if-is_validator.ensures, v.if-net.false)
            | start_decryption-else-is_validator-via-else-is_validator v ↦ rw (← v.if-is_validator.ensures)
          ])))
    ])

pub try_output-returns-then-self-clause-run : goal.try_output-returns-then-self-clause-run
unfolding put_all
try_output-returns-then-self-clause-run t c =
    ap (leaves _)
    (sym
    (elim c.then-self.branch [
      | try_output-then-self-via-then-self w ↦ try_ended _ _ _ _ w.if-self.true
      | try_output-then-self-via-else-self+then-count-net w ↦ try_few _ _ _ _ w.if-self.false (rw (← w.count.ensures) w.if-count-net.true)
      | try_output-then-self-via-else-self+else-count-net+then-self-eq0 w ↦ try_none _ _ _ _ w.if-self.false (rw (← w.count.ensures) w.if-count-net.false) w.if-self-eq0.true
    ]))

pub try_output-returns-in_err-start_decryption-clause-run : goal.try_output-returns-in_err-start_decryption-clause-run
try_output-returns-in_err-start_decryption-clause-run t c =
    rw (stops _ _ c.from_residual.ensures.1)
    (onward_err _ _ _ _ c.start_decryption.new.writer _ _ c.in_err-start_decryption.ensures.run
    ∙ ap (leaves _) (sym (try_onward _ _ _ _ c.if-self.false (rw (← c.count.ensures) c.if-count-net.false) c.if-self-eq0.false)))

pub try_output-returns-clause-run : goal.try_output-returns-clause-run
unfolding put_all
try_output-returns-clause-run t c =
    onward_ok _ _ _ _ c.start_decryption.new.writer _ _ c.in_ok-start_decryption.ensures.run _ (ap (leaves _) (c.combine.ensures _))
    ∙ ap (leaves _) (sym (try_onward _ _ _ _ c.if-self.false (rw (← c.count.ensures) c.if-count-net.false) c.if-self-eq0.false))
