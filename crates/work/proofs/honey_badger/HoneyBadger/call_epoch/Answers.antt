-- `call_epoch` meets its contract: the epoch is loaded and built, then its call runs. Assumes nothing.
use Rattle.std.proofs.Common.{refl, ap, ◌∙◌}
use Rattle.steps.proofs.LentRuns.{read_ok_left, read_err_left, stops}
use Rattle.state.specs.State.{nodes}
use Rattle.state.proofs.RangeCode.{ok_words}
use Rattle.work.specs.Work.{built, epoch_call}
use Rattle.work.proofs.RunCode.{built_listed}
use Rattle.work.proofs.honey_badger.HoneyBadger.call_epoch.Goals as goal

pub returns-in_err-build-clause-run : goal.returns-in_err-build-clause-run
unfolding epoch_call
returns-in_err-build-clause-run c =
    rw (stops _ _ c.from_residual.ensures.1) (read_err_left _ _ _ _ _ (c.in_err-build.ensures ∙ ap (λ x. built (nodes c.args.self.now.state.now) x c.args.reader.now) c.load.ensures) c.args.writer.now)

pub call_body-requires : goal.call_body-requires
call_body-requires c = (
  record { few = (ok_words c.args.self.now.state.now c.args.self.now.in_range).few; long = c.build.auto.words ∙ (c.load.auto.words ∙ c.requires) },
  built_listed c.args.self.now.state.now c.args.self.now.in_range c.args.self.now.epoch c.args.reader.now c.build.result _ _ (c.build.ensures ∙ ap (λ x. built (nodes c.args.self.now.state.now) x c.args.reader.now) c.load.ensures),
)

pub returns-clause-run : goal.returns-clause-run
unfolding epoch_call
returns-clause-run c = c.call_body.ensures.run ∙ read_ok_left _ _ _ _ _ (c.in_ok-build.ensures ∙ ap (λ x. built (nodes c.args.self.now.state.now) x c.args.reader.now) c.load.ensures) _ _ refl
