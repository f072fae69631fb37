-- `commit` meets its contract: the epoch is stored in what the commit writes on, then skipped from. Assumes nothing.
use Rattle.std.proofs.Common.{sym, ap, ◌∙◌}
use Rattle.subset.specs.Words.{epoch_length}
use Rattle.state.specs.State.{with_epoch}
use Rattle.state.proofs.WordsCode.{with_kept}
use Rattle.work.specs.HoneyBadger.{skip_to_epoch}
use Rattle.work.specs.Work.{committed}
use Rattle.work.specs.Shape.{call_base}
use Rattle.work.proofs.CommitCode.{base_kept, base_nodes}
use Rattle.work.proofs.commit.commit.Goals as goal

pub skip_to_epoch-requires : goal.skip_to_epoch-requires
skip_to_epoch-requires c = rw (c.store.ensures, c.note_input.ensures) (with_kept (call_base c.args.call c.args.state.now) (base_kept c.args.call c.args.state.now c.requires.0) c.args.epoch c.args.words.now (c.requires.1 ∙ ap epoch_length (sym (base_nodes c.args.call c.args.state.now))))

pub returns : goal.returns
unfolding committed
returns c = c.skip_to_epoch.ensures ∙ ap (skip_to_epoch c.args.next) (c.store.ensures ∙ ap (λ v. with_epoch v c.args.epoch c.args.words.now) c.note_input.ensures)
