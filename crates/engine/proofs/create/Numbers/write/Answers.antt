-- `Numbers::write` meets its contract: the header word by word into zeros. Assumes nothing.
use Rattle.std.proofs.Common.{◌∙◌}
use Rattle.engine.specs.Shape.{numbers_of}
use Rattle.engine.proofs.CreateCode.{header_written}
use Rattle.engine.proofs.create.Numbers.write.Goals as goal

pub returns : goal.returns
returns c =
    let (kind, first, second) = c.schedule_numbers.ensures in
    let (k, a, b) = c.used-used.ensures in
    rw (k, kind)
    (header_written (numbers_of c.args.self) c.args.state.now _ _ _ c.requires (c.fill.ensures.after (λ y e. e)) (a ∙ rw (kind, first)) (b ∙ rw (kind, second)))
