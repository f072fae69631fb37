-- `Numbers::are_ok` meets its contract: the definition's tests in its order, after the one that keeps the product small. Assumes nothing.
use Rattle.std.proofs.Common.{◌≡◌, ◌∙◌, rules}
use Rattle.steps.specs.Table.{within}
use Rattle.engine.specs.Shape.{numbers_of}
use Rattle.engine.proofs.CreateCode.{numbers_off, numbers_joined}
use Rattle.engine.proofs.create.Numbers.are_ok.Goals as goal

pub returns-then-f-gt-NODE_LIMIT : goal.returns-then-f-gt-NODE_LIMIT
returns-then-f-gt-NODE_LIMIT c = numbers_off (numbers_of c.args.self) c.if-f-gt-NODE_LIMIT.true

pub returns : goal.returns
returns c =
    let (kind, first, second) = c.schedule_numbers.ensures in
    let few : c.contains.result ≡ within 1 16 c.args.self.nodes = search rules in
    rw few (numbers_joined (numbers_of c.args.self) _ (c.is_ok.ensures ∙ rw (kind, first, second)))
