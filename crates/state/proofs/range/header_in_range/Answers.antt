-- `header_in_range` meets its contract: the definition's tests in its order, after those that keep sums small. Assumes nothing.
use Rattle.std.proofs.Common.{rules, ◌≡◌}
use Rattle.steps.specs.Table.{within}
use Rattle.state.specs.State.{header_tests, nodes}
use Rattle.state.proofs.RangeCode.{header_large, in_order, vacant_zero}
use Rattle.state.proofs.range.header_in_range.Goals as goal

pub returns-then-n-f : goal.returns-then-n-f
returns-then-n-f c = header_large c.args.state.now c.if-n-f.true

pub returns : goal.returns
unfolding header_tests
returns c =
    let (kind, first, second) = c.schedule_numbers-schedule.ensures in
    let few : c.contains.result ≡ within 1 16 (nodes c.args.state.now) = search rules in
    rw (few, c.is_ok.ensures, c.used-used.ensures.1, c.used-used.ensures.2, kind, first, second, vacant_zero c.args.state.now)
    (in_order _ _ _ _ _ _ _ _ _ _ _ _ _ _)
