use Rattle.std.proofs.Common.{◌≡◌, ℕ, ◌+◌, ◌-◌, ◌≤◌, ◌<◌, length, get_or}
use Rattle.steps.specs.Table.{chain_ok}
use Rattle.answers.proofs.table_ok.Given as goal

abbrev pub invariant-loop-next : goal.invariant-loop-next
invariant-loop-next l = (l.own < length l.answers) × ((m : ℕ) × ((length l.answers ≤ l.own + m) × (chain_ok (length l.answers) l.n l.answers 0 (get_or l.answers 0 0) 0 ≡ chain_ok m l.n l.answers l.own l.next l.context)))

abbrev pub decreases-loop-next : goal.decreases-loop-next
decreases-loop-next l = length l.answers - l.own
