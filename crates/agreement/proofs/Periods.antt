-- TickTock in an engine: which epochs an engine that create made encrypts, and which hosts have equal schedules in demand 3. Assumes nothing.
use Rattle.std.proofs.Common.{ℕ, ◌+◌, ◌-◌, ◌*◌, ◌≤◌, ◌<◌, ◌≡◌, ap, ◌∙◌, ltb}
use Rattle.std.proofs.Math.Path.{fun_ext}
use Rattle.state.specs.Schedule.{schedule_of}
use Rattle.state.specs.State.{encrypted_in}
use Rattle.state.proofs.Schedules.{first_on, as_every_nth}
use Rattle.engine.specs.Create.{Numbers, created}
use Rattle.agreement.specs.Demand3.{Made, encrypted_of}
use Rattle.agreement.proofs.TwoRuns.{encrypted_as}

-- "TickTock(on, off) encrypts exactly the first `on` epochs of each period", counted from epoch 0 whatever the start epoch
pub created_first_on : (c : Numbers) → c.schedule ≡ 3 → (k i : ℕ) → i < c.first + c.second
    → encrypted_in (created c) (k * (c.first + c.second) + i) ≡ ltb i c.first
unfolding schedule_of
created_first_on c h k i l =
    ap (λ f. f (k * (c.first + c.second) + i)) (encrypted_as c) ∙ rw h (first_on c.first c.second k i l)

-- hosts with TickTock(1, n − 1) and hosts with EveryNthEpoch(n) agree: what demand 3 wants equal is which epochs are encrypted
pub same_as_every_nth : (n : ℕ) → 1 ≤ n → (m₁ m₂ : Made) → m₁.numbers.schedule ≡ 3 → m₁.numbers.first ≡ 1 → m₁.numbers.second ≡ n - 1
    → m₂.numbers.schedule ≡ 2 → m₂.numbers.first ≡ n → encrypted_of m₁ ≡ encrypted_of m₂
unfolding schedule_of
same_as_every_nth n l m₁ m₂ h a b g d = fun_ext (λ e. rw (h, a, b, g, d) (as_every_nth n e l))
