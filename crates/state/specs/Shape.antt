-- What the code below the entry points requires of the state's words. The range rule has it (`State.state_ok`).
use Rattle.std.specs.Prelude.{ℕ, ◌+◌, ◌≤◌, ◌<◌, ◌^◌, ◌≡◌, List, length}
use Rattle.steps.specs.Numbers.{last_epoch, node_limit, ahead_limit}
use Rattle.state.specs.declared.EncryptionSchedule.{EncryptionSchedule}
use Rattle.state.specs.declared.EncryptionSchedule.TheVariants.{Always, Never, EveryNthEpoch, TickTock}
use Rattle.state.specs.State.{nodes, ahead, current_epoch, state_length}

pub record StateWords (w : List ℕ) : Type 0 where
  pub few : nodes w ≤ node_limit
  pub near : ahead w ≤ ahead_limit
  pub epoch : current_epoch w ≤ last_epoch + ahead w + 1
  pub long : length w ≡ state_length (nodes w) (ahead w)

-- an epoch can be divided by the schedule's numbers, and their sum is a word
abbrev pub Divides : EncryptionSchedule → Type 0
Divides Always = Unit {0}
Divides Never = Unit {0}
Divides (EveryNthEpoch n) = 0 < n
Divides (TickTock on off) = (0 < on + off) × (on + off < 2 ^ 64)
