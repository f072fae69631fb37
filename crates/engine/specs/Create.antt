-- Create: its reply, and the state that it leaves.
use Rattle.std.specs.Prelude.{ℕ, ◌*◌, ◌-◌, List, [], ◌∷◌, ◌++◌, Bool, cond, not, length, replicate, eqb, leb, ltb}
use Rattle.steps.specs.Numbers.{success, numbers_out_of_range, wrong_state_length, last_epoch, node_limit, ahead_limit}
use Rattle.steps.specs.Table.{within}
use Rattle.state.specs.Schedule.{schedule_ok, used_first, used_second}
use Rattle.state.specs.State.{state_length, all_hold}

-- the ten numbers, in the order of the interface
pub record Numbers : Type 0 where
  pub nodes : ℕ
  pub faulty : ℕ
  pub ahead : ℕ
  pub own : ℕ
  pub key : ℕ
  pub strategy : ℕ
  pub epoch : ℕ
  pub schedule : ℕ
  pub first : ℕ
  pub second : ℕ

abbrev pub numbers : ℕ → ℕ → ℕ → ℕ → ℕ → ℕ → ℕ → ℕ → ℕ → ℕ → Numbers
numbers nodes faulty ahead own key strategy epoch schedule first second =
    record {
      nodes = nodes;
      faulty = faulty;
      ahead = ahead;
      own = own;
      key = key;
      strategy = strategy;
      epoch = epoch;
      schedule = schedule;
      first = first;
      second = second;
    }

-- "1: N outside 1..16, 3 × f ≥ N, look-ahead F above 15, own index above N (N means observer), key flag […] or strategy […] not 0 or 1, start
-- epoch above 2^62", and the schedule's rule
unfoldable pub number_tests : Numbers → List Bool
number_tests c =
    within 1 node_limit c.nodes
    ∷ ltb (3 * c.faulty) c.nodes
    ∷ leb c.ahead ahead_limit
    ∷ leb c.own c.nodes
    ∷ leb c.key 1
    ∷ leb c.strategy 1
    ∷ leb c.epoch last_epoch
    ∷ schedule_ok c.schedule c.first c.second
    ∷ []

abbrev pub numbers_ok : Numbers → Bool
numbers_ok c = all_hold (number_tests c)

-- the header's words up to the current epoch
abbrev pub created_header : Numbers → List ℕ
created_header c =
    1 ∷ c.nodes ∷ c.faulty ∷ c.ahead ∷ c.own ∷ c.key ∷ c.strategy
    ∷ c.schedule ∷ used_first c.schedule c.first ∷ used_second c.schedule c.second
    ∷ c.epoch ∷ []

-- the state before any call: these, and zeros
unfoldable pub created : Numbers → List ℕ
created c = created_header c ++ replicate (state_length c.nodes c.ahead - length (created_header c)) 0

-- "Then 2: state length is not 16 + (F+1) × (16 + N × (8+N)) words."
unfoldable pub create_reply : Numbers → List ℕ → ℕ
create_reply c w =
    cond (not (numbers_ok c)) numbers_out_of_range (cond (eqb (length w) (state_length c.nodes c.ahead)) success wrong_state_length)

unfoldable pub create_state : Numbers → List ℕ → List ℕ
create_state c w = cond (eqb (create_reply c w) success) (created c) w
