-- THE OPERATIONS as a host sees them: a list of calls of hb_create, hb_propose, hb_message and hb_skip (crates/engine/src/lib.rt), of which each
-- keeps the equations of its contract and gets the state as the one before it left it. That this is a run of the definitions is said here and
-- nowhere else; so the two-run agreement, the paper's rule and the range rule are about these operations. Proved in proofs/Operations.antt.
use Rattle.std.specs.Prelude.{ℕ, ◌≡◌, true}
use mathlib.Core.List.{List, [], ◌∷◌, Memᴰ}
use Rattle.state.specs.State.{state_ok}
use Rattle.engine.specs.Create.{Numbers, create_reply, create_state}
use Rattle.calls.specs.Calls.{after, propose_call, message_call, skip_reply, skip_state}
use Rattle.agreement.specs.History.{Call, propose, message, skip, Turn, turns, none_fails, Event, history}
use Rattle.agreement.specs.Demand3.{Made, history_of, encrypted_of, SameNetwork, Premises, Conclusions}
use Rattle.agreement.specs.Demand2.{end_of, PaperRule}

-- a call that a host has made, its reply, and the lent words afterwards
pub record Seen : Type 0 where
  pub call : Call
  pub reply : ℕ
  pub state : List ℕ
  pub scratch : List ℕ
  pub step : List ℕ

-- THE CONTRACTS of hb_propose, hb_message and hb_skip, called on the state w: their `ensures`
abbrev pub Keeps : List ℕ → Call → Seen → Type 0
Keeps w (propose scratch answers step) x = after x.reply x.state x.scratch x.step ≡ propose_call w scratch answers step
Keeps w (message sender epoch content proposer item scratch answers step) x =
    after x.reply x.state x.scratch x.step ≡ message_call w scratch answers step sender epoch content proposer item
Keeps w (skip target) x = (x.reply ≡ skip_reply target w) × (x.state ≡ skip_state target w)

-- "Each call gets the state as the one before it left it, which nobody else writes meanwhile"
abbrev pub KeepAll : List ℕ → List Seen → Type 0
KeepAll w [] = Unit {0}
KeepAll w (x ∷ xs) = Keeps w x.call x × KeepAll x.state xs

-- a host's whole list: create on the words that were lent, its reply, the state that it left, and the calls
pub record Host : Type 0 where
  pub numbers : Numbers
  pub lent : List ℕ
  pub reply : ℕ
  pub state : List ℕ
  pub seen : List Seen

-- and the contract of hb_create
pub record Kept (h : Host) : Type 0 where
  pub replied : h.reply ≡ create_reply h.numbers h.lent
  pub created : h.state ≡ create_state h.numbers h.lent
  pub calls : KeepAll h.state h.seen

-- WHAT WAS SEEN, as a list of turns. A skip has no step
abbrev pub step_seen : Call → List ℕ → List ℕ
step_seen (propose scratch answers step₀) step = step
step_seen (message sender epoch content proposer item scratch answers step₀) step = step
step_seen (skip target) step = []

unfoldable pub turns_seen : List Seen → List Turn
turns_seen [] = []
turns_seen (x ∷ xs) = record { call = x.call; reply = x.reply; step = step_seen x.call x.step } ∷ turns_seen xs

unfoldable pub calls_seen : List Seen → List Call
calls_seen [] = []
calls_seen (x ∷ xs) = x.call ∷ calls_seen xs

unfoldable pub state_seen : List ℕ → List Seen → List ℕ
state_seen w [] = w
state_seen w (x ∷ xs) = state_seen x.state xs

abbrev pub history_seen : Host → List Event
history_seen h = history h.numbers.epoch (turns_seen h.seen)

abbrev pub made_by : Host → Made
made_by h = record { numbers = h.numbers; words = h.lent; calls = calls_seen h.seen }

-- THE STATEMENTS

-- one host: every reply, step and state that was seen is that of the definitions' run
pub record AsDefined (h : Host) : Type 0 where
  pub turns : turns_seen h.seen ≡ turns (create_state h.numbers h.lent) (calls_seen h.seen)
  pub history : history_seen h ≡ history_of (made_by h)
  pub state : state_seen h.state h.seen ≡ end_of (made_by h)

abbrev pub OperationsDefined : Type 0
OperationsDefined = (h : Host) → Kept h → AsDefined h

-- "no state the engine leaves breaks them"
abbrev pub OperationsInRange : Type 0
OperationsInRange = (h : Host) → Kept h → h.reply ≡ 0 → (x : Seen) → Memᴰ x h.seen → state_ok x.state ≡ true

-- "Each list starts from the state that a create with reply 0 left"; "none fails (20 to 25)"
pub record Unfailing (h : Host) : Type 0 where
  pub created : h.reply ≡ 0
  pub unfailing : none_fails (turns_seen h.seen) ≡ true

-- DEMAND 2: the paper's rule
abbrev pub OperationsRule : Type 0
OperationsRule = (h : Host) → Kept h → Unfailing h → PaperRule (made_by h)

-- DEMAND 3: two hosts, over two whole lists of calls
abbrev pub OperationsAgree : Type 0
OperationsAgree =
    (h₁ h₂ : Host) → Kept h₁ → Kept h₂ → Unfailing h₁ → Unfailing h₂ → SameNetwork (made_by h₁) (made_by h₂)
    → Premises h₁.numbers.nodes (encrypted_of (made_by h₁)) (history_seen h₁) (history_seen h₂)
    → Conclusions h₁.numbers.nodes h₁.numbers.faulty (encrypted_of (made_by h₁)) (history_seen h₁) (history_seen h₂)
