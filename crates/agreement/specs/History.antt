-- What happened in a run, told from its calls, their chains of answers and their step words alone (docs/EVIDENCE.md, 'Rules to keep').
use Rattle.std.specs.Prelude.{ℕ, zero, suc, ◌+◌, max, List, [], ◌∷◌, ◌++◌, Bool, true, false, cond, ◌&&◌, length, take, drop, eqb, ltb}
use Rattle.std.specs.Prelude.{Option, None, Some}
use Rattle.steps.specs.Numbers.{share_content, success, ciphertext_reads, ciphertext_verifies, contribution_decrypted, contribution_reads}
use Rattle.steps.specs.Table.{within}
use Rattle.steps.specs.Answers.{Rec, tape_of}
use Rattle.steps.specs.Batches.{BatchEntry, Batch, batches_of, fives_of}
use Rattle.steps.specs.Taken.{or_else, is_there, is_true, first_taken, of_value, of_decision, ones_from, concerned_after, first_decrypted, thirteens_in}
use Rattle.calls.specs.Calls.{propose_call, message_call, skip_reply, skip_state}

-- A CALL with "any answer, step and scratch words"
pub data Call : Type 0 where
  propose : (scratch answers step : List ℕ) → Call
  message : (sender epoch content proposer item : ℕ) (scratch answers step : List ℕ) → Call
  skip : (target : ℕ) → Call

-- a call that was made, its reply, and the words of its step table afterwards (a skip has none)
pub record Turn : Type 0 where
  pub call : Call
  pub reply : ℕ
  pub step : List ℕ

unfoldable pub turn_of : List ℕ → Call → Turn
turn_of w (propose scratch answers step) =
    record {
      call = propose scratch answers step;
      reply = (propose_call w scratch answers step).reply;
      step = (propose_call w scratch answers step).step;
    }
turn_of w (message sender epoch content proposer item scratch answers step) =
    record {
      call = message sender epoch content proposer item scratch answers step;
      reply = (message_call w scratch answers step sender epoch content proposer item).reply;
      step = (message_call w scratch answers step sender epoch content proposer item).step;
    }
turn_of w (skip target) = record { call = skip target; reply = skip_reply target w; step = [] }

unfoldable pub state_after : List ℕ → Call → List ℕ
state_after w (propose scratch answers step) = (propose_call w scratch answers step).state
state_after w (message sender epoch content proposer item scratch answers step) =
    (message_call w scratch answers step sender epoch content proposer item).state
state_after w (skip target) = skip_state target w

-- "Each call gets the state as the one before it left it"
unfoldable pub turns : List ℕ → List Call → List Turn
turns w [] = []
turns w (c ∷ cs) = turn_of w c ∷ turns (state_after w c) cs

-- "none fails (20 to 25)"
unfoldable pub none_fails : List Turn → Bool
none_fails [] = true
none_fails (t ∷ ts) = ltb t.reply 20 && none_fails ts

-- THE HISTORY: "What follows counts calls with reply 0 only, each with its whole chain of answers."
pub record Event : Type 0 where
  -- the epoch current before it
  pub current : ℕ
  -- a message, or a propose
  pub is_message : Bool
  -- "A message is for the epoch it names, a propose for the epoch current before it."
  pub epoch : ℕ
  -- the proposer of a share message
  pub share_of : Option ℕ
  pub answers : List Rec
  pub batches : List Batch
  pub fives : List ℕ

abbrev pub event : ℕ → Bool → ℕ → Option ℕ → List ℕ → List ℕ → Event
event current is_message epoch share_of answers step =
    record {
      current = current;
      is_message = is_message;
      epoch = epoch;
      share_of = share_of;
      answers = (tape_of answers).rest;
      batches = batches_of step;
      fives = fives_of step;
    }

unfoldable pub events_of : ℕ → Call → List ℕ → List Event
events_of current (propose scratch answers step₀) step = event current false current None answers step ∷ []
events_of current (message sender epoch content proposer item scratch answers step₀) step =
    event current true epoch (cond (eqb content share_content) (Some proposer) None) answers step ∷ []
events_of current (skip target) step = []

-- "each batch handed out adds one, each skip raises it to its target if higher"
unfoldable pub current_after : ℕ → Call → List ℕ → ℕ
current_after current (propose scratch answers step₀) step = current + length (batches_of step)
current_after current (message sender epoch content proposer item scratch answers step₀) step = current + length (batches_of step)
current_after current (skip target) step = max current target

unfoldable pub history : ℕ → List Turn → List Event
history current [] = []
history current (t ∷ ts) =
    cond (eqb t.reply success) (events_of current t.call t.step) []
    ++ history (cond (eqb t.reply success) (current_after current t.call t.step) current) ts

-- WHAT WAS TAKEN: "In an epoch, the value taken for a proposer is […]; the decision is the same of kinds 5 to 7"
unfoldable pub taken : (ℕ → Bool) → List Event → ℕ → ℕ → Option ℕ
taken is [] e p = None
taken is (x ∷ xs) e p = or_else (cond (eqb x.epoch e) (first_taken is p x.answers) None) (taken is xs e p)

abbrev pub value_taken : List Event → ℕ → ℕ → Option ℕ
value_taken h e p = taken of_value h e p

abbrev pub decision_taken : List Event → ℕ → ℕ → Option ℕ
decision_taken h e p = taken of_decision h e p

unfoldable pub decrypted : List Event → ℕ → ℕ → Option ℕ
decrypted [] e p = None
decrypted (x ∷ xs) e p = or_else (cond (eqb x.epoch e) (first_decrypted p x.share_of x.answers) None) (decrypted xs e p)

-- "The plaintext is the value itself where the epoch is not encrypted, else 12's handle."
unfoldable pub plaintext : (ℕ → Bool) → List Event → ℕ → ℕ → Option ℕ
plaintext encrypted h e p = cond (encrypted e) (decrypted h e p) (value_taken h e p)

-- DECIDED TRUE. Of the next m proposers, from p on, those that a test tells, by rising index
unfoldable pub names_from : (ℕ → Bool) → ℕ → ℕ → List ℕ
names_from is zero p = []
names_from is (suc m) p = cond (is p) (p ∷ []) [] ++ names_from is m (p + 1)

-- the proposers decided true in an epoch, and how many they are
abbrev pub decided_true_in : ℕ → List Event → ℕ → List ℕ
decided_true_in n h e = names_from (λ p. is_true (decision_taken h e p)) n 0

abbrev pub ones_in : ℕ → List Event → ℕ → ℕ
ones_in n h e = ones_from (decision_taken h e) n 0

-- THE 13s
-- how many of the next m proposers, from p on, are "in its epoch […] decided true and [have] a plaintext"
unfoldable pub count_open : (ℕ → Option ℕ) → (ℕ → Option ℕ) → ℕ → ℕ → ℕ
count_open decision text zero p = 0
count_open decision text (suc m) p = cond (is_true (decision p) && is_there (text p)) 1 0 + count_open decision text m (p + 1)

-- a batch with its 13s
pub record Handed : Type 0 where
  pub batch : Batch
  pub thirteens : List Rec

module _ (n : ℕ) (encrypted : ℕ → Bool) (h : List Event) where
  -- the 13s of a batch of this epoch: one for every such proposer
  unfoldable pub wanted_in : ℕ → ℕ
  wanted_in e = count_open (decision_taken h e) (plaintext encrypted h e) n 0

  -- "The 13s of a call go to its step's batches in order"
  unfoldable pub dealt : List Batch → List Rec → List Handed
  dealt [] rs = []
  dealt (b ∷ bs) rs =
      record { batch = b; thirteens = take (wanted_in b.epoch) rs } ∷ dealt bs (drop (wanted_in b.epoch) rs)

  abbrev pub handed_in : Event → List Handed
  handed_in x = dealt x.batches (thirteens_in x.answers)

  unfoldable pub handed_of : List Event → List Handed
  handed_of [] = []
  handed_of (x ∷ xs) = handed_in x ++ handed_of xs

  -- every batch that the run handed out
  abbrev pub handed : List Handed
  handed = handed_of h

-- the proposers that 13s name
unfoldable pub names_of : List Rec → List ℕ
names_of [] = []
names_of (r ∷ rs) = r.b ∷ names_of rs

-- the 13s that went to these batches
unfoldable pub thirteens_of : List Handed → List Rec
thirteens_of [] = []
thirteens_of (x ∷ xs) = x.thirteens ++ thirteens_of xs

-- "Unreadable are those whose 13 has a = 0"
unfoldable pub unreadable_in : List Rec → List ℕ
unreadable_in [] = []
unreadable_in (r ∷ rs) = cond (eqb r.a 0) (r.b ∷ []) [] ++ unreadable_in rs

abbrev pub unreadable : Handed → List ℕ
unreadable x = unreadable_in x.thirteens

unfoldable pub proposers_in : List BatchEntry → List ℕ
proposers_in [] = []
proposers_in (x ∷ xs) = x.proposer ∷ proposers_in xs

-- "Contributors are those with an entry."
abbrev pub contributors : Handed → List ℕ
contributors x = proposers_in x.batch.entries

unfoldable pub unreadable_of : List Handed → List ℕ
unreadable_of [] = []
unreadable_of (x ∷ xs) = unreadable x ++ unreadable_of xs

-- READING, CHECKING AND DECRYPTING: an answer to 8, 9 or 12 of a value, or to 13 of a plaintext
pub record Reading : Type 0 where
  pub kind : ℕ
  pub subject : ℕ
  pub a : ℕ
  pub b : ℕ

unfoldable pub reading_of : ℕ → Option ℕ → Rec → List Reading
reading_of kind None r = []
reading_of kind (Some x) r = record { kind = kind; subject = x; a = r.a; b = r.b } ∷ []

unfoldable pub value_concerned : (ℕ → Option ℕ) → Option ℕ → Option ℕ
value_concerned value None = None
value_concerned value (Some p) = value p

-- "Kinds 8 and 9 concern their proposer's value", a 12 that of the proposer that it concerns. `value` gives the values taken in the epoch
unfoldable pub readings_at : (ℕ → Option ℕ) → Option ℕ → Rec → List Reading
readings_at value who r =
    cond (within ciphertext_reads ciphertext_verifies r.kind) (reading_of r.kind (value r.b) r)
    (cond (eqb r.kind contribution_decrypted) (reading_of contribution_decrypted (value_concerned value who) r) [])

unfoldable pub readings_in : (ℕ → Option ℕ) → Option ℕ → List Rec → List Reading
readings_in value who [] = []
readings_in value who (r ∷ rs) = readings_at value who r ++ readings_in value (concerned_after who r) rs

-- a 13 concerns the plaintext of the proposer that it names, in its batch's epoch
unfoldable pub readings_of13 : (ℕ → Option ℕ) → List Rec → List Reading
readings_of13 text [] = []
readings_of13 text (r ∷ rs) = reading_of contribution_reads (text r.b) r ++ readings_of13 text rs

unfoldable pub readings_of_batches : (ℕ → Bool) → List Event → List Handed → List Reading
readings_of_batches encrypted h [] = []
readings_of_batches encrypted h (x ∷ xs) =
    readings_of13 (plaintext encrypted h x.batch.epoch) x.thirteens ++ readings_of_batches encrypted h xs

unfoldable pub readings_of_calls : List Event → List Event → List Reading
readings_of_calls h [] = []
readings_of_calls h (x ∷ xs) = readings_in (value_taken h x.epoch) x.share_of x.answers ++ readings_of_calls h xs

abbrev pub readings : ℕ → (ℕ → Bool) → List Event → List Reading
readings n encrypted h = readings_of_calls h h ++ readings_of_batches encrypted h (handed n encrypted h)
