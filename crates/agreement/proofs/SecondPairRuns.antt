-- A SECOND WORKED PAIR OF RUNS for demand 3 (Demand3.antt): a validator and an observer among N 4 with f 1. Here are the runs and what is
-- computed of them; SecondPairClaim.antt proves that all premises of the claim hold of them, and computes its conclusions.
--
-- What this pair has and the first one (FirstPairRuns.antt) has not: one decision 0 in each epoch; share messages, some before the ciphertext, whose
-- shares combine; an observer; two proposers with the same value; a skip that moves; an epoch that only one host hands out, on each side.
use Rattle.std.proofs.Common.{ℕ, ◌+◌, max, ◌≡◌, refl, List, [], ◌∷◌, ◌++◌, Bool, true, false, Option, None, Some, length, replicate}
use Rattle.steps.specs.Steps.{Item, item, link_after}
use Rattle.steps.specs.Answers.{Rec}
use Rattle.steps.specs.Batches.{Batch}
use Rattle.steps.proofs.CaseTables.{table}
use Rattle.state.specs.State.{state_length, scratch_length}
use Rattle.agreement.specs.History.{Call, propose, message, skip, Event, handed, value_taken, decision_taken, readings}
use Rattle.agreement.specs.Demand3.{Made, turns_of, history_of, encrypted_of}
use Rattle.agreement.proofs.FirstPairRuns.{built, serialised, broadcast, delivered, voted, reads, reads_not, replies_in, Seen, batches_seen, entry}
use Rattle.agreement.specs.Opened.{opened}

-- ANSWERS, besides those of the first pair. Vote 0 for p decides 0
abbrev voted_not : ℕ → List Item
voted_not p = item 7 1 p ∷ item 18 0 0 ∷ []

-- an agreement message about p decides 1
abbrev decided : ℕ → List Item
decided p = item 5 1 p ∷ item 18 0 1 ∷ []

-- p's ciphertext reads and verifies
abbrev ciphertext : ℕ → List Item
ciphertext p = item 8 1 p ∷ item 9 1 p ∷ []

-- a sender's share verifies, the own share is made, shares combine to a plaintext
abbrev verified : ℕ → List Item
verified sender = item 10 1 sender ∷ []

abbrev own_share : ℕ → List Item
own_share share = item 11 1 share ∷ []

abbrev combined : ℕ → List Item
combined plaintext = item 12 1 plaintext ∷ []

-- A LINE of a run: a call with its answers, and the event that it must make of them, with the batches of its step and the nodes of its
-- faults 5. 16 records are lent for the step, and scratch for either host
pub record Line : Type 0 where
  pub call : Call
  -- by the epoch that is current before the call: its event, and the epoch that is current afterwards
  pub events : ℕ → List Event
  pub current : ℕ → ℕ

pub record Outcome : Type 0 where
  pub batches : List Batch
  pub fives : List ℕ

-- no batch
abbrev quiet : Outcome
quiet = record { batches = []; fives = [] }

abbrev brings : List Batch → List ℕ → Outcome
brings batches fives = record { batches = batches; fives = fives }

-- these answers, as the chain of their table
unfoldable pub told : ℕ → List Item → List Rec
told i [] = []
told i (x ∷ xs) = record { next = link_after i xs; kind = x.kind; a = x.a; b = x.b } ∷ told (i + 1) xs

abbrev line : Call → Bool → ℕ → Option ℕ → List Item → Outcome → Line
line call is_message epoch share_of xs o =
    record {
      call = call;
      events = λ current. record { current = current; is_message = is_message; epoch = epoch; share_of = share_of; answers = told 1 xs; batches = o.batches; fives = o.fives } ∷ [];
      current = λ current. current + length o.batches;
    }

-- a propose, which must be for this epoch
abbrev proposing : ℕ → List Item → Outcome → Line
proposing epoch xs o = line (propose (replicate (scratch_length 4 1) 9) (table xs) (replicate 64 9)) false epoch None xs o

-- messages, each by its sender, its epoch and the proposer that it is about: of the broadcast, of the agreement, and a decryption share
abbrev hearing : ℕ → ℕ → ℕ → List Item → Outcome → Line
hearing sender epoch p xs o = line (message sender epoch 1 p 0 (replicate (scratch_length 4 1) 9) (table xs) (replicate 64 9)) true epoch None xs o

abbrev agreeing : ℕ → ℕ → ℕ → List Item → Outcome → Line
agreeing sender epoch p xs o = line (message sender epoch 2 p 0 (replicate (scratch_length 4 1) 9) (table xs) (replicate 64 9)) true epoch None xs o

abbrev sharing : ℕ → ℕ → ℕ → ℕ → List Item → Outcome → Line
sharing sender epoch p share xs o =
    line (message sender epoch 3 p share (replicate (scratch_length 4 1) 9) (table xs) (replicate 64 9)) true epoch (Some p) xs o

abbrev skipping : ℕ → Line
skipping target = record { call = skip target; events = λ current. []; current = λ current. max current target }

unfoldable pub calls_of : List Line → List Call
calls_of [] = []
calls_of (l ∷ ls) = l.call ∷ calls_of ls

unfoldable pub events_of : ℕ → List Line → List Event
events_of current [] = []
events_of current (l ∷ ls) = l.events current ++ events_of (l.current current) ls

-- THE HOSTS. EveryNthEpoch(2): epochs 0 and 2 are encrypted, epochs 1 and 3 are not. In epoch e the proposer 4 − e is decided 0, the others 1. The
-- value of proposer p is 10 × e + p, but in epoch 2 proposer 3 has the value 21 of proposer 1. A value v decrypts to 100 + v; 120 does not read.
--
-- So both hosts hand out this batch of epoch 2; its proposer 0 is unreadable
abbrev batch2 : Batch
batch2 = record { epoch = 2; count = 2; entries = entry 1 121 ∷ entry 3 121 ∷ [] }

-- Host C is node 0, with its key: AllAtEnd, no look-ahead, from epoch 1 on. It hands out epochs 1 and 2
abbrev batch1 : Batch
batch1 = record { epoch = 1; count = 3; entries = entry 0 10 ∷ entry 1 11 ∷ entry 2 12 ∷ [] }

unfoldable pub lines_c : List Line
lines_c =
    -- epoch 1: with the third value N − f are decided 1, and vote 0 for proposer 3 ends the epoch
    proposing 1 (built ++ (serialised 10 ++ (broadcast 0 10 ++ voted 0))) quiet
    ∷ hearing 1 1 1 (delivered 1 11 ++ voted 1) quiet
    ∷ hearing 2 1 2 (delivered 2 12 ++ (voted 2 ++ (voted_not 3 ++ (reads 0 ++ (reads 1 ++ reads 2))))) (brings (batch1 ∷ []) [])
    -- epoch 2: the share of node 1 for its own value comes before that value, and is kept unchecked
    ∷ proposing 2 (built ++ (serialised 20 ++ (broadcast 0 20 ++ voted 0))) quiet
    ∷ sharing 1 2 1 71 [] quiet
    ∷ hearing 1 2 1 (delivered 1 21 ++ voted 1) quiet
    -- proposer 3 is decided 1 without its value; that makes N − f, and proposer 2 gets vote 0
    ∷ agreeing 3 2 3 (decided 3 ++ voted_not 2) quiet
    -- the last value: now the own shares are made, and with the share that was kept the value of proposer 1 is decrypted
    ∷ hearing 3 2 3
    (delivered 3 21
    ++ (ciphertext 0 ++ (own_share 80 ++ (ciphertext 1 ++ (verified 1 ++ (own_share 81 ++ (combined 121 ++ (ciphertext 3 ++ own_share 83)))))))) quiet
    -- two more shares: each combines with the own one. The second brings the batch
    ∷ sharing 3 2 0 72 (verified 3 ++ combined 120) quiet
    ∷ sharing 1 2 3 73 (verified 1 ++ (combined 121 ++ (reads_not 0 ++ (reads 1 ++ reads 3)))) (brings (batch2 ∷ []) (0 ∷ []))
    ∷ []

-- Host D is an observer, so it has no key: Incremental, look-ahead 1, from epoch 0 on. It hands out epochs 2 and 3
abbrev batch3 : Batch
batch3 = record { epoch = 3; count = 3; entries = entry 0 30 ∷ entry 2 32 ∷ entry 3 33 ∷ [] }

unfoldable pub lines_d : List Line
lines_d =
    -- a value of epoch 1; then epochs 0 and 1 are left out
    hearing 0 1 0 (built ++ (delivered 0 10 ++ voted 0)) quiet
    ∷ skipping 2
    -- epoch 3 is over before epoch 2 has begun
    ∷ hearing 0 3 0 (built ++ (delivered 0 30 ++ voted 0)) quiet
    ∷ hearing 2 3 2 (delivered 2 32 ++ voted 2) quiet
    ∷ hearing 3 3 3 (delivered 3 33 ++ (voted 3 ++ voted_not 1)) quiet
    -- epoch 2: the first share for proposer 0 is kept until its value is here, the second combines with it
    ∷ sharing 0 2 0 74 built quiet
    ∷ hearing 0 2 0 (delivered 0 20 ++ (voted 0 ++ (ciphertext 0 ++ verified 0))) quiet
    ∷ hearing 1 2 1 (delivered 1 21 ++ (voted 1 ++ ciphertext 1)) quiet
    ∷ sharing 1 2 0 75 (verified 1 ++ combined 120) quiet
    ∷ hearing 3 2 3 (delivered 3 21 ++ (voted 3 ++ (voted_not 2 ++ ciphertext 3))) quiet
    -- two shares each for proposers 1 and 3; the last one brings the batches of epochs 2 and 3
    ∷ sharing 0 2 1 76 (verified 0) quiet
    ∷ sharing 2 2 1 77 (verified 2 ++ combined 121) quiet
    ∷ sharing 2 2 3 78 (verified 2) quiet
    ∷ sharing 3 2 3 79
    (verified 3 ++ (combined 121 ++ (reads_not 0 ++ (reads 1 ++ (reads 3 ++ (reads 0 ++ (reads 2 ++ reads 3))))))) (brings (batch2 ∷ batch3 ∷ []) (0 ∷ []))
    -- an observer's propose asks nothing. It is for epoch 4: the skip raised 0 to 2, and two batches followed
    ∷ proposing 4 [] quiet
    ∷ []

unfoldable pub host_c : Made
host_c =
    record {
      numbers =
          record {
            nodes = 4;
            faulty = 1;
            ahead = 0;
            own = 0;
            key = 1;
            strategy = 1;
            epoch = 1;
            schedule = 2;
            first = 2;
            second = 0;
          };
      words = replicate (state_length 4 0) 9;
      calls = calls_of lines_c;
    }

unfoldable pub host_d : Made
host_d =
    record {
      numbers =
          record {
            nodes = 4;
            faulty = 1;
            ahead = 1;
            own = 4;
            key = 0;
            strategy = 0;
            epoch = 0;
            schedule = 2;
            first = 2;
            second = 0;
          };
      words = replicate (state_length 4 1) 9;
      calls = calls_of lines_d;
    }

-- WHAT IS COMPUTED. Every call replies 0
pub replies_c : replies_in (turns_of host_c) ≡ replicate 10 0
unfolding opened table calls_of lines_c host_c replies_in
replies_c = refl

pub replies_d : replies_in (turns_of host_d) ≡ replicate 15 0
unfolding opened table calls_of lines_d host_d replies_in
replies_d = refl

-- and the lines are what happens
pub history_c : history_of host_c ≡ events_of 1 lines_c
unfolding opened table told calls_of events_of lines_c host_c
history_c = refl

pub history_d : history_of host_d ≡ events_of 0 lines_d
unfolding opened table told calls_of events_of lines_d host_d
history_d = refl

-- what was taken for proposers 0 to 3, in epochs 1 to 3
abbrev in_epoch : (ℕ → Option ℕ) → List (Option ℕ)
in_epoch took = took 0 ∷ took 1 ∷ took 2 ∷ took 3 ∷ []

abbrev three : (ℕ → ℕ → Option ℕ) → List (List (Option ℕ))
three took = in_epoch (took 1) ∷ in_epoch (took 2) ∷ in_epoch (took 3) ∷ []

pub values_c : three (value_taken (events_of 1 lines_c))
    ≡ (Some 10 ∷ Some 11 ∷ Some 12 ∷ None ∷ [])
    ∷ (Some 20 ∷ Some 21 ∷ None ∷ Some 21 ∷ [])
    ∷ (None ∷ None ∷ None ∷ None ∷ [])
    ∷ []
unfolding opened told events_of lines_c host_c
values_c = refl

pub values_d : three (value_taken (events_of 0 lines_d))
    ≡ (Some 10 ∷ None ∷ None ∷ None ∷ [])
    ∷ (Some 20 ∷ Some 21 ∷ None ∷ Some 21 ∷ [])
    ∷ (Some 30 ∷ None ∷ Some 32 ∷ Some 33 ∷ [])
    ∷ []
unfolding opened told events_of lines_d host_d
values_d = refl

pub decisions_c : three (decision_taken (events_of 1 lines_c))
    ≡ (Some 1 ∷ Some 1 ∷ Some 1 ∷ Some 0 ∷ [])
    ∷ (Some 1 ∷ Some 1 ∷ Some 0 ∷ Some 1 ∷ [])
    ∷ (None ∷ None ∷ None ∷ None ∷ [])
    ∷ []
unfolding opened told events_of lines_c host_c
decisions_c = refl

pub decisions_d : three (decision_taken (events_of 0 lines_d))
    ≡ (Some 1 ∷ None ∷ None ∷ None ∷ [])
    ∷ (Some 1 ∷ Some 1 ∷ Some 0 ∷ Some 1 ∷ [])
    ∷ (Some 1 ∷ Some 0 ∷ Some 1 ∷ Some 1 ∷ [])
    ∷ []
unfolding opened told events_of lines_d host_d
decisions_d = refl

-- on each host three answers each to 8, 9 and 12, and 6 to 13
pub readings_c : length (readings 4 (encrypted_of host_c) (events_of 1 lines_c)) ≡ 15
unfolding opened told events_of lines_c host_c
readings_c = refl

pub readings_d : length (readings 4 (encrypted_of host_d) (events_of 0 lines_d)) ≡ 15
unfolding opened told events_of lines_d host_d
readings_d = refl

-- the batches, each with its unreadable proposers
abbrev with : List ℕ → Batch → Seen
with unreadable b = record { batch = b; unreadable = unreadable }

pub seen_c : batches_seen (handed 4 (encrypted_of host_c) (events_of 1 lines_c)) ≡ with [] batch1 ∷ with (0 ∷ []) batch2 ∷ []
unfolding opened told events_of lines_c host_c batches_seen
seen_c = refl

pub seen_d : batches_seen (handed 4 (encrypted_of host_d) (events_of 0 lines_d)) ≡ with (0 ∷ []) batch2 ∷ with [] batch3 ∷ []
unfolding opened told events_of lines_d host_d batches_seen
seen_d = refl
