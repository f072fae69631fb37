-- A WORKED PAIR OF RUNS for demand 3 (Demand3.antt): two hosts, two epochs, a batch of each epoch on both hosts. Here are the runs and what
-- is computed of them; FirstPairClaim.antt proves that all premises of the claim hold of them, and computes its conclusions.
use Rattle.std.proofs.Common.{ℕ, ◌≡◌, refl, List, [], ◌∷◌, ◌++◌, Option, Some, length, replicate}
use Rattle.steps.specs.Steps.{Item, item}
use Rattle.steps.specs.Batches.{BatchEntry, Batch}
use Rattle.steps.proofs.CaseTables.{table}
use Rattle.state.specs.State.{state_length, scratch_length}
use Rattle.agreement.specs.History.{Call, propose, message, skip, Turn, Event, Handed, handed, unreadable, value_taken, decision_taken, readings}
use Rattle.agreement.specs.Demand3.{Made, turns_of, history_of, encrypted_of}
use Rattle.agreement.specs.Opened.{opened}

-- ANSWERS, each as its kind, a and b
abbrev pub built : List Item
built = item 1 1 0 ∷ []

abbrev pub serialised : ℕ → List Item
serialised value = item 2 1 value ∷ []

-- the broadcast of proposer p outputs its value, to p itself or after a message
abbrev pub broadcast : ℕ → ℕ → List Item
broadcast p value = item 3 1 p ∷ item 18 0 value ∷ []

abbrev pub delivered : ℕ → ℕ → List Item
delivered p value = item 4 1 p ∷ item 18 0 value ∷ []

-- vote 1 for p decides 1
abbrev pub voted : ℕ → List Item
voted p = item 6 1 p ∷ item 18 0 1 ∷ []

-- p's ciphertext reads and verifies, the own share is made, and decryption gives the plaintext
abbrev pub decrypting : ℕ → ℕ → ℕ → List Item
decrypting p share plaintext = item 8 1 p ∷ item 9 1 p ∷ item 11 1 share ∷ item 12 1 plaintext ∷ []

-- p's contribution reads, or does not
abbrev pub reads : ℕ → List Item
reads p = item 13 1 p ∷ []

abbrev pub reads_not : ℕ → List Item
reads_not p = item 13 0 p ∷ []

-- CALLS, with 16 records for the step, and scratch for either host. The words that are lent may be any
abbrev pub proposing : List Item → Call
proposing xs = propose (replicate (scratch_length 2 1) 9) (table xs) (replicate 64 9)

-- a broadcast message about a proposer's proposal
abbrev pub hearing : ℕ → ℕ → ℕ → List Item → Call
hearing sender epoch proposer xs = message sender epoch 1 proposer 0 (replicate (scratch_length 2 1) 9) (table xs) (replicate 64 9)

-- THE HOSTS. N 2, f 0, EveryNthEpoch(2): epoch 0 is encrypted, epoch 1 is not. Both begin at epoch 0. The values are 11 and 12 in epoch 0,
-- 13 and 14 in epoch 1; 11 decrypts to 21 and 12 to 22, which does not read.
--
-- Host A is node 0: Incremental, look-ahead 1. Its second call is turned down; epoch 1 is done before epoch 0, so that its last call hands
-- out both batches
unfoldable pub host_a : Made
host_a =
    record {
      numbers =
          record {
            nodes = 2;
            faulty = 0;
            ahead = 1;
            own = 0;
            key = 1;
            strategy = 0;
            epoch = 0;
            schedule = 2;
            first = 2;
            second = 0;
          };
      words = replicate (state_length 2 1) 9;
      calls =
          proposing (built ++ (serialised 11 ++ (broadcast 0 11 ++ (voted 0 ++ decrypting 0 100 21))))
          -- another value, and then an answer about proposer 0 where one about 1 is wanted
          ∷ hearing 1 0 1 (delivered 1 19 ++ (voted 1 ++ decrypting 0 101 22))
          ∷ hearing 1 1 1 (built ++ (delivered 1 14 ++ voted 1))
          ∷ hearing 1 1 0 (delivered 0 13 ++ voted 0)
          ∷ hearing 1 0 1 (delivered 1 12 ++ (voted 1 ++ (decrypting 1 101 22 ++ (reads 0 ++ (reads_not 1 ++ (reads 0 ++ reads 1))))))
          ∷ [];
    }

-- Host B is node 1: AllAtEnd, no look-ahead. It decrypts in its second call what it took in the first; its skip changes nothing
unfoldable pub host_b : Made
host_b =
    record {
      numbers =
          record {
            nodes = 2;
            faulty = 0;
            ahead = 0;
            own = 1;
            key = 1;
            strategy = 1;
            epoch = 0;
            schedule = 2;
            first = 2;
            second = 0;
          };
      words = replicate (state_length 2 0) 9;
      calls =
          -- two outputs: the last counts
          hearing 0 0 0 (built ++ (item 4 1 0 ∷ item 18 0 19 ∷ item 18 0 11 ∷ voted 0))
          ∷ proposing (serialised 12 ++ (broadcast 1 12 ++ (voted 1 ++ (decrypting 0 102 21 ++ (decrypting 1 103 22 ++ (reads 0 ++ reads_not 1))))))
          ∷ skip 0
          ∷ proposing (built ++ (serialised 14 ++ (broadcast 1 14 ++ voted 1)))
          ∷ hearing 0 1 0 (delivered 0 13 ++ (voted 0 ++ (reads 0 ++ reads 1)))
          ∷ [];
    }

-- WHAT IS COMPUTED. The replies
unfoldable pub replies_in : List Turn → List ℕ
replies_in [] = []
replies_in (t ∷ ts) = t.reply ∷ replies_in ts

pub replies_a : replies_in (turns_of host_a) ≡ 0 ∷ 8 ∷ 0 ∷ 0 ∷ 0 ∷ []
unfolding opened table host_a replies_in
replies_a = refl

pub replies_b : replies_in (turns_of host_b) ≡ 0 ∷ 0 ∷ 0 ∷ 0 ∷ 0 ∷ []
unfolding opened table host_b replies_in
replies_b = refl

-- the calls that count, 1 and 3 to 5 of host A, and 1, 2, 4 and 5 of host B (a skip has no answers): the epoch that each is for, and the
-- nodes of its faults 5
pub record Counted : Type 0 where
  pub epoch : ℕ
  pub fives : List ℕ

abbrev counted : ℕ → List ℕ → Counted
counted epoch fives = record { epoch = epoch; fives = fives }

unfoldable pub counted_in : List Event → List Counted
counted_in [] = []
counted_in (x ∷ xs) = counted x.epoch x.fives ∷ counted_in xs

pub counted_a : counted_in (history_of host_a) ≡ counted 0 [] ∷ counted 1 [] ∷ counted 1 [] ∷ counted 0 (1 ∷ []) ∷ []
unfolding opened table host_a counted_in
counted_a = refl

pub counted_b : counted_in (history_of host_b) ≡ counted 0 [] ∷ counted 0 (1 ∷ []) ∷ counted 1 [] ∷ counted 1 [] ∷ []
unfolding opened table host_b counted_in
counted_b = refl

-- what was taken for proposers 0 and 1 in epoch 0, then in epoch 1
abbrev pub four : (ℕ → ℕ → Option ℕ) → List (Option ℕ)
four took = took 0 0 ∷ took 0 1 ∷ took 1 0 ∷ took 1 1 ∷ []

pub values_a : four (value_taken (history_of host_a)) ≡ Some 11 ∷ Some 12 ∷ Some 13 ∷ Some 14 ∷ []
unfolding opened table host_a
values_a = refl

pub values_b : four (value_taken (history_of host_b)) ≡ Some 11 ∷ Some 12 ∷ Some 13 ∷ Some 14 ∷ []
unfolding opened table host_b
values_b = refl

pub decisions_a : four (decision_taken (history_of host_a)) ≡ Some 1 ∷ Some 1 ∷ Some 1 ∷ Some 1 ∷ []
unfolding opened table host_a
decisions_a = refl

pub decisions_b : four (decision_taken (history_of host_b)) ≡ Some 1 ∷ Some 1 ∷ Some 1 ∷ Some 1 ∷ []
unfolding opened table host_b
decisions_b = refl

-- on each host 6 answers to 8, 9 and 12, and 4 to 13
pub readings_a : length (readings 2 (encrypted_of host_a) (history_of host_a)) ≡ 10
unfolding opened table host_a
readings_a = refl

pub readings_b : length (readings 2 (encrypted_of host_b) (history_of host_b)) ≡ 10
unfolding opened table host_b
readings_b = refl

-- the batches that were handed out, each with its unreadable proposers
pub record Seen : Type 0 where
  pub batch : Batch
  pub unreadable : List ℕ

abbrev pub seen : Handed → Seen
seen x = record { batch = x.batch; unreadable = unreadable x }

unfoldable pub batches_seen : List Handed → List Seen
batches_seen [] = []
batches_seen (x ∷ xs) = seen x ∷ batches_seen xs

abbrev pub entry : ℕ → ℕ → BatchEntry
entry p plaintext = record { proposer = p; plaintext = plaintext }

-- epoch 0: one entry, and proposer 1 is unreadable; epoch 1: two entries
unfoldable pub handed_out : List Seen
handed_out =
    record { batch = record { epoch = 0; count = 1; entries = entry 0 21 ∷ [] }; unreadable = 1 ∷ [] }
    ∷ record { batch = record { epoch = 1; count = 2; entries = entry 0 13 ∷ entry 1 14 ∷ [] }; unreadable = [] }
    ∷ []

pub seen_a : batches_seen (handed 2 (encrypted_of host_a) (history_of host_a)) ≡ handed_out
unfolding opened table host_a batches_seen handed_out
seen_a = refl

pub seen_b : batches_seen (handed 2 (encrypted_of host_b) (history_of host_b)) ≡ handed_out
unfolding opened table host_b batches_seen handed_out
seen_b = refl
