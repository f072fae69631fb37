-- The twelve bench cases that the engine's owner gave (case 10 as docs/changes/g.md has it), as one table under one statement, `bench_cases`, which is proved by computing the definitions.
-- Where the rows that were given would not refuse one of its plausible but wrong programs, there are more. Assumes nothing.
use Rattle.std.proofs.Common.{ℕ, refl, List, [], ◌∷◌, ◌++◌, cond, length, get_or, set, replicate}
use Rattle.steps.specs.Steps.{Item, item}
use Rattle.steps.proofs.CaseTables
use Rattle.steps.proofs.CaseTables.{Row, ◌⇒◌, Case, case, Done, done, state_after, AllHold, yes, no, out, table}
use Rattle.calls.specs.Calls.{propose_call, message_call, skip_reply, skip_state, query_reply, current_epoch_result, has_input_result, received_proposals_result, fault_count_result}
use Rattle.engine.specs.Create.{Numbers, create_reply, create_state}
use Rattle.state.specs.State.{encrypted_in}
use Rattle.engine.specs.Opened.{opened}

-- THE TABLE'S LANGUAGE. An operation of the interface, with the words that the host lends
pub data Op : Type 0 where
  -- the ten numbers, and the length of the state lent
  create : Numbers → ℕ → Op
  -- answers, step
  propose : List ℕ → List ℕ → Op
  -- sender, epoch, content, proposer, item; answers, step
  message : ℕ → ℕ → ℕ → ℕ → ℕ → List ℕ → List ℕ → Op
  -- the length of scratch, answers, step; scratch is seen too
  propose_with : ℕ → List ℕ → List ℕ → Op
  -- target
  skip : ℕ → Op
  current_epoch has_input received_proposals fault_count : Op
  -- whether the schedule encrypts in this epoch
  encrypts : ℕ → Op
  -- word i of the state; and word i of the state set to x from outside
  word_at : ℕ → Op
  put_word : ℕ → ℕ → Op

-- a lent table is full of nines before the call, so that untouched words show
abbrev pub nines : ℕ → List ℕ
nines k = replicate k 9

-- what is seen of an operation: the reply, then the step's words or the query's result
unfoldable pub apply : Op → List ℕ → Done (List ℕ) (List ℕ)
apply (create c k) w = done (create_state c (nines k)) (create_reply c (nines k) ∷ [])
apply (propose answers step) w =
    let r = propose_call w (nines (length w)) answers step in done r.state (r.reply ∷ r.step)
apply (message sender epoch content proposer item answers step) w =
    let r = message_call w (nines (length w)) answers step sender epoch content proposer item in done r.state (r.reply ∷ r.step)
apply (propose_with k answers step) w = let r = propose_call w (nines k) answers step in done r.state (r.reply ∷ r.scratch ++ r.step)
apply (skip target) w = done (skip_state target w) (skip_reply target w ∷ [])
apply current_epoch w = done w (query_reply w ∷ current_epoch_result w 9 ∷ [])
apply has_input w = done w (query_reply w ∷ has_input_result w 9 ∷ [])
apply received_proposals w = done w (query_reply w ∷ received_proposals_result w 9 ∷ [])
apply fault_count w = done w (query_reply w ∷ fault_count_result w 9 ∷ [])
apply (encrypts epoch) w = done w (cond (encrypted_in w epoch) 1 0 ∷ [])
apply (word_at i) w = done w (get_or w i 0 ∷ [])
apply (put_word i x) w = done (set w i x) []

abbrev pub Rows : Type 0
Rows = List (Row Op (List ℕ))

abbrev pub Cases : Type 0
Cases = List (Case Op (List ℕ) (List ℕ))

-- a case begins with no state, which its first row creates, or with what other rows leave
abbrev pub after : Rows → List ℕ
after rows = state_after apply rows []

-- SHORT FORMS. The ten numbers: N, f, F, own index, key flag, strategy, start epoch, schedule kind and its numbers
abbrev pub numbers : ℕ → ℕ → ℕ → ℕ → ℕ → ℕ → ℕ → ℕ → ℕ → ℕ → Numbers
numbers n f ahead own key strategy epoch schedule a b =
    record { nodes = n; faulty = f; ahead = ahead; own = own; key = key; strategy = strategy; epoch = epoch; schedule = schedule; first = a; second = b }

-- a record of the step
abbrev pub rec : ℕ → ℕ → ℕ → ℕ → List ℕ
rec next kind a b = next ∷ kind ∷ a ∷ b ∷ []

-- messages of epoch 0 for a proposer, from node 0, and shares from their sender, with two step records lent
abbrev pub broadcast : ℕ → List Item → Op
broadcast proposer rs = message 0 0 1 proposer 0 (table rs) (nines 8)

abbrev pub agreement : ℕ → List Item → Op
agreement proposer rs = message 0 0 2 proposer 0 (table rs) (nines 8)

abbrev pub share : ℕ → ℕ → ℕ → List Item → Op
share sender proposer handle rs = message sender 0 3 proposer handle (table rs) (nines 8)

-- what is seen of such a call: reply 0 and an empty step, reply 0 and a fault, reply 8 (another answer is wanted), reply 9 (answers remain unread)
abbrev pub passes : List ℕ
passes = 0 ∷ rec 0 0 0 0 ++ nines 4

abbrev pub faulty : ℕ → ℕ → List ℕ
faulty kind node = 0 ∷ rec 0 1 0 0 ++ rec 0 kind node 0

abbrev pub wanting : List ℕ
wanting = 8 ∷ nines 8

abbrev pub unread : List ℕ
unread = 9 ∷ nines 8

-- CASE 1's host, chain and step
abbrev pub alone : Op
alone = create (numbers 1 0 0 0 1 0 0 1 0 0) 41

abbrev pub chain_1 : List ℕ
chain_1 = table (yes 1 0 ∷ yes 2 7 ∷ yes 3 0 ∷ out 7 ∷ yes 6 0 ∷ out 1 ∷ yes 13 0 ∷ [])

abbrev pub step_1 : List ℕ
step_1 = rec 0 0 1 0 ++ rec 2 1 0 1 ++ rec 0 2 0 7

-- CASE 1. "N 1, f 0, F 0, own 0, Never, Incremental, epoch 0; propose; chain 1, 2 (b 7), 3, 18 (7), 6, 18 (1), 13 […]. Epoch is now 1."
abbrev pub case_1 : Rows
case_1 =
    (alone ⇒ 0 ∷ [])
    ∷ (propose chain_1 (nines 16) ⇒ 0 ∷ step_1 ++ nines 4)
    ∷ (current_epoch ⇒ 0 ∷ 1 ∷ [])
    ∷ []

-- "taking the first output of an answer" is wrong: of several the last counts
abbrev pub case_1_outputs : Rows
case_1_outputs =
    (alone ⇒ 0 ∷ [])
    ∷ (propose (table (yes 1 0 ∷ yes 2 7 ∷ yes 3 0 ∷ out 6 ∷ out 7 ∷ yes 6 0 ∷ out 0 ∷ out 1 ∷ yes 13 0 ∷ [])) (nines 12) ⇒ 0 ∷ step_1)
    ∷ []

-- CASE 2. "Same, 13 answers 0"
abbrev pub case_2 : Rows
case_2 =
    (alone ⇒ 0 ∷ [])
    ∷ (propose (table (yes 1 0 ∷ yes 2 7 ∷ yes 3 0 ∷ out 7 ∷ yes 6 0 ∷ out 1 ∷ no 13 0 ∷ [])) (nines 16)
    ⇒ 0 ∷ rec 0 1 2 0 ++ rec 0 5 0 0 ++ rec 0 1 0 0 ++ nines 4)
    ∷ (current_epoch ⇒ 0 ∷ 1 ∷ [])
    ∷ (fault_count ⇒ 0 ∷ 1 ∷ [])
    ∷ []

-- CASE 3. "N 4, f 1: two accepted, no kind 7. The third makes it wanted for each proposer not Accepted or Complete."
abbrev pub case_3 : Rows
case_3 =
    (create (numbers 4 1 0 0 1 0 0 1 0 0) 80 ⇒ 0 ∷ [])
    ∷ (agreement 0 (yes 1 0 ∷ yes 5 0 ∷ out 1 ∷ []) ⇒ passes)
    -- 0 is Accepted; "counting Accepted as received" is wrong
    ∷ (received_proposals ⇒ 0 ∷ 0 ∷ [])
    -- 1 is Complete: two accepted, no kind 7
    ∷ (broadcast 1 (yes 4 1 ∷ out 71 ∷ yes 6 1 ∷ out 1 ∷ yes 7 2 ∷ []) ⇒ unread)
    ∷ (broadcast 1 (yes 4 1 ∷ out 71 ∷ yes 6 1 ∷ out 1 ∷ []) ⇒ passes)
    ∷ (received_proposals ⇒ 0 ∷ 1 ∷ [])
    -- the third makes it wanted, for 3 alone and once
    ∷ (agreement 2 (yes 5 2 ∷ out 1 ∷ []) ⇒ wanting)
    ∷ (agreement 2 (yes 5 2 ∷ out 1 ∷ yes 7 0 ∷ yes 7 3 ∷ []) ⇒ wanting)
    ∷ (agreement 2 (yes 5 2 ∷ out 1 ∷ yes 7 1 ∷ yes 7 3 ∷ []) ⇒ wanting)
    ∷ (agreement 2 (yes 5 2 ∷ out 1 ∷ yes 7 2 ∷ yes 7 3 ∷ []) ⇒ wanting)
    ∷ (agreement 2 (yes 5 2 ∷ out 1 ∷ yes 7 3 ∷ yes 7 3 ∷ []) ⇒ unread)
    ∷ (agreement 2 (yes 5 2 ∷ out 1 ∷ yes 7 3 ∷ []) ⇒ passes)
    ∷ []

-- the same where several are left: N 7, f 2. The fifth makes it wanted for 5, Ongoing, and 6, HasValue, in rising order
abbrev pub case_3_seven : Rows
case_3_seven =
    (create (numbers 7 2 0 0 1 0 0 1 0 0) 137 ⇒ 0 ∷ [])
    ∷ (broadcast 6 (yes 1 0 ∷ yes 4 6 ∷ out 76 ∷ yes 6 6 ∷ []) ⇒ passes)
    ∷ (agreement 0 (yes 5 0 ∷ out 1 ∷ []) ⇒ passes)
    ∷ (agreement 1 (yes 5 1 ∷ out 1 ∷ []) ⇒ passes)
    ∷ (agreement 2 (yes 5 2 ∷ out 1 ∷ []) ⇒ passes)
    ∷ (agreement 3 (yes 5 3 ∷ out 1 ∷ []) ⇒ passes)
    ∷ (agreement 4 (yes 5 4 ∷ out 1 ∷ []) ⇒ wanting)
    ∷ (agreement 4 (yes 5 4 ∷ out 1 ∷ yes 7 5 ∷ []) ⇒ wanting)
    ∷ (agreement 4 (yes 5 4 ∷ out 1 ∷ yes 7 6 ∷ []) ⇒ wanting)
    ∷ (agreement 4 (yes 5 4 ∷ out 1 ∷ yes 7 6 ∷ yes 7 5 ∷ []) ⇒ wanting)
    ∷ (agreement 4 (yes 5 4 ∷ out 1 ∷ yes 7 5 ∷ yes 7 6 ∷ []) ⇒ passes)
    ∷ []

-- a fourth that is Complete with 0 is not voted on
abbrev pub case_3_rejected : Rows
case_3_rejected =
    (create (numbers 4 1 0 0 1 0 0 1 0 0) 80 ⇒ 0 ∷ [])
    ∷ (agreement 3 (yes 1 0 ∷ yes 5 3 ∷ out 0 ∷ []) ⇒ passes)
    ∷ (agreement 0 (yes 5 0 ∷ out 1 ∷ []) ⇒ passes)
    ∷ (agreement 1 (yes 5 1 ∷ out 1 ∷ []) ⇒ passes)
    ∷ (agreement 2 (yes 5 2 ∷ out 1 ∷ yes 7 3 ∷ []) ⇒ unread)
    ∷ (agreement 2 (yes 5 2 ∷ out 1 ∷ []) ⇒ passes)
    ∷ []

-- CASE 4. "Another subset message that leaves three accepted and the fourth Ongoing: kind 7 wanted again", also where it asks nothing else
abbrev pub case_4 : Rows
case_4 =
    (broadcast 0 (yes 4 0 ∷ []) ⇒ wanting)
    ∷ (broadcast 0 (yes 4 0 ∷ yes 7 3 ∷ []) ⇒ passes)
    ∷ (agreement 0 [] ⇒ wanting)
    ∷ (agreement 0 (yes 7 3 ∷ []) ⇒ passes)
    ∷ []

-- CASE 5. "That vote brings the fourth accepted: none after."
abbrev pub case_5 : Rows
case_5 =
    (broadcast 0 (yes 4 0 ∷ yes 7 3 ∷ out 1 ∷ []) ⇒ passes)
    ∷ (broadcast 0 (yes 4 0 ∷ yes 7 3 ∷ []) ⇒ unread)
    ∷ (broadcast 0 (yes 4 0 ∷ []) ⇒ passes)
    ∷ []

-- voting at "N−f or more" is wrong: with N 7, f 2 one is left when a vote lifts the count above N−f. Its round goes on, and there is none after
abbrev pub case_5_seven : Rows
case_5_seven =
    (broadcast 0 (yes 4 0 ∷ yes 7 5 ∷ out 1 ∷ []) ⇒ wanting)
    ∷ (broadcast 0 (yes 4 0 ∷ yes 7 5 ∷ out 1 ∷ yes 7 6 ∷ []) ⇒ passes)
    ∷ (broadcast 0 (yes 4 0 ∷ yes 7 6 ∷ []) ⇒ unread)
    ∷ (broadcast 0 (yes 4 0 ∷ []) ⇒ passes)
    ∷ []

-- CASE 6. "8 handled, 9 fault 1, 4 empty step": the last two ask nothing
abbrev pub case_6 : Rows
case_6 =
    (create (numbers 4 1 3 0 1 0 5 1 0 0) 272 ⇒ 0 ∷ [])
    ∷ (message 2 8 2 1 0 (table (yes 1 0 ∷ yes 5 1 ∷ item 16 0 33 ∷ [])) (nines 12) ⇒ 0 ∷ rec 1 0 0 8 ++ rec 0 2 1 33 ++ nines 4)
    ∷ (message 2 9 2 1 0 (table []) (nines 12) ⇒ 0 ∷ rec 0 1 0 9 ++ rec 0 1 2 0 ++ nines 4)
    ∷ (message 2 9 2 1 0 (table (yes 1 0 ∷ [])) (nines 12) ⇒ 9 ∷ nines 12)
    ∷ (message 2 4 2 1 0 (table []) (nines 12) ⇒ 0 ∷ rec 0 0 0 4 ++ nines 8)
    ∷ (message 2 4 2 1 0 (table (yes 1 0 ∷ [])) (nines 12) ⇒ 9 ∷ nines 12)
    ∷ (current_epoch ⇒ 0 ∷ 5 ∷ [])
    ∷ (fault_count ⇒ 0 ∷ 1 ∷ [])
    ∷ []

-- CASE 7. "f 1, observer, ciphertext set: one valid share combines nothing"
abbrev pub case_7 : Rows
case_7 =
    (create (numbers 4 1 0 4 0 0 0 0 0 0) 80 ⇒ 0 ∷ [])
    ∷ (agreement 0 (yes 1 0 ∷ yes 5 0 ∷ out 1 ∷ []) ⇒ passes)
    ∷ (broadcast 0 (yes 4 0 ∷ out 77 ∷ yes 8 0 ∷ yes 9 0 ∷ []) ⇒ passes)
    ∷ (share 3 0 503 (no 10 3 ∷ []) ⇒ faulty 7 3)
    ∷ (share 1 0 501 (yes 10 1 ∷ yes 12 900 ∷ []) ⇒ unread)
    ∷ (share 1 0 501 (yes 10 1 ∷ []) ⇒ passes)
    ∷ []

-- "the second wants kind 12", whose handle is the plaintext
abbrev pub case_7_second : Rows
case_7_second =
    (share 2 0 502 (yes 10 2 ∷ []) ⇒ wanting)
    ∷ (share 2 0 502 (yes 10 2 ∷ yes 12 900 ∷ []) ⇒ passes)
    -- the plaintext of proposer 0
    ∷ (word_at 35 ⇒ 900 ∷ [])
    ∷ []

-- CASE 8. "Second share of a sender: overwritten, fault 6, no combining."
abbrev pub case_8 : Rows
case_8 =
    -- the share of sender 1
    (word_at 41 ⇒ 501 ∷ [])
    ∷ (share 1 0 511 (yes 10 1 ∷ yes 12 900 ∷ []) ⇒ unread)
    ∷ (share 1 0 511 (yes 10 1 ∷ []) ⇒ faulty 6 1)
    ∷ (word_at 41 ⇒ 511 ∷ [])
    -- "a decryption attempt after a duplicate share" is wrong: not even with more than f shares. No run from create leaves such a state, since
    -- a second share combines; here the share of sender 2 is put in
    ∷ (put_word 42 502 ⇒ [])
    ∷ (share 1 0 521 (yes 10 1 ∷ yes 12 900 ∷ []) ⇒ unread)
    ∷ (share 1 0 521 (yes 10 1 ∷ []) ⇒ faulty 6 1)
    ∷ (word_at 41 ⇒ 521 ∷ [])
    ∷ []

-- CASE 9. "Skip to 2^62 passes; 2^62+1 gives 12."
abbrev pub case_9 : Rows
case_9 =
    (create (numbers 4 1 3 0 1 0 0 1 0 0) 272 ⇒ 0 ∷ [])
    ∷ (skip 4611686018427387905 ⇒ 12 ∷ [])
    ∷ (current_epoch ⇒ 0 ∷ 0 ∷ [])
    ∷ (skip 4611686018427387904 ⇒ 0 ∷ [])
    ∷ (current_epoch ⇒ 0 ∷ 4611686018427387904 ∷ [])
    ∷ (skip 4611686018427387905 ⇒ 12 ∷ [])
    ∷ (current_epoch ⇒ 0 ∷ 4611686018427387904 ∷ [])
    ∷ []

-- "a batch out of skip" is wrong: epoch 1 is ready when 0 is skipped, and its batch goes out with the next message
abbrev pub case_9_batch : Rows
case_9_batch =
    (create (numbers 1 0 1 0 1 0 0 1 0 0) 66 ⇒ 0 ∷ [])
    ∷ (message 0 1 1 0 0 (table (yes 1 0 ∷ yes 4 0 ∷ out 7 ∷ yes 6 0 ∷ out 1 ∷ [])) (nines 16) ⇒ 0 ∷ rec 0 0 0 1 ++ nines 12)
    ∷ (skip 1 ⇒ 0 ∷ [])
    ∷ (current_epoch ⇒ 0 ∷ 1 ∷ [])
    ∷ (received_proposals ⇒ 0 ∷ 1 ∷ [])
    ∷ (message 0 2 2 0 0 (table (yes 1 0 ∷ yes 5 0 ∷ yes 13 0 ∷ [])) (nines 16) ⇒ 0 ∷ rec 0 0 1 2 ++ rec 2 1 1 1 ++ rec 0 2 0 7 ++ nines 4)
    ∷ (current_epoch ⇒ 0 ∷ 2 ∷ [])
    ∷ []

-- CASE 10, as docs/changes/g.md has it. "(1,1) encrypts 0 and not 1." So the chain of case 1 lacks kind 8 in epoch 0, and passes in epoch 1
abbrev pub case_10 : Rows
case_10 =
    (create (numbers 1 0 0 0 1 0 0 3 1 1) 41 ⇒ 0 ∷ [])
    ∷ (encrypts 0 ⇒ 1 ∷ [])
    ∷ (encrypts 1 ⇒ 0 ∷ [])
    ∷ (propose chain_1 (nines 16) ⇒ 8 ∷ nines 16)
    ∷ (propose (table (yes 1 0 ∷ yes 2 7 ∷ yes 3 0 ∷ out 7 ∷ yes 6 0 ∷ out 1 ∷ yes 8 0 ∷ yes 9 0 ∷ yes 11 501 ∷ yes 12 900 ∷ yes 13 0 ∷ [])) (nines 16)
    ⇒ 0 ∷ rec 1 0 2 0 ++ rec 0 3 0 501 ++ rec 3 1 0 1 ++ rec 0 2 0 900)
    ∷ (propose chain_1 (nines 16) ⇒ 0 ∷ rec 0 0 1 1 ++ rec 2 1 1 1 ++ rec 0 2 0 7 ++ nines 4)
    -- the next period begins
    ∷ (propose chain_1 (nines 16) ⇒ 8 ∷ nines 16)
    ∷ []

-- "TickTock(1,2): 2 plain", as before; 1 is plain too. Then on 0, off 0, and more than one on
abbrev pub case_10_further : Rows
case_10_further =
    (create (numbers 1 0 0 0 1 0 2 3 1 2) 41 ⇒ 0 ∷ [])
    ∷ (encrypts 0 ⇒ 1 ∷ [])
    ∷ (encrypts 1 ⇒ 0 ∷ [])
    ∷ (encrypts 2 ⇒ 0 ∷ [])
    ∷ (encrypts 3 ⇒ 1 ∷ [])
    ∷ (propose chain_1 (nines 16) ⇒ 0 ∷ rec 0 0 1 2 ++ rec 2 1 2 1 ++ rec 0 2 0 7 ++ nines 4)
    ∷ (create (numbers 1 0 0 0 1 0 0 3 0 1) 41 ⇒ 0 ∷ [])
    ∷ (encrypts 0 ⇒ 0 ∷ [])
    ∷ (encrypts 1 ⇒ 0 ∷ [])
    ∷ (create (numbers 1 0 0 0 1 0 0 3 2 0) 41 ⇒ 0 ∷ [])
    ∷ (encrypts 0 ⇒ 1 ∷ [])
    ∷ (encrypts 1 ⇒ 1 ∷ [])
    ∷ (encrypts 2 ⇒ 1 ∷ [])
    ∷ (create (numbers 1 0 0 0 1 0 0 3 2 1) 41 ⇒ 0 ∷ [])
    ∷ (encrypts 0 ⇒ 1 ∷ [])
    ∷ (encrypts 1 ⇒ 1 ∷ [])
    ∷ (encrypts 2 ⇒ 0 ∷ [])
    ∷ (encrypts 3 ⇒ 1 ∷ [])
    -- the state holds the customer's numbers, not those that the Rust is run with
    ∷ (word_at 8 ⇒ 2 ∷ [])
    ∷ (word_at 9 ⇒ 1 ∷ [])
    ∷ []

-- CASE 11. "Case 1 with two step records gives 10, with three passes."
abbrev pub case_11 : Rows
case_11 =
    (alone ⇒ 0 ∷ [])
    ∷ (propose chain_1 (nines 8) ⇒ 10 ∷ nines 8)
    ∷ (propose chain_1 (nines 11) ⇒ 10 ∷ nines 11)
    ∷ (current_epoch ⇒ 0 ∷ 0 ∷ [])
    ∷ (has_input ⇒ 0 ∷ 0 ∷ [])
    ∷ (propose chain_1 (nines 12) ⇒ 0 ∷ step_1)
    ∷ []

-- CASE 12. "N 4, F 3: 272 words; 271 gives 2. f 2 gives 1."
abbrev pub case_12 : Rows
case_12 =
    (create (numbers 4 1 3 0 1 0 0 1 0 0) 272 ⇒ 0 ∷ [])
    ∷ (create (numbers 4 1 3 0 1 0 0 1 0 0) 271 ⇒ 2 ∷ [])
    ∷ (create (numbers 4 2 3 0 1 0 0 1 0 0) 272 ⇒ 1 ∷ [])
    -- 3 × f = N
    ∷ (create (numbers 3 1 0 0 1 0 0 1 0 0) 65 ⇒ 1 ∷ [])
    ∷ []

-- the four corners of the sheet of state lengths: N 1 and 16, F 0 and 15. Two of them have one length
abbrev pub case_12_further : Rows
case_12_further =
    (create (numbers 1 0 0 0 1 0 0 1 0 0) 41 ⇒ 0 ∷ [])
    ∷ (create (numbers 1 0 0 0 1 0 0 1 0 0) 40 ⇒ 2 ∷ [])
    ∷ (create (numbers 1 0 0 0 1 0 0 1 0 0) 42 ⇒ 2 ∷ [])
    ∷ (create (numbers 1 0 15 0 1 0 0 1 0 0) 416 ⇒ 0 ∷ [])
    ∷ (create (numbers 16 5 0 0 1 0 0 1 0 0) 416 ⇒ 0 ∷ [])
    ∷ (create (numbers 16 5 15 0 1 0 0 1 0 0) 416 ⇒ 2 ∷ [])
    ∷ (create (numbers 16 5 15 0 1 0 0 1 0 0) 6416 ⇒ 0 ∷ [])
    ∷ []

-- THE TABLE
unfoldable pub bench : Cases
bench =
    case [] case_1
    ∷ case [] case_1_outputs
    ∷ case [] case_2
    ∷ case [] case_3
    ∷ case [] case_3_seven
    ∷ case [] case_3_rejected
    ∷ case (after case_3) case_4
    ∷ case (after case_3) case_5
    ∷ case (after case_3_seven) case_5_seven
    ∷ case [] case_6
    ∷ case [] case_7
    ∷ case (after case_7) case_7_second
    ∷ case (after case_7) case_8
    ∷ case [] case_9
    ∷ case [] case_9_batch
    ∷ case [] case_10
    ∷ case [] case_10_further
    ∷ case [] case_11
    ∷ case [] case_12
    ∷ case [] case_12_further
    ∷ []

-- the definitions of the table itself
unfoldable pub tables_opened : Unit {0}
unfolding opened CaseTables.opened apply
tables_opened = tt

pub bench_cases : AllHold apply bench
unfolding tables_opened bench
bench_cases = (refl, (refl, (refl, (refl, (refl, (refl, (refl, (refl, (refl, (refl, (refl, (refl, (refl, (refl, (refl, (refl, (refl, (refl, (refl, (refl, tt))))))))))))))))))))
