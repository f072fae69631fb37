-- Cases beyond the twelve, in the language of BenchCases.antt: failed calls, the checks and their order, batches and has input, create's bounds,
-- proposals and shares that are not looked at, votes above N−f, lists kept. Assumes nothing.
use Rattle.std.proofs.Common.{refl, [], ◌∷◌, ◌++◌, replicate}
use Rattle.steps.specs.Steps.{item}
use Rattle.steps.proofs.CaseTables.{◌⇒◌, case, AllHold, yes, no, out, table}
use Rattle.engine.proofs.BenchCases
use Rattle.engine.proofs.BenchCases.{create, propose, message, propose_with, skip, current_epoch, has_input, received_proposals, fault_count, encrypts, word_at, put_word, apply, Rows, Cases, after, nines, numbers, rec, broadcast, agreement, share, passes, faulty, wanting, unread, chain_1, case_7}

-- CASE 13. Faults of a failed call are not counted, and its step table gets only a header, with its epoch
abbrev pub case_13 : Rows
case_13 =
    (create (numbers 4 1 0 0 1 0 0 1 0 0) 80 ⇒ 0 ∷ [])
    -- "8 and 9 apply to a failed call too, and 10 if no header fits"
    ∷ (broadcast 1 (yes 1 0 ∷ yes 4 1 ∷ item 17 2 55 ∷ out 71 ∷ no 6 1 ∷ yes 7 1 ∷ []) ⇒ unread)
    ∷ (message 0 0 1 1 0 (table (yes 1 0 ∷ yes 4 1 ∷ item 17 2 55 ∷ out 71 ∷ no 6 1 ∷ [])) (nines 3) ⇒ 10 ∷ nines 3)
    ∷ (broadcast 1 (yes 1 0 ∷ yes 4 1 ∷ item 17 2 55 ∷ out 71 ∷ no 6 1 ∷ []) ⇒ 23 ∷ rec 0 0 0 0 ++ nines 4)
    ∷ (fault_count ⇒ 0 ∷ 0 ∷ [])
    ∷ (broadcast 2 (yes 4 2 ∷ item 17 3 55 ∷ []) ⇒ 0 ∷ rec 0 1 0 0 ++ rec 0 8 3 55)
    ∷ (fault_count ⇒ 0 ∷ 1 ∷ [])
    -- "If propose(true) fails after a value, the proposal keeps HasValue"
    ∷ (received_proposals ⇒ 0 ∷ 1 ∷ [])
    ∷ []

-- CASE 14. The checks of propose and message, each before those that follow it, and the checks of skip and the queries
abbrev pub case_14 : Rows
case_14 =
    (create (numbers 4 1 0 0 1 0 0 1 0 0) 80 ⇒ 0 ∷ [])
    -- 5: kind 14, and a name that is no node. 11: sender 4
    ∷ (message 4 0 4 4 1 (table (yes 14 0 ∷ [])) (nines 8) ⇒ 5 ∷ nines 8)
    ∷ (message 0 0 1 1 0 (table (yes 1 0 ∷ yes 4 4 ∷ [])) (nines 8) ⇒ 5 ∷ nines 8)
    ∷ (message 4 0 4 4 1 (table []) (nines 8) ⇒ 11 ∷ nines 8)
    -- 7: content, proposer, item
    ∷ (message 0 0 4 1 0 (table []) (nines 8) ⇒ 7 ∷ nines 8)
    ∷ (message 0 0 0 1 0 (table []) (nines 8) ⇒ 7 ∷ nines 8)
    ∷ (message 0 0 1 4 0 (table []) (nines 8) ⇒ 7 ∷ nines 8)
    ∷ (message 0 0 2 1 1 (table []) (nines 8) ⇒ 7 ∷ nines 8)
    ∷ (message 0 0 3 1 0 (table []) (nines 8) ⇒ 7 ∷ nines 8)
    ∷ (message 0 0 3 1 0x1_0000_0000 (table []) (nines 8) ⇒ 7 ∷ nines 8)
    ∷ (message 0 0 3 1 0xffff_ffff (table (yes 1 0 ∷ [])) (nines 8) ⇒ passes)
    -- 6: the current epoch is above 2^62; a skip's target at or below it changes nothing
    ∷ (put_word 10 4611686018427387905 ⇒ [])
    ∷ (message 0 0 4 1 0 (table []) (nines 8) ⇒ 7 ∷ nines 8)
    ∷ (message 0 0 1 1 0 (table []) (nines 8) ⇒ 6 ∷ nines 8)
    ∷ (propose (table []) (nines 8) ⇒ 6 ∷ nines 8)
    ∷ (skip 4611686018427387904 ⇒ 0 ∷ [])
    ∷ (current_epoch ⇒ 0 ∷ 4611686018427387905 ∷ [])
    ∷ (put_word 10 4611686018427387904 ⇒ [])
    ∷ (message 0 0 1 1 0 (table []) (nines 8) ⇒ passes)
    ∷ (propose (table (no 2 0 ∷ [])) (nines 8) ⇒ 21 ∷ rec 0 0 0 4611686018427387904 ++ nines 4)
    -- the fault count stops at 2^32−1
    ∷ (put_word 12 4294967294 ⇒ [])
    ∷ (message 0 4611686018427387905 1 1 0 (table []) (nines 8) ⇒ 0 ∷ rec 0 1 0 4611686018427387905 ++ rec 0 1 0 0)
    ∷ (fault_count ⇒ 0 ∷ 0xffff_ffff ∷ [])
    ∷ (message 0 4611686018427387905 1 1 0 (table []) (nines 8) ⇒ 0 ∷ rec 0 1 0 4611686018427387905 ++ rec 0 1 0 0)
    ∷ (fault_count ⇒ 0 ∷ 0xffff_ffff ∷ [])
    -- 4: scratch is one word short. Of a longer one the state's length is zeroed
    ∷ (propose_with 79 (table (yes 14 0 ∷ [])) (nines 4) ⇒ 4 ∷ nines 79 ++ nines 4)
    ∷ (propose_with 82 (table (yes 14 0 ∷ [])) (nines 4) ⇒ 5 ∷ replicate 80 0 ++ nines 2 ++ nines 4)
    -- 3: not a state
    ∷ (put_word 10 4611686018427387906 ⇒ [])
    ∷ (propose_with 79 (table (yes 14 0 ∷ [])) (nines 4) ⇒ 3 ∷ nines 79 ++ nines 4)
    ∷ (message 4 0 4 4 1 (table (yes 14 0 ∷ [])) (nines 8) ⇒ 3 ∷ nines 8)
    ∷ (skip 4611686018427387905 ⇒ 3 ∷ [])
    ∷ (current_epoch ⇒ 3 ∷ 9 ∷ [])
    ∷ (has_input ⇒ 3 ∷ 9 ∷ [])
    ∷ (received_proposals ⇒ 3 ∷ 9 ∷ [])
    ∷ (fault_count ⇒ 3 ∷ 9 ∷ [])
    ∷ []

-- CASE 15. Two batches in one call, whose places later epochs take; and has input, which is set before anything can fail
abbrev pub case_15 : Rows
case_15 =
    (create (numbers 1 0 1 0 1 0 0 1 0 0) 66 ⇒ 0 ∷ [])
    ∷ (message 0 1 1 0 0 (table (yes 1 0 ∷ yes 4 0 ∷ out 8 ∷ yes 6 0 ∷ out 1 ∷ [])) (nines 8) ⇒ 0 ∷ rec 0 0 0 1 ++ nines 4)
    ∷ (has_input ⇒ 0 ∷ 0 ∷ [])
    ∷ (propose (table (no 1 0 ∷ [])) (nines 8) ⇒ 20 ∷ rec 0 0 0 0 ++ nines 4)
    ∷ (has_input ⇒ 0 ∷ 1 ∷ [])
    ∷ (propose (table (yes 1 0 ∷ no 2 0 ∷ [])) (nines 8) ⇒ 21 ∷ rec 0 0 0 0 ++ nines 4)
    ∷ (propose (table (yes 2 7 ∷ yes 3 0 ∷ out 7 ∷ yes 6 0 ∷ out 1 ∷ yes 13 0 ∷ yes 13 0 ∷ [])) (nines 20)
    ⇒ 0 ∷ rec 0 0 1 0 ++ rec 2 1 0 1 ++ rec 3 2 0 7 ++ rec 4 1 1 1 ++ rec 0 2 0 8)
    ∷ (current_epoch ⇒ 0 ∷ 2 ∷ [])
    ∷ (has_input ⇒ 0 ∷ 0 ∷ [])
    ∷ (received_proposals ⇒ 0 ∷ 0 ∷ [])
    ∷ (propose chain_1 (nines 12) ⇒ 0 ∷ rec 0 0 1 2 ++ rec 2 1 2 1 ++ rec 0 2 0 7)
    ∷ (skip 5 ⇒ 0 ∷ [])
    ∷ (propose (table (no 1 0 ∷ [])) (nines 8) ⇒ 20 ∷ rec 0 0 0 5 ++ nines 4)
    ∷ (skip 6 ⇒ 0 ∷ [])
    ∷ (has_input ⇒ 0 ∷ 0 ∷ [])
    -- an observer has input, and its propose asks nothing
    ∷ (create (numbers 4 1 0 4 0 0 0 1 0 0) 80 ⇒ 0 ∷ [])
    ∷ (has_input ⇒ 0 ∷ 1 ∷ [])
    ∷ (propose chain_1 (nines 8) ⇒ unread)
    ∷ (propose (table []) (nines 8) ⇒ passes)
    ∷ []

-- CASE 16. Create's numbers at their bounds: N, f, F, own index, key flag, strategy, start epoch, schedule
abbrev pub case_16 : Rows
case_16 =
    (create (numbers 0 0 0 0 1 0 0 1 0 0) 32 ⇒ 1 ∷ [])
    ∷ (create (numbers 16 5 15 16 0 1 4611686018427387904 0 0 0) 6416 ⇒ 0 ∷ [])
    ∷ (create (numbers 17 5 15 16 0 1 0 0 0 0) 7080 ⇒ 1 ∷ [])
    ∷ (create (numbers 16 5 16 16 0 1 0 0 0 0) 6816 ⇒ 1 ∷ [])
    ∷ (create (numbers 4 1 0 5 0 0 0 0 0 0) 80 ⇒ 1 ∷ [])
    ∷ (create (numbers 4 1 0 4 2 0 0 0 0 0) 80 ⇒ 1 ∷ [])
    ∷ (create (numbers 4 1 0 4 0 2 0 0 0 0) 80 ⇒ 1 ∷ [])
    ∷ (create (numbers 4 1 0 4 0 0 4611686018427387905 0 0 0) 80 ⇒ 1 ∷ [])
    ∷ (create (numbers 4 1 0 4 0 0 0 4 1 1) 80 ⇒ 1 ∷ [])
    ∷ (create (numbers 4 1 0 4 0 0 0 2 0 1) 80 ⇒ 1 ∷ [])
    ∷ (create (numbers 4 1 0 4 0 0 0 2 0x1_0000_0000 1) 80 ⇒ 1 ∷ [])
    ∷ (create (numbers 4 1 0 4 0 0 0 3 0 0) 80 ⇒ 1 ∷ [])
    ∷ (create (numbers 4 1 0 4 0 0 0 3 0xffff_ffff 1) 80 ⇒ 1 ∷ [])
    -- a refusal leaves the words lent, and numbers that a kind does not use are ignored
    ∷ (word_at 0 ⇒ 9 ∷ [])
    ∷ (create (numbers 4 1 0 4 0 0 0 2 3 7) 80 ⇒ 0 ∷ [])
    ∷ (word_at 8 ⇒ 3 ∷ [])
    ∷ (word_at 9 ⇒ 0 ∷ [])
    -- EveryNthEpoch(3)
    ∷ (encrypts 0 ⇒ 1 ∷ [])
    ∷ (encrypts 1 ⇒ 0 ∷ [])
    ∷ (encrypts 3 ⇒ 1 ∷ [])
    ∷ []

-- CASE 17. A validator's propose always wants kind 2. Kind 3 is not asked where the own value is here already, and the subset not at all
-- once it has completed
abbrev pub case_17 : Rows
case_17 =
    (create (numbers 4 1 0 0 1 0 0 1 0 0) 80 ⇒ 0 ∷ [])
    ∷ (broadcast 0 (yes 1 0 ∷ yes 4 0 ∷ out 70 ∷ yes 6 0 ∷ []) ⇒ passes)
    ∷ (propose (table []) (nines 8) ⇒ wanting)
    ∷ (propose (table (yes 2 7 ∷ yes 3 0 ∷ [])) (nines 8) ⇒ unread)
    ∷ (propose (table (yes 2 7 ∷ [])) (nines 8) ⇒ passes)
    -- alone, encrypted; the ciphertext does not read, so that the epoch waits
    ∷ (create (numbers 1 0 0 0 1 0 0 0 0 0) 41 ⇒ 0 ∷ [])
    ∷ (propose (table (yes 1 0 ∷ yes 2 7 ∷ yes 3 0 ∷ out 7 ∷ yes 6 0 ∷ out 1 ∷ no 8 0 ∷ [])) (nines 8) ⇒ faulty 3 0)
    ∷ (propose (table []) (nines 8) ⇒ wanting)
    ∷ (propose (table (yes 2 7 ∷ yes 3 0 ∷ [])) (nines 8) ⇒ unread)
    ∷ (propose (table (yes 2 7 ∷ [])) (nines 8) ⇒ passes)
    ∷ (current_epoch ⇒ 0 ∷ 0 ∷ [])
    ∷ []

-- CASE 18, after one share as in case 7. An invalid second share is fault 7 and the first stays; once decrypted a share is not looked at
abbrev pub case_18 : Rows
case_18 =
    (share 1 0 511 (no 10 1 ∷ []) ⇒ faulty 7 1)
    ∷ (word_at 41 ⇒ 501 ∷ [])
    ∷ (share 2 0 502 (yes 10 2 ∷ no 12 0 ∷ []) ⇒ 24 ∷ rec 0 0 0 0 ++ nines 4)
    ∷ (share 3 0 503 (yes 10 3 ∷ []) ⇒ unread)
    ∷ (share 1 0 511 [] ⇒ passes)
    ∷ (word_at 41 ⇒ 501 ∷ [])
    ∷ []

-- CASE 19. N 7, f 2: at five accepted kind 7 is wanted of the other two, and lifts the count to six; with six accepted and one Ongoing no
-- kind 7 is wanted, so that "N−f or more" shows
abbrev pub case_19 : Rows
case_19 =
    (create (numbers 7 2 0 0 1 0 0 1 0 0) 137 ⇒ 0 ∷ [])
    ∷ (agreement 0 (yes 1 0 ∷ yes 5 0 ∷ out 1 ∷ []) ⇒ passes)
    ∷ (agreement 1 (yes 5 1 ∷ out 1 ∷ []) ⇒ passes)
    ∷ (agreement 2 (yes 5 2 ∷ out 1 ∷ []) ⇒ passes)
    ∷ (agreement 3 (yes 5 3 ∷ out 1 ∷ []) ⇒ passes)
    ∷ (agreement 4 (yes 5 4 ∷ out 1 ∷ []) ⇒ wanting)
    ∷ (agreement 4 (yes 5 4 ∷ out 1 ∷ yes 7 5 ∷ out 1 ∷ []) ⇒ wanting)
    ∷ (agreement 4 (yes 5 4 ∷ out 1 ∷ yes 7 5 ∷ out 1 ∷ yes 7 6 ∷ []) ⇒ passes)
    ∷ (agreement 6 (yes 5 6 ∷ yes 7 6 ∷ []) ⇒ unread)
    ∷ (agreement 6 (yes 5 6 ∷ []) ⇒ passes)
    ∷ []

-- CASE 20. Contributions are kept between calls under AllAtEnd only: word 3 of the first epoch is 0 under Incremental, else at most N
abbrev pub case_20 : Rows
case_20 =
    (create (numbers 4 1 0 0 1 0 0 1 0 0) 80 ⇒ 0 ∷ [])
    ∷ (current_epoch ⇒ 0 ∷ 0 ∷ [])
    ∷ (put_word 19 1 ⇒ [])
    ∷ (current_epoch ⇒ 3 ∷ 9 ∷ [])
    ∷ (create (numbers 4 1 0 0 1 1 0 1 0 0) 80 ⇒ 0 ∷ [])
    ∷ (put_word 19 4 ⇒ [])
    ∷ (current_epoch ⇒ 0 ∷ 0 ∷ [])
    ∷ (put_word 19 5 ⇒ [])
    ∷ (current_epoch ⇒ 3 ∷ 9 ∷ [])
    ∷ []

-- THE TABLE
unfoldable pub further : Cases
further =
    case [] case_13
    ∷ case [] case_14
    ∷ case [] case_15
    ∷ case [] case_16
    ∷ case [] case_17
    ∷ case (after case_7) case_18
    ∷ case [] case_19
    ∷ case [] case_20
    ∷ []

pub further_cases : AllHold apply further
unfolding BenchCases.tables_opened further
further_cases = (refl, (refl, (refl, (refl, (refl, (refl, (refl, (refl, tt))))))))
