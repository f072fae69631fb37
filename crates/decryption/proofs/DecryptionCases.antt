-- Cases of threshold decryption, as one table under one statement, `decryption_cases`, which is proved by computing the definitions: cases 7
-- and 8 of the engine's twelve (engine/proofs/BenchCases.antt), and more. Assumes nothing.
use Rattle.std.proofs.Common.{ℕ, refl, List, [], ◌∷◌, Bool, true, false, cond, Option, None, Some, set, replicate, eqb}
use Rattle.network.specs.declared.network_info.NetworkInfo.{NetworkInfo}
use Rattle.steps.specs.Answers.{Tape, tape, tape_at}
use Rattle.steps.specs.Steps.{Entry, message, fault, Item}
use Rattle.steps.specs.Runs.{Verdict, going, refused, failed, Run, number_of}
use Rattle.steps.proofs.CaseTables
use Rattle.steps.proofs.CaseTables.{Row, ◌⇒◌, Case, case, Done, done, AllHold, yes, no, table, answers}
use Rattle.decryption.specs.Decrypt.{new, with_end, set_ciphertext, start_decryption, handle_message}
use Rattle.decryption.specs.Opened.{opened}
use Rattle.decryption.specs.declared.ThresholdDecrypt.{ThresholdDecrypt}

-- THE TABLE'S LANGUAGE. The ciphertext is set, decryption starts, or the share of a sender comes; with these answers
pub data Op : Type 0 where
  ciphertext : ℕ → List Item → Op
  start : List Item → Op
  share : ℕ → ℕ → List Item → Op

-- what is seen: the verdict, the instance afterwards, the step's entries, and the answers that are unread, with the place in them
pub data Seen : Type 0 where
  verified : Verdict Bool → ThresholdDecrypt → List Entry → Tape → Seen
  ran : Verdict (Option ℕ) → ThresholdDecrypt → List Entry → Tape → Seen

-- an instance: whose it is, and for which proposer
pub record Instance : Type 0 where
  pub net : NetworkInfo
  pub proposer : ℕ
  pub decrypt : ThresholdDecrypt

abbrev pub instance : NetworkInfo → ℕ → ThresholdDecrypt → Instance
instance net p td = record { net = net; proposer = p; decrypt = td }

-- a refusal leaves the instance as it was, since the engine does
unfoldable pub state_of : {A : Type 0} → ThresholdDecrypt → Run ThresholdDecrypt A → ThresholdDecrypt
state_of td r = cond (eqb (number_of r.verdict) 8) td r.state

-- how a run is shown, by the form of what is seen of its verdict
unfoldable pub shown : {A : Type 0} → (Verdict A → ThresholdDecrypt → List Entry → Tape → Seen) → Instance → Run ThresholdDecrypt A → Done Instance Seen
shown form i r =
    let td = state_of i.decrypt r in
    done (instance i.net i.proposer td) (form r.verdict td r.log r.tape)

unfoldable pub apply : Op → Instance → Done Instance Seen
apply (ciphertext c rs) i = shown verified i (set_ciphertext i.proposer c i.decrypt (answers rs))
apply (start rs) i = shown ran i (start_decryption i.net i.proposer i.decrypt (answers rs))
apply (share sender handle rs) i = shown ran i (handle_message i.net i.proposer sender handle i.decrypt (answers rs))

abbrev pub Rows : Type 0
Rows = List (Row Op Seen)

-- SHORT FORMS. Four nodes, f 1
abbrev pub observer : NetworkInfo
observer = record { num_nodes = 4; num_faulty = 1; our_id = 4; has_key = false }

abbrev pub validator : NetworkInfo
validator = record { num_nodes = 4; num_faulty = 1; our_id = 1; has_key = true }

-- instances with these shares: there is no ciphertext, it was just set, or decryption has started
abbrev pub waiting : List ℕ → ThresholdDecrypt
waiting s = record { ciphertext = 0; shares = s; had_input = false; terminated = false }

abbrev pub filled : List ℕ → ThresholdDecrypt
filled s = record { ciphertext = 9; shares = s; had_input = false; terminated = false }

abbrev pub started : List ℕ → ThresholdDecrypt
started s = record { ciphertext = 9; shares = s; had_input = true; terminated = false }

abbrev pub no_shares : List ℕ
no_shares = replicate 16 0

-- what is left of answers: all from record i on, or nothing
abbrev pub from : ℕ → List Item → Tape
from i rs = tape_at (table rs) i

abbrev pub all_read : Tape
all_read = tape 0 []

-- CASE 7. "f 1, observer, ciphertext set: one valid share combines nothing", and kind 12 stays unread; the second wants kind 12, and has the
-- plaintext of it
abbrev pub case_7 : Rows
case_7 =
    (share 2 31 (yes 10 2 ∷ yes 12 7 ∷ []) ⇒ ran (going None) (started (set no_shares 2 31)) [] (from 2 (yes 10 2 ∷ yes 12 7 ∷ [])))
    ∷ (share 3 32 (yes 10 3 ∷ []) ⇒ ran refused (started (set no_shares 2 31)) [] all_read)
    ∷ (share 3 32 (yes 10 3 ∷ yes 12 7 ∷ []) ⇒ ran (going (Some 7)) (with_end (started (set (set no_shares 2 31) 3 32))) [] all_read)
    ∷ []

-- CASE 8. "Second share of a sender: overwritten, fault 6, no combining"
abbrev pub case_8 : Rows
case_8 = (share 2 33 (yes 10 2 ∷ yes 12 7 ∷ []) ⇒ ran (going None) (started (set no_shares 2 33)) (fault 6 2 0 ∷ []) (from 2 (yes 10 2 ∷ yes 12 7 ∷ []))) ∷ []

-- not even where there are enough shares to combine
abbrev pub case_8_enough : Rows
case_8_enough = (share 2 33 (yes 10 2 ∷ yes 12 7 ∷ []) ⇒ ran (going None) (filled (set (set no_shares 2 33) 3 32)) (fault 6 2 0 ∷ []) (from 2 (yes 10 2 ∷ yes 12 7 ∷ []))) ∷ []

-- shares before the ciphertext are stored unchecked, here of senders 3, 0 and 2 in that order. At the start they are checked in sender order;
-- those of 0 and 3 do not verify
abbrev pub early : Rows
early =
    (share 3 31 [] ⇒ ran (going None) (waiting (set no_shares 3 31)) [] all_read)
    ∷ (share 0 32 [] ⇒ ran (going None) (waiting (set (set no_shares 3 31) 0 32)) [] all_read)
    ∷ (share 2 33 [] ⇒ ran (going None) (waiting (set (set (set no_shares 3 31) 0 32) 2 33)) [] all_read)
    ∷ (ciphertext 9 (yes 9 0 ∷ []) ⇒ verified (going true) (filled (set (set (set no_shares 3 31) 0 32) 2 33)) [] all_read)
    ∷ (start (no 10 0 ∷ yes 10 2 ∷ no 10 3 ∷ []) ⇒ ran (going None) (started (set no_shares 2 33)) (fault 7 0 0 ∷ fault 7 3 0 ∷ []) all_read)
    ∷ []

-- the own share overwrites one stored under the own index. It is sent as message 3 for proposer 2
abbrev pub own_share_lem : Rows
own_share_lem = (start (yes 10 1 ∷ yes 11 77 ∷ []) ⇒ ran (going None) (started (set no_shares 1 77)) (message 3 2 77 ∷ []) all_read) ∷ []

-- a ciphertext that is already set fails with 25 before kind 9 is read
abbrev pub second_ciphertext : Rows
second_ciphertext = (ciphertext 8 (yes 9 0 ∷ []) ⇒ verified (failed 25) (filled no_shares) [] (from 1 (yes 9 0 ∷ []))) ∷ []

-- THE TABLE
unfoldable pub cases : List (Case Op Instance Seen)
cases =
    case (instance observer 0 (started no_shares)) case_7
    ∷ case (instance observer 0 (started (set no_shares 2 31))) case_8
    ∷ case (instance observer 0 (filled (set (set no_shares 2 31) 3 32))) case_8_enough
    ∷ case (instance observer 0 new) early
    ∷ case (instance validator 2 (filled (set no_shares 1 31))) own_share_lem
    ∷ case (instance observer 0 (filled no_shares)) second_ciphertext
    ∷ []

pub decryption_cases : AllHold apply cases
unfolding opened CaseTables.opened state_of shown apply cases
decryption_cases = (refl, (refl, (refl, (refl, (refl, (refl, tt))))))
