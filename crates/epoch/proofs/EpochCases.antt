-- Cases of an epoch, as one table under one statement, `epoch_cases`, which is proved by computing the definitions. Assumes nothing.
use Rattle.std.proofs.Common.{ℕ, ◌-◌, ◌/◌, refl, List, [], ◌∷◌, Bool, true, false, cond, length, get_or, eqb}
use Rattle.steps.specs.declared.reader.Content.TheVariants.{Broadcast, Agreement}
use Rattle.network.specs.declared.network_info.NetworkInfo.{NetworkInfo}
use Rattle.steps.specs.Steps.{Entry, message, fault, output, Item}
use Rattle.steps.specs.Runs.{Run, number_of}
use Rattle.steps.proofs.CaseTables
use Rattle.steps.proofs.CaseTables.{Row, ◌⇒◌, Case, case, Done, done, AllHold, yes, no, out, answers}
use Rattle.subset.specs.Words.{accepted_of, count_of, proposal_at}
use Rattle.epochwords.specs.declared.SubsetHandlingStrategy.{SubsetHandlingStrategy}
use Rattle.epochwords.specs.declared.SubsetHandlingStrategy.TheVariants.{Incremental, AllAtEnd}
use Rattle.epoch.specs.declared.MessageContent.{MessageContent}
use Rattle.epoch.specs.declared.MessageContent.TheVariants.{Subset, DecryptionShare}
use Rattle.epochwords.specs.Words.{decryption_at}
use Rattle.epoch.specs.Epoch.{new_epoch, received_proposals, handle_message_content}
use Rattle.epochwords.specs.Batch.{is_ready, output_batch}
use Rattle.epoch.specs.Opened.{opened}

-- THE TABLE'S LANGUAGE. A message for a proposer, from node 0, or a share, from its sender, with these answers; the batch of epoch 5; whether
-- it is ready, the bits of the accepted proposers, received proposals, contributions kept, a proposer's proposal (4 Complete with 1) and
-- decryption (0 none, 1 ongoing, 2 complete)
pub data Op : Type 0 where
  broadcast agreement : ℕ → List Item → Op
  share : ℕ → ℕ → ℕ → List Item → Op
  batch : List Item → Op
  ready accepted received kept : Op
  proposal decryption : ℕ → Op

-- what is seen: the interface's number of the verdict, the step's entries, and how many answers are unread; or a number
pub data Seen : Type 0 where
  ran : ℕ → List Entry → ℕ → Seen
  number : ℕ → Seen

-- an epoch: N (with f = (N−1)/3), strategy, whether it is encrypted, whether node 0 sees it, who has its key, or an observer; and its words
pub record Epoch : Type 0 where
  pub nodes : ℕ
  pub strategy : SubsetHandlingStrategy
  pub encrypted : Bool
  pub validator : Bool
  pub words : List ℕ

abbrev pub new : ℕ → SubsetHandlingStrategy → Bool → Bool → Epoch
new n strategy encrypted validator =
    record { nodes = n; strategy = strategy; encrypted = encrypted; validator = validator; words = new_epoch n }

abbrev pub with_words : Epoch → List ℕ → Epoch
with_words e w = record { nodes = e.nodes; strategy = e.strategy; encrypted = e.encrypted; validator = e.validator; words = w }

abbrev pub net : Epoch → NetworkInfo
net e = record { num_nodes = e.nodes; num_faulty = (e.nodes - 1) / 3; our_id = cond e.validator 0 e.nodes; has_key = e.validator }

-- a refusal leaves the epoch as it was, since the engine does
unfoldable pub ran_on : Epoch → Run (List ℕ) (Unit {0}) → Done Epoch Seen
ran_on e r =
    done (with_words e (cond (eqb (number_of r.verdict) 8) e.words r.state)) (ran (number_of r.verdict) r.log (length r.tape.rest))

-- a message, from its sender for a proposer
abbrev pub told : Epoch → ℕ → ℕ → MessageContent → List Item → Done Epoch Seen
told e sender p content rs = ran_on e (handle_message_content (net e) e.strategy e.encrypted sender p content e.words (answers rs))

unfoldable pub apply : Op → Epoch → Done Epoch Seen
apply (broadcast p rs) e = told e 0 p (Subset Broadcast) rs
apply (agreement p rs) e = told e 0 p (Subset Agreement) rs
apply (share sender p handle rs) e = told e sender p (DecryptionShare handle) rs
apply (batch rs) e = ran_on e (output_batch e.nodes 5 e.words (answers rs))
apply ready e = done e (number (cond (is_ready e.nodes e.words) 1 0))
apply accepted e = done e (number (accepted_of e.words))
apply received e = done e (number (received_proposals e.nodes e.words))
apply kept e = done e (number (count_of e.words))
apply (proposal p) e = done e (number (get_or e.words (proposal_at e.nodes p) 0))
apply (decryption p) e = done e (number (get_or e.words (decryption_at e.nodes p) 0))

abbrev pub Rows : Type 0
Rows = List (Row Op Seen)

-- a call without a failure or an entry, all of whose answers are read; a refusal with m answers unread
abbrev pub passes : Seen
passes = ran 0 [] 0

abbrev pub wanting : ℕ → Seen
wanting m = ran 8 [] m

-- AllAtEnd: contributions arrive as 3, 2, 1 and are kept until Done. 13 is asked by rising proposer, and the entries stand so
abbrev pub falling : Rows
falling =
    (broadcast 3 (yes 4 3 ∷ out 73 ∷ yes 6 3 ∷ out 1 ∷ []) ⇒ passes)
    ∷ (broadcast 2 (yes 4 2 ∷ out 72 ∷ yes 6 2 ∷ out 1 ∷ []) ⇒ passes)
    ∷ (agreement 0 (yes 5 0 ∷ out 0 ∷ []) ⇒ passes)
    ∷ (kept ⇒ number 2)
    ∷ (accepted ⇒ number 0)
    ∷ (received ⇒ number 2)
    ∷ (proposal 3 ⇒ number 4)
    ∷ (broadcast 1 (yes 4 1 ∷ out 71 ∷ yes 6 1 ∷ out 1 ∷ []) ⇒ passes)
    ∷ (kept ⇒ number 0)
    ∷ (accepted ⇒ number 14)
    ∷ (received ⇒ number 3)
    -- Done drops the subset
    ∷ (proposal 3 ⇒ number 0)
    ∷ (ready ⇒ number 1)
    ∷ (batch (yes 13 3 ∷ yes 13 2 ∷ yes 13 1 ∷ []) ⇒ wanting 3)
    ∷ (batch (yes 13 1 ∷ yes 13 2 ∷ yes 13 3 ∷ []) ⇒ ran 0 (output 1 5 3 ∷ output 2 1 71 ∷ output 2 2 72 ∷ output 2 3 73 ∷ []) 0)
    -- one that does not read: fault 5, and no entry
    ∷ (batch (yes 13 1 ∷ no 13 2 ∷ yes 13 3 ∷ []) ⇒ ran 0 (fault 5 2 0 ∷ output 1 5 2 ∷ output 2 1 71 ∷ output 2 3 73 ∷ []) 0)
    ∷ []

-- the same, encrypted: at Done they are handled in the order of their arrival. A share before the ciphertext is stored unchecked, then checked
abbrev pub falling_encrypted : Rows
falling_encrypted =
    (share 1 2 621 [] ⇒ passes)
    ∷ (broadcast 3 (yes 4 3 ∷ out 73 ∷ yes 6 3 ∷ out 1 ∷ []) ⇒ passes)
    ∷ (broadcast 2 (yes 4 2 ∷ out 72 ∷ yes 6 2 ∷ out 1 ∷ []) ⇒ passes)
    ∷ (agreement 0 (yes 5 0 ∷ out 0 ∷ []) ⇒ passes)
    ∷ (broadcast 1 (yes 4 1 ∷ out 71 ∷ yes 6 1 ∷ out 1 ∷ yes 8 1 ∷ yes 9 1 ∷ yes 8 2 ∷ yes 9 2 ∷ yes 10 1 ∷ yes 8 3 ∷ yes 9 3 ∷ []) ⇒ wanting 7)
    ∷ (broadcast 1 (yes 4 1 ∷ out 71 ∷ yes 6 1 ∷ out 1 ∷ yes 8 3 ∷ yes 9 3 ∷ yes 8 2 ∷ yes 9 2 ∷ yes 10 1 ∷ yes 8 1 ∷ yes 9 1 ∷ []) ⇒ passes)
    ∷ (accepted ⇒ number 14)
    ∷ (ready ⇒ number 0)
    ∷ []

-- Incremental handles a contribution at once
abbrev pub at_once : Rows
at_once =
    (broadcast 3 (yes 4 3 ∷ out 73 ∷ yes 6 3 ∷ out 1 ∷ []) ⇒ wanting 0)
    ∷ (broadcast 3 (yes 4 3 ∷ out 73 ∷ yes 6 3 ∷ out 1 ∷ yes 8 3 ∷ yes 9 3 ∷ []) ⇒ passes)
    ∷ (accepted ⇒ number 8)
    ∷ []

-- "At Done, shares for non-accepted proposers become fault 2, by proposer then sender": 5 from 2 and 4, 6 from 0. After it, at once
abbrev pub unexpected : Rows
unexpected =
    (share 0 6 601 [] ⇒ passes)
    ∷ (share 4 5 602 [] ⇒ passes)
    ∷ (share 2 5 603 [] ⇒ passes)
    ∷ (share 2 0 604 [] ⇒ passes)
    ∷ (broadcast 0 (yes 4 0 ∷ out 70 ∷ yes 6 0 ∷ out 1 ∷ []) ⇒ passes)
    ∷ (broadcast 1 (yes 4 1 ∷ out 71 ∷ yes 6 1 ∷ out 1 ∷ []) ⇒ passes)
    ∷ (broadcast 2 (yes 4 2 ∷ out 72 ∷ yes 6 2 ∷ out 1 ∷ []) ⇒ passes)
    ∷ (broadcast 3 (yes 4 3 ∷ out 73 ∷ yes 6 3 ∷ out 1 ∷ []) ⇒ passes)
    ∷ (agreement 6 (yes 5 6 ∷ out 0 ∷ []) ⇒ passes)
    ∷ (agreement 5 (yes 5 5 ∷ out 0 ∷ []) ⇒ passes)
    ∷ (decryption 5 ⇒ number 1)
    ∷ (broadcast 4 (yes 4 4 ∷ out 74 ∷ yes 6 4 ∷ out 1 ∷ []) ⇒ ran 0 (fault 2 2 0 ∷ fault 2 4 0 ∷ fault 2 0 0 ∷ []) 0)
    ∷ (decryption 5 ⇒ number 0)
    ∷ (share 1 5 605 [] ⇒ ran 0 (fault 2 1 0 ∷ []) 0)
    ∷ (ready ⇒ number 1)
    ∷ []

-- "A ciphertext that does not read or verify gives fault 3 or 4; the proposer counts as accepted and its epoch waits."
abbrev pub not_read : Rows
not_read =
    (broadcast 0 (yes 4 0 ∷ out 77 ∷ yes 6 0 ∷ out 1 ∷ no 8 0 ∷ []) ⇒ ran 0 (fault 3 0 0 ∷ []) 0)
    ∷ (accepted ⇒ number 1)
    ∷ (received ⇒ number 1)
    ∷ (decryption 0 ⇒ number 0)
    ∷ (ready ⇒ number 0)
    ∷ []

-- the same of one that reads and does not verify
abbrev pub not_verified : Rows
not_verified =
    (broadcast 0 (yes 4 0 ∷ out 77 ∷ yes 6 0 ∷ out 1 ∷ yes 8 0 ∷ no 9 0 ∷ []) ⇒ ran 0 (fault 4 0 0 ∷ []) 0)
    ∷ (accepted ⇒ number 1)
    ∷ (received ⇒ number 1)
    ∷ (decryption 0 ⇒ number 1)
    ∷ (ready ⇒ number 0)
    -- no ciphertext, so that a share is not checked and nothing is combined
    ∷ (share 0 0 601 [] ⇒ passes)
    ∷ (ready ⇒ number 0)
    ∷ []

-- a validator with its key sends its own share, and one share is more than f = 0
abbrev pub own_share_lem : Rows
own_share_lem =
    (broadcast 0 (yes 4 0 ∷ out 77 ∷ yes 6 0 ∷ out 1 ∷ yes 8 0 ∷ yes 9 0 ∷ yes 11 601 ∷ yes 12 900 ∷ []) ⇒ ran 0 (message 3 0 601 ∷ []) 0)
    ∷ (ready ⇒ number 1)
    ∷ (batch (yes 13 0 ∷ []) ⇒ ran 0 (output 1 5 1 ∷ output 2 0 900 ∷ []) 0)
    ∷ []

-- a failed call loses its contributions: 2 is never accepted
abbrev pub failed_call : Rows
failed_call =
    (agreement 0 (yes 5 0 ∷ out 1 ∷ []) ⇒ passes)
    ∷ (agreement 1 (yes 5 1 ∷ out 1 ∷ []) ⇒ passes)
    ∷ (broadcast 2 (yes 4 2 ∷ out 72 ∷ yes 6 2 ∷ out 1 ∷ no 7 3 ∷ []) ⇒ ran 23 [] 0)
    ∷ (accepted ⇒ number 0)
    ∷ (received ⇒ number 1)
    ∷ (agreement 3 (yes 5 3 ∷ out 0 ∷ []) ⇒ passes)
    ∷ (broadcast 0 (yes 4 0 ∷ out 70 ∷ []) ⇒ passes)
    ∷ (broadcast 1 (yes 4 1 ∷ out 71 ∷ []) ⇒ passes)
    ∷ (accepted ⇒ number 3)
    ∷ (batch (yes 13 0 ∷ yes 13 1 ∷ []) ⇒ ran 0 (output 1 5 2 ∷ output 2 0 70 ∷ output 2 1 71 ∷ []) 0)
    ∷ []

-- and AllAtEnd keeps those of the calls before it
abbrev pub failed_call_at_end : Rows
failed_call_at_end =
    (broadcast 0 (yes 4 0 ∷ out 70 ∷ yes 6 0 ∷ out 1 ∷ []) ⇒ passes)
    ∷ (agreement 1 (yes 5 1 ∷ out 1 ∷ []) ⇒ passes)
    ∷ (broadcast 2 (yes 4 2 ∷ out 72 ∷ yes 6 2 ∷ out 1 ∷ no 7 3 ∷ []) ⇒ ran 23 [] 0)
    ∷ (kept ⇒ number 1)
    ∷ (agreement 3 (yes 5 3 ∷ out 0 ∷ []) ⇒ passes)
    ∷ (broadcast 1 (yes 4 1 ∷ out 71 ∷ []) ⇒ passes)
    ∷ (accepted ⇒ number 3)
    ∷ []

-- a failure at Done: its contributions are lost too, the subset has decided, and the epoch stands
abbrev pub failed_at_done : Rows
failed_at_done =
    (broadcast 0 (yes 4 0 ∷ out 77 ∷ yes 6 0 ∷ out 1 ∷ yes 8 0 ∷ yes 9 0 ∷ yes 11 601 ∷ no 12 0 ∷ []) ⇒ ran 24 (message 3 0 601 ∷ []) 0)
    ∷ (accepted ⇒ number 0)
    ∷ (kept ⇒ number 0)
    ∷ (agreement 0 [] ⇒ passes)
    ∷ (ready ⇒ number 0)
    ∷ []

-- THE TABLE
unfoldable pub cases : List (Case Op Epoch Seen)
cases =
    case (new 4 AllAtEnd false true) falling
    ∷ case (new 4 AllAtEnd true false) falling_encrypted
    ∷ case (new 4 Incremental true false) at_once
    ∷ case (new 7 Incremental false false) unexpected
    ∷ case (new 1 Incremental true false) not_read
    ∷ case (new 1 Incremental true false) not_verified
    ∷ case (new 1 Incremental true true) own_share_lem
    ∷ case (new 4 Incremental false true) failed_call
    ∷ case (new 4 AllAtEnd false true) failed_call_at_end
    ∷ case (new 1 AllAtEnd true true) failed_at_done
    ∷ []

pub epoch_cases : AllHold apply cases
unfolding opened CaseTables.opened ran_on apply cases
epoch_cases = (refl, (refl, (refl, (refl, (refl, (refl, (refl, (refl, (refl, (refl, tt))))))))))
