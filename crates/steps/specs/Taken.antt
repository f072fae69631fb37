-- What a chain of answers tells: outputs, plaintexts, votes and readings (docs/EVIDENCE.md, 'Rules to keep').
use Rattle.std.specs.Prelude.{ℕ, zero, suc, ◌+◌, List, [], ◌∷◌, ◌++◌, Bool, true, false, cond, ◌&&◌, ◌||◌, eqb}
use Rattle.std.specs.Prelude.{Option, None, Some}
use Rattle.steps.specs.Numbers.{broadcast_proposal, broadcast_message, agreement_message, propose_false, ciphertext_reads, contribution_decrypted, contribution_reads, output_part}
use Rattle.steps.specs.Table.{within}
use Rattle.steps.specs.Answers.{Rec}
use Rattle.steps.specs.Parts.{is_part}

unfoldable pub or_else : {A : Type 0} → Option A → Option A → Option A
or_else None y = y
or_else (Some x) y = Some x

unfoldable pub is_there : Option ℕ → Bool
is_there None = false
is_there (Some x) = true

-- "true being 1"
unfoldable pub is_true : Option ℕ → Bool
is_true None = false
is_true (Some d) = eqb d 1

-- the last output among the parts that stand first
unfoldable pub last_output_in : List Rec → Option ℕ
last_output_in [] = None
last_output_in (r ∷ rs) =
    cond (is_part r.kind) (or_else (last_output_in rs) (cond (eqb r.kind output_part) (Some r.b) None)) None

-- "the last output of the first […] answer for it that has an output", of the kinds that `is` tells
unfoldable pub first_taken : (ℕ → Bool) → ℕ → List Rec → Option ℕ
first_taken is p [] = None
first_taken is p (r ∷ rs) = or_else (cond (is r.kind && eqb r.b p) (last_output_in rs) None) (first_taken is p rs)

-- "the value taken for a proposer is the last output of the first kind 3 or 4 answer for it that has an output"
abbrev pub of_value : ℕ → Bool
of_value kind = within broadcast_proposal broadcast_message kind

-- "the decision is the same of kinds 5 to 7"
abbrev pub of_decision : ℕ → Bool
of_decision kind = within agreement_message propose_false kind

-- whether an answer of this kind about p was asked for
unfoldable pub is_asked : ℕ → ℕ → List Rec → Bool
is_asked kind p [] = false
is_asked kind p (r ∷ rs) = (eqb r.kind kind && eqb r.b p) || is_asked kind p rs

-- how many of the next m proposers, from p on, are decided true
unfoldable pub ones_from : (ℕ → Option ℕ) → ℕ → ℕ → ℕ
ones_from decision zero p = 0
ones_from decision (suc m) p = cond (is_true (decision p)) 1 0 + ones_from decision m (p + 1)

-- "12 [concerns] that of the last 8 before it in the call, in a share message that of the message's proposer": the proposer that a 12
-- concerns after a record, where it was `who` before it
unfoldable pub concerned_after : Option ℕ → Rec → Option ℕ
concerned_after who r = cond (eqb r.kind ciphertext_reads) (Some r.b) who

unfoldable pub concerns : Option ℕ → ℕ → Bool
concerns None p = false
concerns (Some q) p = eqb q p

-- the handle of the first 12 that concerns proposer p
unfoldable pub first_decrypted : ℕ → Option ℕ → List Rec → Option ℕ
first_decrypted p who [] = None
first_decrypted p who (r ∷ rs) =
    or_else (cond (eqb r.kind contribution_decrypted && concerns who p) (Some r.b) None) (first_decrypted p (concerned_after who r) rs)

-- the 13s of a chain
unfoldable pub thirteens_in : List Rec → List Rec
thirteens_in [] = []
thirteens_in (r ∷ rs) = cond (eqb r.kind contribution_reads) (r ∷ []) [] ++ thirteens_in rs
