-- Laws of the parts of an answer. Assumes nothing.
use Rattle.std.proofs.Common.{ℕ, ◌≡◌, List, [], ◌∷◌, ◌++◌, true, false, eq-eqb, ne_eqb, Option}
use Rattle.steps.specs.declared.reader.Content.{Content}
use Rattle.steps.specs.Answers.{Rec, tape}
use Rattle.steps.specs.Steps.{Entry, message, fault, Out, put_entry, put_all}
use Rattle.steps.specs.Parts.{is_part, message_kind, fault_kind, part_entries, last_output, PartsTold, parts_from}

-- what is told with entries before
abbrev pub after_entries : List Entry → PartsTold → PartsTold
after_entries l told = record { output = told.output; tape = told.tape; log = l ++ told.log }

module _ (content : Content) (proposer : ℕ) (output : Option ℕ) (i : ℕ) (r : Rec) (rs : List Rec) where
  pub parts_on : is_part r.kind ≡ true
      → parts_from content proposer output i (r ∷ rs) ≡ after_entries (part_entries content proposer r.kind r.a r.b) (parts_from content proposer (last_output output r.kind r.b) r.next rs)
  unfolding parts_from
  parts_on e = rw (e, parts_from)

  pub parts_off : is_part r.kind ≡ false → parts_from content proposer output i (r ∷ rs) ≡ record { output = output; tape = tape i (r ∷ rs); log = [] }
  unfolding parts_from
  parts_off e = rw (e, parts_from)

-- the entry of a part, by its kind
module _ (o : Out) (content : Content) (proposer kind a b : ℕ) where
  pub message_part_lem : kind ≡ 16 → put_entry o (message (message_kind content) proposer b) ≡ put_all o (part_entries content proposer kind a b)
  unfolding part_entries put_all
  message_part_lem e = rw (eq-eqb kind 16 e, part_entries)

  pub fault_part_lem : (kind ≡ 16 → ⊥) → kind ≡ 17 → put_entry o (fault (fault_kind content) a b) ≡ put_all o (part_entries content proposer kind a b)
  unfolding part_entries put_all
  fault_part_lem n e = rw (ne_eqb kind 16 n, eq-eqb kind 17 e, part_entries)

  pub other_part : (kind ≡ 16 → ⊥) → (kind ≡ 17 → ⊥) → o ≡ put_all o (part_entries content proposer kind a b)
  unfolding part_entries put_all
  other_part n m = rw (ne_eqb kind 16 n, ne_eqb kind 17 m, part_entries)
