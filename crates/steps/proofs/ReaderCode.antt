-- What the reader's methods rest on: what stands at a place, and what taking it tells. Assumes nothing.
use Rattle.std.proofs.Common.{ℕ, ◌+◌, ◌*◌, ◌≡◌, refl, sym, ap, ◌∙◌, List, [], ◌∷◌, Bool, true, false, true≢false, length, get_or, drop, arith, Option, Some, None, Ok, Err, is_some, not, ◌<◌}
use Rattle.steps.specs.declared.reader.Record.{Record}
use Rattle.steps.specs.declared.kinds.Stop.TheVariants.{NotNext}
use Rattle.steps.specs.Answers.{Tape, Rec, tape, link, rec_at, on_record, chain, first_record, is_end, ask_for}
use Rattle.steps.specs.Told.{told, taken, heard_in}
use Rattle.steps.specs.declared.reader.Content.{Content}
use Rattle.steps.specs.declared.step.Writer.{Writer}
use Rattle.steps.specs.Steps.{Out, put_all}
use Rattle.steps.specs.Runs.{Run, leaves}
use Rattle.steps.specs.Written.{out_of, left}
use Rattle.std.specs.Option.{option_or}
use Rattle.steps.specs.Parts.{is_part, part_entries, output_of, last_of, last_output, parts_from, told_by}
use Rattle.steps.proofs.Parts.{after_entries, parts_on, parts_off}
use Rattle.steps.proofs.RunLaws.{leaves_before}
use Rattle.steps.proofs.ChainLaws.{chain_on, chain_off}

-- a record as the chain has it
abbrev pub rec_of : Record → Rec
rec_of r = record { next = r.next; kind = r.kind; a = r.a; b = r.b }

pub first_off : (t : List ℕ) (i : ℕ) → on_record t i ≡ false → first_record (chain t i) ≡ None
unfolding first_record
first_off t i e = rw (chain_off t i e)

pub first_on : (t : List ℕ) (i : ℕ) → on_record t i ≡ true → first_record (chain t i) ≡ Some (record { next = link t i; kind = get_or t (i * 4 + 1) 0; a = get_or t (i * 4 + 2) 0; b = get_or t (i * 4 + 3) 0 })
unfolding first_record rec_at
first_on t i e = rw (chain_on t i e)

-- the first record and the others
pub first_of_chain : (l : List Rec) (r : Record) → first_record l ≡ Some r → l ≡ rec_of r ∷ drop 1 l
unfolding first_record
first_of_chain [] r e = absurd (cc)
first_of_chain (x ∷ xs) r e = cc

pub none_of_chain : (l : List Rec) → first_record l ≡ None → l ≡ []
unfolding first_record
none_of_chain [] e = refl
none_of_chain (r ∷ rs) e = absurd (cc)

-- the chain behind a record that stands at a place
pub rest_of_chain : (t : List ℕ) (i : ℕ) (r : Record) → first_record (chain t i) ≡ Some r → chain t r.next ≡ drop 1 (chain t i)
rest_of_chain t i r e = go (on_record t i) refl
  where
    go : (x : Bool) → on_record t i ≡ x → chain t r.next ≡ drop 1 (chain t i)
    go true o = let h = first_on t i o in rw (chain_on t i o) (ap (λ n. chain t n) (let z : r.next ≡ link t i = cc in z))
    go false o = let h = first_off t i o in absurd (cc)

-- a record that stands at a place is the first of the chain there, and its next is where the rest is
pub chain_found : (t : List ℕ) (i : ℕ) (r : Record) → first_record (chain t i) ≡ Some r → chain t i ≡ rec_of r ∷ chain t r.next
chain_found t i r e = rw (rest_of_chain t i r e) (first_of_chain (chain t i) r e)

pub first_shorter : (l : List Rec) (r : Record) → first_record l ≡ Some r → length (drop 1 l) < length l
first_shorter l r e = let h = ap length (first_of_chain l r e) in omega arith

pub asked_none : (want : Rec → Bool) (p : Tape) → first_record p.rest ≡ None → told (Err NotNext) p ≡ heard_in (ask_for want p p.rest)
unfolding ask_for
asked_none want p e = rw (none_of_chain p.rest e)

pub asked_taken : (want : Rec → Bool) (p : Tape) (r : Record) → first_record p.rest ≡ Some r → taken (want (rec_of r)) r p ≡ heard_in (ask_for want p p.rest)
unfolding ask_for
asked_taken want p r e = go (want (rec_of r)) refl
  where
    h : p.rest ≡ rec_of r ∷ drop 1 p.rest
    h = first_of_chain p.rest r e

    go : (x : Bool) → want (rec_of r) ≡ x → taken x r p ≡ heard_in (ask_for want p p.rest)
    go true w = rw (h, w)
    go false w = rw (h, w)

pub ended : (l : List Rec) (x : Bool) → is_some (first_record l) ≡ not x → x ≡ is_end l
unfolding first_record is_end
ended [] true e = refl
ended [] false e = e
ended (r ∷ rs) true e = absurd (true≢false e)
ended (r ∷ rs) false e = refl

-- of several outputs the last counts, as `or` has it
pub last_counts : (output part x : Option ℕ) (kind b : ℕ) → x ≡ option_or part output → part ≡ output_of kind b → x ≡ last_output output kind b
unfolding last_output last_of
last_counts output part x kind b e h = rw (e, ← h) (go part)
  where
    go : (part : Option ℕ) → option_or part output ≡ last_of output part
    go None = refl
    go (Some v) = refl

-- the parts that a reader is told from where it stands
abbrev pub parts_of : Content → ℕ → Option ℕ → Tape → Run (Unit {0}) (Option ℕ)
parts_of content proposer output p = told_by tt (parts_from content proposer output p.place p.rest)

module _ (content : Content) (proposer : ℕ) (output : Option ℕ) (p : Tape) where
  pub parts_ended : first_record p.rest ≡ None → (w : Writer) → left tt (Ok output) p w ≡ leaves (out_of w) (parts_of content proposer output p)
  unfolding parts_from put_all
  parts_ended e w = rw (none_of_chain p.rest e)

  module _ (r : Record) (e : first_record p.rest ≡ Some r) where
    pub parts_stopped : is_part r.kind ≡ false → (w : Writer) → left tt (Ok output) p w ≡ leaves (out_of w) (parts_of content proposer output p)
    unfolding put_all
    parts_stopped h w = rw (first_of_chain p.rest r e, parts_off content proposer output p.place (rec_of r) (drop 1 p.rest) h)

    pub parts_turned : is_part r.kind ≡ true → (o o' : Out) (output' : Option ℕ) → o' ≡ put_all o (part_entries content proposer r.kind r.a r.b) → output' ≡ last_output output r.kind r.b
        → leaves o' (parts_of content proposer output' (tape r.next (drop 1 p.rest))) ≡ leaves o (parts_of content proposer output p)
    parts_turned h o o' output' q m =
        let on : parts_from content proposer output p.place p.rest ≡ after_entries (part_entries content proposer r.kind r.a r.b) (parts_from content proposer (last_output output r.kind r.b) r.next (drop 1 p.rest)) =
        ap (parts_from content proposer output p.place) (first_of_chain p.rest r e) ∙ parts_on content proposer output p.place (rec_of r) (drop 1 p.rest) h in
        rw (q, m) (sym (ap (λ told. leaves o (told_by tt told)) on ∙ leaves_before o (part_entries content proposer r.kind r.a r.b) (parts_of content proposer (last_output output r.kind r.b) (tape r.next (drop 1 p.rest)))))
