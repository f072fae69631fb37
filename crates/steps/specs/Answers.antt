-- The answer table as the chain of its records, and what a reader of it is told.
use Rattle.std.specs.Prelude.{ℕ, zero, suc, ◌+◌, ◌-◌, ◌*◌, ◌/◌, List, [], ◌∷◌, Bool, true, false, cond, ◌&&◌, length, get_or, ltb, eqb, Option, Some, None}
use Rattle.steps.specs.declared.reader.Cursor.{Cursor}
use Rattle.steps.specs.declared.reader.Record.{Record}
use Rattle.steps.specs.Verdicts.{Verdict, going, refused, number_of}

-- a record of the chain: the place after it, its kind, its two words
pub record Rec : Type 0 where
  pub next : ℕ
  pub kind : ℕ
  pub a : ℕ
  pub b : ℕ

-- where a reader stands: the index of the record to be read next, 0 at the end, and the records from there on
pub record Tape : Type 0 where
  pub place : ℕ
  pub rest : List Rec

abbrev pub tape : ℕ → List Rec → Tape
tape i rs = record { place = i; rest = rs }

-- the place after record i: the record's next where that is above i, else the end. In a table that is not malformed it is the next
unfoldable pub link : List ℕ → ℕ → ℕ
link t i = cond (ltb i (get_or t (i * 4) 0)) (get_or t (i * 4) 0) 0

unfoldable pub rec_at : List ℕ → ℕ → Rec
rec_at t i = record { next = link t i; kind = get_or t (i * 4 + 1) 0; a = get_or t (i * 4 + 2) 0; b = get_or t (i * 4 + 3) 0 }

-- a place is on a record of the table
unfoldable pub on_record : List ℕ → ℕ → Bool
on_record t i = ltb 0 i && ltb i (length t / 4)

-- the records from place i on, at most n of them
unfoldable pub walk : ℕ → List ℕ → ℕ → List Rec
walk zero t i = []
walk (suc n) t i = elim (on_record t i) [ true ↦ rec_at t i ∷ walk n t (link t i) | false ↦ [] ]

-- the chain of the table t from place i on
unfoldable pub chain : List ℕ → ℕ → List Rec
chain t i = walk (length t) t i

abbrev pub tape_at : List ℕ → ℕ → Tape
tape_at t i = tape i (chain t i)

-- a call reads from the first index, which record 0 holds
abbrev pub tape_of : List ℕ → Tape
tape_of t = tape_at t (get_or t 0 0)

-- the index of the table's last record, 0 where there is none
abbrev pub last_index : List ℕ → ℕ
last_index t = length t / 4 - 1

-- the cursor at a place of the table
abbrev pub cursor_at : List ℕ → ℕ → Cursor
cursor_at t i = record { place = i; last = last_index t }

-- the first record of a chain
unfoldable pub first_record : List Rec → Option Record
first_record [] = None
first_record (r ∷ rs) = Some (record { next = r.next; kind = r.kind; a = r.a; b = r.b })

-- no answer is left unread
unfoldable pub is_end : List Rec → Bool
is_end [] = true
is_end (r ∷ rs) = false

-- an answer from outside: the words a and b of the record that was wanted, or none, which is reply 8
pub data Answer : Type 0 where
  Got : ℕ → ℕ → Answer
  Refused : Answer

-- what an answer comes to: the run goes on with its words a and b, or is refused
abbrev pub verdict_of : Answer → Verdict (ℕ × ℕ)
verdict_of (Got a b) = going (a, b)
verdict_of Refused = refused

-- what reading gave, its reply (0, or 8), and the tape afterwards
pub record Asked : Type 0 where
  pub answer : Answer
  pub reply : ℕ
  pub tape : Tape

abbrev pub asked : Answer → Tape → Asked
asked r p = record { answer = r; reply = number_of (verdict_of r); tape = p }

-- the next record, where it is as wanted. Else nothing is read: "8: the answer wanted next is not next in the chain […], or the chain has ended"
unfoldable pub ask_for : (Rec → Bool) → Tape → List Rec → Asked
ask_for want p [] = asked Refused p
ask_for want p (r ∷ rs) = cond (want r) (asked (Got r.a r.b) (tape r.next rs)) (asked Refused p)

-- by kind
unfoldable pub ask : Tape → ℕ → Asked
ask p k = ask_for (λ r. eqb r.kind k) p p.rest

-- by kind, and b where it names a proposer or sender
unfoldable pub ask_about : Tape → ℕ → ℕ → Asked
ask_about p k who = ask_for (λ r. eqb r.kind k && eqb r.b who) p p.rest
