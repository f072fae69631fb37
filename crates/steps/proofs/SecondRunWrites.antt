-- What a second run writes is the finished step. Assumes nothing.
use Rattle.std.proofs.Common.{ℕ, suc, ◌+◌, ◌*◌, ◌/◌, ◌≤◌, ◌<◌, ◌≡◌, refl, sym, ap, ◌∙◌, List, [], ◌∷◌, ◌++◌, arith, add-zero, length, set, drop, length-append, eq-eqb, ne_eqb, lt-ltb}
use Rattle.std.proofs.Math.Seq.{sets, length-sets, sets-eq}
use Rattle.std.proofs.lemmas.Bool.{lt-leb}
use Rattle.std.proofs.lemmas.List.{set_comm}
use Rattle.steps.specs.declared.step.Chain.{Chain}
use Rattle.steps.specs.declared.step.Step.{Step}
use Rattle.steps.specs.Steps.{Entry, message, fault, output, Item, messages, faults, outputs, chained, link_after, chain_words, first_at, laid_out, step_words, written, written_failed, out, next_of, advance, put_at, put_all, counting, writing, records, first_of, put_header}
use Rattle.steps.proofs.ChainLaws.{message_put, fault_put, output_put}
use Rattle.steps.proofs.FirstRunCounts.{exact_of, counts_exact, records_few, records_counted, lists_length}

-- RUNS OF STORES. A store before a run of them is the same behind it, and so is a run
set_sets : (ys w : List ℕ) (i j a : ℕ) → i < j → sets (set w i a) j ys ≡ set (sets w j ys) i a
set_sets [] w i j a h = refl
set_sets (y ∷ ys) w i j a h =
    ap (λ v. sets v (suc j) ys) (set_comm w i j a y (λ e. omega arith)) ∙ set_sets ys (set w j y) i (suc j) a (omega arith)

sets_comm : (xs ys w : List ℕ) (i j : ℕ) → i + length xs ≤ j → sets (sets w i xs) j ys ≡ sets (sets w j ys) i xs
sets_comm [] ys w i j h = refl
sets_comm (x ∷ xs) ys w i j h = sets_comm xs ys (set w i x) (suc i) j (omega arith) ∙ ap (λ v. sets v (suc i) xs) (set_sets ys w i j x (omega arith))

-- two runs one behind the other
sets_append : (xs ys w : List ℕ) (i j : ℕ) → i + length xs ≡ j → sets (sets w i xs) j ys ≡ sets w i (xs ++ ys)
sets_append [] ys w i j e = ap (λ k. sets w k ys) (sym e ∙ add-zero i)
sets_append (x ∷ xs) ys w i j e = sets_append xs ys (set w i x) (suc i) j (omega arith)

-- THE WORDS OF A LIST
pub chain_length : (i : ℕ) (xs : List Item) → length (chain_words i xs) ≡ 4 * length xs
unfolding chain_words
chain_length i [] = refl
chain_length i (x ∷ xs) = omega (arith, chain_length (i + 1) xs)

first_at_lem : (i : ℕ) (xs : List Item) → first_of (record { at = i; end = i + length xs }) ≡ first_at i xs
unfolding first_of first_at
first_at_lem i [] = rw (eq-eqb i (i + 0) (omega arith))
first_at_lem i (x ∷ xs) = rw (ne_eqb i (i + suc (length xs)) (λ e. omega arith))

next_after : (i : ℕ) (xs : List Item) → next_of (i + 1) (i + 1 + length xs) ≡ link_after i xs
unfolding next_of link_after
next_after i [] = rw (eq-eqb (i + 1) (i + 1 + 0) (omega arith))
next_after i (x ∷ xs) = rw (ne_eqb (i + 1) (i + 1 + suc (length xs)) (λ e. omega arith))

-- A SECOND RUN. The chain whose next record is at index i, and which ends before index end
abbrev at : ℕ → ℕ → Chain
at i end = record { at = i; end = end }

abbrev standing : ℕ → ℕ → ℕ → ℕ → ℕ → ℕ → Step
standing m me f fe u ue = record { messages = at m me; faults = at f fe; outputs = at u ue }

-- the words of a record of item k a b before the items xs
abbrev four : ℕ → List Item → ℕ → ℕ → ℕ → List ℕ
four i xs k a b = link_after i xs ∷ k ∷ a ∷ b ∷ []

-- one record, where the table has it
put_one : (w : List ℕ) (i end k a b : ℕ) (xs : List Item) → end ≡ i + suc (length xs) → i < 0x1_0000_0000 → i < length w / 4
    → chained (at (i + 1) end) (sets w (i * 4) (four i xs k a b)) ≡ chained (advance (at i end)) (put_at w (at i end) k a b)
unfolding advance put_at
put_one w i end k a b xs e h g =
    let one : i * 4 + 1 ≡ suc (i * 4) = omega arith in
    let two : i * 4 + 2 ≡ suc (suc (i * 4)) = omega arith in
    let three : i * 4 + 3 ≡ suc (suc (suc (i * 4))) = omega arith in
    let end_is : end ≡ i + 1 + length xs = omega arith in
    let next : next_of (i + 1) end ≡ link_after i xs = ap (next_of (i + 1)) end_is ∙ next_after i xs in
    rw (lt-leb 0x1_0000_0000 i h, lt-ltb i (length w / 4) g, one, two, three, next)

-- a record behind a run of stores, and the rest of its list behind it
join : (w : List ℕ) (i : ℕ) (r xs : List ℕ) → length r ≡ 4 → sets (sets w (i * 4) r) ((i + 1) * 4) xs ≡ sets w (i * 4) (r ++ xs)
join w i r xs e = sets_append r xs w (i * 4) ((i + 1) * 4) (omega arith)

-- all entries: three runs of stores, one for each list
abbrev three_runs : List ℕ → ℕ → ℕ → ℕ → List Entry → List ℕ
three_runs w m f u l = sets (sets (sets w (m * 4) (chain_words m (messages l))) (f * 4) (chain_words f (faults l))) (u * 4) (chain_words u (outputs l))

put_lists : (l : List Entry) (w : List ℕ) (m me f fe u ue : ℕ) → me ≡ m + length (messages l) → fe ≡ f + length (faults l) → ue ≡ u + length (outputs l)
    → me ≤ f → fe ≤ u → ue ≤ length w / 4 → ue ≤ 0x1_0000_0000 → (put_all (out (standing m me f fe u ue) w) l).words ≡ three_runs w m f u l
unfolding put_all messages faults outputs chain_words
put_lists [] w m me f fe u ue a b c p q r h = refl
put_lists (message k x y ∷ l) w m me f fe u ue a b c p q r h =
    let v = sets w (m * 4) (four m (messages l) k x y) in
    let n : length v ≡ length w = length-sets w (m * 4) (four m (messages l) k x y) in
    ap (λ o. (put_all o l).words) (sym (message_put (standing m me f fe u ue) w v (at (m + 1) me) k x y (put_one w m me k x y (messages l) a (omega arith) (omega arith))))
    ∙ put_lists l v (m + 1) me f fe u ue (omega arith) b c p q (omega arith) h
    ∙ ap (λ z. sets (sets z (f * 4) (chain_words f (faults l))) (u * 4) (chain_words u (outputs l))) (join w m (four m (messages l) k x y) (chain_words (m + 1) (messages l)) refl)
put_lists (fault k x y ∷ l) w m me f fe u ue a b c p q r h =
    let four' = four f (faults l) k x y in
    let v = sets w (f * 4) four' in
    let ms = chain_words m (messages l) in
    let n : length v ≡ length w = length-sets w (f * 4) four' in
    ap (λ o. (put_all o l).words) (sym (fault_put (standing m me f fe u ue) w v (at (f + 1) fe) k x y (put_one w f fe k x y (faults l) b (omega arith) (omega arith))))
    ∙ put_lists l v m me (f + 1) fe u ue a (omega arith) c (omega arith) q (omega arith) h
    ∙ ap (λ z. sets z (u * 4) (chain_words u (outputs l)))
    (ap (λ z. sets z ((f + 1) * 4) (chain_words (f + 1) (faults l))) (sym (sets_comm ms four' w (m * 4) (f * 4) (omega (arith, chain_length m (messages l)))))
    ∙ join (sets w (m * 4) ms) f four' (chain_words (f + 1) (faults l)) refl)
put_lists (output k x y ∷ l) w m me f fe u ue a b c p q r h =
    let four' = four u (outputs l) k x y in
    let v = sets w (u * 4) four' in
    let ms = chain_words m (messages l) in
    let fs = chain_words f (faults l) in
    let n : length v ≡ length w = length-sets w (u * 4) four' in
    ap (λ o. (put_all o l).words) (sym (output_put (standing m me f fe u ue) w v (at (u + 1) ue) k x y (put_one w u ue k x y (outputs l) c (omega arith) (omega arith))))
    ∙ put_lists l v m me f fe (u + 1) ue a b (omega arith) p (omega arith) (omega arith) h
    ∙ ap (λ z. sets z ((u + 1) * 4) (chain_words (u + 1) (outputs l)))
    (ap (λ z. sets z (f * 4) fs) (sym (sets_comm ms four' w (m * 4) (u * 4) (omega (arith, chain_length m (messages l)))))
    ∙ sym (sets_comm fs four' (sets w (m * 4) ms) (f * 4) (u * 4) (omega (arith, chain_length f (faults l)))))
    ∙ join (sets (sets w (m * 4) ms) (f * 4) fs) u four' (chain_words (u + 1) (outputs l)) refl

-- THE FINISHED STEP. Its length, with the header
pub laid_length : (ms fs os : List Item) (epoch : ℕ) → length (laid_out ms fs os epoch) ≡ 4 * (1 + length ms + length fs + length os)
unfolding laid_out
laid_length ms fs os epoch =
    simp (length-append, chain_length) (omega arith)

pub step_length : (l : List Entry) (epoch : ℕ) → length (step_words l epoch) ≡ 4 * (1 + length l)
step_length l epoch = omega (arith, laid_length (messages l) (faults l) (outputs l) epoch, lists_length l)

-- the records from index 1 on are one run of stores
lists_words : (l : List Entry) (w : List ℕ) → length l < 0x1_0000_0000 → 1 + length l ≤ length w / 4
    → (put_all (out (writing (exact_of l)) w) l).words
    ≡ sets w 4 (chain_words 1 (messages l) ++ (chain_words (1 + length (messages l)) (faults l) ++ chain_words (1 + length (messages l) + length (faults l)) (outputs l)))
lists_words l w h g =
    let n = lists_length l in
    let f = 1 + length (messages l) in
    let u = 1 + length (messages l) + length (faults l) in
    put_lists l w 1 f f u u (u + length (outputs l)) refl refl refl (omega arith) (omega arith) (omega arith) (omega arith)
    ∙ sets_append (chain_words f (faults l)) (chain_words u (outputs l)) (sets w 4 (chain_words 1 (messages l))) (f * 4) (u * 4) (omega (arith, chain_length f (faults l)))
    ∙ sets_append (chain_words 1 (messages l)) (chain_words f (faults l) ++ chain_words u (outputs l)) w 4 (f * 4) (omega (arith, chain_length 1 (messages l)))

-- the header's four words before a run of stores
header_first : (w vs : List ℕ) (s : Step) (epoch : ℕ) → 4 + length vs ≤ length w
    → put_header (sets w 4 vs) s epoch
    ≡ (first_of s.messages ∷ first_of s.faults ∷ first_of s.outputs ∷ epoch ∷ vs) ++ drop (4 + length vs) w
unfolding put_header
header_first w vs s epoch h =
    let hs = first_of s.messages ∷ first_of s.faults ∷ first_of s.outputs ∷ epoch ∷ [] in
    let n : 0 + length (hs ++ vs) ≡ 4 + length vs = omega arith in
    sym (sets_comm hs vs w 0 4 (omega arith)) ∙ sets-eq (hs ++ vs) w 0 (omega arith) ∙ ap (λ k. (hs ++ vs) ++ drop k w) n

-- what a second run writes
pub finished_exact : (l : List Entry) (w : List ℕ) (epoch : ℕ) → length l < 0x1_0000_0000 → 1 + length l ≤ length w / 4
    → put_header (put_all (out (writing (exact_of l)) w) l).words (writing (exact_of l)) epoch ≡ written w l epoch
unfolding laid_out
finished_exact l w epoch h g =
    let vs = chain_words 1 (messages l) ++ (chain_words (1 + length (messages l)) (faults l) ++ chain_words (1 + length (messages l) + length (faults l)) (outputs l)) in
    let n : 4 + length vs ≡ length (step_words l epoch) = omega arith in
    ap (λ v. put_header v (writing (exact_of l)) epoch) (lists_words l w h g)
    ∙ header_first w vs (writing (exact_of l)) epoch (omega (arith, step_length l epoch))
    ∙ rw (first_at_lem 1 (messages l), first_at_lem (1 + length (messages l)) (faults l), first_at_lem (1 + length (messages l) + length (faults l)) (outputs l), n)

-- THE LAYOUT: the second run, begun where the first run over any words v counted, leaves the finished step
pub finished : (l : List Entry) (v w : List ℕ) (epoch : ℕ) → length l < 0x1_0000_0000 → 1 + length l ≤ length w / 4
    → put_header (put_all (out (writing (put_all (out counting v) l).step) w) l).words (writing (put_all (out counting v) l).step) epoch ≡ written w l epoch
finished l v w epoch h g = rw (counts_exact l v h) (finished_exact l w epoch h g)

-- the same from a test of the count, where the table is of at most 2^32 records
pub finished_fits : (l : List Entry) (v w : List ℕ) (epoch : ℕ) → records (put_all (out counting v) l).step ≤ length w / 4 → length w / 4 ≤ 0x1_0000_0000
    → put_header (put_all (out (writing (put_all (out counting v) l).step) w) l).words (writing (put_all (out counting v) l).step) epoch ≡ written w l epoch
finished_fits l v w epoch h g =
    let few : length l < 0x1_0000_0000 = records_few l v (omega arith) in
    finished l v w epoch few (omega (arith, records_counted l v few))

-- the header of a failed call
pub finished_failed : (w : List ℕ) (epoch : ℕ) → 4 ≤ length w → put_header w counting epoch ≡ written_failed w epoch
unfolding laid_out messages faults outputs first_of first_at chain_words
finished_failed w epoch h = header_first w [] counting epoch (omega arith)
