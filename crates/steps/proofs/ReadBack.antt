-- Following the chains of a finished step gives its three lists. Assumes nothing.
use Rattle.std.proofs.Common.{ℕ, ◌+◌, ◌*◌, ◌/◌, ◌<◌, ◌≡◌, refl, sym, ap, ◌∙◌, List, [], ◌∷◌, ◌++◌, append_assoc, map, arith, add-zero, length, get_or, drop, length-append, length-drop, get_or-drop, drop-drop, drop_at}
use Rattle.steps.specs.Answers.{Rec, link, rec_at, chain}
use Rattle.steps.specs.Steps.{Entry, Item, item, messages, faults, outputs, link_after, chain_words, first_at, laid_out, step_words, written}
use Rattle.steps.proofs.ChainLaws.{on_record_lem, off_at_zero, link_up, link_end, chain_on, chain_off}
use Rattle.steps.proofs.SecondRunWrites.{chain_length}

-- a record of a chain without its next
abbrev pub item_of : Rec → Item
item_of r = item r.kind r.a r.b

word_at : (t vs : List ℕ) (n j : ℕ) → drop n t ≡ vs → get_or t (n + j) 0 ≡ get_or vs j 0
word_at t vs n j e = sym (get_or-drop n t j 0) ∙ ap (λ v. get_or v j 0) e

-- the link of a record leads to the first record of the items behind it
links : (t : List ℕ) (i : ℕ) (xs : List Item) → get_or t (i * 4) 0 ≡ link_after i xs → link t i ≡ first_at (i + 1) xs
unfolding link_after first_at
links t i [] e = link_end t i (omega arith)
links t i (x ∷ xs) e = link_up t i (omega arith) ∙ e

-- a list whose words stand from record i on
list_read : (xs : List Item) (t rest : List ℕ) (i : ℕ) → 0 < i → drop (i * 4) t ≡ chain_words i xs ++ rest → map item_of (chain t (first_at i xs)) ≡ xs
unfolding first_at chain_words rec_at
list_read [] t rest i p e = rw (chain_off t 0 (off_at_zero t))
list_read (x ∷ xs) t rest i p e =
    let vs = chain_words i (x ∷ xs) ++ rest in
    let long : i < length t / 4 = omega (arith, length-drop (i * 4) t, ap length e) in
    let next : get_or t (i * 4) 0 ≡ link_after i xs = ap (λ k. get_or t k 0) (sym (add-zero (i * 4))) ∙ word_at t vs (i * 4) 0 e in
    let rests : drop ((i + 1) * 4) t ≡ chain_words (i + 1) xs ++ rest =
    ap (λ k. drop k t) (four_more i) ∙ sym (drop-drop 4 (i * 4) t) ∙ ap (drop 4) e in
    let here : item_of (rec_at t i) ≡ x = rw (word_at t vs (i * 4) 1 e, word_at t vs (i * 4) 2 e, word_at t vs (i * 4) 3 e) in
    ap (map item_of) (chain_on t i (on_record_lem t i p long))
    ∙ ap (λ j. item_of (rec_at t i) ∷ map item_of (chain t j)) (links t i xs next)
    ∙ ap (λ ys. item_of (rec_at t i) ∷ ys) (list_read xs t rest (i + 1) (omega arith) rests)
    ∙ ap (λ y. y ∷ xs) here
  where
    four_more : (i : ℕ) → (i + 1) * 4 ≡ i * 4 + 4
    four_more i = omega arith

-- each chain of a finished step, from the header's field for it. The words past the step do not matter
module _ (ms fs os : List Item) (epoch : ℕ) (rest : List ℕ) where
  abbrev table : List ℕ
  table = laid_out ms fs os epoch ++ rest

  pub messages_read : map item_of (chain table (get_or table 0 0)) ≡ ms
  unfolding laid_out
  messages_read = list_read ms table _ 1 (omega arith) (append_assoc (chain_words 1 ms) _ rest)

  pub faults_read : map item_of (chain table (get_or table 1 0)) ≡ fs
  unfolding laid_out
  faults_read =
      let m = chain_words 1 ms in
      let f = chain_words (1 + length ms) fs in
      let u = chain_words (1 + length ms + length fs) os in
      let head = get_or table 0 0 ∷ get_or table 1 0 ∷ get_or table 2 0 ∷ epoch ∷ m in
      let split : table ≡ head ++ (f ++ (u ++ rest)) = simp append_assoc in
      list_read fs table (u ++ rest) (1 + length ms) (omega arith)
      (ap (drop ((1 + length ms) * 4)) split ∙ drop_at head (f ++ (u ++ rest)) ((1 + length ms) * 4) (omega (arith, chain_length 1 ms)))

  pub outputs_read : map item_of (chain table (get_or table 2 0)) ≡ os
  unfolding laid_out
  outputs_read =
      let m = chain_words 1 ms in
      let f = chain_words (1 + length ms) fs in
      let u = chain_words (1 + length ms + length fs) os in
      let head = get_or table 0 0 ∷ get_or table 1 0 ∷ get_or table 2 0 ∷ epoch ∷ (m ++ f) in
      let split : table ≡ head ++ (u ++ rest) = simp append_assoc in
      list_read os table rest (1 + length ms + length fs) (omega arith)
      (ap (drop ((1 + length ms + length fs) * 4)) split
      ∙ drop_at head (u ++ rest) ((1 + length ms + length fs) * 4) (omega (arith, length-append m f, chain_length 1 ms, chain_length (1 + length ms) fs)))

-- THE STEP READ BACK: the table after a call has the three lists of its log
pub written_read : (w : List ℕ) (l : List Entry) (epoch : ℕ)
    → (map item_of (chain (written w l epoch) (get_or (written w l epoch) 0 0)) ≡ messages l)
    × (map item_of (chain (written w l epoch) (get_or (written w l epoch) 1 0)) ≡ faults l)
    × (map item_of (chain (written w l epoch) (get_or (written w l epoch) 2 0)) ≡ outputs l)
written_read w l epoch =
    let past = drop (length (step_words l epoch)) w in
    (messages_read (messages l) (faults l) (outputs l) epoch past, faults_read (messages l) (faults l) (outputs l) epoch past, outputs_read (messages l) (faults l) (outputs l) epoch past)

-- and the epoch that the call is for
pub written_epoch : (w : List ℕ) (l : List Entry) (epoch : ℕ) → get_or (written w l epoch) 3 0 ≡ epoch
unfolding laid_out
written_epoch w l epoch = refl
