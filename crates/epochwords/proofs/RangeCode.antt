-- Laws for the code that checks the range rule. Assumes nothing.
use Rattle.std.proofs.Common.{ℕ, zero, suc, ◌+◌, ◌-◌, ◌*◌, ◌^◌, ◌≤◌, ◌<◌, ◌≡◌, refl, sym, ◌∙◌, List, Bool, true, false, ◌&&◌, arith, mul-le-mul_right, suc-mul, add-mul, lt_of_lt_of_le, length, get_or, take, drop, length-drop, length-take-le, get_or-take, get_or-drop, eqb, leb, ltb, bit_or, le-leb, lt-ltb, le-ltb, ltb-true, ltb-false, eq-eqb, eqb-true, ne_eqb}
use Rattle.std.proofs.Math.Bool.{and-true, and-false, and_assoc}
use Rattle.std.proofs.lemmas.Nat.{or_lt, and_le_l, and_le_r}
use lib.Bits.{or_add_and}
use Rattle.std.proofs.lemmas.Bool.{and_parts as parts, and_from}
use Rattle.std.specs.Cmp.{both_ways}
use Rattle.subset.specs.Words.{record_length, record_at, epoch_length, tag_complete_true, status_of, status_complete, decided_at, accepted_of, count_of}
use Rattle.subset.proofs.Ranges.{field_limit}
use Rattle.epochwords.specs.declared.SubsetHandlingStrategy.{SubsetHandlingStrategy}
use Rattle.epochwords.specs.Shape.{EpochWords}
use Rattle.epochwords.specs.Words.{maybe_handle, all_from, record_in_range, small_in_range, records_in_range, entry_complete, most_kept, epoch_in_range}
use Rattle.epochwords.proofs.LimitsOfWords.{all_at, all_every, record_below}

-- two words joined are below a power of two where both are
pub join_below : (a b k : ℕ) → ltb (bit_or a b) (2 ^ k) ≡ (ltb a (2 ^ k) && ltb b (2 ^ k))
join_below a b k = go (ltb a (2 ^ k)) (ltb b (2 ^ k)) refl refl
  where
    go : (x y : Bool) → ltb a (2 ^ k) ≡ x → ltb b (2 ^ k) ≡ y → ltb (bit_or a b) (2 ^ k) ≡ x && y
    go true true e f = lt-ltb _ _ (or_lt k a b (ltb-true a (2 ^ k) e) (ltb-true b (2 ^ k) f))
    go true false e f = le-ltb (bit_or a b) (2 ^ k) (omega (arith, or_add_and a b, and_le_l a b, ltb-false b (2 ^ k) f))
    go false y e f = le-ltb (bit_or a b) (2 ^ k) (omega (arith, or_add_and a b, and_le_r a b, ltb-false a (2 ^ k) e))

-- A ROW OF WORDS, m from word i on, and what they are joined to
abbrev Joins : ℕ → ℕ → ℕ → List ℕ → Type 0
Joins r m i w = (k : ℕ) → ltb r (2 ^ k) ≡ all_from (λ x. ltb x (2 ^ k)) m i w

-- one more, or none left
module _ (k : ℕ) (w : List ℕ) (joined i end : ℕ) where
  abbrev rest : ℕ → Bool
  rest j = all_from (λ x. ltb x (2 ^ k)) (end - j) j w

  pub join_turn : i < end → ltb (bit_or joined (get_or w i 0)) (2 ^ k) && rest (i + 1) ≡ ltb joined (2 ^ k) && rest i
  unfolding all_from
  join_turn l =
      let e : end - i ≡ suc (end - (i + 1)) = omega arith in
      rw (e, join_below joined (get_or w i 0) k) (and_assoc (ltb joined (2 ^ k)) (ltb (get_or w i 0) (2 ^ k)) (rest (i + 1)))

  pub join_over : end ≤ i → ltb joined (2 ^ k) ≡ (ltb joined (2 ^ k) && rest i)
  unfolding all_from
  join_over l =
      let e : end - i ≡ 0 = omega arith in
      rw e (sym (and-true (ltb joined (2 ^ k))))

-- a row that is a slice of its own
all_same : (is : ℕ → Bool) (m i j : ℕ) (v w : List ℕ) → ((k : ℕ) → k < m → get_or v (i + k) 0 ≡ get_or w (j + k) 0) → all_from is m i v ≡ all_from is m j w
unfolding all_from
all_same is zero i j v w h = refl
all_same is (suc m) i j v w h =
    let e : get_or v i 0 ≡ get_or w j 0 = (let x : i + 0 ≡ i = omega arith in let y : j + 0 ≡ j = omega arith in rw (x, y) at (h 0 (omega arith))) in
    rw (e, all_same is m (i + 1) (j + 1) v w (λ k l. let x : i + suc k ≡ i + 1 + k = omega arith in let y : j + suc k ≡ j + 1 + k = omega arith in rw (x, y) at (h (suc k) (omega arith))))

abbrev part : ℕ → ℕ → List ℕ → List ℕ
part m at w = take m (drop at w)

all_part : (is : ℕ → Bool) (m at : ℕ) (w : List ℕ) → at + m ≤ length w → all_from is (length (part m at w)) 0 (part m at w) ≡ all_from is m at w
all_part is m at w l =
    let e : length (part m at w) ≡ m = length-take-le m (drop at w) (omega (arith, length-drop at w)) in
    rw e (all_same is m 0 at (part m at w) w (λ k b. let z : 0 + k ≡ k = omega arith in rw z (get_or-take m (drop at w) k 0 b ∙ get_or-drop at w k 0)))

joins_part : (r m at : ℕ) (w : List ℕ) → at + m ≤ length w → Joins r (length (part m at w)) 0 (part m at w) → Joins r m at w
joins_part r m at w l h k = h k ∙ all_part (λ x. ltb x (2 ^ k)) m at w l

all_split : (is : ℕ → Bool) (a b i : ℕ) (w : List ℕ) → all_from is (a + b) i w ≡ all_from is a i w && all_from is b (i + a) w
unfolding all_from
all_split is zero b i w = let x : 0 + b ≡ b = omega arith in let y : i + 0 ≡ i = omega arith in rw (x, y)
all_split is (suc a) b i w =
    let x : suc a + b ≡ suc (a + b) = omega arith in
    let y : i + suc a ≡ i + 1 + a = omega arith in
    rw (x, y, all_split is a b (i + 1) w) (sym (and_assoc (is (get_or w i 0)) (all_from is a (i + 1) w) (all_from is b (i + 1 + a) w)))

-- a row is 0 where it is below 1
pub none_below : (x : ℕ) → eqb x 0 ≡ ltb x 1
none_below zero = refl
none_below (suc x) = ne_eqb (suc x) 0 (λ e. omega arith) ∙ sym (le-ltb (suc x) 1 (omega arith))

all_alike : (f g : ℕ → Bool) → ((x : ℕ) → f x ≡ g x) → (m i : ℕ) (w : List ℕ) → all_from f m i w ≡ all_from g m i w
unfolding all_from
all_alike f g h zero i w = refl
all_alike f g h (suc m) i w = rw (h (get_or w i 0), all_alike f g h m (i + 1) w)

row_zero : (m i : ℕ) (w : List ℕ) (joined : ℕ) → Joins joined m i w → eqb joined 0 ≡ all_from (λ x. eqb x 0) m i w
row_zero m i w joined h = none_below joined ∙ h 0 ∙ sym (all_alike _ _ none_below m i w)

-- A RECORD, as the code tests it, is inside its epoch, whose words are few
pub record_end : (n p : ℕ) → n ≤ 16 → p < n → (16 + p * (8 + n) + 8 + n ≤ epoch_length n) × (epoch_length n ≤ 400)
record_end n p few l = (omega (arith, mul-le-mul_right (8 + n) l, suc-mul p (8 + n)), omega (arith, mul-le-mul_right (8 + n) few))

-- no limit in it is above that of a handle
field_most : (n j : ℕ) → n ≤ 16 → field_limit n j ≤ 0x1_0000_0000
field_most n zero h = omega arith
field_most n (suc zero) h = omega arith
field_most n (suc (suc zero)) h = omega arith
field_most n (suc (suc (suc zero))) h = omega arith
field_most n (suc (suc (suc (suc zero)))) h = omega arith
field_most n (suc (suc (suc (suc (suc zero))))) h = omega arith
field_most n (suc (suc (suc (suc (suc (suc zero)))))) h = omega arith
field_most n (suc (suc (suc (suc (suc (suc (suc zero))))))) h = omega arith
field_most n (suc (suc (suc (suc (suc (suc (suc (suc j)))))))) h = omega arith

all_five : (a b c d e : Bool) → a && b && c && d && e ≡ true → (a ≡ true) × (b ≡ true) × (c ≡ true) × (d ≡ true) × (e ≡ true)
all_five a b c d e h =
    let s4 = parts (a && b && c && d) e h in
    let s3 = parts (a && b && c) d s4.0 in
    let s2 = parts (a && b) c s3.0 in
    let s1 = parts a b s2.0 in
    (s1.0, s1.1, s2.1, s3.1, s4.1)

-- so its rule is that all its words are below 2^32 and the small ones below their own limits
module _ (n : ℕ) (w : List ℕ) (p : ℕ) where
  abbrev field : ℕ → ℕ
  field j = get_or w (record_at n p j) 0

  abbrev handles : Bool
  handles = all_from maybe_handle (record_length n) (record_at n p 0) w

  both_of : n ≤ 16 → record_in_range n w p ≡ true → handles && small_in_range n w p ≡ true
  unfolding small_in_range
  both_of few e =
      and_from _ _ (all_every maybe_handle (record_length n) (record_at n p 0) w (λ j l. lt-ltb _ _ (below j l)))
      (and_from _ _ (and_from _ _ (and_from _ _ (and_from _ _
      (le-leb (field 0) 4 (omega (arith, record_below n w p e 0 (omega arith))))
      (le-leb (field 2) 2 (omega (arith, record_below n w p e 2 (omega arith)))))
      (le-leb (field 5) 1 (omega (arith, record_below n w p e 5 (omega arith)))))
      (le-leb (field 6) 1 (omega (arith, record_below n w p e 6 (omega arith)))))
      (lt-ltb _ _ (record_below n w p e 7 (omega arith))))
    where
      below : (j : ℕ) → j < record_length n → get_or w (record_at n p 0 + j) 0 < 0x1_0000_0000
      below j l =
          let z : record_at n p 0 + j ≡ record_at n p j = omega arith in
          rw z (lt_of_lt_of_le (record_below n w p e j l) (field_most n j few))

  of_both : handles && small_in_range n w p ≡ true → record_in_range n w p ≡ true
  unfolding record_in_range small_in_range
  of_both e =
      let e = parts handles (small_in_range n w p) e in
      let s = all_five (leb (field 0) tag_complete_true) (leb (field 2) entry_complete) (leb (field 5) 1) (leb (field 6) 1) (ltb (field 7) n) e.1 in
      and_from _ _ (and_from _ _ (and_from _ _ (and_from _ _ (and_from _ _ (and_from _ _ (and_from _ _ (and_from _ _
      s.0 (word e.0 1 (omega arith))) s.1) (word e.0 3 (omega arith))) (word e.0 4 (omega arith))) s.2) s.3) s.4)
      (all_every maybe_handle n (record_at n p 8) w
      (λ k l. let z : record_at n p 8 + k ≡ record_at n p (8 + k) = omega arith in rw z (word e.0 (8 + k) (omega arith))))
    where
      word : handles ≡ true → (j : ℕ) → j < record_length n → maybe_handle (field j) ≡ true
      word h j l =
          let z : record_at n p 0 + j ≡ record_at n p j = omega arith in
          rw z at (all_at maybe_handle (record_length n) (record_at n p 0) w h j l)

  record_both : n ≤ 16 → record_in_range n w p ≡ (handles && small_in_range n w p)
  record_both few = both_ways _ _ (both_of few) of_both

-- RECORDS: the small words of the next m, from p on
unfoldable pub smalls_in_range : ℕ → ℕ → ℕ → List ℕ → Bool
smalls_in_range n zero p w = true
smalls_in_range n (suc m) p w = small_in_range n w p && smalls_in_range n m (p + 1) w

apart : (a b c d : Bool) → (a && b) && (c && d) ≡ (a && c) && (b && d)
apart false b c d = refl
apart true b true d = refl
apart true b false d = and-false b

records_both : (n m p : ℕ) (w : List ℕ) → n ≤ 16 → records_in_range n m p w ≡ all_from maybe_handle (m * record_length n) (record_at n p 0) w && smalls_in_range n m p w
unfolding records_in_range smalls_in_range all_from
records_both n zero p w few = let z : 0 * record_length n ≡ 0 = omega arith in rw z
records_both n (suc m) p w few =
    let z : suc m * record_length n ≡ record_length n + m * record_length n = omega (arith, suc-mul m (record_length n)) in
    let y : record_at n (p + 1) 0 ≡ record_at n p 0 + record_length n = omega (arith, add-mul p 1 (record_length n)) in
    rw (record_both n w p few, records_both n m (p + 1) w few, z, all_split maybe_handle (record_length n) (m * record_length n) (record_at n p 0) w, y)
    (apart (handles n w p) (small_in_range n w p) (all_from maybe_handle (m * record_length n) (record_at n p 0 + record_length n) w) (smalls_in_range n m (p + 1) w))

-- where all words are 0 so are the small ones
smalls_zero : (n m p : ℕ) (w : List ℕ) → p + m ≤ n → ((k : ℕ) → k < n * record_length n → get_or w (16 + k) 0 ≡ 0) → smalls_in_range n m p w ≡ true
unfolding smalls_in_range small_in_range
smalls_zero n zero p w l h = refl
smalls_zero n (suc m) p w l h =
    rw (zero_at 0 (omega arith), zero_at 2 (omega arith), zero_at 5 (omega arith), zero_at 6 (omega arith), zero_at 7 (omega arith), lt-ltb 0 n (omega arith))
    (smalls_zero n m (p + 1) w (omega arith) h)
  where
    zero_at : (j : ℕ) → j < 8 → get_or w (record_at n p j) 0 ≡ 0
    zero_at j b =
        let z : record_at n p j ≡ 16 + (p * record_length n + j) = omega arith in
        let s : suc p ≤ n = omega arith in
        rw z (h (p * record_length n + j) (omega (arith, mul-le-mul_right (record_length n) s, suc-mul p (record_length n))))

-- one more, or none left
module _ (n : ℕ) (w : List ℕ) (ok : Bool) (p : ℕ) where
  pub smalls_turn : p < n → (ok && small_in_range n w p) && smalls_in_range n (n - (p + 1)) (p + 1) w ≡ ok && smalls_in_range n (n - p) p w
  unfolding smalls_in_range
  smalls_turn l =
      let e : n - p ≡ suc (n - (p + 1)) = omega arith in
      rw e (and_assoc ok (small_in_range n w p) (smalls_in_range n (n - (p + 1)) (p + 1) w))

  pub smalls_over : n ≤ p → ok ≡ (ok && smalls_in_range n (n - p) p w)
  unfolding smalls_in_range
  smalls_over l =
      let e : n - p ≡ 0 = omega arith in
      rw e (sym (and-true ok))

-- THE EPOCH: its own words, all words of its records together, and the small ones of each
module _ (strategy : SubsetHandlingStrategy) (n : ℕ) (w : List ℕ) where
  abbrev four : Bool
  four = leb (status_of w) status_complete && leb (get_or w decided_at 0) 1 && ltb (accepted_of w) (2 ^ n) && leb (count_of w) (most_kept strategy n)

  pub epoch_code : (reserved joined : ℕ) → EpochWords n w → Joins reserved (length (part 12 4 w)) 0 (part 12 4 w)
      → Joins joined (length (part (length w - 16) 16 w)) 0 (part (length w - 16) 16 w)
      → (four && eqb reserved 0 && ltb joined (2 ^ 32)) && smalls_in_range n n 0 w ≡ epoch_in_range strategy n w
  unfolding epoch_in_range
  epoch_code reserved joined h r s =
      let own = four && all_from (λ x. eqb x 0) 12 4 w in
      let z : record_at n 0 0 ≡ 16 = omega arith in
      let e : length w - 16 ≡ n * record_length n = omega (arith, h.long) in
      let j : ltb joined (2 ^ 32) ≡ all_from maybe_handle (n * record_length n) 16 w = rw e at (joins_part joined (length w - 16) 16 w (omega (arith, h.long)) s 32) in
      rw (row_zero 12 4 w reserved (joins_part reserved 12 4 w (omega (arith, h.long)) r), j, records_both n n 0 w h.few, z)
      (and_assoc own (all_from maybe_handle (n * record_length n) 16 w) (smalls_in_range n n 0 w))

  -- and where the words of the records are all 0, their small ones need no test
  pub epoch_vacant : (reserved joined : ℕ) → EpochWords n w → Joins reserved (length (part 12 4 w)) 0 (part 12 4 w)
      → Joins joined (length (part (length w - 16) 16 w)) 0 (part (length w - 16) 16 w) → joined ≡ 0
      → four && eqb reserved 0 && ltb joined (2 ^ 32) ≡ epoch_in_range strategy n w
  epoch_vacant reserved joined h r s e =
      let all : all_from (λ x. eqb x 0) (length w - 16) 16 w ≡ true =
      sym (row_zero (length w - 16) 16 w joined (joins_part joined (length w - 16) 16 w (omega (arith, h.long)) s)) ∙ eq-eqb joined 0 e in
      let z : smalls_in_range n n 0 w ≡ true = smalls_zero n n 0 w (omega arith) (λ k l. eqb-true _ _ (all_at (λ x. eqb x 0) (length w - 16) 16 w all k (omega (arith, h.long)))) in
      rw (z, and-true (four && eqb reserved 0 && ltb joined (2 ^ 32))) at (epoch_code reserved joined h r s)
