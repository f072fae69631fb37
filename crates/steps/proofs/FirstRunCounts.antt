-- What a first run counts: the lengths of the three lists, up to 2^32 each, whatever the words. Assumes nothing.
use Rattle.std.proofs.Common.{ℕ, suc, ◌+◌, ◌≤◌, ◌<◌, min, ◌≡◌, refl, ap, ◌∙◌, List, [], ◌∷◌, Bool, true, false, cond, arith, zero-add, add-zero, length, leb, leb-true, leb-false}
use Rattle.steps.specs.declared.step.Chain.{Chain}
use Rattle.steps.specs.declared.step.Step.{Step}
use Rattle.steps.specs.Steps.{Entry, message, fault, output, messages, faults, outputs, out, advance, put_at, put_entry, put_all, counting, Counted, records}

-- a chain that has counted n entries
abbrev up_to : ℕ → Chain
up_to n = record { at = min n 0x1_0000_0000; end = 0 }

abbrev pub count_of : ℕ → ℕ → ℕ → Step
count_of m f u = record { messages = up_to m; faults = up_to f; outputs = up_to u }

-- the step that a first run leaves
abbrev pub counted_of : List Entry → Step
counted_of l = count_of (length (messages l)) (length (faults l)) (length (outputs l))

-- the same below 2^32
abbrev pub exact_of : List Entry → Step
exact_of l = record { messages = record { at = length (messages l); end = 0 }; faults = record { at = length (faults l); end = 0 }; outputs = record { at = length (outputs l); end = 0 } }

up_to_more : (n : ℕ) → advance (up_to n) ≡ up_to (n + 1)
unfolding advance
up_to_more n = go (leb 0x1_0000_0000 (min n 0x1_0000_0000)) refl
  where
    go : (x : Bool) → leb 0x1_0000_0000 (min n 0x1_0000_0000) ≡ x → cond x (up_to n) (record { at = min n 0x1_0000_0000 + 1; end = 0 }) ≡ up_to (n + 1)
    go true e =
        let h : min n 0x1_0000_0000 ≡ min (n + 1) 0x1_0000_0000 = omega (arith, leb-true 0x1_0000_0000 (min n 0x1_0000_0000) e) in
        ap (λ i. record { at = i; end = 0 }) h
    go false e =
        let h : min n 0x1_0000_0000 + 1 ≡ min (n + 1) 0x1_0000_0000 = omega (arith, leb-false 0x1_0000_0000 (min n 0x1_0000_0000) e) in
        ap (λ i. record { at = i; end = 0 }) h

more : (n k : ℕ) → n + 1 + k ≡ n + suc k
more n k = omega arith

counts_on : (l : List Entry) (m f u : ℕ) (w : List ℕ) → (put_all (out (count_of m f u) w) l).step ≡ count_of (m + length (messages l)) (f + length (faults l)) (u + length (outputs l))
unfolding put_all put_entry messages faults outputs
counts_on [] m f u w = simp add-zero
counts_on (message k a b ∷ l) m f u w =
    ap (λ c. (put_all (out (record { messages = c; faults = up_to f; outputs = up_to u }) (put_at w (up_to m) k a b)) l).step) (up_to_more m)
    ∙ counts_on l (m + 1) f u _ ∙ ap (λ n. count_of n (f + length (faults l)) (u + length (outputs l))) (more m (length (messages l)))
counts_on (fault k a b ∷ l) m f u w =
    ap (λ c. (put_all (out (record { messages = up_to m; faults = c; outputs = up_to u }) (put_at w (up_to f) k a b)) l).step) (up_to_more f)
    ∙ counts_on l m (f + 1) u _ ∙ ap (λ n. count_of (m + length (messages l)) n (u + length (outputs l))) (more f (length (faults l)))
counts_on (output k a b ∷ l) m f u w =
    ap (λ c. (put_all (out (record { messages = up_to m; faults = up_to f; outputs = c }) (put_at w (up_to u) k a b)) l).step) (up_to_more u)
    ∙ counts_on l m f (u + 1) _ ∙ ap (λ n. count_of (m + length (messages l)) (f + length (faults l)) n) (more u (length (outputs l)))

-- every entry is in one of the three lists
pub lists_length : (l : List Entry) → length (messages l) + length (faults l) + length (outputs l) ≡ length l
unfolding messages faults outputs
lists_length [] = refl
lists_length (message k a b ∷ l) = omega (arith, lists_length l)
lists_length (fault k a b ∷ l) = omega (arith, lists_length l)
lists_length (output k a b ∷ l) = omega (arith, lists_length l)

module _ (l : List Entry) (w : List ℕ) where
  -- the count of every log, over any words
  pub counts : (put_all (out counting w) l).step ≡ counted_of l
  counts = counts_on l 0 0 0 w ∙ simp zero-add

  pub counted : Counted (put_all (out counting w) l).step
  counted = rw counts (record { messages = omega arith; faults = omega arith; outputs = omega arith })

  -- a count of at most 2^32 records is of fewer than 2^32 entries
  pub records_few : records (put_all (out counting w) l).step ≤ 0x1_0000_0000 → length l < 0x1_0000_0000
  records_few h = let h' : records (counted_of l) ≤ 0x1_0000_0000 = rw counts at h in omega (arith, lists_length l)

  -- and of fewer than 2^32 entries the count is exact
  pub counts_exact : length l < 0x1_0000_0000 → (put_all (out counting w) l).step ≡ exact_of l
  counts_exact h = counts ∙ rw (up (length (messages l)) (omega (arith, lists_length l)), up (length (faults l)) (omega (arith, lists_length l)), up (length (outputs l)) (omega (arith, lists_length l)))
    where
      up : (n : ℕ) → n < 0x1_0000_0000 → min n 0x1_0000_0000 ≡ n
      up n h = omega arith

  pub records_counted : length l < 0x1_0000_0000 → records (put_all (out counting w) l).step ≡ 1 + length l
  records_counted h = rw (counts_exact h) (omega (arith, lists_length l))
