-- The range rule of an epoch's words says that each word is below the limit of its place, and what is stored there keeps it. Assumes nothing.
use Rattle.std.proofs.Common.{ℕ, zero, suc, ◌+◌, ◌/◌, ◌-◌, ◌%◌, ◌^◌, ◌≤◌, ◌<◌, ◌≡◌, refl, ap, ◌∙◌, List, [], ◌∷◌, ◌++◌, Bool, true, false, cond, ◌&&◌, arith, div-add-mod', mod-lt, div-lt_iff_lt-mul, zero-add, length, get_or, replicate, length-append, leb, ltb, eqb, eqb-true, leb-true, ltb-true, ltb-false, eq-eqb, le-leb, lt-ltb}
use Rattle.std.proofs.Math.ListN.{get_or-eq_default}
use Rattle.std.proofs.lemmas.List.{length-replicate}
use Rattle.std.proofs.lemmas.Bool.{and_parts, and_from}
use Rattle.steps.proofs.BitLaws.{with_below}
use Rattle.steps.proofs.Ranges.{Below, zeros_at}
use Rattle.decryption.specs.declared.ThresholdDecrypt.{ThresholdDecrypt}
use Rattle.decryption.specs.Decrypt.{new}
use Rattle.decryption.proofs.Ranges.{handles, InstanceOk, new_ok}
use Rattle.subset.specs.Words.{record_length, epoch_length, status_at, decided_at, accepted_at, accepted_of, count_at, count_of, arrival_field, status_of, status_complete, record_at, proposal_at}
use Rattle.subset.proofs.Ranges.{own_limit, field_limit, limit_at, limit_own, limit_field, limit_share, limit_some, EpochOk, set_field, set_own, field_below}
use Rattle.epochwords.specs.declared.SubsetHandlingStrategy.{SubsetHandlingStrategy}
use Rattle.epochwords.specs.declared.SubsetHandlingStrategy.TheVariants.{Incremental, AllAtEnd}
use Rattle.epochwords.specs.Shape.{Listed}
use Rattle.epochwords.specs.Words.{accept, DecryptionState, missing, ongoing, complete, decryption_at, had_input_at, terminated_at, share_at, shares_from, entry_none, load_instance, load_entry, set_shares, flag, store_entry, store_decryption, maybe_handle, all_from, record_in_range, records_in_range, most_kept, epoch_in_range}

-- AN ENTRY's words
unfoldable pub EntryOk : DecryptionState → Type 0
EntryOk missing = Unit {0}
EntryOk (ongoing td) = InstanceOk td
EntryOk (complete plaintext) = plaintext < 0x1_0000_0000

module _ (n : ℕ) (p : ℕ) where
  shares_length : (m i : ℕ) (w : List ℕ) → length (shares_from n p m i w) ≡ m
  unfolding shares_from
  shares_length zero i w = refl
  shares_length (suc m) i w = ap suc (shares_length m (i + 1) w)

  shares_below : (m i : ℕ) (w : List ℕ) (r k : ℕ) → i + m ≤ n → EpochOk n w → get_or (shares_from n p m i w ++ replicate r 0) k 0 < 0x1_0000_0000
  unfolding shares_from
  shares_below zero i w r k l h = rw (zeros_at r k) (omega arith)
  shares_below (suc m) i w r zero l h = rw (limit_share n p i (omega arith)) at (h.below (share_at n p i))
  shares_below (suc m) i w r (suc k) l h = shares_below m (i + 1) w r k (omega arith) h

  instance_ok : (w : List ℕ) → n ≤ 16 → EpochOk n w → InstanceOk (load_instance n w p)
  unfolding load_instance
  instance_ok w few h =
      record {
        ciphertext = field_below n w p 4 h (omega arith);
        shares = record {
          long = length-append (shares_from n p n 0 w) (replicate (16 - n) 0) ∙ omega (arith, shares_length n 0 w, length-replicate {A = ℕ} (16 - n) 0);
          below = λ k. shares_below n 0 w (16 - n) k (omega arith) h;
        };
      }

  pub load_entry_ok : (w : List ℕ) → n ≤ 16 → EpochOk n w → InstanceOk (load_entry n w p)
  unfolding load_entry
  load_entry_ok w few h = go (eqb (get_or w (decryption_at n p) 0) entry_none)
    where
      go : (x : Bool) → InstanceOk (cond x new (load_instance n w p))
      go true = new_ok
      go false = instance_ok w few h

  shares_ok : (m i : ℕ) (s w : List ℕ) → i + m ≤ n → Below handles 16 s → EpochOk n w → EpochOk n (set_shares n p m i s w)
  unfolding set_shares
  shares_ok zero i s w l u h = h
  shares_ok (suc m) i s w l u h = shares_ok m (i + 1) s _ (omega arith) u (set_own n w (share_at n p i) (get_or s i 0) h (rw (limit_share n p i (omega arith)) (u.below i)))

  flag_below : (b : Bool) → flag b < 2
  flag_below true = omega arith
  flag_below false = omega arith

  entry_ok : (w : List ℕ) (tag plaintext : ℕ) (td : ThresholdDecrypt) → tag < 3 → plaintext < 0x1_0000_0000 → InstanceOk td → EpochOk n w → EpochOk n (store_entry n w p tag plaintext td)
  unfolding store_entry
  entry_ok w tag plaintext td t l k h =
      shares_ok n 0 td.shares _ (omega arith) k.shares
      (set_field n _ p 6 (flag td.terminated)
      (set_field n _ p 5 (flag td.had_input)
      (set_field n _ p 4 td.ciphertext
      (set_field n _ p 3 plaintext
      (set_field n w p 2 tag h (omega arith) t)
      (omega arith) l)
      (omega arith) k.ciphertext)
      (omega arith) (flag_below td.had_input))
      (omega arith) (flag_below td.terminated))

  pub store_entry_ok : (w : List ℕ) (d : DecryptionState) → EntryOk d → EpochOk n w → EpochOk n (store_decryption n w p d)
  unfolding store_decryption EntryOk
  store_entry_ok w missing k h = entry_ok w 0 0 new (omega arith) (omega arith) new_ok h
  store_entry_ok w (ongoing td) k h = entry_ok w 1 0 td (omega arith) (omega arith) k h
  store_entry_ok w (complete plaintext) k h = entry_ok w 2 plaintext new (omega arith) k new_ok h

  pub accept_ok : (w : List ℕ) → p < n → EpochOk n w → EpochOk n (accept w p)
  unfolding accept limit_at
  accept_ok w l h = set_own n w accepted_at _ h (with_below n (get_or w accepted_at 0) p l (h.below accepted_at))

-- THE RULE AND THE LIMITS. A test for at most b is one for below b + 1
leb_below : (a b : ℕ) → leb a b ≡ true → a < b + 1
leb_below a b e = omega (arith, leb-true a b e)

-- of a row of words
pub all_at : (is : ℕ → Bool) (m i : ℕ) (w : List ℕ) → all_from is m i w ≡ true → (k : ℕ) → k < m → is (get_or w (i + k) 0) ≡ true
unfolding all_from
all_at is zero i w e k l = absurd (omega arith)
all_at is (suc m) i w e zero l = let z : i + 0 ≡ i = omega arith in rw z (and_parts (is (get_or w i 0)) _ e).0
all_at is (suc m) i w e (suc k) l =
    let z : i + suc k ≡ (i + 1) + k = omega arith in
    rw z (all_at is m (i + 1) w (and_parts (is (get_or w i 0)) _ e).1 k (omega arith))

pub all_every : (is : ℕ → Bool) (m i : ℕ) (w : List ℕ) → ((k : ℕ) → k < m → is (get_or w (i + k) 0) ≡ true) → all_from is m i w ≡ true
unfolding all_from
all_every is zero i w f = refl
all_every is (suc m) i w f =
    and_from _ _ (let z : i + 0 ≡ i = omega arith in rw z at (f 0 (omega arith)))
    (all_every is m (i + 1) w (λ k l. let z : i + suc k ≡ (i + 1) + k = omega arith in rw z at (f (suc k) (omega arith))))

-- of a record
module _ (n : ℕ) (w : List ℕ) (p : ℕ) where
  by_field : get_or w (record_at n p 0) 0 < 5 → get_or w (record_at n p 1) 0 < 0x1_0000_0000 → get_or w (record_at n p 2) 0 < 3
      → get_or w (record_at n p 3) 0 < 0x1_0000_0000 → get_or w (record_at n p 4) 0 < 0x1_0000_0000 → get_or w (record_at n p 5) 0 < 2
      → get_or w (record_at n p 6) 0 < 2 → get_or w (record_at n p 7) 0 < n → ((s : ℕ) → s < n → get_or w (share_at n p 0 + s) 0 < 0x1_0000_0000)
      → (j : ℕ) → j < record_length n → get_or w (record_at n p j) 0 < field_limit n j
  by_field f0 f1 f2 f3 f4 f5 f6 f7 f8 zero l = f0
  by_field f0 f1 f2 f3 f4 f5 f6 f7 f8 (suc zero) l = f1
  by_field f0 f1 f2 f3 f4 f5 f6 f7 f8 (suc (suc zero)) l = f2
  by_field f0 f1 f2 f3 f4 f5 f6 f7 f8 (suc (suc (suc zero))) l = f3
  by_field f0 f1 f2 f3 f4 f5 f6 f7 f8 (suc (suc (suc (suc zero)))) l = f4
  by_field f0 f1 f2 f3 f4 f5 f6 f7 f8 (suc (suc (suc (suc (suc zero))))) l = f5
  by_field f0 f1 f2 f3 f4 f5 f6 f7 f8 (suc (suc (suc (suc (suc (suc zero)))))) l = f6
  by_field f0 f1 f2 f3 f4 f5 f6 f7 f8 (suc (suc (suc (suc (suc (suc (suc zero))))))) l = f7
  by_field f0 f1 f2 f3 f4 f5 f6 f7 f8 (suc (suc (suc (suc (suc (suc (suc (suc j)))))))) l =
      let z : record_at n p (suc (suc (suc (suc (suc (suc (suc (suc j)))))))) ≡ share_at n p 0 + j = omega arith in
      rw z (f8 j (omega arith))

  pub record_below : record_in_range n w p ≡ true → (j : ℕ) → j < record_length n → get_or w (record_at n p j) 0 < field_limit n j
  unfolding record_in_range
  record_below e =
      let e8 = and_parts _ _ e in
      let e7 = and_parts _ _ e8.0 in
      let e6 = and_parts _ _ e7.0 in
      let e5 = and_parts _ _ e6.0 in
      let e4 = and_parts _ _ e5.0 in
      let e3 = and_parts _ _ e4.0 in
      let e2 = and_parts _ _ e3.0 in
      let e1 = and_parts _ _ e2.0 in
      by_field
      (leb_below _ 4 e1.0)
      (ltb-true _ _ e1.1)
      (leb_below _ 2 e2.1)
      (ltb-true _ _ e3.1)
      (ltb-true _ _ e4.1)
      (leb_below _ 1 e5.1)
      (leb_below _ 1 e6.1)
      (ltb-true _ _ e7.1)
      (λ s l. ltb-true _ _ (all_at maybe_handle n (share_at n p 0) w e8.1 s l))

  record_in : EpochOk n w → record_in_range n w p ≡ true
  unfolding record_in_range
  record_in h =
      and_from _ _ (and_from _ _ (and_from _ _ (and_from _ _ (and_from _ _ (and_from _ _ (and_from _ _ (and_from _ _
      (le-leb (get_or w (proposal_at n p) 0) 4 (omega (arith, field_below n w p 0 h (omega arith))))
      (lt-ltb _ _ (field_below n w p 1 h (omega arith))))
      (le-leb (get_or w (decryption_at n p) 0) 2 (omega (arith, field_below n w p 2 h (omega arith)))))
      (lt-ltb _ _ (field_below n w p 3 h (omega arith))))
      (lt-ltb _ _ (field_below n w p 4 h (omega arith))))
      (le-leb (get_or w (had_input_at n p) 0) 1 (omega (arith, field_below n w p 5 h (omega arith)))))
      (le-leb (get_or w (terminated_at n p) 0) 1 (omega (arith, field_below n w p 6 h (omega arith)))))
      (lt-ltb _ _ (field_below n w p 7 h (omega arith))))
      (all_every maybe_handle n (share_at n p 0) w (λ s l. lt-ltb _ _ (share s l)))
    where
      share : (s : ℕ) → s < n → get_or w (share_at n p 0 + s) 0 < 0x1_0000_0000
      share s l =
          let z : share_at n p 0 + s ≡ share_at n p s = omega arith in
          rw (z, ← limit_share n p s l) (h.below (share_at n p s))

-- of the records of the next m proposers, from p on
records_at_lem : (n m p : ℕ) (w : List ℕ) → records_in_range n m p w ≡ true → (k : ℕ) → k < m → record_in_range n w (p + k) ≡ true
unfolding records_in_range
records_at_lem n zero p w e k l = absurd (omega arith)
records_at_lem n (suc m) p w e zero l = let z : p + 0 ≡ p = omega arith in rw z (and_parts (record_in_range n w p) _ e).0
records_at_lem n (suc m) p w e (suc k) l =
    let z : p + suc k ≡ (p + 1) + k = omega arith in
    rw z (records_at_lem n m (p + 1) w (and_parts (record_in_range n w p) _ e).1 k (omega arith))

records_in : (n m p : ℕ) (w : List ℕ) → EpochOk n w → records_in_range n m p w ≡ true
unfolding records_in_range
records_in n zero p w h = refl
records_in n (suc m) p w h = and_from _ _ (record_in n w p h) (records_in n m (p + 1) w h)

-- no list is longer than there are proposers
pub most_kept_lem : (strategy : SubsetHandlingStrategy) (n : ℕ) → most_kept strategy n ≤ n
unfolding most_kept
most_kept_lem Incremental n = omega arith
most_kept_lem AllAtEnd n = omega arith

-- of the whole epoch
module _ (n : ℕ) (w : List ℕ) where
  own_below : get_or w 0 0 < 3 → get_or w 1 0 < 2 → get_or w 2 0 < 2 ^ n → get_or w 3 0 < n + 1 → ((k : ℕ) → k < 12 → get_or w (4 + k) 0 ≡ 0)
      → (i : ℕ) → i < 16 → get_or w i 0 < own_limit n i
  own_below f0 f1 f2 f3 f4 zero l = f0
  own_below f0 f1 f2 f3 f4 (suc zero) l = f1
  own_below f0 f1 f2 f3 f4 (suc (suc zero)) l = f2
  own_below f0 f1 f2 f3 f4 (suc (suc (suc zero))) l = f3
  own_below f0 f1 f2 f3 f4 (suc (suc (suc (suc k)))) l =
      let z : suc (suc (suc (suc k))) ≡ 4 + k = omega arith in
      let e : get_or w (suc (suc (suc (suc k)))) 0 ≡ 0 = rw z (f4 k (omega arith)) in
      omega arith

  field_at : records_in_range n n 0 w ≡ true → length w ≡ epoch_length n → (i : ℕ) → 16 ≤ i → i < length w → get_or w i 0 < limit_at n i
  field_at e long i a b =
      let s : 0 < record_length n = omega arith in
      let d : (i - 16) / record_length n < n = (div-lt_iff_lt-mul s).1 (omega arith) in
      let m : (i - 16) % record_length n < record_length n = mod-lt (i - 16) s in
      let z : i ≡ record_at n ((i - 16) / record_length n) ((i - 16) % record_length n) = omega (arith, div-add-mod' (i - 16) (record_length n)) in
      go ((i - 16) / record_length n) ((i - 16) % record_length n) d m z
    where
      go : (p j : ℕ) → p < n → j < record_length n → i ≡ record_at n p j → get_or w i 0 < limit_at n i
      go p j d m z = rw (z, limit_field n p j m) (record_below n w p (rw zero-add at (records_at_lem n n 0 w e p d)) j m)

  pub epoch_below : (strategy : SubsetHandlingStrategy) → 0 < n → length w ≡ epoch_length n → epoch_in_range strategy n w ≡ true → EpochOk n w
  unfolding epoch_in_range
  epoch_below strategy some long e =
      let e5 = and_parts _ _ e in
      let e4 = and_parts _ _ e5.0 in
      let e3 = and_parts _ _ e4.0 in
      let e2 = and_parts _ _ e3.0 in
      let e1 = and_parts _ _ e2.0 in
      record {
        long = long;
        below = λ i. go
            (own_below
            (leb_below _ 2 e1.0)
            (leb_below _ 1 e1.1)
            (ltb-true _ _ e2.1)
            (omega (arith, leb-true (count_of w) (most_kept strategy n) e3.1, most_kept_lem strategy n))
            (λ k l. eqb-true _ _ (all_at (λ x. eqb x 0) 12 4 w e4.1 k l)))
            e5.1 i (ltb i 16) refl (ltb i (length w)) refl;
      }
    where
      go : ((i : ℕ) → i < 16 → get_or w i 0 < own_limit n i) → records_in_range n n 0 w ≡ true → (i : ℕ) (x : Bool) → ltb i 16 ≡ x → (y : Bool) → ltb i (length w) ≡ y → get_or w i 0 < limit_at n i
      go f r i x a false b = rw (get_or-eq_default w 0 {n = i} (ltb-false _ _ b)) (limit_some n i some)
      go f r i false a true b = field_at r long i (ltb-false _ _ a) (ltb-true _ _ b)
      go f r i true a true b = rw (limit_own n i (ltb-true i 16 a)) (f i (ltb-true i 16 a))

  -- and keeps no more contributions than it may
  pub epoch_keeps : (strategy : SubsetHandlingStrategy) → epoch_in_range strategy n w ≡ true → count_of w ≤ most_kept strategy n
  unfolding epoch_in_range
  epoch_keeps strategy e =
      let three = leb (status_of w) status_complete && leb (get_or w decided_at 0) 1 && ltb (accepted_of w) (2 ^ n) in
      let four = three && leb (count_of w) (most_kept strategy n) in
      leb-true (count_of w) (most_kept strategy n) (and_parts three _ (and_parts four _ (and_parts (four && all_from (λ x. eqb x 0) 12 4 w) _ e).0).0).1

  pub epoch_in : (strategy : SubsetHandlingStrategy) → EpochOk n w → count_of w ≤ most_kept strategy n → epoch_in_range strategy n w ≡ true
  unfolding epoch_in_range limit_at
  epoch_in strategy h k =
      and_from _ _ (and_from _ _ (and_from _ _ (and_from _ _ (and_from _ _
      (le-leb (get_or w status_at 0) 2 (omega (arith, h.below 0)))
      (le-leb (get_or w decided_at 0) 1 (omega (arith, h.below 1))))
      (lt-ltb _ _ (h.below 2)))
      (le-leb (count_of w) (most_kept strategy n) k))
      (all_every (λ x. eqb x 0) 12 4 w (λ k l. eq-eqb _ 0 (zero_at k l))))
      (records_in n n 0 w h)
    where
      zero_at : (k : ℕ) → k < 12 → get_or w (4 + k) 0 ≡ 0
      zero_at k l =
          let z : limit_at n (4 + k) ≡ 1 = limit_own n (4 + k) (omega arith) ∙ get_or-eq_default (3 ∷ 2 ∷ (2 ^ n) ∷ (n + 1) ∷ []) 1 {n = 4 + k} (omega arith) in
          omega (arith, h.below (4 + k))

-- WHAT THE CODE REQUIRES of the list of contributions: words in range have it
pub ok_listed : (n : ℕ) (w : List ℕ) → EpochOk n w → Listed n w
ok_listed n w h =
    record {
      count = omega (arith, h.below count_at, limit_own n count_at (omega arith));
      who = λ i l. field_below n w i arrival_field h (omega arith);
    }
