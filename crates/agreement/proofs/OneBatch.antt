-- What handing out the batch of one epoch reads and logs: its 13s name the accepted proposers, its faults 5 and entries follow them. Assumes nothing.
use Rattle.std.proofs.Common.{ℕ, zero, suc, ◌+◌, ◌*◌, ◌-◌, ◌/◌, ◌^◌, ◌<◌, pow-suc, arith, ◌≡◌, refl, sym, ap, ◌∙◌, List, [], ◌∷◌, ◌++◌, append_assoc, append-nil, Bool, true, false, cond, eqb, pow_pos, pow-add, length, get_or, length-append}
use Rattle.std.proofs.Math.Nat.{div-eq_of_lt, add-mul-div_left, add-mul-mod_self_right, add-div_right}
use Rattle.steps.specs.Answers.{Rec, Tape, tape}
use Rattle.steps.specs.Steps.{Entry, fault, output, Item, item, faults, outputs}
use Rattle.steps.specs.Runs.{going, ends, before}
use Rattle.steps.specs.Taken.{thirteens_in}
use Rattle.steps.specs.Bits.{has_bit, with_bit, count_bits}
use Rattle.steps.proofs.GivenWithLog.{Gives, gives_map, gives_cond, gives_about, gives_onward, Neither, neither, neither_then, neither_13, thirteens_13, outputs_append, faults_append}
use Rattle.subset.specs.Words.{record_length}
use Rattle.epochwords.specs.Words.{plaintext_at}
use Rattle.epochwords.specs.Batch.{is_read, read_at, read_from, entries_from, output_batch_in, output_batch}
use Rattle.epoch.proofs.Interface.{fives_among}
use Rattle.epoch.proofs.QuietRuns.{fives_append}
use Rattle.agreement.specs.History.{names_from, names_of, unreadable_in}
use Rattle.steps.specs.Batches.{BatchEntry as Shown}

-- BITS: of a number below 2 ^ p
module _ (x p : ℕ) (small : x < 2 ^ p) where
  bit_off : has_bit x p ≡ false
  unfolding has_bit
  bit_off = rw (div-eq_of_lt small)

  with_is : with_bit x p ≡ x + 2 ^ p
  unfolding with_bit
  with_is = rw bit_off

  with_small : with_bit x p < 2 ^ (p + 1)
  with_small = rw (with_is, pow-add 2 p 1) (omega arith)

  with_at : has_bit (with_bit x p) p ≡ true
  unfolding has_bit
  with_at = rw (with_is, add-div_right x (pow_pos p), div-eq_of_lt small)

  with_low : (q : ℕ) → q < p → has_bit (with_bit x p) q ≡ has_bit x q
  unfolding has_bit
  with_low q l = rw (with_is, split, add-mul-div_left x (2 ^ suc (p - suc q)) (pow_pos q), pow-suc 2 (p - suc q), add-mul-mod_self_right (x / 2 ^ q) (2 ^ (p - suc q)) 2)
    where
      split : 2 ^ p ≡ 2 ^ q * 2 ^ suc (p - suc q)
      split = let e : p ≡ q + suc (p - suc q) = omega arith in ap (λ (i : ℕ). 2 ^ i) e ∙ pow-add 2 q (suc (p - suc q))

  small_next : x < 2 ^ (p + 1)
  small_next = rw (pow-add 2 p 1) (omega arith)

-- the entries that 13s give, where `text` is the plaintext of each proposer
unfoldable pub entries_of : (ℕ → ℕ) → List Rec → List Shown
entries_of text [] = []
entries_of text (r ∷ rs) = cond (eqb r.a 0) [] (record { proposer = r.b; plaintext = text r.b } ∷ []) ++ entries_of text rs

unfoldable pub items_of : List Shown → List Item
items_of [] = []
items_of (x ∷ xs) = item 2 x.proposer x.plaintext ∷ items_of xs

-- READING. The plaintexts of the epoch's words
abbrev pub text_in : ℕ → List ℕ → ℕ → ℕ
text_in n w q = get_or w (plaintext_at n q) 0

-- the next m proposers, from p on, were read from ws to r: the bits `readable` became `after`
record ReadOut (n m p readable : ℕ) (w : List ℕ) (ws : List Rec) (after : ℕ) (v : List ℕ) (r : List Rec) (log : List Entry) : Type 0 where
  rs : List Rec
  same : v ≡ w
  told : thirteens_in ws ≡ rs ++ thirteens_in r
  named : names_of rs ≡ names_from (is_read (record_length n) w) m p
  nothing : Neither ws r
  silent : outputs log ≡ []
  fives : fives_among (faults log) ≡ unreadable_in rs
  kept : (q : ℕ) → q < p → has_bit after q ≡ has_bit readable q
  entries : outputs (entries_from (record_length n) m p after w) ≡ items_of (entries_of (text_in n w) rs)
  count : count_bits m p after ≡ length (entries_of (text_in n w) rs)

-- one proposer: none or one 13
record ReadOne (size p readable : ℕ) (w : List ℕ) (ws : List Rec) (after : ℕ) (v : List ℕ) (r : List Rec) (log : List Entry) : Type 0 where
  rs : List Rec
  same : v ≡ w
  told : thirteens_in ws ≡ rs ++ thirteens_in r
  named : names_of rs ≡ cond (is_read size w p) (p ∷ []) []
  nothing : Neither ws r
  silent : outputs log ≡ []
  fives : fives_among (faults log) ≡ unreadable_in rs
  small : after < 2 ^ (p + 1)
  kept : (q : ℕ) → q < p → has_bit after q ≡ has_bit readable q
  entries : (n : ℕ) (u : ℕ) → has_bit u p ≡ has_bit after p
      → outputs (cond (has_bit u p) (output 2 p (text_in n w p) ∷ []) []) ≡ items_of (entries_of (text_in n w) rs)
  count : (n : ℕ) (u : ℕ) → has_bit u p ≡ has_bit after p → cond (has_bit u p) 1 0 ≡ length (entries_of (text_in n w) rs)

module _ (size p readable : ℕ) (small : readable < 2 ^ p) (w : List ℕ) where
  -- not one of the batch
  none_read : (ws : List Rec) → is_read size w p ≡ false → ReadOne size p readable w ws readable w ws []
  unfolding names_of fives_among faults outputs unreadable_in entries_of items_of
  none_read ws e = record {
    rs = [];
    same = refl;
    told = refl;
    named = rw e;
    nothing = neither ws;
    silent = refl;
    fives = refl;
    small = small_next readable p small;
    kept = λ q l. refl;
    entries = λ n u h. rw (h, bit_off readable p small);
    count = λ n u h. rw (h, bit_off readable p small);
  }

  -- a 13 that says no
  unread : (r : Rec) (rs : List Rec) → is_read size w p ≡ true → r.kind ≡ 13 → r.b ≡ p → eqb r.a 0 ≡ true → ReadOne size p readable w (r ∷ rs) readable w rs (fault 5 p 0 ∷ [])
  unfolding names_of fives_among faults outputs unreadable_in entries_of items_of
  unread r rs e ek eb ea = record {
    rs = r ∷ [];
    same = refl;
    told = thirteens_13 r rs ek;
    named = rw (e, eb);
    nothing = neither_13 r rs ek;
    silent = refl;
    fives = rw (ea, eb);
    small = small_next readable p small;
    kept = λ q l. refl;
    entries = λ n u h. rw (h, bit_off readable p small, ea);
    count = λ n u h. rw (h, bit_off readable p small, ea);
  }

  -- one that says yes
  reads : (r : Rec) (rs : List Rec) → is_read size w p ≡ true → r.kind ≡ 13 → r.b ≡ p → eqb r.a 0 ≡ false → ReadOne size p readable w (r ∷ rs) (with_bit readable p) w rs []
  unfolding names_of fives_among faults outputs unreadable_in entries_of items_of
  reads r rs e ek eb ea = record {
    rs = r ∷ [];
    same = refl;
    told = thirteens_13 r rs ek;
    named = rw (e, eb);
    nothing = neither_13 r rs ek;
    silent = refl;
    fives = rw ea;
    small = with_small readable p small;
    kept = λ q l. with_low readable p small q l;
    entries = λ n u h. rw (h, with_at readable p small, ea, eb);
    count = λ n u h. rw (h, with_at readable p small, ea);
  }

  read_one : (t : Tape) → Gives (read_at size p readable w t) (λ a v q l. ReadOne size p readable w t.rest a v q.rest l)
  unfolding read_at
  read_one t =
      gives_cond (is_read size w p) _ _ _
      (λ e. gives_about t 13 p w _ _ (λ r rs er ek eb. rw er (by r rs e ek eb (eqb r.a 0) refl)))
      (λ e. none_read t.rest e)
    where
      by : (r : Rec) (rs : List Rec) → is_read size w p ≡ true → r.kind ≡ 13 → r.b ≡ p → (x : Bool) → eqb r.a 0 ≡ x
          → Gives (cond x (before (fault 5 p 0 ∷ []) (ends (going readable) w (tape r.next rs))) (ends (going (with_bit readable p)) w (tape r.next rs)))
          (λ a v q l. ReadOne size p readable w (r ∷ rs) a v q.rest l)
      by r rs e ek eb true ea = unread r rs e ek eb ea
      by r rs e ek eb false ea = reads r rs e ek eb ea

names_append : (l m : List Rec) → names_of (l ++ m) ≡ names_of l ++ names_of m
unfolding names_of
names_append [] m = refl
names_append (r ∷ l) m = rw (names_append l m)

pub unreadable_append : (l m : List Rec) → unreadable_in (l ++ m) ≡ unreadable_in l ++ unreadable_in m
unfolding unreadable_in
unreadable_append [] m = refl
unreadable_append (r ∷ l) m = rw (unreadable_append l m) (sym (append_assoc (cond (eqb r.a 0) (r.b ∷ []) []) (unreadable_in l) (unreadable_in m)))

entries_append : (text : ℕ → ℕ) (l m : List Rec) → entries_of text (l ++ m) ≡ entries_of text l ++ entries_of text m
unfolding entries_of
entries_append text [] m = refl
entries_append text (r ∷ l) m = rw (entries_append text l m) (sym (append_assoc (cond (eqb r.a 0) [] (record { proposer = r.b; plaintext = text r.b } ∷ [])) (entries_of text l) (entries_of text m)))

items_append : (l m : List Shown) → items_of (l ++ m) ≡ items_of l ++ items_of m
unfolding items_of
items_append [] m = refl
items_append (x ∷ l) m = rw (items_append l m)

module _ (n : ℕ) where
  read_then : (m p readable : ℕ) (w : List ℕ) (ws : List Rec) (a : ℕ) (r : List Rec) (l : List Entry) (b : ℕ) (v : List ℕ) (z : List Rec) (k : List Entry)
      → ReadOne (record_length n) p readable w ws a w r l → ReadOut n m (p + 1) a w r b v z k → ReadOut n (suc m) p readable w ws b v z (l ++ k)
  unfolding names_from entries_from count_bits
  read_then m p readable w ws a r l b v z k x y = record {
    rs = x.rs ++ y.rs;
    same = y.same;
    told = x.told ∙ ap (λ u. x.rs ++ u) y.told ∙ sym (append_assoc x.rs y.rs (thirteens_in z));
    named = names_append x.rs y.rs ∙ rw (x.named, y.named);
    nothing = neither_then x.nothing y.nothing;
    silent = outputs_append l k ∙ rw (x.silent, y.silent);
    fives = ap fives_among (faults_append l k) ∙ fives_append (faults l) (faults k) ∙ rw (x.fives, y.fives) (sym (unreadable_append x.rs y.rs));
    kept = λ q h. y.kept q (omega arith) ∙ x.kept q h;
    entries =
        outputs_append (cond (has_bit b p) (output 2 p (text_in n w p) ∷ []) []) (entries_from (record_length n) m (p + 1) b w)
        ∙ rw (x.entries n b (y.kept p (omega arith)), y.entries) (sym (ap items_of (entries_append (text_in n w) x.rs y.rs) ∙ items_append (entries_of (text_in n w) x.rs) (entries_of (text_in n w) y.rs)));
    count =
        rw (x.count n b (y.kept p (omega arith)), y.count)
        (sym (ap length (entries_append (text_in n w) x.rs y.rs) ∙ length-append (entries_of (text_in n w) x.rs) (entries_of (text_in n w) y.rs)));
  }

  read_out : (m p readable : ℕ) (w : List ℕ) (t : Tape) → readable < 2 ^ p → Gives (read_from (record_length n) m p readable w t) (λ a v q l. ReadOut n m p readable w t.rest a v q.rest l)
  unfolding read_from names_of names_from fives_among faults outputs unreadable_in entries_of items_of entries_from count_bits
  read_out zero p readable w t small = record {
    rs = [];
    same = refl;
    told = refl;
    named = refl;
    nothing = neither t.rest;
    silent = refl;
    fives = refl;
    kept = λ q l. refl;
    entries = refl;
    count = refl;
  }
  read_out (suc m) p readable w t small =
      gives_onward (read_at (record_length n) p readable w t) _ _
      (gives_map (read_at (record_length n) p readable w t) _ _ (read_one (record_length n) p readable small w t) (λ a v q l x.
      rw x.same (gives_map (read_from (record_length n) m (p + 1) a w q) _ _ (read_out m (p + 1) a w q x.small) (λ b u z k y.
      read_then m p readable w t.rest a q.rest l b u z.rest k (rw x.same at x) y))))

-- THE BATCH. Its 13s, its faults 5 and its outputs
pub record Put (n epoch : ℕ) (w : List ℕ) (ws : List Rec) (v : List ℕ) (r : List Rec) (log : List Entry) : Type 0 where
  pub rs : List Rec
  pub same : v ≡ w
  pub told : thirteens_in ws ≡ rs ++ thirteens_in r
  pub named : names_of rs ≡ names_from (is_read (record_length n) w) n 0
  pub nothing : Neither ws r
  pub fives : fives_among (faults log) ≡ unreadable_in rs
  pub shown : outputs log ≡ item 1 epoch (length (entries_of (text_in n w) rs)) ∷ items_of (entries_of (text_in n w) rs)

entries_faults : (n m p readable : ℕ) (w : List ℕ) → faults (entries_from (record_length n) m p readable w) ≡ []
unfolding faults entries_from
entries_faults n zero p readable w = refl
entries_faults n (suc m) p readable w =
    faults_append (cond (has_bit readable p) (output 2 p (text_in n w p) ∷ []) []) (entries_from (record_length n) m (p + 1) readable w)
    ∙ rw (entries_faults n m (p + 1) readable w) (go (has_bit readable p))
  where
    go : (x : Bool) → faults (cond x (output 2 p (text_in n w p) ∷ []) []) ++ [] ≡ []
    go true = refl
    go false = refl

pub batch_put : (n epoch : ℕ) (w : List ℕ) (t : Tape) → Gives (output_batch n epoch w t) (λ _ v q l. Put n epoch w t.rest v q.rest l)
unfolding output_batch_in outputs faults fives_among
batch_put n epoch w t =
    gives_onward (read_from (record_length n) n 0 0 w t) _ _
    (gives_map (read_from (record_length n) n 0 0 w t) _ _ (read_out n n 0 0 w t (omega arith)) (λ a v q l x.
    record {
      rs = x.rs;
      same = x.same;
      told = x.told;
      named = x.named;
      nothing = x.nothing;
      fives =
          ap fives_among (faults_append l (output 1 epoch (count_bits n 0 a) ∷ (entries_from (record_length n) n 0 a v ++ [])))
          ∙ fives_append (faults l) (faults (entries_from (record_length n) n 0 a v ++ []))
          ∙ rw (append-nil (entries_from (record_length n) n 0 a v), entries_faults n n 0 a v, x.fives) (append-nil (unreadable_in x.rs));
      shown =
          outputs_append l (output 1 epoch (count_bits n 0 a) ∷ (entries_from (record_length n) n 0 a v ++ []))
          ∙ rw (append-nil (entries_from (record_length n) n 0 a v), x.same, x.silent, x.count, x.entries);
    }))
