-- ONE WALK of threshold decryption, for every property of runs that has the rules. Assumes nothing.
use Rattle.std.proofs.Common.{ℕ, zero, suc, ◌+◌, ◌≤◌, ◌≡◌, refl, Bool, true, false, cond, ◌&&◌, not, Option, None, arith, set, leb, eqb, ne_eqb, leb-true}
use Rattle.std.proofs.lemmas.Bool.{and_parts}
use Rattle.network.specs.declared.network_info.NetworkInfo.{NetworkInfo}
use Rattle.network.specs.Network.{is_validator}
use Rattle.steps.specs.Table.{within}
use Rattle.steps.specs.Answers.{Tape}
use Rattle.steps.specs.Steps.{message, fault}
use Rattle.steps.specs.Runs.{Run}
use Rattle.steps.proofs.Logic.{Hand, hand, nothing, Terms, Permits, Logic, here, there, test, fail, move, put, hear, next, tell}
use Rattle.decryption.specs.Decrypt.{with_ciphertext, with_shares, with_input, with_end, is_some, is_sender, count_shares, set_ciphertext, is_share_valid, check_share, remove_from, own_share, start_with, combine, try_with, start_decryption, try_output, store_share, handle_message}
use Rattle.decryption.specs.declared.ThresholdDecrypt.{ThresholdDecrypt}

-- what starting and combining do of an instance and the answers
abbrev pub Does : Type 0
Does = ThresholdDecrypt → Tape → Run ThresholdDecrypt (Option ℕ)

-- a plaintext is in hand where one is handed up
abbrev pub plaintext : Option ℕ → Hand
plaintext o = hand o 0

-- where something is found invalid an answer was read, and an entry may be written for it
abbrev pub unless_valid : ℕ → Bool → Hand
unless_valid n x = hand None (cond x n (n + 1))

unless_few : (n : ℕ) (x : Bool) → (unless_valid n x).entries ≤ n + 1
unless_few n true = omega arith
unless_few n false = omega arith

module _ (T : Terms) (L : Logic T ThresholdDecrypt) where
  -- WHAT CHECKING SHARES DOES to an instance, reads and writes
  pub record Checks : Type 0 where
    pub reads : (k : ℕ) → within 9 11 k ≡ true → T.Kind k
    pub faults : (k a : ℕ) → within 6 7 k ≡ true → T.Writes (fault k a 0)
    pub share : (td : ThresholdDecrypt) (i v : ℕ) → T.Handle v → L.Step None td None (with_shares td (set td.shares i v))
    pub removed : (td : ThresholdDecrypt) (i : ℕ) → L.Step None td None (with_shares td (set td.shares i 0))

  -- and starting and combining besides
  pub record Combines : Type 0 where
    pub checks : Checks
    pub sends : (a b : ℕ) → T.Writes (message 3 a b)
    pub text : T.Text
    pub number : T.Number 24
    pub input : (td : ThresholdDecrypt) → L.Step None td None (with_input td)
    pub end : (td : ThresholdDecrypt) → L.Step None td None (with_end td)

  -- an operation whose runs are so, with n entries allowed at first
  abbrev pub Keeps : {A : Type 0} → (ℕ → A → Hand) → (ThresholdDecrypt → Tape → Run ThresholdDecrypt A) → Type 0
  Keeps {A} f k = (n : ℕ) (td : ThresholdDecrypt) (p : Tape) → L.Good A (f n) (hand None n) td p (k td p)

  abbrev Silent : {A : Type 0} → (ThresholdDecrypt → Tape → Run ThresholdDecrypt A) → Type 0
  Silent k = Keeps (λ _. nothing) k

  -- the ciphertext is set, or found invalid
  pub set_keeps : (proposer ciphertext : ℕ) → T.Kind 9 → T.Number 25 → ((td : ThresholdDecrypt) → L.Step None td None (with_ciphertext td ciphertext))
      → Keeps unless_valid (set_ciphertext proposer ciphertext)
  unfolding set_ciphertext
  set_keeps proposer ciphertext kind number step n td p =
      test L (is_some td.ciphertext) (λ _. fail L number)
      (λ _. hear L n 9 proposer kind (λ a b q.
      test L (eqb a 0)
      (λ _. tell L refl (omega arith))
      (λ _. move L (step td) (tell L refl (omega arith)))))

  -- by what was found
  pub by_valid : {A : Type 0} {f : A → Hand} {td : ThresholdDecrypt} {q : Tape} {r s : Run ThresholdDecrypt A} (n : ℕ) (valid : Bool)
      → L.Good A f (hand None n) td q r → L.Good A f (hand None (n + 1)) td q s → L.Good A f (unless_valid n valid) td q (cond valid r s)
  by_valid n true g h = g
  by_valid n false g h = h

  not_valid : {A : Type 0} {f : A → Hand} {td : ThresholdDecrypt} {q : Tape} {r s : Run ThresholdDecrypt A} (n : ℕ) (valid : Bool)
      → L.Good A f (hand None (n + 1)) td q r → L.Good A f (hand None n) td q s → L.Good A f (unless_valid n valid) td q (cond (not valid) r s)
  not_valid n true g h = h
  not_valid n false g h = g

  module _ (R : Checks) where
    pub valid_keeps : (i : ℕ) → Keeps unless_valid (is_share_valid i)
    unfolding is_share_valid
    valid_keeps i n td p =
        test L (eqb td.ciphertext 0) (λ _. tell L refl (omega arith))
        (λ _. hear L n 10 i (R.reads 10 refl) (λ a b q. tell L refl (unless_few n (not (eqb a 0)))))

    check_keeps : (i : ℕ) → Silent (check_share i)
    unfolding check_share
    check_keeps i n td p =
        test L (is_sender td i)
        (λ _. next L (valid_keeps i n td p) (λ valid td q.
        not_valid n valid
        (put L n (R.faults 7 i refl) (there L tt td _ q (R.removed td i)))
        (here L tt td q)))
        (λ _. here L tt td p)

    pub remove_keeps : (m i : ℕ) → Silent (remove_from m i)
    unfolding remove_from
    remove_keeps zero i n td p = here L tt td p
    remove_keeps (suc m) i n td p = next L (check_keeps i n td p) (λ _ td q. remove_keeps m (i + 1) 0 td q)

  module _ (net : NetworkInfo) (proposer : ℕ) (R : Combines) where
    -- where k hands up f of its value
    own_keeps : (f : Option ℕ → Hand) (k : Does) → Keeps (λ _. f) k → Keeps (λ _. f) (own_share net proposer k)
    unfolding own_share
    own_keeps f k h n td p =
        test L (is_validator net && net.has_key)
        (λ _. L.asks _ _ None n 11 td p _ (R.checks.reads 11 refl) (λ a b q u.
        put L n (R.sends proposer b) (move L (R.checks.share td net.our_id b u) (h n _ q))))
        (λ _. h n td p)

    with_start : (f : Option ℕ → Hand) (k : Does) → f None ≡ hand None 0 → Keeps (λ _. f) k → Keeps (λ _. f) (start_with net proposer k)
    unfolding start_with
    with_start f k e h n td p =
        test L td.had_input (λ _. tell L (rw e) (rw e (omega arith)))
        (λ _. test L (eqb td.ciphertext 0) (λ _. fail L R.number)
        (λ _. next L (remove_keeps R.checks 16 0 n td p) (λ _ td q.
        move L (R.input td) (own_keeps f k h 0 (with_input td) q))))

    combine_keeps : Keeps (λ _. plaintext) combine
    unfolding combine
    combine_keeps n td p =
        L.asks_text _ _ n td p _ R.text (λ a b q _.
        test L (eqb a 0) (λ _. fail L R.number) (λ _. tell L refl (omega arith)))

    -- where k hands up nothing
    with_try : (k : Does) → Silent k → Keeps (λ _. plaintext) (try_with net k)
    unfolding try_with
    with_try k h n td p =
        let stays = L.goes (Option ℕ) plaintext (hand None n) None td p refl (omega arith) in
        test L td.terminated (λ _. stays)
        (λ _. test L (leb (count_shares td.shares) net.num_faulty) (λ _. stays)
        (λ _. test L (eqb td.ciphertext 0) (λ _. stays)
        (λ _. next L {f = nothing} (move L (R.end td) (h n (with_end td) p)) (λ _ td q. combine_keeps 0 td q))))

    pub start_keeps : Keeps (λ _. plaintext) (start_decryption net proposer)
    unfolding start_decryption
    start_keeps n td p = with_start plaintext _ refl (with_try _ (λ n td p. here L None td p)) n td p

    pub try_keeps : Keeps (λ _. plaintext) (try_output net proposer)
    unfolding try_output
    try_keeps n td p = with_try _ (with_start nothing _ refl (λ n td p. here L None td p)) n td p

    -- a share that comes is a handle. Fault 6 follows no answer, so one entry is allowed besides
    pub store_keeps : (sender share : ℕ) → T.Handle share → (n : ℕ) (td : ThresholdDecrypt) (p : Tape)
        → L.Good _ plaintext (hand None (n + 1)) td p (store_share net proposer sender share td p)
    unfolding store_share
    store_keeps sender share u n td p =
        let step = R.checks.share td sender share u in
        test L (is_sender td sender)
        (λ _. put L n (R.checks.faults 6 sender refl) (move L step (tell L refl (omega arith))))
        (λ _. move L step (try_keeps (n + 1) _ p))

    pub handle_keeps : (sender share : ℕ) → T.Handle share → (n : ℕ) (td : ThresholdDecrypt) (p : Tape)
        → L.Good _ plaintext (hand None (n + 1)) td p (handle_message net proposer sender share td p)
    unfolding handle_message
    handle_keeps sender share u n td p =
        test L td.terminated (λ _. tell L refl (omega arith))
        (λ _. next L (valid_keeps R.checks sender (n + 1) td p) (λ valid td q.
        not_valid (n + 1) valid
        (put L (n + 1) (R.checks.faults 7 sender refl) (tell L refl (omega arith)))
        (store_keeps sender share u n td q)))

-- where it makes no difference what is read and written, and every step is allowed
pub not_five : (k : ℕ) → within 6 7 k ≡ true → eqb k 5 ≡ false
not_five k e = ne_eqb k 5 (λ z. omega (arith, leb-true 6 k (and_parts (leb 6 k) (leb k 7) e).0))

pub any_combines : {T : Terms} (L : Logic T ThresholdDecrypt) → ((s t : ThresholdDecrypt) → L.Step None s None t) → Permits T → T.Number 24 → Combines T L
any_combines L step P number = record {
  checks = record { reads = λ k e. P.reads k; faults = λ k a e. P.faults k a (not_five k e); share = λ td i v u. step td _; removed = λ td i. step td _ };
  sends = P.sends;
  text = P.text;
  number = number;
  input = λ td. step td _;
  end = λ td. step td _;
}
