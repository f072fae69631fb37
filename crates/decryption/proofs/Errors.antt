-- The Rust's errors: `CiphertextIsNone` cannot arise, a duplicate share combines nothing, and 24 and 25 are the only failures. Assumes nothing.
use Rattle.std.proofs.Common.{ℕ, ◌≡◌, refl, sym, ap, ◌∙◌, ap₂, [], ◌∷◌, Bool, true, false, cond, Option, None, get_or, set, leb, eqb, eqb-true, leb-true, leb-false, ne_eqb}
use Rattle.std.proofs.lemmas.Bool.{false≢true, eqb-false, not-true}
use Rattle.network.specs.declared.network_info.NetworkInfo.{NetworkInfo}
use Rattle.steps.specs.Answers.{Got}
use Rattle.steps.specs.Answers.{Tape, asked, ask_about}
use Rattle.steps.specs.Steps.{fault}
use Rattle.steps.specs.Runs.{going, failed, Run, ends, before, onward}
use Rattle.steps.proofs.Logic.{anything}
use Rattle.steps.proofs.StateKept.{holding}
use Rattle.steps.proofs.FailureNumbers.{only_number, numbers, numbers_permit, failing}
use Rattle.decryption.specs.Decrypt.{with_shares, with_input, with_end, is_some, is_sender, count_shares, set_ciphertext, remove_invalid_shares, own_share, combine, try_with, start_decryption, try_output, store_share, handle_message}
use Rattle.decryption.specs.declared.ThresholdDecrypt.{ThresholdDecrypt}
use Rattle.steps.proofs.AfterRun.{Afterwards, after_cond, after_out, after_about}
use Rattle.decryption.proofs.CycleCode.{start_redundant, start_onward, try_few, try_none}
use Rattle.decryption.proofs.Walk.{Does, Checks, Combines, any_combines, set_keeps as set_walk, remove_keeps as remove_walk, start_keeps as start_walk, try_keeps as try_walk, store_keeps as store_walk, handle_keeps as handle_walk}
use Rattle.decryption.proofs.MessageCode.{store_first, store_again, handle_ended, handle_valid}
use Rattle.decryption.proofs.ShareCode.{valid_early, valid_told}

-- `CIPHERTEXTISNONE` CANNOT ARISE. Once the ciphertext is set the instance has it
pub set_has : (proposer c : ℕ) (td : ThresholdDecrypt) (p : Tape) → (set_ciphertext proposer c td p).verdict ≡ going true → (set_ciphertext proposer c td p).state.ciphertext ≡ c
unfolding set_ciphertext
set_has proposer c td p e = after_out (set_ciphertext proposer c td p) _ true has e refl
  where
    has : Afterwards (set_ciphertext proposer c td p) (λ x s q. x ≡ true → s.ciphertext ≡ c)
    has =
        after_cond (is_some td.ciphertext) _ _ _ tt
        (after_about p 9 td _ _ proposer (λ a b q r. after_cond (eqb a 0) _ _ _ (λ z. absurd (false≢true z)) (λ z. refl)))

-- which is one: 0 stands for none
pub set_some : (proposer c : ℕ) (td : ThresholdDecrypt) (p : Tape) → (c ≡ 0 → ⊥) → (set_ciphertext proposer c td p).verdict ≡ going true → (set_ciphertext proposer c td p).state.ciphertext ≡ 0 → ⊥
set_some proposer c td p n e z = n (sym (set_has proposer c td p e) ∙ z)

module _ (net : NetworkInfo) (proposer : ℕ) where
  -- with a ciphertext a start comes past the test for it
  pub start_has : (td : ThresholdDecrypt) (p : Tape) → (td.ciphertext ≡ 0 → ⊥) → start_decryption net proposer td p
      ≡ cond td.had_input (ends (going None) td p) (onward (remove_invalid_shares td p) (λ _ td q. own_share net proposer (try_output net proposer) (with_input td) q))
  start_has td p z = go td.had_input refl
    where
      go : (x : Bool) → td.had_input ≡ x → start_decryption net proposer td p
          ≡ cond x (ends (going None) td p) (onward (remove_invalid_shares td p) (λ _ td q. own_share net proposer (try_output net proposer) (with_input td) q))
      go true e = start_redundant net proposer td p e
      go false e = start_onward net proposer td p e z

  -- and combining starts with a ciphertext only: what a start does without one makes no difference to it
  pub try_has : (f g : Does) → ((td : ThresholdDecrypt) (p : Tape) → (td.ciphertext ≡ 0 → ⊥) → f td p ≡ g td p) → (td : ThresholdDecrypt) (p : Tape) → try_with net f td p ≡ try_with net g td p
  unfolding try_with
  try_has f g h td p =
      ap₂ (cond td.terminated) refl
      (ap₂ (cond (leb (count_shares td.shares) net.num_faulty)) refl
      (go (eqb td.ciphertext 0) refl))
    where
      k : ThresholdDecrypt → Tape → Run ThresholdDecrypt (Option ℕ)
      k td q = combine td q

      go : (x : Bool) → eqb td.ciphertext 0 ≡ x → cond x (ends (going None) td p) (onward (f (with_end td) p) (λ _ td q. k td q)) ≡ cond x (ends (going None) td p) (onward (g (with_end td) p) (λ _ td q. k td q))
      go true e = refl
      go false e = ap (λ r. onward r (λ _ td q. k td q)) (h (with_end td) p (eqb-false _ _ e))

-- nothing takes the ciphertext away
module _ (c : ℕ) where
  abbrev Has : ThresholdDecrypt → Type 0
  Has td = td.ciphertext ≡ c

  still : Combines anything (holding Has (λ i. Unit {0}))
  still = record {
    checks = record { reads = λ k e. tt; faults = λ k a e. tt; share = λ td i v u h. h; removed = λ td i h. h };
    sends = λ a b. tt;
    text = tt;
    number = tt;
    input = λ td h. h;
    end = λ td h. h;
  }

module _ (net : NetworkInfo) (proposer : ℕ) where
  pub start_keeps : (td : ThresholdDecrypt) (p : Tape) → (start_decryption net proposer td p).state.ciphertext ≡ td.ciphertext
  start_keeps td p = start_walk anything (holding (Has td.ciphertext) (λ i. Unit {0})) net proposer (still td.ciphertext) 0 td p refl

  pub try_keeps : (td : ThresholdDecrypt) (p : Tape) → (try_output net proposer td p).state.ciphertext ≡ td.ciphertext
  try_keeps td p = try_walk anything (holding (Has td.ciphertext) (λ i. Unit {0})) net proposer (still td.ciphertext) 0 td p refl

  pub store_keeps : (sender share : ℕ) (td : ThresholdDecrypt) (p : Tape) → (store_share net proposer sender share td p).state.ciphertext ≡ td.ciphertext
  store_keeps sender share td p = store_walk anything (holding (Has td.ciphertext) (λ i. Unit {0})) net proposer (still td.ciphertext) sender share tt 0 td p refl

  pub handle_keeps : (sender share : ℕ) (td : ThresholdDecrypt) (p : Tape) → (handle_message net proposer sender share td p).state.ciphertext ≡ td.ciphertext
  handle_keeps sender share td p = handle_walk anything (holding (Has td.ciphertext) (λ i. Unit {0})) net proposer (still td.ciphertext) sender share tt 0 td p refl

-- A DUPLICATE SHARE COMBINES NOTHING. It overwrites the first and is fault 6, and nothing is asked but whether it is valid
module _ (net : NetworkInfo) (proposer sender share : ℕ) (td : ThresholdDecrypt) (p : Tape) (e : td.terminated ≡ false) (s : is_sender td sender ≡ true) where
  pub again_early : td.ciphertext ≡ 0 → handle_message net proposer sender share td p ≡ before (fault 6 sender 0 ∷ []) (ends (going None) (with_shares td (set td.shares sender share)) p)
  again_early z = handle_valid net proposer sender share td p p (sym (valid_early sender td p z)) e ∙ store_again net proposer sender share td p (eqb-false _ _ (not-true _ s))

  pub again_late : (td.ciphertext ≡ 0 → ⊥) → (a b : ℕ) (q : Tape) → asked (Got a b) q ≡ ask_about p 10 sender → (a ≡ 0 → ⊥) → handle_message net proposer sender share td p ≡ before (fault 6 sender 0 ∷ []) (ends (going None) (with_shares td (set td.shares sender share)) q)
  again_late z a b q k y =
      handle_valid net proposer sender share td p q (sym (valid_told sender td p _ q k z a b refl ∙ rw (ne_eqb _ _ y))) e
      ∙ store_again net proposer sender share td q (eqb-false _ _ (not-true _ s))

-- WITHOUT A CIPHERTEXT a share combines nothing, whether it is kept, a duplicate or late
pub early_none : (net : NetworkInfo) (proposer sender share : ℕ) (td : ThresholdDecrypt) (p : Tape) → td.ciphertext ≡ 0 → (handle_message net proposer sender share td p).verdict ≡ going None
early_none net proposer sender share td p z = ended td.terminated refl
  where
    kept : ThresholdDecrypt
    kept = with_shares td (set td.shares sender share)

    few : td.terminated ≡ false → (x : Bool) → leb (count_shares kept.shares) net.num_faulty ≡ x → (try_output net proposer kept p).verdict ≡ going None
    few e true l = rw (try_few net proposer kept p e (leb-true _ _ l))
    few e false l = rw (try_none net proposer kept p e (leb-false _ _ l) z)

    first : td.terminated ≡ false → (x : Bool) → eqb (get_or td.shares sender 0) 0 ≡ x → (store_share net proposer sender share td p).verdict ≡ going None
    first e true s = rw (store_first net proposer sender share td p (eqb-true _ _ s)) (few e (leb (count_shares kept.shares) net.num_faulty) refl)
    first e false s = rw (store_again net proposer sender share td p (eqb-false _ _ s))

    ended : (x : Bool) → td.terminated ≡ x → (handle_message net proposer sender share td p).verdict ≡ going None
    ended true e = rw (handle_ended net proposer sender share td p e)
    ended false e = rw (handle_valid net proposer sender share td p p (sym (valid_early sender td p z)) e) (first e (eqb (get_or td.shares sender 0) 0) refl)

-- 24 AND 25 ARE THE ONLY FAILURES, 25 of setting a ciphertext, 24 of the others. Checking shares fails with no number
abbrev checking : (ok : ℕ → Bool) → Checks (numbers ok) (failing ok ThresholdDecrypt)
checking ok = record { reads = λ k e. tt; faults = λ k a e. tt; share = λ td i v u. tt; removed = λ td i. tt }

rules : (ok : ℕ → Bool) → ok 24 ≡ true → Combines (numbers ok) (failing ok ThresholdDecrypt)
rules ok e = any_combines (failing ok ThresholdDecrypt) (λ td s. tt) (numbers_permit ok) e

pub set_fails : (proposer ciphertext : ℕ) (td : ThresholdDecrypt) (p : Tape) (m : ℕ) → (set_ciphertext proposer ciphertext td p).verdict ≡ failed m → m ≡ 25
set_fails proposer ciphertext td p m e = eqb-true m 25 (only_number (λ n. eqb n 25) _ m (set_walk _ (failing (λ n. eqb n 25) ThresholdDecrypt) proposer ciphertext tt refl (λ td. tt) 0 td p) e)

pub remove_fails : (td : ThresholdDecrypt) (p : Tape) (m : ℕ) → (remove_invalid_shares td p).verdict ≡ failed m → ⊥
remove_fails td p m e = false≢true (only_number (λ n. false) _ m (remove_walk _ (failing (λ n. false) ThresholdDecrypt) (checking (λ n. false)) 16 0 0 td p) e)

module _ (net : NetworkInfo) (proposer : ℕ) where
  abbrev is24 : ℕ → Bool
  is24 n = eqb n 24

  pub start_fails : (td : ThresholdDecrypt) (p : Tape) (m : ℕ) → (start_decryption net proposer td p).verdict ≡ failed m → m ≡ 24
  start_fails td p m e = eqb-true m 24 (only_number is24 _ m (start_walk _ (failing is24 ThresholdDecrypt) net proposer (rules is24 refl) 0 td p) e)

  pub try_fails : (td : ThresholdDecrypt) (p : Tape) (m : ℕ) → (try_output net proposer td p).verdict ≡ failed m → m ≡ 24
  try_fails td p m e = eqb-true m 24 (only_number is24 _ m (try_walk _ (failing is24 ThresholdDecrypt) net proposer (rules is24 refl) 0 td p) e)

  pub store_fails : (sender share : ℕ) (td : ThresholdDecrypt) (p : Tape) (m : ℕ) → (store_share net proposer sender share td p).verdict ≡ failed m → m ≡ 24
  store_fails sender share td p m e = eqb-true m 24 (only_number is24 _ m (store_walk _ (failing is24 ThresholdDecrypt) net proposer (rules is24 refl) sender share tt 0 td p) e)

  pub handle_fails : (sender share : ℕ) (td : ThresholdDecrypt) (p : Tape) (m : ℕ) → (handle_message net proposer sender share td p).verdict ≡ failed m → m ≡ 24
  handle_fails sender share td p m e = eqb-true m 24 (only_number is24 _ m (handle_walk _ (failing is24 ThresholdDecrypt) net proposer (rules is24 refl) sender share tt 0 td p) e)
