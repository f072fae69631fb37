-- Starting and combining: each goes on with the other, as in the Rust. Assumes nothing.
use Rattle.std.proofs.Common.{ℕ, ◌<◌, ◌≤◌, ◌≡◌, refl, ap, ◌∙◌, ap₂, sym, List, [], ◌∷◌, Bool, true, false, cond, not, ◌&&◌, ◌||◌, Option, None, Some, Ok, Err, arith, set, eqb, ltb, le-leb, eq-eqb, ne_eqb}
use Rattle.std.proofs.lemmas.Bool.{false≢true, and_parts, not-true, not-false, ltb-true, ltb-false, eqb-true, eqb-false, lt-leb}
use Rattle.std.proofs.Math.Bool.{or-false}
use Rattle.steps.specs.declared.kinds.Failure.{Failure}
use Rattle.steps.specs.declared.kinds.Stop.{Stop}
use Rattle.steps.specs.declared.step.Writer.{Writer}
use Rattle.steps.specs.Written.{out_of, left}
use Rattle.steps.proofs.LentRuns.{heard_ok_left, heard_err_left, before_left, onward_ok, onward_err}
use Rattle.steps.specs.Told.{told, heard_in}
use Rattle.network.specs.declared.network_info.NetworkInfo.{NetworkInfo}
use Rattle.network.specs.Network.{is_validator}
use Rattle.steps.specs.Answers.{Tape, ask}
use Rattle.steps.specs.Steps.{Out, put_entry, put_all, message}
use Rattle.steps.specs.Runs.{Verdict, going, failed, Run, ends, before, onward_as, onward, heard, Left, leaves}
use Rattle.steps.proofs.AfterRun.{Afterwards, after_cond, after_onward, after_any, after_out, after_ask}
use Rattle.steps.proofs.Logic.{anything}
use Rattle.steps.proofs.StateKept.{holding}
use Rattle.steps.proofs.RunLaws.{onward_at, onward_cong, heard_cong}
use Rattle.decryption.specs.Decrypt.{with_shares, with_input, with_end, count_shares, remove_invalid_shares, own_share, start_with, combine, try_with, start_decryption, try_output}
use Rattle.decryption.specs.declared.ThresholdDecrypt.{ThresholdDecrypt}
pub use Rattle.decryption.proofs.Walk.{Does}
use Rattle.decryption.proofs.Walk.{remove_keeps}
use Rattle.decryption.proofs.ShareCode.{unset}

-- checking shares leaves what is not a share
pub remove_ended : (x : Bool) (td : ThresholdDecrypt) (p : Tape) → td.terminated ≡ x → (remove_invalid_shares td p).state.terminated ≡ x
remove_ended x td p e =
    let P : ThresholdDecrypt → Type 0 = λ s. s.terminated ≡ x in
    remove_keeps anything (holding P (λ i. Unit {0})) (record { reads = λ k e. tt; faults = λ k a e. tt; share = λ td i v u h. h; removed = λ td i h. h }) 16 0 0 td p e

module _ (net : NetworkInfo) (proposer : ℕ) where
  own_cong : (f g : Does) (td : ThresholdDecrypt) (p : Tape) → ((s : List ℕ) (q : Tape) → f (with_shares td s) q ≡ g (with_shares td s) q) → own_share net proposer f td p ≡ own_share net proposer g td p
  unfolding own_share
  own_cong f g td p h =
      ap₂ (cond (is_validator net && net.has_key))
      (heard_cong (ask p 11) td _ _ (λ a b q. ap (before (message 3 proposer b ∷ [])) (h (set td.shares net.our_id b) q)))
      (h td.shares p)

  -- starting, case by case
  pub start_redundant : (td : ThresholdDecrypt) (p : Tape) → td.had_input ≡ true → start_decryption net proposer td p ≡ ends (going None) td p
  unfolding start_decryption start_with
  start_redundant td p e = rw e

  pub start_none : (td : ThresholdDecrypt) (p : Tape) → td.had_input ≡ false → td.ciphertext ≡ 0 → start_decryption net proposer td p ≡ ends (failed 24) td p
  unfolding start_decryption start_with
  start_none td p e z = rw (e, eq-eqb _ _ z)

  -- STARTING TRIES TO COMBINE
  pub start_onward : (td : ThresholdDecrypt) (p : Tape) → td.had_input ≡ false → (td.ciphertext ≡ 0 → ⊥) → start_decryption net proposer td p ≡ onward (remove_invalid_shares td p) (λ _ td q. own_share net proposer (try_output net proposer) (with_input td) q)
  unfolding start_decryption start_with try_output try_with
  start_onward td p e z =
      rw (e, ne_eqb _ _ z)
      (onward_cong _ _ _ (λ _ td q. own_cong (try_with net (ends (going None))) (try_output net proposer) (with_input td) q (λ s u. refl)))

  -- combining, case by case
  pub try_ended : (td : ThresholdDecrypt) (p : Tape) → td.terminated ≡ true → try_output net proposer td p ≡ ends (going None) td p
  unfolding try_output try_with
  try_ended td p e = rw e

  pub try_few : (td : ThresholdDecrypt) (p : Tape) → td.terminated ≡ false → count_shares td.shares ≤ net.num_faulty → try_output net proposer td p ≡ ends (going None) td p
  unfolding try_output try_with
  try_few td p e h = rw (e, le-leb _ _ h)

  pub try_none : (td : ThresholdDecrypt) (p : Tape) → td.terminated ≡ false → net.num_faulty < count_shares td.shares → td.ciphertext ≡ 0 → try_output net proposer td p ≡ ends (going None) td p
  unfolding try_output try_with
  try_none td p e h z = rw (e, lt-leb _ _ h, eq-eqb _ _ z)

  -- a start while combining combines nothing
  try_quiet : (k : Does) (td : ThresholdDecrypt) (p : Tape) → td.terminated ≡ true → ends (going None) td p ≡ try_with net k td p
  unfolding try_with
  try_quiet k td p e = rw e

  start_ended : (td : ThresholdDecrypt) (p : Tape) → start_with net proposer (ends (going None)) (with_end td) p ≡ start_decryption net proposer (with_end td) p
  unfolding start_decryption start_with
  start_ended td p =
      let r = remove_invalid_shares (with_end td) p in
      ap₂ (cond td.had_input) refl
      (ap₂ (cond (eqb td.ciphertext 0)) refl
      (onward_at r _ _
      (λ _ _. own_cong (ends (going None)) (try_with net (ends (going None))) (with_input r.state) r.tape
      (λ s q. try_quiet (ends (going None)) (with_shares (with_input r.state) s) q (remove_ended true (with_end td) p refl)))))

  -- COMBINING FIRST MAKES SURE DECRYPTION HAS STARTED
  pub try_onward : (td : ThresholdDecrypt) (p : Tape) → td.terminated ≡ false → net.num_faulty < count_shares td.shares → (td.ciphertext ≡ 0 → ⊥) → try_output net proposer td p ≡ onward (start_decryption net proposer (with_end td) p) (λ _ td q. combine td q)
  unfolding try_output try_with
  try_onward td p e h z = rw (e, lt-leb _ _ h, ne_eqb _ _ z) (ap (λ r. onward r (λ _ td q. combine td q)) (start_ended td p))

  own_quiet : (td : ThresholdDecrypt) (p : Tape) → Afterwards (own_share net proposer (ends (going None)) td p) (λ o s q. o ≡ None)
  unfolding own_share
  own_quiet td p = after_cond (is_validator net && net.has_key) _ _ _ (after_ask p 11 td _ _ (λ a b q r. refl)) refl

  pub start_quiet : (td : ThresholdDecrypt) (p : Tape) (h : ℕ) → (start_decryption net proposer (with_end td) p).verdict ≡ going (Some h) → ⊥
  unfolding start_with
  start_quiet td p h e =
      let m : (start_with net proposer (ends (going None)) (with_end td) p).verdict ≡ going (Some h) = ap (λ r. r.verdict) (start_ended td p) ∙ e in
      let z : ◌≡◌ {A = Option ℕ} (Some h) None = after_out (start_with net proposer (ends (going None)) (with_end td) p) (λ o s q. o ≡ None) (Some h) quiet m in
      let y : ◌≡◌ {A = ℕ} 0 1 = cc in
      omega arith
    where
      quiet : Afterwards (start_with net proposer (ends (going None)) (with_end td) p) (λ o s q. o ≡ None)
      quiet =
          after_cond td.had_input _ _ _ refl
          (after_cond (eqb td.ciphertext 0) _ _ _ tt
          (after_onward (remove_invalid_shares (with_end td) p) _ _ (after_any (remove_invalid_shares (with_end td) p) _ (λ _ td q. own_quiet (with_input td) q))))

-- each call sets a flag that was not set: s is what checking the shares of td left
pub started_falls : (td s : ThresholdDecrypt) (p q : Tape) (o u : Out) (v : Verdict (Unit {0})) (t : ℕ) → unset td ≡ t → td.had_input ≡ false
    → record { state = s; verdict = v; tape = q; out = u } ≡ leaves o (remove_invalid_shares td p) → unset (with_input s) < t
started_falls td s p q o u v t n e r =
    let m : s.terminated ≡ td.terminated = ap (λ (d : Left ThresholdDecrypt (Unit {0})). d.state.terminated) r ∙ remove_ended _ td p refl in
    rw (← n, m, e) (omega arith)

module _ (net : NetworkInfo) (proposer : ℕ) where
  -- from what checking the shares left: the start goes on with the own share, or stops
  module _ (td : ThresholdDecrypt) (p : Tape) (e : td.had_input ≡ false) (z : td.ciphertext ≡ 0 → ⊥) (s : ThresholdDecrypt) (q : Tape) (w : Writer) (o : Out) where
    pub start_goes : left s (Ok tt) q w ≡ leaves o (remove_invalid_shares td p) → (d : Left ThresholdDecrypt (Option ℕ))
        → d ≡ leaves (out_of w) (own_share net proposer (try_output net proposer) (with_input s) q) → d ≡ leaves o (start_decryption net proposer td p)
    start_goes r d n = rw (start_onward net proposer td p e z) (onward_ok _ _ _ _ w o tt r d n)

    pub start_stops : (f : Stop Failure) → left s (Err f) q w ≡ leaves o (remove_invalid_shares td p) → left {A = Option ℕ} s (Err f) q w ≡ leaves o (start_decryption net proposer td p)
    start_stops f r = rw (start_onward net proposer td p e z) (onward_err _ _ _ _ w o f r)

  -- the own share, which an observer does not send
  module _ (try : Does) (td : ThresholdDecrypt) (p : Tape) where
    pub own_observer : (is_validator net && net.has_key) ≡ false → own_share net proposer try td p ≡ try td p
    unfolding own_share
    own_observer e = rw e

    module _ (e : (is_validator net && net.has_key) ≡ true) (q : Tape) where
      own_heard : own_share net proposer try td p ≡ heard (ask p 11) td (λ a b q. before (message 3 proposer b ∷ []) (try (with_shares td (set td.shares net.our_id b)) q))
      unfolding own_share
      own_heard = rw e

      pub own_sends : (x : ℕ × ℕ) → told (Ok x) q ≡ heard_in (ask p 11) → (o u : Out) → u ≡ put_entry o (message 3 proposer x.1)
          → (d : Left ThresholdDecrypt (Option ℕ)) → d ≡ leaves u (try (with_shares td (set td.shares net.our_id x.1)) q) → d ≡ leaves o (own_share net proposer try td p)
      unfolding put_all
      own_sends x h o u m d n =
          let k : Run ThresholdDecrypt (Option ℕ) = try (with_shares td (set td.shares net.our_id x.1)) q in
          rw own_heard (heard_ok_left _ td _ q x h d o (before_left o (message 3 proposer x.1 ∷ []) k d (n ∙ ap (λ v. leaves v k) m)))

      pub own_stops : (f : Stop Failure) → told (Err f) q ≡ heard_in (ask p 11) → (w : Writer) → left td (Err f) q w ≡ leaves (out_of w) (own_share net proposer try td p)
      own_stops f h w = rw own_heard (heard_err_left _ td _ q f h w)

-- WHAT ONE TEST DECIDES: combining by a single look at the three, with a mark on the instance where its shares are combined
abbrev pub marked : ThresholdDecrypt → Bool → ThresholdDecrypt
marked td b = record { ciphertext = td.ciphertext; shares = td.shares; had_input = td.had_input; terminated = td.terminated || b }

unmarked : (td : ThresholdDecrypt) → marked td false ≡ td
unmarked td = ap (λ x. record { ciphertext = td.ciphertext; shares = td.shares; had_input = td.had_input; terminated = x }) (or-false td.terminated)

module _ (net : NetworkInfo) (proposer : ℕ) where
  -- one test for the three, where there are n shares
  abbrev pub combines_now : ThresholdDecrypt → ℕ → Bool
  combines_now td n = (not td.terminated && ltb net.num_faulty n) && not (eqb td.ciphertext 0)

  -- what it says where it holds, m being the instance with its mark
  abbrev pub Ready : ThresholdDecrypt → ThresholdDecrypt → Type 0
  Ready td m = (td.terminated ≡ false) × (net.num_faulty < count_shares td.shares) × (td.ciphertext ≡ 0 → ⊥) × (m ≡ with_end td)

  pub ready : (td : ThresholdDecrypt) (n : ℕ) → n ≡ count_shares td.shares → combines_now td n ≡ true → Ready td (marked td (combines_now td n))
  ready td n k e =
      let a = and_parts _ _ e in
      let b = and_parts _ _ a.0 in
      (not-true _ b.0, rw (← k) (ltb-true _ _ b.1), eqb-false _ _ (not-true _ a.1), rw (e, not-true td.terminated b.0) refl)

  try_waits : (td : ThresholdDecrypt) (p : Tape) (n : ℕ) → n ≡ count_shares td.shares → combines_now td n ≡ false → try_output net proposer td p ≡ ends (going None) (marked td (combines_now td n)) p
  try_waits td p n k e = rw (e, unmarked td) (go _ _ _ refl refl refl)
    where
      go : (x y z : Bool) → td.terminated ≡ x → ltb net.num_faulty n ≡ y → eqb td.ciphertext 0 ≡ z → try_output net proposer td p ≡ ends (going None) td p
      go true y z u v w = try_ended net proposer td p u
      go false false z u v w = try_few net proposer td p u (rw (← k) (ltb-false _ _ v))
      go false true true u v w = try_none net proposer td p u (rw (← k) (ltb-true _ _ v)) (eqb-true _ _ w)
      go false true false u v w = absurd (false≢true (sym e ∙ rw (u, v, w) refl))

  -- once it has started, the shares are combined at once
  try_started : (td m : ThresholdDecrypt) (p : Tape) → Ready td m → td.had_input ≡ true → try_output net proposer td p ≡ combine m p
  unfolding onward onward_as
  try_started td m p r s = rw (r.3, try_onward net proposer td p r.0 r.1 r.2, start_redundant net proposer (with_end td) p s)

  -- where nothing is to be started the shares are combined, or it waits
  pub try_rest : (td : ThresholdDecrypt) (p : Tape) (n : ℕ) → n ≡ count_shares td.shares → (combines_now td n && not td.had_input) ≡ false
      → try_output net proposer td p ≡ cond (combines_now td n) (combine (marked td (combines_now td n)) p) (ends (going None) (marked td (combines_now td n)) p)
  try_rest td p n k e = go _ refl
    where
      go : (x : Bool) → combines_now td n ≡ x → try_output net proposer td p ≡ cond x (combine (marked td (combines_now td n)) p) (ends (going None) (marked td (combines_now td n)) p)
      go true c = try_started td (marked td (combines_now td n)) p (ready td n k c) (not-false _ (sym (ap (λ x. x && not td.had_input) c) ∙ e))
      go false c = try_waits td p n k c
