-- In which epochs each schedule encrypts, and which numbers a schedule may have.
use Rattle.std.proofs.Common.{ℕ, zero, suc, ◌+◌, ◌-◌, ◌*◌, ◌%◌, ◌≤◌, ◌<◌, mod-lt, mod-eq_of_lt, arith, ◌≡◌, refl, sym, ◌∙◌, true, false, true≢false, eqb, leb, ltb, lt-ltb, le-ltb, ne_eqb, leb-true}
use Rattle.std.proofs.Math.Dec.{leb-suc-suc}
use Rattle.std.proofs.Math.Nat.{mul-add-mod_self_right}
use Rattle.std.proofs.lemmas.Bool.{and_parts, lt-leb}
use Rattle.steps.specs.Numbers.{schedule_limit}
use Rattle.steps.specs.Table.{within}
use Rattle.epochwords.proofs.RangeCode.{none_below}
use Rattle.state.specs.declared.EncryptionSchedule.{EncryptionSchedule}
use Rattle.state.specs.declared.EncryptionSchedule.TheVariants.{Always, Never, EveryNthEpoch, TickTock}
use Rattle.state.specs.Schedule.{schedule_of, use_on_epoch, original_use, as_original, schedule_ok}
use Rattle.state.specs.Shape.{Divides}

pub always_encrypts : (epoch : ℕ) → use_on_epoch Always epoch ≡ true
unfolding use_on_epoch
always_encrypts epoch = refl

pub never_encrypts : (epoch : ℕ) → use_on_epoch Never epoch ≡ false
unfolding use_on_epoch
never_encrypts epoch = refl

pub every_nth : (n epoch : ℕ) → use_on_epoch (EveryNthEpoch n) epoch ≡ eqb (epoch % n) 0
unfolding use_on_epoch
every_nth n epoch = refl

-- bench case 10: "(1,1) encrypts 0 and not 1"
pub case_10 : (use_on_epoch (TickTock 1 1) 0 ≡ true) × (use_on_epoch (TickTock 1 1) 1 ≡ false)
unfolding use_on_epoch
case_10 = (refl, refl)

-- "TickTock(on, off) encrypts exactly the first `on` epochs of each period": epoch i of period k
pub first_on : (on off k i : ℕ) → i < on + off → use_on_epoch (TickTock on off) (k * (on + off) + i) ≡ ltb i on
unfolding use_on_epoch
first_on on off k i l = rw (mul-add-mod_self_right k (on + off) i, mod-eq_of_lt l)

-- the same by the two parts of a period: `on` epochs encrypted, then `off` plain
pub tick_tock_on : (on off k i : ℕ) → i < on → use_on_epoch (TickTock on off) (k * (on + off) + i) ≡ true
tick_tock_on on off k i l = first_on on off k i (omega arith) ∙ lt-ltb i on l

pub tick_tock_off : (on off k i : ℕ) → i < off → use_on_epoch (TickTock on off) (k * (on + off) + (on + i)) ≡ false
tick_tock_off on off k i l = first_on on off k (on + i) (omega arith) ∙ le-ltb (on + i) on (omega arith)

-- the two edges: with off 0 no epoch is plain, with on 0 none is encrypted
pub tick_tock_always : (on epoch : ℕ) → 1 ≤ on → use_on_epoch (TickTock on 0) epoch ≡ use_on_epoch Always epoch
unfolding use_on_epoch
tick_tock_always on epoch h = lt-ltb (epoch % (on + 0)) on (omega (arith, mod-lt epoch {m = on + 0} (omega arith)))

pub tick_tock_never : (off epoch : ℕ) → use_on_epoch (TickTock 0 off) epoch ≡ use_on_epoch Never epoch
unfolding use_on_epoch
tick_tock_never off epoch = le-ltb (epoch % (0 + off)) 0 (omega arith)

-- one epoch encrypted and n − 1 plain
pub as_every_nth : (n epoch : ℕ) → 1 ≤ n → use_on_epoch (TickTock 1 (n - 1)) epoch ≡ use_on_epoch (EveryNthEpoch n) epoch
unfolding use_on_epoch
as_every_nth n epoch h = let whole : 1 + (n - 1) ≡ n = omega (arith, h) in rw whole (sym (none_below (epoch % n)))

-- THE RUST, run with what `as_original` says, encrypts the same epochs
pub as_original_lem : (s : EncryptionSchedule) → (epoch : ℕ) → use_on_epoch s epoch ≡ original_use (as_original s) epoch
unfolding use_on_epoch original_use as_original
as_original_lem Always epoch = refl
as_original_lem Never epoch = refl
as_original_lem (EveryNthEpoch n) epoch = refl
as_original_lem (TickTock zero off) epoch = tick_tock_never off epoch
as_original_lem (TickTock (suc on) off) epoch =
    let same : on + (off + 1) ≡ suc on + off = omega arith in rw same (leb-suc-suc (epoch % (suc on + off)) on)

-- WHETHER A SCHEDULE'S NUMBERS are as its kind wants them, kind by kind
module _ (kind a b : ℕ) where
  pub ok_tick : kind ≡ 3 → within 1 schedule_limit (a + b) ≡ schedule_ok kind a b
  unfolding schedule_ok
  ok_tick h = rw h

  pub ok_other : 3 < kind → false ≡ schedule_ok kind a b
  unfolding schedule_ok
  ok_other h = rw (lt-leb kind 1 (omega arith), ne_eqb kind 2 (λ e. omega arith), ne_eqb kind 3 (λ e. omega arith))

-- what the Rust is run with has the same sum, so it may be had whenever the engine's numbers may
pub as_original_ok : (on off : ℕ) → schedule_ok 3 (suc on) off ≡ schedule_ok 3 on (off + 1)
as_original_ok on off =
    let same : on + (off + 1) ≡ suc on + off = omega arith in rw (sym (ok_tick 3 (suc on) off refl), sym (ok_tick 3 on (off + 1) refl), same)

-- by such numbers an epoch can be divided
pub ok_divides : (kind a b : ℕ) → schedule_ok kind a b ≡ true → Divides (schedule_of kind a b)
unfolding schedule_ok schedule_of
ok_divides zero a b e = tt
ok_divides (suc zero) a b e = tt
ok_divides (suc (suc zero)) a b e = leb-true 1 a (and_parts _ _ e).0
ok_divides (suc (suc (suc zero))) a b e = (leb-true 1 (a + b) (and_parts _ _ e).0, omega (arith, leb-true (a + b) schedule_limit (and_parts (leb 1 (a + b)) _ e).1))
ok_divides (suc (suc (suc (suc k)))) a b e = absurd (true≢false (sym (ok_other (suc (suc (suc (suc k)))) a b (omega arith) ∙ e)))
