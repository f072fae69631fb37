-- The encryption schedule, after `EncryptionSchedule` of honey_badger.rs.
use Rattle.std.specs.Prelude.{ℕ, zero, suc, ◌+◌, ◌%◌, Bool, true, false, cond, eqb, leb, ltb}
use Rattle.steps.specs.Numbers.{schedule_limit}
use Rattle.steps.specs.Table.{within}
use Rattle.state.specs.declared.EncryptionSchedule.{EncryptionSchedule}
use Rattle.state.specs.declared.EncryptionSchedule.TheVariants.{Always, Never, EveryNthEpoch, TickTock}

-- "schedule kind (0 Always, 1 Never, 2 EveryNthEpoch, 3 TickTock)", with its numbers
unfoldable pub schedule_of : ℕ → ℕ → ℕ → EncryptionSchedule
schedule_of kind a b =
    cond (eqb kind 0) Always
    (cond (eqb kind 1) Never
    (cond (eqb kind 2) (EveryNthEpoch a) (TickTock a b)))

-- whether contributions in this epoch are encrypted. "TickTock(on, off) encrypts exactly the first `on` epochs of each period: when epoch mod (on+off) is below on."
unfoldable pub use_on_epoch : EncryptionSchedule → ℕ → Bool
use_on_epoch Always epoch = true
use_on_epoch Never epoch = false
use_on_epoch (EveryNthEpoch n) epoch = eqb (epoch % n) 0
use_on_epoch (TickTock on off) epoch = ltb (epoch % (on + off)) on

-- THE RUST'S OWN RULE, which has TickTock's epoch `on` encrypted too; the engine does not use it
unfoldable pub original_use : EncryptionSchedule → ℕ → Bool
original_use Always epoch = true
original_use Never epoch = false
original_use (EveryNthEpoch n) epoch = eqb (epoch % n) 0
original_use (TickTock on off) epoch = leb (epoch % (on + off)) on

-- what the Rust is run with, to be compared with the engine. "For on at least 1 the original is run with (on−1, off+1), for on 0 with Never."
unfoldable pub as_original : EncryptionSchedule → EncryptionSchedule
as_original Always = Always
as_original Never = Never
as_original (EveryNthEpoch n) = EveryNthEpoch n
as_original (TickTock zero off) = Never
as_original (TickTock (suc on) off) = TickTock on (off + 1)

-- "schedule kind […] above 3, EveryNthEpoch 0 or at least 2^32, TickTock sum 0 or at least 2^32" are turned down; the sum is that of numbers, not of words
unfoldable pub schedule_ok : ℕ → ℕ → ℕ → Bool
schedule_ok kind a b =
    cond (leb kind 1) true
    (cond (eqb kind 2) (within 1 schedule_limit a)
    (cond (eqb kind 3) (within 1 schedule_limit (a + b)) false))

-- "schedule numbers a kind doesn't use are ignored": the state holds 0 for them
unfoldable pub used_first : ℕ → ℕ → ℕ
used_first kind a = cond (leb kind 1) 0 a

unfoldable pub used_second : ℕ → ℕ → ℕ
used_second kind b = cond (leb kind 2) 0 b
