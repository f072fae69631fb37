-- The worked pair of FirstPairRuns.antt: all premises of demand 3's claim hold of it (`sound_a`, `sound_b`, `same`, `premises`), and so do all
-- its conclusions (`conclusions`). The tests of Tests.antt are computed.
use Rattle.std.proofs.Common.{ℕ, ◌+◌, ◌*◌, refl, ◌++◌, cond, ◌&&◌, eqb}
use Rattle.steps.specs.Taken.{of_value, of_decision}
use Rattle.steps.proofs.CaseTables.{table}
use Rattle.agreement.specs.History.{readings}
use Rattle.agreement.specs.Demand3.{One, Two, Premises, Conclusions, history_of, encrypted_of, Sound, SameNetwork, TwoRuns}
use Rattle.agreement.specs.Opened.{opened}
use Rattle.agreement.proofs.FirstPairRuns.{host_a, host_b}
use Rattle.agreement.proofs.Tests.{took_alike, read_alike, is_one_lem, is_two_lem, tests}

-- THE PAIR. What both hosts are told: proposer p's value in epoch e is 11 + 2 × e + p and is decided 1; every value reads and verifies;
-- value v decrypts to v + 10; every plaintext but 22 reads
value : ℕ → ℕ → ℕ
value e p = 11 + 2 * e + p

answer : ℕ → ℕ → ℕ
answer kind subject = cond (eqb kind 13 && eqb subject 22) 0 1

-- both creates reply 0, and no call fails
pub sound_a : Sound host_a
unfolding opened table host_a
sound_a = record { created = refl; unfailing = refl }

pub sound_b : Sound host_b
unfolding opened table host_b
sound_b = record { created = refl; unfailing = refl }

-- equal N, f and schedule
pub same : SameNetwork host_a host_b
unfolding host_a host_b
same = record { nodes = refl; faulty = refl; schedule = refl }

-- values and decisions are taken alike, and readings are alike
pub premises : Premises 2 (encrypted_of host_a) (history_of host_a) (history_of host_b)
unfolding opened tests table host_a host_b value answer
premises =
    record {
      values = took_alike of_value value (history_of host_a) (history_of host_b) refl refl;
      decisions = took_alike of_decision (λ e p. 1) (history_of host_a) (history_of host_b) refl refl;
      readings =
          read_alike answer (λ v. v + 10)
          (readings 2 (encrypted_of host_a) (history_of host_a) ++ readings 2 (encrypted_of host_a) (history_of host_b)) refl;
    }

-- so the claim, once it is proved, speaks of this pair
pub applies : TwoRuns → Conclusions 2 0 (encrypted_of host_a) (history_of host_a) (history_of host_b)
unfolding host_a host_b
applies claim = claim host_a host_b sound_a sound_b same premises

-- AND THE CONCLUSIONS hold of this pair, by computing: all that the claim says, proved without the claim
one_a : One 2 0 (encrypted_of host_a) (history_of host_a)
unfolding opened tests table host_a
one_a = is_one_lem 2 0 (encrypted_of host_a) (history_of host_a) refl

one_b : One 2 0 (encrypted_of host_b) (history_of host_b)
unfolding opened tests table host_b
one_b = is_one_lem 2 0 (encrypted_of host_b) (history_of host_b) refl

two : Two 2 (encrypted_of host_a) (history_of host_a) (history_of host_b)
unfolding opened tests table host_a host_b
two = is_two_lem 2 (encrypted_of host_a) (history_of host_a) (history_of host_b) refl

pub conclusions : Conclusions 2 0 (encrypted_of host_a) (history_of host_a) (history_of host_b)
unfolding host_a host_b
conclusions = record { first = one_a; second = one_b; both = two }
