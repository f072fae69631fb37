-- The worked pair of SecondPairRuns.antt: all premises of demand 3's claim hold of it (`sound_c`, `sound_d`, `same`, `premises`), and so do
-- all its conclusions (`conclusions`). The tests of Tests.antt are computed.
use Rattle.std.proofs.Common.{ℕ, ◌+◌, ◌*◌, ◌≡◌, refl, ◌++◌, Bool, cond, ◌&&◌, eqb}
use Rattle.steps.specs.Taken.{of_value, of_decision}
use Rattle.engine.specs.Create.{create_reply}
use Rattle.agreement.specs.History.{readings}
use Rattle.agreement.specs.Demand3.{One, Two, Premises, Conclusions, turns_of, history_of, encrypted_of, Sound, SameNetwork, TwoRuns}
use Rattle.agreement.specs.Opened.{opened}
use Rattle.agreement.proofs.SecondPairRuns.{told, events_of, lines_c, lines_d, host_c, host_d, replies_c, replies_d, history_c, history_d}
use Rattle.agreement.proofs.Tests.{none_fails_lem, took_alike, read_alike, is_one_lem, is_two_lem, tests}

-- What both hosts are told: proposer p's value in epoch e is 10 × e + p, but 21 for proposer 3 in epoch 2; proposer 4 − e is decided 0, the
-- others 1; every value reads and verifies; value v decrypts to v + 100; every plaintext but 120 reads
value : ℕ → ℕ → ℕ
value e p = cond (eqb e 2 && eqb p 3) 21 (10 * e + p)

decision : ℕ → ℕ → ℕ
decision e p = cond (eqb (e + p) 4) 0 1

answer : ℕ → ℕ → ℕ
answer kind subject = cond (eqb kind 13 && eqb subject 120) 0 1

-- both creates reply 0, and no call fails
created_c : create_reply host_c.numbers host_c.words ≡ 0
unfolding opened host_c
created_c = refl

created_d : create_reply host_d.numbers host_d.words ≡ 0
unfolding opened host_d
created_d = refl

pub sound_c : Sound host_c
unfolding tests
sound_c = record { created = created_c; unfailing = none_fails_lem (turns_of host_c) (rw replies_c refl) }

pub sound_d : Sound host_d
unfolding tests
sound_d = record { created = created_d; unfailing = none_fails_lem (turns_of host_d) (rw replies_d refl) }

-- equal N, f and schedule
pub same : SameNetwork host_c host_d
unfolding host_c host_d
same = record { nodes = refl; faulty = refl; schedule = refl }

-- values and decisions are taken alike, and readings are alike
abbrev encrypted : ℕ → Bool
encrypted = encrypted_of host_c

told_alike : Premises 4 encrypted (events_of 1 lines_c) (events_of 0 lines_d)
unfolding opened tests told events_of lines_c lines_d host_c value decision answer
told_alike =
    record {
      values = took_alike of_value value (events_of 1 lines_c) (events_of 0 lines_d) refl refl;
      decisions = took_alike of_decision decision (events_of 1 lines_c) (events_of 0 lines_d) refl refl;
      readings = read_alike answer (λ v. v + 100) (readings 4 encrypted (events_of 1 lines_c) ++ readings 4 encrypted (events_of 0 lines_d)) refl;
    }

pub premises : Premises 4 encrypted (history_of host_c) (history_of host_d)
premises = rw (history_c, history_d) told_alike

-- so the claim, once it is proved, speaks of this pair
pub applies : TwoRuns → Conclusions 4 1 encrypted (history_of host_c) (history_of host_d)
unfolding host_c host_d
applies claim = claim host_c host_d sound_c sound_d same premises

-- AND THE CONCLUSIONS hold of this pair, by computing: all that the claim says, proved without the claim
one_c : One 4 1 encrypted (events_of 1 lines_c)
unfolding opened tests told events_of lines_c host_c
one_c = is_one_lem 4 1 encrypted (events_of 1 lines_c) refl

one_d : One 4 1 encrypted (events_of 0 lines_d)
unfolding opened tests told events_of lines_d host_c
one_d = is_one_lem 4 1 encrypted (events_of 0 lines_d) refl

two : Two 4 encrypted (events_of 1 lines_c) (events_of 0 lines_d)
unfolding opened tests told events_of lines_c lines_d host_c
two = is_two_lem 4 encrypted (events_of 1 lines_c) (events_of 0 lines_d) refl

pub conclusions : Conclusions 4 1 encrypted (history_of host_c) (history_of host_d)
conclusions = rw (history_c, history_d) (record { first = one_c; second = one_d; both = two })
