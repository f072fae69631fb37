-- DEMAND 3: the claim about two whole lists of calls, for any `Holds` that has the laws of Interface.antt and Occupied.antt in `epoch`, which are parameters here. Assumes nothing.
use Rattle.std.proofs.Common.{ℕ, arith, ◌≡◌, refl, sym, ap, subst, List, Bool, true, false, cond, Option, None, eqb, leb, eqb-true, eq-eqb}
use Rattle.std.proofs.Math.Path.{subst₃, fun_ext}
use Rattle.std.proofs.lemmas.Bool.{eqb-false, lt-leb}
use Rattle.network.specs.declared.network_info.NetworkInfo.{NetworkInfo}
use Rattle.network.specs.Network.{Network}
use Rattle.steps.specs.Taken.{or_else}
use Rattle.epochwords.specs.declared.SubsetHandlingStrategy.{SubsetHandlingStrategy}
use Rattle.epochwords.specs.Words.{is_vacant}
use Rattle.epoch.proofs.Interface.{EpochLaws}
use Rattle.state.specs.declared.EncryptionSchedule.TheVariants.{Always, Never, EveryNthEpoch, TickTock}
use Rattle.state.specs.Schedule.{schedule_of, used_first, used_second, use_on_epoch}
use Rattle.state.specs.State.{net_of, encrypted_in, epoch_words}
use Rattle.engine.specs.Create.{Numbers, numbers_ok, created, create_reply, create_state}
use Rattle.agreement.specs.History.{Event, history, turns, none_fails, handed}
use Rattle.agreement.specs.Demand3.{One, Made, history_of, encrypted_of, Sound, TwoRuns}
use Rattle.agreement.proofs.Created.{create_passes, created_shaped, created_epoch, created_ok}
use Rattle.state.proofs.RangesState.{network_ok}
use Rattle.agreement.proofs.BatchesDealt.{AllDealt, InAll, all_at, all_handed, all_dealt, exact}
use Rattle.agreement.proofs.TwoHosts.{alike}
use Rattle.agreement.proofs.Invariant.{vacant, Sim}
use Rattle.agreement.proofs.OneRun.{run_ok}

-- THE STATE BEFORE ANY CALL has no epoch
all_vacant : (c : Numbers) (e : ℕ) → is_vacant (epoch_words (created c) e) ≡ true
all_vacant c e = eq-eqb _ _ (created_epoch c e 0)

pub network_of : (c : Numbers) → numbers_ok c ≡ true → Network (net_of (created c))
network_of c ok = network_ok (created c) (created_ok c ok)

-- the schedule's numbers, as they are stored, say the same
schedule_same : (k a b : ℕ) → schedule_of k (used_first k a) (used_second k b) ≡ schedule_of k a b
unfolding schedule_of used_first used_second
schedule_same k a b = go (eqb k 0) refl (eqb k 1) refl (eqb k 2) refl
  where
    go : (x : Bool) → eqb k 0 ≡ x → (y : Bool) → eqb k 1 ≡ y → (z : Bool) → eqb k 2 ≡ z
        → cond x Always (cond y Never (cond z (EveryNthEpoch (cond (leb k 1) 0 a)) (TickTock (cond (leb k 1) 0 a) (cond (leb k 2) 0 b))))
        ≡ cond x Always (cond y Never (cond z (EveryNthEpoch a) (TickTock a b)))
    go true i y j z l = refl
    go false i true j z l = refl
    go false i false j true l = rw (lt-leb k 1 (omega (arith, eqb-true k 2 l)))
    go false i false j false l =
        let p : k ≡ 0 → ⊥ = eqb-false k 0 i in
        let q : k ≡ 1 → ⊥ = eqb-false k 1 j in
        let r : k ≡ 2 → ⊥ = eqb-false k 2 l in
        rw (lt-leb k 1 (omega arith), lt-leb k 2 (omega arith))

pub encrypted_as : (c : Numbers) → encrypted_in (created c) ≡ use_on_epoch (schedule_of c.schedule c.first c.second)
unfolding encrypted_in created
encrypted_as c = fun_ext (λ e. ap (λ s. use_on_epoch s e) (schedule_same c.schedule c.first c.second))

pub state_is : (c : Numbers) (w : List ℕ) → create_reply c w ≡ 0 → create_state c w ≡ created c
unfolding create_state
state_is c w e = rw (eq-eqb (create_reply c w) 0 e)

module _ (Holds : NetworkInfo → SubsetHandlingStrategy → Bool → List ℕ → (ℕ → Option ℕ) → (ℕ → Option ℕ) → (ℕ → Option ℕ) → Type 0)
    (laws : EpochLaws Holds) where
  pub started : (c : Numbers) → Sim Holds (created c) (created c) c.epoch (λ _ _. None) (λ _ _. None) (λ _ _. None)
  unfolding created
  started c = record {
    shaped = created_shaped c;
    same = λ i l. refl;
    current = refl;
    slots = λ e l u. vacant (all_vacant c e) refl refl refl;
    beyond = λ e l. (refl, refl, refl);
  }

  -- ONE RUN: every call's batches, 13s and faults 5, by what the whole history took
  created_dealt : (m : Made) → numbers_ok m.numbers ≡ true → none_fails (turns (created m.numbers) m.calls) ≡ true
      → AllDealt (InAll m.numbers.nodes m.numbers.faulty (encrypted_in (created m.numbers)) (history m.numbers.epoch (turns (created m.numbers) m.calls)))
      (history m.numbers.epoch (turns (created m.numbers) m.calls))
  unfolding created or_else
  created_dealt m ok fine =
      run_ok Holds laws (created m.numbers) (network_of m.numbers ok) m.calls (created m.numbers) m.numbers.epoch (λ _ _. None) (λ _ _. None) (λ _ _. None)
      (started m.numbers) fine

  pub run_dealt : (m : Made) → Sound m → AllDealt (InAll m.numbers.nodes m.numbers.faulty (encrypted_of m) (history_of m)) (history_of m)
  run_dealt m s =
      let e = state_is m.numbers m.words s.created in
      let h = history m.numbers.epoch (turns (created m.numbers) m.calls) in
      rw e (subst (λ (c : ℕ → Bool). AllDealt (InAll m.numbers.nodes m.numbers.faulty c h) h) (encrypted_as m.numbers)
      (created_dealt m ((create_passes m.numbers m.words).0 s.created).0 (rw e at s.unfailing)))

  one : (n f : ℕ) (encrypted : ℕ → Bool) (h : List Event) → AllDealt (InAll n f encrypted h) h → One n f encrypted h
  one n f encrypted h d = record {
    thirteens = λ x m. (all_dealt n f encrypted h h d x m).1;
    fives = λ x m. (all_dealt n f encrypted h h d x m).0;
    exact = λ x m. exact n f encrypted h x (all_at (InAll n f encrypted h) (handed n encrypted h) x (all_handed n f encrypted h h d) m);
  }

  pub one_run : (m : Made) → Sound m → One m.numbers.nodes m.numbers.faulty (encrypted_of m) (history_of m)
  one_run m s = one m.numbers.nodes m.numbers.faulty (encrypted_of m) (history_of m) (run_dealt m s)

  -- TWO RUNS
  pub two_runs : TwoRuns
  two_runs m₁ m₂ s₁ s₂ same premises =
      let n = m₁.numbers.nodes in
      let f = m₁.numbers.faulty in
      let c = encrypted_of m₁ in
      let h₁ = history_of m₁ in
      let h₂ = history_of m₂ in
      let d₁ : AllDealt (InAll n f c h₁) h₁ = run_dealt m₁ s₁ in
      let d₂ : AllDealt (InAll n f c h₂) h₂ =
      subst₃ (λ (a b : ℕ) (k : ℕ → Bool). AllDealt (InAll a b k h₂) h₂) (sym same.nodes) (sym same.faulty) (sym same.schedule) (run_dealt m₂ s₂) in
      record {
        first = one n f c h₁ d₁;
        second = one n f c h₂ d₂;
        both = λ x y mx my e.
            alike n f c h₁ h₂ premises x y mx my e
            (all_at (InAll n f c h₁) (handed n c h₁) x (all_handed n f c h₁ h₁ d₁) mx)
            (all_at (InAll n f c h₂) (handed n c h₂) y (all_handed n f c h₂ h₂ d₂) my);
      }
