-- The state that create leaves: its length, and that it keeps the range rules. Assumes nothing.
use Rattle.std.proofs.Common.{ℕ, ◌+◌, ◌*◌, ◌-◌, ◌≤◌, arith, ◌≡◌, refl, sym, ap, ◌∙◌, ◌↔◌, List, Bool, true, false, cond, not, eqb, leb, length, get_or, drop, replicate, get_or-append-add, get_or-take, get_or-drop, eqb-true, eq-eqb, leb-true, leb-false, le-leb}
use Rattle.std.proofs.Math.ListN.{get_or-eq_default}
use Rattle.std.proofs.lemmas.List.{length-replicate}
use Rattle.std.proofs.lemmas.Bool.{and_parts, and_from, lt-leb}
use Rattle.steps.specs.Numbers.{last_epoch}
use Rattle.steps.specs.Table.{within}
use Rattle.steps.proofs.Ranges.{zeros_at}
use Rattle.subset.specs.Words.{epoch_length, count_at}
use Rattle.subset.proofs.Ranges.{limit_some}
use Rattle.epochwords.proofs.LimitsOfWords.{all_every}
use Rattle.state.specs.Schedule.{schedule_ok, used_first, used_second}
use Rattle.state.specs.State.{header_length, input_at, vacant_at, epochs_at, state_length, all_hold, header_tests, header_in_range, epoch_words, place_of, state_ok}
use Rattle.engine.specs.Create.{Numbers, number_tests, numbers_ok, created_header, created, create_reply, create_state}
use Rattle.agreement.specs.Demand2.{CreateInRange}
use Rattle.state.proofs.Bools.{test_holds}
use Rattle.state.proofs.LengthTable.{lengths}
use Rattle.state.proofs.Sheet.{entry_of, sheet_right}
use Rattle.engine.proofs.CreateCode.{numbers_on_sheet}
use Rattle.state.proofs.Window.{Shaped, header_first, words_long, place_is}
use Rattle.state.proofs.RangesState.{ok_by}

pub length_created : (c : Numbers) → length (created c) ≡ state_length c.nodes c.ahead
unfolding created
length_created c = simp length-replicate (omega (arith, header_first c.nodes))

-- "16 + (F+1) × (16 + N × (8+N))"
pub length_formula : (n ahead : ℕ) → state_length n ahead ≡ 16 + (ahead + 1) * (16 + n * (8 + n))
unfolding epochs_at
length_formula n ahead = refl

pub create_passes : (c : Numbers) (w : List ℕ) → (create_reply c w ≡ 0) ↔ ((numbers_ok c ≡ true) × (length w ≡ state_length c.nodes c.ahead))
unfolding create_reply
create_passes c w = (there (numbers_ok c) (eqb (length w) (state_length c.nodes c.ahead)) refl, λ h. rw (h.0, eq-eqb _ _ h.1))
  where
    there : (s t : Bool) → eqb (length w) (state_length c.nodes c.ahead) ≡ t → ◌≡◌ {A = ℕ} (cond (not s) 1 (cond t 0 2)) 0
        → (s ≡ true) × (length w ≡ state_length c.nodes c.ahead)
    there true true e h = (refl, eqb-true _ _ e)
    there true false e h = absurd (omega arith)
    there false t e h = absurd (omega arith)

-- "the engine shall take the length from that same table"
pub create_by_sheet : (c : Numbers) (w : List ℕ) → (create_reply c w ≡ 0) ↔ ((numbers_ok c ≡ true) × (length w ≡ get_or lengths (entry_of c.nodes c.ahead) 0))
create_by_sheet c w =
    (λ h. let p = (create_passes c w).0 h in (p.0, p.1 ∙ sym (figure p.0)), λ h. (create_passes c w).1 (h.0, h.1 ∙ figure h.0))
  where
    figure : numbers_ok c ≡ true → get_or lengths (entry_of c.nodes c.ahead) 0 ≡ state_length c.nodes c.ahead
    figure ok = sheet_right _ _ (numbers_on_sheet c ok)

-- THE RANGE RULES. Behind the numbers all words are 0
pub created_zeros : (c : Numbers) (i : ℕ) → input_at ≤ i → get_or (created c) i 0 ≡ 0
unfolding created
created_zeros c i h =
    let e : i ≡ input_at + (i - input_at) = omega arith in
    ap (λ (j : ℕ). get_or (created c) j 0) e
    ∙ (get_or-append-add (created_header c) (replicate (state_length c.nodes c.ahead - input_at) 0) (i - input_at) 0
    ∙ zeros_at (state_length c.nodes c.ahead - input_at) (i - input_at))

pub created_shaped : (c : Numbers) → Shaped c.nodes c.ahead (created c)
unfolding created
created_shaped c = record { long = length_created c; nodes = refl; ahead = refl }

-- so that there is no epoch
pub created_epoch : (c : Numbers) (e i : ℕ) → get_or (epoch_words (created c) e) i 0 ≡ 0
unfolding epoch_words created
created_epoch c e i = go (leb (epoch_length c.nodes) i) refl
  where
    p : ℕ
    p = place_of (created c) e

    first : input_at ≤ p
    first = omega (arith, place_is c.nodes c.ahead (created c) (created_shaped c) e, header_first c.nodes)

    go : (t : Bool) → leb (epoch_length c.nodes) i ≡ t → get_or (epoch_words (created c) e) i 0 ≡ 0
    go true q =
        get_or-eq_default (epoch_words (created c) e) 0
        (omega (arith, words_long c.nodes c.ahead (created c) (created_shaped c) e, leb-true (epoch_length c.nodes) i q))
    go false q =
        get_or-take (epoch_length c.nodes) (drop p (created c)) i 0 (leb-false (epoch_length c.nodes) i q)
        ∙ (get_or-drop p (created c) i 0 ∙ created_zeros c (p + i) (omega (arith, first)))

-- the schedule's numbers, as they are stored
cond_again : (t : Bool) (a : ℕ) → cond t 0 (cond t 0 a) ≡ cond t 0 a
cond_again true a = refl
cond_again false a = refl

first_again : (k a : ℕ) → used_first k (used_first k a) ≡ used_first k a
unfolding used_first
first_again k a = cond_again (leb k 1) a

second_again : (k b : ℕ) → used_second k (used_second k b) ≡ used_second k b
unfolding used_second
second_again k b = cond_again (leb k 2) b

schedule_kept : (k a b : ℕ) → schedule_ok k a b ≡ true → schedule_ok k (used_first k a) (used_second k b) ≡ true
unfolding schedule_ok used_first used_second
schedule_kept k a b h = go (leb k 1) refl (eqb k 2) refl (eqb k 3) refl h
  where
    go : (t : Bool) → leb k 1 ≡ t → (u : Bool) → eqb k 2 ≡ u → (v : Bool) → eqb k 3 ≡ v
        → cond t true (cond u (within 1 0xffff_ffff a) (cond v (within 1 0xffff_ffff (a + b)) false)) ≡ true
        → cond t true (cond u (within 1 0xffff_ffff (cond t 0 a)) (cond v (within 1 0xffff_ffff (cond t 0 a + cond (leb k 2) 0 b)) false)) ≡ true
    go true _ u _ v _ h = refl
    go false _ true _ v _ h = h
    go false _ false _ true e h = rw (lt-leb k 2 (omega (arith, eqb-true k 3 e))) h
    go false _ false _ false _ h = h

-- "no state the engine leaves breaks them": the state that create leaves
module _ (c : Numbers) (h : numbers_ok c ≡ true) where
  test : (i : ℕ) → get_or (number_tests c) i true ≡ true
  test = test_holds (number_tests c) h

  some : 1 ≤ c.nodes
  unfolding number_tests
  some = leb-true 1 c.nodes (and_parts (leb 1 c.nodes) (leb c.nodes 16) (test 0)).0

  created_header_lem : header_in_range (created c) ≡ true
  unfolding number_tests header_tests all_hold created
  created_header_lem =
      rw (
        test 0,
        test 1,
        test 2,
        test 3,
        test 4,
        test 5,
        schedule_kept c.schedule c.first c.second (test 7),
        eq-eqb _ _ (sym (first_again c.schedule c.first)),
        eq-eqb _ _ (sym (second_again c.schedule c.second)),
        le-leb c.epoch (last_epoch + c.ahead + 1) (omega (arith, leb-true c.epoch last_epoch (test 6))),
        zeros_at (state_length c.nodes c.ahead - input_at) 0,
        zeros_at (state_length c.nodes c.ahead - input_at) 1,
      ) (and_from _ _ (all_every (λ x. eqb x 0) (header_length - vacant_at) vacant_at (created c) (λ k l. eq-eqb _ _ (created_zeros c (vacant_at + k) (omega arith)))) refl)

  pub created_ok : state_ok (created c) ≡ true
  unfolding created
  created_ok =
      ok_by (created c) created_header_lem (length_created c) (λ e.
      record {
        long = words_long c.nodes c.ahead (created c) (created_shaped c) e;
        below = λ i. rw (created_epoch c e i) (limit_some c.nodes i some);
      })
      (λ e. omega (arith, created_epoch c e count_at))

pub create_ok : CreateInRange
unfolding create_state
create_ok c w h = rw (eq-eqb _ _ h) (created_ok c ((create_passes c w).0 h).0)
