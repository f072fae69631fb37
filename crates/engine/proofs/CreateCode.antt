-- CREATE: its tests as the code does them, and the words that it writes. Assumes nothing.
use Rattle.std.proofs.Common.{ℕ, ◌+◌, ◌*◌, ◌-◌, ◌<◌, arith, ◌≡◌, refl, sym, ap, ◌∙◌, List, ◌++◌, Bool, true, false, ◌&&◌, leb, ltb, length, set, get_or, replicate, leb-true, ltb-true}
use Rattle.std.proofs.lemmas.List.{replicate-append-replicate}
use Rattle.std.proofs.lemmas.Bool.{and_parts}
use Rattle.steps.specs.Table.{within}
use Rattle.state.specs.Schedule.{schedule_ok, used_first, used_second}
use Rattle.state.specs.State.{state_length, all_hold}
use Rattle.state.proofs.Bools.{test_holds}
use Rattle.state.proofs.Sheet.{OnSheet}
use Rattle.state.proofs.Window.{header_first}
use Rattle.engine.specs.Create.{Numbers, number_tests, numbers_ok, created_header, created}

module _ (c : Numbers) where
  -- test i of the numbers holds
  number_test : numbers_ok c ≡ true → (i : ℕ) → get_or (number_tests c) i true ≡ true
  number_test h i = test_holds (number_tests c) h i

  -- N and look-ahead have a figure on the sheet of state lengths
  pub numbers_on_sheet : numbers_ok c ≡ true → OnSheet c.nodes c.ahead
  unfolding number_tests
  numbers_on_sheet h = (
    leb-true _ _ (and_parts (leb 1 c.nodes) _ (number_test h 0)).0,
    leb-true _ _ (and_parts (leb 1 c.nodes) _ (number_test h 0)).1,
    leb-true _ _ (number_test h 2),
  )

  -- 3 × f is not computed where f alone is above N's limit
  pub numbers_off : 16 < c.faulty → false ≡ numbers_ok c
  unfolding number_tests
  numbers_off l = go (numbers_ok c) refl
    where
      go : (t : Bool) → numbers_ok c ≡ t → false ≡ t
      go false h = refl
      go true h =
          let few = leb-true c.nodes 16 (and_parts (leb 1 c.nodes) _ (number_test h 0)).1 in
          let third = ltb-true (3 * c.faulty) c.nodes (number_test h 1) in
          absurd (omega arith)

  -- the tests joined one by one
  pub numbers_joined : (s : Bool) → s ≡ schedule_ok c.schedule c.first c.second
      → within 1 16 c.nodes && ltb (3 * c.faulty) c.nodes && leb c.ahead 15 && leb c.own c.nodes && leb c.key 1 && leb c.strategy 1
      && leb c.epoch 4611686018427387904 && s ≡ numbers_ok c
  unfolding number_tests all_hold
  numbers_joined s e = rw e (go (within 1 16 c.nodes) (ltb (3 * c.faulty) c.nodes) (leb c.ahead 15) (leb c.own c.nodes) (leb c.key 1)
      (leb c.strategy 1) (leb c.epoch 4611686018427387904) (schedule_ok c.schedule c.first c.second))
    where
      go : (a b d e f g h i : Bool) → a && b && d && e && f && g && h && i ≡ a && (b && (d && (e && (f && (g && (h && (i && true)))))))
      go true true true true true true true true = refl
      go true true true true true true true false = refl
      go true true true true true true false i = refl
      go true true true true true false h i = refl
      go true true true true false g h i = refl
      go true true true false f g h i = refl
      go true true false e f g h i = refl
      go true false d e f g h i = refl
      go false b d e f g h i = refl

  -- THE HEADER, word by word into zeros
  pub header_written : (w z : List ℕ) (a b : ℕ) → length w ≡ state_length c.nodes c.ahead → z ≡ replicate (length w) 0
      → a ≡ used_first c.schedule c.first → b ≡ used_second c.schedule c.second
      → set (set (set (set (set (set (set (set (set (set (set z 0 1) 1 c.nodes) 2 c.faulty) 3 c.ahead) 4 c.own) 5 c.key) 6 c.strategy)
      7 c.schedule) 8 a) 9 b) 10 c.epoch ≡ created c
  unfolding created
  header_written w z a b l e x y =
      let k = state_length c.nodes c.ahead in
      let s : k ≡ 11 + (k - 11) = omega (arith, header_first c.nodes) in
      rw (e, l, x, y) (go k s)
    where
      zeros : ℕ → List ℕ
      zeros n = replicate n 0

      go : (k : ℕ) → k ≡ 11 + (k - 11)
          → set (set (set (set (set (set (set (set (set (set (set (replicate k 0) 0 1) 1 c.nodes) 2 c.faulty) 3 c.ahead) 4 c.own) 5 c.key)
          6 c.strategy) 7 c.schedule) 8 (used_first c.schedule c.first)) 9 (used_second c.schedule c.second)) 10 c.epoch
          ≡ created_header c ++ replicate (k - 11) 0
      go k s = rw (ap zeros s ∙ sym (replicate-append-replicate 11 (k - 11) 0))
