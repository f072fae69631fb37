-- The range rule of the state, taken apart and put together again, and that what the engine writes keeps it. Assumes nothing.
use Rattle.std.proofs.Common.{ℕ, zero, suc, ◌+◌, ◌*◌, ◌-◌, ◌%◌, ◌≤◌, ◌<◌, ◌≡◌, refl, ◌∙◌, sym, List, Bool, true, false, ◌&&◌, arith, mod-lt, mod-eq_of_lt, suc-mul, length, get_or, set, take, drop, get_or-set_same, get_or-set_other, eqb, leb, eqb-true, leb-true, ltb-true, eq-eqb, le-leb}
use Rattle.std.proofs.lemmas.Bool.{and_parts, and_from, eqb-false}
use Rattle.steps.specs.Numbers.{last_epoch, fault_limit}
use Rattle.network.specs.Network.{Network}
use Rattle.steps.proofs.Ranges.{zeros_at, below_zeros}
use Rattle.subset.specs.Words.{epoch_length, count_at, count_of}
use Rattle.subset.proofs.Ranges.{limit_at, limit_some, EpochOk}
use Rattle.epochwords.specs.Words.{most_kept, epoch_in_range}
use Rattle.epochwords.proofs.LimitsOfWords.{all_at, all_every, epoch_below, epoch_keeps, epoch_in}
use Rattle.state.specs.State.{header_length, profile_at, nodes_at, faulty_at, ahead_at, own_at, key_at, strategy_at, schedule_at, first_number_at, second_number_at, epoch_at, input_at, faults_at, vacant_at, epochs_at, state_length, scratch_length, scratch_of, nodes, ahead, current_epoch, input, fault_count, net_of, strategy_of, epoch_words, with_epoch, without_epoch, all_hold, header_tests, header_in_range, epochs_in_range, state_ok}
use Rattle.state.proofs.Bools.{test_holds}
use Rattle.state.proofs.Window.{Shaped, header_first, words_are, words_long, with_head, with_shaped, with_place, with_other, set_shaped, set_words}

-- A ROW OF EPOCHS
module _ (w : List ℕ) where
  epochs_at_lem : (m at : ℕ) → epochs_in_range w m at ≡ true → (k : ℕ) → k < m
      → epoch_in_range (strategy_of w) (nodes w) (take (epoch_length (nodes w)) (drop (at + k * epoch_length (nodes w)) w)) ≡ true
  unfolding epochs_in_range
  epochs_at_lem zero at e k l = absurd (omega arith)
  epochs_at_lem (suc m) at e zero l =
      let z : at + 0 * epoch_length (nodes w) ≡ at = omega arith in
      rw z (and_parts (epoch_in_range (strategy_of w) (nodes w) (take (epoch_length (nodes w)) (drop at w))) _ e).0
  epochs_at_lem (suc m) at e (suc k) l =
      let z : at + suc k * epoch_length (nodes w) ≡ (at + epoch_length (nodes w)) + k * epoch_length (nodes w) = omega (arith, suc-mul k (epoch_length (nodes w))) in
      rw z (epochs_at_lem m (at + epoch_length (nodes w)) (and_parts (epoch_in_range (strategy_of w) (nodes w) (take (epoch_length (nodes w)) (drop at w))) _ e).1 k (omega arith))

  epochs_in : (m at : ℕ) → ((k : ℕ) → k < m → epoch_in_range (strategy_of w) (nodes w) (take (epoch_length (nodes w)) (drop (at + k * epoch_length (nodes w)) w)) ≡ true)
      → epochs_in_range w m at ≡ true
  unfolding epochs_in_range
  epochs_in zero at f = refl
  epochs_in (suc m) at f =
      and_from _ _
      (let z : at + 0 * epoch_length (nodes w) ≡ at = omega arith in rw z at (f 0 (omega arith)))
      (epochs_in m (at + epoch_length (nodes w)) (λ k l.
      let z : at + suc k * epoch_length (nodes w) ≡ (at + epoch_length (nodes w)) + k * epoch_length (nodes w) = omega (arith, suc-mul k (epoch_length (nodes w))) in
      rw z at (f (suc k) (omega arith))))

-- a state of the right length, whose header and epochs keep the rule
pub ok_by : (w : List ℕ) → header_in_range w ≡ true → length w ≡ state_length (nodes w) (ahead w) → ((e : ℕ) → EpochOk (nodes w) (epoch_words w e))
    → ((e : ℕ) → count_of (epoch_words w e) ≤ most_kept (strategy_of w) (nodes w)) → state_ok w ≡ true
unfolding state_ok
ok_by w head long words lists =
    and_from _ _ (and_from _ _ head (eq-eqb _ _ long)) (epochs_in w (ahead w + 1) (epochs_at (nodes w)) (λ k l.
    let e : k % (ahead w + 1) ≡ k = mod-eq_of_lt l in
    let are = words_are (nodes w) (ahead w) w (record { long = long; nodes = refl; ahead = refl }) k in
    epoch_in (nodes w) _ (strategy_of w) (rw (are, e) at (words k)) (rw (are, e) at (lists k))))

-- what the rule says of the header
pub record HeaderOk (w : List ℕ) : Type 0 where
  pub some : 0 < nodes w
  pub few : nodes w ≤ 16
  pub epoch : current_epoch w ≤ last_epoch + ahead w + 1
  pub given : input w ≤ 1
  pub counted : fault_count w ≤ fault_limit
  pub rest : (k : ℕ) → k < header_length - vacant_at → get_or w (vacant_at + k) 0 ≡ 0

-- A STATE THAT KEEPS THE RULE
module _ (w : List ℕ) (ok : state_ok w ≡ true) where
  -- each of the header's tests holds
  pub test : (i : ℕ) → get_or (header_tests w) i true ≡ true
  unfolding state_ok
  test i = test_holds (header_tests w) (and_parts (header_in_range w) _ (and_parts _ _ ok).0).0 i

  pub header_ok : HeaderOk w
  unfolding header_tests
  header_ok =
      let n = and_parts (leb 1 (nodes w)) (leb (nodes w) 16) (test nodes_at) in
      record {
        some = leb-true 1 (nodes w) n.0;
        few = leb-true (nodes w) 16 n.1;
        epoch = leb-true _ _ (test epoch_at);
        given = leb-true _ _ (test input_at);
        counted = leb-true _ _ (test faults_at);
        rest = λ k l. eqb-true _ _ (all_at (λ x. eqb x 0) (header_length - vacant_at) vacant_at w (test vacant_at) k l);
      }

  -- it holds a network as create accepts it
  pub network_ok : Network (net_of w)
  unfolding header_tests net_of
  network_ok = record { some = header_ok.some; sixteen = header_ok.few; faulty = ltb-true _ _ (test faulty_at); own = leb-true _ _ (test own_at) }

  -- and has the shape of its own numbers
  pub shaped : Shaped (nodes w) (ahead w) w
  unfolding state_ok
  shaped = record { long = eqb-true _ _ (and_parts (header_in_range w) _ (and_parts _ _ ok).0).1; nodes = refl; ahead = refl }

  in_range : (e : ℕ) → epoch_in_range (strategy_of w) (nodes w) (epoch_words w e) ≡ true
  unfolding state_ok
  in_range e =
      rw (words_are (nodes w) (ahead w) w shaped e)
      (epochs_at_lem w (ahead w + 1) (epochs_at (nodes w)) (and_parts (header_in_range w && eqb (length w) (state_length (nodes w) (ahead w))) _ ok).1 (e % (ahead w + 1)) (mod-lt e (omega arith)))

  pub words_in_range : (e : ℕ) → EpochOk (nodes w) (epoch_words w e)
  words_in_range e = epoch_below (nodes w) _ (strategy_of w) header_ok.some (words_long (nodes w) (ahead w) w shaped e) (in_range e)

  pub lists_in_range : (e : ℕ) → count_of (epoch_words w e) ≤ most_kept (strategy_of w) (nodes w)
  lists_in_range e = epoch_keeps (nodes w) _ (strategy_of w) (in_range e)

-- A STATE v THAT CAME FROM w: the numbers of its creation are the same, and each word is in its range, the current epoch at most the bound
pub record StateOk (w : List ℕ) (bound : ℕ) (v : List ℕ) : Type 0 where
  pub shape : Shaped (nodes w) (ahead w) v
  pub same : (i : ℕ) → i < epoch_at → get_or v i 0 ≡ get_or w i 0
  pub epoch : current_epoch v ≤ bound
  pub given : input v ≤ 1
  pub counted : fault_count v ≤ fault_limit
  pub rest : (k : ℕ) → k < header_length - vacant_at → get_or v (vacant_at + k) 0 ≡ 0
  pub words : (e : ℕ) → EpochOk (nodes w) (epoch_words v e)
  pub lists : (e : ℕ) → count_of (epoch_words v e) ≤ most_kept (strategy_of w) (nodes w)

-- WHAT THE ENGINE WRITES
module _ (w : List ℕ) (bound : ℕ) (some : 0 < nodes w) (v : List ℕ) (h : StateOk w bound v) where
  -- one of current epoch, has input and fault count
  module _ (j x : ℕ) (low : epoch_at ≤ j) (high : j < vacant_at) where
    pub set_in : get_or (set v j x) j 0 ≡ x
    set_in = get_or-set_same v j x 0 (omega (arith, h.shape.long, header_first (nodes w)))

    set_ok : current_epoch (set v j x) ≤ bound → input (set v j x) ≤ 1 → fault_count (set v j x) ≤ fault_limit → StateOk w bound (set v j x)
    set_ok e g c =
        record {
          shape = set_shaped (nodes w) (ahead w) v h.shape j x (omega arith) (omega arith);
          same = λ i m. get_or-set_other v j i x 0 (λ e. omega arith) ∙ h.same i m;
          epoch = e;
          given = g;
          counted = c;
          rest = λ k l. get_or-set_other v j (vacant_at + k) x 0 (λ e. omega arith) ∙ h.rest k l;
          words = λ e. rw (set_words (nodes w) (ahead w) v h.shape j x (omega arith) (omega arith) e) (h.words e);
          lists = λ e. rw (set_words (nodes w) (ahead w) v h.shape j x (omega arith) (omega arith) e) (h.lists e);
        }

  pub input_ok : (x : ℕ) → x < 2 → StateOk w bound (set v input_at x)
  input_ok x l =
      set_ok input_at x (omega arith) (omega arith) (rw (get_or-set_other v input_at epoch_at x 0 (omega arith)) h.epoch)
      (omega (arith, set_in input_at x (omega arith) (omega arith))) (rw (get_or-set_other v input_at faults_at x 0 (omega arith)) h.counted)

  pub epoch_ok : (x : ℕ) → x ≤ bound → StateOk w bound (set v epoch_at x)
  epoch_ok x l =
      set_ok epoch_at x (omega arith) (omega arith) (omega (arith, set_in epoch_at x (omega arith) (omega arith)))
      (rw (get_or-set_other v epoch_at input_at x 0 (omega arith)) h.given) (rw (get_or-set_other v epoch_at faults_at x 0 (omega arith)) h.counted)

  pub faults_ok : (x : ℕ) → x ≤ fault_limit → StateOk w bound (set v faults_at x)
  faults_ok x l =
      set_ok faults_at x (omega arith) (omega arith) (rw (get_or-set_other v faults_at epoch_at x 0 (omega arith)) h.epoch)
      (rw (get_or-set_other v faults_at input_at x 0 (omega arith)) h.given) (omega (arith, set_in faults_at x (omega arith) (omega arith)))

  -- the strategy is that of its creation
  pub strategy_same : strategy_of v ≡ strategy_of w
  unfolding strategy_of
  strategy_same = rw (h.same strategy_at (omega arith))

  -- an epoch
  pub with_ok : (epoch : ℕ) (x : List ℕ) → EpochOk (nodes w) x → count_of x ≤ most_kept (strategy_of w) (nodes w) → StateOk w bound (with_epoch v epoch x)
  with_ok epoch x u k =
      record {
        shape = with_shaped (nodes w) (ahead w) v h.shape epoch x u.long;
        same = λ i m. head i (omega arith) ∙ h.same i m;
        epoch = rw (head epoch_at (omega arith)) h.epoch;
        given = rw (head input_at (omega arith)) h.given;
        counted = rw (head faults_at (omega arith)) h.counted;
        rest = λ k l. head (vacant_at + k) (omega arith) ∙ h.rest k l;
        words = λ d. go d (eqb (epoch % (ahead w + 1)) (d % (ahead w + 1))) refl;
        lists = λ d. list d (eqb (epoch % (ahead w + 1)) (d % (ahead w + 1))) refl;
      }
    where
      head : (i : ℕ) → i < header_length → get_or (with_epoch v epoch x) i 0 ≡ get_or v i 0
      head = with_head (nodes w) (ahead w) v h.shape epoch x u.long

      go : (d : ℕ) (t : Bool) → eqb (epoch % (ahead w + 1)) (d % (ahead w + 1)) ≡ t → EpochOk (nodes w) (epoch_words (with_epoch v epoch x) d)
      go d true e = rw (with_place (nodes w) (ahead w) v h.shape epoch d x u.long (eqb-true _ _ e)) u
      go d false e = rw (with_other (nodes w) (ahead w) v h.shape epoch d x u.long (eqb-false _ _ e)) (h.words d)

      list : (d : ℕ) (t : Bool) → eqb (epoch % (ahead w + 1)) (d % (ahead w + 1)) ≡ t → count_of (epoch_words (with_epoch v epoch x) d) ≤ most_kept (strategy_of w) (nodes w)
      list d true e = rw (with_place (nodes w) (ahead w) v h.shape epoch d x u.long (eqb-true _ _ e)) k
      list d false e = rw (with_other (nodes w) (ahead w) v h.shape epoch d x u.long (eqb-false _ _ e)) (h.lists d)

  pub without_ok : (epoch : ℕ) → StateOk w bound (without_epoch v epoch)
  unfolding without_epoch
  without_ok epoch =
      with_ok epoch _ (rw h.shape.nodes (below_zeros (limit_at (nodes w)) (epoch_length (nodes w)) (λ i. limit_some (nodes w) i some)))
      (omega (arith, zeros_at (epoch_length (nodes v)) count_at))

-- THE RULE AND THESE. A state that keeps the rule
module _ (w : List ℕ) (ok : state_ok w ≡ true) where
  pub enter : (bound : ℕ) → current_epoch w ≤ bound → StateOk w bound w
  enter bound c =
      record {
        shape = shaped w ok;
        same = λ i l. refl;
        epoch = c;
        given = (header_ok w ok).given;
        counted = (header_ok w ok).counted;
        rest = (header_ok w ok).rest;
        words = words_in_range w ok;
        lists = lists_in_range w ok;
      }

  -- and one that came from it
  header_left : (v : List ℕ) → StateOk w (last_epoch + ahead w + 1) v → header_in_range v ≡ true
  unfolding header_tests all_hold
  header_left v h =
      rw (
        h.same profile_at (omega arith),
        h.same nodes_at (omega arith),
        h.same faulty_at (omega arith),
        h.same ahead_at (omega arith),
        h.same own_at (omega arith),
        h.same key_at (omega arith),
        h.same strategy_at (omega arith),
        h.same schedule_at (omega arith),
        h.same first_number_at (omega arith),
        h.same second_number_at (omega arith),
        test w ok profile_at,
        test w ok nodes_at,
        test w ok faulty_at,
        test w ok ahead_at,
        test w ok own_at,
        test w ok key_at,
        test w ok strategy_at,
        test w ok schedule_at,
        test w ok first_number_at,
        test w ok second_number_at,
        le-leb (current_epoch v) (last_epoch + ahead w + 1) h.epoch,
        le-leb (input v) 1 h.given,
        le-leb (fault_count v) fault_limit h.counted,
      ) (and_from _ _ (all_every (λ x. eqb x 0) (header_length - vacant_at) vacant_at v (λ k l. eq-eqb _ _ (h.rest k l))) refl)

  pub leave : (v : List ℕ) → StateOk w (last_epoch + ahead w + 1) v → state_ok v ≡ true
  leave v h =
      ok_by v (header_left v h) (rw (h.shape.nodes, h.shape.ahead) h.shape.long) (λ e. rw h.shape.nodes (h.words e))
      (λ e. rw (h.shape.nodes, strategy_same w (last_epoch + ahead w + 1) (header_ok w ok).some v h) (h.lists e))

-- scratch has the state's length
pub scratch_is : (state : List ℕ) → state_ok state ≡ true → scratch_of state ≡ length state
unfolding scratch_length
scratch_is state ok = sym (shaped state ok).long
