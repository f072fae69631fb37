-- Laws for the code that checks a state's ranges, and what a state in range gives the code below. Assumes nothing.
use Rattle.std.proofs.Common.{ℕ, suc, ◌+◌, ◌-◌, ◌*◌, ◌≤◌, ◌<◌, ◌≡◌, refl, sym, ◌∙◌, List, [], ◌∷◌, Bool, true, false, ◌&&◌, ◌||◌, arith, add-mul, length, get_or, take, drop, length-drop, length-take-le, bit_or, eqb, leb, ltb, leb-true, ltb-true, eq-eqb}
use Rattle.std.proofs.Math.Bool.{and-true, and_assoc}
use Rattle.std.proofs.lemmas.Bool.{false_from_ne_true, and_parts}
use Rattle.steps.specs.Numbers.{node_limit, ahead_limit}
use Rattle.subset.specs.Words.{epoch_length}
use Rattle.epochwords.specs.Shape.{EpochWords, Listed}
use Rattle.epochwords.specs.Words.{all_from, epoch_in_range}
use Rattle.epochwords.proofs.RangeCode.{none_below, join_below}
use Rattle.epochwords.proofs.LimitsOfWords.{ok_listed}
use Rattle.state.specs.Schedule.{schedule_of}
use Rattle.state.specs.State.{header_length, nodes_at, faulty_at, ahead_at, schedule_at, epoch_at, vacant_at, nodes, faulty, ahead, schedule, first_number, second_number, strategy_of, epochs_at, state_length, epoch_words, all_hold, header_tests, header_in_range, epochs_in_range, state_ok}
use Rattle.state.specs.Shape.{StateWords, Divides}
use Rattle.state.proofs.Bools.{test_holds}
use Rattle.state.proofs.Schedules.{ok_divides}
use Rattle.state.proofs.LengthTable.{lengths}
use Rattle.state.proofs.Sheet.{OnSheet, entry_of, sheet_right}
use Rattle.state.proofs.Window.{header_first}
use Rattle.state.proofs.RangesState.{test, shaped, words_in_range}

-- THE HEADER. What its tests say of N, f and the look-ahead
pub record Sized (w : List ℕ) : Type 0 where
  pub few : nodes w ≤ node_limit
  pub faulty : 3 * faulty w < nodes w
  pub near : ahead w ≤ ahead_limit

pub header_sized : (w : List ℕ) → header_in_range w ≡ true → Sized w
unfolding header_tests
header_sized w e =
    record {
      few = leb-true (nodes w) node_limit (and_parts (leb 1 (nodes w)) _ (test_holds (header_tests w) e nodes_at)).1;
      faulty = ltb-true _ _ (test_holds (header_tests w) e faulty_at);
      near = leb-true _ _ (test_holds (header_tests w) e ahead_at);
    }

-- the code's first test: one of them is too large, or none is
module _ (w : List ℕ) where
  abbrev large : Bool
  large = ltb node_limit (nodes w) || ltb node_limit (faulty w) || ltb ahead_limit (ahead w)

  pub header_large : large ≡ true → false ≡ header_in_range w
  header_large t = sym (false_from_ne_true (header_in_range w) (λ e. go (header_sized w e) (ltb node_limit (nodes w)) refl (ltb node_limit (faulty w)) refl t))
    where
      go : Sized w → (x : Bool) → ltb node_limit (nodes w) ≡ x → (y : Bool) → ltb node_limit (faulty w) ≡ y → x || y || ltb ahead_limit (ahead w) ≡ true → ⊥
      go s true a y b c = omega (arith, s.few, ltb-true node_limit (nodes w) a)
      go s false a true b c = omega (arith, s.few, s.faulty, ltb-true node_limit (faulty w) b)
      go s false a false b c = omega (arith, s.near, ltb-true ahead_limit (ahead w) c)

-- the tests as the code joins them, from the left
pub in_order : (a b c d e f g h i j k l m n : Bool) → a && b && c && d && e && f && g && h && i && j && k && l && m && n
    ≡ all_hold (a ∷ b ∷ c ∷ d ∷ e ∷ f ∷ g ∷ h ∷ i ∷ j ∷ k ∷ l ∷ m ∷ n ∷ [])
unfolding all_hold
in_order a b c d e f g h i j k l m n = simp (and_assoc, and-true)

-- the words that are 0 are joined and tested once
or_zero : (a b : ℕ) → eqb (bit_or a b) 0 ≡ (eqb a 0 && eqb b 0)
or_zero a b = none_below (bit_or a b) ∙ join_below a b 0 ∙ sym (rw (none_below a, none_below b))

pub vacant_zero : (w : List ℕ) → eqb (bit_or (bit_or (get_or w 13 0) (get_or w 14 0)) (get_or w 15 0)) 0 ≡ all_from (λ x. eqb x 0) (header_length - vacant_at) vacant_at w
unfolding all_from
vacant_zero w =
    rw (or_zero (bit_or (get_or w 13 0) (get_or w 14 0)) (get_or w 15 0), or_zero (get_or w 13 0) (get_or w 14 0), and-true (eqb (get_or w 15 0) 0))
    (and_assoc (eqb (get_or w 13 0) 0) (eqb (get_or w 14 0) 0) (eqb (get_or w 15 0) 0))

-- EPOCHS: one more, or none left
module _ (w : List ℕ) (ok : Bool) (start places place l : ℕ) where
  pub epochs_turn : place < places → l ≡ epoch_length (nodes w) → (here : Bool)
      → here ≡ epoch_in_range (strategy_of w) (nodes w) (take (start + place * l + l - (start + place * l)) (drop (start + place * l) w))
      → (ok && here) && epochs_in_range w (places - (place + 1)) (start + (place + 1) * l) ≡ ok && epochs_in_range w (places - place) (start + place * l)
  unfolding epochs_in_range
  epochs_turn h z here r =
      let e : places - place ≡ suc (places - (place + 1)) = omega arith in
      let y : start + place * l + l - (start + place * l) ≡ epoch_length (nodes w) = omega arith in
      let x : start + (place + 1) * l ≡ start + place * l + epoch_length (nodes w) = omega (arith, add-mul place 1 l) in
      rw (e, r, y, x) (and_assoc ok _ _)

  pub epochs_over : places ≤ place → ok ≡ (ok && epochs_in_range w (places - place) (start + place * l))
  unfolding epochs_in_range
  epochs_over h =
      let e : places - place ≡ 0 = omega arith in
      rw e (sym (and-true ok))

-- a part of the state as long as an epoch is an epoch's words
pub part_epoch : (w : List ℕ) → StateWords w → (at l end : ℕ) → l ≡ epoch_length (nodes w) → end ≡ at + l → end ≤ length w → EpochWords (nodes w) (take (end - at) (drop at w))
part_epoch w h at l end z t f =
    record { few = h.few; long = length-take-le (end - at) (drop at w) (rw (length-drop at w) (omega arith)) ∙ omega arith }

-- THE STATE
module _ (w : List ℕ) where
  long_of : state_ok w ≡ true → length w ≡ state_length (nodes w) (ahead w)
  long_of e = (shaped w e).long

  pub ok_short : length w < header_length → false ≡ state_ok w
  ok_short h = sym (false_from_ne_true (state_ok w) (λ e. omega (arith, long_of e, header_first (nodes w))))

  pub ok_header : header_in_range w ≡ false → false ≡ state_ok w
  unfolding state_ok
  ok_header e = rw e

  pub ok_length : (length w ≡ state_length (nodes w) (ahead w) → ⊥) → false ≡ state_ok w
  ok_length h = sym (false_from_ne_true (state_ok w) (λ e. h (long_of e)))

  pub ok_epochs : header_in_range w ≡ true → length w ≡ state_length (nodes w) (ahead w) → epochs_in_range w (ahead w + 1) (epochs_at (nodes w)) ≡ state_ok w
  unfolding state_ok
  ok_epochs e l = rw (e, eq-eqb _ _ l)

  pub header_words : header_in_range w ≡ true → length w ≡ state_length (nodes w) (ahead w) → StateWords w
  unfolding header_tests
  header_words e l =
      record { few = (header_sized w e).few; near = (header_sized w e).near; epoch = leb-true _ _ (test_holds (header_tests w) e epoch_at); long = l }

  -- N and F have a figure on the sheet
  pub header_on_sheet : header_in_range w ≡ true → OnSheet (nodes w) (ahead w)
  header_on_sheet e = (omega (arith, (header_sized w e).faulty), (header_sized w e).few, (header_sized w e).near)

  -- WHAT A STATE IN RANGE GIVES
  module _ (ok : state_ok w ≡ true) where
    pub ok_on_sheet : OnSheet (nodes w) (ahead w)
    unfolding state_ok
    ok_on_sheet = header_on_sheet (and_parts _ _ (and_parts _ _ ok).0).0

    -- "the engine shall take the length from that same table"
    pub ok_by_sheet : length w ≡ get_or lengths (entry_of (nodes w) (ahead w)) 0
    ok_by_sheet = long_of ok ∙ sym (sheet_right _ _ ok_on_sheet)

    pub ok_words : StateWords w
    unfolding state_ok
    ok_words = header_words (and_parts _ _ (and_parts _ _ ok).0).0 (long_of ok)

    -- its schedule divides
    pub ok_schedule : Divides (schedule_of (schedule w) (first_number w) (second_number w))
    unfolding header_tests
    ok_schedule = ok_divides (schedule w) (first_number w) (second_number w) (test w ok schedule_at)

    -- the list of contributions of each epoch is as the code requires it
    pub words_listed : (e : ℕ) → Listed (nodes w) (epoch_words w e)
    words_listed e = ok_listed (nodes w) (epoch_words w e) (words_in_range w ok e)
