-- What was asked for of the kinds 3 to 7 between a chain of answers and its rest: the parts of a subset call, and answers of other kinds before and after it. Assumes nothing.
use Rattle.std.proofs.Common.{ℕ, ◌≤◌, ◌<◌, ◌≡◌, refl, sym, ap, ◌∙◌, ◌≢◌, ◌⊎◌, inl, inr, List, [], Bool, true, false, ◌&&◌, ◌||◌, not, Option, None, Some, arith, eqb, leb, leb-true, le-leb}
use Rattle.std.proofs.lemmas.Bool.{and_parts, false≢true}
use Rattle.std.proofs.Math.Bool.{or-false}
use Rattle.network.specs.declared.network_info.NetworkInfo.{NetworkInfo}
use Rattle.network.specs.Network.{num_correct}
use Rattle.steps.specs.Answers.{Rec}
use Rattle.steps.specs.Table.{within}
use Rattle.steps.specs.Taken.{or_else, is_there, first_taken, of_value, is_asked, ones_from}
use Rattle.steps.proofs.TakenFromChain.{or_else_none, no_part, apart, low_no_part, Heard}
use Rattle.steps.proofs.GivenWithLog.{Neither}
use Rattle.steps.proofs.ReadByKinds.{Past, Others, past_first, past_asked}
use Rattle.subset.proofs.TakenTests.{ones_same}

-- kinds of a range are of a wider one
wider : (lo hi lo' hi' k : ℕ) → lo' ≤ lo → hi ≤ hi' → within lo hi k ≡ true → within lo' hi' k ≡ true
wider lo hi lo' hi' k a b e =
    let t = and_parts (leb lo k) (leb k hi) e in
    rw (le-leb lo' k (omega (arith, leb-true lo k t.0)), le-leb k hi' (omega (arith, leb-true k hi t.1)))

pub value_low : (k : ℕ) → of_value k ≡ true → within 3 6 k ≡ true
value_low k e = wider 3 4 3 6 k (omega arith) (omega arith) e

low_subset : (k : ℕ) → within 3 6 k ≡ true → within 3 7 k ≡ true
low_subset k e = wider 3 6 3 7 k (omega arith) (omega arith) e

-- what is none of the subset's kinds is none of some of them
none_of : (of : ℕ → Bool) → ((k : ℕ) → of k ≡ true → within 3 7 k ≡ true) → (k : ℕ) → within 3 7 k ≡ false → of k ≡ false
none_of of f k e = go (of k) refl
  where
    go : (x : Bool) → of k ≡ x → x ≡ false
    go true z = absurd (false≢true (sym e ∙ f k z))
    go false z = refl

-- NOTHING ASKED FOR, votes 0 apart, and no value and no decision of a 5 or 6 told, between ws and r
pub record Still (ws r : List Rec) : Type 0 where
  pub value : (q : ℕ) → first_taken of_value q ws ≡ first_taken of_value q r
  pub early : (q : ℕ) → first_taken (within 5 6) q ws ≡ first_taken (within 5 6) q r
  pub low : (k : ℕ) → within 3 6 k ≡ true → (q : ℕ) → is_asked k q ws ≡ is_asked k q r

pub still_same : (ws : List Rec) → Still ws ws
still_same ws = record { value = λ q. refl; early = λ q. refl; low = λ k e q. refl }

pub still_then : {ws r z : List Rec} → Still ws r → Still r z → Still ws z
still_then a b = record { value = λ q. a.value q ∙ b.value q; early = λ q. a.early q ∙ b.early q; low = λ k e q. a.low k e q ∙ b.low k e q }

-- a vote 0
pub still_vote : (n p : ℕ) (ws : List Rec) (o : Option ℕ) (r : List Rec) → Heard n 7 p ws o r → Still ws r
unfolding or_else
still_vote n p ws o r h = record {
  value = λ q. h.first of_value (low_no_part 3 4 (omega arith)) q;
  early = λ q. h.first (within 5 6) (low_no_part 5 6 (omega arith)) q;
  low = λ k e q. h.asking k (no_part (within 3 6) (low_no_part 3 6 (omega arith)) k e) q ∙ rw (apart (within 3 6) 7 k refl e);
}

-- not even a vote 0
pub record Untold (ws r : List Rec) : Type 0 where
  pub still : Still ws r
  pub zero : (q : ℕ) → is_asked 7 q ws ≡ is_asked 7 q r

pub untold_same : (ws : List Rec) → Untold ws ws
untold_same ws = record { still = still_same ws; zero = λ q. refl }

pub untold_neither : {ws r : List Rec} → Neither ws r → Untold ws r
untold_neither a = record { still = record { value = a.value; early = a.early; low = λ k e q. a.asks k (low_subset k e) q }; zero = λ q. a.asks 7 refl q }

-- by answers of other kinds
pub untold_past : (is : ℕ → Bool) → Others is (within 3 7) → (ws r : List Rec) → Past is ws r → Untold ws r
untold_past is f ws r p = record {
  still = record {
    value = past_first is of_value (λ k e. none_of of_value (λ j. wider 3 4 3 7 j (omega arith) (omega arith)) k (f k e)) p;
    early = past_first is (within 5 6) (λ k e. none_of (within 5 6) (λ j. wider 5 6 3 7 j (omega arith) (omega arith)) k (f k e)) p;
    low = λ k e q. past_asked is k (λ j z. apart (within 3 7) j k (f j z) (low_subset k e)) p q;
  };
  zero = λ q. past_asked is 7 (λ j z. apart (within 3 7) j 7 (f j z) refl) p q;
}

-- THE FIRST PART of a call, before any vote 0. v and d: the values and decisions taken before the call
pub record Opened (v d : ℕ → Option ℕ) (ws r : List Rec) : Type 0 where
  -- the values that came
  pub came : ℕ → Option ℕ
  pub value : (q : ℕ) → first_taken of_value q ws ≡ or_else (came q) (first_taken of_value q r)
  pub one : (q : ℕ) → is_asked 6 q ws ≡ ((is_there (came q) && not (is_there (d q))) || is_asked 6 q r)
  pub broadcast : (k q : ℕ) → of_value k ≡ true → is_asked k q ws ≡ true → ((v q ≡ None) × (d q ≢ Some 0)) ⊎ (is_asked k q r ≡ true)
  pub agreement : (q : ℕ) → is_asked 5 q ws ≡ true → (d q ≡ None) ⊎ (is_asked 5 q r ≡ true)

-- A CALL: `speaks` tells whether it comes to the subset
pub record Voted (net : NetworkInfo) (speaks : Bool) (v d : ℕ → Option ℕ) (ws r : List Rec) : Type 0 where
  pub opened : Opened v d ws r
  -- the decisions before the round of votes 0
  pub before : ℕ → Option ℕ
  pub early : (q : ℕ) → or_else (d q) (first_taken (within 5 6) q ws) ≡ or_else (before q) (first_taken (within 5 6) q r)
  pub zero : (q : ℕ) → q < net.num_nodes
      → is_asked 7 q ws ≡ ((speaks && (eqb (ones_from before net.num_nodes 0) (num_correct net) && not (is_there (before q)))) || is_asked 7 q r)

module _ (v d : ℕ → Option ℕ) where
  pub opened_none : (ws : List Rec) → Opened v d ws ws
  unfolding or_else is_there
  opened_none ws = record { came = λ q. None; value = λ q. refl; one = λ q. refl; broadcast = λ k q e a. inr a; agreement = λ q a. inr a }

  pub opened_after : {ws u r : List Rec} → Opened v d ws u → Still u r → Opened v d ws r
  opened_after a s = record {
    came = a.came;
    value = λ q. a.value q ∙ ap (or_else (a.came q)) (s.value q);
    one = λ q. a.one q ∙ ap (λ x. (is_there (a.came q) && not (is_there (d q))) || x) (s.low 6 refl q);
    broadcast = λ k q e z. on (s.low k (value_low k e) q) (a.broadcast k q e z);
    agreement = λ q z. on (s.low 5 refl q) (a.agreement q z);
  }
    where
      on : {P : Type 0} {x y : Bool} → x ≡ y → P ⊎ (x ≡ true) → P ⊎ (y ≡ true)
      on e (inl p) = inl p
      on e (inr t) = inr (sym e ∙ t)

  pub opened_before : {ws u r : List Rec} → Still ws u → Opened v d u r → Opened v d ws r
  opened_before s a = record {
    came = a.came;
    value = λ q. s.value q ∙ a.value q;
    one = λ q. s.low 6 refl q ∙ a.one q;
    broadcast = λ k q e z. a.broadcast k q e (sym (s.low k (value_low k e) q) ∙ z);
    agreement = λ q z. a.agreement q (sym (s.low 5 refl q) ∙ z);
  }

module _ (net : NetworkInfo) (v d : ℕ → Option ℕ) where
  -- no call of the subset
  pub voted_still : {ws r : List Rec} → Untold ws r → Voted net false v d ws r
  voted_still {r = r} u = record {
    opened = opened_before v d u.still (opened_none v d r);
    before = d;
    early = λ q. ap (or_else (d q)) (u.still.early q);
    zero = λ q l. u.zero q;
  }

  -- a call of a subset in which every agreement has decided asks nothing
  pub voted_done : (speaks : Bool) → ((q : ℕ) → q < net.num_nodes → is_there (d q) ≡ true) → (ws : List Rec) → Voted net speaks v d ws ws
  voted_done speaks f ws = record {
    opened = opened_none v d ws;
    before = d;
    early = λ q. refl;
    zero = λ q l. rw (f q l, no_vote speaks (eqb (ones_from d net.num_nodes 0) (num_correct net)));
  }
    where
      no_vote : (x y : Bool) → x && (y && false) ≡ false
      no_vote true true = refl
      no_vote true false = refl
      no_vote false y = refl

  -- and then nothing is told
  pub voted_after : (speaks : Bool) {ws u r : List Rec} → Voted net speaks v d ws u → Untold u r → Voted net speaks v d ws r
  voted_after speaks k u = record {
    opened = opened_after v d k.opened u.still;
    before = k.before;
    early = λ q. k.early q ∙ ap (or_else (k.before q)) (u.still.early q);
    zero = λ q l. k.zero q l ∙ ap (λ x. (speaks && (eqb (ones_from k.before net.num_nodes 0) (num_correct net) && not (is_there (k.before q)))) || x) (u.zero q);
  }

  -- before it nothing is told
  pub voted_before : (speaks : Bool) {ws u r : List Rec} → Untold ws u → Voted net speaks v d u r → Voted net speaks v d ws r
  voted_before speaks u k = record {
    opened = opened_before v d u.still k.opened;
    before = k.before;
    early = λ q. ap (or_else (d q)) (u.still.early q) ∙ k.early q;
    zero = λ q l. u.zero q ∙ k.zero q l;
  }

-- A CALL THAT READ ITS WHOLE CHAIN
pub record Whole (net : NetworkInfo) (speaks : Bool) (v d : ℕ → Option ℕ) (ws : List Rec) : Type 0 where
  pub one : (q : ℕ) → is_asked 6 q ws ≡ (is_there (first_taken of_value q ws) && not (is_there (d q)))
  pub zero : (q : ℕ) → q < net.num_nodes
      → is_asked 7 q ws
      ≡ (speaks && (eqb (ones_from (λ p. or_else (d p) (first_taken (within 5 6) p ws)) net.num_nodes 0) (num_correct net) && not (is_there (or_else (d q) (first_taken (within 5 6) q ws)))))
  pub broadcast : (k q : ℕ) → of_value k ≡ true → is_asked k q ws ≡ true → (v q ≡ None) × (d q ≢ Some 0)
  pub agreement : (q : ℕ) → is_asked 5 q ws ≡ true → d q ≡ None

pub voted_whole : (net : NetworkInfo) (speaks : Bool) (v d : ℕ → Option ℕ) (ws : List Rec) → Voted net speaks v d ws [] → Whole net speaks v d ws
unfolding first_taken is_asked or_else
voted_whole net speaks v d ws k =
    let before : (p : ℕ) → or_else (d p) (first_taken (within 5 6) p ws) ≡ k.before p = λ p. k.early p ∙ or_else_none (k.before p) in
    record {
      one = λ q. k.opened.one q ∙ or-false _ ∙ ap (λ x. is_there x && not (is_there (d q))) (sym (k.opened.value q ∙ or_else_none (k.opened.came q)));
      zero = λ q l. rw (ones_same _ k.before before net.num_nodes 0, before q) (k.zero q l ∙ or-false _);
      broadcast = λ j q e a. ended (k.opened.broadcast j q e a);
      agreement = λ q a. ended (k.opened.agreement q a);
    }
  where
    ended : {P : Type 0} → P ⊎ (false ≡ true) → P
    ended (inl p) = p
    ended (inr e) = absurd (false≢true e)
