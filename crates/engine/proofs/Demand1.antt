-- Every reply is one of those that the interface (include/belkjund.h) lists, and a refusal changes nothing.
use Rattle.std.proofs.Common.{ℕ, ◌+◌, ◌/◌, ◌≤◌, ◌<◌, arith, ◌≡◌, refl, sym, ap, ◌∙◌, List, [], ◌∷◌, ◌++◌, Bool, true, false, cond, not, true≢false, eqb, leb, ltb, length, get_or, drop, replicate, length-append, length-drop, drop_at, eqb-true, ne_eqb}
use Rattle.std.proofs.Math.Bool.{and-false}
use Rattle.std.proofs.Math.ListN.{get_or-append}
use Rattle.std.proofs.lemmas.Bool.{false≢true, lt-leb}
use Rattle.std.proofs.lemmas.List.{length-replicate, get_or-replicate}
use Rattle.steps.specs.Numbers.{last_epoch}
use Rattle.steps.specs.Answers.{tape_of}
use Rattle.steps.specs.Runs.{Verdict, going, refused, failed, number_of, Run}
use Rattle.state.specs.State.{current_epoch, fault_count, scratch_of, state_length, state_ok}
use Rattle.work.specs.HoneyBadger.{skip_to_epoch, has_input, received_proposals}
use Rattle.calls.specs.Calls.{After, after, zeroed, is_end, conclude_as, conclude, propose_after, propose_call, message_call, skip_reply, skip_state, query_reply, current_epoch_result, has_input_result, received_proposals_result, fault_count_result}
use Rattle.engine.specs.Create.{Numbers, numbers_ok, create_reply, create_state}
use Rattle.engine.specs.Demand1.{is_refusal, one_of, propose_failures, propose_replies, message_failures, message_replies, Promised}
use Rattle.work.proofs.FailureNumbers.{Meant, Only, only_propose, only_message}
use Rattle.calls.proofs.CheckCases.{by_branch, by_propose, by_message}

-- numbers of a list
more : (y : ℕ) (ys : List ℕ) (x : ℕ) → one_of ys x ≡ true → one_of (y ∷ ys) x ≡ true
unfolding one_of
more y ys x h = go (eqb x y)
  where
    go : (t : Bool) → cond t true (one_of ys x) ≡ true
    go true = refl
    go false = h

more_by : (ys zs : List ℕ) (x : ℕ) → one_of zs x ≡ true → one_of (ys ++ zs) x ≡ true
more_by [] zs x h = h
more_by (y ∷ ys) zs x h = more y (ys ++ zs) x (more_by ys zs x h)

abbrev AllHigh : List ℕ → Type 0
AllHigh [] = Unit {0}
AllHigh (y ∷ ys) = (20 ≤ y) × AllHigh ys

high : (ys : List ℕ) (x : ℕ) → AllHigh ys → one_of ys x ≡ true → 20 ≤ x
unfolding one_of
high [] x a h = absurd (false≢true h)
high (y ∷ ys) x a h = go (eqb x y) refl h (high ys x a.1)
  where
    go : (t : Bool) → eqb x y ≡ t → cond t true (one_of ys x) ≡ true → (one_of ys x ≡ true → 20 ≤ x) → 20 ≤ x
    go true e k ih = omega (arith, eqb-true x y e, a.0)
    go false e k ih = ih k

-- a call, by its branches
module _ (replies state scratch step : List ℕ) where
  abbrev Fine : After → Type 0
  Fine r = Promised replies state scratch step r

  -- 3 and 4 leave the scratch too
  fine_first : (n : ℕ) → one_of replies n ≡ true → one_of (3 ∷ 4 ∷ []) n ≡ true → Fine (after n state scratch step)
  fine_first n l o = record { listed = l; refusal = λ _. (refl, refl); zeros = rw o; room = λ h. absurd (true≢false (sym o ∙ h)) }

  -- a refusal, or success, with the scratch zeroed
  module _ (room : scratch_of state ≤ length scratch) where
    fine_refusal : (n : ℕ) → one_of replies n ≡ true → one_of (3 ∷ 4 ∷ []) n ≡ false → Fine (after n state (zeroed state scratch) step)
    fine_refusal n l o = record { listed = l; refusal = λ _. (refl, refl); zeros = rw o; room = λ _. room }

    fine_end : (n : ℕ) (state' step' : List ℕ) → one_of replies n ≡ true → one_of (3 ∷ 4 ∷ []) n ≡ false → is_refusal n ≡ false
        → Fine (after n state' (zeroed state scratch) step')
    fine_end n state' step' l o i =
        record { listed = l; refusal = λ h. absurd (true≢false (sym h ∙ i)); zeros = rw o; room = λ _. room }

    low_not : (n : ℕ) → 20 ≤ n → one_of (3 ∷ 4 ∷ []) n ≡ false
    unfolding one_of
    low_not n h = rw (ne_eqb n 3 (λ e. omega arith), ne_eqb n 4 (λ e. omega arith))

    refusal_not : (n : ℕ) → 20 ≤ n → is_refusal n ≡ false
    refusal_not n h = rw (lt-leb n 12 (omega arith)) (and-false (leb 1 n))

    module _ (l_0 : one_of replies 0 ≡ true) (l_8 : one_of replies 8 ≡ true) (l_9 : one_of replies 9 ≡ true)
        (l_10 : one_of replies 10 ≡ true) (failures : List ℕ) (among : (x : ℕ) → one_of failures x ≡ true → one_of replies x ≡ true) (far : AllHigh failures) where
      fine_conclude : (r : Run (List ℕ) (Unit {0})) (epoch : ℕ) → Only (one_of failures) r → Fine (conclude r epoch state (zeroed state scratch) step)
      unfolding conclude_as number_of one_of
      fine_conclude r epoch h = go r.verdict h.fails
        where
          go : (v : Verdict (Unit {0})) → Meant (one_of failures) v → Fine (conclude_as v r epoch state (zeroed state scratch) step)
          go refused m = fine_refusal 8 l_8 refl
          go (going _) m =
              by_branch Fine (not (is_end r.tape.rest)) (λ _. fine_refusal 9 l_9 refl)
              (λ _. by_branch Fine (ltb (length step / 4) (1 + length r.log)) (λ _. fine_refusal 10 l_10 refl) (λ _. fine_end 0 _ _ l_0 refl refl))
          go (failed error) m =
              by_branch Fine (not (is_end r.tape.rest)) (λ _. fine_refusal 9 l_9 refl)
              (λ _. by_branch Fine (ltb (length step / 4) 1) (λ _. fine_refusal 10 l_10 refl)
              (λ _. fine_end error _ _ (among error m) (low_not error (high failures error far m)) (refusal_not error (high failures error far m))))

-- PROPOSE. With a further check, whose replies are `others`
abbrev propose_calls : List ℕ
propose_calls = 0 ∷ 3 ∷ 4 ∷ 5 ∷ 6 ∷ 8 ∷ 9 ∷ 10 ∷ []

pub propose_after_promised : (others state scratch answers step : List ℕ) (g : ℕ) → one_of (others ++ propose_replies) g ≡ true → one_of (3 ∷ 4 ∷ []) g ≡ false
    → Promised (others ++ propose_replies) state scratch step (propose_after state scratch answers step g)
unfolding one_of
propose_after_promised others state scratch answers step g more_g not_g =
    by_propose (Fine replies state scratch step) state scratch answers step
    (fine_first replies state scratch step 3 (old 3 refl) refl) (fine_first replies state scratch step 4 (old 4 refl) refl)
    (λ room. turned room 5 (old 5 refl) refl) (λ room. turned room 6 (old 6 refl) refl) g (λ _ room. turned room g more_g not_g)
    (λ c. fine_conclude replies state scratch step c.room (old 0 refl) (old 8 refl) (old 9 refl) (old 10 refl)
    propose_failures (λ x m. old x (more_by propose_calls propose_failures x m)) far
    _ (current_epoch state) (only_propose (one_of propose_failures) refl refl refl refl refl state c.ok (tape_of answers)))
  where
    replies : List ℕ
    replies = others ++ propose_replies

    old : (x : ℕ) → one_of propose_replies x ≡ true → one_of replies x ≡ true
    old x h = more_by others propose_replies x h

    turned : scratch_of state ≤ length scratch → (n : ℕ) → one_of replies n ≡ true → one_of (3 ∷ 4 ∷ []) n ≡ false → Promised replies state scratch step (after n state (zeroed state scratch) step)
    turned = fine_refusal replies state scratch step

    far : AllHigh propose_failures
    far = (omega arith, (omega arith, (omega arith, (omega arith, (omega arith, tt)))))

pub propose_promised : (state scratch answers step : List ℕ) → Promised propose_replies state scratch step (propose_call state scratch answers step)
unfolding one_of
propose_promised state scratch answers step = propose_after_promised [] state scratch answers step 0 refl refl

-- MESSAGE
abbrev message_calls : List ℕ
message_calls = 0 ∷ 3 ∷ 4 ∷ 5 ∷ 6 ∷ 7 ∷ 8 ∷ 9 ∷ 10 ∷ 11 ∷ []

pub message_promised : (state scratch answers step : List ℕ) (sender epoch content proposer item : ℕ)
    → Promised message_replies state scratch step (message_call state scratch answers step sender epoch content proposer item)
unfolding one_of
message_promised state scratch answers step sender epoch content proposer item =
    by_message (Fine message_replies state scratch step) state scratch answers step
    (fine_first message_replies state scratch step 3 refl refl) (fine_first message_replies state scratch step 4 refl refl)
    (λ room. turned room 5 refl refl) (λ room. turned room 6 refl refl) (λ room. turned room 11 refl refl) (λ room. turned room 7 refl refl)
    sender epoch content proposer item
    (λ c _. fine_conclude message_replies state scratch step c.room refl refl refl refl
    message_failures (more_by message_calls message_failures) far
    _ epoch (only_message (one_of message_failures) refl refl refl refl sender epoch proposer _ state c.ok (tape_of answers)))
  where
    turned : scratch_of state ≤ length scratch → (n : ℕ) → one_of message_replies n ≡ true → one_of (3 ∷ 4 ∷ []) n ≡ false
        → Promised message_replies state scratch step (after n state (zeroed state scratch) step)
    turned = fine_refusal message_replies state scratch step

    far : AllHigh message_failures
    far = (omega arith, (omega arith, (omega arith, (omega arith, tt))))

-- SCRATCH: "the first state-length words of scratch are zero, the rest untouched"
module _ (state scratch : List ℕ) where
  pub zeroed_length : scratch_of state ≤ length scratch → length (zeroed state scratch) ≡ length scratch
  unfolding zeroed
  zeroed_length h = simp (length-append, length-replicate, length-drop) (omega arith)

  pub zeroed_first : (i : ℕ) → i < scratch_of state → get_or (zeroed state scratch) i 0 ≡ 0
  unfolding zeroed
  zeroed_first i h =
      get_or-append (replicate (scratch_of state) 0) (drop (scratch_of state) scratch) 0 i (simp length-replicate h)
      ∙ get_or-replicate (scratch_of state) i 0 0 h

  pub zeroed_rest : drop (scratch_of state) (zeroed state scratch) ≡ drop (scratch_of state) scratch
  unfolding zeroed
  zeroed_rest = drop_at (replicate (scratch_of state) 0) (drop (scratch_of state) scratch) (scratch_of state) (length-replicate (scratch_of state) 0)

-- SKIP and CREATE: a refusal leaves the state, and the reply is one of those listed
pub skip_refusal : (target : ℕ) (w : List ℕ) → is_refusal (skip_reply target w) ≡ true → skip_state target w ≡ w
unfolding skip_state
skip_refusal target w h = rw (ne_eqb (skip_reply target w) 0 (λ e. absurd (true≢false (sym h ∙ ap is_refusal e))))

pub skip_replies : (target : ℕ) (w : List ℕ) → one_of (0 ∷ 3 ∷ 12 ∷ []) (skip_reply target w) ≡ true
unfolding skip_reply one_of
skip_replies target w = go (not (state_ok w)) (ltb last_epoch target)
  where
    go : (s t : Bool) → one_of (0 ∷ 3 ∷ 12 ∷ []) (cond s 3 (cond t 12 0)) ≡ true
    go true t = refl
    go false true = refl
    go false false = refl

pub create_refusal : (c : Numbers) (w : List ℕ) → is_refusal (create_reply c w) ≡ true → create_state c w ≡ w
unfolding create_state
create_refusal c w h = rw (ne_eqb (create_reply c w) 0 (λ e. absurd (true≢false (sym h ∙ ap is_refusal e))))

pub create_replies : (c : Numbers) (w : List ℕ) → one_of (0 ∷ 1 ∷ 2 ∷ []) (create_reply c w) ≡ true
unfolding create_reply one_of
create_replies c w = go (not (numbers_ok c)) (eqb (length w) (state_length c.nodes c.ahead))
  where
    go : (s t : Bool) → one_of (0 ∷ 1 ∷ 2 ∷ []) (cond s 1 (cond t 0 2)) ≡ true
    go true t = refl
    go false true = refl
    go false false = refl

-- QUERIES: a refusal leaves the result
pub query_refusal : (w : List ℕ) → is_refusal (query_reply w) ≡ true → (result : ℕ)
    → (current_epoch_result w result ≡ result) × (has_input_result w result ≡ result) × (received_proposals_result w result ≡ result) × (fault_count_result w result ≡ result)
unfolding query_reply current_epoch_result has_input_result received_proposals_result fault_count_result
query_refusal w h result = go (state_ok w) refl h
  where
    go : (t : Bool) → state_ok w ≡ t → is_refusal (cond t 0 3) ≡ true
        → (cond t (current_epoch w) result ≡ result) × (cond t (cond (has_input w) 1 0) result ≡ result) × (cond t (received_proposals w) result ≡ result) × (cond t (fault_count w) result ≡ result)
    go true e h = absurd (false≢true h)
    go false e h = (refl, refl, refl, refl)

pub query_replies : (w : List ℕ) → one_of (0 ∷ 3 ∷ []) (query_reply w) ≡ true
unfolding query_reply one_of
query_replies w = go (state_ok w)
  where
    go : (t : Bool) → one_of (0 ∷ 3 ∷ []) (cond t 0 3) ≡ true
    go true = refl
    go false = refl

-- SKIP: its reply depends on the target and on whether the state is one, and with reply 0 it is this skip
pub skip_reply_lem : (target : ℕ) (w v : List ℕ) → state_ok w ≡ state_ok v → skip_reply target w ≡ skip_reply target v
unfolding skip_reply
skip_reply_lem target w v h = rw h

pub skip_state_lem : (target : ℕ) (w : List ℕ) → skip_reply target w ≡ 0 → skip_state target w ≡ skip_to_epoch target w
unfolding skip_state
skip_state_lem target w h = rw h
