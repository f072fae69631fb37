-- THE CHECKS apart from the run: with what follows them they are the calls of Calls.antt; and what a reply of theirs says. Assumes nothing.
use Rattle.std.proofs.Common.{Ok, Err, ℕ, ◌≤◌, ◌<◌, arith, ◌≡◌, refl, sym, ap, ◌∙◌, List, Bool, true, false, cond, not, ◌&&◌, true≢false, eqb, leb, ltb, length, eqb-true, eq-eqb, ne_eqb, le-leb, lt-ltb, le-ltb, ltb-true, ltb-false, leb-false}
use Rattle.std.proofs.lemmas.Bool.{and_parts, false≢true, lt-leb}
use Rattle.steps.specs.Numbers.{last_epoch}
use Rattle.steps.specs.Table.{within, shape_ok, table_ok}
use Rattle.steps.specs.Answers.{Tape, tape_of}
use Rattle.steps.proofs.TableCheck.{shape_length}
use Rattle.epoch.specs.declared.MessageContent.{MessageContent}
use Rattle.state.proofs.WordsCode.{header_inside}
use Rattle.state.specs.State.{header_length, nodes, current_epoch, scratch_of, state_ok}
use Rattle.state.specs.Shape.{StateWords}
use Rattle.state.proofs.RangeCode.{ok_words}
use Rattle.work.specs.declared.honey_badger.Call.TheVariants.{Propose, Message}
use Rattle.work.specs.HoneyBadger.{propose, handle_message}
use Rattle.calls.specs.Calls.{After, after, zeroed, conclude, content_ok, item_ok, content_of, propose_after, propose_call, message_call}
use Rattle.calls.specs.declared.refusal.Refusal.{Refusal}
use Rattle.calls.specs.declared.refusal.Refusal.TheVariants.{NumbersOutOfRange, WrongStateLength, NotAState, ScratchTooShort, AnswersMalformed, EpochTooHigh, MessageMalformed, AnswerNotNext, AnswersUnread, StepTableTooShort, UnknownSender, TargetTooHigh}
use Rattle.calls.specs.Refusals.{refusal_number, reply_of}
use Rattle.calls.specs.Checks.{content_told, then_check, first_checks, epoch_check, message_check, propose_checks, message_checks, leaves_scratch, after_checks}
use Rattle.calls.specs.Shape.{Callable}

-- no refusal has the number of success
pub no_success : (r : Refusal) → refusal_number r ≡ 0 → ⊥
no_success NumbersOutOfRange e = omega arith
no_success WrongStateLength e = omega arith
no_success NotAState e = omega arith
no_success ScratchTooShort e = omega arith
no_success AnswersMalformed e = omega arith
no_success EpochTooHigh e = omega arith
no_success MessageMalformed e = omega arith
no_success AnswerNotNext e = omega arith
no_success AnswersUnread e = omega arith
no_success StepTableTooShort e = omega arith
no_success UnknownSender e = omega arith
no_success TargetTooHigh e = omega arith

-- TWO CHECKS, one after the other
module _ (a b : ℕ) where
  pub then_passed : (k : ℕ) → 0 ≡ a → k ≡ b → k ≡ then_check a b
  unfolding then_check
  then_passed k z e = rw (← z) e

  pub then_refused : (r : Refusal) → refusal_number r ≡ a → refusal_number r ≡ then_check a b
  unfolding then_check
  then_refused r e = rw (← e, ne_eqb (refusal_number r) 0 (no_success r))

  -- where both pass
  pub then_both : then_check a b ≡ 0 → (a ≡ 0) × (b ≡ 0)
  unfolding then_check
  then_both e = go (eqb a 0) refl e
    where
      go : (t : Bool) → eqb a 0 ≡ t → cond t b a ≡ 0 → (a ≡ 0) × (b ≡ 0)
      go true z e = (eqb-true a 0 z, e)
      go false z e = absurd (true≢false (sym (eq-eqb a 0 e) ∙ z))

  -- a reply that the first has not is the second's
  pub then_past : leaves_scratch (then_check a b) ≡ false → leaves_scratch a ≡ false
  unfolding then_check
  then_past e = go (eqb a 0) refl e
    where
      go : (t : Bool) → eqb a 0 ≡ t → leaves_scratch (cond t b a) ≡ false → leaves_scratch a ≡ false
      go true z e = ap (leaves_scratch) (eqb-true a 0 z)
      go false z e = e

-- A MESSAGE'S OWN REPLIES, by their tests
module _ (sender content proposer item : ℕ) (state : List ℕ) where
  pub message_sender : nodes state ≤ sender → 11 ≡ message_check sender content proposer item state
  unfolding message_check
  message_sender l = rw (le-leb _ _ l)

  module _ (node : sender < nodes state) where
    pub message_proposer : nodes state ≤ proposer → 7 ≡ message_check sender content proposer item state
    unfolding message_check content_ok
    message_proposer l = rw (lt-leb _ _ node, le-ltb _ _ l) (go (within 1 3 content))
      where
        go : (t : Bool) → ◌≡◌ {A = ℕ} 7 (cond (not (t && false)) 7 (cond (not (item_ok content item)) 7 0))
        go true = refl
        go false = refl

    -- what the content and its item are read as
    pub message_read : proposer < nodes state → reply_of (content_told content item) ≡ message_check sender content proposer item state
    unfolding message_check content_ok
    message_read l = rw (lt-leb _ _ node, lt-ltb _ _ l) (go (within 1 3 content) (item_ok content item))
      where
        go : (t u : Bool) → reply_of (cond (t && u) (Ok (content_of content item)) (Err MessageMalformed)) ≡ cond (not (t && true)) 7 (cond (not u) 7 0)
        go true true = refl
        go true false = refl
        go false u = refl

-- WHAT THE REPLIES SAY
module _ (state : List ℕ) (scratch : ℕ) (answers : List ℕ) where
  -- neither 3 nor 4
  pub first_past : leaves_scratch (first_checks state scratch answers) ≡ false → (state_ok state ≡ true) × (scratch_of state ≤ scratch)
  unfolding first_checks
  first_past e = go (state_ok state) (ltb scratch (scratch_of state)) (table_ok (nodes state) answers) refl refl e
    where
      go : (a b c : Bool) → state_ok state ≡ a → ltb scratch (scratch_of state) ≡ b → leaves_scratch (cond (not a) 3 (cond b 4 (cond (not c) 5 0))) ≡ false
          → (state_ok state ≡ true) × (scratch_of state ≤ scratch)
      go false b c x y e = absurd (true≢false e)
      go true true c x y e = absurd (true≢false e)
      go true false c x y e = (x, ltb-false _ _ y)

  pub first_ok : first_checks state scratch answers ≡ 0 → state_ok state ≡ true
  first_ok e = (first_past (ap (leaves_scratch) e)).0

  pub first_header : 0 ≡ first_checks state scratch answers → header_length ≤ length state
  first_header e = header_inside state (ok_words state (first_ok (sym e)))

  pub first_passed : first_checks state scratch answers ≡ 0 → table_ok (nodes state) answers ≡ true
  unfolding first_checks
  first_passed e = go (state_ok state) (ltb scratch (scratch_of state)) (table_ok (nodes state) answers) refl e
    where
      go : (a b c : Bool) → table_ok (nodes state) answers ≡ c → ◌≡◌ {A = ℕ} (cond (not a) 3 (cond b 4 (cond (not c) 5 0))) 0 → table_ok (nodes state) answers ≡ true
      go a b true x e = x
      go true false false x e = absurd (omega arith)
      go true true false x e = absurd (omega arith)
      go false b false x e = absurd (omega arith)

pub table_first : (n : ℕ) (answers : List ℕ) → table_ok n answers ≡ true → 4 ≤ length answers
unfolding table_ok
table_first n answers e = go (shape_ok answers) _ refl e
  where
    go : (t u : Bool) → shape_ok answers ≡ t → cond t u false ≡ true → 4 ≤ length answers
    go true u z e = shape_length answers z
    go false u z e = absurd (false≢true e)

module _ (sender content proposer item : ℕ) (state : List ℕ) where
  pub message_passed : message_check sender content proposer item state ≡ 0 → (sender < nodes state) × (proposer < nodes state)
  unfolding message_check content_ok
  message_passed e = go (leb (nodes state) sender) (content_ok (nodes state) content proposer) (item_ok content item) refl refl e
    where
      go : (a b c : Bool) → leb (nodes state) sender ≡ a → content_ok (nodes state) content proposer ≡ b
          → ◌≡◌ {A = ℕ} (cond a 11 (cond (not b) 7 (cond (not c) 7 0))) 0 → (sender < nodes state) × (proposer < nodes state)
      go true b c x y e = absurd (omega arith)
      go false false c x y e = absurd (omega arith)
      go false true c x y e = (leb-false _ _ x, ltb-true _ _ (and_parts (within 1 3 content) _ y).1)

-- WHAT THE CHECKS LET PASS, whatever follows the first three
module _ (state : List ℕ) (k : ℕ) (answers : List ℕ) (b : ℕ) where
  pub passed_words : 0 ≡ then_check (first_checks state k answers) b → StateWords state
  passed_words e = ok_words state (first_ok state k answers (then_both _ _ (sym e)).0)

  pub passed_room : 0 ≡ then_check (first_checks state k answers) b → scratch_of state ≤ k
  passed_room e = (first_past state k answers (ap leaves_scratch (then_both _ _ (sym e)).0)).1

  -- turned down, but not by 3 or 4
  pub turned_past : (r : Refusal) → refusal_number r ≡ then_check (first_checks state k answers) b → leaves_scratch (refusal_number r) ≡ false
      → StateWords state × (scratch_of state ≤ k)
  turned_past r e h =
      let p = first_past state k answers (then_past _ _ (ap leaves_scratch (sym e) ∙ h)) in
      (ok_words state p.0, p.1)

-- A CALL MAY RUN where its checks answer 0
module _ (state scratch answers : List ℕ) where
  pub propose_callable : 0 ≡ propose_checks state (length scratch) answers → Callable Propose state scratch answers
  propose_callable e =
      let f = (then_both _ _ (sym e)).0 in
      let p = first_past state (length scratch) answers (ap (leaves_scratch) f) in
      let g = first_passed state (length scratch) answers f in
      record { ok = p.0; good = g; nodes = tt; room = p.1; first = table_first _ _ g }

  pub message_callable : (sender content proposer item : ℕ) (c : MessageContent) → 0 ≡ message_checks sender content proposer item state (length scratch) answers
      → Callable (Message sender proposer c) state scratch answers
  message_callable sender content proposer item c e =
      let b = then_both _ _ (sym e) in
      let p = first_past state (length scratch) answers (ap (leaves_scratch) b.0) in
      let g = first_passed state (length scratch) answers b.0 in
      record { ok = p.0; good = g; nodes = message_passed sender content proposer item state (then_both _ _ b.1).0; room = p.1; first = table_first _ _ g }

-- THE CALLS, by the reply of their checks
module _ (state scratch answers step : List ℕ) where
  pub propose_checked : propose_call state scratch answers step
      ≡ after_checks (propose_checks state (length scratch) answers) state scratch step
      (conclude (propose state (tape_of answers)) (current_epoch state) state (zeroed state scratch) step)
  unfolding propose_after then_check first_checks epoch_check after_checks
  propose_checked = go (state_ok state) (ltb (length scratch) (scratch_of state)) (table_ok (nodes state) answers) (ltb last_epoch (current_epoch state))
    where
      run : After
      run = conclude (propose state (tape_of answers)) (current_epoch state) state (zeroed state scratch) step

      go : (a b c d : Bool)
          → cond (not a) (after 3 state scratch step) (cond b (after 4 state scratch step) (cond (not c) (after 5 state (zeroed state scratch) step)
          (cond d (after 6 state (zeroed state scratch) step) run)))
          ≡ after_checks (then_check (cond (not a) 3 (cond b 4 (cond (not c) 5 0))) (cond d 6 0)) state scratch step run
      go false b c d = refl
      go true true c d = refl
      go true false false d = refl
      go true false true true = refl
      go true false true false = refl

  pub message_checked : (sender epoch content proposer item : ℕ) → message_call state scratch answers step sender epoch content proposer item
      ≡ after_checks (message_checks sender content proposer item state (length scratch) answers) state scratch step
      (conclude (handle_message sender epoch proposer (content_of content item) state (tape_of answers)) epoch state (zeroed state scratch) step)
  unfolding message_call then_check first_checks message_check epoch_check after_checks
  message_checked sender epoch content proposer item =
      go (state_ok state) (ltb (length scratch) (scratch_of state)) (table_ok (nodes state) answers) (leb (nodes state) sender)
      (content_ok (nodes state) content proposer) (item_ok content item) (ltb last_epoch (current_epoch state))
    where
      run : After
      run = conclude (handle_message sender epoch proposer (content_of content item) state (tape_of answers)) epoch state (zeroed state scratch) step

      -- turned down with scratch zeroed
      off : ℕ → After
      off k = after k state (zeroed state scratch) step

      go : (a b c s k i d : Bool)
          → cond (not a) (after 3 state scratch step) (cond b (after 4 state scratch step) (cond (not c) (off 5)
          (cond s (off 11) (cond (not k) (off 7) (cond (not i) (off 7) (cond d (off 6) run))))))
          ≡ after_checks (then_check (cond (not a) 3 (cond b 4 (cond (not c) 5 0)))
          (then_check (cond s 11 (cond (not k) 7 (cond (not i) 7 0))) (cond d 6 0))) state scratch step run
      go false b c s k i d = refl
      go true true c s k i d = refl
      go true false false s k i d = refl
      go true false true true k i d = refl
      go true false true false false i d = refl
      go true false true false true false d = refl
      go true false true false true true true = refl
      go true false true false true true false = refl

-- THE WAYS OUT of a call whose checks have answered r
module _ (state scratch step : List ℕ) (run : After) {call : After} {checks : ℕ} (is : call ≡ after_checks checks state scratch step run) (r : ℕ) (e : r ≡ checks) where
  by_reply : after_checks r state scratch step run ≡ call
  by_reply = ap (λ k. after_checks k state scratch step run) e ∙ sym is

  -- 3 and 4
  pub ends_first : leaves_scratch r ≡ true → after r state scratch step ≡ call
  unfolding after_checks
  ends_first t = go (eqb r 0) refl ∙ by_reply
    where
      go : (z : Bool) → eqb r 0 ≡ z → after r state scratch step ≡ cond z run (cond (leaves_scratch r) (after r state scratch step) (after r state (zeroed state scratch) step))
      go true z = absurd (true≢false (sym t ∙ ap (leaves_scratch) (eqb-true r 0 z)))
      go false z = rw t

  -- the other checks
  pub ends_turned : leaves_scratch r ≡ false → (r ≡ 0 → ⊥) → after r state (zeroed state scratch) step ≡ call
  unfolding after_checks
  ends_turned t n = rw (t, ne_eqb r 0 n) at by_reply

  pub ends_run : r ≡ 0 → run ≡ call
  unfolding after_checks
  ends_run z = rw z at by_reply

-- turned down, with scratch as the call leaves it
module _ (state scratch step : List ℕ) (run : After) {call : After} {checks : ℕ} (is : call ≡ after_checks checks state scratch step run) (r : Refusal) (e : refusal_number r ≡ checks) where
  pub ends_refused : (x : List ℕ) → (leaves_scratch (refusal_number r) ≡ true → x ≡ scratch) → (leaves_scratch (refusal_number r) ≡ false → x ≡ zeroed state scratch)
      → after (refusal_number r) state x step ≡ call
  ends_refused x left clear = go (leaves_scratch (refusal_number r)) refl
    where
      go : (t : Bool) → leaves_scratch (refusal_number r) ≡ t → after (refusal_number r) state x step ≡ call
      go true t = rw (left t) (ends_first state scratch step run is (refusal_number r) e t)
      go false t = rw (clear t) (ends_turned state scratch step run is (refusal_number r) e t (no_success r))

-- the content that was read is the one that the numbers stand for
pub same_content : (sender epoch proposer : ℕ) (state : List ℕ) (p : Tape) (scratch step : List ℕ) (c d : MessageContent) → c ≡ d
    → conclude (handle_message sender epoch proposer c state p) epoch state scratch step ≡ conclude (handle_message sender epoch proposer d state p) epoch state scratch step
same_content sender epoch proposer state p scratch step c d e = rw e
