-- Kind 8 over a whole run: how often it was asked about a proposer is told by the values and decisions taken. Assumes nothing.
use Rattle.std.proofs.Common.{ℕ, ◌+◌, ◌≤◌, ◌<◌, add-zero, arith, ◌≡◌, refl, sym, ap, ◌∙◌, subst₂, List, [], ◌∷◌, ◌++◌, Bool, true, false, cond, Option, None, eqb, ltb, length, set, eqb-true, ltb-true}
use Rattle.std.proofs.Math.Path.{fun_ext}
use Rattle.std.proofs.lemmas.Bool.{and_parts, eqb-false}
use Rattle.network.specs.declared.network_info.NetworkInfo.{NetworkInfo}
use Rattle.network.specs.Network.{Network}
use Rattle.steps.specs.Answers.{Rec, Tape, tape_of}
use Rattle.steps.specs.Steps.{Entry}
use Rattle.steps.specs.Runs.{Verdict, going, refused, failed, Run, inside}
use Rattle.steps.specs.Taken.{or_else, first_taken, of_value, of_decision}
use Rattle.steps.specs.Times.{times_asked}
use Rattle.steps.proofs.TakenFromChain.{or_else_none, Good, table_good}
use Rattle.steps.proofs.ReadByKinds.{Past, Others, past_first}
use Rattle.steps.proofs.ReadsFirstPart.{reading_stateless}
use Rattle.steps.proofs.TimesAsked.{past_times}
use Rattle.steps.proofs.GivenWithLog.{GivesAs, Gives}
use Rattle.steps.proofs.AfterRun.{Afterwards, after_map, after_onward, after_inside, after_with, after_any, after_out}
use Rattle.epochwords.specs.declared.SubsetHandlingStrategy.{SubsetHandlingStrategy}
use Rattle.epoch.specs.declared.MessageContent.{MessageContent}
use Rattle.subset.specs.Words.{epoch_length}
use Rattle.epoch.specs.Epoch.{propose as propose_in_epoch, handle_message_content}
use Rattle.epoch.proofs.Invariant.{Holds}
use Rattle.epoch.proofs.EpochLaws.{epoch_laws}
use Rattle.epoch.proofs.KindEight.{eights_of, Counted, proposed_counted, handled_counted}
use Rattle.state.specs.State.{nodes, ahead, current_epoch, input_at, net_of, strategy_of, encrypted_in, epoch_words, with_epoch, state_ok}
use Rattle.state.proofs.Window.{words_long, with_same}
use Rattle.work.specs.HoneyBadger.{propose, handle_message}
use Rattle.work.specs.Work.{built, epoch_call, batches_from, Worked, worked, beside, work_in, propose_work, message_work, committed}
use Rattle.work.proofs.Walk.{any_builds, built_keeps, any_turns, batches_keep}
use Rattle.work.proofs.RunBesideState.{built_full, mut_inside, by_propose_apart, by_message_apart}
use Rattle.calls.specs.Calls.{content_of, propose_call, message_call}
use Rattle.agreement.specs.History.{Call, turn_of, state_after, turns, none_fails, Event, events_of, current_after, history, taken, propose as proposing, message as messaging, skip as skipping}
use Rattle.agreement.specs.Outputs.{times_asked_in}
use Rattle.agreement.proofs.BatchesDealt.{Tk}
use Rattle.agreement.proofs.Invariant.{Sim, net_same, strategy_same, encrypted_same}
use Rattle.agreement.proofs.OneCall.{mut_ok}
use Rattle.agreement.proofs.ReplyZero.{propose_passes, message_passes, other_leaves}
use Rattle.agreement.proofs.OneRun.{new_v, new_d, upto, upto_taken, named_below, proposed, handled, skipped}

-- what holds after a run of a part, from what it gives as a run of the whole
after_given : {S T A : Type 0} (put : T → S) (r : Run T A) (Q : A → S → Tape → List Entry → Type 0) → Gives (inside put r) Q → Afterwards r (λ a t p. Q a (put t) p r.log)
after_given {A = A} put r Q h = go r.verdict h
  where
    go : (v : Verdict A) → GivesAs v (put r.state) r.tape r.log Q → GivesAs v r.state r.tape r.log (λ a t p l. Q a (put t) p r.log)
    go (going a) h = h
    go refused h = tt
    go (failed n) h = tt

-- an epoch is built by a 1, and batches read 13s only
abbrev only : ℕ → ℕ → Bool
only kind k = eqb k kind

built_past : (n : ℕ) (x : List ℕ) (p : Tape) → Past (only 1) p.rest (built n x p).tape.rest
built_past n x p = built_keeps _ _ n (any_builds (reading_stateless (only 1)) refl tt n) 0 x p

batches_past : (n : ℕ) (words : ℕ → List ℕ) (m e : ℕ) (p : Tape) → Past (only 13) p.rest (batches_from n words m e p).tape.rest
batches_past n words m e p = batches_keep _ _ _ n words (any_turns (reading_stateless (only 13)) (record { reads = refl; faults = λ p. tt; outputs = λ k a b e. tt }) words) m e p

-- WHAT A CALL TELLS goes on over answers of a kind that is neither a value nor a decision nor an 8
others : (kind : ℕ) (of : ℕ → Bool) → of kind ≡ false → Others (only kind) of
others kind of e k i = ap of (eqb-true k kind i) ∙ e

module _ (net : NetworkInfo) (strategy : SubsetHandlingStrategy) (encrypted : Bool) (v d : ℕ → Option ℕ) (kind : ℕ) (fv : of_value kind ≡ false) (fd : of_decision kind ≡ false) (f8 : eqb kind 8 ≡ false) where
  counted_then : {ws r z : List Rec} → Counted net strategy encrypted v d ws r → Past (only kind) r z → Counted net strategy encrypted v d ws z
  counted_then c p = record {
    v' = c.v';
    d' = c.d';
    value = λ q. c.value q ∙ ap (or_else (c.v' q)) (past_first (only kind) of_value (others kind of_value fv) p q);
    decision = λ q. c.decision q ∙ ap (or_else (c.d' q)) (past_first (only kind) of_decision (others kind of_decision fd) p q);
    eights = λ q l. c.eights q l ∙ ap (λ x. eights_of net strategy encrypted c.v' c.d' q + x) (past_times (only kind) 8 (others kind (λ k. eqb k 8) f8) p q);
  }

  counted_before : {ws r z : List Rec} → Past (only kind) ws r → Counted net strategy encrypted v d r z → Counted net strategy encrypted v d ws z
  counted_before p c = record {
    v' = c.v';
    d' = c.d';
    value = λ q. ap (or_else (v q)) (past_first (only kind) of_value (others kind of_value fv) p q) ∙ c.value q;
    decision = λ q. ap (or_else (d q)) (past_first (only kind) of_decision (others kind of_decision fd) p q) ∙ c.decision q;
    eights = λ q l. ap (λ x. eights_of net strategy encrypted v d q + x) (past_times (only kind) 8 (others kind (λ k. eqb k 8) f8) p q) ∙ c.eights q l;
  }

counted_same : (net : NetworkInfo) (strategy : SubsetHandlingStrategy) (encrypted : Bool) (v d : ℕ → Option ℕ) (ws : List Rec) → Counted net strategy encrypted v d ws ws
counted_same net strategy encrypted v d ws = record { v' = v; d' = d; value = λ q. refl; decision = λ q. refl; eights = λ q l. refl }

-- nothing more was taken
still : (t : ℕ → Option ℕ) → t ≡ (λ q. or_else (t q) None)
still t = fun_ext (λ q. sym (or_else_none (t q)))

module _ (w₀ : List ℕ) (network : Network (net_of w₀)) where
  abbrev net : NetworkInfo
  net = net_of w₀

  abbrev strategy : SubsetHandlingStrategy
  strategy = strategy_of w₀

  abbrev encrypted : ℕ → Bool
  encrypted = encrypted_in w₀

  abbrev SimOf : List ℕ → ℕ → Tk → Tk → Tk → Type 0
  SimOf = Sim Holds w₀

  abbrev CountedIn : Tk → Tk → ℕ → List Rec → List Rec → Type 0
  CountedIn vs ds e ws r = Counted net strategy (encrypted e) (vs e) (ds e) ws r

  -- A RUN of a state w that came from w₀
  module _ (w : List ℕ) (cur : ℕ) (vs ds ts : Tk) (h : SimOf w cur vs ds ts) (ok : state_ok w ≡ true) (p : Tape) (g : Good (nodes w₀) p.rest) where
    abbrev HoldsIn : ℕ → List ℕ → Type 0
    HoldsIn e x = Holds net strategy (encrypted e) x (vs e) (ds e) (ts e)

    -- the epoch is there, built now or before
    built_holds : (e : ℕ) → cur ≤ e → e ≤ cur + ahead w₀
        → Afterwards (built (nodes w₀) (epoch_words w e) p) (λ _ x q. HoldsIn e x × Good (nodes w₀) q.rest × Past (only 1) p.rest q.rest)
    built_holds e low up =
        let r = built (nodes w₀) (epoch_words w e) p in
        let full = built_full (nodes w₀) (epoch_words w e) p (words_long (nodes w₀) (ahead w₀) w h.shaped e) in
        after_map r _ _
        (after_with r _ (λ x q. (length x ≡ epoch_length (nodes w₀)) × Past (only 1) p.rest q.rest) (full, built_past (nodes w₀) (epoch_words w e) p)
        (after_given (with_epoch w e) r _ (rw (mut_inside (nodes w₀) (ahead w₀) w h.shaped e p) at (mut_ok Holds epoch_laws w₀ network w cur vs ds ts e p low up h g)))) (λ _ x q b.
        (rw (with_same (nodes w₀) (ahead w₀) w h.shaped e x b.1.0) at b.0.holds, b.0.good, b.1.1))

    -- its call counts, and the batches ask no 8
    module _ (e : ℕ) (low : cur ≤ e) (up : e ≤ cur + ahead w₀) (body : List ℕ → Tape → Run (List ℕ) (Unit {0}))
        (f : (x : List ℕ) (q : Tape) → HoldsIn e x → Good (nodes w₀) q.rest → Afterwards (body x q) (λ _ _ z. CountedIn vs ds e q.rest z.rest)) where
      abbrev called : Run (List ℕ) (Unit {0})
      called = epoch_call (nodes w₀) body (epoch_words w e) p

      call_counted : Afterwards called (λ _ _ z. CountedIn vs ds e p.rest z.rest)
      unfolding epoch_call
      call_counted =
          after_onward (built (nodes w₀) (epoch_words w e) p) (λ _ x q. body x q) _
          (after_map (built (nodes w₀) (epoch_words w e) p) _ _ (built_holds e low up) (λ _ x q b.
          after_map (body x q) _ _ (f x q b.0 b.1) (λ _ _ z c. counted_before net strategy (encrypted e) (vs e) (ds e) 1 refl refl refl b.2 c)))

      out_counted : (s : Worked) (z : Tape) → CountedIn vs ds e p.rest z.rest
          → Afterwards (inside (worked s.words) (batches_from (nodes w₀) (beside w e s.words) (ahead w + 1) s.next z)) (λ _ _ y. CountedIn vs ds e p.rest y.rest)
      out_counted s z c =
          after_map r _ _ (after_with r (λ _ _ _. Unit {0}) (λ _ y. Past (only 13) z.rest y.rest) (batches_past _ _ _ _ z) (after_any r _ (λ _ _ _. tt))) (λ _ _ y t.
          counted_then net strategy (encrypted e) (vs e) (ds e) 13 refl refl refl c t.1)
        where
          r : Run Worked (Unit {0})
          r = inside (worked s.words) (batches_from (nodes w₀) (beside w e s.words) (ahead w + 1) s.next z)

      work_counted : Afterwards (work_in w e body p) (λ _ _ z. CountedIn vs ds e p.rest z.rest)
      unfolding work_in
      work_counted =
          rw h.shaped.nodes
          (after_onward (inside (λ x. worked x (current_epoch w)) called) _ _
          (after_inside (λ x. worked x (current_epoch w)) called _ (after_map called _ _ call_counted (λ _ x z c. out_counted (worked x (current_epoch w)) z c))))

    -- PROPOSE
    proposed_eights : Afterwards (propose w p) (λ _ _ q. CountedIn vs ds cur p.rest q.rest)
    unfolding propose_work net_of
    proposed_eights =
        by_propose_apart w ok p (λ r. Afterwards r (λ _ _ q. CountedIn vs ds cur p.rest q.rest))
        (after_inside (committed (set w input_at 1) (current_epoch w)) (propose_work w p) (λ _ _ q. CountedIn vs ds cur p.rest q.rest)
        (rw (h.current, net_same Holds w₀ w cur vs ds ts h, strategy_same Holds w₀ w cur vs ds ts h, encrypted_same Holds w₀ w cur vs ds ts h cur)
        (work_counted cur (omega arith) (omega arith) (propose_in_epoch net strategy (encrypted cur)) (λ x q k g. proposed_counted net strategy (encrypted cur) x (vs cur) (ds cur) (ts cur) k q g))))
        (counted_same net strategy (encrypted cur) (vs cur) (ds cur) p.rest)

    -- MESSAGE
    handled_eights : (sender e proposer : ℕ) (content : MessageContent) → proposer < nodes w₀ → Afterwards (handle_message sender e proposer content w p) (λ _ _ q. CountedIn vs ds e p.rest q.rest)
    unfolding message_work net_of
    handled_eights sender e proposer content named =
        by_message_apart w ok p sender e proposer content (λ r. Afterwards r (λ _ _ q. CountedIn vs ds e p.rest q.rest))
        (λ low up. after_inside (committed w e) (message_work sender e proposer content w p) (λ _ _ q. CountedIn vs ds e p.rest q.rest)
        (rw (net_same Holds w₀ w cur vs ds ts h, strategy_same Holds w₀ w cur vs ds ts h, encrypted_same Holds w₀ w cur vs ds ts h e)
        (work_counted e (omega (arith, h.current)) (omega (arith, h.current, h.shaped.ahead)) (handle_message_content net strategy (encrypted e) sender proposer content) (λ x q k g.
        handled_counted net strategy (encrypted e) x (vs e) (ds e) (ts e) k sender proposer content named q g))))
        (counted_same net strategy (encrypted e) (vs e) (ds e) p.rest) (counted_same net strategy (encrypted e) (vs e) (ds e) p.rest)

  -- A HISTORY h, where vs and ds were taken before it
  abbrev pub Eighted : Tk → Tk → List Event → Type 0
  Eighted vs ds h =
      (e q : ℕ) → q < (net_of w₀).num_nodes
      → eights_of net strategy (encrypted e) (vs e) (ds e) q + times_asked_in 8 h e q
      ≡ eights_of net strategy (encrypted e) (upto (taken of_value) vs h e) (upto (taken of_decision) ds h e) q

  eighted_nothing : (vs ds : Tk) → Eighted vs ds []
  unfolding taken times_asked_in
  eighted_nothing vs ds e q l =
      add-zero _ ∙ subst₂ (λ (f g : ℕ → Option ℕ). eights_of net strategy (encrypted e) (vs e) (ds e) q ≡ eights_of net strategy (encrypted e) f g q) (still (vs e)) (still (ds e)) refl

  event_counted : (vs ds : Tk) (x : Event) → CountedIn vs ds x.epoch x.answers [] → (e q : ℕ) → q < (net_of w₀).num_nodes
      → eights_of net strategy (encrypted e) (vs e) (ds e) q + cond (eqb x.epoch e) (times_asked 8 q x.answers) 0 ≡ eights_of net strategy (encrypted e) (new_v vs x e) (new_d ds x e) q
  unfolding times_asked first_taken
  event_counted vs ds x c e q l = go (eqb x.epoch e) refl
    where
      go : (b : Bool) → eqb x.epoch e ≡ b
          → eights_of net strategy (encrypted e) (vs e) (ds e) q + cond b (times_asked 8 q x.answers) 0
          ≡ eights_of net strategy (encrypted e) (λ i. or_else (vs e i) (cond b (first_taken of_value i x.answers) None)) (λ i. or_else (ds e i) (cond b (first_taken of_decision i x.answers) None)) q
      go true z =
          let k : CountedIn vs ds e x.answers [] = rw (eqb-true x.epoch e z) at c in
          k.eights q l
          ∙ (add-zero _
          ∙ subst₂ (λ (f g : ℕ → Option ℕ). eights_of net strategy (encrypted e) k.v' k.d' q ≡ eights_of net strategy (encrypted e) f g q)
          (fun_ext (λ i. sym (k.value i ∙ or_else_none (k.v' i)))) (fun_ext (λ i. sym (k.decision i ∙ or_else_none (k.d' i)))) refl)
      go false z =
          add-zero _ ∙ subst₂ (λ (f g : ℕ → Option ℕ). eights_of net strategy (encrypted e) (vs e) (ds e) q ≡ eights_of net strategy (encrypted e) f g q) (still (vs e)) (still (ds e)) refl

  eighted_event : (vs ds : Tk) (x : Event) (h : List Event) → CountedIn vs ds x.epoch x.answers [] → Eighted (new_v vs x) (new_d ds x) h → Eighted vs ds (x ∷ h)
  unfolding times_asked_in
  eighted_event vs ds x h c k e q l =
      let a = event_counted vs ds x c e q l in
      subst₂ (λ (f g : Tk). eights_of net strategy (encrypted e) (vs e) (ds e) q + (cond (eqb x.epoch e) (times_asked 8 q x.answers) 0 + times_asked_in 8 h e q) ≡ eights_of net strategy (encrypted e) (f e) (g e) q)
      (upto_taken of_value vs x h) (upto_taken of_decision ds x h) (omega (arith, a, k e q l))

  -- THE RUN
  proposed_told : (w : List ℕ) (cur : ℕ) (vs ds ts : Tk) → SimOf w cur vs ds ts → (scratch answers step : List ℕ) → (propose_call w scratch answers step).reply ≡ 0
      → CountedIn vs ds cur (tape_of answers).rest []
  proposed_told w cur vs ds ts h scratch answers step e =
      let p = propose_passes w scratch answers step e in
      let run = propose w (tape_of answers) in
      let good : Good (nodes w₀) (tape_of answers).rest = rw h.shaped.nodes at (table_good (nodes w) answers p.1) in
      rw p.2.rest at (after_out run _ tt (proposed_eights w cur vs ds ts h p.0 (tape_of answers) good) p.2.goes)

  handled_told : (w : List ℕ) (cur : ℕ) (vs ds ts : Tk) → SimOf w cur vs ds ts → (sender epoch content proposer item : ℕ) (scratch answers step : List ℕ)
      → (message_call w scratch answers step sender epoch content proposer item).reply ≡ 0 → CountedIn vs ds epoch (tape_of answers).rest []
  handled_told w cur vs ds ts h sender epoch content proposer item scratch answers step e =
      let p = message_passes w scratch answers step sender epoch content proposer item e in
      let c = content_of content item in
      let run = handle_message sender epoch proposer c w (tape_of answers) in
      let same = h.shaped.nodes in
      let good : Good (nodes w₀) (tape_of answers).rest = rw same at (table_good (nodes w) answers p.1) in
      let below : proposer < nodes w₀ = rw same at (named_below (nodes w) content proposer p.3) in
      rw p.4.rest at (after_out run _ tt (handled_eights w cur vs ds ts h p.0 (tape_of answers) good sender epoch proposer c below) p.4.goes)

  abbrev Onward : List Call → Type 0
  Onward cs = (w : List ℕ) (cur : ℕ) (vs ds ts : Tk) → SimOf w cur vs ds ts → none_fails (turns w cs) ≡ true → Eighted vs ds (history cur (turns w cs))

  zero_eighted : (c : Call) (cs : List Call) → Onward cs → (w : List ℕ) (cur : ℕ) (vs ds ts : Tk) → SimOf w cur vs ds ts → (turn_of w c).reply ≡ 0 → none_fails (turns (state_after w c) cs) ≡ true
      → Eighted vs ds (events_of cur (turn_of w c).call (turn_of w c).step ++ history (current_after cur (turn_of w c).call (turn_of w c).step) (turns (state_after w c) cs))
  unfolding turn_of state_after events_of current_after
  zero_eighted (proposing scratch answers step) cs ih w cur vs ds ts h e n =
      let s = proposed Holds epoch_laws w₀ network w cur vs ds ts h scratch answers step e in
      eighted_event vs ds _ _ (proposed_told w cur vs ds ts h scratch answers step e) (ih _ _ _ _ _ s.sim n)
  zero_eighted (messaging sender epoch content proposer item scratch answers step) cs ih w cur vs ds ts h e n =
      let s = handled Holds epoch_laws w₀ network w cur vs ds ts h sender epoch content proposer item scratch answers step e in
      eighted_event vs ds _ _ (handled_told w cur vs ds ts h sender epoch content proposer item scratch answers step e) (ih _ _ _ _ _ s.sim n)
  zero_eighted (skipping target) cs ih w cur vs ds ts h e n = ih _ _ vs ds ts (skipped Holds epoch_laws w₀ network w cur vs ds ts h target e) n

  pub run_eighted : (cs : List Call) → Onward cs
  unfolding turns none_fails history
  run_eighted [] w cur vs ds ts h n = eighted_nothing vs ds
  run_eighted (c ∷ cs) w cur vs ds ts h n = go (eqb (turn_of w c).reply 0) refl (run_eighted cs)
    where
      parts : (ltb (turn_of w c).reply 20 ≡ true) × (none_fails (turns (state_after w c) cs) ≡ true)
      parts = and_parts (ltb (turn_of w c).reply 20) (none_fails (turns (state_after w c) cs)) n

      go : (t : Bool) → eqb (turn_of w c).reply 0 ≡ t → Onward cs
          → Eighted vs ds (cond t (events_of cur (turn_of w c).call (turn_of w c).step) [] ++ history (cond t (current_after cur (turn_of w c).call (turn_of w c).step) cur) (turns (state_after w c) cs))
      go true e ih = zero_eighted c cs ih w cur vs ds ts h (eqb-true (turn_of w c).reply 0 e) parts.1
      go false e ih =
          ih (state_after w c) cur vs ds ts
          (rw (other_leaves w c (ltb-true (turn_of w c).reply 20 parts.0) (eqb-false (turn_of w c).reply 0 e)) h) parts.1
