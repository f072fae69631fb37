-- The engine's runs are runs on one epoch's words, beside a state that is only read, and a commit. Over every state that keeps the range rule.
-- Assumes nothing.
use Rattle.std.proofs.Common.{ℕ, ◌+◌, ◌≤◌, ◌<◌, arith, ◌≡◌, refl, sym, ap, ◌∙◌, List, [], ◌∷◌, Bool, true, false, cond, eqb, ltb, length, get_or, set, replicate, length-set, get_or-set_other, eqb-true, ltb-false}
use Rattle.std.proofs.lemmas.List.{length-replicate}
use Rattle.std.proofs.lemmas.Bool.{cond_both, false≢true, eqb-false}
use Rattle.steps.specs.Answers.{Answer}
use Rattle.steps.specs.Answers.{Got, Refused}
use Rattle.steps.specs.Answers.{Tape, ask}
use Rattle.steps.specs.Runs.{Verdict, going, refused, failed, Run, ends, before, onward_as, onward, heard_as, heard, inside}
use Rattle.network.specs.declared.network_info.NetworkInfo.{NetworkInfo}
use Rattle.network.specs.Network.{is_validator}
use Rattle.steps.specs.Steps.{fault}
use Rattle.steps.proofs.Logic.{anything}
use Rattle.steps.proofs.StateKept.{holding}
use Rattle.steps.proofs.FailureNumbers.{only_number}
use Rattle.steps.proofs.RunLaws.{onward_at}
use Rattle.steps.proofs.RunsInParts.{onward_assoc, onward_inside}
use Rattle.subset.specs.Words.{epoch_length}
use Rattle.epochwords.specs.Words.{is_vacant}
use Rattle.epochwords.specs.declared.SubsetHandlingStrategy.{SubsetHandlingStrategy}
use Rattle.epoch.specs.declared.MessageContent.{MessageContent}
use Rattle.epoch.specs.Epoch.{new_epoch, propose as propose_in_epoch, handle_message_content}
use Rattle.epoch.proofs.WritesKept.{keeps_propose, keeps_message}
use Rattle.state.specs.State.{epoch_at, input_at, faults_at, fault_count, nodes, ahead, current_epoch, net_of, strategy_of, encrypted_in, epoch_words, with_epoch, state_ok}
use Rattle.work.specs.HoneyBadger.{epoch_state_mut, in_epoch, output_batches, propose, handle_message}
use Rattle.work.specs.Work.{built, epoch_call, batches_from, Worked, worked, beside, work_in, propose_work, message_work, committed}
use Rattle.rings.proofs.Places.{same_place}
use Rattle.state.proofs.Window.{Shaped, with_own, net_same, strategy_same, encrypted_same, words_long, with_head, with_shaped, with_twice, with_same, with_other, set_shaped, set_words}
use Rattle.state.proofs.RangesState.{shaped}
use Rattle.work.proofs.Walk.{Builds, built_keeps as built_walk, call_keeps as call_walk}
use Rattle.work.proofs.Skips.{skip_stays, skip_head, skipped}
use Rattle.work.proofs.LoopOnlyReads.{next_between, batches_apart, batches_never_fail}

-- ONE EPOCH's instances are built in its own words
module _ (n : ℕ) (x : List ℕ) (p : Tape) where
  -- what holds of the words and of new ones holds after it
  module _ (P : List ℕ → Type 0) (old : P x) (new : P (new_epoch n)) where
    builds : Builds anything (holding P (λ i. Unit {0})) n
    builds = record { reads = tt; number = tt; new = λ y h. new }

    pub built_keeps : P (built n x p).state
    built_keeps = built_walk _ _ n builds 0 x p old

    -- and then its call runs
    pub call_keeps : (body : List ℕ → Tape → Run (List ℕ) (Unit {0})) → ((y : List ℕ) (q : Tape) → P y → P (body y q).state) → P (epoch_call n body x p).state
    call_keeps body f = call_walk _ _ n builds 0 body f x p old

  -- all words of an epoch are there after building, and after a call that leaves as many as it had
  module _ (full : length x ≡ epoch_length n) where
    new_full : length (new_epoch n) ≡ epoch_length n
    unfolding new_epoch
    new_full = length-set (replicate (epoch_length n) 0) 0 1 ∙ length-replicate (epoch_length n) 0

    pub built_full : length (built n x p).state ≡ epoch_length n
    built_full = built_keeps (λ y. length y ≡ epoch_length n) full new_full

    pub call_full : (body : List ℕ → Tape → Run (List ℕ) (Unit {0})) → ((y : List ℕ) (q : Tape) → length (body y q).state ≡ length y) → length (epoch_call n body x p).state ≡ epoch_length n
    call_full body sized = call_keeps (λ y. length y ≡ epoch_length n) full new_full body (λ y q h. sized y q ∙ h)

pub mut_inside : (n f : ℕ) (w : List ℕ) → Shaped n f w → (e : ℕ) (p : Tape) → epoch_state_mut e w p ≡ inside (with_epoch w e) (built n (epoch_words w e) p)
unfolding epoch_state_mut built heard heard_as
mut_inside n f w h e p = rw h.nodes (go (is_vacant x) (ask p 1).answer)
  where
    q : Tape
    q = (ask p 1).tape

    x : List ℕ
    x = epoch_words w e

    pick : (t : Bool) → ◌≡◌ {A = Run (List ℕ) (Unit {0})} (cond t (ends (failed 20) w q) (ends (going tt) (with_epoch w e (new_epoch n)) q))
        (inside (with_epoch w e) (cond t (ends (failed 20) x q) (ends (going tt) (new_epoch n) q)))
    pick true = rw (with_own w e)
    pick false = refl

    go : (t : Bool) (y : Answer) → ◌≡◌ {A = Run (List ℕ) (Unit {0})}
        (cond t (heard_as y w q (λ a b q. cond (eqb a 0) (ends (failed 20) w q) (ends (going tt) (with_epoch w e (new_epoch n)) q))) (ends (going tt) w p))
        (inside (with_epoch w e) (cond t (heard_as y x q (λ a b q. cond (eqb a 0) (ends (failed 20) x q) (ends (going tt) (new_epoch n) q))) (ends (going tt) x p)))
    go true (Got a b) = pick (eqb a 0)
    go true Refused = rw (with_own w e)
    go false y = rw (with_own w e)

-- THE COMMIT writes no fault count: `count_faults` alone does
pub commit_count : (n f : ℕ) (v : List ℕ) → Shaped n f v → (e : ℕ) (s : Worked) → length s.words ≡ epoch_length n → fault_count (committed v e s) ≡ fault_count v
unfolding committed
commit_count n f v h e s size =
    skip_head n f _ _ (with_shaped n f v h e s.words size) faults_at (omega arith) (omega arith) (omega arith)
    ∙ with_head n f v h e s.words size faults_at (omega arith)

-- THE RUN of a call of epoch e ends with the batches, or stops before them
module _ (w : List ℕ) (e : ℕ) (body : List ℕ → Tape → Run (List ℕ) (Unit {0})) (p : Tape) where
  abbrev called : Run (List ℕ) (Unit {0})
  called = epoch_call (nodes w) body (epoch_words w e) p

  abbrev batches : Run ℕ (Unit {0})
  batches = batches_from (nodes w) (beside w e called.state) (ahead w + 1) (current_epoch w) called.tape

  by_work : (P : Run Worked (Unit {0}) → Type 0) → P (before called.log (inside (worked called.state) batches))
      → ((v : Verdict (Unit {0})) → P (record { state = worked called.state (current_epoch w); verdict = v; tape = called.tape; log = called.log })) → P (work_in w e body p)
  unfolding work_in onward onward_as
  by_work P goes stops = go called.verdict
    where
      go : (v : Verdict (Unit {0})) → P (onward_as v (inside (λ x. worked x (current_epoch w)) called) (λ _ s q.
          inside (worked s.words) (batches_from (nodes w) (beside w e s.words) (ahead w + 1) s.next q)))
      go (going x) = goes
      go refused = stops refused
      go (failed error) = stops (failed error)

  -- the words that it leaves are those of the epoch's call; the epoch that is next is at most the first behind the window
  pub work_words : (work_in w e body p).state.words ≡ called.state
  work_words = by_work (λ r. r.state.words ≡ called.state) refl (λ v. refl)

  pub work_next : (work_in w e body p).state.next ≤ current_epoch w + (ahead w + 1)
  work_next =
      by_work (λ r. r.state.next ≤ current_epoch w + (ahead w + 1))
      (next_between (nodes w) (beside w e called.state) (ahead w + 1) (current_epoch w) called.tape).high (λ v. omega arith)

-- THE STATE THAT IS WRITTEN, v, beside the one that is read, w: the same but for what comes after the current epoch in the header
pub record Over (w v : List ℕ) : Type 0 where
  pub shape : Shaped (nodes w) (ahead w) v
  pub head : (i : ℕ) → i < input_at → get_or v i 0 ≡ get_or w i 0
  pub words : (e : ℕ) → epoch_words v e ≡ epoch_words w e

-- w itself, or w with has input set
module _ (w : List ℕ) (ok : state_ok w ≡ true) where
  pub over_same : Over w w
  over_same = record { shape = shaped w ok; head = λ _ _. refl; words = λ _. refl }

  pub over_input : Over w (set w input_at 1)
  over_input = record {
    shape = set_shaped (nodes w) (ahead w) w (shaped w ok) input_at 1 (omega arith) (omega arith);
    head = λ i l. get_or-set_other w input_at i 1 0 (omega arith);
    words = set_words (nodes w) (ahead w) w (shaped w ok) input_at 1 (omega arith) (omega arith);
  }

-- A CALL OF EPOCH e of the window
module _ (w v : List ℕ) (over : Over w v) (e : ℕ) (low : current_epoch w ≤ e) (high : e ≤ current_epoch w + ahead w) where
  -- after the epoch's words became x
  module _ (x : List ℕ) (full : length x ≡ epoch_length (nodes w)) where
    after_shaped : Shaped (nodes w) (ahead w) (with_epoch v e x)
    after_shaped = with_shaped (nodes w) (ahead w) v over.shape e x full

    after_head : (i : ℕ) → i < input_at → get_or (with_epoch v e x) i 0 ≡ get_or w i 0
    after_head i l = with_head (nodes w) (ahead w) v over.shape e x full i (omega arith) ∙ over.head i l

    after_words : (d : ℕ) → current_epoch w ≤ d → d ≤ current_epoch w + ahead w → beside w e x d ≡ epoch_words (with_epoch v e x) d
    unfolding beside
    after_words d a b = go (eqb d e) refl
      where
        go : (t : Bool) → eqb d e ≡ t → cond t x (epoch_words w d) ≡ epoch_words (with_epoch v e x) d
        go true z = rw (eqb-true d e z) (sym (with_same (nodes w) (ahead w) v over.shape e x full))
        go false z =
            let ne : d ≡ e → ⊥ = eqb-false d e z in
            sym (with_other (nodes w) (ahead w) v over.shape e d x full (λ q. ne (sym (same_place (ahead w + 1) e d q (omega arith) (omega arith)))) ∙ over.words d)

    -- an epoch whose batch went out is not there any more
    pub commit_clears : (d : ℕ) → e < d → epoch_words (committed v e (worked x d)) e ≡ replicate (epoch_length (nodes w)) 0
    unfolding committed
    commit_clears d l =
        let c = after_head epoch_at (omega arith) in
        let own : Shaped (nodes (with_epoch v e x)) (ahead (with_epoch v e x)) (with_epoch v e x) = rw (after_shaped.nodes, after_shaped.ahead) after_shaped in
        (skipped d (with_epoch v e x) own (omega arith)).cleared e (omega arith) l (omega (arith, after_shaped.ahead))
        ∙ ap (λ (n : ℕ). replicate (epoch_length n) 0) after_shaped.nodes

    -- no batch: these words alone are written
    pub none_next : committed v e (worked x (current_epoch w)) ≡ with_epoch v e x
    unfolding committed
    none_next = skip_stays (current_epoch w) (with_epoch v e x) (omega (arith, after_head epoch_at (omega arith)))

    loop_apart : (q : Tape) → output_batches (with_epoch v e x) q
        ≡ inside (λ d. committed v e (worked x d)) (batches_from (nodes w) (beside w e x) (ahead w + 1) (current_epoch w) q)
    unfolding committed
    loop_apart q =
        let c = after_head epoch_at (omega arith) in
        rw after_shaped.ahead (rw (after_head epoch_at (omega arith)) at
        (batches_apart (nodes w) (ahead w) (beside w e x) (ahead w + 1) (with_epoch v e x) after_shaped (omega arith) (λ d a b. after_words d (omega arith) (omega arith)) q))

  module _ (body : List ℕ → Tape → Run (List ℕ) (Unit {0})) (sized : (x : List ℕ) (q : Tape) → length (body x q).state ≡ length x) (p : Tape) where
    abbrev b : Run (List ℕ) (Unit {0})
    b = built (nodes w) (epoch_words w e) p

    abbrev c : Run (List ℕ) (Unit {0})
    c = epoch_call (nodes w) body (epoch_words w e) p

    long : length (epoch_words w e) ≡ epoch_length (nodes w)
    long = rw (← over.words e) (words_long (nodes w) (ahead w) v over.shape e)

    full : length c.state ≡ epoch_length (nodes w)
    full = call_full (nodes w) (epoch_words w e) p long body sized

    -- `rest` is what the definition does once the instances are built
    pub work_apart : (rest : List ℕ → Tape → Run (List ℕ) (Unit {0}))
        → ((x : List ℕ) → length x ≡ epoch_length (nodes w) → (q : Tape) → rest (with_epoch v e x) q ≡ onward (in_epoch e body (with_epoch v e x) q) (λ _ u q. output_batches u q))
        → onward (epoch_state_mut e v p) (λ _ u q. rest u q) ≡ inside (committed v e) (work_in w e body p)
    unfolding work_in epoch_call in_epoch onward onward_as
    work_apart rest is =
        ap (λ (r : Run (List ℕ) (Unit {0})). onward r (λ _ u q. rest u q)) (rw (over.words e) at (mut_inside (nodes w) (ahead w) v over.shape e p))
        ∙ (onward_at (inside (with_epoch v e) b) (λ _ u q. rest u q) (λ _ u q. onward (in_epoch e body u q) out) (λ _ _. is b.state fresh b.tape)
        ∙ (sym (onward_assoc (inside (with_epoch v e) b) (λ _ u q. in_epoch e body u q) out)
        ∙ (ap (λ (r : Run (List ℕ) (Unit {0})). onward r out) (sym (onward_inside (with_epoch v e) b (λ _ x q. body x q) (λ _ u q. in_epoch e body u q) (λ _. own b.state fresh b.tape)))
        ∙ go c.verdict)))
      where
        out : Unit {0} → List ℕ → Tape → Run (List ℕ) (Unit {0})
        out _ u q = output_batches u q

        fresh : length b.state ≡ epoch_length (nodes w)
        fresh = built_full (nodes w) (epoch_words w e) p long

        own : (x : List ℕ) → length x ≡ epoch_length (nodes w) → (q : Tape) → inside (with_epoch v e) (body x q) ≡ in_epoch e body (with_epoch v e x) q
        own x l q =
            rw (with_same (nodes w) (ahead w) v over.shape e x l)
            (ap (λ (u : List ℕ). inside (λ _. u) (body x q)) (sym (with_twice (nodes w) (ahead w) v over.shape e x l (body x q).state)))

        stopped : Verdict (Unit {0}) → List ℕ → Run (List ℕ) (Unit {0})
        stopped t u = record { state = u; verdict = t; tape = c.tape; log = c.log }

        go : (t : Verdict (Unit {0})) → onward_as t (inside (with_epoch v e) c) out
            ≡ inside (committed v e) (onward_as t (inside (λ x. worked x (current_epoch w)) c) (λ _ s q.
            inside (worked s.words) (batches_from (nodes w) (beside w e s.words) (ahead w + 1) s.next q)))
        go (going x) = ap (before c.log) (loop_apart c.state full c.tape)
        go refused = ap (stopped refused) (sym (none_next c.state full))
        go (failed x) = ap (stopped (failed x)) (sym (none_next c.state full))

    pub commit_counts : fault_count (committed v e (work_in w e body p).state) ≡ fault_count v
    commit_counts =
        commit_count (nodes w) (ahead w) v over.shape e (work_in w e body p).state (ap length (work_words w e body p) ∙ full)

    -- where the run fails no batch went out: the epoch's words alone are written
    pub failed_keeps : (error : ℕ) → (work_in w e body p).verdict ≡ failed error
        → committed v e (work_in w e body p).state ≡ with_epoch v e (work_in w e body p).state.words
    failed_keeps error =
        by_work w e body p (λ r. r.verdict ≡ failed error → committed v e r.state ≡ with_epoch v e r.state.words)
        (λ z. absurd (false≢true (only_number (λ _. false) _ error (batches_never_fail (nodes w) (beside w e c.state) (ahead w + 1) (current_epoch w) c.tape) z)))
        (λ _ _. none_next c.state full)

-- AN EPOCH'S CALL leaves as many words as it had, whatever they are
module _ (net : NetworkInfo) (strategy : SubsetHandlingStrategy) (encrypted : Bool) where
  pub sized_propose : (x : List ℕ) (q : Tape) → length (propose_in_epoch net strategy encrypted x q).state ≡ length x
  sized_propose x q = keeps_propose (λ y. length y ≡ length x) (λ y i a _ l. length-set y i a ∙ l) (λ y l. length-set y 0 2 ∙ l) net strategy encrypted x q refl

  pub sized_message : (sender p : ℕ) (content : MessageContent) (x : List ℕ) (q : Tape) → length (handle_message_content net strategy encrypted sender p content x q).state ≡ length x
  sized_message sender p content x q =
      keeps_message (λ y. length y ≡ length x) (λ y i a _ l. length-set y i a ∙ l) (λ y l. length-set y 0 2 ∙ l) net strategy encrypted sender p content x q refl

module _ (w : List ℕ) (ok : state_ok w ≡ true) (p : Tape) where
  -- PROPOSE
  abbrev given : List ℕ
  given = set w input_at 1

  abbrev proposing : List ℕ → ℕ → List ℕ → Tape → Run (List ℕ) (Unit {0})
  proposing u e = propose_in_epoch (net_of u) (strategy_of u) (encrypted_in u e)

  pub propose_apart : propose w p ≡ cond (is_validator (net_of w)) (inside (committed (set w input_at 1) (current_epoch w)) (propose_work w p)) (ends (going tt) w p)
  unfolding propose propose_work
  propose_apart =
      ap (λ (r : Run (List ℕ) (Unit {0})). cond (is_validator (net_of w)) r (ends (going tt) w p))
      (work_apart w given (over_input w ok) c (omega arith) (omega arith) (proposing w c) (sized_propose (net_of w) (strategy_of w) (encrypted_in w c)) p rest is)
    where
      c : ℕ
      c = current_epoch w

      rest : List ℕ → Tape → Run (List ℕ) (Unit {0})
      rest u q = onward (in_epoch (current_epoch u) (proposing u (current_epoch u)) u q) (λ _ u q. output_batches u q)

      is : (x : List ℕ) → length x ≡ epoch_length (nodes w) → (q : Tape) → rest (with_epoch given c x) q ≡ onward (in_epoch c (proposing w c) (with_epoch given c x) q) (λ _ u q. output_batches u q)
      is x l q =
          let head = after_head w given (over_input w ok) c (omega arith) (omega arith) x l in
          let u : List ℕ = with_epoch given c x in
          let numbers : (i : ℕ) → i < epoch_at → get_or u i 0 ≡ get_or w i 0 = λ i k. head i (omega arith) in
          rw (head epoch_at (omega arith), net_same u w numbers, strategy_same u w numbers, encrypted_same u w numbers c)

  -- what holds of that run, and of one that does nothing, holds of propose
  pub by_propose_apart : (P : Run (List ℕ) (Unit {0}) → Type 0) → P (inside (committed (set w input_at 1) (current_epoch w)) (propose_work w p)) → P (ends (going tt) w p) → P (propose w p)
  by_propose_apart P runs none = rw propose_apart (cond_both (is_validator (net_of w)) _ _ P (λ _. runs) (λ _. none))

  pub propose_counts : fault_count (propose w p).state ≡ fault_count w
  unfolding propose_work
  propose_counts =
      by_propose_apart (λ r. fault_count r.state ≡ fault_count w)
      (commit_counts w given (over_input w ok) (current_epoch w) (omega arith) (omega arith)
      (proposing w (current_epoch w)) (sized_propose (net_of w) (strategy_of w) (encrypted_in w (current_epoch w))) p
      ∙ get_or-set_other w input_at faults_at 1 0 (omega arith))
      refl

  -- where it fails, has input and the epoch's words are kept
  pub propose_failed : (error : ℕ) → (propose_work w p).verdict ≡ failed error
      → committed (set w input_at 1) (current_epoch w) (propose_work w p).state ≡ with_epoch (set w input_at 1) (current_epoch w) (propose_work w p).state.words
  unfolding propose_work
  propose_failed =
      failed_keeps w given (over_input w ok) (current_epoch w) (omega arith) (omega arith)
      (proposing w (current_epoch w)) (sized_propose (net_of w) (strategy_of w) (encrypted_in w (current_epoch w))) p

  -- MESSAGE
  module _ (sender epoch proposer : ℕ) (content : MessageContent) where
    abbrev handling : List ℕ → List ℕ → Tape → Run (List ℕ) (Unit {0})
    handling u = handle_message_content (net_of u) (strategy_of u) (encrypted_in u epoch) sender proposer content

    abbrev size : (x : List ℕ) (q : Tape) → length (handling w x q).state ≡ length x
    size = sized_message (net_of w) (strategy_of w) (encrypted_in w epoch) sender proposer content

    pub message_apart : handle_message sender epoch proposer content w p
        ≡ cond (ltb (current_epoch w + ahead w) epoch) (before (fault 1 sender 0 ∷ []) (ends (going tt) w p))
        (cond (ltb epoch (current_epoch w)) (ends (going tt) w p) (inside (committed w epoch) (message_work sender epoch proposer content w p)))
    unfolding handle_message message_work
    message_apart = go (ltb (current_epoch w + ahead w) epoch) refl (ltb epoch (current_epoch w)) refl
      where
        rest : List ℕ → Tape → Run (List ℕ) (Unit {0})
        rest u q = onward (in_epoch epoch (handling u) u q) (λ _ u q. output_batches u q)

        go : (s : Bool) → ltb (current_epoch w + ahead w) epoch ≡ s → (t : Bool) → ltb epoch (current_epoch w) ≡ t
            → cond s (before (fault 1 sender 0 ∷ []) (ends (going tt) w p)) (cond t (ends (going tt) w p) (onward (epoch_state_mut epoch w p) (λ _ u q. rest u q)))
            ≡ cond s (before (fault 1 sender 0 ∷ []) (ends (going tt) w p)) (cond t (ends (going tt) w p) (inside (committed w epoch) (work_in w epoch (handling w) p)))
        go true a t b = refl
        go false a true b = refl
        go false a false b = work_apart w w (over_same w ok) epoch (ltb-false _ _ b) (ltb-false _ _ a) (handling w) size p rest is
          where
            is : (x : List ℕ) → length x ≡ epoch_length (nodes w) → (q : Tape)
                → rest (with_epoch w epoch x) q ≡ onward (in_epoch epoch (handling w) (with_epoch w epoch x) q) (λ _ u q. output_batches u q)
            is x l q =
                let head = after_head w w (over_same w ok) epoch (ltb-false _ _ b) (ltb-false _ _ a) x l in
                let u : List ℕ = with_epoch w epoch x in
                let numbers : (i : ℕ) → i < epoch_at → get_or u i 0 ≡ get_or w i 0 = λ i k. head i (omega arith) in
                rw (net_same u w numbers, strategy_same u w numbers, encrypted_same u w numbers epoch)

    -- what holds of that run where the epoch is in the window, of one that does nothing, and of one that writes fault 1 alone holds of the message
    pub by_message_apart : (P : Run (List ℕ) (Unit {0}) → Type 0)
        → (current_epoch w ≤ epoch → epoch ≤ current_epoch w + ahead w → P (inside (committed w epoch) (message_work sender epoch proposer content w p)))
        → P (before (fault 1 sender 0 ∷ []) (ends (going tt) w p)) → P (ends (going tt) w p) → P (handle_message sender epoch proposer content w p)
    by_message_apart P runs far late =
        rw message_apart (cond_both (ltb (current_epoch w + ahead w) epoch) _ _ P (λ _. far) (λ a.
        cond_both (ltb epoch (current_epoch w)) _ _ P (λ _. late) (λ b. runs (ltb-false _ _ b) (ltb-false _ _ a))))

    pub message_counts : fault_count (handle_message sender epoch proposer content w p).state ≡ fault_count w
    unfolding message_work
    message_counts =
        by_message_apart (λ r. fault_count r.state ≡ fault_count w) (λ low high. commit_counts w w (over_same w ok) epoch low high (handling w) size p) refl refl

    pub message_failed : current_epoch w ≤ epoch → epoch ≤ current_epoch w + ahead w → (error : ℕ) → (message_work sender epoch proposer content w p).verdict ≡ failed error
        → committed w epoch (message_work sender epoch proposer content w p).state ≡ with_epoch w epoch (message_work sender epoch proposer content w p).state.words
    unfolding message_work
    message_failed a b = failed_keeps w w (over_same w ok) epoch a b (handling w) size p
