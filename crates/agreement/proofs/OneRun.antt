-- A whole run: its words know its history to the end, every batch is dealt by what the whole history took, and the votes of every call. An epoch's laws are parameters. Assumes nothing.
use Rattle.std.proofs.Common.{ℕ, ◌+◌, ◌≤◌, ◌<◌, max, arith, ◌≡◌, refl, sym, ap, ◌∙◌, subst₂, List, [], ◌∷◌, ◌++◌, append-nil, Bool, true, false, cond, not, Option, None, Some, eqb, leb, ltb, length, set, eqb-true, ltb-true, leb-true, leb-false}
use Rattle.std.proofs.Math.Nat.{max-eq_left, max-eq_right}
use Rattle.std.proofs.Math.Path.{subst₃, fun_ext}
use Rattle.std.proofs.lemmas.Bool.{and_parts, eqb-false}
use Rattle.steps.specs.Numbers.{fault_limit, last_epoch}
use Rattle.network.specs.declared.network_info.NetworkInfo.{NetworkInfo}
use Rattle.network.specs.Network.{Network}
use Rattle.steps.specs.Answers.{Rec, tape_of}
use Rattle.steps.specs.Steps.{Entry, faults, outputs}
use Rattle.steps.specs.Table.{within}
use Rattle.steps.specs.Taken.{or_else, first_taken, of_value, of_decision, first_decrypted, thirteens_in}
use Rattle.steps.proofs.TakenFromChain.{or_else_none, or_else_assoc, Good, table_good}
use Rattle.steps.proofs.GivenWithLog.{gives_out}
use Rattle.subset.proofs.TakenTests.{Grown, grown_or}
use Rattle.subset.proofs.VotesAsked.{Voted}
use Rattle.epochwords.specs.declared.SubsetHandlingStrategy.{SubsetHandlingStrategy}
use Rattle.steps.specs.declared.reader.Content.TheVariants.{Broadcast, Agreement}
use Rattle.epoch.specs.declared.MessageContent.TheVariants.{Subset, DecryptionShare}
use Rattle.epoch.proofs.Interface.{fives_among, share_of, EpochLaws}
use Rattle.state.specs.State.{nodes_at, ahead_at, nodes, faulty, ahead, current_epoch, fault_count, faults_at, net_of, strategy_of, encrypted_in, epoch_words, state_ok}
use Rattle.work.specs.HoneyBadger.{skip_to_epoch, propose, handle_message}
use Rattle.calls.specs.Calls.{count_faults, propose_call, content_ok, content_of, message_call, skip_reply, skip_state}
use Rattle.work.specs.SkipLaws.{Skipped}
use Rattle.steps.specs.Batches.{Batch, batches_of, fives_of}
use Rattle.agreement.specs.History.{Call, turn_of, state_after, turns, none_fails, Event, event, events_of, current_after, history, taken, decrypted, propose as proposing, message as messaging, skip as skipping}
use Rattle.agreement.specs.Demand2.{state_after_all, speaks}
use Rattle.work.proofs.Skips.{skip_stays, skip_moves}
use Rattle.engine.proofs.Demand1.{skip_state_lem}
use Rattle.agreement.proofs.StepAsRead.{batches_among, batches_read, fives_read}
use Rattle.agreement.proofs.BatchesDealt.{Tk, texts_of, Hand, handout_later, Dealt, dealt_map, AllDealt}
use Rattle.agreement.proofs.Invariant.{zeros_vacant, Slot, vacant, Sim, sim_set}
use Rattle.agreement.proofs.OneCall.{Moved, proposed_ok, handled_ok}
use Rattle.agreement.proofs.ReplyZero.{propose_passes, message_passes, other_leaves}

-- WHAT ONE EVENT ADDS to what was taken
abbrev pub new_v : Tk → Event → Tk
new_v vs x i q = or_else (vs i q) (cond (eqb x.epoch i) (first_taken of_value q x.answers) None)

abbrev pub new_d : Tk → Event → Tk
new_d ds x i q = or_else (ds i q) (cond (eqb x.epoch i) (first_taken of_decision q x.answers) None)

abbrev pub new_t : Tk → Event → Tk
new_t ts x i q = or_else (ts i q) (cond (eqb x.epoch i) (first_decrypted q x.share_of x.answers) None)

-- after the whole chain, what is known is what was known before it, or what it told
all_told : (k : ℕ → Option ℕ) (e : ℕ) (t t' : Tk) → ((q : ℕ) → or_else (t e q) (k q) ≡ or_else (t' e q) None) → ((i : ℕ) → eqb e i ≡ false → t' i ≡ t i)
    → t' ≡ (λ i q. or_else (t i q) (cond (eqb e i) (k q) None))
all_told k e t t' a b = fun_ext (λ i. fun_ext (λ q. go i q (eqb e i) refl))
  where
    go : (i q : ℕ) (z : Bool) → eqb e i ≡ z → t' i q ≡ or_else (t i q) (cond z (k q) None)
    go i q true z = rw (← eqb-true e i z) (sym (a q ∙ or_else_none (t' e q)))
    go i q false z = ap (λ (f : ℕ → Option ℕ). f q) (b i z) ∙ sym (or_else_none (t i q))

-- and what a history adds
abbrev pub upto : (List Event → ℕ → ℕ → Option ℕ) → Tk → List Event → Tk
upto k t h e q = or_else (t e q) (k h e q)

pub upto_taken : (is : ℕ → Bool) (t : Tk) (x : Event) (h : List Event)
    → upto (taken is) (λ i q. or_else (t i q) (cond (eqb x.epoch i) (first_taken is q x.answers) None)) h ≡ upto (taken is) t (x ∷ h)
unfolding taken
upto_taken is t x h = fun_ext (λ i. fun_ext (λ q. or_else_assoc (t i q) (cond (eqb x.epoch i) (first_taken is q x.answers) None) (taken is h i q)))

upto_decrypted : (t : Tk) (x : Event) (h : List Event) → upto decrypted (new_t t x) h ≡ upto decrypted t (x ∷ h)
unfolding decrypted
upto_decrypted t x h = fun_ext (λ i. fun_ext (λ q. or_else_assoc (t i q) (cond (eqb x.epoch i) (first_decrypted q x.share_of x.answers) None) (decrypted h i q)))

-- the votes of every event, where vs and ds were taken before; `far` is the look-ahead
unfoldable pub AllVoted : NetworkInfo → ℕ → Tk → Tk → List Event → Type 0
AllVoted net far vs ds [] = Unit {0}
AllVoted net far vs ds (x ∷ xs) = Voted net (speaks net far x) (vs x.epoch) (ds x.epoch) x.answers [] × AllVoted net far (new_v vs x) (new_d ds x) xs

-- of the event behind h, by what was taken in h
pub voted_at : (net : NetworkInfo) (far : ℕ) (h : List Event) (x : Event) (l : List Event) (vs ds : Tk) → AllVoted net far vs ds (h ++ (x ∷ l))
    → Voted net (speaks net far x) (upto (taken of_value) vs h x.epoch) (upto (taken of_decision) ds h x.epoch) x.answers []
unfolding AllVoted taken
voted_at net far [] x l vs ds a =
    subst₂ (λ (f g : ℕ → Option ℕ). Voted net (speaks net far x) f g x.answers []) (fun_ext (λ q. sym (or_else_none (vs x.epoch q)))) (fun_ext (λ q. sym (or_else_none (ds x.epoch q)))) a.0
voted_at net far (y ∷ h) x l vs ds a =
    subst₂ (λ (f g : Tk). Voted net (speaks net far x) (f x.epoch) (g x.epoch) x.answers []) (upto_taken of_value vs y h) (upto_taken of_decision ds y h)
    (voted_at net far h x l (new_v vs y) (new_d ds y) a.1)

-- a batch stays as it is while more is taken
hand_later : (n f : ℕ) (encrypted : ℕ → Bool) (vs ds ts vs' ds' ts' : Tk) → ((e q : ℕ) → Grown (vs e q) (vs' e q)) → ((e q : ℕ) → Grown (ds e q) (ds' e q)) → ((e q : ℕ) → Grown (ts e q) (ts' e q))
    → (b : Batch) (rs : List Rec) → Hand n f encrypted vs ds ts b rs → Hand n f encrypted vs' ds' ts' b rs
hand_later n f encrypted vs ds ts vs' ds' ts' gv gd gt b rs h =
    handout_later n f (vs b.epoch) (ds b.epoch) (texts_of encrypted vs ts b.epoch) (vs' b.epoch) (ds' b.epoch) (texts_of encrypted vs' ts' b.epoch)
    (gv b.epoch) (gd b.epoch) (λ q. go q (encrypted b.epoch)) b rs h
  where
    go : (q : ℕ) (c : Bool) → Grown (cond c (ts b.epoch q) (vs b.epoch q)) (cond c (ts' b.epoch q) (vs' b.epoch q))
    go q true = gt b.epoch q
    go q false = gv b.epoch q

-- the proposer that a 12 concerns at a message's begin
share_is : (n content proposer item : ℕ) → content_ok n content proposer ≡ true
    → share_of proposer (content_of content item) ≡ cond (eqb content 3) (Some proposer) None
unfolding content_ok content_of share_of
share_is n content proposer item ok = by (eqb content 1) refl (eqb content 2) refl (eqb content 3) refl
  where
    range : within 1 3 content ≡ true
    range = (and_parts (within 1 3 content) (ltb proposer n) ok).0

    low : 1 ≤ content
    low = leb-true 1 content (and_parts (leb 1 content) (leb content 3) range).0

    high : content ≤ 3
    high = leb-true content 3 (and_parts (leb 1 content) (leb content 3) range).1

    by : (a : Bool) → eqb content 1 ≡ a → (b : Bool) → eqb content 2 ≡ b → (c : Bool) → eqb content 3 ≡ c
        → share_of proposer (cond a (Subset Broadcast) (cond b (Subset Agreement) (DecryptionShare item))) ≡ cond c (Some proposer) None
    by true i b j true k = absurd (omega (arith, eqb-true content 1 i, eqb-true content 3 k))
    by true i b j false k = refl
    by false i true j true k = absurd (omega (arith, eqb-true content 2 j, eqb-true content 3 k))
    by false i true j false k = refl
    by false i false j true k = refl
    by false i false j false k =
        let a : content ≡ 1 → ⊥ = eqb-false content 1 i in
        let b : content ≡ 2 → ⊥ = eqb-false content 2 j in
        let c : content ≡ 3 → ⊥ = eqb-false content 3 k in
        absurd (omega (arith, low, high))

pub named_below : (n content proposer : ℕ) → content_ok n content proposer ≡ true → proposer < n
unfolding content_ok
named_below n content proposer ok = ltb-true proposer n (and_parts (within 1 3 content) (ltb proposer n) ok).1

skip_passes : (target : ℕ) (w : List ℕ) → skip_reply target w ≡ 0 → state_ok w ≡ true
unfolding skip_reply
skip_passes target w e = go (state_ok w) e
  where
    go : (t : Bool) → ◌≡◌ {A = ℕ} (cond (not t) 3 (cond (ltb last_epoch target) 12 0)) 0 → t ≡ true
    go true e = refl
    go false e = absurd (omega arith)

module _ (Holds : NetworkInfo → SubsetHandlingStrategy → Bool → List ℕ → (ℕ → Option ℕ) → (ℕ → Option ℕ) → (ℕ → Option ℕ) → Type 0)
    (laws : EpochLaws Holds) (w₀ : List ℕ) (network : Network (net_of w₀)) where
  abbrev SimOf : List ℕ → ℕ → Tk → Tk → Tk → Type 0
  SimOf = Sim Holds w₀

  abbrev HandOf : Tk → Tk → Tk → Batch → List Rec → Type 0
  HandOf = Hand (nodes w₀) (faulty w₀) (encrypted_in w₀)

  -- A CALL WITH REPLY 0 and its event
  pub record Stepped (cur : ℕ) (vs ds ts : Tk) (x : Event) (w : List ℕ) : Type 0 where
    pub sim : SimOf w (cur + length x.batches) (new_v vs x) (new_d ds x) (new_t ts x)
    pub dealt : Dealt (HandOf (new_v vs x) (new_d ds x) (new_t ts x)) x.batches (thirteens_in x.answers) x.fives
    pub votes : Voted (net_of w₀) (speaks (net_of w₀) (ahead w₀) x) (vs x.epoch) (ds x.epoch) x.answers []

  sim_count : (w : List ℕ) (cur : ℕ) (vs ds ts : Tk) (log : List Entry) → SimOf w cur vs ds ts → SimOf (count_faults w log) cur vs ds ts
  unfolding count_faults
  sim_count w cur vs ds ts log h = go (leb (fault_count w + length (faults log)) fault_limit)
    where
      go : (t : Bool) → SimOf (cond t (set w faults_at (fault_count w + length (faults log))) (set w faults_at fault_limit)) cur vs ds ts
      go true = sim_set Holds w₀ w cur vs ds ts h faults_at (fault_count w + length (faults log)) (omega arith) (omega arith)
      go false = sim_set Holds w₀ w cur vs ds ts h faults_at fault_limit (omega arith) (omega arith)

  stepped : (cur : ℕ) (vs ds ts : Tk) (x : Event) (w : List ℕ) (log : List Entry) → Moved Holds laws w₀ network cur vs ds ts x.epoch x.share_of (speaks (net_of w₀) (ahead w₀) x) x.answers w [] log
      → x.batches ≡ batches_among (outputs log) → x.fives ≡ fives_among (faults log) → Stepped cur vs ds ts x (count_faults w log)
  unfolding first_taken first_decrypted thirteens_in
  stepped cur vs ds ts x w log m b f =
      let ev : m.vs' ≡ new_v vs x = all_told (λ q. first_taken of_value q x.answers) x.epoch vs m.vs' m.value (λ i z. (m.other i z).0) in
      let ed : m.ds' ≡ new_d ds x = all_told (λ q. first_taken of_decision q x.answers) x.epoch ds m.ds' m.decision (λ i z. (m.other i z).1) in
      let et : m.ts' ≡ new_t ts x = all_told (λ q. first_decrypted q x.share_of x.answers) x.epoch ts m.ts' m.text (λ i z. (m.other i z).2) in
      record {
        sim = rw b (sim_count w (cur + length (batches_among (outputs log))) (new_v vs x) (new_d ds x) (new_t ts x) log
            (subst₃ (λ (g h k : Tk). SimOf w (cur + length (batches_among (outputs log))) g h k) ev ed et m.sim));
        dealt = rw (b, f, m.told, append-nil m.rs) (subst₃ (λ (g h k : Tk). Dealt (HandOf g h k) (batches_among (outputs log)) m.rs (fives_among (faults log))) ev ed et m.dealt);
        votes = m.votes;
      }

  pub proposed : (w : List ℕ) (cur : ℕ) (vs ds ts : Tk) → SimOf w cur vs ds ts → (scratch answers step : List ℕ) → (propose_call w scratch answers step).reply ≡ 0
      → Stepped cur vs ds ts (event cur false cur None answers (propose_call w scratch answers step).step) (propose_call w scratch answers step).state
  unfolding speaks
  proposed w cur vs ds ts h scratch answers step e =
      let p = propose_passes w scratch answers step e in
      let run = propose w (tape_of answers) in
      let good : Good (nodes w₀) (tape_of answers).rest = rw h.shaped.nodes at (table_good (nodes w) answers p.1) in
      let m = gives_out run _ tt (proposed_ok Holds laws w₀ network w cur vs ds ts (tape_of answers) h good) p.2.goes in
      rw p.2.state
      (stepped cur vs ds ts (event cur false cur None answers (propose_call w scratch answers step).step) run.state run.log (rw p.2.rest at m)
      (ap batches_of p.2.written ∙ batches_read step run.log (current_epoch w))
      (ap fives_of p.2.written ∙ fives_read step run.log (current_epoch w)))

  pub handled : (w : List ℕ) (cur : ℕ) (vs ds ts : Tk) → SimOf w cur vs ds ts → (sender epoch content proposer item : ℕ) (scratch answers step : List ℕ)
      → (message_call w scratch answers step sender epoch content proposer item).reply ≡ 0
      → Stepped cur vs ds ts (event cur true epoch (cond (eqb content 3) (Some proposer) None) answers (message_call w scratch answers step sender epoch content proposer item).step)
      (message_call w scratch answers step sender epoch content proposer item).state
  unfolding speaks
  handled w cur vs ds ts h sender epoch content proposer item scratch answers step e =
      let p = message_passes w scratch answers step sender epoch content proposer item e in
      let c = content_of content item in
      let run = handle_message sender epoch proposer c w (tape_of answers) in
      let same = h.shaped.nodes in
      let good : Good (nodes w₀) (tape_of answers).rest = rw same at (table_good (nodes w) answers p.1) in
      let sent : sender < nodes w₀ = rw same at p.2 in
      let below : proposer < nodes w₀ = rw same at (named_below (nodes w) content proposer p.3) in
      let m = gives_out run _ tt (handled_ok Holds laws w₀ network sender epoch proposer c sent below w cur vs ds ts (tape_of answers) h good) p.4.goes in
      rw p.4.state
      (stepped cur vs ds ts (event cur true epoch (cond (eqb content 3) (Some proposer) None) answers (message_call w scratch answers step sender epoch content proposer item).step) run.state run.log
      (rw (p.4.rest, share_is (nodes w) content proposer item p.3) at m)
      (ap batches_of p.4.written ∙ batches_read step run.log epoch)
      (ap fives_of p.4.written ∙ fives_read step run.log epoch))

  -- SKIP
  skipped_up : (w : List ℕ) (cur : ℕ) (vs ds ts : Tk) → SimOf w cur vs ds ts → (target : ℕ) (v : List ℕ) → cur < target → Skipped target w v → SimOf v target vs ds ts
  skipped_up w cur vs ds ts h target v up k =
      record {
        shaped = record { long = k.long ∙ h.shaped.long; nodes = k.header nodes_at (omega arith) (omega arith) (omega arith) ∙ h.shaped.nodes; ahead = k.header ahead_at (omega arith) (omega arith) (omega arith) ∙ h.shaped.ahead };
        same = λ i l. k.header i (omega arith) (omega arith) (omega arith) ∙ h.same i l;
        current = k.epoch;
        slots = λ e l u. slot e l u (leb e (cur + ahead w₀)) refl;
        beyond = λ e l. h.beyond e (omega arith);
      }
    where
      slot : (e : ℕ) → target ≤ e → e ≤ target + ahead w₀ → (t : Bool) → leb e (cur + ahead w₀) ≡ t
          → Slot Holds (net_of w₀) (strategy_of w₀) (encrypted_in w₀ e) (epoch_words v e) (vs e) (ds e) (ts e)
      slot e l u true z =
          let b : e ≤ cur + ahead w₀ = leb-true e (cur + ahead w₀) z in
          rw (k.kept e l (omega (arith, h.current, h.shaped.ahead))) (h.slots e (omega arith) b)
      slot e l u false z =
          let b : cur + ahead w₀ < e = leb-false e (cur + ahead w₀) z in
          let n = h.beyond e b in
          vacant (rw (k.vacant e (omega (arith, h.current, h.shaped.ahead)) (omega (arith, h.current, h.shaped.ahead))) (zeros_vacant (nodes w))) n.0 n.1 n.2

  pub skipped : (w : List ℕ) (cur : ℕ) (vs ds ts : Tk) → SimOf w cur vs ds ts → (target : ℕ) → skip_reply target w ≡ 0 → SimOf (skip_state target w) (max cur target) vs ds ts
  skipped w cur vs ds ts h target e = rw (skip_state_lem target w e) (go (leb target cur) refl)
    where
      go : (t : Bool) → leb target cur ≡ t → SimOf (skip_to_epoch target w) (max cur target) vs ds ts
      go true z =
          let l : target ≤ cur = leb-true target cur z in
          rw (skip_stays target w (omega (arith, h.current)), max-eq_left l) h
      go false z =
          let l : cur < target = leb-false target cur z in
          let le : cur ≤ target = omega arith in
          rw (max-eq_right le) (skipped_up w cur vs ds ts h target (skip_to_epoch target w) l (skip_moves target w (skip_passes target w e) (omega (arith, h.current))))

  -- THE RUN
  abbrev Ends : Tk → Tk → Tk → List Event → Type 0
  Ends vs ds ts h = AllDealt (HandOf (upto (taken of_value) vs h) (upto (taken of_decision) ds h) (upto decrypted ts h)) h

  ends_event : (cur : ℕ) (vs ds ts : Tk) (x : Event) (w : List ℕ) (h : List Event) → Stepped cur vs ds ts x w → Ends (new_v vs x) (new_d ds x) (new_t ts x) h → Ends vs ds ts (x ∷ h)
  unfolding AllDealt
  ends_event cur vs ds ts x w h s k =
      subst₃ (λ (a b c : Tk). Dealt (HandOf a b c) x.batches (thirteens_in x.answers) x.fives × AllDealt (HandOf a b c) h)
      (upto_taken of_value vs x h) (upto_taken of_decision ds x h) (upto_decrypted ts x h) (
        dealt_map (HandOf (new_v vs x) (new_d ds x) (new_t ts x)) (HandOf (upto (taken of_value) (new_v vs x) h) (upto (taken of_decision) (new_d ds x) h) (upto decrypted (new_t ts x) h))
            (hand_later (nodes w₀) (faulty w₀) (encrypted_in w₀) (new_v vs x) (new_d ds x) (new_t ts x) _ _ _
            (λ e q. grown_or (new_v vs x e q) (taken of_value h e q)) (λ e q. grown_or (new_d ds x e q) (taken of_decision h e q)) (λ e q. grown_or (new_t ts x e q) (decrypted h e q)))
            x.batches (thirteens_in x.answers) x.fives s.dealt,
        k,
      )

  -- a run with the history h left the words w
  pub record Ran (vs ds ts : Tk) (h : List Event) (w : List ℕ) : Type 0 where
    pub last : ℕ
    pub sim : SimOf w last (upto (taken of_value) vs h) (upto (taken of_decision) ds h) (upto decrypted ts h)
    pub dealt : Ends vs ds ts h
    pub voted : AllVoted (net_of w₀) (ahead w₀) vs ds h

  ran_nothing : (w : List ℕ) (cur : ℕ) (vs ds ts : Tk) → SimOf w cur vs ds ts → Ran vs ds ts [] w
  unfolding AllDealt AllVoted taken decrypted
  ran_nothing w cur vs ds ts h = record {
    last = cur;
    sim = subst₃ (λ (a b c : Tk). SimOf w cur a b c) (still vs) (still ds) (still ts) h;
    dealt = tt;
    voted = tt;
  }
    where
      still : (t : Tk) → t ≡ (λ i q. or_else (t i q) None)
      still t = fun_ext (λ i. fun_ext (λ q. sym (or_else_none (t i q))))

  ran_event : (cur : ℕ) (vs ds ts : Tk) (x : Event) (w w' : List ℕ) (h : List Event) → Stepped cur vs ds ts x w → Ran (new_v vs x) (new_d ds x) (new_t ts x) h w' → Ran vs ds ts (x ∷ h) w'
  unfolding AllVoted
  ran_event cur vs ds ts x w w' h s k = record {
    last = k.last;
    sim = subst₃ (λ (a b c : Tk). SimOf w' k.last a b c) (upto_taken of_value vs x h) (upto_taken of_decision ds x h) (upto_decrypted ts x h) k.sim;
    dealt = ends_event cur vs ds ts x w h s k.dealt;
    voted = (s.votes, k.voted);
  }

  abbrev Onward : List Call → Type 0
  Onward cs = (w : List ℕ) (cur : ℕ) (vs ds ts : Tk) → SimOf w cur vs ds ts → none_fails (turns w cs) ≡ true → Ran vs ds ts (history cur (turns w cs)) (state_after_all w cs)

  -- one call with reply 0
  zero_ok : (c : Call) (cs : List Call) → Onward cs → (w : List ℕ) (cur : ℕ) (vs ds ts : Tk) → SimOf w cur vs ds ts → (turn_of w c).reply ≡ 0 → none_fails (turns (state_after w c) cs) ≡ true
      → Ran vs ds ts (events_of cur (turn_of w c).call (turn_of w c).step ++ history (current_after cur (turn_of w c).call (turn_of w c).step) (turns (state_after w c) cs)) (state_after_all (state_after w c) cs)
  unfolding turn_of state_after events_of current_after
  zero_ok (proposing scratch answers step) cs ih w cur vs ds ts h e n =
      let s = proposed w cur vs ds ts h scratch answers step e in
      ran_event cur vs ds ts _ _ _ _ s (ih _ _ _ _ _ s.sim n)
  zero_ok (messaging sender epoch content proposer item scratch answers step) cs ih w cur vs ds ts h e n =
      let s = handled w cur vs ds ts h sender epoch content proposer item scratch answers step e in
      ran_event cur vs ds ts _ _ _ _ s (ih _ _ _ _ _ s.sim n)
  zero_ok (skipping target) cs ih w cur vs ds ts h e n = ih _ _ vs ds ts (skipped w cur vs ds ts h target e) n

  pub run_all : (cs : List Call) → Onward cs
  unfolding turns none_fails history state_after_all
  run_all [] w cur vs ds ts h n = ran_nothing w cur vs ds ts h
  run_all (c ∷ cs) w cur vs ds ts h n = go (eqb (turn_of w c).reply 0) refl (run_all cs)
    where
      parts : (ltb (turn_of w c).reply 20 ≡ true) × (none_fails (turns (state_after w c) cs) ≡ true)
      parts = and_parts (ltb (turn_of w c).reply 20) (none_fails (turns (state_after w c) cs)) n

      go : (t : Bool) → eqb (turn_of w c).reply 0 ≡ t → Onward cs
          → Ran vs ds ts (cond t (events_of cur (turn_of w c).call (turn_of w c).step) [] ++ history (cond t (current_after cur (turn_of w c).call (turn_of w c).step) cur) (turns (state_after w c) cs))
          (state_after_all (state_after w c) cs)
      go true e ih = zero_ok c cs ih w cur vs ds ts h (eqb-true (turn_of w c).reply 0 e) parts.1
      go false e ih =
          ih (state_after w c) cur vs ds ts
          (rw (other_leaves w c (ltb-true (turn_of w c).reply 20 parts.0) (eqb-false (turn_of w c).reply 0 e)) h) parts.1

  pub run_ok : (cs : List Call) (w : List ℕ) (cur : ℕ) (vs ds ts : Tk) → SimOf w cur vs ds ts → none_fails (turns w cs) ≡ true → Ends vs ds ts (history cur (turns w cs))
  run_ok cs w cur vs ds ts h n = (run_all cs w cur vs ds ts h n).dealt
