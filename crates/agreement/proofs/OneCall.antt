-- A run of propose or message: what it took, the batches that it handed out, and that the words still know the history. An epoch's laws are parameters. Assumes nothing.
use Rattle.std.proofs.Common.{ℕ, zero, suc, ◌+◌, ◌≤◌, ◌<◌, add-zero, arith, ◌≡◌, refl, sym, ap, ◌∙◌, List, [], ◌∷◌, ◌++◌, append_assoc, Bool, true, false, cond, ◌&&◌, not, Option, None, eqb, leb, ltb, length, get_or, set, length-set, eqb-true, eq-eqb, ltb-true, ltb-false, le-leb}
use Rattle.std.proofs.lemmas.List.{length-replicate}
use Rattle.std.proofs.lemmas.Bool.{and_parts, false≢true, lt-leb}
use Rattle.std.proofs.Math.Bool.{and-false, and-true}
use Rattle.network.specs.declared.network_info.NetworkInfo.{NetworkInfo}
use Rattle.network.specs.Network.{Network, is_validator}
use Rattle.steps.specs.Answers.{Rec, Tape}
use Rattle.steps.specs.Table.{within}
use Rattle.steps.specs.Steps.{Entry, fault, item, faults, outputs}
use Rattle.steps.specs.Runs.{going, Run, ends, onward, inside}
use Rattle.steps.specs.Taken.{or_else, is_there, is_true, first_taken, of_value, of_decision, first_decrypted, thirteens_in}
use Rattle.steps.proofs.TakenFromChain.{Good}
use Rattle.steps.proofs.GivenWithLog.{Gives, gives_own, gives_map, gives_cond, gives_ask, gives_onward, gives_inside, Neither, neither, neither_then, neither_1, thirteens_1, good_tail, outputs_append, faults_append}
use Rattle.subset.specs.Words.{record_length, epoch_length, status_at}
use Rattle.steps.proofs.AfterRun.{Afterwards}
use Rattle.subset.proofs.VotesAsked.{untold_same, untold_neither, Voted, voted_still, voted_after, voted_before}
use Rattle.epochwords.specs.declared.SubsetHandlingStrategy.{SubsetHandlingStrategy}
use Rattle.epoch.specs.declared.MessageContent.{MessageContent}
use Rattle.epochwords.specs.Words.{is_vacant, is_complete}
use Rattle.epoch.specs.Epoch.{new_epoch, propose as propose_in_epoch, handle_message_content}
use Rattle.epochwords.specs.Batch.{is_ready, decrypted_from, is_ready_in, is_read, output_batch}
use Rattle.epoch.proofs.Interface.{nothing, fives_among, Quiet, share_of, CallTold, Ready, EpochLaws}
use Rattle.epoch.proofs.Occupied.{Alive, alive_new, alive_propose, alive_message}
use Rattle.epoch.proofs.QuietRuns.{fives_append}
use Rattle.state.specs.State.{nodes, faulty, ahead, current_epoch, input_at, net_of, strategy_of, encrypted_in, epoch_words, with_epoch}
use Rattle.work.specs.HoneyBadger.{update_epoch, epoch_state_mut, in_epoch, try_output_batches, output_batches, propose, handle_message}
use Rattle.steps.specs.Batches.{Batch}
use Rattle.agreement.specs.History.{unreadable_in}
use Rattle.state.proofs.Window.{words_long, with_same}
use Rattle.agreement.proofs.OneBatch.{entries_of, items_of, text_in, Put, batch_put}
use Rattle.agreement.proofs.StepAsRead.{entries_among, batches_among, batch_first}
use Rattle.agreement.proofs.BatchesDealt.{Tk, Hand, Dealt, no_batch, one_batch, names_same}
use Rattle.agreement.proofs.Invariant.{Slot, vacant, lives, Sim, net_same, strategy_same, encrypted_same, sim_set, sim_with, sim_update}

-- an epoch that is not there is not ready
vacant_waits : (n : ℕ) (x : List ℕ) → is_vacant x ≡ true → is_ready n x ≡ true → ⊥
unfolding is_ready_in
vacant_waits n x e r =
    let c : get_or x status_at 0 ≡ 2 = eqb-true (get_or x status_at 0) 2 (and_parts (is_complete x) (decrypted_from (record_length n) n 0 x) r).0 in
    omega (arith, eqb-true (get_or x status_at 0) 0 e)

new_long : (n : ℕ) → length (new_epoch n) ≡ epoch_length n
unfolding new_epoch
new_long n = simp (length-set, length-replicate)

module _ (Holds : NetworkInfo → SubsetHandlingStrategy → Bool → List ℕ → (ℕ → Option ℕ) → (ℕ → Option ℕ) → (ℕ → Option ℕ) → Type 0)
    (laws : EpochLaws Holds) (w₀ : List ℕ) (network : Network (net_of w₀)) where
  abbrev net : NetworkInfo
  net = net_of w₀

  abbrev strategy : SubsetHandlingStrategy
  strategy = strategy_of w₀

  abbrev encrypted : ℕ → Bool
  encrypted = encrypted_in w₀

  abbrev SimOf : List ℕ → ℕ → Tk → Tk → Tk → Type 0
  SimOf = Sim Holds w₀

  abbrev HandOf : Tk → Tk → Tk → Batch → List Rec → Type 0
  HandOf = Hand (nodes w₀) (faulty w₀) encrypted

  -- BATCHES
  pub record Batched (cur : ℕ) (vs ds ts : Tk) (ws : List Rec) (w : List ℕ) (r : List Rec) (log : List Entry) : Type 0 where
    pub rs : List Rec
    pub sim : SimOf w (cur + length (batches_among (outputs log))) vs ds ts
    pub told : thirteens_in ws ≡ rs ++ thirteens_in r
    pub nothing : Neither ws r
    pub dealt : Dealt (HandOf vs ds ts) (batches_among (outputs log)) rs (fives_among (faults log))
    pub lead : entries_among (outputs log) ≡ []

  unbatched : (w : List ℕ) (cur : ℕ) (vs ds ts : Tk) (ws : List Rec) → SimOf w cur vs ds ts → Batched cur vs ds ts ws w ws []
  unfolding batches_among entries_among outputs faults fives_among
  unbatched w cur vs ds ts ws h = record {
    rs = [];
    sim = rw (add-zero cur) h;
    told = refl;
    nothing = neither ws;
    dealt = no_batch;
    lead = refl;
  }

  -- the batch of the current epoch, which is ready
  batch_of : (w : List ℕ) (cur : ℕ) (vs ds ts : Tk) (ws : List Rec) (v : List ℕ) (r : List Rec) (l : List Entry)
      → Ready Holds net (encrypted cur) (epoch_words w cur) (vs cur) (ds cur) (ts cur)
      → (k : Put (nodes w₀) cur (epoch_words w cur) ws v r l)
      → HandOf vs ds ts (record { epoch = cur; count = length (entries_of (text_in (nodes w₀) (epoch_words w cur)) k.rs); entries = entries_of (text_in (nodes w₀) (epoch_words w cur)) k.rs }) k.rs
  unfolding net_of
  batch_of w cur vs ds ts ws v r l ready k = record {
    text = text_in (nodes w₀) (epoch_words w cur);
    named = k.named ∙ names_same (is_read (record_length (nodes w₀)) (epoch_words w cur)) (λ q. is_true (ds cur q)) (nodes w₀) 0 (λ q a b. ready.read q (omega arith));
    decided = ready.decided;
    known = ready.known;
    texts = ready.plaintext;
    entries = refl;
    count = refl;
    enough = ready.enough;
  }

  batch_then : (w : List ℕ) (cur : ℕ) (vs ds ts : Tk) (ws : List Rec) (v : List ℕ) (r : List Rec) (l : List Entry) (u : List ℕ) (z : List Rec) (m : List Entry)
      → (k : Put (nodes w₀) cur (epoch_words w cur) ws v r l)
      → HandOf vs ds ts (record { epoch = cur; count = length (entries_of (text_in (nodes w₀) (epoch_words w cur)) k.rs); entries = entries_of (text_in (nodes w₀) (epoch_words w cur)) k.rs }) k.rs
      → Batched (cur + 1) vs ds ts r u z m → Batched cur vs ds ts ws u z (l ++ m)
  unfolding entries_among
  batch_then w cur vs ds ts ws v r l u z m k hand y =
      let es = entries_of (text_in (nodes w₀) (epoch_words w cur)) k.rs in
      let os : outputs (l ++ m) ≡ item 1 cur (length es) ∷ (items_of es ++ outputs m) = outputs_append l m ∙ ap (λ o. o ++ outputs m) k.shown in
      let bs : batches_among (outputs (l ++ m)) ≡ record { epoch = cur; count = length es; entries = es } ∷ batches_among (outputs m) =
      ap batches_among os ∙ batch_first cur (length es) es (outputs m) y.lead in
      let fs : fives_among (faults (l ++ m)) ≡ unreadable_in k.rs ++ fives_among (faults m) =
      ap fives_among (faults_append l m) ∙ (fives_append (faults l) (faults m) ∙ ap (λ o. o ++ fives_among (faults m)) k.fives) in
      let c : cur + 1 + length (batches_among (outputs m)) ≡ cur + suc (length (batches_among (outputs m))) = omega arith in
      record {
        rs = k.rs ++ y.rs;
        sim = rw (bs, ← c) y.sim;
        told = k.told ∙ (ap (λ o. k.rs ++ o) y.told ∙ sym (append_assoc k.rs y.rs (thirteens_in z)));
        nothing = neither_then k.nothing y.nothing;
        dealt =
            rw bs
            (one_batch (record { epoch = cur; count = length es; entries = es }) (batches_among (outputs m)) k.rs y.rs (k.rs ++ y.rs)
            (fives_among (faults m)) (fives_among (faults (l ++ m))) hand refl fs y.dealt);
        lead = rw os;
      }

  batches_ok : (m : ℕ) (w : List ℕ) (cur : ℕ) (vs ds ts : Tk) (p : Tape) → SimOf w cur vs ds ts
      → Gives (try_output_batches m w p) (λ _ v q l. Batched cur vs ds ts p.rest v q.rest l)
  unfolding try_output_batches in_epoch net_of
  batches_ok zero w cur vs ds ts p h = unbatched w cur vs ds ts p.rest h
  batches_ok (suc m) w cur vs ds ts p h = go (is_ready (nodes w) (epoch_words w (current_epoch w))) refl (λ v q k. batches_ok m v (cur + 1) vs ds ts q k)
    where
      go : (x : Bool) → is_ready (nodes w) (epoch_words w (current_epoch w)) ≡ x
          → ((v : List ℕ) (q : Tape) → SimOf v (cur + 1) vs ds ts → Gives (try_output_batches m v q) (λ _ u z l. Batched (cur + 1) vs ds ts q.rest u z.rest l))
          → Gives {S = List ℕ} {A = Unit {0}}
          (elim x [
            | true ↦ onward (in_epoch (current_epoch w) (output_batch (nodes w) (current_epoch w)) w p) (λ _ w q. try_output_batches m (update_epoch w) q)
            | false ↦ ends (going tt) w p
          ])
          (λ _ v q l. Batched cur vs ds ts p.rest v q.rest l)
      go false e ih = unbatched w cur vs ds ts p.rest h
      go true e ih = rw (h.current, h.shaped.nodes) (by (h.slots cur (omega arith) (omega arith)) (rw (h.current, h.shaped.nodes) at e))
        where
          by : Slot Holds net strategy (encrypted cur) (epoch_words w cur) (vs cur) (ds cur) (ts cur) → is_ready (nodes w₀) (epoch_words w cur) ≡ true
              → Gives (onward (inside (with_epoch w cur) (output_batch (nodes w₀) cur (epoch_words w cur) p)) (λ _ w q. try_output_batches m (update_epoch w) q))
              (λ _ v q l. Batched cur vs ds ts p.rest v q.rest l)
          by (vacant i a b c) ready = absurd (vacant_waits (nodes w₀) (epoch_words w cur) i ready)
          by (lives there k) ready =
              let rd = laws.ready net strategy (encrypted cur) (epoch_words w cur) (vs cur) (ds cur) (ts cur) network k ready in
              gives_onward (inside (with_epoch w cur) (output_batch (nodes w₀) cur (epoch_words w cur) p)) _ _
              (gives_inside (with_epoch w cur) (output_batch (nodes w₀) cur (epoch_words w cur) p) _
              (gives_map (output_batch (nodes w₀) cur (epoch_words w cur) p) _ _ (batch_put (nodes w₀) cur (epoch_words w cur) p) (λ _ x q l b.
              let s : SimOf (with_epoch w cur x) cur vs ds ts =
              sim_with Holds w₀ w cur vs ds ts h cur (omega arith) (omega arith) x (rw b.same (words_long (nodes w₀) (ahead w₀) w h.shaped cur)) (rw b.same there) vs ds ts (rw b.same k) (λ i z. (refl, refl, refl)) in
              gives_map (try_output_batches m (update_epoch (with_epoch w cur x)) q) _ _ (ih (update_epoch (with_epoch w cur x)) q (sim_update Holds w₀ (with_epoch w cur x) cur vs ds ts s))
              (λ _ u z k y. batch_then w cur vs ds ts p.rest x q.rest l u z.rest k b (batch_of w cur vs ds ts p.rest x q.rest l rd b) y))))

  -- THE EPOCH IS THERE, built now or before
  pub record Built (e cur : ℕ) (vs ds ts : Tk) (ws : List Rec) (w : List ℕ) (r : List Rec) (log : List Entry) : Type 0 where
    pub sim : SimOf w cur vs ds ts
    pub there : Alive (epoch_words w e)
    pub holds : Holds net strategy (encrypted e) (epoch_words w e) (vs e) (ds e) (ts e)
    pub nothing : Neither ws r
    pub told : thirteens_in ws ≡ thirteens_in r
    pub good : Good (nodes w₀) r
    pub silent : log ≡ []

  module _ (e : ℕ) (x : List ℕ) (v d t : ℕ → Option ℕ) where
    was_vacant : is_vacant x ≡ true → Slot Holds net strategy (encrypted e) x v d t → (v ≡ nothing) × (d ≡ nothing) × (t ≡ nothing)
    was_vacant i (vacant _ a b c) = (a, b, c)
    was_vacant i (lives there k) = absurd (false≢true (sym there.status ∙ i))

    was_there : is_vacant x ≡ false → Slot Holds net strategy (encrypted e) x v d t → Alive x × Holds net strategy (encrypted e) x v d t
    was_there i (vacant j a b c) = absurd (false≢true (sym i ∙ j))
    was_there i (lives there k) = (there, k)

  pub mut_ok : (w : List ℕ) (cur : ℕ) (vs ds ts : Tk) (e : ℕ) (p : Tape) → cur ≤ e → e ≤ cur + ahead w₀ → SimOf w cur vs ds ts → Good (nodes w₀) p.rest
      → Gives (epoch_state_mut e w p) (λ _ v q l. Built e cur vs ds ts p.rest v q.rest l)
  unfolding epoch_state_mut net_of
  mut_ok w cur vs ds ts e p l u h g =
      gives_cond (is_vacant (epoch_words w e)) _ _ _
      (λ i. gives_ask p 1 w _ _ (λ r rs er ek. rw er (gives_cond (eqb r.a 0) _ _ _ (λ _. tt) (λ _. new r rs ek (rw er at g) (was_vacant e (epoch_words w e) (vs e) (ds e) (ts e) i slot)))))
      (λ i. let k = was_there e (epoch_words w e) (vs e) (ds e) (ts e) i slot in record { sim = h; there = k.0; holds = k.1; nothing = neither p.rest; told = refl; good = g; silent = refl })
    where
      slot : Slot Holds net strategy (encrypted e) (epoch_words w e) (vs e) (ds e) (ts e)
      slot = h.slots e l u

      new : (r : Rec) (rs : List Rec) → r.kind ≡ 1 → Good (nodes w₀) (r ∷ rs) → (vs e ≡ nothing) × (ds e ≡ nothing) × (ts e ≡ nothing)
          → Built e cur vs ds ts (r ∷ rs) (with_epoch w e (new_epoch (nodes w))) rs []
      new r rs ek g empty =
          let long : length (new_epoch (nodes w)) ≡ epoch_length (nodes w₀) = rw h.shaped.nodes (new_long (nodes w₀)) in
          let k : Holds net strategy (encrypted e) (new_epoch (nodes w)) (vs e) (ds e) (ts e) = rw (empty.0, empty.1, empty.2, h.shaped.nodes) (laws.fresh net strategy (encrypted e) network) in
          record {
            sim = sim_with Holds w₀ w cur vs ds ts h e l u (new_epoch (nodes w)) long (alive_new (nodes w)) vs ds ts k (λ i z. (refl, refl, refl));
            there = rw (with_same (nodes w₀) (ahead w₀) w h.shaped e (new_epoch (nodes w)) long) (alive_new (nodes w));
            holds = rw (with_same (nodes w₀) (ahead w₀) w h.shaped e (new_epoch (nodes w)) long) k;
            nothing = neither_1 r rs ek;
            told = thirteens_1 r rs ek;
            good = good_tail r rs (nodes w₀) g;
            silent = refl;
          }

  -- A RUN FOR EPOCH e read from ws to r; `comes` tells whether it comes to the subset
  pub record Moved (cur : ℕ) (vs ds ts : Tk) (e : ℕ) (who : Option ℕ) (comes : Bool) (ws : List Rec) (w : List ℕ) (r : List Rec) (log : List Entry) : Type 0 where
    pub vs' : Tk
    pub ds' : Tk
    pub ts' : Tk
    pub who' : Option ℕ
    pub rs : List Rec
    pub sim : SimOf w (cur + length (batches_among (outputs log))) vs' ds' ts'
    pub value : (q : ℕ) → or_else (vs e q) (first_taken of_value q ws) ≡ or_else (vs' e q) (first_taken of_value q r)
    pub decision : (q : ℕ) → or_else (ds e q) (first_taken of_decision q ws) ≡ or_else (ds' e q) (first_taken of_decision q r)
    pub text : (q : ℕ) → or_else (ts e q) (first_decrypted q who ws) ≡ or_else (ts' e q) (first_decrypted q who' r)
    pub other : (i : ℕ) → eqb e i ≡ false → (vs' i ≡ vs i) × (ds' i ≡ ds i) × (ts' i ≡ ts i)
    pub told : thirteens_in ws ≡ rs ++ thirteens_in r
    pub dealt : Dealt (HandOf vs' ds' ts') (batches_among (outputs log)) rs (fives_among (faults log))
    pub votes : Voted net comes (vs e) (ds e) ws r

  -- it did nothing
  unmoved : (w : List ℕ) (cur : ℕ) (vs ds ts : Tk) (e : ℕ) (who : Option ℕ) (ws : List Rec) (log : List Entry) → SimOf w cur vs ds ts → outputs log ≡ [] → fives_among (faults log) ≡ []
      → Moved cur vs ds ts e who false ws w ws log
  unfolding batches_among
  unmoved w cur vs ds ts e who ws log h o f = record {
    vs' = vs;
    ds' = ds;
    ts' = ts;
    who' = who;
    rs = [];
    sim = rw (o, add-zero cur) h;
    value = λ q. refl;
    decision = λ q. refl;
    text = λ q. refl;
    other = λ i z. (refl, refl, refl);
    told = refl;
    dealt = rw (o, f) no_batch;
    votes = voted_still net (vs e) (ds e) (untold_same ws);
  }

  -- the epoch was built first
  moved_on : (cur : ℕ) (vs ds ts : Tk) (e : ℕ) (who : Option ℕ) (comes : Bool) (ws : List Rec) (w : List ℕ) (r : List Rec) (l : List Entry) (v : List ℕ) (z : List Rec) (m : List Entry)
      → Built e cur vs ds ts ws w r l → Moved cur vs ds ts e who comes r v z m → Moved cur vs ds ts e who comes ws v z (l ++ m)
  moved_on cur vs ds ts e who comes ws w r l v z m b k =
      rw b.silent (record {
        vs' = k.vs';
        ds' = k.ds';
        ts' = k.ts';
        who' = k.who';
        rs = k.rs;
        sim = k.sim;
        value = λ q. ap (or_else (vs e q)) (b.nothing.value q) ∙ k.value q;
        decision = λ q. ap (or_else (ds e q)) (b.nothing.decision q) ∙ k.decision q;
        text = λ q. ap (or_else (ts e q)) (b.nothing.text q who) ∙ k.text q;
        other = k.other;
        told = b.told ∙ k.told;
        dealt = k.dealt;
        votes = voted_before net (vs e) (ds e) comes (untold_neither b.nothing) k.votes;
      })

  abbrev upd : Tk → ℕ → (ℕ → Option ℕ) → Tk
  upd g e x i = cond (eqb e i) x (g i)

  -- the epoch's part, then the batches
  moved_by : (cur : ℕ) (vs ds ts : Tk) (e : ℕ) (who : Option ℕ) (comes : Bool) (ws : List Rec) (x : List ℕ) (r : List Rec) (l : List Entry) (v : List ℕ) (z : List Rec) (m : List Entry)
      → (t : CallTold Holds net strategy (encrypted e) (vs e) (ds e) (ts e) who comes ws x r) → Quiet l
      → Batched cur (upd vs e t.v') (upd ds e t.d') (upd ts e t.t') r v z m → Moved cur vs ds ts e who comes ws v z (l ++ m)
  moved_by cur vs ds ts e who comes ws x r l v z m t quiet b =
      let ee : eqb e e ≡ true = eq-eqb e e refl in
      let os : outputs (l ++ m) ≡ outputs m = outputs_append l m ∙ ap (λ o. o ++ outputs m) quiet.no_outputs in
      let fs : fives_among (faults (l ++ m)) ≡ fives_among (faults m) =
      ap fives_among (faults_append l m) ∙ (fives_append (faults l) (faults m) ∙ ap (λ o. o ++ fives_among (faults m)) quiet.no_fives) in
      record {
        vs' = upd vs e t.v';
        ds' = upd ds e t.d';
        ts' = upd ts e t.t';
        who' = t.who';
        rs = b.rs;
        sim = rw os b.sim;
        value = λ q. rw (ee, ← b.nothing.value q) (t.value q);
        decision = λ q. rw (ee, ← b.nothing.decision q) (t.decision q);
        text = λ q. rw (ee, ← b.nothing.text q t.who') (t.text q);
        other = λ i i≢. (rw i≢, rw i≢, rw i≢);
        told = t.thirteens ∙ b.told;
        dealt = rw (os, fs) b.dealt;
        votes = voted_after net (vs e) (ds e) comes t.votes (untold_neither b.nothing);
      }

  spoken : (w : List ℕ) (cur : ℕ) (vs ds ts : Tk) (e : ℕ) (who : Option ℕ) (comes : Bool) (ws : List Rec) (r : Run (List ℕ) (Unit {0})) → cur ≤ e → e ≤ cur + ahead w₀ → SimOf w cur vs ds ts
      → Afterwards r (λ _ x q. CallTold Holds net strategy (encrypted e) (vs e) (ds e) (ts e) who comes ws x q.rest) → Alive r.state → Quiet r.log
      → Gives (onward (inside (with_epoch w e) r) (λ _ w q. output_batches w q)) (λ _ v q l. Moved cur vs ds ts e who comes ws v q.rest l)
  unfolding net_of
  spoken w cur vs ds ts e who comes ws r l u h a there quiet =
      gives_onward (inside (with_epoch w e) r) _ _
      (gives_inside (with_epoch w e) r _ (gives_own r _ _ a (λ _ t.
      let s : SimOf (with_epoch w e r.state) cur (upd vs e t.v') (upd ds e t.d') (upd ts e t.t') =
      sim_with Holds w₀ w cur vs ds ts h e l u r.state t.size there (upd vs e t.v') (upd ds e t.d') (upd ts e t.t') (rw (eq-eqb e e refl) t.holds) (λ i z. (rw z, rw z, rw z)) in
      gives_map (output_batches (with_epoch w e r.state) r.tape) _ _ (batches_ok (ahead (with_epoch w e r.state) + 1) (with_epoch w e r.state) cur (upd vs e t.v') (upd ds e t.d') (upd ts e t.t') r.tape s)
      (λ _ v z m b. moved_by cur vs ds ts e who comes ws r.state r.tape.rest r.log v z.rest m t quiet b))))

  -- PROPOSE
  proposed_in : (w : List ℕ) (cur : ℕ) (vs ds ts : Tk) (p : Tape) → SimOf w cur vs ds ts → Good (nodes w₀) p.rest
      → Alive (epoch_words w cur) → Holds net strategy (encrypted cur) (epoch_words w cur) (vs cur) (ds cur) (ts cur)
      → Gives (onward (inside (with_epoch w cur) (propose_in_epoch net strategy (encrypted cur) (epoch_words w cur) p)) (λ _ w q. output_batches w q))
      (λ _ v q l. Moved cur vs ds ts cur None (is_validator net) p.rest v q.rest l)
  unfolding net_of
  proposed_in w cur vs ds ts p h g there k =
      spoken w cur vs ds ts cur None (is_validator net) p.rest (propose_in_epoch net strategy (encrypted cur) (epoch_words w cur) p) (omega arith) (omega arith) h
      (laws.proposed net strategy (encrypted cur) (epoch_words w cur) (vs cur) (ds cur) (ts cur) p network k g)
      (alive_propose net strategy (encrypted cur) (epoch_words w cur) p there) (laws.quiet_proposed net strategy (encrypted cur) (epoch_words w cur) p)

  pub proposed_ok : (w : List ℕ) (cur : ℕ) (vs ds ts : Tk) (p : Tape) → SimOf w cur vs ds ts → Good (nodes w₀) p.rest
      → Gives (propose w p) (λ _ v q l. Moved cur vs ds ts cur None (is_validator net) p.rest v q.rest l)
  unfolding propose in_epoch outputs faults fives_among
  proposed_ok w cur vs ds ts p h g =
      gives_cond (is_validator (net_of w)) _ _ _
      (λ _. rw h.current (gives_onward (epoch_state_mut cur (set w input_at 1) p) _ _
      (gives_map (epoch_state_mut cur (set w input_at 1) p) _ _
      (mut_ok (set w input_at 1) cur vs ds ts cur p (omega arith) (omega arith) (sim_set Holds w₀ w cur vs ds ts h input_at 1 (omega arith) (omega arith)) g) (λ _ v q l b.
      rw (b.sim.current, net_same Holds w₀ v cur vs ds ts b.sim, strategy_same Holds w₀ v cur vs ds ts b.sim, encrypted_same Holds w₀ v cur vs ds ts b.sim cur)
      (gives_map (onward (inside (with_epoch v cur) (propose_in_epoch net strategy (encrypted cur) (epoch_words v cur) q)) (λ _ w q. output_batches w q)) _ _
      (proposed_in v cur vs ds ts q b.sim b.good b.there b.holds) (λ _ u z m k.
      moved_on cur vs ds ts cur None (is_validator net) p.rest v q.rest l u z.rest m b k))))))
      (λ o. rw (sym (ap is_validator (net_same Holds w₀ w cur vs ds ts h)) ∙ o) (unmoved w cur vs ds ts cur None p.rest [] h refl refl))

  -- MESSAGE
  module _ (sender e proposer : ℕ) (content : MessageContent) (sent : sender < nodes w₀) (named : proposer < nodes w₀) where
    handled_in : (w : List ℕ) (cur : ℕ) (vs ds ts : Tk) (p : Tape) → cur ≤ e → e ≤ cur + ahead w₀ → SimOf w cur vs ds ts → Good (nodes w₀) p.rest
        → Alive (epoch_words w e) → Holds net strategy (encrypted e) (epoch_words w e) (vs e) (ds e) (ts e)
        → Gives (onward (inside (with_epoch w e) (handle_message_content net strategy (encrypted e) sender proposer content (epoch_words w e) p)) (λ _ w q. output_batches w q))
        (λ _ v q l. Moved cur vs ds ts e (share_of proposer content) (not (is_there (share_of proposer content))) p.rest v q.rest l)
    unfolding net_of
    handled_in w cur vs ds ts p l u h g there k =
        spoken w cur vs ds ts e (share_of proposer content) (not (is_there (share_of proposer content))) p.rest (handle_message_content net strategy (encrypted e) sender proposer content (epoch_words w e) p) l u h
        (laws.handled net strategy (encrypted e) (epoch_words w e) (vs e) (ds e) (ts e) p network sender proposer content sent named k g)
        (alive_message net strategy (encrypted e) sender proposer content (epoch_words w e) p there) (laws.quiet_handled net strategy (encrypted e) sender proposer content (epoch_words w e) p)

    -- no share, and an epoch of the window
    abbrev comes_at : ℕ → Bool
    comes_at cur = not (is_there (share_of proposer content)) && within cur (cur + ahead w₀) e

    comes_late : (cur : ℕ) → e < cur → comes_at cur ≡ false
    comes_late cur l = rw (lt-leb cur e l) (and-false (not (is_there (share_of proposer content))))

    comes_far : (cur : ℕ) → cur + ahead w₀ < e → comes_at cur ≡ false
    comes_far cur l = rw (lt-leb e (cur + ahead w₀) l, and-false (leb cur e)) (and-false (not (is_there (share_of proposer content))))

    comes_in : (cur : ℕ) → cur ≤ e → e ≤ cur + ahead w₀ → comes_at cur ≡ not (is_there (share_of proposer content))
    comes_in cur l u = rw (le-leb cur e l, le-leb e (cur + ahead w₀) u) (and-true (not (is_there (share_of proposer content))))

    pub handled_ok : (w : List ℕ) (cur : ℕ) (vs ds ts : Tk) (p : Tape) → SimOf w cur vs ds ts → Good (nodes w₀) p.rest
        → Gives (handle_message sender e proposer content w p) (λ _ v q l. Moved cur vs ds ts e (share_of proposer content) (comes_at cur) p.rest v q.rest l)
    unfolding handle_message in_epoch outputs faults fives_among
    handled_ok w cur vs ds ts p h g =
        gives_cond (ltb (current_epoch w + ahead w) e) _ _ _ (λ far.
        rw (comes_far cur (omega (arith, h.current, h.shaped.ahead, ltb-true (current_epoch w + ahead w) e far)))
        (unmoved w cur vs ds ts e (share_of proposer content) p.rest (fault 1 sender 0 ∷ []) h refl refl))
        (λ far. gives_cond (ltb e (current_epoch w)) _ _ _ (λ late.
        rw (comes_late cur (omega (arith, h.current, ltb-true e (current_epoch w) late))) (unmoved w cur vs ds ts e (share_of proposer content) p.rest [] h refl refl))
        (λ late.
        let low : cur ≤ e = omega (arith, h.current, ltb-false e (current_epoch w) late) in
        let up : e ≤ cur + ahead w₀ = omega (arith, h.current, h.shaped.ahead, ltb-false (current_epoch w + ahead w) e far) in
        rw (comes_in cur low up)
        (gives_onward (epoch_state_mut e w p) _ _
        (gives_map (epoch_state_mut e w p) _ _ (mut_ok w cur vs ds ts e p low up h g) (λ _ v q l b.
        rw (net_same Holds w₀ v cur vs ds ts b.sim, strategy_same Holds w₀ v cur vs ds ts b.sim, encrypted_same Holds w₀ v cur vs ds ts b.sim e)
        (gives_map (onward (inside (with_epoch v e) (handle_message_content net strategy (encrypted e) sender proposer content (epoch_words v e) q)) (λ _ w q. output_batches w q)) _ _
        (handled_in v cur vs ds ts q low up b.sim b.good b.there b.holds) (λ _ u z m k.
        moved_on cur vs ds ts e (share_of proposer content) (not (is_there (share_of proposer content))) p.rest v q.rest l u z.rest m b k)))))))
