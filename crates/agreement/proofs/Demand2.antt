-- THE PAPER'S RULE over one run without a failing call, `engine_rule`: complete epochs, accepted proposers, what is decrypted, epochs handed out with their entries, kind 8, and votes. Assumes nothing.
use Rattle.std.proofs.Common.{ℕ, zero, suc, ◌+◌, ◌≤◌, ◌<◌, arith, ◌≡◌, refl, sym, ap, ◌∙◌, subst, ◌⊎◌, inl, inr, List, ◌∷◌, ◌++◌, Bool, true, false, cond, ◌&&◌, ◌||◌, not, Option, None, leb, get_or, eqb-true, le-leb}
use Rattle.std.proofs.Math.Path.{fun_ext}
use mathlib.Core.List.{Memᴰ}
use Rattle.std.proofs.lemmas.Bool.{and_parts}
use Rattle.network.specs.declared.network_info.NetworkInfo.{NetworkInfo}
use Rattle.network.specs.Network.{Network, num_correct}
use Rattle.steps.specs.Taken.{or_else, is_there, is_true, ones_from}
use Rattle.subset.specs.Words.{status_at}
use Rattle.subset.specs.Rule.{settled_from, is_over}
use Rattle.subset.proofs.Rule.{new_over}
use Rattle.subset.proofs.VotesAsked.{voted_whole}
use Rattle.epochwords.specs.declared.SubsetHandlingStrategy.{SubsetHandlingStrategy}
use Rattle.epochwords.specs.declared.SubsetHandlingStrategy.TheVariants.{Incremental, AllAtEnd}
use Rattle.epochwords.specs.Words.{is_complete, is_accepted, load_decryption}
use Rattle.epoch.specs.Epoch.{handles_now}
use Rattle.epoch.proofs.Invariant.{Going, Done, Holds}
use Rattle.epoch.proofs.EpochLaws.{epoch_laws, settled_known}
use Rattle.epoch.proofs.KindEight.{eights_of, true_there}
use Rattle.state.specs.Schedule.{schedule_of, use_on_epoch}
use Rattle.state.specs.State.{ahead, current_epoch, net_of, strategy_of, encrypted_in, epoch_words}
use Rattle.engine.specs.Create.{Numbers, created, create_state}
use Rattle.agreement.specs.History.{Call, turns, none_fails, Event, history, value_taken, decision_taken, decrypted, plaintext, Handed, handed}
use Rattle.agreement.specs.Demand3.{Made, Sound, history_of, encrypted_of}
use Rattle.agreement.specs.Outputs.{pairs_in, pairs_read, pairs_given, plaintext_of, times_asked_in, is_handled}
use Rattle.agreement.specs.Demand2.{state_after_all, end_of, net_in, speaks, strategy_in, Votes, EngineRule}
use Rattle.agreement.proofs.Created.{create_passes}
use Rattle.agreement.proofs.Entries.{entries_given, slot_decrypted}
use Rattle.agreement.proofs.KindEight.{run_eighted}
use Rattle.agreement.proofs.BatchesDealt.{Tk, InAll, all_at, all_handed}
use Rattle.agreement.proofs.Invariant.{Slot, vacant, lives, Sim}
use Rattle.agreement.proofs.OneRun.{AllVoted, voted_at, run_all}
use Rattle.agreement.proofs.TwoRuns.{network_of, state_is, encrypted_as, started, run_dealt}

-- WHAT A RUN'S LAST WORDS KNOW
abbrev untaken : Tk
untaken e q = None

record Known (w₀ : List ℕ) (c : Numbers) (cs : List Call) : Type 0 where
  last : ℕ
  sim : Sim Holds w₀ (state_after_all w₀ cs) last (value_taken (history c.epoch (turns w₀ cs))) (decision_taken (history c.epoch (turns w₀ cs))) (decrypted (history c.epoch (turns w₀ cs)))
  voted : AllVoted (net_of w₀) c.ahead untaken untaken (history c.epoch (turns w₀ cs))
  network : Network (net_of w₀)
  nodes : (net_of w₀).num_nodes ≡ c.nodes
  faulty : (net_of w₀).num_faulty ≡ c.faulty
  schedule : encrypted_in w₀ ≡ use_on_epoch (schedule_of c.schedule c.first c.second)
  eights : (e q : ℕ) → q < (net_of w₀).num_nodes
      → times_asked_in 8 (history c.epoch (turns w₀ cs)) e q
      ≡ eights_of (net_of w₀) (strategy_of w₀) (encrypted_in w₀ e) (value_taken (history c.epoch (turns w₀ cs)) e) (decision_taken (history c.epoch (turns w₀ cs)) e) q

-- before any call
none_eight : (net : NetworkInfo) (strategy : SubsetHandlingStrategy) (encrypted : Bool) (q : ℕ) → eights_of net strategy encrypted (λ _. None) (λ _. None) q ≡ 0
unfolding is_true
none_eight net strategy encrypted q = go encrypted (handles_now strategy (is_over net (λ _. None) (λ _. None)))
  where
    go : (x y : Bool) → ◌≡◌ {A = ℕ} (cond (x && (y && false)) 1 0) 0
    go true true = refl
    go true false = refl
    go false y = refl

known : (m : Made) → Sound m → Known (create_state m.numbers m.words) m.numbers m.calls
unfolding or_else net_of created
known m s =
    let e = state_is m.numbers m.words s.created in
    let network = network_of m.numbers ((create_passes m.numbers m.words).0 s.created).0 in
    let fine : none_fails (turns (created m.numbers) m.calls) ≡ true = rw e at s.unfailing in
    let r = run_all Holds epoch_laws (created m.numbers) network m.calls (created m.numbers) m.numbers.epoch untaken untaken untaken (started Holds epoch_laws m.numbers) fine in
    subst (λ (w : List ℕ). Known w m.numbers m.calls) (sym e) (record {
      last = r.last;
      sim = r.sim;
      voted = r.voted;
      network = network;
      nodes = refl;
      faulty = refl;
      schedule = encrypted_as m.numbers;
      eights = λ e q l.
          omega (
            arith,
            run_eighted (created m.numbers) network m.calls (created m.numbers) m.numbers.epoch untaken untaken untaken (started Holds epoch_laws m.numbers) fine e q l,
            none_eight (net_of (created m.numbers)) (strategy_of (created m.numbers)) (encrypted_in (created m.numbers) e) q,
          );
    })

-- ONE EPOCH
module _ (net : NetworkInfo) (strategy : SubsetHandlingStrategy) (encrypted : Bool) (x : List ℕ) (v d t : ℕ → Option ℕ) where
  slot_complete : Network net → Slot Holds net strategy encrypted x v d t → is_complete x ≡ is_over net v d
  unfolding is_over
  slot_complete k (vacant i a b c) = rw (eqb-true (get_or x status_at 0) 0 i, a, b) (sym (new_over net k))
  slot_complete k (lives there h) = go h.stage
    where
      go : Going net strategy x v d ⊎ Done net x v d → is_complete x ≡ is_over net v d
      go (inl s) = rw s.status (sym s.over)
      go (inr s) = rw (s.status, s.settled, le-leb (num_correct net) (ones_from d net.num_nodes 0) s.enough)

  slot_accepted : Slot Holds net strategy encrypted x v d t → is_complete x ≡ true → (q : ℕ) → q < net.num_nodes → is_accepted x q ≡ is_true (d q)
  slot_accepted (vacant i a b c) e q l = absurd (omega (arith, eqb-true (get_or x status_at 0) 0 i, eqb-true (get_or x status_at 0) 2 e))
  slot_accepted (lives there h) e q l = go h.stage
    where
      go : Going net strategy x v d ⊎ Done net x v d → is_accepted x q ≡ is_true (d q)
      go (inl s) = absurd (omega (arith, s.status, eqb-true (get_or x status_at 0) 2 e))
      go (inr s) = s.accepted q l

-- COMPLETE EPOCHS
pub complete_ok : (m : Made) → Sound m → (e : ℕ) → current_epoch (end_of m) ≤ e → e ≤ current_epoch (end_of m) + ahead (end_of m)
    → is_complete (epoch_words (end_of m) e) ≡ is_over (net_in m) (value_taken (history_of m) e) (decision_taken (history_of m) e)
complete_ok m s e l u =
    let k = known m s in
    slot_complete (net_in m) _ _ (epoch_words (end_of m) e) (value_taken (history_of m) e) (decision_taken (history_of m) e) (decrypted (history_of m) e) k.network
    (k.sim.slots e (omega (arith, k.sim.current)) (omega (arith, k.sim.current, k.sim.shaped.ahead)))

-- ACCEPTED PROPOSERS
pub accepted_ok : (m : Made) → Sound m → (e p : ℕ) → current_epoch (end_of m) ≤ e → e ≤ current_epoch (end_of m) + ahead (end_of m)
    → is_complete (epoch_words (end_of m) e) ≡ true → p < (net_in m).num_nodes
    → is_accepted (epoch_words (end_of m) e) p ≡ is_true (decision_taken (history_of m) e p)
accepted_ok m s e p l u c below =
    let k = known m s in
    slot_accepted (net_in m) _ _ (epoch_words (end_of m) e) (value_taken (history_of m) e) (decision_taken (history_of m) e) (decrypted (history_of m) e)
    (k.sim.slots e (omega (arith, k.sim.current)) (omega (arith, k.sim.current, k.sim.shaped.ahead))) c p below

-- DECRYPTED CONTRIBUTIONS
pub decrypted_ok : (m : Made) → Sound m → (e p : ℕ) → current_epoch (end_of m) ≤ e → e ≤ current_epoch (end_of m) + ahead (end_of m)
    → is_complete (epoch_words (end_of m) e) ≡ true → p < (net_in m).num_nodes
    → plaintext_of (load_decryption (net_in m).num_nodes (epoch_words (end_of m) e) p) ≡ cond (is_true (decision_taken (history_of m) e p)) (plaintext (encrypted_of m) (history_of m) e p) None
unfolding plaintext
decrypted_ok m s e p l u c below =
    let k = known m s in
    rw (← k.schedule)
    (slot_decrypted (net_in m) _ _ (epoch_words (end_of m) e) (value_taken (history_of m) e) (decision_taken (history_of m) e) (decrypted (history_of m) e)
    (k.sim.slots e (omega (arith, k.sim.current)) (omega (arith, k.sim.current, k.sim.shaped.ahead))) c p below)

-- EPOCHS HANDED OUT
module _ (v d : ℕ → Option ℕ) where
  settled_all : (m p : ℕ) → ((q : ℕ) → q < p + m → is_there (d q) ≡ true) → ((q : ℕ) → q < p + m → is_true (d q) ≡ true → is_there (v q) ≡ true) → settled_from v d m p ≡ true
  unfolding settled_from
  settled_all zero p f g = refl
  settled_all (suc m) p f g =
      rw (f p (omega arith), here (is_true (d p)) refl, settled_all m (p + 1) (λ q l. f q (omega arith)) (λ q l. g q (omega arith)))
    where
      here : (x : Bool) → is_true (d p) ≡ x → not (is_true (d p)) || is_there (v p) ≡ true
      here true e = rw (e, g p (omega arith) e)
      here false e = rw e

  over_all : (net : NetworkInfo) → ((q : ℕ) → q < net.num_nodes → is_there (d q) ≡ true) → ((q : ℕ) → q < net.num_nodes → is_true (d q) ≡ true → is_there (v q) ≡ true)
      → num_correct net ≤ ones_from d net.num_nodes 0 → is_over net v d ≡ true
  unfolding is_over
  over_all net f g h =
      rw (settled_all net.num_nodes 0 (λ q l. f q (omega arith)) (λ q l. g q (omega arith)), le-leb (num_correct net) (ones_from d net.num_nodes 0) h)

-- the plaintext in a plain epoch
is_value : (encrypted : ℕ → Bool) (h : List Event) (e p : ℕ) → encrypted e ≡ false → plaintext encrypted h e p ≡ value_taken h e p
unfolding plaintext
is_value encrypted h e p i = rw i

-- a batch in the whole history
handout : (m : Made) → Sound m → (x : Handed) → Memᴰ x (handed m.numbers.nodes (encrypted_of m) (history_of m))
    → InAll m.numbers.nodes m.numbers.faulty (encrypted_of m) (history_of m) x.batch x.thirteens
handout m s x i =
    let n = m.numbers.nodes in
    let f = m.numbers.faulty in
    let h = history_of m in
    all_at (InAll n f (encrypted_of m) h) (handed n (encrypted_of m) h) x (all_handed n f (encrypted_of m) h h (run_dealt Holds epoch_laws m s)) i

pub handed_ok : (m : Made) → Sound m → (x : Handed) → Memᴰ x (handed m.numbers.nodes (encrypted_of m) (history_of m))
    → is_over (net_in m) (value_taken (history_of m) x.batch.epoch) (decision_taken (history_of m) x.batch.epoch) ≡ true
handed_ok m s x i =
    let k = known m s in
    let h = history_of m in
    let out = handout m s x i in
    over_all (value_taken h x.batch.epoch) (decision_taken h x.batch.epoch) (net_in m)
    (λ q l. out.decided q (omega (arith, k.nodes))) (λ q l. out.known q (omega (arith, k.nodes))) (rw (k.nodes, k.faulty) out.enough)

-- THE ENTRIES OF A BATCH
pub entries_ok : (m : Made) → Sound m → (x : Handed) → Memᴰ x (handed m.numbers.nodes (encrypted_of m) (history_of m))
    → pairs_in x.batch.entries ≡ pairs_given (encrypted_of m) (history_of m) x
entries_ok m s x i = entries_given m.numbers.nodes m.numbers.faulty (encrypted_of m) (history_of m) x (handout m s x i)

pub plain_ok : (m : Made) → Sound m → (x : Handed) → Memᴰ x (handed m.numbers.nodes (encrypted_of m) (history_of m))
    → encrypted_of m x.batch.epoch ≡ false → pairs_in x.batch.entries ≡ pairs_read (value_taken (history_of m) x.batch.epoch) x.thirteens
unfolding pairs_given
plain_ok m s x i e = entries_ok m s x i ∙ ap (λ (t : ℕ → Option ℕ). pairs_read t x.thirteens) (fun_ext (λ p. is_value (encrypted_of m) (history_of m) x.batch.epoch p e))

-- KIND 8
pub eights_ok : (m : Made) → Sound m → (e p : ℕ) → p < (net_in m).num_nodes
    → times_asked_in 8 (history_of m) e p ≡ cond (encrypted_of m e && is_handled (net_in m) (strategy_in m) (value_taken (history_of m) e) (decision_taken (history_of m) e) p) 1 0
unfolding is_handled
eights_ok m s e p l = let k = known m s in rw (← k.schedule) (k.eights e p l)

over_settled : (net : NetworkInfo) (v d : ℕ → Option ℕ) → is_over net v d ≡ true → settled_from v d net.num_nodes 0 ≡ true
unfolding is_over
over_settled net v d o = (and_parts (settled_from v d net.num_nodes 0) (leb (num_correct net) (ones_from d net.num_nodes 0)) o).0

-- of an epoch that is over those decided 1 are handled
over_handled : (net : NetworkInfo) (strategy : SubsetHandlingStrategy) (v d : ℕ → Option ℕ) → is_over net v d ≡ true → (q : ℕ) → q < net.num_nodes → is_handled net strategy v d q ≡ is_true (d q)
unfolding is_handled handles_now
over_handled net strategy v d o q l = rw o (go strategy)
  where
    known : is_true (d q) && is_there (v q) ≡ is_true (d q)
    known = sym (true_there (v q) (d q) (settled_known v d net.num_nodes 0 (over_settled net v d o) q (omega arith) (omega arith)))

    go : (s : SubsetHandlingStrategy) → handles_now s true && (is_true (d q) && is_there (v q)) ≡ is_true (d q)
    go Incremental = known
    go AllAtEnd = known

pub eights_over_ok : (m : Made) → Sound m → (e p : ℕ) → p < (net_in m).num_nodes
    → is_over (net_in m) (value_taken (history_of m) e) (decision_taken (history_of m) e) ≡ true
    → times_asked_in 8 (history_of m) e p ≡ cond (encrypted_of m e && is_true (decision_taken (history_of m) e p)) 1 0
eights_over_ok m s e p l o =
    eights_ok m s e p l
    ∙ ap (λ x. cond (encrypted_of m e && x) 1 0) (over_handled (net_in m) (strategy_in m) (value_taken (history_of m) e) (decision_taken (history_of m) e) o p l)

-- VOTES
pub votes_ok : (m : Made) → Sound m → (h : List Event) (x : Event) (l : List Event) → history_of m ≡ h ++ (x ∷ l) → Votes (net_in m) m.numbers.ahead h x
unfolding or_else
votes_ok m s h x l e =
    let v = voted_whole (net_in m) (speaks (net_in m) m.numbers.ahead x) (value_taken h x.epoch) (decision_taken h x.epoch) x.answers
    (voted_at (net_in m) m.numbers.ahead h x l untaken untaken (rw e at (known m s).voted)) in
    record { one = v.one; zero = v.zero; broadcasts = v.broadcast; agrees = v.agreement }

-- THE RULE
pub engine_rule : EngineRule
engine_rule m s = record {
  votes = votes_ok m s;
  complete = complete_ok m s;
  accepted = accepted_ok m s;
  decrypted = decrypted_ok m s;
  handed_out = handed_ok m s;
  entries = entries_ok m s;
  plain_entries = plain_ok m s;
  eights = eights_ok m s;
  eights_over = eights_over_ok m s;
}
