-- KIND 8 is asked once about each proposer that an encrypted epoch accepts, about no other, and in a plain epoch never. Assumes nothing.
use Rattle.std.proofs.Common.{ℕ, zero, suc, ◌+◌, ◌≤◌, ◌<◌, ◌≡◌, refl, sym, ap, ◌∙◌, ◌⊎◌, inl, inr, List, Bool, true, false, cond, ◌&&◌, Option, None, Some, arith, get_or, set, get_or-set_other, eqb, eqb-true, le-leb}
use Rattle.std.proofs.lemmas.Bool.{eqb-false}
use Rattle.network.specs.declared.network_info.NetworkInfo.{NetworkInfo}
use Rattle.network.specs.Network.{num_correct}
use Rattle.steps.specs.Answers.{Rec, Tape}
use Rattle.steps.specs.Runs.{going, Run, ends}
use Rattle.steps.specs.Taken.{or_else, is_there, is_true, first_taken, of_value, of_decision, ones_from}
use Rattle.steps.specs.Times.{times_asked}
use Rattle.steps.proofs.TakenFromChain.{Bit, Good}
use Rattle.steps.proofs.ReadByKinds.{Past, past_good}
use Rattle.steps.proofs.TimesAsked.{past_times}
use Rattle.subset.specs.Words.{status_at, decided_at, accepted_at, count_at, proposal_at, value_at, arrival_at}
use Rattle.subset.specs.Subset.{propose as propose_subset, handle_message as handle_subset}
use Rattle.subset.specs.Rule.{is_over}
use Rattle.steps.proofs.AfterRun.{Afterwards, after_map, after_cond, after_onward, after_inside, Reads, after_ask, after_about, after_with, after_both, after_any}
use Rattle.steps.proofs.Ranges.{Any}
use Rattle.proposal.proofs.TakenByProposal.{output_of}
use Rattle.subset.proofs.Invariant.{Held}
use Rattle.subset.proofs.TakenByCall.{Called}
use Rattle.epochwords.specs.declared.SubsetHandlingStrategy.{SubsetHandlingStrategy}
use Rattle.epochwords.specs.declared.SubsetHandlingStrategy.TheVariants.{Incremental, AllAtEnd}
use Rattle.epoch.specs.declared.MessageContent.{MessageContent}
use Rattle.epoch.specs.declared.MessageContent.TheVariants.{Subset, DecryptionShare}
use Rattle.epochwords.specs.Words.{is_accepted, DecryptionState, missing, complete, load_entry, store_decryption}
use Rattle.epoch.proofs.QuietRuns.{Orderly, quiet_fault, orders, ordering}
use Rattle.epoch.proofs.Walk.{Entries, Finishes, entry_keeps, share_message_keeps, finish_keeps}
use Rattle.epoch.specs.Epoch.{first_contributions, handles_now, subset_complete, proposal_dropped, entry_after, call_entry, input_ciphertext, send_decryption_share, handle_decryption_share, finish_from, handle_contribution, handle_from, handle_contributions, process_subset, call_subset, propose, handle_message_content}
use Rattle.epoch.proofs.Interface.{share_of, CallTold}
use Rattle.epoch.proofs.QuietLayers.{subset_kinds, subset_eight, entry_kinds, entry_eight, outside_accepted, Frame, inputs, input_runs}
use Rattle.epoch.proofs.Plaintexts.{reads_past}
use Rattle.epochwords.proofs.EntryStored.{accepted_kept, store_low}
use Rattle.epoch.proofs.EntryInvariant.{TextsOk}
use Rattle.epoch.proofs.ContributionsHandled.{held_same, Contributed, contribution_ok, output_value}
use Rattle.epoch.proofs.FinishedWords.{cut_word}
use Rattle.epoch.proofs.Invariant.{handled_by, Going, Done, Holds}
use Rattle.epoch.proofs.EpochLaws.{accepted_framed, texts_framed, called_after, SubsetLaws, proposes, handles, handled_ok, proposed_ok, settled_known}

-- once, where a proposer is accepted in an encrypted epoch
abbrev pub once : Bool → Bool → ℕ
once encrypted a = cond (encrypted && a) 1 0

once_not : (encrypted : Bool) → once encrypted false ≡ 0
once_not true = refl
once_not false = refl

-- from the words w and the answers ws to w' and r
abbrev Tallied : Bool → ℕ → List ℕ → List Rec → List ℕ → List Rec → Type 0
Tallied encrypted n w ws w' r = (q : ℕ) → q < n → once encrypted (is_accepted w q) + times_asked 8 q ws ≡ once encrypted (is_accepted w' q) + times_asked 8 q r

-- no 8, and nobody was accepted
record Unasked (w : List ℕ) (ws : List Rec) (w' : List ℕ) (r : List Rec) : Type 0 where
  accepted : get_or w' accepted_at 0 ≡ get_or w accepted_at 0
  times : (q : ℕ) → times_asked 8 q ws ≡ times_asked 8 q r

unasked : (encrypted : Bool) (n : ℕ) (w : List ℕ) (ws : List Rec) (w' : List ℕ) (r : List Rec) → Unasked w ws w' r → Tallied encrypted n w ws w' r
unasked encrypted n w ws w' r h q l = rw (accepted_kept w w' h.accepted q, h.times q)

-- RUNS THAT ACCEPT NOBODY and read answers of kinds other than 8
module _ (n : ℕ) (w : List ℕ) where
  abbrev Same : List ℕ → Type 0
  Same v = get_or v accepted_at 0 ≡ get_or w accepted_at 0

  same_stored : (p : ℕ) (d : DecryptionState) (v : List ℕ) → Same v → Same (store_decryption n v p d)
  same_stored p d v h = store_low n p v d accepted_at (omega arith) ∙ h

  same_dropped : (p : ℕ) (v : List ℕ) → Same v → Same (proposal_dropped n v p)
  unfolding proposal_dropped
  same_dropped p v h =
      get_or-set_other (set v (proposal_at n p) 0) (value_at n p) accepted_at 0 0 (λ e. omega arith) ∙ get_or-set_other v (proposal_at n p) accepted_at 0 0 (λ e. omega arith) ∙ h

  entries : Entries (orders entry_kinds) (ordering entry_kinds Any) (ordering entry_kinds Same) n
  entries = record {
    entered = λ p m v t r g h. let k = g tt in record { state = same_stored p (entry_after r.verdict r.state) v h; past = k.past; quiet = k.quiet };
    dropped = λ v o h. h;
  }

  finishes : Finishes (orders entry_kinds) (ordering entry_kinds Any) (ordering entry_kinds Same) n
  finishes = record { late = λ a. quiet_fault 2 a 0 refl; finished = λ p v h. same_dropped p v h; unexpected = λ p v h. same_stored p missing _ (same_dropped p v h) }

  orderly_unasked : (u : Tape) (r : Run (List ℕ) (Unit {0})) → Orderly Same entry_kinds u r → Afterwards r (λ _ w' z. Unasked w u.rest w' z.rest)
  orderly_unasked u r k =
      after_map r _ _ (after_with r (λ _ _ _. Unit {0}) (λ w' z. Same w' × Past entry_kinds u.rest z.rest) (k.state, k.past) (after_any r _ (λ _ _ _. tt))) (λ _ w' z h. record {
        accepted = h.1.0;
        times = past_times entry_kinds 8 entry_eight h.1.1;
      })

-- a call of an entry, and a share
module _ (net : NetworkInfo) (p : ℕ) (w : List ℕ) (u : Tape) where
  entry_unasked : (value : ℕ) → Afterwards (call_entry net p (input_ciphertext net p value) w u) (λ _ w' z. Unasked w u.rest w' z.rest)
  entry_unasked value =
      orderly_unasked net.num_nodes w u _
      (entry_keeps _ _ _ net (entries _ w) p (input_ciphertext net p value) 0 w u (λ _. input_runs net p value (load_entry net.num_nodes w p) u) refl)

  share_unasked : (sender share : ℕ) → Afterwards (handle_decryption_share net sender p share w u) (λ _ w' z. Unasked w u.rest w' z.rest)
  share_unasked sender share =
      orderly_unasked net.num_nodes w u _ (share_message_keeps _ _ _ net (entries _ w) (inputs entry_kinds (λ k e. e)).combines (λ a. quiet_fault 2 a 0 refl) sender p share tt 0 w u refl)

-- A CONTRIBUTION asks one 8, about its proposer
abbrev Asks : Bool → ℕ → List Rec → List Rec → Type 0
Asks encrypted p ws r = (q : ℕ) → times_asked 8 q ws ≡ once encrypted (eqb p q) + times_asked 8 q r

reads_one : (p : ℕ) (u z : Tape) → Reads u 8 p z → Asks true p u.rest z.rest
unfolding times_asked
reads_one p u z r q = rw (r.rests, r.of_kind, r.says)

module _ (net : NetworkInfo) (p value : ℕ) (w : List ℕ) (u : Tape) where
  send_asks : Afterwards (send_decryption_share net p value w u) (λ _ w' z. Asks true p u.rest z.rest)
  unfolding send_decryption_share
  send_asks =
      after_about u 8 w _ _ p (λ a b z r.
      after_cond (eqb a 0) _ _ _ (reads_one p u z r)
      (after_map (call_entry net p (input_ciphertext net p value) w z) _ _
      (entry_unasked net p w z value) (λ _ w' y k q.
      reads_one p u z r q ∙ ap (λ x. once true (eqb p q) + x) (k.times q))))

  contribution_asks : (strategy : SubsetHandlingStrategy) (encrypted : Bool) → Afterwards (handle_contribution net strategy encrypted p value w u) (λ _ w' z. Asks encrypted p u.rest z.rest)
  unfolding handle_contribution
  contribution_asks strategy true = after_onward (send_decryption_share net p value w u) _ _ (after_map (send_decryption_share net p value w u) _ _ send_asks (λ _ w' z h. h))
  contribution_asks strategy false =
      after_onward (ends {A = Unit {0}} (going tt) (store_decryption net.num_nodes w p (complete value)) u) _ _ (λ q. omega arith)

-- its proposer was not accepted before, and is then
one_more : (encrypted : Bool) (n p : ℕ) (w w₁ : List ℕ) (v t : ℕ → Option ℕ) (who : Option ℕ) (ws r : List Rec) → is_accepted w p ≡ false → Contributed encrypted n p w v t who ws w₁ r → Asks encrypted p ws r
    → Tallied encrypted n w ws w₁ r
one_more encrypted n p w w₁ v t who ws r free a k q l = go (eqb p q) refl
  where
    go : (x : Bool) → eqb p q ≡ x → once encrypted (is_accepted w q) + times_asked 8 q ws ≡ once encrypted (is_accepted w₁ q) + times_asked 8 q r
    go true e =
        let z : p ≡ q = eqb-true p q e in
        let was : is_accepted w q ≡ false = rw z at free in
        let is : is_accepted w₁ q ≡ true = rw z at a.here in
        let told : times_asked 8 q ws ≡ once encrypted true + times_asked 8 q r = rw e at (k q) in
        rw (was, is) (omega (arith, told, once_not encrypted))
    go false e =
        let same : is_accepted w₁ q ≡ is_accepted w q = a.others q (λ z. eqb-false p q e (sym z)) in
        let told : times_asked 8 q ws ≡ once encrypted false + times_asked 8 q r = rw e at (k q) in
        rw same (omega (arith, told, once_not encrypted))

-- ALL CONTRIBUTIONS
module _ (net : NetworkInfo) (strategy : SubsetHandlingStrategy) (encrypted : Bool) (old : ℕ → Bool) (v d : ℕ → Option ℕ) where
  abbrev N : ℕ
  N = net.num_nodes

  handle_tallied : (m i : ℕ) (w : List ℕ) (u : Tape) (t : ℕ → Option ℕ) (who : Option ℕ) → Held old N w v d → TextsOk encrypted N w v t → i + m ≤ get_or w count_at 0
      → ((j : ℕ) → i ≤ j → j < i + m → is_accepted w (get_or w (arrival_at N j) 0) ≡ false)
      → Afterwards (handle_from net strategy encrypted m i w u) (λ _ w' z. Tallied encrypted N w u.rest w' z.rest)
  unfolding handle_from
  handle_tallied zero i w u t who h k l free = λ q b. refl
  handle_tallied (suc m) i w u t who h k l free =
      after_onward (handle_contribution net strategy encrypted p x w u) _ _
      (after_map (handle_contribution net strategy encrypted p x w u) _ _
      (after_both (handle_contribution net strategy encrypted p x w u) _ _
      (contribution_ok net p x w u v t who entry.0 h.size strategy encrypted (output_value (v p) (d p) x entry.1) k)
      (contribution_asks net p x w u strategy encrypted)) (λ _ w₁ z a.
      after_map (handle_from net strategy encrypted m (i + 1) w₁ z) _ _
      (handle_tallied m (i + 1) w₁ z a.0.t' a.0.who' (held_same old N w w₁ v d a.0.same h) a.0.texts (omega (arith, a.0.same.low count_at (omega arith) (λ e. omega arith)))
      (λ j b c. still w₁ z.rest a.0 j b c)) (λ _ w₂ y b q c.
      one_more encrypted N p w w₁ v t who u.rest z.rest (free i (omega arith) (omega arith)) a.0 a.1 q c ∙ b q c)))
    where
      p : ℕ
      p = get_or w (arrival_at N i) 0

      x : ℕ
      x = get_or w (value_at N (get_or w (arrival_at N i) 0)) 0

      entry : (p < N) × (output_of (v p) (d p) ≡ Some (get_or w (value_at N p) 0))
      entry = h.entries i p (omega arith) refl

      still : (w₁ : List ℕ) (r : List Rec) → Contributed encrypted N p w v t who u.rest w₁ r → (j : ℕ) → i + 1 ≤ j → j < i + 1 + m → is_accepted w₁ (get_or w₁ (arrival_at N j) 0) ≡ false
      still w₁ r a j b c =
          let same : get_or w₁ (arrival_at N j) 0 ≡ get_or w (arrival_at N j) 0 = a.same.words j 7 (omega arith) (λ e. refl) in
          rw same
          (a.others (get_or w (arrival_at N j) 0) (λ e. let z : j ≡ i = h.once j i (omega arith) (omega arith) e in omega arith)
          ∙ free j (omega arith) (omega arith))

  contributions_tallied : (w : List ℕ) (u : Tape) (t : ℕ → Option ℕ) → Held old N w v d → TextsOk encrypted N w v t → ((q : ℕ) → q < N → is_accepted w q ≡ old q)
      → Afterwards (handle_contributions net strategy encrypted w u) (λ _ w' z. Tallied encrypted N w u.rest w' z.rest)
  unfolding handle_contributions
  contributions_tallied w u t h k acc =
      after_inside (first_contributions N 0) (handle_from net strategy encrypted (get_or w count_at 0) 0 w u) _
      (after_map (handle_from net strategy encrypted (get_or w count_at 0) 0 w u) _ _
      (handle_tallied (get_or w count_at 0) 0 w u t None h k (omega arith) (λ j a b.
      let p = get_or w (arrival_at N j) 0 in acc p (h.entries j p (omega arith) refl).0 ∙ h.fresh j (omega arith)))
      (λ _ w₁ z b q l.
      rw (accepted_kept w₁ (first_contributions N 0 w₁) (cut_word N w₁ accepted_at (λ e. omega arith) (λ q e. omega arith) (λ q e. omega arith)) q) (b q l)))

-- THE END of the subset
module _ (net : NetworkInfo) where
  finish_unasked : (m p : ℕ) (w : List ℕ) (u : Tape) → Afterwards (finish_from net m p w u) (λ _ w' z. Unasked w u.rest w' z.rest)
  finish_unasked m p w u = orderly_unasked net.num_nodes w u _ (finish_keeps _ (ordering entry_kinds Any) _ net (finishes _ w) m p w u refl)

  module _ (strategy : SubsetHandlingStrategy) (encrypted : Bool) (old : ℕ → Bool) (v d t : ℕ → Option ℕ) where
    abbrev M : ℕ
    M = net.num_nodes

    ended : (done : Bool) (w w₁ : List ℕ) (ws : List Rec) (z : Tape) → Tallied encrypted M w ws w₁ z.rest
        → Afterwards (cond done (finish_from net M 0 (subset_complete w₁) z) (ends (going tt) w₁ z)) (λ _ w' y. Tallied encrypted M w ws w' y.rest)
    unfolding subset_complete
    ended done w w₁ ws z a =
        after_cond done _ _ _
        (after_map (finish_from net M 0 (subset_complete w₁) z) _ _ (finish_unasked M 0 (subset_complete w₁) z) (λ _ w' y f q l.
        a q l ∙ unasked encrypted M w₁ z.rest w' y.rest (record {
          accepted =
              f.accepted
              ∙ get_or-set_other (set w₁ status_at 2) decided_at accepted_at 0 0 (λ e. omega arith)
              ∙ get_or-set_other w₁ status_at accepted_at 2 0 (λ e. omega arith);
          times = f.times;
        }) q l))
        a

    process_tallied : (done : Bool) (w : List ℕ) (u : Tape) → Held old M w v d → TextsOk encrypted M w v t → ((q : ℕ) → q < M → is_accepted w q ≡ old q)
        → Afterwards (process_subset net strategy encrypted done w u) (λ _ w' z. Tallied encrypted M w u.rest w' z.rest)
    unfolding process_subset
    process_tallied done w u h k acc =
        after_onward (cond (handles_now strategy done) (handle_contributions net strategy encrypted w u) (ends (going tt) w u)) _ _
        (after_cond (handles_now strategy done) _ _ _
        (after_map (handle_contributions net strategy encrypted w u) _ _ (contributions_tallied net strategy encrypted old v d w u t h k acc) (λ _ w₁ z a. ended done w w₁ u.rest z a))
        (ended done w w u.rest u (λ q l. refl)))

-- A CALL OF THE SUBSET asks no 8 itself, and what it hands up is processed
module _ (net : NetworkInfo) (strategy : SubsetHandlingStrategy) (encrypted : Bool) (w : List ℕ) (v d t : ℕ → Option ℕ) (h : Holds net strategy encrypted w v d t) where
  abbrev nn : ℕ
  nn = net.num_nodes

  called_tallied : (comes : Bool) (s : Going net strategy w v d) (ws : List Rec) (done : Bool) (w₁ : List ℕ) (u : Tape) → Called (handled_by strategy v d) net comes v d ws done w₁ u.rest → Past subset_kinds ws u.rest → Frame nn w w₁
      → Afterwards (process_subset net strategy encrypted done w₁ u) (λ _ w' z. Tallied encrypted nn w ws w' z.rest)
  called_tallied comes s ws done w₁ u c past f =
      after_map (process_subset net strategy encrypted done w₁ u) _ _
      (process_tallied net strategy encrypted (handled_by strategy v d) c.v' c.d' t done w₁ u c.held (texts_framed net encrypted w w₁ v c.v' t h.texts c.linked.grown_v f) (λ q l. accepted_framed nn w w₁ f q ∙ s.accepted q l))
      (λ _ w' z p q l. unasked encrypted nn w ws w₁ u.rest (record { accepted = f accepted_at (outside_accepted nn); times = past_times subset_kinds 8 subset_eight past }) q l ∙ p q l)

  subset_tallied : (comes : Bool) (call : List ℕ → Tape → Run (List ℕ) Bool) → SubsetLaws net comes call → (u : Tape) → Good nn u.rest
      → Afterwards (call_subset net strategy encrypted call w u) (λ _ w' z. Tallied encrypted nn w u.rest w' z.rest)
  unfolding call_subset
  subset_tallied comes call c u g = go h.stage
    where
      go : Going net strategy w v d ⊎ Done net w v d → Afterwards (call_subset net strategy encrypted call w u) (λ _ w' z. Tallied encrypted nn w u.rest w' z.rest)
      go (inl s) =
          called_after net strategy encrypted w u call s.status _ _
          (c.called (handled_by strategy v d) w v d s.held u g (s.undecided ∙ ap (λ x. cond x 1 0) (sym s.over))) (c.orderly w u)
          (λ done w₁ z a past f. called_tallied comes s u.rest done w₁ z a past f)
      go (inr s) = rw s.status (λ q l. refl)

  handled_tallied : (sender p : ℕ) (content : MessageContent) (u : Tape) → Good nn u.rest
      → Afterwards (handle_message_content net strategy encrypted sender p content w u) (λ _ w' z. Tallied encrypted nn w u.rest w' z.rest)
  unfolding handle_message_content
  handled_tallied sender p (Subset content) u g = subset_tallied _ (handle_subset net 23 content p) (handles net content p) u g
  handled_tallied sender p (DecryptionShare share) u g =
      after_map (handle_decryption_share net sender p share w u) _ _ (share_unasked net p w u sender share) (λ _ w' z k. unasked encrypted nn w u.rest w' z.rest k)

  proposed_tallied : (u : Tape) → Good nn u.rest → Afterwards (propose net strategy encrypted w u) (λ _ w' z. Tallied encrypted nn w u.rest w' z.rest)
  unfolding propose
  proposed_tallied u g =
      after_ask u 2 w _ _ (λ a b z r.
      let two = reads_past serialised u 2 b z refl r in
      after_cond (eqb a 0) _ _ _ tt
      (after_map (call_subset net strategy encrypted (propose_subset net 22) w z) _ _
      (subset_tallied _ (propose_subset net 22) (proposes net) z (past_good serialised nn two g)) (λ _ w' y k q l.
      ap (λ x. once encrypted (is_accepted w q) + x) (past_times serialised 8 (λ k e. rw (eqb-true k 2 e)) two q) ∙ k q l)))
    where
      serialised : ℕ → Bool
      serialised k = eqb k 2

-- THE ACCEPTED PROPOSERS by what was taken: those decided 1 whose value is here, under AllAtEnd once the subset is over
abbrev pub is_handled : NetworkInfo → SubsetHandlingStrategy → (ℕ → Option ℕ) → (ℕ → Option ℕ) → ℕ → Bool
is_handled net strategy v d q = handles_now strategy (is_over net v d) && (is_true (d q) && is_there (v q))

out_is : (a b : Option ℕ) → Bit b → is_there (output_of a b) ≡ is_true b && is_there a
unfolding is_there is_true Bit
out_is None None k = refl
out_is (Some x) None k = refl
out_is None (Some zero) k = refl
out_is (Some x) (Some zero) k = refl
out_is None (Some (suc zero)) k = refl
out_is (Some x) (Some (suc zero)) k = refl
out_is a (Some (suc (suc d))) k = absurd (omega arith)

pub true_there : (a b : Option ℕ) → (is_true b ≡ true → is_there a ≡ true) → is_true b ≡ is_true b && is_there a
true_there a b f = go (is_true b) refl
  where
    go : (x : Bool) → is_true b ≡ x → x ≡ x && is_there a
    go true e = rw (f e)
    go false e = refl

done_over : (net : NetworkInfo) (w : List ℕ) (v d : ℕ → Option ℕ) → Done net w v d → is_over net v d ≡ true
unfolding is_over
done_over net w v d s = rw (s.settled, le-leb (num_correct net) (ones_from d net.num_nodes 0) s.enough)

pub holds_handled : (net : NetworkInfo) (strategy : SubsetHandlingStrategy) (encrypted : Bool) (w : List ℕ) (v d t : ℕ → Option ℕ) → Holds net strategy encrypted w v d t
    → (q : ℕ) → q < net.num_nodes → is_accepted w q ≡ is_handled net strategy v d q
unfolding handles_now
holds_handled net strategy encrypted w v d t h q l = go strategy h.stage
  where
    known : Done net w v d → is_accepted w q ≡ is_true (d q) && is_there (v q)
    known s = s.accepted q l ∙ true_there (v q) (d q) (settled_known v d net.num_nodes 0 s.settled q (omega arith) (omega arith))

    go : (s : SubsetHandlingStrategy) → Going net s w v d ⊎ Done net w v d → is_accepted w q ≡ is_handled net s v d q
    go Incremental (inl s) = s.accepted q l ∙ out_is (v q) (d q) (s.held.bits q)
    go AllAtEnd (inl s) = rw s.over (s.accepted q l)
    go Incremental (inr s) = known s
    go AllAtEnd (inr s) = rw (done_over net w v d s) (known s)

-- WHAT A CALL TELLS: between ws and r, what was taken goes from v and d to what it is then, and kind 8 has been asked once about each that is handled
abbrev pub eights_of : NetworkInfo → SubsetHandlingStrategy → Bool → (ℕ → Option ℕ) → (ℕ → Option ℕ) → ℕ → ℕ
eights_of net strategy encrypted v d q = once encrypted (is_handled net strategy v d q)

pub record Counted (net : NetworkInfo) (strategy : SubsetHandlingStrategy) (encrypted : Bool) (v d : ℕ → Option ℕ) (ws r : List Rec) : Type 0 where
  pub v' : ℕ → Option ℕ
  pub d' : ℕ → Option ℕ
  pub value : (q : ℕ) → or_else (v q) (first_taken of_value q ws) ≡ or_else (v' q) (first_taken of_value q r)
  pub decision : (q : ℕ) → or_else (d q) (first_taken of_decision q ws) ≡ or_else (d' q) (first_taken of_decision q r)
  pub eights : (q : ℕ) → q < net.num_nodes → eights_of net strategy encrypted v d q + times_asked 8 q ws ≡ eights_of net strategy encrypted v' d' q + times_asked 8 q r

module _ (net : NetworkInfo) (strategy : SubsetHandlingStrategy) (encrypted : Bool) (w : List ℕ) (v d t : ℕ → Option ℕ) (h : Holds net strategy encrypted w v d t) where
  counted : (who : Option ℕ) (comes : Bool) (ws : List Rec) (w' : List ℕ) (r : List Rec) → CallTold Holds net strategy encrypted v d t who comes ws w' r → Tallied encrypted net.num_nodes w ws w' r
      → Counted net strategy encrypted v d ws r
  counted who comes ws w' r k a = record {
    v' = k.v';
    d' = k.d';
    value = k.value;
    decision = k.decision;
    eights = λ q l. rw (holds_handled net strategy encrypted w v d t h q l, holds_handled net strategy encrypted w' k.v' k.d' k.t' k.holds q l) at (a q l);
  }

  pub proposed_counted : (u : Tape) → Good net.num_nodes u.rest → Afterwards (propose net strategy encrypted w u) (λ _ w' z. Counted net strategy encrypted v d u.rest z.rest)
  proposed_counted u g =
      let run = propose net strategy encrypted w u in
      after_map run _ _ (after_both run _ _ (proposed_ok net strategy encrypted w v d t h u g) (proposed_tallied net strategy encrypted w v d t h u g)) (λ _ w' z k.
      counted None _ u.rest w' z.rest k.0 k.1)

  pub handled_counted : (sender p : ℕ) (content : MessageContent) → p < net.num_nodes → (u : Tape) → Good net.num_nodes u.rest
      → Afterwards (handle_message_content net strategy encrypted sender p content w u) (λ _ w' z. Counted net strategy encrypted v d u.rest z.rest)
  handled_counted sender p content l u g =
      let run = handle_message_content net strategy encrypted sender p content w u in
      after_map run _ _ (after_both run _ _ (handled_ok net strategy encrypted w v d t h sender p content l u g) (handled_tallied net strategy encrypted w v d t h sender p content u g)) (λ _ w' z k.
      counted (share_of p content) _ u.rest w' z.rest k.0 k.1)
