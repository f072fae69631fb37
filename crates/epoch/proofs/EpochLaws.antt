-- THE LAWS OF AN EPOCH (`epoch_laws`): a call moves what was taken exactly as the answers that it reads tell, and an epoch that is ready has all of it. Assumes nothing.
use Rattle.std.proofs.Common.{ℕ, zero, suc, ◌+◌, ◌^◌, ◌≤◌, ◌<◌, ◌≡◌, refl, sym, ap, ◌∙◌, ◌⊎◌, inl, inr, List, Bool, true, false, cond, ◌&&◌, ◌||◌, not, Option, None, Some, arith, get_or, replicate, get_or-set_same, eqb, eqb-true}
use Rattle.std.proofs.Math.Nat.{zero-div}
use Rattle.std.proofs.lemmas.List.{length-replicate}
use Rattle.std.proofs.lemmas.Bool.{and_parts, eqb-false}
use Rattle.steps.specs.declared.reader.Content.{Content}
use Rattle.steps.specs.declared.reader.Content.TheVariants.{Broadcast, Agreement}
use Rattle.network.specs.declared.network_info.NetworkInfo.{NetworkInfo}
use Rattle.network.specs.Network.{Network, is_validator}
use Rattle.steps.specs.Answers.{Rec, Tape}
use Rattle.steps.specs.Table.{within}
use Rattle.steps.specs.Runs.{Verdict, going, refused, failed, Run}
use Rattle.steps.specs.Taken.{or_else, is_there, is_true, of_value, of_decision}
use Rattle.steps.specs.Bits.{has_bit}
use Rattle.steps.proofs.TakenFromChain.{Good}
use Rattle.steps.proofs.ReadByKinds.{Past, Others, past_first, past_thirteens, past_decrypted, past_good}
use Rattle.decryption.specs.Decrypt.{handle_message as handle_share}
use Rattle.subset.specs.Words.{record_length, epoch_length, status_at, decided_at, accepted_at, count_at, record_at}
use Rattle.subset.specs.Subset.{propose as propose_subset, handle_message as handle_subset}
use Rattle.subset.specs.Rule.{is_over, settled_from, proposing, broadcasting, agreeing, run_of, speaks}
use Rattle.steps.proofs.AfterRun.{Afterwards, after_map, after_cond, after_onward, after_ask, after_with}
use Rattle.subset.proofs.TakenByCall.{Called, call_ok}
use Rattle.subset.proofs.VotesAsked.{untold_same, untold_past, Voted, voted_still, voted_done, voted_after, voted_before}
use Rattle.subset.proofs.Rule.{new_over, new_word, new_held}
use Rattle.subset.proofs.Invariant.{Held}
use Rattle.subset.proofs.TakenTests.{put_same, put_other, more, settled_decided}
use Rattle.epochwords.specs.declared.SubsetHandlingStrategy.{SubsetHandlingStrategy}
use Rattle.epochwords.specs.declared.SubsetHandlingStrategy.TheVariants.{Incremental, AllAtEnd}
use Rattle.epoch.specs.declared.MessageContent.{MessageContent}
use Rattle.epoch.specs.declared.MessageContent.TheVariants.{Subset, DecryptionShare}
use Rattle.epochwords.specs.Words.{is_complete, is_accepted, missing, complete, entry_complete, is_settled, is_open, decryption_at, plaintext_at, load_decryption}
use Rattle.epoch.specs.Epoch.{new_epoch, call_entry, handle_decryption_share, process_subset, handed_up, call_subset, propose, handle_message_content}
use Rattle.epochwords.specs.Batch.{decrypted_from, is_ready_in, is_read, is_ready}
use Rattle.epoch.proofs.Interface.{nothing, share_of, CallTold, Ready, EpochLaws}
use Rattle.epoch.proofs.QuietRuns.{Orderly}
use Rattle.epoch.proofs.QuietLayers.{subset_kinds, decryption_kinds, subset_eight, subset_twelve, subset_thirteen, decryption_value, decryption_decision, decryption_subset, decryption_thirteen, outside_status, outside_accepted, outside_record, Frame, propose_subset_runs, handle_subset_runs, quiet_proposed_lem, quiet_handled_lem}
use Rattle.epoch.proofs.Plaintexts.{reads_past}
use Rattle.epochwords.proofs.EntryStored.{accepted_kept}
use Rattle.epoch.proofs.EntryInvariant.{TextOk, text_words, text_value, opening_ran, Dealt, share_entry, TextsOk}
use Rattle.epoch.proofs.ContributionsHandled.{same_stays, held_same}
use Rattle.epoch.proofs.Invariant.{handled_by, Going, Done, Holds, process_ok}

-- A CALL THAT READS NOTHING
told_still : (net : NetworkInfo) (strategy : SubsetHandlingStrategy) (encrypted : Bool) (w : List ℕ) (v d t : ℕ → Option ℕ) (who : Option ℕ) (comes : Bool) (ws : List Rec)
    → Holds net strategy encrypted w v d t → Good net.num_nodes ws → Voted net comes v d ws ws → CallTold Holds net strategy encrypted v d t who comes ws w ws
told_still net strategy encrypted w v d t who comes ws h g k = record {
  v' = v;
  d' = d;
  t' = t;
  who' = who;
  holds = h;
  size = h.size;
  good = g;
  value = λ q. refl;
  decision = λ q. refl;
  text = λ q. refl;
  thirteens = refl;
  votes = k;
}

-- answers before a call that tell nothing
told_before : (is : ℕ → Bool) → Others is of_value → Others is of_decision → Others is (within 3 7) → Others is (λ k. eqb k 8) → Others is (λ k. eqb k 12) → Others is (λ k. eqb k 13)
    → (net : NetworkInfo) (strategy : SubsetHandlingStrategy) (encrypted : Bool) (v d t : ℕ → Option ℕ) (who : Option ℕ) (comes : Bool) (ws r : List Rec) (w : List ℕ) (z : List Rec)
    → Past is ws r → CallTold Holds net strategy encrypted v d t who comes r w z → CallTold Holds net strategy encrypted v d t who comes ws w z
told_before is f g other e tw th net strategy encrypted v d t who comes ws r w z p k = record {
  v' = k.v';
  d' = k.d';
  t' = k.t';
  who' = k.who';
  holds = k.holds;
  size = k.size;
  good = k.good;
  value = λ q. ap (or_else (v q)) (past_first is of_value f p q) ∙ k.value q;
  decision = λ q. ap (or_else (d q)) (past_first is of_decision g p q) ∙ k.decision q;
  text = λ q. ap (or_else (t q)) (past_decrypted is e tw p q who) ∙ k.text q;
  thirteens = past_thirteens is th p ∙ k.thirteens;
  votes = voted_before net v d comes (untold_past is other ws r p) k.votes;
}

-- A SHARE
module _ (net : NetworkInfo) (strategy : SubsetHandlingStrategy) (encrypted : Bool) (p : ℕ) (w : List ℕ) (v d t : ℕ → Option ℕ) (ws : List Rec) (w' : List ℕ) (r : List Rec)
    (h : Holds net strategy encrypted w v d t) (g : Good net.num_nodes ws) (a : Dealt encrypted net.num_nodes p w (is_accepted w p) (v p) (t p) ws w' r) where
  abbrev n : ℕ
  n = net.num_nodes

  bit : (q : ℕ) → is_accepted w' q ≡ is_accepted w q
  bit q = accepted_kept w w' (a.stays.low accepted_at (omega arith)) q

  texts_dealt : (q : ℕ) → q < n → (x : Bool) → eqb q p ≡ x → TextOk encrypted (load_decryption n w' q) (is_accepted w' q) (v q) (more t p a.o q)
  texts_dealt q l true e = rw (eqb-true q p e, bit p, put_same t p (or_else (t p) a.o)) a.text
  texts_dealt q l false e =
      let ne = eqb-false q p e in
      rw (bit q, put_other t p (or_else (t p) a.o) q ne)
      (text_words encrypted n w w' q (is_accepted w q) (v q) (t q) (λ j x y. a.stays.other q j (omega arith) ne) (h.texts q l))

  stage_dealt : Going net strategy w v d ⊎ Done net w v d → Going net strategy w' v d ⊎ Done net w' v d
  stage_dealt (inl s) = inl (record {
    status = a.stays.low status_at (omega arith) ∙ s.status;
    undecided = a.stays.low decided_at (omega arith) ∙ s.undecided;
    over = s.over;
    held = held_same (handled_by strategy v d) n w w' v d (same_stays a.stays) s.held;
    accepted = λ q l. bit q ∙ s.accepted q l;
  })
  stage_dealt (inr s) = inr (record {
    status = a.stays.low status_at (omega arith) ∙ s.status;
    settled = s.settled;
    enough = s.enough;
    accepted = λ q l. bit q ∙ s.accepted q l;
  })

  told_dealt : CallTold Holds net strategy encrypted v d t (Some p) false ws w' r
  told_dealt =
      let o = opening_ran t p ws a.o r a.ran in
      record {
        v' = v;
        d' = d;
        t' = more t p a.o;
        who' = Some p;
        holds = record { size = a.stays.size ∙ h.size; texts = λ q l. texts_dealt q l (eqb q p) refl; stage = stage_dealt h.stage };
        size = a.stays.size ∙ h.size;
        good = past_good decryption_kinds n a.ran.past g;
        value = λ q. ap (or_else (v q)) (past_first decryption_kinds of_value decryption_value a.ran.past q);
        decision = λ q. ap (or_else (d q)) (past_first decryption_kinds of_decision decryption_decision a.ran.past q);
        text = o.text;
        thirteens = past_thirteens decryption_kinds decryption_thirteen a.ran.past;
        votes = voted_still net v d (untold_past decryption_kinds decryption_subset ws r a.ran.past);
      }

-- A CALL OF THE SUBSET leaves the accepted bits and the entries' texts
pub accepted_framed : (n : ℕ) (w w₁ : List ℕ) → Frame n w w₁ → (q : ℕ) → is_accepted w₁ q ≡ is_accepted w q
accepted_framed n w w₁ f q = accepted_kept w w₁ (f accepted_at (outside_accepted n)) q

pub texts_framed : (net : NetworkInfo) (encrypted : Bool) (w w₁ : List ℕ) (v v' t : ℕ → Option ℕ) → TextsOk encrypted net.num_nodes w v t → ((q x : ℕ) → v q ≡ Some x → v' q ≡ Some x)
    → Frame net.num_nodes w w₁ → TextsOk encrypted net.num_nodes w₁ v' t
texts_framed net encrypted w w₁ v v' t h grown f q l =
    let n = net.num_nodes in
    rw (accepted_framed n w w₁ f q)
    (text_value encrypted (load_decryption n w₁ q) (is_accepted w q) (v q) (v' q) (t q) (grown q)
    (text_words encrypted n w w₁ q (is_accepted w q) (v q) (t q) (λ j a b. f (record_at n q j) (outside_record n q j a (omega arith))) (h q l)))

-- what it hands up is processed, where the subset is not complete
pub called_after : (net : NetworkInfo) (strategy : SubsetHandlingStrategy) (encrypted : Bool) (w : List ℕ) (u : Tape) (call : List ℕ → Tape → Run (List ℕ) Bool) → get_or w status_at 0 ≡ 1
    → (P : Bool → List ℕ → Tape → Type 0) (Q : Unit {0} → List ℕ → Tape → Type 0) → Afterwards (call w u) P → Orderly (Frame net.num_nodes w) subset_kinds u (call w u)
    → ((done : Bool) (w₁ : List ℕ) (z : Tape) → P done w₁ z → Past subset_kinds u.rest z.rest → Frame net.num_nodes w w₁ → Afterwards (process_subset net strategy encrypted done w₁ z) Q)
    → Afterwards (call_subset net strategy encrypted call w u) Q
unfolding call_subset handed_up
called_after net strategy encrypted w u call ongoing P Q c o k =
    rw ongoing
    (after_onward (handed_up net strategy encrypted (get_or w count_at 0) (call w u).verdict (call w u)) _ _
    (go (call w u).verdict refl
    (after_map (call w u) _ _ (after_with (call w u) _ (λ w₁ z. Past subset_kinds u.rest z.rest × Frame net.num_nodes w w₁) (o.past, o.state) c)
    (λ done w₁ z a. k done w₁ z a.0 a.1.0 a.1.1))))
  where
    go : (x : Verdict Bool) → (call w u).verdict ≡ x → Afterwards (call w u) (λ done w₁ z. Afterwards (process_subset net strategy encrypted done w₁ z) Q)
        → Afterwards (handed_up net strategy encrypted (get_or w count_at 0) x (call w u)) (λ done w₁ z. Afterwards (process_subset net strategy encrypted done w₁ z) Q)
    go (going done) e a = a
    go refused e a = rw e tt
    go (failed m) e a = rw e tt

-- and what is told of it
module _ (net : NetworkInfo) (strategy : SubsetHandlingStrategy) (encrypted : Bool) (w : List ℕ) (v d t : ℕ → Option ℕ) (who : Option ℕ) (comes : Bool)
    (h : Holds net strategy encrypted w v d t) (s : Going net strategy w v d) where
  abbrev N : ℕ
  N = net.num_nodes

  abbrev old : ℕ → Bool
  old = handled_by strategy v d

  called_then : (ws : List Rec) (done : Bool) (w₁ : List ℕ) (u : Tape) → Good N ws → Called old net comes v d ws done w₁ u.rest → Past subset_kinds ws u.rest → Frame N w w₁
      → Afterwards (process_subset net strategy encrypted done w₁ u) (λ _ w' z. CallTold Holds net strategy encrypted v d t who comes ws w' z.rest)
  called_then ws done w₁ u g c past f =
      after_map (process_subset net strategy encrypted done w₁ u) _ _
      (process_ok net strategy encrypted v d c.v' c.d' t w₁ who u done c.held (texts_framed net encrypted w w₁ v c.v' t h.texts c.linked.grown_v f) (λ q l. accepted_framed net.num_nodes w w₁ f q ∙ s.accepted q l) (f status_at (outside_status N) ∙ s.status) c.decided (c.says s.over))
      (λ _ w' z p. record {
        v' = c.v';
        d' = c.d';
        t' = p.t';
        who' = p.who';
        holds = p.holds;
        size = p.holds.size;
        good = past_good decryption_kinds N p.opening.past (past_good subset_kinds N past g);
        value = λ q. c.linked.value q ∙ ap (or_else (c.v' q)) (past_first decryption_kinds of_value decryption_value p.opening.past q);
        decision = λ q. c.linked.decision q ∙ ap (or_else (c.d' q)) (past_first decryption_kinds of_decision decryption_decision p.opening.past q);
        text = λ q. ap (or_else (t q)) (past_decrypted subset_kinds subset_eight subset_twelve past q who) ∙ p.opening.text q;
        thirteens = past_thirteens subset_kinds subset_thirteen past ∙ past_thirteens decryption_kinds decryption_thirteen p.opening.past;
        votes = voted_after net v d comes c.votes (untold_past decryption_kinds decryption_subset u.rest z.rest p.opening.past);
      })

  going_ok : (call : List ℕ → Tape → Run (List ℕ) Bool) (u : Tape) → Good N u.rest
      → Afterwards (call w u) (λ done w₁ z. Called old net comes v d u.rest done w₁ z.rest) → Orderly (Frame N w) subset_kinds u (call w u)
      → Afterwards (call_subset net strategy encrypted call w u) (λ _ w' z. CallTold Holds net strategy encrypted v d t who comes u.rest w' z.rest)
  going_ok call u g c o = called_after net strategy encrypted w u call s.status _ _ c o (λ done w₁ z a past f. called_then u.rest done w₁ z g a past f)

-- any call of the subset
pub record SubsetLaws (net : NetworkInfo) (comes : Bool) (call : List ℕ → Tape → Run (List ℕ) Bool) : Type 0 where
  pub called : (old : ℕ → Bool) (w : List ℕ) (v d : ℕ → Option ℕ) → Held old net.num_nodes w v d → (u : Tape) → Good net.num_nodes u.rest
      → get_or w decided_at 0 ≡ cond (is_over net v d) 1 0 → Afterwards (call w u) (λ done w₁ z. Called old net comes v d u.rest done w₁ z.rest)
  pub orderly : (w : List ℕ) (u : Tape) → Orderly (Frame net.num_nodes w) subset_kinds u (call w u)

pub proposes : (net : NetworkInfo) → SubsetLaws net (is_validator net) (propose_subset net 22)
unfolding run_of speaks
proposes net = record { called = λ old w v d h u g e. call_ok old net w v d h u g e proposing; orderly = λ w u. propose_subset_runs net 22 w w u (λ i o. refl) }

pub handles : (net : NetworkInfo) (content : Content) (p : ℕ) → SubsetLaws net true (handle_subset net 23 content p)
unfolding run_of speaks
handles net Broadcast p = record { called = λ old w v d h u g e. call_ok old net w v d h u g e (broadcasting p); orderly = λ w u. handle_subset_runs net 23 w _ p w u (λ i o. refl) }
handles net Agreement p = record { called = λ old w v d h u g e. call_ok old net w v d h u g e (agreeing p); orderly = λ w u. handle_subset_runs net 23 w _ p w u (λ i o. refl) }

module _ (net : NetworkInfo) (strategy : SubsetHandlingStrategy) (encrypted : Bool) (w : List ℕ) (v d t : ℕ → Option ℕ) (h : Holds net strategy encrypted w v d t) where
  subset_ok : (comes : Bool) (call : List ℕ → Tape → Run (List ℕ) Bool) → SubsetLaws net comes call → (u : Tape) (who : Option ℕ) → Good net.num_nodes u.rest
      → Afterwards (call_subset net strategy encrypted call w u) (λ _ w' z. CallTold Holds net strategy encrypted v d t who comes u.rest w' z.rest)
  unfolding call_subset
  subset_ok comes call c u who g = go h.stage
    where
      go : Going net strategy w v d ⊎ Done net w v d → Afterwards (call_subset net strategy encrypted call w u) (λ _ w' z. CallTold Holds net strategy encrypted v d t who comes u.rest w' z.rest)
      go (inl s) =
          going_ok net strategy encrypted w v d t who comes h s call u g
          (c.called (handled_by strategy v d) w v d s.held u g (s.undecided ∙ ap (λ x. cond x 1 0) (sym s.over))) (c.orderly w u)
      go (inr s) =
          rw s.status
          (told_still net strategy encrypted w v d t who comes u.rest h g (voted_done net v d comes (settled_decided v d net.num_nodes s.settled) u.rest))

  share_ok : (sender p share : ℕ) → p < net.num_nodes → (u : Tape) → Good net.num_nodes u.rest
      → Afterwards (handle_decryption_share net sender p share w u) (λ _ w' z. CallTold Holds net strategy encrypted v d t (Some p) false u.rest w' z.rest)
  unfolding handle_decryption_share
  share_ok sender p share l u g =
      after_cond (is_complete w && not (is_accepted w p)) _ _ _
      (told_still net strategy encrypted w v d t (Some p) false u.rest h g (voted_still net v d (untold_same u.rest))) deals
    where
      deals : Afterwards (call_entry net p (handle_share net p sender share) w u) (λ _ w' z. CallTold Holds net strategy encrypted v d t (Some p) false u.rest w' z.rest)
      deals =
          after_map (call_entry net p (handle_share net p sender share) w u) _ _
          (share_entry net p w u l h.size encrypted sender share (is_accepted w p) (v p) (t p) (h.texts p l))
          (λ _ w' z a. told_dealt net strategy encrypted p w v d t u.rest w' z.rest h g a)

  -- THE EPOCH'S TWO CALLS
  pub handled_ok : (sender p : ℕ) (content : MessageContent) → p < net.num_nodes → (u : Tape) → Good net.num_nodes u.rest
      → Afterwards (handle_message_content net strategy encrypted sender p content w u) (λ _ w' z. CallTold Holds net strategy encrypted v d t (share_of p content) (not (is_there (share_of p content))) u.rest w' z.rest)
  unfolding handle_message_content share_of is_there
  handled_ok sender p (Subset content) l u g = subset_ok true (handle_subset net 23 content p) (handles net content p) u None g
  handled_ok sender p (DecryptionShare share) l u g = share_ok sender p share l u g

  pub proposed_ok : (u : Tape) → Good net.num_nodes u.rest
      → Afterwards (propose net strategy encrypted w u) (λ _ w' z. CallTold Holds net strategy encrypted v d t None (is_validator net) u.rest w' z.rest)
  unfolding propose
  proposed_ok u g =
      after_ask u 2 w _ _ (λ a b z r.
      let two = reads_past serialised u 2 b z refl r in
      after_cond (eqb a 0) _ _ _ tt
      (after_map (call_subset net strategy encrypted (propose_subset net 22) w z) _ _
      (subset_ok (is_validator net) (propose_subset net 22) (proposes net) z None (past_good serialised net.num_nodes two g)) (λ _ w' y k.
      told_before serialised (λ k e. rw (eqb-true k 2 e)) (λ k e. rw (eqb-true k 2 e)) (λ k e. rw (eqb-true k 2 e)) (λ k e. rw (eqb-true k 2 e)) (λ k e. rw (eqb-true k 2 e)) (λ k e. rw (eqb-true k 2 e))
      net strategy encrypted v d t None (is_validator net) u.rest z.rest w' y.rest two k)))
    where
      serialised : ℕ → Bool
      serialised k = eqb k 2

-- A NEW EPOCH
none_handled : (strategy : SubsetHandlingStrategy) (q : ℕ) → handled_by strategy nothing nothing q ≡ false
unfolding is_there
none_handled Incremental q = refl
none_handled AllAtEnd q = refl

none_accepted : (w : List ℕ) → get_or w accepted_at 0 ≡ 0 → (q : ℕ) → is_accepted w q ≡ false
unfolding is_accepted has_bit
none_accepted w e q = rw (e, zero-div (2 ^ q))

none_text : (encrypted : Bool) → TextOk encrypted missing false None None
unfolding TextOk
none_text true = refl
none_text false = (refl, refl)

pub fresh_holds : (net : NetworkInfo) (strategy : SubsetHandlingStrategy) (encrypted : Bool) → Network net → Holds net strategy encrypted (new_epoch net.num_nodes) nothing nothing nothing
unfolding new_epoch load_decryption
fresh_holds net strategy encrypted k = record {
  size = held.size;
  texts = λ q l.
      rw (none_accepted (new_epoch n) (new_word n accepted_at (λ e. omega arith)) q, new_word n (decryption_at n q) (λ e. omega arith)) (none_text encrypted);
  stage = inl (record {
    status = get_or-set_same (replicate (epoch_length n) 0) status_at 1 0 (omega (arith, length-replicate {A = ℕ} (epoch_length n) 0));
    undecided = new_word n decided_at (λ e. omega arith);
    over = new_over net k;
    held = held;
    accepted = λ q l. none_accepted (new_epoch n) (new_word n accepted_at (λ e. omega arith)) q ∙ sym (none_handled strategy q);
  });
}
  where
    n : ℕ
    n = net.num_nodes

    held : Held (handled_by strategy nothing nothing) net.num_nodes (new_epoch net.num_nodes) nothing nothing
    held = new_held (handled_by strategy nothing nothing) (none_handled strategy) net.num_nodes

-- AN EPOCH THAT IS READY
settled_at : (n m p : ℕ) (w : List ℕ) → decrypted_from (record_length n) m p w ≡ true → (q : ℕ) → p ≤ q → q < p + m → is_accepted w q ≡ true
    → is_settled (get_or w (decryption_at n q) 0) ≡ true
unfolding decrypted_from
settled_at n zero p w e q l h a = absurd (omega arith)
settled_at n (suc m) p w e q l h a = go (eqb q p) refl (settled_at n m (p + 1) w two.1 q)
  where
    two : (cond (is_accepted w p) (is_settled (get_or w (decryption_at n p) 0)) true ≡ true) × (decrypted_from (record_length n) m (p + 1) w ≡ true)
    two = and_parts (cond (is_accepted w p) (is_settled (get_or w (decryption_at n p) 0)) true) (decrypted_from (record_length n) m (p + 1) w) e

    go : (x : Bool) → eqb q p ≡ x → (p + 1 ≤ q → q < p + 1 + m → is_accepted w q ≡ true → is_settled (get_or w (decryption_at n q) 0) ≡ true) → is_settled (get_or w (decryption_at n q) 0) ≡ true
    go true y f =
        let z : q ≡ p = eqb-true q p y in
        let b : is_accepted w p ≡ true = rw z at a in
        rw z (rw b at two.0)
    go false y f = let ne = eqb-false q p y in f (omega arith) (omega arith) a

-- what is settled is open
settled_open : (tag : ℕ) → is_settled tag ≡ true → is_open tag ≡ true
unfolding is_settled is_open
settled_open tag e = e

text_word : (encrypted : Bool) (n : ℕ) (w : List ℕ) (q : ℕ) (a : Bool) (v t : Option ℕ) → is_settled (get_or w (decryption_at n q) 0) ≡ true → TextOk encrypted (load_decryption n w q) a v t
    → cond encrypted t v ≡ Some (get_or w (plaintext_at n q) 0)
unfolding load_decryption is_settled TextOk
text_word encrypted n w q a v t e h = go encrypted (rw (eqb-true (get_or w (decryption_at n q) 0) entry_complete e) at h)
  where
    go : (c : Bool) → TextOk c (complete (get_or w (plaintext_at n q) 0)) a v t → cond c t v ≡ Some (get_or w (plaintext_at n q) 0)
    go true h = h.0
    go false h = h.1

-- where every agreement has decided and every value decided 1 is here
pub settled_known : (v d : ℕ → Option ℕ) (m p : ℕ) → settled_from v d m p ≡ true → (q : ℕ) → p ≤ q → q < p + m → is_true (d q) ≡ true → is_there (v q) ≡ true
unfolding settled_from
settled_known v d zero p s q l h t = absurd (omega arith)
settled_known v d (suc m) p s q l h t = go (eqb q p) refl (settled_known v d m (p + 1) parts.1 q)
  where
    parts : (is_there (d p) && (not (is_true (d p)) || is_there (v p)) ≡ true) × (settled_from v d m (p + 1) ≡ true)
    parts = and_parts (is_there (d p) && (not (is_true (d p)) || is_there (v p))) (settled_from v d m (p + 1)) s

    go : (x : Bool) → eqb q p ≡ x → (p + 1 ≤ q → q < p + 1 + m → is_true (d q) ≡ true → is_there (v q) ≡ true) → is_there (v q) ≡ true
    go true e ih =
        let z : q ≡ p = eqb-true q p e in
        let here : not (is_true (d p)) || is_there (v p) ≡ true = (and_parts (is_there (d p)) (not (is_true (d p)) || is_there (v p)) parts.0).1 in
        rw z (rw (rw z at t) at here)
    go false e ih =
        let ne : q ≡ p → ⊥ = eqb-false q p e in
        ih (omega arith) (omega arith) t

pub ready_holds : (net : NetworkInfo) (strategy : SubsetHandlingStrategy) (encrypted : Bool) (w : List ℕ) (v d t : ℕ → Option ℕ)
    → Holds net strategy encrypted w v d t → is_ready net.num_nodes w ≡ true → Ready Holds net encrypted w v d t
unfolding is_ready_in is_read
ready_holds net strategy encrypted w v d t h e = go h.stage
  where
    n : ℕ
    n = net.num_nodes

    two : (is_complete w ≡ true) × (decrypted_from (record_length net.num_nodes) net.num_nodes 0 w ≡ true)
    two = and_parts (is_complete w) (decrypted_from (record_length net.num_nodes) net.num_nodes 0 w) e

    settled : (q : ℕ) → q < net.num_nodes → is_accepted w q ≡ true → is_settled (get_or w (decryption_at net.num_nodes q) 0) ≡ true
    settled q l a = settled_at n n 0 w two.1 q (omega arith) (omega arith) a

    -- an accepted one is open, so that exactly these are read
    read : (q : ℕ) → q < net.num_nodes → is_accepted w q && is_open (get_or w (decryption_at net.num_nodes q) 0) ≡ is_accepted w q
    read q l = by (is_accepted w q) refl
      where
        by : (x : Bool) → is_accepted w q ≡ x → is_accepted w q && is_open (get_or w (decryption_at net.num_nodes q) 0) ≡ is_accepted w q
        by true a = rw (a, settled_open (get_or w (decryption_at net.num_nodes q) 0) (settled q l a))
        by false a = rw a

    go : Going net strategy w v d ⊎ Done net w v d → Ready Holds net encrypted w v d t
    go (inl s) = absurd (omega (arith, s.status, eqb-true (get_or w status_at 0) 2 two.0))
    go (inr s) = record {
      decided = settled_decided v d n s.settled;
      read = λ q l. read q l ∙ s.accepted q l;
      known = λ q l o. settled_known v d n 0 s.settled q (omega arith) (omega arith) o;
      plaintext = λ q l o.
          text_word encrypted n w q (is_accepted w q) (v q) (t q) (settled q l (s.accepted q l ∙ o)) (h.texts q l);
      enough = s.enough;
    }

-- THE LAWS
pub epoch_laws : EpochLaws Holds
epoch_laws = record {
  fresh = fresh_holds;
  proposed = λ net strategy encrypted w v d t p k h g. proposed_ok net strategy encrypted w v d t h p g;
  handled = λ net strategy encrypted w v d t p k sender proposer content ls lp h g. handled_ok net strategy encrypted w v d t h sender proposer content lp p g;
  quiet_proposed = quiet_proposed_lem;
  quiet_handled = quiet_handled_lem;
  ready = λ net strategy encrypted w v d t k h e. ready_holds net strategy encrypted w v d t h e;
}
