-- What a call of the subset does to what was taken, which votes it asks for, and when it is done. Assumes nothing.
use Rattle.std.proofs.Common.{ℕ, zero, suc, ◌+◌, ◌≤◌, ◌<◌, ◌≡◌, refl, sym, ap, ◌∙◌, ◌≢◌, ◌⊎◌, inl, inr, List, Bool, true, false, cond, ◌&&◌, ◌||◌, not, Option, None, Some, arith, get_or, set, length-set, get_or-set_same, get_or-set_other, eqb, ltb, eqb-true, ne_eqb, ltb-true, ltb-false, le-leb}
use Rattle.std.proofs.Math.Bool.{and-false, and-true, or-false, or_assoc}
use Rattle.std.proofs.lemmas.Bool.{or_cases, false≢true, eqb-false, lt-leb}
use Rattle.steps.specs.declared.reader.Content.TheVariants.{Broadcast, Agreement}
use Rattle.network.specs.declared.network_info.NetworkInfo.{NetworkInfo}
use Rattle.network.specs.Network.{is_validator, num_correct}
use Rattle.steps.specs.Answers.{Rec, Tape}
use Rattle.steps.specs.Table.{within}
use Rattle.steps.specs.Parts.{is_part}
use Rattle.steps.specs.Taken.{or_else, is_there, first_taken, of_value, of_decision, is_asked, ones_from}
use Rattle.steps.specs.Runs.{going, Run, ends, inside, onward}
use Rattle.steps.proofs.TakenFromChain.{Good, Instance, bit_or, low_no_part, no_part, kind3, kind4, kind5, kind7}
use Rattle.proposal.specs.declared.ProposalState.{ProposalState}
use Rattle.subset.specs.Words.{decided_at, count_at, proposal_at, value_at, arrival_at, load_proposal, store_proposal}
use Rattle.proposal.specs.Proposal.{asks_agreement, asks_broadcast, instance_answer, answer_agreement, answer_broadcast}
use Rattle.subset.specs.Subset.{all_complete, contributed, at_proposal, broadcast_at, agreement_at, vote_from, votes, try_output, propose, handle_message}
use Rattle.subset.specs.Rule.{settled_from, is_over, SubsetCall, proposing, broadcasting, agreeing, run_of, speaks}
use Rattle.steps.proofs.AfterRun.{Afterwards, after_map, after_onward, after_inside}
use Rattle.proposal.proofs.TakenByProposal.{state_of, output_of, instance_ok, Agreed, agreement_ok, Went, went_agreed, Broadcasts, broadcast_ok}
use Rattle.subset.proofs.Invariant.{Held, held_move}
use Rattle.subset.proofs.TakenTests.{put_same, put_other, more, grown_more, link_more, Linked, linked_same, linked_then, ones_grow, over_grows, over_decided, accepted_ones, complete_settled}
use Rattle.subset.proofs.VotesAsked.{Still, still_same, still_then, still_vote, untold_same, Opened, Voted, opened_none, opened_after, voted_still}

-- of the contributions some are old: they have been taken out of the list
module _ (old : ℕ → Bool) where
  -- THE FIRST PART of a call, before any vote 0
  pub record Begun (n : ℕ) (v d : ℕ → Option ℕ) (w : List ℕ) (ws : List Rec) (w' : List ℕ) (r : List Rec) : Type 0 where
    pub v' : ℕ → Option ℕ
    pub d' : ℕ → Option ℕ
    pub held : Held old n w' v' d'
    pub good : Good n r
    pub decided : get_or w' decided_at 0 ≡ get_or w decided_at 0
    pub linked : Linked v d v' d' ws r
    pub early : (q : ℕ) → or_else (d q) (first_taken (within 5 6) q ws) ≡ or_else (d' q) (first_taken (within 5 6) q r)
    pub asks : Opened v d ws r
    pub zero : (q : ℕ) → is_asked 7 q ws ≡ is_asked 7 q r

  begun_still : (n : ℕ) (v d : ℕ → Option ℕ) (w : List ℕ) (ws : List Rec) → Held old n w v d → Good n ws → Begun n v d w ws w ws
  begun_still n v d w ws h g = record {
    v' = v;
    d' = d;
    held = h;
    good = g;
    decided = refl;
    linked = linked_same v d ws;
    early = λ q. refl;
    asks = opened_none v d ws;
    zero = λ q. refl;
  }

  -- what was asked about p
  opened_went : (n p : ℕ) (v d : ℕ → Option ℕ) (ws : List Rec) (o : Option ℕ) (s : ProposalState) (r : List Rec) → Went n p (v p) (d p) ws o s r → Opened v d ws r
  unfolding is_there is_part
  opened_went n p v d ws o s r t = record {
    came = λ q. cond (eqb p q) (t.took of_value) None;
    value = λ q. t.first of_value (low_no_part 3 4 (omega arith)) q;
    one = λ q. t.asking 6 refl q ∙ ap (λ x. x || is_asked 6 q r) (votes1 q (eqb p q) refl);
    broadcast = λ k q e a. by (λ i. (v i ≡ None) × (d i ≢ Some 0)) q (t.asks k) (is_asked k q r) (eqb p q) refl (or_cases (t.asks k && eqb p q) (is_asked k q r) (sym (t.asking k (no_part of_value (low_no_part 3 4 (omega arith)) k e) q) ∙ a)) (t.broadcast k e);
    agreement = λ q a. by (λ i. d i ≡ None) q (t.asks 5) (is_asked 5 q r) (eqb p q) refl (or_cases (t.asks 5 && eqb p q) (is_asked 5 q r) (sym (t.asking 5 refl q) ∙ a)) t.agreement;
  }
    where
      votes1 : (q : ℕ) (y : Bool) → eqb p q ≡ y → t.asks 6 && y ≡ (is_there (cond y (t.took of_value) None) && not (is_there (d q)))
      votes1 q true y = rw (← eqb-true p q y, and-true (t.asks 6)) t.six
      votes1 q false y = and-false (t.asks 6)

      by : (P : ℕ → Type 0) (q : ℕ) (x z y : Bool) → eqb p q ≡ y → (x && y ≡ true) ⊎ (z ≡ true) → (x ≡ true → P p) → P q ⊎ (z ≡ true)
      by P q x z true e (inl a) f = inl (rw (← eqb-true p q e) (f (sym (and-true x) ∙ a)))
      by P q x z false e (inl a) f = absurd (false≢true (sym (and-false x) ∙ a))
      by P q x z y e (inr b) f = inr b

  begun_went : (n p : ℕ) (v d : ℕ → Option ℕ) (w : List ℕ) (ws : List Rec) (o : Option ℕ) (s : ProposalState) (r : List Rec)
      → Held old n w v d → output_of (v p) (d p) ≡ None → Went n p (v p) (d p) ws o s r → Begun n v d w ws (contributed n (store_proposal n w p s) p o) r
  unfolding or_else is_part
  begun_went n p v d w ws o s r h e t =
      let v₁ = more v p (t.took of_value) in
      let d₁ = more d p (t.took of_decision) in
      let vp : v₁ p ≡ or_else (v p) (t.took of_value) = put_same v p _ in
      let dp : d₁ p ≡ or_else (d p) (t.took of_decision) = put_same d p _ in
      let m = held_move old n p w v d v₁ d₁ h t.named (λ q ne. (put_other v p _ q ne, put_other d p _ q ne)) (rw dp (bit_or (d p) _ (h.bits p) t.bit)) e s o
      (t.state ∙ sym (rw (vp, dp))) (t.out ∙ sym (rw (vp, dp))) in
      record {
        v' = v₁;
        d' = d₁;
        held = m.held;
        good = t.good;
        decided = m.decided;
        linked = record {
          value = λ q. ap (or_else (v q)) (t.first of_value (low_no_part 3 4 (omega arith)) q) ∙ link_more v p q (t.took of_value) (first_taken of_value q r);
          decision = λ q. ap (or_else (d q)) (t.first of_decision (low_no_part 5 7 (omega arith)) q) ∙ link_more d p q (t.took of_decision) (first_taken of_decision q r);
          grown_v = grown_more v p (t.took of_value);
          grown_d = grown_more d p (t.took of_decision);
        };
        early = λ q.
            ap (or_else (d q)) (t.first (within 5 6) (low_no_part 5 6 (omega arith)) q)
            ∙ ap (λ x. or_else (d q) (or_else (cond (eqb p q) x None) (first_taken (within 5 6) q r))) t.early
            ∙ link_more d p q (t.took of_decision) (first_taken (within 5 6) q r);
        asks = opened_went n p v d ws o s r t;
        zero = λ q. t.asking 7 refl q ∙ rw t.seven;
      }

  undecided_silent : (v : Option ℕ) → output_of v None ≡ None
  undecided_silent None = refl
  undecided_silent (Some v) = refl

  -- ONE VOTE 0, asked for where p is undecided
  record One (n p : ℕ) (v d : ℕ → Option ℕ) (w : List ℕ) (ws : List Rec) (w' : List ℕ) (r : List Rec) : Type 0 where
    d' : ℕ → Option ℕ
    held : Held old n w' v d'
    good : Good n r
    decided : get_or w' decided_at 0 ≡ get_or w decided_at 0
    linked : Linked v d v d' ws r
    still : Still ws r
    others : (q : ℕ) → (q ≡ p → ⊥) → d' q ≡ d q
    asks : (q : ℕ) → is_asked 7 q ws ≡ ((eqb p q && not (is_there (d p))) || is_asked 7 q r)

  one_agreed : (n p : ℕ) (v d : ℕ → Option ℕ) (w : List ℕ) (ws : List Rec) (o : Option ℕ) (s : ProposalState) (r : List Rec)
      → Held old n w v d → d p ≡ None → Agreed n 7 p (v p) ws o s r → One n p v d w ws (contributed n (store_proposal n w p s) p o) r
  unfolding or_else is_there is_part
  one_agreed n p v d w ws o s r h e a =
      let d₁ = more d p a.answer in
      let dp : d₁ p ≡ a.answer = put_same d p _ ∙ rw e in
      let m = held_move old n p w v d v d₁ h a.heard.named (λ q ne. (refl, put_other d p _ q ne)) (rw dp (a.heard.bit (omega arith))) (rw e (undecided_silent (v p))) s o
      (a.state ∙ sym (rw dp)) (a.out ∙ sym (rw dp)) in
      record {
        d' = d₁;
        held = m.held;
        good = a.heard.good;
        decided = m.decided;
        linked = record {
          value = λ q. ap (or_else (v q)) (a.heard.first of_value (low_no_part 3 4 (omega arith)) q);
          decision = λ q. ap (or_else (d q)) (a.heard.first of_decision (low_no_part 5 7 (omega arith)) q) ∙ link_more d p q a.answer (first_taken of_decision q r);
          grown_v = λ q x z. z;
          grown_d = grown_more d p a.answer;
        };
        still = still_vote n p ws a.answer r a.heard;
        others = λ q ne. put_other d p _ q ne;
        asks = λ q. a.heard.asking 7 refl q ∙ rw (e, and-true (eqb p q));
      }

  -- THE ROUND of votes 0, for the m proposers from i on
  pub record Round (n m i : ℕ) (v d : ℕ → Option ℕ) (w : List ℕ) (ws : List Rec) (w' : List ℕ) (r : List Rec) : Type 0 where
    pub d' : ℕ → Option ℕ
    pub held : Held old n w' v d'
    pub good : Good n r
    pub decided : get_or w' decided_at 0 ≡ get_or w decided_at 0
    pub linked : Linked v d v d' ws r
    pub still : Still ws r
    -- the votes
    pub votes : ℕ → Bool
    pub asks : (q : ℕ) → is_asked 7 q ws ≡ (votes q || is_asked 7 q r)
    pub among : (q : ℕ) → i ≤ q → q < i + m → votes q ≡ not (is_there (d q))
    pub below : (q : ℕ) → q < i → votes q ≡ false
    pub beyond : (q : ℕ) → i + m ≤ q → votes q ≡ false

  round_none : (n i : ℕ) (v d : ℕ → Option ℕ) (w : List ℕ) (ws : List Rec) → Held old n w v d → Good n ws → Round n 0 i v d w ws w ws
  round_none n i v d w ws h g = record {
    d' = d;
    held = h;
    good = g;
    decided = refl;
    linked = linked_same v d ws;
    still = still_same ws;
    votes = λ q. false;
    asks = λ q. refl;
    among = λ q a b. absurd (omega arith);
    below = λ q a. refl;
    beyond = λ q a. refl;
  }

  round_more : (n m i : ℕ) (v d : ℕ → Option ℕ) (w w₁ w₂ : List ℕ) (ws r z : List Rec) (a : One n i v d w ws w₁ r) → Round n m (i + 1) v a.d' w₁ r w₂ z → Round n (suc m) i v d w ws w₂ z
  round_more n m i v d w w₁ w₂ ws r z a b = record {
    d' = b.d';
    held = b.held;
    good = b.good;
    decided = b.decided ∙ a.decided;
    linked = linked_then a.linked b.linked;
    still = still_then a.still b.still;
    votes = λ q. (eqb i q && not (is_there (d i))) || b.votes q;
    asks = λ q. a.asks q ∙ ap (λ x. (eqb i q && not (is_there (d i))) || x) (b.asks q) ∙ sym (or_assoc (eqb i q && not (is_there (d i))) (b.votes q) (is_asked 7 q z));
    among = λ q l h. go q l h (eqb i q) refl;
    below = λ q l. rw (ne_eqb i q (λ e. omega arith)) (b.below q (omega arith));
    beyond = λ q l. rw (ne_eqb i q (λ e. omega arith)) (b.beyond q (omega arith));
  }
    where
      go : (q : ℕ) → i ≤ q → q < i + suc m → (x : Bool) → eqb i q ≡ x → (x && not (is_there (d i))) || b.votes q ≡ not (is_there (d q))
      go q l h true x =
          let y : i ≡ q = eqb-true i q x in
          rw (y, b.below q (omega arith)) (or-false (not (is_there (d q))))
      go q l h false x =
          let ne : i ≡ q → ⊥ = eqb-false i q x in
          b.among q (omega arith) (omega arith) ∙ ap (λ o. not (is_there o)) (a.others q (λ e. ne (sym e)))

  -- a proposal that asks has not been output
  broadcast_silent : (v d : Option ℕ) → asks_broadcast (state_of v d) ≡ true → output_of v d ≡ None
  unfolding asks_broadcast
  broadcast_silent None d e = refl
  broadcast_silent (Some v) None e = refl
  broadcast_silent (Some v) (Some zero) e = refl
  broadcast_silent (Some v) (Some (suc d)) e = absurd (false≢true e)

  agreement_undecided : (v d : Option ℕ) → asks_agreement (state_of v d) ≡ true → d ≡ None
  unfolding asks_agreement
  agreement_undecided None None e = refl
  agreement_undecided (Some v) None e = refl
  agreement_undecided None (Some zero) e = absurd (false≢true e)
  agreement_undecided (Some v) (Some zero) e = absurd (false≢true e)
  agreement_undecided None (Some (suc d)) e = absurd (false≢true e)
  agreement_undecided (Some v) (Some (suc d)) e = absurd (false≢true e)

  decided_there : (v d : Option ℕ) → asks_agreement (state_of v d) ≡ false → is_there d ≡ true
  unfolding asks_agreement is_there
  decided_there None None e = absurd (false≢true (sym e))
  decided_there (Some v) None e = absurd (false≢true (sym e))
  decided_there v (Some d) e = refl

  module _ (net : NetworkInfo) (error : ℕ) where
    abbrev n : ℕ
    n = net.num_nodes

    at_ok : (p : ℕ) (w : List ℕ) (r : Run ProposalState (Option ℕ)) (Q : List ℕ → Tape → Type 0)
        → Afterwards r (λ o s z. Q (contributed n (store_proposal n w p s) p o) z) → Afterwards (at_proposal net error p w r) (λ _ w' z. Q w' z)
    unfolding at_proposal
    at_ok p w r Q h = after_onward (inside (store_proposal n w p) r) _ _ (after_inside (store_proposal n w p) r _ h)

    module _ (p : ℕ) (w : List ℕ) (v d : ℕ → Option ℕ) (h : Held old n w v d) (u : Tape) (g : Good n u.rest) where
      broadcast_far : (k : ℕ) → Instance k → n ≤ p → (s : ProposalState) → asks_broadcast s ≡ true → (Q : Option ℕ → ProposalState → Tape → Type 0) → Afterwards (answer_broadcast error p k s u) Q
      unfolding answer_broadcast
      broadcast_far k i l s e Q =
          after_onward (instance_answer error p k Broadcast s u) _ Q (after_map (instance_answer error p k Broadcast s u) _ _ (instance_ok n error p k Broadcast i s u g) (λ out t z x. absurd (omega (arith, x.1.named))))

      agreement_far : (k : ℕ) → Instance k → n ≤ p → (s : ProposalState) → asks_agreement s ≡ true → (Q : Option ℕ → ProposalState → Tape → Type 0) → Afterwards (answer_agreement error p k s u) Q
      unfolding answer_agreement
      agreement_far k i l s e Q =
          after_onward (instance_answer error p k Agreement s u) _ Q (after_map (instance_answer error p k Agreement s u) _ _ (instance_ok n error p k Agreement i s u g) (λ out t z x. absurd (omega (arith, x.1.named))))

      pub broadcast_at_lem : (k : ℕ) → Broadcasts k → Afterwards (broadcast_at net error k p w u) (λ _ w' z. Begun n v d w u.rest w' z.rest)
      unfolding broadcast_at
      broadcast_at_lem k i = go (asks_broadcast (load_proposal n w p)) refl
        where
          asking : asks_broadcast (load_proposal n w p) ≡ true → (x : Bool) → ltb p n ≡ x → Afterwards (at_proposal net error p w (answer_broadcast error p k (load_proposal n w p) u)) (λ _ w' z. Begun n v d w u.rest w' z.rest)
          asking a true x =
              let l = h.load p (ltb-true p n x) in
              let b : asks_broadcast (state_of (v p) (d p)) ≡ true = rw l at a in
              rw l
              (at_ok p w (answer_broadcast error p k (state_of (v p) (d p)) u) (λ w' z. Begun n v d w u.rest w' z.rest)
              (after_map (answer_broadcast error p k (state_of (v p) (d p)) u) _ _ (broadcast_ok n error p k i (v p) (d p) b u g)
              (λ o s z t. begun_went n p v d w u.rest o s z.rest h (broadcast_silent (v p) (d p) b) t)))
          asking a false x = at_ok p w (answer_broadcast error p k (load_proposal n w p) u) _ (broadcast_far k i.kind (ltb-false p n x) (load_proposal n w p) a _)

          go : (x : Bool) → asks_broadcast (load_proposal n w p) ≡ x
              → Afterwards (cond x (at_proposal net error p w (answer_broadcast error p k (load_proposal n w p) u)) (ends (going tt) w u)) (λ _ w' z. Begun n v d w u.rest w' z.rest)
          go true a = asking a (ltb p n) refl
          go false a = begun_still n v d w u.rest h g

      -- where p is undecided the agreement is asked
      agreement_load : p < n → asks_agreement (load_proposal n w p) ≡ true → (d p ≡ None) × (load_proposal n w p ≡ state_of (v p) None)
      agreement_load l a =
          let e : d p ≡ None = agreement_undecided (v p) (d p) (rw (h.load p l) at a) in
          (e, h.load p l ∙ ap (λ x. state_of (v p) x) e)

      pub agreement_at_lem : Afterwards (agreement_at net error 5 p w u) (λ _ w' z. Begun n v d w u.rest w' z.rest)
      unfolding agreement_at
      agreement_at_lem = go (asks_agreement (load_proposal n w p)) refl
        where
          asking : asks_agreement (load_proposal n w p) ≡ true → (x : Bool) → ltb p n ≡ x → Afterwards (at_proposal net error p w (answer_agreement error p 5 (load_proposal n w p) u)) (λ _ w' z. Begun n v d w u.rest w' z.rest)
          asking a true x =
              let l = agreement_load (ltb-true p n x) a in
              rw l.1
              (at_ok p w (answer_agreement error p 5 (state_of (v p) None) u) (λ w' z. Begun n v d w u.rest w' z.rest)
              (after_map (answer_agreement error p 5 (state_of (v p) None) u) _ _ (agreement_ok n error p 5 kind5 (v p) u g)
              (λ o s z t. begun_went n p v d w u.rest o s z.rest h (rw l.0 (undecided_silent (v p))) (rw l.0 (went_agreed n p (v p) u.rest o s z.rest t)))))
          asking a false x = at_ok p w (answer_agreement error p 5 (load_proposal n w p) u) _ (agreement_far 5 kind5 (ltb-false p n x) (load_proposal n w p) a _)

          go : (x : Bool) → asks_agreement (load_proposal n w p) ≡ x
              → Afterwards (cond x (at_proposal net error p w (answer_agreement error p 5 (load_proposal n w p) u)) (ends (going tt) w u)) (λ _ w' z. Begun n v d w u.rest w' z.rest)
          go true a = asking a (ltb p n) refl
          go false a = begun_still n v d w u.rest h g

      vote_at : p < n → Afterwards (agreement_at net error 7 p w u) (λ _ w' z. One n p v d w u.rest w' z.rest)
      unfolding agreement_at
      vote_at inside = go (asks_agreement (load_proposal n w p)) refl
        where
          go : (x : Bool) → asks_agreement (load_proposal n w p) ≡ x
              → Afterwards (cond x (at_proposal net error p w (answer_agreement error p 7 (load_proposal n w p) u)) (ends (going tt) w u)) (λ _ w' z. One n p v d w u.rest w' z.rest)
          go true a =
              let l = agreement_load inside a in
              rw l.1
              (at_ok p w (answer_agreement error p 7 (state_of (v p) None) u) (λ w' z. One n p v d w u.rest w' z.rest)
              (after_map (answer_agreement error p 7 (state_of (v p) None) u) _ _ (agreement_ok n error p 7 kind7 (v p) u g)
              (λ o s z t. one_agreed n p v d w u.rest o s z.rest h l.0 t)))
          go false a = record {
            d' = d;
            held = h;
            good = g;
            decided = refl;
            linked = linked_same v d u.rest;
            still = still_same u.rest;
            others = λ q ne. refl;
            asks = λ q. rw (decided_there (v p) (d p) (rw (h.load p inside) at a), and-false (eqb p q));
          }

    votes_from : (m i : ℕ) (w : List ℕ) (v d : ℕ → Option ℕ) → Held old n w v d → (u : Tape) → Good n u.rest → i + m ≤ n
        → Afterwards (vote_from net error m i w u) (λ _ w' z. Round n m i v d w u.rest w' z.rest)
    unfolding vote_from
    votes_from zero i w v d h u g l = round_none n i v d w u.rest h g
    votes_from (suc m) i w v d h u g l =
        after_onward (agreement_at net error 7 i w u) _ _
        (after_map (agreement_at net error 7 i w u) _ _ (vote_at i w v d h u g (omega arith)) (λ _ w₁ z a.
        after_map (vote_from net error m (i + 1) w₁ z) _ _ (votes_from m (i + 1) w₁ v a.d' a.held z a.good (omega arith)) (λ _ w₂ y b.
        round_more n m i v d w w₁ w₂ u.rest z.rest y.rest a b)))

  -- DONE, or not
  module _ (net : NetworkInfo) (v d : ℕ → Option ℕ) where
    over_few : ones_from d net.num_nodes 0 < num_correct net → is_over net v d ≡ false
    unfolding is_over
    over_few h = rw (lt-leb (num_correct net) (ones_from d net.num_nodes 0) h) (and-false (settled_from v d net.num_nodes 0))

    over_many : num_correct net ≤ ones_from d net.num_nodes 0 → is_over net v d ≡ settled_from v d net.num_nodes 0
    unfolding is_over
    over_many h = rw (le-leb (num_correct net) (ones_from d net.num_nodes 0) h) (and-true (settled_from v d net.num_nodes 0))

  held_done : (n : ℕ) (w : List ℕ) (v d : ℕ → Option ℕ) → Held old n w v d → Held old n (set w decided_at 1) v d
  unfolding load_proposal
  held_done n w v d h = record {
    size = length-set w decided_at 1 ∙ h.size;
    load = λ q l. rw (word (proposal_at n q) (λ e. omega arith), word (value_at n q) (λ e. omega arith)) (h.load q l);
    bits = h.bits;
    count = word count_at (λ e. omega arith) ∙ h.count;
    gone = h.gone;
    listed = λ q l t f.
        let k = h.listed q l t f in
        record { index = k.index; below = rw (word count_at (λ e. omega arith)) k.below; who = word (arrival_at n k.index) (λ e. omega arith) ∙ k.who };
    entries = λ i q l e.
        rw (word (value_at n q) (λ e. omega arith))
        (h.entries i q (rw (word count_at (λ e. omega arith)) at l) (sym (word (arrival_at n i) (λ e. omega arith)) ∙ e));
    once = λ i j l r e.
        h.once i j (rw (word count_at (λ e. omega arith)) at l) (rw (word count_at (λ e. omega arith)) at r)
        (sym (word (arrival_at n i) (λ e. omega arith)) ∙ e ∙ word (arrival_at n j) (λ e. omega arith));
    fresh = λ i l. ap old (word (arrival_at n i) (λ e. omega arith)) ∙ h.fresh i (rw (word count_at (λ e. omega arith)) at l);
  }
    where
      word : (i : ℕ) → (i ≡ decided_at → ⊥) → get_or (set w decided_at 1) i 0 ≡ get_or w i 0
      word i ne = get_or-set_other w decided_at i 1 0 ne

  -- what `try_output` leaves, where the call began with the subset over or not
  pub record Tried (net : NetworkInfo) (over : Bool) (v d : ℕ → Option ℕ) (ws : List Rec) (done : Bool) (w' : List ℕ) (r : List Rec) : Type 0 where
    pub d' : ℕ → Option ℕ
    pub held : Held old net.num_nodes w' v d'
    pub decided : get_or w' decided_at 0 ≡ cond (is_over net v d') 1 0
    pub says : over ≡ false → done ≡ is_over net v d'
    pub linked : Linked v d v d' ws r
    pub still : Still ws r
    pub asks : (q : ℕ) → q < net.num_nodes → is_asked 7 q ws ≡ ((eqb (ones_from d net.num_nodes 0) (num_correct net) && not (is_there (d q))) || is_asked 7 q r)

  module _ (net : NetworkInfo) (error : ℕ) (w : List ℕ) (v d : ℕ → Option ℕ) (h : Held old net.num_nodes w v d) (u : Tape) (g : Good net.num_nodes u.rest) where
    abbrev m : ℕ
    m = net.num_nodes

    -- the round takes place where exactly N−f are accepted
    votes_ok : Afterwards (votes net error w u) (λ _ w' z. Round m (cond (eqb (ones_from d m 0) (num_correct net)) m 0) 0 v d w u.rest w' z.rest)
    unfolding votes
    votes_ok = rw (accepted_ones old m w v d h m 0 (omega arith)) (go (eqb (ones_from d m 0) (num_correct net)))
      where
        go : (x : Bool) → Afterwards (cond x (vote_from net error m 0 w u) (ends (going tt) w u)) (λ _ w' z. Round m (cond x m 0) 0 v d w u.rest w' z.rest)
        go true = votes_from net error m 0 w v d h u g (omega arith)
        go false = round_none m 0 v d w u.rest h g

    -- the end of `try_output`
    abbrev finish : List ℕ → Tape → Run (List ℕ) Bool
    finish w q = cond (all_complete m w) (ends (going true) (set w decided_at 1) q) (ends (going false) w q)

    pub try_ok : (over : Bool) → (over ≡ true → is_over net v d ≡ true) → get_or w decided_at 0 ≡ cond over 1 0
        → Afterwards (try_output net error w u) (λ done w' z. Tried net over v d u.rest done w' z.rest)
    unfolding try_output
    try_ok true o e = rw e (record {
      d' = d;
      held = h;
      decided = e ∙ sym (rw (o refl));
      says = λ f. absurd (false≢true (sym f));
      linked = linked_same v d u.rest;
      still = still_same u.rest;
      asks = λ q l. rw (over_decided net v d (o refl) q l, and-false (eqb (ones_from d m 0) (num_correct net)));
    })
    try_ok false o e = rw (e, accepted_ones old m w v d h m 0 (omega arith)) (go (ltb (ones_from d m 0) (num_correct net)) refl)
      where
        -- the votes of a round that takes place, or not
        cast : (x : Bool) (w' : List ℕ) (r : List Rec) (b : Round m (cond x m 0) 0 v d w u.rest w' r) (q : ℕ) → q < m → b.votes q ≡ (x && not (is_there (d q)))
        cast true w' r b q l = b.among q (omega arith) (omega arith)
        cast false w' r b q l = b.beyond q (omega arith)

        finished : num_correct net ≤ ones_from d m 0 → (w' : List ℕ) (z : Tape) → Round m (cond (eqb (ones_from d m 0) (num_correct net)) m 0) 0 v d w u.rest w' z.rest
            → Afterwards (finish w' z) (λ done w'' y. Tried net false v d u.rest done w'' y.rest)
        finished many w' z b = rw (complete_settled old m w' v b.d' b.held m 0 (omega arith)) (by (settled_from v b.d' m 0) refl)
          where
            is_over_lem : is_over net v b.d' ≡ settled_from v b.d' m 0
            is_over_lem = over_many net v b.d' (omega (arith, ones_grow v d v b.d' b.linked.grown_v b.linked.grown_d m 0))

            asks : (q : ℕ) → q < m → is_asked 7 q u.rest ≡ ((eqb (ones_from d m 0) (num_correct net) && not (is_there (d q))) || is_asked 7 q z.rest)
            asks q l = b.asks q ∙ ap (λ x. x || is_asked 7 q z.rest) (cast (eqb (ones_from d m 0) (num_correct net)) w' z.rest b q l)

            by : (x : Bool) → settled_from v b.d' m 0 ≡ x → Afterwards (cond x (ends (going true) (set w' decided_at 1) z) (ends (going false) w' z)) (λ done w'' y. Tried net false v d u.rest done w'' y.rest)
            by true x = record {
              d' = b.d';
              held = held_done m w' v b.d' b.held;
              decided = get_or-set_same w' decided_at 1 0 (omega (arith, b.held.size)) ∙ sym (rw (is_over_lem, x));
              says = λ f. sym (is_over_lem ∙ x);
              linked = b.linked;
              still = b.still;
              asks = asks;
            }
            by false x = record {
              d' = b.d';
              held = b.held;
              decided = b.decided ∙ e ∙ sym (rw (is_over_lem, x));
              says = λ f. sym (is_over_lem ∙ x);
              linked = b.linked;
              still = b.still;
              asks = asks;
            }

        go : (x : Bool) → ltb (ones_from d m 0) (num_correct net) ≡ x
            → Afterwards (cond x (ends (going false) w u) (onward (votes net error w u) (λ _ w q. finish w q))) (λ done w' z. Tried net false v d u.rest done w' z.rest)
        go true x = record {
          d' = d;
          held = h;
          decided = e ∙ sym (rw (over_few net v d (ltb-true _ _ x)));
          says = λ f. sym (over_few net v d (ltb-true _ _ x));
          linked = linked_same v d u.rest;
          still = still_same u.rest;
          asks = λ q l. rw (ne_eqb (ones_from d m 0) (num_correct net) (λ e. omega (arith, ltb-true (ones_from d m 0) (num_correct net) x)));
        }
        go false x =
            after_onward (votes net error w u) _ _
            (after_map (votes net error w u) _ _ votes_ok (λ _ w' z b. finished (ltb-false (ones_from d m 0) (num_correct net) x) w' z b))

  -- A WHOLE CALL, which comes to the subset or not
  pub record Called (net : NetworkInfo) (comes : Bool) (v d : ℕ → Option ℕ) (ws : List Rec) (done : Bool) (w' : List ℕ) (r : List Rec) : Type 0 where
    pub v' : ℕ → Option ℕ
    pub d' : ℕ → Option ℕ
    pub held : Held old net.num_nodes w' v' d'
    pub decided : get_or w' decided_at 0 ≡ cond (is_over net v' d') 1 0
    -- a call that begins before the subset is over says whether it is
    pub says : is_over net v d ≡ false → done ≡ is_over net v' d'
    pub linked : Linked v d v' d' ws r
    pub votes : Voted net comes v d ws r

  called_then : (net : NetworkInfo) (v d : ℕ → Option ℕ) (w w₁ w₂ : List ℕ) (done : Bool) (ws r z : List Rec)
      (a : Begun net.num_nodes v d w ws w₁ r) → Tried net (is_over net v d) a.v' a.d' r done w₂ z → Called net true v d ws done w₂ z
  called_then net v d w w₁ w₂ done ws r z a b = record {
    v' = a.v';
    d' = b.d';
    held = b.held;
    decided = b.decided;
    says = b.says;
    linked = linked_then a.linked b.linked;
    votes = record {
      opened = opened_after v d a.asks b.still;
      before = a.d';
      early = λ q. a.early q ∙ ap (or_else (a.d' q)) (b.still.early q);
      zero = λ q l. a.zero q ∙ b.asks q l;
    };
  }

  -- an observer's propose
  called_still : (net : NetworkInfo) (v d : ℕ → Option ℕ) (w : List ℕ) (ws : List Rec) → Held old net.num_nodes w v d → get_or w decided_at 0 ≡ cond (is_over net v d) 1 0 → Called net false v d ws false w ws
  called_still net v d w ws h e = record {
    v' = v;
    d' = d;
    held = h;
    decided = e;
    says = λ f. sym f;
    linked = linked_same v d ws;
    votes = voted_still net v d (untold_same ws);
  }

  module _ (net : NetworkInfo) (w : List ℕ) (v d : ℕ → Option ℕ) (h : Held old net.num_nodes w v d) (u : Tape) (g : Good net.num_nodes u.rest)
      (e : get_or w decided_at 0 ≡ cond (is_over net v d) 1 0) where
    ended : (error : ℕ) (w₁ : List ℕ) (z : Tape) → Begun net.num_nodes v d w u.rest w₁ z.rest → Afterwards (try_output net error w₁ z) (λ done w' y. Called net true v d u.rest done w' y.rest)
    ended error w₁ z a =
        after_map (try_output net error w₁ z) _ _
        (try_ok net error w₁ a.v' a.d' a.held z a.good (is_over net v d) (over_grows v d a.v' a.d' a.linked.grown_v a.linked.grown_d net) (a.decided ∙ e))
        (λ done w₂ y b. called_then net v d w w₁ w₂ done u.rest z.rest y.rest a b)

    kinds_3 : Broadcasts 3
    kinds_3 = record { kind = kind3; value = refl; decision = refl; early = refl }

    kinds_4 : Broadcasts 4
    kinds_4 = record { kind = kind4; value = refl; decision = refl; early = refl }

    pub call_ok : (c : SubsetCall) → Afterwards (run_of net c w u) (λ done w' z. Called net (speaks net c) v d u.rest done w' z.rest)
    unfolding run_of propose handle_message speaks
    call_ok proposing = go (is_validator net)
      where
        go : (x : Bool) → Afterwards (cond x (onward (broadcast_at net 22 3 net.our_id w u) (λ _ w q. try_output net 22 w q)) (ends (going false) w u)) (λ done w' z. Called net x v d u.rest done w' z.rest)
        go true =
            after_onward (broadcast_at net 22 3 net.our_id w u) _ _
            (after_map (broadcast_at net 22 3 net.our_id w u) _ _ (broadcast_at_lem net 22 net.our_id w v d h u g 3 kinds_3) (λ _ w₁ z a. ended 22 w₁ z a))
        go false = called_still net v d w u.rest h e
    call_ok (broadcasting p) =
        after_onward (broadcast_at net 23 4 p w u) _ _
        (after_map (broadcast_at net 23 4 p w u) _ _ (broadcast_at_lem net 23 p w v d h u g 4 kinds_4) (λ _ w₁ z a. ended 23 w₁ z a))
    call_ok (agreeing p) =
        after_onward (agreement_at net 23 5 p w u) _ _
        (after_map (agreement_at net 23 5 p w u) _ _ (agreement_at_lem net 23 p w v d h u g) (λ _ w₁ z a. ended 23 w₁ z a))
