-- COUNTS AND ORDERS OF AN EPOCH: received proposals, the faults 2 of Done, the order of contributions, and what a ciphertext that does not
-- read or verify leaves. Assumes nothing.
use Rattle.std.proofs.Common.{ℕ, zero, suc, ◌+◌, ◌-◌, ◌^◌, ◌≤◌, ◌<◌, ◌≡◌, refl, sym, ap, ap₂, ◌∙◌, List, [], ◌∷◌, ◌++◌, append-nil, Bool, true, false, cond, ◌&&◌, ◌⊎◌, inl, inr, arith, eq-or-lt_of_le, length, get_or, set, replicate, get_or-set_other, eqb, eqb-true, eq-eqb, ne_eqb}
use lib.Count.{ones}
use Rattle.std.proofs.Math.Bool.{and-false}
use Rattle.network.specs.declared.network_info.NetworkInfo.{NetworkInfo}
use Rattle.steps.specs.Answers.{Rec, Tape, tape, ask_for, ask_about}
use Rattle.steps.specs.Steps.{Entry, fault}
use Rattle.steps.specs.Runs.{going, Run, ends, before, onward_as, onward, heard_as, heard, inside}
use Rattle.steps.specs.Bits.{count_bits}
use Rattle.steps.proofs.RunLaws.{onward_at}
use Rattle.decryption.specs.declared.ThresholdDecrypt.{ThresholdDecrypt}
use Rattle.decryption.specs.Decrypt.{set_ciphertext}
use Rattle.subset.specs.Words.{record_length, epoch_length, status_at, decided_at, accepted_at, count_at, record_at, proposal_at, value_at, arrival_at, add_contribution}
use Rattle.subset.specs.Bits.{received_tags, proposals_in}
use Rattle.subset.specs.Subset.{received_proposals as received_by_subset}
use Rattle.subset.proofs.ProposalStored.{places, apart, differ, add_word, add_value, add_arrival}
use Rattle.subset.proofs.Bits.{ones_bits, received_ones}
use Rattle.epochwords.specs.declared.SubsetHandlingStrategy.{SubsetHandlingStrategy}
use Rattle.epochwords.specs.declared.SubsetHandlingStrategy.TheVariants.{AllAtEnd}
use Rattle.epochwords.specs.Words.{is_vacant, is_complete, is_accepted, accept, missing, ongoing, complete, entry_ongoing, decryption_at, plaintext_at, share_at, asks, is_settled, decryption_in, shares_from, load_instance, load_entry, load_decryption, store_entry, store_decryption}
use Rattle.epoch.specs.Epoch.{received_proposals, unexpected_from, unexpected_shares, subset_complete, proposal_dropped, entry_after, process_decryption, call_entry, input_ciphertext, send_decryption_share, handle_contribution, handle_from, handle_contributions, process_subset, first_contributions, handles_now, finish_at, finish_from}
use Rattle.epochwords.specs.Batch.{decrypted_from, is_ready_in, is_ready}
use Rattle.subset.specs.Rule.{Contribution, contributions_from}
use Rattle.epoch.specs.Orders.{received_bits, is_unexpected, by_sender, by_proposer, handle_each}
use Rattle.epochwords.proofs.EntryStored.{accept_word, accept_same, entry_tag, store_size, store_word, store_subset}
use Rattle.steps.proofs.Logic.{anything}
use Rattle.steps.proofs.StateKept.{holding, still}
use Rattle.epoch.proofs.Walk.{Handles, handles_hold, contribution_keeps}

-- RECEIVED PROPOSALS are the ones of a word: of an ongoing epoch the proposals in HasValue or Complete with 1, after Done the accepted ones
pub received_word : (n : ℕ) (w : List ℕ) → get_or w accepted_at 0 < 2 ^ n → received_proposals n w ≡ ones (received_bits n w)
unfolding received_proposals received_bits count_bits
received_word n w h = go (is_vacant w) (is_complete w)
  where
    none : ones 0 ≡ 0
    none = ones_bits 0 0 (omega arith)

    go : (x y : Bool) → cond x 0 (cond y (count_bits n 0 (get_or w accepted_at 0)) (received_by_subset n w)) ≡ ones (cond x 0 (cond y (get_or w accepted_at 0) (proposals_in (record_length n) received_tags n w)))
    go true y = sym none
    go false true = sym (ones_bits n (get_or w accepted_at 0) h)
    go false false = sym (received_ones n w)

-- THE FAULTS 2 OF DONE. The share of a sender, in the words and in the instance that is loaded from them
module _ (n : ℕ) (w : List ℕ) (p : ℕ) where
  shares_at : (m i k : ℕ) (l : List ℕ) → k < m → get_or (shares_from n p m i w ++ l) k 0 ≡ get_or w (share_at n p (i + k)) 0
  unfolding shares_from
  shares_at zero i k l h = absurd (omega arith)
  shares_at (suc m) i zero l h = let e : i ≡ i + 0 = omega arith in ap (λ (j : ℕ). get_or w (share_at n p j) 0) e
  shares_at (suc m) i (suc k) l h = let e : (i + 1) + k ≡ i + suc k = omega arith in shares_at m (i + 1) k l (omega arith) ∙ ap (λ (j : ℕ). get_or w (share_at n p j) 0) e

  no_senders : (m i : ℕ) → ((i : ℕ) → is_unexpected n w p i ≡ false) → by_sender n w p m i ≡ []
  unfolding by_sender
  no_senders zero i f = refl
  no_senders (suc m) i f = rw (f i) (no_senders m (i + 1) f)

  all_senders : (m i : ℕ) → i + m ≤ n → is_accepted w p ≡ false → eqb (get_or w (decryption_at n p) 0) entry_ongoing ≡ true
      → unexpected_from m i (load_instance n w p) ≡ by_sender n w p m i
  unfolding unexpected_from by_sender is_unexpected load_instance
  all_senders zero i l a t = refl
  all_senders (suc m) i l a t =
      let e : get_or (shares_from n p n 0 w ++ replicate (16 - n) 0) i 0 ≡ get_or w (share_at n p (0 + i)) 0 = shares_at n 0 i _ (omega arith) in
      let z : 0 + i ≡ i = omega arith in
      let s : get_or (shares_from n p n 0 w ++ replicate (16 - n) 0) i 0 ≡ get_or w (share_at n p i) 0 = e ∙ ap (λ (j : ℕ). get_or w (share_at n p j) 0) z in
      rw (s, a, t, all_senders m (i + 1) (omega arith) a t)

  -- of one proposer
  at_done_lem : cond (is_accepted w p) [] (unexpected_shares n (load_decryption n w p)) ≡ by_sender n w p n 0
  unfolding unexpected_shares load_decryption is_unexpected
  at_done_lem = go (is_accepted w p) refl (eqb (get_or w (decryption_at n p) 0) 0) refl (eqb (get_or w (decryption_at n p) 0) 1) refl
    where
      go : (x : Bool) → is_accepted w p ≡ x → (y : Bool) → eqb (get_or w (decryption_at n p) 0) 0 ≡ y → (z : Bool) → eqb (get_or w (decryption_at n p) 0) 1 ≡ z
          → cond x [] (unexpected_shares n (cond y missing (cond z (ongoing (load_instance n w p)) (complete (get_or w (plaintext_at n p) 0))))) ≡ by_sender n w p n 0
      go true a y b z c = sym (no_senders n 0 (λ i. rw a))
      go false a true b z c = sym (no_senders n 0 (λ i. rw (a, eqb-true (get_or w (decryption_at n p) 0) 0 b)))
      go false a false b true c = all_senders n 0 (omega arith) a c
      go false a false b false c = sym (no_senders n 0 (λ i. rw (a, c)))

-- proposers whose words are the same have the same faults
module _ (n : ℕ) (w w' : List ℕ) (accepted : get_or w' accepted_at 0 ≡ get_or w accepted_at 0) where
  same_senders : (p m i : ℕ) → ((j : ℕ) → j < 8 + n → get_or w' (record_at n p j) 0 ≡ get_or w (record_at n p j) 0) → i + m ≤ n → by_sender n w' p m i ≡ by_sender n w p m i
  unfolding by_sender is_unexpected is_accepted
  same_senders p zero i f l = refl
  same_senders p (suc m) i f l = rw (accepted, f 2 (omega arith), f (8 + i) (omega arith), same_senders p m (i + 1) f (omega arith))

  same_proposers : (m p : ℕ) → ((q j : ℕ) → p ≤ q → j < 8 + n → get_or w' (record_at n q j) 0 ≡ get_or w (record_at n q j) 0) → by_proposer n w' m p ≡ by_proposer n w m p
  unfolding by_proposer
  same_proposers zero p f = refl
  same_proposers (suc m) p f = ap₂ (λ (x y : List Entry). x ++ y) (same_senders p n 0 (λ j l. f p j (omega arith) l) (omega arith)) (same_proposers m (p + 1) (λ q j l. f q j (omega arith)))

module _ (net : NetworkInfo) where
  abbrev N : ℕ
  N = net.num_nodes

  -- proposer p's end of Done touches its own record only
  pub finish_words : (p : ℕ) (w : List ℕ) (u : Tape) (i : ℕ) → ((j : ℕ) → j < 8 + N → i ≡ record_at N p j → ⊥) → get_or (finish_at net p w u).state i 0 ≡ get_or w i 0
  unfolding finish_at proposal_dropped
  finish_words p w u i f = go (is_accepted w p)
    where
      w₁ : List ℕ
      w₁ = set (set w (proposal_at N p) 0) (value_at N p) 0

      dropped : get_or w₁ i 0 ≡ get_or w i 0
      dropped = get_or-set_other (set w (proposal_at N p) 0) (value_at N p) i 0 0 (f 1 (omega arith)) ∙ get_or-set_other w (proposal_at N p) i 0 0 (f 0 (omega arith))

      go : (x : Bool) → get_or (cond x (ends {A = Unit {0}} (going tt) w₁ u) (before (unexpected_shares N (load_decryption N w p)) (ends (going tt) (store_decryption N w₁ p missing) u))).state i 0 ≡ get_or w i 0
      go true = dropped
      go false = store_word N p w₁ missing i (λ j a b c. f j b) ∙ dropped

  -- its log, and how the rest follows
  finish_step : (m p : ℕ) (w : List ℕ) (u : Tape)
      → (finish_from net (suc m) p w u).log ≡ cond (is_accepted w p) [] (unexpected_shares N (load_decryption N w p)) ++ (finish_from net m (p + 1) (finish_at net p w u).state u).log
  unfolding finish_from finish_at onward onward_as
  finish_step m p w u = go (is_accepted w p)
    where
      w₁ : List ℕ
      w₁ = proposal_dropped N w p

      go : (x : Bool)
          → (onward (cond x (ends {A = Unit {0}} (going tt) w₁ u) (before (unexpected_shares N (load_decryption N w p)) (ends (going tt) (store_decryption N w₁ p missing) u))) (λ _ w q. finish_from net m (p + 1) w q)).log
          ≡ cond x [] (unexpected_shares N (load_decryption N w p))
          ++ (finish_from net m (p + 1) (cond x (ends {A = Unit {0}} (going tt) w₁ u) (before (unexpected_shares N (load_decryption N w p)) (ends (going tt) (store_decryption N w₁ p missing) u))).state u).log
      go true = refl
      go false = rw append-nil

  finish_log : (m p : ℕ) (w : List ℕ) (u : Tape) → (finish_from net m p w u).log ≡ by_proposer N w m p
  unfolding by_proposer finish_from
  finish_log zero p w u = refl
  finish_log (suc m) p w u =
      let v = (finish_at net p w u).state in
      finish_step m p w u
      ∙ ap₂ (λ (x y : List Entry). x ++ y) (at_done_lem N w p)
      (finish_log m (p + 1) v u
      ∙ same_proposers N w v (finish_words p w u accepted_at (λ j l e. omega arith)) m (p + 1)
      (λ q j l b. finish_words p w u (record_at N q j) (λ k c e. places N q p j k b c (λ z. omega arith) e)))

  -- "At Done, shares for non-accepted proposers become fault 2, by proposer then sender."
  pub done_faults : (w : List ℕ) (u : Tape) → (finish_from net N 0 (subset_complete w) u).log ≡ by_proposer N w N 0
  unfolding subset_complete
  done_faults w u =
      finish_log N 0 (subset_complete w) u
      ∙ same_proposers N w (subset_complete w) (word accepted_at (λ e. omega arith) (λ e. omega arith)) N 0 (λ q j l b. word (record_at N q j) (λ e. omega arith) (λ e. omega arith))
    where
      word : (i : ℕ) → (i ≡ status_at → ⊥) → (i ≡ decided_at → ⊥) → get_or (set (set w status_at 2) decided_at 0) i 0 ≡ get_or w i 0
      word i a b = get_or-set_other (set w status_at 2) decided_at i 0 0 b ∙ get_or-set_other w status_at i 2 0 a

-- THE ORDER OF CONTRIBUTIONS. Handling one leaves who has arrived, and with which value
module _ (n : ℕ) where
  abbrev Listed : List ℕ → List ℕ → Type 0
  Listed w w' = (q k : ℕ) → k < 8 → (2 ≤ k → k ≡ 7) → get_or w' (record_at n q k) 0 ≡ get_or w (record_at n q k) 0

  same_contributions_from : (w w' : List ℕ) → Listed w w' → (m i : ℕ) → contributions_from n m i w' ≡ contributions_from n m i w
  unfolding contributions_from
  same_contributions_from w w' h zero i = refl
  same_contributions_from w w' h (suc m) i =
      let a : get_or w' (arrival_at n i) 0 ≡ get_or w (arrival_at n i) 0 = h i 7 (omega arith) (λ e. refl) in
      rw (a, h (get_or w (arrival_at n i) 0) 1 (omega arith) (λ e. omega arith), same_contributions_from w w' h m (i + 1))

  -- a contribution that comes joins the list at its end
  module _ (w : List ℕ) (p value c : ℕ) (counted : get_or w count_at 0 ≡ c) (room : c < n) (inside : p < n) (size : length w ≡ epoch_length n)
      (new : (j : ℕ) → j < c → get_or w (arrival_at n j) 0 ≡ p → ⊥) where
    abbrev v : List ℕ
    v = add_contribution n w p value

    joined : (m i : ℕ) → i + m ≡ c → contributions_from n (suc m) i v ≡ contributions_from n m i w ++ (record { proposer = p; value = value } ∷ [])
    unfolding contributions_from
    joined zero i e =
        let z : i ≡ c = omega arith in
        let a : get_or v (arrival_at n i) 0 ≡ p = ap (λ (j : ℕ). get_or v (arrival_at n j) 0) z ∙ add_arrival n w p value c counted room inside size in
        rw (a, add_value n w p value c counted room inside size)
    joined (suc m) i at =
        let a : get_or v (arrival_at n i) 0 ≡ get_or w (arrival_at n i) 0 =
        add_word n w p value c counted room (arrival_at n i) (apart n i c 7 7 (omega arith) (omega arith) (λ e. omega arith))
        (differ n i p 7 1 (omega arith) (omega arith) (λ e. omega arith)) (λ e. omega arith) in
        let q = get_or w (arrival_at n i) 0 in
        let b : get_or v (value_at n q) 0 ≡ get_or w (value_at n q) 0 =
        add_word n w p value c counted room (value_at n q) (differ n q c 1 7 (omega arith) (omega arith) (λ e. omega arith))
        (apart n q p 1 1 (omega arith) (omega arith) (new i (omega arith))) (λ e. omega arith) in
        rw (a, b) (ap (λ (l : List Contribution). record { proposer = get_or w (arrival_at n i) 0; value = get_or w (value_at n (get_or w (arrival_at n i) 0)) 0 } ∷ l) (joined m (i + 1) (omega arith)))

    pub arrives_last : contributions_from n (c + 1) 0 (add_contribution n w p value) ≡ contributions_from n c 0 w ++ (record { proposer = p; value = value } ∷ [])
    arrives_last = let e : c + 1 ≡ suc c = omega arith in rw e (joined c 0 (omega arith))

module _ (net : NetworkInfo) (strategy : SubsetHandlingStrategy) (encrypted : Bool) where
  handle_listed : (p value : ℕ) (w : List ℕ) (u : Tape) → Listed net.num_nodes w (handle_contribution net strategy encrypted p value w u).state
  handle_listed p value w u = contribution_keeps _ _ _ net rules strategy encrypted p value tt tt 0 w u (λ q k l f. refl)
    where
      n : ℕ
      n = net.num_nodes

      rules : Handles anything still (holding (Listed n w) (λ i. Unit {0})) n
      rules =
          handles_hold n (Listed n w) (λ p d v h q k l f. store_subset n p v d q k l f ∙ h q k l f)
          (λ p v h q k l f. accept_word v p (record_at n q k) (λ e. omega arith) ∙ h q k l f)

  in_order : (m i : ℕ) (w : List ℕ) (u : Tape) → handle_from net strategy encrypted m i w u ≡ handle_each net strategy encrypted (contributions_from net.num_nodes m i w) w u
  unfolding handle_from handle_each contributions_from
  in_order zero i w u = refl
  in_order (suc m) i w u =
      let p = get_or w (arrival_at net.num_nodes i) 0 in
      let value = get_or w (value_at net.num_nodes p) 0 in
      let r = handle_contribution net strategy encrypted p value w u in
      onward_at r _ _ (λ a e.
      in_order m (i + 1) r.state r.tape
      ∙ ap (λ (l : List Contribution). handle_each net strategy encrypted l r.state r.tape)
      (same_contributions_from net.num_nodes w r.state (handle_listed p value w u) m (i + 1)))

  -- contributions are handled in the order of their arrival, as they were when the first one was
  pub contributions_in_order : (w : List ℕ) (u : Tape)
      → handle_contributions net strategy encrypted w u ≡ inside (first_contributions net.num_nodes 0) (handle_each net strategy encrypted (contributions_from net.num_nodes (get_or w count_at 0) 0 w) w u)
  unfolding handle_contributions
  contributions_in_order w u = ap (inside (first_contributions net.num_nodes 0)) (in_order (get_or w count_at 0) 0 w u)

-- "AllAtEnd keeps contributions in arrival order until Done."
module _ (net : NetworkInfo) (encrypted : Bool) (w : List ℕ) (u : Tape) where
  pub all_wait : process_subset net AllAtEnd encrypted false w u ≡ ends (going tt) w u
  unfolding process_subset handles_now onward onward_as
  all_wait = refl

  pub all_at_done : process_subset net AllAtEnd encrypted true w u
      ≡ onward (inside (first_contributions net.num_nodes 0) (handle_each net AllAtEnd encrypted (contributions_from net.num_nodes (get_or w count_at 0) 0 w) w u))
      (λ _ w q. finish_from net net.num_nodes 0 (subset_complete w) q)
  unfolding process_subset handles_now
  all_at_done = ap (λ (r : Run (List ℕ) (Unit {0})). onward r (λ _ w q. finish_from net net.num_nodes 0 (subset_complete w) q)) (contributions_in_order net AllAtEnd encrypted w u)

-- A CIPHERTEXT THAT DOES NOT READ OR VERIFY "gives fault 3 or 4; the proposer counts as accepted and its epoch waits."
module _ (net : NetworkInfo) (strategy : SubsetHandlingStrategy) (p value i : ℕ) (w : List ℕ) where
  abbrev n : ℕ
  n = net.num_nodes

  -- it does not read: an answer 8 about p with a = 0
  pub unreadable_is : (r : Rec) (rs : List Rec) → r.kind ≡ 8 → r.b ≡ p → r.a ≡ 0
      → handle_contribution net strategy true p value w (tape i (r ∷ rs)) ≡ record { state = accept w p; verdict = going tt; tape = tape r.next rs; log = fault 3 p 0 ∷ [] }
  unfolding handle_contribution send_decryption_share ask_about ask_for heard heard_as onward onward_as
  unreadable_is r rs k b a = rw (eq-eqb r.kind 8 k, eq-eqb r.b p b, eq-eqb r.a 0 a)

  -- it reads but does not verify: an answer 8 with a other than 0, and then an answer 9 about p with a = 0. No ciphertext was set before
  pub unverified_is : (r s : Rec) (rs : List Rec) → r.kind ≡ 8 → r.b ≡ p → (r.a ≡ 0 → ⊥) → s.kind ≡ 9 → s.b ≡ p → s.a ≡ 0
      → asks (get_or w (decryption_at n p) 0) ≡ true → (load_entry n w p).ciphertext ≡ 0
      → handle_contribution net strategy true p value w (tape i (r ∷ s ∷ rs))
      ≡ record { state = accept (store_decryption n w p (ongoing (load_entry n w p))) p; verdict = going tt; tape = tape s.next rs; log = fault 4 p 0 ∷ [] }
  unfolding handle_contribution send_decryption_share call_entry process_decryption input_ciphertext set_ciphertext entry_after ask_about ask_for heard heard_as onward onward_as
  unverified_is r s rs k b a k' b' a' t c =
      rw (eq-eqb r.kind 8 k, eq-eqb r.b p b, ne_eqb r.a 0 a, t, c, eq-eqb s.kind 9 k', eq-eqb s.b p b', eq-eqb s.a 0 a')

-- an epoch waits as long as an accepted proposer's entry is not settled
module _ (n p : ℕ) (w : List ℕ) (inside : p < n) (accepted : is_accepted w p ≡ true) (waiting : is_settled (get_or w (decryption_at n p) 0) ≡ false) where
  not_all : (m q : ℕ) → q ≤ p → p < q + m → decrypted_from (record_length n) m q w ≡ false
  unfolding decrypted_from
  not_all zero q l h = absurd (omega arith)
  not_all (suc m) q l h = go (eq-or-lt_of_le l) (λ u. not_all m (q + 1) (omega arith) (omega arith))
    where
      go : (q ≡ p) ⊎ (q < p) → (q < p → decrypted_from (record_length n) m (q + 1) w ≡ false)
          → cond (is_accepted w q) (is_settled (decryption_in (record_length n) w q)) true && decrypted_from (record_length n) m (q + 1) w ≡ false
      go (inl e) f = rw (e, accepted, waiting)
      go (inr u) f = rw (f u) (and-false (cond (is_accepted w q) (is_settled (decryption_in (record_length n) w q)) true))

  pub epoch_waits : is_ready n w ≡ false
  unfolding is_ready_in
  epoch_waits = rw (not_all n 0 (omega arith) (omega arith)) (and-false (is_complete w))

-- so it does after either fault: without a plaintext that was there before, and with the entry that waits for a ciphertext
module _ (n p : ℕ) (w : List ℕ) (inside : p < n) (size : length w ≡ epoch_length n) where
  pub unreadable_waits : is_settled (get_or w (decryption_at n p) 0) ≡ false → is_ready n (accept w p) ≡ false
  unreadable_waits h =
      epoch_waits n p (accept w p) inside (accept_same w p (omega (arith, size)))
      (rw (accept_word w p (decryption_at n p) (λ e. omega arith)) h)

  pub unverified_waits : (td : ThresholdDecrypt) → is_ready n (accept (store_decryption n w p (ongoing td)) p) ≡ false
  unfolding store_decryption is_settled
  unverified_waits td =
      let v = store_entry n w p entry_ongoing 0 td in
      let long : length v ≡ length w = store_size n p w (ongoing td) in
      epoch_waits n p (accept v p) inside (accept_same v p (omega (arith, size)))
      (rw (accept_word v p (decryption_at n p) (λ e. omega arith), entry_tag n p w entry_ongoing 0 td inside size))
