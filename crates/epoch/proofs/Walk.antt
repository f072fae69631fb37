-- ONE WALK of an epoch, for every property of runs that has the rules. Assumes nothing.
use Rattle.std.proofs.Common.{ℕ, zero, suc, ◌+◌, ◌*◌, ◌≤◌, ◌≡◌, refl, List, Bool, ◌&&◌, not, Option, None, arith, get_or, eqb}
use Rattle.network.specs.declared.network_info.NetworkInfo.{NetworkInfo}
use Rattle.steps.specs.Answers.{Tape}
use Rattle.steps.specs.Steps.{fault}
use Rattle.steps.specs.Runs.{Verdict, going, refused, failed, Run, ends, before, inside}
use Rattle.steps.proofs.Logic.{Hand, hand, nothing, Terms, anything, Permits, permits_anything, Logic, here, there, test, perhaps, fail, move, put, hear, next, tell, Stateless, free, elsewhere}
use Rattle.steps.proofs.StateKept.{holding, still}
use Rattle.decryption.specs.declared.ThresholdDecrypt.{ThresholdDecrypt}
use Rattle.decryption.specs.Decrypt.{is_sender, with_ciphertext}
use Rattle.decryption.proofs.Walk.{Does, plaintext, Combines, any_combines, by_valid, set_keeps, start_keeps, handle_keeps as share_keeps}
use Rattle.proposal.specs.declared.ProposalState.{ProposalState}
use Rattle.subset.specs.Words.{count_of, value_at, contributor}
use Rattle.subset.proofs.Walk.{Rules as Subsets, any_rules as any_subsets, propose_keeps as propose_subset_keeps, handle_keeps as handle_subset_keeps}
use Rattle.epochwords.specs.Words.{is_complete, is_accepted, accept, DecryptionState, missing, ongoing, complete, asks, decryption_at, load_entry, store_decryption}
use Rattle.epochwords.specs.declared.SubsetHandlingStrategy.{SubsetHandlingStrategy}
use Rattle.epoch.specs.declared.MessageContent.{MessageContent}
use Rattle.epoch.specs.declared.MessageContent.TheVariants.{Subset, DecryptionShare}
use Rattle.epoch.specs.Epoch.{first_contributions, entry_after, unexpected_from, unexpected_shares, handles_now, subset_complete, proposal_dropped, process_decryption, call_entry, input_ciphertext, send_decryption_share, handle_decryption_share, finish_at, finish_from, handle_contribution, handle_from, handle_contributions, process_subset, handed_up, call_subset, propose, handle_message_content}

-- A CIPHERTEXT that was contributed
pub record Inputs (T : Terms) (D : Logic T ThresholdDecrypt) : Type 0 where
  pub combines : Combines T D
  pub number : T.Number 25
  pub invalid : (p : ℕ) → T.Writes (fault 4 p 0)
  pub ciphertext : (td : ThresholdDecrypt) (c : ℕ) → T.Handle c → D.Step None td None (with_ciphertext td c)

module _ (T : Terms) (D : Logic T ThresholdDecrypt) (net : NetworkInfo) (R : Inputs T D) where
  pub input_keeps : (p value : ℕ) → T.Handle value → (n : ℕ) (td : ThresholdDecrypt) (t : Tape) → D.Good _ plaintext (hand None n) td t (input_ciphertext net p value td t)
  unfolding input_ciphertext
  input_keeps p value u n td t =
      next D (set_keeps T D p value (R.combines.checks.reads 9 refl) R.number (λ td. R.ciphertext td value u) n td t) (λ verified td q.
      by_valid T D n verified (start_keeps T D net p R.combines n td q)
      (put D n (R.invalid p) (tell D refl (omega arith))))

-- THE WORDS of an epoch of N proposers
module _ (T : Terms) (D : Logic T ThresholdDecrypt) (L : Logic T (List ℕ)) (N : ℕ) where
  -- a run of an entry's instance leaves an entry, and a plaintext is in it
  pub record Entries : Type 0 where
    pub entered : (p n : ℕ) (w : List ℕ) (t : Tape) (r : Run ThresholdDecrypt (Option ℕ)) → D.Good _ plaintext (hand None n) (load_entry N w p) t r
        → L.Good _ plaintext (hand None n) w t (record { state = store_decryption N w p (entry_after r.verdict r.state); verdict = r.verdict; tape = r.tape; log = r.log })
    pub dropped : (w : List ℕ) (o : Option ℕ) → L.Step o w None w

  -- contributions are handled; what is known of one of the list
  pub record Handles : Type 0 where
    pub entries : Entries
    pub inputs : Inputs T D
    pub reads : T.Kind 8
    pub unreadable : (p : ℕ) → T.Writes (fault 3 p 0)
    pub listed : (i n : ℕ) (w : List ℕ) (t : Tape) (r : Run (List ℕ) (Unit {0}))
        → (T.Index (contributor N w i) → T.Handle (get_or w (value_at N (contributor N w i)) 0) → L.Good _ nothing (hand None n) w t r) → L.Good _ nothing (hand None n) w t r
    pub opened : (p value : ℕ) (w : List ℕ) → T.Handle value → L.Step None w None (store_decryption N w p (complete value))
    pub accepted : (p : ℕ) (w : List ℕ) → T.Index p → L.Step None w None (accept w p)

  -- the proposers' ends of Done
  pub record Finishes : Type 0 where
    pub late : (a : ℕ) → T.Writes (fault 2 a 0)
    pub finished : (p : ℕ) (w : List ℕ) → L.Step None w None (proposal_dropped N w p)
    pub unexpected : (p : ℕ) (w : List ℕ) → L.Step None w None (store_decryption N (proposal_dropped N w p) p missing)

  -- all of it. The list is emptied, and cut to what it was where the subset's call did not go on
  pub record Rules (P : Logic T ProposalState) : Type 0 where
    pub subset : Subsets T P L N
    pub handles : Handles
    pub finishes : Finishes
    pub emptied : (n : ℕ) (w : List ℕ) (t : Tape) (r : Run (List ℕ) (Unit {0})) → L.Good _ nothing (hand None n) w t r → L.Good _ nothing (hand None n) w t (inside (first_contributions N 0) r)
    pub cut : (n : ℕ) (w : List ℕ) (t : Tape) (r : Run (List ℕ) Bool) → L.Good _ nothing (hand None n) w t r → L.Good _ nothing (hand None n) w t (inside (first_contributions N (count_of w)) r)
    pub done : (w : List ℕ) → L.Step None w None (subset_complete w)

-- of a property that says nothing of the state
pub any_rules : {T : Terms} {L : (S : Type 0) → Logic T S} → Stateless T L → Permits T → T.Number 24 → T.Number 25 → (n : ℕ) → Rules T (L ThresholdDecrypt) (L (List ℕ)) n (L ProposalState)
any_rules {L = L} Z P shared invalid n = record {
  subset = any_subsets Z P n;
  handles = record {
    entries = record { entered = λ p m w t r g. elsewhere Z g; dropped = λ w o. free Z };
    inputs = record { combines = any_combines (L ThresholdDecrypt) (λ s t. free Z) P shared; number = invalid; invalid = λ p. P.faults 4 p refl; ciphertext = λ td c u. free Z };
    reads = P.reads 8;
    unreadable = λ p. P.faults 3 p refl;
    listed = λ i m w t r g. g (P.index _) (P.handle _);
    opened = λ p value w u. free Z;
    accepted = λ p w i. free Z;
  };
  finishes = record { late = λ a. P.faults 2 a refl; finished = λ p w. free Z; unexpected = λ p w. free Z };
  emptied = λ m w t r g. elsewhere Z g;
  cut = λ m w t r g. elsewhere Z g;
  done = λ w. free Z;
}

-- what an epoch may write at Done
abbrev pub at_done : NetworkInfo → ℕ
at_done net = net.num_nodes * net.num_nodes

module _ (T : Terms) (D : Logic T ThresholdDecrypt) (L : Logic T (List ℕ)) (net : NetworkInfo) where
  abbrev N : ℕ
  N = net.num_nodes

  -- DECRYPTION
  module _ (R : Entries T D L N) where
    process_keeps : (p n : ℕ) (w : List ℕ) (t : Tape) (r : Run ThresholdDecrypt (Option ℕ)) → D.Good _ plaintext (hand None n) (load_entry N w p) t r
        → L.Good _ nothing (hand None n) w t (process_decryption net p w r)
    unfolding process_decryption
    process_keeps p n w t r h = next L (R.entered p n w t r h) (λ o w q. move L (R.dropped w o) (here L tt w q))

    pub entry_keeps : (p : ℕ) (call : Does) (n : ℕ) (w : List ℕ) (t : Tape) → D.Good _ plaintext (hand None n) (load_entry N w p) t (call (load_entry N w p) t)
        → L.Good _ nothing (hand None n) w t (call_entry net p call w t)
    unfolding call_entry
    entry_keeps p call n w t h = test L (asks (get_or w (decryption_at N p) 0)) (λ _. process_keeps p n w t _ h) (λ _. here L tt w t)

    -- a share: fault 2 or 6 follows no answer
    pub share_message_keeps : Combines T D → ((a : ℕ) → T.Writes (fault 2 a 0)) → (sender p share : ℕ) → T.Handle share → (n : ℕ) (w : List ℕ) (t : Tape)
        → L.Good _ nothing (hand None (n + 1)) w t (handle_decryption_share net sender p share w t)
    unfolding handle_decryption_share
    share_message_keeps combines late sender p share u n w t =
        test L (is_complete w && not (is_accepted w p)) (λ _. put L n (late sender) (here L tt w t))
        (λ _. entry_keeps p _ (n + 1) w t (share_keeps T D net p combines sender share u n _ t))

  -- A CONTRIBUTION
  module _ (R : Handles T D L N) where
    send_keeps : (p value : ℕ) → T.Handle value → (n : ℕ) (w : List ℕ) (t : Tape) → L.Good _ nothing (hand None n) w t (send_decryption_share net p value w t)
    unfolding send_decryption_share
    send_keeps p value u n w t =
        hear L n 8 p R.reads (λ a b q.
        test L (eqb a 0) (λ _. put L n (R.unreadable p) (here L tt w q))
        (λ _. entry_keeps R.entries p _ (n + 1) w q (input_keeps T D net R.inputs p value u (n + 1) _ q)))

    module _ (strategy : SubsetHandlingStrategy) (encrypted : Bool) where
      pub contribution_keeps : (p value : ℕ) → T.Index p → T.Handle value → (n : ℕ) (w : List ℕ) (t : Tape)
          → L.Good _ nothing (hand None n) w t (handle_contribution net strategy encrypted p value w t)
      unfolding handle_contribution
      contribution_keeps p value i u n w t =
          next L {f = nothing}
          (test L encrypted (λ _. send_keeps p value u n w t) (λ _. there L tt w _ t (R.opened p value w u)))
          (λ _ w q. there L tt w _ q (R.accepted p w i))

      pub handle_from_keeps : (m i n : ℕ) (w : List ℕ) (t : Tape) → L.Good _ nothing (hand None n) w t (handle_from net strategy encrypted m i w t)
      unfolding handle_from
      handle_from_keeps zero i n w t = here L tt w t
      handle_from_keeps (suc m) i n w t =
          R.listed i n w t _ (λ e u. next L (contribution_keeps _ _ e u n w t) (λ _ w q. handle_from_keeps m (i + 1) 0 w q))

  -- DONE: a fault 2 for each sender at most
  module _ (R : Finishes T D L N) where
    unexpected_keeps : {A : Type 0} (f : A → Hand) (k : ℕ) (w : List ℕ) (t : Tape) (r : Run (List ℕ) A) → ((n : ℕ) → k ≤ n → L.Good A f (hand None n) w t r)
        → (m i : ℕ) (td : ThresholdDecrypt) (n : ℕ) → k + m ≤ n → L.Good A f (hand None n) w t (before (unexpected_from m i td) r)
    unfolding unexpected_from
    unexpected_keeps f k w t r h zero i td n l = h n (omega arith)
    unexpected_keeps f k w t r h (suc m) i td n l = perhaps L (is_sender td i) n _ _ w t r (omega arith) (R.late i) (λ n e. unexpected_keeps f k w t r h m (i + 1) td n (omega arith))

    shares_keep : {A : Type 0} (f : A → Hand) (k : ℕ) (w : List ℕ) (t : Tape) (r : Run (List ℕ) A) → ((n : ℕ) → k ≤ n → L.Good A f (hand None n) w t r)
        → (m : ℕ) (d : DecryptionState) (n : ℕ) → k + m ≤ n → L.Good A f (hand None n) w t (before (unexpected_shares m d) r)
    unfolding unexpected_shares
    shares_keep f k w t r h m missing n l = h n (omega arith)
    shares_keep f k w t r h m (ongoing td) n l = unexpected_keeps f k w t r h m 0 td n l
    shares_keep f k w t r h m (complete plaintext) n l = h n (omega arith)

    -- k entries are left over
    finish_at_keeps : (p k n : ℕ) → k + N ≤ n → (w : List ℕ) (t : Tape) → L.Good (Unit {0}) (λ _. hand None k) (hand None n) w t (finish_at net p w t)
    unfolding finish_at
    finish_at_keeps p k n l w t =
        test L (is_accepted w p) (λ _. move L (R.finished p w) (ends_with n _ (omega arith)))
        (λ _. shares_keep (λ _. hand None k) k w t _ (λ m e. move L (R.unexpected p w) (ends_with m _ e)) N _ n l)
      where
        ends_with : (m : ℕ) (u : List ℕ) → k ≤ m → L.Good (Unit {0}) (λ _. hand None k) (hand None m) u t (ends (going tt) u t)
        ends_with m u e = tell L refl e

    pub finish_keeps : (m p : ℕ) (w : List ℕ) (t : Tape) → L.Good _ nothing (hand None (m * N)) w t (finish_from net m p w t)
    unfolding finish_from
    finish_keeps zero p w t = here L tt w t
    finish_keeps (suc m) p w t =
        next L {f = λ _. hand None (m * N)} (finish_at_keeps p (m * N) (suc m * N) (omega arith) w t) (λ _ w q. finish_keeps m (p + 1) w q)

  -- THE SUBSET IN ITS EPOCH
  module _ (P : Logic T ProposalState) (R : Rules T D L N P) (strategy : SubsetHandlingStrategy) (encrypted : Bool) where
    abbrev most : ℕ
    most = at_done net

    contributions_keep : (n : ℕ) (w : List ℕ) (t : Tape) → L.Good _ nothing (hand None n) w t (handle_contributions net strategy encrypted w t)
    unfolding handle_contributions
    contributions_keep n w t = R.emptied n w t _ (handle_from_keeps R.handles strategy encrypted (count_of w) 0 n w t)

    -- a subset that has output: what is allowed at Done is left over by what comes before it
    subset_keeps : (finishes : Bool) (w : List ℕ) (t : Tape) → L.Good _ nothing (hand None most) w t (process_subset net strategy encrypted finishes w t)
    unfolding process_subset
    subset_keeps finishes w t =
        next L {f = λ _. hand None most}
        (L.spares _ 0 most most w t _ (omega arith) (test L (handles_now strategy finishes) (λ _. contributions_keep 0 w t) (λ _. here L tt w t)))
        (λ _ w q. test L finishes (λ _. move L (R.done w) (finish_keeps R.finishes N 0 _ q)) (λ _. here L tt w q))

    handed_keeps : (v : Verdict Bool) (n : ℕ) (w : List ℕ) (t : Tape) (r : Run (List ℕ) Bool) → L.Good _ nothing (hand None n) w t r → L.Good _ nothing (hand None n) w t (handed_up net strategy encrypted (count_of w) v r)
    unfolding handed_up
    handed_keeps (going finishes) n w t r h = h
    handed_keeps refused n w t r h = R.cut n w t r h
    handed_keeps (failed error) n w t r h = R.cut n w t r h

    call_keeps : (call : List ℕ → Tape → Run (List ℕ) Bool) (n : ℕ) → most ≤ n → (w : List ℕ) (t : Tape) → L.Good _ nothing (hand None 0) w t (call w t)
        → L.Good _ nothing (hand None n) w t (call_subset net strategy encrypted call w t)
    unfolding call_subset
    call_keeps call n l w t h =
        test L (is_complete w) (λ _. here L tt w t)
        (λ _. next L {f = λ _. hand None most} (L.spares _ 0 most n w t _ (omega arith) (handed_keeps (call w t).verdict 0 w t _ h)) (λ finishes w q. subset_keeps finishes w q))

    -- THE EPOCH'S TWO CALLS
    pub propose_keeps : T.Kind 2 → T.Number 21 → T.Number 22 → (w : List ℕ) (t : Tape) → L.Good _ nothing (hand None (most + 1)) w t (propose net strategy encrypted w t)
    unfolding propose
    propose_keeps kind bincode input w t =
        L.asks _ _ None (most + 1) 2 w t _ kind (λ a b q _.
        test L (eqb a 0) (λ _. fail L bincode)
        (λ _. call_keeps _ _ (omega arith) w q (propose_subset_keeps T P L net R.subset 22 input 0 w q)))

    -- a message about proposer p; a share is a handle
    pub content_keeps : T.Number 23 → (sender p : ℕ) (content : MessageContent) → T.Index p → ((share : ℕ) → content ≡ DecryptionShare share → T.Handle share) → (w : List ℕ) (t : Tape)
        → L.Good _ nothing (hand None (most + 1)) w t (handle_message_content net strategy encrypted sender p content w t)
    unfolding handle_message_content
    content_keeps number sender p (Subset content) i u w t = call_keeps _ _ (omega arith) w t (handle_subset_keeps T P L net R.subset 23 number content p i 0 w t)
    content_keeps number sender p (DecryptionShare share) i u w t = share_message_keeps R.handles.entries R.handles.inputs.combines R.finishes.late sender p share (u share refl) most w t

-- A PROPERTY OF THE WORDS ALONE, which every write of an entry keeps
module _ (n : ℕ) (Q : List ℕ → Type 0) (store : (p : ℕ) (d : DecryptionState) (w : List ℕ) → Q w → Q (store_decryption n w p d)) where
  abbrev pub holds : Logic anything (List ℕ)
  holds = holding Q (λ i. Unit {0})

  pub entries_hold : Entries anything still holds n
  entries_hold = record { entered = λ p m w t r g h. store p (entry_after r.verdict r.state) w h; dropped = λ w o h. h }

  pub handles_hold : ((p : ℕ) (w : List ℕ) → Q w → Q (accept w p)) → Handles anything still holds n
  handles_hold accepts = record {
    entries = entries_hold;
    inputs = record { combines = any_combines still (λ s u h. tt) permits_anything tt; number = tt; invalid = λ p. tt; ciphertext = λ td c u h. tt };
    reads = tt;
    unreadable = λ p. tt;
    listed = λ i m w t r g h. g tt tt h;
    opened = λ p value w u h. store p (complete value) w h;
    accepted = λ p w i h. accepts p w h;
  }

  pub finishes_hold : ((p : ℕ) (w : List ℕ) → Q w → Q (proposal_dropped n w p)) → Finishes anything still holds n
  finishes_hold drops = record { late = λ a. tt; finished = λ p w h. drops p w h; unexpected = λ p w h. store p missing _ (drops p w h) }
