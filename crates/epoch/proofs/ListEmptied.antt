-- UNDER INCREMENTAL NO CONTRIBUTION IS KEPT BETWEEN CALLS: where none was kept before a call of an epoch, none is afterwards, whatever the
-- verdict. Assumes nothing.
use Rattle.std.proofs.Common.{ℕ, ◌-◌, ◌≤◌, ◌≡◌, refl, ap, ◌∙◌, List, Bool, true, false, arith, replicate, length, get_or, set, get_or-set_same, get_or-set_other, eqb, ltb, ltb-true, ltb-false}
use Rattle.std.proofs.Math.ListN.{get_or-eq_default}
use Rattle.std.proofs.Math.Seq.{set_out}
use Rattle.std.proofs.lemmas.Bool.{cond_both}
use Rattle.network.specs.declared.network_info.NetworkInfo.{NetworkInfo}
use Rattle.steps.specs.Answers.{Tape, ask}
use Rattle.steps.specs.Runs.{Verdict, going, refused, failed, Run, onward_as, onward, inside}
use Rattle.steps.proofs.Ranges.{zeros_at}
use Rattle.subset.specs.Words.{proposal_at, value_at, epoch_length, status_ongoing, new_epoch, status_at, decided_at, count_at, count_of, drop_from}
use Rattle.subset.proofs.Ranges.{limit_at, EpochOk}
use Rattle.epochwords.specs.declared.SubsetHandlingStrategy.{SubsetHandlingStrategy}
use Rattle.epochwords.specs.declared.SubsetHandlingStrategy.TheVariants.{Incremental, AllAtEnd}
use Rattle.epoch.specs.declared.MessageContent.{MessageContent}
use Rattle.epoch.specs.declared.MessageContent.TheVariants.{Subset, DecryptionShare}
use Rattle.epochwords.specs.Words.{is_complete, DecryptionState, store_decryption, most_kept}
use Rattle.epoch.specs.Epoch.{first_contributions, handles_now, subset_complete, proposal_dropped, finish_from, handle_contributions, process_subset, handed_up, call_subset, propose, handle_message_content}
use Rattle.epochwords.proofs.EntryStored.{store_low}
use Rattle.steps.proofs.StateKept.{keeps_heard, keeps_onward, still}
use Rattle.steps.proofs.Logic.{permits_anything}
use Rattle.decryption.proofs.Walk.{any_combines}
use Rattle.epoch.proofs.Walk.{entries_hold, finishes_hold, share_message_keeps, finish_keeps}

-- nothing is kept
abbrev pub NoneKept : List ℕ → Type 0
NoneKept w = count_of w ≡ 0

-- an epoch that has just been built
pub new_epoch_none : (n : ℕ) → NoneKept (new_epoch n)
unfolding new_epoch
new_epoch_none n = get_or-set_other (replicate (epoch_length n) 0) status_at count_at status_ongoing 0 (λ e. omega arith) ∙ zeros_at (epoch_length n) count_at

-- after a run, whatever its verdict
abbrev NoneAfter : Run (List ℕ) (Unit {0}) → Type 0
NoneAfter r = NoneKept r.state

-- the list cut to nothing
none_first : (n : ℕ) (w : List ℕ) → NoneKept (first_contributions n 0 w)
unfolding first_contributions
none_first n w = go (drop_from n (count_of w - 0) 0 w) (ltb count_at (length (drop_from n (count_of w - 0) 0 w))) refl
  where
    go : (v : List ℕ) (x : Bool) → ltb count_at (length v) ≡ x → get_or (set v count_at 0) count_at 0 ≡ 0
    go v true e = get_or-set_same v count_at 0 0 (ltb-true _ _ e)
    go v false e = ap (λ l. get_or l count_at 0) (set_out v count_at 0 (ltb-false _ _ e)) ∙ get_or-eq_default v 0 {n = count_at} (ltb-false _ _ e)

done_none : (w : List ℕ) → NoneKept w → NoneKept (subset_complete w)
unfolding subset_complete
done_none w h = get_or-set_other (set w status_at 2) decided_at count_at 0 0 (λ e. omega arith) ∙ get_or-set_other w status_at count_at 2 0 (λ e. omega arith) ∙ h

-- an entry's words are others, and so are a proposal's
none_stored : (n p : ℕ) (d : DecryptionState) (w : List ℕ) → NoneKept w → NoneKept (store_decryption n w p d)
none_stored n p d w h = store_low n p w d count_at (omega arith) ∙ h

none_dropped : (n p : ℕ) (w : List ℕ) → NoneKept w → NoneKept (proposal_dropped n w p)
unfolding proposal_dropped
none_dropped n p w h =
    get_or-set_other (set w (proposal_at n p) 0) (value_at n p) count_at 0 0 (λ e. omega arith) ∙ get_or-set_other w (proposal_at n p) count_at 0 0 (λ e. omega arith) ∙ h

module _ (net : NetworkInfo) where
  abbrev n : ℕ
  n = net.num_nodes

  finish_none : (w : List ℕ) (u : Tape) → NoneKept w → NoneKept (finish_from net n 0 w u).state
  finish_none w u h = finish_keeps _ still _ net (finishes_hold n NoneKept (none_stored n) (none_dropped n)) n 0 w u h

  module _ (encrypted : Bool) where
    -- the contributions that have come are handled, and the list is empty, even after a failure
    subset_none : (done : Bool) (w : List ℕ) (u : Tape) → NoneKept (process_subset net Incremental encrypted done w u).state
    unfolding process_subset handles_now handle_contributions
    subset_none done w u =
        keeps_onward NoneKept (handle_contributions net Incremental encrypted w u) _ (none_first n _) (λ _ w q k.
        cond_both done _ _ NoneAfter (λ _. finish_none _ q (done_none w k)) (λ _. k))

    call_none : (call : List ℕ → Tape → Run (List ℕ) Bool) (w : List ℕ) (u : Tape) → NoneKept w → NoneKept (call_subset net Incremental encrypted call w u).state
    unfolding call_subset handed_up onward onward_as
    call_none call w u h = cond_both (is_complete w) _ _ NoneAfter (λ _. h) (λ _. go (call w u).verdict refl)
      where
        cut : (r : Run (List ℕ) Bool) → NoneKept (first_contributions n (count_of w) r.state)
        cut r = rw h (none_first n r.state)

        go : (v : Verdict Bool) → (call w u).verdict ≡ v → NoneKept (onward (handed_up net Incremental encrypted (count_of w) v (call w u)) (process_subset net Incremental encrypted)).state
        go (going done) e = rw e (subset_none done _ _)
        go refused e = keeps_onward NoneKept (inside (first_contributions n (count_of w)) (call w u)) _ (cut (call w u)) (λ d w q _. subset_none d w q)
        go (failed error) e = keeps_onward NoneKept (inside (first_contributions n (count_of w)) (call w u)) _ (cut (call w u)) (λ d w q _. subset_none d w q)

    -- THE EPOCH'S TWO CALLS
    pub propose_none : (w : List ℕ) (u : Tape) → NoneKept w → NoneKept (propose net Incremental encrypted w u).state
    unfolding propose
    propose_none w u h = keeps_heard NoneKept (ask u 2) w _ (λ a b z. cond_both (eqb a 0) _ _ NoneAfter (λ _. h) (λ _. call_none _ w z h)) h

    pub content_none : (sender p : ℕ) (content : MessageContent) (w : List ℕ) (u : Tape) → NoneKept w → NoneKept (handle_message_content net Incremental encrypted sender p content w u).state
    unfolding handle_message_content
    content_none sender p (Subset content) w u h = call_none _ w u h
    content_none sender p (DecryptionShare share) w u h =
        share_message_keeps _ _ _ net (entries_hold n NoneKept (none_stored n)) (any_combines still (λ s t h. tt) permits_anything tt) (λ a. tt) sender p share tt 0 w u h

-- SO THE RANGE RULE'S WORD 3 IS KEPT: a call that ends with its words in range keeps no more contributions than the strategy allows
module _ (net : NetworkInfo) (encrypted : Bool) (w : List ℕ) (u : Tape) where
  pub propose_keeps : (strategy : SubsetHandlingStrategy) → count_of w ≤ most_kept strategy net.num_nodes → EpochOk net.num_nodes (propose net strategy encrypted w u).state
      → count_of (propose net strategy encrypted w u).state ≤ most_kept strategy net.num_nodes
  unfolding most_kept limit_at
  propose_keeps Incremental h k = omega (arith, propose_none net encrypted w u (omega arith))
  propose_keeps AllAtEnd h k = omega (arith, k.below count_at)

  pub content_keeps : (strategy : SubsetHandlingStrategy) (sender p : ℕ) (content : MessageContent) → count_of w ≤ most_kept strategy net.num_nodes
      → EpochOk net.num_nodes (handle_message_content net strategy encrypted sender p content w u).state
      → count_of (handle_message_content net strategy encrypted sender p content w u).state ≤ most_kept strategy net.num_nodes
  unfolding most_kept limit_at
  content_keeps Incremental sender p content h k = omega (arith, content_none net encrypted sender p content w u (omega arith))
  content_keeps AllAtEnd sender p content h k = omega (arith, k.below count_at)
