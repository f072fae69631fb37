-- The subset over the words of one epoch, after subset.rs. A run goes on with true where the subset is `Done`.
use Rattle.std.specs.Prelude.{ℕ, zero, suc, ◌+◌, List, Bool, true, false, cond, ◌&&◌, ◌||◌, set, eqb, ltb}
use Rattle.std.specs.Prelude.{Option, None, Some}
use Rattle.network.specs.declared.network_info.NetworkInfo.{NetworkInfo}
use Rattle.steps.specs.declared.reader.Content.{Content}
use Rattle.steps.specs.declared.reader.Content.TheVariants.{Broadcast, Agreement}
use Rattle.steps.specs.Numbers.{broadcast_proposal, broadcast_message, agreement_message, propose_false}
use Rattle.network.specs.Network.{is_validator, num_correct}
use Rattle.steps.specs.Answers.{Tape}
use Rattle.steps.specs.Runs.{going, Run, ends, onward, inside}
use Rattle.proposal.specs.declared.ProposalState.{ProposalState}
use Rattle.subset.specs.Words.{record_length, decided_at, is_decided, proposal_in, load_proposal, store_proposal, add_contribution}
use Rattle.proposal.specs.Proposal.{received, accepted, complete, asks_agreement, asks_broadcast, answer_agreement, answer_broadcast}

-- In words whose records have `size` words each
module _ (size : ℕ) where
  -- how many of the next m proposals, from proposer p on, are so
  unfoldable pub count_from : (ProposalState → Bool) → ℕ → ℕ → List ℕ → ℕ
  count_from is zero p w = 0
  count_from is (suc m) p w = cond (is (proposal_in size w p)) 1 0 + count_from is m (p + 1) w

  -- whether the next m proposals, from proposer p on, are all complete
  unfoldable pub complete_from : ℕ → ℕ → List ℕ → Bool
  complete_from zero p w = true
  complete_from (suc m) p w = complete (proposal_in size w p) && complete_from m (p + 1) w

-- "the number of validators from which we have already received a proposal"
abbrev pub received_proposals : ℕ → List ℕ → ℕ
received_proposals n w = count_from (record_length n) received n 0 w

-- "the number of accepted proposers"
abbrev pub count_accepted : ℕ → List ℕ → ℕ
count_accepted n w = count_from (record_length n) accepted n 0 w

abbrev pub all_complete : ℕ → List ℕ → Bool
all_complete n w = complete_from (record_length n) n 0 w

-- the contribution of proposer p, if there is one, joins the list
unfoldable pub contributed : ℕ → List ℕ → ℕ → Option ℕ → List ℕ
contributed n w p None = w
contributed n w p (Some value) = add_contribution n w p value

module _ (net : NetworkInfo) (error : ℕ) where
  -- the proposal of p moves as the run says, and its output is handed up
  unfoldable pub at_proposal : ℕ → List ℕ → Run ProposalState (Option ℕ) → Run (List ℕ) (Unit {0})
  at_proposal p w r =
      onward (inside (store_proposal net.num_nodes w p) r) (λ value w tape.
      ends (going tt) (contributed net.num_nodes w p value) tape)

  -- A broadcast or agreement answer of this kind for proposer p. Where nothing is asked no word changes: a proposal that is not called is
  -- not stored again either, since the value word of a complete one may hold a contribution that the epoch has not handled yet
  unfoldable pub broadcast_at : ℕ → ℕ → List ℕ → Tape → Run (List ℕ) (Unit {0})
  broadcast_at kind p w tape =
      cond (asks_broadcast (load_proposal net.num_nodes w p))
      (at_proposal p w (answer_broadcast error p kind (load_proposal net.num_nodes w p) tape))
      (ends (going tt) w tape)

  unfoldable pub agreement_at : ℕ → ℕ → List ℕ → Tape → Run (List ℕ) (Unit {0})
  agreement_at kind p w tape =
      cond (asks_agreement (load_proposal net.num_nodes w p))
      (at_proposal p w (answer_agreement error p kind (load_proposal net.num_nodes w p) tape))
      (ends (going tt) w tape)

  -- `vote_false`: propose(false) for proposer p, if it is still possible
  abbrev pub vote_false : ℕ → List ℕ → Tape → Run (List ℕ) (Unit {0})
  vote_false p w tape = agreement_at propose_false p w tape

  -- "propose(false) for every proposer in rising order, HasValue included": the next m proposers, from p on
  unfoldable pub vote_from : ℕ → ℕ → List ℕ → Tape → Run (List ℕ) (Unit {0})
  vote_from zero p w tape = ends (going tt) w tape
  vote_from (suc m) p w tape = onward (vote_false p w tape) (λ _ w tape. vote_from m (p + 1) w tape)

  -- "Equal: propose(false) for every proposer […]. Above: no vote."
  unfoldable pub votes : List ℕ → Tape → Run (List ℕ) (Unit {0})
  votes w tape =
      cond (eqb (count_accepted net.num_nodes w) (num_correct net))
      (vote_from net.num_nodes 0 w tape)
      (ends (going tt) w tape)

  -- "The number of accepted proposers is compared with N−f after every subset call. That holds while the subset is undecided"
  unfoldable pub try_output : List ℕ → Tape → Run (List ℕ) Bool
  try_output w tape =
      cond (is_decided w || ltb (count_accepted net.num_nodes w) (num_correct net))
      (ends (going false) w tape)
      (onward (votes w tape) (λ _ w tape.
      cond (all_complete net.num_nodes w)
      (ends (going true) (set w decided_at 1) tape)
      (ends (going false) w tape)))

  -- the own proposal is broadcast
  unfoldable pub propose : List ℕ → Tape → Run (List ℕ) Bool
  propose w tape =
      cond (is_validator net)
      (onward (broadcast_at broadcast_proposal net.our_id w tape) (λ _ w tape. try_output w tape))
      (ends (going false) w tape)

  -- a message of the broadcast or of the agreement of proposer p
  unfoldable pub handle_message : Content → ℕ → List ℕ → Tape → Run (List ℕ) Bool
  handle_message Broadcast p w tape = onward (broadcast_at broadcast_message p w tape) (λ _ w tape. try_output w tape)
  handle_message Agreement p w tape = onward (agreement_at agreement_message p w tape) (λ _ w tape. try_output w tape)
