-- ONE WALK of the subset, for every property of runs that has the rules. Assumes nothing.
use Rattle.std.proofs.Common.{ℕ, zero, suc, ◌+◌, ◌≤◌, ◌<◌, refl, List, ◌||◌, Option, None, arith, set, eqb, ltb, ltb-true}
use Rattle.network.specs.declared.network_info.NetworkInfo.{NetworkInfo}
use Rattle.steps.specs.declared.reader.Content.{Content}
use Rattle.steps.specs.declared.reader.Content.TheVariants.{Broadcast, Agreement}
use Rattle.network.specs.Network.{is_validator, num_correct}
use Rattle.steps.specs.Answers.{Tape}
use Rattle.steps.specs.Runs.{Run, inside}
use Rattle.steps.proofs.Logic.{hand, nothing, Terms, Permits, Logic, here, there, test, move, next, Stateless, free, elsewhere}
use Rattle.proposal.specs.declared.ProposalState.{ProposalState}
use Rattle.subset.specs.Words.{is_decided, decided_at, load_proposal, store_proposal}
use Rattle.proposal.proofs.Walk.{contribution, Moves, agreement_keeps, broadcast_keeps}
use Rattle.proposal.specs.Proposal.{asks_agreement, asks_broadcast}
use Rattle.subset.specs.Subset.{all_complete, count_accepted, contributed, at_proposal, broadcast_at, agreement_at, vote_from, votes, try_output, propose, handle_message}

-- THE WORDS of an epoch of N proposers, over a logic of proposals and one of words
pub record Rules (T : Terms) (P : Logic T ProposalState) (L : Logic T (List ℕ)) (N : ℕ) : Type 0 where
  pub moves : Moves T P
  pub index : (p : ℕ) → p < N → T.Index p
  pub stored : (p n : ℕ) (w : List ℕ) (t : Tape) (r : Run ProposalState (Option ℕ)) → T.Index p
      → P.Good _ contribution (hand None n) (load_proposal N w p) t r → L.Good _ contribution (hand None n) w t (inside (store_proposal N w p) r)
  pub added : (p : ℕ) (w : List ℕ) (o : Option ℕ) → T.Index p → L.Step o w None (contributed N w p o)
  pub decided : (w : List ℕ) → L.Step None w None (set w decided_at 1)

-- of a property that says nothing of the state
pub any_rules : {T : Terms} {L : (S : Type 0) → Logic T S} → Stateless T L → Permits T → (n : ℕ) → Rules T (L ProposalState) (L (List ℕ)) n
any_rules Z P n = record {
  moves = record { reads = λ k e. P.reads k; parts = P.parts; agreed = λ s out. free Z; came = λ s out. free Z; voted = λ s out. free Z };
  index = λ p l. P.index p;
  stored = λ p m w t r i g. elsewhere Z g;
  added = λ p w o i. free Z;
  decided = λ w. free Z;
}

-- THE SUBSET
module _ (T : Terms) (P : Logic T ProposalState) (L : Logic T (List ℕ)) (net : NetworkInfo) (R : Rules T P L net.num_nodes) (error : ℕ) (number : T.Number error) where
  abbrev N : ℕ
  N = net.num_nodes

  -- an operation on an epoch's words whose runs are so, with n entries allowed at first
  abbrev Does : {A : Type 0} → (List ℕ → Tape → Run (List ℕ) A) → Type 0
  Does {A} k = (n : ℕ) (w : List ℕ) (t : Tape) → L.Good A nothing (hand None n) w t (k w t)

  at_keeps : (p n : ℕ) (w : List ℕ) (t : Tape) (r : Run ProposalState (Option ℕ)) → T.Index p → P.Good _ contribution (hand None n) (load_proposal N w p) t r
      → L.Good _ nothing (hand None n) w t (at_proposal net error p w r)
  unfolding at_proposal
  at_keeps p n w t r i h =
      next L (R.stored p n w t r i h) (λ o w q. move L (R.added p w o i) (here L tt _ q))

  broadcast_at_keeps : (kind p : ℕ) → T.Kind kind → T.Index p → Does (broadcast_at net error kind p)
  unfolding broadcast_at
  broadcast_at_keeps kind p e i n w t =
      test L (asks_broadcast (load_proposal N w p))
      (λ _. at_keeps p n w t _ i (broadcast_keeps T P R.moves error p number kind e n _ t))
      (λ _. here L tt w t)

  agreement_at_keeps : (kind p : ℕ) → T.Kind kind → T.Index p → Does (agreement_at net error kind p)
  unfolding agreement_at
  agreement_at_keeps kind p e i n w t =
      test L (asks_agreement (load_proposal N w p))
      (λ _. at_keeps p n w t _ i (agreement_keeps T P R.moves error p number kind e n _ t))
      (λ _. here L tt w t)

  vote_from_keeps : (m i : ℕ) → m + i ≤ N → Does (vote_from net error m i)
  unfolding vote_from
  vote_from_keeps zero i l n w t = here L tt w t
  vote_from_keeps (suc m) i l n w t =
      next L (agreement_at_keeps 7 i (R.moves.reads 7 refl) (R.index i (omega arith)) n w t) (λ _ w q. vote_from_keeps m (i + 1) (omega arith) 0 w q)

  votes_keeps : Does (votes net error)
  unfolding votes
  votes_keeps n w t = test L (eqb (count_accepted N w) (num_correct net)) (λ _. vote_from_keeps N 0 (omega arith) n w t) (λ _. here L tt w t)

  pub try_keeps : Does (try_output net error)
  unfolding try_output
  try_keeps n w t =
      test L (is_decided w || ltb (count_accepted N w) (num_correct net)) (λ _. here L _ w t)
      (λ _. next L (votes_keeps n w t) (λ _ w q.
      test L (all_complete N w) (λ _. there L _ w _ q (R.decided w)) (λ _. here L _ w q)))

  pub propose_keeps : Does (propose net error)
  unfolding propose
  propose_keeps n w t =
      test L (is_validator net)
      (λ e. next L (broadcast_at_keeps 3 net.our_id (R.moves.reads 3 refl) (R.index _ (ltb-true _ _ e)) n w t) (λ _ w q. try_keeps 0 w q))
      (λ _. here L _ w t)

  -- a message for proposer p
  pub handle_keeps : (content : Content) (p : ℕ) → T.Index p → Does (handle_message net error content p)
  unfolding handle_message
  handle_keeps Broadcast p i n w t = next L (broadcast_at_keeps 4 p (R.moves.reads 4 refl) i n w t) (λ _ w q. try_keeps 0 w q)
  handle_keeps Agreement p i n w t = next L (agreement_at_keeps 5 p (R.moves.reads 5 refl) i n w t) (λ _ w q. try_keeps 0 w q)
