-- What a call of the subset leaves, from what its parts left. Assumes nothing.
use Rattle.std.proofs.Common.{ℕ, suc, ◌+◌, ◌-◌, ◌≤◌, ◌<◌, arith, ◌≡◌, refl, ap, ◌∙◌, List, Bool, true, false, cond, set, get_or, eq-eqb, le-ltb, Option, Result, Ok, Err}
use Rattle.network.specs.declared.network_info.NetworkInfo.{NetworkInfo}
use Rattle.network.specs.Network.{num_correct}
use Rattle.steps.specs.declared.kinds.Stop.{Stop}
use Rattle.steps.specs.declared.kinds.Stop.TheVariants.{NotNext, Failed}
use Rattle.steps.specs.declared.reader.Content.{Content}
use Rattle.steps.specs.declared.reader.Content.TheVariants.{Broadcast, Agreement}
use Rattle.steps.specs.declared.step.Writer.{Writer}
use Rattle.steps.specs.Answers.{Tape}
use Rattle.steps.specs.Steps.{Out, put_all}
use Rattle.steps.specs.Written.{out_of, left_as, left_reading_as}
use Rattle.steps.specs.Runs.{going, Run, ends, onward, onward_as, inside, Left, leaves}
use Rattle.steps.proofs.LentRuns.{onward_ok, onward_err_as}
use Rattle.steps.proofs.RunsInParts.{leaves_inside}
use Rattle.proposal.specs.declared.ProposalState.{ProposalState}
use Rattle.proposal.specs.declared.proposal_state.Transition.{Transition}
use Rattle.proposal.specs.Proposal.{asks_agreement, asks_broadcast, handle_agreement, handle_broadcast}
use Rattle.subset.specs.Words.{decided_at, load_proposal, store_proposal}
use Rattle.subset.specs.Subset.{count_accepted, all_complete, contributed, at_proposal, broadcast_at, agreement_at, vote_from, votes, try_output, handle_message}
use Rattle.subset.specs.Outcomes.{answer_at, message_kind}

module _ (net : NetworkInfo) (error : ℕ) where
  -- ONE PROPOSAL, stored with its output
  module _ {E : Type 0} (number : E → ℕ) (p : ℕ) (w v : List ℕ) (m : Transition E) (y : Result (Unit {0}) (Stop E))
      (stored : (error : ℕ) (tape : Tape) → left_reading_as number v y tape ≡ at_proposal net error p w (left_reading_as number m.state m.outcome tape))
      (q : Tape) (z : Writer) (o : Out) where
    pub stores : (r : Run ProposalState (Option ℕ)) → left_as number m.state m.outcome q z ≡ leaves o r → left_as number v y q z ≡ leaves o (at_proposal net error p w r)
    unfolding at_proposal onward onward_as put_all
    stores r e = go m.outcome (stored error q) e
      where
        put : ProposalState → List ℕ
        put s = store_proposal net.num_nodes w p s

        k : Option ℕ → List ℕ → Tape → Run (List ℕ) (Unit {0})
        k value w tape = ends (going tt) (contributed net.num_nodes w p value) tape

        go : (x : Result (Option ℕ) (Stop E)) → left_reading_as number v y q ≡ at_proposal net error p w (left_reading_as number m.state x q) → left_as number m.state x q z ≡ leaves o r
            → left_as number v y q z ≡ leaves o (at_proposal net error p w r)
        go (Ok a) h e = onward_ok (put m.state) q (inside put r) k z o a (leaves_inside put _ o r e) _ (ap (leaves (out_of z)) h)
        go (Err NotNext) h e = ap (leaves (out_of z)) h ∙ onward_err_as (put m.state) q (inside put r) k number z o NotNext (leaves_inside put _ o r e)
        go (Err (Failed f)) h e = ap (leaves (out_of z)) h ∙ onward_err_as (put m.state) q (inside put r) k number z o (Failed f) (leaves_inside put _ o r e)

    module _ (kind : ℕ) (t : Tape) (s : ProposalState) (loaded : s ≡ load_proposal net.num_nodes w p) where
      pub broadcast_left : asks_broadcast s ≡ true → left_as number m.state m.outcome q z ≡ leaves o (handle_broadcast error p kind s t) → left_as number v y q z ≡ leaves o (broadcast_at net error kind p w t)
      unfolding broadcast_at handle_broadcast
      broadcast_left a e = rw (rw loaded at a) (stores _ (rw (a, loaded) at e))

      pub agreement_left : asks_agreement s ≡ true → left_as number m.state m.outcome q z ≡ leaves o (handle_agreement error p kind s t) → left_as number v y q z ≡ leaves o (agreement_at net error kind p w t)
      unfolding agreement_at handle_agreement
      agreement_left a e = rw (rw loaded at a) (stores _ (rw (a, loaded) at e))

  -- A ROUND OF VOTES, one proposer more
  module _ (n p : ℕ) (w : List ℕ) (t : Tape) where
    pub vote_turn : p < n → vote_from net error (n - p) p w t ≡ onward (agreement_at net error 7 p w t) (λ _ w t. vote_from net error (n - (p + 1)) (p + 1) w t)
    unfolding vote_from
    vote_turn h =
        let e : n - p ≡ suc (n - (p + 1)) = omega arith in
        rw e

    pub vote_done : n ≤ p → vote_from net error (n - p) p w t ≡ ends (going tt) w t
    unfolding vote_from
    vote_done h =
        let e : n - p ≡ 0 = omega arith in
        rw e

  -- THE END, after the votes
  abbrev pub ending : List ℕ → Tape → Run (List ℕ) Bool
  ending w t = cond (all_complete net.num_nodes w) (ends (going true) (set w decided_at 1) t) (ends (going false) w t)

  pub votes_left : (w : List ℕ) (t : Tape) (accepted correct : ℕ) → accepted ≡ count_accepted net.num_nodes w → correct ≡ num_correct net
      → get_or w decided_at 0 ≡ 0 → correct ≤ accepted
      → (d : Left (List ℕ) Bool) (o : Out) → d ≡ leaves o (onward (votes net error w t) (λ _ w t. ending w t)) → d ≡ leaves o (try_output net error w t)
  unfolding try_output
  votes_left w t accepted correct a c z h d o e = rw (eq-eqb _ _ z, ← a, ← c, le-ltb _ _ h) e

  pub message_onward : (content : Content) (p : ℕ) (w : List ℕ) (t : Tape)
      → handle_message net error content p w t ≡ onward (answer_at net error content (message_kind content) p w t) (λ _ w t. try_output net error w t)
  unfolding handle_message
  message_onward Broadcast p w t = refl
  message_onward Agreement p w t = refl
