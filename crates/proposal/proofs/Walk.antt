-- ONE WALK of a proposal, for every property of runs that has the rules. Assumes nothing.
use Rattle.std.proofs.Common.{ℕ, ◌+◌, ◌≡◌, refl, true, Option, None, Some, arith, eqb}
use Rattle.steps.specs.declared.reader.Content.{Content}
use Rattle.steps.specs.Table.{within}
use Rattle.steps.specs.Answers.{Tape}
use Rattle.steps.proofs.Logic.{Hand, hand, Terms, Logic, test, fail, move, hear, next, tell}
use Rattle.proposal.specs.declared.ProposalState.{ProposalState}
use Rattle.proposal.specs.Proposal.{asks_agreement, after_agreement, after_broadcast, moved_to, instance_answer, answer_agreement, vote_true, after_value, answer_broadcast}

-- in hand is the contribution that is handed up, and before that the output that an instance gave
abbrev pub contribution : Option ℕ → Hand
contribution o = hand o 0

module _ (T : Terms) (P : Logic T ProposalState) where
  -- what moves a proposal
  pub record Moves : Type 0 where
    pub reads : (k : ℕ) → within 3 7 k ≡ true → T.Kind k
    pub parts : T.Parts
    pub agreed : (s : ProposalState) (out : Option ℕ) → P.Step out s (after_agreement s out).value (after_agreement s out).state
    pub came : (s : ProposalState) (out : Option ℕ) → P.Step out s (after_broadcast s out).value (after_broadcast s out).state
    -- where the agreement is still asked no contribution is handed up
    pub voted : (s : ProposalState) (out : Option ℕ) → P.Step out s None (after_broadcast s out).state

  module _ (R : Moves) (error proposer : ℕ) (number : T.Number error) where
    answer_keeps : (kind : ℕ) (content : Content) → T.Kind kind → (n : ℕ) (s : ProposalState) (t : Tape) → P.Good _ contribution (hand None n) s t (instance_answer error proposer kind content s t)
    unfolding instance_answer
    answer_keeps kind content e n s t =
        hear P n kind proposer e (λ a b q.
        test P (eqb a 0) (λ _. fail P number) (λ _. P.parts content proposer (n + 1) s q R.parts))

    moved_keeps : (out : Option ℕ) (s : ProposalState) (o : Option ℕ) (u : ProposalState) (q : Tape) → P.Step out s o u
        → P.Good _ contribution (contribution out) s q (moved_to (record { state = u; value = o }) q)
    moved_keeps out s o u q e = move P e (tell P refl (omega arith))

    pub agreement_keeps : (kind : ℕ) → T.Kind kind → (n : ℕ) (s : ProposalState) (t : Tape) → P.Good _ contribution (hand None n) s t (answer_agreement error proposer kind s t)
    unfolding answer_agreement
    agreement_keeps kind e n s t = next P (answer_keeps kind _ e n s t) (λ out s q. moved_keeps out s _ _ q (R.agreed s out))

    value_keeps : (s : ProposalState) (out : Option ℕ) (t : Tape) → P.Good _ contribution (contribution out) s t (after_value error proposer s out t)
    unfolding after_value vote_true
    value_keeps s None t = moved_keeps None s _ _ t (R.came s None)
    value_keeps s (Some v) t =
        test P (asks_agreement (after_broadcast s (Some v)).state)
        (λ _. move P (R.voted s (Some v)) (agreement_keeps 6 (R.reads 6 refl) 0 _ t))
        (λ _. moved_keeps (Some v) s _ _ t (R.came s (Some v)))

    pub broadcast_keeps : (kind : ℕ) → T.Kind kind → (n : ℕ) (s : ProposalState) (t : Tape) → P.Good _ contribution (hand None n) s t (answer_broadcast error proposer kind s t)
    unfolding answer_broadcast
    broadcast_keeps kind e n s t = next P (answer_keeps kind _ e n s t) (λ out s q. value_keeps s out q)
