-- `answer_at` meets its contract: by its kind, a proposal that asks is stored with its step. Assumes nothing.
use Rattle.std.proofs.Common.{◌≡◌, sym, ◌∙◌, rules}
use Rattle.steps.specs.declared.reader.Content.TheVariants.{Broadcast, Agreement}
use Rattle.subset.specs.Outcomes.{content_of}
use Rattle.subset.proofs.SubsetCode.{broadcast_left, agreement_left}
use Rattle.subset.proofs.subset.answer_at.Goals.{in-BroadcastProposal+else-not-asks_broadcast, in_default+else-not-asks_agreement}
use Rattle.subset.proofs.subset.answer_at.Goals as goal

pub returns-clause-run : goal.returns-clause-run
returns-clause-run g c =
    elim c.match-kind.branch [
      | in-BroadcastProposal+else-not-asks_broadcast w ↦ let e : content_of c.args.kind ≡ Broadcast = search rules in rw e (broadcast_left c.args.net _ _ _ _ _ _ _ c.store_transition.ensures _ c.match-kind.writer _ _ _ _ c.load_proposal-state.ensures (sym w.asks_broadcast.ensures ∙ w.if-not-asks_broadcast.false) (rw (w.moved-is, w.reader-is, w.writer-is) w.handle_broadcast-moved.ensures.run))
      | in_default+else-not-asks_agreement w ↦ let e : content_of c.args.kind ≡ Agreement = search rules in rw e (agreement_left c.args.net _ _ _ _ _ _ _ c.store_transition.ensures _ c.match-kind.writer _ _ _ _ c.load_proposal-state.ensures (sym w.asks_agreement.ensures ∙ w.if-not-asks_agreement.false) (rw (w.moved-is, w.reader-is, w.writer-is) w.handle_agreement-moved.ensures.run))
    ]
