-- Calls of the subset, a proposal and a message: what the code leaves. Assumes nothing.
use Rattle.std.proofs.Common.{ℕ, ◌≡◌, refl, ap, List, Bool, true, false, cond, eqb, Ok}
use Rattle.network.specs.declared.network_info.NetworkInfo.{NetworkInfo}
use Rattle.steps.specs.declared.step.Writer.{Writer}
use Rattle.steps.specs.Written.{left}
use Rattle.steps.specs.Answers.{Answer}
use Rattle.steps.specs.Answers.{Got, Refused as NoAnswer}
use Rattle.steps.specs.Answers.{Tape, ask}
use Rattle.steps.specs.Steps.{Out}
use Rattle.steps.specs.Runs.{Verdict, going, refused, failed, Run, ends, onward_as, onward, heard_as, heard, Left, leaves}
use Rattle.subset.specs.Subset.{propose as propose_subset}
use Rattle.epochwords.specs.declared.SubsetHandlingStrategy.{SubsetHandlingStrategy}
use Rattle.epoch.specs.Epoch.{handed_up, call_subset, propose}
use Rattle.epoch.specs.declared.epoch_state.SubsetInput.{SubsetInput}
use Rattle.epoch.specs.declared.epoch_state.SubsetInput.TheVariants.{Proposal, Message}
use Rattle.epoch.specs.Outcomes.{serialised, subset_call, subset_run, Names}
use Rattle.epochwords.specs.Shape.{Listed}
use Rattle.epoch.proofs.ListOfProposers.{kept_propose, kept_handle}

module _ (net : NetworkInfo) (strategy : SubsetHandlingStrategy) (encrypted : Bool) where
  -- where a call of the subset goes on, what it hands up is what it left
  module _ (k : ℕ) (r : Run (List ℕ) Bool) (w : List ℕ) (t : Tape) (x : Writer) (o : Out) where
    pub up_went : (done : Bool) → left w (Ok done) t x ≡ leaves o (handed_up net strategy encrypted k r.verdict r) → left w (Ok done) t x ≡ leaves o r
    unfolding handed_up
    up_went done e = go r.verdict refl
      where
        go : (v : Verdict Bool) → r.verdict ≡ v → left w (Ok done) t x ≡ leaves o r
        go (going b) v = rw v (rw v at e)
        go refused v = let z : ◌≡◌ {A = Verdict Bool} (going done) refused = ap (λ d. d.verdict) (rw v at e) in cc
        go (failed n) v = let z : ◌≡◌ {A = Verdict Bool} (going done) (failed n) = ap (λ d. d.verdict) (rw v at e) in cc

  -- WHAT COMES TO THE SUBSET is serialised first, where that is asked
  pub subset_onward : (input : SubsetInput) (w : List ℕ) (t : Tape)
      → subset_run net strategy encrypted input w t ≡ onward (serialised input w t) (λ _ w q. call_subset net strategy encrypted (subset_call net input) w q)
  unfolding propose heard heard_as onward onward_as
  subset_onward (Message content p) w t = refl
  subset_onward Proposal w t = go (ask t 2).answer (ask t 2).tape
    where
      k : Unit {0} → List ℕ → Tape → Run (List ℕ) (Unit {0})
      k a w q = call_subset net strategy encrypted (propose_subset net 22) w q

      says : Verdict (Unit {0}) → Tape → Run (List ℕ) (Unit {0})
      says v q = ends v w q

      by : (z : Bool) (q : Tape) → cond z (says (failed 21) q) (k tt w q) ≡ onward (cond z (says (failed 21) q) (says (going tt) q)) k
      by true q = refl
      by false q = refl

      go : (x : Answer) (q : Tape)
          → heard_as x w q (λ a b q. cond (eqb a 0) (says (failed 21) q) (k tt w q))
          ≡ onward (heard_as x w q (λ a b q. cond (eqb a 0) (says (failed 21) q) (says (going tt) q))) k
      go (Got a b) q = by (eqb a 0) q
      go NoAnswer q = refl

-- what comes keeps the list of contributions
pub kept_input : (net : NetworkInfo) (input : SubsetInput) (w : List ℕ) (t : Tape) (o : Out) (d : Left (List ℕ) Bool) → Names input net.num_nodes
    → d ≡ leaves o (subset_call net input w t) → Listed net.num_nodes w → Listed net.num_nodes d.state
kept_input net Proposal w t o d l e h = kept_propose net _ w t o d e h
kept_input net (Message content p) w t o d l e h = kept_handle net _ content p w t o d l e h
