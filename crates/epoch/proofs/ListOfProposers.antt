-- A call of the subset leaves a list of contributions of the n proposers, whatever its verdict. Assumes nothing.
use Rattle.std.proofs.Common.{ℕ, ◌+◌, ◌<◌, arith, ◌≡◌, refl, ◌∙◌, List, Bool, true, false, cond, Option, None, Some, get_or, set, get_or-set_other, ltb, ltb-true}
use Rattle.network.specs.declared.network_info.NetworkInfo.{NetworkInfo}
use Rattle.steps.specs.declared.reader.Content.{Content}
use Rattle.steps.specs.Answers.{Tape}
use Rattle.steps.specs.Steps.{Out}
use Rattle.steps.specs.Runs.{Left, leaves}
use Rattle.proposal.specs.declared.ProposalState.{ProposalState}
use Rattle.subset.specs.Words.{decided_at, count_at, count_of, value_at, arrival_at, store_proposal, add_contribution}
use Rattle.subset.specs.Subset.{contributed, propose, handle_message}
use Rattle.steps.proofs.Logic.{about}
use Rattle.steps.proofs.StateKept.{holding}
use Rattle.subset.proofs.Walk.{Rules, propose_keeps, handle_keeps}
use Rattle.subset.proofs.ProposalStored.{differ, store_word}
use Rattle.epochwords.specs.Shape.{Listed}
use Rattle.epoch.proofs.ContributionCode.{set_below}

module _ (n : ℕ) where
  -- the words that are written
  listed_proposal : (w : List ℕ) (p : ℕ) (s : ProposalState) → Listed n w → Listed n (store_proposal n w p s)
  listed_proposal w p s h =
      record {
        count = rw (store_word n w p s count_at (λ e. omega arith) (λ e. omega arith)) h.count;
        who = λ i l.
            rw (store_word n w p s (arrival_at n i) (differ n i p 7 0 (omega arith) (omega arith) (λ e. omega arith)) (differ n i p 7 1 (omega arith) (omega arith) (λ e. omega arith)))
            (h.who i l);
      }

  listed_decided : (w : List ℕ) → Listed n w → Listed n (set w decided_at 1)
  listed_decided w h =
      record {
        count = rw (get_or-set_other w decided_at count_at 1 0 (λ e. omega arith)) h.count;
        who = λ i l. rw (get_or-set_other w decided_at (arrival_at n i) 1 0 (λ e. omega arith)) (h.who i l);
      }

  listed_added : (w : List ℕ) (p value c : ℕ) → p < n → c < n → Listed n w → Listed n (set (set (set w (arrival_at n c) p) (value_at n p) value) count_at (c + 1))
  listed_added w p value c l room h =
      let one = set w (arrival_at n c) p in
      let two = set one (value_at n p) value in
      let same : get_or two count_at 0 ≡ get_or w count_at 0 =
      get_or-set_other one (value_at n p) count_at value 0 (λ e. omega arith) ∙ get_or-set_other w (arrival_at n c) count_at p 0 (λ e. omega arith) in
      let few : get_or two count_at 0 < n + 1 = omega (arith, h.count) in
      let k : get_or (set two count_at (c + 1)) count_at 0 < n + 1 = set_below two count_at count_at (c + 1) (n + 1) (omega arith) few in
      record {
        count = omega arith;
        who = λ i j.
            rw (
              get_or-set_other two count_at (arrival_at n i) (c + 1) 0 (λ e. omega arith),
              get_or-set_other one (value_at n p) (arrival_at n i) value 0 (differ n i p 7 1 (omega arith) (omega arith) (λ e. omega arith)),
            )
            (set_below w (arrival_at n c) (arrival_at n i) p n l (h.who i j));
      }

  listed_contributed : (w : List ℕ) (p : ℕ) (o : Option ℕ) → p < n → Listed n w → Listed n (contributed n w p o)
  unfolding contributed add_contribution
  listed_contributed w p None l h = h
  listed_contributed w p (Some value) l h = go (ltb (count_of w) n) refl
    where
      go : (b : Bool) → ltb (count_of w) n ≡ b → Listed n (cond b (set (set (set w (arrival_at n (count_of w)) p) (value_at n p) value) count_at (count_of w + 1)) w)
      go true e = listed_added w p value (count_of w) l (ltb-true (count_of w) n e) h
      go false e = h

-- THE SUBSET
rules : (n : ℕ) → Rules (about (λ i. i < n)) (holding (λ s. Unit {0}) (λ i. i < n)) (holding (Listed n) (λ i. i < n)) n
rules n = record {
  moves = record { reads = λ k e. tt; parts = tt; agreed = λ s out h. tt; came = λ s out h. tt; voted = λ s out h. tt };
  index = λ p l. l;
  stored = λ p m w t r i g h. listed_proposal n w p r.state h;
  added = λ p w o l h. listed_contributed n w p o l h;
  decided = λ w h. listed_decided n w h;
}

-- as the code leaves it
module _ (net : NetworkInfo) (error : ℕ) where
  pub kept_propose : (w : List ℕ) (t : Tape) (o : Out) (d : Left (List ℕ) Bool) → d ≡ leaves o (propose net error w t) → Listed net.num_nodes w → Listed net.num_nodes d.state
  kept_propose w t o d e h = rw e (propose_keeps _ _ _ net (rules _) error tt 0 w t h)

  pub kept_handle : (content : Content) (p : ℕ) (w : List ℕ) (t : Tape) (o : Out) (d : Left (List ℕ) Bool) → p < net.num_nodes → d ≡ leaves o (handle_message net error content p w t)
      → Listed net.num_nodes w → Listed net.num_nodes d.state
  kept_handle content p w t o d l e h = rw e (handle_keeps _ _ _ net (rules _) error tt content p l 0 w t h)
