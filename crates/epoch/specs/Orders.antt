-- What is promised of counts and orders in an epoch, in plain words of bits and plain lists. proofs/Orders proves that the definitions
-- after the Rust give these.
use Rattle.std.specs.Prelude.{ℕ, zero, suc, ◌+◌, List, [], ◌∷◌, ◌++◌, Bool, cond, ◌&&◌, not, get_or, eqb}
use Rattle.steps.specs.Numbers.{unexpected_decryption_share}
use Rattle.network.specs.declared.network_info.NetworkInfo.{NetworkInfo}
use Rattle.steps.specs.Answers.{Tape}
use Rattle.steps.specs.Steps.{Entry, fault}
use Rattle.steps.specs.Runs.{going, Run, ends, onward}
use Rattle.subset.specs.Words.{record_length, accepted_of}
use Rattle.subset.specs.Rule.{Contribution}
use Rattle.subset.specs.Bits.{received_tags, proposals_in}
use Rattle.epochwords.specs.declared.SubsetHandlingStrategy.{SubsetHandlingStrategy}
use Rattle.epochwords.specs.Words.{is_vacant, is_complete, is_accepted, entry_ongoing, decryption_at, share_at}
use Rattle.epoch.specs.Epoch.{handle_contribution}

-- "Received proposals are those in HasValue or Complete with 1; after Done, the accepted ones."
unfoldable pub received_bits : ℕ → List ℕ → ℕ
received_bits n w =
    cond (is_vacant w) 0
    (cond (is_complete w) (accepted_of w) (proposals_in (record_length n) received_tags n w))

-- "At Done, shares for non-accepted proposers become fault 2, by proposer then sender." A share of this sender is stored for p, who is not
-- accepted
unfoldable pub is_unexpected : ℕ → List ℕ → ℕ → ℕ → Bool
is_unexpected n w p sender =
    not (is_accepted w p) && (eqb (get_or w (decryption_at n p) 0) entry_ongoing && not (eqb (get_or w (share_at n p sender) 0) 0))

-- the next m senders, from this one on
unfoldable pub by_sender : ℕ → List ℕ → ℕ → ℕ → ℕ → List Entry
by_sender n w p zero sender = []
by_sender n w p (suc m) sender = cond (is_unexpected n w p sender) (fault unexpected_decryption_share sender 0 ∷ []) [] ++ by_sender n w p m (sender + 1)

-- the next m proposers, from p on
unfoldable pub by_proposer : ℕ → List ℕ → ℕ → ℕ → List Entry
by_proposer n w zero p = []
by_proposer n w (suc m) p = by_sender n w p n 0 ++ by_proposer n w m (p + 1)

-- "AllAtEnd keeps contributions in arrival order until Done": each of a list is handled, in its order
module _ (net : NetworkInfo) (strategy : SubsetHandlingStrategy) (encrypted : Bool) where
  unfoldable pub handle_each : List Contribution → List ℕ → Tape → Run (List ℕ) (Unit {0})
  handle_each [] w tape = ends (going tt) w tape
  handle_each (c ∷ cs) w tape =
      onward (handle_contribution net strategy encrypted c.proposer c.value w tape) (λ _ w q. handle_each cs w q)
