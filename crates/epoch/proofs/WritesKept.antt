-- What every write to an epoch's words keeps, its two calls keep, whatever their verdict. Assumes nothing.
use Rattle.std.proofs.Common.{ℕ, zero, suc, ◌+◌, ◌-◌, arith, ◌≡◌, List, Bool, true, false, cond, Option, None, Some, get_or, set, ltb}
use Rattle.network.specs.declared.network_info.NetworkInfo.{NetworkInfo}
use Rattle.steps.specs.Answers.{Tape}
use Rattle.decryption.specs.declared.ThresholdDecrypt.{ThresholdDecrypt}
use Rattle.decryption.specs.Decrypt.{new}
use Rattle.proposal.specs.declared.ProposalState.{ProposalState}
use Rattle.subset.specs.Words.{count_of, status_at, decided_at, accepted_at, count_at, proposal_at, value_at, arrival_at, tag_of, value_of, store_proposal, add_contribution, drop_from}
use Rattle.subset.specs.Subset.{contributed}
use Rattle.epochwords.specs.declared.SubsetHandlingStrategy.{SubsetHandlingStrategy}
use Rattle.epoch.specs.declared.MessageContent.{MessageContent}
use Rattle.epochwords.specs.Words.{accept, DecryptionState, missing, ongoing, complete, decryption_at, plaintext_at, ciphertext_at, had_input_at, terminated_at, share_at, set_shares, store_entry, store_decryption}
use Rattle.steps.proofs.Logic.{anything}
use Rattle.steps.proofs.StateKept.{holding, still}
use Rattle.epoch.proofs.Walk.{Rules, handles_hold, finishes_hold, propose_keeps, content_keeps}
use Rattle.epoch.specs.Epoch.{first_contributions, subset_complete, proposal_dropped, propose, handle_message_content}

-- A PROPERTY OF AN EPOCH'S WORDS that is kept when a word other than the status is written, and when the status becomes 2
module _ (P : List ℕ → Type 0) (other : (w : List ℕ) (i x : ℕ) → (i ≡ 0 → ⊥) → P w → P (set w i x)) (finished : (w : List ℕ) → P w → P (set w status_at 2)) where
  -- the words that are written
  module _ (n : ℕ) where
    keeps_proposal : (w : List ℕ) (p : ℕ) (s : ProposalState) → P w → P (store_proposal n w p s)
    unfolding store_proposal
    keeps_proposal w p s h = other (set w (proposal_at n p) (tag_of s)) (value_at n p) (value_of s) (λ e. omega arith) (other w (proposal_at n p) (tag_of s) (λ e. omega arith) h)

    keeps_contributed : (w : List ℕ) (p : ℕ) (o : Option ℕ) → P w → P (contributed n w p o)
    unfolding contributed add_contribution
    keeps_contributed w p None h = h
    keeps_contributed w p (Some value) h = go (ltb (get_or w count_at 0) n)
      where
        go : (t : Bool) → P (cond t (set (set (set w (arrival_at n (get_or w count_at 0)) p) (value_at n p) value) count_at (get_or w count_at 0 + 1)) w)
        go true = other _ count_at _ (λ e. omega arith) (other _ (value_at n p) value (λ e. omega arith) (other w (arrival_at n (get_or w count_at 0)) p (λ e. omega arith) h))
        go false = h

    keeps_drop : (m i : ℕ) (w : List ℕ) → P w → P (drop_from n m i w)
    unfolding drop_from
    keeps_drop zero i w h = h
    keeps_drop (suc m) i w h = keeps_drop m (i + 1) _ (other _ (arrival_at n i) 0 (λ e. omega arith) (other w (value_at n (get_or w (arrival_at n i) 0)) 0 (λ e. omega arith) h))

    keeps_first : (k : ℕ) (w : List ℕ) → P w → P (first_contributions n k w)
    unfolding first_contributions
    keeps_first k w h = other _ count_at k (λ e. omega arith) (keeps_drop (get_or w count_at 0 - k) k w h)

    keeps_shares : (p m i : ℕ) (s w : List ℕ) → P w → P (set_shares n p m i s w)
    unfolding set_shares
    keeps_shares p zero i s w h = h
    keeps_shares p (suc m) i s w h = keeps_shares p m (i + 1) s _ (other w (share_at n p i) (get_or s i 0) (λ e. omega arith) h)

    keeps_entry : (w : List ℕ) (p tag plaintext : ℕ) (td : ThresholdDecrypt) → P w → P (store_entry n w p tag plaintext td)
    unfolding store_entry
    keeps_entry w p tag plaintext td h =
        keeps_shares p n 0 td.shares _
        (other _ (terminated_at n p) _ (λ e. omega arith) (other _ (had_input_at n p) _ (λ e. omega arith) (other _ (ciphertext_at n p) _ (λ e. omega arith)
        (other _ (plaintext_at n p) _ (λ e. omega arith) (other w (decryption_at n p) tag (λ e. omega arith) h)))))

    keeps_decryption : (w : List ℕ) (p : ℕ) (s : DecryptionState) → P w → P (store_decryption n w p s)
    unfolding store_decryption
    keeps_decryption w p missing h = keeps_entry w p 0 0 new h
    keeps_decryption w p (ongoing td) h = keeps_entry w p 1 0 td h
    keeps_decryption w p (complete plaintext) h = keeps_entry w p 2 plaintext new h

    keeps_accept : (w : List ℕ) (p : ℕ) → P w → P (accept w p)
    unfolding accept
    keeps_accept w p h = other w accepted_at _ (λ e. omega arith) h

    keeps_dropped : (w : List ℕ) (p : ℕ) → P w → P (proposal_dropped n w p)
    unfolding proposal_dropped
    keeps_dropped w p h = other _ (value_at n p) 0 (λ e. omega arith) (other w (proposal_at n p) 0 (λ e. omega arith) h)

    keeps_complete : (w : List ℕ) → P w → P (subset_complete w)
    unfolding subset_complete
    keeps_complete w h = other _ decided_at 0 (λ e. omega arith) (finished w h)

    rules : Rules anything still (holding P (λ i. Unit {0})) n still
    rules = record {
      subset = record {
        moves = record { reads = λ k e. tt; parts = tt; agreed = λ s out h. tt; came = λ s out h. tt; voted = λ s out h. tt };
        index = λ p l. tt;
        stored = λ p m w t r i g h. keeps_proposal w p r.state h;
        added = λ p w o i h. keeps_contributed w p o h;
        decided = λ w h. other w decided_at 1 (λ e. omega arith) h;
      };
      handles = handles_hold n P (λ p d w h. keeps_decryption w p d h) (λ p w h. keeps_accept w p h);
      finishes = finishes_hold n P (λ p d w h. keeps_decryption w p d h) (λ p w h. keeps_dropped w p h);
      emptied = λ m w t r g h. keeps_first 0 r.state (g h);
      cut = λ m w t r g h. keeps_first (count_of w) r.state (g h);
      done = λ w h. keeps_complete w h;
    }

  -- THE EPOCH'S TWO CALLS
  module _ (net : NetworkInfo) (strategy : SubsetHandlingStrategy) (encrypted : Bool) where
    pub keeps_propose : (w : List ℕ) (t : Tape) → P w → P (propose net strategy encrypted w t).state
    keeps_propose w t h = propose_keeps _ _ _ net _ (rules _) strategy encrypted tt tt tt w t h

    pub keeps_message : (sender p : ℕ) (content : MessageContent) (w : List ℕ) (t : Tape) → P w → P (handle_message_content net strategy encrypted sender p content w t).state
    keeps_message sender p content w t h = content_keeps _ _ _ net _ (rules _) strategy encrypted tt sender p content tt (λ share e. tt) w t h
