-- An epoch's runs keep each of its words in range. Assumes nothing.
use Rattle.std.proofs.Common.{ℕ, ◌≤◌, ◌<◌, refl, List, Bool, Option, None, Some, arith}
use Rattle.network.specs.declared.network_info.NetworkInfo.{NetworkInfo}
use Rattle.steps.specs.Runs.{Verdict, going, refused, failed}
use Rattle.steps.proofs.Ranges.{Says, SmallOption, kept_any, small, keeping, kept_inside, below_zeros}
use Rattle.decryption.specs.declared.ThresholdDecrypt.{ThresholdDecrypt}
use Rattle.decryption.proofs.Ranges.{InstanceOk, set_ok, rules as combines}
use Rattle.subset.specs.Words.{epoch_length, status_at, decided_at, count_at, count_of, proposal_at, value_at}
use Rattle.subset.proofs.Ranges.{limit_at, limit_some, EpochOk, ProposalOk, set_own, field_below, drop_ok, SafeEpoch, rules as subsets}
use Rattle.epochwords.specs.declared.SubsetHandlingStrategy.{SubsetHandlingStrategy}
use Rattle.epoch.specs.declared.MessageContent.{MessageContent}
use Rattle.epoch.specs.declared.MessageContent.TheVariants.{Subset, DecryptionShare}
use Rattle.epochwords.specs.Words.{missing, complete}
use Rattle.epoch.specs.Epoch.{new_epoch, first_contributions, entry_after, subset_complete, proposal_dropped, propose, handle_message_content}
use Rattle.epoch.proofs.Walk.{Rules, propose_keeps, content_keeps}
use Rattle.epochwords.proofs.LimitsOfWords.{EntryOk, load_entry_ok, store_entry_ok, accept_ok}

-- a share that comes in a message is a handle
unfoldable pub ContentOk : MessageContent → Type 0
ContentOk (Subset content) = Unit {0}
ContentOk (DecryptionShare share) = share < 0x1_0000_0000

entry_after_ok : (v : Verdict (Option ℕ)) (td : ThresholdDecrypt) → InstanceOk td → Says SmallOption v → EntryOk (entry_after v td)
unfolding entry_after EntryOk Says SmallOption
entry_after_ok (going None) td h u = h
entry_after_ok (going (Some plaintext)) td h u = u
entry_after_ok refused td h u = h
entry_after_ok (failed error) td h u = h

module _ (n : ℕ) (Some : 0 < n) where
  pub new_epoch_ok : EpochOk n (new_epoch n)
  unfolding new_epoch limit_at
  new_epoch_ok = set_own n _ status_at 1 (below_zeros (limit_at n) (epoch_length n) (λ i. limit_some n i Some)) (omega arith)

  first_ok : (k : ℕ) (w : List ℕ) → k ≤ n → EpochOk n w → EpochOk n (first_contributions n k w)
  unfolding first_contributions limit_at
  first_ok k w l h = set_own n _ count_at k (drop_ok n _ k w Some h) (omega arith)

  done_ok : (w : List ℕ) → EpochOk n w → EpochOk n (subset_complete w)
  unfolding subset_complete limit_at
  done_ok w h = set_own n _ decided_at 0 (set_own n w status_at 2 h (omega arith)) (omega arith)

  dropped_ok : (w : List ℕ) (p : ℕ) → EpochOk n w → EpochOk n (proposal_dropped n w p)
  unfolding proposal_dropped
  dropped_ok w p h = set_own n _ (value_at n p) 0 (set_own n w (proposal_at n p) 0 h (limit_some n _ Some)) (limit_some n _ Some)

module _ (n : ℕ) (Some : 0 < n) (few : n ≤ 16) where
  rules : Rules (small n) (keeping n InstanceOk) (keeping n (EpochOk n)) n (keeping n ProposalOk)
  unfolding SmallOption EntryOk limit_at
  rules = record {
    subset = subsets n;
    handles = record {
      entries = record {
        entered = λ p m w t r g h o u.
            let k = g (load_entry_ok n p w few h) o u in
            record { state = store_entry_ok n p w _ (entry_after_ok r.verdict r.state k.state k.value) h; tape = k.tape; value = k.value };
        dropped = λ w o h u. (h, tt);
      };
      inputs = record { combines = combines n; number = tt; invalid = λ p. tt; ciphertext = λ td c l h u. (set_ok td c h l, tt) };
      reads = refl;
      unreadable = λ p. tt;
      listed = λ i m w t r g h o u. g (field_below n w i 7 h (omega arith)) (field_below n w _ 1 h (omega arith)) h o u;
      opened = λ p value w l h u. (store_entry_ok n p w (complete value) l h, tt);
      accepted = λ p w i h u. (accept_ok n p w i h, tt);
    };
    finishes = record {
      late = λ a. tt;
      finished = λ p w h u. (dropped_ok n Some w p h, tt);
      unexpected = λ p w h u. (store_entry_ok n p _ missing tt (dropped_ok n Some w p h), tt);
    };
    emptied = λ m w t r g h o u. kept_inside (first_contributions n 0) r (λ w k. first_ok n Some 0 w (omega arith) k) (g h o u);
    cut = λ m w t r g h o u. kept_inside (first_contributions n (count_of w)) r (λ v k. first_ok n Some (count_of w) v (omega (arith, h.below count_at)) k) (g h o u);
    done = λ w h u. (done_ok n Some w h, tt);
  }

-- THE EPOCH'S TWO CALLS
module _ (net : NetworkInfo) (Some : 0 < net.num_nodes) (few : net.num_nodes ≤ 16) (strategy : SubsetHandlingStrategy) (encrypted : Bool) where
  pub propose_safe : SafeEpoch net.num_nodes (propose net strategy encrypted)
  unfolding SmallOption
  propose_safe w tape h o = kept_any (propose_keeps _ _ _ net _ (rules _ Some few) strategy encrypted refl tt tt w tape h o tt)

  pub content_safe : (sender p : ℕ) (content : MessageContent) → p < net.num_nodes → ContentOk content
      → SafeEpoch net.num_nodes (handle_message_content net strategy encrypted sender p content)
  unfolding SmallOption ContentOk
  content_safe sender p content l u w tape h o =
      kept_any (content_keeps _ _ _ net _ (rules _ Some few) strategy encrypted tt sender p content l (λ share e. rw e at u) w tape h o tt)
