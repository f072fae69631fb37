-- A share that arrives, case by case. Assumes nothing.
use Rattle.std.proofs.Common.{ℕ, ◌≡◌, ◌∙◌, [], ◌∷◌, true, false, cond, not, None, get_or, set, eq-eqb, ne_eqb}
use Rattle.network.specs.declared.network_info.NetworkInfo.{NetworkInfo}
use Rattle.steps.specs.Answers.{Tape}
use Rattle.steps.specs.Steps.{fault}
use Rattle.steps.specs.Runs.{going, ends, before, onward_as, onward}
use Rattle.decryption.specs.Decrypt.{with_shares, is_share_valid, try_output, store_share, handle_message}
use Rattle.decryption.specs.declared.ThresholdDecrypt.{ThresholdDecrypt}

module _ (net : NetworkInfo) (proposer sender share : ℕ) (td : ThresholdDecrypt) (p : Tape) where
  pub store_first : get_or td.shares sender 0 ≡ 0 → store_share net proposer sender share td p ≡ try_output net proposer (with_shares td (set td.shares sender share)) p
  unfolding store_share
  store_first z = rw (eq-eqb _ _ z)

  -- a duplicate share overwrites the first and is fault 6; nothing is asked or combined
  pub store_again : (get_or td.shares sender 0 ≡ 0 → ⊥) → store_share net proposer sender share td p ≡ before (fault 6 sender 0 ∷ []) (ends (going None) (with_shares td (set td.shares sender share)) p)
  unfolding store_share
  store_again z = rw (ne_eqb _ _ z)

  pub handle_ended : td.terminated ≡ true → handle_message net proposer sender share td p ≡ ends (going None) td p
  unfolding handle_message
  handle_ended e = rw e

  pub handle_goes : td.terminated ≡ false → handle_message net proposer sender share td p
      ≡ onward (is_share_valid sender td p) (λ valid td q. cond (not valid) (before (fault 7 sender 0 ∷ []) (ends (going None) td q)) (store_share net proposer sender share td q))
  unfolding handle_message
  handle_goes e = rw e

  -- a valid share is kept
  pub handle_valid : (q : Tape) → ends (going true) td q ≡ is_share_valid sender td p → td.terminated ≡ false → handle_message net proposer sender share td p ≡ store_share net proposer sender share td q
  unfolding onward onward_as
  handle_valid q v e = handle_goes e ∙ rw (← v)
