-- The end of `Done`: what the code leaves. Assumes nothing.
use Rattle.std.proofs.Common.{ℕ, suc, ◌+◌, ◌-◌, ◌<◌, arith, ◌≡◌, refl, sym, List, [], ◌∷◌, ◌++◌, Bool, true, false, cond, Ok}
use Rattle.steps.specs.declared.step.Writer.{Writer}
use Rattle.steps.specs.Written.{out_of, left}
use Rattle.network.specs.declared.network_info.NetworkInfo.{NetworkInfo}
use Rattle.steps.specs.Answers.{Tape}
use Rattle.steps.specs.Steps.{Out, put_all, fault}
use Rattle.steps.specs.Runs.{leaves}
use Rattle.steps.proofs.ChainLaws.{put_all_append}
use Rattle.steps.proofs.RunLaws.{onward_go}
use Rattle.decryption.specs.declared.ThresholdDecrypt.{ThresholdDecrypt}
use Rattle.decryption.specs.Decrypt.{is_sender}
use Rattle.epoch.specs.Epoch.{unexpected_from, finish_at, finish_from}

-- FAULTS 2 of the senders of shares: one sender more
module _ (td : ThresholdDecrypt) (i : ℕ) (o : Out) where
  pub unexpected_turn : (n : ℕ) → i < n → (u : Out) → u ≡ put_all o (unexpected_from 1 i td) → put_all u (unexpected_from (n - (i + 1)) (i + 1) td) ≡ put_all o (unexpected_from (n - i) i td)
  unfolding unexpected_from
  unexpected_turn n h u m =
      let e : n - i ≡ suc (n - (i + 1)) = omega arith in
      rw (m, e) (go (is_sender td i))
    where
      go : (x : Bool) → put_all (put_all o (cond x (fault 2 i 0 ∷ []) [] ++ [])) (unexpected_from (n - (i + 1)) (i + 1) td)
          ≡ put_all o (cond x (fault 2 i 0 ∷ []) [] ++ unexpected_from (n - (i + 1)) (i + 1) td)
      go true = sym (put_all_append o (fault 2 i 0 ∷ []) (unexpected_from (n - (i + 1)) (i + 1) td))
      go false = sym (put_all_append o [] (unexpected_from (n - (i + 1)) (i + 1) td))

-- ONE PROPOSER'S END more
pub finish_turn : (net : NetworkInfo) (p n : ℕ) (w : List ℕ) (t : Tape) (o : Out) → p < n → (after : List ℕ) (x : Writer) → left {A = Unit {0}} after (Ok tt) t x ≡ leaves o (finish_at net p w t)
    → leaves (out_of x) (finish_from net (n - (p + 1)) (p + 1) after t) ≡ leaves o (finish_from net (n - p) p w t)
unfolding finish_from
finish_turn net p n w t o h after x d =
    let e : n - p ≡ suc (n - (p + 1)) = omega arith in
    rw e (onward_go (left {A = Unit {0}} after (Ok tt) t x) o (finish_at net p w t) (λ _ w t. finish_from net (n - (p + 1)) (p + 1) w t) d tt refl)
