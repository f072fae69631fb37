-- An epoch that is there stays: no call makes its status 0 again. Assumes nothing.
use Rattle.std.proofs.Common.{ℕ, arith, ◌≡◌, refl, sym, List, [], ◌∷◌, Bool, false, set, replicate, get_or-set_same, get_or-set_other}
use Rattle.std.proofs.lemmas.Bool.{false≢true}
use Rattle.std.proofs.lemmas.List.{length-replicate}
use Rattle.network.specs.declared.network_info.NetworkInfo.{NetworkInfo}
use Rattle.steps.specs.Answers.{Tape}
use Rattle.subset.specs.Words.{epoch_length, status_at}
use Rattle.epochwords.specs.declared.SubsetHandlingStrategy.{SubsetHandlingStrategy}
use Rattle.epoch.specs.declared.MessageContent.{MessageContent}
use Rattle.epochwords.specs.Words.{is_vacant}
use Rattle.epoch.specs.Epoch.{new_epoch, propose, handle_message_content}
use Rattle.epoch.proofs.WritesKept.{keeps_propose, keeps_message}

pub record Alive (w : List ℕ) : Type 0 where
  pub status : is_vacant w ≡ false

alive_set : (w : List ℕ) (i x : ℕ) → (i ≡ 0 → ⊥) → Alive w → Alive (set w i x)
alive_set w i x ne h = record { status = rw (get_or-set_other w i 0 x 0 (λ e. ne (sym e))) h.status }

alive_done : (w : List ℕ) → Alive w → Alive (set w status_at 2)
alive_done [] h = absurd (false≢true (sym h.status))
alive_done (y ∷ ys) h = record { status = refl }

pub alive_new : (n : ℕ) → Alive (new_epoch n)
unfolding new_epoch
alive_new n = record { status = rw (get_or-set_same {A = ℕ} (replicate (epoch_length n) 0) 0 1 0 (simp length-replicate (omega arith))) }

module _ (net : NetworkInfo) (strategy : SubsetHandlingStrategy) (encrypted : Bool) where
  pub alive_propose : (w : List ℕ) (t : Tape) → Alive w → Alive (propose net strategy encrypted w t).state
  alive_propose w t h = keeps_propose Alive alive_set alive_done net strategy encrypted w t h

  pub alive_message : (sender p : ℕ) (content : MessageContent) (w : List ℕ) (t : Tape) → Alive w → Alive (handle_message_content net strategy encrypted sender p content w t).state
  alive_message sender p content w t h = keeps_message Alive alive_set alive_done net strategy encrypted sender p content w t h
