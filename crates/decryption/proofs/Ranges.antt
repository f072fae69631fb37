-- Threshold decryption keeps its ciphertext and shares below 2^32, and so is a plaintext. Assumes nothing.
use Rattle.std.proofs.Common.{ℕ, ◌<◌, refl, arith, set}
use Rattle.network.specs.declared.network_info.NetworkInfo.{NetworkInfo}
use Rattle.steps.specs.Answers.{Tape}
use Rattle.steps.specs.Runs.{Run}
use Rattle.steps.proofs.Ranges.{AllSmall, Kept, Any, SmallOption, kept_any, small, keeping, within_below, Below, below_set, below_zeros}
use Rattle.decryption.specs.Decrypt.{new, with_ciphertext, with_shares, with_input, with_end, set_ciphertext, start_decryption, try_output, store_share, handle_message}
use Rattle.decryption.specs.declared.ThresholdDecrypt.{ThresholdDecrypt}
use Rattle.decryption.proofs.Walk.{Combines, set_keeps, start_keeps, try_keeps, store_keeps, handle_keeps}

-- a handle, or 0 for none, at every place
abbrev pub handles : ℕ → ℕ
handles i = 0x1_0000_0000

-- room for 16 senders, and every handle below 2^32
pub record InstanceOk (td : ThresholdDecrypt) : Type 0 where
  pub ciphertext : td.ciphertext < 0x1_0000_0000
  pub shares : Below handles 16 td.shares

-- an operation after which an instance and its plaintext are in range
abbrev pub Safe : {A : Type 0} → (A → Type 0) → (ThresholdDecrypt → Tape → Run ThresholdDecrypt A) → Type 0
Safe Q k = (td : ThresholdDecrypt) (p : Tape) → InstanceOk td → AllSmall p.rest → Kept InstanceOk Q (k td p)

pub new_ok : InstanceOk new
new_ok = record { ciphertext = omega arith; shares = below_zeros handles 16 (λ i. omega arith) }

share_ok : (td : ThresholdDecrypt) (i v : ℕ) → InstanceOk td → v < 0x1_0000_0000 → InstanceOk (with_shares td (set td.shares i v))
share_ok td i v h l = record { ciphertext = h.ciphertext; shares = below_set handles 16 td.shares i v h.shares l }

input_ok : (td : ThresholdDecrypt) → InstanceOk td → InstanceOk (with_input td)
input_ok td h = record { ciphertext = h.ciphertext; shares = h.shares }

end_ok : (td : ThresholdDecrypt) → InstanceOk td → InstanceOk (with_end td)
end_ok td h = record { ciphertext = h.ciphertext; shares = h.shares }

pub set_ok : (td : ThresholdDecrypt) (c : ℕ) → InstanceOk td → c < 0x1_0000_0000 → InstanceOk (with_ciphertext td c)
set_ok td c h l = record { ciphertext = l; shares = h.shares }

pub rules : (n : ℕ) → Combines (small n) (keeping n InstanceOk)
unfolding SmallOption
rules n = record {
  checks = record {
    reads = λ k e. within_below 9 11 16 k (omega arith) e;
    faults = λ k a e. tt;
    share = λ td i v l h u. (share_ok td i v h l, tt);
    removed = λ td i h u. (share_ok td i 0 h (omega arith), tt);
  };
  sends = λ a b. tt;
  text = tt;
  number = tt;
  input = λ td h u. (input_ok td h, tt);
  end = λ td h u. (end_ok td h, tt);
}

pub set_safe : (proposer ciphertext : ℕ) → ciphertext < 0x1_0000_0000 → Safe Any (set_ciphertext proposer ciphertext)
unfolding SmallOption
set_safe proposer ciphertext l td p h o = kept_any (set_keeps (small 0) (keeping 0 InstanceOk) proposer ciphertext refl tt (λ td h u. (set_ok td ciphertext h l, tt)) 0 td p h o tt)

module _ (net : NetworkInfo) (proposer : ℕ) where
  pub start_safe : Safe SmallOption (start_decryption net proposer)
  unfolding SmallOption
  start_safe td p h o = start_keeps (small 0) (keeping 0 InstanceOk) net proposer (rules 0) 0 td p h o tt

  pub try_safe : Safe SmallOption (try_output net proposer)
  unfolding SmallOption
  try_safe td p h o = try_keeps (small 0) (keeping 0 InstanceOk) net proposer (rules 0) 0 td p h o tt

  pub store_safe : (sender share : ℕ) → share < 0x1_0000_0000 → Safe SmallOption (store_share net proposer sender share)
  unfolding SmallOption
  store_safe sender share l td p h o = store_keeps (small 0) (keeping 0 InstanceOk) net proposer (rules 0) sender share l 0 td p h o tt

  -- a share message
  pub handle_safe : (sender share : ℕ) → share < 0x1_0000_0000 → Safe SmallOption (handle_message net proposer sender share)
  unfolding SmallOption
  handle_safe sender share l td p h o = handle_keeps (small 0) (keeping 0 InstanceOk) net proposer (rules 0) sender share l 0 td p h o tt
