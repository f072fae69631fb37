-- Calls of a decryption entry: what the code leaves. Assumes nothing.
use Rattle.std.proofs.Common.{ℕ, ◌≡◌, refl, sym, ap, ◌∙◌, List, [], true, Option, Result, get_or}
use Rattle.network.specs.declared.network_info.NetworkInfo.{NetworkInfo}
use Rattle.steps.specs.declared.kinds.Failure.{Failure}
use Rattle.steps.specs.declared.kinds.Stop.{Stop}
use Rattle.steps.specs.declared.step.Writer.{Writer}
use Rattle.steps.specs.Answers.{Tape}
use Rattle.steps.specs.Kinds.{verdict_of}
use Rattle.steps.specs.Steps.{Entry, Out, put_all}
use Rattle.steps.specs.Runs.{Verdict, going, refused, failed, Run, ends, onward_as, onward, Left, leaves}
use Rattle.steps.specs.Written.{out_of, left, left_reading}
use Rattle.steps.proofs.RunLaws.{leaves_before}
use Rattle.decryption.specs.declared.ThresholdDecrypt.{ThresholdDecrypt}
use Rattle.epochwords.specs.Words.{asks, decryption_at, load_entry, store_decryption}
use Rattle.epoch.specs.Epoch.{entry_after, process_decryption, call_entry}

module _ (net : NetworkInfo) (p : ℕ) (w : List ℕ) where
  -- what the entry's call left is stored: its own entries are put already
  stored_left : (d : Left ThresholdDecrypt (Option ℕ)) (o : Out) (r : Run ThresholdDecrypt (Option ℕ)) → d ≡ leaves o r
      → leaves d.out (process_decryption net p w (ends d.verdict d.state d.tape)) ≡ leaves o (process_decryption net p w r)
  unfolding process_decryption onward onward_as put_all
  stored_left d o r e = rw e (go r.verdict)
    where
      kept : Verdict (Option ℕ) → List Entry → Run (List ℕ) (Option ℕ)
      kept v l = record { state = store_decryption net.num_nodes w p (entry_after v r.state); verdict = v; tape = r.tape; log = l }

      go : (v : Verdict (Option ℕ))
          → leaves (put_all o r.log) (onward_as v (kept v []) (λ _ w t. ends {A = Unit {0}} (going tt) w t))
          ≡ leaves o (onward_as v (kept v r.log) (λ _ w t. ends {A = Unit {0}} (going tt) w t))
      go (going a) = sym (leaves_before o r.log (ends {A = Unit {0}} (going tt) (kept (going a) []).state r.tape))
      go refused = refl
      go (failed c) = refl

  -- an entry that is called, and stored after it
  pub entry_called : (call : ThresholdDecrypt → Tape → Run ThresholdDecrypt (Option ℕ)) (t : Tape) → asks (get_or w (decryption_at net.num_nodes p) 0) ≡ true
      → (td : ThresholdDecrypt) (called : Result (Option ℕ) (Stop Failure)) (q : Tape) (x : Writer) (o : Out) → left td called q x ≡ leaves o (call (load_entry net.num_nodes w p) t)
      → (after : List ℕ) (result : Result (Unit {0}) (Stop Failure)) → left_reading after result q ≡ process_decryption net p w (ends (verdict_of called) td q)
      → left after result q x ≡ leaves o (call_entry net p call w t)
  unfolding call_entry put_all
  entry_called call t a td called q x o e after result k =
      rw a (ap (leaves (out_of x)) k ∙ stored_left (left td called q x) o (call (load_entry net.num_nodes w p) t) e)
