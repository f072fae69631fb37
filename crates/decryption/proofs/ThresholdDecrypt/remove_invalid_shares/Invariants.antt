use Rattle.std.proofs.Common.{◌-◌, ◌≡◌}
use Rattle.steps.specs.Written.{out_of, same_table}
use Rattle.steps.specs.Runs.{leaves}
use Rattle.decryption.specs.Decrypt.{remove_from}
use Rattle.decryption.proofs.ThresholdDecrypt.remove_invalid_shares.Given as goal

abbrev pub invariant-loop-sender : goal.invariant-loop-sender
invariant-loop-sender l = record {
  run : leaves (out_of l.writer) (remove_from (16 - l.sender) l.sender l.self l.reader) ≡ leaves (out_of l.fn.writer) (remove_from 16 0 l.fn.self l.fn.reader);
  table : same_table l.fn.writer l.writer;
}
