use Rattle.std.proofs.Common.{◌≡◌, length}
use Rattle.steps.specs.Written.{out_of, same_table}
use Rattle.steps.specs.Runs.{leaves}
use Rattle.steps.proofs.ReaderCode.{parts_of}
use Rattle.steps.proofs.reader.Reader.read_parts.Given as goal

abbrev pub invariant-loop-found : goal.invariant-loop-found
invariant-loop-found l = record {
  parts : leaves (out_of l.writer) (parts_of l.content l.proposer l.output l.self) ≡ leaves (out_of l.initial.writer) (parts_of l.content l.proposer l.initial.output l.initial.self);
  table : same_table l.initial.writer l.writer;
}

abbrev pub decreases-loop-found : goal.decreases-loop-found
decreases-loop-found l = length l.self.rest
