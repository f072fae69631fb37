-- `load_instance` meets its contract: its shares are one part of the words, and zeros. Assumes nothing.
use Rattle.epochwords.specs.Words.{load_instance}
use Rattle.epochwords.proofs.EntryCode.{loaded}
use Rattle.epochwords.proofs.entry.load_instance.Goals as goal

pub returns : goal.returns
unfolding load_instance
returns c = rw (loaded c.args.n c.args.p c.requires.0.few c.requires.1 c.args.epoch.now c.requires.0.long c.copy.new.to _ c.record_at-first.ensures c.copy.ensures, c.record_at.ensures, c.record_at-2.ensures, c.record_at-3.ensures)
