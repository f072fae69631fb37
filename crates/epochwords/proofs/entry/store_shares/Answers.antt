-- `store_shares` meets its contract: the shares are one part of the words. Assumes nothing.
use Rattle.std.proofs.Common.{arith}
use Rattle.epochwords.proofs.EntryCode.{stored}
use Rattle.epochwords.proofs.entry.store_shares.Goals as goal

pub returns : goal.returns
returns c = stored c.args.n c.args.p c.requires.0.few c.requires.1 c.args.epoch.now c.requires.0.long _ c.args.shares.now _ c.record_at-first.ensures (omega (arith, c.requires.0.few)) c.copy.ensures
