-- `store_entry` meets its contract, word by word. Assumes nothing.
use Rattle.std.proofs.Common.{◌∙◌}
use Rattle.epochwords.specs.Words.{store_entry}
use Rattle.epochwords.proofs.EntryCode.{flag_is}
use Rattle.epochwords.proofs.entry.store_entry.Goals as goal

pub returns : goal.returns
unfolding store_entry
returns c = c.store_shares.ensures ∙ rw (c.record_at.ensures, c.record_at-2.ensures, c.record_at-3.ensures, c.record_at-4.ensures, c.record_at-5.ensures, c.from.ensures, c.from-2.ensures, flag_is c.args.td.now.had_input, flag_is c.args.td.now.terminated)
