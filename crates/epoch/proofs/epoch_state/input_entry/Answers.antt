-- `input_entry` meets its contract where the entry is called. Assumes nothing.
use Rattle.std.proofs.Common.{◌∙◌}
use Rattle.epoch.proofs.EntryCode.{entry_called}
use Rattle.epoch.proofs.epoch_state.input_entry.Goals as goal

pub returns-clause-run : goal.returns-clause-run
returns-clause-run c = entry_called _ _ _ _ _ c.in-Some.ensures.0 _ _ _ c.input_ciphertext-called.new.writer _ (c.input_ciphertext-called.ensures.run ∙ rw c.in-Some.ensures.1) _ _ (c.process_decryption.ensures _)
