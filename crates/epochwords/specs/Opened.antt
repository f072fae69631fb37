-- The definitions that a closed term computes with: a line `unfolding opened` opens them all.
use Rattle.decryption.specs.Opened as DecryptionOpened
use Rattle.subset.specs.Opened as SubsetOpened
use Rattle.epochwords.specs.Words
use Rattle.epochwords.specs.Batch

unfoldable pub opened : Unit {0}
unfolding DecryptionOpened.opened SubsetOpened.opened
    Words.is_accepted Words.accept Words.asks Words.is_settled Words.is_open Words.shares_from Words.load_instance
    Words.load_entry Words.load_decryption Words.set_shares Words.store_entry Words.store_decryption Words.all_from
    Words.record_in_range Words.small_in_range Words.records_in_range Words.most_kept Words.epoch_in_range
    Batch.decrypted_from Batch.is_ready_in Batch.is_read Batch.read_at Batch.read_from Batch.entries_from Batch.output_batch_in
opened = tt
