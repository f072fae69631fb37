-- The definitions that a closed term computes with: a line `unfolding opened` opens them all.
use Rattle.steps.specs.Table
use Rattle.steps.specs.Verdicts
use Rattle.steps.specs.Answers
use Rattle.steps.specs.Steps
use Rattle.steps.specs.Runs
use Rattle.steps.specs.Parts
use Rattle.steps.specs.Taken
use Rattle.steps.specs.Bits
use Rattle.steps.specs.Times
use Rattle.steps.specs.Batches

unfoldable pub opened : Unit {0}
unfolding Table.record_ok Table.context_after Table.link_ok Table.may_follow Table.chain_ok Table.shape_ok Table.table_ok
    Answers.link Answers.rec_at Answers.on_record Answers.walk Answers.chain Answers.first_record Answers.ask_for Answers.ask
    Answers.ask_about
    Steps.messages Steps.faults Steps.outputs Steps.link_after Steps.chain_words Steps.first_at Steps.laid_out Steps.next_of
    Steps.advance Steps.put_at Steps.put_entry Steps.put_all Steps.first_of Steps.put_header
    Verdicts.number_of
    Runs.onward_as Runs.onward Runs.heard_as Runs.heard
    Parts.is_part Parts.part_entries Parts.output_of Parts.last_of Parts.last_output Parts.parts_from
    Taken.or_else Taken.is_there Taken.is_true Taken.last_output_in Taken.first_taken Taken.is_asked Taken.ones_from
    Taken.concerned_after Taken.concerns Taken.first_decrypted Taken.thirteens_in
    Bits.has_bit Bits.with_bit Bits.count_bits Bits.bits_from
    Times.times_asked
    Batches.entries_in Batches.batches_in Batches.fives_in
opened = tt
