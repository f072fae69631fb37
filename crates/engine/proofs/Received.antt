-- RECEIVED PROPOSALS of a state in range are the ones of a word of bits: those of the current epoch that are in HasValue or Complete with 1,
-- after Done the accepted ones. Assumes nothing.
use Rattle.std.proofs.Common.{ℕ, ◌<◌, ◌^◌, ◌≡◌, List, true, arith}
use lib.Count.{ones}
use Rattle.subset.specs.Words.{accepted_at, accepted_of}
use Rattle.subset.proofs.Ranges.{limit_own}
use Rattle.epoch.specs.Orders.{received_bits}
use Rattle.epoch.proofs.Orders.{received_word}
use Rattle.state.specs.State.{nodes, current_epoch, epoch_words, state_ok}
use Rattle.work.specs.HoneyBadger.{received_proposals}
use Rattle.state.proofs.RangesState.{words_in_range}

-- the accepted bits are those of nodes
pub accepted_below : (w : List ℕ) → state_ok w ≡ true → (e : ℕ) → accepted_of (epoch_words w e) < 2 ^ nodes w
accepted_below w ok e = rw (limit_own (nodes w) accepted_at (omega arith)) at ((words_in_range w ok e).below accepted_at)

pub received_ones : (w : List ℕ) → state_ok w ≡ true → received_proposals w ≡ ones (received_bits (nodes w) (epoch_words w (current_epoch w)))
unfolding received_proposals
received_ones w ok =
    received_word (nodes w) (epoch_words w (current_epoch w)) (accepted_below w ok (current_epoch w))
