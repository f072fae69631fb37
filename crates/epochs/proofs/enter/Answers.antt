-- Words that are in range have the list of contributions that the call requires.
use Rattle.std.proofs.Common.{◌≡◌, ◌<◌, ℕ, Bool, true, List, sym, ◌∙◌}
use Rattle.epochwords.specs.declared.SubsetHandlingStrategy.{SubsetHandlingStrategy}
use Rattle.epochwords.specs.Shape.{EpochWords, Listed}
use Rattle.epochwords.specs.Words.{epoch_in_range}
use Rattle.epochwords.proofs.LimitsOfWords.{epoch_below, ok_listed}
use Rattle.epochs.proofs.enter.Goals as goal

-- what `epoch_in_range` has answered, where the test went on
listed : (strategy : SubsetHandlingStrategy) (n : ℕ) (w : List ℕ) (b : Bool) → 0 < n → EpochWords n w → b ≡ epoch_in_range strategy n w → b ≡ true → Listed n w
listed strategy n w b some words answer went_on =
    ok_listed n w (epoch_below n w strategy some words.long (sym answer ∙ went_on))

pub handle-requires : goal.handle-requires
handle-requires c =
    (c.requires, listed _ _ _ _ c.args.call.how.network.some c.requires c.epoch_in_range.ensures c.if-not-epoch_in_range.false, c.args.call.comes)
