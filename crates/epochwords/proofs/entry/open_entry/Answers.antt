-- `open_entry` meets its contract, by the entry. Assumes nothing.
use Rattle.std.proofs.Common.{◌∙◌, ap, sym, Some}
use Rattle.epochwords.specs.Shape.{decryption_of}
use Rattle.epochwords.proofs.EntryCode.{open_missing, open_ongoing, open_complete}
use Rattle.epochwords.proofs.entry.open_entry.Goals as goal

pub returns-in-None : goal.returns-in-None
returns-in-None c = let o = open_missing _ _ _ c.in-None.ensures in (o.0, c.new.ensures ∙ o.1)

pub returns-in-Some-Ongoing : goal.returns-in-Some-Ongoing
returns-in-Some-Ongoing c = open_ongoing _ _ _ _ (ap (λ d. decryption_of (Some d)) (sym c.in-Some-Ongoing.field-0-is) ∙ c.in-Some-Ongoing.ensures)

pub returns-in-Some-Complete : goal.returns-in-Some-Complete
returns-in-Some-Complete c = open_complete _ _ _ _ (ap (λ d. decryption_of (Some d)) (sym c.in-Some-Complete.field-0-is) ∙ c.in-Some-Complete.ensures)
