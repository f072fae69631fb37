-- The batches and faults 5 that the host reads from a finished step are those of its log. Assumes nothing.
use Rattle.std.proofs.Common.{ℕ, ◌≡◌, refl, ap, ◌∙◌, List, [], ◌∷◌, ◌++◌, map, cond, eqb, get_or}
use Rattle.steps.specs.Answers.{Rec, chain}
use Rattle.steps.specs.Steps.{Entry, Item, item, faults, outputs, written}
use Rattle.steps.proofs.ReadBack.{item_of, written_read}
use Rattle.epoch.proofs.Interface.{fives_among}
use Rattle.steps.specs.Batches.{BatchEntry as Shown, Batch, entries_in, batches_in, fives_in, batches_of, fives_of}
use Rattle.agreement.proofs.OneBatch.{items_of}

-- as Batches.antt has them of records
unfoldable pub entries_among : List Item → List Shown
entries_among [] = []
entries_among (x ∷ xs) = cond (eqb x.kind 2) (record { proposer = x.a; plaintext = x.b } ∷ entries_among xs) []

unfoldable pub batches_among : List Item → List Batch
batches_among [] = []
batches_among (x ∷ xs) =
    cond (eqb x.kind 1) (record { epoch = x.a; count = x.b; entries = entries_among xs } ∷ []) [] ++ batches_among xs

entries_are : (rs : List Rec) → entries_in rs ≡ entries_among (map item_of rs)
unfolding entries_in entries_among
entries_are [] = refl
entries_are (r ∷ rs) = rw (entries_are rs)

batches_are : (rs : List Rec) → batches_in rs ≡ batches_among (map item_of rs)
unfolding batches_in batches_among
batches_are [] = refl
batches_are (r ∷ rs) = rw (entries_are rs, batches_are rs)

fives_are : (rs : List Rec) → fives_in rs ≡ fives_among (map item_of rs)
unfolding fives_in fives_among
fives_are [] = refl
fives_are (r ∷ rs) = rw (fives_are rs)

pub batches_read : (w : List ℕ) (l : List Entry) (epoch : ℕ) → batches_of (written w l epoch) ≡ batches_among (outputs l)
batches_read w l epoch = batches_are (chain (written w l epoch) (get_or (written w l epoch) 2 0)) ∙ ap batches_among (written_read w l epoch).2

pub fives_read : (w : List ℕ) (l : List Entry) (epoch : ℕ) → fives_of (written w l epoch) ≡ fives_among (faults l)
fives_read w l epoch = fives_are (chain (written w l epoch) (get_or (written w l epoch) 1 0)) ∙ ap fives_among (written_read w l epoch).1

-- A BATCH'S OUTPUTS, and what comes behind them
entries_lead : (es : List Shown) (rest : List Item) → entries_among rest ≡ [] → entries_among (items_of es ++ rest) ≡ es
unfolding entries_among items_of
entries_lead [] rest e = e
entries_lead (x ∷ es) rest e = ap (λ (l : List Shown). x ∷ l) (entries_lead es rest e)

batches_behind : (es : List Shown) (rest : List Item) → batches_among (items_of es ++ rest) ≡ batches_among rest
unfolding batches_among items_of
batches_behind [] rest = refl
batches_behind (x ∷ es) rest = batches_behind es rest

pub batch_first : (epoch count : ℕ) (es : List Shown) (rest : List Item) → entries_among rest ≡ []
    → batches_among (item 1 epoch count ∷ (items_of es ++ rest)) ≡ record { epoch = epoch; count = count; entries = es } ∷ batches_among rest
unfolding batches_among
batch_first epoch count es rest e = rw (entries_lead es rest e, batches_behind es rest)
