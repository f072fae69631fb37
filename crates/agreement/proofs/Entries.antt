-- The output of an epoch with its values: the entries of a batch, and the decrypted contributions of a complete epoch. Assumes nothing.
use Rattle.std.proofs.Common.{ℕ, ◌<◌, arith, ◌≡◌, refl, sym, ◌⊎◌, inl, inr, List, [], ◌∷◌, ◌++◌, Bool, true, false, cond, Option, None, Some, eqb, get_or, eqb-true}
use mathlib.Core.List.{Memᴰ}
use Rattle.network.specs.declared.network_info.NetworkInfo.{NetworkInfo}
use Rattle.steps.specs.Answers.{Rec}
use Rattle.steps.specs.Taken.{is_true}
use Rattle.subset.specs.Words.{status_at}
use Rattle.epochwords.specs.declared.SubsetHandlingStrategy.{SubsetHandlingStrategy}
use Rattle.epochwords.specs.Words.{is_complete, is_accepted, DecryptionState, missing, ongoing, complete, load_decryption}
use Rattle.epoch.proofs.EntryInvariant.{TextOk}
use Rattle.epoch.proofs.Invariant.{Going, Done, Holds}
use Rattle.agreement.specs.History.{Event, decision_taken, plaintext, Handed, names_of}
use Rattle.agreement.specs.Outputs.{paired, pairs_in, pairs_read, pairs_given, plaintext_of}
use Rattle.agreement.proofs.OneBatch.{entries_of}
use Rattle.agreement.proofs.BatchesDealt.{InAll, of_names, is_true_lem}
use Rattle.agreement.proofs.Invariant.{Slot, vacant, lives}

-- THE ENTRIES that 13s give, where `text` is the plaintext of every proposer that they name
pairs_are : (text : ℕ → ℕ) (x : ℕ → Option ℕ) (rs : List Rec) → ((p : ℕ) → Memᴰ p (names_of rs) → x p ≡ Some (text p)) → pairs_in (entries_of text rs) ≡ pairs_read x rs
unfolding names_of entries_of pairs_in pairs_read
pairs_are text x [] h = refl
pairs_are text x (r ∷ rs) h = go (eqb r.a 0) (pairs_are text x rs (λ p m. h p (Memᴰ.tail m)))
  where
    go : (t : Bool) → pairs_in (entries_of text rs) ≡ pairs_read x rs
        → pairs_in (cond t [] (record { proposer = r.b; plaintext = text r.b } ∷ []) ++ entries_of text rs) ≡ cond t [] (paired r.b (x r.b) ∷ []) ++ pairs_read x rs
    go true ih = ih
    go false ih = rw (h r.b (Memᴰ.head refl), ih)

pub entries_given : (n f : ℕ) (encrypted : ℕ → Bool) (h : List Event) (x : Handed) → InAll n f encrypted h x.batch x.thirteens
    → pairs_in x.batch.entries ≡ pairs_given encrypted h x
unfolding plaintext pairs_given
entries_given n f encrypted h x k =
    rw k.entries
    (pairs_are k.text (plaintext encrypted h x.batch.epoch) x.thirteens (λ p m.
    let d = of_names n f encrypted h x k p m in
    k.texts p d.0 (is_true_lem (decision_taken h x.batch.epoch p) d.1)))

either_none : (a : Bool) → cond {A = Option ℕ} a None None ≡ None
either_none true = refl
either_none false = refl

-- A DECRYPTION ENTRY, by whether its proposer is accepted
text_is : (encrypted : Bool) (d : DecryptionState) (a : Bool) (v t : Option ℕ) → TextOk encrypted d a v t → plaintext_of d ≡ cond a (cond encrypted t v) None
unfolding TextOk plaintext_of
text_is true missing a v t h = rw h (sym (either_none a))
text_is true (ongoing td) a v t h = rw h.0 (sym (either_none a))
text_is true (complete x) a v t h = rw (h.1, h.0)
text_is false missing a v t h = rw h.1
text_is false (ongoing td) a v t h = rw h.2
text_is false (complete x) a v t h = rw (h.2, h.1)

module _ (net : NetworkInfo) (strategy : SubsetHandlingStrategy) (encrypted : Bool) (x : List ℕ) (v d t : ℕ → Option ℕ) where
  pub slot_decrypted : Slot Holds net strategy encrypted x v d t → is_complete x ≡ true → (q : ℕ) → q < net.num_nodes
      → plaintext_of (load_decryption net.num_nodes x q) ≡ cond (is_true (d q)) (cond encrypted (t q) (v q)) None
  slot_decrypted (vacant i a b c) e q l = absurd (omega (arith, eqb-true (get_or x status_at 0) 0 i, eqb-true (get_or x status_at 0) 2 e))
  slot_decrypted (lives there h) e q l = go h.stage
    where
      go : Going net strategy x v d ⊎ Done net x v d → plaintext_of (load_decryption net.num_nodes x q) ≡ cond (is_true (d q)) (cond encrypted (t q) (v q)) None
      go (inl s) = absurd (omega (arith, s.status, eqb-true (get_or x status_at 0) 2 e))
      go (inr s) = rw (← s.accepted q l) (text_is encrypted (load_decryption net.num_nodes x q) (is_accepted x q) (v q) (t q) (h.texts q l))
