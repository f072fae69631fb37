-- An entry of decryption holds what was decrypted for its proposer, and shares and contributions keep that. Assumes nothing.
use Rattle.std.proofs.Common.{ℕ, ◌≤◌, ◌<◌, ◌≡◌, refl, sym, ap, ◌∙◌, List, Bool, true, false, cond, ◌||◌, Option, None, Some, arith, length, get_or, eqb}
use Rattle.std.proofs.lemmas.Option.{none-some}
use Rattle.network.specs.declared.network_info.NetworkInfo.{NetworkInfo}
use Rattle.steps.specs.Answers.{Rec, Tape}
use Rattle.steps.specs.Runs.{Verdict, going, refused, failed, Run, ends, onward_as, onward}
use Rattle.steps.specs.Taken.{or_else, concerns, first_decrypted}
use Rattle.steps.proofs.TakenFromChain.{or_else_none}
use Rattle.steps.proofs.ReadByKinds.{Past, past_same, past_then}
use Rattle.decryption.specs.declared.ThresholdDecrypt.{ThresholdDecrypt}
use Rattle.decryption.specs.Decrypt.{new, handle_message as handle_share}
use Rattle.subset.specs.Words.{epoch_length, record_at}
use Rattle.steps.proofs.AfterRun.{Afterwards, after_map}
use Rattle.steps.proofs.GivenWithLog.{GivesAs}
use Rattle.subset.proofs.TakenTests.{more, link_more}
use Rattle.epochwords.specs.Words.{is_accepted, DecryptionState, missing, ongoing, complete, entry_none, entry_ongoing, asks, load_entry, decryption_at, plaintext_at, ciphertext_at, load_instance, load_decryption, store_decryption}
use Rattle.epoch.specs.Epoch.{entry_after, process_decryption, call_entry, input_ciphertext}
use Rattle.epoch.proofs.QuietLayers.{decryption_kinds}
use Rattle.epoch.proofs.Plaintexts.{opens_none, Ran, SharedWith, input_ran, share_ran}
use Rattle.epochwords.proofs.EntryStored.{entry_tag, entry_plaintext, entry_ciphertext, store_size, store_low, store_other, store_subset}

-- AN ENTRY, by whether the epoch is encrypted and its proposer is accepted, by its value v and by what was decrypted, t
unfoldable pub TextOk : Bool → DecryptionState → Bool → Option ℕ → Option ℕ → Type 0
TextOk true missing a v t = t ≡ None
TextOk true (ongoing td) a v t = (t ≡ None) × ((td.ciphertext ≡ 0 → ⊥) → a ≡ true)
TextOk true (complete x) a v t = (t ≡ Some x) × (a ≡ true)
TextOk false missing a v t = (t ≡ None) × (a ≡ false)
TextOk false (ongoing td) a v t = (t ≡ None) × (td.ciphertext ≡ 0) × (a ≡ false)
TextOk false (complete x) a v t = (t ≡ None) × (v ≡ Some x) × (a ≡ true)

-- of the same three words
pub text_words : (encrypted : Bool) (n : ℕ) (w w' : List ℕ) (q : ℕ) (a : Bool) (v t : Option ℕ)
    → ((j : ℕ) → 2 ≤ j → j < 5 → get_or w' (record_at n q j) 0 ≡ get_or w (record_at n q j) 0)
    → TextOk encrypted (load_decryption n w q) a v t → TextOk encrypted (load_decryption n w' q) a v t
unfolding TextOk load_decryption load_instance
text_words encrypted n w w' q a v t f =
    rw (f 2 (omega arith) (omega arith)) (go encrypted (eqb (get_or w (decryption_at n q) 0) 0) (eqb (get_or w (decryption_at n q) 0) 1))
  where
    cipher : get_or w' (ciphertext_at n q) 0 ≡ get_or w (ciphertext_at n q) 0
    cipher = f 4 (omega arith) (omega arith)

    plain : get_or w' (plaintext_at n q) 0 ≡ get_or w (plaintext_at n q) 0
    plain = f 3 (omega arith) (omega arith)

    go : (e x y : Bool) → TextOk e (cond x missing (cond y (ongoing (load_instance n w q)) (complete (get_or w (plaintext_at n q) 0)))) a v t
        → TextOk e (cond x missing (cond y (ongoing (load_instance n w' q)) (complete (get_or w' (plaintext_at n q) 0)))) a v t
    go true true y h = h
    go true false true h = (h.0, λ z. h.1 (λ e. z (cipher ∙ e)))
    go true false false h = (h.0 ∙ ap Some (sym plain), h.1)
    go false true y h = h
    go false false true h = (h.0, cipher ∙ h.1, h.2)
    go false false false h = (h.0, h.1 ∙ ap Some (sym plain), h.2)

-- of an entry that was stored
module _ (n p : ℕ) (w : List ℕ) (inside : p < n) (size : length w ≡ epoch_length n) where
  pub text_stored : (encrypted : Bool) (d : DecryptionState) (a : Bool) (v t : Option ℕ) → TextOk encrypted d a v t → TextOk encrypted (load_decryption n (store_decryption n w p d) p) a v t
  unfolding load_decryption load_instance store_decryption TextOk
  text_stored encrypted missing a v t h = rw (entry_tag n p w 0 0 new inside size) h
  text_stored true (ongoing td) a v t h = rw (entry_tag n p w 1 0 td inside size, entry_ciphertext n p w 1 0 td inside size) h
  text_stored false (ongoing td) a v t h = rw (entry_tag n p w 1 0 td inside size, entry_ciphertext n p w 1 0 td inside size) h
  text_stored encrypted (complete x) a v t h = rw (entry_tag n p w 2 x new inside size, entry_plaintext n p w 2 x new inside size) h

-- a value that is there stays
pub text_value : (encrypted : Bool) (d : DecryptionState) (a : Bool) (v v' t : Option ℕ) → ((x : ℕ) → v ≡ Some x → v' ≡ Some x) → TextOk encrypted d a v t → TextOk encrypted d a v' t
unfolding TextOk
text_value true missing a v v' t g h = h
text_value true (ongoing td) a v v' t g h = h
text_value true (complete x) a v v' t g h = h
text_value false missing a v v' t g h = h
text_value false (ongoing td) a v v' t g h = h
text_value false (complete x) a v v' t g h = (h.0, g x h.1, h.2)

-- nothing is lost with the entry of a proposer that is not accepted
pub text_drop : (encrypted : Bool) (d : DecryptionState) (v t : Option ℕ) → TextOk encrypted d false v t → TextOk encrypted missing false v t
unfolding TextOk
text_drop true missing v t h = h
text_drop true (ongoing td) v t h = h.0
text_drop true (complete x) v t h = let z : ◌≡◌ {A = ℕ} 0 1 = false_true h.1 in absurd (omega arith)
  where
    false_true : ◌≡◌ {A = Bool} false true → ◌≡◌ {A = ℕ} 0 1
    false_true e = ap (λ x. cond x 1 0) e
text_drop false missing v t h = h
text_drop false (ongoing td) v t h = (h.0, refl)
text_drop false (complete x) v t h = (h.0, refl)

-- BETWEEN ws AND r, read for contributions and shares: what was decrypted went from t to t', and a 12 concerns who' where it concerned who
pub record Opening (t : ℕ → Option ℕ) (who : Option ℕ) (ws : List Rec) (t' : ℕ → Option ℕ) (who' : Option ℕ) (r : List Rec) : Type 0 where
  pub past : Past decryption_kinds ws r
  pub text : (q : ℕ) → or_else (t q) (first_decrypted q who ws) ≡ or_else (t' q) (first_decrypted q who' r)

pub opening_same : (t : ℕ → Option ℕ) (who : Option ℕ) (ws : List Rec) → Opening t who ws t who ws
opening_same t who ws = record { past = past_same decryption_kinds ws; text = λ q. refl }

pub opening_then : {t t' t'' : ℕ → Option ℕ} {who who' who'' : Option ℕ} {ws r z : List Rec} → Opening t who ws t' who' r → Opening t' who' r t'' who'' z → Opening t who ws t'' who'' z
opening_then a b = record { past = past_then decryption_kinds a.past b.past; text = λ q. a.text q ∙ b.text q }

-- p's text is what it was or else o
pub opening_ran : (t : ℕ → Option ℕ) (p : ℕ) (ws : List Rec) (o : Option ℕ) (r : List Rec) → Ran ws o r → Opening t (Some p) ws (more t p o) (Some p) r
unfolding concerns
opening_ran t p ws o r h = record {
  past = h.past;
  text = λ q. ap (or_else (t q)) (h.opens q (Some p)) ∙ link_more t p q o (first_decrypted q (Some p) r);
}

-- WORDS THAT DIFFER in p's entry only
pub record Stays (n p : ℕ) (w w' : List ℕ) : Type 0 where
  pub size : length w' ≡ length w
  pub low : (i : ℕ) → i < 16 → get_or w' i 0 ≡ get_or w i 0
  pub other : (q k : ℕ) → k < 8 → (q ≡ p → ⊥) → get_or w' (record_at n q k) 0 ≡ get_or w (record_at n q k) 0
  pub subset : (q k : ℕ) → k < 8 → (2 ≤ k → k ≡ 7) → get_or w' (record_at n q k) 0 ≡ get_or w (record_at n q k) 0

pub stays_same : (n p : ℕ) (w : List ℕ) → Stays n p w w
stays_same n p w = record { size = refl; low = λ i l. refl; other = λ q k l ne. refl; subset = λ q k l f. refl }

pub stays_store : (n p : ℕ) (w : List ℕ) (d : DecryptionState) → Stays n p w (store_decryption n w p d)
stays_store n p w d = record { size = store_size n p w d; low = store_low n p w d; other = store_other n p w d; subset = store_subset n p w d }

-- A CALL OF AN ENTRY
pub record Dealt (encrypted : Bool) (n p : ℕ) (w : List ℕ) (a : Bool) (v t : Option ℕ) (ws : List Rec) (w' : List ℕ) (r : List Rec) : Type 0 where
  pub o : Option ℕ
  pub ran : Ran ws o r
  pub stays : Stays n p w w'
  pub text : TextOk encrypted (load_decryption n w' p) a v (or_else t o)

dealt_not : (encrypted : Bool) (n p : ℕ) (w : List ℕ) (a : Bool) (v t : Option ℕ) (ws : List Rec) → TextOk encrypted (load_decryption n w p) a v t → Dealt encrypted n p w a v t ws w ws
dealt_not encrypted n p w a v t ws h = record { o = None; ran = record { opens = opens_none ws; past = past_same decryption_kinds ws }; stays = stays_same n p w; text = rw (or_else_none t) h }

module _ (net : NetworkInfo) (p : ℕ) (w : List ℕ) where
  pub process_after : (r : Run ThresholdDecrypt (Option ℕ)) (P : List ℕ → Tape → Type 0) → Afterwards r (λ o td z. P (store_decryption net.num_nodes w p (entry_after (going o) td)) z)
      → Afterwards (process_decryption net p w r) (λ _ w' z. P w' z)
  unfolding process_decryption onward onward_as
  process_after r P h = go r.verdict h
    where
      stop : Option ℕ → List ℕ → Tape → Run (List ℕ) (Unit {0})
      stop _ w q = ends (going tt) w q

      go : (v : Verdict (Option ℕ)) → GivesAs v r.state r.tape r.log (λ o td z l. P (store_decryption net.num_nodes w p (entry_after (going o) td)) z)
          → Afterwards (onward_as v (record { state = store_decryption net.num_nodes w p (entry_after v r.state); verdict = v; tape = r.tape; log = r.log }) stop) (λ _ w' z. P w' z)
      go (going o) h = h
      go refused h = tt
      go (failed n) h = tt

share_text : (encrypted : Bool) (td td' : ThresholdDecrypt) (o : Option ℕ) (a : Bool) (v t : Option ℕ) (ws r : List Rec) → TextOk encrypted (ongoing td) a v t → SharedWith td td' ws o r
    → TextOk encrypted (entry_after (going o) td') a v (or_else t o)
unfolding TextOk entry_after or_else
share_text true td td' None a v t ws r h s = (rw h.0, λ n. h.1 (λ z. n (s.keeps ∙ z)))
share_text true td td' (Some x) a v t ws r h s = (rw h.0, h.1 (λ z. absurd (none-some x (sym (s.early z)))))
share_text false td td' None a v t ws r h s = (rw h.0, s.keeps ∙ h.1, h.2)
share_text false td td' (Some x) a v t ws r h s = absurd (none-some x (sym (s.early h.1)))

text_new : (encrypted : Bool) (a : Bool) (v t : Option ℕ) → TextOk encrypted missing a v t → TextOk encrypted (ongoing new) a v t
unfolding TextOk
text_new true a v t h = (h, λ n. absurd (n refl))
text_new false a v t h = (h.0, refl, h.1)

-- a ciphertext is set for a proposer that is then accepted
input_text : (td : ThresholdDecrypt) (o : Option ℕ) (v t : Option ℕ) → t ≡ None → TextOk true (entry_after (going o) td) true v (or_else t o)
unfolding TextOk entry_after or_else
input_text td None v t e = (rw e, λ n. refl)
input_text td (Some x) v t e = (rw e, refl)

pub text_accept : (d : DecryptionState) (a : Bool) (v t : Option ℕ) → TextOk true d a v t → TextOk true d true v t
unfolding TextOk
text_accept missing a v t h = h
text_accept (ongoing td) a v t h = (h.0, λ n. refl)
text_accept (complete x) a v t h = (h.0, refl)

module _ (net : NetworkInfo) (p : ℕ) (w : List ℕ) (u : Tape) (inside : p < net.num_nodes) (size : length w ≡ epoch_length net.num_nodes) where
  abbrev n : ℕ
  n = net.num_nodes

  pub share_entry : (encrypted : Bool) (sender share : ℕ) (a : Bool) (v t : Option ℕ) → TextOk encrypted (load_decryption n w p) a v t
      → Afterwards (call_entry net p (handle_share net p sender share) w u) (λ _ w' z. Dealt encrypted n p w a v t u.rest w' z.rest)
  unfolding call_entry asks load_entry load_decryption
  share_entry encrypted sender share a v t h = go (eqb (get_or w (decryption_at n p) 0) entry_none) (eqb (get_or w (decryption_at n p) 0) entry_ongoing) h
    where
      from : (td : ThresholdDecrypt) → TextOk encrypted (ongoing td) a v t
          → Afterwards (process_decryption net p w (handle_share net p sender share td u)) (λ _ w' z. Dealt encrypted n p w a v t u.rest w' z.rest)
      from td k =
          process_after net p w (handle_share net p sender share td u) (λ w' z. Dealt encrypted n p w a v t u.rest w' z.rest)
          (after_map (handle_share net p sender share td u) _ _ (share_ran net p sender share td u) (λ o td' z s. record {
            o = o;
            ran = s.ran;
            stays = stays_store n p w (entry_after (going o) td');
            text = text_stored n p w inside size encrypted (entry_after (going o) td') a v (or_else t o) (share_text encrypted td td' o a v t u.rest z.rest k s);
          }))

      go : (x y : Bool) → TextOk encrypted (cond x missing (cond y (ongoing (load_instance n w p)) (complete (get_or w (plaintext_at n p) 0)))) a v t
          → Afterwards (cond (x || y) (process_decryption net p w (handle_share net p sender share (cond x new (load_instance n w p)) u)) (ends (going tt) w u)) (λ _ w' z. Dealt encrypted n p w a v t u.rest w' z.rest)
      go true y k = from new (text_new encrypted a v t k)
      go false true k = from (load_instance n w p) k
      go false false k = dealt_not encrypted n p w a v t u.rest h

  pub input_entry : (value : ℕ) (a : Bool) (v t : Option ℕ) → TextOk true (load_decryption n w p) a v t
      → Afterwards (call_entry net p (input_ciphertext net p value) w u) (λ _ w' z. Dealt true n p w true v t u.rest w' z.rest)
  unfolding call_entry asks load_entry load_decryption TextOk
  input_entry value a v t h = go (eqb (get_or w (decryption_at n p) 0) entry_none) (eqb (get_or w (decryption_at n p) 0) entry_ongoing) h
    where
      from : (td : ThresholdDecrypt) → t ≡ None → Afterwards (process_decryption net p w (input_ciphertext net p value td u)) (λ _ w' z. Dealt true n p w true v t u.rest w' z.rest)
      from td k =
          process_after net p w (input_ciphertext net p value td u) (λ w' z. Dealt true n p w true v t u.rest w' z.rest)
          (after_map (input_ciphertext net p value td u) _ _ (input_ran net p value td u) (λ o td' z s. record {
            o = o;
            ran = s;
            stays = stays_store n p w (entry_after (going o) td');
            text = text_stored n p w inside size true (entry_after (going o) td') true v (or_else t o) (input_text td' o v t k);
          }))

      go : (x y : Bool) → TextOk true (cond x missing (cond y (ongoing (load_instance n w p)) (complete (get_or w (plaintext_at n p) 0)))) a v t
          → Afterwards (cond (x || y) (process_decryption net p w (input_ciphertext net p value (cond x new (load_instance n w p)) u)) (ends (going tt) w u)) (λ _ w' z. Dealt true n p w true v t u.rest w' z.rest)
      go true y k = from new k
      go false true k = from (load_instance n w p) k.0
      go false false k = dealt_not true n p w true v t u.rest (text_accept (load_decryption n w p) a v t h)

-- THE ENTRIES of all proposers
abbrev pub TextsOk : Bool → ℕ → List ℕ → (ℕ → Option ℕ) → (ℕ → Option ℕ) → Type 0
TextsOk encrypted n w v t = (q : ℕ) → q < n → TextOk encrypted (load_decryption n w q) (is_accepted w q) (v q) (t q)
