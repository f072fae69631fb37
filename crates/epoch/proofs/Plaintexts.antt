-- A run of threshold decryption goes on with the handle of the one answer 12 that it has read, or has read none. Assumes nothing.
use Rattle.std.proofs.Common.{ℕ, ◌<◌, ◌≡◌, refl, sym, ap, ◌∙◌, ◌⊎◌, inl, inr, arith, List, [], ◌∷◌, Bool, true, false, cond, Option, None, Some, leb, eqb, eqb-true, ne_eqb, leb-true}
use Rattle.std.proofs.lemmas.Bool.{and_parts, eqb-false}
use Rattle.network.specs.declared.network_info.NetworkInfo.{NetworkInfo}
use Rattle.steps.specs.Answers.{Rec, Tape}
use Rattle.steps.specs.Taken.{or_else, concerned_after, concerns, first_decrypted}
use Rattle.steps.proofs.ReadByKinds.{Past, past_one}
use Rattle.decryption.specs.declared.ThresholdDecrypt.{ThresholdDecrypt}
use Rattle.decryption.specs.Decrypt.{handle_message as handle_share}
use Rattle.steps.specs.Table.{within}
use Rattle.steps.proofs.Logic.{Terms, Logic}
use Rattle.decryption.proofs.Walk.{Does, handle_keeps as share_keeps}
use Rattle.decryption.proofs.Errors.{handle_keeps, early_none}
use Rattle.steps.proofs.AfterRun.{Afterwards, after_map, after_before, after_with, after_both, after_any, after_onward, Reads, after_ask, after_about}
use Rattle.epoch.specs.Epoch.{input_ciphertext}
use Rattle.epoch.proofs.Walk.{Inputs, input_keeps}
use Rattle.epoch.proofs.QuietLayers.{decryption_kinds, entry_past, share_runs, input_runs}

-- WHAT IS DECRYPTED between ws and r: nothing, or o for the proposer concerned
abbrev pub Same : List Rec → List Rec → Type 0
Same ws r = (q : ℕ) (who : Option ℕ) → first_decrypted q who ws ≡ first_decrypted q who r

abbrev pub Opens : List Rec → Option ℕ → List Rec → Type 0
Opens ws o r = (q : ℕ) (who : Option ℕ) → first_decrypted q who ws ≡ or_else (cond (concerns who q) o None) (first_decrypted q who r)

pub reads_same : (p : Tape) (kind b : ℕ) (u : Tape) → eqb kind 8 ≡ false → eqb kind 12 ≡ false → Reads p kind b u → Same p.rest u.rest
unfolding first_decrypted concerned_after or_else
reads_same p kind b u x y h q who = rw (h.rests, h.of_kind, x, y)

pub reads_eight : (p : Tape) (b : ℕ) (u : Tape) → Reads p 8 b u → (q : ℕ) (who : Option ℕ) → first_decrypted q who p.rest ≡ first_decrypted q (Some b) u.rest
unfolding first_decrypted concerned_after or_else
reads_eight p b u h q who = rw (h.rests, h.of_kind, h.says)

pub reads_past : (is : ℕ → Bool) (p : Tape) (kind b : ℕ) (u : Tape) → is kind ≡ true → Reads p kind b u → Past is p.rest u.rest
reads_past is p kind b u e h = rw h.rests (past_one is h.first u.rest (ap is h.of_kind ∙ e))

reads_twelve : (p : Tape) (b : ℕ) (u : Tape) → Reads p 12 b u → Opens p.rest (Some b) u.rest
unfolding first_decrypted concerned_after
reads_twelve p b u h q who = rw (h.rests, h.of_kind, h.says)

pub opens_none : (ws : List Rec) → Opens ws None ws
unfolding or_else
opens_none ws q who = go (concerns who q)
  where
    go : (x : Bool) → first_decrypted q who ws ≡ or_else (cond x None None) (first_decrypted q who ws)
    go true = refl
    go false = refl

-- AS A LOGIC OF RUNS: what was in hand and what is decrypted in ws is what is in hand then and decrypted in r
abbrev pub Tells : Option ℕ → List Rec → Option ℕ → List Rec → Type 0
Tells x ws y r = (q : ℕ) (who : Option ℕ) → or_else (cond (concerns who q) x None) (first_decrypted q who ws) ≡ or_else (cond (concerns who q) y None) (first_decrypted q who r)

tells_opens : (ws r : List Rec) (o : Option ℕ) → Tells None ws o r → Opens ws o r
tells_opens ws r o h q who = opens_none ws q who ∙ h q who

abbrev pub texts : Terms
texts = record {
  Kind = λ k. (eqb k 8 ≡ false) × (eqb k 12 ≡ false);
  Text = Unit {0};
  Parts = ⊥;
  Writes = λ e. Unit {0};
  Number = λ n. Unit {0};
  Handle = λ b. Unit {0};
  Index = λ i. Unit {0};
}

-- an answer of another kind, and a 12
tells_after : (x y : Option ℕ) (p : Tape) (kind b : ℕ) (u : Tape) (z : List Rec) → (eqb kind 8 ≡ false) × (eqb kind 12 ≡ false) → Reads p kind b u → Tells x u.rest y z → Tells x p.rest y z
tells_after x y p kind b u z e r h q who = ap (or_else (cond (concerns who q) x None)) (reads_same p kind b u e.0 e.1 r q who) ∙ h q who

tells_text : (y : Option ℕ) (p : Tape) (b : ℕ) (u : Tape) (z : List Rec) → Reads p 12 b u → Tells (Some b) u.rest y z → Tells None p.rest y z
tells_text y p b u z r h q who = sym (opens_none p.rest q who) ∙ reads_twelve p b u r q who ∙ h q who

abbrev telling : (S : Type 0) → Logic texts S
telling S = record {
  Good = λ A f h s p r. Afterwards r (λ a t z. Tells h.handle p.rest (f a).handle z.rest);
  Step = λ x s y t. x ≡ y;
  steps = λ A f x y n s t p r e g. rw e g;
  goes = λ A f h a s p e l q who. rw e;
  fails = λ A f h n s p e. tt;
  writes = λ A f x n e s p r w g. after_before (e ∷ []) r _ g;
  asks = λ A f x n kind s p k e g. after_ask p kind s k _ (λ a b u r. after_map (k a b u) _ _ (g a b u tt) (λ v t z h. tells_after x (f v).handle p kind b u z.rest e r h));
  asks_about = λ A f x n kind who s p k e g. after_about p kind s k _ who (λ a b u r. after_map (k a b u) _ _ (g a b u) (λ v t z h. tells_after x (f v).handle p kind who u z.rest e r h));
  asks_text = λ A f n s p k e g. after_ask p 12 s k _ (λ a b u r. after_map (k a b u) _ _ (g a b u tt) (λ v t z h. tells_text (f v).handle p b u z.rest r h));
  parts = λ content proposer n s p e. absurd e;
  spares = λ A n left all s p r e g. g;
  goes_on = λ A B f g h s p r k l m. after_onward r k _ (after_map r _ _ l (λ a t z u. after_map (k a t z) _ _ (m a t z) (λ b t y v q who. u q who ∙ v q who)));
}

inputs : Inputs texts (telling ThresholdDecrypt)
inputs = record {
  combines = record {
    checks = record {
      reads = λ k e. (other 8 k (inl (omega arith)) e, other 12 k (inr (omega arith)) e);
      faults = λ k a e. tt;
      share = λ td i v u. refl;
      removed = λ td i. refl;
    };
    sends = λ a b. tt;
    text = tt;
    number = tt;
    input = λ td. refl;
    end = λ td. refl;
  };
  number = tt;
  invalid = λ p. tt;
  ciphertext = λ td c u. refl;
}
  where
    other : (m k : ℕ) → (m < 9) ⊎ (11 < m) → within 9 11 k ≡ true → eqb k m ≡ false
    other m k (inl l) e = ne_eqb k m (λ z. omega (arith, leb-true 9 k (and_parts (leb 9 k) (leb k 11) e).0))
    other m k (inr l) e = ne_eqb k m (λ z. omega (arith, leb-true k 11 (and_parts (leb 9 k) (leb k 11) e).1))

-- what a run has read
pub record Ran (ws : List Rec) (o : Option ℕ) (r : List Rec) : Type 0 where
  pub opens : Opens ws o r
  pub past : Past decryption_kinds ws r

-- and a share's, with the instance before and after it
pub record SharedWith (td td' : ThresholdDecrypt) (ws : List Rec) (o : Option ℕ) (r : List Rec) : Type 0 where
  pub ran : Ran ws o r
  pub early : td.ciphertext ≡ 0 → o ≡ None
  pub keeps : td'.ciphertext ≡ td.ciphertext

module _ (net : NetworkInfo) (proposer : ℕ) where
  abbrev Opening : Does → Type 0
  Opening k = (td : ThresholdDecrypt) (p : Tape) → Afterwards (k td p) (λ o td' z. Opens p.rest o z.rest)

  share_opens : (sender share : ℕ) → Opening (handle_share net proposer sender share)
  share_opens sender share td p =
      after_map (handle_share net proposer sender share td p) _ _ (share_keeps _ (telling ThresholdDecrypt) net proposer inputs.combines sender share tt 0 td p)
      (λ o td' z h. tells_opens p.rest z.rest o h)

  input_opens : (value : ℕ) → Opening (input_ciphertext net proposer value)
  input_opens value td p =
      after_map (input_ciphertext net proposer value td p) _ _ (input_keeps _ (telling ThresholdDecrypt) net inputs proposer value tt 0 td p)
      (λ o td' z h. tells_opens p.rest z.rest o h)

  pub input_ran : (value : ℕ) (td : ThresholdDecrypt) (p : Tape) → Afterwards (input_ciphertext net proposer value td p) (λ o td' z. Ran p.rest o z.rest)
  input_ran value td p =
      after_map (input_ciphertext net proposer value td p) _ _
      (after_with (input_ciphertext net proposer value td p) _ (λ td' z. Past decryption_kinds p.rest z.rest) (entry_past (input_runs net proposer value td p).past) (input_opens value td p))
      (λ o td' z h. record { opens = h.0; past = h.1 })

  pub share_ran : (sender share : ℕ) (td : ThresholdDecrypt) (p : Tape) → Afterwards (handle_share net proposer sender share td p) (λ o td' z. SharedWith td td' p.rest o z.rest)
  share_ran sender share td p =
      let run = handle_share net proposer sender share td p in
      after_map run _ _
      (after_with run _ (λ td' z. Past decryption_kinds p.rest z.rest × (td'.ciphertext ≡ td.ciphertext)) (entry_past (share_runs net proposer sender share td p).past, handle_keeps net proposer sender share td p)
      (after_both run _ _ (share_opens sender share td p) (go (eqb td.ciphertext 0) refl)))
      (λ o td' z h. record { ran = record { opens = h.0.0; past = h.1.0 }; early = h.0.1; keeps = h.1.1 })
    where
      go : (x : Bool) → eqb td.ciphertext 0 ≡ x → Afterwards (handle_share net proposer sender share td p) (λ o td' z. td.ciphertext ≡ 0 → o ≡ None)
      go true e = rw (early_none net proposer sender share td p (eqb-true _ _ e)) (λ z. refl)
      go false e = after_any (handle_share net proposer sender share td p) _ (λ o td' z n. absurd (eqb-false td.ciphertext 0 e n))
