-- THE INVARIANT of an epoch's words, `Holds`: what they know of the values, decisions and plaintexts taken; a subset call's contributions keep it. Assumes nothing.
use Rattle.std.proofs.Common.{ℕ, zero, suc, ◌≤◌, ◌<◌, ◌≡◌, refl, sym, ap, ◌∙◌, ◌⊎◌, inl, inr, List, Bool, true, false, cond, Option, None, Some, arith, length, get_or, set, length-set, get_or-set_same, get_or-set_other, leb, leb-true}
use Rattle.std.proofs.lemmas.Bool.{and_parts, false≢true}
use Rattle.std.specs.Cmp.{both_ways}
use Rattle.network.specs.declared.network_info.NetworkInfo.{NetworkInfo}
use Rattle.network.specs.Network.{num_correct}
use Rattle.steps.specs.Answers.{Rec, Tape}
use Rattle.steps.specs.Runs.{going, ends}
use Rattle.steps.specs.Taken.{is_there, is_true, ones_from}
use Rattle.steps.proofs.TakenFromChain.{Bit}
use Rattle.subset.specs.Words.{epoch_length, status_at, decided_at, accepted_at, count_at, record_at}
use Rattle.subset.specs.Rule.{settled_from, is_over}
use Rattle.steps.proofs.AfterRun.{Afterwards, after_map, after_onward, after_inside}
use Rattle.proposal.proofs.TakenByProposal.{output_of}
use Rattle.subset.proofs.ProposalStored.{differ}
use Rattle.subset.proofs.Invariant.{Held, is_out}
use Rattle.subset.proofs.TakenTests.{cell, settled_cell}
use Rattle.epochwords.specs.declared.SubsetHandlingStrategy.{SubsetHandlingStrategy}
use Rattle.epochwords.specs.declared.SubsetHandlingStrategy.TheVariants.{Incremental, AllAtEnd}
use Rattle.epochwords.specs.Words.{is_accepted}
use Rattle.epoch.specs.Epoch.{first_contributions, handles_now, subset_complete, finish_from, handle_from, handle_contributions, process_subset}
use Rattle.epochwords.proofs.EntryStored.{accepted_kept}
use Rattle.epoch.proofs.EntryInvariant.{Opening, opening_same, text_words, TextsOk}
use Rattle.epoch.proofs.ContributionsHandled.{held_same, Looped, handle_ok}
use Rattle.epoch.proofs.FinishedWords.{cut_word, cut_held, done_ok}

-- whose contributions are handled between calls: Incremental handles each output as it comes, AllAtEnd none before the end
abbrev pub handled_by : SubsetHandlingStrategy → (ℕ → Option ℕ) → (ℕ → Option ℕ) → ℕ → Bool
handled_by Incremental v d q = is_out v d q
handled_by AllAtEnd v d q = false

-- an epoch whose subset is ongoing
pub record Going (net : NetworkInfo) (strategy : SubsetHandlingStrategy) (w : List ℕ) (v d : ℕ → Option ℕ) : Type 0 where
  pub status : get_or w status_at 0 ≡ 1
  pub undecided : get_or w decided_at 0 ≡ 0
  pub over : is_over net v d ≡ false
  pub held : Held (handled_by strategy v d) net.num_nodes w v d
  pub accepted : (q : ℕ) → q < net.num_nodes → is_accepted w q ≡ handled_by strategy v d q

-- an epoch whose subset is complete
pub record Done (net : NetworkInfo) (w : List ℕ) (v d : ℕ → Option ℕ) : Type 0 where
  pub status : get_or w status_at 0 ≡ 2
  pub settled : settled_from v d net.num_nodes 0 ≡ true
  pub enough : num_correct net ≤ ones_from d net.num_nodes 0
  pub accepted : (q : ℕ) → q < net.num_nodes → is_accepted w q ≡ is_true (d q)

-- v, d and t: the values, decisions and decrypted plaintexts taken so far
pub record Holds (net : NetworkInfo) (strategy : SubsetHandlingStrategy) (encrypted : Bool) (w : List ℕ) (v d t : ℕ → Option ℕ) : Type 0 where
  pub size : length w ≡ epoch_length net.num_nodes
  pub texts : TextsOk encrypted net.num_nodes w v t
  pub stage : Going net strategy w v d ⊎ Done net w v d

-- WHAT IS SETTLED has its output
out_true : (a b : Option ℕ) → Bit b → cell a b ≡ true → is_there (output_of a b) ≡ is_true b
unfolding is_there is_true Bit
out_true a None k e = absurd (false≢true e)
out_true None (Some zero) k e = refl
out_true (Some x) (Some zero) k e = refl
out_true None (Some (suc zero)) k e = absurd (false≢true e)
out_true (Some x) (Some (suc zero)) k e = refl
out_true a (Some (suc (suc d))) k e = absurd (omega arith)

-- ALL CONTRIBUTIONS ARE HANDLED
record AllHandled (encrypted : Bool) (n : ℕ) (w : List ℕ) (v d t : ℕ → Option ℕ) (who : Option ℕ) (ws : List Rec) (w' : List ℕ) (r : List Rec) : Type 0 where
  t' : ℕ → Option ℕ
  who' : Option ℕ
  opening : Opening t who ws t' who' r
  status : get_or w' status_at 0 ≡ get_or w status_at 0
  decided : get_or w' decided_at 0 ≡ get_or w decided_at 0
  held : Held (is_out v d) n w' v d
  texts : TextsOk encrypted n w' v t'
  accepted : (q : ℕ) → q < n → is_accepted w' q ≡ is_out v d q

module _ (net : NetworkInfo) (strategy : SubsetHandlingStrategy) (encrypted : Bool) (old : ℕ → Bool) (v d t : ℕ → Option ℕ) (w : List ℕ) (u : Tape) (who : Option ℕ)
    (h : Held old net.num_nodes w v d) (k : TextsOk encrypted net.num_nodes w v t) (acc : (q : ℕ) → q < net.num_nodes → is_accepted w q ≡ old q) where
  abbrev n : ℕ
  n = net.num_nodes

  cut_handled : (w₁ : List ℕ) (r : List Rec) → Looped encrypted n (get_or w count_at 0) 0 w v d t who u.rest w₁ r → AllHandled encrypted n w v d t who u.rest (first_contributions n 0 w₁) r
  cut_handled w₁ r b = record {
    t' = b.t';
    who' = b.who';
    opening = b.opening;
    status = cut_word n w₁ status_at (λ e. omega arith) (λ q e. omega arith) (λ q e. omega arith) ∙ b.same.low status_at (omega arith) (λ e. omega arith);
    decided = cut_word n w₁ decided_at (λ e. omega arith) (λ q e. omega arith) (λ q e. omega arith) ∙ b.same.low decided_at (omega arith) (λ e. omega arith);
    held = cut_held n w₁ old v d (held_same old n w w₁ v d b.same h);
    texts = λ q l.
        rw (bit q)
        (text_words encrypted n w₁ (first_contributions n 0 w₁) q (is_accepted w₁ q) (v q) (b.t' q) (λ j x y.
        cut_word n w₁ (record_at n q j) (λ e. omega arith) (λ i e. differ n q i j 1 (omega arith) (omega arith) (λ z. omega arith) e) (λ i e. differ n q i j 7 (omega arith) (omega arith) (λ z. omega arith) e))
        (b.texts q l));
    accepted = λ q l. bit q ∙ both_ways (is_accepted w₁ q) (is_out v d q) (b.outs (λ q l e. h.gone q (sym (acc q l) ∙ e)) q l) (back q l);
  }
    where
      bit : (q : ℕ) → is_accepted (first_contributions n 0 w₁) q ≡ is_accepted w₁ q
      bit q = accepted_kept w₁ (first_contributions n 0 w₁) (cut_word n w₁ accepted_at (λ e. omega arith) (λ q e. omega arith) (λ q e. omega arith)) q

      back : (q : ℕ) → q < n → is_out v d q ≡ true → is_accepted w₁ q ≡ true
      back q l o = go (old q) refl
        where
          go : (x : Bool) → old q ≡ x → is_accepted w₁ q ≡ true
          go true e = b.grows q (acc q l ∙ e)
          go false e =
              let i = h.listed q l o e in
              rw i.who at (b.handled i.index (omega arith) (omega (arith, i.below)))

  contributions_ok : Afterwards (handle_contributions net strategy encrypted w u) (λ _ w' z. AllHandled encrypted n w v d t who u.rest w' z.rest)
  unfolding handle_contributions
  contributions_ok =
      after_inside (first_contributions n 0) (handle_from net strategy encrypted (get_or w count_at 0) 0 w u) _
      (after_map (handle_from net strategy encrypted (get_or w count_at 0) 0 w u) _ _ (handle_ok net strategy encrypted old v d (get_or w count_at 0) 0 w u t who h k (omega arith)) (λ _ w₁ z b.
      cut_handled w₁ z.rest b))

-- WHAT A SUBSET CALL HANDS UP is processed
pub record Processed (net : NetworkInfo) (strategy : SubsetHandlingStrategy) (encrypted : Bool) (v d t : ℕ → Option ℕ) (who : Option ℕ) (ws : List Rec) (w' : List ℕ) (r : List Rec) : Type 0 where
  pub t' : ℕ → Option ℕ
  pub who' : Option ℕ
  pub opening : Opening t who ws t' who' r
  pub holds : Holds net strategy encrypted w' v d t'

module _ (net : NetworkInfo) (strategy : SubsetHandlingStrategy) (encrypted : Bool) (v d t : ℕ → Option ℕ) (w : List ℕ) (who : Option ℕ) where
  abbrev N : ℕ
  N = net.num_nodes

  -- where the subset is done
  finished : (ws : List Rec) (w₁ : List ℕ) (u : Tape) → is_over net v d ≡ true → AllHandled encrypted N w v d t who ws w₁ u.rest
      → Afterwards (finish_from net N 0 (subset_complete w₁) u) (λ _ w' z. Processed net strategy encrypted v d t who ws w' z.rest)
  unfolding subset_complete is_over
  finished ws w₁ u o a =
      after_map (finish_from net N 0 (subset_complete w₁) u) _ _ (done_ok net encrypted v a.t' w₁ u a.held.size a.texts) (λ _ w' z f. record {
        t' = a.t';
        who' = a.who';
        opening = rw f.tape a.opening;
        holds = record {
          size = f.size ∙ length-set (set w₁ status_at 2) decided_at 0 ∙ length-set w₁ status_at 2 ∙ a.held.size;
          texts = f.texts;
          stage = inr (record {
            status =
                f.low status_at (omega arith)
                ∙ get_or-set_other (set w₁ status_at 2) decided_at status_at 0 0 (λ e. omega arith)
                ∙ get_or-set_same w₁ status_at 2 0 (omega (arith, a.held.size));
            settled = two.0;
            enough = leb-true (num_correct net) (ones_from d N 0) two.1;
            accepted = λ q l.
                accepted_kept w₁ w'
                (f.low accepted_at (omega arith)
                ∙ get_or-set_other (set w₁ status_at 2) decided_at accepted_at 0 0 (λ e. omega arith)
                ∙ get_or-set_other w₁ status_at accepted_at 2 0 (λ e. omega arith)) q
                ∙ a.accepted q l
                ∙ out_true (v q) (d q) (a.held.bits q) (settled_cell v d N 0 two.0 q (omega arith) (omega arith));
          });
        };
      })
    where
      two : (settled_from v d N 0 ≡ true) × (leb (num_correct net) (ones_from d N 0) ≡ true)
      two = and_parts (settled_from v d N 0) (leb (num_correct net) (ones_from d N 0)) o

-- where some contributions were handled before, and the call says whether the subset is over
pub process_ok : (net : NetworkInfo) (strategy : SubsetHandlingStrategy) (encrypted : Bool) (v₀ d₀ v d t : ℕ → Option ℕ) (w : List ℕ) (who : Option ℕ) (u : Tape) (done : Bool)
    → Held (handled_by strategy v₀ d₀) net.num_nodes w v d → TextsOk encrypted net.num_nodes w v t
    → ((q : ℕ) → q < net.num_nodes → is_accepted w q ≡ handled_by strategy v₀ d₀ q)
    → get_or w status_at 0 ≡ 1 → get_or w decided_at 0 ≡ cond (is_over net v d) 1 0 → done ≡ is_over net v d
    → Afterwards (process_subset net strategy encrypted done w u) (λ _ w' z. Processed net strategy encrypted v d t who u.rest w' z.rest)
unfolding process_subset handles_now
process_ok net Incremental encrypted v₀ d₀ v d t w who u false h k acc st dec says =
    after_onward (handle_contributions net Incremental encrypted w u) _ _
    (after_map (handle_contributions net Incremental encrypted w u) _ _ (contributions_ok net Incremental encrypted (handled_by Incremental v₀ d₀) v d t w u who h k acc) (λ _ w₁ z a. record {
      t' = a.t';
      who' = a.who';
      opening = a.opening;
      holds = record {
        size = a.held.size;
        texts = a.texts;
        stage = inl (record { status = a.status ∙ st; undecided = a.decided ∙ dec ∙ ap (λ x. cond x 1 0) (sym says); over = sym says; held = a.held; accepted = a.accepted });
      };
    }))
process_ok net Incremental encrypted v₀ d₀ v d t w who u true h k acc st dec says =
    after_onward (handle_contributions net Incremental encrypted w u) _ _
    (after_map (handle_contributions net Incremental encrypted w u) _ _ (contributions_ok net Incremental encrypted (handled_by Incremental v₀ d₀) v d t w u who h k acc) (λ _ w₁ z a.
    finished net Incremental encrypted v d t w who u.rest w₁ z (sym says) a))
process_ok net AllAtEnd encrypted v₀ d₀ v d t w who u false h k acc st dec says =
    after_onward (ends {A = Unit {0}} (going tt) w u) _ _ (record {
      t' = t;
      who' = who;
      opening = opening_same t who u.rest;
      holds = record {
        size = h.size;
        texts = k;
        stage = inl (record { status = st; undecided = dec ∙ ap (λ x. cond x 1 0) (sym says); over = sym says; held = h; accepted = acc });
      };
    })
process_ok net AllAtEnd encrypted v₀ d₀ v d t w who u true h k acc st dec says =
    after_onward (handle_contributions net AllAtEnd encrypted w u) _ _
    (after_map (handle_contributions net AllAtEnd encrypted w u) _ _ (contributions_ok net AllAtEnd encrypted (handled_by AllAtEnd v₀ d₀) v d t w u who h k acc) (λ _ w₁ z a.
    finished net AllAtEnd encrypted v d t w who u.rest w₁ z (sym says) a))
