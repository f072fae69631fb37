-- An epoch's words hold what was taken for each proposer, and the contributions that it makes; each move of a proposal keeps that. Assumes nothing.
use Rattle.std.proofs.Common.{ℕ, zero, suc, ◌+◌, ◌<◌, ◌≡◌, refl, sym, ap, ◌∙◌, List, Bool, true, false, ◌&&◌, not, Option, None, Some, arith, length, get_or, eqb, eqb-true}
use Rattle.std.proofs.lemmas.Bool.{false≢true, eqb-false}
use Rattle.steps.specs.Taken.{is_there}
use Rattle.steps.proofs.TakenFromChain.{Bit}
use Rattle.proposal.specs.declared.ProposalState.{ProposalState}
use Rattle.subset.specs.Words.{epoch_length, decided_at, count_at, proposal_at, value_at, arrival_at, proposal_of, tag_of, load_proposal, store_proposal, add_contribution}
use Rattle.subset.specs.Subset.{contributed}
use Rattle.proposal.proofs.TakenByProposal.{state_of, output_of}
use Rattle.subset.proofs.Counts.{count_if, count_le, count_same, count_add}
use Rattle.subset.proofs.ProposalStored.{apart, differ, store_size, store_word, store_tag, store_load, store_other, add_size, add_word, add_count, add_value, add_arrival}

-- proposer q stands in the list of contributions
pub record Listed (n : ℕ) (w : List ℕ) (q : ℕ) : Type 0 where
  pub index : ℕ
  pub below : index < get_or w count_at 0
  pub who : get_or w (arrival_at n index) 0 ≡ q

-- whether q's value has been output
abbrev pub is_out : (ℕ → Option ℕ) → (ℕ → Option ℕ) → ℕ → Bool
is_out v d q = is_there (output_of (v q) (d q))

-- and is not one of the old ones, which have been taken out of the list
abbrev pub is_new : (ℕ → Bool) → (ℕ → Option ℕ) → (ℕ → Option ℕ) → ℕ → Bool
is_new old v d q = is_out v d q && not (old q)

pub there : (o : Option ℕ) (x : ℕ) → o ≡ Some x → is_there o ≡ true
unfolding is_there
there o x e = rw e

not_there : (o : Option ℕ) → o ≡ None → is_there o ≡ false
unfolding is_there
not_there o e = rw e

tagged : (a b : Option ℕ) (x : ℕ) → output_of a b ≡ Some x → proposal_of (tag_of (state_of a b)) x ≡ state_of a b
unfolding proposal_of tag_of
tagged None b x e = let z : ◌≡◌ {A = ℕ} 0 1 = cc in absurd (omega arith)
tagged (Some v) None x e = let z : ◌≡◌ {A = ℕ} 0 1 = cc in absurd (omega arith)
tagged (Some v) (Some zero) x e = let z : ◌≡◌ {A = ℕ} 0 1 = cc in absurd (omega arith)
tagged (Some v) (Some (suc d)) x e = refl

module _ (old : ℕ → Bool) where
  -- THE INVARIANT. v and d are the values and decisions taken so far
  pub record Held (n : ℕ) (w : List ℕ) (v d : ℕ → Option ℕ) : Type 0 where
    pub size : length w ≡ epoch_length n
    pub load : (q : ℕ) → q < n → load_proposal n w q ≡ state_of (v q) (d q)
    pub bits : (q : ℕ) → Bit (d q)
    pub count : get_or w count_at 0 ≡ count_if (is_new old v d) n 0
    pub gone : (q : ℕ) → old q ≡ true → is_out v d q ≡ true
    pub listed : (q : ℕ) → q < n → is_out v d q ≡ true → old q ≡ false → Listed n w q
    pub entries : (i q : ℕ) → i < get_or w count_at 0 → get_or w (arrival_at n i) 0 ≡ q → (q < n) × (output_of (v q) (d q) ≡ Some (get_or w (value_at n q) 0))
    -- nobody stands there twice
    pub once : (i j : ℕ) → i < get_or w count_at 0 → j < get_or w count_at 0 → get_or w (arrival_at n i) 0 ≡ get_or w (arrival_at n j) 0 → i ≡ j
    -- nor any of the old ones
    pub fresh : (i : ℕ) → i < get_or w count_at 0 → old (get_or w (arrival_at n i) 0) ≡ false

  -- A MOVE of p's proposal, which has not been output before
  module _ (n p : ℕ) (w : List ℕ) (v d v' d' : ℕ → Option ℕ) (h : Held n w v d) (inside : p < n) (same : (q : ℕ) → (q ≡ p → ⊥) → (v' q ≡ v q) × (d' q ≡ d q))
      (bit : Bit (d' p)) (before : output_of (v p) (d p) ≡ None) where
    abbrev state : ProposalState
    state = state_of (v' p) (d' p)

    abbrev stored : List ℕ
    stored = store_proposal n w p state

    out_same : (q : ℕ) → (q ≡ p → ⊥) → is_out v' d' q ≡ is_out v d q
    out_same q ne = rw ((same q ne).0, (same q ne).1)

    loads : (q : ℕ) → q < n → load_proposal n stored q ≡ state_of (v' q) (d' q)
    loads q l = go (eqb q p) refl
      where
        go : (x : Bool) → eqb q p ≡ x → load_proposal n stored q ≡ state_of (v' q) (d' q)
        go true e = rw (eqb-true q p e) (store_load n w p state inside h.size)
        go false e = let ne = eqb-false q p e in rw ((same q ne).0, (same q ne).1) (store_other n w p state q ne ∙ h.load q l)

    bits' : (q : ℕ) → Bit (d' q)
    bits' q = go (eqb q p) refl
      where
        go : (x : Bool) → eqb q p ≡ x → Bit (d' q)
        go true e = rw (eqb-true q p e) bit
        go false e = rw (same q (eqb-false q p e)).1 (h.bits q)

    arrivals : (i : ℕ) → get_or stored (arrival_at n i) 0 ≡ get_or w (arrival_at n i) 0
    arrivals i = store_word n w p state (arrival_at n i) (differ n i p 7 0 (omega arith) (omega arith) (λ e. omega arith)) (differ n i p 7 1 (omega arith) (omega arith) (λ e. omega arith))

    values : (q : ℕ) → (q ≡ p → ⊥) → get_or stored (value_at n q) 0 ≡ get_or w (value_at n q) 0
    values q ne = store_word n w p state (value_at n q) (apart n q p 1 0 (omega arith) (omega arith) ne) (apart n q p 1 1 (omega arith) (omega arith) ne)

    counts : get_or stored count_at 0 ≡ get_or w count_at 0
    counts = store_word n w p state count_at (λ e. omega arith) (λ e. omega arith)

    -- an entry of before is another's, and stays
    old_entry : (q : ℕ) → (q < n) × (output_of (v q) (d q) ≡ Some (get_or w (value_at n q) 0)) → (q ≡ p → ⊥) × ((q < n) × (output_of (v' q) (d' q) ≡ Some (get_or stored (value_at n q) 0)))
    old_entry q e =
        let ne : q ≡ p → ⊥ = other in
        (ne, (e.0, rw ((same q ne).0, (same q ne).1, values q ne) e.1))
      where
        other : q ≡ p → ⊥
        other z =
            let a : output_of (v p) (d p) ≡ Some (get_or w (value_at n p) 0) = rw z at e.1 in
            let y : ◌≡◌ {A = ℕ} 0 1 = cc in
            omega arith

    -- p is none of the old ones
    new_here : old p ≡ false
    new_here = go (old p) refl
      where
        go : (x : Bool) → old p ≡ x → x ≡ false
        go true e = absurd (false≢true (sym (not_there (output_of (v p) (d p)) before) ∙ h.gone p e))
        go false e = refl

    gone' : (q : ℕ) → old q ≡ true → is_out v' d' q ≡ true
    gone' q e = out_same q other ∙ h.gone q e
      where
        other : q ≡ p → ⊥
        other z = false≢true (sym new_here ∙ ap old (sym z) ∙ e)

    -- without an output
    held_quiet : output_of (v' p) (d' p) ≡ None → Held n stored v' d'
    held_quiet o = record {
      size = store_size n w p state ∙ h.size;
      load = loads;
      bits = bits';
      count = counts ∙ h.count ∙ count_same (is_new old v d) (is_new old v' d') n 0 (λ q a b. ap (λ x. x && not (old q)) (agree q));
      gone = gone';
      listed = λ q l t f.
          let ne : q ≡ p → ⊥ = other q t in
          let k = h.listed q l (sym (out_same q ne) ∙ t) f in
          record { index = k.index; below = rw counts k.below; who = arrivals k.index ∙ k.who };
      entries = λ i q l e. (old_entry q (h.entries i q (rw counts at l) (sym (arrivals i) ∙ e))).1;
      once = λ i j l r e. h.once i j (rw counts at l) (rw counts at r) (sym (arrivals i) ∙ e ∙ arrivals j);
      fresh = λ i l. ap old (arrivals i) ∙ h.fresh i (rw counts at l);
    }
      where
        agree : (q : ℕ) → is_out v d q ≡ is_out v' d' q
        agree q = go (eqb q p) refl
          where
            go : (x : Bool) → eqb q p ≡ x → is_out v d q ≡ is_out v' d' q
            go true e = rw (eqb-true q p e, o, before)
            go false e = sym (out_same q (eqb-false q p e))

        other : (q : ℕ) → is_out v' d' q ≡ true → q ≡ p → ⊥
        other q t z = false≢true (sym (not_there (output_of (v' p) (d' p)) o) ∙ (rw z at t))

    -- with the output x
    module _ (x : ℕ) (o : output_of (v' p) (d' p) ≡ Some x) where
      abbrev c : ℕ
      c = count_if (is_new old v d) n 0

      more : count_if (is_new old v' d') n 0 ≡ c + 1
      more =
          count_add (is_new old v d) (is_new old v' d') p (λ q ne. ap (λ y. y && not (old q)) (out_same q ne))
          (rw (not_there (output_of (v p) (d p)) before)) (rw (there (output_of (v' p) (d' p)) x o, new_here)) n 0 (omega arith) (omega arith)

      room : c < n
      room = omega (arith, more, count_le (is_new old v' d') n 0)

      counted : get_or stored count_at 0 ≡ c
      counted = counts ∙ h.count

      abbrev joined : List ℕ
      joined = add_contribution n stored p x

      sized : length stored ≡ epoch_length n
      sized = store_size n w p state ∙ h.size

      word : (i : ℕ) → (i ≡ arrival_at n c → ⊥) → (i ≡ value_at n p → ⊥) → (i ≡ count_at → ⊥) → get_or joined i 0 ≡ get_or stored i 0
      word = add_word n stored p x c counted room

      arrivals' : (i : ℕ) → (i ≡ c → ⊥) → get_or joined (arrival_at n i) 0 ≡ get_or w (arrival_at n i) 0
      arrivals' i ne =
          word (arrival_at n i) (apart n i c 7 7 (omega arith) (omega arith) ne) (differ n i p 7 1 (omega arith) (omega arith) (λ e. omega arith)) (λ e. omega arith)
          ∙ arrivals i

      values' : (q : ℕ) → (q ≡ p → ⊥) → get_or joined (value_at n q) 0 ≡ get_or stored (value_at n q) 0
      values' q ne = word (value_at n q) (differ n q c 1 7 (omega arith) (omega arith) (λ e. omega arith)) (apart n q p 1 1 (omega arith) (omega arith) ne) (λ e. omega arith)

      tags' : (q : ℕ) → get_or joined (proposal_at n q) 0 ≡ get_or stored (proposal_at n q) 0
      tags' q = word (proposal_at n q) (differ n q c 0 7 (omega arith) (omega arith) (λ e. omega arith)) (differ n q p 0 1 (omega arith) (omega arith) (λ e. omega arith)) (λ e. omega arith)

      counts' : get_or joined count_at 0 ≡ c + 1
      counts' = add_count n stored p x c counted room inside sized

      loads' : (q : ℕ) → q < n → load_proposal n joined q ≡ state_of (v' q) (d' q)
      unfolding load_proposal
      loads' q l = go (eqb q p) refl
        where
          go : (y : Bool) → eqb q p ≡ y → proposal_of (get_or joined (proposal_at n q) 0) (get_or joined (value_at n q) 0) ≡ state_of (v' q) (d' q)
          go true e = rw (eqb-true q p e, tags' p, store_tag n w p state inside h.size, add_value n stored p x c counted room inside sized) (tagged (v' p) (d' p) x o)
          go false e = rw (tags' q, values' q (eqb-false q p e)) (loads q l)

      lists : (q : ℕ) → q < n → is_out v' d' q ≡ true → old q ≡ false → Listed n joined q
      lists q l t f = go (eqb q p) refl
        where
          go : (y : Bool) → eqb q p ≡ y → Listed n joined q
          go true e = record { index = c; below = rw counts' (omega arith); who = add_arrival n stored p x c counted room inside sized ∙ sym (eqb-true q p e) }
          go false e =
              let k = h.listed q l (sym (out_same q (eqb-false q p e)) ∙ t) f in
              let low : k.index < c = rw h.count at k.below in
              record { index = k.index; below = rw counts' (omega arith); who = arrivals' k.index (λ e. omega arith) ∙ k.who }

      entries' : (i q : ℕ) → i < c + 1 → get_or joined (arrival_at n i) 0 ≡ q → (q < n) × (output_of (v' q) (d' q) ≡ Some (get_or joined (value_at n q) 0))
      entries' i q l e = go (eqb i c) refl
        where
          go : (y : Bool) → eqb i c ≡ y → (q < n) × (output_of (v' q) (d' q) ≡ Some (get_or joined (value_at n q) 0))
          go true t =
              let z : q ≡ p = sym e ∙ ap (λ j. get_or joined (arrival_at n j) 0) (eqb-true i c t) ∙ add_arrival n stored p x c counted room inside sized in
              rw (z, add_value n stored p x c counted room inside sized) (inside, o)
          go false t =
              let ne : i ≡ c → ⊥ = eqb-false i c t in
              let low : i < c = omega arith in
              let k = old_entry q (h.entries i q (rw h.count low) (sym (arrivals' i ne) ∙ e)) in
              (k.1.0, rw (values' q k.0) k.1.1)

      -- p is behind all others
      not_last : (i : ℕ) → i < c → get_or joined (arrival_at n i) 0 ≡ get_or joined (arrival_at n c) 0 → ⊥
      not_last i l e =
          let z : get_or w (arrival_at n i) 0 ≡ p = sym (arrivals' i (λ k. omega arith)) ∙ e ∙ add_arrival n stored p x c counted room inside sized in
          (old_entry p (h.entries i p (rw h.count l) z)).0 refl

      once' : (i j : ℕ) → i < c + 1 → j < c + 1 → get_or joined (arrival_at n i) 0 ≡ get_or joined (arrival_at n j) 0 → i ≡ j
      once' i j l r e = go (eqb i c) (eqb j c) refl refl
        where
          go : (s t : Bool) → eqb i c ≡ s → eqb j c ≡ t → i ≡ j
          go true true s t = eqb-true i c s ∙ sym (eqb-true j c t)
          go true false s t =
              let ne : j ≡ c → ⊥ = eqb-false j c t in
              absurd (not_last j (omega arith) (sym e ∙ ap (λ k. get_or joined (arrival_at n k) 0) (eqb-true i c s)))
          go false true s t =
              let ne : i ≡ c → ⊥ = eqb-false i c s in
              absurd (not_last i (omega arith) (e ∙ ap (λ k. get_or joined (arrival_at n k) 0) (eqb-true j c t)))
          go false false s t =
              let a : i ≡ c → ⊥ = eqb-false i c s in
              let b : j ≡ c → ⊥ = eqb-false j c t in
              h.once i j (rw h.count (omega arith)) (rw h.count (omega arith)) (sym (arrivals' i a) ∙ e ∙ arrivals' j b)

      fresh' : (i : ℕ) → i < c + 1 → old (get_or joined (arrival_at n i) 0) ≡ false
      fresh' i l = go (eqb i c) refl
        where
          go : (y : Bool) → eqb i c ≡ y → old (get_or joined (arrival_at n i) 0) ≡ false
          go true t = ap (λ j. old (get_or joined (arrival_at n j) 0)) (eqb-true i c t) ∙ ap old (add_arrival n stored p x c counted room inside sized) ∙ new_here
          go false t =
              let ne : i ≡ c → ⊥ = eqb-false i c t in
              ap old (arrivals' i ne) ∙ h.fresh i (rw h.count (omega arith))

      held_joined : Held n joined v' d'
      held_joined = record {
        size = add_size n stored p x c counted room ∙ sized;
        load = loads';
        bits = bits';
        count = counts' ∙ sym more;
        gone = gone';
        listed = lists;
        entries = λ i q l e. entries' i q (rw counts' at l) e;
        once = λ i j l r e. once' i j (rw counts' at l) (rw counts' at r) e;
        fresh = λ i l. fresh' i (rw counts' at l);
      }

      decided_joined : get_or joined decided_at 0 ≡ get_or stored decided_at 0
      decided_joined = word decided_at (λ e. omega arith) (λ e. omega arith) (λ e. omega arith)

    pub record After-move (u : List ℕ) : Type 0 where
      pub held : Held n u v' d'
      pub decided : get_or u decided_at 0 ≡ get_or w decided_at 0

    pub held_move : (s : ProposalState) (o : Option ℕ) → s ≡ state → o ≡ output_of (v' p) (d' p) → After-move (contributed n (store_proposal n w p s) p o)
    unfolding contributed
    held_move s o e f = rw e (go o f)
      where
        decides : get_or stored decided_at 0 ≡ get_or w decided_at 0
        decides = store_word n w p state decided_at (λ e. omega arith) (λ e. omega arith)

        go : (o : Option ℕ) → o ≡ output_of (v' p) (d' p) → After-move (contributed n stored p o)
        go None f = record { held = held_quiet (sym f); decided = decides }
        go (Some x) f = record { held = held_joined x (sym f); decided = decided_joined x (sym f) ∙ decides }
