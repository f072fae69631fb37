-- How the rule for answer tables unrolls along the chain, and what a record that may follow has. Assumes nothing.
use Rattle.std.proofs.Common.{◌≡◌, refl, sym, ◌∙◌, Bool, true, false, cond, List, ◌∷◌, ℕ, zero, suc, ◌+◌, ◌-◌, ◌*◌, ◌/◌, ◌≤◌, ◌<◌, arith, length, get_or, eqb, ltb, eqb-true, eq-eqb, ne_eqb, ltb-true, ltb-false}
use Rattle.std.proofs.lemmas.Bool.{and_parts, false≢true, eqb-false}
use Rattle.steps.specs.Table.{record_ok, link_ok, may_follow, chain_ok, context_after, word, shape_ok}
use Rattle.steps.specs.Answers.{link, rec_at, on_record, chain}
use Rattle.steps.proofs.ChainLaws.{link_up, link_end, chain_on}

-- a table of the right shape has its first four words
pub shape_length : (t : List ℕ) → shape_ok t ≡ true → 4 ≤ length t
unfolding shape_ok
shape_length t e = by_test (ltb (length t) 4) _ e refl
  where
    by_test : (x u : Bool) → cond x false u ≡ true → ltb (length t) 4 ≡ x → 4 ≤ length t
    by_test true u q r = absurd (false≢true q)
    by_test false u q r = ltb-false _ _ r

-- a next that keeps the rule, and does not end the chain
pub link_facts : (t : List ℕ) (own next : ℕ) → link_ok t own next ≡ true → (next ≡ 0 → ⊥) → (own < next) × (next < length t / 4)
unfolding link_ok
link_facts t own next e d =
    let h = and_parts (ltb own next) (ltb next (length t / 4)) (rw (ne_eqb next 0 d) at e) in
    (ltb-true _ _ h.0, ltb-true _ _ h.1)

-- ALONG A CHAIN whose nexts keep the rule the reader goes from a record to its next, and fewer words are left
module _ (t : List ℕ) (i : ℕ) (ok : link_ok t i (get_or t (i * 4) 0) ≡ true) where
  pub link_next : link t i ≡ get_or t (i * 4) 0
  link_next = go (eqb (get_or t (i * 4) 0) 0) refl
    where
      go : (x : Bool) → eqb (get_or t (i * 4) 0) 0 ≡ x → link t i ≡ get_or t (i * 4) 0
      go true e = let z = eqb-true _ _ e in link_end t i (omega arith) ∙ sym z
      go false e = link_up t i (link_facts t i _ ok (eqb-false _ _ e)).0

  pub chain_next : on_record t i ≡ true → chain t i ≡ rec_at t i ∷ chain t (get_or t (i * 4) 0)
  chain_next on = chain_on t i on ∙ rw link_next

  pub words_fall : (get_or t (i * 4) 0 ≡ 0 → ⊥) → length t - get_or t (i * 4) 0 < length t - i
  words_fall d = let f = link_facts t i _ ok d in omega arith

module _ (n : ℕ) (t : List ℕ) (own i context : ℕ) where
  pub follow_link : may_follow n t own i context ≡ true → link_ok t own i ≡ true
  unfolding may_follow
  follow_link e = (and_parts _ _ e).0

  pub follow_rule : may_follow n t own i context ≡ true → record_ok n context (word t i 1) (word t i 2) (word t i 3) ≡ true
  unfolding may_follow
  follow_rule e = (and_parts (link_ok t own i) _ e).1

  pub follow_facts : may_follow n t own i context ≡ true → (i ≡ 0 → ⊥) → (own < i) × (i < length t / 4)
  follow_facts e d = link_facts t own i (follow_link e) d

  pub chain_end : (m : ℕ) → i ≡ 0 → chain_ok m n t own i context ≡ true
  unfolding chain_ok
  chain_end zero e = eq-eqb i 0 e
  chain_end (suc m) e = rw (eq-eqb i 0 e)

  pub chain_step : (m : ℕ) → length t ≤ own + m → own < length t → (i ≡ 0 → ⊥)
      → chain_ok m n t own i context ≡ cond (may_follow n t own i context) (chain_ok (m - 1) n t i (get_or t (i * 4) 0) (context_after context (word t i 1) (word t i 2))) false
  unfolding chain_ok
  chain_step zero h o d = absurd (omega arith)
  chain_step (suc m) h o d = rw (ne_eqb i 0 d, less)
    where
      less : suc m - 1 ≡ m
      less = omega arith
