-- The subset keeps each word of its epoch in range. Assumes nothing.
use Rattle.std.proofs.Common.{ℕ, zero, suc, ◌+◌, ◌*◌, ◌-◌, ◌%◌, ◌^◌, ◌<◌, ◌≡◌, refl, ◌∙◌, List, [], ◌∷◌, Bool, true, false, cond, Option, None, Some, arith, mod-eq_of_lt, get_or, set, ltb, eqb, le-ltb, lt-ltb, ltb-true, pow_pos}
use Rattle.std.proofs.Math.ListN.{get_or-eq_default}
use Rattle.std.proofs.Math.Nat.{mul-add-mod_self_right}
use Rattle.steps.specs.declared.reader.Content.{Content}
use Rattle.network.specs.declared.network_info.NetworkInfo.{NetworkInfo}
use Rattle.steps.specs.Answers.{Tape}
use Rattle.steps.specs.Runs.{Run}
use Rattle.steps.proofs.Ranges.{AllSmall, Kept, Any, SmallOption, kept_any, small, keeping, within_below, kept_inside, Below, below_set}
use Rattle.proposal.specs.declared.ProposalState.{ProposalState}
use Rattle.proposal.specs.declared.ProposalState.TheVariants.{Ongoing, HasValue, Accepted, Complete}
use Rattle.subset.specs.Words.{record_length, epoch_length, decided_at, count_at, record_at, value_at, arrival_at, proposal_of, tag_of, value_of, load_proposal, store_proposal, add_contribution, drop_from}
use Rattle.proposal.proofs.Walk.{Moves}
use Rattle.proposal.specs.Proposal.{Moved, after_agreement, after_broadcast}
use Rattle.subset.proofs.Walk.{Rules, try_keeps, propose_keeps, handle_keeps}
use Rattle.subset.specs.Subset.{contributed, try_output, propose, handle_message}

-- THE LIMIT OF A PLACE, which its word is below. The epoch's own words: status, decided, accepted, count; the rest are 0
abbrev pub own_limit : ℕ → ℕ → ℕ
own_limit n i = get_or (3 ∷ 2 ∷ (2 ^ n) ∷ (n + 1) ∷ []) i 1

-- a record's: proposal, value, decryption, plaintext, ciphertext, had input, terminated, arrival; the rest are shares
abbrev pub field_limit : ℕ → ℕ → ℕ
field_limit n j = get_or (5 ∷ 0x1_0000_0000 ∷ 3 ∷ 0x1_0000_0000 ∷ 0x1_0000_0000 ∷ 2 ∷ 2 ∷ n ∷ []) j 0x1_0000_0000

unfoldable pub limit_at : ℕ → ℕ → ℕ
limit_at n i = cond (ltb i 16) (own_limit n i) (field_limit n ((i - 16) % record_length n))

abbrev pub EpochOk : ℕ → List ℕ → Type 0
EpochOk n w = Below (limit_at n) (epoch_length n) w

pub limit_own : (n i : ℕ) → i < 16 → limit_at n i ≡ own_limit n i
unfolding limit_at
limit_own n i l = rw (lt-ltb i 16 l)

module _ (n p j : ℕ) where
  pub limit_field : j < record_length n → limit_at n (record_at n p j) ≡ field_limit n j
  unfolding limit_at
  limit_field l =
      let e : record_at n p j - 16 ≡ p * record_length n + j = omega arith in
      rw (le-ltb (record_at n p j) 16 (omega arith), e, mul-add-mod_self_right p (record_length n) j, mod-eq_of_lt l)

pub limit_share : (n p s : ℕ) → s < n → limit_at n (record_at n p (8 + s)) ≡ 0x1_0000_0000
limit_share n p s l = limit_field n p (8 + s) (omega arith) ∙ get_or-eq_default (5 ∷ 0x1_0000_0000 ∷ 3 ∷ 0x1_0000_0000 ∷ 0x1_0000_0000 ∷ 2 ∷ 2 ∷ n ∷ []) 0x1_0000_0000 {n = 8 + s} (omega arith)

own_some : (n i : ℕ) → 0 < own_limit n i
own_some n zero = omega arith
own_some n (suc zero) = omega arith
own_some n (suc (suc zero)) = pow_pos n
own_some n (suc (suc (suc zero))) = omega arith
own_some n (suc (suc (suc (suc i)))) = omega arith

field_some : (n j : ℕ) → 0 < n → 0 < field_limit n j
field_some n zero h = omega arith
field_some n (suc zero) h = omega arith
field_some n (suc (suc zero)) h = omega arith
field_some n (suc (suc (suc zero))) h = omega arith
field_some n (suc (suc (suc (suc zero)))) h = omega arith
field_some n (suc (suc (suc (suc (suc zero))))) h = omega arith
field_some n (suc (suc (suc (suc (suc (suc zero)))))) h = omega arith
field_some n (suc (suc (suc (suc (suc (suc (suc zero))))))) h = h
field_some n (suc (suc (suc (suc (suc (suc (suc (suc j)))))))) h = omega arith

-- 0 is in the range of every word
pub limit_some : (n i : ℕ) → 0 < n → 0 < limit_at n i
unfolding limit_at
limit_some n i h = go (ltb i 16)
  where
    go : (x : Bool) → 0 < cond x (own_limit n i) (field_limit n ((i - 16) % record_length n))
    go true = own_some n i
    go false = field_some n ((i - 16) % record_length n) h

-- a word is set to a number in its range, or to 0
module _ (n : ℕ) where
  pub set_field : (w : List ℕ) (p j v : ℕ) → EpochOk n w → j < record_length n → v < field_limit n j → EpochOk n (set w (record_at n p j) v)
  set_field w p j v h l u = below_set (limit_at n) (epoch_length n) w (record_at n p j) v h (rw (limit_field n p j l) u)

  pub set_own : (w : List ℕ) (i v : ℕ) → EpochOk n w → v < limit_at n i → EpochOk n (set w i v)
  set_own w i v h u = below_set (limit_at n) (epoch_length n) w i v h u

  pub field_below : (w : List ℕ) (p j : ℕ) → EpochOk n w → j < record_length n → get_or w (record_at n p j) 0 < field_limit n j
  field_below w p j h l = rw (limit_field n p j l) at (h.below (record_at n p j))

-- A PROPOSAL's value is below 2^32
unfoldable pub ProposalOk : ProposalState → Type 0
ProposalOk Ongoing = Unit {0}
ProposalOk (HasValue v) = v < 0x1_0000_0000
ProposalOk Accepted = Unit {0}
ProposalOk (Complete b) = Unit {0}

record MovedOk (m : Moved) : Type 0 where
  state : ProposalOk m.state
  value : SmallOption m.value

moved_cond : (x : Bool) (m k : Moved) → MovedOk m → MovedOk k → MovedOk (cond x m k)
moved_cond true m k f g = f
moved_cond false m k f g = g

agreement_moves : (s : ProposalState) (out : Option ℕ) → ProposalOk s → MovedOk (after_agreement s out)
unfolding after_agreement ProposalOk SmallOption
agreement_moves Ongoing None h = record { state = tt; value = tt }
agreement_moves Ongoing (Some d) h = moved_cond (eqb d 0) _ _ (record { state = tt; value = tt }) (record { state = tt; value = tt })
agreement_moves (HasValue v) None h = record { state = h; value = tt }
agreement_moves (HasValue v) (Some d) h = moved_cond (eqb d 0) _ _ (record { state = tt; value = tt }) (record { state = tt; value = h })
agreement_moves Accepted out h = record { state = tt; value = tt }
agreement_moves (Complete b) out h = record { state = tt; value = tt }

broadcast_moves : (s : ProposalState) (out : Option ℕ) → ProposalOk s → SmallOption out → MovedOk (after_broadcast s out)
unfolding after_broadcast ProposalOk SmallOption
broadcast_moves Ongoing None h o = record { state = tt; value = tt }
broadcast_moves Ongoing (Some v) h o = record { state = o; value = tt }
broadcast_moves (HasValue v) out h o = record { state = h; value = tt }
broadcast_moves Accepted None h o = record { state = tt; value = tt }
broadcast_moves Accepted (Some v) h o = record { state = tt; value = o }
broadcast_moves (Complete b) out h o = record { state = tt; value = tt }

-- A PROPOSAL IN ITS TWO WORDS
tag_below : (s : ProposalState) → tag_of s < 5
unfolding tag_of
tag_below Ongoing = omega arith
tag_below (HasValue v) = omega arith
tag_below Accepted = omega arith
tag_below (Complete true) = omega arith
tag_below (Complete false) = omega arith

value_below : (s : ProposalState) → ProposalOk s → value_of s < 0x1_0000_0000
unfolding value_of ProposalOk
value_below Ongoing h = omega arith
value_below (HasValue v) h = h
value_below Accepted h = omega arith
value_below (Complete b) h = omega arith

of_ok : (tag value : ℕ) → value < 0x1_0000_0000 → ProposalOk (proposal_of tag value)
unfolding proposal_of ProposalOk
of_ok tag value h = go (eqb tag 0) (eqb tag 1) (eqb tag 2) (eqb tag 3)
  where
    go : (x y z u : Bool) → ProposalOk (cond x Ongoing (cond y (HasValue value) (cond z Accepted (cond u (Complete false) (Complete true)))))
    go true y z u = tt
    go false true z u = h
    go false false true u = tt
    go false false false true = tt
    go false false false false = tt

module _ (n : ℕ) (w : List ℕ) (p : ℕ) (h : EpochOk n w) where
  pub load_ok : ProposalOk (load_proposal n w p)
  unfolding load_proposal
  load_ok = of_ok _ _ (field_below n w p 1 h (omega arith))

  pub store_ok : (s : ProposalState) → ProposalOk s → EpochOk n (store_proposal n w p s)
  unfolding store_proposal
  store_ok s k = set_field n _ p 1 (value_of s) (set_field n w p 0 (tag_of s) h (omega arith) (tag_below s)) (omega arith) (value_below s k)

  pub add_ok : (value : ℕ) → p < n → value < 0x1_0000_0000 → EpochOk n (add_contribution n w p value)
  unfolding add_contribution limit_at
  add_ok value l u = go (ltb (get_or w count_at 0) n) refl
    where
      go : (x : Bool) → ltb (get_or w count_at 0) n ≡ x
          → EpochOk n (cond x (set (set (set w (arrival_at n (get_or w count_at 0)) p) (value_at n p) value) count_at (get_or w count_at 0 + 1)) w)
      go true e =
          set_own n _ count_at _
          (set_field n _ p 1 value (set_field n w (get_or w count_at 0) 7 p h (omega arith) l) (omega arith) u)
          (omega (arith, ltb-true (get_or w count_at 0) n e))
      go false e = h

  pub contributed_ok : (value : Option ℕ) → p < n → SmallOption value → EpochOk n (contributed n w p value)
  unfolding contributed SmallOption
  contributed_ok None l u = h
  contributed_ok (Some value) l u = add_ok value l u

pub drop_ok : (n m i : ℕ) (w : List ℕ) → 0 < n → EpochOk n w → EpochOk n (drop_from n m i w)
unfolding drop_from
drop_ok n zero i w l h = h
drop_ok n (suc m) i w l h =
    drop_ok n m (i + 1) _ l (set_own n _ (arrival_at n i) 0 (set_own n w (value_at n (get_or w (arrival_at n i) 0)) 0 h (limit_some n _ l)) (limit_some n _ l))

-- THE SUBSET's runs over the epoch's words
abbrev pub SafeEpoch : {A : Type 0} → ℕ → (List ℕ → Tape → Run (List ℕ) A) → Type 0
SafeEpoch n k = (w : List ℕ) (p : Tape) → EpochOk n w → AllSmall p.rest → Kept (EpochOk n) Any (k w p)

moves_ok : (n : ℕ) → Moves (small n) (keeping n ProposalOk)
unfolding SmallOption
moves_ok n = record {
  reads = λ k e. within_below 3 7 16 k (omega arith) e;
  parts = tt;
  agreed = λ s out h u. let m = agreement_moves s out h in (m.state, m.value);
  came = λ s out h u. let m = broadcast_moves s out h u in (m.state, m.value);
  voted = λ s out h u. ((broadcast_moves s out h u).state, tt);
}

pub rules : (n : ℕ) → Rules (small n) (keeping n ProposalOk) (keeping n (EpochOk n)) n
unfolding SmallOption limit_at
rules n = record {
  moves = moves_ok n;
  index = λ p l. l;
  stored = λ p m w t r i g h o u. kept_inside (store_proposal n w p) r (store_ok n w p h) (g (load_ok n w p h) o u);
  added = λ p w x i h u. (contributed_ok n w p h x i u, tt);
  decided = λ w h u. (set_own n w decided_at 1 h (omega arith), tt);
}

module _ (net : NetworkInfo) (error : ℕ) where
  pub try_safe : SafeEpoch net.num_nodes (try_output net error)
  unfolding SmallOption
  try_safe w p h o = kept_any (try_keeps _ _ _ net (rules _) error tt 0 w p h o tt)

  -- the own proposal is broadcast
  pub propose_safe : SafeEpoch net.num_nodes (propose net error)
  unfolding SmallOption
  propose_safe w p h o = kept_any (propose_keeps _ _ _ net (rules _) error tt 0 w p h o tt)

  -- a message for proposer p
  pub handle_safe : (content : Content) (p : ℕ) → p < net.num_nodes → SafeEpoch net.num_nodes (handle_message net error content p)
  unfolding SmallOption
  handle_safe content p l w tape h o = kept_any (handle_keeps _ _ _ net (rules _) error tt content p l 0 w tape h o tt)
