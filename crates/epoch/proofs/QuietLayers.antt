-- Every run of the subset, of threshold decryption and of an epoch is quiet; the first two read their own kinds of answers only, and the subset leaves the words that are not its own. Assumes nothing.
use Rattle.std.proofs.Common.{ℕ, ◌+◌, ◌<◌, ◌≤◌, ◌≡◌, refl, ◌∙◌, List, Bool, true, false, cond, ◌||◌, Option, None, Some, arith, get_or, set, get_or-set_other, leb, ltb, eqb, leb-true, le-leb, ne_eqb, ⊎_elim}
use Rattle.std.proofs.lemmas.Bool.{and_parts, or_right, or_cases, lt-leb}
use Rattle.std.proofs.Math.Bool.{and-false}
use Rattle.steps.specs.declared.reader.Content.{Content}
use Rattle.network.specs.declared.network_info.NetworkInfo.{NetworkInfo}
use Rattle.steps.specs.Answers.{Rec, Tape}
use Rattle.steps.specs.Table.{within}
use Rattle.steps.specs.Runs.{Run}
use Rattle.steps.specs.Parts.{is_part}
use Rattle.steps.specs.Taken.{of_value, of_decision}
use Rattle.steps.proofs.ReadByKinds.{Past, Others}
use Rattle.steps.proofs.TimesAsked.{past_more}
use Rattle.steps.proofs.ReadsFirstPart.{any_kind}
use Rattle.steps.proofs.Ranges.{Any}
use Rattle.decryption.specs.declared.ThresholdDecrypt.{ThresholdDecrypt}
use Rattle.decryption.specs.Decrypt.{handle_message as handle_share}
use Rattle.proposal.specs.declared.ProposalState.{ProposalState}
use Rattle.subset.specs.Words.{decided_at, accepted_at, status_at, count_at, record_at, proposal_at, value_at, arrival_at, store_proposal, add_contribution}
use Rattle.subset.specs.Subset.{contributed, propose as propose_subset, handle_message as handle_subset}
use Rattle.subset.proofs.ProposalStored.{differ, store_word}
use Rattle.epochwords.specs.declared.SubsetHandlingStrategy.{SubsetHandlingStrategy}
use Rattle.epoch.specs.declared.MessageContent.{MessageContent}
use Rattle.epoch.specs.Epoch.{input_ciphertext, propose, handle_message_content}
use Rattle.epoch.proofs.Interface.{Quiet}
use Rattle.epoch.proofs.Walk.{Inputs, Rules, any_rules, input_keeps, propose_keeps, content_keeps}
use Rattle.decryption.proofs.Walk.{not_five, handle_keeps as share_keeps}
use Rattle.subset.proofs.Walk.{Rules as Subsets, propose_keeps as propose_subset_keeps, handle_keeps as handle_subset_keeps}
use Rattle.epoch.proofs.QuietRuns.{quiet_message, quiet_fault, Orderly, orderly_inside, orders, ordering, ordering_stateless, orders_permit}

-- THE KINDS that the subset reads, and those that decrypting a contribution reads
abbrev pub subset_kinds : ℕ → Bool
subset_kinds k = within 3 7 k || is_part k

abbrev pub decryption_kinds : ℕ → Bool
decryption_kinds k = within 8 12 k

-- and those that its entry reads, after the 8
abbrev pub entry_kinds : ℕ → Bool
entry_kinds k = within 9 12 k

-- the subset reads neither 8 nor 12 nor 13
module _ (m : ℕ) (low : 7 < m) (high : m < 16) where
  subset_others : Others subset_kinds (λ k. eqb k m)
  unfolding is_part
  subset_others k e =
      ⊎_elim
      (λ t. ne_eqb k m (λ z. omega (arith, leb-true k 7 (and_parts (leb 3 k) (leb k 7) t).1)))
      (λ t. ne_eqb k m (λ z. omega (arith, leb-true 16 k (and_parts (leb 16 k) (leb k 18) t).0)))
      (or_cases (within 3 7 k) (is_part k) e)

pub subset_eight : Others subset_kinds (λ k. eqb k 8)
subset_eight = subset_others 8 (omega arith) (omega arith)

pub subset_twelve : Others subset_kinds (λ k. eqb k 12)
subset_twelve = subset_others 12 (omega arith) (omega arith)

pub subset_thirteen : Others subset_kinds (λ k. eqb k 13)
subset_thirteen = subset_others 13 (omega arith) (omega arith)

-- decrypting reads no answer of an instance, and no 13
decryption_low : (lo hi : ℕ) → hi < 8 → Others decryption_kinds (within lo hi)
decryption_low lo hi l k e = rw (lt-leb k hi (omega (arith, leb-true 8 k (and_parts (leb 8 k) (leb k 12) e).0))) (and-false (leb lo k))

pub decryption_value : Others decryption_kinds of_value
decryption_value = decryption_low 3 4 (omega arith)

pub decryption_decision : Others decryption_kinds of_decision
decryption_decision = decryption_low 5 7 (omega arith)

pub decryption_subset : Others decryption_kinds (within 3 7)
decryption_subset = decryption_low 3 7 (omega arith)

pub decryption_thirteen : Others decryption_kinds (λ k. eqb k 13)
decryption_thirteen k e = ne_eqb k 13 (λ z. omega (arith, leb-true k 12 (and_parts (leb 8 k) (leb k 12) e).1))

pub entry_eight : Others entry_kinds (λ k. eqb k 8)
entry_eight k e = ne_eqb k 8 (λ z. omega (arith, leb-true 9 k (and_parts (leb 9 k) (leb k 12) e).0))

within_wider : (lo mid hi k : ℕ) → mid ≤ hi → within lo mid k ≡ true → within lo hi k ≡ true
within_wider lo mid hi k l e =
    let two = and_parts (leb lo k) (leb k mid) e in
    rw (two.0, le-leb k hi (omega (arith, leb-true k mid two.1)))

pub entry_past : {ws r : List Rec} → Past entry_kinds ws r → Past decryption_kinds ws r
entry_past p =
    past_more entry_kinds decryption_kinds (λ k e.
    let two = and_parts (leb 9 k) (leb k 12) e in
    rw (le-leb 8 k (omega (arith, leb-true 9 k two.0)), two.1)) p

-- THE WORDS THAT ARE NOT THE SUBSET'S
pub record Outside (n i : ℕ) : Type 0 where
  pub decided : i ≡ decided_at → ⊥
  pub count : i ≡ count_at → ⊥
  pub proposal : (q : ℕ) → i ≡ proposal_at n q → ⊥
  pub value : (q : ℕ) → i ≡ value_at n q → ⊥
  pub arrival : (q : ℕ) → i ≡ arrival_at n q → ⊥

pub outside_status : (n : ℕ) → Outside n status_at
outside_status n = record { decided = λ e. omega arith; count = λ e. omega arith; proposal = λ q e. omega arith; value = λ q e. omega arith; arrival = λ q e. omega arith }

pub outside_accepted : (n : ℕ) → Outside n accepted_at
outside_accepted n = record { decided = λ e. omega arith; count = λ e. omega arith; proposal = λ q e. omega arith; value = λ q e. omega arith; arrival = λ q e. omega arith }

-- words 2 to 6 of a record
pub outside_record : (n p j : ℕ) → 2 ≤ j → j < 7 → Outside n (record_at n p j)
outside_record n p j a b = record {
  decided = λ e. omega arith;
  count = λ e. omega arith;
  proposal = λ q e. differ n p q j 0 (omega arith) (omega arith) (λ z. omega arith) e;
  value = λ q e. differ n p q j 1 (omega arith) (omega arith) (λ z. omega arith) e;
  arrival = λ q e. differ n p q j 7 (omega arith) (omega arith) (λ z. omega arith) e;
}

-- w' has them as w does
abbrev pub Frame : ℕ → List ℕ → List ℕ → Type 0
Frame n w w' = (i : ℕ) → Outside n i → get_or w' i 0 ≡ get_or w i 0

module _ (n : ℕ) (w₀ w : List ℕ) (f : Frame n w₀ w) where
  frame_store : (p : ℕ) (s : ProposalState) → Frame n w₀ (store_proposal n w p s)
  frame_store p s i o = store_word n w p s i (o.proposal p) (o.value p) ∙ f i o

  frame_add : (p x : ℕ) → Frame n w₀ (add_contribution n w p x)
  unfolding add_contribution
  frame_add p x i o = go (ltb (get_or w count_at 0) n)
    where
      c : ℕ
      c = get_or w count_at 0

      go : (y : Bool) → get_or (cond y (set (set (set w (arrival_at n c) p) (value_at n p) x) count_at (c + 1)) w) i 0 ≡ get_or w₀ i 0
      go true =
          get_or-set_other (set (set w (arrival_at n c) p) (value_at n p) x) count_at i (c + 1) 0 o.count
          ∙ get_or-set_other (set w (arrival_at n c) p) (value_at n p) i x 0 (o.value p)
          ∙ get_or-set_other w (arrival_at n c) i p 0 (o.arrival c)
          ∙ f i o
      go false = f i o

  frame_contributed : (p : ℕ) (x : Option ℕ) → Frame n w₀ (contributed n w p x)
  unfolding contributed
  frame_contributed p None = f
  frame_contributed p (Some x) = frame_add p x

  frame_decided : (x : ℕ) → Frame n w₀ (set w decided_at x)
  frame_decided x i o = get_or-set_other w decided_at i x 0 o.decided ∙ f i o

-- THE SUBSET
parts_kinds : (k : ℕ) → is_part k ≡ true → subset_kinds k ≡ true
parts_kinds k e = or_right (within 3 7 k) (is_part k) e

module _ (n : ℕ) (w₀ : List ℕ) where
  subset_rules : Subsets (orders subset_kinds) (ordering subset_kinds Any) (ordering subset_kinds (Frame n w₀)) n
  subset_rules = record {
    moves = record { reads = λ k e. rw e; parts = parts_kinds; agreed = λ s out h. tt; came = λ s out h. tt; voted = λ s out h. tt };
    index = λ p l. tt;
    stored = λ p m w t r i g h. orderly_inside (store_proposal n w p) r (λ s _. frame_store n w₀ w h p s) (g tt);
    added = λ p w o i h. frame_contributed n w₀ w h p o;
    decided = λ w h. frame_decided n w₀ w h 1;
  }

module _ (net : NetworkInfo) (error : ℕ) (w₀ : List ℕ) where
  abbrev Runs : {A : Type 0} → (List ℕ → Tape → Run (List ℕ) A) → Type 0
  Runs k = (w : List ℕ) (p : Tape) → Frame net.num_nodes w₀ w → Orderly (Frame net.num_nodes w₀) subset_kinds p (k w p)

  pub propose_subset_runs : Runs (propose_subset net error)
  propose_subset_runs w u h = propose_subset_keeps _ _ _ net (subset_rules _ w₀) error tt 0 w u h

  pub handle_subset_runs : (content : Content) (p : ℕ) → Runs (handle_subset net error content p)
  handle_subset_runs content p w u h = handle_subset_keeps _ _ _ net (subset_rules _ w₀) error tt content p tt 0 w u h

-- THRESHOLD DECRYPTION
abbrev Decrypts : {A : Type 0} → (ThresholdDecrypt → Tape → Run ThresholdDecrypt A) → Type 0
Decrypts k = (td : ThresholdDecrypt) (p : Tape) → Orderly Any entry_kinds p (k td p)

-- with more kinds than an entry's as well
pub inputs : (is : ℕ → Bool) → ((k : ℕ) → entry_kinds k ≡ true → is k ≡ true) → Inputs (orders is) (ordering is Any)
inputs is more = record {
  combines = record {
    checks = record { reads = λ k e. more k (within_wider 9 11 12 k (omega arith) e); faults = λ k a e. quiet_fault k a 0 (not_five k e); share = λ td i v u h. tt; removed = λ td i h. tt };
    sends = λ a b. quiet_message 3 a b;
    text = more 12 refl;
    number = tt;
    input = λ td h. tt;
    end = λ td h. tt;
  };
  number = tt;
  invalid = λ p. quiet_fault 4 p 0 refl;
  ciphertext = λ td c u h. tt;
}

module _ (net : NetworkInfo) (proposer : ℕ) where
  pub share_runs : (sender share : ℕ) → Decrypts (handle_share net proposer sender share)
  share_runs sender share td p = share_keeps _ _ net proposer (inputs entry_kinds (λ k e. e)).combines sender share tt 0 td p tt

  pub input_runs : (value : ℕ) → Decrypts (input_ciphertext net proposer value)
  input_runs value td p = input_keeps _ _ net (inputs entry_kinds (λ k e. e)) proposer value tt 0 td p tt

-- THE EPOCH'S TWO CALLS ARE QUIET
epoch_rules : (n : ℕ) → Rules (orders any_kind) (ordering any_kind Any) (ordering any_kind Any) n (ordering any_kind Any)
epoch_rules n = any_rules (ordering_stateless any_kind) orders_permit tt tt n

pub quiet_proposed_lem : (net : NetworkInfo) (strategy : SubsetHandlingStrategy) (encrypted : Bool) (w : List ℕ) (p : Tape) → Quiet (propose net strategy encrypted w p).log
quiet_proposed_lem net strategy encrypted w p = (propose_keeps _ _ _ net _ (epoch_rules _) strategy encrypted refl tt tt w p tt).quiet

pub quiet_handled_lem : (net : NetworkInfo) (strategy : SubsetHandlingStrategy) (encrypted : Bool) (sender proposer : ℕ) (content : MessageContent) (w : List ℕ) (p : Tape)
    → Quiet (handle_message_content net strategy encrypted sender proposer content w p).log
quiet_handled_lem net strategy encrypted sender proposer content w p = (content_keeps _ _ _ net _ (epoch_rules _) strategy encrypted tt sender proposer content tt (λ share e. tt) w p tt).quiet
