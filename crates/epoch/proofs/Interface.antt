-- What the engine's theorems use of an epoch's runs: what its words know of the values, decisions and plaintexts taken, and how a call moves it. Assumes nothing.
use Rattle.std.proofs.Common.{ℕ, ◌≤◌, ◌<◌, ◌≡◌, List, [], ◌∷◌, ◌++◌, Bool, true, cond, not, Option, None, Some, length, get_or, eqb}
use Rattle.network.specs.declared.network_info.NetworkInfo.{NetworkInfo}
use Rattle.network.specs.Network.{Network, is_validator, num_correct}
use Rattle.steps.specs.Answers.{Rec, Tape}
use Rattle.steps.specs.Steps.{Entry, Item, faults, outputs}
use Rattle.steps.specs.Taken.{or_else, is_there, is_true, first_taken, of_value, of_decision, ones_from, first_decrypted, thirteens_in}
use Rattle.steps.proofs.TakenFromChain.{Good}
use Rattle.subset.specs.Words.{record_length, epoch_length}
use Rattle.steps.proofs.AfterRun.{Afterwards}
use Rattle.subset.proofs.VotesAsked.{Voted}
use Rattle.epochwords.specs.declared.SubsetHandlingStrategy.{SubsetHandlingStrategy}
use Rattle.epoch.specs.declared.MessageContent.{MessageContent}
use Rattle.epoch.specs.declared.MessageContent.TheVariants.{Subset, DecryptionShare}
use Rattle.epochwords.specs.Words.{plaintext_at}
use Rattle.epoch.specs.Epoch.{new_epoch, propose, handle_message_content}
use Rattle.epochwords.specs.Batch.{is_ready, is_read}

-- what has been taken in an epoch: nothing yet
abbrev pub nothing : ℕ → Option ℕ
nothing q = None

-- the nodes of faults 5 among a list's records
unfoldable pub fives_among : List Item → List ℕ
fives_among [] = []
fives_among (x ∷ xs) = cond (eqb x.kind 5) (x.a ∷ []) [] ++ fives_among xs

-- a log without outputs and without faults 5
pub record Quiet (l : List Entry) : Type 0 where
  pub no_outputs : outputs l ≡ []
  pub no_fives : fives_among (faults l) ≡ []

-- the proposer that a 12 concerns at a message's begin
unfoldable pub share_of : ℕ → MessageContent → Option ℕ
share_of p (Subset content) = None
share_of p (DecryptionShare share) = Some p

-- v, d and t: the values, decisions and decrypted plaintexts taken so far, by proposer
module _ (Holds : NetworkInfo → SubsetHandlingStrategy → Bool → List ℕ → (ℕ → Option ℕ) → (ℕ → Option ℕ) → (ℕ → Option ℕ) → Type 0) where
  -- a call read from ws to r and left the words w; `who` is the proposer that a 12 concerned before it, `comes` tells whether it comes to the subset
  pub record CallTold (net : NetworkInfo) (strategy : SubsetHandlingStrategy) (encrypted : Bool) (v d t : ℕ → Option ℕ) (who : Option ℕ) (comes : Bool) (ws : List Rec) (w : List ℕ) (r : List Rec) : Type 0 where
    pub v' : ℕ → Option ℕ
    pub d' : ℕ → Option ℕ
    pub t' : ℕ → Option ℕ
    pub who' : Option ℕ
    pub holds : Holds net strategy encrypted w v' d' t'
    pub size : length w ≡ epoch_length net.num_nodes
    pub good : Good net.num_nodes r
    pub value : (q : ℕ) → or_else (v q) (first_taken of_value q ws) ≡ or_else (v' q) (first_taken of_value q r)
    pub decision : (q : ℕ) → or_else (d q) (first_taken of_decision q ws) ≡ or_else (d' q) (first_taken of_decision q r)
    pub text : (q : ℕ) → or_else (t q) (first_decrypted q who ws) ≡ or_else (t' q) (first_decrypted q who' r)
    pub thirteens : thirteens_in ws ≡ thirteens_in r
    pub votes : Voted net comes v d ws r

  -- an epoch that is ready
  pub record Ready (net : NetworkInfo) (encrypted : Bool) (w : List ℕ) (v d t : ℕ → Option ℕ) : Type 0 where
    pub decided : (q : ℕ) → q < net.num_nodes → is_there (d q) ≡ true
    pub read : (q : ℕ) → q < net.num_nodes → is_read (record_length net.num_nodes) w q ≡ is_true (d q)
    pub known : (q : ℕ) → q < net.num_nodes → is_true (d q) ≡ true → is_there (v q) ≡ true
    pub plaintext : (q : ℕ) → q < net.num_nodes → is_true (d q) ≡ true → cond encrypted (t q) (v q) ≡ Some (get_or w (plaintext_at net.num_nodes q) 0)
    pub enough : num_correct net ≤ ones_from d net.num_nodes 0

  -- what is to be shown of an epoch
  pub record EpochLaws : Type 0 where
    pub fresh : (net : NetworkInfo) (strategy : SubsetHandlingStrategy) (encrypted : Bool) → Network net
        → Holds net strategy encrypted (new_epoch net.num_nodes) nothing nothing nothing
    pub proposed : (net : NetworkInfo) (strategy : SubsetHandlingStrategy) (encrypted : Bool) (w : List ℕ) (v d t : ℕ → Option ℕ) (p : Tape) → Network net
        → Holds net strategy encrypted w v d t → Good net.num_nodes p.rest
        → Afterwards (propose net strategy encrypted w p) (λ _ w' q. CallTold net strategy encrypted v d t None (is_validator net) p.rest w' q.rest)
    pub handled : (net : NetworkInfo) (strategy : SubsetHandlingStrategy) (encrypted : Bool) (w : List ℕ) (v d t : ℕ → Option ℕ) (p : Tape) → Network net
        → (sender proposer : ℕ) (content : MessageContent) → sender < net.num_nodes → proposer < net.num_nodes
        → Holds net strategy encrypted w v d t → Good net.num_nodes p.rest
        → Afterwards (handle_message_content net strategy encrypted sender proposer content w p) (λ _ w' q. CallTold net strategy encrypted v d t (share_of proposer content) (not (is_there (share_of proposer content))) p.rest w' q.rest)
    pub quiet_proposed : (net : NetworkInfo) (strategy : SubsetHandlingStrategy) (encrypted : Bool) (w : List ℕ) (p : Tape) → Quiet (propose net strategy encrypted w p).log
    pub quiet_handled : (net : NetworkInfo) (strategy : SubsetHandlingStrategy) (encrypted : Bool) (sender proposer : ℕ) (content : MessageContent) (w : List ℕ) (p : Tape)
        → Quiet (handle_message_content net strategy encrypted sender proposer content w p).log
    pub ready : (net : NetworkInfo) (strategy : SubsetHandlingStrategy) (encrypted : Bool) (w : List ℕ) (v d t : ℕ → Option ℕ) → Network net
        → Holds net strategy encrypted w v d t → is_ready net.num_nodes w ≡ true → Ready net encrypted w v d t
