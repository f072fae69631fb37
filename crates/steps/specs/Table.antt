-- Reply 5's rule: which words are an answer table (docs/EVIDENCE.md, 'Answer table and step table').
use Rattle.std.specs.Prelude.{ℕ, zero, suc, ◌+◌, ◌*◌, ◌/◌, ◌%◌, Bool, true, false, cond, ◌&&◌, ◌||◌, List, length, get_or, eqb, leb, ltb}
use Rattle.steps.specs.Numbers.{handle_limit, table_limit, instances_built, proposal_serialised, broadcast_proposal, broadcast_message, propose_false, share_verifies, own_decryption_share, contribution_decrypted, contribution_reads, message_part, fault_part, output_part}

-- a number from lo to hi
abbrev pub within : ℕ → ℕ → ℕ → Bool
within lo hi x = leb lo x && leb x hi

-- "A handle is a number 1..2^32−1"
abbrev pub handle : ℕ → Bool
handle b = within 1 handle_limit b

-- "Each answer kind has its own range for a and b." The context is the kind of the answer that a part would belong to, or 0
unfoldable pub record_ok : ℕ → ℕ → ℕ → ℕ → ℕ → Bool
record_ok n context kind a b =
    -- 1 epoch's instances built: b 0
    cond (eqb kind instances_built) (leb a 1 && eqb b 0)
    -- 2 proposal serialised, 12 decrypted: b handle, 0 if a is 0
    (cond (eqb kind proposal_serialised || eqb kind contribution_decrypted) (cond (eqb a 0) (eqb b 0) (eqb a 1 && handle b))
    -- 3 to 10, and 13: b a proposer or sender
    (cond (within broadcast_proposal share_verifies kind || eqb kind contribution_reads) (leb a 1 && ltb b n)
    -- 11 own share: a 1, b handle
    (cond (eqb kind own_decryption_share) (eqb a 1 && handle b)
    -- 16 message: a 0, b any
    (cond (eqb kind message_part) (ltb 0 context && eqb a 0)
    -- 17 fault: a node, b below 2^32
    (cond (eqb kind fault_part) (ltb 0 context && ltb a n && leb b handle_limit)
    -- 18 output: a 0; b handle after 3 and 4, 0 or 1 after 5 to 7
    (cond (eqb kind output_part) (ltb 0 context && eqb a 0 && cond (leb context broadcast_message) (handle b) (leb b 1))
    false))))))

-- "Parts follow a 3..7 with a = 1": such an answer opens a context, its parts keep it, all else ends it
unfoldable pub context_after : ℕ → ℕ → ℕ → ℕ
context_after context kind a =
    cond (within broadcast_proposal propose_false kind) (cond (eqb a 1) kind 0)
    (cond (within message_part output_part kind) context 0)

-- word j of record i: "record i is at word 4 × i"
abbrev pub word : List ℕ → ℕ → ℕ → ℕ
word t i j = get_or t (i * 4 + j) 0

-- "Every next is 0 or above its own index and inside the table": the next of record own
unfoldable pub link_ok : List ℕ → ℕ → ℕ → Bool
link_ok t own next = eqb next 0 || (ltb own next && ltb next (length t / 4))

-- record i, which is not 0, may follow record own
unfoldable pub may_follow : ℕ → List ℕ → ℕ → ℕ → ℕ → Bool
may_follow n t own i context = link_ok t own i && record_ok n context (word t i 1) (word t i 2) (word t i 3)

-- the chain from record i on, reached from record own. Indexes rise along it, so that a fuel of as many records as there are words is enough
unfoldable pub chain_ok : ℕ → ℕ → List ℕ → ℕ → ℕ → ℕ → Bool
chain_ok zero n t own i context = eqb i 0
chain_ok (suc fuel) n t own i context =
    cond (eqb i 0) true
    (cond (may_follow n t own i context)
    (chain_ok fuel n t i (get_or t (i * 4) 0) (context_after context (word t i 1) (word t i 2)))
    false)

-- the shape of a table: "4 to 4,096 words, a multiple of four. Record 0 holds the first index and three zeros."
unfoldable pub shape_ok : List ℕ → Bool
shape_ok t =
    cond (ltb (length t) 4) false
    (leb (length t) table_limit && eqb (length t % 4) 0 && eqb (get_or t 1 0) 0 && eqb (get_or t 2 0) 0 && eqb (get_or t 3 0) 0)

unfoldable pub table_ok : ℕ → List ℕ → Bool
table_ok n t = cond (shape_ok t) (chain_ok (length t) n t 0 (get_or t 0 0) 0) false
