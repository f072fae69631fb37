-- The interface's numbers (include/belkjund.h) by name, for every crate. Where the Rust has a name, it is the Rust's. What stands in
-- quotes, here and in other files, is the wording of the engine's owner.
use Rattle.std.specs.Prelude.{ℕ}

-- ANSWER KINDS: what an answer tells
-- "1 epoch's instances built"
abbrev pub instances_built : ℕ
instances_built = 1

-- "2 proposal serialised, encrypted if the epoch is"
abbrev pub proposal_serialised : ℕ
proposal_serialised = 2

-- "3 `Broadcast::broadcast`": the own proposal is broadcast
abbrev pub broadcast_proposal : ℕ
broadcast_proposal = 3

-- "4 `Broadcast::handle_message`"
abbrev pub broadcast_message : ℕ
broadcast_message = 4

-- "5 agreement message"
abbrev pub agreement_message : ℕ
agreement_message = 5

-- "6 propose(true)": vote 1
abbrev pub propose_true : ℕ
propose_true = 6

-- "7 propose(false)": vote 0
abbrev pub propose_false : ℕ
propose_false = 7

-- "8 ciphertext reads"
abbrev pub ciphertext_reads : ℕ
ciphertext_reads = 8

-- "9 verifies"
abbrev pub ciphertext_verifies : ℕ
ciphertext_verifies = 9

-- "10 share verifies"
abbrev pub share_verifies : ℕ
share_verifies = 10

-- "11 own share"
abbrev pub own_decryption_share : ℕ
own_decryption_share = 11

-- "12 decrypted"
abbrev pub contribution_decrypted : ℕ
contribution_decrypted = 12

-- "13 contribution reads"
abbrev pub contribution_reads : ℕ
contribution_reads = 13

-- the parts of an answer: "16 message", "17 fault", "18 output"
abbrev pub message_part : ℕ
message_part = 16

abbrev pub fault_part : ℕ
fault_part = 17

abbrev pub output_part : ℕ
output_part = 18

-- CONTENTS of a message that comes in, and the kinds of the step's messages: "1 broadcast, 2 agreement, 3 share"
abbrev pub broadcast_content : ℕ
broadcast_content = 1

abbrev pub agreement_content : ℕ
agreement_content = 2

abbrev pub share_content : ℕ
share_content = 3

-- OUTPUTS of the step: "1 batch […], then per entry 2"
abbrev pub batch_output : ℕ
batch_output = 1

abbrev pub entry_output : ℕ
entry_output = 2

-- FAULTS of the step
abbrev pub unexpected_hb_message_epoch : ℕ
unexpected_hb_message_epoch = 1

abbrev pub unexpected_decryption_share : ℕ
unexpected_decryption_share = 2

abbrev pub deserialize_ciphertext : ℕ
deserialize_ciphertext = 3

abbrev pub invalid_ciphertext : ℕ
invalid_ciphertext = 4

abbrev pub batch_deserialization_failed : ℕ
batch_deserialization_failed = 5

abbrev pub multiple_decryption_shares : ℕ
multiple_decryption_shares = 6

abbrev pub unverified_decryption_share_sender : ℕ
unverified_decryption_share_sender = 7

abbrev pub broadcast_fault : ℕ
broadcast_fault = 8

abbrev pub agreement_fault : ℕ
agreement_fault = 9

-- REPLIES: "0 is success. 1 to 12 turn a call down"
abbrev pub success : ℕ
success = 0

-- create's numbers
abbrev pub numbers_out_of_range : ℕ
numbers_out_of_range = 1

-- "2: state length is not […]"
abbrev pub wrong_state_length : ℕ
wrong_state_length = 2

-- "3: not a state"
abbrev pub not_a_state : ℕ
not_a_state = 3

-- "4: scratch shorter than the state"
abbrev pub scratch_too_short : ℕ
scratch_too_short = 4

-- "5: answer table malformed"
abbrev pub answers_malformed : ℕ
answers_malformed = 5

-- "6: current epoch above 2^62"
abbrev pub epoch_too_high : ℕ
epoch_too_high = 6

-- "7: content […]; proposer ≥ N; item […]"
abbrev pub message_malformed : ℕ
message_malformed = 7

-- "8: the answer wanted next is not next in the chain […], or the chain has ended"
abbrev pub answer_not_next : ℕ
answer_not_next = 8

-- "9: answers remain unread"
abbrev pub answers_unread : ℕ
answers_unread = 9

-- "10: the step table has fewer whole records than the step"
abbrev pub step_table_too_short : ℕ
step_table_too_short = 10

-- "11: sender ≥ N", the Rust's `UnknownSender`
abbrev pub unknown_sender : ℕ
unknown_sender = 11

-- "12: target above 2^62"
abbrev pub target_too_high : ℕ
target_too_high = 12

-- FAILURES: "20 to 25 are the Rust's own `Err`"
abbrev pub create_subset : ℕ
create_subset = 20

abbrev pub propose_bincode : ℕ
propose_bincode = 21

abbrev pub input_subset : ℕ
input_subset = 22

abbrev pub handle_subset_message : ℕ
handle_subset_message = 23

abbrev pub decryption : ℕ
decryption = 24

abbrev pub multiple_inputs : ℕ
multiple_inputs = 25

-- LIMITS. "N outside 1..16", "look-ahead F above 15"
abbrev pub node_limit : ℕ
node_limit = 16

abbrev pub ahead_limit : ℕ
ahead_limit = 15

-- "EveryNthEpoch 0 or at least 2^32, TickTock sum 0 or at least 2^32"
abbrev pub schedule_limit : ℕ
schedule_limit = 0xffff_ffff

-- "A handle is a number 1..2^32−1": the last one. A fault's kind has the same limit ("b below 2^32")
abbrev pub handle_limit : ℕ
handle_limit = 0xffff_ffff

-- "the fault count […], stopping at 2^32−1"
abbrev pub fault_limit : ℕ
fault_limit = 0xffff_ffff

-- "Answers: 4 to 4,096 words"
abbrev pub table_limit : ℕ
table_limit = 4096

-- "start epoch above 2^62", "current epoch above 2^62", "target above 2^62"
abbrev pub last_epoch : ℕ
last_epoch = 0x4000_0000_0000_0000

-- a step under construction counts its records up to 2^32, far above what a call can write
abbrev pub count_limit : ℕ
count_limit = 0x1_0000_0000
