-- The interface's numbers for the kinds of the code, and what a result stands for.
use Rattle.std.specs.Prelude.{ℕ, Result, Ok, Err}
use Rattle.steps.specs.Numbers.{instances_built, proposal_serialised, broadcast_proposal, broadcast_message, agreement_message, propose_true, propose_false, ciphertext_reads, ciphertext_verifies, share_verifies, own_decryption_share, contribution_decrypted, contribution_reads, broadcast_content, agreement_content, share_content, unexpected_hb_message_epoch, unexpected_decryption_share, deserialize_ciphertext, invalid_ciphertext, batch_deserialization_failed, multiple_decryption_shares, unverified_decryption_share_sender, broadcast_fault, agreement_fault, batch_output, entry_output, create_subset, propose_bincode, input_subset, handle_subset_message, decryption, multiple_inputs}
use Rattle.steps.specs.Verdicts.{Verdict, going, refused, failed}
use Rattle.steps.specs.declared.kinds.AnswerKind.{AnswerKind}
use Rattle.steps.specs.declared.kinds.AnswerKind.TheVariants as answers
use Rattle.steps.specs.declared.kinds.MessageKind.{MessageKind}
use Rattle.steps.specs.declared.kinds.MessageKind.TheVariants as messages
use Rattle.steps.specs.declared.kinds.FaultKind.{FaultKind}
use Rattle.steps.specs.declared.kinds.FaultKind.TheVariants as faults
use Rattle.steps.specs.declared.kinds.OutputKind.{OutputKind}
use Rattle.steps.specs.declared.kinds.OutputKind.TheVariants as outputs
use Rattle.steps.specs.declared.kinds.Failure.{Failure}
use Rattle.steps.specs.declared.kinds.Failure.TheVariants as failures
use Rattle.steps.specs.declared.kinds.Stop.{Stop}
use Rattle.steps.specs.declared.kinds.Stop.TheVariants.{NotNext, Failed}

abbrev pub answer_number : AnswerKind → ℕ
answer_number answers.InstancesBuilt = instances_built
answer_number answers.ProposalSerialised = proposal_serialised
answer_number answers.BroadcastProposal = broadcast_proposal
answer_number answers.BroadcastMessage = broadcast_message
answer_number answers.AgreementMessage = agreement_message
answer_number answers.ProposeTrue = propose_true
answer_number answers.ProposeFalse = propose_false
answer_number answers.CiphertextReads = ciphertext_reads
answer_number answers.CiphertextVerifies = ciphertext_verifies
answer_number answers.ShareVerifies = share_verifies
answer_number answers.OwnDecryptionShare = own_decryption_share
answer_number answers.ContributionDecrypted = contribution_decrypted
answer_number answers.ContributionReads = contribution_reads

abbrev pub message_number : MessageKind → ℕ
message_number messages.Broadcast = broadcast_content
message_number messages.Agreement = agreement_content
message_number messages.Share = share_content

abbrev pub fault_number : FaultKind → ℕ
fault_number faults.UnexpectedHbMessageEpoch = unexpected_hb_message_epoch
fault_number faults.UnexpectedDecryptionShare = unexpected_decryption_share
fault_number faults.DeserializeCiphertext = deserialize_ciphertext
fault_number faults.InvalidCiphertext = invalid_ciphertext
fault_number faults.BatchDeserializationFailed = batch_deserialization_failed
fault_number faults.MultipleDecryptionShares = multiple_decryption_shares
fault_number faults.UnverifiedDecryptionShareSender = unverified_decryption_share_sender
fault_number faults.BroadcastFault = broadcast_fault
fault_number faults.AgreementFault = agreement_fault

abbrev pub output_number : OutputKind → ℕ
output_number outputs.Batch = batch_output
output_number outputs.Entry = entry_output

abbrev pub failure_number : Failure → ℕ
failure_number failures.CreateSubset = create_subset
failure_number failures.ProposeBincode = propose_bincode
failure_number failures.InputSubset = input_subset
failure_number failures.HandleSubsetMessage = handle_subset_message
failure_number failures.Decryption = decryption
failure_number failures.MultipleInputs = multiple_inputs

-- a result of the code: it goes on with its value, is refused with 8, or fails with the number of its failure
abbrev pub verdict_as : {E A : Type 0} → (E → ℕ) → Result A (Stop E) → Verdict A
verdict_as number (Ok a) = going a
verdict_as number (Err NotNext) = refused
verdict_as number (Err (Failed f)) = failed (number f)

-- one that fails with the Rust's error
abbrev pub verdict_of : {A : Type 0} → Result A (Stop Failure) → Verdict A
verdict_of r = verdict_as failure_number r
