use Rattle.decryption.proofs.ShareCode.{unset}
use Rattle.decryption.proofs.ThresholdDecrypt.+start_decryption_try_output.Given as goal

abbrev pub decreases-start_decryption : goal.decreases-start_decryption
decreases-start_decryption l = unset l.self.now

abbrev pub decreases-try_output : goal.decreases-try_output
decreases-try_output l = unset l.self.now
