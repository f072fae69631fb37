-- The definitions that a closed term computes with: a line `unfolding opened` opens them all.
use Rattle.steps.specs.Opened as StepsOpened
use Rattle.decryption.specs.Decrypt

unfoldable pub opened : Unit {0}
unfolding StepsOpened.opened
    Decrypt.count_from Decrypt.set_ciphertext Decrypt.is_share_valid Decrypt.check_share Decrypt.remove_from Decrypt.own_share Decrypt.start_with
    Decrypt.combine Decrypt.try_with Decrypt.start_decryption Decrypt.try_output Decrypt.store_share Decrypt.handle_message
opened = tt
