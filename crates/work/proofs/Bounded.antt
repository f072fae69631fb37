-- HOW LONG THE LOG OF A CALL IS: at most 1,552 entries, so that no list of a step is counted past its limit of 2^32. Assumes nothing.
use Rattle.std.proofs.Common.{ℕ, ◌+◌, ◌*◌, ◌/◌, ◌≤◌, ◌<◌, ◌≡◌, ap, List, true, arith, mul-le-mul_right, mul-le-mul_left, length, ltb}
use Rattle.steps.specs.Table.{table_ok}
use Rattle.steps.specs.Answers.{Tape, tape_of}
use Rattle.steps.specs.Steps.{Entry, out, put_all, counting, writing, records as records_of, put_header, written}
use Rattle.steps.specs.Runs.{Run}
use Rattle.steps.proofs.Bounded.{Bounded, bounded_wider, spends_bounded, bounded_spends, counting_stateless, chain_limit, table_bounded}
use Rattle.steps.proofs.FirstRunCounts.{exact_of, counts_exact, records_counted}
use Rattle.steps.proofs.SecondRunWrites.{finished}
use Rattle.epoch.specs.declared.MessageContent.{MessageContent}
use Rattle.epochwords.proofs.Walk.{any_batches}
use Rattle.epoch.proofs.Bounded.{propose_writes, content_writes}
use Rattle.subset.proofs.Bounded.{Writes}
use Rattle.state.specs.State.{nodes, ahead, current_epoch, net_of, state_ok}
use Rattle.work.specs.declared.honey_badger.Call.{Call}
use Rattle.work.specs.declared.honey_badger.Call.TheVariants.{Propose, Message}
use Rattle.work.specs.HoneyBadger.{propose, handle_message}
use Rattle.work.specs.Work.{work_in, propose_work, message_work}
use Rattle.work.specs.Shape.{call_work}
use Rattle.state.proofs.RangeCode.{ok_words}
use Rattle.work.proofs.Walk.{behind, any_works, work_keeps}
use Rattle.work.proofs.RunBesideState.{by_propose_apart, by_message_apart}

-- WHAT A CALL WRITES besides one entry for each record that it reads. An epoch: at most 16 × 16 faults 2 and one fault more
abbrev pub epoch_limit : ℕ
epoch_limit = 257

-- a batch: its record and 16 entries; at most 16 batches
abbrev pub batch_limit : ℕ
batch_limit = 17

-- an epoch's call and the batches behind it
abbrev pub call_limit : ℕ
call_limit = epoch_limit + 16 * batch_limit

-- THE LOG of a call with a state in range and an answer table that is not malformed
abbrev pub log_limit : ℕ
log_limit = chain_limit + call_limit

module _ (w : List ℕ) (ok : state_ok w ≡ true) where
  -- a call of one epoch, and the batches that go out behind it
  call_limit_lem : (1 + nodes w * nodes w) + behind w ≤ call_limit
  call_limit_lem =
      let h = ok_words w ok in
      omega (arith, h.near, mul-le-mul_right (nodes w) h.few, mul-le-mul_left 16 h.few, mul-le-mul_right (ahead w + 1) h.few)

  work_bounded : (e : ℕ) (body : List ℕ → Tape → Run (List ℕ) (Unit {0})) → Writes (1 + nodes w * nodes w) body → (p : Tape) → Bounded call_limit p (work_in w e body p)
  work_bounded e body f p =
      bounded_wider _ call_limit p _ call_limit_lem (spends_bounded _ _ p _
      (work_keeps _ _ _ _ w e (any_works counting_stateless tt tt any_batches w e) (1 + nodes w * nodes w) body (λ x q. bounded_spends _ q _ (f x q)) p))

  call_bounded : (call : Call) (epoch : ℕ) (p : Tape) → Bounded call_limit p (call_work call epoch w p)
  unfolding net_of
  call_bounded Propose epoch p = work_bounded epoch _ (propose_writes _ _ _) p
  call_bounded (Message sender proposer content) epoch p = work_bounded epoch _ (content_writes _ _ _ sender proposer content) p

  -- an observer's propose runs no epoch
  propose_bounded : (p : Tape) → Bounded call_limit p (propose w p)
  unfolding propose_work
  propose_bounded p = by_propose_apart w ok p (Bounded call_limit p) (record { short = (call_bounded Propose (current_epoch w) p).short }) (record { short = omega arith })

  -- nor does a message beyond the look-ahead, which writes fault 1, or a late one
  message_bounded : (sender epoch proposer : ℕ) (content : MessageContent) (p : Tape) → Bounded call_limit p (handle_message sender epoch proposer content w p)
  unfolding message_work
  message_bounded sender epoch proposer content p =
      by_message_apart w ok p sender epoch proposer content (Bounded call_limit p) (λ _ _. record { short = (call_bounded (Message sender proposer content) epoch p).short })
      (record { short = omega arith }) (record { short = omega arith })

  module _ (answers : List ℕ) (good : table_ok (nodes w) answers ≡ true) where
    pub call_log : (call : Call) (epoch : ℕ) → length (call_work call epoch w (tape_of answers)).log ≤ log_limit
    call_log call epoch = table_bounded (nodes w) call_limit answers _ good (call_bounded call epoch (tape_of answers))

    pub propose_log : length (propose w (tape_of answers)).log ≤ log_limit
    propose_log = table_bounded (nodes w) call_limit answers _ good (propose_bounded (tape_of answers))

    pub message_log : (sender epoch proposer : ℕ) (content : MessageContent) → length (handle_message sender epoch proposer content w (tape_of answers)).log ≤ log_limit
    message_log sender epoch proposer content = table_bounded (nodes w) call_limit answers _ good (message_bounded sender epoch proposer content (tape_of answers))

-- WHAT THE SECOND RUN NEEDS. Such a log is counted exactly, whatever words the first run was given; the test of the count is reply 10's;
-- and the second run leaves the finished step in every table that has room for it
pub record CountedExactly (log : List Entry) : Type 0 where
  pub few : length log < 0x1_0000_0000
  pub count : (v : List ℕ) → (put_all (out counting v) log).step ≡ exact_of log
  pub records : (v : List ℕ) → records_of (put_all (out counting v) log).step ≡ 1 + length log
  pub test : (v : List ℕ) (room : ℕ) → ltb room (records_of (put_all (out counting v) log).step) ≡ ltb room (1 + length log)
  pub finishes : (v w : List ℕ) (epoch : ℕ) → 1 + length log ≤ length w / 4
      → put_header (put_all (out (writing (put_all (out counting v) log).step) w) log).words (writing (put_all (out counting v) log).step) epoch ≡ written w log epoch

log_exact : (log : List Entry) → length log ≤ log_limit → CountedExactly log
log_exact log h =
    let few : length log < 0x1_0000_0000 = omega arith in
    record {
      few = few;
      count = λ v. counts_exact log v few;
      records = λ v. records_counted log v few;
      test = λ v room. ap (λ n. ltb room n) (records_counted log v few);
      finishes = λ v w epoch room. finished log v w epoch few room;
    }

module _ (w : List ℕ) (ok : state_ok w ≡ true) (answers : List ℕ) (good : table_ok (nodes w) answers ≡ true) where
  pub call_exact : (call : Call) (epoch : ℕ) → CountedExactly (call_work call epoch w (tape_of answers)).log
  call_exact call epoch = log_exact _ (call_log w ok answers good call epoch)

  pub propose_exact : CountedExactly (propose w (tape_of answers)).log
  propose_exact = log_exact _ (propose_log w ok answers good)

  pub message_exact : (sender epoch proposer : ℕ) (content : MessageContent) → CountedExactly (handle_message sender epoch proposer content w (tape_of answers)).log
  message_exact sender epoch proposer content = log_exact _ (message_log w ok answers good sender epoch proposer content)
