-- How a call ends, from what its runs left: the replies 8, 9 and 10, a failure, the finished step. Assumes nothing.
use Rattle.std.proofs.Common.{ℕ, ◌+◌, ◌-◌, ◌/◌, ◌<◌, ◌≤◌, arith, ◌≡◌, refl, sym, ap, ◌∙◌, List, [], ◌∷◌, ◌++◌, Bool, true, false, true≢false, length, drop, replicate, drop-drop, get_or-set_other, lt-ltb, le-ltb}
use Rattle.std.proofs.Math.Seq.{drop-append-add}
use Rattle.steps.specs.Numbers.{fault_limit}
use Rattle.steps.specs.Answers.{Tape, tape_of}
use Rattle.steps.specs.declared.step.Step.{Step}
use Rattle.steps.specs.Steps.{Entry, fault, faults, messages, outputs, out, Out, put_all, put_entry, counting, Counted, writing, records, put_header, written}
use Rattle.steps.specs.Runs.{Verdict, going, refused, failed, number_of, Run, Left, ends, before, leaves}
use Rattle.steps.proofs.ChainLaws.{put_all_one}
use Rattle.steps.proofs.FirstRunCounts.{counted}
use Rattle.steps.proofs.SecondRunWrites.{finished_failed, finished_exact, finished}
use Rattle.subset.specs.Words.{epoch_length}
use Rattle.state.specs.State.{nodes, input_at, faults_at, fault_count, scratch_of, state_ok}
use Rattle.state.proofs.WordsCode.{place_inside}
use Rattle.state.proofs.RangeCode.{ok_words}
use Rattle.state.proofs.RangesState.{scratch_is, header_ok}
use Rattle.work.specs.declared.honey_badger.Call.{Call}
use Rattle.work.specs.declared.honey_badger.Call.TheVariants.{Propose, Message}
use Rattle.calls.specs.Calls.{after, zeroed, count_faults, is_end, conclude_as, conclude}
use Rattle.work.specs.Work.{Worked, committed}
use Rattle.calls.specs.Shape.{settled, all_read, as_done, Runnable, counted_by}
use Rattle.work.specs.Shape.{call_base, call_work, count_more}
use Rattle.calls.proofs.Settled.{count_none}
use Rattle.work.proofs.Bounded.{CountedExactly, call_exact}
use Rattle.work.proofs.RunBesideState.{over_same, over_input, commit_count}

-- SCRATCH: a first part of it was written
pub zeroed_part : (w s x : List ℕ) (l : ℕ) → length x ≡ l → l ≤ scratch_of w → zeroed w (x ++ drop l s) ≡ zeroed w s
unfolding zeroed
zeroed_part w s x l e h =
    let z : scratch_of w ≡ length x + (scratch_of w - l) = omega arith in
    let y : l + (scratch_of w - l) ≡ scratch_of w = omega arith in
    ap (λ d. replicate (scratch_of w) 0 ++ d)
    (ap (λ k. drop k (x ++ drop l s)) z ∙ drop-append-add x (drop l s) (scratch_of w - l) ∙ drop-drop (scratch_of w - l) l s ∙ ap (λ k. drop k s) y)

-- an epoch's words fit in it
pub epoch_fits : (w : List ℕ) → state_ok w ≡ true → epoch_length (nodes w) ≤ scratch_of w
epoch_fits w ok = omega (arith, scratch_is w ok, place_inside w (ok_words w ok) 0)

-- a reader that stands at p has come to its end
pub end_is : (q p : Tape) (b : Bool) → q ≡ p → b ≡ is_end q.rest → is_end p.rest ≡ b
end_is q p b e f = rw (← e, f)

pub after_same : (r : ℕ) (a b c d e f : List ℕ) → a ≡ b → c ≡ d → e ≡ f → after r a c e ≡ after r b d f
after_same r a b c d e f x y z = rw (x, y, z)

-- A CALL THAT RUNS NO EPOCH: its log is known
module _ (w s table : List ℕ) (e : ℕ) (p : Tape) (log : List Entry) where
  abbrev run : Run (List ℕ) (Unit {0})
  run = record { state = w; verdict = going tt; tape = p; log = log }

  pub still_unread : is_end p.rest ≡ false → after 9 w s table ≡ conclude run e w s table
  unfolding conclude_as
  still_unread f = rw f

  pub still_full : is_end p.rest ≡ true → length table / 4 < 1 + length log → after 10 w s table ≡ conclude run e w s table
  unfolding conclude_as
  still_full f l = rw (f, lt-ltb _ _ l)

  pub still_done : is_end p.rest ≡ true → 1 + length log ≤ length table / 4 → after 0 (count_faults w log) s (written table log e) ≡ conclude run e w s table
  unfolding conclude_as number_of
  still_done f l = rw (f, le-ltb _ _ l)

pub rest_done : (w s table : List ℕ) (e : ℕ) (p : Tape) (k : Step) → k ≡ writing counting → state_ok w ≡ true → is_end p.rest ≡ true → 4 ≤ length table
    → after 0 w s (put_header table k e) ≡ conclude (ends (going tt) w p) e w s table
unfolding put_all messages faults outputs
rest_done w s table e p k K ok f l =
    after_same 0 _ _ s s _ _ (sym (count_none w (header_ok w ok).counted)) refl (ap (λ (k : Step). put_header table k e) K ∙ finished_exact [] table e (omega arith) (omega arith))
    ∙ still_done w s table e p [] f (omega arith)

pub one_fault : (w : List ℕ) (k a b : ℕ) → count_more w 1 ≡ count_faults w (fault k a b ∷ [])
unfolding count_more count_faults faults
one_fault w k a b = refl

-- nothing is counted yet
pub none_counted : (k : Step) → k ≡ counting → Counted k
none_counted k K = rw K (record { messages = omega arith; faults = omega arith; outputs = omega arith })

-- f was counted without a table, and q is what that left; then its record was written
module _ (f : Entry) (o q : Out) (J : o ≡ out counting []) (K : q ≡ put_entry o f) where
  early_step : q.step ≡ (put_all (out counting []) (f ∷ [])).step
  early_step = ap (λ o. o.step) (K ∙ ap (λ o. put_entry o f) J ∙ sym (put_all_one (out counting []) f))

  pub early_counted : Counted q.step
  early_counted = rw early_step (counted (f ∷ []) [])

  pub early_done : (w s table : List ℕ) (e : ℕ) (p : Tape) (g : Step) → g ≡ writing q.step → (h : Out) → h ≡ put_entry (out g table) f → (t : List ℕ) → t ≡ h.words
      → is_end p.rest ≡ true → 2 ≤ length table / 4
      → after 0 (count_faults w (f ∷ [])) s (put_header t g e) ≡ conclude (before (f ∷ []) (ends (going tt) w p)) e w s table
  early_done w s table e p g G h H t T r l =
      let words : t ≡ (put_all (out g table) (f ∷ [])).words = T ∙ ap (λ o. o.words) (H ∙ sym (put_all_one (out g table) f)) in
      let step : put_header t g e ≡ written table (f ∷ []) e =
      ap (λ x. put_header x g e) words
      ∙ ap (λ (g : Step). put_header (put_all (out g table) (f ∷ [])).words g e) (G ∙ ap writing early_step)
      ∙ finished (f ∷ []) [] table e (omega arith) (omega arith) in
      after_same 0 _ _ s s _ _ refl refl step ∙ still_done w s table e p (f ∷ []) r (omega arith)

-- A FAILED CALL, or one with an empty step, in epoch e, on the state v that its commit writes on
module _ (w v s table : List ℕ) (e c : ℕ) (x : Worked) where
  pub failed_full : length table < 4 → after 10 w s table ≡ settled (ends (failed c) x all_read) e v w s table
  unfolding conclude_as is_end
  failed_full l = rw (lt-ltb (length table / 4) 1 (omega arith))

  pub failed_done : 4 ≤ length table → (k : Step) → k ≡ counting
      → after c (committed v e x) s (put_header table k e) ≡ settled (ends (failed c) x all_read) e v w s table
  unfolding conclude_as is_end number_of
  failed_done l k K = rw (le-ltb (length table / 4) 1 (omega arith), K, finished_failed table e l)

-- THE COMMIT leaves a fault count in range, since it writes none
pub commit_counted : (call : Call) (w : List ℕ) → state_ok w ≡ true → (e : ℕ) (x : Worked) → length x.words ≡ epoch_length (nodes w)
    → fault_count (committed (call_base call w) e x) ≤ fault_limit
commit_counted Propose w ok e x l =
    omega (arith, (header_ok w ok).counted, get_or-set_other w input_at faults_at 1 0 (omega arith), commit_count (nodes w) _ _ (over_input w ok).shape e x l)
commit_counted (Message sender proposer content) w ok e x l =
    omega (arith, (header_ok w ok).counted, commit_count (nodes w) _ _ (over_same w ok).shape e x l)

-- a list of no entries
none_in : (log : List Entry) → length log ≡ 0 → log ≡ []
none_in [] z = refl
none_in (a ∷ log) z = absurd (omega arith)

-- A CALL THAT IS DONE, whose first run counted k
module _ {call : Call} {w x answers : List ℕ} (h : Runnable call w x answers) (s table : List ℕ) (e : ℕ) (k : Step) (K : k ≡ counted_by call e w answers) where
  run_of : Run Worked (Unit {0})
  run_of = call_work call e w (tape_of answers)

  exact : CountedExactly run_of.log
  unfolding run_of
  exact = call_exact w h.ok answers h.good call e

  pub done_counted : Counted k
  done_counted = rw K (counted (call_work call e w (tape_of answers)).log [])

  pub done_full : length table / 4 < records k → after 10 w s table ≡ settled (as_done (call_work call e w (tape_of answers))) e (call_base call w) w s table
  unfolding conclude_as is_end run_of
  done_full l =
      let z : records k ≡ 1 + length run_of.log = ap records K ∙ exact.records [] in
      rw (lt-ltb (length table / 4) (1 + length run_of.log) (omega arith))

  -- the second run left d, and t is the table then
  pub done_written : records k ≤ length table / 4 → (g : Step) → g ≡ writing k → (q : Tape) → q ≡ tape_of answers → (d : Left Worked (Unit {0})) → d ≡ leaves (out g table) (call_work call e w q)
      → (t : List ℕ) → t ≡ d.out.words
      → after 0 (count_more (committed (call_base call w) e d.state) k.faults.at) s (put_header t g e) ≡ settled (as_done (call_work call e w (tape_of answers))) e (call_base call w) w s table
  unfolding conclude_as is_end count_faults count_more number_of run_of
  done_written l g G q Q d D t T =
      let z : records k ≡ 1 + length run_of.log = ap records K ∙ exact.records [] in
      let room : 1 + length run_of.log ≤ length table / 4 = omega arith in
      let F : d ≡ leaves (out g table) run_of = D ∙ ap (λ q. leaves (out g table) (call_work call e w q)) Q in
      let state : d.state ≡ run_of.state = ap (λ (d : Left Worked (Unit {0})). d.state) F in
      let words : t ≡ (put_all (out g table) run_of.log).words = T ∙ ap (λ (d : Left Worked (Unit {0})). d.out.words) F in
      let n : k.faults.at ≡ length (faults run_of.log) = ap (λ (k : Step). k.faults.at) (K ∙ exact.count []) in
      let step : put_header t g e ≡ written table run_of.log e =
      ap (λ x. put_header x g e) words
      ∙ ap (λ (g : Step). put_header (put_all (out g table) run_of.log).words g e) (G ∙ ap writing K)
      ∙ exact.finishes [] table e room in
      rw (step, n, state, le-ltb (length table / 4) (1 + length run_of.log) room)

abbrev pub is_refused : Verdict (Unit {0}) → Bool
is_refused (going a) = false
is_refused refused = true
is_refused (failed c) = false

-- AFTER THE FIRST RUN, which counted from o on and read from q on, and left d
module _ {call : Call} {w x answers : List ℕ} (h : Runnable call w x answers) (s table : List ℕ) (e : ℕ) (q : Tape) (Q : q ≡ tape_of answers) (o : Out) (O : o ≡ out counting []) (d : Left Worked (Unit {0}))
    (D : d ≡ leaves o (call_work call e w q)) where
  left_is : d ≡ leaves (out counting []) (call_work call e w (tape_of answers))
  left_is = D ∙ rw (O, Q)

  verdict_is : (call_work call e w (tape_of answers)).verdict ≡ d.verdict
  verdict_is = sym (ap (λ (d : Left Worked (Unit {0})). d.verdict) left_is)

  tape_is : (call_work call e w (tape_of answers)).tape ≡ d.tape
  tape_is = sym (ap (λ (d : Left Worked (Unit {0})). d.tape) left_is)

  state_is : (call_work call e w (tape_of answers)).state ≡ d.state
  state_is = sym (ap (λ (d : Left Worked (Unit {0})). d.state) left_is)

  pub first_step : d.out.step ≡ counted_by call e w answers
  first_step = ap (λ (d : Left Worked (Unit {0})). d.out.step) left_is

  pub first_counted : Counted d.out.step
  first_counted = done_counted h s table e d.out.step first_step

  pub first_refused : d.verdict ≡ refused → after 8 w s table ≡ settled (call_work call e w (tape_of answers)) e (call_base call w) w s table
  unfolding conclude_as number_of
  first_refused v = rw (verdict_is, v)

  pub unread : is_refused d.verdict ≡ false → is_end d.tape.rest ≡ false → after 9 w s table ≡ settled (call_work call e w (tape_of answers)) e (call_base call w) w s table
  unfolding conclude_as
  unread v f = go d.verdict refl v
    where
      go : (u : Verdict (Unit {0})) → d.verdict ≡ u → is_refused u ≡ false → after 9 w s table ≡ settled (call_work call e w (tape_of answers)) e (call_base call w) w s table
      go (going a) u v = rw (verdict_is, u, tape_is, f)
      go (failed c) u v = rw (verdict_is, u, tape_is, f)
      go refused u v = absurd (true≢false v)

  module _ (c : ℕ) (v : d.verdict ≡ failed c) where
    pub failed_read : is_end d.tape.rest ≡ true
        → settled (ends (failed c) d.state all_read) e (call_base call w) w s table ≡ settled (call_work call e w (tape_of answers)) e (call_base call w) w s table
    unfolding conclude_as is_end
    failed_read f = rw (verdict_is, v, tape_is, f, state_is)

  module _ (v : d.verdict ≡ going tt) where
    pub done_read : is_end d.tape.rest ≡ true
        → settled (as_done (call_work call e w (tape_of answers))) e (call_base call w) w s table ≡ settled (call_work call e w (tape_of answers)) e (call_base call w) w s table
    unfolding conclude_as is_end
    done_read f = rw (verdict_is, v, tape_is, f)

    -- nothing was counted: the log is empty, and what a failure would leave is left, with the number of success
    pub done_empty : is_end d.tape.rest ≡ true → records d.out.step ≡ 1 → length d.state.words ≡ epoch_length (nodes w)
        → settled (ends (failed 0) d.state all_read) e (call_base call w) w s table ≡ settled (call_work call e w (tape_of answers)) e (call_base call w) w s table
    unfolding conclude_as is_end number_of
    done_empty f one long =
        let few : CountedExactly (call_work call e w (tape_of answers)).log = call_exact w h.ok answers h.good call e in
        let z : 1 + length (call_work call e w (tape_of answers)).log ≡ 1 = sym (few.records []) ∙ sym (ap records first_step) ∙ one in
        rw (verdict_is, v, tape_is, f, state_is, none_in (call_work call e w (tape_of answers)).log (omega arith), count_none (committed (call_base call w) e d.state) (commit_counted call w h.ok e d.state long))
