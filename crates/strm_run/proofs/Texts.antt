-- Texts of traces, their faults, and where a run stops.
use Rattle.std.proofs.Common.{◌≡◌, Bool, false, ◌||◌, Result, Ok, Err, refl, sym, ap, ◌∙◌, ◌≢◌, ℕ, List, [], ◌∷◌, ◌++◌, length, map, subst, inl, inr, arith, append-nil}
use Rattle.std.specs.Result.{IsErrAnd}
use Rattle.std.proofs.Math.Bool.{or-false}
use Rattle.std.specs.List.{flat_map}
use Rattle.std.proofs.lemmas.Bool.{cases_eq, eq-eqb, ne_eqb}
use Rattle.std.proofs.lemmas.List.{get_or_past}
use Rattle.strm_pool.specs.PoolValue.{PoolValue}
use Rattle.strm_pool.specs.Registers.{RegisterTable}
use Rattle.strm_pool.specs.Step.{DeskCall, replay_from}
use Rattle.strm_pool.specs.declared.line.Entry.{Entry}
use Rattle.strm_pool.specs.declared.line.Line.{Line}
use Rattle.strm_shared.specs.Chronicle.{calls_of}
use Rattle.strm_script.specs.declared.script.Script.{Script}
use Rattle.strm_script.specs.Merge.{Served, IsMerge, by_worker, merge_of, part_of, serial_merge}
use Rattle.strm_script.specs.Text.{desk_calls, entry_text, report_text, text_from, transcript}
use Rattle.strm_run.specs.declared.fault.RunFault.{RunFault}
use Rattle.strm_run.specs.declared.fault.TextFault.{TextFault}
use Rattle.strm_run.specs.Told.{errs, is_write, run_fault_of_text}
use Rattle.strm_run.specs.Watched.{Observed, Stops, is_over}
use Rattle.strm_run.specs.Outcome.{IsMergedText, IsSerialText, IsTextUnder}
use Rattle.strm_run.specs.declared.fault.TextFault.TheVariants as text_faults

-- ---- the fault of a text is none of the writer

is_write-text : (fault : TextFault) → is_write (run_fault_of_text fault) ≡ false
is_write-text (text_faults.Script found) = refl
is_write-text (text_faults.Config which) = refl
is_write-text text_faults.Memory = refl
is_write-text (text_faults.Refused why) = refl

-- a text's fault is none of the writer
pub errs-text : (failed : Bool) (result : Result (Unit {0}) RunFault) (fault : TextFault) → IsErrAnd result (λ e. e ≡ run_fault_of_text fault) → failed ≡ (failed || errs is_write result)
errs-text failed (Ok x) fault is = sym (or-false failed)
errs-text failed (Err e) fault is = rw (is, is_write-text fault) (sym (or-false failed))

-- ---- no call comes after one that failed, nor after a read that found the end

-- one call more, where none has failed and no end was found since the first
pub stops_more : {T : Type 0} (first old new : Observed T) → Stops first old → old.failed ≡ first.failed → old.ended ≡ first.ended → new.past ≡ (old.past || is_over old) → Stops first new
stops_more first old new stops failed ended past over =
    past ∙ ap (λ b. old.past || b) (ap (λ b. b || old.ended) failed ∙ ap (λ b. first.failed || b) ended ∙ over) ∙ or-false old.past ∙ stops over

-- ---- the text of a trace is that of its merge, and one section has one merge

-- ---- a trace

-- the lines for the replies
transcript-merge_of : (es : List Entry) → transcript (merge_of es) (map (λ e. e.reply) es) ≡ flat_map entry_text es
transcript-merge_of [] = refl
transcript-merge_of (e ∷ es) = ap (λ (bs : List ℕ). entry_text e ++ bs) (transcript-merge_of es)

-- the calls
desk_calls-merge_of : (es : List Entry) → desk_calls (merge_of es) ≡ calls_of es
desk_calls-merge_of [] = refl
desk_calls-merge_of (e ∷ es) = ap (λ (cs : List DeskCall). record { desk = e.desk; call = e.call } ∷ cs) (desk_calls-merge_of es)

-- where replies and pool are those of a replay, the lines for the replies and the report are the text of the merge
pub text_from-merge_of : (v w : PoolValue) (tables : List RegisterTable) (es : List Entry)
    → w ≡ (replay_from v tables (calls_of es)).pool → map (λ e. e.reply) es ≡ (replay_from v tables (calls_of es)).replies
    → flat_map entry_text es ++ report_text w ≡ text_from v tables (merge_of es)
text_from-merge_of v w tables es pool replies =
    cc (transcript-merge_of es, replies, pool, desk_calls-merge_of es)

-- ---- one section

-- where other workers have no lines, the lines are this worker's
all_of_one : (w : ℕ) (ss : List Served) → ((v : ℕ) → v ≢ w → part_of v ss ≡ []) → ss ≡ by_worker w (part_of w ss)
all_of_one w [] none = refl
all_of_one w (s ∷ ss) none = elim (cases_eq s.worker w) [
  | inl same ↦
      let rest : (v : ℕ) → v ≢ w → part_of v ss ≡ [] = λ v other. let h = none v other in rw (ne_eqb s.worker v (λ is. other (sym is ∙ same))) at h in
      rw (eq-eqb s.worker w same) (λ i. record { worker = same i; line = s.line } ∷ all_of_one w ss rest i)
  | inr other ↦
      let h = none s.worker other in
      absurd (omega (arith, ap length (rw (eq-eqb s.worker s.worker refl) at h)))
]

-- the merge of one part is the serial one
one_merge : (parts : List (List Line)) (served : List Served) → length parts ≡ 1 → IsMerge parts served → served ≡ serial_merge parts
one_merge [] served one merges = absurd (omega (arith, one))
one_merge (lines ∷ []) served one merges =
    cc (all_of_one 0 served (λ v other. merges v ∙ get_or_past (lines ∷ []) v [] (omega (arith, other))), merges 0, append-nil (by_worker 0 lines))
one_merge (lines ∷ more ∷ others) served one merges = absurd (omega (arith, one))

-- so a text under some order is the serial one
pub one_text : (script : Script) (text : List ℕ) → length script.parts ≡ 1 → IsMergedText script text → IsSerialText script text
one_text script text one merged = subst (λ (served : List Served). IsTextUnder script served text) (one_merge script.parts merged.0 one merged.1.0) merged.1
