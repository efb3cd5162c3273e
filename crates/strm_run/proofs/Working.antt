-- Workers who all have a thread are all served, and what is written for their trace is the text of their script.
use Rattle.std.proofs.Common.{◌≡◌, ℕ, zero, suc, ◌+◌, ◌-◌, ◌<◌, ◌≤◌, false, List, [], ◌∷◌, ◌++◌, length, map, get_or, refl, sym, ap, ◌∙◌, subst, inl, inr, arith, append-nil, append_assoc, true≢false}
use Rattle.std.specs.Prelude.{Contains, filter, max, sum_by, ◌==◌}
use Rattle.std.specs.List.{All, flat_map, list_any}
use Rattle.std.proofs.Math.ListN.{get_or-append}
use Rattle.std.proofs.lemmas.Bool.{cases_eq, or_parts}
use Rattle.std.proofs.lemmas.List.{ext_get_or, get_or-map, get_or_default, get_or_push, length-map}
use Rattle.std.proofs.lemmas.List.Elements.{All-contains, Contains-append_left, Contains-push}
use Rattle.std.proofs.lemmas.List.Sorted.{All-permutation, IsPermutation-sym, length_permutation}
use Rattle.strm_data.specs.declared.refusal.Refusal.{Refusal}
use Rattle.strm_pool.specs.declared.reply.Reply.{Reply}
use Rattle.strm_pool.specs.PoolValue.{PoolValue, opening_pool}
use Rattle.strm_pool.specs.Step.{Replay, empty_tables}
use Rattle.strm_pool.specs.declared.line.Entry.{Entry}
use Rattle.strm_pool.specs.declared.line.Line.{Line}
use Rattle.strm_shared.specs.declared.name.Name.{Ghosts}
use Rattle.strm_shared.specs.declared.outcome.End.{End}
use Rattle.strm_shared.specs.declared.outcome.End.TheVariants.{Done, Refused, NotStarted}
use Rattle.strm_shared.specs.Books.{AreShown}
use Rattle.strm_shared.specs.Chronicle.{entry_of, served_from}
use Rattle.strm_shared.specs.Desks.{DeskValue, empty_desk, fresh_desks, no_desk, with_pair_seen}
use Rattle.strm_shared.specs.Pairs.{ArePairs, Pair, no_pair, pair_at}
use Rattle.strm_shared.specs.Runs.{AllWorked, AreServed, Worked}
use Rattle.strm_shared.specs.Traces.{entries_kept}
use Rattle.strm_shared.proofs.Opening.{length-fresh}
use Rattle.strm_shared.proofs.Refusing.{full_shown}
use Rattle.strm_script.specs.declared.script.Script.{Script}
use Rattle.strm_script.specs.Merge.{IsMerge, merge_of}
use Rattle.strm_script.specs.Text.{entry_text, report_text, text_from}
use Rattle.strm_run.specs.declared.runs.Mode.TheVariants.{Workers}
use Rattle.strm_run.specs.Outcome.{IsMergedText, IsTextAsServed, IsTextOf}
use Rattle.strm_run.specs.Told.{is_not_started}
use Rattle.strm_run.specs.Working.{IsServedUnder}
use Rattle.strm_run.proofs.Merges.{IsMerge-merge_of, entries_for, length-entries_for, line_of, lines_of-entries_for, served_from-entries}
use Rattle.strm_run.proofs.Texts.{one_text, text_from-merge_of}
use Rattle.strm_run.proofs.Totals.{fewer_entries}

-- ---- one worker

-- what a desk was served of these lines
record IsMore (lines : List Line) (replies : List Reply) (d e : DeskValue) : Type 0 where
  pub new : List (ℕ × Entry)
  pub number : e.number ≡ d.number
  pub served : e.served ≡ d.served ++ new
  pub entries : map (λ s. s.1) new ≡ entries_for d.number lines replies

none_for : (n : ℕ) (lines : List Line) → [] ≡ entries_for n lines []
none_for n [] = refl
none_for n (line ∷ lines) = refl

served_more : {N : Type 0} (n : Ghosts N) (lines : List Line) (d : DeskValue) (replies : List Reply) (e : DeskValue) → AreServed n lines d replies e → IsMore lines replies d e
served_more n lines d [] e all = record {
  new = [];
  number = ap (λ (x : DeskValue). x.number) all;
  served = ap (λ (x : DeskValue). x.served) all ∙ sym (append-nil d.served);
  entries = none_for d.number lines;
}
served_more n [] d (reply ∷ replies) e all = absurd all
served_more n (line ∷ lines) d (reply ∷ replies) e all =
    let first = all.1.4 in
    let rest = served_more n lines all.0 replies e all.2 in
    let s : ℕ × Entry = (all.1.1.stamp, entry_of d.number line.number line.call reply) in
    record {
      new = s ∷ rest.new;
      number = rest.number ∙ first.number;
      served = rest.served ∙ ap (λ (xs : List (ℕ × Entry)). xs ++ rest.new) first.served ∙ append_assoc d.served (s ∷ []) rest.new;
      entries = ap (λ (xs : List Entry). s.1 ∷ xs) (rest.entries ∙ ap (λ (k : ℕ). entries_for k lines replies) first.number);
    }

-- on a desk that was served nothing before, as many as there are replies
length-more : (lines : List Line) (replies : List Reply) (d e : DeskValue) → d.served ≡ [] → length replies < length lines + 1 → IsMore lines replies d e → length e.served ≡ length replies
length-more lines replies d e none few more =
    cc (more.served, none, length-map more.new (λ s. s.1), more.entries, length-entries_for d.number lines replies few)

module _ {N : Type 0} (n : Ghosts N) (lines : List Line) (d : DeskValue) (none : d.served ≡ []) where
  -- however it ends, the desk keeps its number, and was served no more calls than there are lines
  worked_few : (end : End) (replies : List Reply) (e : DeskValue) → Worked n lines d end replies e → (e.number ≡ d.number) × (length e.served ≤ length lines)
  worked_few Done replies e worked =
      let more = served_more n lines d replies e worked.1 in
      (more.number, omega (arith, worked.0, length-more lines replies d e none (omega (arith, worked.0)) more))
  worked_few (Refused why) replies e worked =
      let more = served_more n lines d replies worked.1 worked.2 in
      let after = worked.4.4.2 in (
        ap (λ (x : DeskValue). x.number) after ∙ more.number,
        omega (arith, worked.0, length-more lines replies d worked.1 none (omega (arith, worked.0)) more, ap (λ (x : DeskValue). length x.served) after),
      )
  worked_few NotStarted replies e worked =
      (ap (λ (x : DeskValue). x.number) worked.1, omega (arith, ap (λ (x : DeskValue). length x.served) worked.1, ap length none))

  -- where it was refused, it was served fewer, and has seen the stamp of a full trace
  refused_fewer : (parts : List (List Line)) (under : IsServedUnder n parts) (why : Refusal) (replies : List Reply) (e : DeskValue) → Worked n lines d (Refused why) replies e
      → (length e.served < length lines) × (p : Pair) × Contains e.pairs p × (p.0 ≡ n.first + max (sum_by length parts) 1)
  refused_fewer parts under why replies e worked =
      let more = served_more n lines d replies worked.1 worked.2 in
      let full = full_shown n (max (sum_by length parts) 1) under.kept (omega (arith, under.begun, under.few)) worked.1 worked.3.number worked.3.call e why worked.4 in (
        omega (arith, worked.0, length-more lines replies d worked.1 none (omega (arith, worked.0)) more, ap (λ (x : DeskValue). length x.served) full.1),
        full.0,
        subst (λ (x : DeskValue). Contains x.pairs full.0) (sym full.1) (Contains-push worked.1.pairs full.0),
        full.2,
      )

-- ---- new desks

at_fresh : (m k : ℕ) (ps : List Pair) (d : DeskValue) → k < m → get_or (fresh_desks m ps) k d ≡ empty_desk k ps
at_fresh zero k ps d below = absurd (omega (arith, below))
at_fresh (suc m) k ps d below = elim (cases_eq k m) [
  | inl same ↦ get_or_push (fresh_desks m ps) (empty_desk m ps) d k (length-fresh m ps ∙ sym same) ∙ ap (λ (j : ℕ). empty_desk j ps) (sym same)
  | inr other ↦
      let within : k < m = omega (arith, below, other) in
      get_or-append (fresh_desks m ps) (empty_desk m ps ∷ []) d k (omega (arith, within, length-fresh m ps)) ∙ at_fresh m k ps d within
]

-- ---- all workers

-- what desks were served
abbrev pub served_at_each : List DeskValue → List (List (ℕ × Entry))
served_at_each ds = map (λ (d : DeskValue). d.served) ds

-- a pair of a shared pool has no later stamp than the pool
pair_before : (o : Pair) (stamp : ℕ) (v : PoolValue) (ps : List Pair) → ArePairs o stamp v ps → (p : Pair) → Contains ps p → p.0 ≤ stamp
pair_before o stamp v ps are p has =
    let is : get_or ps has.0 no_pair ≡ p = get_or_default ps has.0 no_pair p has.1 ∙ has.2 in
    omega (
      arith,
      has.1,
      are.some,
      (are.rising has.0 has.1).0,
      (are.rising (length ps - 1) (omega (arith, are.some))).0,
      ap (λ (q : Pair). q.0) is,
      ap (λ (q : Pair). q.0) are.last,
    )

-- where each worker has a thread, none is without
all_started : (ends : List End) → list_any is_not_started ends ≡ false → (k : ℕ) → k < length ends → is_not_started (get_or ends k NotStarted) ≡ false
all_started [] started k within = absurd (omega (arith, within))
all_started (end ∷ ends) started zero within = (or_parts (is_not_started end) (list_any is_not_started ends) started).0
all_started (end ∷ ends) started (suc k) within = all_started ends (or_parts (is_not_started end) (list_any is_not_started ends) started).1 k (omega (arith, within))

is_done : (end : End) → is_not_started end ≡ false → ((why : Refusal) → end ≡ Refused why → ⊥) → end ≡ Done
is_done Done started served = refl
is_done (Refused why) started served = absurd (served why refl)
is_done NotStarted started served = absurd (true≢false started)

module _ {N : Type 0} (n : Ghosts N) (parts : List (List Line)) (ps : List Pair) (ends : List End) (all : List (List Reply)) (came : List DeskValue) (v : PoolValue) (trace : List Entry) (gathered : List DeskValue)
    (under : IsServedUnder n parts) (worked : AllWorked n parts (fresh_desks n.desks ps) ends all came) (left : AreShown n came v trace gathered) where
  each : (k : ℕ) → k < length parts → Worked n (get_or parts k []) (empty_desk k ps) (get_or ends k NotStarted) (get_or all k []) (get_or came k no_desk)
  each k within =
      subst (λ (d : DeskValue). Worked n (get_or parts k []) d (get_or ends k NotStarted) (get_or all k []) (get_or came k no_desk))
      (at_fresh n.desks k ps no_desk (omega (arith, within, under.desks))) (worked.each k within)

  few : (k : ℕ) → k < length parts → ((get_or came k no_desk).number ≡ k) × (length (get_or came k no_desk).served ≤ length (get_or parts k []))
  few k within = worked_few n (get_or parts k []) (empty_desk k ps) refl (get_or ends k NotStarted) (get_or all k []) (get_or came k no_desk) (each k within)

  -- a desk that came was served the entries of its number, and has seen pairs of the pool
  known : (k : ℕ) → k < length parts
      → ((get_or came k no_desk).served ≡ served_from (n.first + 1) (get_or came k no_desk).number left.entries)
      × All (Contains left.pairs) ((get_or came k no_desk).pairs ++ pair_at left.stamp v ∷ [])
  known k within =
      let f = with_pair_seen (pair_at left.stamp v) in
      let h =
      All-permutation (λ (d : DeskValue). (d.served ≡ served_from (n.first + 1) d.number left.entries) × All (Contains left.pairs) d.pairs) gathered (map f came) (IsPermutation-sym (map f came) gathered left.same)
      (λ j d inside. (left.served j d inside, left.seen j d inside)) k no_desk (omega (arith, within, worked.kept, length-map came f)) in
      subst (λ (d : DeskValue). (d.served ≡ served_from (n.first + 1) d.number left.entries) × All (Contains left.pairs) d.pairs)
      (get_or-map f came k no_desk no_desk (omega (arith, within, worked.kept))) h

  served_at : (k : ℕ) → k < length parts → served_from (n.first + 1) k left.entries ≡ (get_or came k no_desk).served
  served_at k within = ap (λ (j : ℕ). served_from (n.first + 1) j left.entries) (sym (few k within).0) ∙ sym (known k within).0

  -- gathered desks are those that came, in the same order
  pub gathered_as_came : ((k : ℕ) → k < n.desks → (get_or gathered k no_desk).number ≡ k) → served_at_each gathered ≡ served_at_each came
  gathered_as_came numbered =
      let served_of : DeskValue → List (ℕ × Entry) = λ d. d.served in
      let seen : DeskValue → DeskValue = with_pair_seen (pair_at left.stamp v) in
      let as_many : length gathered ≡ length came = length_permutation (map seen came) gathered left.same ∙ length-map came seen in
      ext_get_or [] (served_at_each gathered) (served_at_each came) (length-map gathered served_of ∙ as_many ∙ sym (length-map came served_of))
      (λ k within.
      let inside : k < length gathered = omega (arith, within, length-map gathered served_of) in
      get_or-map served_of gathered k no_desk [] inside
      ∙ left.served k no_desk inside
      ∙ ap (λ (j : ℕ). served_from (n.first + 1) j left.entries) (numbered k (omega (arith, inside, as_many, worked.kept, under.desks)))
      ∙ served_at k (omega (arith, inside, as_many, worked.kept))
      ∙ sym (get_or-map served_of came k no_desk [] (omega (arith, inside, as_many))))

  below : All (λ (e : Entry). e.desk < length parts) left.entries
  below = subst (λ (m : ℕ). All (λ (e : Entry). e.desk < m) left.entries) under.desks left.told.below

  -- the trace has room for all
  none_refused : (k : ℕ) → k < length parts → (why : Refusal) → get_or ends k NotStarted ≡ Refused why → ⊥
  none_refused k within why is =
      let e : DeskValue = get_or came k no_desk in
      let was = subst (λ (end : End). Worked n (get_or parts k []) (empty_desk k ps) end (get_or all k []) e) is (each k within) in
      let fewer = refused_fewer n (get_or parts k []) (empty_desk k ps) refl parts under why (get_or all k []) e was in
      let in_pool : Contains left.pairs fewer.1 =
      All-contains (Contains left.pairs) (e.pairs ++ pair_at left.stamp v ∷ []) fewer.1 (known k within).1 (Contains-append_left e.pairs (pair_at left.stamp v ∷ []) fewer.1 fewer.2) in
      let before = pair_before (pair_at n.first n.opened) left.stamp v left.pairs left.lawful fewer.1 in_pool in
      let less : length (served_from (n.first + 1) k left.entries) < length (get_or parts k []) = omega (arith, fewer.0, ap length (served_at k within)) in
      let short = fewer_entries (n.first + 1) k parts left.entries below (λ j inside. omega (arith, ap length (served_at j inside), (few j inside).1)) within less in
      omega (arith, before, fewer.3, left.told.stamped, short)

  module _ (started : list_any is_not_started ends ≡ false) where
    done : (k : ℕ) → k < length parts → get_or ends k NotStarted ≡ Done
    done k within = is_done (get_or ends k NotStarted) (all_started ends started k (omega (arith, within, worked.ended))) (none_refused k within)

    -- so each worker's lines are the trace's of its number
    lines_at : (k : ℕ) → k < length parts → map line_of (filter (λ e. e.desk == k) left.entries) ≡ get_or parts k []
    lines_at k within =
        let lines : List Line = get_or parts k [] in
        let replies : List Reply = get_or all k [] in
        let e : DeskValue = get_or came k no_desk in
        let was = subst (λ (end : End). Worked n lines (empty_desk k ps) end replies e) (done k within) (each k within) in
        let more = served_more n lines (empty_desk k ps) replies e was.1 in
        let entries : map (λ s. s.1) (served_from (n.first + 1) k left.entries) ≡ entries_for k lines replies =
        cc (served_at k within, more.served, more.entries) in
        ap (map line_of) (sym (served_from-entries (n.first + 1) k left.entries) ∙ entries) ∙ lines_of-entries_for k lines replies was.0

    -- and the text of the trace is that of the script, in the order of serving
    pub as_served : (script : Script) (text : List ℕ) → script.parts ≡ parts → n.opened ≡ opening_pool script.config → text ≡ flat_map entry_text trace ++ report_text v → IsTextAsServed script n.first (served_at_each came) text
    as_served script text same opens written =
        let es : List Entry = left.entries in
        let merge = merge_of es in
        let traced : trace ≡ es = left.kept ∙ ap (λ o. entries_kept o es) under.kept in
        let merges : IsMerge script.parts merge = subst (λ (qs : List (List Line)). IsMerge qs merge) (sym same) (IsMerge-merge_of parts es below lines_at) in
        let replayed = left.told.replayed in
        let told =
        text_from-merge_of n.opened v (empty_tables n.desks) es (sym (ap (λ (r : Replay). r.pool) replayed)) (sym (ap (λ (r : Replay). r.replies) replayed)) in
        let replied : text ≡ flat_map entry_text es ++ report_text v = written ∙ ap (λ (xs : List Entry). flat_map entry_text xs ++ report_text v) traced in
        let is =
        replied
        ∙ told
        ∙ ap (λ (w : PoolValue). text_from w (empty_tables n.desks) merge) opens
        ∙ ap (λ (k : ℕ). text_from (opening_pool script.config) (empty_tables k) merge) (under.desks ∙ ap length (sym same)) in
        record {
          entries = es;
          under = (merges, is);
          replied = (report_text v, replied);
          each = length-map came (λ (d : DeskValue). d.served) ∙ worked.kept ∙ ap length (sym same);
          served = λ k within.
              served_at k (omega (arith, within, ap length same))
              ∙ sym (get_or-map (λ (d : DeskValue). d.served) came k no_desk [] (omega (arith, within, ap length same, worked.kept)));
        }

-- such a text is one of workers
pub text_of_workers : (script : Script) (first : ℕ) (desks : List (List (ℕ × Entry))) (text : List ℕ) → IsTextAsServed script first desks text → IsTextOf Workers script text
text_of_workers script first desks text served =
    let merged : IsMergedText script text = (merge_of served.entries, served.under) in
    (merged, λ one. one_text script text one merged)
