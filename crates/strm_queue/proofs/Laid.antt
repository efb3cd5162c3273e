-- Queues as they lie in memory, and their law.
use Rattle.std.proofs.Common.{◌≡◌, ℕ, ◌<◌, false, List, [], length, map, get_or, ap, ◌∙◌, ◌≢◌, true, ◌&&◌, zero, suc, ◌≤◌, ◌∷◌, sym, subst, arith, inl, inr, set, refl, ◌+◌, ◌^◌, drop, Some}
use Rattle.std.proofs.lemmas.List.{get_or-map, length-replicate, get_or-replicate, get_or-set_other, length-map, length-set, map-set, set-get_or}
use Rattle.std.specs.Prelude.{nat_le, not, slice_get}
use Rattle.std.proofs.lemmas.Bool.{and_parts, leb-true, not-true, leb-false, or_parts, cases_eq}
use Rattle.std.specs.Vec.{with_item}
use Rattle.std.specs.List.{All}
use Rattle.strm_links.specs.Rows.{IsParting, Rows, first, list_at, next_in, without}
use Rattle.strm_links.proofs.lists.AllLists.{All-listed, IsApart-list_at, has-holder}
use Rattle.strm_links.proofs.lists.OneList.{after-get, first-without, has_get, length_below, some_of}
use Rattle.strm_queue.specs.declared.marks.Marks.{Marks}
use Rattle.strm_queue.specs.declared.queue_spec.QueueSpec.{QueueSpec}
use Rattle.strm_queue.specs.Flow.{Flags, no_spec, opening_flags, opening_marks, spec_at, spec_marks, AreMarksApart, QueueState, lowat_of, marks_at, no_marks, opening_queues, with_marks, flags_at, marks_of, with_flags}
use Rattle.strm_queue.specs.Limits.{bands, most_queues}
use Rattle.strm_queue.specs.QueuesLayout.{AreBanded, IsSound, flags_in, marks_in, new_queue, spec_in, tally_in, value_of}
use Rattle.strm_queue.specs.QueueSpecs.{are_lawful, marks_meet, nexts_fit}
use Rattle.strm_queue.specs.declared.queues.Queue.{Queue}
use Rattle.strm_queue.specs.declared.queues.Queues.TheInside.{Inside}
use Rattle.strm_queue.specs.QueuedBlocks.{QueuesValue, opening_value, with_tally, tally_at}
use Rattle.strm_queue.specs.Tallies.{Tally, no_tally}
use Rattle.strm_queue.proofs.bands.Bands.{length-bands_where, length_every_band}
use Rattle.std.proofs.lemmas.Grind.{common_steps, get_or-set_at}

-- ---- each queue has a wanted mark and water marks for each band

module _ (n : ℕ) (flags : List Flags) (marks : List (List Marks)) where
  -- marks for each band, queue by queue
  abbrev pub EachBanded : Type 0
  EachBanded = (q : ℕ) → q < n → (length (get_or flags q opening_flags).wanted ≡ bands) × (length (get_or marks q []) ≡ bands)

  pub each_banded : AreBanded n flags marks → EachBanded
  unfolding AreBanded
  each_banded banded = banded

  pub are_banded : EachBanded → AreBanded n flags marks
  unfolding AreBanded
  are_banded each = each

-- new queues have them
pub banded_new : (specs : List QueueSpec) → AreBanded (length specs) (map (λ s. opening_flags) specs) (map opening_marks specs)
banded_new specs = are_banded (length specs) (map (λ s. opening_flags) specs) (map opening_marks specs) (λ q within. (
  ap (λ (m : Flags). length m.wanted) (get_or-map (λ s. opening_flags) specs q no_spec opening_flags within) ∙ length-bands_where (λ band. false) ∙ length_every_band,
  ap length (get_or-map opening_marks specs q no_spec [] within) ∙ length-replicate bands (spec_marks (spec_at specs q)),
))

-- ---- the parts of `are_lawful`, and the water marks of bands

module _ (specs : List QueueSpec) (lawful : are_lawful specs ≡ true) where
  -- what follows the test that there is a queue
  beyond : nat_le (length specs) most_queues && (not (marks_meet specs) && nexts_fit specs) ≡ true
  beyond = (and_parts (nat_le 1 (length specs)) (nat_le (length specs) most_queues && (not (marks_meet specs) && nexts_fit specs)) lawful).1

  pub few_queues : length specs ≤ most_queues
  few_queues = leb-true (length specs) most_queues (and_parts (nat_le (length specs) most_queues) (not (marks_meet specs) && nexts_fit specs) beyond).0

  both_fit : not (marks_meet specs) && nexts_fit specs ≡ true
  both_fit = (and_parts (nat_le (length specs) most_queues) (not (marks_meet specs) && nexts_fit specs) beyond).1

  pub marks_apart : marks_meet specs ≡ false
  marks_apart = not-true (marks_meet specs) (and_parts (not (marks_meet specs)) (nexts_fit specs) both_fit).0

  pub nexts_lawful : nexts_fit specs ≡ true
  nexts_lawful = (and_parts (not (marks_meet specs)) (nexts_fit specs) both_fit).1

-- if no water marks meet, each low one is below the high one
none_meet : (specs : List QueueSpec) → marks_meet specs ≡ false → (q : ℕ) → q < length specs → (spec_at specs q).lowat < (spec_at specs q).hiwat
none_meet [] none q within = absurd (omega (arith, within))
none_meet (s ∷ specs) none zero within = leb-false s.hiwat s.lowat (or_parts (nat_le s.hiwat s.lowat) (marks_meet specs) none).0
none_meet (s ∷ specs) none (suc q) within = none_meet specs (or_parts (nat_le s.hiwat s.lowat) (marks_meet specs) none).1 q (omega (arith, within))

-- ---- the water marks of bands

-- a new queue's bands have the water marks that it was made with
opened_marks : (specs : List QueueSpec) (q band : ℕ) → q < length specs → band < bands → marks_at (opening_queues specs) q band ≡ spec_marks (spec_at specs q)
opened_marks specs q band within low =
    ap (λ (ms : List Marks). get_or ms band no_marks) (get_or-map opening_marks specs q no_spec [] within) ∙ get_or-replicate bands band (spec_marks (spec_at specs q)) no_marks low

-- so the low ones are below the high ones
pub marks_below : (specs : List QueueSpec) → are_lawful specs ≡ true → AreMarksApart (opening_queues specs)
marks_below specs lawful q band within low = subst (λ (m : Marks). m.lowat < m.hiwat) (sym (opened_marks specs q band within low)) (none_meet specs (marks_apart specs lawful) q within)

module _ (s : QueueState) (q band : ℕ) (m : Marks) where
  -- other bands of the queue keep theirs
  pub marks_at-other : (x : ℕ) → x ≢ band → marks_at (with_marks q band m s) q x ≡ marks_at s q x
  marks_at-other x other = grind (arith, common_steps)

  -- and so do other queues
  pub marks_at-apart : (p : ℕ) → p ≢ q → (x : ℕ) → marks_at (with_marks q band m s) p x ≡ marks_at s p x
  marks_at-apart p other x = grind (arith, common_steps)

  -- if the new low one is below the new high one, all are
  pub apart_with : m.lowat < m.hiwat → AreMarksApart s → AreMarksApart (with_marks q band m s)
  apart_with low apart p x within below = grind (arith, common_steps)

-- equal states have equal water marks
module _ (s t : QueueState) (marks : t.marks ≡ s.marks) (q : ℕ) where
  pub lowat_of-same : lowat_of t q ≡ lowat_of s q
  lowat_of-same = λ i band. (get_or (get_or (marks i) q []) band no_marks).lowat

-- ---- queues in memory, and what their model sees of them

-- new queues
map-new : {X : Type 0} (f : Queue → X) (specs : List QueueSpec) → map f (map new_queue specs) ≡ map (λ s. f (new_queue s)) specs
map-new f [] = refl
map-new f (s ∷ specs) = ap (λ xs. f (new_queue s) ∷ xs) (map-new f specs)

map-same : {X : Type 0} (xs : List X) → map (λ x. x) xs ≡ xs
map-same [] = refl
map-same (x ∷ xs) = ap (λ ys. x ∷ ys) (map-same xs)

module _ (a : Inside) (specs : List QueueSpec) (queues : a.queues.items ≡ map new_queue specs) (none : (value_of a).state.run ≡ []) where
  made_specs : (value_of a).state.specs ≡ specs
  made_specs = ap (map spec_in) queues ∙ map-new spec_in specs ∙ map-same specs

  pub value_made : value_of a ≡ opening_value specs
  value_made = λ i. record {
    state = record { specs = made_specs i; marks = (ap (map marks_in) queues ∙ map-new marks_in specs) i; flags = (ap (map flags_in) queues ∙ map-new flags_in specs) i; run = none i };
    tallies = (ap (map tally_in) queues ∙ map-new tally_in specs) i;
  }

  pub lawful_made : are_lawful specs ≡ true → a.run.nodes ≡ length specs → length a.run.lists ≡ 1 → IsSound a
  lawful_made lawful nodes lists = grind (arith, common_steps, made_specs, value_made, marks_below, banded_new, length-map)

-- queue q is replaced by one with the same specification
module _ (a : Inside) (q : ℕ) (x y : Queue) (is : x ≡ get_or a.queues.items q x) (spec : y.spec ≡ x.spec) where
  abbrev changed : Inside
  changed = record a { queues = with_item a.queues q y }

  -- a part that the new queue has in common with the old one stays the same
  stays : {X : Type 0} (f : Queue → X) → f y ≡ f x → map f (set a.queues.items q y) ≡ map f a.queues.items
  stays f same =
      map-set f a.queues.items q y ∙ ap (set (map f a.queues.items) q) same ∙ sym (map-set f a.queues.items q x) ∙ ap (λ z. map f (set a.queues.items q z)) is ∙ ap (map f) (set-get_or a.queues.items q x)

  -- what is true of a part of each queue stays true if it is of that part of the new one
  each_changed : {X : Type 0} (f : Queue → X) (none : X) (P : X → Type 0) → (P (f x) → P (f y)) → ((p : ℕ) → p < length a.queues.items → P (get_or (map f a.queues.items) p none))
      → (p : ℕ) → p < length a.queues.items → P (get_or (map f (set a.queues.items q y)) p none)
  each_changed f none P new all p within =
      subst P (ap (λ xs. get_or xs p none) (sym (map-set f a.queues.items q y))) (elim (cases_eq p q) [
        | inl same ↦
            subst P (sym (get_or-set_at (map f a.queues.items) q p (f y) none same (omega (arith, within, same, length-map a.queues.items f))))
            (new (subst P (get_or-map f a.queues.items q x none (omega (arith, within, same)) ∙ ap f (sym is)) (all q (omega (arith, within, same)))))
        | inr other ↦ subst P (sym (get_or-set_other (map f a.queues.items) q p (f y) none other)) (all p within)
      ])

  -- each queue has marks for each band if the old queue had, and the new one has as many
  abbrev AreAllBanded : Inside → Type 0
  AreAllBanded b = AreBanded (length b.queues.items) (value_of b).state.flags (value_of b).state.marks

  banded_where : (length x.wanted ≡ bands → length y.wanted ≡ bands) → (length x.marks ≡ bands → length y.marks ≡ bands) → AreAllBanded a → AreAllBanded changed
  banded_where wanted marks banded =
      let each = each_banded (length a.queues.items) (value_of a).state.flags (value_of a).state.marks banded in
      are_banded (length changed.queues.items) (value_of changed).state.flags (value_of changed).state.marks (λ p within.
      let inside : p < length a.queues.items = omega (arith, within, length-set a.queues.items q y) in (
        each_changed flags_in opening_flags (λ m. length m.wanted ≡ bands) wanted (λ k here. (each k here).0) p inside,
        each_changed marks_in [] (λ ms. length ms ≡ bands) marks (λ k here. (each k here).1) p inside,
      ))

  -- the queues stay lawful if the marks are
  lawful_where : AreMarksApart (value_of changed).state → AreAllBanded changed → IsSound a → IsSound changed
  lawful_where apart banded lawful = grind (arith, common_steps, stays)

  -- with the same water marks
  pub lawful_changed : y.marks ≡ x.marks → (length x.wanted ≡ bands → length y.wanted ≡ bands) → IsSound a → IsSound changed
  lawful_changed marks wanted lawful = grind (arith, common_steps, lawful_where, banded_where, stays)

  -- with other water marks of one band
  module _ (band : ℕ) (m : Marks) (marks : y.marks ≡ set x.marks band m) where
    marks_are : q < length a.queues.items → (value_of changed).state.marks ≡ (with_marks q band m (value_of a).state).marks
    marks_are inside = grind (arith, common_steps, map-set, get_or-map)

    pub lawful_marked : q < length a.queues.items → m.lowat < m.hiwat → y.wanted ≡ x.wanted → IsSound a → IsSound changed
    lawful_marked inside low wanted lawful = grind (arith, common_steps, lawful_where, banded_where, marks_are, apart_with, length-set, stays)

    pub value_marked : (v : QueuesValue) → value_of a ≡ v → (p : ℕ) → q ≡ p → q < length a.queues.items → tally_in y ≡ tally_in x → flags_in y ≡ flags_in x
        → value_of changed ≡ record v { state = with_marks p band m v.state }
    value_marked v view p place inside tallied same = grind (arith, common_steps, stays, marks_are)

  module _ (v : QueuesValue) (view : value_of a ≡ v) (p : ℕ) (place : q ≡ p) where
    pub there : p < length v.state.specs → q < length a.queues.items
    there within = omega (arith, place, within, ap (λ (w : QueuesValue). length w.state.specs) view, length-map a.queues.items spec_in)

    -- what the model sees of the old queue
    pub flags_seen : p < length v.state.specs → flags_in x ≡ flags_at v.state p
    flags_seen within = ap flags_in is ∙ sym (get_or-map flags_in a.queues.items q x opening_flags (there within)) ∙ (λ i. flags_at (view i).state (place i))

    pub marks_seen : p < length v.state.specs → x.marks ≡ marks_of v.state p
    marks_seen within = ap marks_in is ∙ sym (get_or-map marks_in a.queues.items q x [] (there within)) ∙ (λ i. marks_of (view i).state (place i))

    pub tally_seen : p < length v.state.specs → x.tally ≡ tally_at v p
    tally_seen within = ap tally_in is ∙ sym (get_or-map tally_in a.queues.items q x no_tally (there within)) ∙ (λ i. tally_at (view i) (place i))

    -- with other flags
    pub flags_changed : p < length v.state.specs → (change : Flags → Flags) → flags_in y ≡ change (flags_in x) → tally_in y ≡ tally_in x → marks_in y ≡ marks_in x → value_of changed ≡ record v { state = with_flags p (change (flags_at v.state p)) v.state }
    flags_changed within change marked same marks = grind (arith, common_steps, get_or-map, there, stays, map-set)

    -- with another tally
    pub tally_changed : (t : Tally) → tally_in y ≡ t → flags_in y ≡ flags_in x → marks_in y ≡ marks_in x → value_of changed ≡ with_tally p t v
    tally_changed t tallied same marks = grind (arith, common_steps, stays, map-set)

-- ---- the run list, as one list of links

-- the first queue leaves the list
module _ (run : Rows) (parting : IsParting run) (lists : length run.lists ≡ 1) (n : ℕ) (is : first (list_at 0 run) ≡ Some n) (left : Rows) (removed : left ≡ record run { lists = map (without n) run.lists }) where
  pub run_left : list_at 0 left ≡ drop 1 (list_at 0 run)
  run_left = grind (arith, common_steps, get_or-map, first-without, IsApart-list_at)

  pub lawful_left : (a : Inside) → a.run ≡ run → IsSound a → IsSound (record a { run = left })
  lawful_left a same lawful = record {
    specs = lawful.specs;
    apart = lawful.apart;
    banded = lawful.banded;
    nodes = ap (λ (r : Rows). r.nodes) removed ∙ ap (λ (r : Rows). r.nodes) (sym same) ∙ lawful.nodes;
    lists = ap (λ (r : Rows). length r.lists) removed ∙ length-map run.lists (without n) ∙ lists;
    served = subst (All (λ q. (spec_at (value_of a).state.specs q).service ≡ true)) (sym run_left) (behind_first (λ q. (spec_at (value_of a).state.specs q).service ≡ true) (list_at 0 run) (subst (λ r. All (λ q. (spec_at (value_of a).state.specs q).service ≡ true) (list_at 0 r)) same lawful.served));
  }
    where
      behind_first : (P : ℕ → Type 0) (xs : List ℕ) → All P xs → All P (drop 1 xs)
      behind_first P [] all = all
      behind_first P (x ∷ xs) all = λ k d within. all (suc k) d (omega (arith, within))

-- there are at most 16 queues, so a node's number fits 8 bits
pub run_fits : (a : Inside) → IsSound a → (n : ℕ) → n < a.run.nodes → n < 2 ^ 8
run_fits a lawful n within = omega (arith, within, lawful.nodes, few_queues (value_of a).state.specs lawful.specs, length-map a.queues.items spec_in)

-- the run list is no longer than the list of queues
pub run_short : (a : Inside) → IsParting a.run → IsSound a → length (value_of a).state.run ≤ length (value_of a).state.specs
run_short a parting lawful =
    let short : length (list_at 0 a.run) ≤ a.run.nodes =
    length_below a.run.nodes (list_at 0 a.run) (IsApart-list_at 0 a.run.lists parting.apart) (λ n here. All-listed (λ node. node < a.run.nodes) n 0 a.run.lists parting.within here) in
    omega (arith, short, lawful.nodes, length-map a.queues.items spec_in)

-- steps along the list
module _ (run : Rows) (parting : IsParting run) where
  module _ (k n : ℕ) (is : slice_get (list_at 0 run) k ≡ Some n) where
    pub run_within : n < run.nodes
    run_within = All-listed (λ node. node < run.nodes) n 0 run.lists parting.within (has_get (list_at 0 run) k n is)

    pub run_step : next_in run n ≡ slice_get (list_at 0 run) (k + 1)
    run_step = grind (arith, common_steps, some_of, has-holder, has_get, after-get, IsApart-list_at)
