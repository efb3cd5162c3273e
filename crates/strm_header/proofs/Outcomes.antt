-- The three modules: what their calls leave of messages that are held, and the steps that they make.
use Rattle.std.proofs.Common.{◌≡◌, ◌≢◌, ℕ, zero, suc, ◌+◌, ◌/◌, ◌%◌, ◌^◌, ◌<◌, ◌≤◌, inl, inr, Bool, true, false, not, ◌&&◌, ◌||◌, ◌==◌, ◌++◌, List, [], ◌∷◌, length, get_or, Option, Some, None, Ok, Err, refl, sym, ap, ◌∙◌, subst, arith, if◌then◌else◌, get_or-set_same}
use Rattle.std.specs.List.{flat_map, zip}
use Rattle.std.specs.Prelude.{Result, count_by, filter, is_ok, nat_le, nat_lt, ok_or, slice_get}
use Rattle.std.proofs.lemmas.Bool.{and_parts, cases_eq, cond-false, cond-true, eq-eqb, eqb-true, false≢true, le-ltb, leb-true, ltb-true, ne_eqb}
use Rattle.std.proofs.lemmas.Option.{none-some}
use Rattle.strm_data.specs.declared.class_spec.ClassSpec.{ClassSpec}
use Rattle.strm_data.specs.declared.msg_type.MsgType.{MsgType}
use Rattle.strm_data.specs.declared.msg_type.MsgType.TheVariants.{MData, MIocack, MIoctl}
use Rattle.strm_data.specs.declared.refusal.Refusal.{Refusal}
use Rattle.strm_data.specs.declared.refusal.Refusal.TheVariants.{NoData, NoRoom, NoSuchBlock, NoSuchQueue, Shared, TooLarge}
use Rattle.strm_data.specs.Classes.{fits_a_class}
use Rattle.strm_data.specs.DataStore.{DataBlock, DataStore, capacity_of, class_of, class_spec_at, data_block_at, fitting_blocks, free_of, no_class_spec, no_data_block, take_data, times, with_data_taken}
use Rattle.strm_data.specs.MsgType.{same_kind}
use Rattle.strm_links.specs.Rows as rows
use Rattle.strm_mblk.specs.declared.block_info.BlockInfo.{BlockInfo}
use Rattle.strm_mblk.specs.declared.token.TokenValue.{TokenValue}
use Rattle.strm_mblk.specs.Arena.{Arena, blocks_in, has, held_at, is_free_in, is_of_length, message_at, references_to, shelf_at, token_of, with_free_left, with_held, with_shelf}
use Rattle.strm_mblk.specs.Block.{Block, Message, new_block, numbers_of, uses_data}
use Rattle.strm_mblk.specs.BlockCalls.{allocb, allocb_from, block, held_new, if_unshared, info_of, linkb, own_block, setband, settype, testb, with_block, with_bytes, write, write_block}
use Rattle.strm_mblk.specs.Calls.{Alters, Gives, Joins}
use Rattle.strm_mblk.specs.Frame.{LeavesOthers}
use Rattle.strm_mblk.specs.Freeing.{with_block_freed, with_blocks_freed}
use Rattle.strm_mblk.specs.Given.{Given, and_then, answer_map, answer_of, given_nothing, value_after}
use Rattle.strm_mblk.specs.InPlace.{prepend}
use Rattle.strm_mblk.specs.Messages.{blocks_of}
use Rattle.strm_mblk.proofs.Lists.{count_adds, count_one, in_range, one_most, times_at}
use Rattle.strm_mblk.proofs.arena.Counts.{held_moves}
use Rattle.strm_pool.specs.Lawful.{IsLawful}
use Rattle.strm_pool.specs.PoolValue.{PoolValue, arena, has_queue, on_arena, on_queues, queued_blocks_of, with_arena}
use Rattle.strm_queue.specs.declared.queued_info.QueuedInfo.{QueuedInfo}
use Rattle.strm_queue.specs.declared.flush.Flush.TheVariants.{All}
use Rattle.strm_queue.specs.declared.queue_spec.QueueSpec.{QueueSpec}
use Rattle.strm_queue.specs.Flow.{QueueState}
use Rattle.strm_queue.specs.Flush.{is_picked}
use Rattle.strm_queue.specs.QueueCalls.{flushq, with_flushed, with_queue_settled}
use Rattle.strm_queue.specs.QueuedBlocks.{QueuedBlocks}
use Rattle.strm_queue.specs.QueueLooks.{info_of_message}
use Rattle.strm_header.specs.Modules.{Acknowledges, AcknowledgesIf, IsHeaded, IsLinkedBehind, IsNumbered, Numbers, NumbersIf, flush_if, header_of, is_acknowledged, flush_steps, flushed_if, is_message_of, is_of_kind, is_request, need_of_header}
use Rattle.strm_scheduler.specs.Laws.{KeepsQueued}
use Rattle.strm_scheduler.specs.Modules.{IsReady, Needs}
use Rattle.strm_scheduler.specs.declared.need.Need.{Need}
use Rattle.strm_scheduler.specs.Steps.{AreSteps, Changed, Flushed, Put, Step, with_message_put, with_queue_flushed}
use Rattle.strm_scheduler.proofs.Holding.{enabled_specs, there_same}
use Rattle.strm_scheduler.proofs.Needing.{first_free}
use Rattle.strm_scheduler.proofs.Settling.{settled_specs}
use Rattle.strm_scheduler.proofs.Unchanged.{arena_keeps}

-- ---- steps

-- the message of token t is put on queue p
pub put_step : (q p : ℕ) (t : TokenValue) (v w : PoolValue) → q ≢ p → has_queue v p ≡ true → has v.arena t ≡ true → w ≡ with_message_put p t v → AreSteps q (Put p t ∷ []) v w
put_step q p t v w apart there had is = (w, (apart, there, had, is), refl)

-- held messages change, and one is put on queue p
pub changed_put : (q p : ℕ) (t : TokenValue) (v x w : PoolValue) → KeepsQueued v x → q ≢ p → has_queue v p ≡ true → has x.arena t ≡ true → w ≡ with_message_put p t x
    → AreSteps q (Changed ∷ Put p t ∷ []) v w
changed_put q p t v x w keeps apart there had is = (x, keeps, put_step q p t x w apart (there_same p v x (ap (λ (s : QueueState). s.specs) keeps.queues) there) had is)

-- steps after others
pub steps_joined : (q : ℕ) (ss ts : List Step) (v x w : PoolValue) → AreSteps q ss v x → AreSteps q ts x w → AreSteps q (ss ++ ts) v w
steps_joined q [] ts v x w first second = subst (λ p. AreSteps q ts p w) first second
steps_joined q (s ∷ ss) ts v x w first second = (first.0, first.1, steps_joined q ss ts first.0 x w first.2 second)

-- ---- tokens

-- a call leaves the messages at other heads
pub others_had : (t : TokenValue) (heads : List ℕ) (a b : Arena) → LeavesOthers heads a b → rows.has t.head heads ≡ false → has a t ≡ true → has b t ≡ true
others_had t heads a b left other had = (λ i. t.pool == left.id i && is_of_length t.blocks (left.held t.head other i)) ∙ had

-- a message that is held is at another head than one where none was
pub heads_apart : (t : TokenValue) (h : ℕ) (a : Arena) → has a t ≡ true → held_at a h ≡ None → rows.has t.head (h ∷ []) ≡ false
heads_apart t h a had none =
    elim (cases_eq h t.head) [
      | inl same ↦ absurd (false≢true (sym (ap (is_of_length t.blocks) (ap (held_at a) (sym same) ∙ none)) ∙ (and_parts _ _ had).1))
      | inr other ↦ ap (λ b. b || false) (ne_eqb h t.head other)
    ]

-- ---- a new block is written

-- a call gave a message
pub gave : (v w : PoolValue) (call : Given Arena ℕ) (t : TokenValue) → Gives arena None (on_arena v call) v w (Ok t) → (given : ℕ × Arena) × (call ≡ Ok given) × (w ≡ with_arena v given.1) × (t ≡ token_of w.arena given.0)
gave v w (Ok given) t gives = (given, refl, gives.after, cc gives.token)
gave v w (Err why) t gives = absurd (cc gives.token)

-- the message block and the data block of a message of one block that was allocated
pub record IsAllocated (size n d : ℕ) (ns : List ℕ) (a : Arena) : Type 0 where
  pub free : a.free ≡ n ∷ ns
  pub taken : take_data size a.store ≡ Ok d

abbrev pub with_new : ℕ → ℕ → List ℕ → Arena → Arena
with_new n d ns a = with_held (new_block n d ∷ []) (record (with_free_left ns a) { store = with_data_taken d a.store })

abbrev HasAllocated : ℕ → Arena → ℕ × Arena → Type 0
HasAllocated size a given = (n : ℕ) × (d : ℕ) × (ns : List ℕ) × IsAllocated size n d ns a × (given ≡ (n, with_new n d ns a))

module _ (size : ℕ) (a : Arena) (given : ℕ × Arena) where
  by_data : (n : ℕ) (ns : List ℕ) → a.free ≡ n ∷ ns → (r : Result ℕ Refusal) → take_data size a.store ≡ r → held_new n ns a r ≡ Ok given → HasAllocated size a given
  by_data n ns free (Ok d) taken is = (n, d, ns, record { free = free; taken = taken }, cc is)
  by_data n ns free (Err why) taken is = absurd (cc is)

  by_free : (ms : List ℕ) → a.free ≡ ms → allocb_from ms size a ≡ Ok given → HasAllocated size a given
  by_free [] none is = absurd (cc is)
  by_free (n ∷ ns) free is = by_data n ns free (take_data size a.store) refl is

  by_fits : (fits : Bool) → (if fits then allocb_from a.free size a else Err TooLarge) ≡ Ok given → HasAllocated size a given
  by_fits true is = by_free a.free refl is
  by_fits false is = absurd (cc is)

  allocated_of : allocb size a ≡ Ok given → HasAllocated size a given
  allocated_of is = by_fits (fits_a_class size a.store.classes) is

-- the first data block of the classes that fit the size is the first free one of class c, which is as wide
module _ (size : ℕ) where
  abbrev IsFrom : List ClassSpec → List (List ℕ) → ℕ → ℕ → Type 0
  IsFrom cs fs d c = (size ≤ (get_or cs c no_class_spec).size) × (slice_get (get_or fs c []) 0 ≡ Some d)

  abbrev blocks_of_class : ClassSpec × List ℕ → List ℕ
  blocks_of_class p = if nat_le size p.0.size then p.1 else []

  first_from : (cs : List ClassSpec) (fs : List (List ℕ)) (d : ℕ) → slice_get (flat_map blocks_of_class (zip cs fs)) 0 ≡ Some d → (c : ℕ) × IsFrom cs fs d c
  first_from [] fs d is = absurd (none-some d is)
  first_from (k ∷ cs) [] d is = absurd (none-some d is)
  first_from (k ∷ cs) (f ∷ fs) d is = by_class (nat_le size k.size) f refl is (first_from cs fs d)
    where
      by_class : (fits : Bool) (g : List ℕ) → nat_le size k.size ≡ fits → slice_get ((if fits then g else []) ++ flat_map blocks_of_class (zip cs fs)) 0 ≡ Some d
          → (slice_get (flat_map blocks_of_class (zip cs fs)) 0 ≡ Some d → (c : ℕ) × IsFrom cs fs d c) → (c : ℕ) × IsFrom (k ∷ cs) (g ∷ fs) d c
      by_class false g small is rest = let found = rest is in (suc found.0, found.1)
      by_class true [] fits is rest = let found = rest is in (suc found.0, found.1)
      by_class true (n ∷ ns) fits is rest = (zero, (leb-true size k.size fits, is))

-- the data block that is taken is the first that fits
data_first : (size d : ℕ) (s : DataStore) → take_data size s ≡ Ok d → slice_get (fitting_blocks size s) 0 ≡ Some d
data_first size d s is = by_fits _ is
  where
    by_first : (o : Option ℕ) → ok_or o NoData ≡ Ok d → o ≡ Some d
    by_first None is = absurd (cc is)
    by_first (Some e) is = cc is

    by_fits : (fits : Bool) → (if fits then ok_or (slice_get (fitting_blocks size s) 0) NoData else Err TooLarge) ≡ Ok d → slice_get (fitting_blocks size s) 0 ≡ Some d
    by_fits true is = by_first (slice_get (fitting_blocks size s) 0) is
    by_fits false is = absurd (cc is)

-- what is once in a list is there
free_unused : (so : Bool) (k : ℕ) → 0 < k → k ≡ (if so then 1 else 0) → so ≡ true
free_unused true k some is = refl
free_unused false k some is = absurd (omega (arith, some, is))

module _ (size n d : ℕ) (ns : List ℕ) (v : PoolValue) (law : IsLawful v) (is : IsAllocated size n d ns v.arena) where
  abbrev a : Arena
  a = v.arena

  abbrev taken : Arena
  taken = record (with_free_left ns a) { store = with_data_taken d a.store }

  abbrev new : Arena
  new = with_new n d ns a

  found : (c : ℕ) × IsFrom size a.store.classes a.store.free d c
  found = first_from size a.store.classes a.store.free d (data_first size d a.store is.taken)

  free_in : is_free_in a found.0 d ≡ true
  free_in = free_unused (is_free_in a found.0 d) (times d (free_of a.store found.0)) (times_at d (free_of a.store found.0) 0 found.1.1) (law.parted.free_data found.0 d)

  within : d < length a.store.blocks
  within = ltb-true d (length a.store.blocks) (and_parts _ _ free_in).0

  class : class_of a.store d ≡ found.0
  class = eqb-true (class_of a.store d) found.0 (and_parts _ _ (and_parts _ _ free_in).1).0

  unused : references_to a d ≡ 0
  unused = eqb-true (references_to a d) 0 (and_parts _ _ (and_parts _ _ free_in).1).1

  wide : size ≤ capacity_of a.store d
  wide = omega (arith, found.1.0, law.kept.sized d within, ap (λ c. (class_spec_at a.store c).size) class)

  capacity : capacity_of new.store d ≡ capacity_of a.store d
  capacity = ap (λ (b : DataBlock). length b.bytes) (get_or-set_same a.store.blocks d (record (data_block_at a.store d) { kind = MData }) no_data_block within)

  below : n < length a.held
  below = in_range n (length a.held) (omega (arith, law.parted.chains.once n, times_at n (a.free ++ numbers_of (blocks_in a)) 0 (ap (λ ms. slice_get (ms ++ numbers_of (blocks_in a)) 0) is.free)))

  held_now : held_at new n ≡ Some (new_block n d ∷ [])
  held_now = get_or-set_same a.held n (Some (new_block n d ∷ [])) None below

  used_once : references_to new d ≤ 1
  used_once =
      let moved : references_to new d + count_by (uses_data d) (blocks_of (held_at taken n)) ≡ references_to taken d + count_by (uses_data d) (new_block n d ∷ []) =
      held_moves (count_adds (uses_data d)) taken n (Some (new_block n d ∷ [])) below in
      let none : references_to taken d ≡ 0 = unused in
      let one : count_by (uses_data d) (new_block n d ∷ []) ≤ 1 = omega (arith, count_one (uses_data d) (new_block n d), one_most (uses_data d (new_block n d))) in
      omega (arith, moved, none, one)

  own : own_block n 0 new ≡ Ok (new_block n d)
  own =
      ap (λ o. and_then (if_unshared new) (ok_or (slice_get (blocks_of o) 0) NoSuchBlock)) held_now
      ∙ cond-false (nat_lt 1 (references_to new d)) (Err Shared) (Ok (new_block n d)) (le-ltb 1 (references_to new d) used_once)

  -- the arena once these bytes are written into the new block
  abbrev filled : List ℕ → Arena
  filled bytes = with_block n 0 (record (new_block n d) { len = 0 + length bytes }) (with_bytes d (0 + 0) bytes new)

  -- no more bytes than were asked for are refused
  pub written : (bytes : List ℕ) → length bytes ≤ size → (left : Arena) × (write n 0 bytes new ≡ Ok (tt, left))
  written bytes few = (
    filled bytes,
    ap (and_then (write_block n 0 bytes new)) own
        ∙ cond-false (nat_lt (capacity_of new.store d) (0 + 0 + length bytes)) (Err NoRoom) (Ok (tt, filled bytes)) (le-ltb (capacity_of new.store d) (0 + 0 + length bytes) (omega (arith, few, wide, capacity))),
  )

-- ---- a header in a new block

module _ (header : List ℕ) (t u : TokenValue) (v w : PoolValue) (law : IsLawful v) (two : length header ≡ 2) (gives : Gives arena None (on_arena v (allocb 2 v.arena)) v w (Ok u)) where
  got : (given : ℕ × Arena) × (allocb 2 v.arena ≡ Ok given) × (w ≡ with_arena v given.1) × (u ≡ token_of w.arena given.0)
  got = gave v w (allocb 2 v.arena) u gives

  given_is : got.0 ≡ (u.head, w.arena)
  given_is = λ i. (sym (ap (λ (t : TokenValue). t.head) got.3) i, sym (ap (λ (p : PoolValue). p.arena) got.2) i)

  pub allocated_now : allocb (length header) v.arena ≡ Ok (u.head, w.arena)
  allocated_now = ap (λ k. allocb k v.arena) two ∙ got.1 ∙ ap (λ (g : ℕ × Arena). Ok g) given_is

  pub written_now : (left : Arena) × (write u.head 0 header w.arena ≡ Ok (tt, left))
  written_now =
      let parts = allocated_of 2 v.arena (u.head, w.arena) (got.1 ∙ ap (λ (g : ℕ × Arena). Ok g) given_is) in
      let done = written 2 parts.0 parts.1 parts.2 v law parts.3 header (omega (arith, two)) in
      (done.0, ap (λ (g : ℕ × Arena). write g.0 0 header g.1) parts.4 ∙ done.1)

  -- the header is not refused
  pub write_done : (x : PoolValue) (result : Result (Unit {0}) Refusal) → Alters arena u u (on_arena w (write u.head 0 header w.arena)) w x result → (why : Refusal) → result ≡ Err why → ⊥
  write_done x result alters why is = absurd (cc (sym is ∙ alters.answer ∙ ap (λ c. answer_of (on_arena w c)) written_now.1))

  pub allocated_keeps : KeepsQueued v w
  allocated_keeps = arena_keeps (u.head ∷ []) v w (allocb 2 v.arena) gives.after gives.shelves

  pub tail_apart : has v.arena t ≡ true → rows.has t.head (u.head ∷ []) ≡ false
  tail_apart had = heads_apart t u.head v.arena had gives.unheld

  pub tail_had : has v.arena t ≡ true → has w.arena t ≡ true
  tail_had had = others_had t (u.head ∷ []) v.arena w.arena gives.others (tail_apart had) had

  module _ (x y z : PoolValue) (band : ℕ) (wrote : x ≡ value_after w (on_arena w (write u.head 0 header w.arena)))
      (banded : y ≡ value_after x (on_arena x (given_nothing (setband u.head band x.arena)))) (joined : z ≡ with_arena y (linkb u.head t.head y.arena)) where
    wrote_is : x ≡ with_arena v written_now.0
    wrote_is = wrote ∙ ap (λ c. value_after w (on_arena w c)) written_now.1 ∙ ap (λ p. with_arena p written_now.0) got.2

    pub linked_is : z ≡ with_arena v (linkb u.head t.head (setband u.head band written_now.0))
    linked_is = joined ∙ ap (λ p. with_arena p (linkb u.head t.head (arena p))) (banded ∙ ap (λ p. with_arena p (setband u.head band (arena p))) wrote_is)

    pub linked_behind : (front : BlockInfo) → answer_of (block t.head 0 v.arena) ≡ Ok front → front.band ≡ band → (s : TokenValue) → s ≡ token_of z.arena u.head → IsLinkedBehind header t s v z
    linked_behind front found same s is = record {
      first = u.head;
      allocated = w.arena;
      taken = allocated_now;
      written = written_now.0;
      filled = written_now.1;
      front = front;
      found = found;
      after = linked_is ∙ ap (λ b. with_arena v (linkb u.head t.head (setband u.head b written_now.0))) (sym same);
      token = is;
    }

-- ---- a message is ready

like_kind : (kind : MsgType) (a : Arena) (m : Message) (first : QueuedInfo) → info_of_message a.store m ≡ Ok first
    → is_of_kind kind (answer_of (answer_map (λ (b : Block). (info_of a b, a)) (ok_or (slice_get m 0) NoSuchBlock))) ≡ same_kind first.kind kind
like_kind kind a [] first is = absurd (cc is)
like_kind kind a (b ∷ bs) first is = cc is

-- for a message of data a block is free
pub block_ready : {M : Type 0} (needs : Needs M) (m : M) (q n : ℕ) (t : TokenValue) (v : PoolValue) (ready : IsReady needs m q n t v) → ready.need ≡ need_of_header ready.first.kind
    → is_message_of MData t v.arena ≡ true → testb 2 v.arena ≡ true
block_ready needs m q n t v ready need_is data_is =
    let kind : same_kind ready.first.kind MData ≡ true = sym (like_kind MData v.arena (message_at v.arena t.head) ready.first ready.like) ∙ data_is in
    first_free 2 ready.need [] v.arena (ap (λ (r : Need). r.sizes) (need_is ∙ cond-true (same_kind ready.first.kind MData) _ _ kind)) ready.free

-- ---- calls that may be refused

module _ (t : TokenValue) (v x : PoolValue) where
  pub altered_keeps : {X : Type 0} (call : Given Arena X) (result : Result X Refusal) → Alters arena t t (on_arena v call) v x result → KeepsQueued v x
  altered_keeps call result alters = arena_keeps (t.head ∷ []) v x call alters.after alters.shelves

  pub altered_there : {X : Type 0} (p : ℕ) (call : Given Arena X) (result : Result X Refusal) → Alters arena t t (on_arena v call) v x result → has_queue v p ≡ true → has_queue x p ≡ true
  altered_there p call result alters there = there_same p v x (ap (λ (s : QueueState). s.specs) (altered_keeps call result alters).queues) there

  pub refused_same : {X : Type 0} (call : Given Arena X) (why : Refusal) → Alters arena t t (on_arena v call) v x (Err why) → (is_ok call ≡ false) × (x ≡ v)
  refused_same (Ok given) why alters = absurd (cc alters.answer)
  refused_same (Err other) why alters = (refl, alters.after)

  done_after : (call : Given Arena (Unit {0})) → Alters arena t t (on_arena v call) v x (Ok tt) → (is_ok call ≡ true) × (x ≡ value_after v (on_arena v call))
  done_after (Ok given) alters = (refl, alters.after)
  done_after (Err why) alters = absurd (cc alters.answer)

  -- a header is put in the room that there is
  pub headed_in_room : (header : List ℕ) (call : Given Arena (Unit {0})) → Alters arena t t (on_arena v call) v x (Ok tt) → IsHeaded header t call v t x
  headed_in_room header (Ok given) alters = (refl, alters.after)
  headed_in_room header (Err why) alters = absurd (cc alters.answer)

  -- there is no room, and it is put in a new block
  pub headed_in_block : (header : List ℕ) (call : Given Arena (Unit {0})) (why : Refusal) (u : TokenValue) (w : PoolValue) → Alters arena t t (on_arena v call) v x (Err why)
      → IsLinkedBehind header t u x w → IsHeaded header t call v u w
  headed_in_block header (Ok given) why u w alters linked = absurd (cc alters.answer)
  headed_in_block header (Err other) why u w alters linked = subst (λ z. IsLinkedBehind header t u z w) alters.after linked

-- a message is appended to another one
pub joined_keeps : (s t u : TokenValue) (v w : PoolValue) → Joins arena s t u (with_arena v (linkb s.head u.head v.arena)) v w → KeepsQueued v w
joined_keeps s t u v w joins = arena_keeps {X = Unit {0}} (s.head ∷ u.head ∷ []) v w (Ok (tt, linkb s.head u.head v.arena)) joins.after joins.shelves

-- ---- what the modules do

module _ (number q n : ℕ) (t : TokenValue) (v w : PoolValue) (apart : q ≢ n) (there : has_queue v n ≡ true) where
  -- a message that is no data passes
  pub passed_unnumbered : is_message_of MData t v.arena ≡ false → has v.arena t ≡ true → w ≡ with_message_put n t v
      → (steps : List Step) × Numbers number n t steps v number w × AreSteps q steps v w
  passed_unnumbered other had is = (Put n t ∷ [], subst (λ b. NumbersIf b number n t (Put n t ∷ []) v number w) (sym other) (refl, refl), put_step q n t v w apart there had is)

  -- data gets a header
  pub passed_numbered : (left : ℕ) (u : TokenValue) (x : PoolValue) → is_message_of MData t v.arena ≡ true → left ≡ (number + 1) % 2 ^ 16
      → IsHeaded (header_of number) t (prepend t.head (header_of number) v.arena) v u x → has x.arena u ≡ true → KeepsQueued v x → w ≡ with_message_put n u x
      → (steps : List Step) × Numbers number n t steps v left w × AreSteps q steps v w
  passed_numbered left u x data_is left_is headed had keeps is =
      let done : IsNumbered number n t (Changed ∷ Put n u ∷ []) v w = record { token = u; pool = x; headed = headed; steps_are = refl; after = is } in
      (Changed ∷ Put n u ∷ [], subst (λ b. NumbersIf b number n t (Changed ∷ Put n u ∷ []) v left w) (sym data_is) (left_is, done), changed_put q n u v x w keeps apart there had is)

module _ (p q n : ℕ) (t : TokenValue) (v w : PoolValue) (apart : q ≢ n) (there : has_queue v n ≡ true) where
  abbrev Acknowledged : Type 0
  Acknowledged = (steps : List Step) × Acknowledges p q n t steps v w × AreSteps q steps v w

  passed : has v.arena t ≡ true → is_acknowledged p q t v ≡ false → w ≡ with_message_put n t v → Acknowledged
  passed had other is = (Put n t ∷ [], subst (λ b. AcknowledgesIf b p n t (Put n t ∷ []) v w) (sym other) refl, put_step q n t v w apart there had is)

  -- a message that is no request passes
  pub passed_unasked : has v.arena t ≡ true → is_request p q t v ≡ false → w ≡ with_message_put n t v → Acknowledged
  passed_unasked had other is = passed had (ap (λ b. b && is_ok (settype t.head 0 MIocack v.arena)) other) is

  -- the other queue of a request is another one
  pub other_there : is_request p q t v ≡ true → (q ≢ p) × (has_queue v p ≡ true)
  other_there asked =
      let parts = and_parts (not (p == q)) _ (and_parts (is_message_of MIoctl t v.arena) _ asked).1 in
      ((λ same. false≢true (sym (ap not (eq-eqb p q (sym same))) ∙ parts.0)), parts.1)

  module _ (x : PoolValue) (asked : is_request p q t v ≡ true) where
    abbrev call : Given Arena (Unit {0})
    call = settype t.head 0 MIocack v.arena

    -- a request is acknowledged
    pub sent_back : Alters arena t t (on_arena v call) v x (Ok tt) → w ≡ with_message_put p t x → Acknowledged
    sent_back alters is =
        let steps = Changed ∷ Put p t ∷ [] in
        let found = other_there asked in
        let done = done_after t v x call alters in
        let told : is_acknowledged p q t v ≡ true = λ i. asked i && done.0 i in
        (steps, subst (λ b. AcknowledgesIf b p n t steps v w) (sym told) (refl, is ∙ ap (with_message_put p t) done.1), changed_put q p t v x w (altered_keeps t v x call (Ok tt) alters) found.0 found.1 alters.had is)

    -- or passes, if another block uses its data
    pub passed_refused : (why : Refusal) → has v.arena t ≡ true → Alters arena t t (on_arena v call) v x (Err why) → w ≡ with_message_put n t x → Acknowledged
    passed_refused why had alters is =
        let refused = refused_same t v x call why alters in
        passed had (λ i. asked i && refused.0 i) (is ∙ ap (with_message_put n t) refused.1)

-- ---- a flush

-- freeing blocks leaves the held messages
freed_left : (bs : List Block) (a b : Arena) → LeavesOthers [] a b → LeavesOthers [] a (with_blocks_freed bs b)
freed_left [] a b left = left
freed_left (x ∷ bs) a b left = freed_left bs a (with_block_freed x bs b) (record { id = left.id; size = left.size; held = left.held })

module _ (p : ℕ) (v : PoolValue) where
  abbrev picked : Message → Bool
  picked = is_picked v.arena.store None All

  -- what a queue that is there is flushed to
  flush_given : has_queue v p ≡ true → flushq p All (queued_blocks_of v) ≡ Ok (tt, with_queue_settled p (with_flushed p picked (queued_blocks_of v)))
  flush_given there = cond-true (has_queue v p) _ (Err NoSuchQueue) there

  flushed_specs : has_queue v p ≡ true → (with_queue_flushed p All v).queues.specs ≡ v.queues.specs
  flushed_specs there =
      enabled_specs p (value_after v (on_queues v (flushq p All (queued_blocks_of v))))
      ∙ ap (λ c. (value_after v (on_queues v c)).queues.specs) (flush_given there)
      ∙ settled_specs (with_flushed p picked (queued_blocks_of v)) p

  -- it leaves the held messages
  flushed_had : (t : TokenValue) → has_queue v p ≡ true → has v.arena t ≡ true → has (with_queue_flushed p All v).arena t ≡ true
  flushed_had t there had =
      others_had t [] v.arena (with_queue_flushed p All v).arena
      (subst (λ (c : Given QueuedBlocks (Unit {0})). LeavesOthers [] v.arena (value_after v (on_queues v c)).arena) (sym (flush_given there))
      (freed_left (flat_map (λ m. m) (filter picked (shelf_at v.arena p))) v.arena (with_shelf p (filter (λ m. not (picked m)) (shelf_at v.arena p)) v.arena)
      (record { id = refl; size = refl; held = λ h other. refl })))
      refl had

  module _ (so : Bool) where
    abbrev is_to_be : Bool
    is_to_be = so && has_queue v p

    abbrev result : Bool → PoolValue
    result b = if b then with_queue_flushed p All v else v

    -- by whether it is flushed
    if_flushed : (P : PoolValue → Type 0) → (has_queue v p ≡ true → P (with_queue_flushed p All v)) → P v → P (flushed_if so p v)
    if_flushed P flushed same = by_case is_to_be refl
      where
        by_case : (b : Bool) → is_to_be ≡ b → P (result b)
        by_case true is = flushed (and_parts so (has_queue v p) is).1
        by_case false is = same

    flush_steps_if : (q : ℕ) → AreSteps q (flush_if so p v) v (flushed_if so p v)
    flush_steps_if q = by_case is_to_be refl
      where
        by_case : (b : Bool) → is_to_be ≡ b → AreSteps q (if b then Flushed p All ∷ [] else []) v (result b)
        by_case true is = (with_queue_flushed p All v, ((and_parts so (has_queue v p) is).1, refl), refl)
        by_case false is = refl

    flushed_specs_if : (flushed_if so p v).queues.specs ≡ v.queues.specs
    flushed_specs_if = if_flushed (λ w. w.queues.specs ≡ v.queues.specs) flushed_specs refl

    flushed_had_if : (t : TokenValue) → has v.arena t ≡ true → has (flushed_if so p v).arena t ≡ true
    flushed_had_if t had = if_flushed (λ w. has w.arena t ≡ true) (λ there. flushed_had t there had) had

-- both sides are flushed, as these bits say, and the message passes
module _ (flags read write n : ℕ) (t : TokenValue) (v : PoolValue) where
  abbrev first : Bool
  first = flags % 2 == 1

  abbrev second : Bool
  second = flags / 2 % 2 == 1

  abbrev once : PoolValue
  once = flushed_if first read v

  abbrev pub twice : PoolValue
  twice = flushed_if second write once

  pub twice_had : has v.arena t ≡ true → has twice.arena t ≡ true
  twice_had had = flushed_had_if write once second t (flushed_had_if read v first t had)

  pub twice_there : has_queue v n ≡ true → has_queue twice n ≡ true
  twice_there there = there_same n v twice (flushed_specs_if write once second ∙ flushed_specs_if read v first) there

  pub flushed_both : (q : ℕ) (w : PoolValue) → q ≢ n → has_queue v n ≡ true → has v.arena t ≡ true → w ≡ with_message_put n t twice → AreSteps q (flush_steps flags read write n t v) v w
  flushed_both q w apart there had is =
      let same : flush_if second write once ≡ flush_if second write v =
      ap (λ (s : List QueueSpec). if second && nat_lt write (length s) then Flushed write All ∷ [] else []) (flushed_specs_if read v first) in
      steps_joined q (flush_if first read v) (flush_if second write v ++ (Put n t ∷ [])) v once w (flush_steps_if read v first q)
      (steps_joined q (flush_if second write v) (Put n t ∷ []) once twice w (subst (λ ss. AreSteps q ss once twice) same (flush_steps_if write once second q))
      (put_step q n t twice w apart (twice_there there) (twice_had had) is))
