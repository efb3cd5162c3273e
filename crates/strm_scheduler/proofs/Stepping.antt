-- The steps of a module keep all queues awake but the one that is served, and add no message to that one.
use Rattle.std.proofs.Common.{◌≡◌, ◌≢◌, ℕ, zero, suc, ◌+◌, ◌<◌, ◌≤◌, inl, inr, Bool, true, false, not, ◌&&◌, ◌||◌, ◌==◌, filter, List, [], ◌∷◌, length, get_or, set, Some, None, refl, sym, ap, ◌∙◌, subst, arith, if◌then◌else◌, get_or-set_other, length-set}
use Rattle.std.specs.Prelude.{count_by, is_some}
use Rattle.std.specs.List.{flat_map}
use Rattle.std.proofs.lemmas.Bool.{cases_eq, cond-true}
use Rattle.strm_data.specs.DataStore.{DataBlock, DataStore, no_data_block, with_data_freed}
use Rattle.strm_data.specs.MsgType.{is_high_priority}
use Rattle.strm_links.specs.Rows as rows
use Rattle.strm_mblk.specs.declared.token.TokenValue.{TokenValue}
use Rattle.strm_mblk.specs.Arena.{Arena, message_at, references_to, shelf_at, with_shelf, without_held}
use Rattle.strm_mblk.specs.Block.{Block, Message, uses_data}
use Rattle.strm_mblk.specs.Freeing.{with_block_freed, with_blocks_freed}
use Rattle.strm_mblk.specs.Given.{value_after}
use Rattle.strm_pool.specs.PoolValue.{PoolValue, has_queue, on_queues, queued_blocks_of, with_queued}
use Rattle.strm_queue.specs.declared.flush.Flush.{Flush}
use Rattle.strm_queue.specs.declared.queue_spec.QueueSpec.{QueueSpec}
use Rattle.strm_queue.specs.Flow.{Flags, QueueState, enabled_where, enables_put, flags_at, has_band, opening_flags, spec_at, with_enabled}
use Rattle.strm_queue.specs.Flush.{is_picked}
use Rattle.strm_queue.specs.Limits.{bands, high_rank}
use Rattle.strm_queue.specs.QueueCalls.{flags_left, flags_of, message_put, messages_on, rank_put, with_flushed, with_put, with_queue_settled, with_state}
use Rattle.strm_queue.specs.QueuedBlocks.{QueuedBlocks}
use Rattle.strm_queue.specs.QueueSpecs.{are_lawful}
use Rattle.strm_queue.specs.Rank.{as_queued, put_behind, rank_of}
use Rattle.strm_queue.proofs.order.Order.{rank_of-queued}
use Rattle.strm_scheduler.specs.Laws.{KeepsQueued, is_awake, may_rest}
use Rattle.strm_scheduler.specs.Serving.{IsServing, from_here, weigh}
use Rattle.strm_pool.specs.Lawful.{IsLawful}
use Rattle.strm_scheduler.specs.Sides.{AreSides, next_of}
use Rattle.strm_scheduler.specs.Steps.{AreSteps, AreStill, Changed, Enabled, Flushed, IsStep, PassOne, Put, Step, with_message_put, with_queue_enabled, with_queue_flushed}
use Rattle.strm_scheduler.proofs.PoolLaws.{banded_of}
use Rattle.strm_scheduler.proofs.Settling.{AreBanded, awake_settled, banded_left, flags_all, settled_flags, settled_specs}
use Rattle.strm_scheduler.proofs.Calls.{awake_put}
use Rattle.strm_scheduler.proofs.Hops.{hop_ahead}
use Rattle.strm_scheduler.proofs.Keeping.{Grows, SameOff, awake_grown, awake_on_run, enabled_grows, enabled_on, enabled_where_grows, enabling_on, flags_related}
use Rattle.strm_scheduler.proofs.Moving.{put_leaves}
use Rattle.strm_scheduler.proofs.Unchanged.{awake_same}
use Rattle.strm_scheduler.proofs.Weighing.{each-put, weigh-set}

-- ---- messages are freed

module _ (d : ℕ) (s : DataStore) where
  data_left : (so : Bool) → (let t : DataStore = if so then with_data_freed d s else s in t.blocks ≡ s.blocks)
  data_left true = refl
  data_left false = refl

-- freeing blocks leaves shelves and data blocks
pub freed_shelves : (bs : List Block) (a : Arena) → (with_blocks_freed bs a).shelves ≡ a.shelves
freed_shelves [] a = refl
freed_shelves (b ∷ loose) a = freed_shelves loose (with_block_freed b loose a)

pub freed_data : (bs : List Block) (a : Arena) → (with_blocks_freed bs a).store.blocks ≡ a.store.blocks
freed_data [] a = refl
freed_data (b ∷ loose) a =
    freed_data loose (with_block_freed b loose a)
    ∙ data_left b.data_number a.store (references_to (record a { free = b.number ∷ a.free }) b.data_number + count_by (uses_data b.data_number) loose == 0)

module _ (s t : DataStore) (same : t.blocks ≡ s.blocks) where
  pub rank_same : (m : Message) → rank_of t m ≡ rank_of s m
  rank_same [] = refl
  rank_same (b ∷ bs) = ap (λ (ds : List DataBlock). if is_high_priority (get_or ds b.data_number no_data_block).kind then high_rank else b.band) same

  rest_same : (read : Bool) (wanted : List Bool) (ms : List Message) → may_rest t read wanted ms ≡ may_rest s read wanted ms
  rest_same read wanted [] = refl
  rest_same read wanted (m ∷ ms) = ap (λ r. not (r == high_rank) && has_band wanted r) (rank_same m)

-- a queue is as awake as before, if it has the same messages, and data blocks are left
awake_freed : (v : QueuedBlocks) (a : Arena) → a.store.blocks ≡ v.arena.store.blocks → (q n : ℕ) → shelf_at a q ≡ messages_on v q → is_awake (record v { arena = a }) q n ≡ is_awake v q n
awake_freed v a blocks q n messages =
    ap (λ rests. not (flags_of v q).noenable && (rows.has q v.queues.run || rests))
    (ap (may_rest a.store (flags_of v q).read (flags_of v n).wanted) messages ∙ rest_same v.arena.store a.store blocks (flags_of v q).read (flags_of v n).wanted (messages_on v q))

-- what putting and flushing leave, where the queue exists
put_is : (v : PoolValue) (p : ℕ) (t : TokenValue) → has_queue v p ≡ true
    → with_message_put p t v ≡ with_queued v (with_state (enabled_where (enables_put (flags_of (queued_blocks_of v) p) (rank_put t.head (queued_blocks_of v))) p) (with_put p t.head (put_behind (rank_of v.arena.store) (message_put t.head (queued_blocks_of v)) (messages_on (queued_blocks_of v) p)) (queued_blocks_of v)))
put_is v p t there = ap (λ g. value_after v (on_queues v g)) (cond-true _ _ _ there)

pub flushed_is : (v : PoolValue) (p : ℕ) (flush : Flush) → has_queue v p ≡ true
    → with_queue_flushed p flush v ≡ with_queue_enabled p (with_queued v (with_queue_settled p (with_flushed p (is_picked v.arena.store None flush) (queued_blocks_of v))))
flushed_is v p flush there = ap (λ g. with_queue_enabled p (value_after v (on_queues v g))) (cond-true _ _ _ there)

-- ---- all queues are awake but q, which is being served

module _ (specs : List QueueSpec) (lawful : are_lawful specs ≡ true) (sides : AreSides specs) (q : ℕ) where
  pub record IsOpen (v : PoolValue) : Type 0 where
    pub same : v.queues.specs ≡ specs
    pub banded : AreBanded (queued_blocks_of v)
    pub shelved : length v.arena.shelves ≡ length specs
    pub off : (flags_at v.queues q).noenable ≡ false
    pub others : (p t : ℕ) → p ≢ q → next_of specs p ≡ Some t → is_awake (queued_blocks_of v) p t ≡ true

  module _ (v : PoolValue) (on : IsOpen v) where
    lawful_on : are_lawful v.queues.specs ≡ true
    lawful_on = ap are_lawful on.same ∙ lawful

    sides_on : AreSides v.queues.specs
    sides_on = subst AreSides (sym on.same) sides

    next_on : (p t : ℕ) → next_of specs p ≡ Some t → next_of v.queues.specs p ≡ Some t
    next_on p t is = ap (λ (s : List QueueSpec). next_of s p) on.same ∙ is

    open_changed : (w : PoolValue) → KeepsQueued v w → IsOpen w
    open_changed w keeps = record {
      same = ap (λ (s : QueueState). s.specs) keeps.queues ∙ on.same;
      banded = λ p. ap (λ (s : QueueState). length (flags_at s p).wanted) keeps.queues ∙ on.banded p;
      shelved = ap length keeps.shelves ∙ on.shelved;
      off = ap (λ (s : QueueState). (flags_at s q).noenable) keeps.queues ∙ on.off;
      others = λ p t other is. awake_same v w keeps p t ∙ on.others p t other is;
    }

    -- only the run list grows
    open_grown : (s : QueueState) → Grows v.queues s → IsOpen (record v { queues = s })
    open_grown s grows = record {
      same = ap (λ (t : QueueState). t.specs) grows.alone ∙ on.same;
      banded = λ p. ap (λ (t : QueueState). length (flags_at t p).wanted) grows.alone ∙ on.banded p;
      shelved = on.shelved;
      off = ap (λ (t : QueueState). (flags_at t q).noenable) grows.alone ∙ on.off;
      others = λ p t other is. awake_grown (queued_blocks_of v) s grows p t (on.others p t other is);
    }

    -- ---- a message is put on queue c

    module _ (c h : ℕ) where
      abbrev so : Bool
      so = enables_put (flags_of (queued_blocks_of v) c) (rank_put h (queued_blocks_of v))

      abbrev joined : List Message
      joined = put_behind (rank_of v.arena.store) (message_put h (queued_blocks_of v)) (messages_on (queued_blocks_of v) c)

      open_put : IsOpen (with_queued v (with_state (enabled_where so c) (with_put c h joined (queued_blocks_of v))))
      open_put =
          let grows = enabled_where_grows so c v.queues in
          record {
            same = ap (λ (t : QueueState). t.specs) grows.alone ∙ on.same;
            banded = λ p. ap (λ (t : QueueState). length (flags_at t p).wanted) grows.alone ∙ on.banded p;
            shelved = length-set v.arena.shelves c joined ∙ on.shelved;
            off = ap (λ (t : QueueState). (flags_at t q).noenable) grows.alone ∙ on.off;
            others = λ p t other is.
                awake_put (queued_blocks_of v) lawful_on sides_on c (rank_put h (queued_blocks_of v)) (message_put h (queued_blocks_of v)) (sym (rank_of-queued v.arena.store (message_at v.arena h)))
                (with_shelf c joined (without_held h v.arena)) refl refl (on.shelved ∙ ap length (sym on.same)) p t (next_on p t is) (on.others p t other is);
          }

    -- ---- queue c is flushed, and enabled

    module _ (c : ℕ) (picked : Message → Bool) where
      abbrev flushed : QueuedBlocks
      flushed = with_flushed c picked (queued_blocks_of v)

      abbrev settled : QueuedBlocks
      settled = with_queue_settled c flushed

      abbrev freed : List Block
      freed = flat_map (λ m. m) (filter picked (shelf_at v.arena c))

      abbrev kept : Arena
      kept = with_shelf c (filter (λ m. not (picked m)) (shelf_at v.arena c)) v.arena

      shelves_flushed : flushed.arena.shelves ≡ set v.arena.shelves c (filter (λ m. not (picked m)) (shelf_at v.arena c))
      shelves_flushed = freed_shelves freed kept

      off_settled : (p : ℕ) → (flags_at settled.queues p).noenable ≡ (flags_at v.queues p).noenable
      off_settled p =
          ap (λ (fs : List Flags). (get_or fs p opening_flags).noenable) (settled_flags flushed c)
          ∙ flags_related SameOff (λ f. refl) v.queues.flags c (flags_left flushed c) refl p

      banded_settled : (p : ℕ) → length (flags_at settled.queues p).wanted ≡ bands
      banded_settled p =
          ap (λ (fs : List Flags). length (get_or fs p opening_flags).wanted) (settled_flags flushed c)
          ∙ flags_all (λ f. length f.wanted ≡ bands) v.queues.flags c (flags_left flushed c) (banded_left flushed c) on.banded p

      -- queue c is enabled, others are as awake as before
      others_flushed : (p t : ℕ) → p ≢ q → next_of specs p ≡ Some t → is_awake (record settled { queues = with_enabled c settled.queues }) p t ≡ true
      others_flushed p t other is =
          let awake = on.others p t other is in
          elim (cases_eq p c) [
            | inl here ↦
                let specs_now : settled.queues.specs ≡ specs = settled_specs flushed c ∙ on.same in
                let serves : (spec_at settled.queues.specs c).service ≡ true =
                ap (λ (ss : List QueueSpec). (spec_at ss c).service) specs_now ∙ sides c ∙ ap is_some (subst (λ k. next_of specs k ≡ Some t) here is) in
                let grows = enabled_grows c settled.queues in
                let enabling = ap (λ (s : QueueState). (flags_at s p).noenable) grows.alone ∙ off_settled p ∙ enabling_on (queued_blocks_of v) p t awake in
                awake_on_run (record settled { queues = with_enabled c settled.queues }) p t enabling
                (subst (λ k. rows.has k (with_enabled c settled.queues).run ≡ true) (sym here) (enabled_on c settled.queues serves))
            | inr away ↦
                awake_grown settled (with_enabled c settled.queues) (enabled_grows c settled.queues) p t
                (awake_settled flushed lawful_on sides_on on.banded c p t (next_on p t is)
                (awake_freed (queued_blocks_of v) flushed.arena (freed_data freed kept) p t (ap (λ (ss : List (List Message)). get_or ss p []) shelves_flushed ∙ get_or-set_other v.arena.shelves c p _ [] away) ∙ awake))
          ]

      open_flushed : IsOpen (with_queue_enabled c (with_queued v settled))
      open_flushed =
          let grows = enabled_grows c settled.queues in
          record {
            same = ap (λ (s : QueueState). s.specs) grows.alone ∙ settled_specs flushed c ∙ on.same;
            banded = λ p. ap (λ (s : QueueState). length (flags_at s p).wanted) grows.alone ∙ banded_settled p;
            shelved = ap length shelves_flushed ∙ length-set v.arena.shelves c _ ∙ on.shelved;
            off = ap (λ (s : QueueState). (flags_at s q).noenable) grows.alone ∙ off_settled q ∙ on.off;
            others = others_flushed;
          }

  -- ---- a step, and all steps

  step_open : (s : Step) (v w : PoolValue) → IsStep q s v w → IsOpen v → IsOpen w
  step_open Changed v w step on = open_changed v on w step
  step_open (Put p t) v w step on = subst IsOpen (sym (step.3 ∙ put_is v p t step.1)) (open_put v on p t.head)
  step_open (Flushed p flush) v w step on = subst IsOpen (sym (step.1 ∙ flushed_is v p flush step.0)) (open_flushed v on p (is_picked v.arena.store None flush))
  step_open (Enabled p) v w step on = subst IsOpen (sym step) (open_grown v on (with_enabled p v.queues) (enabled_grows p v.queues))

  pub steps_open : (ss : List Step) (v w : PoolValue) → AreSteps q ss v w → IsOpen v → IsOpen w
  steps_open [] v w steps on = subst IsOpen (sym steps) on
  steps_open (s ∷ ss) v w steps on = steps_open ss steps.0 w steps.2 (step_open s v steps.0 steps.1 on)

  -- ---- messages on the queue that is served

  length_filter : (picked : Message → Bool) (ms : List Message) → length (filter picked ms) ≤ length ms
  length_filter picked [] = omega arith
  length_filter picked (m ∷ ms) = let rest = length_filter picked ms in by_test (picked m) rest
    where
      by_test : (b : Bool) → length (filter picked ms) ≤ length ms → length (if b then m ∷ filter picked ms else filter picked ms) ≤ suc (length ms)
      by_test true rest = omega (arith, rest)
      by_test false rest = omega (arith, rest)

  filtered_shelf : (picked : Message → Bool) (shelves : List (List Message)) (c p : ℕ) → length (get_or (set shelves c (filter picked (get_or shelves c []))) p []) ≤ length (get_or shelves p [])
  filtered_shelf picked [] c p = omega arith
  filtered_shelf picked (ms ∷ shelves) zero zero = length_filter picked ms
  filtered_shelf picked (ms ∷ shelves) zero (suc p) = omega arith
  filtered_shelf picked (ms ∷ shelves) (suc c) zero = omega arith
  filtered_shelf picked (ms ∷ shelves) (suc c) (suc p) = filtered_shelf picked shelves c p

  step_few : (s : Step) (v w : PoolValue) → IsStep q s v w → length (shelf_at w.arena q) ≤ length (shelf_at v.arena q)
  step_few Changed v w step = let same = ap (λ (ss : List (List Message)). length (get_or ss q [])) step.shelves in omega (arith, same)
  step_few (Put p t) v w step =
      let same = ap (λ (a : Arena). length (shelf_at a q)) (put_leaves v w p t.head step.1 step.3) ∙ ap length (get_or-set_other v.arena.shelves p q _ [] step.0) in
      omega (arith, same)
  step_few (Flushed p flush) v w step =
      let picked : Message → Bool = is_picked v.arena.store None flush in
      let shelves : w.arena.shelves ≡ set v.arena.shelves p (filter (λ m. not (picked m)) (shelf_at v.arena p)) =
      ap (λ (x : PoolValue). x.arena.shelves) (step.1 ∙ flushed_is v p flush step.0)
      ∙ freed_shelves (flat_map (λ m. m) (filter picked (shelf_at v.arena p))) (with_shelf p (filter (λ m. not (picked m)) (shelf_at v.arena p)) v.arena) in
      let few = filtered_shelf (λ m. not (picked m)) v.arena.shelves p q in
      omega (arith, few, ap (λ (ss : List (List Message)). length (get_or ss q [])) shelves)
  step_few (Enabled p) v w step = let same = ap (λ (x : PoolValue). length (shelf_at x.arena q)) step in omega (arith, same)

  pub steps_few : (ss : List Step) (v w : PoolValue) → AreSteps q ss v w → length (shelf_at w.arena q) ≤ length (shelf_at v.arena q)
  steps_few [] v w steps = let same = ap (λ (x : PoolValue). length (shelf_at x.arena q)) steps in omega (arith, same)
  steps_few (s ∷ ss) v w steps = let first = step_few s v steps.0 steps.1 in let rest = steps_few ss steps.0 w steps.2 in omega (arith, first, rest)

  -- ---- steps that pass one message on at most

  still_shelves : (ss : List Step) → AreStill ss → (v w : PoolValue) → AreSteps q ss v w → w.arena.shelves ≡ v.arena.shelves
  still_shelves [] still v w steps = ap (λ (x : PoolValue). x.arena.shelves) steps
  still_shelves (Changed ∷ ss) still v w steps = still_shelves ss still steps.0 w steps.2 ∙ steps.1.shelves
  still_shelves (Put p t ∷ ss) still v w steps = absurd still
  still_shelves (Flushed p flush ∷ ss) still v w steps = absurd still
  still_shelves (Enabled p ∷ ss) still v w steps = absurd still

  -- what is passed on to queue n has the queues from there on ahead of it
  pub passed_weighs : (n : ℕ) (ss : List Step) → PassOne n ss → (v w : PoolValue) → n < length v.arena.shelves → AreSteps q ss v w
      → weigh w.arena.shelves ≤ weigh v.arena.shelves + from_here v.arena.shelves n
  passed_weighs n [] one v w within steps = let same = ap (λ (x : PoolValue). weigh x.arena.shelves) steps in omega (arith, same)
  passed_weighs n (Changed ∷ ss) one v w within steps =
      let shelves : steps.0.arena.shelves ≡ v.arena.shelves = steps.1.shelves in
      let rest = passed_weighs n ss one steps.0 w (omega (arith, within, ap length shelves)) steps.2 in
      omega (arith, rest, ap weigh shelves, ap (λ (ms : List (List Message)). from_here ms n) shelves)
  passed_weighs n (Put p t ∷ ss) one v w within steps =
      let m : Message = as_queued v.arena.store (message_at v.arena t.head) in
      let here : p < length v.arena.shelves = omega (arith, within, one.0) in
      let put = ap (λ (a : Arena). weigh a.shelves) (put_leaves v steps.0 p t.head steps.1.1 steps.1.3) in
      let joined = weigh-set v.arena.shelves p (put_behind (rank_of v.arena.store) m (shelf_at v.arena p)) here in
      let more = each-put (from_here v.arena.shelves p) (rank_of v.arena.store) m (shelf_at v.arena p) in
      let rest = ap weigh (still_shelves ss one.1 steps.0 w steps.2) in
      let place = ap (from_here v.arena.shelves) one.0 in
      omega (arith, put, joined, more, rest, place)
  passed_weighs n (Flushed p flush ∷ ss) one v w within steps = absurd one
  passed_weighs n (Enabled p ∷ ss) one v w within steps = absurd one

-- ---- a service

module _ (q n : ℕ) (v : PoolValue) (law : IsLawful v) (s : IsServing q n v) where
  open_now : IsOpen v.queues.specs law.lawful_queues s.sides q v
  open_now = record { same = refl; banded = banded_of v law; shelved = law.shelves; off = s.off; others = s.others }

  module _ (w : PoolValue) (ss : List Step) (steps : AreSteps q ss v w) where
    left_open : IsOpen v.queues.specs law.lawful_queues s.sides q w
    left_open = steps_open v.queues.specs law.lawful_queues s.sides q ss v w steps open_now

    pub stepped_specs : w.queues.specs ≡ v.queues.specs
    stepped_specs = left_open.same

    pub stepped_serving : IsServing q n w
    stepped_serving = record {
      sides = subst AreSides (sym stepped_specs) s.sides;
      next = ap (λ (sp : List QueueSpec). next_of sp q) stepped_specs ∙ s.next;
      off = left_open.off;
      others = λ p t other is. left_open.others p t other (ap (λ (sp : List QueueSpec). next_of sp p) (sym stepped_specs) ∙ is);
    }

    pub stepped_few : length (shelf_at w.arena q) ≤ length (shelf_at v.arena q)
    stepped_few = steps_few v.queues.specs law.lawful_queues s.sides q ss v w steps

    pub stepped_weighs : PassOne n ss → weigh w.arena.shelves ≤ weigh v.arena.shelves + from_here v.arena.shelves n
    stepped_weighs one =
        passed_weighs v.queues.specs law.lawful_queues s.sides q n ss one v w (omega (arith, (hop_ahead v.queues.specs law.lawful_queues q n s.next).there, law.shelves)) steps

-- ---- for users of modules

-- one message that is put on the next queue, and no other step
pub passed_one : (n : ℕ) (t : TokenValue) (steps : List Step) → steps ≡ Put n t ∷ [] → PassOne n steps
passed_one n t steps is = subst (PassOne n) (sym is) (refl, tt)
