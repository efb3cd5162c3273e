-- A call that takes all messages that a flush would free leaves the queues as that flush does.
use Rattle.std.proofs.Common.{◌≡◌, ℕ, zero, suc, ◌≤◌, Bool, true, false, not, ◌==◌, List, [], ◌∷◌, Option, Ok, Err, arith, get_or, length, map, refl, sym, ap, ◌∙◌, subst, if◌then◌else◌}
use Rattle.std.specs.Prelude.{filter, sum_by}
use Rattle.std.specs.List.{flat_map}
use Rattle.strm_data.specs.DataStore.{DataBlock, DataStore, no_data_block}
use Rattle.strm_data.specs.MsgType.{is_high_priority}
use Rattle.strm_data.specs.declared.refusal.Refusal.TheVariants.{NoSuchQueue}
use Rattle.strm_mblk.specs.Arena.{Arena, shelf_at, with_held, with_shelf}
use Rattle.strm_mblk.specs.Block.{Block, Message, head_of, size_of}
use Rattle.strm_mblk.specs.Freeing.{with_block_freed, with_blocks_freed}
use Rattle.strm_mblk.specs.Given.{Given, value_after}
use Rattle.strm_queue.specs.declared.flush.Flush.{Flush}
use Rattle.strm_queue.specs.Flow.{QueueState, band_of_rank, lowat_of, some_relieved, still_wanted, with_flags}
use Rattle.strm_queue.specs.Flush.{is_picked, with_freed}
use Rattle.strm_queue.specs.Limits.{high_rank}
use Rattle.strm_queue.specs.QueueCalls.{count_on, flags_of, flush_messages, has_queue, messages_on, waker_enabled_where, with_queue_settled}
use Rattle.strm_queue.specs.QueuedBlocks.{QueuedBlocks}
use Rattle.strm_queue.specs.Rank.{rank_of}
use Rattle.strm_queue.specs.Taking.{first_picked, left_after, take_messages, with_all_held}
use Rattle.strm_pool.specs.Lawful.{HaveSameQueues}

-- ---- what stays on the queue

-- one more message, which leaves or stays
left_more : (goes : Bool) (picked : Message → Bool) (n : ℕ) (m : Message) (ms rest : List Message) → left_after n picked ms ≡ rest → left_after (suc n) picked ms ≡ rest
    → (if goes then left_after n picked ms else m ∷ left_after (suc n) picked ms) ≡ (if not goes then m ∷ rest else rest)
left_more true picked n m ms rest gone stays = gone
left_more false picked n m ms rest gone stays = ap (λ xs. m ∷ xs) stays

-- no picked message stays, if as many may leave as there are
all_left : (picked : Message → Bool) (n : ℕ) (ms : List Message) → length ms ≤ n → left_after n picked ms ≡ filter (λ m. not (picked m)) ms
all_left picked zero [] few = refl
all_left picked zero (m ∷ ms) few = absurd (omega (arith, few))
all_left picked (suc n) [] few = refl
all_left picked (suc n) (m ∷ ms) few =
    left_more (picked m) picked n m ms (filter (λ x. not (picked x)) ms) (all_left picked n ms (omega (arith, few))) (all_left picked (suc n) ms (omega (arith, few)))

-- ---- what neither changes

-- shelves, and the data blocks, of which only those are free that were freed
record AreAlike (a b : Arena) : Type 0 where
  shelves : b.shelves ≡ a.shelves
  blocks : b.store.blocks ≡ a.store.blocks

held_alike : (ms : List Message) (a : Arena) → AreAlike a (with_all_held ms a)
held_alike [] a = record { shelves = refl; blocks = refl }
held_alike (m ∷ ms) a =
    let rest = held_alike ms (with_held m a) in
    record { shelves = rest.shelves; blocks = rest.blocks }

dropped_blocks : (b : Bool) (s t : DataStore) → t.blocks ≡ s.blocks → (if b then t else s).blocks ≡ s.blocks
dropped_blocks true s t same = same
dropped_blocks false s t same = refl

freed_alike : (bs : List Block) (a : Arena) → AreAlike a (with_blocks_freed bs a)
freed_alike [] a = record { shelves = refl; blocks = refl }
freed_alike (b ∷ bs) a =
    let rest = freed_alike bs (with_block_freed b bs a) in
    record { shelves = rest.shelves; blocks = rest.blocks ∙ dropped_blocks _ a.store _ refl }

-- ---- settling

rank-alike : (s t : DataStore) → t.blocks ≡ s.blocks → (m : Message) → rank_of t m ≡ rank_of s m
rank-alike s t same [] = refl
rank-alike s t same (b ∷ bs) = ap (λ (k : List DataBlock). if is_high_priority (get_or k b.data_number no_data_block).kind then high_rank else b.band) same

-- a queue is settled by the bytes of its messages
module _ (q : ℕ) (state : QueueState) (a b : Arena) (alike : AreAlike a b) where
  counts : (band : ℕ) → count_on (record { queues = state; arena = b }) q band ≡ count_on (record { queues = state; arena = a }) q band
  counts band = λ i.
      sum_by (λ m. if band_of_rank (rank-alike a.store b.store alike.blocks m i) == band then size_of m else 0) (shelf_at (record a { shelves = alike.shelves i }) q)

  settled_alike : (with_queue_settled q (record { queues = state; arena = b })).queues ≡ (with_queue_settled q (record { queues = state; arena = a })).queues
  settled_alike =
      ap
      (λ (f : ℕ → ℕ).
      let v : QueuedBlocks = record { queues = state; arena = a } in
      let flags = flags_of v q in
      waker_enabled_where (some_relieved flags.wanted f (lowat_of state q)) q (with_flags q (record flags { wanted = still_wanted flags.wanted f (lowat_of state q) }) state))
      (λ i band. counts band i)

-- ---- both calls

pub same_queues : (v : QueuedBlocks) (q n : ℕ) (band : Option ℕ) (flush : Flush) → length (messages_on v q) ≤ n
    → HaveSameQueues (value_after v (take_messages q band flush n v)) (value_after v (flush_messages q band flush v))
same_queues v q n band flush enough = each (has_queue v q)
  where
    picked : Message → Bool
    picked = is_picked v.arena.store band flush

    left : Arena
    left = with_shelf q (filter (λ m. not (picked m)) (messages_on v q)) v.arena

    all : left_after n picked (messages_on v q) ≡ filter (λ m. not (picked m)) (messages_on v q)
    all = all_left picked n (messages_on v q) enough

    taken : Arena
    taken = with_all_held (first_picked n picked (messages_on v q)) (with_shelf q (left_after n picked (messages_on v q)) v.arena)

    freed : Arena
    freed = with_freed (filter picked (messages_on v q)) left

    held : AreAlike left taken
    held = subst (λ ms. AreAlike left (with_all_held (first_picked n picked (messages_on v q)) (with_shelf q ms v.arena))) (sym all) (held_alike (first_picked n picked (messages_on v q)) left)

    gone : AreAlike left freed
    gone = freed_alike (flat_map (λ m. m) (filter picked (messages_on v q))) left

    each : (is_there : Bool)
        → HaveSameQueues (value_after v (let g : Given QueuedBlocks (List ℕ) = if is_there then Ok (map head_of (first_picked n picked (messages_on v q)), with_queue_settled q (record v { arena = taken })) else Err NoSuchQueue in g))
        (value_after v (let g : Given QueuedBlocks (Unit {0}) = if is_there then Ok (tt, with_queue_settled q (record v { arena = freed })) else Err NoSuchQueue in g))
    each true = record {
      queues = settled_alike q v.queues left taken held ∙ sym (settled_alike q v.queues left freed gone);
      shelves = held.shelves ∙ sym gone.shelves;
    }
    each false = record { queues = refl; shelves = refl }
