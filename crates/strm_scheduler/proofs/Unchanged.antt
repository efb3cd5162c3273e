-- A call on held messages keeps the laws of sides: it leaves the queues and the ranks of the messages on them.
use Rattle.std.proofs.Common.{◌≡◌, ℕ, zero, suc, ◌<◌, length, Ok, Err, Bool, true, false, not, ◌&&◌, ◌||◌, ◌==◌, List, [], ◌∷◌, get_or, Option, Some, None, refl, sym, ap, ◌∙◌, subst, arith, if◌then◌else◌}
use Rattle.std.specs.List.{All, flat_map}
use Rattle.std.specs.Prelude.{MatchResult, Result, slice_get}
use Rattle.strm_data.specs.DataStore.{DataStore}
use Rattle.strm_links.specs.Rows as rows
use Rattle.strm_mblk.specs.Arena.{Arena, message_at, shelf_at, shelved_blocks, without_held}
use Rattle.strm_mblk.specs.Block.{Block, Message}
use Rattle.strm_mblk.specs.BlockCalls as blocks
use Rattle.strm_mblk.specs.BlockCalls.{with_rest}
use Rattle.strm_mblk.specs.Frame.{IsSameData, LeavesShelves}
use Rattle.strm_mblk.specs.Calls.{Spends}
use Rattle.strm_mblk.specs.Freeing as freeing
use Rattle.strm_mblk.specs.Given.{Given, value_after}
use Rattle.strm_mblk.specs.Messages.{blocks_on, chains_joined, without_place}
use Rattle.strm_mblk.specs.declared.rejected.Rejected.{Rejected}
use Rattle.strm_mblk.specs.declared.token.TokenValue.{TokenValue}
use Rattle.strm_pool.specs.PoolValue.{PoolValue, arena, on_arena, queued_blocks_of, with_arena, with_token_spent}
use Rattle.strm_queue.specs.Flow.{flags_at, has_band}
use Rattle.strm_queue.specs.Limits.{high_rank}
use Rattle.strm_queue.proofs.Agreeing.{rank_of-same}
use Rattle.strm_scheduler.specs.Laws.{KeepsQueued, is_awake, may_rest}
use Rattle.strm_scheduler.specs.declared.need.Need.{Need}
use Rattle.strm_scheduler.specs.Needs.{are_free}
use Rattle.strm_scheduler.proofs.PoolLaws.{joined_parts}

module _ (s t : DataStore) where
  rest_same : (read : Bool) (wanted : List Bool) (ms : List Message) → All (IsSameData s t) (flat_map (λ m. m) ms) → may_rest t read wanted ms ≡ may_rest s read wanted ms
  rest_same read wanted [] same = refl
  rest_same read wanted (m ∷ ms) same =
      let rank = rank_of-same s t m (joined_parts (IsSameData s t) m (flat_map (λ x. x) ms) same).0 in
      λ i. not (rank i == high_rank) && has_band wanted (rank i)

  pub shelf_data : (shelves : List (List Message)) (q : ℕ) → All (IsSameData s t) (blocks_on shelves) → All (IsSameData s t) (flat_map (λ m. m) (get_or shelves q []))
  shelf_data [] q same = λ k d within. absurd (omega (arith, within))
  shelf_data (ms ∷ shelves) zero same = (joined_parts (IsSameData s t) (flat_map (λ m. m) ms) (blocks_on shelves) same).0
  shelf_data (ms ∷ shelves) (suc q) same = shelf_data shelves q (joined_parts (IsSameData s t) (flat_map (λ m. m) ms) (blocks_on shelves) same).1

-- each queue is awake as before
pub awake_same : (v w : PoolValue) → KeepsQueued v w → (q n : ℕ) → is_awake (queued_blocks_of w) q n ≡ is_awake (queued_blocks_of v) q n
awake_same v w keeps q n =
    (λ i. not (flags_at (keeps.queues i) q).noenable
    && (rows.has q (keeps.queues i).run || may_rest w.arena.store (flags_at (keeps.queues i) q).read (flags_at (keeps.queues i) n).wanted (get_or (keeps.shelves i) q [])))
    ∙ ap (λ r. not (flags_at v.queues q).noenable && (rows.has q v.queues.run || r))
    (rest_same v.arena.store w.arena.store (flags_at v.queues q).read (flags_at v.queues n).wanted (shelf_at v.arena q) (shelf_data v.arena.store w.arena.store v.arena.shelves q keeps.contents))

-- ---- for users of `change` and authors of modules

-- a call on held messages leaves the queues and the messages on them
pub arena_keeps : {X : Type 0} (heads : List ℕ) (v w : PoolValue) (call : Given Arena X) → w ≡ value_after v (on_arena v call) → LeavesShelves heads v.arena w.arena → KeepsQueued v w
arena_keeps heads v w (Ok given) after left = record { queues = ap (λ (p : PoolValue). p.queues) after; shelves = left.shelves; contents = left.shelved_data }
arena_keeps heads v w (Err why) after left = record { queues = ap (λ (p : PoolValue). p.queues) after; shelves = left.shelves; contents = left.shelved_data }

-- and so do two
pub keeps_joined : (v x w : PoolValue) → KeepsQueued v x → KeepsQueued x w → KeepsQueued v w
keeps_joined v x w first second = record {
  queues = second.queues ∙ first.queues;
  shelves = second.shelves ∙ first.shelves;
  contents = λ k d within.
      let here : k < length (shelved_blocks x.arena) = subst (λ (ss : List (List Message)). k < length (blocks_on ss)) (sym first.shelves) within in
      let same : get_or (shelved_blocks x.arena) k d ≡ get_or (shelved_blocks v.arena) k d = ap (λ (ss : List (List Message)). get_or (blocks_on ss) k d) first.shelves in
      subst (λ (b : Block). IsSameData x.arena.store w.arena.store b) same (second.contents k d here) ∙ first.contents k d within;
}

pub keeps_same : (v : PoolValue) → KeepsQueued v v
keeps_same v = record { queues = refl; shelves = refl; contents = λ k d within. refl }

-- a message that was made anew in another pool was freed here; otherwise nothing changed
pub transfer_keeps : (t : TokenValue) (v w : PoolValue) (result : Result TokenValue Rejected)
    → MatchResult result (λ u. Spends arena t (with_token_spent v t) v w) (λ rejected. (rejected.token ≡ t) × (w ≡ v)) → KeepsQueued v w
transfer_keeps t v w (Ok u) here = arena_keeps (t.head ∷ []) v w (Ok (t.head, freeing.with_token_spent v.arena t)) here.after here.shelves
transfer_keeps t v w (Err rejected) here = subst (λ (x : PoolValue). KeepsQueued v x) (sym here.1) (keeps_same v)

-- ---- calls that free no block

-- blocks of two messages are joined, or one is taken out of a message
pub linkb_free : (h g : ℕ) (v w : PoolValue) → w ≡ with_arena v (blocks.linkb h g v.arena) → (need : Need) → are_free need w.arena ≡ are_free need v.arena
linkb_free h g v w after need = ap (λ (p : PoolValue). are_free need p.arena) after ∙ by_same (h == g)
  where
    by_same : (same : Bool) → (let a : Arena = if same then v.arena else record v.arena { held = chains_joined h g v.arena.held } in are_free need a) ≡ are_free need v.arena
    by_same true = refl
    by_same false = refl

rest_free : (need : Need) (rest : Message) (a : Arena) → are_free need (with_rest rest a) ≡ are_free need a
rest_free need [] a = refl
rest_free need (b ∷ rest) a = refl

pub rmvb_free : (h k : ℕ) (v w : PoolValue) → w ≡ value_after v (on_arena v (blocks.rmvb h k v.arena)) → (need : Need) → are_free need w.arena ≡ are_free need v.arena
rmvb_free h k v w after need = ap (λ (p : PoolValue). are_free need p.arena) after ∙ by_block (slice_get (message_at v.arena h) k)
  where
    rest : Message
    rest = without_place k (message_at v.arena h)

    by_block : (o : Option Block) → are_free need (value_after v (on_arena v (blocks.rmvb_of h v.arena rest o))).arena ≡ are_free need v.arena
    by_block None = refl
    by_block (Some b) = rest_free need rest (without_held h v.arena)
