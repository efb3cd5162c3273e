-- A pool as a value of lists, and how a call on one of its parts is a call on the pool.
use Rattle.std.specs.Prelude.{◌≡◌, ℕ, Bool, true, fold, List, [], length, Option, None, Some, Result, Ok, Err}
use Rattle.std.specs.List.{list_all}
use Rattle.std.specs.Option.{option_map_or}
use Rattle.strm_pool.specs.declared.config.Config.{Config}
use Rattle.strm_pool.specs.declared.config.NewFault.{NewFault}
use Rattle.strm_pool.specs.declared.config.NewFault.TheVariants.{BadConfig, BadShared, Memory}
use Rattle.strm_pool.specs.Config.{fault_of}
use Rattle.strm_mblk.specs.declared.token.TokenValue.{TokenValue}
use Rattle.strm_mblk.specs.Arena.{Arena, has, opening_arena}
use Rattle.strm_mblk.specs.Freeing as freeing
use Rattle.strm_mblk.specs.Given.{Given}
use Rattle.strm_queue.specs.QueueCalls as queues
use Rattle.strm_queue.specs.Flow.{QueueState, opening_queues}
use Rattle.strm_queue.specs.QueuedBlocks.{QueuedBlocks}

-- a wish for a message block: its id and a size
abbrev pub Wish : Type 0
Wish = ℕ × ℕ

-- The wishes: how many there may be at one time, the next id (none after the last), and the recorded wishes in order.
pub record WishState : Type 0 where
  pub most : ℕ
  pub next : Option ℕ
  pub pending : List Wish

-- A pool: its arena, in which shelf q has the messages of queue q; the state of its queues; and its wishes.
pub record PoolValue : Type 0 where
  pub arena : Arena
  pub queues : QueueState
  pub wishes : WishState

-- the message blocks of a pool
abbrev pub arena : PoolValue → Arena
arena v = v.arena

-- the pool that a lawful configuration opens
abbrev pub opening_pool : Config → PoolValue
opening_pool c = record {
  arena = opening_arena c.id c.mblks c.classes (length c.queues);
  queues = opening_queues c.queues;
  wishes = record { most = c.bufcalls; next = Some c.first_id; pending = [] };
}

-- A lawful configuration opens its pool, unless memory is refused. Of any other the first fault is returned, before any memory
-- is taken.
abbrev pub Opens : Config → Result PoolValue NewFault → Type 0
Opens c (Ok v) = (fault_of c ≡ None) × (v ≡ opening_pool c)
Opens c (Err (BadConfig which)) = fault_of c ≡ Some which
Opens c (Err BadShared) = ⊥
Opens c (Err Memory) = fault_of c ≡ None

-- ---- calls on a part

-- a pool with another arena
abbrev pub with_arena : PoolValue → Arena → PoolValue
with_arena v a = record v { arena = a }

-- a call on the arena of a pool
abbrev pub on_arena : {X : Type 0} → PoolValue → Given Arena X → Given PoolValue X
on_arena v (Ok given) = Ok (given.0, with_arena v given.1)
on_arena v (Err why) = Err why

-- the queues of a pool, with the message blocks on them
abbrev pub queued_blocks_of : PoolValue → QueuedBlocks
queued_blocks_of v = record { queues = v.queues; arena = v.arena }

-- a pool with other queues and message blocks
abbrev pub with_queued : PoolValue → QueuedBlocks → PoolValue
with_queued v w = record v { arena = w.arena; queues = w.queues }

-- a call on the queues of a pool
abbrev pub on_queues : {X : Type 0} → PoolValue → Given QueuedBlocks X → Given PoolValue X
on_queues v (Ok given) = Ok (given.0, with_queued v given.1)
on_queues v (Err why) = Err why

-- a pool with other wishes
abbrev pub with_wishes : PoolValue → WishState → PoolValue
with_wishes v s = record v { wishes = s }

-- a call on the wishes of a pool
abbrev pub on_wishes : {X : Type 0} → PoolValue → Given WishState X → Given PoolValue X
on_wishes v (Ok given) = Ok (given.0, with_wishes v given.1)
on_wishes v (Err why) = Err why

-- whether there is a queue of this number
abbrev pub has_queue : PoolValue → ℕ → Bool
has_queue v q = queues.has_queue (queued_blocks_of v) q

-- ---- tokens

-- whether the pool has each token in these registers
abbrev pub owns : PoolValue → List (Option TokenValue) → Bool
owns v rs = list_all (λ o. option_map_or (has v.arena) o true) rs

-- the pool once a token is spent
abbrev pub with_token_spent : PoolValue → TokenValue → PoolValue
with_token_spent v t = with_arena v (freeing.with_token_spent v.arena t)

-- the pool once the tokens of these registers are spent, first to last
abbrev pub with_tokens_spent : PoolValue → List (Option TokenValue) → PoolValue
with_tokens_spent v rs = fold (λ w o. option_map_or (with_token_spent w) o w) v rs
