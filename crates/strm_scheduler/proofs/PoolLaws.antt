-- What the laws of a pool give: ranks and bands of messages, wanted marks, and the run list.
use Rattle.std.proofs.Common.{◌≡◌, ℕ, zero, suc, ◌<◌, inl, inr, true, List, [], ◌∷◌, length, get_or, refl, sym, ap, ◌∙◌, subst, arith, ◌+◌, ◌^◌, ◌≤◌, ◌++◌, length-append}
use Rattle.std.specs.Prelude.{nat_le}
use Rattle.std.specs.List.{All, flat_map, list_all}
use Rattle.std.proofs.lemmas.Bool.{and_from, cases_lt, cond_both, false≢true, le-leb}
use Rattle.std.proofs.lemmas.List.{get_or-append-add, get_or_append_left, get_or_past}
use Rattle.strm_mblk.specs.Arena.{held_blocks, shelf_at, shelved_blocks}
use Rattle.strm_mblk.specs.Block.{Block, Message, kind_of}
use Rattle.strm_queue.specs.declared.queue_spec.QueueSpec.{QueueSpec}
use Rattle.strm_queue.specs.Flow.{Flags, no_spec, opening_flags, spec_at}
use Rattle.strm_queue.specs.Limits.{high_rank}
use Rattle.strm_queue.specs.Rank.{rank_of}
use Rattle.strm_scheduler.proofs.Settling.{AreBanded}
use Rattle.strm_data.specs.DataStore.{DataStore}
use Rattle.strm_data.specs.MsgType.{is_high_priority}
use Rattle.strm_mblk.specs.Messages.{blocks_on}
use Rattle.strm_pool.specs.Lawful.{IsLawful}
use Rattle.strm_pool.specs.PoolValue.{PoolValue, queued_blocks_of}
use Rattle.strm_queue.proofs.bands.Bands.{length-bands_where, length_every_band}

-- ---- ranks

-- what holds of each element of two joined lists holds of each element of both
pub joined_parts : {X : Type 0} (P : X → Type 0) (xs ys : List X) → All P (xs ++ ys) → All P xs × All P ys
joined_parts P xs ys all = (
  λ k d within. subst P (get_or_append_left xs ys d k within) (all k d (omega (arith, within, length-append xs ys))),
  λ k d within. subst P (get_or-append-add xs ys k d) (all (length xs + k) d (omega (arith, within, length-append xs ys))),
)

module _ (s : DataStore) where
  abbrev IsBand : Block → Type 0
  IsBand b = b.band < 2 ^ 8

  rank_most : (m : Message) → All IsBand m → rank_of s m ≤ high_rank
  rank_most [] all = omega arith
  rank_most (b ∷ bs) all =
      let low : b.band < 2 ^ 8 = all 0 b (omega arith) in
      cond_both (is_high_priority (kind_of s b)) high_rank b.band (λ r. r ≤ high_rank) (λ high. omega arith) (λ ordinary. omega (arith, low))

  ranks_most : (ms : List Message) → All IsBand (flat_map (λ m. m) ms) → list_all (λ m. nat_le (rank_of s m) high_rank) ms ≡ true
  ranks_most [] all = refl
  ranks_most (m ∷ ms) all =
      let parts = joined_parts IsBand m (flat_map (λ x. x) ms) all in
      and_from (nat_le (rank_of s m) high_rank) _ (le-leb (rank_of s m) high_rank (rank_most m parts.0)) (ranks_most ms parts.1)

  shelf_ranks : (shelves : List (List Message)) (q : ℕ) → All IsBand (blocks_on shelves) → list_all (λ m. nat_le (rank_of s m) high_rank) (get_or shelves q []) ≡ true
  shelf_ranks [] q all = refl
  shelf_ranks (ms ∷ shelves) zero all = ranks_most ms (joined_parts IsBand (flat_map (λ m. m) ms) (blocks_on shelves) all).0
  shelf_ranks (ms ∷ shelves) (suc q) all = shelf_ranks shelves q (joined_parts IsBand (flat_map (λ m. m) ms) (blocks_on shelves) all).1

-- ---- what a pool's laws give

module _ (x : PoolValue) (law : IsLawful x) where
  pub low_ranks : (q : ℕ) → list_all (λ m. nat_le (rank_of x.arena.store m) high_rank) (shelf_at x.arena q) ≡ true
  low_ranks q = shelf_ranks x.arena.store x.arena.shelves q (joined_parts (λ (b : Block). b.band < 2 ^ 8) (shelved_blocks x.arena) (held_blocks x.arena) law.bands).0

  pub banded_of : AreBanded (queued_blocks_of x)
  banded_of q =
      elim (cases_lt q (length x.queues.specs)) [
        | inl below ↦ (law.banded q below).0
        | inr past ↦ ap (λ (f : Flags). length f.wanted) (get_or_past x.queues.flags q opening_flags (omega (arith, past, law.flagged))) ∙ length-bands_where _ ∙ length_every_band
      ]

  -- the run list has only queues of the pool
  pub run_below : All (λ q. q < length x.queues.specs) x.queues.run
  run_below k d within = by_place (get_or x.queues.run k d) (law.served k d within)
    where
      by_place : (q : ℕ) → (spec_at x.queues.specs q).service ≡ true → q < length x.queues.specs
      by_place q serves =
          elim (cases_lt q (length x.queues.specs)) [
            | inl below ↦ below
            | inr past ↦ absurd (false≢true (sym (ap (λ (s : QueueSpec). s.service) (get_or_past x.queues.specs q no_spec past)) ∙ serves))
          ]
