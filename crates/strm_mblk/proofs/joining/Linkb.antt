-- Blocks of held messages regrouped, and `linkb`.
use Rattle.std.proofs.Common.{◌≡◌, ℕ, List, length, sym, ap, ◌∙◌, arith, if◌then◌else◌, ◌≢◌, Bool, map, None, length-set}
use Rattle.std.specs.Prelude.{count_by, nat_lt, option_map, slice_set}
use Rattle.std.proofs.lemmas.Bool.{ne_eqb}
use Rattle.std.proofs.lemmas.List.{map-append, map-set}
use Rattle.strm_data.specs.CountedStore.{CountedStore}
use Rattle.strm_data.specs.DataStore.{times}
use Rattle.strm_links.proofs.lists.Counting.{times-append}
use Rattle.strm_mblk.specs.declared.blocks.Fields.{Fields}
use Rattle.strm_mblk.specs.Arena.{references_to, Arena, shelved_blocks}
use Rattle.strm_mblk.specs.Block.{uses_data}
use Rattle.strm_mblk.specs.BlocksLayout.{IsFilled, arena_of, block_at, message_of}
use Rattle.strm_links.specs.ChainLists.{IsLawful, ChainLists}
use Rattle.strm_mblk.specs.BlockCalls.{linkb}
use Rattle.strm_mblk.specs.Messages.{chains_joined}
use Rattle.strm_mblk.proofs.Lists.{count_by-map, count_same}
use Rattle.strm_mblk.proofs.layout.StoredArena.{blocks_in-seen, nodes_in, message_at-seen}
use Rattle.std.proofs.lemmas.Grind.{common_steps}

-- ==== blocks of held messages are put into other held messages: what a contract sees, and what stays

-- ---- only held messages change

module _ {id : ℕ} {s : CountedStore} {fields : List Fields} {v w : ChainLists} (filled : IsFilled s fields v (arena_of id s.store fields v))
    (free : w.free ≡ v.free) (many : length w.held ≡ length v.held) (parted : IsLawful w) where
  -- the messages have the same numbers
  same_nodes : (n : ℕ) → times n (nodes_in w) ≡ times n (nodes_in v)
  same_nodes n =
      omega (
        arith,
        filled.parted.parts.once n,
        parted.parts.once n,
        ap {B = ℕ} (λ l. if nat_lt n l then 1 else 0) many,
        times-append n v.free (nodes_in v),
        times-append n w.free (nodes_in w),
        ap (times n) free,
      )

  same_names : (d : ℕ) → references_to (arena_of id s.store fields w) d ≡ references_to (arena_of id s.store fields v) d
  same_names d =
      ap (count_by (uses_data d)) (blocks_in-seen id s.store fields w) ∙ count_by-map (uses_data d) (block_at fields) (nodes_in w)
      ∙ count_same (λ n. uses_data d (block_at fields n)) (nodes_in w) (nodes_in v) same_nodes
      ∙ sym (count_by-map (uses_data d) (block_at fields) (nodes_in v)) ∙ ap (count_by (uses_data d)) (sym (blocks_in-seen id s.store fields v))

  -- so nothing else does
  pub moved_filled : IsFilled s fields w (arena_of id s.store fields w)
  moved_filled = record {
    kept = filled.kept;
    parted = parted;
    few = omega (arith, filled.few, many);
    listed = filled.listed ∙ sym many;
    placed = filled.placed;
    counts = λ d. filled.counts d ∙ sym (same_names d);
  }

-- ==== `linkb`: a held message goes after another

-- a is what was there; the other lists are what is there once the message at g is after the one at h
pub record IsJoined (a : Arena) (s : CountedStore) (fields : List Fields) (w : ChainLists) (id h g : ℕ) : Type 0 where
  pub filled : IsFilled s fields w (arena_of id s.store fields w)
  pub shelved : shelved_blocks (arena_of id s.store fields w) ≡ shelved_blocks a
  pub after : arena_of id s.store fields w ≡ linkb h g a

module _ {id : ℕ} {s : CountedStore} {fields : List Fields} {v w : ChainLists} (filled : IsFilled s fields v (arena_of id s.store fields v)) (h g : ℕ) (other : h ≢ g)
    (w_is : w ≡ record v { held = chains_joined h g v.held }) (parted : IsLawful w) where
  abbrev old : Arena
  old = arena_of id s.store fields v

  joined-seen : map (option_map (message_of fields)) (chains_joined h g v.held) ≡ chains_joined h g old.held
  joined-seen = grind (arith, common_steps, map-set, map-append, message_at-seen)

  shows : arena_of id s.store fields w ≡ record old { held = chains_joined h g old.held }
  shows = grind (arith, common_steps, joined-seen)

  many : length w.held ≡ length v.held
  many = ap (λ (l : ChainLists). length l.held) w_is ∙ length-set (slice_set v.held g None) h _ ∙ length-set v.held g None

  pub joins : IsJoined old s fields w id h g
  joins = record {
    filled = moved_filled filled (ap (λ (l : ChainLists). l.free) w_is) many parted;
    shelved = ap shelved_blocks shows;
    after = shows ∙ ap (λ (b : Bool). if b then old else record old { held = chains_joined h g old.held }) (sym (ne_eqb h g other));
  }
