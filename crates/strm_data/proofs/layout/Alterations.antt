-- A data block that is altered in memory: what a contract sees then, and that all is laid out as before.
use Rattle.std.proofs.Common.{◌≡◌, ◌≢◌, ℕ, ◌+◌, ◌-◌, List, [], ◌∷◌, length, get_or, set, map, Some, refl, sym, ap, ◌∙◌, arith, length-set}
use Rattle.std.specs.Prelude.{slice_get}
use Rattle.std.proofs.lemmas.Bool.{cond-true, cond-false, eq-eqb, ne_eqb}
use Rattle.std.proofs.lemmas.List.{map-set, set-get_or}
use Rattle.std.proofs.Math.Seq.{map-set_same}
use Rattle.strm_links.specs.LoadedRows.{LoadedRows}
use Rattle.strm_links.specs.Rows.{Rows}
use Rattle.strm_data.specs.declared.data.Data.TheInside.{Inside}
use Rattle.strm_data.specs.declared.data.DataBlock.{DataBlock}
use Rattle.strm_data.specs.declared.msg_type.MsgType.{MsgType}
use Rattle.strm_data.specs.CountedStore.{CountedStore, IsKept, count_of, with_reference, without_reference}
use Rattle.strm_data.specs.DataLayout.{Room, bytes_in, extent_of, no_block, seen_in, store_of_parts, store_of, IsPlaced, IsSound}
use Rattle.strm_data.specs.DataStore as store
use Rattle.strm_data.specs.DataStore.{IsLeast, class_of, data_block_at, with_data_freed, with_kind}
use Rattle.strm_data.proofs.layout.Seen.{block_is, count_is, seen_is}

-- b is data block d
module _ (a : Inside) (v : CountedStore) (view : store_of a ≡ v) (d : ℕ) (b : DataBlock) (read : slice_get a.blocks.loads d ≡ Some b) where
  kind_is : (data_block_at v.store d).kind ≡ b.kind
  kind_is = ap (λ (x : store.DataBlock). x.kind) (seen_is a v view d b read)

  -- another with the same extent takes its place, and the free lists may be others
  module _ (new : DataBlock) (extent : extent_of new ≡ extent_of b) (now : LoadedRows DataBlock) (loads : now.loads ≡ set a.blocks.loads d new) where
    seen_new : seen_in a.bytes.items new ≡ record (data_block_at v.store d) { kind = new.kind }
    seen_new =
        (λ i. record { class = (extent i).class; kind = new.kind; bytes = bytes_in a.bytes.items (extent i) })
        ∙ ap (λ (x : store.DataBlock). record x { kind = new.kind }) (sym (seen_is a v view d b read))

    blocks_are : map (seen_in a.bytes.items) now.loads ≡ set (store_of a).store.blocks d (record (data_block_at v.store d) { kind = new.kind })
    blocks_are = ap (map (seen_in a.bytes.items)) loads ∙ map-set (seen_in a.bytes.items) a.blocks.loads d new ∙ ap (set (store_of a).store.blocks d) seen_new

    counts_are : map (λ (x : DataBlock). x.references) now.loads ≡ set (store_of a).counts d new.references
    counts_are = ap (map (λ (x : DataBlock). x.references)) loads ∙ map-set (λ (x : DataBlock). x.references) a.blocks.loads d new

    pub altered : store_of_parts a.classes.items a.bytes.items now.loads now.rows.lists
        ≡ record { store = record v.store { blocks = set v.store.blocks d (record (data_block_at v.store d) { kind = new.kind }); free = now.rows.lists }; counts = set v.counts d new.references }
    altered =
        (λ i. record { store = record (store_of a).store { blocks = blocks_are i; free = now.rows.lists }; counts = counts_are i })
        ∙ ap (λ (s : CountedStore). record { store = record s.store { blocks = set s.store.blocks d (record (data_block_at v.store d) { kind = new.kind }); free = now.rows.lists }; counts = set s.counts d new.references }) view

    -- one of the same type
    recounted : new.kind ≡ b.kind → store_of_parts a.classes.items a.bytes.items now.loads now.rows.lists ≡ record { store = record v.store { free = now.rows.lists }; counts = set v.counts d new.references }
    recounted kind =
        let same = ap (λ k. set v.store.blocks d (record (data_block_at v.store d) { kind = k })) (kind ∙ sym kind_is) ∙ set-get_or v.store.blocks d store.no_data_block in
        altered ∙ ap (λ bs. record { store = record v.store { blocks = bs; free = now.rows.lists }; counts = set v.counts d new.references }) same

    pub placed_still : (rooms : List Room) → IsPlaced rooms a.bytes.items a.blocks.loads → IsPlaced rooms a.bytes.items now.loads
    placed_still rooms placed = record {
      fit = placed.fit;
      laid = ap (map extent_of) loads ∙ map-set_same extent_of a.blocks.loads d new no_block (extent ∙ ap extent_of (sym (block_is a v view d b read))) ∙ placed.laid;
    }

    pub IsSound-altered : IsSound a → now.rows.nodes ≡ a.blocks.rows.nodes → IsKept (store_of_parts a.classes.items a.bytes.items now.loads now.rows.lists)
        → IsLeast (store_of_parts a.classes.items a.bytes.items now.loads now.rows.lists).store → IsSound (record a { blocks = now })
    IsSound-altered sound nodes kept least = record {
      kept = kept;
      placed = placed_still _ sound.placed;
      least = least;
      nodes = omega (arith, nodes, sound.nodes, ap length loads, length-set a.blocks.loads d new);
    }

  free_is : a.blocks.rows.lists ≡ v.store.free
  free_is = ap (λ (s : CountedStore). s.store.free) view

  module _ (now : LoadedRows DataBlock) where
    -- it has a reference more
    pub named : now.rows ≡ a.blocks.rows → now.loads ≡ set a.blocks.loads d (record b { references = b.references + 1 }) → store_of_parts a.classes.items a.bytes.items now.loads now.rows.lists ≡ with_reference d v
    named rows loads =
        recounted (record b { references = b.references + 1 }) refl now loads refl
        ∙ (λ i. record { store = record v.store { free = (ap (λ (r : Rows). r.lists) rows ∙ free_is) i }; counts = set v.counts d (count_is a v view d b read i + 1) })

    -- it is of another type
    pub retyped : (kind : MsgType) → now.rows ≡ a.blocks.rows → now.loads ≡ set a.blocks.loads d (record b { kind = kind })
        → store_of_parts a.classes.items a.bytes.items now.loads now.rows.lists ≡ record v { store = with_kind d kind v.store }
    retyped kind rows loads =
        altered (record b { kind = kind }) refl now loads
        ∙ (λ i. record {
          store = record v.store { blocks = set v.store.blocks d (record (data_block_at v.store d) { kind = kind }); free = (ap (λ (r : Rows). r.lists) rows ∙ free_is) i };
          counts = (ap (set v.counts d) (count_is a v view d b read) ∙ set-get_or v.counts d 0) i;
        })

    module _ (loads : now.loads ≡ set a.blocks.loads d (record b { references = b.references - 1 })) where
      lower : (lists : List (List ℕ)) → now.rows.lists ≡ lists → store_of_parts a.classes.items a.bytes.items now.loads now.rows.lists
          ≡ record { store = record v.store { free = lists }; counts = set v.counts d (count_of v d - 1) }
      lower lists is =
          recounted (record b { references = b.references - 1 }) refl now loads refl
          ∙ (λ i. record { store = record v.store { free = is i }; counts = set v.counts d (count_is a v view d b read i - 1) })

      -- it has a reference less, and others are left
      pub lowered : now.rows ≡ a.blocks.rows → b.references ≢ 1 → store_of_parts a.classes.items a.bytes.items now.loads now.rows.lists ≡ without_reference d v
      lowered rows more =
          lower v.store.free (ap (λ (r : Rows). r.lists) rows ∙ free_is)
          ∙ ap (λ st. record { store = st; counts = set v.counts d (count_of v d - 1) })
          (sym (cond-false _ (with_data_freed d v.store) v.store (ne_eqb (count_of v d) 1 (λ one. more (count_is a v view d b read ∙ one)))))

      -- its last reference is gone, and it is at the front of its free list
      pub released : b.references ≡ 1 → now.rows.lists ≡ set a.blocks.rows.lists b.class (d ∷ get_or a.blocks.rows.lists b.class []) → store_of_parts a.classes.items a.bytes.items now.loads now.rows.lists ≡ without_reference d v
      released last pushed =
          let class : b.class ≡ class_of v.store d = sym (ap (λ (x : store.DataBlock). x.class) (seen_is a v view d b read)) in
          lower (with_data_freed d v.store).free (pushed ∙ (λ i. set (free_is i) (class i) (d ∷ get_or (free_is i) (class i) [])))
          ∙ ap (λ st. record { store = st; counts = set v.counts d (count_of v d - 1) })
          (sym (cond-true _ (with_data_freed d v.store) v.store (eq-eqb (count_of v d) 1 (sym (count_is a v view d b read) ∙ last))))
