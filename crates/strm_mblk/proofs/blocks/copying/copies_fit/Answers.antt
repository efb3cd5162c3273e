use Rattle.std.proofs.Common.{◌≡◌, ℕ, zero, suc, ◌+◌, ◌-◌, ◌<◌, ap, refl, sym, ◌∙◌, subst, arith, true, List, Err, Option, Some, length, length-set, [], ◌∷◌, map, set, get_or}
use Rattle.std.specs.Prelude.{drop, option_map, slice_get, take}
use Rattle.std.proofs.lemmas.List.{length-take}
use Rattle.std.proofs.lemmas.List.Sums.{AllPass-from_list_all}
use Rattle.std.proofs.lemmas.Option.{get_or_from_slice_get, slice_get_within, slice_get-map}
use Rattle.strm_data.specs.Classes.{fits_a_class}
use Rattle.strm_data.specs.CountedStore.{CountedStore}
use Rattle.strm_data.specs.DataStore.{DataStore, capacity_of}
use Rattle.strm_data.specs.declared.refusal.Refusal.TheVariants.{NoData}
use Rattle.strm_mblk.specs.BlockCalls.{blocks_copied, copied_from, fits_classes}
use Rattle.strm_mblk.specs.Block.{Block}
use Rattle.strm_mblk.specs.declared.blocks.Fields.{Fields}
use Rattle.strm_mblk.specs.BlocksLayout.{IsPlaced, block_at, fields_at, message_of}
use Rattle.strm_mblk.specs.Copying.{IsLeft, lent_store}
use Rattle.strm_links.specs.ChainLists.{IsLawful, ChainLists, nodes_at}
use Rattle.strm_mblk.proofs.Lists.{slice_get-take}
use Rattle.strm_mblk.proofs.making.CopiesCounted.{IsAhead, block_there, IsInside, enough_left, next_ahead, next_block, none_ahead}
use Rattle.strm_mblk.proofs.blocks.copying.copies_fit.Goals.{After-class_left}
use Rattle.strm_mblk.proofs.blocks.copying.copies_fit.Goals as goal
use Rattle.std.proofs.lemmas.Grind.{common_steps}

-- ---- the largest class has as many data blocks free

lengths : (fs : List (List ℕ)) (c : ℕ) → get_or (map length fs) c 0 ≡ length (get_or fs c [])
lengths [] c = refl
lengths (f ∷ fs) zero = refl
lengths (f ∷ fs) (suc c) = lengths fs c

-- the places of the blocks lie in their data blocks, and a class fits each
module _ (fields : List Fields) {v : ChainLists} (s to : DataStore) (h count : ℕ) (parted : IsLawful v) (listed : length fields ≡ length v.held) (placed : (n : ℕ) → n < length fields → IsPlaced s (fields_at fields n))
    (classed : fits_classes s (take count (message_of fields (nodes_at v h))) to ≡ true) where
  pub each_inside : (k : ℕ) (b : Block) → slice_get (take count (message_of fields (nodes_at v h))) k ≡ Some b → IsInside s b × (fits_a_class (capacity_of s b.data_number) to.classes ≡ true)
  each_inside k b at =
      let bs = take count (message_of fields (nodes_at v h)) in
      let of = block_there fields parted listed h count k at in
      let there = placed of.0 of.1 in (
        subst (IsInside s) of.2 (there.there, there.within),
        ap (λ (x : Block). fits_a_class (capacity_of s x.data_number) to.classes) (sym (get_or_from_slice_get bs k b b at))
            ∙ AllPass-from_list_all (λ (x : Block). fits_a_class (capacity_of s x.data_number) to.classes) bs classed k b (slice_get_within bs k b at),
      )

pub returns-then-free_in_largest-count-clause-fit : goal.returns-then-free_in_largest-count-clause-fit
returns-then-free_in_largest-count-clause-fit c =
    let o = lent_store c.args.other in
    let bs = take c.args.count (message_of c.args.chains.now.loads (nodes_at c.args.chains.now.lists c.args.head)) in
    sym (enough_left o bs (map length c.args.stored.now.store.free) c.requires.kept (lengths c.args.stored.now.store.free)
    (each_inside c.args.chains.now.loads (copied_from o c.args.stored.now.store) c.args.stored.now.store c.args.head c.args.count c.requires.parted c.requires.listed c.requires.placed c.requires.classed)
    (omega (arith, length-take c.args.count (message_of c.args.chains.now.loads (nodes_at c.args.chains.now.lists c.args.head)), c.free_in_largest.ensures, c.if-free_in_largest-count.true, lengths c.args.stored.now.store.free (length c.args.stored.now.store.classes - 1))))

-- ---- a class for each

module _ (c : After-class_left) where
  abbrev ns : List ℕ
  ns = nodes_at c.args.chains.now.lists c.args.head

  abbrev bs : List Block
  bs = take c.args.count (message_of c.args.chains.now.loads ns)

  abbrev o : Option DataStore
  o = lent_store c.args.other

  -- the store with the data blocks that are copied
  abbrev from : DataStore
  from = copied_from o c.args.stored.now.store

  abbrev b : Block
  b = block_at c.args.chains.now.loads c.loop-block.node

  at : slice_get (nodes_at c.args.chains.now.lists c.args.head) c.loop-block._block ≡ Some c.loop-block.node
  at = c.loop-block.invariant.at.here (omega (arith, c.loop-block-test.true, c.requires.count))

  -- the block of this step, and those after it
  next : drop c.loop-block._block bs ≡ b ∷ drop (c.loop-block._block + 1) bs
  next = next_block c.args.chains.now.loads (nodes_at c.args.chains.now.lists c.args.head) c.args.count c.loop-block._block c.loop-block-test.true at

  here : IsInside from b × (fits_a_class (capacity_of from b.data_number) c.args.stored.now.store.classes ≡ true)
  here =
      each_inside c.args.chains.now.loads from c.args.stored.now.store c.args.head c.args.count c.requires.parted c.requires.listed c.requires.placed c.requires.classed c.loop-block._block b
      (slice_get-take c.args.count c.loop-block._block (message_of c.args.chains.now.loads ns) c.loop-block-test.true ∙ slice_get-map (block_at c.args.chains.now.loads) ns c.loop-block._block ∙ ap (option_map (block_at c.args.chains.now.loads)) at)

  -- the size that the class was looked up for
  size_is : c.cap-size.result ≡ capacity_of from b.data_number
  size_is = grind (arith, common_steps)

  -- no class serves
  refused : ((k : ℕ) → IsLeft c.cap-size.result c.args.stored.now.store.classes c.loop-block.left k → ⊥) → blocks_copied o bs c.args.stored.now.store ≡ Err NoData
  refused none =
      none_ahead c.loop-block.invariant.ahead.1 b next here.0 here.1
      (λ k is. none k (subst (λ n. IsLeft n c.args.stored.now.store.classes c.loop-block.left k) (sym size_is) is))

pub returns-in_default-clause-fit : goal.returns-in_default-clause-fit
returns-in_default-clause-fit c = grind (arith, common_steps, refused)

pub returns-in_default-clause-refused : goal.returns-in_default-clause-refused
returns-in_default-clause-refused c _ =
    refused (goal.at.returns-in_default-clause-refused c).After-class_left (λ k. c.in_default.ensures.first k tt)

pub loop-block-preserved : goal.loop-block-preserved
loop-block-preserved c =
    record {
      at = c.onward-node.ensures c.args.head c.loop-block._block c.loop-block.invariant.at;
      len = length-set c.loop-block.left c.from.result _ ∙ c.loop-block.invariant.len;
      ahead =
          subst (λ j. (t : CountedStore) × IsAhead (o before) (bs before) (c.loop-block._block + 1) c.args.stored.now t (set c.loop-block.left j (get_or c.loop-block.left j 0 - 1))) (sym c.from.ensures)
          (next_ahead c.loop-block.invariant.ahead.1 (b before) (next before) (here before).0 (here before).1
          c.in-Some.class (sized c.in-Some.class c.in-Some.ensures.found)
          (λ k below is. c.in-Some.ensures.first k below (subst (λ n. IsLeft n c.args.stored.now.store.classes c.loop-block.left k) (sym (size_is before)) is)));
    }
  where
    before : After-class_left
    before = (goal.at.loop-block-preserved c).After-class_left

    sized : (k : ℕ) → IsLeft c.cap-size.result c.args.stored.now.store.classes c.loop-block.left k → IsLeft (capacity_of (from before) (b before).data_number) c.args.stored.now.store.classes c.loop-block.left k
    sized k = subst (λ n. IsLeft n c.args.stored.now.store.classes c.loop-block.left k) (size_is before)
