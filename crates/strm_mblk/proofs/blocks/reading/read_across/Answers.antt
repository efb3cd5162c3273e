use Rattle.std.proofs.Common.{◌≡◌, ◌+◌, ◌-◌, ◌<◌, ◌++◌, List, ℕ, [], Some, drop, length, min, take, refl, sym, ap, subst, ◌∙◌, arith}
use Rattle.std.specs.Prelude.{option_map, slice_get, unwrap_or}
use Rattle.std.proofs.Math.Seq.{drop-nil}
use Rattle.std.proofs.lemmas.List.{drop_all, length-drop, length-map, take_rest}
use Rattle.std.proofs.lemmas.Option.{slice_get-get_or, slice_get-map, unwrap_or-slice_get}
use Rattle.strm_links.specs.ChainLists.{chain_of}
use Rattle.strm_mblk.specs.Block.{Message, bytes_of, bytes_of_block}
use Rattle.strm_mblk.specs.BlocksLayout.{IsPlaced, block_at, block_of, fields_at, message_of}
use Rattle.strm_mblk.proofs.Reading.{IsRead, bytes_from, bytes_from_start, length-bytes_of_block, read_all, sized}
use Rattle.strm_mblk.proofs.Lists.{put_rest, below, IsLaid, laid_full, laid_on, laid_start}
use Rattle.strm_mblk.proofs.blocks.reading.read_across.Goals.{In-loop-block, After-loop-block}
use borrow.Rule.Slice.PartMut.{put_mid}
use Rattle.strm_mblk.proofs.blocks.reading.read_across.Goals as goal

pub loop-block-init : goal.loop-block-init
loop-block-init c =
    let store = c.args.stored.now.store in
    let ns = chain_of c.args.chains.now.lists c.args.head in
    let all = drop c.args.at (bytes_of store (message_of c.args.chains.now.loads ns)) in
    let start = c.find_byte-start.ensures in
    record {
      at = λ some. (start.begins, start.there);
      laid =
          subst (λ rest. IsLaid all rest c.args.into.now c.args.into.now 0)
          (bytes_from_start store c.args.chains.now.loads c.requires.placed ns c.find_byte-start.result.block c.find_byte-start.result.at start.before) (laid_start all c.args.into.now);
    }

module _ (c : In-loop-block) where
  abbrev ns : List ℕ
  ns = chain_of c.args.chains.now.lists c.args.head

  abbrev m : Message
  m = message_of c.args.chains.now.loads ns

  at : (slice_get ns c.loop-block._block ≡ Some c.loop-block.node) × (c.loop-block.node < length c.args.chains.now.lists.held)
  at = c.loop-block.invariant.at (omega (arith, c.loop-block-test.true, c.len-block-end.ensures))

  there : c.loop-block.node < length c.args.chains.now.loads
  there = omega (arith, at.1, c.requires.listed)

  placed : IsPlaced c.args.stored.now.store (fields_at c.args.chains.now.loads c.loop-block.node)
  placed = c.requires.placed c.loop-block.node there

  block : slice_get m c.loop-block._block ≡ Some (block_at c.args.chains.now.loads c.loop-block.node)
  block = slice_get-map (block_at c.args.chains.now.loads) ns c.loop-block._block ∙ ap (option_map (block_at c.args.chains.now.loads)) at.0

pub fields_at-fields-requires : goal.fields_at-fields-requires
fields_at-fields-requires c = there (goal.at.fields_at-fields-requires c).In-loop-block

pub read_block-done-requires-clause-placed : goal.read_block-done-requires-clause-placed
read_block-done-requires-clause-placed c = subst (IsPlaced c.args.stored.now.store) (sym c.fields_at-fields.ensures) (placed (goal.at.read_block-done-requires-clause-placed c).In-loop-block)

pub next-requires : goal.next-requires
next-requires c = (at (goal.at.next-requires c).In-loop-block).1

pub loop-block-preserved : goal.loop-block-preserved
loop-block-preserved c =
    let before = (goal.at.loop-block-preserved c).In-loop-block in
    let store = c.args.stored.now.store in
    let k = c.loop-block._block in
    let node = c.loop-block.node in
    let skip = c.loop-block.skip in
    let f = c.fields_at-fields.result in
    let placed = subst (IsPlaced store) (sym c.fields_at-fields.ensures) (placed before) in
    let block = block before ∙ ap (λ g. Some (block_of node g)) (sym c.fields_at-fields.ensures) in
    let all = drop c.args.at (bytes_of store (m before)) in
    let own = drop skip (bytes_of_block store (block_of node f)) in
    let rest = drop (skip - f.len) (bytes_of store (drop (k + 1) (m before))) in
    let now = c.loop-block.into in
    let new = c.read_block-done.new.into in
    let done = c.loop-block.done in
    let count = c.read_block-done.result in
    let room = take_rest now done in
    let laid = subst (λ bs. IsLaid all bs c.args.into.now now done) (bytes_from (m before) k node skip block placed) c.loop-block.invariant.laid in
    let counted : count ≡ min (length (drop done now)) (length own) =
    c.read_block-done.ensures.count
    ∙ (λ i. min (length (room i)) (f.len - skip))
    ∙ ap (min (length (drop done now))) (sym (length-drop skip (bytes_of_block store (block_of node f)) ∙ ap (λ l. l - skip) (length-bytes_of_block node placed))) in
    let copied : new ≡ take count own ++ drop count (drop done now) =
    c.read_block-done.ensures.bytes node ∙ (λ i. take count own ++ drop count (room i)) in
    let on = laid_on own rest laid counted copied in
    record {
      at = λ more.
          let next : c.next.result ≡ slice_get (ns before) (k + 1) = c.next.ensures.value c.args.head k (at before).0 in (
            slice_get-get_or (ns before) (k + 1) 4294967295 more
                ∙ ap Some (sym (c.unwrap_or-node.ensures ∙ ap (λ o. unwrap_or o 4294967295) next ∙ unwrap_or-slice_get (ns before) (k + 1) 4294967295)),
            omega (arith, c.unwrap_or-node.ensures, below 4294967295 _ (next ∙ slice_get-get_or (ns before) (k + 1) 0 more) c.next.ensures.in_range),
          );
      laid =
          subst (λ n. IsLaid all (drop n (bytes_of store (drop (k + 1) (m before)))) c.args.into.now (put_mid done (length now - done) now new) (done + count)) (sym c.saturating_sub-skip.ensures)
          (subst (λ xs. IsLaid all rest c.args.into.now xs (done + count)) (sym (put_rest done now new)) on);
    }

-- once there is no more room all is read
read_full : (c : In-loop-block) → c.loop-block.done ≡ length c.loop-block.into
    → IsRead c.args.stored.now.store (message_of c.args.chains.now.loads (chain_of c.args.chains.now.lists c.args.head)) c.args.at c.args.into.now c.loop-block.into c.loop-block.done
read_full c full =
    let store = c.args.stored.now.store in
    read_all store (m c) (sized store c.args.chains.now.loads c.requires.placed (ns c)) c.args.at refl (laid_full full c.loop-block.invariant.laid)

pub returns-then-done-into-clause-count : goal.returns-then-done-into-clause-count
returns-then-done-into-clause-count c = (read_full (goal.at.returns-then-done-into-clause-count c).In-loop-block c.if-done-into.true).count

pub returns-then-done-into-clause-bytes : goal.returns-then-done-into-clause-bytes
returns-then-done-into-clause-bytes c = (read_full (goal.at.returns-then-done-into-clause-bytes c).In-loop-block c.if-done-into.true).bytes

-- after the last block too
read_after : (c : After-loop-block) → IsRead c.args.stored.now.store (message_of c.args.chains.now.loads (chain_of c.args.chains.now.lists c.args.head)) c.args.at c.args.into.now c.loop-block.into c.loop-block.done
read_after c =
    let ns = chain_of c.args.chains.now.lists c.args.head in
    let m = message_of c.args.chains.now.loads ns in
    let past : drop c.loop-block._block m ≡ [] = drop_all c.loop-block._block m (omega (arith, c.loop-block-test.false, c.len-block-end.ensures, length-map ns (block_at c.args.chains.now.loads))) in
    read_all c.args.stored.now.store m (sized c.args.stored.now.store c.args.chains.now.loads c.requires.placed ns) c.args.at
    (ap (λ bs. drop c.loop-block.skip (bytes_of c.args.stored.now.store bs)) past ∙ drop-nil c.loop-block.skip) c.loop-block.invariant.laid

pub returns-clause-count : goal.returns-clause-count
returns-clause-count c = (read_after c).count

pub returns-clause-bytes : goal.returns-clause-bytes
returns-clause-bytes c = (read_after c).bytes
