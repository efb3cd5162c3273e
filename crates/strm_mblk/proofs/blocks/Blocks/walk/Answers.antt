use Rattle.std.proofs.Common.{◌≡◌, ◌+◌, ◌<◌, ◌++◌, Some, length, take, drop, refl, sym, ap, ◌∙◌, subst, set, arith}
use Rattle.std.specs.Prelude.{option_map, slice_get, unwrap_or}
use Rattle.std.proofs.lemmas.Option.{slice_get-map}
use Rattle.strm_mblk.specs.Arena.{Arena, message_at}
use Rattle.strm_mblk.specs.BlockCalls.{info_of}
use Rattle.strm_mblk.specs.BlocksLayout.{IsPlaced, block_of, fields_at, IsReached}
use Rattle.strm_mblk.specs.InPlace.{infos_from}
use Rattle.strm_links.specs.ChainLists.{nodes_at}
use Rattle.strm_mblk.proofs.layout.HeldBlocks.{IsAt, block_reached, starts_at}
use Rattle.strm_mblk.proofs.Lists.{filled_more, got_behind}
use Rattle.strm_mblk.proofs.blocks.Blocks.walk.Goals.{In-loop-done, After-fields_at}
use Rattle.strm_mblk.proofs.blocks.Blocks.walk.Goals as goal

pub loop-done-init : goal.loop-done-init
loop-done-init c =
    let start : c.args.from ≡ c.args.from + 0 = omega arith in
    record {
      at =
          subst (λ k. IsReached c.self.inside.chains.lists c.args.token.now.head k c.unwrap_or-node.result) start
          (starts_at c.self.invariant.filled c.self.view_is c.args.token.now.head c.args.from
          c.args.token.now refl c.requires 4294967295
          (c.unwrap_or-node.ensures ∙ ap (λ o. unwrap_or o 4294967295) (c.node_at.ensures.value ∙ ap (λ h. slice_get (nodes_at c.self.inside.chains.lists h) c.args.from) c.head.ensures)));
      told = refl;
    }

module _ (c : In-loop-done) where
  few : c.args.from + c.loop-done.done < c.args.token.now.blocks
  few = omega (arith, c.loop-done-test.true, c.min-count.ensures, c.saturating_sub.ensures, c.blocks-2.ensures)

  -- the block at this step
  is_at : IsAt c.self.inside.data c.self.inside.chains.loads c.self.inside.chains.lists c.args.self.now c.args.token.now.head (c.args.from + c.loop-done.done) c.loop-done.node (nodes_at c.self.inside.chains.lists c.args.token.now.head)
  is_at =
      block_reached c.self.invariant.filled c.self.view_is c.args.token.now.head (c.args.from + c.loop-done.done)
      c.args.token.now refl c.requires c.loop-done.invariant.at few

pub fields_at-requires : goal.fields_at-requires
fields_at-requires c = omega (arith, (is_at c).there)

read : (c : After-fields_at) → c.loop-done.node < length c.self.inside.chains.loads → c.fields_at.result ≡ fields_at c.self.inside.chains.loads c.loop-done.node
read c there = c.fields_at.ensures

pub info-requires : goal.info-requires
info-requires c =
    let at = is_at (goal.at.info-requires c).In-loop-done in
    subst (IsPlaced c.args.self.now.store) (sym (read (goal.at.info-requires c).After-fields_at at.there))
    (subst (λ (a : Arena). IsPlaced a.store (fields_at c.self.inside.chains.loads c.loop-done.node)) c.self.view_is at.placed)

pub onward-node-requires : goal.onward-node-requires
onward-node-requires c = omega (arith, (is_at (goal.at.onward-node-requires c).In-loop-done).there, c.self.invariant.filled.listed)

pub loop-done-preserved : goal.loop-done-preserved
loop-done-preserved c =
    let here = is_at (goal.at.loop-done-preserved c).In-loop-done in
    let a = c.args.self.now in
    let d = c.loop-done.done in
    let m = message_at a c.args.token.now.head in
    let next : c.args.from + d + 1 ≡ c.args.from + (d + 1) = omega arith in
    let told : slice_get (infos_from c.args.token.now.head c.args.from a) d ≡ Some c.info.result =
    slice_get-map (info_of a) (drop c.args.from m) d
    ∙ ap (option_map (info_of a)) (got_behind m c.args.from d ∙ here.block)
    ∙ ap Some (ap (λ f. info_of a (block_of c.loop-done.node f)) (sym (read (goal.at.loop-done-preserved c).After-fields_at here.there)) ∙ sym (c.info.ensures c.loop-done.node)) in
    record {
      at = subst (λ k. IsReached c.self.inside.chains.lists c.args.token.now.head k c.onward-node.result) next (c.onward-node.ensures c.args.token.now.head (c.args.from + d) c.loop-done.invariant.at);
      told =
          ap (λ xs. set xs d c.info.result) c.loop-done.invariant.told
          ∙ filled_more (infos_from c.args.token.now.head c.args.from a) c.args.into.now d c.info.result told (omega (arith, c.loop-done-test.true, c.min-count.ensures));
    }

pub returns-clause-infos : goal.returns-clause-infos
returns-clause-infos c =
    let all : c.loop-done.done ≡ c.min-count.result = omega (arith, c.loop-done-test.false, c.loop-done.auto.done-end) in
    c.loop-done.invariant.told ∙ ap (λ n. take n (infos_from c.args.token.now.head c.args.from c.args.self.now) ++ drop n c.args.into.now) all
