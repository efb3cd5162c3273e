use Rattle.std.proofs.Common.{refl, ◌≡◌, ◌-◌, ◌<◌, ◌^◌, ℕ, length, ap, subst, sym, ◌∙◌, arith, List, w32, true}
use Rattle.std.proofs.lemmas.Grind.{common_steps}
use Rattle.std.specs.Prelude.{drop, unsigned_abs}
use Rattle.std.specs.Int.{is_negative}
use Rattle.std.proofs.lemmas.Int.{to_z-of_z}
use Rattle.strm_mblk.specs.declared.blocks.Fields.{Fields}
use Rattle.strm_data.specs.declared.refusal.Refusal.TheVariants.{Short}
use Rattle.strm_mblk.specs.Block.{size_of}
use Rattle.strm_mblk.specs.BlocksLayout.{message_of}
use Rattle.strm_mblk.specs.Cutting.{IsRun, with_bytes_cut}
use Rattle.strm_links.specs.ChainLists.{nodes_at, ChainLists}
use Rattle.strm_mblk.proofs.layout.HeldBlocks.{block_some}
use Rattle.strm_mblk.proofs.Trimming.{IsAdjusted, ahead, ends_small, run_adjusts}
use Rattle.strm_mblk.proofs.Reading.{nodes_small}
use Rattle.strm_mblk.proofs.arena.Frame.{leaves_adjmsg}
use Rattle.strm_mblk.proofs.arena.Calls.{alters_kept, alters_none}
use Rattle.strm_mblk.proofs.layout.StoredArena.{still_whole}
use Rattle.strm_mblk.proofs.blocks.Blocks.adjmsg.Goals.{After-cut}
use Rattle.strm_mblk.specs.Arena.{Arena, has}
use Rattle.strm_mblk.proofs.blocks.Blocks.adjmsg.Goals as goal

pub run_in-run-requires-clause-small : goal.run_in-run-requires-clause-small
run_in-run-requires-clause-small c =
    let i = c.self.inside in
    subst (λ h. size_of (message_of i.chains.loads (nodes_at i.chains.lists h)) < 2 ^ 32) (sym c.head.ensures)
    (nodes_small c.self.invariant.filled c.self.view_is c.args.token.now c.requires)

pub cut-requires-clause-first : goal.cut-requires-clause-first
cut-requires-clause-first c =
    let i = c.self.inside in
    let run = c.run_in-run.ensures in
    omega (
      arith,
      c.self.invariant.filled.listed,
      (block_some c.self.invariant.filled c.self.view_is c.head.result (length (nodes_at i.chains.lists c.head.result) - c.run_in-run.result.blocks)
          c.args.token.now (sym c.head.ensures) c.requires run.begins).there,
    )

pub cut-requires-clause-tail : goal.cut-requires-clause-tail
cut-requires-clause-tail c = grind (arith, common_steps)

pub cut-requires-clause-small : goal.cut-requires-clause-small
cut-requires-clause-small c =
    ends_small c.self.invariant.filled

module _ (c : After-cut) where
  abbrev nodes : List ℕ
  nodes = nodes_at c.self.inside.chains.lists c.args.token.now.head

  from_tail_is : c.is_negative-from_tail.result ≡ is_negative c.args.count
  from_tail_is = c.is_negative-from_tail.ensures ∙ ap is_negative (to_z-of_z w32 c.args.count c.ranges.count)

  bytes_is : c.unsigned_abs-bytes.result ≡ unsigned_abs c.args.count
  bytes_is = c.unsigned_abs-bytes.ensures.value ∙ ap unsigned_abs (to_z-of_z w32 c.args.count c.ranges.count)

  run : IsRun (is_negative c.args.count) c.self.inside.data.store c.self.inside.chains.loads nodes c.run_in-run.result
  run = grind (arith, common_steps, from_tail_is)

  -- the message blocks as they are now
  now_is : c.cut.new.chains.loads
      ≡ with_bytes_cut (is_negative c.args.count) (ahead (is_negative c.args.count) (unsigned_abs c.args.count) c.run_in-run.result.size) (drop (length nodes - c.run_in-run.result.blocks) nodes) c.self.inside.chains.loads
  now_is = grind (arith, common_steps, run, from_tail_is, ahead, bytes_is)

  is_adjusted : IsAdjusted c.args.self.now c.self.inside.data c.cut.new.chains.loads c.cut.new.chains.lists c.self.inside.id c.args.count c.args.token.now
  is_adjusted =
      let i = c.self.inside in
      subst (λ (p : Arena × (List Fields × ChainLists)). IsAdjusted p.0 i.data p.1.0 p.1.1 i.id c.args.count c.args.token.now) (λ j. (c.self.view_is j, (sym now_is j, sym c.cut.ensures.lists j)))
      (run_adjusts c.self.invariant.filled c.args.token.now (subst (λ a. has a c.args.token.now ≡ true) (sym c.self.view_is) c.requires) c.args.count run
      (omega (arith, c.if-run-bytes.false, bytes_is)))

pub invariant_of-self : goal.invariant_of-self
invariant_of-self c = grind (arith, common_steps, is_adjusted, still_whole)

pub returns-then-run-bytes : goal.returns-then-run-bytes
returns-then-run-bytes c = alters_none c.args.self.now _ c.args.token.now _ Short (grind (arith, common_steps)) refl c.requires

pub returns : goal.returns
returns c =
    let is = is_adjusted (goal.at.returns c).After-cut in
    alters_kept c.args.self.now _ c.args.token.now _ tt is.done is.had (leaves_adjmsg c.args.self.now c.args.token.now.head c.args.count)
