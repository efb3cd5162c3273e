use Rattle.std.proofs.Common.{◌≡◌, ℕ, Option, None, Some, refl, sym, ap, ◌∙◌, arith}
use Rattle.std.specs.Prelude.{is_some}
use Rattle.strm_mblk.specs.Shelves.{shelf_of}
use Rattle.strm_mblk.proofs.Shelving.{is_head, shelf_of-seen}
use Rattle.strm_mblk.proofs.blocks.Blocks.shelf_of.Goals as goal

pub shelf_of-requires : goal.shelf_of-requires
shelf_of-requires c = omega (arith, c.if-head-node_count.false, c.node_count.ensures, c.self.invariant.filled.listed)

pub returns-then-head-node_count : goal.returns-then-head-node_count
returns-then-head-node_count c = sym (none (shelf_of c.args.self.now c.args.head) refl)
  where
    none : (o : Option ℕ) → shelf_of c.args.self.now c.args.head ≡ o → o ≡ None
    none None is = refl
    none (Some shelf) is =
        let there = (is_head c.self.invariant.filled c.self.view_is c.args.head (ap is_some is)).there in
        absurd (omega (arith, there, c.if-head-node_count.true, c.node_count.ensures))

pub returns : goal.returns
returns c =
    c.shelf_of.ensures
    ∙ sym (shelf_of-seen c.self.inside.id c.self.inside.data.store c.self.inside.chains.loads c.self.inside.chains.lists c.args.head) ∙ ap (λ a. shelf_of a c.args.head) c.self.view_is
