use Rattle.std.proofs.Common.{◌<◌, length, ap, arith, sym, subst, ◌∙◌}
use Rattle.std.proofs.lemmas.List.{length-drop, length-map}
use Rattle.strm_mblk.specs.Arena.{message_at}
use Rattle.strm_links.specs.ChainLists.{ChainLists, nodes_at, with_behind_freed}
use Rattle.strm_mblk.specs.Pulling.{with_bytes_drained}
use Rattle.strm_mblk.proofs.Freeing.{IsFreed, enough}
use Rattle.strm_mblk.proofs.layout.HeldBlocks.{IsHeldHead, seen_head, node_room}
use Rattle.strm_mblk.proofs.Nodes.{begins_with}
use Rattle.strm_mblk.proofs.Lists.{nonempty}
use Rattle.strm_mblk.proofs.pulling.Taken.{AreTaken, used_few}
use Rattle.strm_mblk.proofs.pulling.Drained.{drains}
use Rattle.strm_mblk.proofs.Trimming.{ends_small}
use Rattle.strm_mblk.proofs.layout.StoredArena.{still_whole}
use Rattle.strm_mblk.proofs.blocks.Blocks.drain.Goals.{After-self, After-free_behind, After-take_bytes-used}
use Rattle.strm_mblk.proofs.blocks.Blocks.drain.Goals as goal
use Rattle.std.proofs.lemmas.Grind.{common_steps}

head : (c : After-self) → IsHeldHead c.self.inside.chains.loads c.self.inside.chains.lists c.args.head
head c = seen_head c.self.invariant.filled c.args.head c.self.view_is c.requires

pub take_bytes-used-requires-clause-within : goal.take_bytes-used-requires-clause-within
take_bytes-used-requires-clause-within c i n at =
    let i' = c.self.inside in
    omega (
      arith,
      node_room c.self.invariant.filled c.args.head i (head (goal.at.take_bytes-used-requires-clause-within c).After-self).held at,
    )

pub take_bytes-used-requires-clause-small : goal.take_bytes-used-requires-clause-small
take_bytes-used-requires-clause-small c =
    (ends_small c.self.invariant.filled)

pub take_bytes-used-requires-clause-named : goal.take_bytes-used-requires-clause-named
take_bytes-used-requires-clause-named c =
    (enough c.self.inside.id c.self.inside.data c.self.inside.chains.loads c.self.inside.chains.lists c.self.invariant.filled c.args.head (head (goal.at.take_bytes-used-requires-clause-named c).After-self).held)

-- fewer blocks are used up than the message has
fewer : (c : After-take_bytes-used) → c.take_bytes-used.result < length (nodes_at c.self.inside.chains.lists c.args.head)
fewer c = grind (arith, common_steps, head, used_few, length-map, length-drop, nonempty, begins_with)

pub free_behind-requires : goal.free_behind-requires
free_behind-requires c =
    subst (λ (v : ChainLists). c.take_bytes-used.result < length (nodes_at v c.args.head)) (sym c.take_bytes-used.ensures.lists) (fewer (goal.at.free_behind-requires c).After-take_bytes-used)

taken : (c : After-take_bytes-used) → AreTaken c.self.inside.chains.loads (nodes_at c.self.inside.chains.lists c.args.head) c.args.count c.self.inside.data c.take_bytes-used.result c.take_bytes-used.new.chains.loads c.take_bytes-used.new.stored
taken c = grind (arith, common_steps, head)

is_freed : (c : After-free_behind) → IsHeldHead c.self.inside.chains.loads c.self.inside.chains.lists c.args.head
    → AreTaken c.self.inside.chains.loads (nodes_at c.self.inside.chains.lists c.args.head) c.args.count c.self.inside.data c.take_bytes-used.result c.take_bytes-used.new.chains.loads c.take_bytes-used.new.stored
    → IsFreed c.args.self.now (with_bytes_drained c.args.head c.args.count (message_at c.args.self.now c.args.head) c.args.self.now) c.take_bytes-used.new.stored c.free_behind.new.self.loads c.free_behind.new.self.lists c.self.inside.id
is_freed c is taken =
    let i = c.self.inside in
    subst (λ a. IsFreed a (with_bytes_drained c.args.head c.args.count (message_at a c.args.head) a) c.take_bytes-used.new.stored c.free_behind.new.self.loads c.free_behind.new.self.lists i.id) c.self.view_is
    (drains c.self.invariant.filled c.args.head is.held c.args.count c.take_bytes-used.result
    (subst (λ fields. AreTaken i.chains.loads (nodes_at i.chains.lists c.args.head) c.args.count i.data c.take_bytes-used.result fields c.take_bytes-used.new.stored) (sym c.free_behind.ensures.loads) taken)
    c.take_bytes-used.ensures.kept (c.free_behind.ensures.after ∙ ap (λ v. with_behind_freed c.args.head c.take_bytes-used.result (nodes_at v c.args.head) v) c.take_bytes-used.ensures.lists) c.free_behind.ensures.parted)

pub invariant_of-self : goal.invariant_of-self
invariant_of-self c = grind (arith, common_steps, is_freed, head, taken, still_whole)

pub returns : goal.returns
returns c = grind (arith, common_steps, is_freed, head, taken)
