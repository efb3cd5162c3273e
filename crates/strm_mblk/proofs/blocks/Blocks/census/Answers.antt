use Rattle.std.proofs.Common.{◌≡◌, ap, ◌∙◌, ◌-◌, arith, length}
use Rattle.strm_mblk.specs.Arena.{census_of, held_blocks}
use Rattle.strm_mblk.specs.BlocksLayout.{arena_in}
use Rattle.strm_mblk.specs.declared.census.Census.{Census}
use Rattle.strm_mblk.proofs.layout.StoredArena.{all_there}
use Rattle.strm_mblk.proofs.blocks.Blocks.census.Goals as goal

pub overflow_sub-result : goal.overflow_sub-result
overflow_sub-result c =
    omega (arith, c.free_len-free.ensures, c.node_count.ensures, c.self.invariant.filled.listed, all_there c.self.invariant.filled)

pub overflow_sub-result-2 : goal.overflow_sub-result-2
overflow_sub-result-2 c =
    omega (arith, c.free_len-free.ensures, c.node_count.ensures, c.self.invariant.queued, c.self.invariant.filled.listed, all_there c.self.invariant.filled)

pub returns : goal.returns
returns c =
    let all = all_there c.self.invariant.filled in
    let held : c.node_count.result - c.free_len-free.result - c.self.inside.queued ≡ length (held_blocks (arena_in c.self.inside)) = omega (arith, c.free_len-free.ensures, c.node_count.ensures, c.self.invariant.queued, c.self.invariant.filled.listed, all) in
    (λ i. (let census : Census = record { free = c.free_len-free.ensures i; queued = c.self.invariant.queued i; held = held i } in census)) ∙ ap census_of c.self.view_is
