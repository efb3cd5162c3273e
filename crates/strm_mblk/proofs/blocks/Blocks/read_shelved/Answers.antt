use Rattle.std.proofs.Common.{◌≡◌, ◌-◌, ◌++◌, length, min, take, drop, ap, sym, ◌∙◌, arith}
use Rattle.std.specs.Prelude.{slice_get}
use Rattle.strm_links.specs.ChainLists.{chain_of}
use Rattle.strm_mblk.specs.Arena.{Arena}
use Rattle.strm_mblk.specs.Block.{bytes_of, size_of}
use Rattle.strm_mblk.specs.BlocksLayout.{message_of}
use Rattle.strm_mblk.specs.Shelves.{shelved_message}
use Rattle.strm_mblk.proofs.Shelving.{IsHead, is_head}
use Rattle.strm_mblk.proofs.blocks.Blocks.read_shelved.Goals as goal
use Rattle.strm_mblk.proofs.blocks.Blocks.read_shelved.Goals.{After-finds_chains}

module _ (c : After-finds_chains) where
  head : IsHead c.self.inside.data c.self.inside.chains.loads c.self.inside.chains.lists c.args.self.now c.args.head
  head = is_head c.self.invariant.filled c.self.view_is c.args.head c.requires

  chain_is : chain_of c.self.inside.chains.lists c.args.head ≡ head.nodes
  chain_is = c.finds_chains.ensures.shelved head.shelf head.place c.args.head (ap (λ ns. slice_get ns 0) head.at ∙ head.begins) ∙ head.at

  -- the message that is read
  message_is : message_of c.self.inside.chains.loads (chain_of c.self.inside.chains.lists c.args.head) ≡ shelved_message c.args.self.now c.args.head
  message_is = (λ i. message_of c.self.inside.chains.loads (chain_is i)) ∙ sym head.message

pub read_bytes-requires : goal.read_bytes-requires
read_bytes-requires c =
    let before = (goal.at.read_bytes-requires c).After-finds_chains in
    let filled = c.self.invariant.filled in
    record {
      begins = ap (λ ns. slice_get ns 0) (chain_is before) ∙ (head before).begins;
      there = omega (arith, (head before).there, filled.listed);
      listed = filled.listed;
      placed = filled.placed;
      kept = filled.kept;
    }

pub returns-clause-count : goal.returns-clause-count
returns-clause-count c =
    c.read_bytes.ensures.count ∙ ap (λ m. min (length c.args.into.now) (size_of m - c.args.at)) (message_is (goal.at.returns-clause-count c).After-finds_chains)

pub returns-clause-bytes : goal.returns-clause-bytes
returns-clause-bytes c =
    c.read_bytes.ensures.bytes
    ∙ ap (λ m. take c.read_bytes.result (drop c.args.at (bytes_of c.self.inside.data.store m)) ++ drop c.read_bytes.result c.args.into.now) (message_is (goal.at.returns-clause-bytes c).After-finds_chains)
    ∙ ap (λ (a : Arena). take c.read_bytes.result (drop c.args.at (bytes_of a.store (shelved_message c.args.self.now c.args.head))) ++ drop c.read_bytes.result c.args.into.now) c.self.view_is
