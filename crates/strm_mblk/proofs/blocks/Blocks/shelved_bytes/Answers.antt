use Rattle.std.proofs.Common.{◌≡◌, ℕ, Ok, Option, Some, arith, ap, sym, ◌∙◌}
use Rattle.std.specs.Prelude.{ok_or, option_map, slice_get}
use Rattle.std.proofs.lemmas.Option.{slice_get-map}
use Rattle.strm_data.specs.declared.refusal.Refusal.TheVariants.{NoSuchBlock}
use Rattle.strm_data.specs.DataStore.{bytes_at}
use Rattle.strm_links.specs.ChainLists.{chain_of}
use Rattle.strm_mblk.specs.declared.blocks.Fields.{Fields}
use Rattle.strm_mblk.specs.Arena.{Arena}
use Rattle.strm_mblk.specs.Block.{bytes_of_block}
use Rattle.strm_mblk.specs.BlocksLayout.{block_at}
use Rattle.strm_mblk.specs.Given.{answer_map}
use Rattle.strm_mblk.specs.Shelves.{shelved_message}
use Rattle.strm_mblk.proofs.Shelving.{IsHead, is_head}
use Rattle.strm_mblk.proofs.blocks.Blocks.shelved_bytes.Goals.{After-finds_chains, After-node_of}
use Rattle.strm_mblk.proofs.blocks.Blocks.shelved_bytes.Goals as goal

module _ (c : After-finds_chains) where
  head : IsHead c.self.inside.data c.self.inside.chains.loads c.self.inside.chains.lists c.args.self.now c.args.head
  head = is_head c.self.invariant.filled c.self.view_is c.args.head c.requires

  chain_is : chain_of c.self.inside.chains.lists c.args.head ≡ head.nodes
  chain_is = c.finds_chains.ensures.shelved head.shelf head.place c.args.head (ap (λ ns. slice_get ns 0) head.at ∙ head.begins) ∙ head.at

  -- the block that the walk found
  block : {o : Option ℕ} → o ≡ slice_get (chain_of c.self.inside.chains.lists c.args.head) c.args.place
      → slice_get (shelved_message c.args.self.now c.args.head) c.args.place ≡ option_map (block_at c.self.inside.chains.loads) o
  block is =
      ap (λ m. slice_get m c.args.place) head.message ∙ slice_get-map (block_at c.self.inside.chains.loads) head.nodes c.args.place
      ∙ ap (option_map (block_at c.self.inside.chains.loads)) (ap (λ ns. slice_get ns c.args.place) (sym chain_is) ∙ sym is)

pub node_of-requires-clause-begins : goal.node_of-requires-clause-begins
node_of-requires-clause-begins c = ap (λ ns. slice_get ns 0) (chain_is c) ∙ (head c).begins

pub node_of-requires-clause-there : goal.node_of-requires-clause-there
node_of-requires-clause-there c = omega (arith, (head c).there, c.self.invariant.filled.listed)

pub returns-in_default : goal.returns-in_default
returns-in_default c =
    let a = c.args.self.now in
    ap (λ o. answer_map (bytes_of_block a.store) (ok_or o NoSuchBlock)) (sym (block (goal.at.returns-in_default c).After-finds_chains (sym c.in_default.is ∙ c.node_of.ensures.value)))

pub returns : goal.returns
returns c =
    let a = c.args.self.now in
    let fields = c.self.inside.chains.loads in
    let node = c.in-Some.node in
    let is = head (goal.at.returns c).After-finds_chains in
    let at : slice_get (chain_of c.self.inside.chains.lists c.args.head) c.args.place ≡ Some node = sym c.node_of.ensures.value ∙ c.in-Some.is in
    let read = c.fields_at-fields.ensures in
    ap Ok
    (c.bytes.ensures
    ∙ ap (λ (f : Fields). bytes_at f.data_number f.offset f.len c.self.inside.data.store) read
    ∙ ap (λ (x : Arena). bytes_of_block x.store (block_at fields node)) c.self.view_is)
    ∙ ap (λ o. answer_map (bytes_of_block a.store) (ok_or o NoSuchBlock)) (sym (block (goal.at.returns c).After-finds_chains (sym at)))
