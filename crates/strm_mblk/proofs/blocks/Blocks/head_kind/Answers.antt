use Rattle.std.proofs.Common.{◌≡◌, ◌<◌, Some, arith, ap, sym, subst, ◌∙◌, length}
use Rattle.std.specs.Prelude.{option_map}
use Rattle.strm_data.specs.DataStore.{data_block_at}
use Rattle.strm_mblk.specs.declared.blocks.Fields.{Fields}
use Rattle.strm_mblk.specs.Arena.{Arena}
use Rattle.strm_mblk.specs.Block.{kind_of}
use Rattle.strm_mblk.specs.BlocksLayout.{fields_at}
use Rattle.strm_mblk.proofs.Shelving.{IsHead, is_head}
use Rattle.strm_mblk.proofs.blocks.Blocks.head_kind.Goals.{After-fields_at}
use Rattle.strm_mblk.proofs.blocks.Blocks.head_kind.Goals as goal

is : (c : After-fields_at) → IsHead c.self.inside.data c.self.inside.chains.loads c.self.inside.chains.lists c.args.self.now c.args.head
is c = is_head c.self.invariant.filled c.self.view_is c.args.head c.requires

pub fields_at-requires : goal.fields_at-requires
fields_at-requires c =
    omega (arith, (is_head c.self.invariant.filled c.self.view_is c.args.head c.requires).there)

-- what was read is what the block says
read : (c : After-fields_at) → c.fields_at.result ≡ fields_at c.self.inside.chains.loads c.args.head
read c = c.fields_at.ensures

pub kind-requires : goal.kind-requires
kind-requires c = subst (λ (f : Fields). f.data_number < length c.self.inside.data.store.blocks) (sym (read c)) (is c).placed.there

pub returns : goal.returns
returns c =
    let before = (goal.at.returns c).After-fields_at in
    ap (option_map (kind_of c.args.self.now.store)) (is before).block
    ∙ ap Some (sym (
    c.kind.ensures
    ∙ ap (λ (f : Fields). (data_block_at c.self.inside.data.store f.data_number).kind) (read before)
    ∙ ap (λ (a : Arena). (data_block_at a.store (fields_at c.self.inside.chains.loads c.args.head).data_number).kind) c.self.view_is
    ))
