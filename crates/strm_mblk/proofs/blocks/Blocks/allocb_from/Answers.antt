use Rattle.std.proofs.Common.{◌≡◌, ℕ, [], ◌∷◌, None, ap, ◌∙◌, arith, length, subst, sym, set, refl, List}
use Rattle.std.specs.Prelude.{take}
use Rattle.std.proofs.lemmas.List.{length-drop}
use Rattle.strm_links.specs.Rows.{first}
use Rattle.strm_data.specs.CountedStore.{after_take}
use Rattle.strm_mblk.specs.declared.blocks.Supply.{Supply}
use Rattle.strm_mblk.specs.Arena.{Arena}
use Rattle.strm_mblk.specs.Block.{new_block}
use Rattle.strm_mblk.specs.BlockCalls.{IsSupplied, blocks_renumbered}
use Rattle.strm_mblk.specs.BlocksLayout.{arena_of}
use Rattle.strm_mblk.specs.Messages.{blocks_of}
use Rattle.strm_links.specs.ChainLists.{ChainLists}
use Rattle.strm_mblk.proofs.Lists.{first_rest}
use Rattle.strm_mblk.proofs.making.Begun.{IsAllocated, allocates, taken_fits, begin_room}
use Rattle.strm_mblk.proofs.arena.Frame.{leaves_allocb}
use Rattle.strm_mblk.proofs.arena.Calls.{gives}
use Rattle.strm_mblk.proofs.layout.StoredArena.{parted_inside, still_whole}
use Rattle.strm_mblk.proofs.blocks.Blocks.allocb_from.Goals.{After-set_load}
use Rattle.strm_mblk.specs.declared.blocks.Fields.{Fields}
use Rattle.strm_mblk.proofs.blocks.Blocks.allocb_from.Goals as goal

-- the supply is that of the blocks in memory
supplied : {a b : Arena} → a ≡ b → {size : ℕ} {supply : Supply} → IsSupplied size b supply → IsSupplied size a supply
supplied view {size} {supply} is = subst (λ x. IsSupplied size x supply) (sym view) is

pub take_from-data_number-requires-clause-class : goal.take_from-data_number-requires-clause-class
take_from-data_number-requires-clause-class c = (supplied c.self.view_is c.requires.supply).class

pub take_from-data_number-requires-clause-some : goal.take_from-data_number-requires-clause-some
take_from-data_number-requires-clause-some c =
    omega (arith, c.requires.some, (supplied c.self.view_is c.requires.supply).data_blocks)

pub begin_all-head-requires-clause-enough : goal.begin_all-head-requires-clause-enough
begin_all-head-requires-clause-enough c =
    omega (arith, c.requires.some, (supplied c.self.view_is c.requires.supply).message_blocks)

pub set_load-requires : goal.set_load-requires
set_load-requires c =
    omega (arith, ap (λ (fields : List Fields). length fields) c.begin_all-head.ensures.loads, begin_room c.self.inside.id c.self.inside.data c.self.inside.chains.loads c.self.inside.chains.lists c.self.invariant.filled c.begin_all-head.result c.begin_all-head.ensures.answer)

abbrev new_arena : After-set_load → Arena
new_arena c = arena_of c.self.inside.id c.take_from-data_number.new.self.store c.set_load.new.self.loads c.set_load.new.self.lists

is_allocated : (c : After-set_load) → IsAllocated c.args.self.now c.take_from-data_number.new.self c.set_load.new.self.loads c.set_load.new.self.lists c.self.inside.id c.args.size c.begin_all-head.result c.take_from-data_number.result
is_allocated c =
    let n = c.begin_all-head.result in
    let d = c.take_from-data_number.result in
    let loads : set c.self.inside.chains.loads n c.over.result ≡ c.set_load.new.self.loads = sym (c.set_load.ensures.loads ∙ ap (λ fields. set fields n c.over.result) c.begin_all-head.ensures.loads) in
    subst (λ (p : Arena × (List Fields × ChainLists)). IsAllocated p.0 c.take_from-data_number.new.self p.1.0 p.1.1 c.self.inside.id c.args.size n d)
    (λ i. (c.self.view_is i, (loads i, sym c.set_load.ensures.lists i)))
    (allocates c.self.invariant.filled c.begin_all-head.ensures.answer
    d c.take_from-data_number.new.self c.begin_all-head.new.self.lists c.over.result c.take_from-data_number.ensures.unused c.take_from-data_number.ensures.kept (c.take_from-data_number.ensures.after ∙ ap (after_take c.self.inside.data) c.take_from-data_number.ensures.answer)
    c.begin_all-head.ensures.after c.begin_all-head.ensures.parted c.over.ensures
    c.args.size (taken_fits c.args.size c.self.inside.data.store c.take_from-data_number.ensures.answer) c.take_from-data_number.ensures.answer)

pub invariant_of-self : goal.invariant_of-self
invariant_of-self c =
    let is = is_allocated (goal.at.invariant_of-self c).After-set_load in
    still_whole _ c.self.invariant c.self.view_is refl is.begun.filled is.begun.shelved

pub token_of-requires-clause-number : goal.token_of-requires-clause-number
token_of-requires-clause-number c =
    let n = c.begin_all-head.result in
    let is = is_allocated (goal.at.token_of-requires-clause-number c).After-set_load in
    let free = first_rest c.args.self.now.free (ap (λ (a : Arena). first a.free) (sym c.self.view_is) ∙ c.begin_all-head.ensures.answer) in
    sym (ap (λ o. length (blocks_of o)) is.begun.held ∙ ap (λ ns. length (blocks_renumbered (take 1 ns) (new_block n c.take_from-data_number.result ∷ []))) free)

pub returns-clause-gives : goal.returns-clause-gives
returns-clause-gives c =
    let is = is_allocated (goal.at.returns-clause-gives c).After-set_load in
    let parted = parted_inside c.self.invariant c.self.view_is in
    gives c.args.self.now (new_arena (goal.at.returns-clause-gives c).After-set_load) None _ c.begin_all-head.result is.done c.token_of.ensures is.begun.held is.begun.absent tt (leaves_allocb parted c.args.size)

free_left : {v w : ChainLists} → v ≡ w → length v.free ≡ length w.free
free_left is = ap (λ (v : ChainLists). length v.free) is

pub returns-clause-supply : goal.returns-clause-supply
returns-clause-supply c =
    let was = supplied c.self.view_is c.requires.supply in
    record {
      class = c.take_from-data_number.ensures.class;
      data_blocks = omega (arith, was.data_blocks, c.take_from-data_number.ensures.left);
      message_blocks = omega (arith, was.message_blocks, free_left (c.set_load.ensures.lists ∙ c.begin_all-head.ensures.after), length-drop 1 c.self.inside.chains.lists.free);
    }
