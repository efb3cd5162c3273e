use Rattle.std.proofs.Common.{sym, ap, ◌∙◌}
use Rattle.strm_data.specs.CountedStore.{CountedStore}
use Rattle.strm_data.specs.DataStore.{with_kind}
use Rattle.strm_mblk.specs.Arena.{Arena}
use Rattle.strm_mblk.specs.BlocksLayout.{arena_of}
use Rattle.strm_mblk.specs.Given.{answer_map}
use Rattle.strm_mblk.proofs.arena.Calls.{alters_store}
use Rattle.strm_mblk.proofs.arena.Frame.{other_data}
use Rattle.strm_mblk.proofs.blocks.Blocks.settype.Goals as goal

pub returns : goal.returns
returns c =
    let own = sym c.in_ok-found.ensures.answer in
    let d = c.in_ok-found.found.fields.data_number in
    alters_store c.args.self.now _ c.args.token.now c.args.place own c.requires (with_kind d c.args.kind c.args.self.now.store)
    (other_data c.args.self.now.store d _) _ tt
    (ap (λ (s : CountedStore). arena_of c.self.inside.id s.store c.self.inside.chains.loads c.self.inside.chains.lists) c.set_kind.ensures.after
    ∙ ap (λ (a : Arena). record a { store = with_kind d c.args.kind a.store }) c.self.view_is)
    (ap (answer_map (λ b. (tt, record c.args.self.now { store = with_kind b.data_number c.args.kind c.args.self.now.store }))) own)
