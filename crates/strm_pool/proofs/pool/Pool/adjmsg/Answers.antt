use Rattle.std.proofs.Common.{rules, FitsSigned, w32, subst}
use Rattle.std.proofs.lemmas.Int.{to_z-of_z}
use Rattle.strm_mblk.specs.Calls.{Alters, itself}
use Rattle.strm_mblk.specs.Trimming as trimming
use Rattle.strm_pool.proofs.OnParts.{agrees_still, alters_on}
use Rattle.strm_pool.proofs.pool.Pool.adjmsg.Goals as goal

pub invariant_of-self : goal.invariant_of-self
invariant_of-self c = agrees_still c.adjmsg.ensures.shelves c.self.invariant

pub returns : goal.returns
returns c =
    let h = c.args.token.now.head in
    let a = c.self.inside.blocks in
    let fits : FitsSigned w32 c.args.count = search rules in
    alters_on c.self.view_is (trimming.adjmsg h c.args.count)
    (subst (λ z. Alters itself c.args.token.now c.args.token.now (trimming.adjmsg h z a) a c.adjmsg.new.self c.adjmsg.result) (to_z-of_z w32 c.args.count fits) c.adjmsg.ensures)
