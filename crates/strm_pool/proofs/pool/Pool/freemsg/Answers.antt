use Rattle.strm_mblk.specs.Freeing.{with_token_spent}
use Rattle.strm_pool.proofs.OnParts.{agrees_still, spends_on}
use Rattle.strm_pool.proofs.pool.Pool.freemsg.Goals as goal

pub invariant_of-self : goal.invariant_of-self
invariant_of-self c = agrees_still c.freemsg.ensures.shelves c.self.invariant

pub returns : goal.returns
returns c = spends_on c.self.view_is c.args.token (λ a. with_token_spent a c.args.token) c.freemsg.ensures
