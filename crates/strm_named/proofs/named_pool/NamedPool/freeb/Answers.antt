use Rattle.std.proofs.Common.{Ok, Option, sym, ap, ◌∙◌}
use Rattle.strm_mblk.specs.BlockCalls as blocks
use Rattle.strm_pool.specs.PoolValue.{on_arena}
use Rattle.strm_named.specs.declared.name.Name.{Name}
use Rattle.strm_named.proofs.Held.{have_rest}
use Rattle.strm_named.proofs.Shaped.{here, leaves_rest}
use Rattle.strm_named.proofs.named_pool.NamedPool.freeb.Goals as goal

pub give_any-requires : goal.give_any-requires
give_any-requires c = have_rest c.self.invariant c.freeb-rest.ensures.others c.freeb-rest.result c.freeb-rest.ensures.had

pub invariant_of-self : goal.invariant_of-self
invariant_of-self c = (leaves_rest c.self.invariant c.self.view_is (sym c.has.ensures ∙ c.if-not-has.false) (here c.self.view_is c.token-token.ensures) (λ h v. on_arena v.pool (Ok (blocks.freeb h v.pool.arena))) c.freeb-rest.ensures c.give_any.ensures.stamps (ap (λ (o : Option Name). Ok o) c.give_any.ensures.name)).fits

pub returns : goal.returns
returns c = (leaves_rest c.self.invariant c.self.view_is (sym c.has.ensures ∙ c.if-not-has.false) (here c.self.view_is c.token-token.ensures) (λ h v. on_arena v.pool (Ok (blocks.freeb h v.pool.arena))) c.freeb-rest.ensures c.give_any.ensures.stamps (ap (λ (o : Option Name). Ok o) c.give_any.ensures.name)).does
