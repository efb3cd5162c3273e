use Rattle.std.proofs.Common.{sym, ◌∙◌}
use Rattle.std.specs.Fn.{FnOnceReturnsAtMut}
use Rattle.strm_mblk.specs.InPlace as in_place
use Rattle.strm_pool.specs.PoolValue.{on_arena}
use Rattle.strm_named.proofs.Shaped.{here, lends}
use Rattle.strm_named.proofs.named_pool.NamedPool.window.Goals as goal

pub invariant_of-self : goal.invariant_of-self
invariant_of-self g c = (lends c.self.invariant c.self.view_is (sym c.has.ensures ∙ c.if-not-has.false) (here c.self.view_is c.token-token.ensures) (FnOnceReturnsAtMut g.F.FnOnce c.args.change) (λ h v. in_place.bytes_of_window h c.args.place v.pool.arena) (λ r left h v. on_arena v.pool (in_place.window h c.args.place r left v.pool.arena)) c.window-answer.new.self c.window-answer.result c.answered.ensures c.window-answer.ensures).0

pub returns : goal.returns
returns g c = (lends c.self.invariant c.self.view_is (sym c.has.ensures ∙ c.if-not-has.false) (here c.self.view_is c.token-token.ensures) (FnOnceReturnsAtMut g.F.FnOnce c.args.change) (λ h v. in_place.bytes_of_window h c.args.place v.pool.arena) (λ r left h v. on_arena v.pool (in_place.window h c.args.place r left v.pool.arena)) c.window-answer.new.self c.window-answer.result c.answered.ensures c.window-answer.ensures).1
