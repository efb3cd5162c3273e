use Rattle.std.proofs.Common.{refl, sym, ◌∙◌, subst, rules, w32}
use Rattle.std.proofs.lemmas.Int.{to_z-of_z}
use Rattle.strm_mblk.specs.Calls.{Alters}
use Rattle.strm_mblk.specs.Trimming as trimming
use Rattle.strm_pool.specs.PoolValue.{arena, on_arena}
use Rattle.strm_named.proofs.Shaped.{alters, here}
use Rattle.strm_named.proofs.named_pool.NamedPool.adjmsg.Goals as goal

pub invariant_of-self : goal.invariant_of-self
invariant_of-self c = (alters c.self.invariant c.self.view_is (sym c.has.ensures ∙ c.if-not-has.false) (here c.self.view_is c.token-token.ensures) (λ h v. on_arena v.pool (trimming.adjmsg h c.args.count v.pool.arena)) (subst (λ z. Alters arena c.token-token.result c.token-token.result (on_arena c.self.inside.pool (trimming.adjmsg c.token-token.result.head z c.self.inside.pool.arena)) c.self.inside.pool c.adjmsg-answer.new.self c.adjmsg-answer.result) (to_z-of_z w32 c.args.count (search rules)) c.adjmsg-answer.ensures) refl c.answered.ensures).fits

pub returns : goal.returns
returns c = (alters c.self.invariant c.self.view_is (sym c.has.ensures ∙ c.if-not-has.false) (here c.self.view_is c.token-token.ensures) (λ h v. on_arena v.pool (trimming.adjmsg h c.args.count v.pool.arena)) (subst (λ z. Alters arena c.token-token.result c.token-token.result (on_arena c.self.inside.pool (trimming.adjmsg c.token-token.result.head z c.self.inside.pool.arena)) c.self.inside.pool c.adjmsg-answer.new.self c.adjmsg-answer.result) (to_z-of_z w32 c.args.count (search rules)) c.adjmsg-answer.ensures) refl c.answered.ensures).does
