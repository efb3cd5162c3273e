use Rattle.std.proofs.Common.{Ok, refl, ap, ◌∙◌}
use Rattle.std.proofs.lemmas.Bool.{cond-true}
use Rattle.strm_mblk.specs.Arena.{has}
use Rattle.strm_mblk.specs.Freeing as freeing
use Rattle.strm_mblk.specs.Given.{given_nothing}
use Rattle.strm_pool.specs.PoolValue.{with_arena}
use Rattle.strm_pool.proofs.Shaped.{spends_one}
use Rattle.strm_pool.proofs.pool.Pool.act_freemsg.Goals as goal

pub returns : goal.returns
returns c =
    let v = c.args.self.now in
    let token = c.picked-token.result in
    let picked = c.picked-token.ensures in
    let freed = c.freemsg.ensures in
    spends_one refl c.requires (λ h. given_nothing (with_arena v (freeing.freemsg h v.arena))) c.args.reg {done = Ok tt} refl picked.token picked.empty refl
    (record {
      after = freed.after ∙ ap (with_arena v) (cond-true (has v.arena token) (freeing.freemsg token.head v.arena) v.arena picked.had);
      answer = refl;
      gone = freed.gone picked.had;
      others = freed.others;
    }) refl
