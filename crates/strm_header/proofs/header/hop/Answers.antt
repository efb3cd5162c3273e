use Rattle.std.proofs.Common.{rules, subst}
use Rattle.strm_mblk.specs.Block.{bytes_of_block}
use Rattle.strm_mblk.specs.Calls.{Spends}
use Rattle.strm_pool.specs.PoolValue.{arena, with_token_spent}
use Rattle.strm_header.proofs.Hopping.{IsLent, bytes_lent, drops, lent, rewrites}
use Rattle.strm_header.proofs.header.hop.Goals as goal

pub returns-in-Ok-Ok : goal.returns-in-Ok-Ok
returns-in-Ok-Ok c =
    let got : IsLent c.args.token c.args.pool.now c.edit.new.self c.edit.result = lent _ _ _ _ (λ bytes r left called. search rules) _ _ c.in-Ok-Ok.is c.edit.ensures in
    rewrites _ _ _ _ got (search rules)

pub returns-in-Ok-Err : goal.returns-in-Ok-Err
returns-in-Ok-Err c =
    let got : IsLent c.args.token c.args.pool.now c.edit.new.self c.edit.result = lent _ _ _ _ (λ bytes r left called. search rules) _ _ c.in-Ok-Err.is c.edit.ensures in
    let facts = drops _ _ _ _ got c.in-Ok-Err.why (search rules) in
    record {
      bytes = bytes_of_block c.args.pool.now.arena.store got.block;
      lent = bytes_lent _ _ _ _ got;
      wrong = facts.0;
      after = subst (λ v. Spends arena c.args.token (with_token_spent v c.args.token) v c.freemsg.new.self) facts.1 c.freemsg.ensures;
    }
