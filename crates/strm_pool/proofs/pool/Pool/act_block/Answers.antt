use Rattle.std.proofs.Common.{◌≡◌, ℕ, Result, Ok, Err, refl, sym, ap, ◌∙◌}
use Rattle.strm_data.specs.declared.refusal.Refusal.{Refusal}
use Rattle.strm_mblk.specs.Block.{Block as MessageBlock}
use Rattle.strm_mblk.specs.BlockCalls as blocks
use Rattle.strm_mblk.specs.Given.{answer_map, value_after}
use Rattle.strm_pool.specs.declared.reply.Reply.TheVariants as replies
use Rattle.strm_pool.specs.PoolValue.{PoolValue, on_arena}
use Rattle.strm_pool.specs.Registers.{table_of}
use Rattle.strm_pool.specs.Step.{answers, step_of}
use Rattle.strm_pool.proofs.OnParts.{arena_answer}
use Rattle.strm_pool.proofs.Shaped.{asks, head_is}
use Rattle.strm_pool.proofs.pool.Pool.act_block.Goals as goal

-- asking leaves the pool as it was
block_after : (v : PoolValue) (h k : ℕ) → v ≡ value_after v (on_arena v (blocks.block h k v.arena))
block_after v h k = at (blocks.block_found h k v.arena)
  where
    at : (r : Result MessageBlock Refusal) → v ≡ value_after v (on_arena v (answer_map (λ b. (blocks.info_of v.arena b, v.arena)) r))
    at (Ok b) = refl
    at (Err why) = refl

pub returns : goal.returns
returns c =
    let v = c.args.self.now in
    let token = c.lent.result.now in
    let made = blocks.block token.head c.args.place v.arena in
    asks refl c.requires (λ info. replies.Block info) (on_arena v made)
    (ap (λ h. step_of v (table_of c.args.regs.now) (answers (λ info. replies.Block info)) (on_arena v (blocks.block h c.args.place v.arena))) (head_is c.args.regs.now c.args.reg token c.lent.ensures.token))
    (block_after v token.head c.args.place) (c.block.ensures ∙ sym (arena_answer v made)) c.set_block.ensures
