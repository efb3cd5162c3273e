use Rattle.strm_pool.proofs.Accounts.{owned_told}
use Rattle.strm_pool.proofs.pool.Pool.lawful_regs.Goals as goal

pub returns : goal.returns
returns c = λ carry told. owned_told c.args.self.now c.args.regs.now carry told
