use Rattle.strm_pool.proofs.AnyBytes.{lawful_still}
use Rattle.strm_pool.proofs.pool.Pool.lawful_with_any_bytes.Goals as goal

pub returns : goal.returns
returns c = λ blocks differ. lawful_still c.args.self.now blocks differ c.lawful.ensures
