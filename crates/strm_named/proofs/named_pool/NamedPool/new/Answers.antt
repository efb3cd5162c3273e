use Rattle.strm_named.specs.NamedLayout.{pool_with}
use Rattle.strm_named.proofs.named_pool.NamedPool.new.Goals as goal

pub returns-in-Ok-clause-opens : goal.returns-in-Ok-clause-opens
returns-in-Ok-clause-opens c =
    let opens = c.in_ok-pool.ensures.opens in
    (opens.0, λ i. pool_with (opens.1 i) (c.in-Ok.ensures.items_if_clones_equal (λ y same. same) i))
