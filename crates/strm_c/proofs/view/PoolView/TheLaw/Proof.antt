-- A `&` to a view borrows its share of the token, and so reads the pool.
use denote.Param.Shared.{copy_shared}
use denote.Struct.Field.{RawPtr-field}
use denote.Struct.Laws.{RawPtr-copy}
use denote.Struct.Lending.{of_Lends, lent_at, lent_at_shr_laws}
use Rattle.strm_named.specs.contracts.named_pool.NamedPool.{the_row as V}
use Rattle.strm_named.proofs.named_pool.NamedPool.TheLaws.{the_row_laws}
use Rattle.strm_c.specs.contracts.view.PoolView as C
use Rattle.strm_c.proofs.view.PoolView.TheLaw.Statement.{statement}
use Rattle.strm_c.proofs.Loans.{Lends-loan}

pub shares : statement
shares = of_Lends C.struct C.the_codes C.the_heap C.the_lent
    (λ d p. lent_at_shr_laws V the_row_laws.shr_laws d.at d.named) (copy_shared RawPtr-field RawPtr-copy, tt)
    (λ M 𝓤 𝓛 d p. Lends-loan 𝓛 (lent_at V d.at d.named) (lent_at_shr_laws V the_row_laws.shr_laws d.at d.named) d.life d.share (C.the_row).lives)
