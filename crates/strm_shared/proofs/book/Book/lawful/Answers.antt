use Rattle.std.proofs.Common.{subst}
use Rattle.strm_shared.specs.Books.{IsLawfulBook}
use Rattle.strm_shared.proofs.seats.Seated.{pairs_lawful}
use Rattle.strm_shared.proofs.book.Book.lawful.Goals as goal

pub returns-clause-law : goal.returns-clause-law
returns-clause-law g c =
    subst (IsLawfulBook g.N.Name) c.self.view_is (record { book = c.self.invariant.book; pool = c.lawful.ensures; pairs = pairs_lawful c.self.invariant.seat; told = c.self.invariant.told; trace = c.self.invariant.trace })
