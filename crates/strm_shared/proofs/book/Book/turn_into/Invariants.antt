use Rattle.strm_pool.specs.Registers.{entries_of}
use Rattle.strm_shared.specs.Chronicle.{entry_of}
use Rattle.strm_shared.proofs.book.Book.turn_into.Given as goal

abbrev pub ghosts-enter : goal.ghosts-enter
ghosts-enter g a = record { entry = entry_of a.told.desk a.told.line a.told.call.now a.told.reply.now; table = entries_of a.regs.now }
