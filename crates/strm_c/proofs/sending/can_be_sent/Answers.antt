-- What both own may go to another thread, by the proofs of their pointers.
use Rattle.strm_c.proofs.handle.StrmPool.TheSendSync as handle
use Rattle.strm_c.proofs.reader.StrmReader.TheSendSync as reader
use Rattle.strm_c.proofs.sending.can_be_sent.Goals as goal

pub returns-clause-handles : goal.returns-clause-handles
returns-clause-handles c = handle.the_send

pub returns-clause-readers : goal.returns-clause-readers
returns-clause-readers c = reader.the_send
