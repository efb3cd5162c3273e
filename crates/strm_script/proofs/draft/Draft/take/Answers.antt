use Rattle.std.proofs.Common.{refl}
use Rattle.strm_script.specs.Entry.{Worker}
use Rattle.strm_script.proofs.Drafts.{put_pool, put_class, put_queue, put_bufcalls}
use Rattle.strm_script.proofs.Scripts.{reads_entry}
use Rattle.strm_script.proofs.Words.{goes_on}
use Rattle.strm_script.proofs.draft.Draft.take.Goals as goal

pub returns-in_ok-self-in-Pool : goal.returns-in_ok-self-in-Pool
returns-in_ok-self-in-Pool c = λ es so.
    rw c.in-Pool.is
    (reads_entry es c.args.number _ _ _
    (goes_on _ _ _ _ c.in_ok-self-in-Pool.ensures refl)
    (put_pool c.args.self.now es c.args.number _ _ (rw c.in-Pool.is at c.requires.stands) so))

pub returns-in_ok-size-in-Class : goal.returns-in_ok-size-in-Class
returns-in_ok-size-in-Class c = λ es so.
    rw c.in-Class.is
    (reads_entry es c.args.number _ _ _
    (goes_on _ _ _ _ c.in_ok-size-in-Class.ensures refl)
    (put_class c.args.self.now es c.args.number _ _ c.push.ensures.items (rw c.in-Class.is at c.requires.stands) so))

pub returns-in_ok-hiwat-in-Queue : goal.returns-in_ok-hiwat-in-Queue
returns-in_ok-hiwat-in-Queue c = λ es so.
    rw c.in-Queue.is
    (reads_entry es c.args.number _ _ _
    (goes_on _ _ _ _ c.in_ok-hiwat-in-Queue.ensures refl)
    (put_queue c.args.self.now es c.args.number _ _ c.push-in-Queue.ensures.items (rw c.in-Queue.is at c.requires.stands) so))

pub returns-in_ok-self-in-Bufcalls : goal.returns-in_ok-self-in-Bufcalls
returns-in_ok-self-in-Bufcalls c = λ es so.
    rw c.in-Bufcalls.is
    (reads_entry es c.args.number _ _ _
    (goes_on _ _ _ _ c.in_ok-self-in-Bufcalls.ensures refl)
    (put_bufcalls c.args.self.now es c.args.number _ _ (rw c.in-Bufcalls.is at c.requires.stands) so))

pub returns-in_ok-begin_section-in-Worker : goal.returns-in_ok-begin_section-in-Worker
returns-in_ok-begin_section-in-Worker c = λ es so.
    rw c.in-Worker.is
    (reads_entry es c.args.number Worker _ _
    (goes_on _ _ _ _ c.in_ok-none-in-Worker.ensures refl)
    (c.in_ok-begin_section-in-Worker.ensures es c.args.number so))
