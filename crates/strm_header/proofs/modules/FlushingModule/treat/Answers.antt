-- Both sides are flushed, as the message says, and it passes.
use Rattle.std.proofs.Common.{◌≡◌, ◌%◌, ◌/◌, ◌==◌, true, refl, ap, sym, subst, ◌∙◌}
use Rattle.std.specs.Prelude.{max, min}
use Rattle.strm_mblk.specs.Arena.{has}
use Rattle.strm_pool.specs.PoolValue.{PoolValue, has_queue}
use Rattle.strm_header.specs.Modules.{flush_steps, flushed_if}
use Rattle.strm_scheduler.specs.Steps.{with_message_put}
use Rattle.strm_header.proofs.Outcomes.{flushed_both, twice, twice_had, twice_there}
use Rattle.strm_header.proofs.modules.FlushingModule.treat.Goals as goal

pub send-requires-clause-has : goal.send-requires-clause-has
send-requires-clause-has c =
    let v = c.args.pool.now in
    let flags = c.flags_of_flush-flags.result in
    let y_is : c.flush_if-2.new.pool ≡ twice flags c.max.result c.min.result c.args.next c.args.token v =
    c.flush_if-2.ensures ∙ ap (flushed_if (flags / 2 % 2 == 1) c.min.result) c.flush_if.ensures in
    subst (λ (p : PoolValue). has p.arena c.args.token ≡ true) (sym y_is) (twice_had flags c.max.result c.min.result c.args.next c.args.token v c.requires.has)

pub send-requires-clause-there : goal.send-requires-clause-there
send-requires-clause-there c =
    let v = c.args.pool.now in
    let flags = c.flags_of_flush-flags.result in
    let y_is : c.flush_if-2.new.pool ≡ twice flags c.max.result c.min.result c.args.next c.args.token v =
    c.flush_if-2.ensures ∙ ap (flushed_if (flags / 2 % 2 == 1) c.min.result) c.flush_if.ensures in
    subst (λ (p : PoolValue). has_queue p c.args.next ≡ true) (sym y_is) (twice_there flags c.max.result c.min.result c.args.next c.args.token v c.requires.ahead)

pub returns : goal.returns
returns c =
    let q = c.args.queue in
    let n = c.args.next in
    let t = c.args.token in
    let v = c.args.pool.now in
    let flags = c.flags_of_flush-flags.result in
    let y_is : c.flush_if-2.new.pool ≡ twice flags c.max.result c.min.result n t v =
    c.flush_if-2.ensures ∙ ap (flushed_if (flags / 2 % 2 == 1) c.min.result) c.flush_if.ensures in
    let steps = flushed_both flags c.max.result c.min.result n t v q c.send.new.pool c.requires.apart c.requires.ahead c.requires.has (c.send.ensures ∙ ap (with_message_put n t) y_is) in
    let read = c.max.ensures ∙ ap (max q) c.other_of-other.ensures in
    let write = c.min.ensures ∙ ap (min q) c.other_of-other.ensures in
    (flush_steps flags c.max.result c.min.result n t v, (refl, λ i. flush_steps (c.flags_of_flush-flags.ensures i) (read i) (write i) n t v), steps)
