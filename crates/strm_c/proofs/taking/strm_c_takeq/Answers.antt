use Rattle.std.proofs.Common.{[], Ok, length, sym, ap, ◌∙◌, subst, rules}
use Rattle.strm_named.specs.NamedCalls.{Does, some_messages, take_flushed}
use Rattle.strm_c.specs.Codes.{number_returned, value_written}
use Rattle.strm_c.specs.InC.{capped_number}
use Rattle.strm_c.proofs.Renaming.{ranged}
use Rattle.strm_c.proofs.taking.strm_c_takeq.Goals as goal

pub returns-clause-count : goal.returns-clause-count
returns-clause-count c =
    let v = c.in-Some.named.now in
    let w = c.take_flushed-answer.new.self in
    let n = length c.args.msgs.now in
    ranged some_messages Ok (λ f x. take_flushed (capped_number c.args.queue) f n x) [] _ c.in-Some-flush_of.flush _ _ v w c.take_flushed-answer.result _ c.put.result c.args.count.now _
    (sym c.flush_of.ensures ∙ c.in-Some-flush_of.is) (search rules) (search rules)
    (subst (λ q. Does some_messages (take_flushed q c.in-Some-flush_of.flush n v) [] v w c.take_flushed-answer.result) c.capped_number.ensures c.take_flushed-answer.ensures.does)
    (search rules) (c.put.ensures.number ∙ ap number_returned c.counted.ensures) (c.put.ensures.into ∙ ap (value_written c.args.count.now) c.counted.ensures)
