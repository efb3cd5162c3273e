use Rattle.std.proofs.Common.{[], Ok, length, sym, ap, ◌∙◌, subst, rules}
use Rattle.strm_named.specs.NamedCalls.{Does, some_messages, take_flushed_band}
use Rattle.strm_c.specs.Codes.{number_returned, value_written}
use Rattle.strm_c.specs.InC.{capped_number}
use Rattle.std.specs.Option.{option_zip}
use Rattle.strm_c.proofs.Renaming.{ranged}
use Rattle.strm_c.proofs.taking.strm_c_takeq_band.Goals as goal

pub returns-clause-count : goal.returns-clause-count
returns-clause-count c =
    let v = c.in-Some.named.now in
    let w = c.take_flushed_band-answer.new.self in
    let n = length c.args.msgs.now in
    ranged some_messages Ok (λ p x. take_flushed_band (capped_number c.args.queue) p.0 p.1 n x) [] _ (c.in-Some-zip.band, c.in-Some-zip.flush) _ _ v w c.take_flushed_band-answer.result _ c.put.result c.args.count.now _
    ((λ i. option_zip (sym c.band_of.ensures i) (sym c.flush_of.ensures i)) ∙ sym c.zip.ensures ∙ c.in-Some-zip.is) (search rules) (search rules)
    (subst (λ q. Does some_messages (take_flushed_band q c.in-Some-zip.band c.in-Some-zip.flush n v) [] v w c.take_flushed_band-answer.result) c.capped_number.ensures c.take_flushed_band-answer.ensures.does)
    (search rules) (c.put.ensures.number ∙ ap number_returned c.counted.ensures) (c.put.ensures.into ∙ ap (value_written c.args.count.now) c.counted.ensures)
