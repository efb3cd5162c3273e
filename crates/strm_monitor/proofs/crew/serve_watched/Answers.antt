-- The desks that were taken off are pushed again, so none is missing.
use Rattle.std.proofs.Common.{◌≡◌, ◌+◌, ◌∙◌, ap, arith, length, length-append}
use Rattle.strm_shared.proofs.Opening.{length-fresh}
use Rattle.strm_monitor.proofs.crew.serve_watched.Goals as goal

pub unreachable-requires : goal.unreachable-requires
unreachable-requires g c =
    let opened : length c.open-shared.result.1 ≡ g.N.Name.desks = ap length c.open-shared.ensures ∙ length-fresh g.N.Name.desks _ in
    let third : length c.open-shared.result.1 ≡ length c.take_last-monitor.new.self + 1 = ap length c.take_last-monitor.ensures ∙ length-append _ _ in
    let second : length c.take_last-monitor.new.self ≡ length c.take_last-second.new.self + 1 = ap length c.take_last-second.ensures ∙ length-append _ _ in
    let first : length c.take_last-second.new.self ≡ length c.take_last-first.new.self + 1 = ap length c.take_last-first.ensures ∙ length-append _ _ in
    let one : length c.push.new.self ≡ length c.take_last-first.new.self + 1 = ap length c.push.ensures ∙ length-append _ _ in
    let two : length c.push-2.new.self ≡ length c.push.new.self + 1 = ap length c.push-2.ensures ∙ length-append _ _ in
    let three : length c.push-3.new.self ≡ length c.push-2.new.self + 1 = ap length c.push-3.ensures ∙ length-append _ _ in
    omega (arith, c.requires.name.counted, c.requires.desks, opened, third, second, first, one, two, three, c.in-Err.ensures.missing.0)
