use Rattle.std.proofs.Common.{rules, ◌≡◌, ◌+◌, ◌<◌, ◌≤◌, true, [], ◌++◌, ◌∷◌, length, vec_capacity, get_or, Ok, true≢false, refl, ap, sym, ◌∙◌, subst, arith, length-append}
use Rattle.std.specs.Global.{Vec}
use Rattle.strm_pool.specs.declared.reply.Reply.{Reply}
use Rattle.strm_pool.specs.declared.line.Line.{Line}
use Rattle.strm_shared.specs.Books.{IsAfter}
use Rattle.strm_shared.proofs.Crews.{kept_more, served_more}
use Rattle.strm_shared.proofs.workers.worker.Worker.work.Goals as goal
use Rattle.strm_shared.proofs.workers.worker.Worker.work.Goals.{then-site, else-site}

pub loop-i-init : goal.loop-i-init
loop-i-init g c = record { room = c.requires.1; served = ([], refl, refl, λ keep. c.requires.0) }

pub push_reserved-requires : goal.push_reserved-requires
push_reserved-requires g c =
    let was = c.loop-i.invariant.served in
    search (rules, ap length (was.3 c.if-site.true), was.1, c.loop-i.invariant.room c.if-site.true, c.loop-i-test.true)

pub loop-i-preserved : goal.loop-i-preserved
loop-i-preserved g c =
    let lines = c.args.lines.now in
    let was = c.loop-i.invariant.served in
    let all = was.0 in
    let left = c.serve_into-answer.new.desk in
    let reply = c.serve_into-answer.new.reply in
    let line = c.index-lines-i.result in
    let here : get_or lines c.loop-i.i line ≡ line = search rules in
    let below : length all < length lines = omega (arith, was.1, c.loop-i-test.true) in
    let after = subst (λ n. IsAfter g.N.Name c.loop-i.desk (get_or lines n line).number (get_or lines n line).call left (Ok reply)) (sym was.1)
    (subst (λ (x : Line). IsAfter g.N.Name c.loop-i.desk x.number x.call left (Ok reply)) (sym here) c.in-Ok.ensures.after) in
    let kept : (c.args.site.now.keeps ≡ true → length lines ≤ vec_capacity c.if-site.replies) × (c.args.site.now.keeps ≡ true → c.if-site.replies.items ≡ all ++ reply ∷ []) =
    elim c.if-site.branch [
      | then-site w ↦ (
        λ keep. search (rules, ap (λ (v : Vec Reply). vec_capacity v) w.replies-is, w.push_reserved.ensures.capacity, c.loop-i.invariant.room keep),
        λ keep. kept_more c.loop-i.replies c.if-site.replies w.push_reserved.new.self all reply w.replies-is w.push_reserved.ensures.items (was.3 keep),
      )
      | else-site w ↦ (λ keep. absurd (true≢false (sym keep ∙ w.if-site.false)), λ keep. absurd (true≢false (sym keep ∙ w.if-site.false)))
    ] in
    record {
      room = kept.0;
      served = (all ++ reply ∷ [], length-append all (reply ∷ []) ∙ ap (λ n. n + 1) was.1, served_more g.N.Name lines c.args.self.desk all c.loop-i.desk line reply left was.2 below after, kept.1);
    }

pub returns : goal.returns
returns g c =
    let was = c.loop-i.invariant.served in
    (was.0, (search (rules, was.1, c.loop-i-test.false), was.2), was.3)

pub returns-in-Err : goal.returns-in-Err
returns-in-Err g c =
    let was = c.loop-i.invariant.served in
    (was.0, (omega (arith, was.1, c.loop-i-test.true), c.loop-i.desk, was.2, c.index-lines-i.result, c.in-Err.ensures.after, c.in-Err.ensures.refused), was.3)
