use Rattle.std.proofs.Common.{rules, ◌≡◌, ◌+◌, ◌<◌, List, length, get_or, take, refl, sym, subst, ◌∙◌, arith, length-take-le, drop-set-lt, take_all}
use Rattle.std.proofs.lemmas.Grind.{drop_more_same}
use Rattle.std.proofs.lemmas.List.{take_more_set}
use Rattle.strm_pool.specs.declared.reply.Reply.{Reply}
use Rattle.strm_pool.specs.declared.line.Line.{Line}
use Rattle.strm_shared.specs.Batches.{AreTurned}
use Rattle.strm_shared.specs.Books.{IsServed}
use Rattle.strm_shared.proofs.Batching.{turned_more}
use Rattle.strm_shared.proofs.book.Book.turn_all.Goals as goal

pub loop-place-init : goal.loop-place-init
loop-place-init g c = record { turned = (refl, refl); kept = refl }

pub loop-place-preserved : goal.loop-place-preserved
loop-place-preserved g c =
    let lines = c.args.lines.now in
    let k = c.loop-place.place in
    let replies = c.loop-place.replies in
    let reply = c.turn_into.new.reply in
    let line = c.index-lines-place.result in
    let here : get_or lines k line ≡ line = search rules in
    let so_far : length (take k replies) ≡ k = length-take-le k replies (omega arith) in
    let within : k < length replies = omega arith in
    let served = subst (λ n. IsServed c.loop-place.self c.loop-place.desk (get_or lines n line).number (get_or lines n line).call c.turn_into.new.self c.turn_into.new.desk reply) (sym so_far)
    (subst (λ (x : Line). IsServed c.loop-place.self c.loop-place.desk x.number x.call c.turn_into.new.self c.turn_into.new.desk reply) (sym here) c.in-Ok.ensures.answer) in
    record {
      turned = subst (λ (rs : List Reply). AreTurned g.N.Name c.args.self.now c.args.desk.now lines rs c.turn_into.new.self c.turn_into.new.desk) (sym (take_more_set replies k reply within))
          (turned_more g.N.Name c.args.self.now c.args.desk.now lines (take k replies) c.loop-place.self c.loop-place.desk line reply c.turn_into.new.self c.turn_into.new.desk c.loop-place.invariant.turned (omega (arith, so_far)) served (record { lawful = c.lawful.ensures.law; sized = c.lawful.ensures.sized }));
      kept = drop-set-lt (k + 1) replies k reply (omega arith) ∙ drop_more_same replies c.args.replies.now k c.loop-place.invariant.kept;
    }

pub returns : goal.returns
returns g c =
    let k = c.loop-place.place in
    let all : take k c.loop-place.replies ≡ c.loop-place.replies = take_all k c.loop-place.replies (omega (arith, c.loop-place-test.false, c.loop-place.auto.replies, c.requires)) in
    record {
      answer = (
        omega (arith, c.loop-place.auto.replies, c.requires),
        subst (λ (rs : List Reply). AreTurned g.N.Name c.args.self.now c.args.desk.now c.args.lines.now rs c.loop-place.self c.loop-place.desk) all c.loop-place.invariant.turned,
      );
      kept = tt;
    }
