use Rattle.std.proofs.Common.{◌≡◌, suc, ◌+◌, ◌-◌, ◌∷◌, ◌++◌, drop, map, set, take, sym, ap, ◌∙◌, arith}
use Rattle.std.specs.List.{range_with_len}
use Rattle.strm_links.specs.Rows.{holder, list_at}
use Rattle.strm_data.specs.DataLayout.{extent_in, room_of, unused_at}
use Rattle.strm_data.proofs.Lists.{set-take}
use Rattle.strm_data.proofs.layout.Opened.{filled_more}
use Rattle.strm_data.proofs.data.fill.Goals as goal

pub loop-at-preserved : goal.loop-at-preserved
loop-at-preserved c =
    let at = c.loop-at.at in
    let end = c.args.first + c.args.class.spec.count in
    let old = c.args.blocks.now.loads in
    let rest = drop end old in
    let next : suc (at - 1) ≡ at = omega arith in
    let above : at - 1 - c.args.first + 1 ≡ at - c.args.first = omega arith in
    let left : suc (end - at) ≡ end - (at - 1) = omega arith in
    record {
      from = omega arith;
      below = omega arith;
      lists =
          c.push_front.ensures.lists
          ∙ (λ i. record (c.set_load.ensures.rows i) { lists = set (c.set_load.ensures.rows i).lists (c.from.ensures i) ((at - 1) ∷ list_at (c.from.ensures i) (c.set_load.ensures.rows i)) })
          ∙ filled_more c.loop-at.blocks.rows c.args.blocks.now.rows c.args.number (end - at) (at - 1) at c.requires.list (omega arith) c.loop-at.invariant.lists
          ∙ ap (λ n. record c.args.blocks.now.rows { lists = set c.args.blocks.now.rows.lists c.args.number (range_with_len (at - 1) n) }) (let e : end - at + 1 ≡ end - (at - 1) = omega arith in e);
      loads =
          c.push_front.ensures.loads ∙ c.set_load.ensures.loads ∙ ap (λ ls. set ls (at - 1) (unused_at (extent_in c.args.number (room_of c.args.class) (at - 1 - c.args.first)))) c.loop-at.invariant.loads
          ∙ (λ i. set (take (sym next i) old ++ (map unused_at (map (extent_in c.args.number (room_of c.args.class)) (range_with_len (sym above i) (end - at))) ++ rest)) (at - 1)
          (unused_at (extent_in c.args.number (room_of c.args.class) (at - 1 - c.args.first))))
          ∙ set-take (at - 1) old _ _ (omega (arith, c.requires.loads, c.requires.nodes))
          ∙ ap (λ n. take (at - 1) old ++ (map unused_at (map (extent_in c.args.number (room_of c.args.class)) (range_with_len (at - 1 - c.args.first) n)) ++ rest)) left;
      ahead = λ k from below. c.push_front.ensures.others k (λ same. absurd (omega arith)) ∙ ap (holder k) c.set_load.ensures.rows ∙ c.loop-at.invariant.ahead k from (omega arith);
      beyond = λ k past. c.push_front.ensures.others k (λ same. absurd (omega arith)) ∙ ap (holder k) c.set_load.ensures.rows ∙ c.loop-at.invariant.beyond k past;
    }
