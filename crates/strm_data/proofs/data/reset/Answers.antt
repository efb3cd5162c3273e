use Rattle.std.proofs.Common.{◌≡◌, ◌+◌, ◌-◌, ◌<◌, ◌∷◌, ◌++◌, [], length, get_or, map, set, take, drop, refl, sym, ap, ◌∙◌, arith, append_assoc}
use Rattle.std.proofs.lemmas.List.{drop_more, length-map, length-take-le, map_push, set-append_right, take_more}
use Rattle.strm_data.specs.declared.data.Class.{Class}
use Rattle.strm_data.specs.DataLayout.{no_class, room_of}
use Rattle.strm_data.proofs.layout.Taking.{least_noted, rooms_noted}
use Rattle.strm_data.proofs.data.reset.Goals as goal

pub loop-number-preserved : goal.loop-number-preserved
loop-number-preserved c =
    let old = map (λ (k : Class). k.least) c.args.classes.now in
    let lists = c.args.blocks.now.rows.lists in
    let now = c.loop-number.classes in
    let i = c.loop-number.number in
    let many : length now ≡ length c.args.classes.now =
    omega (
      arith,
      ap length c.loop-number.invariant.rooms,
      length-map now room_of,
      length-map c.args.classes.now room_of,
    ) in
    let within : i < length now = omega (arith, many, c.loop-number-test.true) in
    let there : i < length old = omega (arith, many, within, length-map c.args.classes.now (λ (k : Class). k.least)) in
    let listed : i < length lists = omega (arith, many, within, c.requires.lists) in
    let k = get_or now i no_class in
    let front = map length (take i lists) in
    let long : length front ≡ i = length-map (take i lists) length ∙ length-take-le i lists (omega arith) in
    record {
      rooms = rooms_noted now i k refl c.len.result ∙ c.loop-number.invariant.rooms;
      least =
          least_noted now i k refl c.len.result ∙ ap (λ ns. set ns i c.len.result) c.loop-number.invariant.least
          ∙ set-append_right front (drop i old) i i c.len.result long (omega arith)
          ∙ ap (λ ns. front ++ set ns (i - i) c.len.result) (drop_more old i 0 there)
          ∙ ap (λ n. front ++ set (get_or old i 0 ∷ drop (i + 1) old) n c.len.result) (let e : i - i ≡ 0 = omega arith in e)
          ∙ ap (λ n. front ++ n ∷ drop (i + 1) old) c.len.ensures
          ∙ sym (append_assoc front (length (get_or lists i []) ∷ []) (drop (i + 1) old))
          ∙ ap (λ ns. ns ++ drop (i + 1) old) (sym (ap (map length) (take_more lists i [] listed) ∙ map_push length (take i lists) (get_or lists i [])));
    }
