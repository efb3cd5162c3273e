use Rattle.std.proofs.Common.{◌≡◌, [], rules, arith, sym, ap, ◌∙◌}
use Rattle.strm_shared.specs.Seats.{first_view}
use Rattle.strm_shared.specs.Pairs.{Pair, count_in, pair_at}
use Rattle.strm_shared.proofs.Opening.{good_setup}
use Rattle.strm_shared.proofs.seats.Keeping.{begins}
use Rattle.strm_shared.proofs.seats.Seated.{Mine}
use Rattle.strm_shared.proofs.start.Start.new.Goals as goal

pub pack-requires : goal.pack-requires
pack-requires c =
    let bounds = good_setup c.args.setup (sym c.is_bad_shared.ensures ∙ c.if-is_bad_shared.false) in
    record {
      unspent = bounds.2;
      few = omega (arith, ap count_in c.census.ensures, c.lawful.ensures.whole, c.lawful.ensures.few);
    }

pub of_words-requires : goal.of_words-requires
of_words-requires c =
    begins _ c.pack.result (omega (arith, ap count_in c.census.ensures, c.lawful.ensures.whole, c.lawful.ensures.few)) c.pack.ensures

pub invariant_of-result : goal.invariant_of-result
invariant_of-result c =
    let bounds = good_setup c.args.setup (sym c.is_bad_shared.ensures ∙ c.if-is_bad_shared.false) in
    let about : Pair = (c.args.setup.first_stamp, c.census.result) in
    let same : about ≡ pair_at c.args.setup.first_stamp c.args.pool = λ i. (c.args.setup.first_stamp, c.census.ensures i) in
    let made = c.in-Ok-of_words.ensures in record {
      ready = record {
        some = bounds.0;
        few = bounds.1;
        unspent = bounds.2;
        idle = c.requires;
        blank = search rules;
        shared = search rules;
      };
      table = record {
        one_word = made.0;
        opened = made.5 ∙ same;
        here = (made.2, made.4 ∙ ap (λ (x : Pair). let m : Mine = (first_view x, []) in m) same);
      };
    }
