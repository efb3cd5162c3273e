-- One look more, and the end where the stamp has come.
use Rattle.std.proofs.Common.{◌≤◌, inl, arith, length, rules, sym, subst}
use Rattle.strm_monitor.proofs.Looking.{looked, stamp_is}
use Rattle.strm_monitor.proofs.monitor.watch.Goals as goal

pub loop-looks-preserved : goal.loop-looks-preserved
loop-looks-preserved g c =
    looked (length g.N.Name.opened.arena.held) c.args.desk.now c.loop-looks.looks c.loop-looks.fewest c.loop-looks.desk c.census_now-stamp.result c.loop-looks.invariant
    c.lawful.ensures.seen.some c.census_now-stamp.ensures.later c.census_now-stamp.ensures.whole c.min-fewest.result (search rules) c.census_now-stamp.new.desk
    c.census_now-stamp.ensures.longer

pub returns-then-last-stamp : goal.returns-then-last-stamp
returns-then-last-stamp g c = record {
  looks =
      looked (length g.N.Name.opened.arena.held) c.args.desk.now c.loop-looks.looks c.loop-looks.fewest c.loop-looks.desk c.census_now-stamp.result c.loop-looks.invariant
      c.lawful.ensures.seen.some c.census_now-stamp.ensures.later c.census_now-stamp.ensures.whole c.min-fewest.result (search rules) c.census_now-stamp.new.desk
      c.census_now-stamp.ensures.longer;
  ended =
      inl
      (subst (λ n. c.args.last ≤ n)
      (sym (stamp_is (length g.N.Name.opened.arena.held) c.args.desk.now c.loop-looks.looks c.loop-looks.fewest c.loop-looks.desk c.census_now-stamp.result c.loop-looks.invariant
      c.lawful.ensures.seen.some c.census_now-stamp.ensures.later c.census_now-stamp.ensures.whole c.min-fewest.result (search rules) c.census_now-stamp.new.desk
      c.census_now-stamp.ensures.longer))
      c.if-last-stamp.true);
  once = λ some. omega arith;
}
