use Rattle.std.proofs.Common.{ap, arith}
use Rattle.std.specs.Prelude.{sum_by}
use Rattle.std.proofs.lemmas.List.{take_all}
use Rattle.std.proofs.lemmas.List.Sums.{sum_by_more, sum_by_more_le}
use Rattle.strm_data.specs.DataStore.{no_class_spec}
use Rattle.strm_c.specs.Memory.{bytes_of_class}
use Rattle.strm_c.proofs.Measuring.{lawful_few, own_few}
use Rattle.strm_c.proofs.memory.bytes_of_classes.Goals as goal

pub in_lines-own-requires : goal.in_lines-own-requires
in_lines-own-requires c = own_few c.args.classes.now c.requires c.loop-class.class-index c.loop-class-test.true

pub loop-class-preserved : goal.loop-class-preserved
loop-class-preserved c = omega (arith, c.loop-class.invariant, sum_by_more bytes_of_class c.args.classes.now c.loop-class.class-index no_class_spec c.loop-class-test.true)

pub overflow_add-bytes-in-loop-class-2 : goal.overflow_add-bytes-in-loop-class-2
overflow_add-bytes-in-loop-class-2 c =
    omega (arith, c.loop-class.invariant, sum_by_more_le bytes_of_class c.args.classes.now c.loop-class.class-index no_class_spec c.loop-class-test.true, lawful_few c.args.classes.now c.requires)

pub returns-clause-few : goal.returns-clause-few
returns-clause-few c =
    omega (arith, c.loop-class.invariant, ap (sum_by bytes_of_class) (take_all c.loop-class.class-index c.args.classes.now c.loop-class-test.false), lawful_few c.args.classes.now c.requires)
