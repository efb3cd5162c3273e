use Rattle.std.proofs.Common.{◌≤◌, length, subst, arith}
use Rattle.strm_data.specs.DataStore.{class_infos}
use Rattle.strm_data.specs.Limits.{most_classes}
use Rattle.strm_data.proofs.store.Kept.{length-class_infos}
use Rattle.strm_data.proofs.store.Lawful.{lawful_few}
use Rattle.strm_mblk.specs.Arena.{counted_in}
use Rattle.strm_pool.specs.Lawful.{IsLawful}
use Rattle.strm_pool.proofs.pool.Pool.lawful.Goals as goal

pub returns : goal.returns
returns c =
    let blocks = c.lawful.ensures in
    let queues = c.lawful-2.ensures in
    let wishes = c.lawful-3.ensures in
    let few_classes : length (class_infos c.self.inside.blocks.store) ≤ most_classes =
    omega (arith, length-class_infos (counted_in c.self.inside.blocks) blocks.kept, lawful_few c.self.inside.blocks.store.classes blocks.kept.lawful) in
    subst IsLawful c.self.view_is (record {
      parted = blocks.parted;
      kept = blocks.kept;
      within = blocks.within;
      bands = blocks.bands;
      whole = blocks.whole;
      few = blocks.few;
      few_classes = few_classes;
      lawful_queues = queues.specs;
      few_queues = queues.few;
      flagged = queues.flagged;
      marked = queues.marked;
      banded = queues.banded;
      shelves = c.self.invariant.in_order.shelves;
      ordered = queues.ordered;
      forward = queues.forward;
      backward = queues.backward;
      apart = queues.apart;
      marks = queues.marks;
      bytes = queues.whole;
      lawful_wishes = wishes.lawful;
      few_wishes = wishes.few;
      short = queues.short;
      once = queues.once;
      served = queues.served;
    })
