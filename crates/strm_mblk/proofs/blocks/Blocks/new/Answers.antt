use Rattle.std.proofs.Common.{◌≡◌, ap, ◌∙◌, replicate}
use Rattle.strm_mblk.specs.declared.blocks.Fields.{Fields}
use Rattle.strm_mblk.specs.BlocksLayout.{no_fields}
use Rattle.strm_links.specs.ChainLists.{opening_chains}
use Rattle.strm_mblk.proofs.layout.Rooms.{opening_filled, opening_queued, opening_shows}
use Rattle.strm_mblk.proofs.blocks.Blocks.new.Goals.{In_ok-new-2}
use Rattle.strm_mblk.proofs.blocks.Blocks.new.Goals as goal

-- each message block is over data block 0, with no bytes
fields_are : (c : In_ok-new-2) → c.in_ok-new-2.field-0.loads ≡ replicate c.args.mblks no_fields
fields_are c = c.in_ok-new-2.ensures.loads ∙ ap (λ (f : Fields). replicate c.args.mblks f) c.over.ensures

lists_are : (c : In_ok-new-2) → c.in_ok-new-2.field-0.lists ≡ opening_chains c.args.mblks c.args.shelves
lists_are c = c.in_ok-new-2.ensures.opened ∙ ap (opening_chains c.args.mblks) c.from.ensures

pub invariant_of-result : goal.invariant_of-result
invariant_of-result c = record {
  filled =
      opening_filled c.args.id c.args.mblks c.args.shelves c.args.classes.now
      c.in_ok-new.ensures.opened (fields_are c) (lists_are c) c.requires.few_blocks c.requires.classes c.in_ok-new.ensures.kept c.in_ok-new-2.ensures.parted;
  queued = opening_queued c.args.id c.args.mblks c.args.shelves c.args.classes.now c.in_ok-new.ensures.opened (fields_are c) (lists_are c);
}

pub returns : goal.returns
returns c = opening_shows c.args.id c.args.mblks c.args.shelves c.args.classes.now c.in_ok-new.ensures.opened (fields_are c) (lists_are c)
