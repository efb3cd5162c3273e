use Rattle.std.proofs.Common.{refl, None, Some, ◌≡◌, ◌<◌, ◌≤◌, ap, subst, sym, ◌∙◌, arith, length, Err, List}
use Rattle.std.specs.Prelude.{is_some}
use Rattle.std.proofs.lemmas.Bool.{cond-true}
use Rattle.strm_data.specs.declared.refusal.Refusal.TheVariants.{TooLarge}
use Rattle.strm_mblk.specs.declared.blocks.Fields.{Fields}
use Rattle.strm_mblk.specs.Arena.{Arena, message_at}
use Rattle.strm_mblk.specs.Block.{Message}
use Rattle.strm_mblk.specs.BlockCalls.{fits_classes, message_copied, transfer}
use Rattle.strm_mblk.specs.BlocksLayout.{arena_of}
use Rattle.strm_mblk.specs.Copying.{AreCopied}
use Rattle.strm_mblk.specs.Messages.{blocks_of}
use Rattle.strm_links.specs.ChainLists.{nodes_at, ChainLists}
use Rattle.strm_mblk.proofs.making.Duplicated.{IsInto, into_is}
use Rattle.strm_mblk.proofs.making.Copied.{IsMade, is_made}
use Rattle.strm_mblk.proofs.arena.Counts.{some_blocks, had_message}
use Rattle.strm_mblk.proofs.arena.Frame.{leaves_transfer}
use Rattle.strm_mblk.proofs.arena.Calls.{gives}
use Rattle.strm_mblk.proofs.layout.StoredArena.{parted_inside, still_whole}
use Rattle.strm_mblk.proofs.blocks.Blocks.take_over.Goals.{After-begin_all-head, After-copy_into}
use Rattle.strm_mblk.proofs.blocks.Blocks.take_over.Goals as goal

module _ (c : After-begin_all-head) where
  some : 0 < c.blocks-count.result
  some =
      omega (arith, c.blocks-count.ensures, some_blocks (parted_inside c.other.invariant c.other.view_is) c.args.token.now c.requires)

  free : c.blocks-count.result ≤ length c.self.inside.chains.lists.free
  free = omega (arith, c.if-free_len-count.false, c.free_len.ensures)

  -- the first free message blocks are a message
  into : IsInto c.self.inside.chains.lists c.begin_all-head.new.self.lists c.begin_all-head.result c.blocks-count.result
  into =
      into_is c.self.invariant.filled.parted c.blocks-count.result some free c.begin_all-head.ensures.answer c.begin_all-head.ensures.after

pub copy_into-requires-clause-begun : goal.copy_into-requires-clause-begun
copy_into-requires-clause-begun c = (into (goal.at.copy_into-requires-clause-begun c).After-begin_all-head).begun

pub copy_into-requires-clause-count : goal.copy_into-requires-clause-count
copy_into-requires-clause-count c = (into (goal.at.copy_into-requires-clause-count c).After-begin_all-head).many ∙ c.blocks-count.ensures

module _ (c : After-copy_into) where
  abbrev m : Message
  m = message_at c.args.other.now c.args.token.now.head

  many : length m ≡ c.blocks-count.result
  many =
      let message = had_message c.args.other.now c.args.token.now c.requires in
      ap (λ o. length (blocks_of o)) message.1.held ∙ message.1.blocks ∙ sym c.blocks-count.ensures

  -- what message blocks say then, and where they are
  abbrev said : List Fields
  said = c.copy_into.new.chains.loads

  abbrev lists : ChainLists
  lists = c.copy_into.new.chains.lists

  abbrev now : Arena
  now = arena_of c.self.inside.id c.copy_into.new.stored.store said lists

  made : IsMade (Some c.args.other.now.store) m c.args.self.now c.copy_into.new.stored said lists c.self.inside.id c.begin_all-head.result
  made =
      let begun = (goal.at.After-copy_into c).After-begin_all-head in
      subst (λ (p : Arena × ChainLists). IsMade (Some c.args.other.now.store) m p.0 c.copy_into.new.stored said p.1 c.self.inside.id c.begin_all-head.result) (λ i. (c.self.view_is i, sym c.copy_into.ensures.lists i))
      (is_made (Some c.args.other.now.store) m many c.self.invariant.filled (some begun) (free begun)
      c.begin_all-head.result c.begin_all-head.ensures.answer c.begin_all-head.new.self.lists c.begin_all-head.ensures.after (into begun).is c.begin_all-head.ensures.parted
      c.copy_into.new.stored said c.copy_into.ensures.kept
      (subst (λ fields. AreCopied (Some c.args.other.now.store) m (nodes_at c.begin_all-head.new.self.lists c.begin_all-head.result) fields said c.self.inside.data c.copy_into.new.stored) c.begin_all-head.ensures.loads
      c.copy_into.ensures.after))

pub invariant_of-self : goal.invariant_of-self
invariant_of-self c =
    let is = made (goal.at.invariant_of-self c).After-copy_into in still_whole _ c.self.invariant c.self.view_is refl is.begun.filled is.begun.shelved

pub token-requires : goal.token-requires
token-requires c = ap is_some (made (goal.at.token-requires c).After-copy_into).begun.held

pub returns : goal.returns
returns c =
    let at = (goal.at.returns c).After-copy_into in
    let is = made at in
    let parted = parted_inside c.self.invariant c.self.view_is in
    let fits =
    ap (λ (a : Arena). fits_classes c.args.other.now.store (m at) a.store) (sym c.self.view_is) ∙ sym c.fits_classes.ensures ∙ c.if-not-fits_classes.false in
    let done = cond-true _ (message_copied (Some c.args.other.now.store) (m at) c.args.self.now) (Err TooLarge) fits ∙ is.done in
    gives c.args.self.now (now at) None (transfer c.args.other.now c.args.token.now.head c.args.self.now) c.begin_all-head.result done c.token.ensures is.begun.held is.begun.absent tt
    (leaves_transfer parted c.args.other.now c.args.token.now.head)
