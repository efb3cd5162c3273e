use Rattle.std.proofs.Common.{◌≡◌, length, sym, ap, ◌∙◌}
use Rattle.strm_mblk.specs.Arena.{shelved_blocks, with_least_reset}
use Rattle.strm_mblk.specs.BlocksLayout.{IsFilled, arena_of}
use Rattle.strm_mblk.specs.declared.blocks.Blocks.TheInside.{Inside}
use Rattle.strm_mblk.proofs.layout.StoredArena.{reloaded}
use Rattle.strm_mblk.proofs.layout.Rooms.{reset_filled}
use Rattle.strm_mblk.proofs.blocks.Blocks.reset_least.Goals.{After-reset_least-2}
use Rattle.strm_mblk.proofs.blocks.Blocks.reset_least.Goals as goal

module _ (c : After-reset_least-2) where
  abbrev i : Inside
  i = c.self.inside

  filled : IsFilled c.reset_least.new.self c.reset_least-2.new.self.loads c.reset_least-2.new.self.lists (arena_of i.id c.reset_least.new.self.store c.reset_least-2.new.self.loads c.reset_least-2.new.self.lists)
  filled =
      reset_filled (reloaded c.reset_least-2.ensures.loads c.self.invariant.filled) c.reset_least.ensures.after c.reset_least.ensures.kept
      c.reset_least-2.ensures.after c.reset_least-2.ensures.parted

  shows : arena_of i.id c.reset_least.new.self.store c.reset_least-2.new.self.loads c.reset_least-2.new.self.lists ≡ with_least_reset c.args.self.now
  shows = (λ j. arena_of i.id (c.reset_least.ensures.after j).store (c.reset_least-2.ensures.loads j) (c.reset_least-2.ensures.after j)) ∙ ap with_least_reset c.self.view_is

pub invariant_of-self : goal.invariant_of-self
invariant_of-self c =
    let at = (goal.at.invariant_of-self c).After-reset_least-2 in
    record { filled = filled at; queued = c.self.invariant.queued ∙ ap (λ a. length (shelved_blocks a)) c.self.view_is ∙ sym (ap (λ a. length (shelved_blocks a)) (shows at)) }

pub returns : goal.returns
returns c = shows (goal.at.returns c).After-reset_least-2
