use Rattle.std.proofs.Common.{◌≡◌, sym, ap, ◌∙◌}
use Rattle.strm_data.specs.CountedStore.{CountedStore}
use Rattle.strm_mblk.specs.Arena.{Arena, message_at}
use Rattle.strm_mblk.specs.BlocksLayout.{arena_of, message_of}
use Rattle.strm_mblk.specs.InPlace.{store_overwritten}
use Rattle.strm_links.specs.ChainLists.{nodes_at}
use Rattle.strm_mblk.proofs.Altering.{alters_overwritten}
use Rattle.strm_mblk.proofs.layout.Rooms.{filled-over}
use Rattle.strm_mblk.proofs.layout.StoredArena.{message_at-seen}
use Rattle.strm_mblk.proofs.blocks.Blocks.overwrite_across.Goals as goal

pub invariant_of-self : goal.invariant_of-self
invariant_of-self c = record {
  filled =
      filled-over c.self.invariant.filled c.overwrite_blocks.ensures.kept
      (ap (λ (s : CountedStore). s.counts) c.overwrite_blocks.ensures.after) (record { many = c.overwrite_blocks.ensures.blocks; room = c.overwrite_blocks.ensures.rooms });
  queued = c.self.invariant.queued;
}

pub returns : goal.returns
returns c =
    let h = c.args.token.now.head in
    let a = c.args.self.now in
    let bytes = c.args.bytes.now in
    let now : arena_of c.self.inside.id c.overwrite_blocks.new.stored.store c.self.inside.chains.loads c.self.inside.chains.lists ≡ record a { store = store_overwritten c.args.at bytes (message_at a h) a.store } =
    ap (λ (s : CountedStore). arena_of c.self.inside.id s.store c.self.inside.chains.loads c.self.inside.chains.lists) c.overwrite_blocks.ensures.after
    ∙ (λ i. arena_of c.self.inside.id (store_overwritten c.args.at bytes (message_of c.self.inside.chains.loads (nodes_at c.self.inside.chains.lists (c.head.ensures i))) c.self.inside.data.store) c.self.inside.chains.loads c.self.inside.chains.lists)
    ∙ (λ i. arena_of c.self.inside.id (store_overwritten c.args.at bytes (sym (message_at-seen c.self.inside.id c.self.inside.data.store c.self.inside.chains.loads c.self.inside.chains.lists h) i) c.self.inside.data.store) c.self.inside.chains.loads c.self.inside.chains.lists)
    ∙ ap (λ (x : Arena). record x { store = store_overwritten c.args.at bytes (message_at x h) x.store }) c.self.view_is in
    alters_overwritten a c.args.token.now c.requires c.args.at bytes (sym c.is_shorter.ensures ∙ c.if-is_shorter.false) (sym c.touches_shared.ensures ∙ c.if-touches_shared.false) now
