use Rattle.std.proofs.Common.{◌≡◌, ◌≤◌, ◌<◌, ◌^◌, ℕ, List, true, [], ◌∷◌, length, map, Ok, sym, ap, ◌∙◌, subst, arith}
use Rattle.std.proofs.lemmas.Bool.{cond-false, le-ltb}
use Rattle.std.proofs.lemmas.List.{length-map}
use Rattle.strm_mblk.specs.declared.block_place.Shape.{Shape}
use Rattle.strm_mblk.specs.declared.blocks.Fields.{Fields}
use Rattle.strm_mblk.specs.Arena.{Arena, has, message_at, shelved_blocks}
use Rattle.strm_mblk.specs.BlocksLayout.{IsFilled, arena_of, fields_at, message_of, with_shapes}
use Rattle.strm_mblk.specs.Given.{answer_map}
use Rattle.strm_mblk.specs.InPlace.{shape_all, shapes_fit, store_retyped}
use Rattle.strm_mblk.specs.Messages.{blocks_of}
use Rattle.strm_links.specs.ChainLists.{nodes_at, ChainLists}
use Rattle.strm_mblk.proofs.Altering.{shaped_filled, shaped_had, shaped_leaves, shaped_shows, with_shaped}
use Rattle.strm_mblk.proofs.arena.Calls.{alters_to}
use Rattle.strm_mblk.proofs.arena.Counts.{had_message}
use Rattle.strm_mblk.proofs.arena.Frame.{Leaves}
use Rattle.strm_mblk.proofs.blocks.Blocks.shape_all.Goals.{After-shape_blocks}
use Rattle.strm_mblk.proofs.blocks.Blocks.shape_all.Goals as goal

module _ (g : _) (c : After-shape_blocks g) where
  abbrev xs : List Shape
  xs = map g.S.Shaped.shape c.args.shapes.now

  abbrev nodes : List ℕ
  nodes = nodes_at c.self.inside.chains.lists c.args.token.now.head

  abbrev now : List Fields
  now = c.shape_blocks.new.chains.loads

  abbrev lists : ChainLists
  lists = c.shape_blocks.new.chains.lists

  fits : shapes_fit c.args.self.now xs (message_at c.args.self.now c.args.token.now.head) ≡ Ok tt
  fits = sym c.in_ok-fit.ensures

  now_is : now ≡ with_shapes xs nodes c.self.inside.chains.loads
  now_is = c.shape_blocks.ensures.fields ∙ ap (λ h. with_shapes xs (nodes_at c.self.inside.chains.lists h) c.self.inside.chains.loads) c.head.ensures

  stored_is : c.shape_blocks.new.stored ≡ record c.self.inside.data { store = store_retyped xs (message_of c.self.inside.chains.loads nodes) c.self.inside.data.store }
  stored_is =
      c.shape_blocks.ensures.after
      ∙ ap (λ h. record c.self.inside.data { store = store_retyped xs (message_of c.self.inside.chains.loads (nodes_at c.self.inside.chains.lists h)) c.self.inside.data.store }) c.head.ensures

  filled : IsFilled c.shape_blocks.new.stored now lists (arena_of c.self.inside.id c.shape_blocks.new.stored.store now lists)
  filled =
      subst (λ (p : List Fields × ChainLists). IsFilled c.shape_blocks.new.stored p.0 p.1 (arena_of c.self.inside.id c.shape_blocks.new.stored.store p.0 p.1)) (λ i. (sym now_is i, sym c.shape_blocks.ensures.lists i))
      (shaped_filled c.self.inside.id c.self.inside.data c.self.inside.chains.loads c.self.inside.chains.lists c.self.invariant.filled c.args.self.now c.self.view_is c.args.token.now c.requires xs
      c.shape_blocks.new.stored stored_is fits c.shape_blocks.ensures.kept
      (subst (λ fs. (n : ℕ) → n < length fs → (fields_at fs n).band < 2 ^ 8) now_is c.shape_blocks.ensures.banded))

  shows : arena_of c.self.inside.id c.shape_blocks.new.stored.store now lists ≡ with_shaped c.args.token.now.head xs c.args.self.now
  shows =
      (λ i. arena_of c.self.inside.id c.shape_blocks.new.stored.store (now_is i) (c.shape_blocks.ensures.lists i))
      ∙ shaped_shows c.self.inside.id c.self.inside.data c.self.inside.chains.loads c.self.inside.chains.lists c.self.invariant.filled c.args.self.now c.self.view_is c.args.token.now c.requires xs c.shape_blocks.new.stored stored_is

pub invariant_of-self : goal.invariant_of-self
invariant_of-self g c =
    let at = (goal.at.invariant_of-self g c).After-shape_blocks in
    record {
      filled = filled g at;
      queued =
          c.self.invariant.queued ∙ ap (λ (a : Arena). length (shelved_blocks a)) c.self.view_is
          ∙ sym (ap (λ (a : Arena). length (shelved_blocks a)) (shows g at));
    }

pub returns : goal.returns
returns g c =
    let at = (goal.at.returns g c).After-shape_blocks in
    let a = c.args.self.now in
    let t = c.args.token.now in
    let message = had_message a t c.requires in
    let few : length (xs g at) ≤ length (message_at a t.head) =
    omega (arith, c.if-shapes-blocks.false, c.blocks-2.ensures, message.1.blocks, ap (λ o. length (blocks_of o)) message.1.held, length-map c.args.shapes.now g.S.Shaped.shape) in
    alters_to a _ t (shape_all t.head (xs g at) a) tt
    (cond-false _ _ _ (le-ltb _ _ few) ∙ ap (answer_map (λ u. (tt, with_shaped t.head (xs g at) a))) (fits g at) ∙ ap (λ (x : Arena). Ok (tt, x)) (sym (shows g at)))
    (subst (λ x. has x t ≡ true) (sym (shows g at)) (shaped_had a t c.requires (xs g at) (fits g at)))
    (subst (Leaves (t.head ∷ []) a) (sym (shows g at)) (shaped_leaves a t c.requires (xs g at) (fits g at)))
