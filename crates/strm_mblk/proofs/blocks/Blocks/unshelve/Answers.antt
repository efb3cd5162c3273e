use Rattle.std.proofs.Common.{Ok, [], ◌∷◌, ◌≡◌, ap, refl, subst, sym, true, ◌∙◌, arith, length}
use Rattle.std.specs.Prelude.{is_some}
use Rattle.std.proofs.lemmas.List.{length-map}
use Rattle.strm_links.specs.Rows.{has}
use Rattle.strm_mblk.specs.declared.token.TokenValue.{TokenValue}
use Rattle.strm_mblk.specs.Arena as arena
use Rattle.strm_mblk.specs.Arena.{Arena, shelved_blocks}
use Rattle.strm_mblk.specs.BlocksLayout.{arena_in, arena_of, block_at}
use Rattle.strm_links.specs.ChainLists.{nodes_at}
use Rattle.strm_mblk.specs.Frame.{LeavesOthers}
use Rattle.strm_mblk.specs.Shelves.{heads_at, unshelve}
use Rattle.strm_mblk.proofs.layout.HeldBlocks.{held_nodes}
use Rattle.strm_mblk.proofs.layout.StoredArena.{message_at-seen, reloaded, reviewed}
use Rattle.strm_mblk.proofs.Shelving.{IsUnshelved, heads_at-seen, unshelves}
use Rattle.strm_mblk.proofs.arena.Counts.{token_had}
use Rattle.strm_mblk.proofs.arena.Frame.{others_one}
use Rattle.strm_mblk.proofs.blocks.Blocks.unshelve.Goals.{After-from, After-unshelve}
use Rattle.strm_mblk.proofs.blocks.Blocks.unshelve.Goals as goal

-- the message is on the shelf
there : (c : After-from) → has c.args.head (heads_at (arena_in c.self.inside) c.from.result) ≡ true
there c = (λ i. has c.args.head (heads_at (c.self.view_is i) (c.from.ensures i))) ∙ c.requires.there

pub unshelve-requires-clause-there : goal.unshelve-requires-clause-there
unshelve-requires-clause-there c =
    ap (has c.args.head) (sym (heads_at-seen c.self.inside.id c.self.inside.data.store c.self.inside.chains.loads c.self.inside.chains.lists c.from.result))
    ∙ there (goal.at.unshelve-requires-clause-there c).After-from

is_unshelved : (c : After-unshelve) → IsUnshelved c.args.self.now c.self.inside.data c.unshelve.new.self.loads c.unshelve.new.self.lists c.self.inside.id c.args.shelf c.args.head
is_unshelved c =
    subst (λ a. IsUnshelved a c.self.inside.data c.unshelve.new.self.loads c.unshelve.new.self.lists c.self.inside.id c.args.shelf c.args.head) (reviewed c.self.inside.data.store c.self.inside.chains.lists c.unshelve.ensures.loads c.self.view_is)
    (subst (λ s. IsUnshelved (arena_of c.self.inside.id c.self.inside.data.store c.unshelve.new.self.loads c.self.inside.chains.lists) c.self.inside.data c.unshelve.new.self.loads c.unshelve.new.self.lists c.self.inside.id s c.args.head) c.from.ensures
    (unshelves (reloaded c.unshelve.ensures.loads c.self.invariant.filled) c.from.result c.args.head
    (omega (arith, c.requires.shelf, c.from.ensures, ap (λ (a : Arena). length a.shelves) (reviewed c.self.inside.data.store c.self.inside.chains.lists c.unshelve.ensures.loads c.self.view_is))) ((λ i. has c.args.head (heads_at ((reviewed c.self.inside.data.store c.self.inside.chains.lists c.unshelve.ensures.loads c.self.view_is) i) (c.from.ensures i))) ∙ c.requires.there) c.unshelve.ensures.after c.unshelve.ensures.parted))

pub len-blocks-requires : goal.len-blocks-requires
len-blocks-requires c =
    let is = is_unshelved (goal.at.len-blocks-requires c).After-unshelve in
    ap is_some (held_nodes c.self.inside.id c.self.inside.data.store c.unshelve.new.self.loads c.unshelve.new.self.lists c.args.head is.held).1.held

pub overflow_sub-self : goal.overflow_sub-self
overflow_sub-self c =
    let is = is_unshelved (goal.at.overflow_sub-self c).After-unshelve in
    omega (arith, c.len-blocks.ensures, c.self.invariant.queued, ap (λ a. length (shelved_blocks a)) c.self.view_is, is.queued)

pub invariant_of-self : goal.invariant_of-self
invariant_of-self c =
    let is = is_unshelved (goal.at.invariant_of-self c).After-unshelve in
    record {
      filled = is.filled;
      queued = omega (arith, c.len-blocks.ensures, c.self.invariant.queued, ap (λ a. length (shelved_blocks a)) c.self.view_is, is.queued);
    }

pub token_of-requires-clause-number : goal.token_of-requires-clause-number
token_of-requires-clause-number c =
    let ns = nodes_at c.unshelve.new.self.lists c.args.head in
    c.len-blocks.ensures.number ∙ sym (ap length (message_at-seen c.self.inside.id c.self.inside.data.store c.unshelve.new.self.loads c.unshelve.new.self.lists c.args.head) ∙ length-map ns (block_at c.unshelve.new.self.loads))

pub returns : goal.returns
returns c =
    let is = is_unshelved (goal.at.returns c).After-unshelve in
    let now = arena_of c.self.inside.id c.self.inside.data.store c.unshelve.new.self.loads c.unshelve.new.self.lists in
    record {
      after = is.after;
      token = ap (λ (t : TokenValue). Ok t) c.token_of.ensures;
      had = ap (arena.has now) c.token_of.ensures ∙ token_had now c.args.head is.message is.held;
      unheld = ap (λ (t : TokenValue). arena.held_at c.args.self.now t.head) c.token_of.ensures ∙ is.unheld;
      others =
          subst (λ (t : TokenValue). LeavesOthers (t.head ∷ []) c.args.self.now now) (sym c.token_of.ensures)
          (subst (LeavesOthers (c.args.head ∷ []) c.args.self.now) (sym is.after) (others_one c.args.self.now (unshelve c.args.shelf c.args.head c.args.self.now) c.args.head _ refl refl));
    }
