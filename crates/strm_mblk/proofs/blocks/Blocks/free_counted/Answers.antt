use Rattle.std.proofs.Common.{[], ◌∷◌, ◌≡◌, ◌≤◌, Some, ap, length, subst, sym, ◌∙◌, List, refl}
use Rattle.std.specs.Prelude.{take}
use Rattle.strm_data.specs.CountedStore.{count_of}
use Rattle.strm_data.specs.DataStore.{times}
use Rattle.strm_mblk.specs.declared.blocks.Fields.{Fields}
use Rattle.strm_mblk.specs.declared.token.TokenValue.{TokenValue}
use Rattle.strm_mblk.specs.Arena.{held_at, Arena}
use Rattle.strm_mblk.specs.BlocksLayout.{arena_of, data_used_by, with_references_dropped}
use Rattle.strm_mblk.specs.Freeing.{freemsg, with_token_spent}
use Rattle.strm_mblk.specs.Messages.{held_in}
use Rattle.strm_links.specs.ChainLists.{nodes_at}
use Rattle.strm_mblk.proofs.arena.Counts.{spent_had}
use Rattle.strm_mblk.proofs.layout.HeldBlocks.{token_counted, token_held, token_named}
use Rattle.strm_mblk.proofs.Freeing.{IsFreed, enough, frees}
use Rattle.strm_mblk.proofs.arena.Frame.{Leaves, leaves_spent, spent_gone}
use Rattle.strm_mblk.proofs.layout.StoredArena.{still_whole}
use Rattle.strm_mblk.proofs.blocks.Blocks.free_counted.Goals.{After-free, After-self}
use Rattle.strm_mblk.proofs.blocks.Blocks.free_counted.Goals as goal

module _ (c : After-self) where
  held : held_in c.self.inside.chains.lists.held c.spend-token.result.head ≡ Some (nodes_at c.self.inside.chains.lists c.spend-token.result.head)
  held = token_held c.self.inside.data c.self.inside.chains.loads c.self.inside.chains.lists c.self.view_is c.args.token c.spend-token.result c.spend-token.ensures c.requires.had

  -- it has as many blocks as the caller says
  many : c.spend-token.result.blocks ≡ c.args.blocks
  many = ap (λ (t : TokenValue). t.blocks) c.spend-token.ensures ∙ sym c.requires.blocks

  counted : c.args.blocks ≡ length (nodes_at c.self.inside.chains.lists c.spend-token.result.head)
  counted = sym many ∙ token_counted c.self.inside.data c.self.inside.chains.loads c.self.inside.chains.lists c.self.view_is c.spend-token.ensures c.requires.had

  all : take c.args.blocks (data_used_by c.self.inside.chains.loads (nodes_at c.self.inside.chains.lists c.spend-token.result.head))
      ≡ data_used_by c.self.inside.chains.loads (nodes_at c.self.inside.chains.lists c.spend-token.result.head)
  all = subst (λ n. take n (data_used_by c.self.inside.chains.loads (nodes_at c.self.inside.chains.lists c.spend-token.result.head)) ≡ data_used_by c.self.inside.chains.loads (nodes_at c.self.inside.chains.lists c.spend-token.result.head)) many
      (token_named c.self.inside.data c.self.inside.chains.loads c.self.inside.chains.lists c.self.view_is c.spend-token.ensures c.requires.had)

pub drop_references-requires-clause-named : goal.drop_references-requires-clause-named
drop_references-requires-clause-named c d =
    let ns = nodes_at c.self.inside.chains.lists c.spend-token.result.head in
    let at = (goal.at.drop_references-requires-clause-named c).After-self in
    subst (λ ds. times d ds ≤ count_of c.self.inside.data d)
    (sym (all at))
    (enough c.self.inside.id c.self.inside.data c.self.inside.chains.loads c.self.inside.chains.lists c.self.invariant.filled c.spend-token.result.head (held at) d)

pub free-requires-clause-len : goal.free-requires-clause-len
free-requires-clause-len c = counted (goal.at.free-requires-clause-len c).After-self

is_freed : (c : After-free) → IsFreed c.args.self.now (freemsg c.spend-token.result.head c.args.self.now) c.drop_references.new.stored c.free.new.self.loads c.free.new.self.lists c.self.inside.id
is_freed c =
    let i = c.self.inside in
    let at = (goal.at.invariant_of-self c).After-self in
    let dropped = c.drop_references.ensures.after ∙ ap (λ ds. with_references_dropped ds i.data) (all at) in
    subst (λ (p : Arena × List Fields). IsFreed p.0 (freemsg c.spend-token.result.head p.0) c.drop_references.new.stored p.1 c.free.new.self.lists i.id) (λ j. (c.self.view_is j, sym c.free.ensures.loads j))
    (frees i.id i.data i.chains.loads i.chains.lists c.self.invariant.filled c.spend-token.result.head (held at)
    c.drop_references.new.stored c.free.new.self.lists dropped c.drop_references.ensures.kept c.free.ensures.after c.free.ensures.parted)

pub invariant_of-self : goal.invariant_of-self
invariant_of-self c = still_whole _ c.self.invariant c.self.view_is refl (is_freed c).filled (is_freed c).shelved

freed_is : (c : After-free) → arena_of c.self.inside.id c.drop_references.new.stored.store c.free.new.self.loads c.free.new.self.lists ≡ freemsg c.args.token.head c.args.self.now
freed_is c = (is_freed c).after ∙ ap (λ (t : TokenValue). freemsg t.head c.args.self.now) c.spend-token.ensures

pub returns : goal.returns
returns c =
    let spent : freemsg c.args.token.head c.args.self.now ≡ with_token_spent c.args.self.now c.args.token = spent_had c.args.self.now c.args.token c.args.token refl c.requires.had in
    let is = freed_is c ∙ spent in
    let left = subst (Leaves (c.args.token.head ∷ []) c.args.self.now) (sym is) (leaves_spent c.args.self.now c.args.token) in
    record {
      after = freed_is c;
      gone = λ had. ap (λ a. held_at a c.args.token.head) is ∙ spent_gone c.args.self.now c.args.token had;
      others = left.others;
      shelves = left.shelves;
    }
