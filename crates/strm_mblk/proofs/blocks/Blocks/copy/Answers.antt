use Rattle.std.proofs.Common.{refl, None, Some, ◌≡◌, ℕ, ◌+◌, ◌≤◌, List, true, ap, subst, sym, ◌∙◌, arith, Err, ◌<◌, length}
use Rattle.std.specs.Prelude.{is_some, take}
use Rattle.std.specs.Result.{is_ok}
use Rattle.strm_data.specs.DataStore.{times}
use Rattle.strm_data.specs.declared.refusal.Refusal.TheVariants.{NoMblk}
use Rattle.std.proofs.lemmas.Bool.{cond-true, lt-ltb}
use Rattle.strm_mblk.specs.declared.blocks.Fields.{Fields}
use Rattle.strm_mblk.specs.Arena.{Arena, has, message_at}
use Rattle.strm_mblk.specs.Block.{Block}
use Rattle.strm_mblk.specs.BlockCalls.{blocks_copied, message_copied}
use Rattle.strm_mblk.specs.BlocksLayout.{arena_in, arena_of, message_of}
use Rattle.strm_mblk.specs.Copying.{AreCopied}
use Rattle.strm_links.specs.ChainLists.{nodes_at, ChainLists}
use Rattle.strm_mblk.proofs.making.Duplicated.{IsBeside, beside}
use Rattle.strm_mblk.proofs.making.CopiesCounted.{block_there, fits_each}
use Rattle.strm_mblk.proofs.making.Copied.{IsCopied, copied_all}
use Rattle.strm_mblk.proofs.arena.Counts.{of_blocks, taken_many}
use Rattle.strm_mblk.proofs.arena.Frame.{leaves_copied}
use Rattle.strm_mblk.proofs.arena.Calls.{gives, gives_none}
use Rattle.strm_mblk.proofs.layout.StoredArena.{parted_inside, still_whole}
use Rattle.strm_mblk.proofs.blocks.Blocks.copy.Goals.{After-begin_all-head, After-copy_blocks, After-free_len}
use Rattle.strm_mblk.proofs.blocks.Blocks.copy.Goals as goal
use Rattle.std.proofs.lemmas.Grind.{common_steps}

module _ (c : After-begin_all-head) where
  had : has (arena_in c.self.inside) c.args.token.now ≡ true
  had = subst (λ a. has a c.args.token.now ≡ true) (sym c.self.view_is) c.requires.had

  is_beside : IsBeside c.self.inside.chains.lists c.begin_all-head.new.self.lists c.args.token.now.head c.begin_all-head.result c.args.count
  is_beside =
      beside c.self.invariant.filled c.args.token.now had c.args.count (of_blocks (parted_inside c.self.invariant c.self.view_is) c.args.token.now c.requires.had c.args.count c.requires.count)
      (omega (arith, c.if-free_len-count.false, c.free_len.ensures)) c.begin_all-head.ensures.answer c.begin_all-head.ensures.after

pub copies_fit-requires-clause-classed : goal.copies_fit-requires-clause-classed
copies_fit-requires-clause-classed c =
    let s = c.self.inside.data in
    let v = c.self.inside.chains.lists in
    let fields = c.self.inside.chains.loads in
    let filled = c.self.invariant.filled in
    let head = c.head-from.result in
    fits_each filled.kept (take c.args.count (message_of fields (nodes_at v head))) (λ k b at.
    let of = block_there fields filled.parted filled.listed head c.args.count k at in omega (arith, (filled.placed of.0 of.1).there, ap (λ (x : Block). x.data_number) of.2))

pub copy_blocks-requires-clause-into : goal.copy_blocks-requires-clause-into
copy_blocks-requires-clause-into c = (is_beside (goal.at.copy_blocks-requires-clause-into c).After-begin_all-head).into.begun

pub copy_blocks-requires-clause-count : goal.copy_blocks-requires-clause-count
copy_blocks-requires-clause-count c = (is_beside (goal.at.copy_blocks-requires-clause-count c).After-begin_all-head).into.many

pub copy_blocks-requires-clause-apart : goal.copy_blocks-requires-clause-apart
copy_blocks-requires-clause-apart c n =
    subst (λ g. times n (nodes_at c.begin_all-head.new.self.lists g) + times n (nodes_at c.begin_all-head.new.self.lists c.begin_all-head.result) ≤ 1) (sym c.head-from.ensures)
    ((is_beside (goal.at.copy_blocks-requires-clause-apart c).After-begin_all-head).apart n)

pub copy_blocks-requires-clause-fit : goal.copy_blocks-requires-clause-fit
copy_blocks-requires-clause-fit c =
    let nodes : nodes_at c.begin_all-head.new.self.lists c.head-from.result ≡ nodes_at c.self.inside.chains.lists c.head-from.result =
    ap (nodes_at c.begin_all-head.new.self.lists) c.head-from.ensures ∙ (is_beside (goal.at.copy_blocks-requires-clause-fit c).After-begin_all-head).from_is
    ∙ ap (nodes_at c.self.inside.chains.lists) (sym c.head-from.ensures) in
    (λ i. is_ok (blocks_copied None (take c.args.count (message_of (c.begin_all-head.ensures.loads i) (nodes i))) c.self.inside.data.store))
    ∙ sym c.copies_fit.ensures.fit ∙ c.if-not-copies_fit.false

module _ (c : After-copy_blocks) where
  -- what message blocks say then, and where they are
  abbrev said : List Fields
  said = c.copy_blocks.new.chains.loads

  abbrev lists : ChainLists
  lists = c.copy_blocks.new.chains.lists

  abbrev now : Arena
  now = arena_of c.self.inside.id c.copy_blocks.new.stored.store said lists

  is_copied : IsCopied c.args.self.now c.copy_blocks.new.stored said lists c.self.inside.id c.begin_all-head.result c.args.count c.args.token.now
  is_copied =
      subst (λ (p : Arena × ChainLists). IsCopied p.0 c.copy_blocks.new.stored said p.1 c.self.inside.id c.begin_all-head.result c.args.count c.args.token.now) (λ i. (c.self.view_is i, sym c.copy_blocks.ensures.lists i))
      (copied_all c.self.invariant.filled c.args.token.now (subst (λ a. has a c.args.token.now ≡ true) (sym c.self.view_is) c.requires.had)
      c.args.count (of_blocks (parted_inside c.self.invariant c.self.view_is) c.args.token.now c.requires.had c.args.count c.requires.count) (omega (arith, c.if-free_len-count.false, c.free_len.ensures))
      c.begin_all-head.result c.begin_all-head.ensures.answer c.begin_all-head.new.self.lists c.begin_all-head.ensures.after c.begin_all-head.ensures.parted
      c.copy_blocks.new.stored said c.copy_blocks.ensures.kept
      (subst (λ (p : List Fields × ℕ).
      AreCopied None (take c.args.count (message_of p.0 (nodes_at c.begin_all-head.new.self.lists p.1))) (nodes_at c.begin_all-head.new.self.lists c.begin_all-head.result) p.0 said c.self.inside.data c.copy_blocks.new.stored)
      (λ i. (c.begin_all-head.ensures.loads i, c.head-from.ensures i)) c.copy_blocks.ensures.after))

pub invariant_of-self : goal.invariant_of-self
invariant_of-self c =
    let is = is_copied (goal.at.invariant_of-self c).After-copy_blocks in still_whole _ c.self.invariant c.self.view_is refl is.is.begun.filled is.is.begun.shelved

pub token-requires : goal.token-requires
token-requires c = ap is_some (is_copied (goal.at.token-requires c).After-copy_blocks).is.begun.held

pub returns : goal.returns
returns c =
    let at = (goal.at.returns c).After-copy_blocks in
    let is = is_copied at in
    let parted = parted_inside c.self.invariant c.self.view_is in
    gives c.args.self.now (now at) (Some c.args.token.now) _ c.begin_all-head.result is.is.done c.token.ensures is.is.begun.held is.is.begun.absent is.source (leaves_copied parted None _)

-- ---- too few message blocks are free

few_free : (c : After-free_len) → c.free_len.result < c.args.count → message_copied None (take c.args.count (message_at c.args.self.now c.args.token.now.head)) c.args.self.now ≡ Err NoMblk
few_free c few =
    cond-true _ _ _ (lt-ltb (length c.args.self.now.free) (length (take c.args.count (message_at c.args.self.now c.args.token.now.head))) (omega (
      arith,
      few,
      c.free_len.ensures,
      ap (λ (a : Arena). length a.free) c.self.view_is,
      taken_many (parted_inside c.self.invariant c.self.view_is) c.args.token.now c.requires.had c.args.count c.requires.count,
    )))

pub returns-then-free_len-count : goal.returns-then-free_len-count
returns-then-free_len-count c = grind (arith, common_steps, gives_none, few_free)
