use Rattle.std.proofs.Common.{Some, ◌≡◌, ℕ, ◌+◌, ◌<◌, ◌≤◌, true, false, not, Bool, List, ap, refl, subst, sym, ◌∙◌, Err, map, take, arith, length}
use Rattle.std.specs.Prelude.{is_some, take}
use Rattle.strm_data.specs.CountedStore.{CountedStore, count_of}
use Rattle.strm_data.specs.DataStore.{times}
use Rattle.strm_data.specs.declared.refusal.Refusal.TheVariants.{RefMax, NoMblk}
use Rattle.std.proofs.lemmas.Bool.{cond-true, lt-ltb}
use Rattle.strm_mblk.specs.declared.blocks.Fields.{Fields}
use Rattle.strm_mblk.specs.Arena.{Arena, has, message_at}
use Rattle.strm_mblk.specs.BlockCalls.{message_duplicated}
use Rattle.strm_mblk.specs.BlocksLayout.{arena_in, arena_of, exceeds_counts, fields_at, data_used_by, with_fields, with_references_given}
use Rattle.strm_links.specs.ChainLists.{nodes_at, ChainLists}
use Rattle.strm_mblk.proofs.making.Duplicated.{IsBeside, beside, IsDuplicated, duplicates, refused, used}
use Rattle.strm_mblk.proofs.arena.Counts.{of_blocks, taken_many}
use Rattle.strm_mblk.proofs.arena.Frame.{leaves_duplicated}
use Rattle.strm_mblk.proofs.arena.Calls.{gives, gives_none}
use Rattle.strm_mblk.proofs.layout.StoredArena.{parted_inside, still_whole}
use Rattle.strm_mblk.proofs.blocks.Blocks.duplicate.Goals.{After-copy_fields, After-head-from, After-begin_all-head, After-free_len, Then-not-give_references}
use Rattle.strm_mblk.proofs.blocks.Blocks.duplicate.Goals as goal
use Rattle.std.proofs.lemmas.Grind.{common_steps}

module _ (c : After-head-from) where
  had : has (arena_in c.self.inside) c.args.token.now ≡ true
  had = subst (λ a. has a c.args.token.now ≡ true) (sym c.self.view_is) c.requires.had

  -- the data blocks that the message uses
  named_is : data_used_by c.self.inside.chains.loads (nodes_at c.self.inside.chains.lists c.head-from.result) ≡ data_used_by c.self.inside.chains.loads (nodes_at c.self.inside.chains.lists c.args.token.now.head)
  named_is = λ i. data_used_by (c.self.inside.chains.loads) (nodes_at c.self.inside.chains.lists (c.head-from.ensures i))

  in_use : (d : ℕ) → 0 < times d (data_used_by c.self.inside.chains.loads (nodes_at c.self.inside.chains.lists c.head-from.result)) → 0 < count_of c.self.inside.data d
  in_use =
      subst (λ ds. (d : ℕ) → 0 < times d ds → 0 < count_of c.self.inside.data d) (sym named_is)
      (used c.self.invariant.filled c.args.token.now had c.args.count (of_blocks (parted_inside c.self.invariant c.self.view_is) c.args.token.now c.requires.had c.args.count c.requires.count))

pub give_references-requires-clause-used : goal.give_references-requires-clause-used
give_references-requires-clause-used c = in_use (goal.at.give_references-requires-clause-used c).After-head-from

-- what is refused, and what isn't
refused_by : (b : Bool) → false ≡ not b → b ≡ true
refused_by true is = refl
refused_by false is = is

given_by : (b : Bool) → true ≡ not b → b ≡ false
given_by true is = is
given_by false is = refl

too_many : (c : Then-not-give_references) → message_duplicated (take c.args.count (message_at c.args.self.now c.args.token.now.head)) c.args.self.now ≡ Err RefMax
too_many c =
    let at = (goal.at.returns-then-not-give_references c).After-head-from in
    subst (λ a. message_duplicated (take c.args.count (message_at a c.args.token.now.head)) a ≡ Err RefMax) c.self.view_is
    (refused c.self.invariant.filled c.args.token.now (had at) c.args.count (of_blocks (parted_inside c.self.invariant c.self.view_is) c.args.token.now c.requires.had c.args.count c.requires.count)
    (omega (arith, c.if-free_len-count.false, c.free_len.ensures))
    (refused_by _ (c.if-not-give_references.ensures.answer ∙ ap (λ ds. not (exceeds_counts (take c.args.count ds) c.self.inside.data)) (named_is at))))

pub returns-then-not-give_references : goal.returns-then-not-give_references
returns-then-not-give_references c =
    gives_none c.args.self.now _ (Some c.args.token.now) _ (too_many c)
    (ap (λ (st : CountedStore). arena_of c.self.inside.id st.store c.self.inside.chains.loads c.self.inside.chains.lists) c.if-not-give_references.ensures.after ∙ c.self.view_is)
    c.requires.had

is_beside : (c : After-begin_all-head) → IsBeside c.self.inside.chains.lists c.begin_all-head.new.self.lists c.args.token.now.head c.begin_all-head.result c.args.count
is_beside c =
    beside c.self.invariant.filled c.args.token.now (subst (λ a. has a c.args.token.now ≡ true) (sym c.self.view_is) c.requires.had)
    c.args.count (of_blocks (parted_inside c.self.invariant c.self.view_is) c.args.token.now c.requires.had c.args.count c.requires.count) (omega (arith, c.if-free_len-count.false, c.free_len.ensures)) c.begin_all-head.ensures.answer c.begin_all-head.ensures.after

pub copy_fields-requires-clause-to : goal.copy_fields-requires-clause-to
copy_fields-requires-clause-to c = (is_beside (goal.at.copy_fields-requires-clause-to c).After-begin_all-head).into.begun

pub copy_fields-requires-clause-count : goal.copy_fields-requires-clause-count
copy_fields-requires-clause-count c = sym (is_beside (goal.at.copy_fields-requires-clause-count c).After-begin_all-head).into.many

pub copy_fields-requires-clause-apart : goal.copy_fields-requires-clause-apart
copy_fields-requires-clause-apart c k =
    subst (λ e. times k (nodes_at c.begin_all-head.new.self.lists e) + times k (nodes_at c.begin_all-head.new.self.lists c.begin_all-head.result) ≤ 1) (sym c.head-from.ensures)
    ((is_beside (goal.at.copy_fields-requires-clause-apart c).After-begin_all-head).apart k)

module _ (c : After-copy_fields) where
  -- what message blocks say then, and where they are
  abbrev said : List Fields
  said = c.copy_fields.new.chains.loads

  abbrev lists : ChainLists
  lists = c.copy_fields.new.chains.lists

  abbrev now : Arena
  now = arena_of c.self.inside.id c.give_references.new.stored.store said lists

  is_duplicated : IsDuplicated c.args.self.now c.give_references.new.stored said lists c.self.inside.id c.begin_all-head.result (take c.args.count (message_at c.args.self.now c.args.token.now.head)) c.args.token.now
  is_duplicated =
      let names : data_used_by c.self.inside.chains.loads (nodes_at c.self.inside.chains.lists c.head-from.result) ≡ data_used_by c.self.inside.chains.loads (nodes_at c.self.inside.chains.lists c.args.token.now.head) =
      λ i. data_used_by (c.self.inside.chains.loads) (nodes_at c.self.inside.chains.lists (c.head-from.ensures i)) in
      subst (λ (p : Arena × ChainLists). IsDuplicated p.0 c.give_references.new.stored said p.1 c.self.inside.id c.begin_all-head.result (take c.args.count (message_at p.0 c.args.token.now.head)) c.args.token.now) (λ i. (c.self.view_is i, sym c.copy_fields.ensures.lists i))
      (duplicates c.self.invariant.filled c.args.token.now (subst (λ a. has a c.args.token.now ≡ true) (sym c.self.view_is) c.requires.had)
      c.args.count (of_blocks (parted_inside c.self.invariant c.self.view_is) c.args.token.now c.requires.had c.args.count c.requires.count) (omega (arith, c.if-free_len-count.false, c.free_len.ensures))
      c.begin_all-head.result c.begin_all-head.ensures.answer c.begin_all-head.new.self.lists c.begin_all-head.ensures.after c.begin_all-head.ensures.parted
      c.give_references.new.stored said c.if-not-give_references.ensures.kept
      (given_by _ (c.if-not-give_references.ensures.answer ∙ ap (λ ds. not (exceeds_counts (take c.args.count ds) c.self.inside.data)) names))
      (c.if-not-give_references.ensures.after ∙ ap (λ ds. with_references_given (take c.args.count ds) c.self.inside.data) names)
      (c.copy_fields.ensures.loads
      ∙ (λ i. with_fields (nodes_at c.begin_all-head.new.self.lists c.begin_all-head.result) (map (fields_at (c.begin_all-head.ensures.loads i)) (take c.args.count (nodes_at c.begin_all-head.new.self.lists (c.head-from.ensures i)))) (c.begin_all-head.ensures.loads i))))

pub invariant_of-self-2 : goal.invariant_of-self-2
invariant_of-self-2 c =
    let is = is_duplicated (goal.at.invariant_of-self-2 c).After-copy_fields in still_whole _ c.self.invariant c.self.view_is refl is.begun.filled is.begun.shelved

pub token-requires : goal.token-requires
token-requires c = ap is_some (is_duplicated (goal.at.token-requires c).After-copy_fields).begun.held

pub returns : goal.returns
returns c =
    let at = (goal.at.returns c).After-copy_fields in
    let is = is_duplicated at in
    let parted = parted_inside c.self.invariant c.self.view_is in
    gives c.args.self.now (now at) (Some c.args.token.now) _ c.begin_all-head.result is.done c.token.ensures is.begun.held is.begun.absent is.source (leaves_duplicated parted _)

-- ---- too few message blocks are free

few_free : (c : After-free_len) → c.free_len.result < c.args.count → message_duplicated (take c.args.count (message_at c.args.self.now c.args.token.now.head)) c.args.self.now ≡ Err NoMblk
few_free c few =
    cond-true _ _ _ (lt-ltb (length c.args.self.now.free) (length (take c.args.count (message_at c.args.self.now c.args.token.now.head))) (omega (
      arith,
      few,
      c.free_len.ensures,
      ap (λ (a : Arena). length a.free) c.self.view_is,
      taken_many (parted_inside c.self.invariant c.self.view_is) c.args.token.now c.requires.had c.args.count c.requires.count,
    )))

pub returns-then-free_len-count : goal.returns-then-free_len-count
returns-then-free_len-count c = grind (arith, common_steps, gives_none, few_free)
