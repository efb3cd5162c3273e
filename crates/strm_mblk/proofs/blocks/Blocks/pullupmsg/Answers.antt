use Rattle.std.proofs.Common.{rules, ◌≡◌, ℕ, ◌-◌, ◌<◌, ◌≤◌, true, List, ◌∷◌, Some, Ok, Err, ap, sym, ◌∙◌, arith, subst}
use Rattle.std.specs.Prelude.{is_some, drop}
use Rattle.std.proofs.lemmas.Int.{to_z-of_z}
use Rattle.std.proofs.lemmas.List.{length-map}
use Rattle.strm_mblk.specs.declared.blocks.Fields.{Fields}
use Rattle.strm_mblk.specs.Arena.{Arena, has, held_at, message_at, token_of}
use Rattle.strm_mblk.specs.Block.{Block, size_of}
use Rattle.strm_mblk.specs.BlocksLayout.{block_at, fields_at, message_of}
use Rattle.strm_mblk.specs.Calls.{Alters, itself}
use Rattle.strm_mblk.specs.Given.{value_after, answer_of}
use Rattle.strm_mblk.specs.Messages.{held_in}
use Rattle.strm_links.specs.ChainLists.{nodes_at}
use Rattle.strm_mblk.specs.Pulling.{with_bytes_drained, pull_front}
use Rattle.strm_mblk.specs.Trimming.{bytes_asked, pullupmsg, run_of}
use Rattle.strm_mblk.proofs.pulling.Drained.{IsPulled, pull_front_answer, front_pulled_held, pull_had, pulls, run_most}
use Rattle.strm_mblk.proofs.pulling.FrontPulled.{head_held}
use Rattle.strm_mblk.proofs.layout.HeldBlocks.{held_nodes, IsHeldHead, seen_head}
use Rattle.strm_mblk.proofs.layout.StoredArena.{message_at-seen, parted_inside}
use Rattle.strm_mblk.proofs.arena.Counts.{had_message, token_had}
use Rattle.strm_mblk.proofs.joining.Unlinkb.{token_is}
use Rattle.strm_mblk.proofs.arena.Frame.{leaves_pullupmsg}
use Rattle.strm_mblk.proofs.arena.Calls.{alters, alters_kept, alters_none, refused_is}
use Rattle.strm_mblk.proofs.blocks.Blocks.pullupmsg.Goals.{After-from_residual, After-fields_at-front, After-set_blocks}
use Rattle.strm_mblk.proofs.blocks.Blocks.pullupmsg.Goals as goal
use Rattle.std.proofs.lemmas.Grind.{common_steps}

-- ---- the message

module _ (c : After-fields_at-front) where
  abbrev h : ℕ
  h = c.args.token.now.head

  abbrev items : List Fields
  items = c.self.inside.chains.loads

  -- its first block, and the blocks after it
  abbrev b : Block
  b = block_at items h

  abbrev bs : List Block
  bs = message_of items (drop 1 (nodes_at c.self.inside.chains.lists h))

  head : IsHeldHead items c.self.inside.chains.lists h
  head = grind (arith, common_steps, seen_head, had_message)

  held : held_at c.args.self.now h ≡ Some (b ∷ bs)
  held = ap (λ a. held_at a h) (sym c.self.view_is) ∙ head_held c.self.invariant.filled head

  -- what was read is what the first block says
  read : c.fields_at-front.result ≡ fields_at items h
  read = c.fields_at-front.ensures ∙ ap (fields_at items) c.head-head.ensures

  len_is : c.fields_at-front.result.len ≡ b.len
  len_is = ap (λ (f : Fields). f.len) read

  -- what is asked for is there
  asked : bytes_asked c.args.count (run_of c.args.self.now.store (message_at c.args.self.now h)) ≡ Some c.in-Some.wanted
  asked = grind (arith, common_steps, to_z-of_z)

  enough : c.in-Some.wanted ≤ size_of (run_of c.args.self.now.store (message_at c.args.self.now h))
  enough = omega (arith, c.if-wanted-run.false, c.run_size-run.ensures)

-- ---- it is there already

pub returns-then-wanted-front : goal.returns-then-wanted-front
returns-then-wanted-front c = grind (arith, common_steps, pull_had, held, asked, enough, len_is, alters_kept, leaves_pullupmsg, parted_inside)

-- ---- no data block is there

more : (c : After-fields_at-front) → c.fields_at-front.result.len < c.in-Some.wanted → (b c).len < c.in-Some.wanted
more c many = omega (arith, many, len_is c)

pub pull_front-requires-clause-enough : goal.pull_front-requires-clause-enough
pull_front-requires-clause-enough c = grind (arith, common_steps, run_most)

refused : (c : After-from_residual) → c.from_residual.result ≡ Err c.in_err-pull_front.field-0.0
refused c = search rules

pub returns-in_err-pull_front : goal.returns-in_err-pull_front
returns-in_err-pull_front c =
    let d = (goal.at.returns-in_err-pull_front c).After-fields_at-front in
    let a = c.args.self.now in
    let t = c.args.token.now in
    let call = pullupmsg t.head c.args.count a in
    let why = c.in_err-pull_front.field-0.0 in
    let first = sym c.pull_front.ensures.answer ∙ c.in_err-pull_front.was in
    let is =
    refused_is call
    (sym (pull_front_answer (h d) (b d) (bs d) a (held d) c.args.count (asked d) (enough d) (more d c.if-wanted-front.false)) ∙ first) in
    subst (Alters itself t t call a c.pull_front.new.self) (sym (refused (goal.at.returns-in_err-pull_front c).After-from_residual))
    (alters_none a c.pull_front.new.self t call why is (c.pull_front.ensures.after ∙ ap (value_after a) (refused_is (pull_front t.head c.in-Some.wanted a) first)) c.requires)

-- ---- the first block takes a data block, and the others lose the bytes

module _ (c : After-fields_at-front) (many : c.fields_at-front.result.len < c.in-Some.wanted) {first : Arena} (first_is : first ≡ value_after c.args.self.now (pull_front (h c) c.in-Some.wanted c.args.self.now))
    {u : Unit {0}} (given : answer_of (pull_front (h c) c.in-Some.wanted c.args.self.now) ≡ Ok u) where
  still_held : is_some (held_at first c.head-head.result) ≡ true
  still_held =
      ap (λ k. is_some (held_at first k)) c.head-head.ensures
      ∙ ap is_some (front_pulled_held (h c) (b c) (bs c) c.args.self.now (held c) c.args.count (asked c) (enough c) (more c many) first_is given)

  is_pulled : {new : Arena} → new ≡ with_bytes_drained c.head-head.result (c.in-Some.wanted - c.fields_at-front.result.len) (message_at first c.head-head.result) first
      → IsPulled (h c) c.in-Some.wanted c.args.self.now (pullupmsg (h c) c.args.count c.args.self.now) new
  is_pulled is =
      pulls (h c) (b c) (bs c) c.args.self.now (held c) c.args.count (asked c) (enough c) (more c many) first_is given
      (is ∙ (λ i. with_bytes_drained (c.head-head.ensures i) (c.in-Some.wanted - len_is c i) (message_at first (c.head-head.ensures i)) first))

pub drain-requires : goal.drain-requires
drain-requires c =
    still_held (goal.at.drain-requires c).After-fields_at-front c.if-wanted-front.false c.pull_front.ensures.after
    (sym c.pull_front.ensures.answer ∙ c.in_ok-pull_front.was)

pub len-requires : goal.len-requires
len-requires c =
    let is =
    is_pulled (goal.at.len-requires c).After-fields_at-front c.if-wanted-front.false c.pull_front.ensures.after
    (sym c.pull_front.ensures.answer ∙ c.in_ok-pull_front.was) c.drain.ensures in
    ap (λ k. is_some (held_in c.self-2.inside.chains.lists.held k)) c.head-head.ensures
    ∙ ap is_some (held_nodes c.self-2.inside.id c.self-2.inside.data.store c.self-2.inside.chains.loads c.self-2.inside.chains.lists c.args.token.now.head (ap (λ a. held_at a c.args.token.now.head) c.self-2.view_is ∙ is.held)).1.held

module _ (c : After-set_blocks) where
  done : IsPulled c.args.token.now.head c.in-Some.wanted c.args.self.now (pullupmsg c.args.token.now.head c.args.count c.args.self.now) c.drain.new.self
  done =
      is_pulled (goal.at.returns c).After-fields_at-front c.if-wanted-front.false c.pull_front.ensures.after
      (sym c.pull_front.ensures.answer ∙ c.in_ok-pull_front.was) c.drain.ensures

  -- the token says how many blocks the message has
  token_now : c.set_blocks.new.self ≡ token_of c.drain.new.self c.args.token.now.head
  token_now = grind (arith, common_steps, token_is, had_message, done, message_at-seen, length-map)

pub returns : goal.returns
returns c =
    let at = (goal.at.returns c).After-set_blocks in
    let a = c.args.self.now in
    let t = c.args.token.now in
    alters a c.drain.new.self t _ tt (done at).done (token_now at) (ap (has c.drain.new.self) (token_now at) ∙ token_had c.drain.new.self t.head _ (done at).held)
    (leaves_pullupmsg (parted_inside c.self.invariant c.self.view_is) t.head c.args.count)
