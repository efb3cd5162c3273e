use Rattle.std.proofs.Common.{◌≡◌, ◌+◌, ◌≤◌, ◌<◌, ◌&&◌, ℕ, false, length, take, Some, refl, sym, ap, ◌∙◌, subst, arith}
use Rattle.std.specs.Prelude.{is_some, nat_lt, slice_get}
use Rattle.std.proofs.lemmas.Bool.{cond-false, cond-true, le-ltb, lt-ltb}
use Rattle.std.proofs.Math.Bool.{and-false}
use Rattle.strm_data.specs.CountedStore.{count_of}
use Rattle.strm_data.specs.declared.refusal.Refusal.TheVariants.{Shared}
use Rattle.strm_data.proofs.store.Kept.{capacity_range}
use Rattle.strm_links.specs.ChainLists.{chain_of, nodes_at}
use Rattle.strm_mblk.specs.declared.blocks.Fields.{Fields}
use Rattle.strm_mblk.specs.Arena.{Arena, message_at, references_to}
use Rattle.strm_mblk.specs.Block.{Block, Message, size_of}
use Rattle.strm_mblk.specs.BlockCalls.{with_bytes}
use Rattle.strm_mblk.specs.BlocksLayout.{IsStart, block_at, fields_at, message_of}
use Rattle.strm_mblk.specs.InPlace.{overwrite, store_overwritten, touches_shared}
use Rattle.strm_mblk.proofs.Altering.{alters_overwritten, one_long, one_overwritten, one_touched}
use Rattle.strm_mblk.proofs.arena.Calls.{alters_none}
use Rattle.strm_mblk.proofs.arena.Counts.{had_message}
use Rattle.strm_mblk.proofs.layout.HeldBlocks.{IsAt, IsHeldHead, block_some, seen_head}
use Rattle.strm_mblk.proofs.blocks.Blocks.overwrite.Goals.{After-head, After-find_byte-start, After-fields_at-fields}
use Rattle.strm_mblk.proofs.blocks.Blocks.overwrite.Goals as goal

module _ (c : After-head) where
  -- the message is held
  head : IsHeldHead c.self.inside.chains.loads c.self.inside.chains.lists c.args.token.now.head
  head =
      seen_head c.self.invariant.filled c.args.token.now.head c.self.view_is
      (ap is_some (had_message c.args.self.now c.args.token.now c.requires).1.held)

  chain_is : chain_of c.self.inside.chains.lists c.args.token.now.head ≡ nodes_at c.self.inside.chains.lists c.args.token.now.head
  chain_is = c.finds_chains.ensures.held c.args.token.now.head (ap is_some head.held)

pub find_byte-start-requires-clause-begins : goal.find_byte-start-requires-clause-begins
find_byte-start-requires-clause-begins c =
    subst (λ h. slice_get (chain_of c.self.inside.chains.lists h) 0 ≡ Some h) (sym c.head.ensures) (ap (λ ns. slice_get ns 0) (chain_is c) ∙ (head c).first)

pub find_byte-start-requires-clause-there : goal.find_byte-start-requires-clause-there
find_byte-start-requires-clause-there c = omega (arith, c.head.ensures, (head c).there, c.self.invariant.filled.listed)

pub find_byte-start-requires-clause-listed : goal.find_byte-start-requires-clause-listed
find_byte-start-requires-clause-listed c = c.self.invariant.filled.listed

-- the block that was found, and what a contract sees of it
module _ (c : After-find_byte-start) (chain_is : chain_of c.self.inside.chains.lists c.args.token.now.head ≡ nodes_at c.self.inside.chains.lists c.args.token.now.head) where
  abbrev h : ℕ
  h = c.args.token.now.head

  abbrev k : ℕ
  k = c.find_byte-start.result.block

  abbrev node : ℕ
  node = c.find_byte-start.result.node

  start : IsStart c.self.inside.chains.lists c.self.inside.chains.loads h c.args.at c.find_byte-start.result
  start = subst (λ h. IsStart c.self.inside.chains.lists c.self.inside.chains.loads h c.args.at c.find_byte-start.result) c.head.ensures c.find_byte-start.ensures

  at : IsAt c.self.inside.data c.self.inside.chains.loads c.self.inside.chains.lists c.args.self.now h k node (nodes_at c.self.inside.chains.lists h)
  at =
      block_some c.self.invariant.filled c.self.view_is h k
      c.args.token.now refl c.requires (ap (λ ns. slice_get ns k) (sym chain_is) ∙ start.begins)

  before : size_of (take k (message_at c.args.self.now h)) + c.find_byte-start.result.at ≡ c.args.at
  before = ap (λ m. size_of (take k m) + c.find_byte-start.result.at) (at.message ∙ ap (message_of c.self.inside.chains.loads) (sym chain_is)) ∙ start.before

pub fields_at-fields-requires : goal.fields_at-fields-requires
fields_at-fields-requires c =
    let found = (goal.at.fields_at-fields-requires c).After-find_byte-start in
    omega (arith, (at found (chain_is (goal.at.fields_at-fields-requires c).After-head)).there)

module _ (c : After-fields_at-fields) (at : IsAt c.self.inside.data c.self.inside.chains.loads c.self.inside.chains.lists c.args.self.now c.args.token.now.head c.find_byte-start.result.block c.find_byte-start.result.node (nodes_at c.self.inside.chains.lists c.args.token.now.head)) where
  read : c.fields_at-fields.result ≡ fields_at c.self.inside.chains.loads c.find_byte-start.result.node
  read = c.fields_at-fields.ensures

module _ (c : After-fields_at-fields) (at : IsAt c.self.inside.data c.self.inside.chains.loads c.self.inside.chains.lists c.args.self.now c.args.token.now.head c.find_byte-start.result.block c.find_byte-start.result.node (nodes_at c.self.inside.chains.lists c.args.token.now.head))
    (before : size_of (take c.find_byte-start.result.block (message_at c.args.self.now c.args.token.now.head)) + c.find_byte-start.result.at ≡ c.args.at) (inside : c.find_byte-start.result.at + length c.args.bytes.now ≤ c.fields_at-fields.result.len) where
  abbrev a : Arena
  a = c.args.self.now

  abbrev m : Message
  m = message_at a c.args.token.now.head

  abbrev block : Block
  block = block_at c.self.inside.chains.loads c.find_byte-start.result.node

  within : c.find_byte-start.result.at + length c.args.bytes.now ≤ block.len
  within = omega (arith, inside, ap (λ (f : Fields). f.len) (read c at))

  few : nat_lt (size_of m) (c.args.at + length c.args.bytes.now) ≡ false
  few = le-ltb _ _ (one_long m c.find_byte-start.result.block at.block c.find_byte-start.result.at before c.args.bytes.now within)

  touched : touches_shared a c.args.at (length c.args.bytes.now) m ≡ (nat_lt 0 (length c.args.bytes.now) && nat_lt 1 (references_to a block.data_number))
  touched = one_touched m c.find_byte-start.result.block at.block c.find_byte-start.result.at before c.args.bytes.now within a

  written : with_bytes c.fields_at-fields.result.data_number (c.fields_at-fields.result.offset + c.find_byte-start.result.at) c.args.bytes.now a ≡ record a { store = store_overwritten c.args.at c.args.bytes.now m a.store }
  written =
      ap (λ (f : Fields). with_bytes f.data_number (f.offset + c.find_byte-start.result.at) c.args.bytes.now a) (read c at)
      ∙ ap (λ s. record a { store = s }) (sym (one_overwritten m c.find_byte-start.result.block at.block c.find_byte-start.result.at before c.args.bytes.now within a.store))

pub count-requires : goal.count-requires
count-requires c =
    let found = (goal.at.count-requires c).After-fields_at-fields in
    let at = at (goal.at.count-requires c).After-find_byte-start (chain_is (goal.at.count-requires c).After-head) in
    subst (λ (f : Fields). f.data_number < length c.self.inside.data.store.blocks) (sym (read found at)) at.placed.there

pub overflow_add-fields : goal.overflow_add-fields
overflow_add-fields c =
    let here = (goal.at.overflow_add-fields c).After-fields_at-fields in
    let at = at (goal.at.overflow_add-fields c).After-find_byte-start (chain_is (goal.at.overflow_add-fields c).After-head) in
    let few = (capacity_range c.self.inside.data (fields_at c.self.inside.chains.loads c.find_byte-start.result.node).data_number c.self.invariant.filled.kept at.placed.there).1 in
    omega (arith, few, at.placed.within, c.if-start-bytes.false, ap (λ (f : Fields). f.len) (read here at), ap (λ (f : Fields). f.offset) (read here at))

pub returns-then-count-gt1 : goal.returns-then-count-gt1
returns-then-count-gt1 c =
    let found = (goal.at.returns-then-count-gt1 c).After-find_byte-start in
    let here = (goal.at.returns-then-count-gt1 c).After-fields_at-fields in
    let strand = chain_is (goal.at.returns-then-count-gt1 c).After-head in
    let at = at found strand in
    let refs = references_to c.args.self.now (fields_at c.self.inside.chains.loads c.find_byte-start.result.node).data_number in
    let counted : c.count.result ≡ refs = c.count.ensures ∙ ap (λ (f : Fields). count_of c.self.inside.data f.data_number) (read here at) ∙ at.named in
    let many : 1 < refs = omega (arith, c.if-count-gt1.true, counted) in
    let shared = touched here at (before found strand) c.if-start-bytes.false ∙ ap (λ p. p && nat_lt 1 refs) (lt-ltb 0 _ c.if-bytes-gt0.true) ∙ lt-ltb 1 _ many in
    alters_none c.args.self.now c.args.self.now c.args.token.now (overwrite c.args.token.now.head c.args.at c.args.bytes.now c.args.self.now) Shared
    (cond-false _ _ _ (few here at (before found strand) c.if-start-bytes.false) ∙ cond-true _ _ _ shared) refl c.requires

pub returns : goal.returns
returns c =
    let found = (goal.at.returns c).After-find_byte-start in
    let here = (goal.at.returns c).After-fields_at-fields in
    let strand = chain_is (goal.at.returns c).After-head in
    let at = at found strand in
    let a = c.args.self.now in
    let bytes = c.args.bytes.now in
    let refs = references_to a (fields_at c.self.inside.chains.loads c.find_byte-start.result.node).data_number in
    let unshared : (nat_lt 0 (length bytes) && nat_lt 1 refs) ≡ false = elim c.else-bytes-gt0.branch [
      | goal.else-bytes-gt0-via-then-bytes-gt0+else-count-gt1 w ↦
          let counted : w.count.result ≡ refs = w.count.ensures ∙ ap (λ (f : Fields). count_of c.self.inside.data f.data_number) (read here at) ∙ at.named in
          let once : refs ≤ 1 = omega (arith, w.if-count-gt1.false, counted) in
          ap (λ p. nat_lt 0 (length bytes) && p) (le-ltb 1 _ once) ∙ and-false (nat_lt 0 (length bytes))
      | goal.else-bytes-gt0-via-else-bytes-gt0 w ↦ ap (λ p. p && nat_lt 1 refs) (le-ltb 0 _ w.if-bytes-gt0.false)
    ] in
    alters_overwritten a c.args.token.now c.requires c.args.at bytes
    (few here at (before found strand) c.if-start-bytes.false)
    (touched here at (before found strand) c.if-start-bytes.false ∙ unshared)
    (c.write_data.ensures ∙ written here at (before found strand) c.if-start-bytes.false)
