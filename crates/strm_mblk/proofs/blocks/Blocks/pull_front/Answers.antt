use Rattle.std.proofs.Common.{◌≡◌, ◌<◌, ◌∷◌, length, set, Ok, ap, subst, sym, ◌∙◌, arith, refl, List, Some}
use Rattle.std.specs.Prelude.{drop, slice_get}
use Rattle.strm_data.specs.CountedStore.{CountedStore, count_of, without_reference}
use Rattle.strm_data.specs.DataStore.{data_block_at, times, with_data_taken, with_kind}
use Rattle.strm_mblk.specs.declared.blocks.Fields.{Fields}
use Rattle.strm_mblk.specs.Arena.{Arena, message_at}
use Rattle.strm_mblk.specs.Block.{bytes_of, kind_of}
use Rattle.strm_mblk.specs.BlocksLayout.{arena_in, block_at, fields_at, message_of, data_used_by}
use Rattle.strm_links.specs.ChainLists.{nodes_at, ChainLists}
use Rattle.strm_mblk.specs.Pulling.{pull_front, front_pulled, with_front_copied}
use Rattle.strm_mblk.specs.Trimming.{store_with_front}
use Rattle.strm_mblk.proofs.Reading.{length-message}
use Rattle.strm_mblk.proofs.Freeing.{enough}
use Rattle.strm_mblk.proofs.pulling.FrontPulled.{IsFrontPulled, pulls_front, pulled_is, still_there, still_used}
use Rattle.strm_mblk.proofs.layout.HeldBlocks.{IsHeldHead, seen_head}
use Rattle.strm_mblk.proofs.layout.StoredArena.{message_at-seen, still_whole}
use Rattle.strm_mblk.proofs.arena.Counts.{had_message}
use Rattle.strm_mblk.proofs.layout.Rooms.{bytes-message, bytes-typed}
use Rattle.strm_mblk.proofs.blocks.Blocks.pull_front.Goals.{After-copy_front, After-drop_name, After-fields_at-fields, After-set_kind}
use Rattle.strm_mblk.proofs.blocks.Blocks.pull_front.Goals as goal
use Rattle.std.proofs.lemmas.Grind.{common_steps}

module _ (c : After-fields_at-fields) where
  head : IsHeldHead c.self.inside.chains.loads c.self.inside.chains.lists c.args.token.now.head
  head = grind (arith, common_steps, seen_head, had_message)

  -- what was read is what the block says
  read : c.fields_at-fields.result ≡ fields_at c.self.inside.chains.loads c.args.token.now.head
  read = c.fields_at-fields.ensures ∙ ap (fields_at c.self.inside.chains.loads) c.head-head.ensures

pub kind-kind-requires : goal.kind-kind-requires
kind-kind-requires c =
    let before = (goal.at.kind-kind-requires c).After-fields_at-fields in
    omega (arith, (c.self.invariant.filled.placed c.args.token.now.head (head before).there).there, ap (λ (f : Fields). f.data_number) (read before))

-- the data blocks once the taken one has its type
typed : (c : After-set_kind) → c.set_kind.new.self
    ≡ record { store = with_kind c.in_ok-data_number.data_number c.kind-kind.result (with_data_taken c.in_ok-data_number.data_number c.self.inside.data.store); counts = set c.self.inside.data.counts c.in_ok-data_number.data_number 1 }
typed c = grind (arith, common_steps)

pub copy_front-requires-clause-begun : goal.copy_front-requires-clause-begun
copy_front-requires-clause-begun c =
    subst (λ h. slice_get (nodes_at c.self.inside.chains.lists h) 0 ≡ Some h) (sym c.head-head.ensures) (head (goal.at.copy_front-requires-clause-begun c).After-fields_at-fields).first

pub copy_front-requires-clause-unnamed : goal.copy_front-requires-clause-unnamed
copy_front-requires-clause-unnamed c =
    let before = (goal.at.copy_front-requires-clause-unnamed c).After-fields_at-fields in
    let d = c.in_ok-data_number.data_number in
    let same : times d (data_used_by c.self.inside.chains.loads (nodes_at c.self.inside.chains.lists c.head-head.result)) ≡ times d (data_used_by c.self.inside.chains.loads (nodes_at c.self.inside.chains.lists c.args.token.now.head)) =
    λ i. times d (data_used_by c.self.inside.chains.loads (nodes_at c.self.inside.chains.lists (c.head-head.ensures i))) in
    omega (
      arith,
      same,
      enough c.self.inside.id c.self.inside.data c.self.inside.chains.loads c.self.inside.chains.lists c.self.invariant.filled c.args.token.now.head (head before).held d,
      c.in_ok-data_number.ensures.unused.unnamed,
    )

pub copy_front-requires-clause-enough : goal.copy_front-requires-clause-enough
copy_front-requires-clause-enough c =
    let set = (goal.at.copy_front-requires-clause-enough c).After-set_kind in
    let d = c.in_ok-data_number.data_number in
    let h = c.args.token.now.head in
    let items = c.self.inside.chains.loads in
    let stored = c.self.inside.data.store in
    let same : bytes_of c.set_kind.new.self.store (message_of c.self.inside.chains.loads (nodes_at c.self.inside.chains.lists c.head-head.result)) ≡ bytes_of c.args.self.now.store (message_at c.args.self.now h) =
    (λ i. bytes_of (ap (λ (s : CountedStore). s.store) (typed set) i) (message_of c.self.inside.chains.loads (nodes_at c.self.inside.chains.lists (c.head-head.ensures i))))
    ∙ bytes-message stored (with_kind d c.kind-kind.result (with_data_taken d stored)) (bytes-typed stored d c.kind-kind.result) (message_of items (nodes_at c.self.inside.chains.lists h))
    ∙ ap (bytes_of stored) (sym (message_at-seen c.self.inside.id stored items c.self.inside.chains.lists h))
    ∙ ap (λ (a : Arena). bytes_of a.store (message_at a h)) c.self.view_is in
    omega (
      arith,
      c.requires.enough,
      ap length same,
      length-message c.self.invariant.filled c.self.view_is c.args.token.now c.requires.had,
    )

-- the type of the first block's data block
kind_is : (c : After-set_kind) → c.fields_at-fields.result ≡ fields_at c.self.inside.chains.loads c.args.token.now.head
    → c.kind-kind.result ≡ kind_of c.self.inside.data.store (block_at c.self.inside.chains.loads c.args.token.now.head)
kind_is c read = c.kind-kind.ensures ∙ ap (λ (f : Fields). (data_block_at c.self.inside.data.store f.data_number).kind) read

-- the data blocks once the taken one has the bytes too
copied : (c : After-copy_front) → IsHeldHead c.self.inside.chains.loads c.self.inside.chains.lists c.args.token.now.head
    → c.kind-kind.result ≡ kind_of c.self.inside.data.store (block_at c.self.inside.chains.loads c.args.token.now.head)
    → c.set_kind.new.self
    ≡ record { store = with_kind c.in_ok-data_number.data_number c.kind-kind.result (with_data_taken c.in_ok-data_number.data_number c.self.inside.data.store); counts = set c.self.inside.data.counts c.in_ok-data_number.data_number 1 }
    → c.copy_front.new.stored ≡ record {
      store = store_with_front c.args.count (block_at c.self.inside.chains.loads c.args.token.now.head ∷ message_of c.self.inside.chains.loads (drop 1 (nodes_at c.self.inside.chains.lists c.args.token.now.head))) c.self.inside.data.store c.in_ok-data_number.data_number;
      counts = set c.self.inside.data.counts c.in_ok-data_number.data_number 1;
    }
copied c is kind typed =
    pulled_is c.self.invariant.filled is c.args.count c.in_ok-data_number.data_number kind typed
    (c.copy_front.ensures.after
    ∙ (λ i. with_front_copied c.in_ok-data_number.data_number c.args.count (message_of c.self.inside.chains.loads (nodes_at c.self.inside.chains.lists (c.head-head.ensures i))) c.set_kind.new.self))

pub drop_name-requires-clause-there : goal.drop_name-requires-clause-there
drop_name-requires-clause-there c =
    let before = (goal.at.drop_name-requires-clause-there c).After-fields_at-fields in
    let set = (goal.at.drop_name-requires-clause-there c).After-set_kind in
    subst (λ (f : Fields). f.data_number < length c.copy_front.new.stored.store.blocks) (sym (read before))
    (still_there c.self.invariant.filled (head before)
    c.args.count c.in_ok-data_number.data_number c.in_ok-data_number.ensures.unused c.in_ok-data_number.ensures.room c.copy_front.new.stored
    (copied (goal.at.drop_name-requires-clause-there c).After-copy_front (head before) (kind_is set (read before)) (typed set)))

pub drop_name-requires-clause-used : goal.drop_name-requires-clause-used
drop_name-requires-clause-used c =
    let before = (goal.at.drop_name-requires-clause-used c).After-fields_at-fields in
    let set = (goal.at.drop_name-requires-clause-used c).After-set_kind in
    subst (λ (f : Fields). 0 < count_of c.copy_front.new.stored f.data_number) (sym (read before))
    (still_used c.self.invariant.filled (head before)
    c.args.count c.in_ok-data_number.data_number c.in_ok-data_number.ensures.unused c.in_ok-data_number.ensures.room c.copy_front.new.stored
    (copied (goal.at.drop_name-requires-clause-used c).After-copy_front (head before) (kind_is set (read before)) (typed set)))

-- the first block as it is written
abbrev new_fields : After-drop_name → Fields
new_fields c = record { data_number = c.in_ok-data_number.data_number; offset = 0; len = c.args.count; band = c.fields_at-fields.result.band }

is_front_pulled : (c : After-drop_name)
    → IsFrontPulled c.args.self.now c.drop_name.new.self c.set_load.new.self.loads c.set_load.new.self.lists c.self.inside.id c.args.token.now.head c.in_ok-data_number.data_number c.args.count
is_front_pulled c =
    let before = (goal.at.invariant_of-self-2 c).After-fields_at-fields in
    let typed_now = (goal.at.invariant_of-self-2 c).After-set_kind in
    let d = c.in_ok-data_number.data_number in
    let h = c.args.token.now.head in
    subst (λ (p : Arena × (List Fields × ChainLists)). IsFrontPulled p.0 c.drop_name.new.self p.1.0 p.1.1 c.self.inside.id h d c.args.count) (λ i. (c.self.view_is i, (sym c.set_load.ensures.loads i, sym c.set_load.ensures.lists i)))
    (subst (λ k. IsFrontPulled (arena_in c.self.inside) c.drop_name.new.self (set c.self.inside.chains.loads k (new_fields c)) c.self.inside.chains.lists c.self.inside.id h d c.args.count) (sym c.head-head.ensures)
    (pulls_front c.self.invariant.filled (head before)
    c.args.count d c.in_ok-data_number.ensures.unused c.in_ok-data_number.ensures.room c.copy_front.new.stored
    (copied (goal.at.invariant_of-self-2 c).After-copy_front (head before) (kind_is typed_now (read before)) (typed typed_now))
    c.drop_name.new.self (new_fields c) c.drop_name.ensures.kept
    (c.drop_name.ensures.after ∙ ap (λ (f : Fields). without_reference f.data_number c.copy_front.new.stored) (read before))
    (ap (λ (f : Fields). let x : Fields = record { data_number = d; offset = 0; len = c.args.count; band = f.band } in x) (read before))))

pub invariant_of-self-2 : goal.invariant_of-self-2
invariant_of-self-2 c = still_whole _ c.self.invariant c.self.view_is refl (is_front_pulled c).filled (is_front_pulled c).shelved

-- what the model gives
value : (c : After-drop_name) → pull_front c.args.token.now.head c.args.count c.args.self.now
    ≡ Ok (tt, front_pulled c.args.token.now.head c.args.count (message_at c.args.self.now c.args.token.now.head) c.args.self.now c.in_ok-data_number.data_number)
value c = grind (arith, common_steps)

pub returns-clause-after : goal.returns-clause-after
returns-clause-after c = grind (arith, common_steps, is_front_pulled, value)
