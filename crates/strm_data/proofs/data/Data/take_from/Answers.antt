use Rattle.std.proofs.Common.{◌≡◌, ◌-◌, Ok, Some, [], drop, get_or, set, sym, ap, ◌∙◌, subst, arith, length, length-set}
use Rattle.std.specs.Prelude.{slice_get}
use Rattle.strm_links.specs.Rows.{Rows}
use Rattle.strm_data.specs.declared.msg_type.MsgType.TheVariants.{MData}
use Rattle.strm_data.specs.CountedStore.{CountedStore, IsKept}
use Rattle.strm_data.specs.DataLayout.{store_of}
use Rattle.strm_data.specs.DataStore.{IsClassFor, IsLeast, IsTakenFrom, free_of}
use Rattle.strm_data.proofs.layout.Taking.{class_taken, free_there, front_is, left_taken, loads_in, unused, room, taken, placed_taken}
use Rattle.strm_data.proofs.store.Kept.{IsKept-take, IsLeast-take}
use Rattle.strm_data.proofs.store.Lawful.{IsTakenFrom-class}
use Rattle.strm_data.proofs.data.Data.take_from.Goals.{After-len-left, After-set_load}
use Rattle.strm_data.proofs.data.Data.take_from.Goals as goal

kept : (c : After-len-left) → IsKept c.args.self.now
kept c = subst IsKept c.self.view_is c.self.invariant.kept

-- the size takes from the class
found : (c : After-len-left) → IsTakenFrom c.args.size c.args.self.now.store c.args.class
found c = IsTakenFrom-class c.args.size c.args.self.now.store (kept c).lists c.args.class c.requires.class c.requires.some

pub take_front-number-requires-clause-some : goal.take_front-number-requires-clause-some
take_front-number-requires-clause-some c =
    free_there c.self.inside _ c.args.size c.args.class c.self.view_is (found (goal.at.take_front-number-requires-clause-some c).After-len-left)

pub returns-clause-answer : goal.returns-clause-answer
returns-clause-answer c =
    let found = found (goal.at.returns-clause-answer c).After-len-left in
    found.front
    ∙ ap Ok (front_is c.self.inside _ c.self.view_is c.self.invariant c.args.size c.args.class c.take_front-number.result found c.take_front-number.ensures.value)

pub returns-clause-unused : goal.returns-clause-unused
returns-clause-unused c =
    unused c.self.inside _ c.self.view_is c.self.invariant c.args.size c.args.class c.take_front-number.result (found (goal.at.returns-clause-unused c).After-len-left)
    c.take_front-number.ensures.value

pub returns-clause-room : goal.returns-clause-room
returns-clause-room c =
    room c.self.inside _ c.self.view_is c.self.invariant c.args.size c.args.class c.take_front-number.result (found (goal.at.returns-clause-room c).After-len-left)
    c.take_front-number.ensures.value

-- the data block, and the data blocks then
module _ (c : After-set_load) where
  read : slice_get (loads_in c.self.inside) c.take_front-number.result ≡ Some c.load-block.result.now
  read = ap (λ ls. slice_get ls c.take_front-number.result) (sym c.take_front-number.ensures.loads) ∙ c.load-block.ensures

  loads : c.set_load.new.self.loads ≡ set (loads_in c.self.inside) c.take_front-number.result (record c.load-block.result.now { kind = MData; references = 1 })
  loads = c.set_load.ensures.loads ∙ ap (λ ls. set ls c.take_front-number.result (record c.load-block.result.now { kind = MData; references = 1 })) c.take_front-number.ensures.loads

  popped : c.set_load.new.self.rows.lists ≡ set (store_of c.self.inside).store.free c.args.class (drop 1 (get_or (store_of c.self.inside).store.free c.args.class []))
  popped = ap (λ (r : Rows). r.lists) (c.set_load.ensures.rows ∙ c.take_front-number.ensures.lists)

pub returns-clause-after : goal.returns-clause-after
returns-clause-after c =
    let at = (goal.at.returns-clause-after c).After-set_load in
    taken c.self.inside _ c.self.view_is c.self.invariant c.args.size c.args.class c.take_front-number.result (found (goal.at.returns-clause-after c).After-len-left)
    c.take_front-number.ensures.value c.load-block.result.now (read at) c.set_load.new.self (loads at) (popped at)
    c.index_mut.result.now c.index_mut.ensures.value _ (ap (λ n. n - 1) c.len-left.ensures) c.note.new.self c.note.ensures

pub returns-clause-kept : goal.returns-clause-kept
returns-clause-kept c =
    let at = (goal.at.returns-clause-kept c).After-len-left in
    subst IsKept (sym (returns-clause-after c)) (IsKept-take c.args.size c.args.self.now c.args.class (found at) (kept at))

pub returns-clause-class : goal.returns-clause-class
returns-clause-class c =
    subst (λ (s : CountedStore). IsClassFor c.args.size s.store c.args.class) (sym (returns-clause-after c))
    (class_taken c.self.inside _ c.self.view_is c.self.invariant c.args.size c.args.class c.take_front-number.result (found (goal.at.returns-clause-class c).After-len-left)
    c.take_front-number.ensures.value c.requires.class)

pub returns-clause-left : goal.returns-clause-left
returns-clause-left c =
    ap (λ (s : CountedStore). length (free_of s.store c.args.class)) (returns-clause-after c)
    ∙ left_taken c.self.inside _ c.self.view_is c.self.invariant c.args.size c.args.class c.take_front-number.result (found (goal.at.returns-clause-left c).After-len-left)
    c.take_front-number.ensures.value

pub invariant_of-self : goal.invariant_of-self
invariant_of-self c =
    let at = (goal.at.invariant_of-self c).After-len-left in
    let later = (goal.at.invariant_of-self c).After-set_load in
    record {
      kept = returns-clause-kept c;
      placed =
          placed_taken c.self.inside _ c.self.view_is c.self.invariant c.args.size c.args.class c.take_front-number.result (found at)
          c.take_front-number.ensures.value c.load-block.result.now (read later) c.set_load.new.self (loads later) (popped later)
          c.index_mut.result.now c.index_mut.ensures.value _ (ap (λ n. n - 1) c.len-left.ensures) c.note.new.self c.note.ensures;
      least =
          subst (λ (s : CountedStore). IsLeast s.store) (sym (returns-clause-after c))
          (IsLeast-take c.args.size c.args.self.now c.args.class (found at) (kept at)
          (subst (λ (s : CountedStore). IsLeast s.store) c.self.view_is c.self.invariant.least));
      nodes =
          omega (
            arith,
            ap (λ (r : Rows). r.nodes) (c.set_load.ensures.rows ∙ c.take_front-number.ensures.lists),
            c.self.invariant.nodes,
            ap length (loads later),
            length-set (loads_in c.self.inside) c.take_front-number.result (record c.load-block.result.now { kind = MData; references = 1 }),
          );
    }
