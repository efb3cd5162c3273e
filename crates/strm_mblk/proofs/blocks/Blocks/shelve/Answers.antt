use Rattle.std.proofs.Common.{[], ◌∷◌, ◌≡◌, ◌<◌, ap, refl, subst, sym, ◌∙◌, arith, length}
use Rattle.strm_links.specs.Rows.{has}
use Rattle.strm_mblk.specs.declared.token.TokenValue.{TokenValue}
use Rattle.strm_mblk.specs.Arena as arena
use Rattle.strm_mblk.specs.Arena.{Arena, held_at, shelved_blocks}
use Rattle.strm_mblk.specs.Block.{Message}
use Rattle.strm_mblk.specs.BlocksLayout.{arena_in, arena_of}
use Rattle.strm_mblk.specs.Frame.{LeavesOthers}
use Rattle.strm_mblk.specs.Shelves.{heads_at, shelve}
use Rattle.strm_mblk.proofs.Shelving.{heads_at-seen, shelve_filled, shelve_queued, shelve_shows, shelving_room}
use Rattle.strm_mblk.proofs.arena.Counts.{IsHad, had_message}
use Rattle.strm_mblk.proofs.arena.Frame.{none_at, others_one}
use Rattle.strm_mblk.proofs.blocks.Blocks.shelve.Goals.{After-len-blocks, After-self-1, After-shelve}
use Rattle.strm_mblk.proofs.layout.StoredArena.{reloaded, reviewed}
use Rattle.strm_mblk.proofs.blocks.Blocks.shelve.Goals as goal

had : (c : After-len-blocks) → (m : Message) × IsHad (arena_in c.self.inside) c.spend-head.result m
had c = had_message (arena_in c.self.inside) c.spend-head.result (ap (λ (t : TokenValue). arena.has (arena_in c.self.inside) t) c.spend-head.ensures ∙ ap (λ a. arena.has a c.args.token) c.self.view_is ∙ c.requires.had)

pub overflow_add-self : goal.overflow_add-self
overflow_add-self c =
    let message = had (goal.at.overflow_add-self c).After-len-blocks in
    omega (arith, shelving_room c.self.invariant.filled c.spend-head.result.head message.1.held, c.len-blocks.ensures, c.self.invariant.queued)

pub shelve-requires-clause-before : goal.shelve-requires-clause-before
shelve-requires-clause-before c at is =
    ap (has at) (sym (heads_at-seen c.self.inside.id c.self.inside.data.store c.self.inside.chains.loads c.self.inside.chains.lists c.from.result))
    ∙ (λ i. has at (heads_at (c.self.view_is i) (c.from.ensures i))) ∙ c.requires.before at is

-- the shelf is one of those that there are
within : (c : After-shelve) → c.from.result < length (arena_in c.self.inside).shelves
within c = omega (arith, c.requires.shelf, c.from.ensures, ap (λ (a : Arena). length a.shelves) c.self.view_is)

pub invariant_of-self : goal.invariant_of-self
invariant_of-self c =
    let message = had (goal.at.invariant_of-self c).After-len-blocks in
    let i = c.self.inside in
    let within = within (goal.at.invariant_of-self c).After-shelve in
    record {
      filled =
          reloaded c.shelve.ensures.loads
          (shelve_filled c.self.invariant.filled c.spend-head.result.head message.1.held
          c.from.result c.args.before within c.shelve.ensures.after c.shelve.ensures.parted);
      queued =
          omega (
            arith,
            c.len-blocks.ensures,
            c.self.invariant.queued,
            shelve_queued c.self.invariant.filled c.spend-head.result.head message.1.held
                c.from.result c.args.before within c.shelve.ensures.after c.shelve.ensures.parted,
            ap (λ fields. length (shelved_blocks (arena_of i.id i.data.store fields c.shelve.new.self.lists))) c.shelve.ensures.loads,
          );
    }

after_is : (c : After-self-1) → arena_of c.self.inside.id c.self.inside.data.store c.shelve.new.self.loads c.shelve.new.self.lists ≡ shelve c.args.shelf c.args.before c.args.token.head c.args.self.now
after_is c =
    let message = had (goal.at.returns c).After-len-blocks in
    let i = c.self.inside in
    reviewed i.data.store c.shelve.new.self.lists c.shelve.ensures.loads
    (shelve_shows c.self.invariant.filled c.spend-head.result.head message.1.held
    c.from.result c.args.before (within (goal.at.returns c).After-shelve) c.shelve.ensures.after c.shelve.ensures.parted
    ∙ (λ j. shelve (c.from.ensures j) c.args.before (c.spend-head.ensures j).head (c.self.view_is j)))

pub returns : goal.returns
returns c =
    let left = subst (LeavesOthers (c.args.token.head ∷ []) c.args.self.now) (sym (after_is c)) (others_one c.args.self.now (shelve c.args.shelf c.args.before c.args.token.head c.args.self.now) c.args.token.head _ refl refl) in
    record {
      after = after_is c;
      answer = refl;
      gone = ap (λ a. held_at a c.args.token.head) (after_is c) ∙ none_at c.args.self.now.held c.args.token.head;
      others = left;
    }
