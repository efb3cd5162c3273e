use Rattle.std.proofs.Common.{ℕ, ◌≡◌, None, Some, set, refl, sym, ◌∙◌, arith}
use Rattle.std.proofs.lemmas.Option.{none-some}
use Rattle.strm_links.specs.Rows.{holder, list_at, put_in}
use Rattle.strm_links.specs.Layout.{rows_in}
use Rattle.strm_links.specs.Chains.{put_before_head, shelf_in}
use Rattle.strm_links.specs.ChainLists.{head_node, nodes_at}
use Rattle.strm_links.specs.ChainLayout.{IsWhole, chains_in, lists_in}
use Rattle.strm_links.proofs.lists.AllLists.{holder_has}
use Rattle.strm_links.proofs.linking.TableCalls.{holder_within}
use Rattle.strm_links.proofs.chains.Shelves.{placed_in}
use Rattle.strm_links.proofs.chains.Whole.{IsLawful-whole, IsWhole-reheaded, head_listed, held_low, loads_carried, nodes_are, off, place_room, reheaded_is, room, shelf_is, shelf_room, shelved_at, there}
use Rattle.strm_links.proofs.chained.Chained.shelve.Given.{Over}
use Rattle.strm_links.proofs.chained.Chained.shelve.Goals as goal
use Rattle.strm_links.proofs.chained.Chained.shelve.Goals.{After-link_at}

pub of-requires : goal.of-requires
of-requires g c at is =
    omega (arith, c.self.invariant.sound.few_nodes, holder_within c.self.invariant.sound at (shelved_at c.self.invariant c.self.view_is at c.args.shelf (c.requires.before at is)))

pub link_at-requires : goal.link_at-requires
link_at-requires g c = record {
  sound = c.self.invariant.sound;
  list = omega (arith, c.requires.shelf, shelf_room c.self.invariant c.self.view_is);
  node = omega (arith, held_low c.self.invariant c.self.view_is c.args.head c.requires.held, room c.self.invariant c.self.view_is, place_room c.self.invariant c.self.view_is);
  free = off c.self.invariant c.self.view_is c.args.head c.requires.held;
  next = λ at is. shelved_at c.self.invariant c.self.view_is at c.args.shelf (c.requires.before at (sym c.of.ensures ∙ is));
}

moved : (g : Over) (c : After-link_at g)
    → (IsWhole c.link_at.new.self c.self.inside.first_free c.self.inside.free_len c.self.inside.least)
    × (lists_in c.link_at.new.self c.self.inside.first_free c.self.inside.free_len c.self.inside.least ≡ record c.args.self.now.lists {
      held = set c.args.self.now.lists.held c.args.head None;
      shelves = set c.args.self.now.lists.shelves c.args.shelf (put_before_head head_node c.args.before (nodes_at c.args.self.now.lists c.args.head) (shelf_in c.args.self.now.lists.shelves c.args.shelf));
    })
moved g c =
    let now = c.args.self.now.lists in
    let h = c.args.head in
    let s = c.args.shelf in
    let rows = rows_in c.self.inside.table in
    let row = list_at s rows in
    let ys = put_in c.of.result h row in
    let begun = there c.self.invariant c.self.view_is h c.requires.held in
    let on : (at : ℕ) → c.of.result ≡ Some at → holder at rows ≡ Some s = λ at is. shelved_at c.self.invariant c.self.view_is at s (c.requires.before at (sym c.of.ensures ∙ is)) in (
      IsWhole-reheaded c.self.invariant c.self.view_is c.link_at.new.self c.link_at.ensures.carried c.link_at.ensures.sound h s ys c.link_at.ensures.lists c.link_at.ensures.others begun,
      reheaded_is c.self.invariant c.self.view_is c.link_at.new.self c.link_at.ensures.carried c.link_at.ensures.sound h s ys c.link_at.ensures.lists c.link_at.ensures.others begun None
          (λ none. absurd (none-some s (sym none ∙ c.link_at.ensures.held))) (λ some. refl)
          (placed_in (chains_in c.self.inside.table c.self.inside.first_free c.self.inside.free_len) c.of.result h row (λ k found. head_listed c.self.invariant k s found) (λ k is. (holder_has k s rows (on k is)).1)
          ∙ (λ i. put_before_head head_node (c.of.ensures i) (sym (nodes_are c.self.invariant c.self.view_is h c.requires.held) i) (sym (shelf_is c.self.invariant c.self.view_is s) i))),
    )

pub invariant_of-self : goal.invariant_of-self
invariant_of-self g c = (moved g (goal.at.invariant_of-self g c).After-link_at).0

pub returns : goal.returns
returns g c = let both = moved g (goal.at.returns g c).After-link_at in record { after = both.1; loads = loads_carried c.self.invariant c.self.view_is _ c.link_at.ensures.carried; parted = IsLawful-whole both.0 }
