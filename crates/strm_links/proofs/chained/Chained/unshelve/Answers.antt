use Rattle.std.proofs.Common.{ℕ, ◌≡◌, true, set, is_some, ap, sym, ◌∙◌}
use Rattle.std.proofs.lemmas.Bool.{false≢true}
use Rattle.strm_links.specs.Rows.{has, list_at, without}
use Rattle.strm_links.specs.Layout.{rows_in}
use Rattle.strm_links.specs.Chains.{shelf_in, with_head, without_head}
use Rattle.strm_links.specs.ChainLists.{head_node}
use Rattle.strm_links.specs.ChainLayout.{IsWhole, chain_at, chains_in, lists_in}
use Rattle.strm_links.proofs.lists.AllLists.{holder_has, map-without}
use Rattle.strm_links.proofs.linking.StoredRows.{apart_all}
use Rattle.strm_links.proofs.chains.StoredChains.{some_items}
use Rattle.strm_links.proofs.chains.Shelves.{with-map, without-map}
use Rattle.strm_links.proofs.chains.Whole.{IsLawful-whole, IsWhole-reheaded, head_listed, loads_carried, reheaded_is, shelf_is, shelved_at}
use Rattle.strm_links.proofs.chained.Chained.unshelve.Given.{Over}
use Rattle.strm_links.proofs.chained.Chained.unshelve.Goals as goal
use Rattle.strm_links.proofs.chained.Chained.unshelve.Goals.{After-remove}

pub remove-requires : goal.remove-requires
remove-requires g c = record { sound = c.self.invariant.sound; held = ap is_some (shelved_at c.self.invariant c.self.view_is c.args.head c.args.shelf c.requires.there) }

moved : (g : Over) (c : After-remove g)
    → (IsWhole c.remove.new.self c.self.inside.first_free c.self.inside.free_len c.self.inside.least)
    × (lists_in c.remove.new.self c.self.inside.first_free c.self.inside.free_len c.self.inside.least ≡ record c.args.self.now.lists {
      held = set c.args.self.now.lists.held c.args.head (with_head head_node c.args.head (shelf_in c.args.self.now.lists.shelves c.args.shelf));
      shelves = set c.args.self.now.lists.shelves c.args.shelf (without_head head_node c.args.head (shelf_in c.args.self.now.lists.shelves c.args.shelf));
    })
moved g c =
    let now = c.args.self.now.lists in
    let h = c.args.head in
    let s = c.args.shelf in
    let v = chains_in c.self.inside.table c.self.inside.first_free c.self.inside.free_len in
    let rows = rows_in c.self.inside.table in
    let row = list_at s rows in
    let on = shelved_at c.self.invariant c.self.view_is h s c.requires.there in
    let begun = c.self.invariant.begun h (ap is_some on) in
    let lists = c.remove.ensures.lists ∙ (λ i. record rows { lists = map-without rows (apart_all c.self.invariant.sound) h s on i }) in
    let shelf = shelf_is c.self.invariant c.self.view_is s in
    let each : (k : ℕ) → has k row ≡ true → head_node (chain_at v k) ≡ k = λ k found. head_listed c.self.invariant k s found in (
      IsWhole-reheaded c.self.invariant c.self.view_is c.remove.new.self c.remove.ensures.carried c.remove.ensures.sound h s (without h row) lists c.remove.ensures.others begun,
      reheaded_is c.self.invariant c.self.view_is c.remove.new.self c.remove.ensures.carried c.remove.ensures.sound h s (without h row) lists c.remove.ensures.others begun
          (with_head head_node h (shelf_in now.shelves s))
          (λ _. ap (with_head head_node h) shelf ∙ sym (with-map v h row each (holder_has h s rows on).1) ∙ sym (some_items _ begun))
          (λ some. absurd (false≢true (sym (ap is_some c.remove.ensures.freed) ∙ some)))
          (without-map v h row each ∙ ap (without_head head_node h) (sym shelf)),
    )

pub invariant_of-self : goal.invariant_of-self
invariant_of-self g c = (moved g (goal.at.invariant_of-self g c).After-remove).0

pub returns : goal.returns
returns g c = let both = moved g (goal.at.returns g c).After-remove in record { after = both.1; loads = loads_carried c.self.invariant c.self.view_is _ c.remove.ensures.carried; parted = IsLawful-whole both.0 }
