use Rattle.std.proofs.Common.{ℕ, ◌≡◌, ◌<◌, ◌-◌, suc, length, set, take, drop, ap, arith, sym, ◌∙◌, subst, refl, Some, IsSome}
use Rattle.strm_links.specs.Rows.{first}
use Rattle.std.specs.Prelude.{min}
use Rattle.std.proofs.Math.Nat.{min-le_right}
use Rattle.std.proofs.lemmas.List.{length-drop}
use Rattle.strm_links.specs.ChainLists.{with_begun, with_free_left}
use Rattle.strm_links.specs.ChainLayout.{IsChained, after_at, chains_in, links_of, onward}
use Rattle.strm_links.specs.declared.chained.Link.{Link}
use Rattle.strm_links.proofs.chains.Begun.{IsChained-begun_several, front_low, front_none, several_low, several_there}
use Rattle.strm_links.proofs.chains.StoredChains.{next_within}
use Rattle.strm_links.proofs.chains.Whole.{IsLawful-whole, Shows, IsWhole-one, free_is, front_there, least_is, loads_kept, low_room, none_off}
use Rattle.strm_links.proofs.chains.Written.{link_read, links_long}
use Rattle.strm_links.proofs.chained.Chained.begin_all.Given.{Over}
use Rattle.strm_links.proofs.chained.Chained.begin_all.Goals as goal
use Rattle.strm_links.proofs.chained.Chained.begin_all.Goals.{After-chain_up, After-number-head}

pub number-head-requires : goal.number-head-requires
number-head-requires g c = front_there c.self.invariant c.self.view_is (omega (arith, c.requires.some, c.requires.enough))

-- the head is a node, and there are as many free nodes as the walk takes steps
low : (g : Over) (c : After-number-head g) → c.number-head.result < length c.self.inside.table.nodes.items
low g c = low_room c.self.invariant c.self.view_is _ (front_low c.self.invariant.chained c.number-head.ensures)

enough : (g : Over) (c : After-number-head g) → c.args.count - 1 < length (chains_in c.self.inside.table c.self.inside.first_free c.self.inside.free_len).free
enough g c = omega (arith, c.requires.some, c.requires.enough, ap length (free_is c.self.invariant c.self.view_is))

pub node_behind-last-requires : goal.node_behind-last-requires
node_behind-last-requires g c =
    let at = (goal.at.node_behind-last-requires g c).After-number-head in
    let last = several_there c.self.invariant.chained c.args.count (c.args.count - 1) c.number-head.ensures (omega (arith, c.requires.some)) (enough g at) in
    record {
      from = omega (arith, c.deref.ensures.len, low g at);
      within = λ k j is. omega (arith, c.deref.ensures.len, low_room c.self.invariant c.self.view_is j (next_within c.self.invariant.chained k (ap (λ ns. after_at (links_of ns) k) (sym c.deref.ensures.value) ∙ is)));
      there = subst IsSome (sym (ap (λ ns. onward (after_at (links_of ns)) (c.args.count - 1) (Some c.number-head.result)) c.deref.ensures.value ∙ last)) refl;
    }

pub overflow_sub-self : goal.overflow_sub-self
overflow_sub-self g c = omega (arith, c.requires.enough, c.self.invariant.chained.free_count, ap length (free_is c.self.invariant c.self.view_is))

pub chain_up-requires-clause-head : goal.chain_up-requires-clause-head
chain_up-requires-clause-head g c = omega (arith, low g (goal.at.chain_up-requires-clause-head g c).After-number-head)

moved : (g : Over) (c : After-chain_up g) → c.args.count - 1 < length (chains_in c.self.inside.table c.self.inside.first_free c.self.inside.free_len).free
    → {m : ℕ} → m ≡ min c.self.inside.least (c.self.inside.free_len - c.args.count)
    → Shows (record c.self.inside.table { nodes = c.chain_up.new.nodes }) c.index.result.now.link.next (c.self.inside.free_len - c.args.count) m (with_begun c.args.self.now.lists c.number-head.result c.args.count)
moved g c enough fewest =
    let is : c.args.count ≡ suc (c.args.count - 1) = omega (arith, c.requires.some) in
    let chained = c.self.invariant.chained in
    let h = c.number-head.result in
    let t = c.node_behind-last.result in
    let n = c.args.count in
    let v = chains_in c.self.inside.table c.self.inside.first_free c.self.inside.free_len in
    let links = links_of c.self.inside.table.nodes.items in
    let walked : onward (after_at links) (n - 1) (Some h) ≡ Some t = ap (λ ns. onward (after_at (links_of ns)) (n - 1) (Some h)) (sym c.deref.ensures.value) ∙ c.node_behind-last.ensures.value in
    let last = low_room c.self.invariant c.self.view_is t (several_low chained n (n - 1) c.number-head.ensures is enough walked).1 in
    let laid = IsChained-begun_several chained n (n - 1) c.number-head.ensures is enough walked (links_of c.chain_up.new.nodes.items) (links_long _ _ (omega (arith, c.chain_up.ensures.len)))
    c.chain_up.ensures.nexts c.chain_up.ensures.spans in
    let both = IsWhole-one c.self.invariant c.self.view_is c.chain_up.new.nodes c.chain_up.ensures.rest h _
    (none_off c.self.invariant c.self.view_is h (front_none chained c.number-head.ensures))
    (subst (λ o. IsChained (links_of c.chain_up.new.nodes.items) o (c.self.inside.free_len - n) (record { free = drop n v.free; chains = set v.chains h (Some (take n v.free)) }))
    (sym (ap (λ (l : Link). l.next) (link_read _ t last c.index.ensures))) laid) (omega (arith, fewest, min-le_right c.self.inside.least (c.self.inside.free_len - n))) in
    let left : c.self.inside.free_len - n ≡ length (drop n v.free) = omega (arith, length-drop n v.free, chained.free_count) in
    record {
      whole = both.whole;
      lists = both.lists
          ∙ (λ i. record c.args.self.now.lists { free = drop n v.free; held = set c.args.self.now.lists.held h (Some (take n v.free)); least = (fewest ∙ (λ j. min (least_is c.self.invariant c.self.view_is j) (left j))) i })
          ∙ ap (λ fs. record (with_free_left (drop n fs) c.args.self.now.lists) { held = set c.args.self.now.lists.held h (Some (take n fs)) }) (free_is c.self.invariant c.self.view_is);
    }

pub invariant_of-self : goal.invariant_of-self
invariant_of-self g c = let at = goal.at.invariant_of-self g c in (moved g at.After-chain_up (enough g at.After-number-head) c.min-self-inside.ensures).whole

pub returns : goal.returns
returns g c =
    let at = goal.at.returns g c in
    let both = moved g at.After-chain_up (enough g at.After-number-head) c.min-self-inside.ensures in
    record {
      answer = ap first (sym (free_is c.self.invariant c.self.view_is)) ∙ sym c.self.invariant.chained.free_front ∙ c.number-head.ensures;
      after = both.lists;
      loads = loads_kept c.self.invariant c.self.view_is c.chain_up.new.nodes c.chain_up.ensures.rest;
      parted = IsLawful-whole both.whole;
    }
