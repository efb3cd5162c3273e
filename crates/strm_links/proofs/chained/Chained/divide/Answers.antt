use Rattle.std.proofs.Common.{◌≡◌, ◌==◌, ◌-◌, ap, arith, refl, sym, subst, ◌∙◌, if◌then◌else◌}
use Rattle.std.specs.Prelude.{slice_get}
use Rattle.strm_links.specs.Chains.{chain_divided}
use Rattle.strm_links.specs.ChainLists.{IsLawful, nodes_at}
use Rattle.strm_links.specs.ChainLayout.{after_at, linked_at, links_of}
use Rattle.strm_links.specs.declared.chained.Link.{Link}
use Rattle.strm_links.proofs.chains.Divided.{IsChained-divided, alone, divided_len, divided_low, divided_none, divided_second, two}
use Rattle.strm_links.proofs.chains.Whole.{IsLawful-whole, Shows, IsWhole-two, free_is, held_low, held_read, least_is, lists_are, loads_kept, low_room, nodes_are, none_off, off, there}
use Rattle.strm_links.proofs.chains.Written.{links_long}
use Rattle.strm_links.proofs.chained.Chained.divide.Given.{Over}
use Rattle.strm_links.proofs.chained.Chained.divide.Goals as goal
use Rattle.strm_links.proofs.chained.Chained.divide.Goals.{After-get, After-keep}

pub index-requires : goal.index-requires
index-requires g c = omega (arith, held_low c.self.invariant c.self.view_is c.args.head c.requires)

-- what the code reads at the head
read : (g : Over) (c : After-get g) → c.index.result.now.link ≡ linked_at (links_of c.self.inside.table.nodes.items) c.args.head
read g c = held_read c.self.invariant c.self.view_is c.args.head c.requires c.index.ensures

next : (g : Over) (c : After-get g) → c.get.result ≡ after_at (links_of c.self.inside.table.nodes.items) c.args.head
next g c = c.get.ensures ∙ ap (λ (l : Link). l.next) (read g c)

pub returns-in_err-rest : goal.returns-in_err-rest
returns-in_err-rest g c =
    let same = nodes_are c.self.invariant c.self.view_is c.args.head c.requires
    ∙ alone c.self.invariant.chained c.args.head (there c.self.invariant c.self.view_is c.args.head c.requires) (sym (next g (goal.at.returns-in_err-rest g c).After-get) ∙ c.in_err-rest.was) in
    record {
      answer = c.from_residual.ensures ∙ sym (ap (λ xs. slice_get xs 1) same);
      after = λ i. record c.args.self.now.lists { held = chain_divided (λ n. n) c.args.head (sym same i) c.args.self.now.lists.held };
      loads = refl;
      parted = subst IsLawful (lists_are c.self.invariant c.self.view_is) (IsLawful-whole c.self.invariant);
    }

pub overflow_sub-span : goal.overflow_sub-span
overflow_sub-span g c =
    let at = (goal.at.overflow_sub-span g c).After-get in
    omega (
      arith,
      ap (λ (l : Link). l.span.len) (read g at),
      divided_len c.self.invariant.chained c.args.head (there c.self.invariant c.self.view_is c.args.head c.requires) (sym (next g at) ∙ c.in_ok-rest.was),
    )

pub chain_up-requires : goal.chain_up-requires
chain_up-requires g c = let low = held_low c.self.invariant c.self.view_is c.args.head c.requires in record { head = omega (arith, low); last = omega (arith, low) }

pub keep-requires : goal.keep-requires
keep-requires g c =
    omega (
      arith,
      c.chain_up.ensures.len,
      low_room c.self.invariant c.self.view_is _
          (divided_low c.self.invariant.chained c.args.head (there c.self.invariant c.self.view_is c.args.head c.requires) (sym (next g (goal.at.keep-requires g c).After-get) ∙ c.in_ok-rest.was)),
    )

moved : (g : Over) (c : After-keep g) → c.get.result ≡ after_at (links_of c.self.inside.table.nodes.items) c.args.head
    → Shows (record c.self.inside.table { nodes = c.keep.new.nodes }) c.self.inside.first_free c.self.inside.free_len c.self.inside.least (record c.args.self.now.lists { held = chain_divided (λ n. n) c.args.head (nodes_at c.args.self.now.lists c.args.head) c.args.self.now.lists.held })
moved g c next =
    let is = held_read c.self.invariant c.self.view_is c.args.head c.requires c.index.ensures in
    let chained = c.self.invariant.chained in
    let now = c.args.self.now.lists in
    let h = c.args.head in
    let r = c.in_ok-rest.rest in
    let some = there c.self.invariant c.self.view_is h c.requires in
    let on = sym next ∙ c.in_ok-rest.was in
    let rest = two chained h some on in
    let laid = IsChained-divided chained h some on (links_of c.keep.new.nodes.items) (links_long _ _ (omega (arith, c.keep.ensures.len, c.chain_up.ensures.len)))
    (λ k. c.keep.ensures.nexts k ∙ c.chain_up.ensures.nexts k)
    (λ k. c.keep.ensures.spans k ∙ (λ i. if r == k then record { last = (is i).span.last; len = (is i).span.len - 1 } else c.chain_up.ensures.spans k i)) in
    subst (Shows _ _ _ _) (λ i. record now { free = free_is c.self.invariant c.self.view_is i; held = chain_divided (λ n. n) h (sym (nodes_are c.self.invariant c.self.view_is h c.requires ∙ rest.1) i) now.held; least = least_is c.self.invariant c.self.view_is i })
    (IsWhole-two c.self.invariant c.self.view_is c.keep.new.nodes (c.keep.ensures.rest ∙ c.chain_up.ensures.rest) h r _ _ (off c.self.invariant c.self.view_is h c.requires)
    (none_off c.self.invariant c.self.view_is r (divided_none chained h some on)) laid c.self.invariant.fewest)

pub invariant_of-self : goal.invariant_of-self
invariant_of-self g c = let at = goal.at.invariant_of-self g c in (moved g at.After-keep (next g at.After-get)).whole

pub returns : goal.returns
returns g c =
    let at = goal.at.returns g c in
    let both = moved g at.After-keep (next g at.After-get) in
    record {
      answer = sym (ap (λ xs. slice_get xs 1) (nodes_are c.self.invariant c.self.view_is c.args.head c.requires)
          ∙ divided_second c.self.invariant.chained c.args.head (there c.self.invariant c.self.view_is c.args.head c.requires) (sym (next g at.After-get) ∙ c.in_ok-rest.was));
      after = both.lists;
      loads = loads_kept c.self.invariant c.self.view_is c.keep.new.nodes (c.keep.ensures.rest ∙ c.chain_up.ensures.rest);
      parted = IsLawful-whole both.whole;
    }
