use Rattle.std.proofs.Common.{◌≡◌, ◌<◌, ℕ, List, [], ◌∷◌, length, Some, IsSome, refl, arith, sym, ◌∙◌, subst, get_or}
use Rattle.std.proofs.lemmas.Option.{same_Some}
use Rattle.strm_links.specs.declared.chained.Link.{Link}
use Rattle.strm_links.specs.Layout.{LeadsOn}
use Rattle.strm_links.specs.ChainLayout.{after_at, links_of, onward, path}
use Rattle.strm_links.specs.Rows.{first, first_or}
use Rattle.strm_links.proofs.lists.OneList.{has_at}
use Rattle.strm_links.proofs.lists.ListLinks.{has_first, LeadsOn-walk, walk_from}
use Rattle.strm_links.proofs.chains.Freed.{AreReversed, Reverses, Reverses-more, Reverses-start, reverse_at, reversed_all}
use Rattle.strm_links.proofs.chains.Written.{length-links, link_read, links-set, rest_kept}
use Rattle.strm_links.proofs.chained.reverse_links.Given.{Over}
use Rattle.strm_links.proofs.chained.reverse_links.Goals as goal
use Rattle.strm_links.proofs.chained.reverse_links.Goals.{After-loop-reversed, After-number-number}

-- ---- the first node

-- the nodes of the path lead to where `len` steps do
leads : (links : List Link) (h len : ℕ) → LeadsOn (after_at links) (path links len (Some h)) (onward (after_at links) len (Some h))
unfolding path
leads links h len = LeadsOn-walk (after_at links) len (Some h)

begins : (links : List Link) (h len : ℕ) → Some h ≡ first_or (onward (after_at links) len (Some h)) (path links len (Some h))
unfolding path
begins links h len = walk_from (after_at links) len (Some h)

some : (xs : List ℕ) {h : ℕ} → first xs ≡ Some h → 0 < length xs
some [] is = absurd (cc)
some (x ∷ xs) is = omega arith

pub index_mut-node-requires : goal.index_mut-node-requires
index_mut-node-requires g c = omega (arith, c.requires.within c.args.head (has_first _ c.args.head c.requires.begins))

pub some-onto-requires : goal.some-onto-requires
some-onto-requires g c = omega (arith, c.requires.few, c.requires.within c.args.head (has_first _ c.args.head c.requires.begins))

pub loop-reversed-init : goal.loop-reversed-init
loop-reversed-init g c =
    let nodes = c.args.nodes.now.items in
    let node = c.index_mut-node.result.now in
    let link : Link = record node.link { next = c.args.beyond } in
    let starts : Reverses (links_of nodes) (links_of nodes) c.args.beyond _ _ 0 (Some c.args.head) c.args.beyond = Reverses-start _ _ _ _ (begins (links_of nodes) c.args.head c.args.len) in
    let any = some _ c.requires.begins in
    let low : c.args.head < length nodes = omega (arith, c.requires.within c.args.head (has_first _ c.args.head c.requires.begins)) in
    record {
      reverses = Reverses-more starts any c.requires.apart (leads (links_of nodes) c.args.head c.args.len) (same_Some _ _ (reverse_at starts any))
          (omega (arith, low, length-links nodes)) _ (link_read nodes c.args.head low c.index_mut-node.ensures.value) (links-set nodes c.args.head (record node { link = link })) refl c.some-onto.ensures;
      rest = rest_kept nodes c.args.head link c.index_mut-node.ensures.value;
    }

-- ---- each later node

pub number-number-requires : goal.number-number-requires
number-number-requires g c = subst IsSome (sym (reverse_at c.loop-reversed.invariant.reverses (omega (arith, c.requires.len, c.loop-reversed-test.true)))) refl

-- a node is left, and the walk is at the first that is
more : (g : Over) (c : After-number-number g) → c.loop-reversed._reversed < length (path (links_of c.args.nodes.now.items) c.args.len (Some c.args.head))
more g c = omega (arith, c.requires.len, c.loop-reversed-test.true)

here : (g : Over) (c : After-number-number g) → c.number-number.result ≡ get_or (path (links_of c.args.nodes.now.items) c.args.len (Some c.args.head)) c.loop-reversed._reversed 0
here g c = same_Some _ _ (sym c.number-number.ensures ∙ reverse_at c.loop-reversed.invariant.reverses (more g c))

low : (g : Over) (c : After-number-number g) → c.number-number.result < length c.loop-reversed.nodes.items
low g c =
    omega (
      arith,
      here g c,
      c.loop-reversed.invariant.reverses.len,
      length-links c.loop-reversed.nodes.items,
      length-links c.args.nodes.now.items,
      c.requires.within _ (has_at _ c.loop-reversed._reversed 0 (more g c)),
    )

pub index_mut-node-requires-in-loop-reversed : goal.index_mut-node-requires-in-loop-reversed
index_mut-node-requires-in-loop-reversed g c = omega (arith, low g (goal.at.index_mut-node-requires-in-loop-reversed g c).After-number-number)

pub some-onto-requires-in-loop-reversed : goal.some-onto-requires-in-loop-reversed
some-onto-requires-in-loop-reversed g c =
    omega (
      arith,
      c.requires.few,
      c.loop-reversed.invariant.reverses.len,
      length-links c.loop-reversed.nodes.items,
      length-links c.args.nodes.now.items,
      low g (goal.at.some-onto-requires-in-loop-reversed g c).After-number-number,
    )

pub loop-reversed-preserved : goal.loop-reversed-preserved
loop-reversed-preserved g c =
    let at = (goal.at.loop-reversed-preserved g c).After-number-number in
    let nodes = c.loop-reversed.nodes.items in
    let node = c.index_mut-node-in-loop-reversed.result.now in
    let n = c.number-number.result in
    let link : Link = record node.link { next = c.loop-reversed.onto } in
    record {
      reverses = Reverses-more c.loop-reversed.invariant.reverses (more g at) c.requires.apart (leads (links_of c.args.nodes.now.items) c.args.head c.args.len) (here g at)
          (omega (arith, low g at, length-links nodes)) _ (link_read nodes n (low g at) c.index_mut-node-in-loop-reversed.ensures.value) (links-set nodes n (record node { link = link })) refl
          c.some-onto-in-loop-reversed.ensures;
      rest = rest_kept nodes n link c.index_mut-node-in-loop-reversed.ensures.value ∙ c.loop-reversed.invariant.rest;
    }

-- ---- after the loop

pub returns : goal.returns
returns g c =
    let all : AreReversed (links_of c.args.nodes.now.items) (links_of c.loop-reversed.nodes.items) c.args.beyond (onward (after_at (links_of c.args.nodes.now.items)) c.args.len (Some c.args.head)) (path (links_of c.args.nodes.now.items) c.args.len (Some c.args.head)) c.loop-reversed.at
    c.loop-reversed.onto =
    reversed_all c.loop-reversed.invariant.reverses (omega (arith, c.requires.len, c.loop-reversed-test.false)) in
    record {
      last = all.onto_is;
      next = all.at_is;
      reversed = all.reversed;
      others = all.others;
      spans = c.loop-reversed.invariant.reverses.spans;
      rest = c.loop-reversed.invariant.rest;
      len = omega (arith, c.loop-reversed.invariant.reverses.len, length-links c.loop-reversed.nodes.items, length-links c.args.nodes.now.items);
    }
