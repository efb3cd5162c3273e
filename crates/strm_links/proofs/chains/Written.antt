-- What a write of one node's link makes of the links, and of what else the nodes carry.
use Rattle.std.proofs.Common.{◌≡◌, ℕ, ◌<◌, ◌==◌, List, length, get_or, set, if◌then◌else◌, ap, ◌∙◌, sym, inl, inr, get_or-set_same, get_or-set_other}
use Rattle.std.proofs.Math.Seq.{map-set_same}
use Rattle.std.proofs.lemmas.Bool.{cases_eq, cond-true, cond-false, eq-eqb, ne_eqb}
use Rattle.std.proofs.lemmas.List.{get_or-map, map-set, length-map}
use Rattle.strm_links.specs.ChainLayout.{linked_at, links_of, no_link, unlinked}
use Rattle.strm_links.specs.declared.table.Node.{Node}
use Rattle.strm_links.specs.declared.chained.Link.{Link}

-- the links are as many as the nodes
pub length-links : {T : Type 0} (nodes : List (Node Link T)) → length (links_of nodes) ≡ length nodes
length-links nodes = length-map nodes (λ n. n.link)

pub links_long : {T : Type 0} (new old : List (Node Link T)) → length new ≡ length old → length (links_of new) ≡ length (links_of old)
links_long new old long = length-links new ∙ long ∙ sym (length-links old)

-- the link of a node
pub link_read : {T : Type 0} (nodes : List (Node Link T)) (k : ℕ) {x : Node Link T} → k < length nodes → x ≡ get_or nodes k x → x.link ≡ linked_at (links_of nodes) k
link_read {T} nodes k {x} within read = ap (λ (y : Node Link T). y.link) read ∙ sym (get_or-map (λ (y : Node Link T). y.link) nodes k x no_link within)

-- the links after one of them is written
pub links-set : {T : Type 0} (nodes : List (Node Link T)) (n : ℕ) (x : Node Link T) → links_of (set nodes n x) ≡ set (links_of nodes) n x.link
links-set {T} nodes n x = map-set (λ (y : Node Link T). y.link) nodes n x

module _ {T X : Type 0} (f : Link → X) (nodes : List (Node Link T)) (n k : ℕ) where
  -- a part of the link of node n is written
  pub written : (x : Node Link T) → n < length nodes → f (linked_at (links_of (set nodes n x)) k) ≡ (if n == k then f x.link else f (linked_at (links_of nodes) k))
  written x within =
      ap (λ ys. f (linked_at ys k)) (links-set nodes n x)
      ∙ elim (cases_eq n k) [
        | inl same ↦
            ap (λ j. f (linked_at (set (links_of nodes) n x.link) j)) (sym same)
            ∙ ap f (get_or-set_same (links_of nodes) n x.link no_link (rw (length-links nodes) within)) ∙ sym (cond-true _ _ _ (eq-eqb n k same))
        | inr other ↦ ap f (get_or-set_other (links_of nodes) n k x.link no_link (λ same. other (sym same))) ∙ sym (cond-false _ _ _ (ne_eqb n k other))
      ]

  -- a part that the write leaves
  pub kept : {old : Node Link T} (link : Link) → old ≡ get_or nodes n old → n < length nodes → f link ≡ f old.link
      → f (linked_at (links_of (set nodes n (record old { link = link }))) k) ≡ f (linked_at (links_of nodes) k)
  kept {old} link read within same =
      written (record old { link = link }) within
      ∙ elim (cases_eq n k) [
        | inl here ↦ cond-true _ _ _ (eq-eqb n k here) ∙ same ∙ ap f (link_read nodes n within read) ∙ ap (λ j. f (linked_at (links_of nodes) j)) here
        | inr other ↦ cond-false _ _ _ (ne_eqb n k other)
      ]

-- all but the links stay
pub rest_kept : {T : Type 0} (nodes : List (Node Link T)) (n : ℕ) {old : Node Link T} (link : Link) → old ≡ get_or nodes n old → unlinked (set nodes n (record old { link = link })) ≡ unlinked nodes
rest_kept {T} nodes n {old} link read = map-set_same (λ (y : Node Link T). (y.place, y.load)) nodes n (record old { link = link }) old (ap (λ (y : Node Link T). (y.place, y.load)) read)
