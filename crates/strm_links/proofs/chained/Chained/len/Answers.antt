use Rattle.std.proofs.Common.{◌≡◌, ◌∙◌, List, Option, Some, None, ℕ, ap, arith, length, sym}
use Rattle.strm_links.specs.Chains.{items_of}
use Rattle.strm_links.specs.ChainLayout.{IsHeadOf}
use Rattle.strm_links.specs.declared.chained.Link.{Link}
use Rattle.strm_links.specs.declared.chained.Span.{Span}
use Rattle.strm_links.proofs.chains.Whole.{chain_of_is, room}
use Rattle.strm_links.proofs.chains.Written.{link_read}
use Rattle.strm_links.proofs.chained.Chained.len.Goals as goal

pub index-requires : goal.index-requires
index-requires g c = omega (arith, c.requires, room c.self.invariant c.self.view_is)

stored : (next : ℕ → Option ℕ) (span : Span) (h : ℕ) (o : Option (List ℕ)) → IsHeadOf next span h o → span.len ≡ length (items_of o)
stored next span h None is = is
stored next span h (Some xs) is = is.len

pub returns : goal.returns
returns g c =
    ap (λ (l : Link). l.span.len) (link_read _ c.args.head (omega (arith, c.requires, room c.self.invariant c.self.view_is)) c.index.ensures)
    ∙ stored _ _ c.args.head _ (c.self.invariant.chained.heads c.args.head)
    ∙ ap length (sym (chain_of_is c.self.invariant c.self.view_is c.args.head))
