use Rattle.std.proofs.Common.{◌≡◌, ◌+◌, ◌<◌, ◌∙◌, Some, ap, arith, length, sym}
use Rattle.std.specs.Prelude.{slice_get, unwrap_or}
use Rattle.std.proofs.lemmas.Option.{slice_get-get_or, unwrap_or-slice_get}
use Rattle.strm_links.specs.ChainLists.{nodes_at}
use Rattle.strm_mblk.proofs.Lists.{below}
use Rattle.strm_mblk.proofs.Nodes.{chain_is}
use Rattle.strm_mblk.proofs.blocks.onward.Goals as goal

pub returns : goal.returns
returns c h i reached =
    let v = c.args.chains.now.lists in
    let next : i + 1 < length (nodes_at v h) → c.next.result ≡ slice_get (nodes_at v h) (i + 1) =
    λ more.
    let at = reached.here (omega (arith, more)) in
    let same = chain_is v h i at in
    c.next.ensures.value h i (ap (λ ns. slice_get ns i) same ∙ at) ∙ ap (λ ns. slice_get ns (i + 1)) same in
    record {
      here = λ more.
          slice_get-get_or (nodes_at v h) (i + 1) 4294967295 more
          ∙ ap Some (sym (c.unwrap_or.ensures ∙ ap (λ o. unwrap_or o 4294967295) (next more) ∙ unwrap_or-slice_get (nodes_at v h) (i + 1) 4294967295));
      in_range = λ more. omega (arith, c.unwrap_or.ensures, below 4294967295 _ (next more ∙ slice_get-get_or (nodes_at v h) (i + 1) 0 more) c.next.ensures.in_range);
    }
