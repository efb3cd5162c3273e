use Rattle.std.proofs.Common.{sym, ◌∙◌}
use Rattle.strm_links.proofs.lists.OneList.{IfSome-from}
use Rattle.strm_links.proofs.Stacked.{here, IsSound-rows, front_holder, front_within}
use Rattle.strm_links.proofs.stacks.Stacks.front.Goals as goal

pub returns : goal.returns
returns g c =
    let sound = IsSound-rows _ _ _ c.self.view_is c.self.invariant in
    record {
      value = c.get.ensures ∙ (here _ _ _ sound c.args.list c.requires _ c.index.ensures).front;
      member = IfSome-from c.get.result _ (λ n is. front_holder _ _ _ sound c.args.list c.requires _ c.index.ensures n (sym c.get.ensures ∙ is));
      in_range = IfSome-from c.get.result _ (λ n is. front_within _ _ _ sound c.args.list c.requires _ c.index.ensures n (sym c.get.ensures ∙ is));
    }
