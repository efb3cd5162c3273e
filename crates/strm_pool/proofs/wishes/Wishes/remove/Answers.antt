use Rattle.std.proofs.Common.{◌≡◌, ◌<◌, length, rules, subst, sym}
use Rattle.std.specs.List.{remove}
use Rattle.strm_pool.specs.PoolValue.{WishState}
use Rattle.strm_pool.specs.WishesLayout.{wishes_in}
use Rattle.strm_pool.proofs.Replays.{without_lawful}
use Rattle.strm_pool.proofs.wishes.Wishes.remove.Goals as goal

pub invariant_of-self : goal.invariant_of-self
invariant_of-self c =
    let there : c.args.place < length c.self.inside.pending.items = subst (λ (s : WishState). c.args.place < length s.pending) (sym c.self.view_is) c.requires in
    let kept : c.pop_at.new.self.items ≡ remove c.self.inside.pending.items c.args.place = search rules in
    record { roomy = c.self.invariant.roomy; lawful = rw kept (without_lawful (wishes_in c.self.inside) c.args.place there c.self.invariant.lawful) }
