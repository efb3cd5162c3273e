use Rattle.std.proofs.Common.{[], Ok, None, Some, refl, ap, subst}
use Rattle.strm_named.specs.NamedLayout.{pool_with}
use Rattle.strm_named.specs.NamedCalls.{ServesNamed, any_message, outcome_of}
use Rattle.strm_named.proofs.Held.{has_stamp}
use Rattle.strm_named.proofs.Shaped.{Called, gives_any}
use Rattle.strm_named.proofs.named_pool.NamedPool.serve.Goals.{After-give}
use Rattle.strm_named.proofs.named_pool.NamedPool.serve.Goals as goal

pub give-requires : goal.give-requires
give-requires c = has_stamp c.self.invariant c.in-Some.ensures.holds.others c.in-Some.token c.in-Some.ensures.holds.had

-- a queue gave a message
given : (c : After-give) → Called any_message (outcome_of (Ok (Some c.in-Some.token.head, c.serve.new.pool))) [] (pool_with c.self.inside.pool c.self.inside.stamps.items) c.serve.new.pool c.give.new.stamps.items (Ok (Some c.give.result))
given c = gives_any c.self.invariant c.in-Some.ensures.holds c.give.ensures.stamps (ap (λ n. Ok (Some n)) c.give.ensures.name)

pub invariant_of-self : goal.invariant_of-self
invariant_of-self c = (given (goal.at.invariant_of-self c).After-give).fits

pub returns-in-Some : goal.returns-in-Some
returns-in-Some c =
    subst (λ v. ServesNamed c.args.held v (pool_with c.serve.new.pool c.give.new.stamps.items) (Some (c.in-Some.service, c.give.result))) c.self.view_is
    (record {
      given = Some (c.in-Some.service, c.in-Some.token);
      serves = c.in-Some.ensures.serves;
      service = refl;
      does = (given (goal.at.returns-in-Some c).After-give).does;
      awake = c.in-Some.ensures.awake;
    })

-- none gave one
pub invariant_of-self-in-None : goal.invariant_of-self-in-None
invariant_of-self-in-None c = (gives_any c.self.invariant c.in-None.ensures.holds refl refl).fits

pub returns-in-None : goal.returns-in-None
returns-in-None c =
    subst (λ v. ServesNamed c.args.held v (pool_with c.serve.new.pool c.self.inside.stamps.items) None) c.self.view_is
    (record {
      given = None;
      serves = c.in-None.ensures.serves;
      service = refl;
      does = (gives_any c.self.invariant c.in-None.ensures.holds refl refl).does;
      awake = c.in-None.ensures.awake;
    })
