-- The named pool was served; what its call returned is stored, or the code `Nothing` is returned.
use Rattle.std.proofs.Common.{◌≡◌, ℕ, ℤ, Option, Some, refl, subst, sym, rules}
use Rattle.strm_named.specs.declared.name.Name.{Name}
use Rattle.strm_named.specs.NamedCalls.{ServesNamed}
use Rattle.strm_named.specs.NamedValue.{NamedValue}
use Rattle.strm_scheduler.specs.declared.starting.Service.{Service}
use Rattle.strm_c.specs.declared.layout.StrmService.{StrmService}
use Rattle.strm_c.specs.Codes.{number_returned, value_written}
use Rattle.strm_c.specs.Exports.{Held, ServesHeld}
use Rattle.strm_c.specs.InC.{service_told}
use Rattle.strm_c.proofs.flow.strm_c_serve.Goals as goal

served : (held : ℕ) (old new : Held) (v w : NamedValue) (answer : Option (Service × Name)) (number : ℤ) (was is : StrmService × Name) → old ≡ Some v → new ≡ Some w → ServesNamed held v w answer
    → number ≡ number_returned (service_told answer) → is ≡ value_written was (service_told answer) → ServesHeld held old new number was is
served held old new v w answer number was is before after serves told stored = subst (λ (o : Held). ServesHeld held o new number was is) (sym before) (w, answer, serves, (after, (told, stored)))

pub returns-in-Some-serve : goal.returns-in-Some-serve
returns-in-Some-serve c =
    served c.args.held _ _ c.in-Some.named.now c.serve.new.self (Some (c.in-Some-serve.given, c.in-Some-serve.name)) _ _ _ (search rules) (search rules) c.in-Some-serve.ensures refl
    (λ i. (c.of.ensures i, c.of-in-Some-serve.ensures i))
