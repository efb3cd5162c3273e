-- What opening and closing a handle does, and which code it returns.
use Rattle.std.specs.Prelude.{◌≡◌, ℕ, ℤ, pos, Bool, not, ◌&&◌, ◌==◌, nat_le, List, length, map, Option, None, Some, Result, Ok, Err, if◌then◌else◌}
use Rattle.std.specs.Global.{Box}
use Rattle.strm_data.specs.declared.class_spec.ClassSpec.{ClassSpec}
use Rattle.strm_data.specs.Limits.{most_classes}
use Rattle.strm_queue.specs.declared.queue_spec.QueueSpec.{QueueSpec}
use Rattle.strm_queue.specs.Limits.{most_queues}
use Rattle.strm_pool.specs.declared.config.Config.{Config}
use Rattle.strm_pool.specs.declared.config.Which.{Which}
use Rattle.strm_pool.specs.Config.{fault_of}
use Rattle.strm_named.specs.NamedValue.{HasNoNames, NamedValue, opening_named}
use Rattle.strm_c.specs.declared.code.Code.{Code}
use Rattle.strm_c.specs.declared.code.Code.TheVariants.{BadArgument, BadConfig, IsOpen, NoMemory, NotOpen}
use Rattle.strm_c.specs.declared.layout.StrmClassSpec.{StrmClassSpec}
use Rattle.strm_c.specs.declared.layout.StrmQueueSpec.{StrmQueueSpec}
use Rattle.strm_c.specs.Codes.{Answer, number_of}
use Rattle.strm_c.specs.Exports.{Held}
use Rattle.strm_c.specs.InC.{capped_number}

-- ---- what C gives

abbrev pub class_spec_of : StrmClassSpec → ClassSpec
class_spec_of c = record { size = c.size; count = c.count }

-- the number of a next queue; 2^32 - 1 means none
abbrev pub next_of : ℕ → Option ℕ
next_of n = if n == 4294967295 then None else Some (capped_number n)

abbrev pub queue_spec_of : StrmQueueSpec → QueueSpec
queue_spec_of q = record { hiwat = q.hiwat; lowat = q.lowat; service = not (q.service == 0); next = next_of q.next }

-- there are no more classes and queues than a pool can have
abbrev pub are_few : List StrmClassSpec → List StrmQueueSpec → Bool
are_few classes queues = nat_le (length classes) most_classes && nat_le (length queues) most_queues

-- the configuration, if there are no more classes and queues than that
abbrev pub config_of : ℕ → ℕ → List StrmClassSpec → List StrmQueueSpec → ℕ → ℕ → Option Config
config_of id mblks classes queues bufcalls first_id =
    if are_few classes queues then Some (record {
      id = id;
      mblks = mblks;
      classes = map class_spec_of classes;
      queues = map queue_spec_of queues;
      bufcalls = bufcalls;
      first_id = first_id;
    }) else None

-- ---- opening

-- A lawful configuration opens a pool in which no name is valid, or memory is refused.
abbrev pub OpensLawful : Config → Held → ℤ → Type 0
OpensLawful c None number = number ≡ number_of NoMemory
OpensLawful c (Some v) number = (v ≡ opening_named c) × (HasNoNames v × (number ≡ pos 0))

-- If the configuration has a fault, its code is returned before any memory is taken, and the handle stays closed.
abbrev pub OpensBy : Option Which → Config → Held → ℤ → Type 0
OpensBy None c new number = OpensLawful c new number
OpensBy (Some which) c new number = (new ≡ None) × (number ≡ number_of (BadConfig which))

-- the same for the box of the pool, before the handle gets it
abbrev pub OpensBoxed : Config → Result (Box NamedValue) Code → Type 0
OpensBoxed c (Ok named) = OpensBy (fault_of c) c (Some named.value) (pos 0)
OpensBoxed c (Err code) = OpensBy (fault_of c) c None (number_of code)

-- An open handle stays unchanged, with the code `IsOpen`. Another is opened by the configuration; without one the code is
-- `BadArgument`.
abbrev pub OpensHandle : Option Config → Held → Held → ℤ → Type 0
OpensHandle config (Some v) new number = (new ≡ Some v) × (number ≡ number_of IsOpen)
OpensHandle None None new number = (new ≡ None) × (number ≡ number_of BadArgument)
OpensHandle (Some c) None new number = OpensBy (fault_of c) c new number

-- ---- closing

-- what closing a handle answers
abbrev pub answer_of_close : Held → Answer (Unit {0})
answer_of_close None = Err NotOpen
answer_of_close (Some v) = Ok tt
