-- What a call of C gives: a value that is stored through a pointer, or a code; and the numbers of codes.
use Rattle.std.specs.Prelude.{ℕ, zero, suc, ℤ, pos, negsuc, Option, None, Some, Result, Ok, Err}
use Rattle.strm_data.specs.declared.refusal.Refusal.{Refusal}
use Rattle.strm_data.specs.Refusal as refusals
use Rattle.strm_pool.specs.declared.config.Which.{Which}
use Rattle.strm_pool.specs.declared.config.Which.TheVariants as which
use Rattle.strm_named.specs.declared.fault.Fault.{Fault}
use Rattle.strm_named.specs.declared.fault.Fault.TheVariants as faults
use Rattle.strm_c.specs.declared.code.Code.{Code}
use Rattle.strm_c.specs.declared.code.Code.TheVariants.{BadArgument, BadConfig, Invalid, IsOpen, NoMemory, NotOpen, Nothing, Refused}

-- -n
abbrev pub minus : ℕ → ℤ
minus zero = pos 0
minus (suc n) = negsuc n

-- the number, without its sign, of the first fault of a configuration
abbrev pub number_of_fault : Which → ℕ
number_of_fault which.Mblks = 11
number_of_fault which.Classes = 12
number_of_fault which.ClassSize = 13
number_of_fault which.ClassTotal = 14
number_of_fault which.Queues = 15
number_of_fault which.Marks = 16
number_of_fault which.Next = 17
number_of_fault which.Bufcalls = 18
number_of_fault which.FirstId = 19

-- the number of a code in strm.h
abbrev pub number_of : Code → ℤ
number_of (Refused why) = pos (refusals.number_of why)
number_of Nothing = minus 1
number_of Invalid = minus 2
number_of NotOpen = minus 3
number_of BadArgument = minus 4
number_of IsOpen = minus 5
number_of NoMemory = minus 6
number_of (BadConfig fault) = minus (number_of_fault fault)

-- ---- answers

abbrev pub Answer : Type 0 → Type 0
Answer Z = Result Z Code

-- the number that the call returns: 0, or that of the code
abbrev pub number_returned : {Z : Type 0} → Answer Z → ℤ
number_returned (Ok z) = pos 0
number_returned (Err code) = number_of code

-- what is stored behind the pointer after the call
abbrev pub value_written : {Z : Type 0} → Z → Answer Z → Z
value_written before (Ok z) = z
value_written before (Err code) = before

-- ---- answers of the named pool, as those of C

abbrev pub code_of : Fault → Code
code_of faults.Invalid = Invalid
code_of (faults.Refused why) = Refused why

-- the answer to a call on names, from the answer to its result
abbrev pub answer_of_result : {Y Z : Type 0} → (Y → Answer Z) → Result Y Fault → Answer Z
answer_of_result tells (Ok y) = tells y
answer_of_result tells (Err fault) = Err (code_of fault)

-- the answer to a call without names, from the answer to its result
abbrev pub answer_of_refusable : {Y Z : Type 0} → (Y → Answer Z) → Result Y Refusal → Answer Z
answer_of_refusable tells (Ok y) = tells y
answer_of_refusable tells (Err why) = Err (Refused why)

-- the value, if any; otherwise the code `Nothing`
abbrev pub any_or_nothing : {Z : Type 0} → Option Z → Answer Z
any_or_nothing None = Err Nothing
any_or_nothing (Some z) = Ok z
