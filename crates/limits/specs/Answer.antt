-- A set alone: limit 1 comes before refusal 3, the other limits after it.
use Rattle.std.specs.Prelude.{ℕ, eqb, Option, Some, None, Result, Ok, Err}
use Rattle.base.specs.Choose.{choose}
use Rattle.base.specs.declared.refusal.Refusal.{Refusal}
use Rattle.base.specs.declared.refusal.Refusal.TheVariants.{Unreadable, Limit}
use Rattle.wire.specs.declared.records.record.Fault.{Fault}
use Rattle.descriptor.specs.Descriptor.{Bytes}
use Rattle.descriptor.specs.Limits.{passes_1, limit_passed}
use Rattle.known_fields.specs.Check.{check_set}
use Rattle.limits.specs.Weights.{limit_number}
use Rattle.limits.specs.declared.limit.Passed.{Passed}
use Rattle.limits.specs.declared.limit.Passed.TheVariants as passed

-- a limit's number in document 01's list
abbrev pub passed_number : Passed → ℕ
passed_number passed.Bytes = 1
passed_number passed.Files = 2
passed_number (passed.Declarations limit) = limit_number limit

-- 0 where none is passed
abbrev pub number_or_none : Option Passed → ℕ
number_or_none None = 0
number_or_none (Some p) = passed_number p

abbrev pub readable : Result Unit Fault → Result Unit Refusal → Result Unit Refusal
readable (Ok u) next = next
readable (Err fault) next = Err (Unreadable fault.key)

unfoldable pub read_set : Bytes → Result Unit Refusal
read_set s =
    choose (passes_1 s) (Err (Limit 1))
    (readable (check_set s) (choose (eqb (limit_passed s) 0) (Ok tt) (Err (Limit (limit_passed s)))))
