-- The name check as document 01 has it: a set and options give yes or no, or refusals 1 to 7 without 5. Assumes nothing.
use Rattle.std.specs.Prelude.{ℕ, Bool, Result, Ok, Err}
use Rattle.base.specs.Choose.{choose}
use Rattle.base.specs.Refusal.{returned, after}
use Rattle.base.specs.declared.refusal.Returned.{Returned}
use Rattle.base.specs.declared.refusal.Refusal.{Refusal}
use Rattle.descriptor.specs.Descriptor.{Bytes}
use Rattle.descriptor.specs.Decode.{decode_set}
use Rattle.limits.specs.Answer.{read_set}
use Rattle.options.specs.Settings.{settings}
use Rattle.options.specs.Layout.{layout}
use Rattle.extern_checks.specs.Doubles.{externs}
use Rattle.name_rules.specs.Answer.{names}
use Rattle.name_check.specs.NameCheck.{name_check}

-- yes is 1, no is 0
unfoldable pub yes_or_no : Bool → ℕ
yes_or_no b = choose b 1 0

-- do all names differ? Or the first refusal in document 01's order
unfoldable pub name_answer : Bytes → Bytes → Result Bool Refusal
name_answer set options =
    after (layout options)
    (after (externs (settings options))
    (after (read_set set)
    (after (names (decode_set set))
    (Ok (name_check (settings options) (decode_set set))))))

-- yes or no as a number
abbrev pub as_number : Result Bool Refusal → Result ℕ Refusal
as_number (Ok differ) = Ok (yes_or_no differ)
as_number (Err x) = Err x

-- number and place of that
unfoldable pub name_call : Bytes → Bytes → Returned
name_call set options = returned (as_number (name_answer set options))
