-- Document 01's table "Returned: number, place": the number and the place of each refusal, in the table's order; and refusals one after the other.
use Rattle.std.specs.Prelude.{ℕ, Result, Ok, Err}
use Rattle.base.specs.declared.refusal.Refusal.{Refusal}
use Rattle.base.specs.declared.refusal.Returned.{Returned}
use Rattle.base.specs.declared.refusal.Refusal.TheVariants.{Layout, ExternPath, Unreadable, Limit, FileIndex, Declaration, TypeName, Variants, BytesDefault, TextLength}

abbrev pub refusal_number : Refusal → ℕ
refusal_number (Layout row) = 1
refusal_number (ExternPath row) = 2
refusal_number (Unreadable offset) = 3
refusal_number (Limit limit) = 4
refusal_number (FileIndex count) = 5
refusal_number (Declaration file) = 6
refusal_number (TypeName file) = 7
refusal_number Variants = 8
refusal_number BytesDefault = 9
refusal_number (TextLength needed) = 10

abbrev pub refusal_place : Refusal → ℕ
refusal_place (Layout row) = row
refusal_place (ExternPath row) = row
refusal_place (Unreadable offset) = offset
refusal_place (Limit limit) = limit
refusal_place (FileIndex count) = count
refusal_place (Declaration file) = file
refusal_place (TypeName file) = file
refusal_place Variants = 0
refusal_place BytesDefault = 0
refusal_place (TextLength needed) = needed

-- 0 and what was asked for, or a refusal's number and place
abbrev pub given : ℕ → Returned
given n = record { number = 0; place = n }

abbrev pub refused : ℕ → ℕ → Returned
refused number place = record { number = number; place = place }

abbrev pub returned : Result ℕ Refusal → Returned
returned (Ok n) = given n
returned (Err x) = refused (refusal_number x) (refusal_place x)

-- x where nothing is refused before it
abbrev pub after : {A : Type 0} → Result Unit Refusal → Result A Refusal → Result A Refusal
after (Ok done) x = x
after (Err refusal) x = Err refusal
