-- A set without refusals 6 and 7 has no file with either; and which fields name a map entry.
use Rattle.std.proofs.Common.{◌≡◌, true, false, ◌&&◌, List, [], eqb, arith, ltb-true}
use Rattle.std.specs.Prelude.{ltb, length, Ok}
use Rattle.base.proofs.RefusalLaws.{other}
use Rattle.base.specs.Lists.{count}
use Rattle.base.specs.Tests.{and_left, and_right}
use Rattle.name_rules.specs.MapEntries.{names_it, maps_it, entry_named}
use Rattle.name_rules.specs.Accessors.{is_repeated, is_message}
use Rattle.descriptor.specs.Descriptor.{Bytes, FieldDescriptor, FileDescriptor}
use Rattle.name_rules.specs.Answer.{first_six, first_seven, names}

pub no_refusals : (set : List FileDescriptor) → names set ≡ Ok tt → (ltb (first_six set) (length set) ≡ false) × (ltb (first_seven set) (length set) ≡ false)
unfolding names
no_refusals set good =
    let six = other (ltb (first_six set) (length set)) _ _ good in
    let seven = other (ltb (first_seven set) (length set)) _ _ six.1 in
    (six.0, seven.0)

pub maps_names : (full : Bytes) (f : FieldDescriptor) → maps_it full f ≡ true → names_it full f ≡ true
maps_names full f h = and_right (is_message f) (names_it full f) (and_right (is_repeated f) (is_message f && names_it full f) h)

-- a map entry lies in a message
pub none_around : (fields : List FieldDescriptor) (full : Bytes) → entry_named fields [] full ≡ true → ⊥
unfolding entry_named count
none_around fields full h = let l = ltb-true 0 0 (and_left (ltb 0 (count (maps_it full) [])) (eqb (count (maps_it full) []) (count (names_it full) fields)) h) in omega arith
