-- Of an accepted set, with tables that say what they should and room for 2,816 rows: names are found to differ exactly if the name check says yes.
-- Assumes nothing.
use Rattle.std.specs.Prelude.{ℕ, ◌≤◌, ◌≡◌, refl, Bool, true, false, length, take, Ok}
use Rattle.std.proofs.Common.{sym, ◌∙◌, arith, take_all}
use Rattle.std.proofs.Math.Path.{ap, ap₂}
use Rattle.std.proofs.Math.Bool.{◌&&◌, not}
use mathlib.Core.List.{List, map}
use Rattle.base.specs.Lists.{any, all_of}
use Rattle.descriptor.specs.Descriptor.{Bytes}
use Rattle.descriptor.specs.Decode.{decode_set}
use Rattle.descriptor.specs.Limits.{limit_passed}
use Rattle.options.specs.Settings.{Setting}
use Rattle.name_rules.specs.Answer.{names}
use Rattle.text_tables.specs.declared.MessageRow.{MessageRow}
use Rattle.text_tables.specs.declared.FieldRow.{FieldRow}
use Rattle.table_says.specs.Says.{Says}
use Rattle.code_generator.specs.Refusals.{overlap}
use Rattle.name_check.specs.NameCheck.{Place, package_modules, module_place, file_places, places, places_differ, file_members_meet, name_check}
use Rattle.name_rows.specs.Rows.{place_row, rows_of, rows_in}
use Rattle.name_rows.proofs.RowLaws.{rows_size, rows_differ}
use Rattle.place_rows.specs.PlaceRows.{set_rows}
use Rattle.place_laws.specs.PlaceTheorems.{declared_hold, declared_few, set_rows_are}
use Rattle.package_names.specs.Packages.{packages_stand}
use Rattle.package_laws.specs.PlaceLaws.{places_meet, differ_append}
use Rattle.package_laws.proofs.PackageTheorems.{packages_differ, packages_stand_is}
use Rattle.member_rows.specs.MemberRows.{rows_overlap}
use Rattle.member_laws.proofs.RootRows.{rows_enough}
use Rattle.member_laws.proofs.MemberTheorems.{set_meets_is}
use Rattle.name_call.specs.Differ.{rows_laid, names_differ}

in_order : (a b c d : Bool) → (a && (b && (not c && not d))) ≡ ((b && (not c && a)) && not d)
in_order true true true d = refl
in_order true true false d = refl
in_order true false c d = refl
in_order false true true d = refl
in_order false true false d = refl
in_order false false c d = refl

not_not : (a : Bool) → not (not a) ≡ a
not_not true = refl
not_not false = refl

module _ (rs : List Setting) (set : List ℕ) (messages : List MessageRow) (t : List FieldRow) (passed : limit_passed set ≡ 0) (good : names (decode_set set) ≡ Ok tt) (says : Says rs set messages t) (room : ℕ) where
  abbrev declared : List Place
  declared = all_of (file_places rs) (decode_set set)

  abbrev modules : List Place
  modules = map module_place (package_modules (decode_set set))

  -- all rows are there, where they fit
  laid_is : length (rows_of declared) ≤ room → rows_laid rs room set messages t ≡ rows_of declared
  laid_is fits = ap (take room) (set_rows_are rs set messages t passed good says) ∙ take_all room (rows_of declared) fits

  module _ (laid : rows_laid rs room set messages t ≡ rows_of declared) where
    rows_there : rows_in (length (rows_laid rs room set messages t)) (rows_laid rs room set messages t) ≡ map place_row declared
    rows_there =
        let size = rows_size declared in
        ap (λ (s : Bytes). rows_in (length s) s) laid ∙ rows_enough declared (length (rows_of declared)) (omega arith)

    rows_differ_is : not (rows_overlap room (set_rows rs messages t set)) ≡ places_differ declared
    unfolding rows_overlap
    rows_differ_is = ap (λ (l : List Bytes). not (overlap l)) rows_there ∙ ap not (rows_differ declared (declared_hold rs set messages t passed good says)) ∙ not_not (places_differ declared)

    stands_is : packages_stand (length (rows_laid rs room set messages t)) (rows_laid rs room set messages t) set ≡ places_meet modules declared
    stands_is = packages_stand_is set passed good declared (declared_hold rs set messages t passed good says) (length (rows_laid rs room set messages t)) (rows_laid rs room set messages t) rows_there

  module _ (enough : 1081344 ≤ room) where
    pub names_differ_is : names_differ rs room set messages t ≡ name_check rs (decode_set set)
    unfolding names_differ name_check places
    names_differ_is =
        let few = declared_few rs set messages t passed good says in
        let size = rows_size declared in
        let laid : rows_laid rs room set messages t ≡ rows_of declared = laid_is (omega arith) in
        ap₂ ◌&&◌ (rows_differ_is laid) (ap₂ ◌&&◌ (sym (packages_differ set passed good)) (ap₂ ◌&&◌ (ap not (stands_is laid)) (ap not (set_meets_is rs set messages t room (omega arith) passed good says))))
        ∙ in_order (places_differ declared) (places_differ modules) (places_meet modules declared) (any (file_members_meet rs) (decode_set set))
        ∙ ap (λ (b : Bool). b && not (any (file_members_meet rs) (decode_set set))) (sym (differ_append modules declared))
