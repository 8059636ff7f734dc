-- Whether names differ, as it is found: by the tables, with rows as far as there is room for them. Assumes nothing.
use Rattle.std.specs.Prelude.{ℕ, Bool, ◌&&◌, not, List, length, take}
use Rattle.descriptor.specs.Descriptor.{Bytes}
use Rattle.options.specs.Settings.{Setting}
use Rattle.place_rows.specs.PlaceRows.{set_rows}
use Rattle.package_names.specs.Packages.{packages_meet, packages_stand}
use Rattle.member_rows.specs.MemberRows.{rows_overlap, set_meets}
use Rattle.text_tables.specs.declared.MessageRow.{MessageRow}
use Rattle.text_tables.specs.declared.FieldRow.{FieldRow}

module _ (rs : List Setting) (room : ℕ) (set : List ℕ) (messages : List MessageRow) (t : List FieldRow) where
  -- the rows of the declared places that there is room for
  abbrev pub rows_laid : Bytes
  rows_laid = take room (set_rows rs messages t set)

  -- no two declared places are the same, no two packages meet, no package's module stands among the places
  unfoldable pub places_differ : Bool
  places_differ =
      not (rows_overlap room (set_rows rs messages t set)) && (not (packages_meet set) && not (packages_stand (length rows_laid) rows_laid set))

  -- no two declared places are the same, no two packages meet, no package's module stands among the places, no two members have one name
  unfoldable pub names_differ : Bool
  names_differ =
      not (rows_overlap room (set_rows rs messages t set))
      && (not (packages_meet set) && (not (packages_stand (length rows_laid) rows_laid set) && not (set_meets rs room set messages t)))
