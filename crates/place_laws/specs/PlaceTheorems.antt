-- Of an accepted set, with tables that say what they should: the rows are those of the declared places, which are few, and each fits into a row.
-- Assumes nothing.
use Rattle.std.specs.Prelude.{ℕ, ◌≤◌, ◌≡◌, List, length, Ok}
use Rattle.std.proofs.Common.{arith}
use Rattle.base.specs.Lists.{all_of, Every, every_of}
use Rattle.descriptor.specs.Decode.{entries, parts, decode_set}
use Rattle.descriptor.specs.Limits.{limit_passed}
use Rattle.options.specs.Settings.{Setting}
use Rattle.name_rules.specs.Answer.{names}
use Rattle.name_rules.proofs.WellFormedLaws.{every_file}
use Rattle.text_tables.specs.declared.MessageRow.{MessageRow}
use Rattle.text_tables.specs.declared.FieldRow.{FieldRow}
use Rattle.path_fits.proofs.FitLaws.{set_fits}
use Rattle.table_says.specs.Says.{Says}
use Rattle.limit_facts.specs.Within.{within}
use Rattle.name_check.specs.NameCheck.{Place, file_places}
use Rattle.name_rows.specs.Rows.{rows_of}
use Rattle.name_rows.proofs.RowLaws.{Holds}
use Rattle.place_rows.specs.PlaceRows.{set_rows}
use Rattle.place_laws.specs.RowTexts.{files_rows_are}
use Rattle.place_laws.specs.HeldPlaces.{files_held}
use Rattle.place_laws.specs.PlaceCount.{places_most}

module _ (rs : List Setting) (set : List ℕ) (messages : List MessageRow) (t : List FieldRow) (passed : limit_passed set ≡ 0) (good : names (decode_set set) ≡ Ok tt) (says : Says rs set messages t) where
  abbrev pub declared : List Place
  declared = all_of (file_places rs) (decode_set set)

  pub declared_hold : Every Holds declared
  declared_hold = every_of Holds (file_places rs) (decode_set set) (files_held rs (decode_set set) (set_fits set passed) (every_file (decode_set set) good))

  -- 256 structs, 256 modules, 256 enums and 2,048 oneof enums
  pub declared_few : length declared ≤ 2816
  declared_few =
      let h = places_most rs (decode_set set) in
      let w = within set passed in
      omega (arith, w.messages, w.fields, w.enums)

  pub set_rows_are : set_rows rs messages t set ≡ rows_of declared
  unfolding set_rows decode_set
  set_rows_are =
      files_rows_are rs set messages t says 0 (parts 1 (entries set)) says.nodes (set_fits set passed) (every_file (decode_set set) good)
