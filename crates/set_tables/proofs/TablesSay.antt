-- The two tables of a set within the limits, without refusals 6 and 7, say what the definitions by full names say. Assumes nothing.
use Rattle.std.specs.Prelude.{None, Ok}
use mathlib.Core.Path.{◌≡◌, refl, sym, ap, ◌∙◌, subst}
use mathlib.Core.Bool.{true, false, ◌||◌}
use mathlib.Core.List.{List, [], ◌++◌}
use Prim.Native.Nat.{ℕ, ◌+◌, ◌/◌, ◌≤◌, ◌<◌, min}
use native.Mathlib.Omega.{arith}
use lib.Dec.{ltb}
use lib.ListN.{length, length-replicate, replicate, drop, get_or, get_or-append}
use borrow.Author.Tests.{ltb-false}
use Rattle.base.specs.Choose.{choose_case}
use Rattle.base.specs.Lists.{map_length}
use Rattle.writer.specs.Wrote.{Wrote, after}
use Rattle.descriptor.specs.Descriptor.{FileDescriptor}
use Rattle.descriptor.specs.Decode.{decode_field, decode_set}
use Rattle.descriptor.specs.Limits.{messages_in, fields_in, limit_passed}
use Rattle.options.specs.Settings.{Setting}
use Rattle.name_rules.specs.Accessors.{is_repeated, is_message, is_group}
use Rattle.name_rules.specs.FullNames.{Entry, set_entries}
use Rattle.name_rules.specs.Answer.{names}
use Rattle.index.specs.Tree.{Holds, all_members, no_row, row_at, row_bytes}
use Rattle.index.specs.declared.Row as index_row
use Rattle.index.proofs.SetLaws.{MessageTable, messages_counted, messages_there, fields_hold}
use Rattle.message_graph.specs.Tab.{tab, length_tab, tab_at}
use Rattle.declarations.specs.Rows.{no_row as no_declaration, declared}
use Rattle.declarations.specs.declared.Declaration.{Declaration}
use Rattle.declarations.specs.Listed.{listed, listed_files}
use Rattle.declarations.proofs.SetLaws.{set_listed, set_room}
use Rattle.boxed_settings.specs.Flags.{set_flags}
use Rattle.context_laws.specs.At.{At, at_within}
use Rattle.context_laws.specs.Tables.{Row, rows_of, number_of, type_name_of, Sound}
use Rattle.context_laws.specs.SoundSets.{sound_set}
use Rattle.field_columns.proofs.EntryLaws.{set_messages}
use Rattle.limits.proofs.Sizes.{declarations_short}
use Rattle.set_rules.specs.Room.{row_count}
use Rattle.set_rules.proofs.RowCounts.{few_rows, short_rows}
use Rattle.text_tables.specs.Rows.{no_field, field_row}
use Rattle.text_tables.specs.declared.MessageRow.{MessageRow}
use Rattle.text_tables.specs.declared.FieldRow.{FieldRow}
use Rattle.table_says.specs.Says.{PlaceSays, Says}
use Rattle.context_tables.specs.Rows.{message_table, field_table}
use Rattle.table_laws.specs.SetTables.{rows_counted}
use Rattle.table_laws.specs.FitLaws.{Within, within_limits}
use Rattle.table_laws.specs.AfterLaws.{set_afters}
use Rattle.table_laws.specs.NodeLaws.{MapField, entry_typed, nodes_say}
use Rattle.table_laws.specs.TableTheorems.{message_table_says, message_table_after, field_table_says, field_table_place, field_table_no_place, field_table_lies}
use Rattle.targets.proofs.TargetTheorem.{target_is}
use Rattle.limits.specs.Short.{short}
use Rattle.set_tables.specs.Filled.{most_fields, declaration_rows, blank_rows, zeros, no_rows, message_places, message_count, field_places, field_count, target_by, target_in, setting_bytes, columns_at, columns_to, settings_to, columned, entries_by, message_rows, field_rows_in, field_rows}
use Rattle.set_tables.proofs.ZeroLaws.{zeros_length}
use Rattle.set_tables.proofs.FillLaws.{few_there, fields_few}

-- a row of a table is that of its front
row_before : (a b : List FieldRow) (k : ℕ) → k < length a → field_row (a ++ b) k ≡ field_row a k
row_before a b k h = get_or-append a b no_field k h

-- ---- what is filled has room

fields_fit : (set : List ℕ) → limit_passed set ≡ 0 → length (fields_in (decode_set set)) ≤ most_fields set
unfolding most_fields
fields_fit set passed =
    choose_case (λ (k : ℕ). length (fields_in (decode_set set)) ≤ k) (ltb short (length set))
    (λ h. (within_limits set passed).fields)
    (λ h. let few = declarations_short set in let size = ltb-false short (length set) h in omega arith)

rows_fit : (set : List ℕ) → limit_passed set ≡ 0 → row_count set + 1 ≤ declaration_rows set
unfolding declaration_rows
rows_fit set passed =
    choose_case (λ (k : ℕ). row_count set + 1 ≤ k) (ltb short (length set))
    (λ h. let few = few_rows set passed in omega arith)
    (λ h. let few = short_rows set in let size = ltb-false short (length set) h in omega arith)

module _ (set : List ℕ) (rs : List Setting) (passed : limit_passed set ≡ 0) (good : names (decode_set set) ≡ Ok tt) where
  abbrev ds : List FileDescriptor
  ds = decode_set set

  abbrev es : List Entry
  es = set_entries ds

  abbrev rows : List index_row.Row
  rows = message_places set

  abbrev fields : List index_row.Row
  fields = field_places set

  abbrev n : ℕ
  n = field_count set

  limits : Within set
  limits = within_limits set passed

  -- ---- the places

  message_table_is : MessageTable set rows (message_count set)
  unfolding message_places message_count
  message_table_is =
      let counted = messages_counted set limits.small in
      let few = limits.messages in
      let size = length-replicate 256 no_row in
      messages_there set (no_rows 256) _ _ limits.small (omega arith) (omega arith) (record { table = refl; counted = refl })

  fields_held : Holds (all_members set 2 rows (message_count set) 0) (no_rows (most_fields set)) 0 fields n
  unfolding field_places field_count
  fields_held = record { table = refl; counted = omega arith }

  fields_counted : n ≡ length (fields_in ds)
  unfolding field_count fields_in
  fields_counted =
      sym (map_length (λ (r : index_row.Row). decode_field (row_bytes set r)) (all_members set 2 rows (message_count set) 0))
      ∙ ap length (fields_hold set rows (message_count set) message_table_is).decoded

  few_fields : n ≤ most_fields set
  few_fields = rw fields_counted (fields_fit set passed)

  field_room : n ≤ length (no_rows (most_fields set))
  field_room = let few = few_fields in let size = length-replicate (most_fields set) no_row in omega arith

  below : {r : Row} {k : ℕ} → At r (rows_of es) k → k < n
  below p = let within = at_within p in let counted = fields_counted in let rows_are = rows_counted ds in omega arith

  -- ---- the columns

  abbrev table : List Declaration
  table = blank_rows (declaration_rows set)

  table_wide : row_count set + 1 ≤ length table
  table_wide = let size = length-replicate {A = Declaration} (declaration_rows set) no_declaration in let fit = rows_fit set passed in omega arith

  lists : listed set (declared set table).table (declared set table).rows ≡ listed_files 0 0 ds
  lists = let wide = table_wide in let few = few_rows set passed in set_listed set table (row_count set) (omega arith) (omega arith) (omega arith)

  few_declarations : (declared set table).rows ≤ 65536
  few_declarations =
      let few = few_rows set passed in
      let rows_are = (set_room set table (row_count set) (omega arith) table_wide (omega arith)).1 in
      omega arith

  targets : (r : Row) (k : ℕ) → At r (rows_of es) k → (is_message r.field || is_group r.field) ≡ true → get_or (tab n (target_in set fields)) k 0 ≡ number_of es (type_name_of r)
  unfolding target_by
  targets r k p is =
      tab_at n (target_in set fields) 0 k (below p)
      ∙ target_is set (declared set table).table (declared set table).rows few_declarations lists rows (message_count set) message_table_is (no_rows (most_fields set)) fields n fields_held field_room limits.messages good r k p is

  wrote : Wrote (zeros (most_fields set)) 0 (set_flags rs set) (setting_bytes set rs) (after 0 (length (set_flags rs set)))
  unfolding setting_bytes
  wrote = record { room = (let size = zeros_length (most_fields set) in let few = fields_few set in omega arith); text = refl; next = refl }

  space : n ≤ length (zeros (most_fields set))
  space = let few = few_fields in let size = zeros_length (most_fields set) in omega arith

  -- ---- the rows

  sound : Sound es
  sound = sound_set ds limits.messages good

  entries_counted : length es ≡ length (messages_in ds)
  entries_counted = sym (map_length (λ (e : Entry). e.message) es) ∙ ap length (set_messages ds)

  module _ (message_size field_size : ℕ) (message_room : length (messages_in ds) ≤ message_size) (rows_room : n ≤ field_size) where
    abbrev messages_to : ℕ → List MessageRow
    messages_to k = message_table message_size rows fields n (columns_to k set) (settings_to k set rs)

    -- the rows of the first k fields
    abbrev rows_to : ℕ → List FieldRow
    rows_to k = field_table (min k field_size) k set rows fields (columns_to k set) (settings_to k set rs) (entries_by set rows)

    abbrev fields_to : ℕ → List FieldRow
    fields_to k = rows_to k ++ drop (min k field_size) (replicate field_size no_field)

    message_fits : {e : Entry} {i : ℕ} → At e es i → i < message_size
    message_fits p = let within = at_within p in let counted = entries_counted in omega arith

    field_fits : {r : Row} {k : ℕ} → At r (rows_of es) k → k < min n field_size
    field_fits p = let less = below p in omega arith

    row_is : {r : Row} {k : ℕ} → At r (rows_of es) k → field_row (fields_to n) k ≡ field_row (rows_to n) k
    unfolding field_table
    row_is {r} {k} p = let fits = field_fits p in row_before (rows_to n) (drop (min n field_size) (replicate field_size no_field)) k (rw length_tab fits)

    place : (r : Row) (k : ℕ) → At r (rows_of es) k → is_message r.field ≡ true → (e : Entry) (j : ℕ) → At e es j → e.full ≡ type_name_of r
        → PlaceSays set (is_repeated r.field) e.message (field_row (fields_to n) k)
    unfolding columns_at settings_to
    place r k p is e j q typed =
        rw (row_is p)
        (field_table_place set rows (message_count set) message_table_is (no_rows (most_fields set)) fields n fields_held field_room passed good (tab n (target_in set fields)) targets rs (zeros (most_fields set)) (setting_bytes set rs) _ wrote space p is q typed (min n field_size) n (field_fits p))

    no_place : (r : Row) (k : ℕ) → At r (rows_of es) k → is_message r.field ≡ false → (field_row (fields_to n) k).entry ≡ None
    unfolding columns_at settings_to
    no_place r k p is =
        rw (row_is p)
        (field_table_no_place set rows (message_count set) message_table_is (no_rows (most_fields set)) fields n fields_held field_room passed good (tab n (target_in set fields)) targets rs (zeros (most_fields set)) (setting_bytes set rs) _ wrote space p is (min n field_size) n (field_fits p))

    all_say : Says rs set (messages_to n) (fields_to n)
    unfolding columns_at settings_to
    all_say =
        record {
          message = λ e i p. message_table_says set rows (message_count set) message_table_is (no_rows (most_fields set)) fields n fields_held field_room passed good (tab n (target_in set fields)) targets rs (zeros (most_fields set)) (setting_bytes set rs) _ wrote space p message_size (message_fits p);
          field = λ r k p. rw (row_is p) (field_table_says set rows (message_count set) message_table_is (no_rows (most_fields set)) fields n fields_held field_room passed good (tab n (target_in set fields)) targets rs (zeros (most_fields set)) (setting_bytes set rs) _ wrote space p (min n field_size) n (field_fits p) (below p) (entries_by set rows));
          lies = λ r k p. rw (row_is p) (field_table_lies set rows (message_count set) message_table_is (no_rows (most_fields set)) fields n fields_held field_room passed good (tab n (target_in set fields)) targets rs (zeros (most_fields set)) (setting_bytes set rs) _ wrote space p (min n field_size) n (field_fits p) (entries_by set rows));
          place = place;
          no_place = no_place;
          nodes = nodes_say set (messages_to n) (fields_to n) sound good (λ j. (row_at rows j).after) (set_afters set rows (message_count set) message_table_is)
              (λ e i p. message_table_after set rows (message_count set) message_table_is (no_rows (most_fields set)) fields n fields_held field_room passed good (tab n (target_in set fields)) targets rs (zeros (most_fields set)) (setting_bytes set rs) _ wrote space p message_size (message_fits p))
              place no_place;
        }

    whole : columned set ≡ n
    whole = let few = few_fields in omega arith

    -- with room for the messages and fields there are
    pub tables_say : Says rs set (message_rows message_size set rs) (field_rows field_size set rs)
    unfolding message_rows field_rows field_rows_in
    tables_say = rw (length-replicate field_size no_field) (subst (λ (k : ℕ). Says rs set (messages_to k) (fields_to k)) (sym whole) all_say)

-- no field names a map entry but the repeated message fields of the message around it
pub only_map_fields : (set : List ℕ) → limit_passed set ≡ 0 → names (decode_set set) ≡ Ok tt → (r : Row) (k : ℕ) → At r (rows_of (set_entries (decode_set set))) k
    → (d : Entry) (p : ℕ) → At d (set_entries (decode_set set)) p → d.message.map_entry ≡ true → d.full ≡ type_name_of r → MapField r d
only_map_fields set passed good =
    entry_typed (decode_set set) (sound set [] passed good) good (λ j. (row_at (message_places set) j).after)
    (set_afters set (message_places set) (message_count set) (message_table_is set [] passed good))

-- how many rows the messages take
pub all_messages : (set : List ℕ) → limit_passed set ≡ 0 → length (messages_in (decode_set set)) ≤ min (length set / 2) 256
all_messages set passed = let few = (within_limits set passed).messages in let short = declarations_short set in omega arith

-- and the fields
pub all_fields : (set : List ℕ) → limit_passed set ≡ 0 → names (decode_set set) ≡ Ok tt → field_count set ≤ 2048
all_fields set passed good = let counted = fields_counted set [] passed good in let few = (within_limits set passed).fields in omega arith

pub short_fields : (set : List ℕ) → limit_passed set ≡ 0 → names (decode_set set) ≡ Ok tt → length set ≤ short → field_count set ≤ 150
short_fields set passed good h = let few = few_fields set [] passed good in let most = few_there set h in omega arith
