-- The rows of the tables say of each message and field what context's definitions say by full names. Assumes nothing.
use Rattle.std.specs.Prelude.{◌≡◌, refl, Bool, true, ◌||◌, List, ℕ, ◌≤◌, ◌<◌, eqb, ltb, length, get_or, Ok}
use Rattle.std.proofs.Common.{sym, ap, ◌∙◌, subst, ⊎_elim, arith, ltb-true, ltb-false}
use Rattle.std.proofs.Math.Bool.{false}
use Rattle.std.proofs.Math.ListN.{length-map, get_or-eq_default}
use Rattle.base.specs.Choose.{choose}
use Rattle.base.specs.Tests.{bool_cases, both_ways}
use Rattle.descriptor.specs.Descriptor.{FileDescriptor}
use Rattle.descriptor.specs.Decode.{decode_set}
use Rattle.descriptor.specs.Limits.{messages_in, max_messages}
use Rattle.options.specs.Settings.{Setting}
use Rattle.name_rules.specs.Accessors.{text, type, label, is_repeated, is_message, is_group}
use Rattle.name_rules.specs.FullNames.{◌·◌, Entry, set_entries}
use Rattle.name_rules.specs.Answer.{names}
use Rattle.context.specs.Context.{has}
use Rattle.index.specs.Tree.{Holds, all_members}
use Rattle.index.specs.declared.Row as index_row
use Rattle.index.proofs.SetLaws.{MessageTable}
use Rattle.message_graph.specs.Limit.{messages}
use Rattle.message_graph.specs.Fields.{Fields, fields, size, message_at, message_at_is, message_at_below, type_message, type_group}
use Rattle.message_graph.specs.Boxes.{boxed_by_loop}
use Rattle.message_graph.specs.Tab.{tab, tab_at}
use Rattle.derives.specs.declared.Derive.{Derive}
use Rattle.derives.specs.declared.Derive.TheVariants.{Copy, Eq}
use Rattle.derives.specs.Can.{can_message_derive, can_field_derive}
use Rattle.derives.specs.Depth.{answers}
use Rattle.field_columns.specs.Columns.{owner_at, column_at, start_at, Kind, Label}
use Rattle.context_laws.specs.At.{At, at_within}
use Rattle.context_laws.specs.Tables.{Row, rows_of, number_of, type_name_of, tables_of, settings_of, Sound}
use Rattle.context_laws.specs.Numbers.{number_below}
use Rattle.context_laws.proofs.Rows.{row_kind, row_label, row_target}
use Rattle.context_laws.proofs.Rows as table_rows
use Rattle.context_laws.proofs.Boxed.{should_box_by_number}
use Rattle.context_laws.proofs.Derived.{message_copy_by_number, message_eq_by_number, field_copy_by_number, field_eq_by_number}
use Rattle.text_tables.specs.Rows.{message_row, field_row}
use Rattle.text_tables.specs.declared.MessageRow.{MessageRow}
use Rattle.text_tables.specs.declared.FieldRow.{FieldRow}
use Rattle.table_says.specs.Says.{MessageSays, FieldSays}
use Rattle.context_tables.specs.Rows.{message_row_of, field_can, field_row_of}
use Rattle.table_laws.specs.RowLaws.{message_row_is, field_row_is}
use Rattle.table_laws.specs.TargetLaws.{Agree, boxed_same, message_same, field_answer_same}
use Rattle.table_laws.specs.SetTables.{sound, owner_is, kind_is, label_is, first_is}

-- ---- the answers over the columns

module _ (f : Fields) (settings : List Bool) (m k : ℕ) (within : k < m) (d : Derive) where
  -- a field's answer by the table of boxes and its message's answer
  answer_is : field_can d f.target f.kind f.label (tab m (boxed_by_loop f)) settings (tab messages (can_message_derive d f settings)) k ≡ can_field_derive d f settings k
  unfolding field_can
  answer_is =
      rw (tab_at m (boxed_by_loop f) false k within, tab_at messages (can_message_derive d f settings) false (message_at f.target k) (message_at_below f.target k))
      (sym ((answers d f settings).by_type k))

module _ (set : List ℕ) (rows : List index_row.Row) (count : ℕ) (table : MessageTable set rows count) (t fields_table : List index_row.Row) (n : ℕ)
    (holds : Holds (all_members set 2 rows count 0) t 0 fields_table n) (room : n ≤ length t)
    (few : length (messages_in (decode_set set)) ≤ max_messages) (good : names (decode_set set) ≡ Ok tt) where
  abbrev ds : List FileDescriptor
  ds = decode_set set

  abbrev es : List Entry
  es = set_entries ds

  abbrev T : Fields
  T = tables_of es

  -- the column of the types' messages; where a field's type is neither message nor group, it may have any number
  module _ (target : List ℕ) (targets : (r : Row) (k : ℕ) → At r (rows_of es) k → (is_message r.field || is_group r.field) ≡ true → get_or target k 0 ≡ number_of es (type_name_of r)) where
    abbrev pub columns : Fields
    columns = fields (tab n (owner_at fields_table)) target (tab n (column_at set fields_table Kind)) (tab n (column_at set fields_table Label))

    abbrev over_names : Fields
    over_names = fields T.owner target T.kind T.label

    columns_are : columns ≡ over_names
    columns_are =
        rw (owner_is set rows count table t fields_table n holds room few good, kind_is set rows count table t fields_table n holds room few good, label_is set rows count table t fields_table n holds room few good)

    s : Sound es
    s = sound set rows count table t fields_table n holds room few good

    no_type : (i : ℕ) → size T ≤ i → get_or T.kind i 0 ≡ 0
    unfolding tables_of
    no_type i h =
        let a = length-map (rows_of es) (λ (r : Row). r.owner) in
        let b = length-map (rows_of es) (λ (r : Row). type r.field) in
        get_or-eq_default T.kind 0 (omega arith)

    agree : Agree T.kind target T.target
    agree i h =
        ⊎_elim
        (λ w.
        let p = table_rows.row_at es i (ltb-true i (size T) w) in
        let is = targets p.0 i p.1 (subst (λ (k : ℕ). (eqb k type_message || eqb k type_group) ≡ true) (row_kind s p.1) h) in
        let below = number_below es (type_name_of p.0) s.distinct s.few in
        message_at_is target i (omega arith) ∙ is ∙ sym (row_target s p.1))
        (λ w. both_ways (subst (λ (k : ℕ). (eqb k type_message || eqb k type_group) ≡ true) (no_type i (ltb-false i (size T) w)) h) refl)
        (bool_cases (ltb i (size T)))

    -- what the columns have of the field k
    module _ {r : Row} {k : ℕ} (p : At r (rows_of es) k) where
      pub kind_at : get_or columns.kind k 0 ≡ type r.field
      kind_at = ap (λ (l : List ℕ). get_or l k 0) (kind_is set rows count table t fields_table n holds room few good) ∙ row_kind s p

      pub label_at : get_or columns.label k 0 ≡ label r.field
      label_at = ap (λ (l : List ℕ). get_or l k 0) (label_is set rows count table t fields_table n holds room few good) ∙ row_label s p

      pub target_at : (is_message r.field || is_group r.field) ≡ true → message_at target k ≡ number_of es (type_name_of r)
      target_at h = agree k (subst (λ (x : ℕ). (eqb x type_message || eqb x type_group) ≡ true) (sym (row_kind s p)) h) ∙ row_target s p

    -- the answers that `can_derive` gives over the columns
    module _ (rs : List Setting) where
      abbrev settings : List Bool
      settings = settings_of rs es

      abbrev pub can : Derive → List Bool
      can d = tab messages (can_message_derive d columns settings)

      message_can_is : (d : Derive) (i : ℕ) → can_message_derive d columns settings i ≡ can_message_derive d T settings i
      message_can_is d i =
          ap (λ (f : Fields). can_message_derive d f settings i) columns_are
          ∙ message_same T.owner T.kind T.label target T.target agree d settings i

      -- the message with number i, of the messages that the tables have room for
      pub message_says : {e : Entry} {i : ℕ} → At e es i → (size starts : ℕ) → i < size → i < starts
          → MessageSays rs ds e i (message_row (tab size (message_row_of rows (tab starts (start_at fields_table n)) (can Copy) (can Eq))) i)
      unfolding message_row_of
      message_says {e} {i} p size starts there begun =
          let within = at_within p in
          let few_entries = s.few in
          let small : i < messages = omega arith in
          let is = message_row_is rows (tab starts (start_at fields_table n)) (can Copy) (can Eq) size i there in
          record {
            copy = ap (λ (x : MessageRow). x.copy) is ∙ tab_at messages (can_message_derive Copy columns settings) false i small ∙ message_can_is Copy i ∙ message_copy_by_number rs ds s p;
            eq = ap (λ (x : MessageRow). x.eq) is ∙ tab_at messages (can_message_derive Eq columns settings) false i small ∙ message_can_is Eq i ∙ message_eq_by_number rs ds s p;
            first = ap (λ (x : MessageRow). x.first) is ∙ first_is set rows count table t fields_table n holds room few good starts i begun;
          }

      field_can_is : (d : Derive) (m k : ℕ) → k < m
          → field_can d target columns.kind columns.label (tab m (boxed_by_loop columns)) settings (can d) k ≡ can_field_derive d T settings k
      field_can_is d m k h =
          answer_is columns settings m k h d
          ∙ ap (λ (f : Fields). can_field_derive d f settings k) columns_are
          ∙ field_answer_same T.owner T.kind T.label target T.target agree d settings k

      looped_is : (m k : ℕ) → k < m → get_or (tab m (boxed_by_loop columns)) k false ≡ boxed_by_loop T k
      looped_is m k h =
          tab_at m (boxed_by_loop columns) false k h ∙ ap (λ (f : Fields). boxed_by_loop f k) columns_are
          ∙ boxed_same T.owner T.kind T.label target T.target agree k

      -- the field with number k
      pub field_says : {r : Row} {k : ℕ} → At r (rows_of es) k → (size m : ℕ) → k < size → k < m → (entries : List Bool)
          → FieldSays rs ds r (field_row (tab size (field_row_of set rows fields_table target columns.kind columns.label (tab m (boxed_by_loop columns)) settings (can Copy) (can Eq) entries)) k)
      unfolding field_row_of
      field_says {r} {k} p size m there boxed entries =
          let is = field_row_is set rows fields_table target columns.kind columns.label (tab m (boxed_by_loop columns)) settings (can Copy) (can Eq) entries size k there in
          record {
            copy = ap (λ (x : FieldRow). x.copy) is ∙ field_can_is Copy m k boxed ∙ field_copy_by_number rs ds s p;
            eq = ap (λ (x : FieldRow). x.eq) is ∙ field_can_is Eq m k boxed ∙ field_eq_by_number rs ds s p;
            looped = λ at.
                should_box_by_number rs ds s p at
                ∙ ap (λ (b : Bool). choose b true (choose (is_repeated r.field) false (has rs 4 (at · text r.field.name))))
                (sym (ap (λ (x : FieldRow). x.looped) is ∙ looped_is m k boxed));
          }
