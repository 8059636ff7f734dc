-- The column of boxed settings, as `boxed_settings` leaves it in a buffer that has room for it. Assumes nothing.
use Rattle.std.specs.Prelude.{◌≡◌, refl, Bool, true, false, not, List, map, ℕ, ◌+◌, ◌≤◌, ◌<◌, eqb, length, get_or, drop}
use Rattle.std.proofs.Common.{sym, ap, ◌∙◌, arith, ext_get_or}
use Rattle.std.proofs.lemmas.List.{length-map}
use Rattle.std.proofs.Math.ListN.{get_or-map, get_or-append}
use Rattle.std.proofs.lemmas.List.Edits.{sets-eq}
use Rattle.base.specs.Choose.{choose}
use Rattle.writer.specs.Wrote.{Wrote, over}
use Rattle.descriptor.specs.Descriptor.{Bytes, FileDescriptor}
use Rattle.descriptor.specs.Decode.{decode_set}
use Rattle.descriptor.specs.Limits.{fields_in}
use Rattle.options.specs.Settings.{Setting}
use Rattle.name_rules.specs.FullNames.{set_entries}
use Rattle.message_graph.specs.Tab.{tab, length_tab, tab_at}
use Rattle.boxed_settings.specs.Flags.{set_flags}
use Rattle.context_laws.specs.Tables.{rows_of, is_set, settings_of}
use Rattle.context_tables.specs.Rows.{is_set_at}
use Rattle.table_laws.specs.SetTables.{rows_counted}
use Rattle.table_laws.specs.SettingLaws.{Fit, bit, set_flags_are}

-- a flag is read as it was put
bit_flag : (b : Bool) → not (eqb (bit b) 0) ≡ b
unfolding bit choose
bit_flag true = refl
bit_flag false = refl

-- a text that there is room for, read back
laid : (t p : List ℕ) (i : ℕ) → length p ≤ length t → i < length p → get_or (over t 0 p) i 0 ≡ get_or p i 0
unfolding over
laid t p i room h = ap (λ (l : List ℕ). get_or l i 0) (sets-eq p t 0 (omega arith)) ∙ get_or-append p (drop (0 + length p) t) 0 i h

bit_at : (bs : List Bool) (i : ℕ) → get_or (map bit bs) i 0 ≡ bit (get_or bs i false)
unfolding bit choose
bit_at bs i = get_or-map bit bs i false

bits_read : (t : List ℕ) (bs : List Bool) → length bs ≤ length t → tab (length bs) (is_set_at (over t 0 (map bit bs))) ≡ bs
unfolding is_set_at
bits_read t bs room =
    let n = length-map bs bit in
    let m = length_tab (length bs) (is_set_at (over t 0 (map bit bs))) in
    ext_get_or false (tab (length bs) (is_set_at (over t 0 (map bit bs)))) bs m
    (λ i h. tab_at (length bs) (is_set_at (over t 0 (map bit bs))) false i (omega arith)
    ∙ ap (λ (x : ℕ). not (eqb x 0)) (laid t (map bit bs) i (omega arith) (omega arith) ∙ bit_at bs i)
    ∙ bit_flag (get_or bs i false))

pub settings_counted : (rs : List Setting) (ds : List FileDescriptor) → length (settings_of rs (set_entries ds)) ≡ length (fields_in ds)
unfolding settings_of
settings_counted rs ds =
    length-map (rows_of (set_entries ds)) (is_set rs)
    ∙ rows_counted ds

module _ (rs : List Setting) (set : Bytes) (fit : Fit (set_entries (decode_set set))) (t bytes : List ℕ) (r : ℕ) (wrote : Wrote t 0 (set_flags rs set) bytes r) where
  -- n: how many fields the set has
  pub settings_are : (n : ℕ) → n ≡ length (fields_in (decode_set set)) → n ≤ length t → tab n (is_set_at bytes) ≡ settings_of rs (set_entries (decode_set set))
  settings_are n e room =
      let bs = settings_of rs (set_entries (decode_set set)) in
      let c = settings_counted rs (decode_set set) in
      let m : n ≡ length bs = e ∙ sym c in
      ap (λ (k : ℕ). tab k (is_set_at bytes)) m
      ∙ ap (λ (l : List ℕ). tab (length bs) (is_set_at l)) (wrote.text ∙ ap (over t 0) (set_flags_are rs set fit))
      ∙ bits_read t bs (omega arith)
