-- A oneof's index fits its row: a set without refusal 6 has fewer oneofs than bytes. Assumes nothing.
use Rattle.std.specs.Prelude.{◌≡◌, refl, Bool, true, false, ℕ, ◌≤◌, ◌<◌, Ok}
use Rattle.std.proofs.Math.Path.{sym}
use Rattle.std.proofs.Common.{subst, ⊎_elim, arith, length-append, lt-ltb}
use mathlib.Core.List.Memᴰ
use mathlib.Core.List.{List, [], ◌∷◌, map, Memᴰ}
use Rattle.std.proofs.Math.Option.{Option, some, none}
use Rattle.std.proofs.Math.ListN.{length}
use Rattle.base.specs.Choose.{choose}
use Rattle.base.specs.Lists.{all_of, Every}
use Rattle.descriptor.specs.Descriptor.{FieldDescriptor, MessageDescriptor}
use Rattle.descriptor.specs.Decode.{decode_oneof, decode_message, decode_set}
use Rattle.name_rules.specs.FullNames.{Entry, set_entries, fields_of_entries}
use Rattle.name_rules.specs.WellFormed.{GoodMessage}
use Rattle.name_rules.specs.Answer.{names}
use Rattle.name_rules.proofs.WellFormedLaws.{every_message}
use Rattle.index.proofs.SetLaws.{oneofs_of, members_fit}
use Rattle.field_columns.proofs.EntryLaws.{set_messages}
use Rattle.descriptor.specs.Seen.{option_seen}
use Rattle.context_tables.specs.Rows.{oneof_index}

every_mem : {A : Type 0} (P : A → Type 0) (xs : List A) → Every P xs → (x : A) → Memᴰ x xs → P x
every_mem P [] h x m = absurd (Memᴰ.not-nil m)
every_mem P (y ∷ ys) h x m = ⊎_elim (λ e. subst P (sym e) h.0) (λ w. every_mem P ys h.1 x w) (Memᴰ.cases_cons m)

abbrev message_of : Entry → MessageDescriptor
message_of e = e.message

few_oneofs : (n : ℕ) (es : List Entry) → Every GoodMessage (map message_of es) → length (all_of oneofs_of (map message_of es)) ≤ n
    → (f : FieldDescriptor) → Memᴰ f (fields_of_entries es) → (i : ℕ) → f.oneof_index ≡ some i → i < n
unfolding fields_of_entries all_of
few_oneofs n [] good h f m i is = absurd (Memᴰ.not-nil m)
few_oneofs n (e ∷ es) good h f m i is =
    let l = length-append e.message.oneofs (all_of oneofs_of (map message_of es)) in
    ⊎_elim (λ w. let below = ((every_mem _ e.message.fields good.0.fields f w).in_oneof i is).0 in omega arith)
    (λ w. few_oneofs n es good.1 (omega arith) f w i is)
    (Memᴰ.append_cases e.message.fields m)

index_fits : (optional : Bool) (o : Option ℕ) → ((i : ℕ) → o ≡ some i → i < 65536) → option_seen (oneof_index (choose optional none o)) ≡ choose optional none o
unfolding oneof_index choose
index_fits true o h = refl
index_fits false none h = refl
index_fits false (some i) h = rw (lt-ltb i 65536 (h i refl))

module _ (set : List ℕ) (small : length set ≤ 32768) (good : names (decode_set set) ≡ Ok tt) where
  pub oneof_fits : (f : FieldDescriptor) → Memᴰ f (fields_of_entries (set_entries (decode_set set)))
      → option_seen (oneof_index (choose f.proto3_optional none f.oneof_index)) ≡ choose f.proto3_optional none f.oneof_index
  unfolding decode_message
  oneof_fits f m =
      let es = set_entries (decode_set set) in
      let are = sym (set_messages (decode_set set)) in
      let fit = members_fit 8 decode_oneof oneofs_of (λ p. refl) set small (λ e. omega arith) in
      index_fits f.proto3_optional f.oneof_index
      (λ i is.
      let below = few_oneofs 32767 es (subst (Every GoodMessage) are (every_message (decode_set set) good)) (subst (λ (ms : List MessageDescriptor). length (all_of oneofs_of ms) ≤ 32767) are fit) f m i is in
      omega arith)
