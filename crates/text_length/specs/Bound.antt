-- Every text of a set within the limits is shorter than 2 ^ 52 bytes. Assumes nothing.
use Rattle.std.specs.Prelude.{◌≡◌, ℕ, zero, suc, ◌+◌, ◌*◌, ◌-◌, ◌^◌, ◌≤◌, ◌<◌, eqb, leb, ltb, take, drop, Ok}
use Rattle.std.proofs.Common.{length-take, length-drop, leb-true, eqb-true}
use Rattle.std.proofs.Math.Option.{Option, some, none}
use mathlib.Core.List.{List, [], ◌∷◌, ◌++◌, map}
use native.Mathlib.Omega.{arith}
use Rattle.std.proofs.Math.ListN.{length, length-append}
use Rattle.base.specs.Choose.{choose, choose_case}
use Rattle.base.specs.Lists.{Every, all_of, map_length, all_of_length}
use Rattle.wire.specs.Encoding.{Field, Value}
use Rattle.wire.specs.Contents.{value_of, field_of}
use Rattle.wire.specs.Records.{on_step, scan, records}
use Rattle.wire.specs.Step.{Record, Step, End, Fault, Found, step_at}
use Rattle.syntax.specs.Syntax.{syntax_of}
use Rattle.descriptor.specs.Descriptor.{Bytes, Forest, done, node, preorder, MessageDescriptor, FileDescriptor}
use Rattle.descriptor.specs.Decode.{entries_of, entries, last_from, last, bytes_in, parts, field_in, value_in, decode_field, decode_value, decode_enum, decode_oneof, decode_message, decode_messages, decode_file, decode_set}
use Rattle.descriptor.specs.Decode as decode
use Rattle.descriptor.specs.Limits.{messages_in, fields_in, enums_in, limit_passed}
use Rattle.limit_facts.specs.Within.{within as within_limits}
use Rattle.options.specs.Settings.{Setting, settings, settings_from, row_count, path_length, value_length, bodies}
use Rattle.options.specs.Layout.{layout, layout_from, row_good}
use Rattle.base.proofs.RefusalLaws.{chosen, other}
use Rattle.descriptor.proofs.PartLaws.{parts_few}
use Rattle.name_rules.specs.Accessors.{text}
use Rattle.name_rules.specs.FullNames.{package_scope}
use Rattle.code_generator.specs.Generate.{is_proto3, generate, file_text}
use Rattle.text_length.specs.Lengths.{◌then◌}
use Rattle.text_length.specs.Paths.{Small}
use Rattle.text_length.specs.Fields.{FieldShort}
use Rattle.text_length.specs.Declarations.{ValueShort, EnumShort, enums_long}
use Rattle.text_length.specs.Messages.{MessageShort, ForestShort, weight, messages_long}

-- ---- what bytes hold is no longer than they are
part_short : (s : List ℕ) (a n : ℕ) → length (take n (drop a s)) ≤ length s
part_short s a n = let e = length-take n (drop a s) in let f = length-drop a s in omega arith

value_short : (s : List ℕ) (f : Record) → length (bytes_in (value_of s f)) ≤ length s
unfolding value_of
value_short s f =
    choose_case (λ (v : Value). length (bytes_in v) ≤ length s) (eqb f.wiretype 0) (λ _. omega arith)
    (λ _. choose_case (λ (v : Value). length (bytes_in v) ≤ length s) (eqb f.wiretype 1) (λ _. omega arith)
    (λ _. choose_case (λ (v : Value). length (bytes_in v) ≤ length s) (eqb f.wiretype 2) (λ _. part_short s f.start (f.next - f.start)) (λ _. omega arith)))

record Held (l n : ℕ) (fs : List Field) : Type 0 where
  few : length fs ≤ n
  short : Every (λ (f : Field). length (bytes_in f.value) ≤ l) fs

held_step : (s : List ℕ) (n : ℕ) (r : Step) (rest : Record → List Step) → ((f : Record) → Held (length s) n (entries_of s (rest f)))
    → Held (length s) (suc n) (entries_of s (on_step r [] (λ key. Fault key ∷ []) (λ f. Found f ∷ rest f)))
unfolding entries_of on_step field_of
held_step s n End rest h = record { few = omega arith; short = tt }
held_step s n (Fault key) rest h = record { few = omega arith; short = tt }
held_step s n (Found f) rest h = let k = h f in let c = k.few in record { few = omega arith; short = (value_short s f, k.short) }

held_scan : (s : List ℕ) (n at : ℕ) → Held (length s) n (entries_of s (scan n s at))
unfolding scan entries_of
held_scan s zero at = record { few = omega arith; short = tt }
held_scan s (suc n) at = held_step s n (step_at s at) (λ f. scan n s f.next) (λ f. held_scan s n f.next)

held : (s : List ℕ) → Held (length s) (length s - 0) (entries s)
unfolding entries records
held s = held_scan s (length s - 0) 0

module _ (l : ℕ) where
  abbrev Texts : List Field → Type 0
  Texts = Every (λ (f : Field). length (bytes_in f.value) ≤ l)

  last_short : (n : ℕ) (fs : List Field) → Texts fs → (v : Option Value) → length (text (decode.text v)) ≤ l → length (text (decode.text (last_from n fs v))) ≤ l
  unfolding last_from
  last_short n [] h v k = k
  last_short n (f ∷ fs) h v k =
      last_short n fs h.1 (choose (eqb f.number n) (some f.value) v) (choose_case (λ (o : Option Value). length (text (decode.text o)) ≤ l) (eqb f.number n) (λ _. h.0) (λ _. k))

  named : (n : ℕ) (fs : List Field) → Texts fs → length (text (decode.text (last n fs))) ≤ l
  named n fs h = last_short n fs h none (omega arith)

  abbrev Parts : List Bytes → Type 0
  Parts = Every (λ (p : Bytes). length p ≤ l)

  parts_short : (n : ℕ) (fs : List Field) → Texts fs → Parts (parts n fs)
  unfolding parts
  parts_short n [] h = tt
  parts_short n (f ∷ fs) h = choose_case Parts (eqb f.number n) (λ _. (h.0, parts_short n fs h.1)) (λ _. parts_short n fs h.1)

longer : (l m : ℕ) → l ≤ m → (fs : List Field) → Every (λ (f : Field). length (bytes_in f.value) ≤ l) fs → Every (λ (f : Field). length (bytes_in f.value) ≤ m) fs
longer l m h [] k = tt
longer l m h (f ∷ fs) k = let a = k.0 in (omega arith, longer l m h fs k.1)

-- ---- parts of a set
module _ (p : Bytes) (small : length p ≤ 32768) where
  inside : Every (λ (f : Field). length (bytes_in f.value) ≤ 32768) (entries p)
  inside = longer (length p) 32768 small (entries p) (held p).short

  abbrev called : (n : ℕ) → length (text (decode.text (last n (entries p)))) ≤ 32768
  called n = named 32768 n (entries p) inside

  abbrev within : (n : ℕ) → Every (λ (q : Bytes). length q ≤ 32768) (parts n (entries p))
  within n = parts_short 32768 n (entries p) inside

  counted : (n : ℕ) → length (parts n (entries p)) ≤ 32768
  counted n = let a = parts_few n (entries p) in let c = (held p).few in omega arith

  field_short : FieldShort (decode_field p)
  unfolding decode_field field_in
  field_short = record { named = called 1; typed = called 6; defaulted = called 7 }

  each_value : ValueShort (decode_value p)
  unfolding decode_value value_in
  each_value = record { named = called 1 }

  oneof_short : length (text (decode_oneof p)) ≤ 32768
  unfolding decode_oneof
  oneof_short = called 1

each_part : {B : Type 0} (P : B → Type 0) (g : Bytes → B) → ((p : Bytes) → length p ≤ 32768 → P (g p)) → (ps : List Bytes) → Every (λ (p : Bytes). length p ≤ 32768) ps → Every P (map g ps)
each_part P g f [] h = tt
each_part P g f (p ∷ ps) h = (f p h.0, each_part P g f ps h.1)

enum_short : (p : Bytes) → length p ≤ 32768 → EnumShort (decode_enum p)
unfolding decode_enum
enum_short p h =
    record {
      named = called p h 1;
      short = each_part ValueShort decode_value each_value (parts 2 (entries p)) (within p h 2);
      few = let e = map_length decode_value (parts 2 (entries p)) in let c = counted p h 2 in omega arith;
    }

message_short : (p : Bytes) → length p ≤ 32768 → MessageShort (decode_message p)
unfolding decode_message
message_short p h =
    record {
      named = called p h 1;
      fields = each_part FieldShort decode_field field_short (parts 2 (entries p)) (within p h 2);
      enums = each_part EnumShort decode_enum enum_short (parts 4 (entries p)) (within p h 4);
      oneofs = each_part (λ (n : Option Bytes). length (text n) ≤ 32768) decode_oneof oneof_short (parts 8 (entries p)) (within p h 8);
      few = let e = map_length decode_oneof (parts 8 (entries p)) in let c = counted p h 8 in omega arith;
    }

forest_short : (k : ℕ) (ps : List Bytes) → Every (λ (p : Bytes). length p ≤ 32768) ps → ForestShort k (decode_messages k ps)
unfolding decode_messages
forest_short zero ps h = tt
forest_short (suc k) [] h = tt
forest_short (suc k) (p ∷ ps) h = (message_short p h.0, (forest_short k (parts 3 (entries p)) (within p h.0 3), forest_short (suc k) ps h.1))

pub record FileShort (f : FileDescriptor) : Type 0 where
  pub packaged : length (text f.package_name) ≤ 32768
  pub messages : ForestShort 16 f.messages
  pub enums : Every EnumShort f.enums

file_short : (p : Bytes) → length p ≤ 32768 → FileShort (decode_file p)
unfolding decode_file
file_short p h =
    record {
      packaged = called p h 2;
      messages = forest_short 16 (parts 4 (entries p)) (within p h 4);
      enums = each_part EnumShort decode_enum enum_short (parts 5 (entries p)) (within p h 5);
    }

set_short : (set : Bytes) → length set ≤ 32768 → Every FileShort (decode_set set)
unfolding decode_set
set_short set h = each_part FileShort decode_file file_short (parts 1 (entries set)) (within set h 1)

-- ---- options
small_size : (s : List ℕ) (size k i at : ℕ) → layout_from s size k i at ≡ Ok tt → size ≤ 4096
unfolding layout_from
small_size s size zero i at e =
    let h = chosen (eqb at size) _ _ e in
    let k = chosen (leb at 4096) _ _ h.1 in
    let a = eqb-true at size h.0 in
    let c = leb-true at 4096 k.0 in
    omega arith
small_size s size (suc k) i at e = small_size s size k (i + 1) _ (chosen (row_good s i at) _ _ e).1

record Sized (n : ℕ) (rs : List Setting) : Type 0 where
  few : length rs ≤ n
  short : Every (λ (r : Setting). length r.value ≤ 4096) rs

sized : (o : List ℕ) → length o ≤ 4096 → (k i at : ℕ) → Sized k (settings_from o k i at)
unfolding settings_from
sized o h zero i at = record { few = omega arith; short = tt }
sized o h (suc k) i at =
    let rest = sized o h k (i + 1) (at + path_length o i + value_length o i) in
    let c = rest.few in
    let v = part_short o (at + path_length o i) (value_length o i) in
    record { few = omega arith; short = (omega arith, rest.short) }

pub small_options : (o : List ℕ) → layout o ≡ Ok tt → Small (settings o)
unfolding layout settings choose
small_options o e =
    let inner = (other (ltb (length o) 2) _ _ e).1 in
    let rows = chosen (leb (row_count o) 64) _ _ inner in
    let few = leb-true (row_count o) 64 rows.0 in
    let size = small_size (take 4096 o) (length o) (row_count o) 0 (bodies o) rows.1 in
    let all = sized o size (row_count o) 0 (bodies o) in
    let count = all.few in
    record { few = omega arith; short = all.short }

-- ---- the weight of a file's messages by the limits
weight_is : (F : Forest MessageDescriptor) → weight F ≡ 70000000000 * length (preorder F) + 700000000000 * length (all_of (λ (m : MessageDescriptor). m.fields) (preorder F)) + 20000000000 * length (all_of (λ (m : MessageDescriptor). m.enums) (preorder F))
unfolding preorder all_of
weight_is done = omega arith
weight_is (node m nested following) =
    let h = weight_is nested in
    let k = weight_is following in
    let a = length-append (preorder nested) (preorder following) in
    let c = all_of_length (λ (m : MessageDescriptor). m.fields) (preorder nested) (preorder following) in
    let d = length-append m.fields (all_of (λ (m : MessageDescriptor). m.fields) (preorder nested ++ preorder following)) in
    let e = all_of_length (λ (m : MessageDescriptor). m.enums) (preorder nested) (preorder following) in
    let f = length-append m.enums (all_of (λ (m : MessageDescriptor). m.enums) (preorder nested ++ preorder following)) in
    omega arith

-- ---- the text of a file
module _ {rs : List Setting} (small : Small rs) (set : List FileDescriptor) where
  scope_short : (p : Option Bytes) → length (text p) ≤ 32768 → length (package_scope p) ≤ 33000 * (0 + 1)
  scope_short none h = omega arith
  scope_short (some p) h = omega arith

  file_long : (f : FileDescriptor) → FileShort f → length (file_text rs set f) ≤ weight f.messages + length f.enums * 20000000000
  unfolding generate
  file_long f h =
      (messages_long small set (is_proto3 (syntax_of f.syntax)) 16 0 (omega arith) (package_scope f.package_name) (scope_short f.package_name h.packaged) f.messages h.messages
      then enums_long small 0 (omega arith) (package_scope f.package_name) f.enums h.enums).bytes

  abbrev Bounded : FileDescriptor → Type 0
  Bounded f = length (file_text rs set f) < 2 ^ 52

  -- each file's share of what the limits count
  files_long : (fs : List FileDescriptor) → Every FileShort fs → length (messages_in fs) ≤ 256 → length (fields_in fs) ≤ 2048 → length (enums_in fs) ≤ 256 → Every Bounded fs
  unfolding messages_in fields_in enums_in all_of
  files_long [] h m n e = tt
  files_long (f ∷ fs) h m n e =
      let own = file_long f h.0 in
      let is = weight_is f.messages in
      let a = length-append (preorder f.messages) (all_of (λ (f : FileDescriptor). preorder f.messages) fs) in
      let c = all_of_length (λ (m : MessageDescriptor). m.fields) (preorder f.messages) (all_of (λ (f : FileDescriptor). preorder f.messages) fs) in
      let d = all_of_length (λ (m : MessageDescriptor). m.enums) (preorder f.messages) (all_of (λ (f : FileDescriptor). preorder f.messages) fs) in
      let g = length-append f.enums (all_of (λ (f : FileDescriptor). f.enums) fs) in
      let i = length-append (f.enums ++ all_of (λ (f : FileDescriptor). f.enums) fs) (all_of (λ (m : MessageDescriptor). m.enums) (preorder f.messages ++ all_of (λ (f : FileDescriptor). preorder f.messages) fs)) in
      let j = length-append (all_of (λ (f : FileDescriptor). f.enums) fs) (all_of (λ (m : MessageDescriptor). m.enums) (all_of (λ (f : FileDescriptor). preorder f.messages) fs)) in
      (omega arith, files_long fs h.1 (omega arith) (omega arith) (omega arith))

-- the length of every text is exact: it is below 2 ^ 52, for options that are good and a set that passes no limit
pub text_bounded : (o set : Bytes) → layout o ≡ Ok tt → limit_passed set ≡ 0 → Every (λ (f : FileDescriptor). length (file_text (settings o) (decode_set set) f) < 2 ^ 52) (decode_set set)
text_bounded o set good passed =
    let w = within_limits set passed in
    files_long (small_options o good) (decode_set set) (decode_set set) (set_short set w.small) w.messages w.fields w.enums
