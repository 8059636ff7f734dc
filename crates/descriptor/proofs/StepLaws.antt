-- Gone through in order, the fields of a message come to the descriptor that `Decode` makes of them all. Assumes nothing.
use Rattle.std.proofs.Common.{◌≡◌, refl, sym, ap, ◌∙◌, ℕ, Bool, true, false, List, [], ◌∷◌, ◌++◌, cond}
use Rattle.std.specs.Prelude.{◌==◌}
use mathlib.Core.List.{append-nil}
use Rattle.std.proofs.Math.Option.{Option, none, some}
use Rattle.base.specs.Choose.{choose}
use Rattle.wire.specs.Encoding.{Field, Value}
use Rattle.descriptor.specs.Descriptor.{Bytes, FieldOptions, FieldDescriptor, ValueDescriptor, MessageHeader, FileHeader, message_header, file_header}
use Rattle.descriptor.specs.Decode.{entries, last, last_from, bytes_in, parts, joined, decode_field_options, options_in, field_in, value_in, decode_field, decode_value, decode_message, decode_file}
use Rattle.descriptor.specs.Decode as decode
use Rattle.descriptor.specs.Steps.{after, on, text, int32, bool, bool_inside, no_options, options_step, given_options, options, field_step, no_field, value_step, no_value, message_step, no_message, file_step, no_file}

after_append : {A : Type 0} (step : A → Field → A) (a : A) (fs gs : List Field) → after step a (fs ++ gs) ≡ after step (after step a fs) gs
unfolding after
after_append step a [] gs = refl
after_append step a (f ∷ fs) gs = after_append step (step a f) fs gs

-- of a singular field the last value counts
module _ {A : Type 0} (seen : Option Value → A) (make : Value → A → A) (is : (v : Value) (o : Option Value) → make v (seen o) ≡ seen (some v)) (n : ℕ) where
  step_is : (b : Bool) (v : Value) (o : Option Value) → cond b (make v (seen o)) (seen o) ≡ seen (choose b (some v) o)
  unfolding choose
  step_is true v o = is v o
  step_is false v o = refl

  after_is : (fs : List Field) (o : Option Value) → after (on n make) (seen o) fs ≡ seen (last_from n fs o)
  unfolding after last_from
  after_is [] o = refl
  after_is (f ∷ fs) o =
      ap (λ (a : A). after (on n make) a fs) (step_is (f.number == n) f.value o) ∙ after_is fs (choose (f.number == n) (some f.value) o)

text_is : (n : ℕ) (fs : List Field) → after (on n text) none fs ≡ decode.text (last n fs)
text_is n fs = after_is decode.text text (λ v o. refl) n fs none

pub name_is : (s : Bytes) → after (on 1 text) none (entries s) ≡ decode.text (last 1 (entries s))
name_is s = text_is 1 (entries s)

int32_is : (n : ℕ) (fs : List Field) → after (on n int32) none fs ≡ decode.int32 (last n fs)
int32_is n fs = after_is decode.int32 int32 (λ v o. refl) n fs none

bool_is : (n : ℕ) (fs : List Field) → after (on n bool) false fs ≡ decode.bool (last n fs)
bool_is n fs = after_is decode.bool bool (λ v o. refl) n fs none

-- the occurrences of an embedded message are joined
module _ {A : Type 0} (step : A → Field → A) (n : ℕ) where
  inside : Value → A → A
  inside v a = after step a (entries (bytes_in v))

  inside_is : (fs : List Field) (a : A) → after (on n inside) a fs ≡ after step a (joined (parts n fs))
  unfolding after parts joined choose inside
  inside_is [] a = refl
  inside_is (f ∷ fs) a = go (f.number == n) (inside_is fs)
    where
      go : (b : Bool) → ((x : A) → after (on n inside) x fs ≡ after step x (joined (parts n fs)))
          → after (on n inside) (cond b (inside f.value a) a) fs ≡ after step a (joined (choose b (bytes_in f.value ∷ parts n fs) (parts n fs)))
      go true h = h (inside f.value a) ∙ sym (after_append step a (entries (bytes_in f.value)) (joined (parts n fs)))
      go false h = h a

bool_inside_is : (n m : ℕ) (fs : List Field) → after (on n (bool_inside m)) false fs ≡ decode.bool (last m (joined (parts n fs)))
unfolding inside
bool_inside_is n m fs = inside_is (on m bool) n fs false ∙ bool_is m (joined (parts n fs))

-- options, of which some may be given before
options_parts : (fs : List Field) (o : FieldOptions) → after options_step o fs ≡ record { packed = after (on 2 bool) o.packed fs; deprecated = after (on 3 bool) o.deprecated fs }
unfolding after
options_parts [] o = refl
options_parts (f ∷ fs) o = options_parts fs (options_step o f)

options_are : (fs : List Field) → after options_step no_options fs ≡ decode_field_options fs
unfolding decode_field_options
options_are fs = rw (options_parts fs no_options, bool_is 2 fs, bool_is 3 fs) refl

merged : Option FieldOptions → List Bytes → Option FieldOptions
merged was [] = was
merged was (p ∷ ps) = some (after options_step (given_options was) (joined (p ∷ ps)))

merged_more : (was : Option FieldOptions) (p : Bytes) (ps : List Bytes) → merged (some (after options_step (given_options was) (entries p))) ps ≡ merged was (p ∷ ps)
unfolding merged joined
merged_more was p [] = ap (λ (fs : List Field). some (after options_step (given_options was) fs)) (sym (append-nil (entries p)))
merged_more was p (q ∷ ps) = ap some (sym (after_append options_step (given_options was) (entries p) (joined (q ∷ ps))))

options_merged : (fs : List Field) (was : Option FieldOptions) → after (on 8 options) was fs ≡ merged was (parts 8 fs)
unfolding after parts choose merged
options_merged [] was = refl
options_merged (f ∷ fs) was = go (f.number == 8) (options_merged fs)
  where
    go : (b : Bool) → ((x : Option FieldOptions) → after (on 8 options) x fs ≡ merged x (parts 8 fs))
        → after (on 8 options) (cond b (options f.value was) was) fs ≡ merged was (choose b (bytes_in f.value ∷ parts 8 fs) (parts 8 fs))
    go true h = h (options f.value was) ∙ merged_more was (bytes_in f.value) (parts 8 fs)
    go false h = h was

merged_is : (ps : List Bytes) → merged none ps ≡ options_in ps
unfolding merged
merged_is [] = refl
merged_is (p ∷ ps) = ap some (options_are (joined (p ∷ ps)))

options_is : (fs : List Field) → after (on 8 options) none fs ≡ options_in (parts 8 fs)
options_is fs = options_merged fs none ∙ merged_is (parts 8 fs)

-- each descriptor, part by part
field_parts : (fs : List Field) (d : FieldDescriptor) → after field_step d fs ≡ record {
  name = after (on 1 text) d.name fs;
  number = after (on 3 int32) d.number fs;
  label = after (on 4 int32) d.label fs;
  type = after (on 5 int32) d.type fs;
  type_name = after (on 6 text) d.type_name fs;
  default_value = after (on 7 text) d.default_value fs;
  options = after (on 8 options) d.options fs;
  oneof_index = after (on 9 int32) d.oneof_index fs;
  proto3_optional = after (on 17 bool) d.proto3_optional fs;
}
unfolding after
field_parts [] d = refl
field_parts (f ∷ fs) d = field_parts fs (field_step d f)

pub field_is : (s : Bytes) → after field_step no_field (entries s) ≡ decode_field s
unfolding decode_field field_in
field_is s =
    let fs : List Field = entries s in
    rw (field_parts fs no_field, text_is 1 fs, int32_is 3 fs, int32_is 4 fs, int32_is 5 fs, text_is 6 fs, text_is 7 fs, options_is fs, int32_is 9 fs, bool_is 17 fs) refl

value_parts : (fs : List Field) (d : ValueDescriptor) → after value_step d fs
    ≡ record { name = after (on 1 text) d.name fs; number = after (on 2 int32) d.number fs; deprecated = after (on 3 (bool_inside 1)) d.deprecated fs }
unfolding after
value_parts [] d = refl
value_parts (f ∷ fs) d = value_parts fs (value_step d f)

pub value_is : (s : Bytes) → after value_step no_value (entries s) ≡ decode_value s
unfolding decode_value value_in
value_is s = let fs : List Field = entries s in rw (value_parts fs no_value, text_is 1 fs, int32_is 2 fs, bool_inside_is 3 1 fs) refl

message_parts : (fs : List Field) (d : MessageHeader) → after message_step d fs ≡ record { name = after (on 1 text) d.name fs; map_entry = after (on 7 (bool_inside 7)) d.map_entry fs }
unfolding after
message_parts [] d = refl
message_parts (f ∷ fs) d = message_parts fs (message_step d f)

pub message_is : (s : Bytes) → after message_step no_message (entries s) ≡ message_header (decode_message s)
unfolding decode_message
message_is s = let fs : List Field = entries s in rw (message_parts fs no_message, text_is 1 fs, bool_inside_is 7 7 fs) refl

file_parts : (fs : List Field) (d : FileHeader) → after file_step d fs ≡ record { package_name = after (on 2 text) d.package_name fs; syntax = after (on 12 text) d.syntax fs }
unfolding after
file_parts [] d = refl
file_parts (f ∷ fs) d = file_parts fs (file_step d f)

pub file_is : (s : Bytes) → after file_step no_file (entries s) ≡ file_header (decode_file s)
unfolding decode_file
file_is s = let fs : List Field = entries s in rw (file_parts fs no_file, text_is 2 fs, text_is 12 fs) refl
