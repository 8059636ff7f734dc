-- Worked examples of the encoding's document, by computation. Assumes nothing.
use mathlib.Core.Path.{◌≡◌, refl}
use mathlib.Core.List.{List, [], ◌∷◌}
use mathlib.Core.Option.{none, some}
use Prim.Native.Nat.{ℕ, ◌-◌, ◌^◌}
use Rattle.base.specs.Bytes.{b}
use Rattle.base.specs.Choose.{choose}
use Rattle.wire.specs.Varint.{value_at, varint, groups, on_varint}
use Rattle.wire.specs.Step.{step_at, payload}
use Rattle.wire.specs.Records.{records, scan, on_step}
use Rattle.wire.specs.Encoding.{Value, varint_value, i64_value, len_value, i32_value, Field, little_endian}
use Rattle.wire.specs.Contents.{value_of, field_of, fields_of, contents}
use Rattle.std.specs.Prelude.{None}

abbrev field : ℕ → Value → Field
field number value = record { number = number; value = value }

abbrev reads : List ℕ → List Field → Type 0
reads s fs = contents s ≡ some fs

abbrev refuses : List ℕ → Type 0
refuses s = contents s ≡ none

-- the number 1
one : varint (0x01 ∷ []) 0 ≡ value_at 1 1
unfolding varint groups choose on_varint
one = refl

-- 150
one_hundred_fifty : varint (0x96 ∷ 0x01 ∷ []) 0 ≡ value_at 150 2
unfolding varint groups choose on_varint
one_hundred_fifty = refl

-- 300
three_hundred : varint (0xac ∷ 0x02 ∷ []) 0 ≡ value_at 300 2
unfolding varint groups choose on_varint
three_hundred = refl

-- 0 in two bytes
padded : varint (0x80 ∷ 0x00 ∷ []) 0 ≡ value_at 0 2
unfolding varint groups choose on_varint
padded = refl

-- -2 as an int32 or int64: 64 bits, two's complement
minus_two : varint (0xfe ∷ 0xff ∷ 0xff ∷ 0xff ∷ 0xff ∷ 0xff ∷ 0xff ∷ 0xff ∷ 0xff ∷ 0x01 ∷ []) 0 ≡ value_at (2 ^ 64 - 2) 10
unfolding varint groups choose on_varint
minus_two = refl

-- a tenth byte above 1 is over 64 bits
tenth_byte : varint (0xff ∷ 0xff ∷ 0xff ∷ 0xff ∷ 0xff ∷ 0xff ∷ 0xff ∷ 0xff ∷ 0xff ∷ 0x02 ∷ []) 0 ≡ None
unfolding varint groups choose on_varint
tenth_byte = refl

-- and so is an eleventh byte, though the value be 0
eleven_bytes : varint (0x80 ∷ 0x80 ∷ 0x80 ∷ 0x80 ∷ 0x80 ∷ 0x80 ∷ 0x80 ∷ 0x80 ∷ 0x80 ∷ 0x80 ∷ 0x00 ∷ []) 0 ≡ None
unfolding varint groups choose on_varint
eleven_bytes = refl

-- message Test1 { optional int32 a = 1; } with a = 150
field_1 : reads (0x08 ∷ 0x96 ∷ 0x01 ∷ []) (field 1 (varint_value 150) ∷ [])
unfolding varint groups choose on_varint step_at payload records scan on_step value_of field_of fields_of contents little_endian
field_1 = refl

-- message Test2 { optional string b = 2; } with b = "testing"
testing : reads (0x12 ∷ 0x07 ∷ 0x74 ∷ 0x65 ∷ 0x73 ∷ 0x74 ∷ 0x69 ∷ 0x6e ∷ 0x67 ∷ []) (field 2 (len_value (b "testing")) ∷ [])
unfolding varint groups choose on_varint step_at payload records scan on_step value_of field_of fields_of contents little_endian
testing = refl

-- message Test3 { optional Test1 c = 3; } with c.a = 150
embedded : reads (0x1a ∷ 0x03 ∷ 0x08 ∷ 0x96 ∷ 0x01 ∷ []) (field 3 (len_value (0x08 ∷ 0x96 ∷ 0x01 ∷ [])) ∷ [])
unfolding varint groups choose on_varint step_at payload records scan on_step value_of field_of fields_of contents little_endian
embedded = refl

-- message Test5 { repeated int32 f = 6 [packed=true]; } with 3, 270 and 86942
packed : reads (0x32 ∷ 0x06 ∷ 0x03 ∷ 0x8e ∷ 0x02 ∷ 0x9e ∷ 0xa7 ∷ 0x05 ∷ []) (field 6 (len_value (0x03 ∷ 0x8e ∷ 0x02 ∷ 0x9e ∷ 0xa7 ∷ 0x05 ∷ [])) ∷ [])
unfolding varint groups choose on_varint step_at payload records scan on_step value_of field_of fields_of contents little_endian
packed = refl

-- message Test4 { optional string d = 4; repeated int32 e = 6; } with d = "hello" and e 1, 2, 3
repeated : reads (0x22 ∷ 0x05 ∷ 0x68 ∷ 0x65 ∷ 0x6c ∷ 0x6c ∷ 0x6f ∷ 0x30 ∷ 0x01 ∷ 0x30 ∷ 0x02 ∷ 0x30 ∷ 0x03 ∷ []) (field 4 (len_value (b "hello")) ∷ field 6 (varint_value 1) ∷ field 6 (varint_value 2) ∷ field 6 (varint_value 3) ∷ [])
unfolding varint groups choose on_varint step_at payload records scan on_step value_of field_of fields_of contents little_endian
repeated = refl

-- a fixed32 and a fixed64, both 300
fixed : reads (0x0d ∷ 0x2c ∷ 0x01 ∷ 0x00 ∷ 0x00 ∷ 0x11 ∷ 0x2c ∷ 0x01 ∷ 0x00 ∷ 0x00 ∷ 0x00 ∷ 0x00 ∷ 0x00 ∷ 0x00 ∷ []) (field 1 (i32_value 300) ∷ field 2 (i64_value 300) ∷ [])
unfolding varint groups choose on_varint step_at payload records scan on_step value_of field_of fields_of contents little_endian
fixed = refl

-- the field number 0
number_0 : refuses (0x00 ∷ 0x01 ∷ [])
unfolding varint groups choose on_varint step_at payload records scan on_step value_of field_of fields_of contents little_endian
number_0 = refl

-- wire type 3
wire_type_3 : refuses (0x0b ∷ [])
unfolding varint groups choose on_varint step_at payload records scan on_step value_of field_of fields_of contents little_endian
wire_type_3 = refl

-- wire type 4
wire_type_4 : refuses (0x0c ∷ [])
unfolding varint groups choose on_varint step_at payload records scan on_step value_of field_of fields_of contents little_endian
wire_type_4 = refl

-- wire type 6
wire_type_6 : refuses (0x0e ∷ [])
unfolding varint groups choose on_varint step_at payload records scan on_step value_of field_of fields_of contents little_endian
wire_type_6 = refl

-- wire type 7
wire_type_7 : refuses (0x0f ∷ [])
unfolding varint groups choose on_varint step_at payload records scan on_step value_of field_of fields_of contents little_endian
wire_type_7 = refl

-- a key that is cut
cut_key : refuses (0x08 ∷ 0x01 ∷ 0x88 ∷ [])
unfolding varint groups choose on_varint step_at payload records scan on_step value_of field_of fields_of contents little_endian
cut_key = refl

-- a value that is cut
cut_value : refuses (0x08 ∷ 0x96 ∷ [])
unfolding varint groups choose on_varint step_at payload records scan on_step value_of field_of fields_of contents little_endian
cut_value = refl

-- a payload that is cut
cut_payload : refuses (0x12 ∷ 0x07 ∷ 0x74 ∷ 0x65 ∷ [])
unfolding varint groups choose on_varint step_at payload records scan on_step value_of field_of fields_of contents little_endian
cut_payload = refl
