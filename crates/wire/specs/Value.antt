-- What a value that was read stands for, and how many bytes it holds.
use Rattle.std.specs.Prelude.{ℕ, length}
use Rattle.wire.specs.Encoding.{Value, varint_value, i64_value, len_value, i32_value, little_endian}
use Rattle.wire.specs.declared.records.record.Value.{Value as ValueRead}
use Rattle.wire.specs.declared.records.record.Value.TheVariants as read

abbrev pub value_seen : ValueRead → Value
value_seen (read.Varint n) = varint_value n
value_seen (read.I64 bytes) = i64_value (little_endian bytes.now)
value_seen (read.Len bytes) = len_value bytes.now
value_seen (read.I32 bytes) = i32_value (little_endian bytes.now)

abbrev pub size_of : ValueRead → ℕ
size_of (read.Varint n) = 0
size_of (read.I64 bytes) = length bytes.now
size_of (read.Len bytes) = length bytes.now
size_of (read.I32 bytes) = length bytes.now
