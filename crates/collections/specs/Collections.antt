-- collections.rs: a field's collection type, and the word for it in the field's tag. Assumes nothing.
use Rattle.std.specs.Prelude.{Bool, true, false, List, ℕ}
use Rattle.base.specs.Bytes.{b}
use Rattle.collections.specs.declared.MapType.{MapType}
use Rattle.collections.specs.declared.MapType.TheVariants.{HashMap, BTreeMap}
use Rattle.collections.specs.declared.BytesType.{BytesType}
use Rattle.collections.specs.declared.BytesType.TheVariants.{Vec, Bytes}

-- the map type of a field; btree: a setting asks for a BTreeMap
abbrev pub map_type : Bool → MapType
map_type true = BTreeMap
map_type false = HashMap

-- the bytes type of a field; as-bytes: a setting asks for Bytes
abbrev pub bytes_type : Bool → BytesType
bytes_type true = Bytes
bytes_type false = Vec

-- MapType::annotation
abbrev pub map_annotation : MapType → List ℕ
map_annotation HashMap = b "map"
map_annotation BTreeMap = b "btree_map"

-- BytesType::annotation
abbrev pub bytes_annotation : BytesType → List ℕ
bytes_annotation Vec = b "vec"
bytes_annotation Bytes = b "bytes"
