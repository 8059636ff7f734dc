-- What the rows of a table declare: full names, sorts, message numbers, files and fields; and the same list from the files' descriptors.
use Rattle.std.specs.Prelude.{ℕ, zero, suc, ◌+◌, ◌-◌, Bool, true, false, List, [], ◌∷◌, ◌++◌, length, eqb, ltb}
use Rattle.base.specs.Choose.{choose}
use Rattle.wire.specs.Records.{part}
use Rattle.descriptor.specs.Descriptor.{Bytes, FieldDescriptor, EnumDescriptor, FileDescriptor}
use Rattle.descriptor.specs.Decode.{decode_message}
use Rattle.name_rules.specs.Accessors.{text}
use Rattle.base.specs.Bytes.{same}
use Rattle.name_rules.specs.FullNames.{◌·◌, package_scope, Entry, entries, Declaration}
use Rattle.declarations.specs.Rows.{row_at, kind_number}
use Rattle.declarations.specs.declared.Declaration.{Declaration as Row}

-- a row's own name
abbrev pub name_of : Bytes → Row → Bytes
name_of bytes r = part bytes r.name r.len

-- what row i stands in; nothing, where that isn't before it
abbrev pub above : ℕ → Row → ℕ
above i r = choose (ltb i r.up) 0 r.up

-- the full name with the code k: nothing for 0, that of row i for suc i. A chain of rows has no more than k
unfoldable pub full_by : Bytes → List Row → ℕ → ℕ → Bytes
full_by bytes t zero k = []
full_by bytes t (suc n) zero = []
full_by bytes t (suc n) (suc i) = full_by bytes t n (above i (row_at t i)) · name_of bytes (row_at t i)

unfoldable pub full : Bytes → List Row → ℕ → Bytes
full bytes t k = full_by bytes t k k

pub record Listed : Type 0 where
  pub full : Bytes
  pub is_enumeration : Bool
  pub number : ℕ
  pub file : ℕ
  pub fields : List FieldDescriptor

-- a row's: none of a package, of an enum no number and no fields
unfoldable pub listed_row : Bytes → Bytes → Row → List Listed
listed_row bytes full r =
    choose (eqb (kind_number r.kind) 0) []
    (choose (eqb (kind_number r.kind) 1) (record { full = full; is_enumeration = true; number = 0; file = r.file; fields = [] } ∷ [])
    (record {
      full = full;
      is_enumeration = false;
      number = kind_number r.kind - 2;
      file = r.file;
      fields = (decode_message (part bytes r.start (r.end - r.start))).fields;
    } ∷ []))

-- those of the first n rows
unfoldable pub listed : Bytes → List Row → ℕ → List Listed
listed bytes t zero = []
listed bytes t (suc n) = listed bytes t n ++ listed_row bytes (full bytes t (suc n)) (row_at t n)

-- ---- from the descriptors: of the file with the index, messages numbered from m on

unfoldable pub listed_enums : ℕ → Bytes → List EnumDescriptor → List Listed
listed_enums file scope [] = []
listed_enums file scope (e ∷ es) =
    record { full = scope · text e.name; is_enumeration = true; number = 0; file = file; fields = [] } ∷ listed_enums file scope es

unfoldable pub listed_entries : ℕ → ℕ → List Entry → List Listed
listed_entries file m [] = []
listed_entries file m (e ∷ es) =
    record { full = e.full; is_enumeration = false; number = m; file = file; fields = e.message.fields }
    ∷ (listed_enums file e.full e.message.enums ++ listed_entries file (m + 1) es)

abbrev pub file_entries : FileDescriptor → List Entry
file_entries f = entries (package_scope f.package_name) f.messages

unfoldable pub listed_file : ℕ → ℕ → FileDescriptor → List Listed
listed_file file m f = listed_entries file m (file_entries f) ++ listed_enums file (package_scope f.package_name) f.enums

unfoldable pub listed_files : ℕ → ℕ → List FileDescriptor → List Listed
listed_files file m [] = []
listed_files file m (f ∷ fs) = listed_file file m f ++ listed_files (file + 1) (m + length (file_entries f)) fs

-- ---- what a list declares

abbrev pub declaration_of : Listed → Declaration
declaration_of l = record { full = l.full; is_enumeration = l.is_enumeration }

-- the number of the first message with a full name; 0 where there is none
unfoldable pub number_of : Bytes → List Listed → ℕ
number_of name [] = 0
number_of name (l ∷ ls) = choose l.is_enumeration (number_of name ls) (choose (same l.full name) l.number (number_of name ls))

-- the number in declaration order of the first message of a set with a full name, those before it counted from m on; 0 where there is none
unfoldable pub entry_number : Bytes → ℕ → List Entry → ℕ
entry_number name m [] = 0
entry_number name m (e ∷ es) = choose (same e.full name) m (entry_number name (m + 1) es)
