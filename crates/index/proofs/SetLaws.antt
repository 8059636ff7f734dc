-- The rows of a set's tables are the declarations of the decoded set, in order, with their files and messages. Assumes nothing.
use mathlib.Core.Path.{◌≡◌, refl, sym, ap, ◌∙◌, subst}
use mathlib.Core.List.{List, [], ◌∷◌, ◌++◌, map, map-append, map-map}
use mathlib.Core.Option.{Option}
use Prim.Native.Nat.{ℕ, ◌+◌, ◌≤◌}
use native.Mathlib.Omega.{arith}
use lib.ListN.{length, length-append, replicate, replicate-append-replicate}
use borrow.Author.Tests.{le-ltb}
use lib.Dec.{eqb, ltb}
use Rattle.base.specs.Choose.{choose, choose_case}
use Rattle.base.specs.Lists.{all_of, map_length, all_of_append}
use Rattle.wire.specs.Records.{records, pass, over}
use Rattle.wire.specs.Step.{Step, End, Fault, Found}
use Rattle.descriptor.specs.Descriptor.{Bytes, Forest, preorder, FieldDescriptor, EnumDescriptor, MessageDescriptor, FileDescriptor}
use Rattle.descriptor.specs.Decode.{entries, parts, decode_field, decode_enum, decode_oneof, decode_message, decode_file, decode_set}
use Rattle.descriptor.specs.Limits.{messages_in, enums_in}
use Rattle.descriptor.specs.Places.{inside}
use Rattle.index.specs.Tree.{Place, file_record, file_forests, size, total, rows, row_bytes, rows_of, members, all_members, IndexedFiles}
use Rattle.index.specs.Owners.{owners}
use Rattle.index.specs.declared.Row.{Row}
use Rattle.index.proofs.TreeLaws.{rows_length}
use Rattle.index.proofs.TableLaws.{Stands, fill_stands}
use Rattle.index.proofs.OwnerLaws.{all_of_same, all_of_map, map_all_of, owners_map, one_owner}
use Rattle.index.proofs.DecodedLaws.{bytes_at, map_forest, nest, files_bytes, rows_bytes, rows_of_bytes, one_level, nest_decoded}
use Rattle.index.proofs.RoomLaws.{set_takes}
use Rattle.index.proofs.MemberRows.{rows_file, Flat, flat_one, flat_up, embeds, member_rows, members_listed, member_bytes, member_up, member_file}

-- the rows hold these declarations, of these files, and stand in these messages: 0, or one more than the message's number
pub record Listed {A : Type 0} (decode : Bytes → A) (set : List ℕ) (rs : List Row) (items : List A) (files ups : List ℕ) : Type 0 where
  pub decoded : map (λ (r : Row). decode (row_bytes set r)) rs ≡ items
  pub file : map (λ (r : Row). r.file) rs ≡ files
  pub up : map (λ (r : Row). r.up) rs ≡ ups

-- ---- the files' declarations

pub rows_of_length : (Fs : List (Forest Place)) (file i : ℕ) → length (rows_of file i Fs) ≡ total Fs
unfolding rows_of total
rows_of_length [] file i = refl
rows_of_length (F ∷ Fs) file i =
    let a = rows_length F file 0 i in
    let c = rows_of_length Fs (file + 1) (i + size F) in
    let l = length-append (rows file 0 i F) (rows_of (file + 1) (i + size F) Fs) in
    omega arith

-- what a list of rows holds, for each file
files_owned : {B : Type 0} (set : List ℕ) (held : Bytes → List B) (Fs : List (Forest Place)) (file i : ℕ)
    → all_of (λ (m : Row). replicate (length (held (row_bytes set m))) m.file) (rows_of file i Fs) ≡ owners (λ (F : Forest Bytes). all_of held (preorder F)) file (map (map_forest (bytes_at set)) Fs)
unfolding rows_of all_of owners
files_owned set held [] file i = refl
files_owned {B} set held (F ∷ Fs) file i =
    let rs : List Row = rows file 0 i F in
    let on : List Row = rows_of (file + 1) (i + size F) Fs in
    let n : length rs ≡ size F = rows_length F file 0 i in
    all_of_append (λ (m : Row). replicate (length (held (row_bytes set m))) m.file) rs on
    ∙ ap (λ (l : List ℕ). l ++ all_of (λ (m : Row). replicate (length (held (row_bytes set m))) m.file) on)
    (one_owner (λ (m : Row). held (row_bytes set m)) (λ (r : Row). r.file) file rs (rows_file F file 0 i ∙ ap (λ (k : ℕ). replicate k file) (sym n))
    ∙ ap (λ (l : List B). replicate (length l) file) (sym (all_of_map held (row_bytes set) rs) ∙ ap (all_of held) (rows_bytes set F file 0 i)))
    ∙ ap (λ (l : List ℕ). replicate (length (all_of held (preorder (map_forest (bytes_at set) F)))) file ++ l) (files_owned set held Fs (file + 1) (i + size F))

-- one of each
once : {A : Type 0} (number : A → ℕ) (xs : List A) → map number xs ≡ all_of (λ (a : A). replicate 1 (number a)) xs
unfolding all_of
once number [] = refl
once number (a ∷ xs) = ap (λ (l : List ℕ). number a ∷ l) (once number xs)

all_of_one : {A : Type 0} (xs : List A) → all_of (λ (a : A). a ∷ []) xs ≡ xs
unfolding all_of
all_of_one [] = refl
all_of_one (a ∷ xs) = ap (λ (l : List _). a ∷ l) (all_of_one xs)

-- a file's own declarations stand in no message
abbrev AllFlat : List (Forest Place) → Type 0
AllFlat [] = Unit {0}
AllFlat (F ∷ Fs) = Flat F × AllFlat Fs

all_flat : (number : ℕ) (set : List ℕ) → AllFlat (file_forests number 1 set)
unfolding file_forests over pass
all_flat number set = choose_case AllFlat (ltb 32768 (length set)) (λ _. tt) (λ _. pass_all_flat number set (records set 0))
  where
    pass_all_flat : (number : ℕ) (set : List ℕ) (rs : List Step) → AllFlat (pass (file_record number 1 set) (λ key x. []) (λ x. []) rs tt)
    pass_all_flat number set [] = tt
    pass_all_flat number set (End ∷ rs) = tt
    pass_all_flat number set (Fault key ∷ rs) = tt
    pass_all_flat number set (Found f ∷ rs) =
        choose_case AllFlat (eqb f.number 1) (λ _. (flat_one number (inside set f) f.start, pass_all_flat number set rs)) (λ _. pass_all_flat number set rs)

flat_files_up : (Fs : List (Forest Place)) → AllFlat Fs → (file i : ℕ) → map (λ (r : Row). r.up) (rows_of file i Fs) ≡ replicate (total Fs) 0
unfolding rows_of total
flat_files_up [] h file i = refl
flat_files_up (F ∷ Fs) h file i =
    map-append (λ (r : Row). r.up) (rows file 0 i F) (rows_of (file + 1) (i + size F) Fs)
    ∙ ap (λ (l : List ℕ). l ++ map (λ (r : Row). r.up) (rows_of (file + 1) (i + size F) Fs)) (flat_up F h.0 file 0 i)
    ∙ ap (λ (l : List ℕ). replicate (size F) 0 ++ l) (flat_files_up Fs h.1 (file + 1) (i + size F))
    ∙ replicate-append-replicate (size F) (total Fs) 0

module _ {A : Type 0} (number left : ℕ) (decode : Bytes → A) (declared : FileDescriptor → List A)
    (declares : (p : Bytes) → map decode (preorder (nest left (parts number (entries p)))) ≡ declared (decode_file p)) (set : List ℕ) (small : length set ≤ 32768) where
  abbrev files : List Bytes
  files = parts 1 (entries set)

  abbrev of_file : Bytes → Forest Bytes
  of_file p = nest left (parts number (entries p))

  pub files_decoded : map (λ (r : Row). decode (row_bytes set r)) (rows_of 0 0 (file_forests number left set)) ≡ all_of declared (decode_set set)
  unfolding decode_set
  files_decoded =
      sym (map-map decode (row_bytes set) (rows_of 0 0 (file_forests number left set)))
      ∙ ap (map decode) (rows_of_bytes set (file_forests number left set) 0 0 ∙ ap (all_of preorder) (files_bytes number left set small))
      ∙ map_all_of decode preorder (map of_file files)
      ∙ all_of_map (λ (F : Forest Bytes). map decode (preorder F)) of_file files
      ∙ all_of_same (λ (p : Bytes). map decode (preorder (of_file p))) (λ (p : Bytes). declared (decode_file p)) declares files
      ∙ sym (all_of_map declared decode_file files)

  pub files_counted : total (file_forests number left set) ≡ length (all_of declared (decode_set set))
  files_counted =
      sym (rows_of_length (file_forests number left set) 0 0)
      ∙ sym (map_length (λ (r : Row). decode (row_bytes set r)) (rows_of 0 0 (file_forests number left set)))
      ∙ ap length files_decoded

  -- in the files, counted from 0
  abbrev owned : {B : Type 0} → (Bytes → List B) → Bytes → List B
  owned held p = all_of held (preorder (of_file p))

  files_numbered : {B : Type 0} (held : Bytes → List B)
      → all_of (λ (m : Row). replicate (length (held (row_bytes set m))) m.file) (rows_of 0 0 (file_forests number left set)) ≡ owners (owned held) 0 files
  files_numbered held =
      files_owned set held (file_forests number left set) 0 0
      ∙ ap (owners (λ (F : Forest Bytes). all_of held (preorder F)) 0) (files_bytes number left set small)
      ∙ sym (owners_map (owned held) (λ (F : Forest Bytes). all_of held (preorder F)) of_file (λ p. refl) 0 files)

  pub files_file : map (λ (r : Row). r.file) (rows_of 0 0 (file_forests number left set)) ≡ owners declared 0 (decode_set set)
  unfolding decode_set
  files_file =
      once (λ (r : Row). r.file) (rows_of 0 0 (file_forests number left set))
      ∙ files_numbered (λ (p : Bytes). p ∷ [])
      ∙ owners_map (owned (λ (p : Bytes). p ∷ [])) declared decode_file
      (λ p. ap length (all_of_one (preorder (of_file p))) ∙ sym (map_length decode (preorder (of_file p))) ∙ ap length (declares p)) 0 files

-- ---- the files' messages and own enums

abbrev pub message_rows : List ℕ → List Row
message_rows set = rows_of 0 0 (file_forests 4 16 set)

abbrev pub file_messages : FileDescriptor → List MessageDescriptor
file_messages f = preorder f.messages

abbrev pub decode_row : List ℕ → Row → MessageDescriptor
decode_row set r = decode_message (row_bytes set r)

messages_declared : (p : Bytes) → map decode_message (preorder (nest 16 (parts 4 (entries p)))) ≡ file_messages (decode_file p)
unfolding decode_file
messages_declared p = nest_decoded 16 (parts 4 (entries p))

enums_declared : (p : Bytes) → map decode_enum (preorder (nest 1 (parts 5 (entries p)))) ≡ (decode_file p).enums
unfolding decode_file
enums_declared p = ap (map decode_enum) (one_level (parts 5 (entries p)))

module _ (set : List ℕ) (small : length set ≤ 32768) where
  pub messages_decoded : map (decode_row set) (message_rows set) ≡ messages_in (decode_set set)
  unfolding messages_in
  messages_decoded = files_decoded 4 16 decode_message file_messages messages_declared set small

  pub messages_file : map (λ (r : Row). r.file) (message_rows set) ≡ owners file_messages 0 (decode_set set)
  messages_file = files_file 4 16 decode_message file_messages messages_declared set small

  -- limit 3 counts them
  pub messages_counted : total (file_forests 4 16 set) ≡ length (messages_in (decode_set set))
  unfolding messages_in
  messages_counted = files_counted 4 16 decode_message file_messages messages_declared set small

  pub file_enums_hold : Listed decode_enum set (rows_of 0 0 (file_forests 5 1 set)) (all_of (λ (f : FileDescriptor). f.enums) (decode_set set))
      (owners (λ (f : FileDescriptor). f.enums) 0 (decode_set set)) (replicate (total (file_forests 5 1 set)) 0)
  file_enums_hold =
      record {
        decoded = files_decoded 5 1 decode_enum (λ (f : FileDescriptor). f.enums) enums_declared set small;
        file = files_file 5 1 decode_enum (λ (f : FileDescriptor). f.enums) enums_declared set small;
        up = flat_files_up (file_forests 5 1 set) (all_flat 5 set) 0 0;
      }

-- ---- what the messages hold

-- a table with the messages of a set
pub record MessageTable (set : List ℕ) (messages : List Row) (count : ℕ) : Type 0 where
  pub small : length set ≤ 32768
  pub few : count ≤ 1024
  pub counted : count ≡ length (message_rows set)
  pub there : Stands messages 0 (message_rows set)

-- as `index_files` leaves it, where the table has room for all of them
pub messages_there : (set : List ℕ) (t messages : List Row) (count : ℕ) → length set ≤ 32768 → count ≤ 1024 → count ≤ length t → IndexedFiles (file_forests 4 16 set) t messages count
    → MessageTable set messages count
messages_there set t messages count small few room is =
    let n : length (message_rows set) ≡ total (file_forests 4 16 set) = rows_of_length (file_forests 4 16 set) 0 0 in
    let c : count ≡ total (file_forests 4 16 set) = is.counted in
    record {
      small = small;
      few = few;
      counted = omega arith;
      there = subst (λ (u : List Row). Stands u 0 (message_rows set)) (sym is.table) (fill_stands (message_rows set) t 0 (omega arith));
    }

-- the rows of a table's messages hold what the messages of the decoded set hold, from row i on
abbrev pub HoldsMembers : {A : Type 0} → ℕ → (Bytes → A) → (MessageDescriptor → List A) → List ℕ → List Row → ℕ → ℕ → Type 0
HoldsMembers number decode held set messages count i =
    Listed decode set (all_members set number messages count i) (all_of held (messages_in (decode_set set)))
    (owners (λ (f : FileDescriptor). all_of held (file_messages f)) 0 (decode_set set)) (owners held 1 (messages_in (decode_set set)))

module _ {A : Type 0} (number : ℕ) (decode : Bytes → A) (held : MessageDescriptor → List A)
    (holds : (p : Bytes) → map decode (parts number (entries p)) ≡ held (decode_message p)) (set : List ℕ) (small : length set ≤ 32768) where
  abbrev ms : List Row
  ms = message_rows set

  abbrev embedded : Row → List Bytes
  embedded = embeds set number

  abbrev inner : Bytes → List Bytes
  inner p = parts number (entries p)

  inner_decoded : (ps : List Bytes) → map decode (all_of inner ps) ≡ all_of held (map decode_message ps)
  inner_decoded ps =
      map_all_of decode inner ps
      ∙ all_of_same (λ (p : Bytes). map decode (inner p)) (λ (p : Bytes). held (decode_message p)) holds ps ∙ sym (all_of_map held decode_message ps)

  held_decoded : map decode (all_of embedded ms) ≡ all_of held (messages_in (decode_set set))
  held_decoded =
      ap (map decode) (sym (all_of_map inner (row_bytes set) ms)) ∙ inner_decoded (map (row_bytes set) ms)
      ∙ ap (all_of held) (map-map decode_message (row_bytes set) ms ∙ messages_decoded set small)

  held_counted : length (all_of embedded ms) ≡ length (all_of held (messages_in (decode_set set)))
  held_counted = sym (map_length decode (all_of embedded ms)) ∙ ap length held_decoded

  -- they are fewer than the set has bytes
  pub members_fit : (number ≡ 3 → ⊥) → length (all_of held (messages_in (decode_set set))) ≤ 32767
  members_fit unlike =
      let e : length (all_of embedded ms) ≡ length (all_of inner (all_of (λ (p : Bytes). preorder (nest 16 (parts 4 (entries p)))) (parts 1 (entries set)))) =
      ap length
      (sym (all_of_map inner (row_bytes set) ms)
      ∙ ap (all_of inner)
      (rows_of_bytes set (file_forests 4 16 set) 0 0 ∙ ap (all_of preorder) (files_bytes 4 16 set small)
      ∙ all_of_map preorder (λ (p : Bytes). nest 16 (parts 4 (entries p))) (parts 1 (entries set)))) in
      let c = held_counted in
      let few = set_takes number unlike 16 set small in
      omega arith

  numbered_files : all_of (λ (m : Row). replicate (length (embedded m)) m.file) ms ≡ owners (λ (f : FileDescriptor). all_of held (file_messages f)) 0 (decode_set set)
  unfolding decode_set
  numbered_files =
      files_numbered 4 16 decode_message file_messages messages_declared set small inner
      ∙ owners_map (λ (p : Bytes). all_of inner (preorder (nest 16 (parts 4 (entries p))))) (λ (f : FileDescriptor). all_of held (file_messages f)) decode_file
      (λ p.
      let qs : List Bytes = preorder (nest 16 (parts 4 (entries p))) in
      sym (map_length decode (all_of inner qs)) ∙ ap length (inner_decoded qs ∙ ap (all_of held) (messages_declared p))) 0 (parts 1 (entries set))

  module _ (messages : List Row) (count : ℕ) (table : MessageTable set messages count) (i : ℕ) (fits : i + length (all_of held (messages_in (decode_set set))) ≤ 32767) where
    members_are : all_members set number messages count i ≡ member_rows set number 0 i ms
    unfolding all_members choose
    members_are =
        let c = held_counted in
        rw (le-ltb 32768 (length set) small, le-ltb 1024 count table.few)
        (ap (λ (k : ℕ). members set number messages k 0 i) table.counted ∙ members_listed set number messages ms 0 i table.there (omega arith))

    pub members_hold : HoldsMembers number decode held set messages count i
    members_hold =
        record {
          decoded =
              ap (map (λ (r : Row). decode (row_bytes set r))) members_are
              ∙ sym (map-map decode (row_bytes set) (member_rows set number 0 i ms))
              ∙ ap (map decode) (member_bytes set number ms 0 i)
              ∙ held_decoded;
          file = ap (map (λ (r : Row). r.file)) members_are ∙ member_file set number ms 0 i ∙ numbered_files;
          up =
              ap (map (λ (r : Row). r.up)) members_are ∙ member_up set number ms 0 i
              ∙ owners_map embedded held (decode_row set)
              (λ m. sym (map_length decode (embedded m)) ∙ ap length (holds (row_bytes set m))) 1 ms
              ∙ ap (owners held 1) (messages_decoded set small);
        }

-- fields (2), enums (4) and oneofs (8)

abbrev pub fields_of : MessageDescriptor → List FieldDescriptor
fields_of m = m.fields

abbrev pub enums_of : MessageDescriptor → List EnumDescriptor
enums_of m = m.enums

abbrev pub oneofs_of : MessageDescriptor → List (Option Bytes)
oneofs_of m = m.oneofs

module _ (set : List ℕ) (messages : List Row) (count : ℕ) (table : MessageTable set messages count) where
  pub fields_hold : HoldsMembers 2 decode_field fields_of set messages count 0
  unfolding decode_message
  fields_hold =
      let few = members_fit 2 decode_field fields_of (λ p. refl) set table.small (λ e. omega arith) in
      members_hold 2 decode_field fields_of (λ p. refl) set table.small messages count table 0 (omega arith)

  pub oneofs_hold : HoldsMembers 8 decode_oneof oneofs_of set messages count 0
  unfolding decode_message
  oneofs_hold =
      let few = members_fit 8 decode_oneof oneofs_of (λ p. refl) set table.small (λ e. omega arith) in
      members_hold 8 decode_oneof oneofs_of (λ p. refl) set table.small messages count table 0 (omega arith)

  -- behind the files' own: limit 5 counts both
  pub enums_hold : (i : ℕ) → i + length (all_of enums_of (messages_in (decode_set set))) ≤ 32767 → HoldsMembers 4 decode_enum enums_of set messages count i
  unfolding decode_message
  enums_hold i fits = members_hold 4 decode_enum enums_of (λ p. refl) set table.small messages count table i fits

  pub all_enums_decoded : (i : ℕ) → i + length (all_of enums_of (messages_in (decode_set set))) ≤ 32767
      → map (λ (r : Row). decode_enum (row_bytes set r)) (rows_of 0 0 (file_forests 5 1 set) ++ all_members set 4 messages count i) ≡ enums_in (decode_set set)
  unfolding enums_in
  all_enums_decoded i fits =
      map-append (λ (r : Row). decode_enum (row_bytes set r)) (rows_of 0 0 (file_forests 5 1 set)) (all_members set 4 messages count i)
      ∙ ap (λ (l : List EnumDescriptor). l ++ map (λ (r : Row). decode_enum (row_bytes set r)) (all_members set 4 messages count i)) (file_enums_hold set table.small).decoded
      ∙ ap (λ (l : List EnumDescriptor). all_of (λ (f : FileDescriptor). f.enums) (decode_set set) ++ l) (enums_hold i fits).decoded
