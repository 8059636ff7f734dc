-- Tables that say what they should describe every message of a set. Assumes nothing.
use Prim.Native.Nat.{ℕ, suc, ◌+◌}
use Rattle.std.specs.Prelude.{◌≡◌, refl, Bool, true, false, List, [], ◌∷◌, length}
use Rattle.std.proofs.Common.{sym, ap, subst}
use Rattle.std.proofs.Math.Option.{Option, some, none}
use native.Mathlib.Omega.{arith}
use Rattle.base.specs.Choose.{choose}
use Rattle.base.specs.Lists.{Every, every_to, every_left, every_right}
use Rattle.base.specs.Tests.{both_ways}
use Rattle.descriptor.specs.Descriptor.{Bytes, Forest, done, node, preorder, FieldDescriptor, MessageDescriptor}
use Rattle.descriptor.specs.Decode.{decode_set}
use Rattle.options.specs.Settings.{Setting}
use Rattle.name_rules.specs.Accessors.{text}
use Rattle.name_rules.specs.FullNames.{◌·◌, Entry, set_entries}
use Rattle.name_rules.specs.WellFormed.{GoodField, GoodMessage}
use Rattle.text_tables.specs.declared.MessageRow.{MessageRow}
use Rattle.text_tables.specs.declared.FieldRow.{FieldRow}
use Rattle.context_laws.specs.At.{At}
use Rattle.context_laws.specs.At.At.{first, next}
use Rattle.context_laws.specs.Rows.{first_row}
use Rattle.context_laws.proofs.Rows.{row_of}
use Rattle.path_fits.specs.PathsFit.{PathsFit}
use Rattle.table_says.specs.Says.{boxed_by_row, Numbered, NodeSays, Says}
use Rattle.code_generator.specs.Oneofs.{is_plain}
use Rattle.text_laws.specs.Described.{Below, From, FieldIs, MessageIs, Described}

-- ---- lists

from_places : (P : ℕ → FieldDescriptor → Type 0) (k : ℕ) (fs : List FieldDescriptor) → ((f : FieldDescriptor) (j : ℕ) → At f fs j → P (k + j) f) → From P k fs
from_places P k [] h = tt
from_places P k (f ∷ fs) h = (
  subst (λ (n : ℕ). P n f) (let e : k + 0 ≡ k = omega arith in e) (h f 0 (first refl)),
  from_places P (suc k) fs (λ g j p. subst (λ (n : ℕ). P n g) (let e : k + suc j ≡ suc k + j = omega arith in e) (h g (suc j) (next p))),
)

-- ---- a oneof's index is below the count of oneofs (refusal 6)

in_its_oneof : (optional : Bool) (o : Option ℕ) (i : ℕ) → choose optional none o ≡ some i → o ≡ some i
unfolding choose
in_its_oneof false o i e = e
in_its_oneof true o i e = both_ways refl (ap is_plain e)

below : (n : ℕ) (f : FieldDescriptor) → GoodField n f → Below n f
below n f good i e = (good.in_oneof i (in_its_oneof f.proto3_optional f.oneof_index i e)).0

module _ (rs : List Setting) (set : List ℕ) (messages : List MessageRow) (t : List FieldRow) (says : Says rs set messages t) where
  abbrev es : List Entry
  es = set_entries (decode_set set)

  module _ (full : Bytes) (m : MessageDescriptor) (nested : Forest MessageDescriptor) (i : ℕ) (node_says : NodeSays set messages t full m nested i) where
    field_is : (f : FieldDescriptor) (j : ℕ) → At f m.fields j → FieldIs rs set messages t full nested (first_row es i + j) f
    field_is f j p =
        let row = row_of node_says.at p in
        let said = says.field _ _ row in
        let lies = says.lies _ _ row in
        record {
          there = lies.there;
          oneof = lies.oneof;
          copy = said.copy;
          eq = said.eq;
          boxed = boxed_by_row said;
          map_entry = node_says.map_entry f j p;
        }

    message_is : GoodMessage m → MessageIs rs set messages t full m nested i
    message_is good =
        let said = says.message _ i node_says.at in
        record {
          copy = said.copy;
          eq = said.eq;
          fields = rw said.first (from_places (FieldIs rs set messages t full nested) (first_row es i) m.fields field_is);
          below = every_to (below (length m.oneofs)) m.fields good.fields;
        }

  pub described : (scope : Bytes) (i : ℕ) (F : Forest MessageDescriptor) → Numbered (NodeSays set messages t) scope i F → PathsFit scope F → Every GoodMessage (preorder F) → Described rs set messages t scope i F
  unfolding preorder
  described scope i done numbered fit good = tt
  described scope i (node m nested following) numbered fit good =
      let full = scope · text m.name in (
        (fit.0, message_is full m nested i numbered.0 good.0),
        (
          described full (suc i) nested (subst (λ (n : ℕ). Numbered (NodeSays set messages t) full n nested) (let e : i + 1 ≡ suc i = omega arith in e) numbered.1.0) fit.1.0
              (every_left GoodMessage (preorder nested) (preorder following) good.1),
          described scope _ following (subst (λ (n : ℕ). Numbered (NodeSays set messages t) scope n following) (sym numbered.0.after) numbered.1.1) fit.1.1
              (every_right GoodMessage (preorder nested) (preorder following) good.1),
        ),
      )
