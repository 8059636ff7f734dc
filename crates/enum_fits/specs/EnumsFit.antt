-- What it is that nothing of a set's enums is left out, and how long a variant's name can be. Assumes nothing.
use Rattle.std.specs.Prelude.{◌+◌, ◌≤◌, ◌≡◌, Bool, true, false, length}
use Rattle.std.proofs.Common.{arith}
use Rattle.std.proofs.Math.Path.{refl}
use mathlib.Core.List.{List, [], ◌∷◌}
use Rattle.base.specs.Lists.{all, Every}
use Rattle.base.specs.Tests.{and_both}
use Rattle.ident.specs.Ident.{to_upper_camel}
use Rattle.descriptor.specs.Descriptor.{Bytes, Forest, done, node, EnumDescriptor, MessageDescriptor, FileDescriptor}
use Rattle.options.specs.Settings.{Setting}
use Rattle.name_rules.specs.Accessors.{text}
use Rattle.name_rules.specs.FullNames.{◌·◌, package_scope}
use Rattle.path_fits.specs.Sizes.{camel_room, stripped_room}
use Rattle.code_generator.specs.Piece.{spelt, variant}
use Rattle.enum_text.specs.EnumText.{enum_fits}
use Rattle.enum_text.specs.Overlap.{meets_fully}

-- the enums of one scope
pub record EnumsWhole (rs : List Setting) (scope : Bytes) (es : List EnumDescriptor) : Type 0 where
  pub written : all (enum_fits scope) es ≡ true
  pub named : all (meets_fully rs scope) es ≡ true

-- those of each message of a forest
abbrev pub EnumsFit : List Setting → Bytes → Forest MessageDescriptor → Type 0
EnumsFit rs scope done = Unit {0}
EnumsFit rs scope (node m nested following) =
    EnumsWhole rs (scope · text m.name) m.enums × (EnumsFit rs (scope · text m.name) nested × EnumsFit rs scope following)

pub record FileEnumsFit (rs : List Setting) (f : FileDescriptor) : Type 0 where
  pub nested : EnumsFit rs (package_scope f.package_name) f.messages
  pub own : EnumsWhole rs (package_scope f.package_name) f.enums

-- ---- from the limits

pub every_all : {A : Type 0} (P : A → Type 0) (p : A → Bool) → ((x : A) → P x → p x ≡ true) → (xs : List A) → Every P xs → all p xs ≡ true
unfolding all
every_all P p f [] h = refl
every_all P p f (x ∷ xs) h = and_both (f x h.0) (every_all P p f xs h.1)

pub variant_room : (strip : Bool) (enum name : Bytes) → length (spelt (variant strip enum name)) ≤ length name + 20
variant_room true enum name = let h = stripped_room (to_upper_camel enum) (to_upper_camel name) in let k = camel_room name in omega arith
variant_room false enum name = let k = camel_room name in omega arith
