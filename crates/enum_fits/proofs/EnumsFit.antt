-- In a set that passes none of the limits nothing of an enum is left out: `enum_fits` and `meets_fully` hold. Assumes nothing.
use Rattle.std.specs.Prelude.{ℕ, ◌≡◌, true, ◌||◌, length}
use Rattle.std.proofs.Common.{arith}
use Rattle.std.proofs.Math.Path.{refl}
use mathlib.Core.List.{List, [], ◌∷◌}
use borrow.Author.Tests.{le-leb}
use Rattle.base.specs.Lists.{all, any, Every, every_to}
use Rattle.base.specs.Tests.{and_left, and_right, and_both}
use Rattle.descriptor.specs.Descriptor.{Bytes, Forest, done, node, ValueDescriptor, EnumDescriptor, MessageDescriptor, FileDescriptor}
use Rattle.descriptor.specs.Decode.{decode_set}
use Rattle.descriptor.specs.Limits.{limit_passed}
use Rattle.options.specs.Settings.{Setting, strips_prefix}
use Rattle.name_rules.specs.Accessors.{text}
use Rattle.name_rules.specs.FullNames.{◌·◌, package_scope}
use Rattle.joined.specs.Joined.{max_path, fits}
use Rattle.path_fits.specs.PathsFit.{NameFits, EnumFits, PathsFit, FileFits}
use Rattle.path_fits.proofs.FitLaws.{set_fits}
use Rattle.code_generator.specs.Piece.{flat}
use Rattle.code_generator.specs.Enums.{append_enum, append_enums}
use Rattle.code_generator.specs.Refusals.{any_message, enum_overlaps, variants_overlap}
use Rattle.enum_text.specs.EnumText.{enum_fits, enum_text, enum_texts}
use Rattle.enum_text.specs.Overlap.{variant_name, has_room, enum_meets, meets_fully}
use Rattle.enum_text.proofs.EnumLaws.{enum_text_is, enum_texts_are}
use Rattle.enum_text.proofs.OverlapLaws.{enum_meets_is}
use Rattle.enum_fits.specs.EnumsFit.{EnumsWhole, EnumsFit, FileEnumsFit, every_all, variant_room}

module _ (scope : Bytes) (e : EnumDescriptor) (h : EnumFits scope e) where
  pub enum_fits_in : enum_fits scope e ≡ true
  unfolding enum_fits
  enum_fits_in =
      and_both h.own.room
      (and_both (le-leb (length e.values) 256 h.few)
      (every_all (λ (v : ValueDescriptor). NameFits (scope · text e.name) (text v.name)) (λ (v : ValueDescriptor). fits (scope · text e.name) (text v.name)) (λ v q. q.room) e.values h.values))

  module _ (rs : List Setting) where
    pub meets_fully_in : meets_fully rs scope e ≡ true
    unfolding meets_fully has_room variant_name
    meets_fully_in =
        and_both enum_fits_in
        (every_all (λ (v : ValueDescriptor). NameFits (scope · text e.name) (text v.name)) (has_room rs (text e.name))
        (λ v q.
        let s = q.short in
        let k = variant_room (strips_prefix rs) (text e.name) (text v.name) in
        le-leb (length (variant_name rs (text e.name) v)) max_path (omega arith)) e.values h.values)

    pub text_whole : (d : ℕ) → enum_text rs d scope e ≡ flat (append_enum rs d scope e)
    text_whole d = enum_text_is rs d scope e enum_fits_in

    pub meets_whole : enum_meets rs scope e ≡ enum_overlaps rs scope e
    meets_whole = enum_meets_is rs scope e meets_fully_in

module _ (rs : List Setting) where
  enums_whole : (scope : Bytes) (es : List EnumDescriptor) → Every (EnumFits scope) es → EnumsWhole rs scope es
  enums_whole scope es h =
      record {
        written = every_all (EnumFits scope) (enum_fits scope) (λ e q. enum_fits_in scope e q) es h;
        named = every_all (EnumFits scope) (meets_fully rs scope) (λ e q. meets_fully_in scope e q rs) es h;
      }

  forest_enums : (scope : Bytes) (F : Forest MessageDescriptor) → PathsFit scope F → EnumsFit rs scope F
  forest_enums scope done h = tt
  forest_enums scope (node m nested following) h =
      (enums_whole (scope · text m.name) m.enums h.0.enums, (forest_enums (scope · text m.name) nested h.1.0, forest_enums scope following h.1.1))

  pub set_enums_fit : (set : Bytes) → limit_passed set ≡ 0 → Every (FileEnumsFit rs) (decode_set set)
  set_enums_fit set h =
      every_to (λ (f : FileDescriptor) (q : FileFits f). record { nested = forest_enums (package_scope f.package_name) f.messages q.messages; own = enums_whole (package_scope f.package_name) f.enums q.enums })
      (decode_set set)
      (set_fits set h)

  -- ---- the enums of one scope: their text, and refusal 8

  pub texts_whole : (scope : Bytes) (es : List EnumDescriptor) → EnumsWhole rs scope es → (d : ℕ) → enum_texts rs d scope es ≡ flat (append_enums rs d scope es)
  texts_whole scope es h d = enum_texts_are rs d scope es h.written

  any_meets : (scope : Bytes) (es : List EnumDescriptor) → all (meets_fully rs scope) es ≡ true → any (enum_meets rs scope) es ≡ any (enum_overlaps rs scope) es
  unfolding all any
  any_meets scope [] h = refl
  any_meets scope (e ∷ es) h =
      rw (enum_meets_is rs scope e (and_left (meets_fully rs scope e) (all (meets_fully rs scope) es) h), any_meets scope es (and_right (meets_fully rs scope e) (all (meets_fully rs scope) es) h))

  pub overlaps_whole : (scope : Bytes) (es : List EnumDescriptor) → EnumsWhole rs scope es → any (enum_meets rs scope) es ≡ any (enum_overlaps rs scope) es
  overlaps_whole scope es h = any_meets scope es h.named

  -- ---- over the messages that are written, and over a file
  pub forest_overlaps : (scope : Bytes) (F : Forest MessageDescriptor) → EnumsFit rs scope F → any_message rs (λ full m nested. any (enum_meets rs full) m.enums) scope F ≡ any_message rs (λ full m nested. any (enum_overlaps rs full) m.enums) scope F
  unfolding any_message
  forest_overlaps scope done h = refl
  forest_overlaps scope (node m nested following) h =
      let full = scope · text m.name in
      rw (overlaps_whole full m.enums h.0, forest_overlaps full nested h.1.0, forest_overlaps scope following h.1.1)

  pub file_overlaps : (f : FileDescriptor) → FileEnumsFit rs f → (any_message rs (λ full m nested. any (enum_meets rs full) m.enums) (package_scope f.package_name) f.messages || any (enum_meets rs (package_scope f.package_name)) f.enums) ≡ variants_overlap rs f
  unfolding variants_overlap
  file_overlaps f h = rw (forest_overlaps (package_scope f.package_name) f.messages h.nested, overlaps_whole (package_scope f.package_name) f.enums h.own)
