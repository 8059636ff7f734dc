-- The scope of a file, of its package's bytes. Assumes nothing.
use Rattle.std.specs.Prelude.{◌≡◌, [], Some, None}
use Rattle.std.specs.Borrow.{Bor}
use Rattle.std.proofs.Common.{sym, ap, ◌∙◌}
use Rattle.std.specs.Prelude.{Option as Held}
use Rattle.descriptor.specs.Descriptor.{Bytes, FileHeader, file_header}
use Rattle.descriptor.specs.Decode.{decode_file}
use Rattle.descriptor.specs.Seen.{text_seen}
use Rattle.name_rules.specs.FullNames.{◌·◌, package_scope}

module _ (s : Bytes) (h : FileHeader) (v syntax : Held (Bor Bytes)) (seen : record { package_name = text_seen v; syntax = text_seen syntax } ≡ h) (is : h ≡ file_header (decode_file s)) where
  shown : package_scope (text_seen v) ≡ package_scope (decode_file s).package_name
  shown = ap (λ (f : FileHeader). package_scope f.package_name) (seen ∙ is)

  pub with_package : (name : Bor Bytes) → v ≡ Some name → [] · name.now ≡ package_scope (decode_file s).package_name
  with_package name e = ap (λ (w : Held (Bor Bytes)). package_scope (text_seen w)) (sym e) ∙ shown

  pub without_package : v ≡ None → [] ≡ package_scope (decode_file s).package_name
  without_package e = ap (λ (w : Held (Bor Bytes)). package_scope (text_seen w)) (sym e) ∙ shown
