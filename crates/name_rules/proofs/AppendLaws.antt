-- What is declared by two lists, one after the other, and the fields of their messages. Assumes nothing.
use mathlib.Core.Path.{◌≡◌, refl, sym, ap, ◌∙◌}
use mathlib.Core.Bool.{Bool, ◌&&◌, ◌||◌}
use mathlib.Core.List.{List, [], ◌∷◌, ◌++◌, append_assoc}
use Rattle.std.proofs.Math.Bool.{or_assoc}
use Rattle.base.specs.Bytes.{same}
use Rattle.descriptor.specs.Descriptor.{Bytes, FieldDescriptor}
use Rattle.name_rules.specs.FullNames.{Declaration, declared, declared_as, equals, Entry, fields_of_entries}

pub declared_append : (x : Bytes) (ds es : List Declaration) → declared x (ds ++ es) ≡ (declared x ds || declared x es)
unfolding declared
declared_append x [] es = refl
declared_append x (d ∷ ds) es = ap (λ (b : Bool). same d.full x || b) (declared_append x ds es) ∙ sym (or_assoc (same d.full x) (declared x ds) (declared x es))

pub as_append : (e : Bool) (x : Bytes) (ds es : List Declaration) → declared_as e x (ds ++ es) ≡ (declared_as e x ds || declared_as e x es)
unfolding declared_as
as_append e x [] es = refl
as_append e x (d ∷ ds) es =
    ap (λ (b : Bool). (equals d.is_enumeration e && same d.full x) || b) (as_append e x ds es)
    ∙ sym (or_assoc (equals d.is_enumeration e && same d.full x) (declared_as e x ds) (declared_as e x es))

pub fields_append : (es fs : List Entry) → fields_of_entries (es ++ fs) ≡ fields_of_entries es ++ fields_of_entries fs
unfolding fields_of_entries
fields_append [] fs = refl
fields_append (e ∷ es) fs = ap (λ (l : List FieldDescriptor). e.message.fields ++ l) (fields_append es fs) ∙ sym (append_assoc e.message.fields (fields_of_entries es) (fields_of_entries fs))
