-- Each declared place of an accepted set has a row of its own: its home and name are short and have no byte 0. Assumes nothing.
use Rattle.std.specs.Prelude.{ℕ, suc, ◌<◌, ◌≤◌, ◌≡◌, refl, Bool, true, false, ◌||◌, eqb, length}
use Rattle.std.proofs.Common.{sym, subst, ⊎_elim, arith, length-append, eqb-true}
use Rattle.std.proofs.Math.Option.{Option, some, none}
use mathlib.Core.List.{List, [], ◌∷◌, ◌++◌}
use Rattle.base.specs.Bytes.{b}
use Rattle.base.specs.Choose.{choose, choose_case}
use Rattle.base.specs.Lists.{is_empty, Every, every_append, every_to, every_left, every_right}
use Rattle.base.specs.Tests.{and_left, and_right}
use Rattle.writer.specs.Text.{pick}
use Rattle.heck.specs.Case.{between}
use Rattle.ident.specs.Name.{name_start, name_part, every, is_name}
use Rattle.ident.specs.Ident.{to_snake, to_upper_camel}
use Rattle.ident.proofs.EveryLaws.{every_cons}
use Rattle.ident.proofs.Sizes.{snake_fits, camel_fits}
use Rattle.ident.proofs.Written.{snake_written, camel_written}
use Rattle.descriptor.specs.Descriptor.{Bytes, Forest, done, node, preorder, EnumDescriptor, MessageDescriptor, FileDescriptor}
use Rattle.options.specs.Settings.{Setting}
use Rattle.extern_paths.specs.ExternPaths.{taken}
use Rattle.name_rules.specs.Accessors.{text}
use Rattle.name_rules.specs.FullNames.{◌·◌, package_scope}
use Rattle.name_rules.specs.Rules.{onto, segments}
use Rattle.name_rules.specs.WellFormed.{Name, Named, GoodEnum, GoodMessage, WellFormed}
use Rattle.path_fits.specs.PathsFit.{max_short_name, max_scope, EnumFits, OneofFits, PathsFit, FileFits}
use Rattle.code_generator.specs.Oneofs.{fields_at, OneofField, meets, oneofs_from, oneof_fields}
use Rattle.code_generator.specs.Generate.{has_module}
use Rattle.name_check.specs.NameCheck.{Place, oneof_places, enum_places, message_places, file_places}
use Rattle.name_rows.proofs.RowLaws.{Plain, every_plain, written_plain, Holds}

-- ---- no byte 0
pub plain_append : (x y : Bytes) → Plain x → Plain y → Plain (x ++ y)
plain_append [] y h k = k
plain_append (c ∷ x) y h k = (h.0, plain_append x y h.1 k)

pub name_plain : (s : Bytes) → is_name s ≡ true → Plain s
unfolding is_name name_start name_part between every
name_plain [] h = tt
name_plain (c ∷ s) h =
    let first : every name_start (c ∷ []) ≡ true = every_cons name_start c [] (and_left (name_start c) (every name_part s) h) refl in
    ((every_plain name_start refl (c ∷ []) first).0, every_plain name_part refl s (and_right (name_start c) (every name_part s) h))

-- a package
onto_plain : (c : ℕ) (xs : List Bytes) → Every Plain (onto c xs) → (0 < c) × Every Plain xs
onto_plain c [] h = (h.0.0, tt)
onto_plain c (x ∷ xs) h = (h.0.0, (h.0.1, h.1))

segments_plain : (s : Bytes) → Every Plain (segments s) → Plain s
unfolding segments choose
segments_plain [] h = tt
segments_plain (c ∷ s) h = on (eqb c 46) refl (segments_plain s) h
  where
    on : (t : Bool) → eqb c 46 ≡ t → (Every Plain (segments s) → Plain s) → Every Plain (choose t ([] ∷ segments s) (onto c (segments s))) → Plain (c ∷ s)
    on true e rest k = let z : c ≡ 46 = eqb-true c 46 e in (omega arith, rest k.1)
    on false e rest k = let r = onto_plain c (segments s) k in (r.0, rest r.1)

package_plain : (o : Option Bytes) → ((p : Bytes) → o ≡ some p → Every Name (segments p)) → Plain (package_scope o)
package_plain none h = tt
package_plain (some p) h = (omega arith, segments_plain p (every_to (λ s n. name_plain s n.identifier) (segments p) (h p refl)))

-- ---- one place
pub named_text : (o : Option Bytes) → Named o → is_name (text o) ≡ true
named_text o n = rw n.there n.good.identifier

-- a home in which a name of up to 106 bytes has room
record Roomy (home : Bytes) : Type 0 where
  plain : Plain home
  short : length home ≤ max_scope

module _ (home : Bytes) (h : Roomy home) where
  held : (name : Bytes) → Plain name → length name ≤ 106 → Holds (record { home = home; name = name })
  held name p l = let k = h.short in record { plain_home = h.plain; plain_name = p; short_home = k; fits = omega arith }

  module _ (o : Option Bytes) (named : Named o) (l : length (text o) ≤ max_short_name) where
    camel_held : Holds (record { home = home; name = to_upper_camel (text o) })
    camel_held =
        let k = camel_fits (text o) (named_text o named) l in
        held (to_upper_camel (text o)) (written_plain (to_upper_camel (text o)) (camel_written (text o))) (omega arith)

    snake_held : Holds (record { home = home; name = to_snake (text o) })
    snake_held = held (to_snake (text o)) (written_plain (to_snake (text o)) (snake_written (text o))) (snake_fits (text o) (named_text o named) l)

    inner : length (home · text o) ≤ max_scope → Roomy (home · text o)
    inner k = record { plain = plain_append home (46 ∷ text o) h.plain (omega arith, name_plain (text o) (named_text o named)); short = k }

    oneof_held : (conflict : Bool) → Holds (record { home = home; name = to_upper_camel (text o) ++ pick conflict (b "OneOf") [] })
    oneof_held conflict =
        held (to_upper_camel (text o) ++ pick conflict (b "OneOf") [])
        (plain_append (to_upper_camel (text o)) (pick conflict (b "OneOf") []) (written_plain (to_upper_camel (text o)) (camel_written (text o))) (ending conflict).0)
        (let k = camel_fits (text o) (named_text o named) l in
        let n = length-append (to_upper_camel (text o)) (pick conflict (b "OneOf") []) in
        let e = (ending conflict).1 in
        omega arith)
      where
        ending : (conflict : Bool) → Plain (pick conflict (b "OneOf") []) × (length (pick conflict (b "OneOf") []) ≤ 5)
        ending true = ((omega arith, (omega arith, (omega arith, (omega arith, (omega arith, tt))))), omega arith)
        ending false = (tt, omega arith)

-- ---- the places of a set
module _ (rs : List Setting) where
  enums_held : (home : Bytes) → Roomy home → (es : List EnumDescriptor) → Every GoodEnum es → Every (EnumFits home) es → Every Holds (enum_places rs home es)
  unfolding enum_places
  enums_held home h [] good fit = tt
  enums_held home h (e ∷ es) good fit =
      every_append Holds (choose (taken rs (home · text e.name)) [] (record { home = home; name = to_upper_camel (text e.name) } ∷ [])) (enum_places rs home es)
      (choose_case (Every Holds) (taken rs (home · text e.name)) (λ _. tt) (λ _. (camel_held home h e.name good.0.named fit.0.own.short, tt)))
      (enums_held home h es good.1 fit.1)

oneofs_held : (full : Bytes) → Roomy full → (m : MessageDescriptor) (nested : Forest MessageDescriptor) (i : ℕ) (ns : List (Option Bytes)) → Every Named ns → Every (OneofFits full m) ns
    → Every Holds (oneof_places full (oneofs_from m nested i ns))
unfolding oneofs_from
oneofs_held full h m nested i [] good fit = tt
oneofs_held full h m nested i (n ∷ ns) good fit =
    let rest = oneofs_held full h m nested (suc i) ns good.1 fit.1 in
    choose_case (λ (l : List OneofField). Every Holds (oneof_places full l)) (is_empty (fields_at i m.fields)) (λ _. rest)
    (λ _. (oneof_held full h n good.0 fit.0.own.short (meets m nested (text n)), rest))

module _ (rs : List Setting) where
  messages_held : (home : Bytes) → Roomy home → (F : Forest MessageDescriptor) → PathsFit home F → Every GoodMessage (preorder F) → Every Holds (message_places rs home F)
  unfolding message_places preorder
  messages_held home h done fit good = tt
  messages_held home h (node m nested following) fit good =
      let full = home · text m.name in
      let name = m.name in
      let named = good.0.named in
      let short = fit.0.own.short in
      let room = inner home h name named short fit.0.full in
      let inside = every_append Holds (message_places rs full nested) _ (messages_held full room nested fit.1.0 (every_left GoodMessage (preorder nested) (preorder following) good.1))
      (every_append Holds (enum_places rs full m.enums) _ (enums_held rs full room m.enums good.0.enums fit.0.enums)
      (oneofs_held full room m nested 0 m.oneofs good.0.oneofs fit.0.oneofs)) in
      let modules : List Place = choose (has_module m nested)
      (record { home = home; name = to_snake (text name) }
      ∷ (message_places rs full nested ++ (enum_places rs full m.enums ++ oneof_places full (oneof_fields m nested)))) [] in
      let module_held : Every Holds modules = choose_case (Every Holds) (has_module m nested) (λ _. (snake_held home h name named short, inside)) (λ _. tt) in
      let own : List Place = choose (m.map_entry || taken rs full) [] (record { home = home; name = to_upper_camel (text name) } ∷ modules) in
      let own_held : Every Holds own = choose_case (Every Holds) (m.map_entry || taken rs full) (λ _. tt) (λ _. (camel_held home h name named short, module_held)) in
      every_append Holds own (message_places rs home following) own_held
      (messages_held home h following fit.1.1 (every_right GoodMessage (preorder nested) (preorder following) good.1))

  file_held : (f : FileDescriptor) → FileFits f → WellFormed f → Every Holds (file_places rs f)
  unfolding file_places message_places enum_places
  file_held f fit good =
      every_append Holds (message_places rs scope f.messages) (enum_places rs scope f.enums) (⊎_elim (λ e. no_messages e.0) (λ r. messages_held scope (roomy r) f.messages fit.messages good.messages) fit.scope)
      (⊎_elim (λ e. no_enums e.1) (λ r. enums_held rs scope (roomy r) f.enums good.enums fit.enums) fit.scope)
    where
      scope : Bytes
      scope = package_scope f.package_name

      roomy : length scope ≤ max_scope → Roomy scope
      roomy r = record { plain = package_plain f.package_name good.package_names; short = r }

      no_messages : f.messages ≡ done → Every Holds (message_places rs scope f.messages)
      no_messages e = subst (λ (F : Forest MessageDescriptor). Every Holds (message_places rs scope F)) (sym e) tt

      no_enums : f.enums ≡ [] → Every Holds (enum_places rs scope f.enums)
      no_enums e = subst (λ (l : List EnumDescriptor). Every Holds (enum_places rs scope l)) (sym e) tt

  pub files_held : (fs : List FileDescriptor) → Every FileFits fs → Every WellFormed fs → Every (λ (f : FileDescriptor). Every Holds (file_places rs f)) fs
  files_held [] fit good = tt
  files_held (f ∷ fs) fit good = (file_held f fit.0 good.0, files_held fs fit.1 good.1)
