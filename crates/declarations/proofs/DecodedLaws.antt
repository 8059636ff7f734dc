-- The table of a set lists the declarations that its bytes hold. Assumes nothing.
use mathlib.Core.Path.{◌≡◌, refl, sym, ap, ◌∙◌}
use mathlib.Core.Bool.{true, false}
use mathlib.Core.List.{List, [], ◌∷◌, ◌++◌, map, append_assoc}
use Prim.Native.Nat.{ℕ, zero, suc, ◌+◌, ◌-◌, ◌≤◌, ◌<◌}
use native.Mathlib.Omega.{arith}
use lib.ListN.{length, set, length-append}
use borrow.Author.Tests.{ne_eqb}
use Rattle.base.specs.Choose.{choose}
use Rattle.descriptor.specs.Descriptor.{Bytes}
use Rattle.descriptor.specs.Decode.{decode_message, decode_messages, decode_enum}
use Rattle.declarations.specs.declared.places.Place.{Place}
use Rattle.name_rules.specs.Accessors.{text}
use Rattle.name_rules.specs.FullNames.{◌·◌, Entry, entries}
use Rattle.declarations.specs.Rows.{State, kind_number, bytes_at, places, push, push_message, declaration_row, declare_enums, declare_messages}
use Rattle.declarations.specs.Listed.{name_of, full, Listed, listed_row, listed_enums, listed_entries}
use Rattle.declarations.specs.declared.Declaration.{Declaration as Row}
use Rattle.declarations.specs.declared.Kind.TheVariants.{Enum, Message}
use Rattle.declarations.proofs.PartLaws.{places_are, message_name, enum_name}
use Rattle.declarations.proofs.GrownLaws.{Wide, Grown, grown_none, grown_more, grown_as, has, pushed, pushed_full}

pub entries_append : (file m : ℕ) (es fs : List Entry) → listed_entries file m (es ++ fs) ≡ listed_entries file m es ++ listed_entries file (m + length es) fs
unfolding listed_entries
entries_append file m [] fs = ap (λ (k : ℕ). listed_entries file k fs) (let z : m ≡ m + 0 = omega arith in z)
entries_append file m (e ∷ es) fs =
    ap (λ (l : List Listed). record { full = e.full; is_enumeration = false; number = m; file = file; fields = e.message.fields } ∷ l)
    (ap (λ (l : List Listed). listed_enums file e.full e.message.enums ++ l)
    (entries_append file (m + 1) es fs ∙ ap (λ (k : ℕ). listed_entries file (m + 1) es ++ listed_entries file k fs) (let z : m + 1 + length es ≡ m + suc (length es) = omega arith in z))
    ∙ sym (append_assoc (listed_enums file e.full e.message.enums) (listed_entries file (m + 1) es) (listed_entries file (m + suc (length es)) fs)))

module _ (bytes : Bytes) (cap file : ℕ) where
  -- one row, its scope known
  row_pushed : (r : Row) (x : State) (scope : Bytes) (m messages : ℕ) → Wide cap x → x.rows < cap → full bytes x.table r.up ≡ scope → r.up ≤ x.rows → messages ≡ x.messages + m
      → Grown bytes cap x (record { table = set x.table x.rows r; rows = x.rows + 1; messages = messages }) (listed_row bytes (scope · name_of bytes r) r) 1 m
  row_pushed r x scope m messages w free e h messages_is =
      grown_as bytes cap x _ _ _ 1 1 m m (pushed bytes cap x w free r h m messages messages_is) (ap (λ (s : Bytes). listed_row bytes (s · name_of bytes r) r) e) refl refl

  enum_shown : (up : ℕ) (p : Place) (full : Bytes)
      → listed_row bytes full (declaration_row bytes file up Enum p) ≡ record { full = full; is_enumeration = true; number = 0; file = file; fields = [] } ∷ []
  unfolding listed_row declaration_row kind_number choose
  enum_shown up p full = refl

  enum_listed : (up : ℕ) (p : Place) (scope : Bytes)
      → listed_row bytes (scope · name_of bytes (declaration_row bytes file up Enum p)) (declaration_row bytes file up Enum p)
      ≡ record { full = scope · text (decode_enum (bytes_at bytes p)).name; is_enumeration = true; number = 0; file = file; fields = [] } ∷ []
  enum_listed up p scope = rw (enum_name bytes p file up Enum) (enum_shown up p (scope · text (decode_enum (bytes_at bytes p)).name))

  message_shown : (up m : ℕ) (p : Place) (full : Bytes)
      → listed_row bytes full (declaration_row bytes file up (Message m) p)
      ≡ record { full = full; is_enumeration = false; number = m; file = file; fields = (decode_message (bytes_at bytes p)).fields } ∷ []
  unfolding listed_row declaration_row kind_number choose
  message_shown up m p full =
      let z : m + 2 - 2 ≡ m = omega arith in
      rw (ne_eqb (m + 2) 0 (λ e. omega arith), ne_eqb (m + 2) 1 (λ e. omega arith), z)

  message_listed : (up m : ℕ) (p : Place) (scope : Bytes)
      → listed_row bytes (scope · name_of bytes (declaration_row bytes file up (Message m) p)) (declaration_row bytes file up (Message m) p)
      ≡ record { full = scope · text (decode_message (bytes_at bytes p)).name; is_enumeration = false; number = m; file = file; fields = (decode_message (bytes_at bytes p)).fields } ∷ []
  message_listed up m p scope = rw (message_name bytes p file up (Message m)) (message_shown up m p (scope · text (decode_message (bytes_at bytes p)).name))

  pub enums_listed : (up : ℕ) (ps : List Place) (x : State) (scope : Bytes) → Wide cap x → full bytes x.table up ≡ scope → up ≤ x.rows
      → x.rows + length (listed_enums file scope (map decode_enum (map (bytes_at bytes) ps))) ≤ cap
      → Grown bytes cap x (declare_enums bytes file up ps x) (listed_enums file scope (map decode_enum (map (bytes_at bytes) ps)))
      (length (listed_enums file scope (map decode_enum (map (bytes_at bytes) ps)))) 0
  unfolding declare_enums listed_enums choose declaration_row
  enums_listed up [] x scope w e h room = grown_none bytes cap x w
  enums_listed up (p ∷ ps) x scope w e h room =
      let r : Row = declaration_row bytes file up Enum p in
      let ls : List Listed = listed_enums file scope (map decode_enum (map (bytes_at bytes) ps)) in
      let one : Grown bytes cap x (push r x) (listed_row bytes (scope · name_of bytes r) r) 1 0 = row_pushed r x scope 0 x.messages w (omega arith) e h (omega arith) in
      let rest : Grown bytes cap (push r x) (declare_enums bytes file up ps (push r x)) ls (length ls) 0 =
      enums_listed up ps (push r x) scope one.room (one.kept up h ∙ e) (omega arith) (omega arith) in
      rw (has bytes cap x w (omega arith) r h)
      (grown_as bytes cap x _ _ _ (1 + length ls) (suc (length ls)) (0 + 0) 0
      (grown_more bytes cap x (push r x) (declare_enums bytes file up ps (push r x)) (listed_row bytes (scope · name_of bytes r) r) ls 1 0 (length ls) 0 one rest)
      (ap (λ (l : List Listed). l ++ ls) (enum_listed up p scope)) (omega arith) (omega arith))

  -- messages
  abbrev messages_at : Bytes → ℕ → List Place → List Entry
  messages_at scope n ps = entries scope (decode_messages n (map (bytes_at bytes) ps))

  -- the entries of a message and those nested in it, and of those that follow
  entries_node : (scope : Bytes) (n : ℕ) (p : Place) (ps : List Place)
      → messages_at scope (suc n) (p ∷ ps)
      ≡ record { full = scope · text (decode_message (bytes_at bytes p)).name; message = decode_message (bytes_at bytes p) }
      ∷ (messages_at (scope · text (decode_message (bytes_at bytes p)).name) n (places bytes 3 p) ++ messages_at scope (suc n) ps)
  unfolding decode_messages entries
  entries_node scope n p ps = rw (places_are bytes 3 p)

  own_enums : (p : Place) → map decode_enum (map (bytes_at bytes) (places bytes 4 p)) ≡ (decode_message (bytes_at bytes p)).enums
  unfolding decode_message
  own_enums p = ap (map decode_enum) (places_are bytes 4 p)

  -- what is to be shown, for any table with room
  abbrev Lists : ℕ → ℕ → List Place → Bytes → Type 0
  Lists n up ps scope =
      (y : State) → Wide cap y → full bytes y.table up ≡ scope → up ≤ y.rows
      → y.rows + length (listed_entries file y.messages (messages_at scope n ps)) ≤ cap
      → Grown bytes cap y (declare_messages bytes file n up ps y) (listed_entries file y.messages (messages_at scope n ps))
      (length (listed_entries file y.messages (messages_at scope n ps))) (length (messages_at scope n ps))

  -- the same, the messages' number being known
  lists_at : (n up : ℕ) (ps : List Place) (scope : Bytes) → Lists n up ps scope → (y : State) (m : ℕ) → y.messages ≡ m → Wide cap y → full bytes y.table up ≡ scope → up ≤ y.rows
      → y.rows + length (listed_entries file m (messages_at scope n ps)) ≤ cap
      → Grown bytes cap y (declare_messages bytes file n up ps y) (listed_entries file m (messages_at scope n ps))
      (length (listed_entries file m (messages_at scope n ps))) (length (messages_at scope n ps))
  lists_at n up ps scope lists y m m_is w e h room =
      let same : listed_entries file y.messages (messages_at scope n ps) ≡ listed_entries file m (messages_at scope n ps) = ap (λ (k : ℕ). listed_entries file k (messages_at scope n ps)) m_is in
      grown_as bytes cap y _ _ _ _ _ _ _ (lists y w e h (rw same room)) same (ap length same) refl

  module _ (n up : ℕ) (p : Place) (ps : List Place) (x : State) (scope : Bytes) (w : Wide cap x) (e : full bytes x.table up ≡ scope) (h : up ≤ x.rows) where
    abbrev r : Row
    r = declaration_row bytes file up (Message x.messages) p

    abbrev scope₁ : Bytes
    scope₁ = scope · text (decode_message (bytes_at bytes p)).name

    abbrev inner : List Entry
    inner = messages_at scope₁ n (places bytes 3 p)

    abbrev after : List Entry
    after = messages_at scope (suc n) ps

    abbrev a : List Listed
    a = listed_row bytes (scope · name_of bytes r) r

    abbrev b : List Listed
    b = listed_enums file scope₁ (map decode_enum (map (bytes_at bytes) (places bytes 4 p)))

    abbrev c : List Listed
    c = listed_entries file (x.messages + 1) inner

    abbrev d : List Listed
    d = listed_entries file (x.messages + 1 + length inner) after

    parts_listed : listed_entries file x.messages (messages_at scope (suc n) (p ∷ ps)) ≡ a ++ (b ++ (c ++ d))
    unfolding listed_entries
    parts_listed =
        ap (listed_entries file x.messages) (entries_node scope n p ps)
        ∙ rw (message_listed up x.messages p scope, own_enums p, entries_append file (x.messages + 1) inner after)

    one_row : length a ≡ 1
    one_row = ap length (message_listed up x.messages p scope)

    lengths : length (a ++ (b ++ (c ++ d))) ≡ 1 + (length b + (length c + length d))
    lengths =
        let i = length-append a (b ++ (c ++ d)) in
        let j = length-append b (c ++ d) in
        let k = length-append c d in
        let l = one_row in
        omega arith

    entries_length : length (messages_at scope (suc n) (p ∷ ps)) ≡ 1 + (0 + (length inner + length after))
    entries_length = let q = ap length (entries_node scope n p ps) in let k = length-append inner after in omega arith

    node_listed : Lists n (x.rows + 1) (places bytes 3 p) scope₁ → Lists (suc n) up ps scope
        → x.rows + length (listed_entries file x.messages (messages_at scope (suc n) (p ∷ ps))) ≤ cap
        → Grown bytes cap x (declare_messages bytes file (suc n) up (p ∷ ps) x) (listed_entries file x.messages (messages_at scope (suc n) (p ∷ ps)))
        (length (listed_entries file x.messages (messages_at scope (suc n) (p ∷ ps)))) (length (messages_at scope (suc n) (p ∷ ps)))
    unfolding declare_messages choose declaration_row
    node_listed nested following room =
        let whole = ap length parts_listed in
        let sizes = lengths in
        let x₁ : State = push_message r x in
        let x₂ : State = declare_enums bytes file (x.rows + 1) (places bytes 4 p) x₁ in
        let x₃ : State = declare_messages bytes file n (x.rows + 1) (places bytes 3 p) x₂ in
        let x₄ : State = declare_messages bytes file (suc n) up ps x₃ in
        let free : x.rows < cap = omega arith in
        let g₁ : Grown bytes cap x x₁ a 1 1 = row_pushed r x scope 1 (x.messages + 1) w free e h refl in
        let full₁ : full bytes x₁.table (x.rows + 1) ≡ scope₁ =
        pushed_full bytes cap x w free r h ∙ ap (λ (s : Bytes). s · name_of bytes r) e ∙ ap (λ (s : Bytes). scope · s) (message_name bytes p file up (Message x.messages)) in
        let g₂ : Grown bytes cap x₁ x₂ b (length b) 0 = enums_listed (x.rows + 1) (places bytes 4 p) x₁ scope₁ g₁.room full₁ (omega arith) (omega arith) in
        let i = g₂.rows in
        let j = g₂.messages in
        let g₃ : Grown bytes cap x₂ x₃ c (length c) (length inner) =
        lists_at n (x.rows + 1) (places bytes 3 p) scope₁ nested x₂ (x.messages + 1) (omega arith) g₂.room (g₂.kept (x.rows + 1) (omega arith) ∙ full₁) (omega arith) (omega arith) in
        let k = g₃.rows in
        let l = g₃.messages in
        let g₄ : Grown bytes cap x₃ x₄ d (length d) (length after) =
        lists_at (suc n) up ps scope following x₃ (x.messages + 1 + length inner) (omega arith) g₃.room
        (g₃.kept up (omega arith) ∙ g₂.kept up (omega arith) ∙ g₁.kept up h ∙ e) (omega arith) (omega arith) in
        rw (has bytes cap x w free r h)
        (grown_as bytes cap x x₄ (a ++ (b ++ (c ++ d))) _ (1 + (length b + (length c + length d))) _ (1 + (0 + (length inner + length after))) _
        (grown_more bytes cap x x₁ x₄ a (b ++ (c ++ d)) 1 1 _ _ g₁
        (grown_more bytes cap x₁ x₂ x₄ b (c ++ d) (length b) 0 _ _ g₂ (grown_more bytes cap x₂ x₃ x₄ c d (length c) (length inner) (length d) (length after) g₃ g₄)))
        (sym parts_listed) (sym lengths ∙ sym whole) (sym entries_length))

  pub messages_listed : (n up : ℕ) (ps : List Place) (scope : Bytes) → Lists n up ps scope
  unfolding declare_messages listed_entries decode_messages entries
  messages_listed zero up ps scope x w e h room = grown_none bytes cap x w
  messages_listed (suc n) up [] scope x w e h room = grown_none bytes cap x w
  messages_listed (suc n) up (p ∷ ps) scope x w e h room =
      node_listed n up p ps x scope w e h (messages_listed n (x.rows + 1) (places bytes 3 p) (scope · text (decode_message (bytes_at bytes p)).name)) (messages_listed (suc n) up ps scope) room
