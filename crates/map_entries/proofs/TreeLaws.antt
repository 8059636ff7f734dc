-- The messages that a table was given are those nested in the set's messages. Assumes nothing.
use mathlib.Core.Path.{◌≡◌, refl, sym, ap, ◌∙◌}
use mathlib.Core.Bool.{Bool, true, false}
use mathlib.Core.List.{List, [], ◌∷◌, ◌++◌, map, append-nil, append_assoc}
use Prim.Native.Nat.{ℕ, zero, suc, ◌+◌, ◌≤◌}
use native.Mathlib.Numerals.{add-one}
use native.Mathlib.Omega.{arith}
use lib.ListN.{length, length-append}
use borrow.Author.Tests.{le-ltb}
use Rattle.base.specs.Choose.{choose, choose_case}
use Rattle.base.specs.Tests.{both_ways}
use Rattle.descriptor.specs.Descriptor.{Bytes, Forest, node, MessageDescriptor}
use Rattle.descriptor.specs.Decode.{decode_message, decode_messages}
use Rattle.declarations.specs.declared.places.Place.{Place}
use Rattle.name_rules.specs.Accessors.{text}
use Rattle.name_rules.specs.FullNames.{◌·◌, entries}
use Rattle.declarations.specs.Rows.{State, kind_number, bytes_at, room, push, push_message, places, declaration_row, declare_enums, declare_messages}
use Rattle.declarations.specs.Listed.{name_of, full}
use Rattle.declarations.specs.declared.Declaration.{Declaration as Row}
use Rattle.declarations.specs.declared.Kind.TheVariants.{Enum, Message}
use Rattle.declarations.proofs.PartLaws.{places_are, message_name}
use Rattle.map_entries.proofs.KeptLaws.{Kept, kept_push, room_before, enums_kept, messages_kept, kept_more}
use Rattle.map_entries.proofs.ShownLaws.{Shown, code_kind, shown_as, shown_messages, all_shown, kind_kept, full_kept, new_full, new_kind, new_shown, none_shown}

-- y shows these after what x shows, and has m messages more
pub record Grew (bytes : Bytes) (x y : State) (ss : List Shown) (m : ℕ) : Type 0 where
  pub shows : all_shown bytes y ≡ all_shown bytes x ++ ss
  pub count : y.messages ≡ x.messages + m

module _ (bytes : Bytes) (file : ℕ) where
  pub enums_shown : (up : ℕ) (ps : List Place) (x : State) → up ≤ x.rows → all_shown bytes (declare_enums bytes file up ps x) ≡ all_shown bytes x
  unfolding declare_enums declaration_row kind_number
  enums_shown up [] x h = refl
  enums_shown up (p ∷ ps) x h =
      let r : Row = declaration_row bytes file up Enum p in
      choose_case (λ (y : State). all_shown bytes y ≡ all_shown bytes x) (room x)
      (λ free. enums_shown up ps (push r x) (omega arith) ∙ new_shown bytes x r h free x.messages
      ∙ ap (λ (ss : List Shown). all_shown bytes x ++ ss) (none_shown bytes (full bytes x.table up · name_of bytes r) (code_kind x.table up) r (omega arith)) ∙ append-nil (all_shown bytes x))
      (λ _. refl)

  pub enums_messages : (up : ℕ) (ps : List Place) (x : State) → (declare_enums bytes file up ps x).messages ≡ x.messages
  unfolding declare_enums
  enums_messages up [] x = refl
  enums_messages up (p ∷ ps) x = choose_case (λ (y : State). y.messages ≡ x.messages) (room x) (λ _. enums_messages up ps (push (declaration_row bytes file up Enum p) x)) (λ _. refl)

  abbrev forest : ℕ → List Place → Forest MessageDescriptor
  forest n ps = decode_messages n (map (bytes_at bytes) ps)

  forest_node : (n : ℕ) (p : Place) (ps : List Place) → forest (suc n) (p ∷ ps) ≡ node (decode_message (bytes_at bytes p)) (forest n (places bytes 3 p)) (forest (suc n) ps)
  unfolding decode_messages
  forest_node n p ps = rw (places_are bytes 3 p)

  -- what is to be shown
  abbrev Shows : ℕ → ℕ → List Place → Bytes → ℕ → Type 0
  Shows n up ps scope parent =
      (y : State) → full bytes y.table up ≡ scope → code_kind y.table up ≡ parent → up ≤ y.rows → room (declare_messages bytes file n up ps y) ≡ true
      → Grew bytes y (declare_messages bytes file n up ps y) (shown_messages file y.messages parent scope (forest n ps)) (length (entries scope (forest n ps)))

  row_shown : (up m parent : ℕ) (p : Place) (full : Bytes)
      → shown_as bytes full parent (declaration_row bytes file up (Message m) p) ≡ record { full = full; entry = (decode_message (bytes_at bytes p)).map_entry; parent = parent; file = file } ∷ []
  unfolding shown_as declaration_row kind_number choose
  row_shown up m parent p full = rw (le-ltb (m + 2) 2 (omega arith))

  message_shown : (up m parent : ℕ) (p : Place) (scope : Bytes)
      → shown_as bytes (scope · name_of bytes (declaration_row bytes file up (Message m) p)) parent (declaration_row bytes file up (Message m) p)
      ≡ record { full = scope · text (decode_message (bytes_at bytes p)).name; entry = (decode_message (bytes_at bytes p)).map_entry; parent = parent; file = file } ∷ []
  message_shown up m parent p scope = rw (message_name bytes p file up (Message m)) (row_shown up m parent p (scope · text (decode_message (bytes_at bytes p)).name))

  module _ (n up : ℕ) (p : Place) (ps : List Place) (x : State) (scope : Bytes) (parent : ℕ)
      (e : full bytes x.table up ≡ scope) (k : code_kind x.table up ≡ parent) (h : up ≤ x.rows) where
    abbrev r : Row
    r = declaration_row bytes file up (Message x.messages) p

    abbrev scope₁ : Bytes
    scope₁ = scope · text (decode_message (bytes_at bytes p)).name

    abbrev x₁ : State
    x₁ = push_message r x

    abbrev x₂ : State
    x₂ = declare_enums bytes file (x.rows + 1) (places bytes 4 p) x₁

    abbrev x₃ : State
    x₃ = declare_messages bytes file n (x.rows + 1) (places bytes 3 p) x₂

    abbrev x₄ : State
    x₄ = declare_messages bytes file (suc n) up ps x₃

    abbrev F₃ : Forest MessageDescriptor
    F₃ = forest n (places bytes 3 p)

    abbrev F₄ : Forest MessageDescriptor
    F₄ = forest (suc n) ps

    abbrev s : Shown
    s = record { full = scope₁; entry = (decode_message (bytes_at bytes p)).map_entry; parent = parent; file = file }

    abbrev S₃ : List Shown
    S₃ = shown_messages file (x.messages + 1) (x.messages + 2) scope₁ F₃

    abbrev S₄ : List Shown
    S₄ = shown_messages file (x.messages + 1 + length (entries scope₁ F₃)) parent scope F₄

    node_shown : room x ≡ true → Shows n (x.rows + 1) (places bytes 3 p) scope₁ (x.messages + 2) → Shows (suc n) up ps scope parent → room x₄ ≡ true
        → Grew bytes x x₄ (shown_messages file x.messages parent scope (node (decode_message (bytes_at bytes p)) F₃ F₄)) (length (entries scope (node (decode_message (bytes_at bytes p)) F₃ F₄)))
    unfolding shown_messages entries declaration_row kind_number
    node_shown free nested following last =
        let k₁ : Kept x x₁ = kept_push x r (x.messages + 1) in
        let k₂ : Kept x₁ x₂ = enums_kept bytes file (x.rows + 1) (places bytes 4 p) x₁ in
        let k₃ : Kept x₂ x₃ = messages_kept bytes file n (x.rows + 1) (places bytes 3 p) x₂ in
        let k₄ : Kept x₃ x₄ = messages_kept bytes file (suc n) up ps x₃ in
        let i = k₂.rows in
        let j = k₃.rows in
        let full₁ : full bytes x₁.table (x.rows + 1) ≡ scope₁ =
        rw add-one (new_full bytes x r h free (x.messages + 1)) ∙ ap (λ (q : Bytes). q · name_of bytes r) e ∙ ap (λ (q : Bytes). scope · q) (message_name bytes p file up (Message x.messages)) in
        let kind₁ : code_kind x₁.table (x.rows + 1) ≡ x.messages + 2 = rw add-one (new_kind bytes x r h free (x.messages + 1)) in
        let m₂ : x₂.messages ≡ x.messages + 1 = enums_messages (x.rows + 1) (places bytes 4 p) x₁ in
        let g₃ = nested x₂ (full_kept bytes x₁ x₂ k₂ (x.rows + 1) (omega arith) ∙ full₁) (kind_kept bytes x₁ x₂ k₂ (x.rows + 1) (omega arith) ∙ kind₁) (omega arith) (room_before x₃ x₄ k₄ last) in
        let m₃ : x₃.messages ≡ x.messages + 1 + length (entries scope₁ F₃) = g₃.count ∙ ap (λ (q : ℕ). q + length (entries scope₁ F₃)) m₂ in
        let k₁₃ : Kept x x₃ = kept_more x x₁ x₃ k₁ (kept_more x₁ x₂ x₃ k₂ k₃) in
        let g₄ = following x₃ (full_kept bytes x x₃ k₁₃ up h ∙ e) (kind_kept bytes x x₃ k₁₃ up h ∙ k) (omega arith) last in
        let sizes = length-append (entries scope₁ F₃) (entries scope F₄) in
        let c₄ = g₄.count in
        let one : all_shown bytes x₁ ≡ all_shown bytes x ++ (s ∷ []) =
        new_shown bytes x r h free (x.messages + 1) ∙ rw (e, k) (ap (λ (ss : List Shown). all_shown bytes x ++ ss) (message_shown up x.messages parent p scope)) in
        let three : all_shown bytes x₃ ≡ (all_shown bytes x ++ (s ∷ [])) ++ S₃ =
        g₃.shows ∙ ap (λ (q : ℕ). all_shown bytes x₂ ++ shown_messages file q (x.messages + 2) scope₁ F₃) m₂
        ∙ ap (λ (ss : List Shown). ss ++ S₃) (enums_shown (x.rows + 1) (places bytes 4 p) x₁ (omega arith) ∙ one) in
        record {
          shows =
              g₄.shows ∙ ap (λ (q : ℕ). all_shown bytes x₃ ++ shown_messages file q parent scope F₄) m₃ ∙ ap (λ (ss : List Shown). ss ++ S₄) three
              ∙ append_assoc (all_shown bytes x ++ (s ∷ [])) S₃ S₄ ∙ append_assoc (all_shown bytes x) (s ∷ []) (S₃ ++ S₄);
          count = omega arith;
        }

    forest_shown : room x ≡ true → Shows n (x.rows + 1) (places bytes 3 p) scope₁ (x.messages + 2) → Shows (suc n) up ps scope parent → room x₄ ≡ true
        → Grew bytes x x₄ (shown_messages file x.messages parent scope (forest (suc n) (p ∷ ps))) (length (entries scope (forest (suc n) (p ∷ ps))))
    forest_shown free nested following last = rw (forest_node n p ps) (node_shown free nested following last)

  pub messages_shown : (n up : ℕ) (ps : List Place) (scope : Bytes) (parent : ℕ) → Shows n up ps scope parent
  unfolding declare_messages decode_messages shown_messages entries choose
  messages_shown zero up ps scope parent x e k h last = record { shows = sym (append-nil (all_shown bytes x)); count = omega arith }
  messages_shown (suc n) up [] scope parent x e k h last = record { shows = sym (append-nil (all_shown bytes x)); count = omega arith }
  messages_shown (suc n) up (p ∷ ps) scope parent x e k h last =
      by (room x) refl last (messages_shown n (x.rows + 1) (places bytes 3 p) (scope · text (decode_message (bytes_at bytes p)).name) (x.messages + 2)) (messages_shown (suc n) up ps scope parent)
    where
      by : (b : Bool) → room x ≡ b → room (choose b (x₄ n up p ps x scope parent e k h) x) ≡ true
          → Shows n (x.rows + 1) (places bytes 3 p) (scope · text (decode_message (bytes_at bytes p)).name) (x.messages + 2) → Shows (suc n) up ps scope parent
          → Grew bytes x (choose b (x₄ n up p ps x scope parent e k h) x) (shown_messages file x.messages parent scope (forest (suc n) (p ∷ ps))) (length (entries scope (forest (suc n) (p ∷ ps))))
      by true b_is l nested following = forest_shown n up p ps x scope parent e k h b_is nested following l
      by false b_is l nested following = both_ways l b_is
