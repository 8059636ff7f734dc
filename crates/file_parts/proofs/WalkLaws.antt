-- A walk over messages or files with their numbers, and what comes of it. Assumes nothing.
use Rattle.std.proofs.Common.{◌≡◌, sym, ap, ◌∙◌, arith, ℕ, ◌+◌, ◌≤◌, ◌<◌, List, [], ◌∷◌}
use Rattle.descriptor.specs.Descriptor.{Bytes}
use Rattle.text_tables.specs.declared.MessageRow.{MessageRow}
use Rattle.file_parts.specs.Numbered.{NumberedSeen, Next}

-- what comes of those that are left, the first with a number, with what came so far, is what comes of all; a number and `more` are at most `most`
pub record Along {A : Type 0} (messages : List MessageRow) (more most : ℕ) (rest : ℕ → List Bytes → A) (whole : A) (s : NumberedSeen) : Type 0 where
  pub comes : rest s.number s.parts ≡ whole
  pub small : s.number + more ≤ most
  pub table : s.messages ≡ messages

module _ {A : Type 0} {messages : List MessageRow} {more most : ℕ} {rest : ℕ → List Bytes → A} {whole : A} {s : NumberedSeen} where
  pub along_start : {table : List MessageRow} {first : ℕ} {ps : List Bytes} → s ≡ record { messages = table; number = first; parts = ps } → table ≡ messages → first + more ≤ most
      → rest first ps ≡ whole → Along messages more most rest whole s
  along_start is same few comes = rw is (record { comes = comes; small = few; table = same })

  module _ (held : Along messages more most rest whole s) where
    -- nothing is left
    pub along_end : s.parts ≡ [] → rest s.number [] ≡ whole
    along_end ends = ap (rest s.number) (sym ends) ∙ held.comes

    -- one came, with its number
    pub along_here : {n : ℕ} {p : Bytes} {ps : List Bytes} → n ≡ s.number → s.parts ≡ p ∷ ps → rest n (p ∷ ps) ≡ whole
    along_here {p = p} {ps} numbered first = rw numbered (ap (rest s.number) (sym first) ∙ held.comes)

    pub along_on : (next : Next) {t : NumberedSeen} {n : ℕ} {p : Bytes} {rest' : ℕ → List Bytes → A} → (n ≡ s.number) × (s.parts ≡ p ∷ t.parts) × (t.number ≡ next s.messages s.number p) × (t.number < 65536) × (t.messages ≡ s.messages)
        → 65535 + more ≤ most → rest' (next messages n p) t.parts ≡ rest n (p ∷ t.parts) → Along messages more most rest' whole t
    along_on next {t} {n} {p} {rest'} step fits one =
        let number : t.number ≡ next messages n p = step.2 ∙ ap (λ (l : List MessageRow). next l s.number p) held.table ∙ ap (λ (k : ℕ). next messages k p) (sym step.0) in
        record {
          comes = ap (λ (k : ℕ). rest' k t.parts) number ∙ one ∙ along_here step.0 step.1;
          small = let b = step.3 in omega arith;
          table = step.4 ∙ held.table;
        }
