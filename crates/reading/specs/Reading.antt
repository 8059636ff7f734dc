-- How the reader of bytes goes through a text, from one point to another, and sees what the marked pieces show. Assumes nothing.
use Rattle.std.specs.Prelude.{ℕ, ◌≡◌, refl, Bool, true, false, List, [], ◌∷◌, ◌++◌, map}
use Rattle.std.proofs.Common.{sym, ap, ◌∙◌, append_assoc, append-nil}
use Rattle.std.proofs.lemmas.List.{map-append}
use Rattle.code_generator.specs.Piece.{Piece, Text, nothing, ◌⟫◌, when, either, ◌◃◌, Mark, mark, pieces}
use Rattle.sights.specs.Events.{Event, events, events_append}
use Rattle.sights.specs.Unmarked.{unmarked_event}
use Rattle.text_reader.specs.Symbols.{Symbol, char, piece_symbols, symbols_before}
use Rattle.text_reader.specs.Tokens.{Lexing, tokens_from}
use Rattle.text_reader.specs.Reader.{Body, At, read_tokens}

-- where the reader is, and what the pieces before have shown that it has not seen yet
pub record Point : Type 0 where
  pub bodies : List Body
  pub at : At
  pub lexing : Lexing
  pub owed : List Event

abbrev pub point : List Body → At → Lexing → Point
point bs q l = record { bodies = bs; at = q; lexing = l; owed = [] }

abbrev pub reads_on : Point → List Symbol → List Event
reads_on p s = read_tokens p.bodies p.at (tokens_from p.lexing s)

-- what pieces show, without marks
abbrev pub shown : List Piece → List Event
shown ps = map unmarked_event (events ps)

symbols_append : (ps qs : List Piece) (s : List Symbol) → symbols_before (ps ++ qs) s ≡ symbols_before ps (symbols_before qs s)
symbols_append [] qs s = refl
symbols_append (p ∷ ps) qs s = ap (λ (z : List Symbol). piece_symbols p ++ z) (symbols_append ps qs s)

shown_append : (ps qs : List Piece) → shown (ps ++ qs) ≡ shown ps ++ shown qs
shown_append ps qs = ap (map unmarked_event) (events_append ps qs) ∙ map-append unmarked_event (events ps) (events qs)

-- ---- from a point through a text to a point
pub record Reads (a : Point) (x : Text) (z : Point) : Type 0 where
  pub seen : List Event
  pub onward : (s : List Symbol) → reads_on a (symbols_before (pieces x) s) ≡ seen ++ reads_on z s
  pub complete : a.owed ++ shown (pieces x) ≡ seen ++ z.owed

infixl 60 ◌▸◌
pub ◌▸◌ : {a c e : Point} {x y : Text} → Reads a x c → Reads c y e → Reads a (x ⟫ y) e
◌▸◌ {a} {c} {e} {x} {y} p q =
    record {
      seen = p.seen ++ q.seen;
      onward = λ s.
          ap (reads_on a) (symbols_append (pieces x) (pieces y) s)
          ∙ p.onward (symbols_before (pieces y) s)
          ∙ ap (λ (z : List Event). p.seen ++ z) (q.onward s)
          ∙ sym (append_assoc p.seen q.seen (reads_on e s));
      complete =
          ap (λ (z : List Event). a.owed ++ z) (shown_append (pieces x) (pieces y))
          ∙ sym (append_assoc a.owed (shown (pieces x)) (shown (pieces y)))
          ∙ ap (λ (z : List Event). z ++ shown (pieces y)) p.complete
          ∙ append_assoc p.seen c.owed (shown (pieces y))
          ∙ ap (λ (z : List Event). p.seen ++ z) q.complete
          ∙ sym (append_assoc p.seen q.seen e.owed);
    }

-- nothing is read
pub still : {a : Point} → Reads a nothing a
still {a} = record { seen = []; onward = λ s. refl; complete = append-nil a.owed }

-- of another text with the same pieces
pub same_pieces : {a z : Point} {x y : Text} → pieces x ≡ pieces y → Reads a x z → Reads a y z
same_pieces {a} same p =
    record {
      seen = p.seen;
      onward = λ s. ap (λ (l : List Piece). reads_on a (symbols_before l s)) (sym same) ∙ p.onward s;
      complete = ap (λ (l : List Piece). a.owed ++ shown l) (sym same) ∙ p.complete;
    }

pub reads_when : (t : Bool) {a : Point} {x : Text} → Reads a x a → Reads a (when t x) a
reads_when true p = same_pieces refl p
reads_when false p = same_pieces refl still

-- grouped the other way
pub regrouped : {a e : Point} {x y z : Text} → Reads a (x ⟫ (y ⟫ z)) e → Reads a ((x ⟫ y) ⟫ z) e
regrouped {x = x} {y = y} {z = z} p = same_pieces (sym (append_assoc (pieces x) (pieces y) (pieces z))) p

-- the mark of a row stands behind its last text
pub mark_last : {a z : Point} {x y : Text} {m : Mark} → Reads a (x ⟫ (y ◃ m)) z → Reads a ((x ⟫ y) ◃ m) z
mark_last {x = x} {y = y} {m = m} p = same_pieces (sym (append_assoc (pieces x) (pieces y) (mark m ∷ []))) p

-- ---- up to a point that isn't one for all texts, but as good as one once a character of these follows
pub record Stop : Type 0 where
  pub bodies : List Body
  pub at : At
  pub lexing : Lexing
  pub ends : ℕ → Bool

abbrev pub stop_point : Stop → Point
stop_point g = point g.bodies g.at g.lexing

pub record Settled (g : Stop) (p : Point) : Type 0 where
  pub settles : (c : ℕ) → g.ends c ≡ true → (s : List Symbol) → reads_on p (char c ∷ s) ≡ p.owed ++ reads_on (stop_point g) (char c ∷ s)

pub record Ends (a : Point) (x : Text) (g : Stop) : Type 0 where
  pub end : Point
  pub reads : Reads a x end
  pub settled : Settled g end

pub settled_there : {g : Stop} → Settled g (stop_point g)
settled_there = record { settles = λ c e s. refl }

-- the stop itself
pub ends_there : {a : Point} {x : Text} {g : Stop} → Reads a x (stop_point g) → Ends a x g
ends_there {a} {x} {g} p = record { end = stop_point g; reads = p; settled = settled_there }

infixl 60 ◌▹▹◌
pub ◌▹▹◌ : {a c : Point} {x y : Text} {g : Stop} → Reads a x c → Ends c y g → Ends a (x ⟫ y) g
p ▹▹ q = record { end = q.end; reads = p ▸ q.reads; settled = q.settled }

-- from wherever a text ends
pub ends_then : {a : Point} {x y : Text} {g h : Stop} → Ends a x g → ((p : Point) → Settled g p → Ends p y h) → Ends a (x ⟫ y) h
ends_then p f =
    let q = f p.end p.settled in
    record { end = q.end; reads = p.reads ▸ q.reads; settled = q.settled }

module _ {g : Stop} {p : Point} (h : Settled g p) {c : ℕ} {rest : List Symbol → List Symbol} {y : Text}
    (starts : (s : List Symbol) → symbols_before (pieces y) s ≡ char c ∷ rest s) (e : g.ends c ≡ true) where
  -- a text that begins with such a character
  pub from_settled : {z : Point} → Reads (stop_point g) y z → Reads p y z
  from_settled {z} r =
      record {
        seen = p.owed ++ r.seen;
        onward = λ s.
            ap (reads_on p) (starts s)
            ∙ h.settles c e (rest s)
            ∙ ap (λ (l : List Symbol). p.owed ++ reads_on (stop_point g) l) (sym (starts s))
            ∙ ap (λ (l : List Event). p.owed ++ l) (r.onward s)
            ∙ sym (append_assoc p.owed r.seen (reads_on z s));
        complete = ap (λ (l : List Event). p.owed ++ l) r.complete ∙ sym (append_assoc p.owed r.seen z.owed);
      }

  pub ends_from : {k : Stop} → Ends (stop_point g) y k → Ends p y k
  ends_from r = record { end = r.end; reads = from_settled r.reads; settled = r.settled }

-- where nothing is written, what was settled stays so
pub stays : {g : Stop} {p : Point} → Settled g p → Ends p nothing g
stays {g} {p} h = record { end = p; reads = still; settled = h }

pub ends_as : {a : Point} {x y : Text} {g : Stop} → pieces x ≡ pieces y → Ends a x g → Ends a y g
ends_as same r = record { end = r.end; reads = same_pieces same r.reads; settled = r.settled }

pub ends_when : (t : Bool) {g : Stop} {p : Point} {x : Text} → Settled g p → Ends p x g → Ends p (when t x) g
ends_when true h r = ends_as refl r
ends_when false h r = ends_as refl (stays h)

pub ends_either : (t : Bool) {a : Point} {x y : Text} {g : Stop} → (t ≡ true → Ends a x g) → (t ≡ false → Ends a y g) → Ends a (either t x y) g
ends_either true f g = ends_as refl (f refl)
ends_either false f g = ends_as refl (g refl)

-- a text from a stop on
pub after : {a : Point} {x y : Text} {g : Stop} {z : Point} → Ends a x g → ((p : Point) → Settled g p → Reads p y z) → Reads a (x ⟫ y) z
after p f = p.reads ▸ f p.end p.settled
