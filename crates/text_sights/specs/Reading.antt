-- How texts are read one after another: what is open before and behind each, and what is seen in it. Assumes nothing.
use Rattle.std.specs.Prelude.{◌≡◌, Bool, true, false, ◌&&◌, List, [], ◌∷◌, ◌++◌}
use Rattle.std.proofs.Math.Path.{refl}
use Rattle.std.proofs.Common.{sym, ap, ◌∙◌, append_assoc, append-nil}
use Rattle.base.specs.Choose.{choose}
use Rattle.base.specs.Tests.{and_left, and_right, both_ways}
use Rattle.descriptor.specs.Descriptor.{Bytes}
use Rattle.code_generator.specs.Piece.{Piece, raw, opaque, extern, name, mod_open, decl_open, label, path, mark, Mark, comma, close, block_open, tag_open, tag_close, wrap_close, wrap_open, Text, nothing, piece, ◌⟫◌, when, either, ◌▹◌, ◌◃◌, pieces}
use Rattle.sights.specs.Events.{Event, events, events_append, mark_event}
use Rattle.sights.specs.Sights.{Sight, Frame, in_block, in_tag, in_wrap, closed, box_seen, read}

-- ---- texts in which nothing is seen
abbrev pub is_quiet_piece : Piece → Bool
is_quiet_piece (raw x) = true
is_quiet_piece (opaque x) = true
is_quiet_piece (extern xs) = true
is_quiet_piece (name n) = true
is_quiet_piece (mod_open n) = false
is_quiet_piece (decl_open r n) = false
is_quiet_piece (label o n) = false
is_quiet_piece (path r w) = false
is_quiet_piece (mark m) = false

abbrev pub is_quiet : Text → Bool
is_quiet nothing = true
is_quiet (piece p) = is_quiet_piece p
is_quiet (x ⟫ y) = is_quiet x && is_quiet y
is_quiet (when c x) = is_quiet x
is_quiet (either c x y) = is_quiet x && is_quiet y
is_quiet (m ▹ x) = false
is_quiet (x ◃ m) = false

pub record Quiet (x : Text) : Type 0 where
  pub none : events (pieces x) ≡ []

pub quiet_then : {x y : Text} → Quiet x → Quiet y → Quiet (x ⟫ y)
quiet_then {x} {y} p q = record { none = events_append (pieces x) (pieces y) ∙ rw (p.none, q.none) refl }

pub quiet_when : (c : Bool) {x : Text} → Quiet x → Quiet (when c x)
quiet_when true p = record { none = p.none }
quiet_when false p = record { none = refl }

pub quiet_either : (c : Bool) {x y : Text} → Quiet x → Quiet y → Quiet (either c x y)
quiet_either true p q = record { none = p.none }
quiet_either false p q = record { none = q.none }

quiet_piece : (p : Piece) → is_quiet_piece p ≡ true → Quiet (piece p)
quiet_piece (raw x) h = record { none = refl }
quiet_piece (opaque x) h = record { none = refl }
quiet_piece (extern xs) h = record { none = refl }
quiet_piece (name n) h = record { none = refl }
quiet_piece (mod_open n) h = both_ways h refl
quiet_piece (decl_open r n) h = both_ways h refl
quiet_piece (label o n) h = both_ways h refl
quiet_piece (path r w) h = both_ways h refl
quiet_piece (mark m) h = both_ways h refl

pub quiet : (x : Text) → is_quiet x ≡ true → Quiet x
quiet nothing h = record { none = refl }
quiet (piece p) h = quiet_piece p h
quiet (x ⟫ y) h = quiet_then (quiet x (and_left (is_quiet x) (is_quiet y) h)) (quiet y (and_right (is_quiet x) (is_quiet y) h))
quiet (when c x) h = quiet_when c (quiet x h)
quiet (either c x y) h = quiet_either c (quiet x (and_left (is_quiet x) (is_quiet y) h)) (quiet y (and_right (is_quiet x) (is_quiet y) h))
quiet (m ▹ x) h = both_ways h refl
quiet (x ◃ m) h = both_ways h refl

-- ---- read with fs open, a text shows ss, and leaves gs open
pub record Reads (base : List Bytes) (fs : List Frame) (x : Text) (gs : List Frame) (ss : List Sight) : Type 0 where
  pub reads : (rest : List Event) → read base fs (events (pieces x) ++ rest) ≡ ss ++ read base gs rest

-- what a mark leaves open, and what is seen by it
abbrev pub after_mark : Mark → List Frame → List Frame
after_mark comma fs = closed fs
after_mark close fs = closed fs
after_mark block_open fs = in_block ∷ fs
after_mark tag_open fs = in_tag ∷ fs
after_mark tag_close fs = closed fs
after_mark wrap_close fs = closed fs
after_mark (wrap_open w) fs = in_wrap w ∷ fs

abbrev pub mark_sights : Mark → List Frame → List Sight
mark_sights comma fs = []
mark_sights close fs = []
mark_sights block_open fs = []
mark_sights tag_open fs = []
mark_sights tag_close fs = []
mark_sights wrap_close fs = []
mark_sights (wrap_open w) fs = box_seen w fs

mark_read : (base : List Bytes) (m : Mark) (fs : List Frame) (rest : List Event) → read base fs (mark_event m ∷ rest) ≡ mark_sights m fs ++ read base (after_mark m fs) rest
mark_read base comma fs rest = refl
mark_read base close fs rest = refl
mark_read base block_open fs rest = refl
mark_read base tag_open fs rest = refl
mark_read base tag_close fs rest = refl
mark_read base wrap_close fs rest = refl
mark_read base (wrap_open w) fs rest = refl

infixl 60 ◌then◌
infixl 60 ◌then_quiet◌
infixl 60 ◌then_closed◌
module _ {base : List Bytes} where
  pub silent : {fs : List Frame} {x : Text} → Quiet x → Reads base fs x fs []
  silent q = record { reads = λ rest. rw q.none refl }

  pub ◌then◌ : {fs gs hs : List Frame} {x y : Text} {ss ts : List Sight} → Reads base fs x gs ss → Reads base gs y hs ts → Reads base fs (x ⟫ y) hs (ss ++ ts)
  ◌then◌ {fs} {gs} {hs} {x} {y} {ss} {ts} p q =
      record {
        reads = λ rest.
            ap (read base fs) (ap (λ (l : List Event). l ++ rest) (events_append (pieces x) (pieces y)) ∙ append_assoc (events (pieces x)) (events (pieces y)) rest)
            ∙ p.reads (events (pieces y) ++ rest)
            ∙ ap (λ (l : List Sight). ss ++ l) (q.reads rest)
            ∙ sym (append_assoc ss ts (read base hs rest));
      }

  -- with nothing seen behind it
  pub ◌then_quiet◌ : {fs gs : List Frame} {x y : Text} {ss : List Sight} → Reads base fs x gs ss → Quiet y → Reads base fs (x ⟫ y) gs ss
  ◌then_quiet◌ {fs} {gs} {x} {y} {ss} p q =
      record {
        reads = λ rest.
            ap (λ (l : List Event). read base fs (l ++ rest)) (events_append (pieces x) (pieces y) ∙ ap (λ (l : List Event). events (pieces x) ++ l) q.none ∙ append-nil (events (pieces x)))
            ∙ p.reads rest;
      }

  pub seen_as : {fs gs : List Frame} {x : Text} {ss ts : List Sight} → ss ≡ ts → Reads base fs x gs ss → Reads base fs x gs ts
  seen_as {gs = gs} e p = record { reads = λ rest. p.reads rest ∙ ap (λ (l : List Sight). l ++ read base gs rest) e }

  -- nor by what closes behind it
  pub ◌then_closed◌ : {fs gs hs : List Frame} {x y : Text} {ss : List Sight} → Reads base fs x gs ss → Reads base gs y hs [] → Reads base fs (x ⟫ y) hs ss
  ◌then_closed◌ {ss = ss} p q = seen_as (append-nil ss) (◌then◌ p q)

  pub when_true : {fs gs : List Frame} {x : Text} {ss : List Sight} → Reads base fs x gs ss → Reads base fs (when true x) gs ss
  when_true p = record { reads = p.reads }

  pub either_true : {fs gs : List Frame} {x y : Text} {ss : List Sight} → Reads base fs x gs ss → Reads base fs (either true x y) gs ss
  either_true p = record { reads = p.reads }

  pub reads_when : (c : Bool) {fs : List Frame} {x : Text} {ss : List Sight} → Reads base fs x fs ss → Reads base fs (when c x) fs (choose c ss [])
  unfolding choose
  reads_when true p = record { reads = p.reads }
  reads_when false p = record { reads = λ rest. refl }

  pub reads_either : (c : Bool) {fs gs : List Frame} {x y : Text} {ss ts : List Sight} → Reads base fs x gs ss → Reads base fs y gs ts
      → Reads base fs (either c x y) gs (choose c ss ts)
  unfolding choose
  reads_either true p q = record { reads = p.reads }
  reads_either false p q = record { reads = q.reads }

  -- the same is seen in both
  pub reads_both : (c : Bool) {fs gs : List Frame} {x y : Text} {ss : List Sight} → Reads base fs x gs ss → Reads base fs y gs ss → Reads base fs (either c x y) gs ss
  reads_both true p q = record { reads = p.reads }
  reads_both false p q = record { reads = q.reads }

  pub mark_before : {fs gs : List Frame} {x : Text} {ss : List Sight} (m : Mark) → Reads base (after_mark m fs) x gs ss → Reads base fs (m ▹ x) gs (mark_sights m fs ++ ss)
  mark_before {fs} {gs} {x} {ss} m p =
      record {
        reads = λ rest.
            mark_read base m fs (events (pieces x) ++ rest)
            ∙ ap (λ (l : List Sight). mark_sights m fs ++ l) (p.reads rest)
            ∙ sym (append_assoc (mark_sights m fs) ss (read base gs rest));
      }

  pub mark_behind : {fs gs : List Frame} {x : Text} {ss : List Sight} (m : Mark) → Reads base fs x gs ss → Reads base fs (x ◃ m) (after_mark m gs) (ss ++ mark_sights m gs)
  mark_behind {fs} {gs} {x} {ss} m p =
      record {
        reads = λ rest.
            ap (read base fs) (ap (λ (l : List Event). l ++ rest) (events_append (pieces x) (mark m ∷ [])) ∙ append_assoc (events (pieces x)) (mark_event m ∷ []) rest)
            ∙ p.reads (mark_event m ∷ rest)
            ∙ ap (λ (l : List Sight). ss ++ l) (mark_read base m gs rest)
            ∙ sym (append_assoc ss (mark_sights m gs) (read base (after_mark m gs) rest));
      }

  -- a mark by which nothing is seen
  pub quiet_mark : {fs gs : List Frame} {x : Text} {ss : List Sight} (m : Mark) → mark_sights m gs ≡ [] → Reads base fs x gs ss → Reads base fs (x ◃ m) (after_mark m gs) ss
  quiet_mark {ss = ss} m e p = seen_as (ap (λ (l : List Sight). ss ++ l) e ∙ append-nil ss) (mark_behind m p)
