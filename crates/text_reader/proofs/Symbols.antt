-- A text's symbols written out are its bytes. Assumes nothing.
use Rattle.std.specs.Prelude.{refl, ◌≡◌, List, [], ◌∷◌, ◌++◌}
use Rattle.std.proofs.Common.{sym, ap, ◌∙◌, append_assoc, append-nil}
use Rattle.descriptor.specs.Descriptor.{Bytes, FileDescriptor}
use Rattle.options.specs.Settings.{Setting}
use Rattle.code_generator.specs.Piece.{Piece, raw, opaque, extern, name, mod_open, decl_open, label, path, mark, written, pieces, bytes_of, same_bytes}
use Rattle.code_generator.specs.Generate.{generate, file_text}
use Rattle.text_reader.specs.Symbols.{Symbol, chars, piece_symbols, symbols_before, text_symbols, written_out}

chars_out : (x : Bytes) (s : List Symbol) → written_out (chars x ++ s) ≡ x ++ written_out s
chars_out [] s = refl
chars_out (c ∷ x) s = ap {B = Bytes} (λ (l : Bytes). c ∷ l) (chars_out x s)

piece_out : (p : Piece) (s : List Symbol) → written_out (piece_symbols p ++ s) ≡ written p ++ written_out s
piece_out (raw x) s = chars_out x s
piece_out (opaque v) s = refl
piece_out (extern xs) s = refl
piece_out (name n) s = chars_out (written (name n)) s
piece_out (mod_open n) s = chars_out (written (mod_open n)) s
piece_out (decl_open r n) s = chars_out (written (decl_open r n)) s
piece_out (label o n) s = chars_out (written (label o n)) s
piece_out (path r w) s = chars_out (written (path r w)) s
piece_out (mark m) s = refl

pieces_out : (ps : List Piece) (s : List Symbol) → written_out (symbols_before ps s) ≡ bytes_of ps ++ written_out s
pieces_out [] s = refl
pieces_out (p ∷ ps) s =
    piece_out p (symbols_before ps s) ∙ ap (λ (l : Bytes). written p ++ l) (pieces_out ps s) ∙ sym (append_assoc (written p) (bytes_of ps) (written_out s))

-- what the reader of bytes is given is the text
pub text_out : (rs : List Setting) (set : List FileDescriptor) (f : FileDescriptor) → written_out (text_symbols rs set f) ≡ file_text rs set f
text_out rs set f =
    pieces_out (pieces (generate rs set f)) [] ∙ append-nil (bytes_of (pieces (generate rs set f))) ∙ same_bytes (generate rs set f)
