-- A text as a reader of bytes is given it: characters, and the values of options, each as one symbol. Assumes nothing.
use Rattle.std.specs.Prelude.{refl, ◌≡◌, ℕ, List, [], ◌∷◌, ◌++◌}
use Rattle.std.proofs.Common.{ap}
use Rattle.extern_paths.specs.ExternPaths.{extern_text}
use Rattle.descriptor.specs.Descriptor.{Bytes, FileDescriptor}
use Rattle.options.specs.Settings.{Setting}
use Rattle.code_generator.specs.Piece.{Piece, raw, opaque, extern, name, mod_open, decl_open, label, path, mark, written, pieces}
use Rattle.code_generator.specs.Generate.{generate}

pub data Symbol : Type 0 where
  char : ℕ → Symbol
  option_value : Bytes → Symbol

abbrev pub chars : Bytes → List Symbol
chars [] = []
chars (c ∷ cs) = char c ∷ chars cs

pub chars_append : (x y : Bytes) (s : List Symbol) → chars (x ++ y) ++ s ≡ chars x ++ (chars y ++ s)
chars_append [] y s = refl
chars_append (c ∷ x) y s = ap {B = List Symbol} (λ (l : List Symbol). char c ∷ l) (chars_append x y s)

-- what an extern path stands for is an option's value too
abbrev pub piece_symbols : Piece → List Symbol
piece_symbols (raw x) = chars x
piece_symbols (opaque v) = option_value v ∷ []
piece_symbols (extern xs) = option_value (extern_text xs) ∷ []
piece_symbols (name n) = chars (written (name n))
piece_symbols (mod_open n) = chars (written (mod_open n))
piece_symbols (decl_open r n) = chars (written (decl_open r n))
piece_symbols (label o n) = chars (written (label o n))
piece_symbols (path r w) = chars (written (path r w))
piece_symbols (mark m) = []

-- the symbols of these pieces, and others behind them
abbrev pub symbols_before : List Piece → List Symbol → List Symbol
symbols_before [] s = s
symbols_before (p ∷ ps) s = piece_symbols p ++ symbols_before ps s

abbrev pub text_symbols : List Setting → List FileDescriptor → FileDescriptor → List Symbol
text_symbols rs set f = symbols_before (pieces (generate rs set f)) []

-- symbols written out
abbrev pub written_out : List Symbol → Bytes
written_out [] = []
written_out (char c ∷ s) = c ∷ written_out s
written_out (option_value v ∷ s) = v ++ written_out s
