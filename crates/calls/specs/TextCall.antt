-- The text call as document 01 has it: a set, options, a file index and a text buffer give a length, or a refusal. Assumes nothing.
use Rattle.std.specs.Prelude.{ℕ, zero, suc, ◌&&◌, List, [], ◌∷◌, ◌++◌, ltb, leb, length, drop, Result, Ok, Err}
use Rattle.std.proofs.Math.Option.{none}
use Rattle.base.specs.Choose.{choose}
use Rattle.base.specs.Refusal.{returned, after}
use Rattle.base.specs.declared.refusal.Returned.{Returned}
use Rattle.base.specs.declared.refusal.Refusal.{Refusal}
use Rattle.base.specs.declared.refusal.Refusal.TheVariants.{FileIndex, Variants, BytesDefault, TextLength}
use Rattle.descriptor.specs.Descriptor.{Bytes, done, FileDescriptor}
use Rattle.descriptor.specs.Decode.{decode_set}
use Rattle.limits.specs.Answer.{read_set}
use Rattle.options.specs.Settings.{Setting, settings}
use Rattle.options.specs.Layout.{layout}
use Rattle.extern_checks.specs.Doubles.{externs}
use Rattle.name_rules.specs.Answer.{names}
use Rattle.code_generator.specs.Generate.{file_text}
use Rattle.code_generator.specs.Refusals.{variants_overlap, defaults_fail}

-- ---- the refusals behind those of the set and the options alone
-- 5: the file index, and how many files there are
unfoldable pub by_index : ℕ → ℕ → Result Unit Refusal
by_index file count = choose (ltb file count) (Ok tt) (Err (FileIndex count))

-- 10: a text of n bytes in a buffer with room for so many
abbrev pub max_text : ℕ
max_text = 65536

unfoldable pub by_room : ℕ → ℕ → Result ℕ Refusal
by_room room n = choose (leb n room && leb n max_text) (Ok n) (Err (TextLength n))

-- 8, 9 and 10 of a file
unfoldable pub by_text : List Setting → List FileDescriptor → ℕ → FileDescriptor → Result ℕ Refusal
by_text rs set room f =
    choose (variants_overlap rs f) (Err Variants)
    (choose (defaults_fail rs f) (Err BytesDefault)
    (by_room room (length (file_text rs set f))))

-- ---- the call
-- the file with the index; past the last one, which is refused, an empty one
abbrev pub no_file : FileDescriptor
no_file = record { package_name = none; syntax = none; messages = done; enums = [] }

abbrev pub file_at : List FileDescriptor → ℕ → FileDescriptor
file_at [] file = no_file
file_at (f ∷ fs) zero = f
file_at (f ∷ fs) (suc file) = file_at fs file

-- the text's length, or the first refusal in document 01's order; limit 1 comes before 3. room: the buffer's length
unfoldable pub text_answer : Bytes → Bytes → ℕ → ℕ → Result ℕ Refusal
text_answer set options file room =
    after (layout options)
    (after (externs (settings options))
    (after (read_set set)
    (after (by_index file (length (decode_set set)))
    (after (names (decode_set set))
    (by_text (settings options) (decode_set set) room (file_at (decode_set set) file))))))

-- number and place of that
unfoldable pub text_call : Bytes → Bytes → ℕ → ℕ → Returned
text_call set options file room = returned (text_answer set options file room)

-- the text that the call writes
abbrev pub call_text : Bytes → Bytes → ℕ → Bytes
call_text set options file = file_text (settings options) (decode_set set) (file_at (decode_set set) file)

-- what a call leaves in a buffer t: the text p and then t's own bytes, or, where it is refused, t
abbrev pub left_by : Result ℕ Refusal → List ℕ → List ℕ → List ℕ
left_by (Ok n) p t = p ++ drop (length p) t
left_by (Err x) p t = t

unfoldable pub text_left : Bytes → Bytes → ℕ → List ℕ → List ℕ
text_left set options file t = left_by (text_answer set options file (length t)) (call_text set options file) t
