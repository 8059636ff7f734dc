-- How long names, numbers, words and literals can be. Assumes nothing.
use Rattle.std.specs.Prelude.{◌≡◌, refl, Bool, true, false, ◌&&◌, List, [], ◌∷◌, ◌++◌, ℕ, zero, suc, ◌+◌, ◌*◌, ◌-◌, ◌/◌, ◌%◌, ◌^◌, ◌≤◌, leb, ltb, eqb, length, get_or}
use Rattle.std.proofs.Math.Option.{Option}
use Rattle.std.proofs.Common.{arith, length-append, leb-true}
use Rattle.base.specs.Choose.{choose_case}
use Rattle.base.specs.Tests.{and_left, and_right}
use Rattle.base.specs.Lists.{all}
use Rattle.base.specs.Each.{each}
use Rattle.base.specs.Steps.{Step, item, fault, on_step, steps, run, Run, items, broken, ◌then◌}
use Rattle.writer.specs.Text.{pick}
use Rattle.writer.specs.Decimal.{digits, decimal, signed}
use Rattle.heck.specs.declared.State.TheVariants.{Start}
use Rattle.heck.specs.Pass.{cased}
use Rattle.heck.proofs.Spelling.{snake_cased, camel_cased}
use Rattle.heck.proofs.Lengths.{snake_length, camel_length}
use Rattle.ident.specs.Ident.{addition, with_addition, sanitize_identifier, to_snake, to_upper_camel, strip_prefix, true_prefix, strip_enum_prefix}
use Rattle.ident.specs.declared.keywords.Addition.{Addition}
use Rattle.ident.specs.declared.keywords.Addition.TheVariants.{Nothing, Raw, Trailing, Leading}
use Rattle.utf8.specs.Utf8.{chars}
use Rattle.literal.specs.Escape.{hex_digit, hex_digits, letter, escape, unicode_escape, byte_escape, escape_char, escape_byte, escape_text, escape_bytes}
use Rattle.c_escaping.specs.Unescape.{unescaped}
use Rattle.field_types.specs.Types.{FieldType, types, no_type, type_at, tag_word, rust_word}
use Rattle.code_generator.specs.Piece.{Spelling, snake, camel, oneof_type, variant, spelt}

-- ---- names
sanitized_long : (y : List ℕ) → length (sanitize_identifier y) ≤ length y + 2
unfolding sanitize_identifier with_addition
sanitized_long y = on (addition y)
  where
    on : (a : Addition) → length (with_addition a y) ≤ length y + 2
    on Nothing = omega arith
    on Raw = omega arith
    on Trailing = let e = length-append y (95 ∷ []) in omega arith
    on Leading = omega arith

pub snake_long : (s : List ℕ) → length (to_snake s) ≤ 2 * length s + 2
unfolding to_snake
snake_long s = let h = snake_length s in let k = sanitized_long (cased false Start s) in rw (← snake_cased s) (omega arith)

pub camel_long : (s : List ℕ) → length (to_upper_camel s) ≤ length s + 2
unfolding to_upper_camel
camel_long s = let h = camel_length Start s in let k = sanitized_long (cased true Start s) in rw (← camel_cased s) (omega arith)

behind_long : (p s : List ℕ) (n : ℕ) → length s ≤ n → (name : List ℕ) → length name ≤ n → length (true_prefix (strip_prefix p s) name) ≤ n
unfolding strip_prefix true_prefix
behind_long [] s n h name k = choose_case (λ (l : List ℕ). length l ≤ n) _ (λ _. h) (λ _. k)
behind_long (p ∷ ps) [] n h name k = k
behind_long (p ∷ ps) (c ∷ s) n h name k =
    choose_case (λ (o : Option (List ℕ)). length (true_prefix o name) ≤ n) (eqb p c) (λ _. behind_long ps s n (omega arith) name k) (λ _. k)

strip_long : (prefix name : List ℕ) → length (strip_enum_prefix prefix name) ≤ length name + 2
unfolding strip_enum_prefix
strip_long prefix name =
    let h = sanitized_long (true_prefix (strip_prefix prefix name) name) in
    let k = behind_long prefix name (length name) (omega arith) name (omega arith) in
    omega arith

-- what a spelling is made of
abbrev pub said : Spelling → List ℕ
said (snake name) = name
said (camel name) = name
said (oneof_type conflict name) = name
said (variant strip enum name) = name

pub spelling_long : (x : Spelling) → length (spelt x) ≤ 2 * length (said x) + 7
spelling_long (snake name) = let h = snake_long name in omega arith
spelling_long (camel name) = let h = camel_long name in omega arith
spelling_long (oneof_type true name) = let h = camel_long name in let e = length-append (to_upper_camel name) (79 ∷ (110 ∷ (101 ∷ (79 ∷ (102 ∷ []))))) in omega arith
spelling_long (oneof_type false name) = let h = camel_long name in let e = length-append (to_upper_camel name) [] in omega arith
spelling_long (variant true enum name) = let h = strip_long (to_upper_camel enum) (to_upper_camel name) in let k = camel_long name in omega arith
spelling_long (variant false enum name) = let k = camel_long name in omega arith

-- ---- numbers
-- a digit behind so many
one_more : (k : ℕ) (x : ℕ) (l : List ℕ) → length l ≤ k → length (l ++ (x ∷ [])) ≤ suc k
one_more k x l h = let e = length-append l (x ∷ []) in omega arith

digits_long : (k n : ℕ) → length (digits k n) ≤ k
unfolding digits
digits_long zero n = omega arith
digits_long (suc k) n = one_more k (48 + n % 10) (pick (ltb n 10) [] (digits k (n / 10))) (chosen k (ltb n 10) (digits k (n / 10)) (digits_long k (n / 10)))
  where
    chosen : (k : ℕ) (c : Bool) (l : List ℕ) → length l ≤ k → length (pick c [] l) ≤ k
    chosen k true l h = omega arith
    chosen k false l h = h

pub decimal_long : (n : ℕ) → length (decimal n) ≤ 10
decimal_long n = digits_long 10 n

pub signed_long : (n : ℕ) → length (signed n) ≤ 11
unfolding signed
signed_long n = on (ltb n (2 ^ 31))
  where
    on : (c : Bool) → length (pick c (decimal n) (45 ∷ decimal (2 ^ 32 - n))) ≤ 11
    on true = let h = decimal_long n in omega arith
    on false = let h = decimal_long (2 ^ 32 - n) in omega arith

-- ---- words of the table of types
short : FieldType → Bool
short t = leb (length t.tag) 10 && leb (length t.rust) 10

short_at : (ts : List FieldType) (k : ℕ) → all short ts ≡ true → short (get_or ts k no_type) ≡ true
unfolding all short
short_at [] k h = refl
short_at (t ∷ ts) zero h = and_left (short t) (all short ts) h
short_at (t ∷ ts) (suc k) h = short_at ts k (and_right (short t) (all short ts) h)

pub tag_word_long : (k : ℕ) → length (tag_word k) ≤ 10
unfolding tag_word all short
tag_word_long k = leb-true _ 10 (and_left (leb (length (type_at k).tag) 10) (leb (length (type_at k).rust) 10) (short_at types k refl))

pub rust_word_long : (k : ℕ) → length (rust_word k) ≤ 10
unfolding rust_word all short
rust_word_long k = leb-true _ 10 (and_right (leb (length (type_at k).tag) 10) (leb (length (type_at k).rust) 10) (short_at types k refl))

-- ---- literals
each_long : (f : ℕ → List ℕ) (m : ℕ) → ((x : ℕ) → length (f x) ≤ m) → (xs : List ℕ) → length (each f xs) ≤ m * length xs
each_long f m h [] = omega arith
each_long f m h (x ∷ xs) = let e = length-append (f x) (each f xs) in let k = h x in let r = each_long f m h xs in omega arith

items_on : (k : ℕ) (x : Step) (g : ℕ → Run) → ((next : ℕ) → length (items (g next)) ≤ k) → length (items (on_step x broken (λ x next. x then g next))) ≤ suc k
unfolding on_step
items_on k (item x next) g h = let e = h next in omega arith
items_on k fault g h = omega arith

items_long : (f : ℕ → Step) (n k at : ℕ) → length (items (steps f n k at)) ≤ k
unfolding steps
items_long f n zero at = omega arith
items_long f n (suc k) at = choose_case (λ (r : Run). length (items r) ≤ suc k) (ltb at n) (λ _. items_on k (f at) (steps f n k) (items_long f n k)) (λ _. omega arith)

hex_long : (k n : ℕ) → length (hex_digits k n) ≤ k
unfolding hex_digits
hex_long zero n = omega arith
hex_long (suc k) n =
    choose_case (λ (l : List ℕ). length (l ++ (hex_digit n ∷ [])) ≤ suc k) (ltb n 16) (λ _. omega arith)
    (λ _. let h = hex_long k (n / 16) in let e = length-append (hex_digits k (n / 16)) (hex_digit n ∷ []) in omega arith)

escape_long : (c n : ℕ) (other : List ℕ) → 2 ≤ n → length other ≤ n → length (escape c other) ≤ n
unfolding escape
escape_long c n other two h =
    choose_case (λ (l : List ℕ). length l ≤ n) (eqb (letter c) 0)
    (λ _. choose_case (λ (l : List ℕ). length l ≤ n) (ltb c 0x20) (λ _. h) (λ _. choose_case (λ (l : List ℕ). length l ≤ n) (leb c 0x7E) (λ _. omega arith) (λ _. h)))
    (λ _. omega arith)

char_long : (c : ℕ) → length (escape_char c) ≤ 12
unfolding escape_char unicode_escape
char_long c = let h = hex_long 8 c in let e = length-append (hex_digits 8 c) (125 ∷ []) in escape_long c 12 _ (omega arith) (omega arith)

byte_long : (x : ℕ) → length (escape_byte x) ≤ 12
unfolding escape_byte byte_escape
byte_long x = escape_long x 12 _ (omega arith) (omega arith)

pub escape_text_long : (s : List ℕ) → length (escape_text s) ≤ 12 * length s
unfolding escape_text run
escape_text_long s = let h = each_long escape_char 12 char_long (chars s) in let k : length (chars s) ≤ length s - 0 = items_long _ (length s) (length s - 0) 0 in omega arith

pub escape_bytes_long : (s : List ℕ) → length (escape_bytes (unescaped s)) ≤ 144 * length s
unfolding escape_bytes run
escape_bytes_long s =
    let h = each_long escape_char 12 char_long (each escape_byte (unescaped s)) in
    let g = each_long escape_byte 12 byte_long (unescaped s) in
    let k : length (unescaped s) ≤ length s - 0 = items_long _ (length s) (length s - 0) 0 in
    omega arith
