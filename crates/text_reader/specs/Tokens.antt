-- Tokens of Rust: words, signs, quotes, and options' values. Blanks and comments fall away; in a string, `\` takes the next character with it. Assumes nothing.
use Rattle.std.specs.Prelude.{ℕ, Bool, ◌||◌, List, [], ◌∷◌, ◌++◌, ◌==◌}
use Prim.Native.Char.{Char, code as code_of}
use Rattle.base.specs.Choose.{choose}
use Rattle.ident.specs.Name.{name_part}
use Rattle.descriptor.specs.Descriptor.{Bytes}
use Rattle.text_reader.specs.Symbols.{Symbol, char, option_value}

-- is it this character?
abbrev pub is_char : Char → ℕ → Bool
is_char x c = c == code_of x

-- inside a string too, what stands there is words and signs
pub data Token : Type 0 where
  word : Bytes → Token
  sign : ℕ → Token
  quote value : Token

-- where the characters have led to: in code, in a word there, in a string, in a word there; behind `\`, behind one `/`, in a comment
pub data Lexing : Type 0 where
  code : Lexing
  code_word : Bytes → Lexing
  string : Lexing
  string_word : Bytes → Lexing
  escape slash comment : Lexing

-- what one symbol gives
pub record Taken : Type 0 where
  pub tokens : List Token
  pub next : Lexing

abbrev gives : List Token → Lexing → Taken
gives ts l = record { tokens = ts; next = l }

-- with a token in front
abbrev behind : Token → Taken → Taken
behind t x = record { tokens = t ∷ x.tokens; next = x.next }

-- a blank or the end of a line
abbrev pub is_blank : ℕ → Bool
is_blank c = is_char " " c || is_char "\n" c

-- `#` belongs to a word that has begun, as in `r#type`
abbrev pub goes_on : ℕ → Bool
goes_on c = name_part c || is_char "#" c

abbrev pub in_code : ℕ → Taken
in_code c =
    choose (name_part c) (gives [] (code_word (c ∷ [])))
    (choose (is_blank c) (gives [] code)
    (choose (is_char "\"" c) (gives (quote ∷ []) string)
    (choose (is_char "/" c) (gives [] slash) (gives (sign c ∷ []) code))))

abbrev pub in_string : ℕ → Taken
in_string c =
    choose (name_part c) (gives [] (string_word (c ∷ [])))
    (choose (is_blank c) (gives [] string)
    (choose (is_char "\"" c) (gives (quote ∷ []) code)
    (choose (is_char "\\" c) (gives [] escape) (gives (sign c ∷ []) string))))

abbrev pub take_char : Lexing → ℕ → Taken
take_char code c = in_code c
take_char (code_word w) c = choose (goes_on c) (gives [] (code_word (w ++ (c ∷ [])))) (behind (word w) (in_code c))
take_char string c = in_string c
take_char (string_word w) c = choose (goes_on c) (gives [] (string_word (w ++ (c ∷ [])))) (behind (word w) (in_string c))
take_char escape c = gives [] string
take_char slash c = choose (is_char "/" c) (gives [] comment) (behind (sign (code_of "/")) (in_code c))
take_char comment c = choose (is_char "\n" c) (gives [] code) (gives [] comment)

abbrev pub take_value : Lexing → Taken
take_value code = gives (value ∷ []) code
take_value (code_word w) = gives (word w ∷ value ∷ []) code
take_value string = gives (value ∷ []) string
take_value (string_word w) = gives (word w ∷ value ∷ []) string
take_value escape = gives (value ∷ []) string
take_value slash = gives (sign (code_of "/") ∷ value ∷ []) code
take_value comment = gives [] comment

abbrev pub take_symbol : Lexing → Symbol → Taken
take_symbol l (char c) = take_char l c
take_symbol l (option_value v) = take_value l

-- what is left at the end
abbrev pub left_over : Lexing → List Token
left_over code = []
left_over (code_word w) = word w ∷ []
left_over string = []
left_over (string_word w) = word w ∷ []
left_over escape = []
left_over slash = sign (code_of "/") ∷ []
left_over comment = []

abbrev pub tokens_from : Lexing → List Symbol → List Token
tokens_from l [] = left_over l
tokens_from l (x ∷ s) = (take_symbol l x).tokens ++ tokens_from (take_symbol l x).next s
