-- The listed words by number: a name's first byte, middle byte and length leave one of them that it can be. Assumes nothing.
use Rattle.std.specs.Prelude.{Bool, ◌||◌, Option, Some, None, List, [], ◌∷◌, ◌++◌, ℕ, ◌+◌, ◌*◌, ◌%◌, ltb, eqb, get_or}
use Rattle.base.specs.Choose.{choose}
use Rattle.heck.specs.Case.{is_digit}
use Rattle.ident.specs.Ident.{raw_words, kept_words}
use Rattle.ident.specs.declared.keywords.Addition.{Addition}
use Rattle.ident.specs.declared.keywords.Addition.TheVariants.{Nothing, Raw, Trailing, Leading}

-- the listed words: those that gain `r#` come first
abbrev pub listed : List (List ℕ)
listed = raw_words ++ kept_words

unfoldable pub word : ℕ → List ℕ
word k = get_or listed k []

-- the number of the one word, 53 or more where there is none
unfoldable pub numbers : List ℕ
numbers =
    53 ∷ 12 ∷ 55 ∷ 45 ∷ 57 ∷ 58 ∷ 43 ∷ 60 ∷ 26 ∷ 54 ∷ 36 ∷ 56 ∷ 20 ∷ 4 ∷ 59 ∷ 60 ∷ 53 ∷ 54 ∷ 55 ∷ 21 ∷ 50 ∷ 58 ∷
    51 ∷ 11 ∷ 53 ∷ 39 ∷ 27 ∷ 22 ∷ 57 ∷ 5 ∷ 59 ∷ 60 ∷ 24 ∷ 17 ∷ 3 ∷ 14 ∷ 44 ∷ 46 ∷ 59 ∷ 60 ∷ 53 ∷ 30 ∷ 33 ∷ 56 ∷ 57
    ∷ 58 ∷ 16 ∷ 60 ∷ 53 ∷ 10 ∷ 55 ∷ 56 ∷ 57 ∷ 58 ∷ 0 ∷ 60 ∷ 49 ∷ 32 ∷ 55 ∷ 2 ∷ 57 ∷ 58 ∷ 59 ∷ 60 ∷ 37 ∷ 28 ∷ 52 ∷
    34 ∷ 57 ∷ 41 ∷ 9 ∷ 60 ∷ 53 ∷ 54 ∷ 55 ∷ 56 ∷ 31 ∷ 40 ∷ 18 ∷ 60 ∷ 53 ∷ 47 ∷ 55 ∷ 1 ∷ 57 ∷ 58 ∷ 13 ∷ 60 ∷ 6 ∷ 7 ∷
    55 ∷ 19 ∷ 57 ∷ 48 ∷ 59 ∷ 42 ∷ 15 ∷ 29 ∷ 38 ∷ 23 ∷ 57 ∷ 58 ∷ 8 ∷ 25 ∷ 35 ∷ 54 ∷ 55 ∷ 56 ∷ 57 ∷ 58 ∷ 59 ∷ []

unfoldable pub number_of : ℕ → ℕ → ℕ → ℕ
number_of first middle n = get_or numbers ((first * 15 + middle * 8 + n * 5) % 111) 0

-- what sanitising adds to x, k being the number of the listed word that it is
unfoldable pub numbered : Option ℕ → List ℕ → Addition
numbered (Some k) x = choose (ltb k 47) Raw Trailing
numbered None x = choose (is_digit (get_or x 0 0)) Leading Nothing

-- does one of the words that gain a trailing `_` begin with c?
unfoldable pub begins_kept : ℕ → Bool
begins_kept c = eqb c 95 || (eqb c 115 || (eqb c 83 || (eqb c 101 || eqb c 99)))
