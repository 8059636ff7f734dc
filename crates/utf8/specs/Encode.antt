-- Characters and their encoding in UTF-8, by the Unicode Standard's definition D92 and table 3-6. Assumes nothing.
use Rattle.std.specs.Prelude.{Bool, true, false, List, [], ◌∷◌, ℕ, ◌+◌, ◌/◌, ◌%◌, leb, ltb}
use Rattle.base.specs.Choose.{choose}

-- a Unicode scalar value: a code point that is no surrogate (D76)
unfoldable pub scalar : ℕ → Bool
scalar c = choose (ltb c 0xD800) true (choose (ltb c 0xE000) false (leb c 0x10FFFF))

-- the bits of c, 6 to a byte from the last byte on
unfoldable pub encode : ℕ → List ℕ
encode c =
    choose (ltb c 0x80) (c ∷ [])
    (choose (ltb c 0x800) ((192 + c / 64) ∷ ((128 + c % 64) ∷ []))
    (choose (ltb c 0x10000) ((224 + c / 4096) ∷ ((128 + c / 64 % 64) ∷ ((128 + c % 64) ∷ [])))
    ((240 + c / 262144) ∷ ((128 + c / 4096 % 64) ∷ ((128 + c / 64 % 64) ∷ ((128 + c % 64) ∷ []))))))
