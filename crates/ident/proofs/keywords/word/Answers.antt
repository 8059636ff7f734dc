use Rattle.std.proofs.Common.{◌≡◌, sym, List, map, get_or, ℕ, Bor}
use Rattle.std.proofs.Math.ListN.{get_or-map}
use Rattle.ident.specs.Ident.{raw_words, kept_words}
use Rattle.ident.specs.Numbers.{word}
use Rattle.ident.proofs.keywords.word.Goals as goal

bytes_at : (xs : List (Bor (List ℕ))) (k : ℕ) (d : Bor (List ℕ)) → (get_or xs k d).now ≡ get_or (map (λ (r : Bor (List ℕ)). r.now) xs) k d.now
bytes_at xs k d = sym (get_or-map (λ (r : Bor (List ℕ)). r.now) xs k d)

pub returns : goal.returns
unfolding word raw_words kept_words
returns c = rw bytes_at
