-- The number that stands for all that is lent. second/README.md, "Recorded cases". Assumes nothing.
--   digested d w     the digest d with one word more
--   digest_of d ws   the digest d with the words ws
--   halves ns        the words of 64-bit numbers: of each its low half, then its high one
use Rattle.std.specs.Prelude.{List, [], ◌∷◌, ℕ, ◌+◌, ◌*◌}
use Rattle.words.specs.Parts.{low, high}

abbrev pub digested : ℕ → ℕ → ℕ
digested d w = low (d * 31 + w)

-- [01 T12]
unfoldable pub digest_of : ℕ → List ℕ → ℕ
digest_of d [] = d
digest_of d (w ∷ ws) = digest_of (digested d w) ws

unfoldable pub halves : List ℕ → List ℕ
halves [] = []
halves (n ∷ ns) = low n ∷ high n ∷ halves ns
