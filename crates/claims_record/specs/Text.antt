-- A text as bytes, so that a claim can show the words of a record. Assumes nothing.
--   text_codes s   the codes of the characters of s, in order
use Rattle.std.specs.Prelude.{ℕ, List, [] as none, ◌∷◌ as ◌then◌}
use Prim.Native.Char.{code}
use Prim.Native.String.{String, [], ◌∷◌}

abbrev pub text_codes : String → List ℕ
text_codes [] = none
text_codes (c ∷ s) = code c then text_codes s
