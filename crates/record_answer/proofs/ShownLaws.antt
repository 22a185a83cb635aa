-- Laws of numbers as text, and of bytes that are put behind others. No contract cites this file. Assumes
-- nothing.
--   fields-append, fields-one    the fields of two lists of numbers, and of one number
--   line-one, line-fields        a line of one number, and of more
--   fields_le, line-le           how many bytes they take at most
--   put_byte, put_then           one byte behind others, and one stretch behind another
--   answer-then                  the line of an answer, from what was put one behind the other
--   words-none, words_more       the first words of a log as fields: none, and one more
--   words-least, words-first     no more of them than there are, and as they are put
use Prim.Native.Nat.{ℕ, suc, ◌+◌, ◌*◌, ◌≤◌, ◌<◌, min}
use mathlib.Core.Path.{◌≡◌, refl, sym, ap, ◌∙◌}
use mathlib.Core.List.{List, [], ◌∷◌, ◌++◌, append-nil, append_assoc}
use native.Mathlib.Decide.{dec_lt}
use native.Mathlib.Omega.{arith}
use native.Mathlib.Numerals.{add-one}
use lib.ListN.{length, take, set, get_or, length-append}
use lib.Seq.{take-suc, take-suc-set, take_all, take-length}
use Rattle.record_numbers.specs.Decimal.{text_of}
use Rattle.record_numbers.proofs.TextLaws.{text-le}
use Rattle.record_lines.specs.Lines.{line_feed}
use Rattle.record_fields.specs.Fields.{tab}
use Rattle.record_answer.specs.Shown.{fields_shown, line_shown, field_room}

-- ---- fields and lines

pub fields-append : (ms ns : List ℕ) → fields_shown (ms ++ ns) ≡ fields_shown ms ++ fields_shown ns
unfolding fields_shown
fields-append [] ns = refl
fields-append (m ∷ ms) ns =
    ap (λ (bs : List ℕ). tab ∷ (text_of m ++ bs)) (fields-append ms ns)
    ∙ ap (λ (bs : List ℕ). tab ∷ bs) (sym (append_assoc (text_of m) (fields_shown ms) (fields_shown ns)))

pub fields-one : (n : ℕ) → fields_shown (n ∷ []) ≡ tab ∷ text_of n
unfolding fields_shown
fields-one n = ap (λ (bs : List ℕ). tab ∷ bs) (append-nil (text_of n))

pub line-fields : (n : ℕ) (ns : List ℕ) → line_shown (n ∷ ns) ≡ text_of n ++
    (fields_shown ns ++ (line_feed ∷ []))
unfolding line_shown
line-fields n ns = refl

pub line-one : (n : ℕ) → line_shown (n ∷ []) ≡ text_of n ++ (line_feed ∷ [])
unfolding line_shown fields_shown
line-one n = refl

pub fields_le : (ns : List ℕ) → length (fields_shown ns) ≤ length ns * field_room
unfolding fields_shown
fields_le [] = omega arith
fields_le (n ∷ ns) = simp length-append (omega (arith, text-le n, fields_le ns))

pub line-le : (n : ℕ) (ns : List ℕ) → length (line_shown (n ∷ ns)) ≤ suc (length ns) * field_room
unfolding line_shown
line-le n ns = simp length-append (omega (arith, text-le n, fields_le ns))

-- ---- bytes behind bytes

pub put_byte : (l : List ℕ) (i b : ℕ) → i < length l → take (i + 1) (set l i b) ≡ take i l ++ (b ∷ [])
put_byte l i b h = rw (add-one, take-suc-set)

pub put_then : (xs bs cs : List ℕ) {ys zs : List ℕ} → ys ≡ xs ++ bs → zs ≡ ys ++ cs → zs ≡ xs ++ (bs ++ cs)
put_then xs bs cs e f = f ∙ rw e (append_assoc xs bs cs)

fields-then : (xs ms ns : List ℕ) {ys zs : List ℕ} → ys ≡ xs ++ fields_shown ms → zs ≡ ys ++ fields_shown ns
    → zs ≡ xs ++ fields_shown (ms ++ ns)
fields-then xs ms ns e f = rw fields-append (put_then xs (fields_shown ms) (fields_shown ns) e f)

line-then : (xs : List ℕ) (n : ℕ) (ns : List ℕ) {ys zs ls : List ℕ} → ys ≡ xs ++ text_of n
    → zs ≡ ys ++ fields_shown ns → ls ≡ zs ++ (line_feed ∷ []) → ls ≡ xs ++ line_shown (n ∷ ns)
line-then xs n ns {ys} e f g =
    rw line-fields (put_then xs (text_of n) _ e (put_then ys (fields_shown ns) (line_feed ∷ []) f g))

-- the line of an answer: its number, refusal, value, count and messages, and the end
pub answer-then : (xs : List ℕ) (n f v k : ℕ) (ms : List ℕ) {ys fs vs ks zs ls : List ℕ}
    → ys ≡ xs ++ text_of n → fs ≡ ys ++ fields_shown (f ∷ []) → vs ≡ fs ++ fields_shown (v ∷ [])
    → ks ≡ vs ++ fields_shown (k ∷ []) → zs ≡ ks ++ fields_shown ms → ls ≡ zs ++ (line_feed ∷ [])
    → ls ≡ xs ++ line_shown (n ∷ f ∷ v ∷ k ∷ ms)
answer-then xs n f v k ms {ys} numbered refused valued counted logged ended =
    let two = fields-then ys (f ∷ []) (v ∷ []) refused valued in
    let three = fields-then ys (f ∷ v ∷ []) (k ∷ []) two counted in
    line-then xs n (f ∷ v ∷ k ∷ ms) numbered (fields-then ys (f ∷ v ∷ k ∷ []) ms three logged) ended

-- ---- the first words of a log

pub words-none : (l ws : List ℕ) → l ≡ l ++ fields_shown (take 0 ws)
unfolding fields_shown
words-none l ws = sym (append-nil l)

pub words_more : (xs ws : List ℕ) (i : ℕ) {ys zs : List ℕ} → ys ≡ xs ++ fields_shown (take i ws)
    → zs ≡ ys ++ fields_shown (get_or ws i 0 ∷ []) → i < length ws → zs ≡ xs ++ fields_shown (take (i + 1) ws)
words_more xs ws i e f h = rw (add-one, take-suc ws i 0) (fields-then xs (take i ws) (get_or ws i 0 ∷ []) e f)

pub words-least : (k : ℕ) (ws : List ℕ) (n : ℕ) → n ≡ min (length ws) k → take n ws ≡ take k ws
words-least k ws n e = at (dec_lt k (length ws))
  where
    at : Dec (k < length ws) → take n ws ≡ take k ws
    at (yes lt) = let few : n ≡ k = omega arith in rw few
    at (no ge) = let all : n ≡ length ws = omega arith in rw (all, take-length, take_all k ws (omega arith))

pub words-first : (xs ws : List ℕ) (k n : ℕ) {zs : List ℕ} → zs ≡ xs ++ fields_shown (take n ws)
    → n ≡ min (length ws) k → zs ≡ xs ++ fields_shown (take k ws)
words-first xs ws k n e few = rw (words-least k ws n few) at e
