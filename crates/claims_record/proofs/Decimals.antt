-- Claim 194, and what a number is: digits by their places. No axioms.
use Prim.Native.Nat.{ℕ, suc, ◌+◌, ◌-◌, ◌*◌, ◌^◌, ◌≤◌, ◌<◌}
use mathlib.Core.Path.{◌≡◌, refl, sym, ap, ap₂, subst, ◌∙◌}
use mathlib.Core.Bool.{true}
use mathlib.Core.List.{List, [], ◌∷◌}
use native.Mathlib.Omega.{arith}
use native.Mathlib.Nat.{add-mul, mul_assoc, pow-succ', zero-mul, zero-add}
use borrow.Author.Tests.{le-leb}
use lib.Dec.{leb}
use lib.ListN.{length, get_or}
use Rattle.words.proofs.TestsLaws.{and_first, and_second, and_both}
use Rattle.record_numbers.specs.Decimal.{is_digit, all_digits, value_onto, value_of, is_number, text_of}
use Rattle.record_numbers.proofs.TextLaws.{is-number, number-some, number_digits, number_lt, digit-member}
use Rattle.record_numbers.proofs.TextLaws.{text-number, text-value, text-front, text-one}
use Rattle.record_fields.specs.Fields.{are_numbers, numbers_of}
use Rattle.claims_record.specs.Written.{worth, Decimal, Spelled, Claim-194}

-- digits behind a number are worth what they are worth alone, and the number ten times more for each
onto-worth : (v : ℕ) (bs : List ℕ) → value_onto v bs ≡ v * 10 ^ length bs + worth bs
unfolding value_onto
onto-worth v [] = omega arith
onto-worth v (b ∷ bs) =
    let p : ℕ = 10 ^ length bs in
    let d : ℕ = b - 48 in
    let left : (v * 10 + d) * p ≡ v * 10 * p + d * p = add-mul (v * 10) d p in
    let right : v * 10 * p ≡ v * 10 ^ suc (length bs) =
    mul_assoc v 10 p ∙ ap (λ (m : ℕ). v * m) (sym (pow-succ' 10 (length bs))) in
    onto-worth (v * 10 + d) bs ∙ omega (arith, left, right)

pub value-worth : (bs : List ℕ) → value_of bs ≡ worth bs
value-worth bs = onto-worth 0 bs ∙ ap (λ (m : ℕ). m + worth bs) (zero-mul (10 ^ length bs))
    ∙ zero-add (worth bs)

all_digits_lem : (bs : List ℕ) → ((i : ℕ) → i < length bs → (48 ≤ get_or bs i 0) × (get_or bs i 0 ≤ 57)) →
    all_digits bs ≡ true
unfolding all_digits
all_digits_lem [] d = refl
all_digits_lem (b ∷ bs) d =
    let here = d 0 (omega arith) in
    and_both (is_digit b) (all_digits bs)
    (and_both (leb 48 b) (leb b 57) (le-leb 48 b here.0) (le-leb b 57 here.1))
    (all_digits_lem bs (λ i h. d (suc i) (omega (arith, h))))

module _ (t : List ℕ) where
  pub number-decimal : is_number t ≡ true → Decimal t (value_of t)
  number-decimal e =
      record {
        some = number-some t e;
        digits = digit-member t (number_digits t e);
        value = sym (value-worth t);
        small = number_lt t e;
      }

  pub decimal-value : (n : ℕ) → Decimal t n → value_of t ≡ n
  decimal-value n d = value-worth t ∙ d.value

  pub decimal-number : (n : ℕ) → Decimal t n → is_number t ≡ true
  decimal-number n d =
      is-number t d.some (all_digits_lem t d.digits) (omega (arith, decimal-value n d, d.small))

-- ---- fields that are numbers

pub spelled-1 : (ts : List (List ℕ)) → are_numbers ts ≡ true → Spelled ts (numbers_of ts)
unfolding are_numbers numbers_of
spelled-1 [] e = tt
spelled-1 (t ∷ ts) e = (
  number-decimal t (and_first (is_number t) (are_numbers ts) e),
  spelled-1 ts (and_second (is_number t) (are_numbers ts) e),
)

pub spelled-2 : (ts : List (List ℕ)) (ns : List ℕ) → Spelled ts ns →
    (are_numbers ts ≡ true) × (numbers_of ts ≡ ns)
unfolding are_numbers numbers_of
spelled-2 [] [] s = (refl, refl)
spelled-2 [] (n ∷ ns) s = elim s [ ]
spelled-2 (t ∷ ts) [] s = elim s [ ]
spelled-2 (t ∷ ts) (n ∷ ns) s =
    let more = spelled-2 ts ns s.1 in (
      and_both (is_number t) (are_numbers ts) (decimal-number t n s.0) more.0,
      ap₂ (λ (m : ℕ) (ms : List ℕ). m ∷ ms) (decimal-value t n s.0) more.1,
    )

pub text-decimal : (n : ℕ) → n < 2 ^ 64 → Decimal (text_of n) n
text-decimal n h = subst (Decimal (text_of n)) (text-value n h) (number-decimal (text_of n) (text-number n h))

pub claim-194 : Claim-194
unfolding Claim-194
claim-194 n h = (text-decimal n h, text-front n h, (λ one. ap length (text-one n one)))
