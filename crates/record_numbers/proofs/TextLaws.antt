-- Laws of the numbers that are fields, and of those that are put into bytes. No contract cites this file.
-- Assumes nothing.
--   number_lt, number_digits, number-some   what a field that is a number is
--   is-number                               and that nothing else is asked of one
--   digit-member                            a byte among digits is one
--   text-number, text-value, text-back      what is put is a number, the same one, and reads as it
--   text-le, text-some, text-digits         it is one to 20 digits
--   text-one, text-front                    one digit below 10, and no zero in front from there on
use Prim.Native.Nat.{ℕ, zero, suc, ◌+◌, ◌-◌, ◌*◌, ◌/◌, ◌%◌, ◌^◌, ◌≤◌, ◌<◌}
use mathlib.Core.Path.{◌≡◌, refl, ap, ◌∙◌}
use mathlib.Core.Bool.{true, ◌&&◌}
use mathlib.Core.List.{List, [], ◌∷◌, ◌++◌}
use mathlib.Core.Logic.{◌≢◌}
use native.Mathlib.Omega.{arith}
use borrow.Author.Tests.{ltb-true, ltb-false, leb-true, lt-ltb, le-ltb, le-leb}
use lib.Dec.{leb, ltb}
use lib.ListN.{length, get_or, length-append, get_or-append}
use Rattle.words.proofs.TestsLaws.{tested, and_first, and_second, and_both}
use Rattle.std.specs.declared.option.Option.TheVariants.{Some}
use Rattle.record_numbers.specs.Decimal.{is_digit, all_digits, value_onto, value_of, is_number, number_in}
use Rattle.record_numbers.specs.Decimal.{digits_of, places_in, places_of, text_of, number_room}

-- ---- a field that is a number

module _ (bs : List ℕ) where
  pub is-number : 1 ≤ length bs → all_digits bs ≡ true → value_of bs < 2 ^ 64 → is_number bs ≡ true
  unfolding is_number
  is-number h d l = simp (lt-ltb 0 (length bs) h, d, lt-ltb (value_of bs) (2 ^ 64) l)

  module _ (e : is_number bs ≡ true) where
    parts : (all_digits bs && ltb (value_of bs) (2 ^ 64)) ≡ true
    unfolding is_number
    parts = and_second (ltb 0 (length bs)) _ e

    pub number-some : 1 ≤ length bs
    unfolding is_number
    number-some = ltb-true 0 (length bs) (and_first _ _ e)

    pub number_digits : all_digits bs ≡ true
    number_digits = and_first _ _ parts

    pub number_lt : value_of bs < 2 ^ 64
    number_lt = ltb-true (value_of bs) (2 ^ 64) (and_second (all_digits bs) _ parts)

pub digit-member : (bs : List ℕ) → all_digits bs ≡ true → (i : ℕ) → i < length bs
    → (48 ≤ get_or bs i 0) × (get_or bs i 0 ≤ 57)
unfolding all_digits
digit-member [] e i h = absurd (omega arith)
digit-member (b ∷ bs) e zero h =
    let is = and_first (is_digit b) (all_digits bs) e in
    (leb-true 48 b (and_first (leb 48 b) _ is), leb-true b 57 (and_second (leb 48 b) _ is))
digit-member (b ∷ bs) e (suc i) h = digit-member bs (and_second (is_digit b) _ e) i (omega arith)

-- ---- digits in a row

all_append : (xs ys : List ℕ) → all_digits xs ≡ true → all_digits ys ≡ true → all_digits (xs ++ ys) ≡ true
unfolding all_digits
all_append [] ys p q = q
all_append (b ∷ xs) ys p q =
    and_both (is_digit b) _ (and_first _ _ p) (all_append xs ys (and_second (is_digit b) _ p) q)

onto-append : (v : ℕ) (xs ys : List ℕ) → value_onto v (xs ++ ys) ≡ value_onto (value_onto v xs) ys
unfolding value_onto
onto-append v [] ys = refl
onto-append v (b ∷ xs) ys = onto-append (v * 10 + (b - 48)) xs ys

digits-length : (k n : ℕ) → length (digits_of k n) ≡ k
unfolding digits_of
digits-length zero n = refl
digits-length (suc k) n = simp (length-append, digits-length k (n / 10)) (omega arith)

digits-all : (k n : ℕ) → all_digits (digits_of k n) ≡ true
unfolding digits_of all_digits
digits-all zero n = refl
digits-all (suc k) n =
    let b = 48 + n % 10 in
    all_append (digits_of k (n / 10)) (b ∷ []) (digits-all k (n / 10))
    (simp (le-leb 48 b (omega arith), le-leb b 57 (omega arith)))

digits_value : (k n : ℕ) → n < 10 ^ k → value_of (digits_of k n) ≡ n
unfolding digits_of value_onto
digits_value zero n h = omega arith
digits_value (suc k) n h =
    onto-append 0 (digits_of k (n / 10)) _ ∙ rw (digits_value k (n / 10) (omega arith)) (omega arith)

-- ---- places

module _ (k n : ℕ) where
  pub places-one : n < 10 → places_in (suc k) n ≡ 1
  unfolding places_in
  places-one h = simp (lt-ltb n 10 h)

  pub places-more : 10 ≤ n → places_in (suc k) n ≡ suc (places_in k (n / 10))
  unfolding places_in
  places-more h = simp (le-ltb n 10 h)

pub places-le : (k n : ℕ) → places_in k n ≤ k
places-le zero n = unfold places_in in omega arith
places-le (suc k) n =
    tested (ltb n 10) (λ t. omega (arith, places-one k n (ltb-true n 10 t)))
    (λ f. omega (arith, places-more k n (ltb-false n 10 f), places-le k (n / 10)))

places-some : (k n : ℕ) → 1 < 10 ^ k → 1 ≤ places_in k n
places-some zero n h = absurd (omega arith)
places-some (suc k) n h =
    tested (ltb n 10) (λ t. omega (arith, places-one k n (ltb-true n 10 t)))
    (λ f. omega (arith, places-more k n (ltb-false n 10 f)))

places-hold : (k n : ℕ) → n < 10 ^ k → n < 10 ^ places_in k n
places-hold zero n h = unfold places_in in h
places-hold (suc k) n h =
    tested (ltb n 10) (λ t. rw (places-one k n (ltb-true n 10 t)) (ltb-true n 10 t))
    (λ f. rw (places-more k n (ltb-false n 10 f)) (omega (arith, places-hold k (n / 10) (omega arith))))

-- ---- what is put

digits-front : (k n : ℕ) → 1 ≤ k → get_or (digits_of (suc k) n) 0 0 ≡ get_or (digits_of k (n / 10)) 0 0
unfolding digits_of
digits-front k n h = get_or-append (digits_of k (n / 10)) _ 0 0 (omega (arith, digits-length k (n / 10)))

places-front : (k n : ℕ) → 1 ≤ n → n < 10 ^ k → get_or (digits_of (places_in k n) n) 0 0 ≢ 48
unfolding digits_of
places-front zero n l h = absurd (omega arith)
places-front (suc k) n l h =
    tested (ltb n 10) (λ t. rw (places-one k n (ltb-true n 10 t)) (omega (arith, ltb-true n 10 t)))
    (λ f. let big = ltb-false n 10 f in
    let some = places-some k (n / 10) (omega arith) in
    rw (places-more k n big, digits-front (places_in k (n / 10)) n some)
    (places-front k (n / 10) (omega arith) (omega arith)))

module _ (n : ℕ) where
  pub text-le : length (text_of n) ≤ number_room
  unfolding text_of
  text-le = omega (arith, digits-length (places_of n) n, places-le number_room n)

  pub text-some : 1 ≤ length (text_of n)
  unfolding text_of
  text-some = omega (arith, digits-length (places_of n) n, places-some number_room n (omega arith))

  pub text-digits : all_digits (text_of n) ≡ true
  unfolding text_of
  text-digits = digits-all (places_of n) n

  pub text-one : n < 10 → text_of n ≡ (48 + n) ∷ []
  unfolding text_of digits_of
  text-one h = rw (places-one (number_room - 1) n h) (ap (λ (m : ℕ). (48 + m) ∷ []) (omega arith))

  module _ (h : n < 2 ^ 64) where
    pub text-value : value_of (text_of n) ≡ n
    unfolding text_of
    text-value = digits_value (places_of n) n (places-hold number_room n (omega arith))

    pub text-number : is_number (text_of n) ≡ true
    text-number = is-number (text_of n) text-some text-digits (omega (arith, text-value))

    pub text-back : number_in (text_of n) ≡ Some n
    unfolding number_in
    text-back = simp (text-number, text-value)

    pub text-front : 10 ≤ n → get_or (text_of n) 0 0 ≢ 48
    unfolding text_of
    text-front l = places-front number_room n (omega arith) (omega arith)
