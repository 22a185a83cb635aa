-- What a field is, from what was read of it. Assumes nothing.
use Prim.Native.Nat.{ℕ}
use mathlib.Core.Path.{◌≡◌, refl, sym, ap, ◌∙◌}
use mathlib.Core.Bool.{Bool, true, false, cond}
use mathlib.Core.List.{List}
use Rattle.std.specs.declared.option.Option.{Option}
use Rattle.std.specs.declared.option.Option.TheVariants.{Some, None}
use Rattle.record_numbers.specs.Decimal.{is_number, value_of, number_in}

abbrev value_in : ℕ → Option ℕ → ℕ
value_in d (Some v) = v
value_in d None = d

abbrev is_value : Option ℕ → Bool
is_value (Some v) = true
is_value None = false

is-value : (t : Bool) (v : ℕ) → is_value (cond t (Some v) None) ≡ t
is-value true v = refl
is-value false v = refl

value_in_lem : (t : Bool) (v : ℕ) → value_in v (cond t (Some v) None) ≡ v
value_in_lem true v = refl
value_in_lem false v = refl

module _ (bs : List ℕ) where
  pub value-number : (v : ℕ) → number_in bs ≡ Some v → is_number bs ≡ true
  unfolding number_in
  value-number v e = sym (is-value (is_number bs) (value_of bs)) ∙ ap is_value e

  pub value_same : (v : ℕ) → number_in bs ≡ Some v → v ≡ value_of bs
  unfolding number_in
  value_same v e = sym (ap (value_in (value_of bs)) e) ∙ value_in_lem (is_number bs) (value_of bs)

  pub no_number : number_in bs ≡ None → is_number bs ≡ false
  unfolding number_in
  no_number e = sym (is-value (is_number bs) (value_of bs)) ∙ ap is_value e
