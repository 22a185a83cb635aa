-- The functions over a lent record differ in the method that makes the new record and in what their contract
-- ensures. Here is what they are otherwise; `LentWalk` proves what all of them do. Assumes nothing.
--   code k                    the code of such a function, where the method's name is k
--   answers new, Method new   the contract of the method: it answers `new` of the record and the value
--   Ensured, leaves E         the contract of the function: it asks nothing, and ensures E of the reference
--                             before and after the call and of the value
--   stayed, goes              at the exit the reference is still had, at its last record
-- Where only a signature is meant, `set_idelivery` and `with_idelivery` stand for the others: it is the same.
use Prim.Native.Nat.{ℕ}
use mathlib.Core.Path.{◌≡◌, refl}
use mathlib.Core.List.{[], ◌∷◌}
use seplogic.Ra.Ura.{Ura}
use mir.Syntax.{Fn, Callee, named, mut, w32, ty_unit, ty_int, ty_ref, deref, place, copy, opd_unit, rv_opd}
use mir.Syntax.{local, value_local, assign, call, seq, return}
use base.Logic.{SProp, ent, emp, snd∗, ex_e}
use types.Logic.{Logic, sem}
use contract.Lifetimes.{Lfts}
use contract.Monad.{fact}
use denote.Builtin.{u32}
use denote.Exit.{yes}
use denote.Memory.{pointee}
use denote.Ref.{MutBor}
use denote.Signature.{plain}
use denote.Triple.Clauses.{Clauses, ensured, closing, lasts}
use denote.Triple.Spec.{triple_of}
use denote.Triple.Statement.{Contract}
use denote.Triple.Walked.{Stays, stay_ref, stay_none, AllGo, Goes-none, Goes-ref}
use Rattle.domain_delivery.specs.declared.Delivery.{Delivery}
use Rattle.domain_delivery.specs.contracts.Delivery as T
use Rattle.domain_delivery.proofs.Delivery.TheLaws as T'
use Rattle.domain_delivery.specs.contracts.Delivery.with_idelivery as method
use Rattle.domain_record.specs.contracts.set_idelivery as setter

-- local 1 is the reference, 2 the value, 4 the record taken out, and 3 the one that the method answers
abbrev pub code : Callee → Fn
code k = record {
  lifetimes = 1;
  outlives = [];
  ty_params = [];
  givens = 0;
  params = 2;
  locals = local ty_unit value_local
      ∷ local (ty_ref (named 0) mut (pointee (T.the_row).written)) value_local
      ∷ local (ty_int w32) value_local
      ∷ local T'.mir value_local
      ∷ local T'.mir value_local
      ∷ [];
  body = seq (assign (place 4 []) (rv_opd (copy (place 1 (deref T'.mir ∷ [])))))
      (seq (call k (copy (place 4 []) ∷ copy (place 2 []) ∷ []) (place 3 []))
      (seq (assign (place 1 (deref T'.mir ∷ [])) (rv_opd (copy (place 3 []))))
      (seq (assign (place 0 []) (rv_opd opd_unit)) return)));
}

abbrev pub stayed : Stays (setter.ended).signature.params (setter.ended).kept
stayed = (stay_ref (0 ∷ []) tt (plain (λ _. T.the_row)), (stay_none (λ _. u32) yes, tt))

module _ {M : Type 1} {𝓤 : Ura M} (𝓛 : Logic 𝓤) where
  pub goes : AllGo 𝓛 1 (setter.signature).params (setter.ended).kept stayed
  goes = (
    Goes-ref 𝓛 1 0 tt (plain (λ _. T.the_row)),
    (Goes-none 𝓛 1 (λ _. u32) yes (λ κs x f. refl), tt),
  )

  abbrev pub Ensured : Type 2
  Ensured = Lfts 1 → (before after : MutBor Delivery) → ℕ → SProp 𝓤

  abbrev pub leaves : Ensured → Clauses 𝓤 setter.ended
  leaves E κs a = record {
    ghost = Unit {0};
    requires = λ _. emp 𝓤;
    ensures = λ _ _ e. E κs a.0 e.0 a.1.0;
  }

  module _ (new : Delivery → ℕ → Delivery) where
    abbrev pub answers : Clauses 𝓤 method.ended
    answers κs a = record {
      ghost = Unit {0};
      requires = λ _. emp 𝓤;
      ensures = λ _ r _. fact 𝓤 (r ≡ new a.0 a.1.0);
    }

    abbrev pub Method : Contract 𝓤
    Method = triple_of 𝓛 method.signature (closing 𝓛 method.ended answers)

    -- what a caller has of the method's answer, once what is said of the arguments at exit is dropped
    pub told : (h : Delivery) (n : ℕ) (r : Delivery)
        → ent 𝓤 (ensured 𝓛 method.ended answers tt (h, (n, tt)) tt r) (fact 𝓤 (r ≡ new h n))
    told h n r =
        ex_e 𝓤 _ (λ ws. snd∗ 𝓤 (sem 𝓛 (lasts method.ended tt (h, (n, tt)) ws)) (fact 𝓤 (r ≡ new h n)))
