-- Claims 175 and 178, from the definitions of the premises, line by line, and from the law that
-- the board of a block that keeps the rules is fit. Assumes nothing.
use Prim.Native.Nat.{ℕ, suc, ◌+◌, ◌-◌, ◌^◌, ◌≤◌, ◌<◌}
use mathlib.Core.Path.{◌≡◌, refl, sym, ap, subst}
use mathlib.Core.Bool.{Bool, true, false, ◌&&◌, ◌||◌}
use mathlib.Core.List.{◌∷◌}
use mathlib.Core.Logic.{◌⊎◌, ⊎_elim, ◌↔◌}
use native.Mathlib.Omega.{arith}
use lib.Dec.{eqb}
use borrow.Author.Tests.{eqb-true, eq-eqb}
use Rattle.words.specs.Sets.{WordsFit}
use Rattle.words.proofs.TestsLaws.{tested, and_first, and_second, and_both, or_cases, or_left, or_right}
use Rattle.words.proofs.TestsLaws.{not_same}
use Rattle.domain.specs.Slot.{source_at}
use Rattle.board_move_steps.specs.Names.{names_file}
use Rattle.board_move_wired_laws.proofs.TargetNames.{names-number, number-names}
use Rattle.board_block.specs.Block.{board_of}
use Rattle.board_call.specs.declared.Call.{Call}
use Rattle.board_call.specs.Calls.{row_of}
use Rattle.board_call.specs.declared.Call.TheVariants.{Reset, Wire, DomainRead, DomainWrite, PageRead}
use Rattle.board_call.specs.declared.Call.TheVariants.{PageWrite, Register, Top, Claim, Signals, Move}
use Rattle.board_call_laws.specs.Small.{Small}
use Rattle.board_call_laws.proofs.FitEffects.{fit-block}
use Rattle.board_move_laws.proofs.MoveEffects.{guest-hart, guest-low, guest-high}
use Rattle.board_runs.specs.Reading.{only_reads}
use Rattle.move_laws.specs.Shift.{Stations, is_old, is_new, elsewhere, with_move, without_move}
use Rattle.move_laws.specs.Premises.{TwoGuests, ByMessages, NoneNamesNew, accesses_in}
use Rattle.move_laws.specs.Premises.{AllAccesses, PagesKept, CallsKept}
use Rattle.claims_registers.proofs.Registers.{active-iff}
use Rattle.claims_move.specs.Premises.{Claim-175, Claim-178}
use Rattle.claims_move.proofs.MoveCall.{guest-joined}

-- ---- a file is the one that is named, or it is not

module _ (h f h' f' : ℕ) where
  pub same-file : (eqb h h' && eqb f f') ≡ true → (h ≡ h') × (f ≡ f')
  same-file e =
      (eqb-true h h' (and_first (eqb h h') (eqb f f') e), eqb-true f f' (and_second (eqb h h') (eqb f f') e))

  pub file-same : h ≡ h' → f ≡ f' → (eqb h h' && eqb f f') ≡ true
  file-same p q = and_both (eqb h h') (eqb f f') (eq-eqb h h' p) (eq-eqb f f' q)

  pub file-other : (h ≡ h' → f ≡ f' → ⊥) → (eqb h h' && eqb f f') ≡ false
  file-other d =
      tested (eqb h h' && eqb f f') (λ t. let e = same-file t in absurd (d e.0 e.1)) (λ e. e)

-- ---- the premises

two-guests : (m : Stations)
    → TwoGuests m
    ↔ ((m.old_hart < 4) × (2 ≤ m.old_file) × (m.old_file ≤ 4) × (m.new_hart < 4) × (2 ≤ m.new_file)
    × (m.new_file ≤ 4) × (m.old_hart ≡ m.new_hart → m.old_file ≡ m.new_file → ⊥))
two-guests m =
    let oh = m.old_hart in
    let of = m.old_file in
    let nh = m.new_hart in
    let nf = m.new_file in (
      (λ g. (
        guest-hart oh of g.old,
        guest-low oh of g.old,
        omega (arith, guest-high oh of g.old),
        guest-hart nh nf g.new,
        guest-low nh nf g.new,
        omega (arith, guest-high nh nf g.new),
        (λ p q. not_same _ (file-same oh of nh nf p q) g.different),
      )),
      (λ p. record {
        old = guest-joined oh of p.0 p.1 p.2;
        new = guest-joined nh nf p.3 p.4 p.5;
        different = file-other oh of nh nf p.6;
      }),
    )

pub or_split : (p q : Bool) → ((p || q) ≡ true) ↔ ((p ≡ true) ⊎ (q ≡ true))
or_split p q = (or_cases p q, ⊎_elim (or_left p q) (or_right p q))

-- what is asked of a page write to new, and of one to old, by their numbers
pub page-asked : (m : Stations) (h f : ℕ) (A B C : Type 0)
    → ((is_new m h f ≡ true → A) × (is_old m h f ≡ true → B) × C)
    ↔ ((h ≡ m.new_hart → f ≡ m.new_file → A) × (h ≡ m.old_hart → f ≡ m.old_file → B) × C)
page-asked m h f A B C =
    let nh = m.new_hart in
    let nf = m.new_file in
    let oh = m.old_hart in
    let of = m.old_file in (
      (λ k. (
        (λ p q. k.0 (file-same h f nh nf p q)),
        (λ p q. k.1 (file-same h f oh of p q)),
        k.2,
      )),
      (λ k. (
        (λ e. let x = same-file h f nh nf e in k.0 x.0 x.1),
        (λ e. let x = same-file h f oh of e in k.1 x.0 x.1),
        k.2,
      )),
    )

-- every four numbers are the places of a station
any-stations : (oh of nh nf : ℕ)
    → (x : Stations) × (x.old_hart ≡ oh) × (x.old_file ≡ of) × (x.new_hart ≡ nh) × (x.new_file ≡ nf)
any-stations oh of nh nf =
    (record { old_hart = oh; old_file = of; new_hart = nh; new_file = nf }, refl, refl, refl, refl)

pub claim-175 : Claim-175
unfolding Claim-175 NoneNamesNew ByMessages WordsFit accesses_in AllAccesses PagesKept CallsKept with_move
    without_move
claim-175 m l s es c n j level h f a v =
    let nh = m.new_hart in
    let nf = m.new_file in
    let oh = m.old_hart in
    let of = m.old_file in
    let next : suc n ≡ n + 1 = omega arith in
    let either = or_split (only_reads c) (elsewhere m c) in (
      any-stations,
      two-guests m,
      (
        (λ none i o u z t p q. let x = (source_at (board_of l).wired.child i).target in
            not_same (names_file x nh nf) (number-names x nh nf p q)
            (none i o u ((active-iff _).1 (z, t)))),
        (λ none i o u on. let x = (source_at (board_of l).wired.child i).target in
            let active = (active-iff _).0 on in
            tested (names_file x nh nf)
            (λ y. let e = names-number x nh nf y in absurd (none i o u active.0 active.1 e.0 e.1))
            (λ y. y)),
      ),
      ((λ p. p), (λ p. p)),
      (
        (λ p. (p.block, p.words, p.rules, p.saved-long, p.saved-fit)),
        (λ p. record {
          block = p.0;
          words = p.1;
          rules = p.2;
          saved-long = p.3;
          saved-fit = p.4;
        }),
      ),
      ((λ p. p), (λ p. p)),
      refl,
      refl,
      refl,
      omega arith,
      refl,
      tt,
      ((λ p. p), (λ p. p)),
      page-asked m h f (8 ≤ n) (n < 72) (PagesKept m n es),
      (subst (λ (k : ℕ). PagesKept m k es) next, subst (λ (k : ℕ). PagesKept m k es) (sym next)),
      ((λ p. p), (λ p. p)),
      tt,
      ((λ p. p), (λ p. p)),
      ((λ p. p), (λ p. p)),
      ((λ p. p), (λ p. p)),
      ((λ p. (either.0 p.0, p.1, p.2)), (λ p. (either.1 p.0, p.1, p.2))),
      refl,
      refl,
      refl,
      ap (λ (k : ℕ). Move oh of nh nf k ∷ with_move m k es) next,
      refl,
      refl,
      refl,
      (λ p q. rw (file-same h f nh nf p q) refl),
      (λ d. rw (file-other h f nh nf d) refl),
      refl,
      refl,
    )

-- ---- what is lent, and the calls

small-call : (c : Call) → ((h f k s v : ℕ) → c ≡ Register h f k s v → v < 2 ^ 64) → Small c
unfolding row_of
small-call Reset p = tt
small-call (Wire i level) p = tt
small-call (DomainRead d a) p = tt
small-call (DomainWrite d a v) p = tt
small-call (PageRead h f a) p = tt
small-call (PageWrite h f a v) p = tt
small-call (Register h f k s v) p = p h f k s v refl
small-call (Top h f) p = tt
small-call (Claim h f) p = tt
small-call (Signals h) p = tt
small-call (Move oh of nh nf n) p = tt

pub claim-178 : Claim-178
unfolding Claim-178 WordsFit row_of
claim-178 = (
  (λ x long words rules log saved. let fit = fit-block x.block long words rules in
      (record { long = long; full = log; fit = fit; saved = saved }, fit, fit.shaped)),
  (λ c. ((λ small h f k s v e. subst Small e small), small-call c)),
  tt,
  (λ c cs. ((λ p. p), (λ p. p))),
)
