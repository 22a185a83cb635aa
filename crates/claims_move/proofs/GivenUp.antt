-- Claim-189, by the laws of the move. Assumes nothing.
use Prim.Native.Nat.{ℕ, suc, ◌+◌, ◌≤◌}
use mathlib.Core.Path.{◌≡◌, refl, ap, ◌∙◌}
use mathlib.Core.Bool.{false}
use mathlib.Core.List.{List, [], ◌∷◌}
use mathlib.Core.Logic.{◌↔◌}
use native.Mathlib.Omega.{arith}
use lib.Dec.{eqb}
use lib.ListN.{get_or}
use borrow.Author.Tests.{eq-eqb}
use Rattle.words.proofs.TestsLaws.{tested, and_both, not_same}
use Rattle.files.specs.Files.{the_file}
use Rattle.board_block.specs.Block.{board_of}
use Rattle.board_call.specs.declared.Call.TheVariants.{Register}
use Rattle.board_call.specs.Calls.{row_of}
use Rattle.board_runs.specs.Runs.{Said, after, ran}
use Rattle.board_runs.specs.Handed.{is_access}
use Rattle.move_laws.specs.Shift.{Stations, Event, is_new, with_move, without_move}
use Rattle.move_laws.specs.Premises.{accesses_in, PagesKept}
use Rattle.move_laws.specs.Moved.{old_in}
use Rattle.move_laws.proofs.Invariant.{new-parts}
use Rattle.move_laws.proofs.ShiftEffects.{lent_from}
use Rattle.move_laws.proofs.EndEffects.{follows-here, follows-there}
use Rattle.move_laws.proofs.GivenUpEffects.{KeptFromNew, move-early, undoing-said, undoing-leaves}
use Rattle.claims_move.specs.GivenUp.{NoneToNew, Claim-189}
use Rattle.claims_move.proofs.Station.{alike}

-- a file with another hart or another number is not new
not_new : (m : Stations) (h f : ℕ) → (h ≡ m.new_hart → f ≡ m.new_file → ⊥) → is_new m h f ≡ false
not_new m h f d =
    tested (is_new m h f) (λ t. let parts = new-parts m h f t in absurd (d parts.0 parts.1)) (λ u. u)

kept_from : (m : Stations) (es : List Event) → NoneToNew m es → KeptFromNew m es
unfolding NoneToNew KeptFromNew
kept_from m [] q = tt
kept_from m (Event.wire i level ∷ es) q = kept_from m es q
kept_from m (Event.page h f a v ∷ es) q = (not_new m h f q.0, kept_from m es q.1)
kept_from m (Event.access ∷ es) q = kept_from m es q
kept_from m (Event.call c ∷ es) q = kept_from m es q

-- before access 8 the page writes of a move are these
pages-none : (m : Stations) (es : List Event) (n : ℕ) → n + accesses_in es ≤ 7
    → PagesKept m n es ↔ NoneToNew m es
unfolding PagesKept NoneToNew accesses_in
pages-none m [] n few = ((λ q. tt), (λ q. tt))
pages-none m (Event.wire i level ∷ es) n few = pages-none m es n few
pages-none m (Event.page h f a v ∷ es) n few =
    let rest = pages-none m es n few in (
      (λ q. (
        (λ i j. omega (
          arith,
          q.0 (and_both (eqb h m.new_hart) (eqb f m.new_file) (eq-eqb h _ i)
              (eq-eqb f _ j)),
        )),
        rest.0 q.2,
      )),
      (λ q. ((λ t. absurd (not_same _ t (not_new m h f q.0))), (λ t. omega arith), rest.1 q.1)),
    )
pages-none m (Event.access ∷ es) n few = pages-none m es (suc n) (omega arith)
pages-none m (Event.call c ∷ es) n few = pages-none m es n few

pub claim-189 : Claim-189
unfolding Claim-189 after
claim-189 = (
  (λ m l s es ms ns started guests messages fresh some few away calls with handed without g t long.
      let here = ran (with_move m 0 es) (lent_from l s) in
      let there = ran (without_move m es) (lent_from l s) in
      let n = accesses_in es in
      let early = move-early m l s es n started guests messages fresh refl few (kept_from m es away) calls in
      let ended = undoing-leaves m guests n here there early some in
      let made = follows-here m l s es started calls ms with handed in
      let write = Register m.old_hart m.old_file 1 0x70 (get_or here.saved 0 0) in
      let on = alike write (unfold is_access row_of in refl) here early.beside.ready g t long in
      rw (made.left, made.saved, (follows-there m l s es started calls ns without).left) (
        ap (λ (x : Said). x.number) on.said ∙ undoing-said m guests n here there early some,
        ap (λ (b : List ℕ). old_in m (board_of b)) on.block ∙ ended.old,
        (λ k h o w. ap (λ (b : List ℕ). the_file (board_of b).files k) on.block ∙ ended.others k h o w),
        ap (λ (b : List ℕ). (board_of b).wired) on.block ∙ ended.wired,
      )),
  (λ m es few. pages-none m es 0 (omega arith)),
)
