-- Claim 118: the test of a board is that of each of its files and of its wired controller. Assumes nothing.
use Prim.Native.Nat.{ℕ, ◌+◌, ◌*◌, ◌/◌, ◌%◌, ◌<◌}
use mathlib.Core.Path.{◌≡◌, sym, subst}
use mathlib.Core.Bool.{Bool, true, not, ◌&&◌, ◌||◌}
use mathlib.Core.List.{List}
use mathlib.Core.Logic.{◌⊎◌, inl, inr, ⊎_elim}
use native.Mathlib.Omega.{arith}
use lib.Dec.{eqb, leb}
use lib.ListN.{length-take, length-drop}
use borrow.Author.Tests.{eqb-true, le-leb, lt-leb, leb-true, leb-false, not-true}
use Rattle.words.specs.Sets.{member}
use Rattle.words.proofs.TestsLaws.{and_first, and_second, and_both, or_cases}
use Rattle.file_select.specs.Deliveries.{delivery_legal}
use Rattle.file.specs.declared.File.{File}
use Rattle.file.specs.Rules.{delivery_rule, threshold_rule, zero_rule, file_sound}
use Rattle.files.specs.Files.{the_file, is_guest, files_sound}
use Rattle.files_laws.proofs.Keeps.{files_sound-1, files_sound-2}
use Rattle.wired_rules.specs.Rules.{wired_sound}
use Rattle.board_block.specs.Block.{board_of, board_sound}
use Rattle.claims_registers.specs.Rules.{Claim-72, Claim-73}
use Rattle.claims_registers.proofs.Rules.{claim-72, claim-73}
use Rattle.claims_board.specs.BoardRules.{FileKept, Claim-118}

-- ---- one file

module _ (f : ℕ) (x : File) where
  delivery-on : delivery_legal (leb 2 f) x.delivery ≡ true
      → (x.delivery ≡ 0) ⊎ (x.delivery ≡ 1) ⊎ ((f < 2) × (x.delivery ≡ 0x40000000))
  unfolding delivery_legal
  delivery-on e =
      let d = x.delivery in
      let low = not (leb 2 f) in
      ⊎_elim
      (λ s. ⊎_elim (λ z. inl (eqb-true d 0 z)) (λ o. inr (inl (eqb-true d 1 o)))
      (or_cases (eqb d 0) (eqb d 1) s))
      (λ w. inr (inr (
        leb-false 2 f (not-true (leb 2 f) (and_first low (eqb d 0x40000000) w)),
        eqb-true d 0x40000000 (and_second low (eqb d 0x40000000) w),
      )))
      (or_cases (eqb d 0 || eqb d 1) (low && eqb d 0x40000000) e)

  delivery-of : (x.delivery ≡ 0) ⊎ (x.delivery ≡ 1) ⊎ ((f < 2) × (x.delivery ≡ 0x40000000))
      → delivery_legal (leb 2 f) x.delivery ≡ true
  unfolding delivery_legal
  delivery-of =
      ⊎_elim (λ z. rw z) (⊎_elim (λ o. rw o) (λ (w : _). rw (w.1, lt-leb 2 f w.0)))

  kept_on : file_sound 255 (leb 2 f) x ≡ true → FileKept f x
  unfolding file_sound delivery_rule threshold_rule zero_rule
  kept_on e =
      let delivery = delivery_legal (leb 2 f) x.delivery in
      let threshold = leb x.threshold 255 in
      let pending = not (member x.pending 0) in
      let enable = not (member x.enable 0) in
      let both = and_first (delivery && threshold) (pending && enable) e in
      let zero = and_second (delivery && threshold) (pending && enable) e in
      record {
        delivery = delivery-on (and_first delivery threshold both);
        threshold = leb-true x.threshold 255 (and_second delivery threshold both);
        zero = (not-true _ (and_first pending enable zero), not-true _ (and_second pending enable zero));
      }

  kept_of : FileKept f x → file_sound 255 (leb 2 f) x ≡ true
  unfolding file_sound delivery_rule threshold_rule zero_rule
  kept_of k =
      simp (delivery-of k.delivery, le-leb x.threshold 255 k.threshold, k.zero.0, k.zero.1)

guest-is : (h f : ℕ) → f < 5 → is_guest (5 * h + f) ≡ leb 2 f
unfolding is_guest
guest-is h f low = let e : (5 * h + f) % 5 ≡ f = omega arith in rw e

-- ---- all of them

module _ (fs : List File) where
  files-on : files_sound fs ≡ true → (h f : ℕ) → h < 4 → f < 5 → FileKept f (the_file fs (5 * h + f))
  files-on e h f hart file =
      kept_on f _
      (subst (λ (g : Bool). file_sound 255 g (the_file fs (5 * h + f)) ≡ true) (guest-is h f file)
      (files_sound-1 fs e (5 * h + f) (omega arith)))

  files-of : ((h f : ℕ) → h < 4 → f < 5 → FileKept f (the_file fs (5 * h + f))) → files_sound fs ≡ true
  files-of p =
      files_sound-2 fs
      (λ k few. let h = k / 5 in
      let f = k % 5 in
      let file : f < 5 = omega arith in
      let number : 5 * h + f ≡ k = omega arith in
      subst (λ (n : ℕ). file_sound 255 (is_guest n) (the_file fs n) ≡ true) number
      (subst (λ (g : Bool). file_sound 255 g (the_file fs (5 * h + f)) ≡ true) (sym (guest-is h f file))
      (kept_of f _ (p h f (omega arith) file))))

pub claim-118 : Claim-118
unfolding Claim-118 board_sound board_of Claim-72 Claim-73
claim-118 = (
  (λ b long. let files = files_sound b.files in
      let wired = wired_sound b.wired in (
        (λ e. (
          files-on b.files (and_first files wired e),
          (claim-73 b.wired long).0 (and_second files wired e),
        )),
        (λ p. and_both files wired (files-of b.files p.0) ((claim-73 b.wired long).1 p.1)),
      )),
  (λ l long. claim-72.1 _ (simp (length-take, length-drop) (omega arith))),
)
