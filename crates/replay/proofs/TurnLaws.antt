-- A piece that is taken in parts. Assumes nothing.
use Prim.Native.Nat.{ℕ, ◌+◌, ◌≤◌}
use mathlib.Core.Path.{◌≡◌, sym, ap, ◌∙◌}
use mathlib.Core.List.{List, []}
use native.Mathlib.Omega.{arith}
use lib.ListN.{length}
use lib.Seq.{slice, slice_empty, length-slice, take-length}
use Rattle.record_lines.specs.Lines.{kept}
use Rattle.record_lines.proofs.PartedLaws.{slice-both}
use Rattle.record_runs.specs.Replay.{Held, gone_on}
use Rattle.record_runs.proofs.RunLaws.{gone-both, gone-none}
use Rattle.record_runs.proofs.StepLaws.{number-le}
use Rattle.record_replay.specs.Pieces.{Went}

pub part_none : (xs : List ℕ) (h : Held) → kept h.line ≡ h.line → h ≡ gone_on (slice 0 0 xs) h
part_none xs h whole = sym (ap (λ (bs : List ℕ). gone_on bs h) (slice_empty 0 xs) ∙ gone-none h whole)

pub part-more : (xs : List ℕ) (m e : ℕ) (h h' h'' : Held) (b : List ℕ) → h' ≡ gone_on (slice 0 m xs) h →
    Went xs m h' [] e h'' b → h'' ≡ gone_on (slice 0 e xs) h
part-more xs m e h h' h'' b so_far w =
    w.held ∙ ap (gone_on (slice m e xs)) so_far
    ∙ sym (ap (λ (bs : List ℕ). gone_on bs h) (slice-both xs 0 m e (omega arith) w.start w.end)
    ∙ gone-both (slice 0 m xs) (slice m e xs) h)

pub part-all : (xs : List ℕ) (e : ℕ) (h h' : Held) → e ≡ length xs → h' ≡ gone_on (slice 0 e xs) h →
    h' ≡ gone_on xs h
part-all xs e h h' all so_far =
    so_far ∙ ap (λ (n : ℕ). gone_on (slice 0 n xs) h) all ∙ ap (λ (bs : List ℕ). gone_on bs h)
    (take-length xs)

pub part-number : (xs : List ℕ) (e : ℕ) (h h' : Held) → e ≤ length xs → h' ≡ gone_on (slice 0 e xs) h →
    h'.number ≤ h.number + e
part-number xs e h h' le so_far =
    omega (arith, number-le (slice 0 e xs) h, ap (λ (g : Held). g.number) so_far, length-slice 0 e xs le)
