-- Claim 176: each part of the board is a stretch of a stretch of the block. Assumes nothing.
use Prim.Native.Nat.{ℕ, ◌+◌, ◌*◌, ◌/◌, ◌%◌, ◌≤◌, ◌<◌}
use mathlib.Core.Path.{◌≡◌, sym, ap, subst, ◌∙◌}
use mathlib.Core.Bool.{Bool, true, false, cond}
use mathlib.Core.List.{List}
use native.Mathlib.Omega.{arith}
use lib.ListN.{get_or, take, drop}
use lib.Seq.{get_or-take}
use Rattle.words.specs.Bits.{has_bit}
use Rattle.words.specs.Sets.{member}
use Rattle.words.proofs.SetsLaws.{member-word}
use Rattle.file_words.specs.Stored.{file_at}
use Rattle.files.specs.Files.{the_file, files_of}
use Rattle.files.proofs.FilesLaws.{the_file-files_of}
use Rattle.domain.specs.Domain.{domain_of, domaincfg_of, genmsi_of}
use Rattle.domain.specs.Slot.{source_at}
use Rattle.domain.specs.Structure.{structure_at}
use Rattle.words.proofs.SegmentLaws.{segment-at}
use Rattle.domain.proofs.DomainLaws.{read-source, read-target, read-pending, read-enable, read-delivery}
use Rattle.wired_state.specs.Wires.{wired_of, domain_in}
use Rattle.board_block.specs.Block.{board_of}
use Rattle.claims_board.specs.Places.{FilePlaces, DomainPlaces, Claim-176}

-- a number of a set whose word is word p of the block
bit_at : (l ws : List ℕ) (i p : ℕ) → get_or ws (i / 32) 0 ≡ get_or l p 0
    → member ws i ≡ has_bit (get_or l p 0) (i % 32)
bit_at l ws i p e = sym (member-word ws i) ∙ ap (λ (w : ℕ). has_bit w (i % 32)) e

-- ---- the files

module _ (l : List ℕ) (at : ℕ) (low : at ≤ 342) where
  file-set : (from i p : ℕ) → i ≤ 255 → from ≤ 10 → at + from + i / 32 ≡ p
      → member (take 8 (drop (at + from) (take 360 l))) i ≡ has_bit (get_or l p 0) (i % 32)
  file-set from i p few inside place =
      bit_at l _ i p
      (segment-at (take 360 l) (at + from) 8 (i / 32) (omega arith)
      ∙ get_or-take 360 l (at + from + i / 32) 0 (omega arith) ∙ ap (λ (q : ℕ). get_or l q 0) place)

  file-places : FilePlaces l at (file_at (take 360 l) at)
  unfolding file_at
  file-places =
      record {
        delivery = get_or-take 360 l at 0 (omega arith);
        threshold = get_or-take 360 l (at + 1) 0 (omega arith);
        pending = λ i few. file-set 2 i (at + 2 + i / 32) few (omega arith) (omega arith);
        enable = λ i few. file-set 10 i (at + 10 + i / 32) few (omega arith) (omega arith);
      }

files-places : (l : List ℕ) (h f : ℕ) → h < 4 → f < 5
    → FilePlaces l (18 * (5 * h + f)) (the_file (files_of (take 360 l)) (5 * h + f))
files-places l h f hart file =
    let k = 5 * h + f in
    subst (FilePlaces l (18 * k)) (sym (the_file-files_of (take 360 l) k (omega arith)))
    (file-places l (18 * k) (omega arith))

-- ---- the wired controller

wires-places : (l : List ℕ) (i : ℕ) → i ≤ 63
    → member (take 2 (take 290 (drop 360 l))) i ≡ has_bit (get_or l (360 + i / 32) 0) (i % 32)
wires-places l i few =
    bit_at l _ i (360 + i / 32)
    (get_or-take 2 (take 290 (drop 360 l)) (i / 32) 0 (omega arith)
    ∙ segment-at l 360 290 (i / 32) (omega arith))

module _ (l : List ℕ) (a : ℕ) (low : a ≤ 146) where
  abbrev words : List ℕ
  words = take 144 (drop a (take 290 (drop 360 l)))

  abbrev at : ℕ
  at = 360 + a

  word-at : (i p : ℕ) → i < 144 → at + i ≡ p → get_or words i 0 ≡ get_or l p 0
  word-at i p few place =
      let same : 360 + (a + i) ≡ p = omega arith in
      segment-at (take 290 (drop 360 l)) a 144 i few ∙ segment-at l 360 290 (a + i) (omega arith)
      ∙ ap (λ (q : ℕ). get_or l q 0) same

  domain-places : DomainPlaces l at (domain_of words)
  unfolding domaincfg_of genmsi_of source_at structure_at
  domain-places =
      record {
        domaincfg = sym (read-source words 0 (omega arith)) ∙ word-at 0 at (omega arith) (omega arith);
        mode =
            λ i some few. sym (read-source words i (omega arith))
            ∙ word-at i (at + i) (omega arith) (omega arith);
        genmsi =
            sym (read-target words 0 (omega arith)) ∙ word-at 64 (at + 64) (omega arith) (omega arith);
        target =
            λ i some few. sym (read-target words i (omega arith))
            ∙ word-at (64 + i) (at + 64 + i) (omega arith) (omega arith);
        pending =
            λ i few. bit_at l _ i (at + 128 + i / 32)
            (sym (read-pending words (i / 32) (omega arith))
            ∙ word-at (128 + i / 32) (at + 128 + i / 32) (omega arith) (omega arith));
        enable =
            λ i few. bit_at l _ i (at + 130 + i / 32)
            (sym (read-enable words (i / 32) (omega arith))
            ∙ word-at (130 + i / 32) (at + 130 + i / 32) (omega arith) (omega arith));
        idelivery =
            λ h hart. sym (read-delivery words (3 * h) (omega arith))
            ∙ word-at (132 + 3 * h) (at + 132 + 3 * h) (omega arith) (omega arith);
        iforce =
            λ h hart. sym (read-delivery words (3 * h + 1) (omega arith))
            ∙ word-at (132 + (3 * h + 1)) (at + 133 + 3 * h) (omega arith) (omega arith);
        ithreshold =
            λ h hart. sym (read-delivery words (3 * h + 2) (omega arith))
            ∙ word-at (132 + (3 * h + 2)) (at + 134 + 3 * h) (omega arith) (omega arith);
      }

domains-places : (l : List ℕ) (c : Bool)
    → DomainPlaces l (cond c 506 362) (domain_in (wired_of (take 290 (drop 360 l))) c)
unfolding wired_of domain_in
domains-places l true = domain-places l 146 (omega arith)
domains-places l false = domain-places l 2 (omega arith)

pub claim-176 : Claim-176
unfolding Claim-176 board_of wired_of
claim-176 l = (files-places l, wires-places l, domains-places l)
