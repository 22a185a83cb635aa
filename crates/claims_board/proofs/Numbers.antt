-- Claims 115 to 117: each test of a number is what the paper says of it; at the ends they are computed.
-- Assumes nothing.
use Prim.Native.Nat.{ℕ, ◌%◌, ◌≤◌, ◌<◌}
use mathlib.Core.Path.{◌≡◌, refl, ap, ◌∙◌}
use mathlib.Core.Bool.{true, false, true≢false, ◌&&◌}
use mathlib.Core.List.{List}
use mathlib.Core.Logic.{◌↔◌}
use lib.Dec.{eqb, leb, ltb}
use lib.ListN.{replicate}
use borrow.Author.Tests.{eq-eqb, eqb-true, lt-ltb, ltb-true, le-leb, leb-true}
use Rattle.words.proofs.TestsLaws.{and_first, and_second, and_both}
use Rattle.file_select.specs.Select.{select_legal}
use Rattle.domain_region.specs.Region.{address_legal}
use Rattle.domain_region.proofs.RegionLaws.{legal-iff}
use Rattle.board_block.specs.Block.{board_of, block_of, board_sound}
use Rattle.board_block.specs.Start.{start_board}
use Rattle.board_block_laws.proofs.BlockBack.{board-back, length-block_of}
use Rattle.board_block_laws.proofs.StartEffects.{start-sound, start-shaped}
use Rattle.board_call.specs.declared.Call.{Call}
use Rattle.board_call.specs.declared.Call.TheVariants.{Reset, Wire, DomainRead, DomainWrite, PageRead}
use Rattle.board_call.specs.declared.Call.TheVariants.{PageWrite, Register, Top, Claim, Signals, Move}
use Rattle.board_call.specs.Numbers.{is_wire, is_file, is_page_address}
use Rattle.board_call.specs.Calls.{tests_rules, row_of}
use Rattle.board_call.specs.Refusal.{name_refusal, name_tests, first_failed, name_refusal_by}
use Rattle.board_call.proofs.RefusalLaws.{blocks-sound, refused-numbers}
use Rattle.board_call_laws.proofs.OutcomeEffects.{outcome-number}
use Rattle.claims_file.specs.FileFacts.{Claim-30}
use Rattle.claims_file.proofs.FileFacts.{claim-30}
use Rattle.claims_board.specs.Numbers.{Claim-115, Claim-116, AtStart, Claim-117}

-- ---- the tests

wire-iff : (w level : ℕ) → (is_wire w level ≡ true) ↔ ((1 ≤ w) × (w ≤ 63) × (level ≤ 1))
unfolding is_wire
wire-iff w level = (
  (λ e. let first = and_first (leb 1 w && leb w 63) (leb level 1) e in (
    leb-true 1 w (and_first (leb 1 w) (leb w 63) first),
    leb-true w 63 (and_second (leb 1 w) (leb w 63) first),
    leb-true level 1 (and_second (leb 1 w && leb w 63) (leb level 1) e),
  )),
  (λ p. simp (le-leb 1 w p.0, le-leb w 63 p.1, le-leb level 1 p.2)),
)

below-iff : (a n : ℕ) → (ltb a n ≡ true) ↔ (a < n)
below-iff a n = (ltb-true a n, lt-ltb a n)

file-iff : (h f : ℕ) → (is_file h f ≡ true) ↔ ((h < 4) × (f < 5))
unfolding is_file
file-iff h f = (
  (λ e. (ltb-true h 4 (and_first (ltb h 4) (ltb f 5) e), ltb-true f 5 (and_second (ltb h 4) (ltb f 5) e))),
  (λ p. simp (lt-ltb h 4 p.0, lt-ltb f 5 p.1)),
)

kind-iff : (h f k : ℕ) → ((is_file h f && ltb k 4) ≡ true) ↔ ((h < 4) × (f < 5) × (k < 4))
kind-iff h f k = (
  (λ e. let there = (file-iff h f).0 (and_first (is_file h f) (ltb k 4) e) in
      (there.0, there.1, ltb-true k 4 (and_second (is_file h f) (ltb k 4) e))),
  (λ p. and_both (is_file h f) (ltb k 4) ((file-iff h f).1 (p.0, p.1)) (lt-ltb k 4 p.2)),
)

page-iff : (a : ℕ) → (is_page_address a ≡ true) ↔ ((a % 4 ≡ 0) × (a < 4096))
unfolding is_page_address
page-iff a = (
  (λ e. (
    eqb-true (a % 4) 0 (and_first (eqb (a % 4) 0) (ltb a 4096) e),
    ltb-true a 4096 (and_second (eqb (a % 4) 0) (ltb a 4096) e),
  )),
  (λ p. and_both (eqb (a % 4) 0) (ltb a 4096) (eq-eqb (a % 4) 0 p.0) (lt-ltb a 4096 p.1)),
)

pub claim-115 : Claim-115
unfolding Claim-115 row_of
claim-115 b = (
  refl,
  wire-iff,
  (λ d a. below-iff d 2),
  (λ d a v. below-iff d 2),
  (λ h f a. file-iff h f),
  (λ h f a v. file-iff h f),
  (λ h f k s v. kind-iff h f k),
  file-iff,
  file-iff,
  (λ h. below-iff h 4),
)

rules-iff : (c : Call) → (tests_rules c ≡ false) ↔ (c ≡ Reset)
unfolding row_of
rules-iff Reset = ((λ e. refl), (λ e. refl))
rules-iff (Wire w level) = ((λ e. absurd (true≢false e)), (λ e. ap tests_rules e))
rules-iff (DomainRead d a) = ((λ e. absurd (true≢false e)), (λ e. ap tests_rules e))
rules-iff (DomainWrite d a v) = ((λ e. absurd (true≢false e)), (λ e. ap tests_rules e))
rules-iff (PageRead h f a) = ((λ e. absurd (true≢false e)), (λ e. ap tests_rules e))
rules-iff (PageWrite h f a v) = ((λ e. absurd (true≢false e)), (λ e. ap tests_rules e))
rules-iff (Register h f k s v) = ((λ e. absurd (true≢false e)), (λ e. ap tests_rules e))
rules-iff (Top h f) = ((λ e. absurd (true≢false e)), (λ e. ap tests_rules e))
rules-iff (Claim h f) = ((λ e. absurd (true≢false e)), (λ e. ap tests_rules e))
rules-iff (Signals h) = ((λ e. absurd (true≢false e)), (λ e. ap tests_rules e))
rules-iff (Move oh of nh nf n) = ((λ e. absurd (true≢false e)), (λ e. ap tests_rules e))

pub claim-116 : Claim-116
unfolding Claim-116 row_of Claim-30
claim-116 = (
  (λ d a. legal-iff a),
  (λ d a v. legal-iff a),
  (λ h f a. page-iff a),
  (λ h f a v. page-iff a),
  (λ h f k s v. claim-30 s),
  refl,
  (λ w level. refl),
  (λ h f k s v. refl),
  (λ h f. refl),
  (λ h f. refl),
  (λ h. refl),
  (λ oh of nh nf n. refl),
  refl,
  (λ w level. refl),
  (λ d a. refl),
  (λ d a v. refl),
  (λ h f a. refl),
  (λ h f a v. refl),
  (λ h f. refl),
  (λ h f. refl),
  (λ h. refl),
  (λ oh of nh nf n. refl),
  rules-iff,
)

-- ---- both ends

at-start : (c : Call) (n : ℕ) → name_refusal c (board_of (block_of start_board)) ≡ n → AtStart c n
at-start c n e s =
    let l = block_of start_board in
    let g : List ℕ = replicate 63 0 in
    outcome-number c l g s ∙ refused-numbers (row_of c).tests l g
    (blocks-sound (tests_rules c) l g (length-block_of start_board start-shaped) refl
    (ap board_sound (board-back start_board start-shaped) ∙ start-sound))
    ∙ e

pub claim-117 : Claim-117
unfolding Claim-117 name_refusal_by name_tests first_failed row_of is_wire is_file is_page_address
    address_legal
    select_legal
claim-117 = (
  (
    at-start (Wire 0 0) 4 refl,
    at-start (Wire 1 0) 0 refl,
    at-start (Wire 63 1) 0 refl,
    at-start (Wire 64 1) 4 refl,
    at-start (Wire 63 2) 4 refl,
  ),
  (
    at-start (DomainRead 1 0x4FFC) 0 refl,
    at-start (DomainRead 2 0) 4 refl,
    at-start (DomainRead 1 0x5000) 5 refl,
    at-start (DomainRead 1 2) 5 refl,
  ),
  (
    at-start (DomainWrite 1 0x4FFC 0) 0 refl,
    at-start (DomainWrite 2 0 0) 4 refl,
    at-start (DomainWrite 1 0x5000 0) 5 refl,
    at-start (DomainWrite 1 2 0) 5 refl,
  ),
  (
    at-start (PageRead 3 4 0xFFC) 0 refl,
    at-start (PageRead 4 4 0) 4 refl,
    at-start (PageRead 3 5 0) 4 refl,
    at-start (PageRead 3 4 0x1000) 5 refl,
    at-start (PageRead 3 4 2) 5 refl,
  ),
  (
    at-start (PageWrite 3 4 0xFFC 0) 0 refl,
    at-start (PageWrite 4 4 0 0) 4 refl,
    at-start (PageWrite 3 5 0 0) 4 refl,
    at-start (PageWrite 3 4 0x1000 0) 5 refl,
    at-start (PageWrite 3 4 2 0) 5 refl,
  ),
  (
    at-start (Register 3 4 3 0x70 0) 0 refl,
    at-start (Register 4 4 3 0x70 0) 4 refl,
    at-start (Register 3 5 3 0x70 0) 4 refl,
    at-start (Register 3 4 4 0x70 0) 4 refl,
  ),
  (
    at-start (Register 3 4 3 0x6F 0) 6 refl,
    at-start (Register 3 4 3 0x7F 0) 0 refl,
    at-start (Register 3 4 3 0x80 0) 0 refl,
    at-start (Register 3 4 3 0x81 0) 6 refl,
    at-start (Register 3 4 3 0xFE 0) 0 refl,
    at-start (Register 3 4 3 0xFF 0) 6 refl,
    at-start (Register 3 4 3 0x100 0) 6 refl,
  ),
  (at-start (Top 3 4) 0 refl, at-start (Top 4 4) 4 refl, at-start (Top 3 5) 4 refl),
  (at-start (Claim 3 4) 0 refl, at-start (Claim 4 4) 4 refl, at-start (Claim 3 5) 4 refl),
  (at-start (Signals 3) 0 refl, at-start (Signals 4) 4 refl),
  at-start Reset 0 refl,
  (
    at-start (DomainRead 2 2) 4 refl,
    at-start (PageRead 4 0 2) 4 refl,
    at-start (Register 0 0 4 0x81 0) 4 refl,
  ),
)
