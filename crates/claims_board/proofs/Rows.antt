-- Claim-182, row by row. Assumes nothing.
use Prim.Native.Nat.{ℕ, ◌+◌, ◌*◌, ◌<◌}
use mathlib.Core.Path.{◌≡◌, refl, sym, ap, subst, ◌∙◌}
use mathlib.Core.Bool.{Bool, true, false, not, ◌&&◌, ◌||◌, true≢false, false≢true}
use lib.Dec.{eqb, leb}
use borrow.Author.Tests.{eqb-true}
use Rattle.words.proofs.TestsLaws.{tested}
use Rattle.files.specs.Files.{file_number}
use Rattle.domain_region.specs.declared.Word.{Word}
use Rattle.domain_region.specs.declared.Word.TheVariants.{Claimi}
use Rattle.domain_region.specs.declared.role.Role.{Role}
use Rattle.domain_region.specs.declared.role.Role.TheVariants.{Claims, Configures, Generates, Plain}
use Rattle.domain_region.specs.Region.{word_at}
use Rattle.domain_region.specs.Role.{role_of}
use Rattle.domain_region.proofs.RoleLaws.{claims-only}
use Rattle.board_call.specs.declared.Call.TheVariants.{DomainRead, Register, Move}
use Rattle.board_call.specs.Calls.{new_access, row_of}
use Rattle.board_runs.specs.Reading.{claims_by, only_reads}
use Rattle.claims_domain.specs.Region.{address_of, Numbered, Claim-130}
use Rattle.claims_domain.proofs.Region.{claim-130}
use Rattle.claims_board.specs.Closure.{part_touches, part_wire, touches_file}
use Rattle.claims_board.specs.Rows.{Claim-182}

reads_word : (d a : ℕ) → only_reads (DomainRead d a) ≡ not (claims_by (role_of (word_at a)))
unfolding only_reads row_of
reads_word d a = tested (claims_by (role_of (word_at a))) (λ t. rw t) (λ f. rw f)

-- where a read claims
module _ (a : ℕ) where
  abbrev AtClaimi : Type 0
  AtClaimi = (h : ℕ) × (h < 4) × (a ≡ 0x4000 + 32 * h + 0x1C)

  claims-on : claims_by (role_of (word_at a)) ≡ true → AtClaimi
  unfolding Claim-130 claims_by
  claims-on e = at (role_of (word_at a)) refl e
    where
      at : (x : Role) → role_of (word_at a) ≡ x → claims_by x ≡ true → AtClaimi
      at (Claims h) r t =
          let word = claims-only (word_at a) h r in
          let there = claim-130.1 a (λ u. true≢false (sym e ∙ ap (λ (w : Word). claims_by (role_of w)) u)) in
          (h, subst Numbered word there.0, there.1 ∙ ap address_of word)
      at (Configures i) r t = absurd (false≢true t)
      at Generates r t = absurd (false≢true t)
      at Plain r t = absurd (false≢true t)

  claims-of : (h : ℕ) → h < 4 → a ≡ 0x4000 + 32 * h + 0x1C → claims_by (role_of (word_at a)) ≡ true
  unfolding Claim-130 claims_by
  claims-of h l e =
      ap (λ (w : Word). claims_by (role_of w)) (ap word_at e ∙ claim-130.0 (Claimi h) l)

reads-register : (h f kind x v : ℕ) → only_reads (Register h f kind x v) ≡ eqb kind 0
unfolding only_reads row_of
reads-register h f kind x v = tested (eqb kind 0) (λ t. rw t) (λ f. rw f)

file-register : (h f kind x v k : ℕ)
    → touches_file (Register h f kind x v) k ≡ (not (eqb kind 0) && eqb k (5 * h + f))
unfolding row_of file_number
file-register h f kind x v k = tested (eqb kind 0) (λ t. rw t) (λ f. rw f)

or-none : (a : Bool) → a ≡ (a || false)
or-none true = refl
or-none false = refl

file-move : (oh of nh nf n k : ℕ)
    → touches_file (Move oh of nh nf n) k
    ≡ ((eqb n 3 && eqb k (5 * oh + of)) || (((leb 4 n && leb n 8) || leb 80 n) && eqb k (5 * nh + nf)))
unfolding row_of file_number
file-move oh of nh nf n k =
    tested (eqb n 3) (λ t. rw (eqb-true n 3 t) (or-none _))
    (λ f. rw f (tested (new_access n) (λ t. rw t) (λ u. rw u)))

pub claim-182 : Claim-182
unfolding Claim-182 only_reads row_of part_touches part_wire file_number
claim-182 = (
  record { reads = refl; sends = refl; wires = λ j. refl; files = λ k. refl; domains = λ w e. refl },
  (λ i level. record {
    reads = refl;
    sends = refl;
    wires = λ j. refl;
    files = λ k. refl;
    domains = λ w e. refl;
  }),
  (λ d a. record {
    reads = reads_word d a;
    sends = refl;
    wires = λ j. refl;
    files = λ k. refl;
    domains = λ w e. refl;
  }),
  (λ d a v. record {
    reads = refl;
    sends = refl;
    wires = λ j. refl;
    files = λ k. refl;
    domains = λ w e. refl;
  }),
  (λ h f a. record {
    reads = refl;
    sends = refl;
    wires = λ j. refl;
    files = λ k. refl;
    domains = λ w e. refl;
  }),
  (λ h f a v. record {
    reads = refl;
    sends = refl;
    wires = λ j. refl;
    files = λ k. refl;
    domains = λ w e. refl;
  }),
  (λ h f kind x v. record {
    reads = reads-register h f kind x v;
    sends = refl;
    wires = λ j. refl;
    files = file-register h f kind x v;
    domains = λ w e. refl;
  }),
  (λ h f. record {
    reads = refl;
    sends = refl;
    wires = λ j. refl;
    files = λ k. refl;
    domains = λ w e. refl;
  }),
  (λ h f. record {
    reads = refl;
    sends = refl;
    wires = λ j. refl;
    files = λ k. refl;
    domains = λ w e. refl;
  }),
  (λ h. record { reads = refl; sends = refl; wires = λ j. refl; files = λ k. refl; domains = λ w e. refl }),
  (λ oh of nh nf n. record {
    reads = refl;
    sends = refl;
    wires = λ j. refl;
    files = file-move oh of nh nf n;
    domains = λ w e. refl;
  }),
  (λ a. (claims-on a, (λ p. claims-of a p.0 p.1 p.2))),
)
