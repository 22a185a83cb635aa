-- Claim-182: what the table of the calls says that each call may change and send, in plain numbers, so that a
-- table that says more, and claims 150 to 154 and 156 with it less, is seen. 01, "Calls and their refusals".
--   RowSays c r s j k t   the row of c says: that it only reads, r; that it may send, s; which wires it may
--                         change, j; which files, by number 5 h + f, k; and what of each domain, t
-- Premises: none. No axioms.
use Rattle.std.specs.Prelude.{ℕ, ◌+◌, ◌*◌, ◌<◌, ◌≡◌, Bool, true, false, cond, not, ◌&&◌, ◌||◌, ◌↔◌, eqb, leb}
use Rattle.domain_region.specs.Region.{word_at}
use Rattle.domain_region.specs.Role.{role_of}
use Rattle.wired_state.specs.Wires.{Wired}
use Rattle.board_call.specs.declared.Call.{Call}
use Rattle.board_call.specs.declared.Call.TheVariants.{Reset, Wire, DomainRead, DomainWrite, PageRead}
use Rattle.board_call.specs.declared.Call.TheVariants.{PageWrite, Register, Top, Claim, Signals, Move}
use Rattle.board_runs.specs.Reading.{claims_by, only_reads}
use Rattle.claims_wired.specs.Kept.{Touch, none, sources, nothing, writes_in, reads_in}
use Rattle.claims_board.specs.Closure.{all, everything, retargets, touches, touches_wire, may_send}
use Rattle.claims_board.specs.Closure.{touches_file}

pub record RowSays (c : Call) (r s : Bool) (wire file : ℕ → Bool) (t : Wired → Bool → Touch) : Type 0 where
  pub reads : only_reads c ≡ r
  pub sends : may_send c ≡ s
  pub wires : (j : ℕ) → touches_wire c j ≡ wire j
  pub files : (k : ℕ) → touches_file c k ≡ file k
  pub domains : (w : Wired) (e : Bool) → touches c w e ≡ t w e

abbrev pub no_domain : Wired → Bool → Touch
no_domain w e = nothing

-- each call by name: whether it only reads, whether it may send, and which wires, files and parts of a domain
-- it may change, no more and no less. A read of a word of a domain claims at the address of a claimi alone
unfoldable pub Claim-182 : Type 0
Claim-182 =
    RowSays Reset false false all all (λ w e. everything)
    × ((i level : ℕ) → RowSays (Wire i level) false true (eqb i) none (λ w e. sources (eqb i) none none none))
    × ((d a : ℕ) → RowSays (DomainRead d a) (not (claims_by (role_of (word_at a)))) false none none
    (λ w e. reads_in w (eqb d 1) (word_at a) e))
    × ((d a v : ℕ) → RowSays (DomainWrite d a v) false true none none
    (λ w e. writes_in w (eqb d 1) (word_at a) v e))
    × ((h f a : ℕ) → RowSays (PageRead h f a) true false none none no_domain)
    × ((h f a v : ℕ) → RowSays (PageWrite h f a v) false false none (λ k. eqb k (5 * h + f)) no_domain)
    × ((h f kind x v : ℕ) → RowSays (Register h f kind x v) (eqb kind 0) false none
    (λ k. not (eqb kind 0) && eqb k (5 * h + f)) no_domain)
    × ((h f : ℕ) → RowSays (Top h f) true false none none no_domain)
    × ((h f : ℕ) → RowSays (Claim h f) false false none (λ k. eqb k (5 * h + f)) no_domain)
    × ((h : ℕ) → RowSays (Signals h) true false none none no_domain)
    × ((oh of nh nf n : ℕ) → RowSays (Move oh of nh nf n) false false none
    (λ k. (eqb n 3 && eqb k (5 * oh + of)) || (((leb 4 n && leb n 8) || leb 80 n) && eqb k (5 * nh + nf)))
    (λ w e. cond e (sources none none (retargets oh of n w) none) nothing))
    × ((a : ℕ) → (claims_by (role_of (word_at a)) ≡ true)
    ↔ ((h : ℕ) × (h < 4) × (a ≡ 0x4000 + 32 * h + 0x1C)))
