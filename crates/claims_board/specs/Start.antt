-- Claim 160, on reset: what it answers and leaves of any block, as the next calls and as numbers. That it is
-- refused only by the lengths, Claim-84 and Claim-116 say. 01, "State rules", "Calls and their refusals".
--   FileAtStart f x     x, which is file f of its hart, is as after a reset
--   DomainAtStart d     either domain is
-- Premises: the block has 650 words and the log 63, whatever they hold. No axioms.
use Rattle.std.specs.Prelude.{ℕ, ◌+◌, ◌*◌, ◌≤◌, ◌<◌, ◌≡◌, Bool, false, List, length}
use Rattle.words.specs.Sets.{member}
use Rattle.file.specs.declared.File.{File}
use Rattle.files.specs.Files.{the_file}
use Rattle.domain.specs.Domain.{Domain, domaincfg_of, genmsi_of}
use Rattle.domain.specs.Slot.{source_at}
use Rattle.domain.specs.Structure.{structure_at}
use Rattle.wired_state.specs.Wires.{domain_in}
use Rattle.board_block.specs.Block.{board_of}
use Rattle.board_call.specs.declared.Call.{Call}
use Rattle.board_call.specs.declared.Call.TheVariants.{Reset, DomainRead}
use Rattle.board_call.specs.Refusal.{name_refusal, refusal_of}
use Rattle.board_call.specs.Outcome.{outcome}

pub record FileAtStart (f : ℕ) (x : File) : Type 0 where
  pub machine : f < 2 → x.delivery ≡ 0x40000000
  pub guest : 2 ≤ f → x.delivery ≡ 0
  pub threshold : x.threshold ≡ 0
  pub pending : (i : ℕ) → member x.pending i ≡ false
  pub enable : (i : ℕ) → member x.enable i ≡ false

pub record DomainAtStart (d : Domain) : Type 0 where
  pub domaincfg : domaincfg_of d ≡ 0
  pub genmsi : genmsi_of d ≡ 0
  pub mode : (i : ℕ) → 1 ≤ i → i ≤ 63 → (source_at d i).mode ≡ 0
  pub target : (i : ℕ) → 1 ≤ i → i ≤ 63 → (source_at d i).target ≡ 0
  pub pending : (i : ℕ) → (source_at d i).pending ≡ false
  pub enabled : (i : ℕ) → (source_at d i).enabled ≡ false
  pub idelivery : (h : ℕ) → h < 4 → (structure_at d h).idelivery ≡ 0
  pub iforce : (h : ℕ) → h < 4 → (structure_at d h).iforce ≡ 0
  pub ithreshold : (h : ℕ) → h < 4 → (structure_at d h).ithreshold ≡ 0

-- reset answers 0, sends nothing and leaves the log and any saved numbers. On what it leaves no call is
-- refused for its blocks, domaincfg reads 0x80000000 in both domains, delivery is 0x40000000 in files 0 and 1
-- of each hart, the wires are low, and everything else is 0
-- [01 C20 R9 R10]
unfoldable pub Claim-160 : Type 0
Claim-160 =
    (l g s : List ℕ) → length l ≡ 650 → length g ≡ 63
    → let o = outcome Reset l g s in
    let b = board_of o.block in
    (o.number ≡ 0) × (o.value ≡ 0) × (o.count ≡ 0) × (o.log ≡ g) × (o.saved ≡ s)
    × (length o.block ≡ 650) × ((c : Call) → refusal_of c o.block g ≡ name_refusal c b)
    × ((d : ℕ) → d < 2
    → let r = outcome (DomainRead d 0) o.block g s in (r.number ≡ 0) × (r.value ≡ 0x80000000))
    × ((h f : ℕ) → h < 4 → f < 5 → FileAtStart f (the_file b.files (5 * h + f)))
    × ((i : ℕ) → member b.wired.wires i ≡ false) × ((c : Bool) → DomainAtStart (domain_in b.wired c))
