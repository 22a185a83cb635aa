-- Claims 138 and 140, on reads and writes of every register: what is read where something was just written,
-- before anything is sent, and that a read changes nothing but for a claimi. 01, "The wired controller",
-- "Direct delivery and signals". c says that the domain is the child.
--   read_back w c v r    what register r of that domain reads after v was written to it
--   ReadsBack w c v      one line for each register
-- Premises: 138 has `Sound w`, the state rules; 140 none. No axioms.
use Rattle.std.specs.Prelude.{ℕ, ◌+◌, ◌*◌, ◌/◌, ◌%◌, ◌^◌, ◌≤◌, ◌<◌, ◌≡◌, Bool, true, false, cond, not, ◌&&◌}
use Rattle.std.specs.Prelude.{◌||◌, ◌≢◌, eqb}
use Rattle.words.specs.Bits.{has_bit}
use Rattle.words.specs.Sets.{member}
use Rattle.source_mode.specs.Mode.{is_active, is_level, is_rectified}
use Rattle.domain_region.specs.declared.Word.{Word}
use Rattle.domain_region.specs.declared.Word.TheVariants.{Domaincfg, Sourcecfg, Setip, Setipnum, InClrip}
use Rattle.domain_region.specs.declared.Word.TheVariants.{Clripnum}
use Rattle.domain_region.specs.declared.Word.TheVariants.{Setie, Setienum, Clrie, Clrienum, SetipnumLe}
use Rattle.domain_region.specs.declared.Word.TheVariants.{SetipnumBe}
use Rattle.domain_region.specs.declared.Word.TheVariants.{Genmsi, Target, Idelivery, Iforce, Ithreshold}
use Rattle.domain_region.specs.declared.Word.TheVariants.{Topi}
use Rattle.domain_region.specs.declared.Word.TheVariants.{Claimi, Unused}
use Rattle.domain.specs.Domain.{Domain, by_messages}
use Rattle.domain.specs.Slot.{source_at}
use Rattle.domain_direct.specs.Direct.{hart_claimed}
use Rattle.domain_registers.specs.Read.{claimed_by}
use Rattle.wired_state.specs.Wires.{Wired, domain_in}
use Rattle.wired_registers.specs.Wired.{read_in, claimed_in, written_in}
use Rattle.claims_registers.specs.Rules.{Sound}
use Rattle.claims_registers.specs.Registers.{Bit}
use Rattle.claims_registers.specs.Sourcecfg.{ModeOf}

-- ---- write, then read

abbrev pub read_back : Wired → Bool → ℕ → Word → ℕ
read_back w c v r = read_in (written_in w c r v) c r

-- a write of the setip family sets the pending bit of a source: an active one, and a level source only by
-- messages while its rectified value is high
abbrev pub sets_pending : Wired → Bool → ℕ → Bool
sets_pending w c i =
    let s = source_at (domain_in w c) i in
    is_active s.mode
    && (not (is_level s.mode) || (by_messages (domain_in w c) && is_rectified s.mode (member w.wires i)))

pub record ReadsBack (w : Wired) (c : Bool) (v : ℕ) : Type 0 where
  -- IE and DM of what was written, below 0x80
  pub domaincfg : read_back w c v Domaincfg ≡ 0x80000000 + v / 256 % 2 * 256 + v / 4 % 2 * 4
  -- a delegation or a mode; in the child a mode, of a delegated source
  pub sourcecfg : (i : ℕ) → 1 ≤ i → i ≤ 63 → c ≡ false
      → (v / 1024 % 2 ≡ 1 → read_back w c v (Sourcecfg i) ≡ 1024)
      × (v / 1024 % 2 ≡ 0 → ModeOf v (read_back w c v (Sourcecfg i)))
  pub child-sourcecfg : (i : ℕ) → 1 ≤ i → i ≤ 63 → c ≡ true
      → (v / 1024 % 2 ≡ 1 → read_back w c v (Sourcecfg i) ≡ 0)
      × ((source_at w.machine i).mode ≢ 1024 → read_back w c v (Sourcecfg i) ≡ 0)
      × (v / 1024 % 2 ≡ 0 → (source_at w.machine i).mode ≡ 1024 → ModeOf v (read_back w c v (Sourcecfg i)))
  -- bit n of word k, which is source 32 k + n: what it was, or set; source 0 reads 0
  pub setip : (k n : ℕ) → k < 2 → n < 32 → 1 ≤ 32 * k + n
      → Bit (read_back w c v (Setip k)) n
      ((source_at (domain_in w c) (32 * k + n)).pending || (has_bit v n && sets_pending w c (32 * k + n)))
  pub setie : (k n : ℕ) → k < 2 → n < 32 → 1 ≤ 32 * k + n
      → Bit (read_back w c v (Setie k)) n
      ((source_at (domain_in w c) (32 * k + n)).enabled
      || (has_bit v n && is_active (source_at (domain_in w c) (32 * k + n)).mode))
  pub zero : Bit (read_back w c v (Setip 0)) 0 false × Bit (read_back w c v (Setie 0)) 0 false
  -- the rectified values, as before: no mode and no wire changes
  pub in-clrip : (k : ℕ) → k < 2 → read_back w c v (InClrip k) ≡ read_in w c (InClrip k)
  pub clrie : (k : ℕ) → k < 2 → read_back w c v (Clrie k) ≡ 0
  pub numbers : (read_back w c v Setipnum ≡ 0) × (read_back w c v Clripnum ≡ 0)
      × (read_back w c v Setienum ≡ 0) × (read_back w c v Clrienum ≡ 0)
      × (read_back w c v SetipnumLe ≡ 0) × (read_back w c v SetipnumBe ≡ 0)
  -- hart and identity
  pub genmsi : read_back w c v Genmsi ≡ cond (by_messages (domain_in w c))
      (v / 2 ^ 18 % 4 * 2 ^ 18 + v % 256) 0
  -- hart and priority, a written 0 becoming 1; by messages hart, in the child guest index, and identity
  pub target : (i : ℕ) → 1 ≤ i → i ≤ 63 → is_active (source_at (domain_in w c) i).mode ≡ true
      → read_back w c v (Target i)
      ≡ v / 2 ^ 18 % 4 * 2 ^ 18
      + cond (by_messages (domain_in w c)) (cond c (v / 2 ^ 12 % 4 * 2 ^ 12) 0 + v % 256)
      (cond (eqb (v % 256) 0) 1 (v % 256))
  pub inactive-target : (i : ℕ) → 1 ≤ i → i ≤ 63 → is_active (source_at (domain_in w c) i).mode ≡ false
      → read_back w c v (Target i) ≡ 0
  -- only 0 and 1 are stored, of ithreshold the low 8 bits; by messages all read 0
  pub idelivery : (h : ℕ) → h < 4 → by_messages (domain_in w c) ≡ false
      → (v ≤ 1 → read_back w c v (Idelivery h) ≡ v)
      × (1 < v → read_back w c v (Idelivery h) ≡ read_in w c (Idelivery h))
  pub iforce : (h : ℕ) → h < 4 → by_messages (domain_in w c) ≡ false
      → (v ≤ 1 → read_back w c v (Iforce h) ≡ v) ×
      (1 < v → read_back w c v (Iforce h) ≡ read_in w c (Iforce h))
  pub ithreshold : (h : ℕ) → h < 4 → by_messages (domain_in w c) ≡ false
      → read_back w c v (Ithreshold h) ≡ v % 256
  pub by-messages : (h : ℕ) → h < 4 → by_messages (domain_in w c) ≡ true
      → (read_back w c v (Idelivery h) ≡ 0) × (read_back w c v (Iforce h) ≡ 0)
      × (read_back w c v (Ithreshold h) ≡ 0)
  -- writes are ignored
  pub topi : (h : ℕ) → h < 4 → read_back w c v (Topi h) ≡ read_in w c (Topi h)
  pub claimi : (h : ℕ) → h < 4 → read_back w c v (Claimi h) ≡ read_in w c (Claimi h)
  pub unused : read_back w c v Unused ≡ 0

-- what every register reads where v was just written to it, before anything is sent
-- [01 W29 W34]
unfoldable pub Claim-138 : Type 0
Claim-138 = (w : Wired) → Sound w → (c : Bool) (v : ℕ) → ReadsBack w c v

-- ---- what a read leaves

-- a read leaves the controller as it was, if the register is no claimi; a claimi leaves its domain as a
-- claim leaves it, and the rest as it was
unfoldable pub Claim-140 : Type 0
Claim-140 =
    ((d : Domain) (r : Word) → ((h : ℕ) → r ≢ Claimi h) → claimed_by d r ≡ d)
    × ((w : Wired) (c : Bool) (r : Word) → ((h : ℕ) → r ≢ Claimi h) → claimed_in w c r ≡ w)
    × ((w : Wired) (h : ℕ)
    → (claimed_in w false (Claimi h)
    ≡ record { wires = w.wires; machine = hart_claimed w.machine h; child = w.child })
    × (claimed_in w true (Claimi h)
    ≡ record { wires = w.wires; machine = w.machine; child = hart_claimed w.child h }))
