-- Claims 94 and 95, on a write to sourcecfg: what becomes of the source, and of the child's where the
-- delegation changes. 01, "The wired controller"; the standard 4.5.2, 4.7. What number is stored, Claim-137
-- says.
--   Remoded m wire s v s'   s' is s after its sourcecfg word became v; m: the delivery mode, true by messages
-- Premises: 94 has none; 95 has that the lists of the child have their lengths (`DomainShaped`), and i < 64.
-- No axioms.
use Rattle.std.specs.Prelude.{ℕ, ◌<◌, ◌≤◌, ◌≡◌, Bool, true, false, cond, not, ◌&&◌, ◌||◌, ◌≢◌, ◌↔◌}
use Rattle.words.specs.Bits.{has_bit}
use Rattle.source_mode.specs.Mode.{is_active, is_level, is_rectified}
use Rattle.source.specs.declared.Source.{Source}
use Rattle.domain_region.specs.declared.Word.TheVariants.{Sourcecfg}
use Rattle.source.specs.Pending.{moded}
use Rattle.domain.specs.Slot.{source_at}
use Rattle.domain_laws.specs.Shape.{DomainShaped}
use Rattle.wired_state.specs.Wires.{Wired, is_delegated}
use Rattle.wired_registers.specs.Wired.{written_in}

-- its rectified value rises by the write
abbrev pub rises : Bool → Source → ℕ → Bool
rises wire s v = not (is_rectified s.mode wire) && is_rectified v wire

pub record Remoded (m wire : Bool) (s : Source) (v : ℕ) (s' : Source) : Type 0 where
  pub mode : s'.mode ≡ v
  -- inactive: target, pending and enable are 0
  pub off : is_active v ≡ false → (s'.target ≡ 0) × (s'.pending ≡ false) × (s'.enabled ≡ false)
  -- on becoming active, enable is 0 and the target has its start value
  pub on : is_active v ≡ true → is_active s.mode ≡ false → (s'.enabled ≡ false) × (s'.target ≡ cond m 0 1)
  -- between active modes both are kept
  pub kept : is_active v ≡ true → is_active s.mode ≡ true
      → (s'.enabled ≡ s.enabled) × (s'.target ≡ s.target)
  -- no level source: pending is set by a rise, and kept between active modes
  pub edge : is_active v ≡ true → is_level v ≡ false
      → s'.pending ≡ ((is_active s.mode && s.pending) || rises wire s v)
  -- a level source in direct mode is pending exactly while its rectified value is high
  pub direct : is_active v ≡ true → is_level v ≡ true → m ≡ false → s'.pending ≡ is_rectified v wire
  -- by messages it is so only while that is high, by a rise or as it was
  pub messages : is_active v ≡ true → is_level v ≡ true → m ≡ true
      → s'.pending ≡ (is_rectified v wire && ((is_active s.mode && s.pending) || rises wire s v))

-- what a sourcecfg write makes of its source: zeros if it becomes inactive, a start if it becomes active, and
-- its pending bit by 4.7
-- [01 W22 W23 W24 W27]
unfoldable pub Claim-94 : Type 0
Claim-94 = (m wire : Bool) (s : Source) (v : ℕ) → Remoded m wire s v (moded s m v wire)

-- a write to sourcecfg[i] of the machine domain: where the source is newly delegated or taken back, the
-- child's is all zeros; where not, the child is as it was; and every other source of the child is. A source
-- is delegated exactly if its sourcecfg in the machine domain is 1024 or more
-- [01 W17]
unfoldable pub Claim-95 : Type 0
Claim-95 =
    ((w : Wired) (i v : ℕ) → DomainShaped w.child → i < 64
    → let now = has_bit v 10 in
    let after = (written_in w false (Sourcecfg i) v).child in
    (is_delegated w i ≡ now → after ≡ w.child)
    × (is_delegated w i ≢ now
    → source_at after i
    ≡ record { mode = 0; target = 0; pending = false; enabled = false })
    × ((j : ℕ) → j ≢ i → source_at after j ≡ source_at w.child j))
    × ((w : Wired) (i : ℕ) → (is_delegated w i ≡ true) ↔ (1024 ≤ (source_at w.machine i).mode))
