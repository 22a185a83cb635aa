-- Claims 143 and 144: which change the write to each register makes, so that claims 55, 56 and 58 speak
-- of the registers; and that what sets or clears a pending bit changes nothing else. 01, "The wired
-- controller". c says that a domain is the child.
--   swapped v    the four bytes of v in the other order
-- Premises: none. No axioms.
use Rattle.std.specs.Prelude.{ℕ, ◌+◌, ◌*◌, ◌/◌, ◌%◌, ◌^◌, ◌≡◌, Bool, true, false, List, ◌≢◌}
use Rattle.source_mode.specs.Mode.{is_active}
use Rattle.domain_region.specs.declared.Word.{Word}
use Rattle.domain_region.specs.declared.Word.TheVariants.{Domaincfg, Sourcecfg, Setip, Setipnum, InClrip}
use Rattle.domain_region.specs.declared.Word.TheVariants.{Clripnum}
use Rattle.domain_region.specs.declared.Word.TheVariants.{Setie, Setienum, Clrie, Clrienum, SetipnumLe}
use Rattle.domain_region.specs.declared.Word.TheVariants.{SetipnumBe, Target}
use Rattle.source.specs.declared.Source.{Source}
use Rattle.source.specs.declared.Change.TheVariants.{Pend, Clear, Enable, Disable}
use Rattle.source.specs.Pending.{changed}
use Rattle.domain.specs.Domain.{Domain}
use Rattle.domain_writes.specs.Writes.{word_changed, number_changed, target_written}
use Rattle.domain_domaincfg.specs.Domaincfg.{domaincfg_written}
use Rattle.domain_registers.specs.Write.{register_written}
use Rattle.wired_state.specs.Wires.{Wired}
use Rattle.wired_registers.specs.Wired.{written_in}
use Rattle.claims_domain.specs.Causes.{Cause, happens}
use Rattle.claims_domain.specs.Causes.Cause.{setip, clrip}

abbrev pub swapped : ℕ → ℕ
swapped v = v % 256 * 2 ^ 24 + v / 2 ^ 8 % 256 * 2 ^ 16 + v / 2 ^ 16 % 256 * 2 ^ 8 + v / 2 ^ 24 % 256

-- in a domain: setip and setipnum set pending bits, in_clrip and clripnum clear them, setie and setienum set
-- enable bits, clrie and clrienum clear them; setipnum_le takes the value as it is, setipnum_be its four
-- bytes reversed
abbrev pub ChangesMade : Type 0
ChangesMade =
    (c : Bool) (d : Domain) (wires : List ℕ) (v : ℕ)
    → let written : Word → Domain = λ r. register_written c d wires r v in
    ((k : ℕ) → (written (Setip k) ≡ word_changed d wires Pend k v)
    × (written (InClrip k) ≡ word_changed d wires Clear k v)
    × (written (Setie k) ≡ word_changed d wires Enable k v)
    × (written (Clrie k) ≡ word_changed d wires Disable k v))
    × (written Setipnum ≡ number_changed d wires Pend v) × (written Clripnum ≡ number_changed d wires Clear v)
    × (written Setienum ≡ number_changed d wires Enable v)
    × (written Clrienum ≡ number_changed d wires Disable v)
    × (written SetipnumLe ≡ number_changed d wires Pend v)
    × (written SetipnumBe ≡ number_changed d wires Pend (swapped v))
    × (written Domaincfg ≡ domaincfg_written d wires v)
    × ((i : ℕ) → written (Target i) ≡ target_written c d i v)

-- in the controller: a write to any register but a sourcecfg changes its own domain alone
abbrev pub OneDomain : Type 0
OneDomain =
    (w : Wired) (r : Word) (v : ℕ) → ((i : ℕ) → r ≢ Sourcecfg i)
    → (written_in w false r v
    ≡ record {
      wires =
          w.wires;
      machine = register_written false w.machine w.wires r v;
      child = w.child;
    })
    × (written_in w true r v
    ≡ record {
      wires =
          w.wires;
      machine = w.machine;
      child = register_written true w.child w.wires r v;
    })

-- which change the write to each register makes, and that it changes its own domain alone if it is no
-- sourcecfg
-- [01 W2 W5 W40]
unfoldable pub Claim-143 : Type 0
Claim-143 = ChangesMade × OneDomain

-- the causes of Claim-40 change the pending bit alone, and nothing of a source that is not active and, by its
-- rule, not pending; setip and in_clrip are two of them
unfoldable pub Claim-144 : Type 0
Claim-144 =
    (s : Source) (m : Bool)
    → ((k : Cause) → let after = happens s m k in
    (after.mode ≡ s.mode) × (after.target ≡ s.target) × (after.enabled ≡ s.enabled)
    × (is_active s.mode ≡ false → s.pending ≡ false → after ≡ s))
    × ((wire : Bool) → (changed s Pend m wire ≡ happens s m (setip wire))
    × (changed s Clear m wire ≡ happens s m clrip))
