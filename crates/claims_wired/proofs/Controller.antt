-- Claims 76 to 79, by the laws of the wired controller's calls. Assumes nothing.
use Prim.Native.Nat.{ℕ}
use mathlib.Core.Path.{◌≡◌, refl, ap}
use mathlib.Core.Bool.{Bool}
use mathlib.Core.List.{[], append-nil}
use mathlib.Core.Logic.{◌≢◌, inl, inr}
use native.Mathlib.Omega.{arith}
use Rattle.domain_region.specs.declared.Word.{Word}
use Rattle.domain_region.specs.declared.Word.TheVariants.{Genmsi}
use Rattle.domain_region.proofs.RoleLaws.{generates-only}
use Rattle.wired_state.specs.Wires.{Wired, domain_in, wire_set}
use Rattle.wired_registers.specs.Wired.{written_in}
use Rattle.domain_sending.specs.Sending.{Sent}
use Rattle.domain_genmsi.specs.Genmsi.{genmsi_sent}
use Rattle.wired_rules_laws.specs.Steady.{WiredSteady, WiredQuiet}
use Rattle.wired_rules_laws.proofs.SoundParts.{wired-sound-steady, wired-sound-quiet}
use Rattle.wired.specs.Controller.{flushed, genmsi_as, genmsi_by, wire_call, write_call, OneSends}
use Rattle.wired.proofs.ControllerLaws.{genmsi-else}
use Rattle.wired.proofs.CallLaws.{one-wire_set, one-written_in, read-silent, genmsi-silent}
use Rattle.wired_laws.proofs.OutEffects.{wire-count, wire-exists, write-count, write-exists}
use Rattle.wired_laws.proofs.OutEffects.{wire-sound, read-sound, write-sound}
use Rattle.claims_registers.specs.Rules.{Sound}
use Rattle.claims_wired.specs.Controller.{Sends, OneAtMost, Claim-76, Claim-77, Claim-78, Claim-79}

pub claim-76 : Claim-76
unfolding Claim-76
claim-76 = (
  (λ l b b' g g' i n level learnt. learnt),
  (λ l b b' c r v learnt. learnt),
  (λ l b b' g g' c r v n learnt. learnt),
)

-- what Sound says, in the two halves of the laws
pub steady : (w : Wired) → Sound w → WiredSteady w
steady w (lists, sound) = wired-sound-steady w sound lists.0 lists.1 lists.2

pub quiet : (w : Wired) → Sound w → WiredQuiet w
quiet w (lists, sound) = wired-sound-quiet w sound

one : (w : Wired) → OneSends w → OneAtMost w
one w (inl e) = inl e
one w (inr e) = inr (ap (λ (s : Sent). s.messages) e)

-- a write to genmsi, with nothing to be sent after it
genmsi-alone : (w : Wired) (c : Bool) (v : ℕ)
    → flushed (written_in w c Genmsi v) ≡ record { wired = written_in w c Genmsi v; messages = [] }
    → write_call w c Genmsi v
    ≡ record { wired = written_in w c Genmsi v; messages = genmsi_sent c (domain_in w c) v }
unfolding write_call genmsi_by genmsi_as
genmsi-alone w c v silent = rw (silent, append-nil (genmsi_sent c (domain_in w c) v))

-- a write to any other register, with what is to be sent after it
change-alone : (w : Wired) (c : Bool) (r : Word) (v : ℕ) → r ≢ Genmsi
    → Sends (written_in w c r v) (write_call w c r v)
unfolding write_call flushed
change-alone w c r v n =
    rw (genmsi-else c (domain_in w c) r v (λ e. n (generates-only r e))) (refl, refl)

pub claim-77 : Claim-77
unfolding Claim-77 wire_call flushed
claim-77 w s =
    let a = steady w s in
    let q = quiet w s in (
      (λ i l h level. ((refl, refl), one (wire_set w i level) (one-wire_set w a q i l (omega arith) level))),
      (λ c r. read-silent w a q c r),
      (λ c r b v n. (change-alone w c r v n, one (written_in w c r v) (one-written_in w a q c r b v))),
      (λ c v. genmsi-alone w c v (genmsi-silent w a q c Genmsi refl v)),
    )

pub claim-78 : Claim-78
unfolding Claim-78
claim-78 w s = (
  (λ i l h level. (wire-count w (steady w s) (quiet w s) i l (omega arith) level, wire-exists w i level)),
  (λ c r b v. (write-count w (steady w s) (quiet w s) c r b v, write-exists w c r v)),
)

pub claim-79 : Claim-79
unfolding Claim-79
claim-79 w s = (
  (λ i l h level. wire-sound w (steady w s) i l (omega arith) level),
  (λ c r. read-sound w (steady w s) c r),
  (λ c r b v. write-sound w (steady w s) c r b v),
)
