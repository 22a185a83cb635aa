-- Claim-141, from the laws of sets and of replaced sources. Assumes nothing.
use Prim.Native.Nat.{◌/◌, ◌<◌}
use native.Mathlib.Omega.{arith}
use lib.ListN.{length}
use Rattle.words.proofs.SetsLaws.{member-put-same, member-put-other}
use Rattle.wired_state.specs.Wires.{wire_set, source_wired}
use Rattle.claims_registers.specs.Wires.{Claim-141}
use Rattle.claims_registers.proofs.Sourcecfg.{alone-put}

pub claim-141 : Claim-141
unfolding Claim-141 wire_set source_wired
claim-141 w long i l h level =
    let there : i / 32 < length w.wires = omega (arith, long.0) in (
      member-put-same w.wires i level there,
      member-put-other w.wires i level,
      alone-put w.machine i l _,
      alone-put w.child i l _,
    )
