-- `domain_domaincfg::kept_domaincfg` meets its contract: two bits in their places. Assumes nothing.
use native.Mathlib.Omega.{arith}
use Rattle.words.proofs.PartsLaws.{field_of-lt, packed-is}
use Rattle.domain_domaincfg.proofs.kept_domaincfg.Goals as goal

pub packed32-requires : goal.packed32-requires
packed32-requires c = (
  omega arith,
  omega arith,
  omega (arith, c.field32-dm.ensures, field_of-lt c.args.value 2 1),
)

pub packed32-requires-2 : goal.packed32-requires-2
packed32-requires-2 c =
    let v = c.args.value in
    let dm = c.field32-dm.ensures in (
      omega arith,
      omega (arith, dm, c.packed32.ensures, packed-is c.field32-dm.result 2 0, field_of-lt v 2 1),
      omega (arith, c.field32-ie.ensures, field_of-lt v 8 1),
    )
