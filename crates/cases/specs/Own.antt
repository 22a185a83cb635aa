-- What a line of this program's own says. Assumes nothing.
--   IsOwn o    a word of the board is poked, and no more is lent than there is
use Rattle.std.specs.Prelude.{◌<◌}
use Rattle.sizes.specs.Sizes.{block_size}
use Rattle.cases.specs.Lendable.{Lendable}
use Rattle.cases.specs.declared.lines.Own.{Own}
use Rattle.cases.specs.declared.lines.Own.TheVariants.{Poke, Lengths}

abbrev pub IsOwn : Own → Type 0
IsOwn (Poke at word) = at < block_size
IsOwn (Lengths lent) = Lendable lent.state lent.log
