-- A law of specs/Values.antt, for the claimi that is read and claimed. No contract cites this file. Assumes
-- nothing.
use Prim.Native.Nat.{ℕ}
use mathlib.Core.Path.{◌≡◌, refl}
use mathlib.Core.List.{List}
use Rattle.domain_region.specs.declared.Word.TheVariants.{Claimi}
use Rattle.domain.specs.Domain.{Domain}
use Rattle.domain_direct.specs.Direct.{topi_of}
use Rattle.domain_values.specs.Values.{register_value}

-- a claimi reads the topi of its hart
pub claimi-value : (d : Domain) (ws : List ℕ) (h : ℕ) → register_value d ws (Claimi h) ≡ topi_of d h
unfolding register_value
claimi-value d ws h = refl
