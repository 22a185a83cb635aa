-- What a pass over the sources of a word has gathered. No claim cites this file. Assumes nothing.
--   RectifiedTo d k n x    of sources 32 k to 32 k + n - 1, x has the rectified values that high wires would
--                          give, and those that low ones would
use Rattle.std.specs.Prelude.{ℕ, ◌+◌, ◌*◌, ◌<◌, ◌≡◌, true, false}
use Rattle.words.specs.Bits.{has_bit}
use Rattle.source_mode.specs.Mode.{is_rectified}
use Rattle.domain.specs.Domain.{Domain}
use Rattle.domain.specs.Slot.{source_at}
use Rattle.domain_inputs.specs.declared.Rectified.{Rectified}

pub record RectifiedTo (d : Domain) (k n : ℕ) (x : Rectified) : Type 0 where
  pub high : (b : ℕ) → b < n → has_bit x.high b ≡ is_rectified (source_at d (32 * k + b)).mode true
  pub low : (b : ℕ) → b < n → has_bit x.low b ≡ is_rectified (source_at d (32 * k + b)).mode false
