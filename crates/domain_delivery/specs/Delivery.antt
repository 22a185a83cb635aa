-- A hart's delivery structure: its three settable numbers, and what follows from them. 01, "Direct delivery
-- and signals"; the standard 4.8.1, 4.8.2. Assumes nothing.
--   switch_of old v          what a register that stores only 0 and 1 holds after v was written, old before
--   with_idelivery d v       d after a write to idelivery (4.8.1.1)
--   with_iforce d v          d after a write to iforce (4.8.1.2)
--   with_ithreshold d v      d after a write to ithreshold, of which the low 8 bits are kept (4.8.1.3)
--   without_force d          d after a claimi that answered 0 (4.8.1.5)
--   delivery_sound d         the numbers lie in their ranges: the first two 0 or 1, the threshold below 256
--   lets d p                 the threshold lets priority p through (4.8.1.3)
--   structure_signals d e t  the signal to the hart, with IE e and topi t, in direct mode (4.8.2)
-- All 32 bits of a written v count for the first two.
use Rattle.std.specs.Prelude.{ℕ, ◌%◌, Bool, cond, not, ◌&&◌, ◌||◌, eqb, leb, ltb}
use Rattle.words.specs.Threshold.{passes}
use Rattle.domain_delivery.specs.declared.Delivery.{Delivery}

-- [01 S2]
unfoldable pub switch_of : ℕ → ℕ → ℕ
switch_of old v = cond (leb v 1) v old

unfoldable pub with_idelivery : Delivery → ℕ → Delivery
with_idelivery d v =
    record { idelivery = switch_of d.idelivery v; iforce = d.iforce; ithreshold = d.ithreshold }

unfoldable pub with_iforce : Delivery → ℕ → Delivery
with_iforce d v =
    record { idelivery = d.idelivery; iforce = switch_of d.iforce v; ithreshold = d.ithreshold }

-- [01 S3]
unfoldable pub with_ithreshold : Delivery → ℕ → Delivery
with_ithreshold d v = record { idelivery = d.idelivery; iforce = d.iforce; ithreshold = v % 256 }

unfoldable pub without_force : Delivery → Delivery
without_force d = record { idelivery = d.idelivery; iforce = 0; ithreshold = d.ithreshold }

unfoldable pub delivery_sound : Delivery → Bool
delivery_sound d = leb d.idelivery 1 && leb d.iforce 1 && ltb d.ithreshold 256

-- [01 S9]
unfoldable pub lets : Delivery → ℕ → Bool
lets d p = passes d.ithreshold p

-- [01 S18]
unfoldable pub structure_signals : Delivery → Bool → ℕ → Bool
structure_signals d e t = e && eqb d.idelivery 1 && (not (eqb d.iforce 0) || not (eqb t 0))
