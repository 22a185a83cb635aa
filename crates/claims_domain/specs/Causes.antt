-- Claims 40 to 42, the table of causes: what sets, clears or keeps the pending bit of a source, for each
-- source mode and each delivery mode. Its rows are the sentences of the standard's 4.7. 01, "The wired
-- controller". Claim-59 says which operation each cause is.
--   Cause          the wire goes from one level to another; a write of the setip family, with the wire at a
--                  level; a write of the in_clrip family; a claim; the message is sent
--   Effect         what becomes of the bit
--   Row            some source modes, some delivery modes and some causes that have one effect
--   happens s m k  source s after the cause k, in the delivery mode m: true by messages, false direct
-- Premises: none. No axioms.
use Rattle.std.specs.Prelude.{ℕ, ◌+◌, ◌≡◌, Bool, true, false, cond, ◌&&◌, List, [], ◌∷◌, ◌++◌, eqb}
use Rattle.std.specs.Bool.{beq}
use Rattle.source.specs.declared.Source.{Source}
use Rattle.source.specs.Pending.{with_pending, wire_changed, pended, cleared}

pub data Cause : Type 0 where
  wire : Bool → Bool → Cause
  setip : Bool → Cause
  clrip claim sent : Cause

pub data Effect : Type 0 where
  sets clears keeps : Effect

unfoldable pub happens : Source → Bool → Cause → Source
happens s m (wire was is) = wire_changed s m was is
happens s m (setip level) = pended s m level
happens s m clrip = cleared s m
happens s m claim = cleared s m
happens s m sent = with_pending s false

unfoldable pub bit_after : Effect → Bool → Bool
bit_after sets p = true
bit_after clears p = false
bit_after keeps p = p

pub record Row : Type 0 where
  pub modes : List ℕ
  pub deliveries : List Bool
  pub causes : List Cause
  pub effect : Effect

abbrev pub low : Bool
low = false

abbrev pub high : Bool
high = true

abbrev pub direct : List Bool
direct = false ∷ []

abbrev pub messages : List Bool
messages = true ∷ []

abbrev pub any : List Bool
any = direct ++ messages

abbrev pub any_write : List Cause
any_write = setip low ∷ setip high ∷ []

-- the wire becomes high, or low, whatever it was
abbrev pub up : List Cause
up = wire low high ∷ wire high high ∷ []

abbrev pub down : List Cause
down = wire low low ∷ wire high low ∷ []

-- a claim happens in direct mode alone, and sending by messages alone
unfoldable pub table : List Row
table =
    -- Detached: the wire plays no part
    record { modes = 1 ∷ []; deliveries = any; causes = up ++ down; effect = keeps }
    -- Edge1: a rising wire sets; Edge0: a falling one
    ∷ record { modes = 4 ∷ []; deliveries = any; causes = wire low high ∷ []; effect = sets }
    ∷ record { modes = 4 ∷ []; deliveries = any; causes = wire high high ∷ down; effect = keeps }
    ∷ record { modes = 5 ∷ []; deliveries = any; causes = wire high low ∷ []; effect = sets }
    ∷ record { modes = 5 ∷ []; deliveries = any; causes = wire low low ∷ up; effect = keeps }
    -- these three are set by a setip write, and cleared by an in_clrip write, a claim, or sending
    ∷ record { modes = 1 ∷ 4 ∷ 5 ∷ []; deliveries = any; causes = any_write; effect = sets }
    ∷ record { modes = 1 ∷ 4 ∷ 5 ∷ []; deliveries = direct; causes = clrip ∷ claim ∷ []; effect = clears }
    ∷ record { modes = 1 ∷ 4 ∷ 5 ∷ []; deliveries = messages; causes = clrip ∷ sent ∷ []; effect = clears }
    -- Level1 and Level0, direct: a copy of the rectified value, which no write and no claim changes
    ∷ record { modes = 6 ∷ []; deliveries = direct; causes = up; effect = sets }
    ∷ record { modes = 6 ∷ []; deliveries = direct; causes = down; effect = clears }
    ∷ record { modes = 7 ∷ []; deliveries = direct; causes = down; effect = sets }
    ∷ record { modes = 7 ∷ []; deliveries = direct; causes = up; effect = clears }
    ∷ record { modes = 6 ∷ 7 ∷ []; deliveries = direct; causes = clrip ∷ claim ∷ any_write; effect = keeps }
    -- Level1 and Level0, by messages: set by a rise, cleared whenever the rectified value is low
    ∷ record { modes = 6 ∷ []; deliveries = messages; causes = wire low high ∷ []; effect = sets }
    ∷ record { modes = 6 ∷ []; deliveries = messages; causes = wire high high ∷ []; effect = keeps }
    ∷ record { modes = 6 ∷ []; deliveries = messages; causes = down; effect = clears }
    ∷ record { modes = 7 ∷ []; deliveries = messages; causes = wire high low ∷ []; effect = sets }
    ∷ record { modes = 7 ∷ []; deliveries = messages; causes = wire low low ∷ []; effect = keeps }
    ∷ record { modes = 7 ∷ []; deliveries = messages; causes = up; effect = clears }
    -- a setip write sets only while the rectified value is high; an in_clrip write and sending clear
    ∷ record { modes = 6 ∷ []; deliveries = messages; causes = setip high ∷ []; effect = sets }
    ∷ record { modes = 6 ∷ []; deliveries = messages; causes = setip low ∷ []; effect = keeps }
    ∷ record { modes = 7 ∷ []; deliveries = messages; causes = setip low ∷ []; effect = sets }
    ∷ record { modes = 7 ∷ []; deliveries = messages; causes = setip high ∷ []; effect = keeps }
    ∷ record { modes = 6 ∷ 7 ∷ []; deliveries = messages; causes = clrip ∷ sent ∷ []; effect = clears }
    ∷ []

-- ---- the test: every mode, delivery mode and cause of a row has the row's effect, whatever the bits were

unfoldable pub every {ℓ} : {A : Type ℓ} → (A → Bool) → List A → Bool
every p [] = true
every p (x ∷ xs) = p x && every p xs

abbrev pub both : List Bool
both = false ∷ true ∷ []

-- a source of that mode with these bits; claim 42 says that its target plays no part
unfoldable pub source_of : ℕ → Bool → Bool → Source
source_of mode p e = record { mode = mode; target = 0; pending = p; enabled = e }

unfoldable pub row_holds : Row → Bool
row_holds r =
    every (λ mode. every (λ m. every (λ k. every (λ p. every (λ e.
    beq (happens (source_of mode p e) m k).pending (bit_after r.effect p)) both) both)
    r.causes) r.deliveries) r.modes

-- the table holds: each mode, delivery mode and cause of a row has the row's effect on the pending bit,
-- whatever the bits were
-- [01 W28 S12 M2 M5]
unfoldable pub Claim-40 : Type 0
Claim-40 = every row_holds table ≡ true

-- ---- nothing is left out: each mode, delivery mode and cause has one row and no more

unfoldable pub same_cause : Cause → Cause → Bool
same_cause (wire a b) (wire c d) = beq a c && beq b d
same_cause (wire a b) (setip c) = false
same_cause (wire a b) clrip = false
same_cause (wire a b) claim = false
same_cause (wire a b) sent = false
same_cause (setip a) (wire c d) = false
same_cause (setip a) (setip c) = beq a c
same_cause (setip a) clrip = false
same_cause (setip a) claim = false
same_cause (setip a) sent = false
same_cause clrip (wire c d) = false
same_cause clrip (setip c) = false
same_cause clrip clrip = true
same_cause clrip claim = false
same_cause clrip sent = false
same_cause claim (wire c d) = false
same_cause claim (setip c) = false
same_cause claim clrip = false
same_cause claim claim = true
same_cause claim sent = false
same_cause sent (wire c d) = false
same_cause sent (setip c) = false
same_cause sent clrip = false
same_cause sent claim = false
same_cause sent sent = true

-- how many of a list pass a test
unfoldable pub count {ℓ} : {A : Type ℓ} → (A → Bool) → List A → ℕ
count p [] = 0
count p (x ∷ xs) = cond (p x) 1 0 + count p xs

unfoldable pub rows_of : ℕ → Bool → Cause → ℕ
rows_of mode m k =
    count (λ r. eqb (count (eqb mode) r.modes) 1 && eqb (count (beq m) r.deliveries) 1
    && eqb (count (same_cause k) r.causes) 1) table

-- nothing is left out of the table: each active mode, delivery mode and cause has one row and no more
unfoldable pub Claim-41 : Type 0
Claim-41 =
    every (λ mode. every (λ k. eqb (rows_of mode false k) 1) (clrip ∷ claim ∷ any_write ++ up ++ down)
    && every (λ k. eqb (rows_of mode true k) 1) (clrip ∷ sent ∷ any_write ++ up ++ down))
    (1 ∷ 4 ∷ 5 ∷ 6 ∷ 7 ∷ []) ≡ true

-- ---- the pending bit afterwards depends on the mode and the bits alone

-- the pending bit afterwards depends on the mode and the bits alone: a source's target plays no part
unfoldable pub Claim-42 : Type 0
Claim-42 =
    (s : Source) (m : Bool) (k : Cause)
    → (happens s m k).pending ≡ (happens (source_of s.mode s.pending s.enabled) m k).pending
