-- Claims 120 to 125, on the registers of one message file by their select numbers: what each kind of access
-- answers, and the whole file after it. 01, "One message file", "Calls and their refusals".
--   Shows ws j r        r is a number of 64 bits, and bit k of it is identity 64 * j + k of the set ws
--   PendingAlone f f'   f' is f but for its pending bits; EnableAlone the same for the enable bits
-- The illegal select numbers are Claims 30 and 31; that the bits are the whole file is Claim 129.
-- Premises: `Shaped f` (eight words of 32 bits in each set, as every file of a block has) where a claim
-- speaks of pending or enable bits. g says that the file is a guest's.
-- No axioms.
use Rattle.std.specs.Prelude.{ℕ, ◌+◌, ◌*◌, ◌/◌, ◌%◌, ◌^◌, ◌≤◌, ◌<◌, ◌≡◌, Bool, true, not, cond, ◌&&◌, ◌||◌}
use Rattle.std.specs.Prelude.{List, ◌↔◌, ◌⊎◌, eqb, leb, Some, None}
use Rattle.words.specs.Bits.{has_bit}
use Rattle.words.specs.Sets.{member}
use Rattle.file_select.specs.Select.{select_legal}
use Rattle.file_select.specs.Deliveries.{delivery_legal}
use Rattle.file.specs.declared.File.{File}
use Rattle.file.specs.declared.register.Access.{Access}
use Rattle.file.specs.declared.register.Access.TheVariants.{Read, Write, Set, Clear}
use Rattle.file.specs.Shape.{Shaped}
use Rattle.file.specs.Parts.{with_delivery, with_threshold}
use Rattle.file.specs.Reply.{reply_number, reply_value}
use Rattle.file.specs.Register.{accessed}
use Rattle.claims_file.specs.FileState.{LegalDelivery}

-- ---- delivery and threshold

-- select 0x70: a write of a legal number replaces the delivery and nothing else, one of any other number
-- nothing at all
pub record DeliveryRegister (g : Bool) (f : File) (v : ℕ) : Type 0 where
  pub alone : with_delivery f v
      ≡ record { delivery = v; threshold = f.threshold; pending = f.pending; enable = f.enable }
  pub read : accessed 255 g f Read 0x70 v ≡ record { answer = Some f.delivery; file = f }
  pub write : LegalDelivery g v
      → accessed 255 g f Write 0x70 v ≡ record { answer = Some 0; file = with_delivery f v }
  pub ignored : (LegalDelivery g v → ⊥)
      → accessed 255 g f Write 0x70 v ≡ record { answer = Some 0; file = f }
  pub legal : (delivery_legal g v ≡ true) ↔ LegalDelivery g v

-- select 0x70, delivery: a read answers it; a write stores 0, 1, and for files 0 and 1 also 0x40000000, and
-- any other value keeps the old one; nothing else of the file changes
-- [01 F5 F6 F7]
unfoldable pub Claim-120 : Type 0
Claim-120 = (g : Bool) (f : File) (v : ℕ) → DeliveryRegister g f v

-- select 0x72: a write keeps the low 8 bits, and replaces nothing else
pub record ThresholdRegister (g : Bool) (f : File) (v : ℕ) : Type 0 where
  pub alone : with_threshold f v
      ≡ record { delivery = f.delivery; threshold = v; pending = f.pending; enable = f.enable }
  pub read : accessed 255 g f Read 0x72 v ≡ record { answer = Some f.threshold; file = f }
  pub write : accessed 255 g f Write 0x72 v
      ≡ record { answer = Some 0; file = with_threshold f (v % 256) }

-- select 0x72, threshold: a read answers it; a write keeps the low 8 bits and changes nothing else
-- [01 F8]
unfoldable pub Claim-121 : Type 0
Claim-121 = (g : Bool) (f : File) (v : ℕ) → ThresholdRegister g f v

-- ---- pending and enable

pub record Shows (ws : List ℕ) (j r : ℕ) : Type 0 where
  pub fits : r < 2 ^ 64
  pub bits : (k : ℕ) → k < 64 → has_bit r k ≡ member ws (64 * j + k)

pub record PendingAlone (f f' : File) : Type 0 where
  pub delivery : f'.delivery ≡ f.delivery
  pub threshold : f'.threshold ≡ f.threshold
  pub enable : f'.enable ≡ f.enable

pub record EnableAlone (f f' : File) : Type 0 where
  pub delivery : f'.delivery ≡ f.delivery
  pub threshold : f'.threshold ≡ f.threshold
  pub pending : f'.pending ≡ f.pending

-- select 0x80 + 2j: a read shows identities 64j to 64j + 63; a write replaces these, but that identity 0 is
-- always 0, and nothing else
-- [01 C7 F9 F11]
unfoldable pub Claim-122 : Type 0
Claim-122 =
    (g : Bool) (f : File) (j v : ℕ) → Shaped f → j < 4
    → ((r : ℕ) × (accessed 255 g f Read (0x80 + 2 * j) v ≡ record { answer = Some r; file = f })
    × Shows f.pending j r)
    × ((accessed 255 g f Write (0x80 + 2 * j) v).answer ≡ Some 0)
    × PendingAlone f (accessed 255 g f Write (0x80 + 2 * j) v).file
    × ((i : ℕ) → member (accessed 255 g f Write (0x80 + 2 * j) v).file.pending i
    ≡ cond (eqb (i / 64) j) (has_bit v (i % 64) && leb 1 i) (member f.pending i))

-- select 0xC0 + 2j: the same for the enable bits
-- [01 F9 F11 F13]
unfoldable pub Claim-123 : Type 0
Claim-123 =
    (g : Bool) (f : File) (j v : ℕ) → Shaped f → j < 4
    → ((r : ℕ) × (accessed 255 g f Read (0xC0 + 2 * j) v ≡ record { answer = Some r; file = f })
    × Shows f.enable j r)
    × ((accessed 255 g f Write (0xC0 + 2 * j) v).answer ≡ Some 0)
    × EnableAlone f (accessed 255 g f Write (0xC0 + 2 * j) v).file
    × ((i : ℕ) → member (accessed 255 g f Write (0xC0 + 2 * j) v).file.enable i
    ≡ cond (eqb (i / 64) j) (has_bit v (i % 64) && leb 1 i) (member f.enable i))

-- ---- set and clear

-- at every legal select number: both answer what a read answers, the old value; a set leaves the file that a
-- write of old-or-value leaves, and a clear the one that a write of old without value leaves
pub record OldAndNew (g : Bool) (f : File) (s v : ℕ) : Type 0 where
  pub old : ℕ
  pub read : (u : ℕ) → (accessed 255 g f Read s u).answer ≡ Some old
  pub set_answer : (accessed 255 g f Set s v).answer ≡ Some old
  pub clear_answer : (accessed 255 g f Clear s v).answer ≡ Some old
  pub more : ℕ
  pub more_bits : (k : ℕ) → has_bit more k ≡ (has_bit old k || has_bit v k)
  pub set_file : (accessed 255 g f Set s v).file ≡ (accessed 255 g f Write s more).file
  pub less : ℕ
  pub less_bits : (k : ℕ) → has_bit less k ≡ (has_bit old k && not (has_bit v k))
  pub clear_file : (accessed 255 g f Clear s v).file ≡ (accessed 255 g f Write s less).file

-- the same at 0x80 + 2j and 0xC0 + 2j, bit by bit: the other identities and parts stay, and identity 0 is
-- always 0
pub record SetOrCleared (g : Bool) (f : File) (j v : ℕ) : Type 0 where
  pub set_pending : (i : ℕ) → member (accessed 255 g f Set (0x80 + 2 * j) v).file.pending i
      ≡ cond (eqb (i / 64) j) ((member f.pending i || has_bit v (i % 64)) && leb 1 i)
      (member f.pending i)
  pub clear_pending : (i : ℕ) → member (accessed 255 g f Clear (0x80 + 2 * j) v).file.pending i
      ≡ cond (eqb (i / 64) j) (member f.pending i && not (has_bit v (i % 64)) && leb 1 i)
      (member f.pending i)
  pub set_pending_rest : PendingAlone f (accessed 255 g f Set (0x80 + 2 * j) v).file
  pub clear_pending_rest : PendingAlone f (accessed 255 g f Clear (0x80 + 2 * j) v).file
  pub set_enable : (i : ℕ) → member (accessed 255 g f Set (0xC0 + 2 * j) v).file.enable i
      ≡ cond (eqb (i / 64) j) ((member f.enable i || has_bit v (i % 64)) && leb 1 i)
      (member f.enable i)
  pub clear_enable : (i : ℕ) → member (accessed 255 g f Clear (0xC0 + 2 * j) v).file.enable i
      ≡ cond (eqb (i / 64) j) (member f.enable i && not (has_bit v (i % 64)) && leb 1 i)
      (member f.enable i)
  pub set_enable_rest : EnableAlone f (accessed 255 g f Set (0xC0 + 2 * j) v).file
  pub clear_enable_rest : EnableAlone f (accessed 255 g f Clear (0xC0 + 2 * j) v).file

-- a set and a clear answer what a read would, and write that with the value's bits added, or without them
-- [01 C5 C6]
unfoldable pub Claim-124 : Type 0
Claim-124 =
    (g : Bool) (f : File) (v : ℕ)
    → ((s : ℕ) → select_legal s ≡ true → OldAndNew g f s v)
    × ((j : ℕ) → Shaped f → j < 4 → SetOrCleared g f j v)

-- ---- the numbers with no register

-- 0x71, 0x73 to 0x7F, and the even numbers after 0x80 + 2 * 3 and after 0xC0 + 2 * 3: every kind of access
-- answers 0 and changes nothing. In the paper's numbers an answer is 0 and the value, an illegal select
-- number 6 and 0
-- [01 F12 F14]
unfoldable pub Claim-125 : Type 0
Claim-125 =
    ((g : Bool) (f : File) (k : Access) (s v : ℕ)
    → (s ≡ 0x71) ⊎ (((0x73 ≤ s) × (s ≤ 0x7F))
    ⊎ ((s % 2 ≡ 0) × (((0x88 ≤ s) × (s ≤ 0xBE)) ⊎ ((0xC8 ≤ s) × (s ≤ 0xFE)))))
    → accessed 255 g f k s v ≡ record { answer = Some 0; file = f })
    × ((u : ℕ) → (reply_number (Some u) ≡ 0) × (reply_value (Some u) ≡ u))
    × ((reply_number None ≡ 6) × (reply_value None ≡ 0))
