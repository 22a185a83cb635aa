-- Claims 126 to 129, on the state of one message file: its page, its state rules, what delivery plays no part
-- in, and what its words say bit by bit. 01, "One message file", "State rules".
--   LegalDelivery g d    d is a delivery: 0, 1, and 0x40000000 in files 0 and 1; g: the file is a guest's
--   FileRules g f        the state rules of one file, a field for each
-- Premises: `Shaped f` (eight words of 32 bits in each set, as every file of a block has; Claim 129 has it in
-- numbers) where a claim speaks of bits; a number that is written at offset 4 or reversed has 32 bits, one
-- for a register 64.
-- No axioms.
use Rattle.std.specs.Prelude.{ℕ, ◌-◌, ◌*◌, ◌/◌, ◌%◌, ◌^◌, ◌≤◌, ◌<◌, ◌≡◌, Bool, true, false, ◌&&◌, ◌||◌, List}
use Rattle.std.specs.Prelude.{◌≢◌, ◌↔◌, ◌⊎◌, eqb, leb, length, get_or}
use Rattle.words.specs.Bits.{has_bit}
use Rattle.words.specs.Parts.{reversed}
use Rattle.words.specs.Sets.{member, WordsFit}
use Rattle.file.specs.declared.File.{File}
use Rattle.file.specs.declared.register.Access.{Access}
use Rattle.file.specs.Shape.{Shaped}
use Rattle.file.specs.Parts.{with_delivery}
use Rattle.file.specs.Page.{page_written, page_read}
use Rattle.file.specs.Top.{top_of, claimed, signals}
use Rattle.file.specs.Rules.{file_sound}
use Rattle.file.specs.Register.{accessed}

-- ---- the page

-- what the pending bits become at the two offsets, for all values: at offset 4 identity j is what the bytes
-- j, 0, 0, 0 name, from the top; nothing else of the file changes, other offsets do nothing, reads give 0
pub record PageWords (f : File) (a v : ℕ) : Type 0 where
  pub little : (j : ℕ)
      → member (page_written 255 f 0 v).pending j ≡
      (member f.pending j || (eqb v j && leb 1 j && leb j 255))
  pub big : v < 2 ^ 32 → (j : ℕ)
      → member (page_written 255 f 4 v).pending j ≡
      (member f.pending j || (eqb v (j * 2 ^ 24) && leb 1 j && leb j 255))
  pub delivery : (page_written 255 f a v).delivery ≡ f.delivery
  pub threshold : (page_written 255 f a v).threshold ≡ f.threshold
  pub enable : (page_written 255 f a v).enable ≡ f.enable
  pub elsewhere : a ≢ 0 → a ≢ 4 → page_written 255 f a v ≡ f
  pub reads : page_read f a ≡ 0

-- the four bytes of a number reversed: byte k is byte 3 - k
pub record BytesReversed (v : ℕ) : Type 0 where
  pub bytes : (k : ℕ) → k < 4 → reversed v / 2 ^ (8 * k) % 256 ≡ v / 2 ^ (8 * (3 - k)) % 256
  pub fits : reversed v < 2 ^ 32
  pub back : reversed (reversed v) ≡ v

-- a page write reaches identity j at offset 0 exactly with j, and at offset 4 with j in the top byte alone;
-- all other offsets do nothing, and all reads give 0
-- [01 B3 C23 F1 F2 F3]
unfoldable pub Claim-126 : Type 0
Claim-126 =
    ((f : File) (a v : ℕ) → Shaped f → PageWords f a v) × ((v : ℕ) → v < 2 ^ 32 → BytesReversed v)

-- ---- the state rules

-- 0 is off and 1 is on; a file that is no guest's may have 0x40000000, too
abbrev pub LegalDelivery : Bool → ℕ → Type 0
LegalDelivery g d = (d ≡ 0) ⊎ ((d ≡ 1) ⊎ ((g ≡ false) × (d ≡ 0x40000000)))

pub record FileRules (g : Bool) (f : File) : Type 0 where
  pub delivery : LegalDelivery g f.delivery
  pub threshold : f.threshold ≤ 255
  pub pending_zero : member f.pending 0 ≡ false
  pub enable_zero : member f.enable 0 ≡ false

-- a file keeps its state rules exactly if its delivery is a legal one, its threshold is at most 255, and
-- identity 0 is neither pending nor enabled
-- [01 F5 F6 R1 R2]
unfoldable pub Claim-127 : Type 0
Claim-127 = (g : Bool) (f : File) → (file_sound 255 g f ≡ true) ↔ FileRules g f

-- ---- delivery

-- the top does not depend on delivery, nor does what a claim takes; the file's own signal is the top's with
-- delivery 1, and low with any other (Claim 120 has with_delivery part by part)
pub record DeliveryApart (f : File) (d : ℕ) : Type 0 where
  pub top : top_of 255 (with_delivery f d) ≡ top_of 255 f
  pub claim : claimed 255 (with_delivery f d) ≡ with_delivery (claimed 255 f) d
  pub on : (signals 255 (with_delivery f 1) ≡ true) ↔ (top_of 255 f ≢ 0)
  pub off : d ≢ 1 → signals 255 (with_delivery f d) ≡ false

-- the top, and what a claim takes, do not depend on delivery; a file's own signal does
-- [01 F19]
unfoldable pub Claim-128 : Type 0
Claim-128 = (f : File) (d : ℕ) → DeliveryApart f d

-- ---- bit by bit

pub record EightWords (ws : List ℕ) : Type 0 where
  pub long : length ws ≡ 8
  pub fit : (k : ℕ) → get_or ws k 0 < 2 ^ 32

-- every operation keeps eight words of 32 bits in each set
pub record KeepsShape (g : Bool) (f : File) : Type 0 where
  pub message : (a v : ℕ) → Shaped (page_written 255 f a v)
  pub claim : Shaped (claimed 255 f)
  pub access : (k : Access) (s v : ℕ) → v < 2 ^ 64 → Shaped (accessed 255 g f k s v).file

-- identity i is bit i mod 32 of word i div 32; words fit that are below 2^32; of two files of this shape
-- with the same delivery, threshold, pending and enable bits, one is the other: so claims that speak of bits
-- speak of the whole file
-- [01 F23]
unfoldable pub Claim-129 : Type 0
Claim-129 =
    ((w k : ℕ) → (has_bit w k ≡ true) ↔ (w / 2 ^ k % 2 ≡ 1))
    × ((ws : List ℕ) (i : ℕ) → member ws i ≡ has_bit (get_or ws (i / 32) 0) (i % 32))
    × ((ws : List ℕ) → WordsFit ws ↔ ((k : ℕ) → get_or ws k 0 < 2 ^ 32))
    × ((f : File) → Shaped f ↔
    ((f.delivery < 2 ^ 32) × (f.threshold < 2 ^ 32) × EightWords f.pending × EightWords f.enable))
    × ((f f' : File) → Shaped f → Shaped f' → f.delivery ≡ f'.delivery → f.threshold ≡ f'.threshold
    → ((i : ℕ) → i ≤ 255 → member f.pending i ≡ member f'.pending i)
    → ((i : ℕ) → i ≤ 255 → member f.enable i ≡ member f'.enable i) → f ≡ f')
    × ((g : Bool) (f : File) → Shaped f → KeepsShape g f)
