-- Claims 20 to 34, on what the definitions of one message file mean: the paper's sentences as theorems. 01,
-- "One message file", "State rules".
-- `Stands f i` is the paper's rule for a candidate, `member ws i` is bit i of a set's words, n the number of
-- identities, 255 where a claim is about a file's own words. The registers by their select numbers are in
-- FileRegisters, the page and the state rules in plain numbers in FileState.
-- Premises: `Shaped f` (eight words of 32 bits in each set, as every file of a block has) where a claim says
-- what single bits or stored words become; in Claim 32 a file that keeps its state rules, and numbers of 64
-- bits for its registers; in Claim 34 a file that lies within the block.
-- No axioms.
use Rattle.std.specs.Prelude.{ℕ, ◌+◌, ◌*◌, ◌/◌, ◌%◌, ◌^◌, ◌≤◌, ◌<◌, ◌≡◌, Bool, true, false, not, cond, ◌&&◌}
use Rattle.std.specs.Prelude.{◌||◌, List, ◌≢◌, ◌↔◌, ◌⊎◌, eqb, leb, length, None}
use Rattle.words.specs.Bits.{has_bit, without_bit}
use Rattle.words.specs.Sets.{member, WordsFit}
use Rattle.file_select.specs.declared.Register.TheVariants.{Delivery, Threshold, Pending, Enable}
use Rattle.file_select.specs.Select.{select_legal}
use Rattle.file_select.specs.Deliveries.{delivery_legal}
use Rattle.file.specs.declared.File.{File}
use Rattle.file.specs.declared.register.Access.{Access}
use Rattle.file.specs.Shape.{Shaped}
use Rattle.file.specs.Parts.{with_delivery}
use Rattle.file.specs.Page.{arrived, page_written}
use Rattle.file.specs.Top.{top_of, claimed, signals}
use Rattle.file.specs.Rules.{file_sound}
use Rattle.file.specs.Register.{held, written, accessed}
use Rattle.file_words.specs.Stored.{file_at, put_file}

-- identity i is pending, it is enabled, and it passes the threshold: that is 0, or greater than i
pub record Stands (f : File) (i : ℕ) : Type 0 where
  pub pending : member f.pending i ≡ true
  pub enabled : member f.enable i ≡ true
  pub passes : (f.threshold ≡ 0) ⊎ (i < f.threshold)

-- the top reads 0 exactly if no identity qualifies
-- [01 F18 X11]
unfoldable pub Claim-20 : Type 0
Claim-20 = (n : ℕ) (f : File) → (top_of n f ≡ 0) ↔ ((i : ℕ) → 1 ≤ i → i ≤ n → Stands f i → ⊥)

-- a top that is not 0 is an identity twice; that identity qualifies, and none below it does
-- [01 F16 F17 F18 X11]
unfoldable pub Claim-21 : Type 0
Claim-21 =
    (n : ℕ) (f : File) → top_of n f ≢ 0
    → (i : ℕ) × (top_of n f ≡ i * 65536 + i) × (1 ≤ i) × (i ≤ n) × Stands f i
    × ((j : ℕ) → 1 ≤ j → j < i → Stands f j → ⊥)

-- threshold P shuts P out, and all above it. A corollary of Claim-21
-- [01 F17 M1]
unfoldable pub Claim-22 : Type 0
Claim-22 = (n : ℕ) (f : File) → f.threshold ≢ 0 → (i : ℕ) → f.threshold ≤ i → top_of n f ≢ i * 65536 + i

-- a claim clears the pending bit of the top and no other, and nothing else of the file
-- [01 F20]
unfoldable pub Claim-23 : Type 0
Claim-23 =
    (f : File) → Shaped f
    → ((j : ℕ) → 1 ≤ j
    → member (claimed 255 f).pending j ≡
    (member f.pending j && not (eqb (j * 65536 + j) (top_of 255 f))))
    × ((claimed 255 f).delivery ≡ f.delivery) × ((claimed 255 f).threshold ≡ f.threshold)
    × ((claimed 255 f).enable ≡ f.enable)

-- with no top a claim changes nothing
-- [01 F21]
unfoldable pub Claim-24 : Type 0
Claim-24 = (n : ℕ) (f : File) → top_of n f ≡ 0 → claimed n f ≡ f

-- a message sets its own pending bit and no other, and nothing else of the file; a number that is no identity
-- does nothing
-- [01 F1]
unfoldable pub Claim-25 : Type 0
Claim-25 =
    (f : File) (i : ℕ) → Shaped f
    → ((j : ℕ)
    → member (arrived 255 f i).pending j ≡
    (member f.pending j || (eqb j i && (leb 1 i && leb i 255))))
    × ((arrived 255 f i).delivery ≡ f.delivery) × ((arrived 255 f i).threshold ≡ f.threshold)
    × ((arrived 255 f i).enable ≡ f.enable)

-- arrival does not depend on delivery
-- [01 F4]
unfoldable pub Claim-26 : Type 0
Claim-26 = (n : ℕ) (f : File) (i d : ℕ) → arrived n (with_delivery f d) i ≡ with_delivery (arrived n f i) d

-- delivery: a legal number reads back, any other keeps the old one; the threshold keeps the low 8 bits. A
-- corollary of claims 120 and 121, which have the select numbers, the legal numbers and what else stays
unfoldable pub Claim-27 : Type 0
Claim-27 =
    (g : Bool) (f : File) (v : ℕ)
    → (delivery_legal g v ≡ true → held (written 255 g f Delivery v) Delivery ≡ v)
    × (delivery_legal g v ≡ false → written 255 g f Delivery v ≡ f)
    × (held (written 255 g f Threshold v) Threshold ≡ v % 2 ^ 8)

-- the j-th pending register: what is written reads back, but for identity 0; bit k is identity 64j + k; the
-- other identities stay. A corollary of claims 122 and 124, which have its select number 0x80 + 2j
unfoldable pub Claim-28 : Type 0
Claim-28 =
    (g : Bool) (f : File) (j v : ℕ) → Shaped f → j < 4
    → (held (written 255 g f (Pending j) v) (Pending j) ≡ cond (eqb j 0) (without_bit v 0) v)
    × ((k : ℕ) → k < 64 → 64 * j + k ≢ 0
    → member (written 255 g f (Pending j) v).pending (64 * j + k) ≡ has_bit v k)
    × ((i : ℕ) → i / 64 ≢ j → member (written 255 g f (Pending j) v).pending i ≡ member f.pending i)

-- the j-th enable register: the same for the enable bits. A corollary of claims 123 and 124, which have its
-- select number 0xC0 + 2j
unfoldable pub Claim-29 : Type 0
Claim-29 =
    (g : Bool) (f : File) (j v : ℕ) → Shaped f → j < 4
    → (held (written 255 g f (Enable j) v) (Enable j) ≡ cond (eqb j 0) (without_bit v 0) v)
    × ((k : ℕ) → k < 64 → 64 * j + k ≢ 0
    → member (written 255 g f (Enable j) v).enable (64 * j + k) ≡ has_bit v k)
    × ((i : ℕ) → i / 64 ≢ j → member (written 255 g f (Enable j) v).enable i ≡ member f.enable i)

-- the illegal select numbers are those below 0x70, those above 0xFF, and the odd ones from 0x80 on
-- [01 F10 F14 F15]
unfoldable pub Claim-30 : Type 0
Claim-30 = (s : ℕ) → (select_legal s ≡ false) ↔ ((s < 0x70) ⊎ ((0xFF < s) ⊎ ((0x80 ≤ s) × (s % 2 ≡ 1))))

-- an access by an illegal select number answers so and changes nothing
-- [01 F10 F15]
unfoldable pub Claim-31 : Type 0
Claim-31 =
    (n : ℕ) (g : Bool) (f : File) (k : Access) (s v : ℕ) → select_legal s ≡ false
    → accessed n g f k s v ≡ record { answer = None; file = f }

-- a message, a claim and any access leave a file that keeps the rules
pub record KeepsRules (g : Bool) (f : File) : Type 0 where
  pub message : (a v : ℕ) → file_sound 255 g (page_written 255 f a v) ≡ true
  pub claim : file_sound 255 g (claimed 255 f) ≡ true
  pub access : (k : Access) (s v : ℕ) → v < 2 ^ 64 → file_sound 255 g (accessed 255 g f k s v).file ≡ true

-- every operation on a file keeps its state rules, and with them identity 0 clear
-- [01 F13]
unfoldable pub Claim-32 : Type 0
Claim-32 = (g : Bool) (f : File) → Shaped f → file_sound 255 g f ≡ true → KeepsRules g f

-- a file signals by itself exactly if its delivery is 1 and its top is not 0; how files 0 and 1 signal for
-- the wired controller, with delivery 0x40000000, is in Claim 89
-- [01 S16]
unfoldable pub Claim-33 : Type 0
Claim-33 = (n : ℕ) (f : File) → (signals n f ≡ true) ↔ ((f.delivery ≡ 1) × (top_of n f ≢ 0))

-- what is stored is loaded, what is loaded is stored as it was, and a file that stands apart stays
pub record RoundTrips (l : List ℕ) (at : ℕ) : Type 0 where
  pub file : (f : File) → Shaped f → file_at (put_file l at f) at ≡ f
  pub block : put_file l at (file_at l at) ≡ l
  pub apart : (f : File) → Shaped f → (i : ℕ) → i + 18 ≤ length l → (i + 18 ≤ at) ⊎ (at + 18 ≤ i)
      → file_at (put_file l at f) i ≡ file_at l i
  pub shape : WordsFit l → Shaped (file_at l at)

-- a file's words in a block: what is stored is loaded, what is loaded is stored as it was, and what stands
-- apart stays
-- [01 F23]
unfoldable pub Claim-34 : Type 0
Claim-34 = (l : List ℕ) (at : ℕ) → at + 18 ≤ length l → RoundTrips l at
