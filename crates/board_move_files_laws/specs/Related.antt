-- The old and the new file and the saved numbers in the middle of a move, beside the old file of a board with
-- no move. No contract and no claim cites this file. 01, "The move, with its premises". Assumes nothing.
--   Three              the old file, the new file, and the saved numbers
--   acted_on n a x     x after the act a, where the files have n identities; a target concerns no file
--   Identity n i       i is one of the identities of a file that has n
--   Related n m x c    x after m accesses, where c is the old file of the board with no move and all files
--                      have n identities; in four parts: Untouched, Shared, Noted, Restored
-- Up to access 2 the old file is c; until the new file is cleared, all that is pending is in the old one;
-- from then on it is in the old or in the new, since senders change over; what is read of the old file is
-- saved; and a word that was set in the new file has all that is pending.
use Rattle.std.specs.Prelude.{ℕ, ◌+◌, ◌/◌, ◌%◌, ◌≤◌, ◌<◌, ◌≡◌, true, false, cond, ◌||◌, List, length, get_or}
use Rattle.std.specs.Prelude.{set}
use Rattle.words.specs.Bits.{has_bit}
use Rattle.words.specs.Sets.{member}
use Rattle.file.specs.declared.File.{File}
use Rattle.file.specs.declared.register.Access.{Access}
use Rattle.file.specs.declared.register.Access.TheVariants.{Read, Write}
use Rattle.file.specs.declared.register.Accessed.{Accessed}
use Rattle.file.specs.Reply.{reply_value}
use Rattle.file.specs.Register.{accessed}
use Rattle.board_move_steps.specs.declared.Act.{Act}
use Rattle.board_move_steps.specs.declared.Act.TheVariants.{Save, Zero, Target, Put}
use Rattle.sizes.specs.Sizes.{saved_size}
use Rattle.board_move_steps.specs.Steps.{accesses, delivery_at, threshold_at, pending_at, enable_at}

pub record Three : Type 0 where
  pub old : File
  pub new : File
  pub numbers : List ℕ

-- an access to a register of a guest's file
abbrev pub guest_access : ℕ → File → Access → ℕ → ℕ → Accessed
guest_access n f k s v = accessed n true f k s v

unfoldable pub acted_on : ℕ → Act → Three → Three
acted_on n (Save select place) x =
    record {
      old = x.old;
      new = x.new;
      numbers = set x.numbers place (reply_value (guest_access n x.old Read select 0).answer);
    }
acted_on n (Zero new select) x =
    record {
      old = cond new x.old (guest_access n x.old Write select 0).file;
      new = cond new (guest_access n x.new Write select 0).file x.new;
      numbers = x.numbers;
    }
acted_on n (Target i) x = x
acted_on n (Put kind select place) x =
    record {
      old = x.old;
      new = (guest_access n x.new kind select (get_or x.numbers place 0)).file;
      numbers = x.numbers;
    }

abbrev pub Identity : ℕ → ℕ → Type 0
Identity n i = (1 ≤ i) × (i ≤ n)

-- what no message and no access changes in the old file o, and its delivery, which access 3 sets to 0
pub record Untouched (m : ℕ) (o c : File) : Type 0 where
  pub threshold : o.threshold ≡ c.threshold
  pub enable : o.enable ≡ c.enable
  pub delivery : m < 3 → o.delivery ≡ c.delivery
  pub silent : 3 ≤ m → o.delivery ≡ 0

-- where what is pending in c is; o, f and c are the pending sets of the old file, of the new one, and of c
pub record Shared (n m : ℕ) (o f c : List ℕ) : Type 0 where
  pub alone : m < 8 → (i : ℕ) → Identity n i → member c i ≡ member o i
  pub empty : m < 8 → (i : ℕ) → Identity n i → i / 64 + 5 ≤ m → member f i ≡ false
  pub joined : 8 ≤ m → (i : ℕ) → Identity n i → member c i ≡ (member o i || member f i)
  pub settled : (i : ℕ) → Identity n i → i / 64 + 80 ≤ m → member f i ≡ member c i

-- the numbers s that are saved; p is the pending set of the old file
pub record Noted (n m : ℕ) (s p : List ℕ) (c : File) : Type 0 where
  pub ten : length s ≡ saved_size
  pub delivery : 1 ≤ m → get_or s delivery_at 0 ≡ c.delivery
  pub threshold : 2 ≤ m → get_or s threshold_at 0 ≡ c.threshold
  pub pending : (i : ℕ) → Identity n i → i / 64 + 72 ≤ m
      → has_bit (get_or s (pending_at (i / 64)) 0) (i % 64) ≡ member p i
  pub enable : (i : ℕ) → Identity n i → i / 64 + 76 ≤ m
      → has_bit (get_or s (enable_at (i / 64)) 0) (i % 64) ≡ member c.enable i

-- what is written back to the new file f
pub record Restored (n m : ℕ) (f c : File) : Type 0 where
  pub enable : (i : ℕ) → Identity n i → i / 64 + 84 ≤ m → member f.enable i ≡ member c.enable i
  pub threshold : 88 ≤ m → f.threshold ≡ c.threshold
  pub delivery : accesses ≤ m → f.delivery ≡ c.delivery

pub record Related (n m : ℕ) (x : Three) (c : File) : Type 0 where
  pub untouched : Untouched m x.old c
  pub shared : Shared n m x.old.pending x.new.pending c.pending
  pub noted : Noted n m x.numbers x.old.pending c
  pub restored : Restored n m x.new c
