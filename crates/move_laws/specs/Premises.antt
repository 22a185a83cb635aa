-- What a move asks of a shift, a definition for each premise. 01, "The move, with its premises". Assumes
-- nothing.
--   Started l s           what is lent at the start: 650 words of 32 bits that keep the state rules, and ten
--                         saved numbers of 64 bits, any numbers
--   TwoGuests m           old and new are two different guest files
--   ByMessages l          the child domain is not in direct mode
--   NoneNamesNew m l      no active source's target names new
--   AllAccesses es        the accesses 1 to 89 are all made
--   PagesKept m n es      n accesses having been made, no page write to new before access 8, and none to old
--                         from access 72 on: a device that writes to new has changed over, after access 8
--                         and before access 72
--   CallsKept m es        each call besides only reads, or is one on a file that is neither old nor new, with
--                         a value of 64 bits. 01 has no such calls: here the other stations go on
--   Premises m l s es     all of these
-- That the accesses are made once each, in order, with one old and new, is said by with_move; that each
-- brings
-- the saved numbers that the last one gave, by HandedOn of Rattle.board_runs, and that each call brings a log
-- of 63 words, by Makes there. That no access is refused follows.
use Rattle.std.specs.Prelude.{ℕ, suc, ◌≤◌, ◌<◌, ◌≡◌, true, false, ◌||◌, List, [], ◌∷◌, length}
use Rattle.sizes.specs.Sizes.{source_count, block_size, saved_size}
use Rattle.words.specs.Sets.{WordsFit}
use Rattle.source_mode.specs.Mode.{is_active}
use Rattle.domain.specs.Domain.{by_messages}
use Rattle.domain.specs.Slot.{source_at}
use Rattle.board_move_steps.specs.Names.{names_file}
use Rattle.board_move_steps.specs.Steps.{accesses}
use Rattle.board_block.specs.Block.{board_of, board_sound}
use Rattle.board_call.specs.Numbers.{is_guest_file}
use Rattle.board_call_laws.specs.Fit.{SavedFit}
use Rattle.board_call_laws.specs.Small.{Small}
use Rattle.board_runs.specs.Reading.{only_reads}
use Rattle.move_laws.specs.Shift.{Stations, Event, is_old, is_new, elsewhere}

pub record Started (l s : List ℕ) : Type 0 where
  pub block : length l ≡ block_size
  pub words : WordsFit l
  pub rules : board_sound (board_of l) ≡ true
  pub saved-long : length s ≡ saved_size
  pub saved-fit : SavedFit s

pub record TwoGuests (m : Stations) : Type 0 where
  pub old : is_guest_file m.old_hart m.old_file ≡ true
  pub new : is_guest_file m.new_hart m.new_file ≡ true
  pub different : is_new m m.old_hart m.old_file ≡ false

unfoldable pub ByMessages : List ℕ → Type 0
ByMessages l = by_messages (board_of l).wired.child ≡ true

-- [01 V12]
unfoldable pub NoneNamesNew : Stations → List ℕ → Type 0
NoneNamesNew m l =
    (i : ℕ) → 1 ≤ i → i ≤ source_count
    → let s = source_at (board_of l).wired.child i in
    is_active s.mode ≡ true → names_file s.target m.new_hart m.new_file ≡ false

unfoldable pub accesses_in : List Event → ℕ
accesses_in [] = 0
accesses_in (Event.wire i level ∷ es) = accesses_in es
accesses_in (Event.page h f a v ∷ es) = accesses_in es
accesses_in (Event.access ∷ es) = suc (accesses_in es)
accesses_in (Event.call c ∷ es) = accesses_in es

-- [01 V13]
unfoldable pub AllAccesses : List Event → Type 0
AllAccesses es = accesses_in es ≡ accesses

-- [01 V18 V25 V26 V27]
unfoldable pub PagesKept : Stations → ℕ → List Event → Type 0
PagesKept m n [] = Unit {0}
PagesKept m n (Event.wire i level ∷ es) = PagesKept m n es
PagesKept m n (Event.page h f a v ∷ es) =
    (is_new m h f ≡ true → 8 ≤ n) × (is_old m h f ≡ true → n < 72) × PagesKept m n es
PagesKept m n (Event.access ∷ es) = PagesKept m (suc n) es
PagesKept m n (Event.call c ∷ es) = PagesKept m n es

-- [01 V24]
unfoldable pub CallsKept : Stations → List Event → Type 0
CallsKept m [] = Unit {0}
CallsKept m (Event.wire i level ∷ es) = CallsKept m es
CallsKept m (Event.page h f a v ∷ es) = CallsKept m es
CallsKept m (Event.access ∷ es) = CallsKept m es
CallsKept m (Event.call c ∷ es) = ((only_reads c || elsewhere m c) ≡ true) × Small c × CallsKept m es

pub record Premises (m : Stations) (l s : List ℕ) (es : List Event) : Type 0 where
  pub started : Started l s
  pub guests : TwoGuests m
  pub messages : ByMessages l
  pub fresh : NoneNamesNew m l
  pub all : AllAccesses es
  pub pages : PagesKept m 0 es
  pub calls : CallsKept m es
