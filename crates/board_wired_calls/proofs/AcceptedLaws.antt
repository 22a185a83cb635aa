-- What an accepted call leaves: the wired part came back, then the files. No contract cites this file.
-- Assumes nothing.
use Prim.Native.Nat.{ℕ, ◌≤◌, ◌<◌}
use mathlib.Core.Path.{◌≡◌, sym, ap, subst, ◌∙◌}
use mathlib.Core.Bool.{Bool, true}
use mathlib.Core.List.{List, []}
use native.Mathlib.Omega.{arith}
use lib.ListN.{length, take, drop}
use Rattle.files.specs.Files.{Named}
use Rattle.files.proofs.FilesLaws.{named-of}
use Rattle.domain_region.specs.Region.{Within}
use Rattle.domain_region.specs.declared.Word.{Word}
use Rattle.wired_state.specs.Wires.{Wired, wired_of}
use Rattle.wired_rules.specs.Rules.{wired_sound}
use Rattle.domain_sending.specs.Sending.{logged}
use Rattle.domain_sending_laws.proofs.MessageEffects.{logged-back, logged-every, Every}
use Rattle.wired.specs.Controller.{Out, Leaves, wire_call, read_call, write_call}
use Rattle.wired.proofs.CallLaws.{words-steady, words-quiet, read-silent}
use Rattle.wired_laws.proofs.OutEffects.{Exists, wire-count, write-count}
use Rattle.board_block.specs.Block.{with_wired, board_of, board_sound}
use Rattle.board_block.proofs.BlockLaws.{wired-part, wired-long}
use Rattle.board_call.specs.Outcome.{delivered}
use Rattle.board_call_laws.proofs.StepEffects.{sound-wired}
use Rattle.board_call_laws.specs.Left.{Left}
use Rattle.sizes.specs.Sizes.{block_size, files_size, wired_size}

-- the wired part of a sound board keeps its rules
pub part_sound : (l : List ℕ) → length l ≡ block_size → board_sound (board_of l) ≡ true
    → wired_sound (wired_of (take wired_size (drop files_size l))) ≡ true
part_sound l long sound = ap wired_sound (wired-part l long) ∙ sound-wired (board_of l) sound

-- and so 63 words suffice for what it sends
module _ (l : List ℕ) (long : length l ≡ block_size) (sound : board_sound (board_of l) ≡ true) (n : ℕ) where
  abbrev part : List ℕ
  part = take wired_size (drop files_size l)

  pub wire-within : (i : ℕ) → 1 ≤ i → i < 64 → (level : Bool)
      → n ≡ length (wire_call (wired_of part) i level).messages → n ≤ 63
  wire-within i a b level e =
      let kept = part_sound l long sound in
      omega (
        arith,
        e,
        wire-count (wired_of part) (words-steady part (wired-long l long) kept)
            (words-quiet part (wired-long l long) kept) i a b level,
      )

  pub write-within : (c : Bool) (r : Word) → Within r → (v : ℕ)
      → n ≡ length (write_call (wired_of part) c r v).messages → n ≤ 63
  write-within c r b v e =
      let kept = part_sound l long sound in
      omega (
        arith,
        e,
        write-count (wired_of part) (words-steady part (wired-long l long) kept)
            (words-quiet part (wired-long l long) kept) c r b v,
      )

-- a read sends nothing
pub read_none : (l : List ℕ) → length l ≡ block_size → board_sound (board_of l) ≡ true → (c : Bool) (r : Word)
    → (read_call (board_of l).wired c r).messages ≡ []
read_none l long sound c r =
    let part = take wired_size (drop files_size l) in
    let kept = part_sound l long sound in
    ap (λ (w : Wired). (read_call w c r).messages) (sym (wired-part l long))
    ∙ ap (λ (o : Out). o.messages)
    (read-silent (wired_of part) (words-steady part (wired-long l long) kept)
    (words-quiet part (wired-long l long) kept) c r)

-- the messages of a call can be delivered from the log that it left
pub left-named : (o : Out) (w : Wired) (g g' : List ℕ) (n : ℕ) → Leaves o w g g' n
    → Every Exists o.messages → Named g' n
left-named o w g g' n (a, b, k) exist =
    subst (λ (x : List ℕ). Named x n) (sym b)
    (named-of (logged g o.messages) n
    (λ j h. logged-every Exists o.messages g exist j (omega arith)))

-- the wired part zs came back, in the block m, and then the messages were delivered, which left the log
module _ (l m zs g g' : List ℕ) (n : ℕ) (back : board_of m ≡ with_wired (board_of l) (wired_of zs)) where
  pub done-left : (o : Out) → Leaves o (wired_of zs) g g' n → (l' g'' : List ℕ)
      → board_of l' ≡ delivered (board_of m) (take n g') → g'' ≡ g' → Left o l l' g g'' n
  done-left o (a, b, k) l' g'' e same =
      let put = back ∙ ap (with_wired (board_of l)) a in
      let sent : take n g' ≡ o.messages = ap (take n) b ∙ logged-back o.messages g n k in
      (e ∙ (λ j. delivered (put j) (sent j)), same ∙ b, k)

pub left-of : {o p : Out} → o ≡ p → (l l' g g' : List ℕ) (n : ℕ) → Left o l l' g g' n
    → Left p l l' g g' n
left-of e l l' g g' n = subst (λ (x : Out). Left x l l' g g' n) e
