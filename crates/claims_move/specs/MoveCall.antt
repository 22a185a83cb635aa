-- Claims 100 to 103: one access of the move of a station: what the call gives; and, in numbers and bits,
-- when it is barred, what it does to the file old, to the file new and to the saved numbers, and that it does
-- nothing else. 01, "The move, with its premises"; the standard 6.1.2.
--   Fit b                  b has its lengths, its files have words of 32 bits, and it keeps the state rules
--   is_move .. n           what Claim-101 says of old, new and n, without the child domain
--   WordOf ws k w          w is word k of the set ws, 64 identities to a word: bit j is identity 64 k + j
--   PendingBecame f f' p   f' is the file f but for its pending set, which has just the identities that p has
--   EnableBecame f f' p    the same of the enable set
--   Renamed t t' h f       the target t' names file f of hart h, with the identity of t, and has no other bit
-- oh and of are the hart and the file of old, nh and nf those of new, n is the number of the access, and s is
-- the ten saved numbers: at 0 the delivery, at 1 the threshold, at 2 to 5 the words of pending bits, at 6
-- to 9 those of enable bits. What is past the end of a shorter list is read as 0 and is not stored.
-- Premises: of claims 102 and 103 `Fit b`, as the board of every block of words of 32 bits is that is not
-- refused, and that old, new and n are not barred (`is_move`). Claims 100 and 101 have none but, in
-- Claim-100,
-- what the contract ensures. No axioms.
use Rattle.std.specs.Prelude.{ℕ, ◌+◌, ◌-◌, ◌*◌, ◌/◌, ◌%◌, ◌^◌, ◌≤◌, ◌<◌, ◌≡◌, Bool, true, cond, not, ◌&&◌}
use Rattle.std.specs.Prelude.{◌||◌, List, [], ◌≢◌, ◌↔◌, eqb, leb, get_or, set}
use contract.Lifetimes.{Lfts}
use Rattle.std.specs.Borrow.{MutBor}
use Rattle.words.specs.Bits.{has_bit}
use Rattle.words.specs.Sets.{member}
use Rattle.file_select.specs.Halves.{doubleword}
use Rattle.file.specs.declared.File.{File}
use Rattle.file.specs.Parts.{with_delivery, with_threshold}
use Rattle.source_target.specs.Target.{hart_of, guest_of, number_of}
use Rattle.domain.specs.Domain.{by_messages, genmsi_of}
use Rattle.domain.specs.Slot.{source_at}
use Rattle.files.specs.Files.{file_number, the_file}
use Rattle.board_block.specs.Block.{Board}
use Rattle.board_call.specs.declared.Call.TheVariants.{Move}
use Rattle.board_call.specs.Numbers.{is_move}
use Rattle.board_call.specs.Calls.{present}
use Rattle.board_call.specs.Answer.{Answer}
use Rattle.board_call.specs.Outcome.{step, outcome, Gives}
use Rattle.board_call_laws.specs.Fit.{Fit}
use Rattle.monitor_answer.specs.declared.VskAnswer.{VskAnswer}
use Rattle.monitor_answer.specs.Told.{Told}
use Rattle.board_move_calls.proofs.make_access.Reads as make-access
use Rattle.monitor.proofs.vsk_move.Reads as vsk-move

-- ---- what the call gives

-- the call, and the function that C calls, for any numbers, any blocks and any saved numbers: the answer,
-- both blocks and the saved numbers are those of the outcome; and nothing is asked of the caller
-- [01 C4 C17 V1 V2 V3 V4 X2]
unfoldable pub Claim-100 : Type 0
Claim-100 =
    (l : Lfts 3) (b b' g g' s s' : MutBor (List ℕ)) (oh of nh nf n : ℕ)
    → let o = outcome (Move oh of nh nf n) b.now g.now s.now in
    make-access.Asked l (b, (g, (s, (oh, (of, (nh, (nf, (n, tt))))))))
    × ((r : Answer)
    → make-access.Learnt l (b, (g, (s, (oh, (of, (nh, (nf, (n, tt)))))))) r
    (b', (g', (s', (oh, (of, (nh, (nf, (n, tt))))))))
    → Gives o r b'.now g'.now s'.now)
    × vsk-move.Asked l (b, (g, (oh, (of, (nh, (nf, (n, (s, tt))))))))
    × ((r : VskAnswer)
    → vsk-move.Learnt l (b, (g, (oh, (of, (nh, (nf, (n, (s, tt)))))))) r
    (b', (g', (oh, (of, (nh, (nf, (n, (s', tt))))))))
    → Told o r b'.now g'.now s'.now)

-- ---- when an access is barred

-- an access is not barred exactly if old and new are two different guest files, each a file 2 to 4 of a hart
-- 0 to 3, its number is 1 to 89, and the child domain is not in direct mode; `is_move` is this without the
-- child domain
-- [01 C14 V9 V10 V11]
unfoldable pub Claim-101 : Type 0
Claim-101 =
    (b : Board) (oh of nh nf n : ℕ)
    → let Numbered = (oh < 4) × (2 ≤ of) × (of ≤ 4) × (nh < 4) × (2 ≤ nf) × (nf ≤ 4)
    × (oh ≡ nh → of ≡ nf → ⊥) × (1 ≤ n) × (n ≤ 89) in
    ((is_move oh of nh nf n ≡ true) ↔ Numbered)
    × ((present (Move oh of nh nf n) b ≡ true) ↔ (Numbered × (by_messages b.wired.child ≡ true)))

-- ---- old, new and the saved numbers

pub record WordOf (ws : List ℕ) (k w : ℕ) : Type 0 where
  pub bits : (j : ℕ) → j < 64 → has_bit w j ≡ member ws (64 * k + j)
  pub small : w < 2 ^ 64

pub record PendingBecame (f f' : File) (p : ℕ → Bool) : Type 0 where
  pub delivery : f'.delivery ≡ f.delivery
  pub threshold : f'.threshold ≡ f.threshold
  pub enable : f'.enable ≡ f.enable
  pub pending : (i : ℕ) → member f'.pending i ≡ p i

pub record EnableBecame (f f' : File) (p : ℕ → Bool) : Type 0 where
  pub delivery : f'.delivery ≡ f.delivery
  pub threshold : f'.threshold ≡ f.threshold
  pub pending : f'.pending ≡ f.pending
  pub enable : (i : ℕ) → member f'.enable i ≡ p i

-- what each of the 89 accesses leaves: o and f are old and new before it, o' and f' after it, and x.saved is
-- the saved numbers after it. Each access is one of these twelve, in the six steps of 01. Identity i of a set
-- is bit i % 64 of its word i / 64; identity 0 is never set
-- [01 V5 V6 V15 V16 V19 V20 V21 V30 M3 X9]
unfoldable pub Claim-102 : Type 0
Claim-102 =
    (b : Board) → Fit b → (oh of nh nf n : ℕ) → is_move oh of nh nf n ≡ true → (s : List ℕ)
    → let x = step (Move oh of nh nf n) b s in
    let o = the_file b.files (file_number oh of) in
    let f = the_file b.files (file_number nh nf) in
    let o' = the_file x.board.files (file_number oh of) in
    let f' = the_file x.board.files (file_number nh nf) in
    -- step 1: the delivery and the threshold of old are saved, and its delivery becomes 0
    (n ≡ 1 → (o' ≡ o) × (f' ≡ f) × (x.saved ≡ set s 0 o.delivery))
    × (n ≡ 2 → (o' ≡ o) × (f' ≡ f) × (x.saved ≡ set s 1 o.threshold))
    × (n ≡ 3 → (o' ≡ with_delivery o 0) × (f' ≡ f) × (x.saved ≡ s))
    -- step 2: the delivery and the pending words of new become 0
    × (n ≡ 4 → (o' ≡ o) × (f' ≡ with_delivery f 0) × (x.saved ≡ s))
    × ((k : ℕ) → k < 4 → n ≡ 5 + k
    → (o' ≡ o) × PendingBecame f f' (λ i. member f.pending i && not (eqb (i / 64) k)) × (x.saved ≡ s))
    -- step 3: the target of source i, which concerns no file: Claim-103
    × ((i : ℕ) → 1 ≤ i → i ≤ 63 → n ≡ 8 + i → (o' ≡ o) × (f' ≡ f) × (x.saved ≡ s))
    -- step 4: the pending and the enable words of old are saved
    × ((k : ℕ) → k < 4 → n ≡ 72 + k
    → let w = doubleword o.pending k in
    WordOf o.pending k w × (o' ≡ o) × (f' ≡ f) × (x.saved ≡ set s (2 + k) w))
    × ((k : ℕ) → k < 4 → n ≡ 76 + k
    → let w = doubleword o.enable k in
    WordOf o.enable k w × (o' ≡ o) × (f' ≡ f) × (x.saved ≡ set s (6 + k) w))
    -- step 5: what was pending is set in new, and what was enabled is written there
    × ((k : ℕ) → k < 4 → n ≡ 80 + k
    → let w = get_or s (2 + k) 0 in
    (o' ≡ o)
    × PendingBecame f f' (λ i. member f.pending i || (eqb (i / 64) k && has_bit w (i % 64) && leb 1 i))
    × (x.saved ≡ s))
    × ((k : ℕ) → k < 4 → n ≡ 84 + k
    → let w = get_or s (6 + k) 0 in
    (o' ≡ o)
    × EnableBecame f f' (λ i. cond (eqb (i / 64) k) (has_bit w (i % 64) && leb 1 i) (member f.enable i))
    × (x.saved ≡ s))
    -- 6. write threshold and delivery to new; a delivery that is neither 0 nor 1 changes nothing
    × (n ≡ 88 → (o' ≡ o) × (f' ≡ with_threshold f (get_or s 1 0 % 256)) × (x.saved ≡ s))
    × (n ≡ 89
    → (o' ≡ o) × (get_or s 0 0 ≤ 1 → f' ≡ with_delivery f (get_or s 0 0)) × (2 ≤ get_or s 0 0 → f' ≡ f)
    × (x.saved ≡ s))

-- ---- everything else

pub record Renamed (t t' h f : ℕ) : Type 0 where
  pub hart : hart_of t' ≡ h
  pub file : guest_of t' + 1 ≡ f
  pub identity : number_of t' ≡ number_of t
  pub whole : t' ≡ h * 2 ^ 18 + (f - 1) * 2 ^ 12 + number_of t

-- an access answers 0 and sends nothing; every file but old and new, the wires, the machine domain, and of
-- the child domain all but its targets are as they were, genmsi too, which stands with the targets. Access
-- 8 + i makes the target of source i name new instead of old, with the same identity, if it named old; in
-- every other case a target is as it was
-- [01 V1 V7 V8 V17]
unfoldable pub Claim-103 : Type 0
Claim-103 =
    (b : Board) → Fit b → (oh of nh nf n : ℕ) → is_move oh of nh nf n ≡ true → (s : List ℕ)
    → let x = step (Move oh of nh nf n) b s in
    let w = b.wired in
    let w' = x.board.wired in
    (x.value ≡ 0) × (x.messages ≡ [])
    × ((k : ℕ) → k ≢ file_number oh of → k ≢ file_number nh nf
    → the_file x.board.files k ≡ the_file b.files k)
    × (w'.wires ≡ w.wires) × (w'.machine ≡ w.machine)
    × (w'.child.source ≡ w.child.source) × (w'.child.pending ≡ w.child.pending)
    × (w'.child.enable ≡ w.child.enable) × (w'.child.delivery ≡ w.child.delivery)
    × (genmsi_of w'.child ≡ genmsi_of w.child)
    × ((i : ℕ) → 1 ≤ i → i ≤ 63
    → let t = (source_at w.child i).target in
    let t' = (source_at w'.child i).target in
    (n ≡ 8 + i → hart_of t ≡ oh → guest_of t + 1 ≡ of → Renamed t t' nh nf)
    × ((n ≡ 8 + i → hart_of t ≡ oh → guest_of t + 1 ≡ of → ⊥) → t' ≡ t))
