-- Claims 152 and 153, by the laws of the calls and of the files. Assumes nothing.
use Prim.Native.Nat.{ℕ, suc, ◌+◌, ◌*◌, ◌/◌, ◌%◌, ◌≤◌, ◌<◌}
use mathlib.Core.Path.{◌≡◌, refl, sym, ap, ap₂, subst, ◌∙◌}
use mathlib.Core.Bool.{Bool, true, false, beq, cond, not, ◌&&◌, ◌||◌, or-false, true≢false}
use mathlib.Core.List.{List, [], ◌∷◌}
use native.Mathlib.Decide.{ℕ_discrete}
use native.Mathlib.Omega.{arith}
use lib.Dec.{eqb}
use lib.ListN.{length}
use borrow.Author.Tests.{eq-eqb, ne_eqb, eqb-true, eqb-false}
use Rattle.words.specs.Every.{every}
use Rattle.words.proofs.EveryLaws.{every-each}
use Rattle.words.specs.Sets.{member}
use Rattle.words.proofs.TestsLaws.{tested, and_first, beq-true}
use Rattle.file.specs.declared.File.{File}
use Rattle.file.specs.Register.{accessed}
use Rattle.file_laws.proofs.RegisterEffects.{accessed-read}
use Rattle.file_laws.proofs.Stored.{Long}
use Rattle.file_message.specs.Message.{hart_in, file_in, identity_in}
use Rattle.files.specs.Files.{file_number, is_guest, the_file, with_file, named_by}
use Rattle.files.proofs.FilesLaws.{the_file-with_file-other}
use Rattle.files_laws.specs.Messages
use Rattle.files_laws.specs.Messages.{brings, any_of}
use Rattle.files_laws.proofs.ReachedEffects.{pending-all_reached, pending-all_reached-zero, rest-all_reached}
use Rattle.files_laws.proofs.ReachedEffects.{with_file-the_file}
use Rattle.domain_region.specs.Region.{word_at}
use Rattle.domain.specs.Domain.{by_messages}
use Rattle.domain_sending_laws.proofs.MessageEffects.{Every, every-none}
use Rattle.wired_state.specs.Wires.{domain_in}
use Rattle.board_move_steps.specs.declared.Act.{Act}
use Rattle.board_move_steps.specs.declared.Act.TheVariants.{Save, Zero, Target, Put}
use Rattle.board_move_steps.specs.Steps.{act_of}
use Rattle.board_block.specs.Block.{Board}
use Rattle.board_call.proofs.RefusalLaws.{accepted-present}
use Rattle.board_call.specs.declared.Call.{Call}
use Rattle.board_call.specs.declared.Call.TheVariants.{Reset, Wire, DomainRead, DomainWrite, PageRead}
use Rattle.board_call.specs.declared.Call.TheVariants.{PageWrite, Register, Top, Claim, Signals, Move}
use Rattle.board_call.specs.Numbers.{is_move}
use Rattle.board_call.specs.Calls.{NoFile, OneFile, old_access, new_access, present, row_of}
use Rattle.board_call.specs.Change.{kind_of, change}
use Rattle.board_call.specs.Move.{acted}
use Rattle.board_call.specs.Outcome.{then_sent, step}
use Rattle.board_call_laws.specs.Fit.{Fit}
use Rattle.board_move_laws.proofs.MoveEffects.{move-low, move-high}
use Rattle.claims_board.specs.Closure.{part_file, touches_file, Claim-152, Claim-153}
use Rattle.claims_board.proofs.ClosureSent.{Addressed, silent-step, Silent}
use Rattle.claims_board.proofs.ClosureSent.{step-addressed, genmsi_by-addressed}

-- ---- the file and the identity that a message names

one-hart : (a c h f : ℕ) → c < 5 → f < 5 → 5 * a + c ≡ 5 * h + f → (a ≡ h) × (c ≡ f)
one-hart a c h f lc lf e = (omega arith, omega arith)

joined : (m : ℕ) → m < 8192 → 2048 * (m / 2048 % 4) + 256 * (m / 256 % 8) + m % 256 ≡ m
joined m l = omega arith

-- as numbers
module _ (h f i m : ℕ) (lf : f < 5) (li : i ≤ 255) (small : m < 8192) where
  parts : 2048 * h + 256 * f + i ≡ m → (m / 2048 % 4 ≡ h) × (m / 256 % 8 ≡ f) × (m % 256 ≡ i)
  parts e = (omega arith, omega arith, omega arith)

  whole : m / 256 % 8 < 5 → 5 * (m / 2048 % 4) + m / 256 % 8 ≡ 5 * h + f → m % 256 ≡ i
      → 2048 * h + 256 * f + i ≡ m
  whole l e r =
      let p = one-hart (m / 2048 % 4) (m / 256 % 8) h f l lf e in
      rw (sym p.0, sym p.1, sym r) (joined m small)

  named : m / 256 % 8 < 5
      → (eqb (5 * (m / 2048 % 4) + m / 256 % 8) (5 * h + f) && eqb (m % 256) i)
      ≡ eqb (2048 * h + 256 * f + i) m
  named l = at (ℕ_discrete (2048 * h + 256 * f + i) m)
    where
      at : Dec (2048 * h + 256 * f + i ≡ m)
          → (eqb (5 * (m / 2048 % 4) + m / 256 % 8) (5 * h + f) && eqb (m % 256) i)
          ≡ eqb (2048 * h + 256 * f + i) m
      at (yes e) =
          let p = parts e in
          simp (
            eq-eqb (5 * (m / 2048 % 4) + m / 256 % 8) (5 * h + f) (omega (arith, p)),
            eq-eqb (m % 256) i p.2,
            eq-eqb (2048 * h + 256 * f + i) m e,
          )
      at (no n) =
          rw (ne_eqb (2048 * h + 256 * f + i) m n)
          (tested (eqb (5 * (m / 2048 % 4) + m / 256 % 8) (5 * h + f))
          (λ t. tested (eqb (m % 256) i)
          (λ u. absurd (n (whole l (eqb-true _ _ t) (eqb-true _ _ u))))
          (λ u. simp (t, u)))
          (λ t. simp t))

module _ (h f i : ℕ) (lf : f < 5) (li : i ≤ 255) where
  brings-is : (m : ℕ) → Addressed m → brings (5 * h + f) i m ≡ eqb (2048 * h + 256 * f + i) m
  unfolding brings Messages.names named_by file_number file_in hart_in identity_in
  brings-is m p = named h f i m lf li p.0 p.1

  any-brings : (ms : List ℕ) → Every Addressed ms
      → any_of (brings (5 * h + f) i) ms ≡ any_of (eqb (2048 * h + 256 * f + i)) ms
  unfolding any_of
  any-brings [] p = refl
  any-brings (m ∷ ms) p =
      ap₂ ◌||◌ (brings-is m (p 0 (omega arith))) (any-brings ms (λ k l. p (suc k) (omega arith)))

-- ---- what reaches a file

module _ (b : Board) (fit : Fit b) (s : List ℕ) (h f : ℕ) (lh : h < 4) (lf : f < 5) where
  abbrev k : ℕ
  k = 5 * h + f

  abbrev Reached : Call → Type 0
  Reached c =
      let x = the_file (change c b s).board.files k in
      let x' = the_file (step c b s).board.files k in
      (x'.delivery ≡ x.delivery) × (x'.threshold ≡ x.threshold) × (x'.enable ≡ x.enable)
      × (member x'.pending 0 ≡ member x.pending 0)
      × ((i : ℕ) → 1 ≤ i → i ≤ 255
      → member x'.pending i
      ≡ (member x.pending i || any_of (eqb (2048 * h + 256 * f + i)) (step c b s).messages))

  -- a call that leaves the files to its messages
  by-messages : (c : Call) → (change c b s).board.files ≡ b.files → Every Addressed (change c b s).own
      → Reached c
  unfolding step then_sent
  by-messages c same own =
      let fs = (change c b s).board.files in
      let ms = (step c b s).messages in
      let many : length fs ≡ 20 = ap length same ∙ fit.shaped.many in
      let long : Long (the_file fs k) =
      subst (λ (gs : List File). Long (the_file gs k)) (sym same) (fit.shaped.long k (omega arith)) in
      let rest = rest-all_reached ms fs k in (
        rest.delivery,
        rest.threshold,
        rest.enable,
        pending-all_reached-zero ms fs k,
        (λ i l u. pending-all_reached ms fs k i (omega arith) long l
            ∙ ap (λ (y : Bool). member (the_file fs k).pending i || y)
            (any-brings h f i lf u ms (step-addressed c b s own))),
      )

  -- a call that sends nothing
  by-none : (c : Call) → Silent b fit s c → Reached c
  unfolding any_of
  by-none c (none, same) = rw (none, same) (
    refl,
    refl,
    refl,
    refl,
    (λ i l u. sym (or-false _)),
  )

  reaches : (c : Call) → present c b ≡ true → Reached c
  unfolding row_of
  reaches Reset n = by-none Reset (silent-step b fit s Reset n refl)
  reaches (Wire i level) n =
      by-messages (Wire i level) (unfold change in refl) (unfold change in every-none Addressed)
  reaches (DomainRead d a) n = by-none (DomainRead d a) (silent-step b fit s (DomainRead d a) n refl)
  reaches (DomainWrite d a v) n =
      by-messages (DomainWrite d a v) (unfold change in refl)
      (unfold change in genmsi_by-addressed (eqb d 1) (domain_in b.wired (eqb d 1)) (word_at a) v)
  reaches (PageRead h f a) n = by-none (PageRead h f a) (silent-step b fit s (PageRead h f a) n refl)
  reaches (PageWrite h f a v) n = by-none (PageWrite h f a v) (silent-step b fit s (PageWrite h f a v) n refl)
  reaches (Register h f kind x v) n =
      by-none (Register h f kind x v) (silent-step b fit s (Register h f kind x v) n refl)
  reaches (Top h f) n = by-none (Top h f) (silent-step b fit s (Top h f) n refl)
  reaches (Claim h f) n = by-none (Claim h f) (silent-step b fit s (Claim h f) n refl)
  reaches (Signals h) n = by-none (Signals h) (silent-step b fit s (Signals h) n refl)
  reaches (Move oh of nh nf m) n =
      by-none (Move oh of nh nf m) (silent-step b fit s (Move oh of nh nf m) n refl)

pub claim-152 : Claim-152
unfolding Claim-152
claim-152 b fit c e s h f lh lf = reaches b fit s h f lh lf c (accepted-present (row_of c).tests b e)

-- ---- what a change leaves of a file

-- the acts of a move that write to the old file, and to the new one
unfoldable old_act : Act → Bool
old_act (Save select place) = false
old_act (Zero new select) = not new
old_act (Target i) = false
old_act (Put kind select place) = false

unfoldable new_act : Act → Bool
new_act (Save select place) = false
new_act (Zero new select) = new
new_act (Target i) = false
new_act (Put kind select place) = true

old-table : every (λ n. beq (old_act (act_of n)) (old_access n)) 1 89 ≡ true
unfolding every old_act act_of
old-table = refl

new-table : every (λ n. beq (new_act (act_of n)) (new_access n)) 1 89 ≡ true
unfolding every new_act act_of
new-table = refl

module _ (b : Board) (s : List ℕ) (k : ℕ) where
  abbrev Left : Call → Type 0
  Left c = the_file (change c b s).board.files k ≡ the_file b.files k

  -- file f of hart h replaced
  other : (h f : ℕ) (x : File) → eqb k (file_number h f) ≡ false
      → the_file (with_file b.files (file_number h f) x) k ≡ the_file b.files k
  other h f x e =
      the_file-with_file-other b.files (file_number h f) x k (eqb-false k (file_number h f) e)

  -- a read of a register
  read_same : (g : Bool) (x : File) (r v : ℕ) → (accessed 255 g x (kind_of 0) r v).file ≡ x
  unfolding kind_of
  read_same g x r v = accessed-read 255 g x r v

  left-register : (h f kind x v : ℕ) → touches_file (Register h f kind x v) k ≡ false
      → Left (Register h f kind x v)
  unfolding change row_of
  left-register h f kind x v e = at (ℕ_discrete kind 0)
    where
      at : Dec (kind ≡ 0) → Left (Register h f kind x v)
      at (yes z) =
          unfold change in
          let n = file_number h f in
          let y = the_file b.files n in
          ap (λ (q : ℕ). the_file (with_file b.files n
          (accessed 255 (is_guest n) y (kind_of q) x v).file) k) z
          ∙ ap (λ (w : File). the_file (with_file b.files n w) k) (read_same (is_guest n) y x v)
          ∙ ap (λ (fs : List File). the_file fs k) (with_file-the_file b.files n)
      at (no n) = unfold change in other h f _ (rw (ne_eqb kind 0 n) at e)

  left-acted : (oh of nh nf : ℕ) (a : Act)
      → part_file (cond (old_act a) (OneFile (file_number oh of))
      (cond (new_act a) (OneFile (file_number nh nf)) NoFile)) k ≡ false
      → the_file (acted a oh of nh nf b s).board.files k ≡ the_file b.files k
  unfolding acted old_act new_act
  left-acted oh of nh nf (Save select place) e = refl
  left-acted oh of nh nf (Zero true select) e = other nh nf _ e
  left-acted oh of nh nf (Zero false select) e = other oh of _ e
  left-acted oh of nh nf (Target i) e = refl
  left-acted oh of nh nf (Put kind select place) e = other nh nf _ e

  left-move : (oh of nh nf n : ℕ) → is_move oh of nh nf n ≡ true
      → touches_file (Move oh of nh nf n) k ≡ false → Left (Move oh of nh nf n)
  unfolding change row_of
  left-move oh of nh nf n there e =
      let l = move-low oh of nh nf n there in
      let u = move-high oh of nh nf n there in
      let o : old_act (act_of n) ≡ old_access n = beq-true (old_act (act_of n)) (old_access n)
      (every-each (λ (m : ℕ). beq (old_act (act_of m)) (old_access m)) 1 89 old-table n l (omega arith)) in
      let w : new_act (act_of n) ≡ new_access n = beq-true (new_act (act_of n)) (new_access n)
      (every-each (λ (m : ℕ). beq (new_act (act_of m)) (new_access m)) 1 89 new-table n l (omega arith)) in
      left-acted oh of nh nf (act_of n) (rw (o, w) e)

  left-change : (c : Call) → present c b ≡ true → touches_file c k ≡ false → Left c
  unfolding row_of
  left-change Reset n e = absurd (true≢false e)
  left-change (Wire i level) n e = unfold change in refl
  left-change (DomainRead d a) n e = unfold change in refl
  left-change (DomainWrite d a v) n e = unfold change in refl
  left-change (PageRead h f a) n e = unfold change in refl
  left-change (PageWrite h f a v) n e = unfold change in other h f _ e
  left-change (Register h f kind x v) n e = left-register h f kind x v e
  left-change (Top h f) n e = unfold change in refl
  left-change (Claim h f) n e = unfold change in other h f _ e
  left-change (Signals h) n e = unfold change in refl
  left-change (Move oh of nh nf m) n e =
      left-move oh of nh nf m (and_first (is_move oh of nh nf m) (by_messages b.wired.child) n) e

pub claim-153 : Claim-153
unfolding Claim-153
claim-153 b c e s k q = left-change b s k c (accepted-present (row_of c).tests b e) q
