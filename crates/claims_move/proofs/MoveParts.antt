-- What the parts of an access of a move leave: a word of a set that is read, cleared, set or written, and a
-- target that is rewritten. Assumes nothing.
use Prim.Native.Nat.{ℕ, ◌+◌, ◌*◌, ◌/◌, ◌%◌, ◌≤◌, ◌<◌}
use mathlib.Core.Path.{◌≡◌, refl, ap, ◌∙◌}
use mathlib.Core.Bool.{Bool, true, false, cond, not, ◌&&◌, ◌||◌, and-true, and-false}
use mathlib.Core.List.{List}
use mathlib.Core.Logic.{◌≢◌}
use native.Mathlib.Decide.{ℕ_discrete}
use native.Mathlib.Omega.{arith}
use lib.Dec.{eqb, leb}
use lib.ListN.{get_or}
use borrow.Author.Tests.{eq-eqb, ne_eqb, le-leb}
use Rattle.words.specs.Bits.{has_bit}
use Rattle.words.specs.Parts.{field_of, packed}
use Rattle.words.specs.Sets.{member, WordsFit}
use Rattle.words.proofs.BitsLaws.{has_bit-nothing}
use Rattle.words.proofs.PartsLaws.{joined-lt}
use Rattle.words.proofs.TestsLaws.{tested}
use Rattle.sizes.specs.Sizes.{identities, file_set_size}
use Rattle.file_select.specs.Select.{eip0, eie0}
use Rattle.file_select.specs.Halves.{doubleword}
use Rattle.file.specs.declared.File.{File}
use Rattle.file.specs.declared.register.Access.TheVariants.{Read, Write, Set}
use Rattle.file.specs.Parts.{with_pending_set, with_enable}
use Rattle.file.specs.Register.{held, accessed_at, accessed}
use Rattle.file.specs.Reply.{reply_value}
use Rattle.file.specs.Shape.{Shaped}
use Rattle.source_mode.specs.Mode.{is_active}
use Rattle.source_target.specs.Target.{hart_of, guest_of, number_of, kept_target}
use Rattle.source_target.proofs.TargetLaws.{number_of-lt, kept-first, kept-priority}
use Rattle.source.specs.declared.Source.{Source}
use Rattle.source.proofs.PendingLaws.{retargeted-active}
use Rattle.source_laws.proofs.SteadyParts.{steady-target}
use Rattle.domain.specs.Domain.{by_messages, genmsi_of}
use Rattle.domain.specs.Slot.{source_at}
use Rattle.wired_state.specs.Wires.{Wired, domain_in}
use Rattle.wired_rules_laws.specs.Steady.{WiredSteady}
use Rattle.wired_laws.proofs.TargetEffects.{target-own, target-other}
use Rattle.board_move_steps.specs.Names.{names_file, renamed}
use Rattle.board_move_files_laws.proofs.SelectEffects.{pending-there, enable-there, set-writes}
use Rattle.board_move_files_laws.proofs.WrittenEffects.{large-sized, stays, kept_of, kept_same, kept-other}
use Rattle.board_move_files_laws.proofs.WrittenEffects.{Clear, word-only, member-accessed, member-set}
use Rattle.file_laws.proofs.WordEffects.{has_bit-doubleword}
use Rattle.board_move_wired_laws.proofs.TargetNames.{names-number, hart_of-renamed, guest_of-renamed}
use Rattle.board_move_wired_laws.proofs.TargetNames.{number_of-renamed, kept-renamed}
use Rattle.board_move_wired_laws.proofs.StepThree.{next-hit, next-miss, named-active}
use Rattle.board_call.specs.Move.{retargeted_in}
use Rattle.claims_move.specs.MoveCall.{WordOf, PendingBecame, EnableBecame, Renamed}

-- ---- one file

pub word_of : (ws : List ℕ) (k : ℕ) → WordsFit ws → WordOf ws k (doubleword ws k)
unfolding doubleword WordsFit
word_of ws k fit =
    record {
      bits = λ j h. ap (has_bit (doubleword ws k)) (omega arith)
          ∙ has_bit-doubleword ws k (64 * k + j) fit (omega arith);
      small = joined-lt (get_or ws (2 * k) 0) (get_or ws (2 * k + 1) 0) (fit (2 * k)) (fit (2 * k + 1));
    }

-- a file that is f but for its pending set, or but for its enable set
pending-became : (f y : File) (ws : List ℕ) (p : ℕ → Bool) → y ≡ with_pending_set f ws
    → ((i : ℕ) → member y.pending i ≡ p i) → PendingBecame f y p
pending-became f y ws p e same =
    record {
      delivery = ap (λ (z : File). z.delivery) e;
      threshold = ap (λ (z : File). z.threshold) e;
      enable = ap (λ (z : File). z.enable) e;
      pending = same;
    }

enable-became : (f y : File) (ws : List ℕ) (p : ℕ → Bool) → y ≡ with_enable f ws
    → ((i : ℕ) → member y.enable i ≡ p i) → EnableBecame f y p
enable-became f y ws p e same =
    record {
      delivery = ap (λ (z : File). z.delivery) e;
      threshold = ap (λ (z : File). z.threshold) e;
      pending = ap (λ (z : File). z.pending) e;
      enable = same;
    }

-- of the identities in a file's sets all but 0 are kept
stays-large : (i : ℕ) → i < 32 * file_set_size → stays identities i ≡ leb 1 i
unfolding stays
stays-large i h = simp (le-leb i identities (omega arith), and-true)

module _ (f : File) (k : ℕ) (h : k < 4) where
  pub word_read : (reply_value (accessed identities true f Read (eip0 + 2 * k) 0).answer
      ≡ doubleword f.pending k)
      × (reply_value (accessed identities true f Read (eie0 + 2 * k) 0).answer ≡ doubleword f.enable k)
  unfolding accessed_at held
  word_read = (
    rw (pending-there identities true f Read 0 k h (omega arith)),
    rw (enable-there identities true f Read 0 k h (omega arith)),
  )

  module _ (v : ℕ) (s : Shaped f) (clear : (i : ℕ) → i / 64 ≡ k → Clear identities f i) where
    -- word k cleared, the bits of v set in it, or v written to it
    pub became-cleared : PendingBecame f (accessed identities true f Write (eip0 + 2 * k) 0).file
        (λ i. member f.pending i && not (eqb (i / 64) k))
    became-cleared =
        pending-became f _ _ _ (word-only identities true f k h 0).0
        (λ i. (member-accessed identities true f k h s i (clear i) large-sized 0).0
        ∙ at i (ℕ_discrete (i / 64) k))
      where
        at : (i : ℕ) → Dec (i / 64 ≡ k)
            → kept_of identities f.pending k 0 i ≡ (member f.pending i && not (eqb (i / 64) k))
        at i (yes e) =
            kept_same identities f.pending k 0 i e
            ∙ simp (has_bit-nothing, eq-eqb (i / 64) k e, and-false)
        at i (no d) = kept-other identities f.pending k 0 i d ∙ simp (ne_eqb (i / 64) k d, and-true)

    pub became-set : PendingBecame f (accessed identities true f Set (eip0 + 2 * k) v).file
        (λ i. member f.pending i || (eqb (i / 64) k && has_bit v (i % 64) && leb 1 i))
    became-set =
        pending-became f _ _ _
        (set-writes identities true f (eip0 + 2 * k) v ∙ (word-only identities true f k h _).0)
        (λ i. member-set identities true f k h s i (clear i) large-sized v ∙ at i (ℕ_discrete (i / 64) k))
      where
        at : (i : ℕ) → Dec (i / 64 ≡ k)
            → (member f.pending i || (eqb (i / 64) k && has_bit v (i % 64) && stays identities i))
            ≡ (member f.pending i || (eqb (i / 64) k && has_bit v (i % 64) && leb 1 i))
        at i (yes e) = rw (stays-large i (omega arith))
        at i (no d) = simp (ne_eqb (i / 64) k d)

    pub became-written : EnableBecame f (accessed identities true f Write (eie0 + 2 * k) v).file
        (λ i. cond (eqb (i / 64) k) (has_bit v (i % 64) && leb 1 i) (member f.enable i))
    became-written =
        enable-became f _ _ _ (word-only identities true f k h v).1
        (λ i. (member-accessed identities true f k h s i (clear i) large-sized v).1
        ∙ at i (ℕ_discrete (i / 64) k))
      where
        at : (i : ℕ) → Dec (i / 64 ≡ k)
            → kept_of identities f.enable k v i
            ≡ cond (eqb (i / 64) k) (has_bit v (i % 64) && leb 1 i) (member f.enable i)
        at i (yes e) =
            kept_same identities f.enable k v i e
            ∙ simp (stays-large i (omega arith), eq-eqb (i / 64) k e)
        at i (no d) = kept-other identities f.enable k v i d ∙ simp (ne_eqb (i / 64) k d)

-- ---- a target

-- in direct mode a target holds a hart and a priority
direct-guest : (a p : ℕ) → p < 256 → guest_of (packed a 18 p) ≡ 0
unfolding guest_of field_of packed
direct-guest a p h = omega arith

kept-direct : (t : ℕ) → t ≡ kept_target true false t → guest_of t ≡ 0
kept-direct t e = at (ℕ_discrete (number_of t) 0)
  where
    at : Dec (number_of t ≡ 0) → guest_of t ≡ 0
    at (yes z) = ap guest_of (e ∙ kept-first true false t refl z) ∙ direct-guest (hart_of t) 1 (omega arith)
    at (no z) =
        ap guest_of (e ∙ kept-priority true false t refl z)
        ∙ direct-guest (hart_of t) (number_of t) (number_of-lt t)

pub renames : (t h f : ℕ) → h < 4 → 2 ≤ f → f < 5 → Renamed t (renamed t h f) h f
renames t h f a l u =
    record {
      hart = hart_of-renamed t h f a (omega arith) u;
      file = guest_of-renamed t h f a (omega arith) u;
      identity = number_of-renamed t h f a (omega arith) u;
      whole = unfold renamed packed in omega arith;
    }

module _ (oh of nh nf : ℕ) (w : Wired) (i : ℕ) where
  abbrev here : ℕ
  here = (source_at w.child i).target

  abbrev next : Wired
  next = retargeted_in oh of nh nf w i

  pub next-other : (j : ℕ) → j ≢ i → source_at next.child j ≡ source_at w.child j
  unfolding domain_in
  next-other j d =
      tested (names_file here oh of)
      (λ t. ap (λ (z : Wired). source_at z.child j) (next-hit oh of nh nf w i t)
      ∙ target-other w true i (renamed here nh nf) j d)
      (λ e. ap (λ (z : Wired). source_at z.child j) (next-miss oh of nh nf w i e))

  pub next-genmsi : 1 ≤ i → genmsi_of next.child ≡ genmsi_of w.child
  unfolding genmsi_of source_at
  next-genmsi l = ap (λ (z : Source). z.target) (next-other 0 (λ q. omega arith))

  module _ (s : WiredSteady w) (l : 1 ≤ i) (h : i < 64) (lo : 2 ≤ of)
      (names : names_file here oh of ≡ true) where
    active : is_active (source_at w.child i).mode ≡ true
    active = named-active oh of nh nf w i s l h lo names

    -- a target that names a guest's file is one of a domain that sends messages
    by-messages : by_messages w.child ≡ true
    by-messages =
        tested (by_messages w.child) (λ t. t)
        (λ e. let kept = steady-target true (by_messages w.child) (member w.wires i)
        (source_at w.child i) (s.child.source i l h) active in
        let guest = (names-number here oh of names).1 in
        absurd (omega (arith, kept-direct here (kept ∙ ap (λ (m : Bool). kept_target true m here) e))))

    pub next-own : nh < 4 → 2 ≤ nf → nf < 5 → (source_at next.child i).target ≡ renamed here nh nf
    unfolding domain_in
    next-own hn ln un =
        let d = w.child in
        let v = renamed here nh nf in
        ap (λ (z : Wired). (source_at z.child i).target) (next-hit oh of nh nf w i names)
        ∙ ap (λ (z : Source). z.target)
        (target-own w true i v s.child.shaped h
        ∙ retargeted-active (source_at d i) (by_messages d) true v active)
        ∙ rw by-messages (kept-renamed here nh nf hn (omega arith) un)
