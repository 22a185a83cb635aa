-- Claims 120 to 125, from the laws of the select numbers and of the two words behind one. Assumes nothing.
use Prim.Native.Nat.{ℕ, ◌+◌, ◌*◌, ◌/◌, ◌%◌, ◌≤◌, ◌<◌}
use mathlib.Core.Path.{◌≡◌, refl, sym, ap, ◌∙◌}
use mathlib.Core.Bool.{Bool, true, not, cond, ◌&&◌, ◌||◌}
use mathlib.Core.List.{List}
use mathlib.Core.Logic.{◌≢◌, ⊎_elim}
use native.Mathlib.Decide.{ℕ_discrete}
use native.Mathlib.Omega.{arith}
use lib.Dec.{eqb, leb}
use lib.ListN.{length, get_or}
use Rattle.std.specs.Prelude.{Some}
use borrow.Author.Tests.{ne_eqb}
use Rattle.words.specs.Bits.{has_bit, union, without}
use Rattle.words.specs.Sets.{member, WordsFit}
use Rattle.words.proofs.BitsLaws.{has_bit-union, has_bit-without}
use Rattle.words.proofs.PartsLaws.{joined-lt}
use Rattle.file_select.specs.declared.Register.{Register}
use Rattle.file_select.specs.declared.Register.TheVariants.{Delivery, Threshold, Pending, Enable, Unused}
use Rattle.file_select.specs.Select.{select_legal, register_of}
use Rattle.file_select.specs.Halves.{doubleword, put_doubleword}
use Rattle.file_select.proofs.SelectLaws.{legal-named, legal-words, words-there, words-past}
use Rattle.file_select.proofs.SelectLaws.{register-delivery, register-threshold, register-named}
use Rattle.file_select.proofs.SelectLaws.{register-pending, register-enable}
use Rattle.file.specs.declared.File.{File}
use Rattle.file.specs.declared.register.Access.{Access}
use Rattle.file.specs.declared.register.Access.TheVariants.{Read, Write, Set, Clear}
use Rattle.file.specs.declared.register.Accessed.{Accessed}
use Rattle.file.specs.Shape.{Shaped}
use Rattle.file.specs.Register.{held, written, accessed_at, accessed}
use Rattle.file.proofs.RegisterLaws.{written-legal, written-illegal, accessed-kind}
use Rattle.file_laws.proofs.WordEffects.{has_bit-doubleword, member-put_doubleword}
use Rattle.claims_file.specs.FileRegisters.{Shows, PendingAlone, EnableAlone, OldAndNew, SetOrCleared}
use Rattle.claims_file.specs.FileRegisters.{Claim-120, Claim-121, Claim-122, Claim-123, Claim-124}
use Rattle.claims_file.specs.FileRegisters.{Claim-125}
use Rattle.claims_file.proofs.FileState.{legal-delivery, illegal-delivery, delivery-allowed}

-- ---- the register that a number names

even-legal : (s : ℕ) → 0x80 ≤ s → s ≤ 0xFF → s % 2 ≡ 0 → select_legal s ≡ true
even-legal s l h e = legal-words s l h ∙ ap not (ne_eqb (s % 2) 1 (λ q. omega arith))

pending-named : (j : ℕ) → j < 4 → register_of 255 (0x80 + 2 * j) ≡ Pending j
pending-named j h =
    register-pending 255 (0x80 + 2 * j) (omega arith) (omega arith)
    ∙ words-there 255 0x80 Pending (0x80 + 2 * j) (omega arith) ∙ ap Pending (omega arith)

enable-named : (j : ℕ) → j < 4 → register_of 255 (0xC0 + 2 * j) ≡ Enable j
enable-named j h =
    register-enable 255 (0xC0 + 2 * j) (omega arith)
    ∙ words-there 255 0xC0 Enable (0xC0 + 2 * j) (omega arith) ∙ ap Enable (omega arith)

module _ (g : Bool) (f : File) (k : Access) (s v : ℕ) where
  at_register : (r : Register) → select_legal s ≡ true → register_of 255 s ≡ r
      → accessed 255 g f k s v ≡ accessed_at 255 g f k r v
  at_register r legal named = accessed-kind 255 g f k s v r k legal (sym named) refl

module _ (g : Bool) (f : File) (k : Access) (v : ℕ) where
  at-delivery : accessed 255 g f k 0x70 v ≡ accessed_at 255 g f k Delivery v
  at-delivery =
      at_register g f k 0x70 v Delivery (legal-named 0x70 (omega arith) (omega arith))
      (register-delivery 255 0x70 refl)

  at-threshold : accessed 255 g f k 0x72 v ≡ accessed_at 255 g f k Threshold v
  at-threshold =
      at_register g f k 0x72 v Threshold (legal-named 0x72 (omega arith) (omega arith))
      (register-threshold 255 0x72 refl)

  at-pending : (j : ℕ) → j < 4 → accessed 255 g f k (0x80 + 2 * j) v ≡ accessed_at 255 g f k (Pending j) v
  at-pending j h =
      at_register g f k (0x80 + 2 * j) v (Pending j)
      (even-legal (0x80 + 2 * j) (omega arith) (omega arith) (omega arith)) (pending-named j h)

  at-enable : (j : ℕ) → j < 4 → accessed 255 g f k (0xC0 + 2 * j) v ≡ accessed_at 255 g f k (Enable j) v
  at-enable j h =
      at_register g f k (0xC0 + 2 * j) v (Enable j)
      (even-legal (0xC0 + 2 * j) (omega arith) (omega arith) (omega arith)) (enable-named j h)

-- ---- delivery and threshold

pub claim-120 : Claim-120
unfolding Claim-120 accessed_at held
claim-120 g f v =
    record {
      alone = refl;
      read = at-delivery g f Read v;
      write = λ l. at-delivery g f Write v
          ∙ ap (λ (h : File). record { answer = Some 0; file = h })
          (written-legal 255 g f v (legal-delivery g v l));
      ignored = λ n. at-delivery g f Write v
          ∙ ap (λ (h : File). record { answer = Some 0; file = h })
          (written-illegal 255 g f v (illegal-delivery g v n));
      legal = (delivery-allowed g v, legal-delivery g v);
    }

pub claim-121 : Claim-121
unfolding Claim-121 accessed_at held written
claim-121 g f v = record { alone = refl; read = at-threshold g f Read v; write = at-threshold g f Write v }

-- ---- the two words behind a number

module _ (ws : List ℕ) (j : ℕ) (fit : WordsFit ws) where
  shows : Shows ws j (doubleword ws j)
  unfolding doubleword WordsFit
  shows =
      record {
        fits = joined-lt (get_or ws (2 * j) 0) (get_or ws (2 * j + 1) 0) (fit (2 * j)) (fit (2 * j + 1));
        bits = λ k h. ap (has_bit (doubleword ws j)) (omega arith)
            ∙ has_bit-doubleword ws j (64 * j + k) fit (omega arith);
      }

-- which identities a set has after v was written to its word j
module _ (ws : List ℕ) (j v i : ℕ) (fits : 2 * j + 1 < length ws) where
  -- where v has what the word showed, joined with u by a test on bits
  put-joined : WordsFit ws → (u : ℕ) (join : Bool → Bool → Bool)
      → ((k : ℕ) → has_bit v k ≡ join (has_bit (doubleword ws j) k) (has_bit u k))
      → member (put_doubleword ws j v) i
      ≡ cond (eqb (i / 64) j) (join (member ws i) (has_bit u (i % 64)) && leb 1 i) (member ws i)
  put-joined fit u join bits = member-put_doubleword ws j v i fits ∙ at (ℕ_discrete (i / 64) j)
    where
      at : Dec (i / 64 ≡ j) → cond (eqb (i / 64) j) (has_bit v (i % 64) && leb 1 i) (member ws i)
          ≡ cond (eqb (i / 64) j) (join (member ws i) (has_bit u (i % 64)) && leb 1 i) (member ws i)
      at (no d) = simp (ne_eqb (i / 64) j d)
      at (yes e) =
          ap (λ (b : Bool). cond (eqb (i / 64) j) (b && leb 1 i) (member ws i))
          (bits (i % 64) ∙ ap (λ (b : Bool). join b (has_bit u (i % 64))) (has_bit-doubleword ws j i fit e))

-- ---- pending and enable

module _ (g : Bool) (f : File) (j v : ℕ) where
  pending-apart : (k : Access) → PendingAlone f (accessed_at 255 g f k (Pending j) v).file
  unfolding accessed_at written
  pending-apart Read = record { delivery = refl; threshold = refl; enable = refl }
  pending-apart Write = record { delivery = refl; threshold = refl; enable = refl }
  pending-apart Set = record { delivery = refl; threshold = refl; enable = refl }
  pending-apart Clear = record { delivery = refl; threshold = refl; enable = refl }

  enable-apart : (k : Access) → EnableAlone f (accessed_at 255 g f k (Enable j) v).file
  unfolding accessed_at written
  enable-apart Read = record { delivery = refl; threshold = refl; pending = refl }
  enable-apart Write = record { delivery = refl; threshold = refl; pending = refl }
  enable-apart Set = record { delivery = refl; threshold = refl; pending = refl }
  enable-apart Clear = record { delivery = refl; threshold = refl; pending = refl }

  pending-alone : (k : Access) → j < 4 → PendingAlone f (accessed 255 g f k (0x80 + 2 * j) v).file
  pending-alone k h = rw (at-pending g f k v j h) (pending-apart k)

  enable-alone : (k : Access) → j < 4 → EnableAlone f (accessed 255 g f k (0xC0 + 2 * j) v).file
  enable-alone k h = rw (at-enable g f k v j h) (enable-apart k)

pub claim-122 : Claim-122
unfolding Claim-122 accessed_at held written
claim-122 g f j v s h =
    let after = at-pending g f Write v j h in
    let fits : 2 * j + 1 < length f.pending = omega (arith, s.pending_long) in (
      (doubleword f.pending j, at-pending g f Read v j h, shows f.pending j s.pending_fit),
      ap (λ (a : Accessed). a.answer) after,
      pending-alone g f j v Write h,
      (λ i. ap (λ (a : Accessed). member a.file.pending i) after
          ∙ member-put_doubleword f.pending j v i fits),
    )

pub claim-123 : Claim-123
unfolding Claim-123 accessed_at held written
claim-123 g f j v s h =
    let after = at-enable g f Write v j h in
    let fits : 2 * j + 1 < length f.enable = omega (arith, s.enable_long) in (
      (doubleword f.enable j, at-enable g f Read v j h, shows f.enable j s.enable_fit),
      ap (λ (a : Accessed). a.answer) after,
      enable-alone g f j v Write h,
      (λ i. ap (λ (a : Accessed). member a.file.enable i) after
          ∙ member-put_doubleword f.enable j v i fits),
    )

-- ---- set and clear

old-and-new : (g : Bool) (f : File) (s v : ℕ) → select_legal s ≡ true → OldAndNew g f s v
unfolding accessed_at
old-and-new g f s v legal =
    record {
      old = old;
      read = λ u. ap (λ (a : Accessed). a.answer) (at Read u);
      set_answer = ap (λ (a : Accessed). a.answer) (at Set v);
      clear_answer = ap (λ (a : Accessed). a.answer) (at Clear v);
      more = union old v;
      more_bits = has_bit-union old v;
      set_file = ap (λ (a : Accessed). a.file) (at Set v)
          ∙ sym (ap (λ (a : Accessed). a.file) (at Write (union old v)));
      less = without old v;
      less_bits = has_bit-without old v;
      clear_file = ap (λ (a : Accessed). a.file) (at Clear v)
          ∙ sym (ap (λ (a : Accessed). a.file) (at Write (without old v)));
    }
  where
    old : ℕ
    old = held f (register_of 255 s)

    at : (k : Access) (u : ℕ) → accessed 255 g f k s u ≡ accessed_at 255 g f k (register_of 255 s) u
    at k u = at_register g f k s u (register_of 255 s) legal refl

set-or-cleared : (g : Bool) (f : File) (j v : ℕ) → Shaped f → j < 4 → SetOrCleared g f j v
unfolding accessed_at held written
set-or-cleared g f j v s h =
    let p = doubleword f.pending j in
    let e = doubleword f.enable j in
    let long : 2 * j + 1 < length f.pending = omega (arith, s.pending_long) in
    let wide : 2 * j + 1 < length f.enable = omega (arith, s.enable_long) in
    record {
      set_pending = λ i. ap (λ (a : Accessed). member a.file.pending i) (at-pending g f Set v j h)
          ∙ put-joined f.pending j (union p v) i long s.pending_fit v (λ a b. a || b) (has_bit-union p v);
      clear_pending = λ i. ap (λ (a : Accessed). member a.file.pending i) (at-pending g f Clear v j h)
          ∙ put-joined f.pending j (without p v) i long s.pending_fit v (λ a b. a && not b)
          (has_bit-without p v);
      set_pending_rest = pending-alone g f j v Set h;
      clear_pending_rest = pending-alone g f j v Clear h;
      set_enable = λ i. ap (λ (a : Accessed). member a.file.enable i) (at-enable g f Set v j h)
          ∙ put-joined f.enable j (union e v) i wide s.enable_fit v (λ a b. a || b) (has_bit-union e v);
      clear_enable = λ i. ap (λ (a : Accessed). member a.file.enable i) (at-enable g f Clear v j h)
          ∙ put-joined f.enable j (without e v) i wide s.enable_fit v (λ a b. a && not b)
          (has_bit-without e v);
      set_enable_rest = enable-alone g f j v Set h;
      clear_enable_rest = enable-alone g f j v Clear h;
    }

pub claim-124 : Claim-124
unfolding Claim-124
claim-124 g f v = ((λ s legal. old-and-new g f s v legal), (λ j s h. set-or-cleared g f j v s h))

-- ---- the numbers with no register

unused-at : (g : Bool) (f : File) (k : Access) (v : ℕ)
    → accessed_at 255 g f k Unused v ≡ record { answer = Some 0; file = f }
unfolding accessed_at held written
unused-at g f Read v = refl
unused-at g f Write v = refl
unused-at g f Set v = refl
unused-at g f Clear v = refl

-- a number that names no register
module _ (g : Bool) (f : File) (k : Access) (s v : ℕ) where
  unused : select_legal s ≡ true → register_of 255 s ≡ Unused
      → accessed 255 g f k s v ≡ record { answer = Some 0; file = f }
  unused legal named = at_register g f k s v Unused legal named ∙ unused-at g f k v

  past-named : 0x70 < s → s < 0x80 → s ≢ 0x72 → accessed 255 g f k s v ≡ record { answer = Some 0; file = f }
  past-named l h d = unused (legal-named s (omega arith) h) (register-named 255 s (λ q. omega arith) d h)

  past-pending : 0x88 ≤ s → s ≤ 0xBE → s % 2 ≡ 0
      → accessed 255 g f k s v ≡ record { answer = Some 0; file = f }
  past-pending l h e =
      unused (even-legal s (omega arith) (omega arith) e)
      (register-pending 255 s (omega arith) (omega arith) ∙ words-past 255 0x80 Pending s (omega arith))

  past-enable : 0xC8 ≤ s → s ≤ 0xFE → s % 2 ≡ 0
      → accessed 255 g f k s v ≡ record { answer = Some 0; file = f }
  past-enable l h e =
      unused (even-legal s (omega arith) (omega arith) e)
      (register-enable 255 s (omega arith) ∙ words-past 255 0xC0 Enable s (omega arith))

pub claim-125 : Claim-125
unfolding Claim-125
claim-125 = (
  (λ g f k s v. ⊎_elim (λ e. past-named g f k s v (omega arith) (omega arith) (λ q. omega arith))
      (⊎_elim
      (λ n. past-named g f k s v (omega (arith, n.0)) (omega (arith, n.1)) (λ q. omega (arith, n.0)))
      (λ w. ⊎_elim (λ p. past-pending g f k s v p.0 p.1 w.0)
      (λ e. past-enable g f k s v e.0 e.1 w.0) w.1))),
  (λ u. (refl, refl)),
  (refl, refl),
)
