-- What each access of a move makes of the two files and the saved numbers is related to the file with no
-- move, a law for each line of the table. No contract cites this file. Assumes nothing.
use Prim.Native.Nat.{ℕ, suc, ◌+◌, ◌-◌, ◌*◌, ◌%◌, ◌≤◌, ◌<◌}
use mathlib.Core.Path.{◌≡◌, refl, sym, ap, ◌∙◌}
use mathlib.Core.Bool.{true}
use mathlib.Core.List.{List}
use mathlib.Core.Logic.{◌≢◌}
use native.Mathlib.Omega.{arith}
use lib.ListN.{get_or, set}
use Rattle.words.specs.Bits.{has_bit}
use Rattle.words.specs.Sets.{member}
use Rattle.file_select.specs.Select.{eip0, eie0}
use Rattle.file.specs.declared.File.{File}
use Rattle.file.specs.declared.register.Access.TheVariants.{Read, Write, Set}
use Rattle.file.specs.Reply.{reply_value}
use Rattle.file.specs.Shape.{Shaped}
use Rattle.file.specs.Parts.{with_delivery, with_threshold}
use Rattle.file_laws.proofs.Keeps.{Rules}
use Rattle.board_move_steps.specs.Steps.{delivery_at, threshold_at, pending_at, enable_at, act_of}
use Rattle.board_move_files_laws.specs.Related.{Three, guest_access, acted_on, Untouched, Shared}
use Rattle.board_move_files_laws.specs.Related.{Noted, Restored, Related}
use Rattle.board_move_files_laws.proofs.ActedLaws.{with_new, acted-delivery, acted-threshold}
use Rattle.board_move_files_laws.proofs.ActedLaws.{acted-silence}
use Rattle.board_move_files_laws.proofs.ActedLaws.{acted-hold, acted-clear, acted-target}
use Rattle.board_move_files_laws.proofs.ActedLaws.{acted-pending}
use Rattle.board_move_files_laws.proofs.ActedLaws.{acted-enable, acted-set, acted-write, acted-shut}
use Rattle.board_move_files_laws.proofs.ActedLaws.{acted-open}
use Rattle.board_move_files_laws.proofs.WrittenEffects.{Sized, clear_in, word-only, held_word}
use Rattle.board_move_files_laws.proofs.SharedEffects.{shared-later, shared-clear, shared-still}
use Rattle.board_move_files_laws.proofs.SharedEffects.{shared-set}
use Rattle.board_move_files_laws.proofs.NotedEffects.{noted-later, noted-delivery, noted-threshold}
use Rattle.board_move_files_laws.proofs.NotedEffects.{noted-pending, noted-enable}
use Rattle.board_move_files_laws.proofs.RestoredEffects.{restored-early, restored-enable}
use Rattle.board_move_files_laws.proofs.RestoredEffects.{restored-threshold}
use Rattle.board_move_files_laws.proofs.RestoredEffects.{restored-delivery}

module _ (n m : ℕ) (x : Three) (c : File) (sized : Sized n) (r : Related n m x c) where
  -- an access that leaves the old file, as all but the third do
  untouched-later : m ≢ 2 → Untouched (suc m) x.old c
  untouched-later d =
      record {
        threshold = r.untouched.threshold;
        enable = r.untouched.enable;
        delivery = λ h. r.untouched.delivery (omega arith);
        silent = λ h. r.untouched.silent (omega arith);
      }

  -- an access that concerns no pending set, and one that saves nothing
  shared-idle : ((k : ℕ) → k < 4 → (k + 5 ≢ suc m) × (k + 80 ≢ suc m))
      → Shared n (suc m) x.old.pending x.new.pending c.pending
  shared-idle idle = shared-later n m x.old.pending x.new.pending c.pending sized idle r.shared

  noted-idle : 2 ≤ m → ((k : ℕ) → k < 8 → k + 72 ≢ suc m) → Noted n (suc m) x.numbers x.old.pending c
  noted-idle = noted-later n m x.numbers x.old.pending c sized r.noted

  -- an access that only saves
  saves : (s : List ℕ) → m ≢ 2 → m < 79 → ((k : ℕ) → k < 4 → (k + 5 ≢ suc m) × (k + 80 ≢ suc m))
      → Noted n (suc m) s x.old.pending c
      → Related n (suc m) (record { old = x.old; new = x.new; numbers = s }) c
  saves s d h idle noted =
      record {
        untouched = untouched-later d;
        shared = shared-idle idle;
        noted = noted;
        restored = restored-early n (suc m) x.new c (omega arith);
      }

  -- an access that only changes the new file
  changes : (f : File) → 3 ≤ m → ((k : ℕ) → k < 8 → k + 72 ≢ suc m)
      → Shared n (suc m) x.old.pending f.pending c.pending → Restored n (suc m) f c
      → Related n (suc m) (with_new x f) c
  changes f l idle shared restored =
      record {
        untouched = untouched-later (omega arith);
        shared = shared;
        noted = noted-idle (omega arith) idle;
        restored = restored;
      }

  abbrev After : Type 0
  After = Related n (suc m) (acted_on n (act_of (suc m)) x) c

  pub delivery-saved : m ≡ 0 → After
  delivery-saved e =
      rw (acted-delivery n (suc m) x (ap suc e))
      (saves (set x.numbers delivery_at x.old.delivery) (omega arith) (omega arith) (omega arith)
      (noted-delivery n m x.numbers x.old.pending c sized r.noted x.old.delivery e
      (r.untouched.delivery (omega arith))))

  pub threshold-saved : m ≡ 1 → After
  threshold-saved e =
      rw (acted-threshold n (suc m) x (ap suc e))
      (saves (set x.numbers threshold_at x.old.threshold) (omega arith) (omega arith) (omega arith)
      (noted-threshold n m x.numbers x.old.pending c sized r.noted x.old.threshold e
      r.untouched.threshold))

  pub old-silenced : m ≡ 2 → After
  old-silenced e =
      rw (acted-silence n (suc m) x (ap suc e))
      (record {
        untouched = record {
          threshold = r.untouched.threshold;
          enable = r.untouched.enable;
          delivery = λ h. absurd (omega arith);
          silent = λ h. refl;
        };
        shared = shared-idle (omega arith);
        noted = noted-idle (omega arith) (omega arith);
        restored = restored-early n (suc m) x.new c (omega arith);
      })

  pub new-held : m ≡ 3 → After
  new-held e =
      rw (acted-hold n (suc m) x (ap suc e))
      (changes (with_delivery x.new 0) (omega arith) (omega arith)
      (shared-idle (omega arith))
      (restored-early n (suc m) (with_delivery x.new 0) c (omega arith)))

  pub new-cleared : 4 ≤ m → m < 8 → Shaped x.new → After
  new-cleared l h sn =
      let k = suc m - 5 in
      let f = (guest_access n x.new Write (eip0 + 2 * k) 0).file in
      rw (acted-clear n (suc m) x (omega arith) (omega arith))
      (changes f (omega arith) (omega arith)
      (shared-clear n m x.old.pending c.pending x.new sized sn r.shared k (omega arith)
      (omega arith))
      (restored-early n (suc m) f c (omega arith)))

  -- what held before an access of these holds still
  pub new-still : 4 ≤ m → m < 8 → Shaped x.new → Related n m (acted_on n (act_of (suc m)) x) c
  new-still l h sn =
      let k = suc m - 5 in
      let f = (guest_access n x.new Write (eip0 + 2 * k) 0).file in
      rw (acted-clear n (suc m) x (omega arith) (omega arith))
      (record {
        untouched = r.untouched;
        shared = shared-still n m x.old.pending c.pending x.new sized sn r.shared k (omega arith)
            (omega arith);
        noted = r.noted;
        restored = restored-early n m f c (omega arith);
      })

  pub target-rewritten : 8 ≤ m → m < 71 → After
  target-rewritten l h =
      rw (acted-target n (suc m) x (omega arith) (omega arith))
      (changes x.new (omega arith) (omega arith)
      (shared-idle (omega arith))
      (restored-early n (suc m) x.new c (omega arith)))

  pub pending-saved : 71 ≤ m → m < 75 → Shaped x.old → After
  pending-saved l h so =
      let k = suc m - 72 in
      let low : k < 4 = omega arith in
      let v = reply_value (guest_access n x.old Read (eip0 + 2 * k) 0).answer in
      rw (acted-pending n (suc m) x (omega arith) (omega arith))
      (saves (set x.numbers (pending_at k) v) (omega arith) (omega arith) (omega arith)
      (noted-pending n m x.numbers x.old.pending c sized r.noted v k low (omega arith)
      (λ i w e. (held_word n true x.old k low so i (λ q. clear_in n x.old i w) e).0)))

  pub enable-saved : 75 ≤ m → m < 79 → Shaped x.old → After
  enable-saved l h so =
      let k = suc m - 76 in
      let low : k < 4 = omega arith in
      let v = reply_value (guest_access n x.old Read (eie0 + 2 * k) 0).answer in
      rw (acted-enable n (suc m) x (omega arith) (omega arith))
      (saves (set x.numbers (enable_at k) v) (omega arith) (omega arith) (omega arith)
      (noted-enable n m x.numbers x.old.pending c sized r.noted v k low (omega arith)
      (λ i w e. (held_word n true x.old k low so i (λ q. clear_in n x.old i w) e).1
      ∙ ap (λ (ws : List ℕ). member ws i) r.untouched.enable)))

  pub pending-set : 79 ≤ m → m < 83 → Shaped x.new → After
  pending-set l h sn =
      let k = suc m - 80 in
      let v = get_or x.numbers (pending_at k) 0 in
      let f = (guest_access n x.new Set (eip0 + 2 * k) v).file in
      rw (acted-set n (suc m) x (omega arith) (omega arith))
      (changes f (omega arith) (omega arith)
      (shared-set n m x.old.pending c.pending x.new sized sn r.shared k (omega arith)
      (omega arith) v
      (λ i w e. ap (λ (a : ℕ). has_bit (get_or x.numbers (pending_at a) 0) (i % 64)) (sym e)
      ∙ r.noted.pending i w (omega arith)))
      (restored-early n (suc m) f c (omega arith)))

  pub enable-written : 83 ≤ m → m < 87 → Shaped x.new → After
  enable-written l h sn =
      let k = suc m - 84 in
      let low : k < 4 = omega arith in
      let v = get_or x.numbers (enable_at k) 0 in
      let f = (guest_access n x.new Write (eie0 + 2 * k) v).file in
      let same : f.pending ≡ x.new.pending = ap (λ (y : File). y.pending) (word-only n true x.new k low
      v).1 in
      rw (acted-write n (suc m) x (omega arith) (omega arith))
      (changes f (omega arith) (omega arith)
      (rw same (shared-idle (omega arith)))
      (restored-enable n m x.new c r.restored k low (omega arith) sized sn v
      (λ i w e. ap (λ (a : ℕ). has_bit (get_or x.numbers (enable_at a) 0) (i % 64)) (sym e)
      ∙ r.noted.enable i w (omega arith))))

  pub threshold-written : m ≡ 87 → Rules n true c → After
  threshold-written e rc =
      let v = get_or x.numbers threshold_at 0 in
      rw (acted-shut n (suc m) x (ap suc e))
      (changes (with_threshold x.new (v % (n + 1))) (omega arith) (omega arith)
      (shared-idle (omega arith))
      (restored-threshold n m x.new c r.restored v e sized (r.noted.threshold (omega arith))
      rc.below))

  pub delivery-written : m ≡ 88 → Rules n true c → After
  delivery-written e rc =
      let v = get_or x.numbers delivery_at 0 in
      let same : v ≡ c.delivery = r.noted.delivery (omega arith) in
      rw (acted-open n (suc m) x (omega arith) (rw same rc.legal))
      (changes (with_delivery x.new v) (omega arith) (omega arith)
      (shared-idle (omega arith))
      (restored-delivery n m x.new c r.restored v e sized same))
