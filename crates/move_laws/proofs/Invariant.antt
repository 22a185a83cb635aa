-- What holds of the two boards after n accesses, and that a wire, a page write and the next access keep it.
-- No contract cites this file. Assumes nothing.
--   Middle m n b b' s    b is the board with the move after n accesses, s the saved numbers, b' the board
--                        without it: the files as FilesMoved has them, the controllers equal but for the
--                        targets of the child, these as TargetsMoved has them, and the child in message mode
use Prim.Native.Nat.{ℕ, suc, ◌+◌, ◌-◌, ◌≤◌, ◌<◌}
use mathlib.Core.Path.{◌≡◌, refl, sym, ap, ap₂, subst, ◌∙◌}
use mathlib.Core.Bool.{Bool, true, false, cond}
use mathlib.Core.List.{List}
use mathlib.Core.Logic.{◌≢◌, ◌⊎◌, inl, inr, ⊎_elim}
use native.Mathlib.Decide.{dec_lt}
use native.Mathlib.Omega.{arith}
use lib.Dec.{eqb}
use lib.ListN.{get_or}
use Rattle.words.specs.Bits.{has_bit}
use borrow.Author.Tests.{eq-eqb, eqb-true, le-leb}
use Rattle.words.proofs.TestsLaws.{tested, and_first, and_second, and_both, not_same}
use Rattle.sizes.specs.Sizes.{identities, file_count}
use Rattle.file.specs.declared.File.{File}
use Rattle.file.specs.Page.{page_written}
use Rattle.files.specs.Files.{file_number, the_file, reached, all_reached}
use Rattle.source_target.specs.Target.{hart_of, guest_of, number_of, message_of}
use Rattle.source_target.proofs.TargetLaws.{hart_of-lt, guest_of-lt}
use Rattle.domain.specs.Domain.{domaincfg_of, by_messages}
use Rattle.wired_state.specs.Wires.{Wired, domain_in}
use Rattle.wired.specs.Controller.{wire_call}
use Rattle.board_move_steps.specs.Names.{renamed}
use Rattle.board_move_steps.specs.Steps.{accesses, act_of}
use Rattle.board_move_steps.specs.declared.Act.{Act}
use Rattle.board_move_steps.proofs.StepsLaws.{act-target}
use Rattle.board_move_files_laws.proofs.TableLaws.{act-else}
use Rattle.board_move_files_laws.specs.Related.{Three, Related}
use Rattle.board_move_files_laws.proofs.WrittenEffects.{large-sized}
use Rattle.board_move_files_laws.proofs.RelatedEffects.{related-act}
use Rattle.board_move_wired_laws.specs.Retargeted.{TargetsOnly, Same, Rewritten, TargetsMoved}
use Rattle.board_move_wired_laws.proofs.TargetNames.{names-number, names-other, number_of-renamed}
use Rattle.board_move_wired_laws.proofs.TargetNames.{hart_of-renamed}
use Rattle.board_move_wired_laws.proofs.TargetNames.{guest_of-renamed, message-reaches}
use Rattle.board_move_wired_laws.proofs.WireRelated.{only-messages, wire-frame, wire-related, targets-wire}
use Rattle.board_move_wired_laws.proofs.WireRelated.{wire-moved, wire-target}
use Rattle.board_move_wired_laws.proofs.StepThree.{target_in, retargeted-only, retargeted-moved}
use Rattle.board_move_wired_laws.proofs.StepThree.{moved-else, next-other}
use Rattle.board_block.specs.Block.{Board}
use Rattle.board_call.specs.Move.{Acted, acted}
use Rattle.board_call.specs.Numbers.{is_file, is_guest_file, is_move}
use Rattle.board_call_laws.proofs.FileCallEffects.{only_file, file-lt, number_lt, number_read}
use Rattle.board_call_laws.specs.Fit.{Fit}
use Rattle.board_call_laws.proofs.FitEffects.{fit-steady}
use Rattle.board_call_laws.proofs.StepEffects.{sound-quiet, wired_step}
use Rattle.board_move_laws.proofs.MoveEffects.{guest-hart, guest-low, guest-high, guest-number}
use Rattle.move_laws.specs.Shift.{Stations, is_old, is_new}
use Rattle.move_laws.specs.Premises.{TwoGuests}
use Rattle.move_laws.specs.Moved.{old_number, new_number}
use Rattle.move_laws.proofs.ArrivalEffects.{FilesMoved, arrived_at, page_number, page-arrives}
use Rattle.move_laws.proofs.ArrivalEffects.{arrival-same, arrival-new, put_other}
use Rattle.move_laws.proofs.ActedEffects.{guest-whole, acted-three, acted-others, acted-wired}

-- how many identities each file has
abbrev pub identities_at : ℕ → ℕ
identities_at k = identities

-- ---- the two stations

-- a file number has one hart and one file
number-parts : (h f h' f' : ℕ) → f < 5 → f' < 5 → file_number h f ≡ file_number h' f' → (h ≡ h') × (f ≡ f')
unfolding file_number
number-parts h f h' f' a b e = (omega arith, omega arith)

-- a machine file is no guest's
pub machine-apart : (k h f : ℕ) → is_guest_file h f ≡ true → file_number k 0 ≢ file_number h f
machine-apart k h f there q =
    let parts = number-parts k 0 h f (omega arith) (guest-high h f there) q in
    omega (arith, guest-low h f there, parts.1)

pub number-below : (h f : ℕ) → h < 4 → f < 5 → file_number h f < file_count
unfolding file_number
number-below h f a b = omega arith

pub new-parts : (m : Stations) (h f : ℕ) → is_new m h f ≡ true → (h ≡ m.new_hart) × (f ≡ m.new_file)
new-parts m h f t =
    let a = eqb h m.new_hart in
    let b = eqb f m.new_file in
    (eqb-true h m.new_hart (and_first a b t), eqb-true f m.new_file (and_second a b t))

module _ (m : Stations) (g : TwoGuests m) where
  -- every access of 1 to 89 is one of a move between them
  pub move-there : (n : ℕ) → 1 ≤ n → n ≤ accesses
      → is_move m.old_hart m.old_file m.new_hart m.new_file n ≡ true
  unfolding is_move
  move-there n l h = simp (g.old, g.new, g.different, le-leb 1 n l, le-leb n accesses h)

  pub old-lt : old_number m < file_count
  old-lt = guest-number m.old_hart m.old_file g.old

  pub new-lt : new_number m < file_count
  new-lt = guest-number m.new_hart m.new_file g.new

  -- a file is new exactly if its number is
  pub is-new : (h f : ℕ) → f < 5 → file_number h f ≡ new_number m → is_new m h f ≡ true
  is-new h f a e =
      let parts = number-parts h f m.new_hart m.new_file a (guest-high _ _ g.new) e in
      and_both (eqb h m.new_hart) (eqb f m.new_file) (eq-eqb _ _ parts.0) (eq-eqb _ _ parts.1)

  new-number : (h f : ℕ) → is_new m h f ≡ true → file_number h f ≡ new_number m
  new-number h f t = let parts = new-parts m h f t in ap₂ file_number parts.0 parts.1

  pub is-old : (h f : ℕ) → f < 5 → file_number h f ≡ old_number m → is_old m h f ≡ true
  is-old h f a e =
      let parts = number-parts h f m.old_hart m.old_file a (guest-high _ _ g.old) e in
      and_both (eqb h m.old_hart) (eqb f m.old_file) (eq-eqb _ _ parts.0) (eq-eqb _ _ parts.1)

  pub different : new_number m ≢ old_number m
  different e =
      not_same _ (is-new m.old_hart m.old_file (guest-high _ _ g.old) (sym e)) g.different

  abbrev Files : ℕ → List File → List File → List ℕ → Type 0
  Files = FilesMoved identities_at (old_number m) (new_number m)

  pub record Middle (n : ℕ) (b b' : Board) (s : List ℕ) : Type 0 where
    pub files : Files n b.files b'.files s
    pub only : TargetsOnly b.wired b'.wired
    pub targets : TargetsMoved m.old_hart m.old_file m.new_hart m.new_file n b.wired b'.wired
    pub messages : by_messages b'.wired.child ≡ true
    -- genmsi, which stands in the place of the target of source 0
    pub genmsi : target_in b.wired 0 ≡ target_in b'.wired 0

  -- ---- the messages of a wire, for any relation of the files that arrivals keep

  module _ (n : ℕ) (b b' : Board) (fit : Fit b) (fit' : Fit b') (only : TargetsOnly b.wired b'.wired)
      (targets : TargetsMoved m.old_hart m.old_file m.new_hart m.new_file n b.wired b'.wired)
      (R : List File → List File → Type 0) (stay : R b.files b'.files)
      (come-new : (i : ℕ) → 8 ≤ n
      → R (arrived_at identities_at b.files (new_number m) i)
      (arrived_at identities_at b'.files (old_number m) i))
      (come-same : (k i : ℕ) → k < file_count → k ≢ new_number m → (k ≡ old_number m → n < 72)
      → R (arrived_at identities_at b.files k i) (arrived_at identities_at b'.files k i)) where
    -- the message of the machine domain goes to a machine file, which is neither old nor new
    machine-comes : (t : ℕ) → R (reached b.files (message_of false t))
        (reached b'.files (message_of false t))
    machine-comes t =
        let k = file_number (hart_of t) 0 in
        rw (message-reaches false t b.files, message-reaches false t b'.files)
        (come-same k (number_of t) (number-below (hart_of t) 0 (hart_of-lt t) (omega arith))
        (machine-apart (hart_of t) m.new_hart m.new_file g.new)
        (λ q. absurd (machine-apart (hart_of t) m.old_hart m.old_file g.old q)))

    -- that of the child goes where its target says: the same file, or new for old
    child-comes : (i t t' : ℕ) → 1 ≤ i → i < 64
        → Same m.old_hart m.old_file m.new_hart m.new_file n i t t'
        ⊎ Rewritten m.old_hart m.old_file m.new_hart m.new_file n i t t'
        → R (reached b.files (message_of true t)) (reached b'.files (message_of true t'))
    child-comes i t t' l h (inl q) =
        rw (q.same, message-reaches true t' b.files, message-reaches true t' b'.files)
        (come-same (file_number (hart_of t') (guest_of t' + 1)) (number_of t')
        (number-below (hart_of t') (guest_of t' + 1) (hart_of-lt t') (omega (arith, guest_of-lt t')))
        (names-other t' m.new_hart m.new_file (guest-high _ _ g.new) q.not_new)
        (λ e. at e (dec_lt n 72)))
      where
        at : file_number (hart_of t') (guest_of t' + 1) ≡ old_number m → Dec (n < 72) → n < 72
        at e (yes u) = u
        at e (no u) =
            absurd (names-other t' m.old_hart m.old_file (guest-high _ _ g.old)
            (q.not-old (omega arith)) e)
    child-comes i t t' l h (inr q) =
        let nh = guest-hart _ _ g.new in
        let lo : 1 ≤ m.new_file = omega (arith, guest-low _ _ g.new) in
        let hi = guest-high _ _ g.new in
        let old = names-number t' m.old_hart m.old_file q.was-old in
        rw (
          q.now-new,
          message-reaches true (renamed t' m.new_hart m.new_file) b.files,
          hart_of-renamed t' m.new_hart m.new_file nh lo hi,
          guest_of-renamed t' m.new_hart m.new_file nh lo hi,
          number_of-renamed t' m.new_hart m.new_file nh lo hi,
          message-reaches true t' b'.files,
          old.0,
          old.1,
        )
        (come-new (number_of t') (omega (arith, q.passed)))

    module _ (i : ℕ) (l : 1 ≤ i) (h : i < 64) (level : Bool) where
      pub wire-comes : R (all_reached b.files (wire_call b.wired i level).messages)
          (all_reached b'.files (wire_call b'.wired i level).messages)
      unfolding all_reached
      wire-comes =
          ⊎_elim (λ q. rw (q.0, q.1) stay)
          (⊎_elim (λ q. rw (q.0, q.1) (machine-comes _))
          (λ q. rw (q.0.0, q.0.1) (child-comes i _ _ l h q.1)))
          (wire-moved only (fit-steady b fit) (sound-quiet b fit.sound) (fit-steady b' fit')
          (sound-quiet b' fit'.sound) i l h level m.old_hart m.old_file m.new_hart m.new_file n
          targets)

  module _ (n : ℕ) (b b' : Board) (s : List ℕ) (fit : Fit b) (fit' : Fit b') (r : Middle n b b' s) where
    -- ---- a message that arrives

    -- at new here and at old there
    files-new : (i : ℕ) → 8 ≤ n
        → Files n (arrived_at identities_at b.files (new_number m) i)
        (arrived_at identities_at b'.files (old_number m) i) s
    files-new i h =
        arrival-new identities_at (old_number m) (new_number m) refl large-sized n b.files b'.files s
        fit.shaped.many fit'.shaped.many fit.files fit'.files r.files different old-lt
        new-lt i h

    -- at one file of both
    files-same : (k i : ℕ) → k < file_count → k ≢ new_number m → (k ≡ old_number m → n < 72)
        → Files n (arrived_at identities_at b.files k i) (arrived_at identities_at b'.files k i) s
    files-same k i h not_the_new still =
        arrival-same identities_at (old_number m) (new_number m) refl large-sized n b.files b'.files s
        fit.shaped.many fit'.shaped.many fit.files fit'.files r.files different old-lt
        new-lt i k h not_the_new still

    -- ---- a page write

    pub middle-page : (h f a v : ℕ) → is_file h f ≡ true → (is_new m h f ≡ true → 8 ≤ n)
        → (is_old m h f ≡ true → n < 72)
        → Middle n (only_file b (file_number h f)
        (page_written identities (the_file b.files (file_number h f))
        a v))
        (let k = file_number (cond (is_new m h f) m.old_hart h) (cond (is_new m h f) m.old_file f) in
        only_file b' k (page_written identities (the_file b'.files k) a v)) s
    middle-page h f a v there to_new to_old =
        record {
          files =
              rw (
                page-arrives identities (the_file b.files (file_number h f)) a v,
                page-arrives identities (the_file b'.files _) a v,
              )
              (tested (is_new m h f)
              (λ t. rw t (subst (λ (k : ℕ). Files n (arrived_at identities_at b.files k (page_number a v))
              (arrived_at identities_at b'.files (old_number m) (page_number a v)) s)
              (sym (new-number h f t)) (files-new (page_number a v) (to_new t))))
              (λ u. rw u (files-same (file_number h f) (page_number a v)
              (omega (arith, number_read h f, number_lt h f there))
              (λ e. not_same _ (is-new h f (file-lt h f there) e) u)
              (λ e. to_old (is-old h f (file-lt h f there) e)))));
          only = r.only;
          targets = r.targets;
          messages = r.messages;
          genmsi = r.genmsi;
        }

    -- ---- a call on a file that is neither old nor new

    pub middle-other : (k : ℕ) → k ≢ new_number m → k ≢ old_number m → (x y : File) → x ≡ y
        → Middle n (only_file b k x) (only_file b' k y) s
    middle-other k not_the_new not_old x y e =
        record {
          files =
              put_other identities_at (old_number m) (new_number m) refl large-sized n b.files b'.files s
              fit.shaped.many fit'.shaped.many fit.files fit'.files r.files different old-lt
              new-lt 0 k not_the_new not_old x y e;
          only = r.only;
          targets = r.targets;
          messages = r.messages;
          genmsi = r.genmsi;
        }

    -- ---- a wire

    module _ (i : ℕ) (l : 1 ≤ i) (h : i < 64) (level : Bool) where
      wire-files : Files n (all_reached b.files (wire_call b.wired i level).messages)
          (all_reached b'.files (wire_call b'.wired i level).messages) s
      wire-files =
          wire-comes n b b' fit fit' r.only r.targets (λ fs gs. Files n fs gs s) r.files files-new
          files-same i l h level

      pub middle-wire : Middle n (wired_step b (wire_call b.wired i level) 0 s).board
          (wired_step b' (wire_call b'.wired i level) 0 s).board s
      unfolding by_messages domaincfg_of domain_in
      middle-wire =
          record {
            files = wire-files;
            only = wire-related r.only i level;
            targets = targets-wire m.old_hart m.old_file m.new_hart m.new_file n b.wired
                b'.wired
                r.targets i level;
            messages = ap (λ (ws : List ℕ). has_bit (get_or ws 0 0) 2)
                (wire-frame b'.wired i level true).source ∙ r.messages;
            genmsi =
                wire-target b.wired i level 0 ∙ r.genmsi ∙ sym (wire-target b'.wired i level 0);
          }

    -- ---- the next access

    abbrev next : Act
    next = act_of (suc n)

    module _ (more : n < accesses) where
      abbrev moved : Acted
      moved = acted next m.old_hart m.old_file m.new_hart m.new_file b s

      next-files : Files (suc n) moved.board.files b'.files moved.saved
      next-files =
          record {
            related =
                subst (λ (x : Three). Related identities (suc n) x (the_file b'.files (old_number m)))
                (sym (acted-three m.old_hart m.old_file m.new_hart m.new_file g.old g.new
                different b
                fit.shaped.many s next))
                (related-act identities n _ _ large-sized more (fit.files (old_number m) old-lt)
                (fit.files (new_number m) new-lt)
                (guest-whole m.old_hart m.old_file g.old b' fit').rules r.files.related);
            others = λ k h o w. acted-others m.old_hart m.old_file m.new_hart m.new_file g.old
                g.new
                different b fit.shaped.many s next k o w ∙ r.files.others k h o w;
          }

      abbrev Wireds : Wired → Type 0
      Wireds w =
          TargetsOnly w b'.wired
          × TargetsMoved m.old_hart m.old_file m.new_hart m.new_file (suc n) w b'.wired
          × (target_in w 0 ≡ target_in b'.wired 0)

      next-else : (n < 8) ⊎ (71 ≤ n) → Wireds moved.board.wired
      next-else away =
          subst Wireds
          (sym (acted-wired m.old_hart m.old_file m.new_hart m.new_file g.old g.new different b
          fit.shaped.many s next
          (act-else (suc n) (omega arith) more (⊎_elim (λ a. inl a) (λ a. inr (omega arith)) away)))) (
            r.only,
            moved-else m.old_hart m.old_file m.new_hart m.new_file n b.wired b'.wired
                r.targets
                away,
            r.genmsi,
          )

      -- the access that rewrites the target of source n + 1 - 8
      next-target : 8 ≤ n → n < 71 → Wireds moved.board.wired
      unfolding acted
      next-target l h =
          let i = suc n - 8 in
          rw (act-target (suc n) (omega arith) (omega arith) (omega arith)) (
            retargeted-only m.old_hart m.old_file m.new_hart m.new_file b.wired i r.only,
            retargeted-moved m.old_hart m.old_file m.new_hart m.new_file n b.wired b'.wired
                r.targets i (fit-steady b fit) (only-messages r.only ∙ r.messages)
                (guest-low _ _ g.old) (guest-hart _ _ g.new) (omega (arith, guest-low _ _ g.new))
                (guest-high _ _ g.new) (omega arith) (omega arith) (omega arith),
            next-other m.old_hart m.old_file m.new_hart m.new_file b.wired i 0 (λ q. omega arith)
                ∙ r.genmsi,
          )

      next-wired : Wireds moved.board.wired
      next-wired = at (dec_lt n 8) (dec_lt n 71)
        where
          at : Dec (n < 8) → Dec (n < 71) → Wireds moved.board.wired
          at (yes a) d = next-else (inl a)
          at (no a) (yes d) = next-target (omega arith) d
          at (no a) (no d) = next-else (inr (omega arith))

      pub middle-access : Middle (suc n) moved.board b' moved.saved
      middle-access =
          record {
            files = next-files;
            only = next-wired.0;
            targets = next-wired.1;
            messages = r.messages;
            genmsi = next-wired.2;
          }
