-- Claims 100 to 103, by the laws of the accesses of a move, line by line of its table. Assumes nothing.
use Prim.Native.Nat.{ℕ, ◌+◌, ◌-◌, ◌*◌, ◌/◌, ◌≤◌, ◌<◌}
use mathlib.Core.Path.{◌≡◌, ap, ◌∙◌}
use mathlib.Core.Bool.{true, not, ◌&&◌}
use mathlib.Core.List.{List}
use mathlib.Core.Logic.{◌≢◌, ◌⊎◌, inl, inr, ⊎_elim}
use native.Mathlib.Decide.{ℕ_discrete, dec_lt}
use native.Mathlib.Omega.{arith}
use lib.Dec.{eqb}
use lib.ListN.{get_or}
use borrow.Author.Tests.{eqb-true, eq-eqb, lt-ltb, le-leb, not-true}
use Rattle.words.proofs.TestsLaws.{tested, and_first, and_second, and_both, not_same}
use Rattle.sizes.specs.Sizes.{identities}
use Rattle.file_select.specs.Select.{eip0, eie0}
use Rattle.file_select.specs.Halves.{doubleword}
use Rattle.file_select.proofs.DeliveriesLaws.{legal-switch, legal-other}
use Rattle.file.specs.declared.File.{File}
use Rattle.file.specs.Parts.{with_delivery}
use Rattle.file.specs.declared.register.Access.TheVariants.{Read, Write, Set}
use Rattle.file.specs.Reply.{reply_value}
use Rattle.file.specs.Register.{accessed_at}
use Rattle.file.specs.Shape.{Shaped}
use Rattle.file.proofs.RegisterLaws.{written-illegal}
use Rattle.source_target.specs.Target.{hart_of, guest_of}
use Rattle.source.specs.declared.Source.{Source}
use Rattle.domain.specs.Domain.{by_messages, genmsi_of}
use Rattle.domain.specs.Slot.{source_at}
use Rattle.wired_state.specs.Wires.{Wired}
use Rattle.files.specs.Files.{file_number, the_file}
use Rattle.board_move_steps.specs.Names.{names_file}
use Rattle.board_move_steps.specs.Steps.{act_of}
use Rattle.board_move_steps.proofs.StepsLaws.{act-target, act-open}
use Rattle.board_move_files_laws.proofs.TableLaws.{act-else}
use Rattle.board_move_files_laws.specs.Related.{Three, guest_access, acted_on}
use Rattle.board_move_files_laws.proofs.SelectEffects.{delivery-access}
use Rattle.board_move_files_laws.proofs.ActedLaws.{with_new, with_number, acted-delivery, acted-threshold}
use Rattle.board_move_files_laws.proofs.ActedLaws.{acted-silence, acted-hold, acted-clear, acted-pending}
use Rattle.board_move_files_laws.proofs.ActedLaws.{acted-enable, acted-set, acted-write, acted-shut}
use Rattle.board_move_files_laws.proofs.ActedLaws.{acted-open}
use Rattle.board_move_files_laws.proofs.ActedLaws as files
use Rattle.board_move_files_laws.proofs.WrittenEffects.{large-within, Clear, clear-rules}
use Rattle.board_move_wired_laws.specs.Retargeted.{TargetsOnly}
use Rattle.board_move_wired_laws.proofs.TargetNames.{names-number, number-names}
use Rattle.board_move_wired_laws.proofs.StepThree.{only-start, next-miss, retargeted-only}
use Rattle.board_block.specs.Block.{Board}
use Rattle.board_call.specs.declared.Call.TheVariants.{Move}
use Rattle.board_call.specs.Move.{retargeted_in, acted}
use Rattle.board_call.specs.Numbers.{is_guest_file, is_move}
use Rattle.board_call.specs.Calls.{row_of}
use Rattle.board_call.specs.Outcome.{Stepped, step}
use Rattle.board_call_laws.specs.Fit.{Fit}
use Rattle.board_call_laws.proofs.CallTests.{quiet}
use Rattle.board_call_laws.proofs.FitEffects.{fit-steady, fit-rules}
use Rattle.board_move_laws.proofs.MoveEffects.{guest-hart, guest-low, guest-high, guest-number, move-old}
use Rattle.board_move_laws.proofs.MoveEffects.{move_new}
use Rattle.board_move_laws.proofs.MoveEffects.{move-apart, move-low, move-high, step_move}
use Rattle.move_laws.proofs.ArrivalEffects.{three}
use Rattle.move_laws.proofs.ActedEffects.{acted-three, acted-others, acted-wired}
use Rattle.move_laws.proofs.ActedEffects as board
use Rattle.claims_move.specs.MoveCall.{Renamed}
use Rattle.claims_move.specs.MoveCall.{Claim-100, Claim-101, Claim-102, Claim-103}
use Rattle.claims_move.proofs.MoveParts.{word_of, word_read, became-cleared, became-set}
use Rattle.claims_move.proofs.MoveParts.{became-written, renames, next-other, next-genmsi}
use Rattle.claims_move.proofs.MoveParts.{next-own}

pub claim-100 : Claim-100
unfolding Claim-100
claim-100 l b b' g g' s s' oh of nh nf n = (tt, (λ r learnt. learnt), tt, (λ r learnt. learnt))

-- ---- when an access is barred

pub guest-joined : (h f : ℕ) → h < 4 → 2 ≤ f → f ≤ 4 → is_guest_file h f ≡ true
unfolding is_guest_file
guest-joined h f a l u = simp (lt-ltb h 4 a, le-leb 2 f l, lt-ltb f 5 (omega arith))

-- two files are two, or they are one
module _ (oh of nh nf : ℕ) where
  apart-differ : not (eqb oh nh && eqb of nf) ≡ true → oh ≡ nh → of ≡ nf → ⊥
  apart-differ e p q =
      not_same (eqb oh nh && eqb of nf) (and_both (eqb oh nh) (eqb of nf) (eq-eqb oh nh p) (eq-eqb of nf q))
      (not-true (eqb oh nh && eqb of nf) e)

  differ-apart : (oh ≡ nh → of ≡ nf → ⊥) → not (eqb oh nh && eqb of nf) ≡ true
  differ-apart d =
      tested (eqb oh nh && eqb of nf)
      (λ t. absurd (d (eqb-true oh nh (and_first _ (eqb of nf) t))
      (eqb-true of nf (and_second (eqb oh nh) _ t))))
      (λ f. rw f)

module _ (oh of nh nf n : ℕ) where
  abbrev Numbered : Type 0
  Numbered =
      (oh < 4) × (2 ≤ of) × (of ≤ 4) × (nh < 4) × (2 ≤ nf) × (nf ≤ 4) × (oh ≡ nh → of ≡ nf → ⊥)
      × (1 ≤ n) × (n ≤ 89)

  move-numbered : is_move oh of nh nf n ≡ true → Numbered
  move-numbered there =
      let old = move-old oh of nh nf n there in
      let new = move_new oh of nh nf n there in (
        guest-hart oh of old,
        guest-low oh of old,
        omega (arith, guest-high oh of old),
        guest-hart nh nf new,
        guest-low nh nf new,
        omega (arith, guest-high nh nf new),
        apart-differ oh of nh nf (move-apart oh of nh nf n there),
        move-low oh of nh nf n there,
        move-high oh of nh nf n there,
      )

  numbered-move : Numbered → is_move oh of nh nf n ≡ true
  unfolding is_move
  numbered-move p =
      simp (
        guest-joined oh of p.0 p.1 p.2,
        guest-joined nh nf p.3 p.4 p.5,
        differ-apart oh of nh nf p.6,
        le-leb 1 n p.7,
        le-leb n 89 p.8,
      )

pub claim-101 : Claim-101
unfolding Claim-101 row_of
claim-101 b oh of nh nf n =
    let there = is_move oh of nh nf n in
    let messages = by_messages b.wired.child in (
      (move-numbered oh of nh nf n, numbered-move oh of nh nf n),
      (
        (λ e. (move-numbered oh of nh nf n (and_first there messages e), and_second there messages e)),
        (λ p. and_both there messages (numbered-move oh of nh nf n p.0) p.1),
      ),
    )

-- ---- one access

module _ (b : Board) (fit : Fit b) (oh of nh nf n : ℕ) (there : is_move oh of nh nf n ≡ true)
    (s : List ℕ) where
  abbrev old : ℕ
  old = file_number oh of

  abbrev new : ℕ
  new = file_number nh nf

  abbrev o : File
  o = the_file b.files old

  abbrev f : File
  f = the_file b.files new

  abbrev x : Stepped
  x = step (Move oh of nh nf n) b s

  abbrev before : Three
  before = three old new b.files s

  old_there : is_guest_file oh of ≡ true
  old_there = move-old oh of nh nf n there

  new_there : is_guest_file nh nf ≡ true
  new_there = move_new oh of nh nf n there

  different : new ≢ old
  unfolding file_number
  different e =
      let small = guest-high oh of old_there in
      let small' = guest-high nh nf new_there in
      apart-differ oh of nh nf (move-apart oh of nh nf n there) (omega arith) (omega arith)

  shaped-old : Shaped o
  shaped-old = fit.files old (guest-number oh of old_there)

  shaped-new : Shaped f
  shaped-new = fit.files new (guest-number nh nf new_there)

  -- the call: its access, and nothing sent
  abbrev after : Stepped
  after = let y = acted (act_of n) oh of nh nf b s in quiet y.board 0 y.saved

  is-after : x ≡ after
  is-after = step_move b fit oh of nh nf n there s

  -- old, new and the saved numbers after the access
  abbrev Leaves : Three → Type 0
  Leaves y =
      (the_file x.board.files old ≡ y.old) × (the_file x.board.files new ≡ y.new)
      × (x.saved ≡ y.numbers)

  leaves : (y : Three) → acted_on identities (act_of n) before ≡ y → Leaves y
  leaves y e =
      let all =
      ap (λ (z : Stepped). three old new z.board.files z.saved) is-after
      ∙ acted-three oh of nh nf old_there new_there different b fit.shaped.many s (act_of n) ∙ e in (
        ap (λ (z : Three). z.old) all,
        ap (λ (z : Three). z.new) all,
        ap (λ (z : Three). z.numbers) all,
      )

  -- accesses 5 to 8, 72 to 75, 76 to 79, 80 to 83, 84 to 87
  cleared : (k : ℕ) → k < 4 → n ≡ 5 + k
      → Leaves (with_new before (guest_access identities f Write (eip0 + 2 * k) 0).file)
  cleared k h e =
      leaves _
      (acted-clear identities n before (omega arith) (omega arith)
      ∙ ap (λ (j : ℕ). with_new before (guest_access identities f Write (eip0 + 2 * j) 0).file) (omega arith))

  read-pending : (k : ℕ) → k < 4 → n ≡ 72 + k
      → Leaves (with_number before (2 + k) (doubleword o.pending k))
  read-pending k h e =
      leaves _
      (acted-pending identities n before (omega arith) (omega arith)
      ∙ ap (λ (j : ℕ). with_number before (2 + j) (reply_value (guest_access identities o Read (eip0 + 2 * j)
      0).answer)) (omega arith)
      ∙ ap (with_number before (2 + k)) (word_read o k h).0)

  read-enable : (k : ℕ) → k < 4 → n ≡ 76 + k
      → Leaves (with_number before (6 + k) (doubleword o.enable k))
  read-enable k h e =
      leaves _
      (acted-enable identities n before (omega arith) (omega arith)
      ∙ ap (λ (j : ℕ). with_number before (6 + j) (reply_value (guest_access identities o Read (eie0 + 2 * j)
      0).answer)) (omega arith)
      ∙ ap (with_number before (6 + k)) (word_read o k h).1)

  set-pending : (k : ℕ) → k < 4 → n ≡ 80 + k
      → Leaves (with_new before (guest_access identities f Set (eip0 + 2 * k) (get_or s (2 + k) 0)).file)
  set-pending k h e =
      leaves _
      (acted-set identities n before (omega arith) (omega arith)
      ∙ ap (λ (j : ℕ). with_new before
      (guest_access identities f Set (eip0 + 2 * j) (get_or s (2 + j) 0)).file)
      (omega arith))

  write-enable : (k : ℕ) → k < 4 → n ≡ 84 + k
      → Leaves (with_new before (guest_access identities f Write (eie0 + 2 * k) (get_or s (6 + k) 0)).file)
  write-enable k h e =
      leaves _
      (acted-write identities n before (omega arith) (omega arith)
      ∙ ap (λ (j : ℕ). with_new before (guest_access identities f Write (eie0 + 2 * j) (get_or s (6 + j)
      0)).file) (omega arith))

  -- access 89
  opened : n ≡ 89 → get_or s 0 0 ≤ 1 → Leaves (with_new before (with_delivery f (get_or s 0 0)))
  opened e h =
      leaves _
      (acted-open identities n before (omega arith) (legal-switch true (get_or s 0 0) (omega arith)))

  shut : n ≡ 89 → 2 ≤ get_or s 0 0 → Leaves before
  unfolding acted_on accessed_at
  shut e h =
      let v = get_or s 0 0 in
      leaves _
      (rw (
        act-open n (omega arith),
        delivery-access identities true f Write v,
        written-illegal identities true f v (legal-other true v h),
      ))

  -- whatever delivery is saved, access 89 leaves old and the saved numbers
  switched : n ≡ 89 → (the_file x.board.files old ≡ o) × (x.saved ≡ s)
  switched e = at (dec_lt (get_or s 0 0) 2)
    where
      at : Dec (get_or s 0 0 < 2) → (the_file x.board.files old ≡ o) × (x.saved ≡ s)
      at (yes h) = let r = opened e (omega arith) in (r.0, r.2)
      at (no h) = let r = shut e (omega arith) in (r.0, r.2)

  -- ---- everything else

  abbrev w : Wired
  w = b.wired

  abbrev w' : Wired
  w' = x.board.wired

  others : (k : ℕ) → k ≢ old → k ≢ new → the_file x.board.files k ≡ the_file b.files k
  others k p q =
      ap (λ (z : Stepped). the_file z.board.files k) is-after
      ∙ acted-others oh of nh nf old_there new_there different b fit.shaped.many s (act_of n) k p q

  -- either the wired controller is as it was, or this is an access of step 3
  wired-cases : {C : Type 0} → ((n ≤ 8) ⊎ (71 < n) → w' ≡ w → C)
      → (8 < n → n ≤ 71 → w' ≡ retargeted_in oh of nh nf w (n - 8) → C) → C
  wired-cases {C} idle turn = at (dec_lt 8 n) (dec_lt 71 n)
    where
      moved : w' ≡ after.board.wired
      moved = ap (λ (z : Stepped). z.board.wired) is-after

      same : (n ≤ 8) ⊎ (71 < n) → w' ≡ w
      same c =
          moved
          ∙ acted-wired oh of nh nf old_there new_there different b fit.shaped.many s (act_of n)
          (act-else n (move-low oh of nh nf n there) (move-high oh of nh nf n there) c)

      at : Dec (8 < n) → Dec (71 < n) → C
      at (no l) h = idle (inl (omega arith)) (same (inl (omega arith)))
      at (yes l) (yes h) = idle (inr h) (same (inr h))
      at (yes l) (no h) =
          turn l (omega arith)
          (moved ∙ rw (act-target n (omega arith) l (omega arith))
          (board.acted-target oh of nh nf old_there new_there different b fit.shaped.many s (n - 8)))

  only : TargetsOnly w' w
  only =
      wired-cases (λ c e. rw e (only-start w))
      (λ l h e. rw e (retargeted-only oh of nh nf w (n - 8) (only-start w)))

  genmsi : genmsi_of w'.child ≡ genmsi_of w.child
  genmsi =
      wired-cases (λ c e. ap (λ (z : Wired). genmsi_of z.child) e)
      (λ l h e. ap (λ (z : Wired). genmsi_of z.child) e
      ∙ next-genmsi oh of nh nf w (n - 8) (omega arith))

  module _ (i : ℕ) (l : 1 ≤ i) (h : i ≤ 63) where
    abbrev t : ℕ
    t = (source_at w.child i).target

    abbrev t' : ℕ
    t' = (source_at w'.child i).target

    own : n ≡ 8 + i → w' ≡ retargeted_in oh of nh nf w i
    own e =
        wired-cases (λ c q. absurd (⊎_elim (λ a. omega arith) (λ a. omega arith) c))
        (λ a z q. q ∙ ap (retargeted_in oh of nh nf w) (omega arith))

    rewritten : n ≡ 8 + i → hart_of t ≡ oh → guest_of t + 1 ≡ of → Renamed t t' nh nf
    rewritten e p q =
        let hn = guest-hart nh nf new_there in
        let ln = guest-low nh nf new_there in
        let un = guest-high nh nf new_there in
        let lo = guest-low oh of old_there in
        let names = number-names t oh of p q in
        let is = next-own oh of nh nf w i (fit-steady b fit) l (omega arith) lo names hn ln un in
        rw (ap (λ (z : Wired). (source_at z.child i).target) (own e) ∙ is) (renames t nh nf hn ln un)

    kept : (n ≡ 8 + i → hart_of t ≡ oh → guest_of t + 1 ≡ of → ⊥) → t' ≡ t
    kept d =
        wired-cases (λ c q. ap (λ (z : Wired). (source_at z.child i).target) q)
        (λ a z q. ap (λ (z : Wired). (source_at z.child i).target) q ∙ at (ℕ_discrete n (8 + i)))
      where
        at : Dec (n ≡ 8 + i) → (source_at (retargeted_in oh of nh nf w (n - 8)).child i).target ≡ t
        at (no q) = ap (λ (z : Source). z.target) (next-other oh of nh nf w (n - 8) i (λ p. q (omega arith)))
        at (yes q) =
            ap (λ (j : ℕ). (source_at (retargeted_in oh of nh nf w j).child i).target) (omega arith)
            ∙ tested (names_file t oh of)
            (λ y. let e = names-number t oh of y in absurd (d q e.0 e.1))
            (λ y. ap (λ (z : Wired). (source_at z.child i).target) (next-miss oh of nh nf w i y))

pub claim-102 : Claim-102
unfolding Claim-102
claim-102 b fit oh of nh nf n there s =
    let o = the_file b.files (file_number oh of) in
    let f = the_file b.files (file_number nh nf) in
    let y = before b fit oh of nh nf n there s in
    let ends = leaves b fit oh of nh nf n there s in
    let so = shaped-old b fit oh of nh nf n there s in
    let sn = shaped-new b fit oh of nh nf n there s in
    let rules = fit-rules b fit (file_number nh nf) (guest-number nh nf (move_new oh of nh nf n there)) in
    let clear : (k : ℕ) → k < 4 → (i : ℕ) → i / 64 ≡ k → Clear identities f i = λ k h i e.
    clear-rules identities _ f rules (large-within f) i (omega arith) in (
      (λ e. ends _ (acted-delivery identities n y e)),
      (λ e. ends _ (acted-threshold identities n y e)),
      (λ e. ends _ (acted-silence identities n y e)),
      (λ e. ends _ (acted-hold identities n y e)),
      (λ k h e. let r = cleared b fit oh of nh nf n there s k h e in
          (r.0, rw r.1 (became-cleared f k h 0 sn (clear k h)), r.2)),
      (λ i l h e. ends _ (files.acted-target identities n y (omega arith) (omega arith))),
      (λ k h e. let r = read-pending b fit oh of nh nf n there s k h e in
          (word_of o.pending k so.pending_fit, r.0, r.1, r.2)),
      (λ k h e. let r = read-enable b fit oh of nh nf n there s k h e in
          (word_of o.enable k so.enable_fit, r.0, r.1, r.2)),
      (λ k h e. let r = set-pending b fit oh of nh nf n there s k h e in
          (r.0, rw r.1 (became-set f k h (get_or s (2 + k) 0) sn (clear k h)), r.2)),
      (λ k h e. let r = write-enable b fit oh of nh nf n there s k h e in
          (r.0, rw r.1 (became-written f k h (get_or s (6 + k) 0) sn (clear k h)), r.2)),
      (λ e. ends _ (acted-shut identities n y e)),
      (λ e. (
        (switched b fit oh of nh nf n there s e).0,
        (λ h. (opened b fit oh of nh nf n there s e h).1),
        (λ h. (shut b fit oh of nh nf n there s e h).1),
        (switched b fit oh of nh nf n there s e).1,
      )),
    )

pub claim-103 : Claim-103
unfolding Claim-103
claim-103 b fit oh of nh nf n there s =
    let e = is-after b fit oh of nh nf n there s in
    let r = only b fit oh of nh nf n there s in (
      ap (λ (z : Stepped). z.value) e,
      ap (λ (z : Stepped). z.messages) e,
      others b fit oh of nh nf n there s,
      r.wires,
      r.machine,
      r.source,
      r.pending,
      r.enable,
      r.delivery,
      genmsi b fit oh of nh nf n there s,
      (λ i l h. (rewritten b fit oh of nh nf n there s i l h, kept b fit oh of nh nf n there s i l h)),
    )
