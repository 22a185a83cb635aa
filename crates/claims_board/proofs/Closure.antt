-- Claim-150, call by call from Claim-155. Assumes nothing.
use Prim.Native.Nat.{ℕ, ◌+◌, ◌≤◌}
use mathlib.Core.Path.{◌≡◌, refl, sym, ap, subst, ◌∙◌}
use mathlib.Core.Bool.{Bool, true, false, ◌||◌, true≢false}
use mathlib.Core.List.{List}
use mathlib.Core.Logic.{⊎_elim}
use native.Mathlib.Omega.{arith}
use lib.Dec.{eqb, leb}
use borrow.Author.Tests.{eq-eqb, eqb-true, eqb-false, leb-true}
use Rattle.words.specs.Every.{every}
use Rattle.words.specs.Sets.{member}
use Rattle.words.proofs.EveryLaws.{every-each}
use Rattle.words.proofs.TestsLaws.{tested, and_first, and_second, and_both, or_cases, not_same}
use Rattle.domain_region.specs.Region.{word_at}
use Rattle.domain_region.specs.declared.Word.TheVariants as word
use Rattle.domain_region.proofs.RegionLaws.{word-within}
use Rattle.domain.specs.Domain.{Domain, by_messages}
use Rattle.domain.specs.Slot.{source_at}
use Rattle.wired_state.specs.Wires.{Wired, domain_in, wire_set}
use Rattle.wired_registers.specs.Wired.{claimed_in, written_in}
use Rattle.board_move_steps.specs.declared.Act.{Act}
use Rattle.board_move_steps.specs.declared.Act.TheVariants.{Save, Zero, Target, Put}
use Rattle.board_move_steps.specs.Names.{names_file, renamed}
use Rattle.board_move_steps.specs.Steps.{act_of, act_within}
use Rattle.board_move_files_laws.proofs.TableLaws.{act-within}
use Rattle.board_block.specs.Block.{Board}
use Rattle.board_block_laws.specs.Shape.{BoardShaped}
use Rattle.board_call.proofs.RefusalLaws.{accepted-present}
use Rattle.board_call.specs.declared.Call.{Call}
use Rattle.board_call.specs.declared.Call.TheVariants.{Reset, Wire, DomainRead, DomainWrite, PageRead}
use Rattle.board_call.specs.declared.Call.TheVariants.{PageWrite, Register, Top, Claim, Signals, Move}
use Rattle.board_call.specs.Numbers.{is_wire, is_move}
use Rattle.board_call.specs.Calls.{present, row_of}
use Rattle.board_call.specs.Change.{change}
use Rattle.board_call.specs.Move.{retargeted_in, acted}
use Rattle.board_move_wired_laws.proofs.StepThree.{next-hit, next-miss}
use Rattle.board_call_laws.proofs.WiredCallEffects.{wire-low, wire-high}
use Rattle.board_move_laws.proofs.MoveEffects.{move-low, move-high}
use Rattle.claims_registers.specs.Rules.{Long}
use Rattle.claims_wired.specs.Kept.{none, sources, writes, writes_in, Spares, Claim-155}
use Rattle.claims_wired.proofs.Kept.{kept_same}
use Rattle.claims_wired.proofs.KeptWired.{claim-155}
use Rattle.claims_board.specs.Closure.{retargets, part_touches, touches, part_wire, touches_wire}
use Rattle.claims_board.specs.Closure.{Claim-150}

-- ---- a move: access 8 + i is that of source i

unfoldable source_in : Act → ℕ
source_in (Save select place) = 0
source_in (Zero new select) = 0
source_in (Target i) = i
source_in (Put kind select place) = 0

source-table : every (λ n. eqb (source_in (act_of n)) 0 || eqb n (8 + source_in (act_of n))) 1 89 ≡ true
unfolding every source_in act_of
source-table = refl

access-source : (n i : ℕ) → 1 ≤ n → n ≤ 89 → 1 ≤ i → act_of n ≡ Target i → n ≡ 8 + i
access-source n i l h li e =
    let named : source_in (act_of n) ≡ i = ap source_in e ∙ unfold source_in in refl in
    let row = every-each (λ (m : ℕ). eqb (source_in (act_of m)) 0 || eqb m (8 + source_in (act_of m))) 1 89
    source-table n l (omega arith) in
    ⊎_elim (λ z. absurd (omega (arith, eqb-true (source_in (act_of n)) 0 z, named, li)))
    (λ y. eqb-true n (8 + source_in (act_of n)) y ∙ ap (λ (m : ℕ). 8 + m) named)
    (or_cases (eqb (source_in (act_of n)) 0) (eqb n (8 + source_in (act_of n))) row)

-- what may change besides what does
kept-targets-more : {d d' : Domain} (q q' : ℕ → Bool) → ((j : ℕ) → q' j ≡ false → q j ≡ false)
    → Spares (sources none none q none) d d' → Spares (sources none none q' none) d d'
kept-targets-more q q' more x =
    record {
      pending = x.pending;
      enabled = x.enabled;
      target = λ i l h e. x.target i l h (more i e);
      mode = x.mode;
      domaincfg = x.domaincfg;
      genmsi = x.genmsi;
      idelivery = x.idelivery;
      iforce = x.iforce;
      ithreshold = x.ithreshold;
    }

module _ (w : Wired) (long : Long w) (oh of nh nf i : ℕ) (l : 1 ≤ i) (h : i ≤ 63) where
  abbrev next : Wired
  next = retargeted_in oh of nh nf w i

  abbrev target : ℕ
  target = (source_at w.child i).target

  -- where it names old it is written
  abbrev wrote : Wired
  wrote = written_in w true (word.Target i) (renamed target nh nf)

  module _ (n : ℕ) (e : n ≡ 8 + i) where
    own : names_file target oh of ≡ true → (j : ℕ) → retargets oh of n w j ≡ false → eqb i j ≡ false
    unfolding names_file
    own y j q =
        let there : retargets oh of n w i ≡ true = and_both (eqb n (8 + i)) _ (eq-eqb n (8 + i) e) y in
        tested (eqb i j)
        (λ t. absurd (not_same (retargets oh of n w j)
        (subst (λ (k : ℕ). retargets oh of n w k ≡ true) (eqb-true i j t) there) q))
        (λ f. f)

    kept-wrote : names_file target oh of ≡ true → (c : Bool)
        → Spares (touches (Move oh of nh nf n) w c) (domain_in w c) (domain_in wrote c)
    unfolding Claim-155 row_of part_touches writes_in writes
    kept-wrote y true =
        kept-targets-more (eqb i) (retargets oh of n w) (own y)
        ((claim-155 w long true).1 true (word.Target i) (l, h) (renamed target nh nf)).0
    kept-wrote y false = ((claim-155 w long false).1 true (word.Target i) (l, h) (renamed target nh nf)).0

    kept-retargeted : (c : Bool)
        → Spares (touches (Move oh of nh nf n) w c) (domain_in w c) (domain_in next c)
    kept-retargeted c =
        tested (names_file target oh of) (λ y. rw (next-hit oh of nh nf w i y) (kept-wrote y c))
        (λ f. rw (next-miss oh of nh nf w i f) (kept_same _ (domain_in w c)))

  wires-retargeted : next.wires ≡ w.wires
  unfolding Claim-155
  wires-retargeted =
      tested (names_file target oh of)
      (λ y. rw (next-hit oh of nh nf w i y)
      ((claim-155 w long true).1 true (word.Target i) (l, h) (renamed target nh nf)).1)
      (λ f. rw (next-miss oh of nh nf w i f))

-- ---- every call

module _ (b : Board) (shaped : BoardShaped b) (s : List ℕ) where
  abbrev w : Wired
  w = b.wired

  long : Long b.wired
  long = (shaped.wires, shaped.machine, shaped.child)

  abbrev Leaves : Call → Wired → Type 0
  Leaves call w' =
      ((c : Bool) → Spares (touches call w c) (domain_in w c) (domain_in w' c))
      × ((j : ℕ) → touches_wire call j ≡ false → member w'.wires j ≡ member w.wires j)

  leaves-same : (call : Call) → Leaves call w
  leaves-same call = ((λ c. kept_same (touches call w c) (domain_in w c)), (λ j e. refl))

  leaves_all : (w' : Wired) → Leaves Reset w'
  unfolding row_of part_touches part_wire
  leaves_all w' = (
    (λ c. record {
      pending = λ i l h e. absurd (true≢false e);
      enabled = λ i l h e. absurd (true≢false e);
      target = λ i l h e. absurd (true≢false e);
      mode = λ i l h e. absurd (true≢false e);
      domaincfg = λ e. absurd (true≢false e);
      genmsi = λ e. absurd (true≢false e);
      idelivery = λ h l e. absurd (true≢false e);
      iforce = λ h l e. absurd (true≢false e);
      ithreshold = λ h l e. absurd (true≢false e);
    }),
    (λ j e. absurd (true≢false e)),
  )

  -- the wires are the same list
  at-wires : {vs : List ℕ} → vs ≡ w.wires → (j : ℕ) → member vs j ≡ member w.wires j
  at-wires e j = ap (λ (ws : List ℕ). member ws j) e

  leaves-wire : (i level : ℕ) → is_wire i level ≡ true
      → Leaves (Wire i level) (wire_set w i (eqb level 1))
  unfolding Claim-155 row_of part_touches part_wire
  leaves-wire i level there =
      let l = wire-low i level there in
      let h : i ≤ 63 = omega (arith, wire-high i level there) in (
        (λ c. ((claim-155 w long c).0 i l h (eqb level 1)).0),
        (λ j e. ((claim-155 w long true).0 i l h (eqb level 1)).1 j (λ q. eqb-false i j e (sym q))),
      )

  leaves-read : (d a : ℕ) → Leaves (DomainRead d a) (claimed_in w (eqb d 1) (word_at a))
  unfolding Claim-155 row_of part_touches
  leaves-read d a = (
    (λ c. ((claim-155 w long c).2 (eqb d 1) (word_at a)).0),
    (λ j e. at-wires ((claim-155 w long true).2 (eqb d 1) (word_at a)).1 j),
  )

  leaves-write : (d a v : ℕ) → Leaves (DomainWrite d a v) (written_in w (eqb d 1) (word_at a) v)
  unfolding Claim-155 row_of part_touches
  leaves-write d a v = (
    (λ c. ((claim-155 w long c).1 (eqb d 1) (word_at a) (word-within a) v).0),
    (λ j e. at-wires ((claim-155 w long true).1 (eqb d 1) (word_at a) (word-within a) v).1 j),
  )

  leaves-move : (oh of nh nf n : ℕ) → is_move oh of nh nf n ≡ true
      → Leaves (Move oh of nh nf n) (acted (act_of n) oh of nh nf b s).board.wired
  leaves-move oh of nh nf n there = at (act_of n) refl
    where
      low : 1 ≤ n
      low = move-low oh of nh nf n there

      high : n ≤ 89
      high = move-high oh of nh nf n there

      at : (a : Act) → act_of n ≡ a → Leaves (Move oh of nh nf n) (acted a oh of nh nf b s).board.wired
      at (Save select place) e = unfold acted in leaves-same (Move oh of nh nf n)
      at (Zero new select) e = unfold acted in leaves-same (Move oh of nh nf n)
      at (Target i) e =
          unfold acted act_within in
          let in-range = subst (λ (a : Act). act_within a ≡ true) e (act-within n low high) in
          let l = leb-true 1 i (and_first (leb 1 i) (leb i 63) in-range) in
          let h = leb-true i 63 (and_second (leb 1 i) (leb i 63) in-range) in (
            (λ c. kept-retargeted w long oh of nh nf i l h n (access-source n i low high l e) c),
            (λ j q. at-wires (wires-retargeted w long oh of nh nf i l h) j),
          )
      at (Put kind select place) e = unfold acted in leaves-same (Move oh of nh nf n)

  leaves : (call : Call) → present call b ≡ true → Leaves call (change call b s).board.wired
  unfolding change row_of
  leaves Reset p = leaves_all _
  leaves (Wire i level) p = leaves-wire i level p
  leaves (DomainRead d a) p = leaves-read d a
  leaves (DomainWrite d a v) p = leaves-write d a v
  leaves (PageRead h f a) p = leaves-same (PageRead h f a)
  leaves (PageWrite h f a v) p = leaves-same (PageWrite h f a v)
  leaves (Register h f kind x v) p = leaves-same (Register h f kind x v)
  leaves (Top h f) p = leaves-same (Top h f)
  leaves (Claim h f) p = leaves-same (Claim h f)
  leaves (Signals h) p = leaves-same (Signals h)
  leaves (Move oh of nh nf n) p =
      leaves-move oh of nh nf n (and_first (is_move oh of nh nf n) (by_messages b.wired.child) p)

pub claim-150 : Claim-150
unfolding Claim-150
claim-150 b shaped call e s = leaves b shaped s call (accepted-present (row_of call).tests b e)
