-- The wired controller in the middle of a move, beside that of a board with no move. No contract and no claim
-- cites this file. 01, "The move, with its premises". Assumes nothing.
--   TargetsOnly w u         w is u but for the targets of the child domain
--   Same, Rewritten         what one target t of the first is, where the second has u: the same, and it does
--                           not name new, nor old if its turn has passed; or, its turn having passed, u names
--                           old and t is u rewritten to name new
--   TargetsMoved .. n w u   each of the 63 targets is one or the other, after n accesses: that of source i
--                           has its turn at access i + 8
-- oh and of are the hart and the file of old, nh and nf those of new.
use Rattle.std.specs.Prelude.{ℕ, ◌+◌, ◌≤◌, ◌<◌, ◌≡◌, true, false, ◌⊎◌}
use Rattle.sizes.specs.Sizes.{slot_count}
use Rattle.domain.specs.Slot.{source_at}
use Rattle.wired_state.specs.Wires.{Wired}
use Rattle.board_move_steps.specs.Names.{names_file, renamed}

pub record TargetsOnly (w u : Wired) : Type 0 where
  pub wires : w.wires ≡ u.wires
  pub machine : w.machine ≡ u.machine
  pub source : w.child.source ≡ u.child.source
  pub pending : w.child.pending ≡ u.child.pending
  pub enable : w.child.enable ≡ u.child.enable
  pub delivery : w.child.delivery ≡ u.child.delivery

module _ (oh of nh nf : ℕ) where
  pub record Same (n i t u : ℕ) : Type 0 where
    pub same : t ≡ u
    pub not_new : names_file u nh nf ≡ false
    pub not-old : i + 8 ≤ n → names_file u oh of ≡ false

  pub record Rewritten (n i t u : ℕ) : Type 0 where
    pub passed : i + 8 ≤ n
    pub was-old : names_file u oh of ≡ true
    pub now-new : t ≡ renamed u nh nf

  abbrev pub TargetsMoved : ℕ → Wired → Wired → Type 0
  TargetsMoved n w u =
      (i : ℕ) → 1 ≤ i → i < slot_count
      → let t = (source_at w.child i).target in
      let t' = (source_at u.child i).target in Same n i t t' ⊎ Rewritten n i t t'
