-- The 89 accesses of a move, in the six steps of 01, "The move, with its premises"; the standard 6.1.2.
-- Assumes nothing.
--   accesses            how many there are
--                       The saved numbers are delivery, threshold, four words of pending bits and four of
--                       enable bits, at these places:
--   delivery_at, threshold_at, pending_at k, enable_at k
--   Act                 what an access may do, a case each; a register is named by its select number:
--   Save r p            register r of old is read into the saved numbers at place p
--   Zero c r            0 is written to register r, of new if c is true and else of old
--   Target i            the target of source i, if it names old, is rewritten to name new
--   Put k r p           the saved number at place p goes to register r of new, written or set as k says
--   act_of n            what access n does, for n of 1 to 89
--   act_within a        the source that a names is one of 1 to 63, its place one of the saved numbers'
use Rattle.std.specs.Prelude.{ℕ, ◌+◌, ◌-◌, ◌*◌, Bool, true, false, cond, ◌&&◌, eqb, leb, ltb}
use Rattle.sizes.specs.Sizes.{saved_size, source_count}
use Rattle.file_select.specs.Select.{eidelivery, eithreshold, eip0, eie0}
use Rattle.file.specs.declared.register.Access.TheVariants.{Write, Set}
use Rattle.board_move_steps.specs.declared.Act.{Act}
use Rattle.board_move_steps.specs.declared.Act.TheVariants.{Save, Zero, Target, Put}

-- [01 V5]
abbrev pub accesses : ℕ
accesses = 89

abbrev pub delivery_at : ℕ
delivery_at = 0

abbrev pub threshold_at : ℕ
threshold_at = 1

abbrev pub pending_at : ℕ → ℕ
pending_at k = 2 + k

abbrev pub enable_at : ℕ → ℕ
enable_at k = 6 + k

-- [01 V5 V6 V7 V15 V16 V19 V20 V21 V30 M3 M4]
unfoldable pub act_of : ℕ → Act
act_of n =
    -- step 1: the delivery and the threshold of old are saved, and its delivery becomes 0
    cond (eqb n 1) (Save eidelivery delivery_at)
    (cond (eqb n 2) (Save eithreshold threshold_at)
    (cond (eqb n 3) (Zero false eidelivery)
    -- step 2: the delivery and the pending words of new become 0
    (cond (eqb n 4) (Zero true eidelivery)
    (cond (leb n 8) (Zero true (eip0 + 2 * (n - 5)))
    -- step 3: a target of the child that named old names new instead
    (cond (leb n 71) (Target (n - 8))
    -- step 4: the pending and the enable words of old are saved
    (cond (leb n 75) (Save (eip0 + 2 * (n - 72)) (pending_at (n - 72)))
    (cond (leb n 79) (Save (eie0 + 2 * (n - 76)) (enable_at (n - 76)))
    -- step 5: what was pending is set in new, and what was enabled is written there
    (cond (leb n 83) (Put Set (eip0 + 2 * (n - 80)) (pending_at (n - 80)))
    (cond (leb n 87) (Put Write (eie0 + 2 * (n - 84)) (enable_at (n - 84)))
    -- step 6: new gets the saved threshold, then the saved delivery
    (cond (eqb n 88) (Put Write eithreshold threshold_at) (Put Write eidelivery delivery_at)))))))))))

unfoldable pub act_within : Act → Bool
act_within (Save select place) = ltb place saved_size
act_within (Zero new select) = true
act_within (Target i) = leb 1 i && leb i source_count
act_within (Put kind select place) = ltb place saved_size
