-- One call on a file that is neither old nor new, where every such file is the same on both boards: it
-- answers the same. No contract cites this file. Assumes nothing.
use Prim.Native.Nat.{ℕ, ◌<◌}
use mathlib.Core.Path.{◌≡◌, refl, sym, ap, ◌∙◌}
use mathlib.Core.Bool.{true}
use mathlib.Core.Logic.{◌≢◌}
use native.Mathlib.Decide.{ℕ_discrete}
use native.Mathlib.Omega.{arith}
use Rattle.words.proofs.TestsLaws.{tested, not_same}
use Rattle.sizes.specs.Sizes.{identities, file_count}
use Rattle.file.specs.declared.File.{File}
use Rattle.files.specs.Files.{file_number, is_guest, the_file}
use Rattle.board_call.specs.declared.Call.{Call}
use Rattle.board_call.specs.Refusal.{name_refusal}
use Rattle.board_call_laws.proofs.FileCallEffects.{file-lt, number_read, number_lt}
use Rattle.board_runs.specs.Runs.{said_of, Lent, outcome_on}
use Rattle.board_runs.specs.Ready.{board_in}
use Rattle.move_laws.specs.Shift.{Stations, is_old, is_neither}
use Rattle.move_laws.specs.Premises.{TwoGuests}
use Rattle.move_laws.specs.Moved.{old_number, new_number}
use Rattle.move_laws.specs.After.{FileCall, call_on}
use Rattle.move_laws.proofs.OnFileEffects.{answers, refusal-apart, there-on}
use Rattle.move_laws.proofs.OnFileEffects.{said-done, said-refused}
use Rattle.move_laws.proofs.Invariant.{is-new, is-old}
use Rattle.board_runs.specs.Ready.{Ready}

module _ (m : Stations) (g : TwoGuests m) (x y : Lent) (ready : Ready x) (ready' : Ready y)
    (others : (k : ℕ) → k < file_count → k ≢ old_number m → k ≢ new_number m
    → the_file (board_in x).files k ≡ the_file (board_in y).files k) where
  module _ (h f : ℕ) (d : FileCall) (neither : is_neither m h f ≡ true) where
    abbrev c : Call
    c = call_on h f d

    abbrev k : ℕ
    k = file_number h f

    module _ (low : f < 5) where
      pub not-old : k ≢ old_number m
      not-old q = not_same _ neither (rw (is-old m g h f low q))

      pub not_new : k ≢ new_number m
      not_new q =
          not_same _ neither
          (rw (is-new m g h f low q) (tested (is_old m h f) (λ t. rw t refl) (λ e. rw e refl)))

    pub same : name_refusal c (board_in x) ≡ name_refusal c (board_in y)
    same = refusal-apart h f d (board_in x) (board_in y)

    -- the file is the same in both, if it is there
    pub alike : name_refusal c (board_in x) ≡ 0 → the_file (board_in x).files k ≡ the_file
        (board_in y).files k
    alike e =
        let there = there-on h f d (board_in x) e in
        let low = file-lt h f there in
        others k (omega (arith, number_read h f, number_lt h f there)) (not-old low)
        (not_new low)

    pub on-said : said_of (outcome_on c x) ≡ said_of (outcome_on c y)
    on-said = at (ℕ_discrete (name_refusal c (board_in x)) 0)
      where
        at : Dec (name_refusal c (board_in x) ≡ 0) → said_of (outcome_on c x) ≡ said_of (outcome_on c y)
        at (yes e) =
            said-done h f x ready d e
            ∙ ap (λ (z : File). record { number = 0; value = answers identities (is_guest k) d z; count = 0 })
            (alike e)
            ∙ sym (said-done h f y ready' d (sym same ∙ e))
        at (no q) =
            said-refused h f x ready d q
            ∙ ap (λ (i : ℕ). record { number = i; value = 0; count = 0 }) same
            ∙ sym (said-refused h f y ready' d (λ z. q (same ∙ z)))
