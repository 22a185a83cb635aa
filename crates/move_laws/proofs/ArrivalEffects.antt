-- The files of both boards in the middle of a move, and a message that arrives: at the same file on both,
-- or at new on the one and at old on the other. No contract cites this file. Assumes nothing.
--   ns k                 the number of identities of file k; old and new have the same
--   three fs s           the old and the new file of fs, and the saved numbers s
--   FilesMoved n fs gs s after n accesses fs are the files with the move and s are the saved numbers; gs are
--                        those without it: old and new are related, and every other file is the same
--   arrived_at fs k i    fs after the identity i arrived at file k
use Prim.Native.Nat.{ℕ, ◌≤◌, ◌<◌}
use mathlib.Core.Path.{◌≡◌, refl, sym, ap, subst, ◌∙◌}
use mathlib.Core.List.{List}
use mathlib.Core.Logic.{◌≢◌}
use native.Mathlib.Decide.{ℕ_discrete}
use native.Mathlib.Omega.{arith}
use lib.Dec.{eqb}
use lib.ListN.{length}
use Rattle.words.specs.Parts.{reversed}
use mathlib.Core.Bool.{cond}
use Rattle.sizes.specs.Sizes.{file_count}
use Rattle.file.specs.declared.File.{File}
use Rattle.file.specs.Page.{arrived, page_written}
use Rattle.file.specs.Shape.{Shaped}
use Rattle.file_laws.proofs.PageEffects.{arrived-ignored}
use Rattle.files.specs.Files.{the_file, with_file}
use Rattle.files.proofs.FilesLaws.{the_file-with_file-same, the_file-with_file-other}
use Rattle.board_move_files_laws.specs.Related.{Three, Related}
use Rattle.board_move_files_laws.proofs.WrittenEffects.{Sized}
use Rattle.board_move_files_laws.proofs.RelatedEffects.{related-both, related-new}
use Rattle.words.proofs.TestsLaws.{tested}

abbrev pub arrived_at : (ℕ → ℕ) → List File → ℕ → ℕ → List File
arrived_at ns fs k i = with_file fs k (arrived (ns k) (the_file fs k) i)

-- the number that a page write brings; 0 is no identity
abbrev pub page_number : ℕ → ℕ → ℕ
page_number a v = cond (eqb a 0) v (cond (eqb a 4) (reversed v) 0)

-- a page write is the arrival of a number that does not depend on the file
pub page-arrives : (n : ℕ) (f : File) (a v : ℕ) → page_written n f a v ≡ arrived n f (page_number a v)
unfolding page_written
page-arrives n f a v =
    tested (eqb a 0) (λ t. rw t)
    (λ u. tested (eqb a 4) (λ t. rw (u, t)) (λ e. rw (u, e) (sym (arrived-ignored n f 0 refl))))

abbrev pub three : ℕ → ℕ → List File → List ℕ → Three
three old new fs s = record { old = the_file fs old; new = the_file fs new; numbers = s }

module _ (ns : ℕ → ℕ) (old new : ℕ) where
  pub record FilesMoved (n : ℕ) (fs gs : List File) (s : List ℕ) : Type 0 where
    pub related : Related (ns old) n (three old new fs s) (the_file gs old)
    pub others : (k : ℕ) → k < file_count → k ≢ old → k ≢ new → the_file fs k ≡ the_file gs k

  module _ (alike : ns new ≡ ns old) (sized : Sized (ns old)) (n : ℕ) (fs gs : List File) (s : List ℕ)
      (many : length fs ≡ file_count) (many' : length gs ≡ file_count)
      (shaped : (k : ℕ) → k < file_count → Shaped (the_file fs k))
      (shaped' : (k : ℕ) → k < file_count → Shaped (the_file gs k))
      (r : FilesMoved n fs gs s) (different : new ≢ old) (old_lt : old < file_count)
      (new_lt : new < file_count)
      (i : ℕ) where
    -- what arrives at file k of each board
    abbrev here : ℕ → File
    here k = arrived (ns k) (the_file fs k) i

    abbrev there : ℕ → File
    there k = arrived (ns k) (the_file gs k) i

    arrival-old : n < 72 → FilesMoved n (arrived_at ns fs old i) (arrived_at ns gs old i) s
    arrival-old h =
        record {
          related =
              rw (
                the_file-with_file-same fs old (here old) (omega arith),
                the_file-with_file-other fs old (here old) new different,
                the_file-with_file-same gs old (there old) (omega arith),
              )
              (related-both (ns old) n (three old new fs s) (the_file gs old) r.related i sized
              (shaped' old old_lt) h (shaped old old_lt));
          others = λ k l a b. the_file-with_file-other fs old _ k a ∙ r.others k l a b
              ∙ sym (the_file-with_file-other gs old _ k a);
        }

    -- a sender that has changed over
    pub arrival-new : 8 ≤ n → FilesMoved n (arrived_at ns fs new i) (arrived_at ns gs old i) s
    arrival-new h =
        record {
          related =
              rw (
                the_file-with_file-other fs new (here new) old (λ e. different (sym e)),
                the_file-with_file-same fs new (here new) (omega arith),
                the_file-with_file-same gs old (there old) (omega arith),
                alike,
              )
              (related-new (ns old) n (three old new fs s) (the_file gs old) r.related i sized
              (shaped' old old_lt) h (shaped new new_lt));
          others = λ k l a b. the_file-with_file-other fs new _ k b ∙ r.others k l a b
              ∙ sym (the_file-with_file-other gs old _ k a);
        }

    -- a file that is neither is put in its place on both boards
    pub put_other : (k : ℕ) → k ≢ new → k ≢ old → (x y : File) → x ≡ y
        → FilesMoved n (with_file fs k x) (with_file gs k y) s
    put_other k not_the_new not_old x y e =
        record {
          related =
              rw (
                the_file-with_file-other fs k x old (λ q. not_old (sym q)),
                the_file-with_file-other fs k x new (λ q. not_the_new (sym q)),
                the_file-with_file-other gs k y old (λ q. not_old (sym q)),
              )
              r.related;
          others = λ j l a b. at j l a b (ℕ_discrete j k);
        }
      where
        at : (j : ℕ) → j < file_count → j ≢ old → j ≢ new → Dec (j ≡ k)
            → the_file (with_file fs k x) j ≡ the_file (with_file gs k y) j
        at j l a b (yes q) =
            rw q (the_file-with_file-same fs k x (omega arith) ∙ e
            ∙ sym (the_file-with_file-same gs k y (omega arith)))
        at j l a b (no d) =
            the_file-with_file-other fs k x j d ∙ r.others j l a b ∙ sym (the_file-with_file-other gs k y j d)

    module _ (k : ℕ) (k_lt : k < file_count) (not_the_new : k ≢ new) where
      arrival-other : k ≢ old → FilesMoved n (arrived_at ns fs k i) (arrived_at ns gs k i) s
      arrival-other not_old =
          put_other k not_the_new not_old (here k) (there k)
          (ap (λ (f : File). arrived (ns k) f i) (r.others k k_lt not_old not_the_new))

      -- a message for the same file on both boards; to old only while it is still read
      pub arrival-same : (k ≡ old → n < 72) → FilesMoved n (arrived_at ns fs k i) (arrived_at ns gs k i) s
      arrival-same still = at (ℕ_discrete k old)
        where
          at : Dec (k ≡ old) → FilesMoved n (arrived_at ns fs k i) (arrived_at ns gs k i) s
          at (yes e) =
              subst (λ (j : ℕ). FilesMoved n (arrived_at ns fs j i) (arrived_at ns gs j i) s) (sym e)
              (arrival-old (still e))
          at (no d) = arrival-other d
