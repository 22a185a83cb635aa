-- Messages and a sound file in the place of another keep the files' shape and their state rules. No contract
-- cites this file. Assumes nothing.
use Prim.Native.Nat.{ℕ, ◌*◌, ◌<◌}
use mathlib.Core.Path.{◌≡◌, sym, ap, subst}
use mathlib.Core.Bool.{Bool, true}
use mathlib.Core.List.{List}
use native.Mathlib.Decide.{ℕ_discrete, dec_lt}
use native.Mathlib.Omega.{arith}
use lib.ListN.{length}
use Rattle.words.specs.Sets.{WordsFit}
use Rattle.words.proofs.EveryLaws.{every-each, every_of}
use Rattle.sizes.specs.Sizes.{identities, files_size, file_count, file_size}
use Rattle.file.specs.declared.File.{File}
use Rattle.file.specs.Shape.{Shaped, Long}
use Rattle.file.specs.Page.{arrived}
use Rattle.file.specs.Rules.{file_sound}
use Rattle.file_laws.proofs.Keeps.{rules-of, sound-of, arrived-rules, arrived-shaped}
use Rattle.file_laws.proofs.Stored.{loaded-long, loaded-shaped}
use Rattle.files.specs.Files.{is_guest, files_of, the_file, with_file, all_reached, sound_at, files_sound}
use Rattle.files.proofs.FilesLaws.{the_file-files_of, the_file-with_file-same, the_file-with_file-other}
use Rattle.files_laws.proofs.ReachedEffects.{arrived-long, with_file-past, all_reached-keeps}

-- ---- one file put in

-- what the file has that is put in, and each file had, each file has
pub with_file-keeps : (P : File → Type 0) (fs : List File) (k : ℕ) (f : File) (j : ℕ) → (j ≡ k → P f)
    → P (the_file fs j) → P (the_file (with_file fs k f) j)
with_file-keeps P fs k f j here there = at (ℕ_discrete j k) (dec_lt k (length fs))
  where
    at : Dec (j ≡ k) → Dec (k < length fs) → P (the_file (with_file fs k f) j)
    at (no n) d = subst P (sym (the_file-with_file-other fs k f j n)) there
    at (yes e) (yes h) = rw e (subst P (sym (the_file-with_file-same fs k f h)) (here e))
    at (yes e) (no h) =
        subst P (sym (ap (λ (gs : List File). the_file gs j) (with_file-past fs k f (omega arith)))) there

-- ---- the shape of every file

-- a file of a block has it
module _ (l : List ℕ) (many : length l ≡ files_size) (k : ℕ) (h : k < file_count) where
  pub files_of-long : Long (the_file (files_of l) k)
  files_of-long = rw (the_file-files_of l k h) (loaded-long l (file_size * k) (omega arith))

  pub files_of-shaped : WordsFit l → Shaped (the_file (files_of l) k)
  files_of-shaped fit = rw (the_file-files_of l k h) (loaded-shaped l (file_size * k) fit (omega arith))

module _ (ms : List ℕ) (fs : List File) (k : ℕ) where
  pub all_reached-long : Long (the_file fs k) → Long (the_file (all_reached fs ms) k)
  all_reached-long = all_reached-keeps Long (arrived-long identities) ms fs k

  pub all_reached-shaped : Shaped (the_file fs k) → Shaped (the_file (all_reached fs ms) k)
  all_reached-shaped = all_reached-keeps Shaped (λ f i. arrived-shaped identities f i) ms fs k

-- ---- the state rules

pub arrived-sound : (g : Bool) (f : File) (i : ℕ) → file_sound identities g f ≡ true
    → file_sound identities g (arrived identities f i) ≡ true
arrived-sound g f i e =
    sound-of identities g (arrived identities f i)
    (arrived-rules identities f i g (rules-of identities g f e))

module _ (fs : List File) where
  -- the rules of all are the rules of each
  pub files_sound-1 : files_sound fs ≡ true → (k : ℕ) → k < file_count
      → file_sound identities (is_guest k) (the_file fs k) ≡ true
  unfolding files_sound sound_at
  files_sound-1 e k h = every-each (sound_at fs) 0 file_count e k (omega arith) (omega arith)

  pub files_sound-2 : ((k : ℕ) → k < file_count → file_sound identities (is_guest k) (the_file fs k) ≡ true)
      → files_sound fs ≡ true
  unfolding files_sound sound_at
  files_sound-2 each = every_of (sound_at fs) 0 file_count (λ k l h. each k (omega arith))

pub all_reached-sound : (ms : List ℕ) (fs : List File) → files_sound fs ≡ true
    → files_sound (all_reached fs ms) ≡ true
all_reached-sound ms fs e =
    files_sound-2 (all_reached fs ms)
    (λ k h. all_reached-keeps (λ f. file_sound identities (is_guest k) f ≡ true) (arrived-sound (is_guest k))
    ms fs k (files_sound-1 fs e k h))

pub with_file-sound : (fs : List File) (k : ℕ) (f : File) → file_sound identities (is_guest k) f ≡ true
    → files_sound fs ≡ true → files_sound (with_file fs k f) ≡ true
with_file-sound fs k f s e =
    files_sound-2 (with_file fs k f)
    (λ j h. with_file-keeps (λ g. file_sound identities (is_guest j) g ≡ true) fs k f j (λ q. rw q s)
    (files_sound-1 fs e j h))
