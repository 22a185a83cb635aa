-- What messages do to each file: it gets the identities that name it, and nothing else of it changes. No
-- contract cites this file. Assumes nothing.
use Prim.Native.Nat.{ℕ, ◌≤◌, ◌<◌}
use mathlib.Core.Path.{◌≡◌, refl, sym, ap, ◌∙◌, subst}
use mathlib.Core.Logic.{◌≢◌}
use mathlib.Core.Bool.{Bool, false, ◌&&◌, ◌||◌, or-false, or_assoc}
use mathlib.Core.List.{List, [], ◌∷◌}
use native.Mathlib.Decide.{ℕ_discrete, dec_lt}
use native.Mathlib.Omega.{arith}
use lib.Dec.{eqb, leb}
use lib.ListN.{length}
use lib.Seq.{set-get_or, set_out}
use borrow.Author.Tests.{eq-eqb, ne_eqb, eqb-false, le-leb}
use Rattle.words.specs.Sets.{member}
use Rattle.words.proofs.SetsLaws.{member-insert-other}
use Rattle.words.proofs.TestsLaws.{tested}
use Rattle.sizes.specs.Sizes.{identities}
use Rattle.file_message.specs.Message.{identity_in}
use Rattle.file_message.proofs.MessageLaws.{identity_in-lt}
use Rattle.file.specs.declared.File.{File}
use Rattle.file.specs.Page.{arrived}
use Rattle.file_laws.proofs.PageEffects.{arrived-ignored, arrived-pending, arrived-rest, arrived-length}
use Rattle.file.specs.Shape.{Long}
use Rattle.files.specs.Files.{zero_file, the_file, with_file, named_by, reached, all_reached}
use Rattle.files.proofs.FilesLaws.{length-with_file, the_file-with_file-same, the_file-with_file-other}
use Rattle.files_laws.specs.Messages.{names, brings, any_of, PendingOnly}
use Rattle.files_laws.proofs.AnyLaws.{or-first, or-second}

-- ---- one message

-- what comes to a file of n identities is one of 1 to n unless it is 0
came : (n i j : ℕ) → 1 ≤ i → j ≤ n → (eqb i j && (leb 1 j && leb j n)) ≡ eqb j i
came n i j l h = at (ℕ_discrete j i)
  where
    at : Dec (j ≡ i) → (eqb i j && (leb 1 j && leb j n)) ≡ eqb j i
    at (yes e) = simp (eq-eqb j i e, eq-eqb i j (sym e), le-leb 1 j (omega arith), le-leb j n h)
    at (no d) = simp (ne_eqb j i d, ne_eqb i j (λ e. d (sym e)))

module _ (n : ℕ) (f : File) (i : ℕ) where
  pub arrived-long : Long f → Long (arrived n f i)
  arrived-long s =
      record {
        pending_long = arrived-length n f i ∙ s.pending_long;
        enable_long = ap length (arrived-rest n f i).2 ∙ s.enable_long;
      }

  -- identity 0 changes nothing
  pub arrived-zero : i ≡ 0 → arrived n f i ≡ f
  arrived-zero e = arrived-ignored n f i (rw e)

  zero-keeps : {b : Bool} → member f.pending 0 ≡ b → member (arrived n f i).pending 0 ≡ b
  unfolding arrived
  zero-keeps {b} e = at (ℕ_discrete 0 i)
    where
      at : Dec (0 ≡ i) → member (arrived n f i).pending 0 ≡ b
      at (yes z) = ap (λ (g : File). member g.pending 0) (arrived-zero (sym z)) ∙ e
      at (no d) =
          tested (leb 1 i && leb i n) (λ t. simp t (member-insert-other f.pending i 0 d ∙ e))
          (λ u. simp u e)

  rest-keeps : {f₀ : File} → PendingOnly f₀ f → PendingOnly f₀ (arrived n f i)
  rest-keeps r =
      let same = arrived-rest n f i in
      record {
        delivery = same.0 ∙ r.delivery;
        threshold = same.1 ∙ r.threshold;
        enable = same.2 ∙ r.enable;
      }

-- a file put where it stands changes nothing, and so does one put past the last
pub with_file-the_file : (fs : List File) (k : ℕ) → with_file fs k (the_file fs k) ≡ fs
unfolding with_file the_file
with_file-the_file fs k = set-get_or fs k zero_file

pub with_file-past : (fs : List File) (k : ℕ) (f : File) → length fs ≤ k → with_file fs k f ≡ fs
unfolding with_file
with_file-past fs k f h = set_out fs k f h

module _ (fs : List File) (m : ℕ) where
  -- the named file after the message
  abbrev come : File
  come = arrived identities (the_file fs (named_by m)) (identity_in m)

  pub length-reached : length (reached fs m) ≡ length fs
  unfolding reached
  length-reached = length-with_file fs (named_by m) come

  pub reached-zero : identity_in m ≡ 0 → reached fs m ≡ fs
  unfolding reached
  reached-zero e =
      ap (with_file fs (named_by m)) (arrived-zero identities (the_file fs (named_by m)) (identity_in m) e)
      ∙ with_file-the_file fs (named_by m)

  -- one that names no file here changes nothing either
  pub reached-past : length fs ≤ named_by m → reached fs m ≡ fs
  unfolding reached
  reached-past h = with_file-past fs (named_by m) come h

  pub the_file-reached-other : (k : ℕ) → k ≢ named_by m → the_file (reached fs m) k ≡ the_file fs k
  unfolding reached
  the_file-reached-other k n = the_file-with_file-other fs (named_by m) come k n

  pub the_file-reached-same : (k : ℕ) → k ≡ named_by m → k < length fs
      → the_file (reached fs m) k ≡ arrived identities (the_file fs k) (identity_in m)
  unfolding reached
  the_file-reached-same k e h = rw e (the_file-with_file-same fs (named_by m) come (omega arith))

  -- what every identity keeps, every message keeps of every file
  pub reached-keeps : (P : File → Type 0) → ((f : File) (i : ℕ) → P f → P (arrived identities f i))
      → (k : ℕ) → P (the_file fs k) → P (the_file (reached fs m) k)
  reached-keeps P keeps k p = at (ℕ_discrete k (named_by m)) (dec_lt k (length fs))
    where
      at : Dec (k ≡ named_by m) → Dec (k < length fs) → P (the_file (reached fs m) k)
      at (no n) d = subst P (sym (the_file-reached-other k n)) p
      at (yes e) (yes h) = subst P (sym (the_file-reached-same k e h))
          (keeps (the_file fs k) (identity_in m) p)
      at (yes e) (no h) =
          subst P (sym (ap (λ (gs : List File). the_file gs k) (reached-past (omega arith)))) p

  -- the identity that came is pending, and every other is as it was
  pub pending-reached : (k i : ℕ) → k < length fs → Long (the_file fs k) → 1 ≤ i
      → member (the_file (reached fs m) k).pending i ≡ (member (the_file fs k).pending i || brings k i m)
  unfolding brings names
  pending-reached k i h long l = at (ℕ_discrete k (named_by m))
    where
      at : Dec (k ≡ named_by m)
          → member (the_file (reached fs m) k).pending i
          ≡ (member (the_file fs k).pending i || (eqb (named_by m) k && eqb (identity_in m) i))
      at (no n) =
          ap (λ (f : File). member f.pending i) (the_file-reached-other k n)
          ∙ sym (simp (ne_eqb (named_by m) k (λ e. n (sym e)), or-false))
      at (yes e) =
          ap (λ (f : File). member f.pending i) (the_file-reached-same k e h)
          ∙ arrived-pending identities (the_file fs k) (identity_in m) i (omega (arith, long.pending_long))
          ∙ ap (λ (b : Bool). member (the_file fs k).pending i || b)
          (came identities i (identity_in m) l (omega (arith, identity_in-lt m))
          ∙ sym (simp (eq-eqb (named_by m) k (sym e))))

  pub pending-reached-zero : (k : ℕ)
      → member (the_file (reached fs m) k).pending 0 ≡ member (the_file fs k).pending 0
  pending-reached-zero k =
      reached-keeps (λ f. member f.pending 0 ≡ member (the_file fs k).pending 0)
      (λ f i. zero-keeps identities f i) k refl

  pub rest-reached : (k : ℕ) → PendingOnly (the_file fs k) (the_file (reached fs m) k)
  rest-reached k =
      reached-keeps (PendingOnly (the_file fs k)) (λ f i. rest-keeps identities f i) k
      (record { delivery = refl; threshold = refl; enable = refl })

-- ---- messages in order

-- what every identity keeps, messages keep of every file
pub all_reached-keeps : (P : File → Type 0) → ((f : File) (i : ℕ) → P f → P (arrived identities f i))
    → (ms : List ℕ) (fs : List File) (k : ℕ) → P (the_file fs k) → P (the_file (all_reached fs ms) k)
unfolding all_reached
all_reached-keeps P keeps [] fs k p = p
all_reached-keeps P keeps (m ∷ ms) fs k p =
    all_reached-keeps P keeps ms (reached fs m) k (reached-keeps fs m P keeps k p)

pub length-all_reached : (ms : List ℕ) (fs : List File) → length (all_reached fs ms) ≡ length fs
unfolding all_reached
length-all_reached [] fs = refl
length-all_reached (m ∷ ms) fs = length-all_reached ms (reached fs m) ∙ length-reached fs m

-- a file that no message names is as it was
pub the_file-all_reached-other : (ms : List ℕ) (fs : List File) (k : ℕ) → any_of (names k) ms ≡ false
    → the_file (all_reached fs ms) k ≡ the_file fs k
unfolding all_reached any_of names
the_file-all_reached-other [] fs k e = refl
the_file-all_reached-other (m ∷ ms) fs k e =
    the_file-all_reached-other ms (reached fs m) k (or-second (names k m) (any_of (names k) ms) e)
    ∙ the_file-reached-other fs m k (λ q. eqb-false (named_by m) k
    (or-first (names k m) (any_of (names k) ms) e) (sym q))

-- an identity of 1 or more is pending after the messages if it was, or if one of them brought it
pub pending-all_reached : (ms : List ℕ) (fs : List File) (k i : ℕ) → k < length fs → Long (the_file fs k)
    → 1 ≤ i
    → member (the_file (all_reached fs ms) k).pending i
    ≡ (member (the_file fs k).pending i || any_of (brings k i) ms)
unfolding all_reached any_of
pending-all_reached [] fs k i h long l = sym (or-false (member (the_file fs k).pending i))
pending-all_reached (m ∷ ms) fs k i h long l =
    pending-all_reached ms (reached fs m) k i (omega (arith, length-reached fs m))
    (reached-keeps fs m Long (arrived-long identities) k long) l
    ∙ ap (λ (b : Bool). b || any_of (brings k i) ms) (pending-reached fs m k i h long l)
    ∙ or_assoc (member (the_file fs k).pending i) (brings k i m) (any_of (brings k i) ms)

module _ (ms : List ℕ) (fs : List File) (k : ℕ) where
  pub pending-all_reached-zero :
      member (the_file (all_reached fs ms) k).pending 0 ≡ member (the_file fs k).pending 0
  pending-all_reached-zero =
      all_reached-keeps (λ f. member f.pending 0 ≡ member (the_file fs k).pending 0)
      (λ f i. zero-keeps identities f i) ms fs k refl

  pub rest-all_reached : PendingOnly (the_file fs k) (the_file (all_reached fs ms) k)
  rest-all_reached =
      all_reached-keeps (PendingOnly (the_file fs k)) (λ f i. rest-keeps identities f i) ms fs k
      (record { delivery = refl; threshold = refl; enable = refl })
