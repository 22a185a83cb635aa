-- The two runs side by side, and a call besides: one that only reads leaves both as they are; one on a file
-- that is neither old nor new answers the same in both. No contract cites this file. Assumes nothing.
--   On m c        c is a call on a file that is neither old nor new
--   Watches m c   c asks for the signals of a hart that has neither
use Prim.Native.Nat.{ℕ}
use mathlib.Core.Path.{◌≡◌, refl, sym, ap, subst, ◌∙◌}
use mathlib.Core.Bool.{true, false, ◌||◌, false≢true}
use mathlib.Core.Logic.{◌≢◌, ◌⊎◌, inl, inr, ⊎_elim}
use Rattle.words.proofs.TestsLaws.{tested, not_same}
use Rattle.sizes.specs.Sizes.{identities}
use Rattle.files.specs.Files.{file_number, is_guest}
use Rattle.board_call.specs.declared.Call.{Call}
use Rattle.board_call.specs.declared.Call.TheVariants.{Reset, Wire, DomainRead, DomainWrite, PageRead}
use Rattle.board_call.specs.declared.Call.TheVariants.{PageWrite, Register, Top, Claim, Signals, Move}
use Rattle.board_call.specs.Calls.{row_of}
use Rattle.board_call.specs.Refusal.{name_refusal}
use Rattle.board_call_laws.specs.Small.{Small}
use Rattle.board_call_laws.proofs.FileCallEffects.{file-lt}
use Rattle.board_runs.specs.Runs.{said_of, Lent, outcome_on, after}
use Rattle.board_runs.specs.Handed.{is_access}
use Rattle.board_runs.specs.Ready.{board_in}
use Rattle.board_runs.specs.Reading.{only_reads}
use Rattle.board_runs.proofs.ReadingEffects.{after_read}
use Rattle.move_laws.specs.Shift.{Stations, is_neither, has_neither, elsewhere}
use Rattle.move_laws.specs.Premises.{TwoGuests}
use Rattle.move_laws.specs.After.{FileCall, call_on}
use Rattle.move_laws.proofs.OnFileEffects.{leaves, there-on, step-on}
use Rattle.move_laws.proofs.OnFileEffects.{no_access}
use Rattle.move_laws.proofs.Invariant.{middle-other}
use Rattle.move_laws.proofs.BesideEffects.{Beside, both, done}
use Rattle.move_laws.proofs.WatchEffects.{watch-said}
use Rattle.move_laws.proofs.ElseEffects.{not-old, not_new, same, alike, on-said}

-- ---- which calls these are

pub record On (m : Stations) (c : Call) : Type 0 where
  pub h : ℕ
  pub f : ℕ
  pub d : FileCall
  pub is : c ≡ call_on h f d
  pub neither : is_neither m h f ≡ true

pub record Watches (m : Stations) (c : Call) : Type 0 where
  pub h : ℕ
  pub is : c ≡ Signals h
  pub neither : has_neither m h ≡ true

elsewhere-is : (m : Stations) (c : Call) → elsewhere m c ≡ true → On m c ⊎ Watches m c
unfolding elsewhere
elsewhere-is m Reset e = absurd (false≢true e)
elsewhere-is m (Wire w level) e = absurd (false≢true e)
elsewhere-is m (DomainRead d a) e = absurd (false≢true e)
elsewhere-is m (DomainWrite d a v) e = absurd (false≢true e)
elsewhere-is m (PageRead h f a) e =
    inl record { h = h; f = f; d = FileCall.page_read a; is = refl; neither = e }
elsewhere-is m (PageWrite h f a v) e =
    inl record { h = h; f = f; d = FileCall.page_write a v; is = refl; neither = e }
elsewhere-is m (Register h f k s v) e =
    inl record { h = h; f = f; d = FileCall.register k s v; is = refl; neither = e }
elsewhere-is m (Top h f) e = inl record { h = h; f = f; d = FileCall.top; is = refl; neither = e }
elsewhere-is m (Claim h f) e = inl record { h = h; f = f; d = FileCall.claim; is = refl; neither = e }
elsewhere-is m (Signals h) e = inr record { h = h; is = refl; neither = e }
elsewhere-is m (Move oh of nh nf n) e = absurd (false≢true e)

-- one that stores is a call on a file
pub elsewhere-on : (m : Stations) (c : Call) → only_reads c ≡ false → elsewhere m c ≡ true → On m c
elsewhere-on m c stores e = ⊎_elim (λ on. on) (λ w. absurd (not_same (only_reads c) (watch w) stores))
    (elsewhere-is m c e)
  where
    watch : Watches m c → only_reads c ≡ true
    watch w = ap only_reads w.is ∙ (unfold only_reads row_of in refl)

reads-no-access : (c : Call) → only_reads c ≡ true → is_access c ≡ false
unfolding only_reads is_access row_of
reads-no-access Reset e = refl
reads-no-access (Wire w level) e = refl
reads-no-access (DomainRead d a) e = refl
reads-no-access (DomainWrite d a v) e = refl
reads-no-access (PageRead h f a) e = refl
reads-no-access (PageWrite h f a v) e = refl
reads-no-access (Register h f k s v) e = refl
reads-no-access (Top h f) e = refl
reads-no-access (Claim h f) e = refl
reads-no-access (Signals h) e = refl
reads-no-access (Move oh of nh nf n) e = absurd (false≢true e)

-- neither kind is an access of a move
pub kept-no-access : (m : Stations) (c : Call) → (only_reads c || elsewhere m c) ≡ true → is_access c ≡ false
kept-no-access m c e =
    tested (only_reads c) (reads-no-access c)
    (λ n. let on = elsewhere-on m c n (rw n at e) in
    ap is_access on.is ∙ no_access on.h on.f on.d)

-- ---- a call on a file that is neither

module _ (m : Stations) (g : TwoGuests m) (n : ℕ) (x y : Lent) (r : Beside m g n x y) where
  module _ (h f : ℕ) (d : FileCall) (neither : is_neither m h f ≡ true) where
    abbrev c : Call
    c = call_on h f d

    abbrev k : ℕ
    k = file_number h f

    on-beside : Small c → Beside m g n (after c x) (after c y)
    on-beside small = both m g n x y r c c (same m g x y r.ready r.ready' r.middle.files.others h f
        d neither) stepped
      where
        stepped : name_refusal c (board_in x) ≡ 0 → name_refusal c (board_in y) ≡ 0
            → Beside m g n (after c x) (after c y)
        stepped e e' =
            let low = file-lt h f (there-on h f d (board_in x) e) in
            done m g n x y r n c c small small e e'
            (rw (
              step-on h f (board_in x) r.ready.fit d x.saved,
              step-on h f (board_in y) r.ready'.fit d y.saved,
            )
            (middle-other m g n (board_in x) (board_in y) x.saved r.ready.fit r.ready'.fit
            r.middle k (not_new m g x y r.ready r.ready' r.middle.files.others h f d neither
            low)
            (not-old m g x y r.ready r.ready' r.middle.files.others h f d neither low) _ _
            (ap (leaves identities (is_guest k) d) (alike m g x y r.ready r.ready'
            r.middle.files.others h f d neither e))))

  -- ---- any call that may be made besides

  pub other-said : (c : Call) → elsewhere m c ≡ true → said_of (outcome_on c x) ≡ said_of (outcome_on c y)
  other-said c e =
      ⊎_elim (λ on. subst Same (sym on.is) (on-said m g x y r.ready r.ready'
      r.middle.files.others on.h on.f on.d on.neither))
      (λ w. subst Same (sym w.is) (watch-said m g n x y r w.h w.neither)) (elsewhere-is m c e)
    where
      Same : Call → Type 0
      Same u = said_of (outcome_on u x) ≡ said_of (outcome_on u y)

  pub beside-call : (c : Call) → (only_reads c || elsewhere m c) ≡ true → Small c
      → Beside m g n (after c x) (after c y)
  beside-call c e small =
      tested (only_reads c) (λ t. rw (after_read c x t, after_read c y t) r)
      (λ q. let on = elsewhere-on m c q (rw q at e) in
      subst (λ (u : Call). Beside m g n (after u x) (after u y)) (sym on.is)
      (on-beside on.h on.f on.d on.neither (subst Small on.is small)))
