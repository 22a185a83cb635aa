-- Calls that only read: each leaves what it was lent as it was, whatever that is, accepted or refused, and so
-- a run leaves what it leaves without them. No contract cites this file. Assumes nothing.
--   Still c    on a sound board c leaves the board and the saved numbers as they were, and sends nothing
use Prim.Native.Nat.{ℕ}
use mathlib.Core.Path.{◌≡◌, refl, ap, ◌∙◌}
use mathlib.Core.Bool.{true, false, not, false≢true}
use mathlib.Core.List.{List, [], ◌∷◌}
use mathlib.Core.Logic.{◌≢◌}
use native.Mathlib.Decide.{ℕ_discrete}
use lib.Dec.{eqb}
use borrow.Author.Tests.{not-true}
use Rattle.words.proofs.TestsLaws.{tested, not_same, and_first}
use Rattle.sizes.specs.Sizes.{identities}
use Rattle.file.specs.Register.{accessed}
use Rattle.file_laws.proofs.RegisterEffects.{accessed-read}
use Rattle.files.specs.Files.{file_number, is_guest, the_file, with_file, all_reached}
use Rattle.files_laws.proofs.ReachedEffects.{with_file-the_file}
use Rattle.domain_region.specs.declared.Word.TheVariants.{Claimi}
use Rattle.domain_region.specs.declared.role.Role.{Role}
use Rattle.domain_region.specs.declared.role.Role.TheVariants.{Claims, Configures, Generates, Plain}
use Rattle.domain_region.specs.Region.{word_at}
use Rattle.domain_region.specs.Role.{role_of}
use Rattle.domain_region.proofs.RoleLaws.{claims-only}
use Rattle.domain_sending.specs.Sending.{logged}
use Rattle.domain_sending.proofs.SendingLaws.{logged_none}
use Rattle.wired.specs.Controller.{Out}
use Rattle.wired_laws.proofs.ReadEffects.{read_call-none}
use Rattle.board_block.specs.Block.{Board, with_files, with_wired, block_of, board_sound}
use Rattle.board_block_laws.proofs.BlockBack.{block_back}
use Rattle.board_call.specs.declared.Call.{Call}
use Rattle.board_call.specs.declared.Call.TheVariants.{Reset, Wire, DomainRead, DomainWrite, PageRead}
use Rattle.board_call.specs.declared.Call.TheVariants.{PageWrite, Register, Top, Claim, Signals, Move}
use Rattle.board_call.specs.Change.{kind_of}
use Rattle.board_call.specs.Outcome.{Outcome, Stepped, delivered, step}
use Rattle.board_call.specs.Calls.{tests_rules, row_of}
use Rattle.board_call.specs.Refusal.{refusal_of}
use Rattle.board_call.proofs.RefusalLaws.{passed-state, passed-rules, refused_none}
use Rattle.board_call_laws.proofs.CallTests.{quiet}
use Rattle.board_call_laws.proofs.OutcomeEffects.{outcome-done}
use Rattle.board_call_laws.proofs.StepEffects.{sound-quiet, step-domain_read}
use Rattle.board_call_laws.proofs.FileCallEffects.{step-page_read, step-register, step-top}
use Rattle.board_call_laws.proofs.HartCallEffects.{step-signals}
use Rattle.board_runs.specs.Runs.{Made, made_on, left_by, Lent, after}
use Rattle.board_runs.specs.Ready.{board_in}
use Rattle.board_runs.specs.Reading.{claims_by, only_reads, storing}
use Rattle.board_runs.proofs.RunsEffects.{after-refused}

-- ---- which reads of a domain store

claims-not : (r : Role) → claims_by r ≡ false → (h : ℕ) → r ≢ Claims h
unfolding claims_by
claims-not r f h e = not_same (claims_by r) (ap claims_by e) f

not-claims : (r : Role) → ((h : ℕ) → r ≢ Claims h) → claims_by r ≡ false
unfolding claims_by
not-claims (Claims h) n = absurd (n h refl)
not-claims (Configures i) n = refl
not-claims Generates n = refl
not-claims Plain n = refl

pub reads_word : (d a : ℕ) → ((i : ℕ) → word_at a ≢ Claimi i) → only_reads (DomainRead d a) ≡ true
unfolding only_reads row_of
reads_word d a n = rw (not-claims (role_of (word_at a)) (λ h e. n h (claims-only (word_at a) h e)))

pub word-reads : (d a : ℕ) → only_reads (DomainRead d a) ≡ true → (i : ℕ) → word_at a ≢ Claimi i
unfolding only_reads row_of
word-reads d a r i e =
    let role = role_of (word_at a) in
    claims-not role (not-true (claims_by role) (and_first (not (claims_by role)) true r)) i (ap role_of e)

-- ---- an accepted call

reads-tests : (c : Call) → only_reads c ≡ true → tests_rules c ≡ true
unfolding only_reads row_of
reads-tests Reset r = r
reads-tests (Wire w level) r = refl
reads-tests (DomainRead d a) r = refl
reads-tests (DomainWrite d a v) r = refl
reads-tests (PageRead h f a) r = refl
reads-tests (PageWrite h f a v) r = refl
reads-tests (Register h f k s v) r = refl
reads-tests (Top h f) r = refl
reads-tests (Claim h f) r = refl
reads-tests (Signals h) r = refl
reads-tests (Move oh of nh nf n) r = refl

module _ (b : Board) (sound : board_sound b ≡ true) (u : List ℕ) where
  abbrev Still : Call → Type 0
  Still c = ((step c b u).board ≡ b) × ((step c b u).messages ≡ []) × ((step c b u).saved ≡ u)

  quiet-still : (c : Call) (d : Board) (v : ℕ) → step c b u ≡ quiet d v u → d ≡ b → Still c
  quiet-still c d v e same = (
    ap (λ (y : Stepped). y.board) e ∙ same,
    ap (λ (y : Stepped). y.messages) e,
    ap (λ (y : Stepped). y.saved) e,
  )

  still-domain_read : (d a : ℕ) → ((h : ℕ) → role_of (word_at a) ≢ Claims h) → Still (DomainRead d a)
  unfolding all_reached
  still-domain_read d a none =
      let e = step-domain_read b d a u in
      let silent = read_call-none b.wired (eqb d 1) (word_at a) none (sound-quiet b sound) in (
        ap (λ (y : Stepped). y.board) e
            ∙ ap (λ (o : Out). delivered (with_wired b o.wired) o.messages) silent,
        ap (λ (y : Stepped). y.messages) e ∙ ap (λ (o : Out). o.messages) silent,
        ap (λ (y : Stepped). y.saved) e,
      )

  still-register : (h f k s v : ℕ) → eqb k 0 ≡ true → Still (Register h f k s v)
  unfolding kind_of
  still-register h f k s v z =
      let n = file_number h f in
      let x = the_file b.files n in
      let kept : (accessed identities (is_guest n) x (kind_of k) s v).file ≡ x =
      rw z (accessed-read identities (is_guest n) x s v) in
      quiet-still (Register h f k s v) _ _ (step-register b sound h f x refl k s v _ refl u)
      (ap (with_files b) (ap (with_file b.files n) kept ∙ with_file-the_file b.files n))

  still_read : (c : Call) → only_reads c ≡ true → Still c
  unfolding only_reads row_of
  still_read Reset r = absurd (false≢true r)
  still_read (Wire w level) r = absurd (false≢true r)
  still_read (DomainRead d a) r =
      let role = role_of (word_at a) in
      still-domain_read d a
      (claims-not role (not-true (claims_by role) (and_first (not (claims_by role)) true r)))
  still_read (DomainWrite d a v) r = absurd (false≢true r)
  still_read (PageRead h f a) r = quiet-still (PageRead h f a) b _
      (step-page_read b sound h f _ refl a u) refl
  still_read (PageWrite h f a v) r = absurd (false≢true r)
  still_read (Register h f k s v) r =
      tested (eqb k 0) (still-register h f k s v) (λ n. absurd (false≢true (rw n at r)))
  still_read (Top h f) r = quiet-still (Top h f) b _ (step-top b sound h f _ refl u) refl
  still_read (Claim h f) r = absurd (false≢true r)
  still_read (Signals h) r = quiet-still (Signals h) b _ (step-signals b sound h u) refl
  still_read (Move oh of nh nf n) r = absurd (false≢true r)

-- ---- any call, and any run

lent-path : {x y : Lent} → x.block ≡ y.block → x.log ≡ y.log → x.saved ≡ y.saved → x ≡ y
lent-path a b c = λ k. record { block = a k; log = b k; saved = c k }

pub after_read : (c : Call) (x : Lent) → only_reads c ≡ true → after c x ≡ x
unfolding after
after_read c x r = at (ℕ_discrete (refusal_of c x.block x.log) 0)
  where
    at : Dec (refusal_of c x.block x.log ≡ 0) → after c x ≡ x
    at (no n) = after-refused c x n
    at (yes e) =
        let passed = (refused_none (row_of c).tests x.block x.log e).0 in
        let sound = passed-rules (tests_rules c) x.block x.log passed (reads-tests c r) in
        let still = still_read (board_in x) sound x.saved c r in
        let done = outcome-done c x.block x.log x.saved e in
        lent-path
        (ap (λ (o : Outcome). o.block) done ∙ ap block_of still.0
        ∙ block_back x.block (passed-state (tests_rules c) x.block x.log passed))
        (ap (λ (o : Outcome). o.log) done ∙ ap (logged x.log) still.1 ∙ logged_none x.log)
        (ap (λ (o : Outcome). o.saved) done ∙ still.2)

-- a call that is made, with the log and the saved numbers that it brings
made-read : (m : Made) (l : List ℕ) → only_reads m.call ≡ true → (made_on m l).block ≡ l
unfolding after
made-read m l r =
    let x : Lent = record { block = l; log = m.log; saved = m.saved } in
    ap (λ (y : Lent). y.block) (after_read m.call x r)

-- what a run leaves it leaves without its reads
pub left-storing : (ms : List Made) (l : List ℕ) → left_by ms l ≡ left_by (storing ms) l
unfolding left_by storing
left-storing [] l = refl
left-storing (m ∷ ms) l =
    tested (only_reads m.call) (λ t. rw t (ap (left_by ms) (made-read m l t) ∙ left-storing ms l))
    (λ f. rw f (left-storing ms (made_on m l).block))
