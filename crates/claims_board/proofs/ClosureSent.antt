-- Claims 151 and 154, by the laws of the pass of messages and of the calls. Assumes nothing.
use Prim.Native.Nat.{ℕ, zero, suc, ◌+◌, ◌≤◌, ◌<◌}
use mathlib.Core.Path.{◌≡◌, refl, sym, ap, subst, ◌∙◌}
use mathlib.Core.Bool.{Bool, true, false, not, ◌&&◌, true≢false, and-true, false≢true}
use mathlib.Core.List.{List, [], ◌∷◌, map, ◌++◌}
use mathlib.Core.Logic.{⊎_elim}
use native.Mathlib.Decide.{ℕ_discrete}
use native.Mathlib.Omega.{arith}
use lib.Dec.{eqb}
use borrow.Author.Tests.{eq-eqb}
use Rattle.words.proofs.TestsLaws.{tested, and_first, and_second, or_cases, or_left, or_right}
use Rattle.file_message.specs.Message.{log_word, file_in}
use Rattle.files_laws.specs.Messages.{any_of}
use Rattle.source_target.specs.Target.{message_of}
use Rattle.source_target.proofs.TargetLaws.{hart_of-lt, guest_of-lt, number_of-lt}
use Rattle.source.specs.declared.Source.{Source}
use Rattle.domain_region.specs.declared.Word.{Word}
use Rattle.domain_region.specs.declared.role.Role.{Role}
use Rattle.domain_region.specs.declared.role.Role.TheVariants.{Claims, Configures, Generates, Plain}
use Rattle.domain_region.specs.Role.{role_of}
use Rattle.domain_region.specs.Region.{word_at}
use Rattle.domain.specs.Domain.{Domain, is_enabled, by_messages}
use Rattle.domain.specs.Slot.{source_at}
use Rattle.domain_sending.specs.Sending.{sent, Sent, candidate}
use Rattle.domain_sending.proofs.SendingLaws.{sent-off}
use Rattle.domain_genmsi.specs.Genmsi.{genmsi_message, genmsi_sent}
use Rattle.domain_sending_laws.specs.Candidates.{candidates, message_at, numbers_from, those_with}
use Rattle.domain_sending_laws.specs.Candidates.{DomainPendingOnly}
use Rattle.domain_sending_laws.proofs.SendingEffects.{sent-messages, sent-rest, sent-source, spent-pending}
use Rattle.domain_sending_laws.proofs.MessageEffects.{Every, every-none, every_one, every_append}
use Rattle.domain_sending_laws.proofs.MessageEffects.{message-names, genmsi-names}
use Rattle.wired_state.specs.Wires.{Wired, domain_in}
use Rattle.wired_rules_laws.specs.Steady.{WiredQuiet}
use Rattle.wired_rules_laws.proofs.WiredQuietEffects.{quiet-claimed_in}
use Rattle.wired.specs.Controller.{flushed, genmsi_as, genmsi_by}
use Rattle.board_block.specs.Block.{Board}
use Rattle.board_block.specs.Start.{start_board}
use Rattle.board_block_laws.proofs.StartEffects.{start-sound}
use Rattle.board_call.specs.declared.Call.{Call}
use Rattle.board_call.specs.declared.Call.TheVariants.{Reset, Wire, DomainRead, DomainWrite, PageRead}
use Rattle.board_call.specs.declared.Call.TheVariants.{PageWrite, Register, Top, Claim, Signals, Move}
use Rattle.board_call.specs.Numbers.{is_move}
use Rattle.board_call.specs.Calls.{present, row_of}
use Rattle.board_call.proofs.RefusalLaws.{accepted-present}
use Rattle.board_call.specs.Change.{change}
use Rattle.board_call.specs.Outcome.{Stepped, then_sent, step}
use Rattle.board_call_laws.specs.Fit.{Fit}
use Rattle.board_call_laws.proofs.StepEffects.{sound-quiet, settled-quiet}
use Rattle.board_move_laws.proofs.MoveEffects.{step_move}
use Rattle.claims_board.specs.Closure.{may_send, Claim-154, Claim-151}

-- ---- a message of a list

module _ (p : ℕ → Bool) where
  any_left : (us vs : List ℕ) → any_of p us ≡ true → any_of p (us ++ vs) ≡ true
  unfolding any_of
  any_left [] vs e = absurd (false≢true e)
  any_left (m ∷ us) vs e =
      ⊎_elim (λ q. or_left (p m) (any_of p (us ++ vs)) q)
      (λ q. or_right (p m) (any_of p (us ++ vs)) (any_left us vs q)) (or_cases (p m) (any_of p us) e)

  any-right : (us vs : List ℕ) → any_of p vs ≡ true → any_of p (us ++ vs) ≡ true
  unfolding any_of
  any-right [] vs e = e
  any-right (m ∷ us) vs e = or_right (p m) (any_of p (us ++ vs)) (any-right us vs e)

-- the number i of a stretch is among those that a test holds of, and so its message is among theirs
module _ (p : ℕ → Bool) (g : ℕ → ℕ) (i : ℕ) (holds : p i ≡ true) where
  any-those : (a n : ℕ) → a ≤ i → i < a + n
      → any_of (eqb (g i)) (map g (those_with p (numbers_from a n))) ≡ true
  unfolding numbers_from
  any-those a zero l h = absurd (omega arith)
  any-those a (suc n) l h = at (ℕ_discrete a i) (λ q. any-those (suc a) n q (omega arith))
    where
      at : Dec (a ≡ i)
          → (suc a ≤ i → any_of (eqb (g i)) (map g (those_with p (numbers_from (suc a) n))) ≡ true)
          → any_of (eqb (g i)) (map g (those_with p (a ∷ numbers_from (suc a) n))) ≡ true
      at (yes e) later =
          unfold those_with any_of in
          rw (ap p e ∙ holds) (or_left (eqb (g i) (g a)) _
          (eq-eqb (g i) (g a) (ap g (sym e))))
      at (no n) later =
          unfold those_with any_of in
          tested (p a)
          (λ t. rw t (or_right (eqb (g i) (g a)) _ (later (omega (arith, n)))))
          (λ f. rw f (later (omega (arith, n))))

-- ---- the pass of a domain

module _ (c : Bool) (d : Domain) (i : ℕ) (l : 1 ≤ i) (h : i ≤ 63) where
  abbrev here : Source
  here = source_at d i

  abbrev goes : Bool
  goes = is_enabled d && by_messages d && candidate here

  pending-sent : (source_at (sent c d).domain i).pending ≡ (here.pending && not goes)
  pending-sent =
      tested (is_enabled d && by_messages d)
      (λ t. ap (λ (y : Source). y.pending) (sent-source c d t i l (omega arith)) ∙ spent-pending here
      ∙ simp t)
      (λ f. ap (λ (y : Sent). (source_at y.domain i).pending) (sent-off c d f) ∙ simp (f, and-true))

  message-sent : goes ≡ true → any_of (eqb (message_at c d i)) (sent c d).messages ≡ true
  unfolding candidates
  message-sent t =
      rw (sent-messages c d (and_first (is_enabled d && by_messages d) (candidate here) t))
      (any-those (λ (j : ℕ). candidate (source_at d j)) (message_at c d) i
      (and_second (is_enabled d && by_messages d) (candidate here) t) 1 63 l (omega arith))

-- ---- of both domains

flushed-domain : (w : Wired) (c : Bool) → domain_in (flushed w).wired c ≡ (sent c (domain_in w c)).domain
unfolding flushed domain_in
flushed-domain w true = refl
flushed-domain w false = refl

flushed-any : (w : Wired) (c : Bool) (p : ℕ → Bool) → any_of p (sent c (domain_in w c)).messages ≡ true
    → any_of p (flushed w).messages ≡ true
unfolding flushed domain_in
flushed-any w true p e = any-right p (sent false w.machine).messages (sent true w.child).messages e
flushed-any w false p e = any_left p (sent false w.machine).messages (sent true w.child).messages e

pub claim-151 : Claim-151
unfolding Claim-151 step then_sent candidate message_of log_word
claim-151 call b s = let w = (change call b s).board.wired in (
  unfold flushed in refl,
  λ c.
      let rest = subst (DomainPendingOnly (domain_in w c)) (sym (flushed-domain w c))
      (sent-rest c (domain_in w c)) in (
        rest.source,
        rest.target,
        rest.enable,
        rest.delivery,
        λ i l h. (
          ap (λ (d : Domain). (source_at d i).pending) (flushed-domain w c)
              ∙ pending-sent c (domain_in w c) i l h,
          λ t. any-right _ (change call b s).own (flushed w).messages
              (flushed-any w c _ (message-sent c (domain_in w c) i l h t)),
        ),
      ),
)

-- ---- what sends nothing

module _ (b : Board) (fit : Fit b) (s : List ℕ) where
  -- the step leaves what the change left, and sends nothing
  abbrev pub Silent : Call → Type 0
  Silent c = ((step c b s).messages ≡ []) × ((step c b s).board ≡ (change c b s).board)

  -- nothing is sent at once, and nothing is to be sent
  silent : (c : Call) → WiredQuiet (change c b s).board.wired → (change c b s).own ≡ [] → Silent c
  unfolding step
  silent c q none =
      let e = settled-quiet (change c b s) q none in
      (ap (λ (y : Stepped). y.messages) e, ap (λ (y : Stepped). y.board) e)

  abbrev quiet : WiredQuiet b.wired
  quiet = sound-quiet b fit.sound

  pub silent-step : (c : Call) → present c b ≡ true → may_send c ≡ false → Silent c
  unfolding row_of
  silent-step Reset n q = unfold change in silent Reset (sound-quiet start_board start-sound) refl
  silent-step (Wire i level) n q = absurd (true≢false q)
  silent-step (DomainRead d a) n q =
      unfold change in silent (DomainRead d a) (quiet-claimed_in b.wired quiet (eqb d 1) (word_at a)) refl
  silent-step (DomainWrite d a v) n q = absurd (true≢false q)
  silent-step (PageRead h f a) n q = unfold change in silent (PageRead h f a) quiet refl
  silent-step (PageWrite h f a v) n q = unfold change in silent (PageWrite h f a v) quiet refl
  silent-step (Register h f kind x v) n q = unfold change in silent (Register h f kind x v) quiet refl
  silent-step (Top h f) n q = unfold change in silent (Top h f) quiet refl
  silent-step (Claim h f) n q = unfold change in silent (Claim h f) quiet refl
  silent-step (Signals h) n q = unfold change in silent (Signals h) quiet refl
  silent-step (Move oh of nh nf k) n q =
      unfold change in
      let e = step_move b fit oh of nh nf k
      (and_first (is_move oh of nh nf k) (by_messages b.wired.child) n) s in
      (ap (λ (y : Stepped). y.messages) e, ap (λ (y : Stepped). y.board) e)

pub claim-154 : Claim-154
unfolding Claim-154
claim-154 b fit c e q s = silent-step b fit s c (accepted-present (row_of c).tests b e) q

-- ---- the messages of a call

-- a log word of a hart and a file that there are
abbrev pub Addressed : ℕ → Type 0
Addressed m = (m < 8192) × (file_in m < 5)

module _ (c : Bool) (t : ℕ) where
  message-addressed : Addressed (message_of c t)
  unfolding message_of log_word
  message-addressed = (
    tested c (λ y. rw y (omega (arith, hart_of-lt t, guest_of-lt t, number_of-lt t)))
        (λ n. rw n (omega (arith, hart_of-lt t, number_of-lt t))),
    (message-names c t).exists,
  )

  genmsi-addressed : Addressed (genmsi_message c t)
  unfolding genmsi_message log_word
  genmsi-addressed = (
    tested c (λ y. rw y (omega (arith, hart_of-lt t, number_of-lt t)))
        (λ n. rw n (omega (arith, hart_of-lt t, number_of-lt t))),
    (genmsi-names c t).exists,
  )

all_map : (P : ℕ → Type 0) (g : ℕ → ℕ) (l : List ℕ) → ((i : ℕ) → P (g i)) → Every P (map g l)
all_map P g [] p = every-none P
all_map P g (i ∷ l) p = every_append P (g i ∷ []) (map g l) (every_one P (g i) (p i)) (all_map P g l p)

sent-addressed : (c : Bool) (d : Domain) → Every Addressed (sent c d).messages
sent-addressed c d =
    tested (is_enabled d && by_messages d)
    (λ t. rw (sent-messages c d t)
    (all_map Addressed (message_at c d) (candidates d) (λ i. message-addressed c (source_at d i).target)))
    (λ f. rw (sent-off c d f) (every-none Addressed))

flushed-addressed : (w : Wired) → Every Addressed (flushed w).messages
unfolding flushed
flushed-addressed w =
    every_append Addressed (sent false w.machine).messages (sent true w.child).messages
    (sent-addressed false w.machine) (sent-addressed true w.child)

pub genmsi_by-addressed : (c : Bool) (d : Domain) (r : Word) (v : ℕ) → Every Addressed (genmsi_by c d r v)
unfolding genmsi_by
genmsi_by-addressed c d r v = at (role_of r)
  where
    one : Every Addressed (genmsi_sent c d v)
    one =
        unfold genmsi_sent in
        tested (by_messages d) (λ t. rw t (every_one Addressed _ (genmsi-addressed c v)))
        (λ f. rw f (every-none Addressed))

    at : (x : Role) → Every Addressed (genmsi_as c d v x)
    at (Claims h) = unfold genmsi_as in every-none Addressed
    at (Configures i) = unfold genmsi_as in every-none Addressed
    at Generates = unfold genmsi_as in one
    at Plain = unfold genmsi_as in every-none Addressed

pub step-addressed : (c : Call) (b : Board) (s : List ℕ) → Every Addressed (change c b s).own
    → Every Addressed (step c b s).messages
unfolding step then_sent
step-addressed c b s own =
    let w = (change c b s).board.wired in
    every_append Addressed (change c b s).own (flushed w).messages own (flushed-addressed w)
