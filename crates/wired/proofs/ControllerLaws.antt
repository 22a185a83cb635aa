-- Laws of specs/Controller.antt: the pass over both domains, of which one at most sends. No contract cites
-- this file. Assumes nothing.
use Prim.Native.Nat.{ℕ}
use mathlib.Core.Path.{◌≡◌, refl, sym, ap, ap₂, subst, ◌∙◌}
use mathlib.Core.Bool.{Bool, true, false}
use mathlib.Core.List.{List, [], ◌∷◌, ◌++◌, append-nil}
use mathlib.Core.Logic.{◌≢◌, inl, inr}
use native.Mathlib.Omega.{arith}
use lib.ListN.{length}
use Rattle.domain.specs.Domain.{Domain}
use Rattle.wired_state.specs.Wires.{Wired, domain_in}
use Rattle.wired_registers.specs.Wired.{written_in}
use Rattle.wired_state.proofs.WiresLaws.{wired-path}
use Rattle.wired_state.proofs.PassLaws.{flushed-both}
use Rattle.domain_sending.specs.Sending.{Sent, sent, sent_nothing, logged}
use Rattle.domain_sending.proofs.SendingLaws.{logged_none}
use Rattle.domain_genmsi.specs.Genmsi.{genmsi_sent}
use Rattle.domain_region.specs.declared.Word.{Word}
use Rattle.domain_region.specs.declared.Word.TheVariants.{Genmsi}
use Rattle.domain_region.specs.declared.role.Role.{Role}
use Rattle.domain_region.specs.declared.role.Role.TheVariants.{Claims, Configures, Generates, Plain}
use Rattle.domain_region.specs.Role.{role_of}
use Rattle.domain_region.proofs.RoleLaws.{generates-only}
use Rattle.wired.specs.Controller.{Out, flushed, OneSends, Leaves, genmsi_as, genmsi_by}
use Rattle.wired.specs.Controller.{write_call}

-- what a call leaves and answers, from what it is to send
abbrev pub Answers : Domain → List ℕ → List ℕ → ℕ → Sent → Type 0
Answers d l l' n s = (d ≡ s.domain) × (l' ≡ logged l s.messages) × (n ≡ length s.messages)

-- the same of an equal domain
pub answers_of : (c : Bool) (l : List ℕ) {d : Domain} {l' : List ℕ} {n : ℕ} {r s : Domain} → r ≡ s
    → Answers d l l' n (sent c r) → Answers d l l' n (sent c s)
answers_of c l {d = d} {l' = l'} {n = n} e = subst (λ (x : Domain). Answers d l l' n (sent c x)) e

pub leaves_of : {o p : Out} → o ≡ p → (w : Wired) (l l' : List ℕ) (n : ℕ) → Leaves o w l l' n
    → Leaves p w l l' n
leaves_of e w l l' n = subst (λ (x : Out). Leaves x w l l' n) e

no_length : (l : List ℕ) → length l ≡ 0 → l ≡ []
no_length [] e = refl
no_length (x ∷ l) e = absurd (omega arith)

module _ (w : Wired) where
  -- the second domain has nothing to send where the first has sent
  second-silent : OneSends w → (n : ℕ) → n ≢ 0 → n ≡ length (sent false w.machine).messages
      → sent true w.child ≡ sent_nothing w.child
  second-silent (inl none) n h e = absurd (h (e ∙ ap length none))
  second-silent (inr none) n h e = none

  pub answered-first : (d : Domain) (l l' : List ℕ) (n : ℕ) → Answers d l l' n (sent false w.machine)
      → OneSends w → n ≢ 0
      → Leaves (flushed w) (record { wires = w.wires; machine = d; child = w.child }) l l' n
  answered-first d l l' n (a, b, k) one h =
      let silent = second-silent one n h k in
      let alone : ((sent false w.machine).messages ++ (sent true w.child).messages)
      ≡ (sent false w.machine).messages =
      ap (λ (s : Sent). (sent false w.machine).messages ++ s.messages) silent ∙ append-nil _ in
      leaves_of (sym (flushed-both w)) _ l l' n (
        wired-path refl a (sym (ap (λ (s : Sent). s.domain) silent)),
        b ∙ ap (logged l) (sym alone),
        k ∙ ap length (sym alone),
      )

  pub answered-second : (d e : Domain) (l k l' : List ℕ) (m n : ℕ) → Answers d l k m (sent false w.machine)
      → m ≡ 0 → Answers e k l' n (sent true w.child)
      → Leaves (flushed w) (record { wires = w.wires; machine = d; child = e }) l l' n
  answered-second d e l k l' m n (a, b, c) z (p, q, r) =
      let none = no_length (sent false w.machine).messages (sym c ∙ z) in
      let alone : ((sent false w.machine).messages ++ (sent true w.child).messages)
      ≡ (sent true w.child).messages =
      ap (λ (x : List ℕ). x ++ (sent true w.child).messages) none in
      let same : k ≡ l = b ∙ ap (logged l) none ∙ logged_none l in
      leaves_of (sym (flushed-both w)) _ l l' n (
        wired-path refl a p,
        q ∙ ap (λ (x : List ℕ). logged x (sent true w.child).messages) same ∙ ap (logged l) (sym alone),
        r ∙ ap length (sym alone),
      )

-- ---- the message of a genmsi

module _ (c : Bool) (d : Domain) (r : Word) (v : ℕ) where
  abbrev Logs : List ℕ → List ℕ → ℕ → Type 0
  Logs l l' n = (l' ≡ logged l (genmsi_by c d r v)) × (n ≡ length (genmsi_by c d r v))

  genmsi_by-generates : role_of r ≡ Generates → genmsi_by c d r v ≡ genmsi_sent c d v
  unfolding genmsi_by genmsi_as
  genmsi_by-generates e = ap (genmsi_as c d v) e

  pub genmsi-else : role_of r ≢ Generates → genmsi_by c d r v ≡ []
  unfolding genmsi_by genmsi_as
  genmsi-else n = at (role_of r) n
    where
      at : (x : Role) → x ≢ Generates → genmsi_as c d v x ≡ []
      at (Claims h) n = refl
      at (Configures i) n = refl
      at Generates n = absurd (n refl)
      at Plain n = refl

  -- either case, with what tells it
  pub genmsi-cases : (P : List ℕ → Type 0) → (role_of r ≡ Generates → P (genmsi_sent c d v))
      → P [] → P (genmsi_by c d r v)
  unfolding genmsi_by genmsi_as
  genmsi-cases P sends none = at (role_of r) refl
    where
      at : (x : Role) → role_of r ≡ x → P (genmsi_as c d v x)
      at (Claims h) e = none
      at (Configures i) e = none
      at Generates e = sends e
      at Plain e = none

  pub answered-else : role_of r ≢ Generates → (l : List ℕ) → Logs l l 0
  answered-else e l =
      let none = genmsi-else e in (sym (logged_none l) ∙ ap (logged l) (sym none), ap length (sym none))

  pub answered-genmsi : role_of r ≡ Generates → (b : Bool) → c ≡ b → (e : Domain) → e ≡ d
      → (l l' : List ℕ) (n : ℕ)
      → (l' ≡ logged l (genmsi_sent b e v)) × (n ≡ length (genmsi_sent b e v)) → Logs l l' n
  answered-genmsi g b p e q l l' n (x, y) =
      let same : genmsi_sent b e v ≡ genmsi_by c d r v =
      ap₂ (λ (x : Bool) (y : Domain). genmsi_sent x y v) (sym p) q ∙ sym (genmsi_by-generates g) in
      (x ∙ ap (logged l) same, y ∙ ap length same)

-- ---- a change and the pass after it

module _ (w : Wired) (c : Bool) (r : Word) (v : ℕ) where
  abbrev own : List ℕ
  own = genmsi_by c (domain_in w c) r v

  -- a write that sent at once, with nothing to be sent after it
  pub write_alone : (w' : Wired) → w' ≡ written_in w c r v
      → flushed (written_in w c r v) ≡ record { wired = written_in w c r v; messages = [] }
      → (l l' : List ℕ) (n : ℕ) → (l' ≡ logged l own) × (n ≡ length own)
      → Leaves (write_call w c r v) w' l l' n
  unfolding write_call
  write_alone w' e silent l l' n (x, y) =
      let alone : (own ++ (flushed (written_in w c r v)).messages) ≡ own =
      ap (λ (o : Out). own ++ o.messages) silent ∙ append-nil own in
      (e ∙ sym (ap (λ (o : Out). o.wired) silent), x ∙ ap (logged l) (sym alone), y ∙ ap length (sym alone))

  -- a write that sent nothing at once, and the pass after it
  pub write-passed : (w' : Wired) (l k l' : List ℕ) (m n : ℕ) → (k ≡ logged l own) × (m ≡ length own) → m ≡ 0
      → Leaves (flushed (written_in w c r v)) w' k l' n → Leaves (write_call w c r v) w' l l' n
  unfolding write_call
  write-passed w' l k l' m n (x, y) z (a, b, d) =
      let none = no_length own (sym y ∙ z) in
      let after = (flushed (written_in w c r v)).messages in
      let alone : (own ++ after) ≡ after = ap (λ (u : List ℕ). u ++ after) none in
      let same : k ≡ l = x ∙ ap (logged l) none ∙ logged_none l in
      (a, b ∙ ap (λ (u : List ℕ). logged u after) same ∙ ap (logged l) (sym alone), d ∙ ap length (sym alone))

  -- what was sent at once was sent by genmsi
  pub own-genmsi : (n : ℕ) → n ≡ length own → n ≢ 0 → r ≡ Genmsi
  own-genmsi n e h =
      genmsi-cases c (domain_in w c) r v (λ (l : List ℕ). n ≡ length l → r ≡ Genmsi)
      (λ t _. generates-only r t) (λ z. absurd (h z)) e
