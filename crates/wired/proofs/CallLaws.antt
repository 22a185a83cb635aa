-- What is to be sent after each change of a controller that keeps the rules: nothing by one domain at least.
-- No contract cites this file. Assumes nothing.
use Prim.Native.Nat.{ℕ, ◌≤◌, ◌<◌}
use mathlib.Core.Path.{◌≡◌, refl, sym, ap, subst, ◌∙◌}
use mathlib.Core.Bool.{Bool, true, false}
use mathlib.Core.List.{List, [], ◌++◌}
use mathlib.Core.Logic.{◌⊎◌, inl, inr}
use lib.ListN.{length, take, drop}
use Rattle.domain_region.specs.Region.{Within}
use Rattle.domain_region.specs.declared.Word.{Word}
use Rattle.domain_region.specs.declared.Word.TheVariants.{Genmsi}
use Rattle.domain_laws.specs.Shape.{DomainShaped}
use Rattle.domain_laws.proofs.SlotEffects.{domain_of-shaped}
use Rattle.wired_state.specs.Wires.{Wired, wired_of, wire_set}
use Rattle.wired_registers.specs.Wired.{written_in, claimed_in}
use Rattle.wired_state.proofs.WiresLaws.{machine-part, child-part, machine-long, child-long, wires-read}
use Rattle.wired_state.proofs.WiresLaws.{domain-machine, domain-child}
use Rattle.wired_state.proofs.PassLaws.{both_sent, flushed-both}
use Rattle.wired_rules.specs.Rules.{wired_sound}
use Rattle.domain_sending.specs.Sending.{Sent}
use Rattle.wired_rules_laws.specs.Steady.{Quiet, WiredSteady, WiredQuiet}
use Rattle.wired_rules_laws.proofs.SoundParts.{wired-sound-steady, wired-sound-quiet}
use Rattle.wired_rules_laws.proofs.PassEffects.{sent-again}
use Rattle.wired_rules_laws.proofs.WiredQuietEffects.{wire_set-one, quiet-claimed_in, quiet-written_in-genmsi}
use Rattle.wired_rules_laws.proofs.WiredQuietEffects.{quiet-other}
use Rattle.wired.specs.Controller.{flushed, read_call, OneSends}
use Rattle.sizes.specs.Sizes.{child_place, domain_size, wired_size}

-- 290 words that keep the rules
module _ (l : List ℕ) (long : length l ≡ wired_size) (sound : wired_sound (wired_of l) ≡ true) where
  pub words-steady : WiredSteady (wired_of l)
  words-steady =
      wired-sound-steady (wired_of l) sound (ap length (sym (wires-read l long)))
      (subst DomainShaped (machine-part l long)
      (domain_of-shaped (take domain_size (drop 2 l)) (machine-long l long)))
      (subst DomainShaped (child-part l long)
      (domain_of-shaped (take domain_size (drop child_place l)) (child-long l long)))

  pub words-quiet : WiredQuiet (wired_of l)
  words-quiet = wired-sound-quiet (wired_of l) sound

-- a controller of which both domains have sent all
pub flushed-quiet : (w : Wired) → WiredQuiet w → flushed w ≡ record { wired = w; messages = [] }
flushed-quiet w q =
    let a = sent-again false w.machine q.machine in
    let b = sent-again true w.child q.child in
    let silent : both_sent w ≡ record { wired = w; messages = [] } = λ k. record {
      wired = record { wires = w.wires; machine = (a k).domain; child = (b k).domain };
      messages = (a k).messages ++ (b k).messages;
    } in
    flushed-both w ∙ silent

-- ---- one domain at most sends

silent-machine : (w : Wired) → Quiet w.machine → OneSends w
silent-machine w q = inl (ap (λ (x : Sent). x.messages) (sent-again false w.machine q))

silent-child : (w : Wired) → Quiet w.child → OneSends w
silent-child w q = inr (sent-again true w.child q)

module _ (w : Wired) (s : WiredSteady w) (q : WiredQuiet w) where
  pub one-wire_set : (i : ℕ) → 1 ≤ i → i < 64 → (level : Bool) → OneSends (wire_set w i level)
  one-wire_set i l h level = at (wire_set-one w i level s l h)
    where
      at : ((wire_set w i level).machine ≡ w.machine) ⊎ ((wire_set w i level).child ≡ w.child)
          → OneSends (wire_set w i level)
      at (inl e) = silent-machine (wire_set w i level) (subst Quiet (sym e) q.machine)
      at (inr e) = silent-child (wire_set w i level) (subst Quiet (sym e) q.child)

  pub one-written_in : (c : Bool) (r : Word) → Within r → (v : ℕ) → OneSends (written_in w c r v)
  one-written_in true r b v =
      let after = written_in w true r v in
      silent-machine after (subst Quiet (domain-machine after false refl) (quiet-other w q s true r b v))
  one-written_in false r b v =
      let after = written_in w false r v in
      silent-child after (subst Quiet (domain-child after true refl) (quiet-other w q s false r b v))

-- ---- a read, and a write to genmsi

module _ (w : Wired) (s : WiredSteady w) (q : WiredQuiet w) where
  pub read-silent : (c : Bool) (r : Word) → read_call w c r
      ≡ record { wired = claimed_in w c r; messages = [] }
  unfolding read_call
  read-silent c r = flushed-quiet (claimed_in w c r) (quiet-claimed_in w q c r)

  pub genmsi-silent : (c : Bool) (r : Word) → r ≡ Genmsi → (v : ℕ)
      → flushed (written_in w c r v) ≡ record { wired = written_in w c r v; messages = [] }
  genmsi-silent c r e v =
      flushed-quiet (written_in w c r v)
      (subst (λ (x : Word). WiredQuiet (written_in w c x v)) (sym e) (quiet-written_in-genmsi w q s c v))
