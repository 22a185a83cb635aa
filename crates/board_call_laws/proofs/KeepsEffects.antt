-- An accepted call on a board that is fit leaves one that is, and sends 63 messages at most, kind by kind; an
-- access of a move is elsewhere. No contract cites this file. Assumes nothing.
use Prim.Native.Nat.{ℕ, ◌^◌, ◌≤◌, ◌<◌}
use mathlib.Core.Path.{◌≡◌, sym, ap, subst}
use mathlib.Core.Bool.{true}
use mathlib.Core.List.{List}
use native.Mathlib.Omega.{arith}
use lib.Dec.{eqb}
use lib.ListN.{length}
use Rattle.sizes.specs.Sizes.{identities, file_count}
use Rattle.file.specs.declared.File.{File}
use Rattle.file.specs.Page.{page_written}
use Rattle.file.specs.Register.{accessed}
use Rattle.file.specs.Shape.{Shaped}
use Rattle.file.specs.Top.{claimed}
use Rattle.file_laws.proofs.Keeps.{Rules, page-shaped, page-rules, claimed-shaped, claimed-rules}
use Rattle.file_laws.proofs.Keeps.{accessed-shaped, accessed-rules}
use Rattle.files.specs.Files.{file_number, is_guest, the_file}
use Rattle.domain_region.specs.Region.{word_at}
use Rattle.domain_region.proofs.RegionLaws.{word-within}
use Rattle.wired_state.specs.Wires.{Wired}
use Rattle.wired_rules_laws.specs.Steady.{WiredSteady}
use Rattle.wired_rules_laws.proofs.WiredEffects.{steady-wire_set, steady-claimed_in}
use Rattle.wired_rules_laws.proofs.DelegationEffects.{steady-written_in}
use Rattle.wired_rules.specs.Rules.{wired_sound}
use Rattle.wired.specs.Controller.{Out, flushed, wire_call, read_call, write_call}
use Rattle.wired_laws.proofs.OutEffects.{wire-sound, read-sound, write-sound, wire-count, write-count}
use Rattle.wired.proofs.CallLaws.{read-silent}
use Rattle.board_block.specs.Block.{Board}
use Rattle.board_call.specs.declared.Call.TheVariants as call
use Rattle.board_call.specs.Change.{kind_of, on_file, answering, change}
use Rattle.board_call.specs.Numbers.{is_wire, is_file}
use Rattle.board_call.specs.Outcome.{Stepped, then_sent, step}
use Rattle.board_call_laws.specs.Fit.{Fit, SavedFit, Kept}
use Rattle.board_call_laws.proofs.StepEffects.{sound-quiet, wired_step, step-wire, step-domain_read}
use Rattle.board_call_laws.proofs.StepEffects.{step-domain_write, step-on_file, step-answering}
use Rattle.board_call_laws.proofs.StepEffects.{step-reset}
use Rattle.board_call_laws.proofs.FileCallEffects.{number_read, number_lt}
use Rattle.board_call_laws.proofs.WiredCallEffects.{wire-low, wire-high}
use Rattle.board_call_laws.proofs.FitEffects.{fit-start, fit-steady, fit-rules, fit-with_file}
use Rattle.board_call_laws.proofs.FitEffects.{fit-flushed}

pub kept_of : {x y : Stepped} → x ≡ y → Kept y → Kept x
kept_of e = subst Kept (sym e)

module _ (b : Board) (fit : Fit b) (s : List ℕ) (small : SavedFit s) where
  pub kept-reset : Kept (step call.Reset b s)
  kept-reset = kept_of (step-reset b s) record { fit = fit-start; few = omega arith; saved = small }

  -- ---- a call that changes nothing, or one file

  pub kept-answering : (v : ℕ) → Kept (then_sent (answering b v s))
  kept-answering v =
      kept_of (step-answering b fit.sound v s) record { fit = fit; few = omega arith; saved = small }

  kept-on_file : (k : ℕ) (f : File) (v : ℕ) → Shaped f → Rules identities (is_guest k) f
      → Kept (then_sent (on_file b k f v s))
  kept-on_file k f v shaped rules =
      kept_of (step-on_file b fit.sound k f v s)
      record { fit = fit-with_file b fit k f shaped rules; few = omega arith; saved = small }

  module _ (h f : ℕ) (there : is_file h f ≡ true) where
    abbrev k : ℕ
    k = file_number h f

    abbrev x : File
    x = the_file b.files k

    below : k < file_count
    below = omega (arith, number_read h f, number_lt h f there)

    pub kept-page_write : (a v : ℕ) → Kept (step (call.PageWrite h f a v) b s)
    unfolding step change
    kept-page_write a v =
        kept-on_file k (page_written identities x a v) 0
        (page-shaped identities x a v (fit.files k below))
        (page-rules identities x a v (is_guest k) (fit-rules b fit k below))

    pub kept-claim : Kept (step (call.Claim h f) b s)
    unfolding step change
    kept-claim =
        kept-on_file k (claimed identities x) _ (claimed-shaped identities x (fit.files k below))
        (claimed-rules identities x (is_guest k) (fit-rules b fit k below))

    pub kept_register : (kind r v : ℕ) → v < 2 ^ 64 → Kept (step (call.Register h f kind r v) b s)
    unfolding step change
    kept_register kind r v fits =
        let here = fit.files k below in
        kept-on_file k (accessed identities (is_guest k) x (kind_of kind) r v).file _
        (accessed-shaped identities (is_guest k) x v (omega arith) fits here (kind_of kind) r)
        (accessed-rules identities (is_guest k) x v (omega arith) fits here (kind_of kind) r
        (fit-rules b fit k below))

  -- ---- a call on the wired controller

  abbrev steady : WiredSteady b.wired
  steady = fit-steady b fit

  -- w is what the call made of the controller before anything was sent
  kept-wired : (w : Wired) → WiredSteady w → (ms : List ℕ) (v : ℕ) → wired_sound (flushed w).wired ≡ true
      → length ms ≤ 63 → Kept (wired_step b (record { wired = (flushed w).wired; messages = ms }) v s)
  kept-wired w t ms v sound n =
      record { fit = fit-flushed b fit w t ms sound; few = n; saved = small }

  pub kept-wire : (i level : ℕ) → is_wire i level ≡ true → Kept (step (call.Wire i level) b s)
  unfolding wire_call
  kept-wire i level there =
      let low = wire-low i level there in
      let high = wire-high i level there in
      kept_of (step-wire b i level s)
      (kept-wired _ (steady-wire_set b.wired steady i low high (eqb level 1)) _ 0
      (wire-sound b.wired steady i low high (eqb level 1))
      (wire-count b.wired steady (sound-quiet b fit.sound) i low high (eqb level 1)))

  pub kept-domain_read : (d a : ℕ) → Kept (step (call.DomainRead d a) b s)
  unfolding read_call
  kept-domain_read d a =
      let c = eqb d 1 in
      let silent = read-silent b.wired steady (sound-quiet b fit.sound) c (word_at a) in
      kept_of (step-domain_read b d a s)
      (kept-wired _ (steady-claimed_in b.wired steady c (word_at a)) _ _
      (read-sound b.wired steady c (word_at a))
      (omega (arith, ap (λ (o : Out). length o.messages) silent)))

  pub kept-domain_write : (d a v : ℕ) → Kept (step (call.DomainWrite d a v) b s)
  unfolding write_call
  kept-domain_write d a v =
      let c = eqb d 1 in
      kept_of (step-domain_write b d a v s)
      (kept-wired _ (steady-written_in b.wired steady c (word_at a) (word-within a) v) _ 0
      (write-sound b.wired steady c (word_at a) (word-within a) v)
      (write-count b.wired steady (sound-quiet b fit.sound) c (word_at a) (word-within a) v))
