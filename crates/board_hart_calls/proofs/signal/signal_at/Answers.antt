-- `board_hart_calls::signal::signal_at` meets its contract: by itself, or by its domain. Assumes nothing.
use Prim.Native.Nat.{ℕ, ◌+◌, ◌-◌, ◌*◌}
use mathlib.Core.Path.{◌≡◌, sym, ap, ◌∙◌}
use mathlib.Core.List.{List}
use lib.ListN.{length, take, drop}
use borrow.Author.Rules.{rules}
use Rattle.sizes.specs.Sizes.{files_size, wired_size}
use Rattle.files.specs.Files.{files_of, the_file}
use Rattle.board_block.proofs.BlockLaws.{wired-last}
use Rattle.board_call_laws.proofs.FileCallEffects.{file-loaded}
use Rattle.board_call_laws.proofs.HartCallEffects.{signal-own, signal-guest, signal-off, signal-domain}
use Rattle.board_call_laws.proofs.HartCallEffects.{signal-lent}
use Rattle.board_hart_calls.proofs.signal.signal_at.Goals as goal

pub returns-then-signals : goal.returns-then-signals
returns-then-signals c =
    let args = c.args in
    let l = args.state.now in
    let lent : c.unwrap.result.now ≡ take files_size l = search rules in
    let here = file-loaded l c.told-state args.hart args.file _
    (c.load-f.ensures ∙ ap (λ (x : List ℕ). the_file (files_of x) (5 * args.hart + args.file)) lent) in
    sym (signal-own _ _ _ _ here (sym c.signals.ensures ∙ c.if-signals.true))

pub returns-then-file-ge-FIRST_GUEST : goal.returns-then-file-ge-FIRST_GUEST
returns-then-file-ge-FIRST_GUEST c =
    let args = c.args in
    let l = args.state.now in
    let lent : c.unwrap.result.now ≡ take files_size l = search rules in
    let here = file-loaded l c.told-state args.hart args.file _
    (c.load-f.ensures ∙ ap (λ (x : List ℕ). the_file (files_of x) (5 * args.hart + args.file)) lent) in
    sym (signal-guest _ _ _ _ here (sym c.signals.ensures ∙ c.if-signals.false) c.if-file-ge-FIRST_GUEST.true)

pub returns-then-f-ne-FROM_WIRED : goal.returns-then-f-ne-FROM_WIRED
returns-then-f-ne-FROM_WIRED c =
    let args = c.args in
    let l = args.state.now in
    let lent : c.unwrap.result.now ≡ take files_size l = search rules in
    let here = file-loaded l c.told-state args.hart args.file _
    (c.load-f.ensures ∙ ap (λ (x : List ℕ). the_file (files_of x) (5 * args.hart + args.file)) lent) in
    sym
    (signal-off _ _ _ _ here (sym c.signals.ensures ∙ c.if-signals.false)
    c.if-file-ge-FIRST_GUEST.false c.if-f-ne-FROM_WIRED.true)

pub returns : goal.returns
returns c =
    let args = c.args in
    let l = args.state.now in
    let lent : c.unwrap.result.now ≡ take files_size l = search rules in
    let wired : c.unwrap-2.result.now ≡ drop (length l - wired_size) l = search rules in
    let here = file-loaded l c.told-state args.hart args.file _
    (c.load-f.ensures ∙ ap (λ (x : List ℕ). the_file (files_of x) (5 * args.hart + args.file)) lent) in
    signal-lent l c.told-state args.hart args.file _
    (rw (wired ∙ wired-last l c.told-state) at c.signal.ensures)
    ∙ sym
    (signal-domain _ _ _ _ here (sym c.signals.ensures ∙ c.if-signals.false)
    c.if-file-ge-FIRST_GUEST.false c.if-f-ne-FROM_WIRED.false)
