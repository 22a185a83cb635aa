-- `files::deliver` meets its contract: before message k, those below it have arrived. Assumes nothing.
use mathlib.Core.Path.{sym, ap, ◌∙◌}
use mathlib.Core.List.{List}
use native.Mathlib.Omega.{arith}
use lib.ListN.{get_or}
use Rattle.file.specs.declared.File.{File}
use Rattle.files.specs.Files.{files_of, reached}
use Rattle.files.proofs.FilesLaws.{all_reached-none, all_reached-more, named-each}
use Rattle.files.proofs.messages.deliver.Goals as goal

pub loop-k-init : goal.loop-k-init
loop-k-init c = sym (all_reached-none (files_of c.args.files.now))

pub deliver_one-requires : goal.deliver_one-requires
deliver_one-requires c =
    named-each c.args.log.now c.args.count c.requires.1 c.loop-k.k (omega arith)

pub loop-k-preserved : goal.loop-k-preserved
loop-k-preserved c =
    let at-loop = c.loop-k in
    let words = c.args.log.now in
    c.deliver_one.ensures
    ∙ ap (λ (fs : List File). reached fs (get_or words at-loop.k 0)) at-loop.invariant
    ∙ sym (all_reached-more (files_of c.args.files.now) words at-loop.k (omega arith))
