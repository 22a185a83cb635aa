-- `files::store` meets its contract: a file stored in its place is that file replaced. Assumes nothing.
use mathlib.Core.Path.{ap, ◌∙◌}
use Rattle.files.specs.Files.{files_of}
use Rattle.files.proofs.FilesLaws.{files_of-put}
use borrow.Author.Rules.{rules}
use Rattle.files.proofs.store.Goals as goal

pub returns : goal.returns
returns c =
    let args = c.args in
    ap files_of c.store.ensures
    ∙ files_of-put args.files.now (search rules) args.k c.requires args.f
    (record { pending_long = search rules; enable_long = search rules })
