-- `files::messages::deliver_one` meets its contract: the file that the word names is loaded, the identity
-- arrives, the file is stored. Assumes nothing.
use mathlib.Core.Path.{sym, ◌∙◌}
use Rattle.files.specs.Files.{files_of}
use Rattle.files.proofs.FilesLaws.{named_by-is, reached-is, reached-zero}
use Rattle.files.proofs.messages.deliver_one.Goals as goal

pub returns-then-identity-eq0 : goal.returns-then-identity-eq0
returns-then-identity-eq0 c =
    sym (reached-zero _ c.args.word
    (sym c.identity_in-identity.ensures.0 ∙ c.if-identity-eq0.true))

pub returns : goal.returns
returns c =
    let m = c.args.word in
    c.store.ensures
    ∙ reached-is (files_of c.args.files.now) m _ _ _ _
    (named_by-is m _ _ c.hart_in-hart.ensures.0 c.file_in-file.ensures.0)
    c.load-f.ensures c.identity_in-identity.ensures.0 c.arrive.ensures
