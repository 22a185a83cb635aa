-- `file::File::claim` meets its contract: the top is told and its bit taken out; with no top nothing changes.
-- Assumes nothing.
use borrow.Author.Rules.{rules}
use Rattle.file.specs.Top.{top_of, claimed}
use Rattle.file.proofs.PageLaws.{set_words}
use Rattle.file.proofs.File.claim.Goals as goal

pub returns-then-i-eq0 : goal.returns-then-i-eq0
unfolding top_of claimed
returns-then-i-eq0 c = search rules

pub returns : goal.returns
unfolding top_of claimed
returns c = search (rules, set_words)
