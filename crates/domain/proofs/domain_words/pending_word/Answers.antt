-- `domain::domain_words::pending_word` meets its contract: a word of the part. Assumes nothing.
use Rattle.domain.proofs.DomainLaws.{read-pending}
use Rattle.domain.proofs.domain_words.pending_word.Goals as goal

pub returns : goal.returns
returns c = read-pending c.args.part.now c.args.k c.requires
