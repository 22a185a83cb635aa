-- `domain::domain_words::enable_word` meets its contract: a word of the part. Assumes nothing.
use Rattle.domain.proofs.DomainLaws.{read-enable}
use Rattle.domain.proofs.domain_words.enable_word.Goals as goal

pub returns : goal.returns
returns c = read-enable c.args.part.now c.args.k c.requires
