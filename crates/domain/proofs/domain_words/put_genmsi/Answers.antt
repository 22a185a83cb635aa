-- `domain::domain_words::put_genmsi` meets its contract: the first word of the targets. Assumes nothing.
use native.Mathlib.Omega.{arith}
use Rattle.domain.specs.Domain.{with_genmsi}
use Rattle.domain.proofs.DomainLaws.{store-target}
use Rattle.domain.proofs.domain_words.put_genmsi.Goals as goal

pub returns : goal.returns
unfolding with_genmsi
returns c = store-target c.args.part.now 0 c.args.value (omega arith)
