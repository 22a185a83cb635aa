-- `domain_sending::sources::sends` meets its contract: both bits of domaincfg. Assumes nothing.
use mathlib.Core.Path.{ap₂}
use mathlib.Core.Bool.{◌&&◌}
use Rattle.domain_sending.proofs.sources.sends.Goals as goal

pub returns : goal.returns
returns c = ap₂ ◌&&◌ c.enabled.ensures c.by_messages.ensures
