-- `file::File::sound` meets its contract: each test is a rule. Assumes nothing.
use borrow.Author.Rules.{rules}
use Rattle.words.proofs.SetsLaws.{member-word}
use Rattle.file.specs.Rules.{file_sound, delivery_rule, threshold_rule, zero_rule}
use Rattle.file.proofs.File.sound.Goals as goal

pub returns : goal.returns
unfolding file_sound delivery_rule threshold_rule zero_rule
returns c =
    let pending = member-word c.args.self.pending 0 in
    let enabled = member-word c.args.self.enable 0 in
    search rules
