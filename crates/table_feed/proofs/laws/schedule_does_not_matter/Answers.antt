-- Both mixed words stand for the prefixes of the words.
use Rattle.std.proofs.Common.{◌∙◌, sym}
use Rattle.table_feed.proofs.MixedWords.{mixed_spells}
use Rattle.table_feed.proofs.laws.schedule_does_not_matter.Goals as goal

pub returns : goal.returns
returns c one other s ws h = (mixed_spells one s ws h).means ∙ sym (mixed_spells other s ws h).means
