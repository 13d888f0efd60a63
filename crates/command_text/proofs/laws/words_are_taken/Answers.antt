-- The law, as its lemma states it.
use Rattle.command_text.proofs.Lined.{words_are_taken}
use Rattle.command_text.proofs.laws.words_are_taken.Goals as goal

pub returns : goal.returns
returns c = words_are_taken
