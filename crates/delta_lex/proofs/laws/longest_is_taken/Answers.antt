-- The law, as its lemma states it.
use Rattle.delta_lex.proofs.Longest.{longest_is_taken}
use Rattle.delta_lex.proofs.laws.longest_is_taken.Goals as goal

pub returns : goal.returns
returns c = longest_is_taken
