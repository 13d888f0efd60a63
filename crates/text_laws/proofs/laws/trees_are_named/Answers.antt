-- The law, as its lemma states it.
use Rattle.text_laws.proofs.NamesOfTrees.{trees_are_named}
use Rattle.text_laws.proofs.laws.trees_are_named.Goals as goal

pub returns : goal.returns
returns c = trees_are_named
