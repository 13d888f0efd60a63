-- The law, as its lemma states it.
use Rattle.text_laws.proofs.NamesOfTrees.{belongs_by_tree}
use Rattle.text_laws.proofs.laws.belongs_by_tree.Goals as goal

pub returns : goal.returns
returns c = belongs_by_tree
