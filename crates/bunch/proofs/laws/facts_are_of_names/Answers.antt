-- No value stands beside a name that isn't there.
use Rattle.bunch.proofs.Growth.{facts_in-names}
use Rattle.bunch.proofs.laws.facts_are_of_names.Goals as goal

pub returns : goal.returns
returns c = λ o x y h. facts_in-names o.names o.rows x y h
