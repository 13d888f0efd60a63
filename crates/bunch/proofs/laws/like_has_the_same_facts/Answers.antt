-- By cases on the third name.
use Rattle.bunch.proofs.Growth.{place_like-same}
use Rattle.bunch.proofs.laws.like_has_the_same_facts.Goals as goal

pub returns : goal.returns
returns c = place_like-same
