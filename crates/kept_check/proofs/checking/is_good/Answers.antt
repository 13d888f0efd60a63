-- No code of the state is too large, and its names stand behind those before.
use Rattle.delta_keep.specs.KeptView.{state_of}
use Rattle.kept_check.proofs.ReadSizes.{codes_small}
use Rattle.kept_check.proofs.checking.is_good.Goals as goal

pub follows_rule-requires-clause-size : goal.follows_rule-requires-clause-size
follows_rule-requires-clause-size c = codes_small (state_of c.args.s.now) c.requires.size
