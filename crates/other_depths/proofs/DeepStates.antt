-- The laws of states at other depths: their runs, what is left of them, and what is made simpler; and depths
-- that are put in twice, or each for itself.
use Rattle.std.proofs.Common.{refl}
use Rattle.mapped_states.proofs.SimplerMapped.{simpler_mapped}
use Rattle.mapped_states.proofs.MappedTwice.{mapped_twice, mapped_same}
use Rattle.other_depths.specs.Depths.{deepened_later}
use Rattle.other_depths.specs.Laws.{RunsAtOtherDepths, RestsAtOtherDepths, SimplerAtOtherDepths, DepthsTwice, DepthsStay}
use Rattle.other_depths.proofs.StateRuns.{state_same}
use Rattle.other_depths.proofs.StateRests.{state_rest_same}

pub runs_at_other_depths : RunsAtOtherDepths
runs_at_other_depths g n funs s types r env h w = state_same g n funs s types r env h w

pub rests_at_other_depths : RestsAtOtherDepths
rests_at_other_depths g n funs s types r env h w = state_rest_same g n funs s types r env h w

pub simpler_at_other_depths : SimplerAtOtherDepths
simpler_at_other_depths g r a b h = simpler_mapped (deepened_later g) (λ held. held) (λ l. refl) r a b h

pub depths_twice : DepthsTwice
depths_twice g h s = mapped_twice (deepened_later g) (deepened_later h) (λ held. held) (λ held. held) s

pub depths_stay : DepthsStay
depths_stay s = mapped_same s
