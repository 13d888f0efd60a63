-- The laws of runs, states and programs on other numbers; and of states that are made simpler.
use Rattle.std.proofs.Common.{ℤ, map, refl}
use Rattle.core_term.specs.Environment.{Environment}
use Rattle.mapped_states.proofs.SimplerMapped.{simpler_mapped}
use Rattle.other_numbers.specs.Numbers.{exchanged, exchanged_environment}
use Rattle.other_numbers.specs.StateNumbers.{exchanged_held, exchanged_later}
use Rattle.other_numbers.specs.Laws.{RunsGoAlong, RestsGoAlong, AsksGoAlong, SimplerGoesAlong, ProgramsGoAlong}
use Rattle.other_numbers.proofs.NameNumbers.{Along}
use Rattle.other_numbers.proofs.Calls.{program_goes}
use Rattle.other_numbers.proofs.StateRuns.{state_goes}
use Rattle.other_numbers.proofs.StateRests.{state_rest_goes}

-- what comes, with the other numbers
other_input : (f : ℤ → ℤ) (env : Environment) → Along (exchanged f) env (exchanged_environment f env)
other_input f env = record { at = λ x. refl }

pub runs_go_along : RunsGoAlong
runs_go_along f funs s types r env h = (state_goes f funs s types r env (exchanged_environment f env) (other_input f env) h).same_run

pub rests_go_along : RestsGoAlong
rests_go_along f funs s types r env h = state_rest_goes f funs s types r env (exchanged_environment f env) (other_input f env) h

pub asks_go_along : AsksGoAlong
asks_go_along f funs s types r env h = (state_goes f funs s types r env (exchanged_environment f env) (other_input f env) h).same_asks

pub simpler_goes_along : SimplerGoesAlong
simpler_goes_along f r a b h = simpler_mapped (exchanged_later f) (map (exchanged_held f)) (λ l. refl) r a b h

pub programs_go_along : ProgramsGoAlong
programs_go_along f c p h = (program_goes f c p h).same_run
