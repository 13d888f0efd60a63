-- Both parts are what the parts stand for.
use Rattle.std.proofs.Common.{rules}
use Rattle.delta_meaning.proofs.types.+params.Goals as goal

pub params_meant-returns-in_ok-boxed_params-in-Comma-2 : goal.params_meant-returns-in_ok-boxed_params-in-Comma-2
params_meant-returns-in_ok-boxed_params-in-Comma-2 t c =
    search rules
