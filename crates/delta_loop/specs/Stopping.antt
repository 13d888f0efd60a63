-- Why a program is stopped before any event.
use Rattle.delta_loop.specs.declared.stopping.Stop.{Stop}
use Rattle.delta_loop.specs.declared.stopping.Stop.TheVariants.{Budget, Deep}
use Rattle.delta_loop.specs.Meaning.{Meaning, StartsCostly, StartsDeep}

-- it makes more calls than it may, or one at too great a level
abbrev pub StopsFor : Meaning → Stop → Type 0
StopsFor P Budget = StartsCostly P
StopsFor P Deep = StartsDeep P
