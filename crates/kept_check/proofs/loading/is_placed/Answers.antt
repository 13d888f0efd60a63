-- A type for each name, few events enough, and marks that fit.
use Rattle.core_term.specs.CoreTerm.{core_of}
use Rattle.delta_keep.specs.KeptView.{kept_of}
use Rattle.kept_check.proofs.InputContexts.{placed_where}
use Rattle.kept_check.proofs.loading.is_placed.Goals as goal

pub returns-then-is_within : goal.returns-then-is_within
returns-then-is_within c =
    placed_where (core_of c.args.c.now) (kept_of c.args.k.now) c.args.left.now c.fits_input.result c.requires.names c.requires.types (c.is_within.ensures.0 c.if-is_within.true) c.fits_input.ensures
