-- The types that are given are those that are left.
use Rattle.core_term.specs.CoreTerm.{core_of}
use Rattle.delta_keep.specs.KeptView.{kept_of}
use Rattle.kept_check.proofs.InputContexts.{marks_fit}
use Rattle.kept_check.proofs.loading.fits_input.Goals as goal

pub returns-then-has_cuts : goal.returns-then-has_cuts
returns-then-has_cuts c =
    marks_fit (core_of c.args.c.now) (kept_of c.args.k.now) c.args.left.now c.is_place.result c.requires.names c.requires.types
    (rw c.deref-cuts.ensures.value at (c.has_cuts.ensures.0 c.if-has_cuts.true)) (rw c.deref-cuts.ensures.value at c.is_place.ensures)
