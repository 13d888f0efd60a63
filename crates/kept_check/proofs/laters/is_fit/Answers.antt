-- Its depth, its values and its names.
use Rattle.std.proofs.Common.{◌≤◌, arith}
use Rattle.std.specs.List.{All}
use Rattle.std.proofs.lemmas.Bool.{iff_false}
use Rattle.bunch.specs.Names.{numbers_of}
use Rattle.hist_value.specs.HistType.{past}
use Rattle.hist_value.specs.HistValue.{HasType}
use Rattle.delta_keep.specs.KeptView.{later_of}
use Rattle.kept_check.specs.Laters.{IsFitLater}
use Rattle.kept_check.proofs.LaterRules.{fit_apart}
use Rattle.kept_check.proofs.StateForms.{fails}
use Rattle.kept_check.proofs.laters.is_fit.Goals as goal

pub returns-then-l-depth : goal.returns-then-l-depth
returns-then-l-depth c =
    let l = later_of c.args.l.now in
    fails (c.args.depth ≤ l.depth) (IsFitLater c.args.depth (numbers_of c.args.others.now) l) (λ f. f.is_deep) (λ h. omega (arith, h, c.if-l-depth.true))

pub returns-in-Ok-false : goal.returns-in-Ok-false
returns-in-Ok-false c =
    let l = later_of c.args.l.now in
    fails (All (λ e. HasType (past e.type) e.value) l.past) (IsFitLater c.args.depth (numbers_of c.args.others.now) l) (λ f. f.has_values) (iff_false (rw c.deref.ensures.value at c.in-Ok-false.ensures) c.in-Ok-false.field-0-test)

pub returns-in-Ok-true : goal.returns-in-Ok-true
returns-in-Ok-true c =
    let typed = rw c.deref.ensures.value at c.in-Ok-true.ensures in
    fit_apart c.args.depth (numbers_of c.args.others.now) (later_of c.args.l.now) c.are_names_apart.result (typed.0 c.in-Ok-true.field-0-test) c.if-l-depth.false c.are_names_apart.ensures
