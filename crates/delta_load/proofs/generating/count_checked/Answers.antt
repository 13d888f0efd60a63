use Rattle.std.proofs.Common.{Err, ap, ◌∙◌}
use Rattle.core_term.specs.CoreTerm.{core_of}
use Rattle.delta_load.proofs.Stopping.{not_costly, not_deep, not_long}
use Rattle.delta_load.proofs.generating.count_checked.Goals as goal

pub unreachable-requires : goal.unreachable-requires
unreachable-requires g c =
    not_costly (core_of c.args.checked.now) c.args.start c.args.items c.requires.core c.requires.items (c.run_load.ensures.costly (c.in-Err-Budget.is ∙ ap Err c.in-Err-Budget.field-0-is))

pub unreachable-requires-in-Err-Deep : goal.unreachable-requires-in-Err-Deep
unreachable-requires-in-Err-Deep g c =
    not_deep (core_of c.args.checked.now) c.args.start c.args.items c.requires.core c.requires.items (c.run_load.ensures.deep (c.in-Err-Deep.is ∙ ap Err c.in-Err-Deep.field-0-is))

pub unreachable-requires-in-Err-Long : goal.unreachable-requires-in-Err-Long
unreachable-requires-in-Err-Long g c =
    not_long (core_of c.args.checked.now) c.args.start c.args.items c.requires.core c.requires.items (c.run_load.ensures.long (c.in-Err-Long.is ∙ ap Err c.in-Err-Long.field-0-is))
