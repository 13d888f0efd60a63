-- A name that is there already, or one more that isn't.
use Rattle.std.proofs.Common.{◌∙◌, sym}
use Rattle.bunch.specs.declared.name.Name.{Name}
use Rattle.kept_check.proofs.DistinctNames.{still_distinct, not_distinct}
use Rattle.kept_check.proofs.names.are_distinct.Goals as goal

pub returns-then-is_there : goal.returns-then-is_there
returns-then-is_there c =
    let d : Name = record { 0 = 0 } in sym (not_distinct c.args.names.now c.loop-i.i d c.loop-i-test.true (sym c.is_there.ensures ∙ c.if-is_there.true))

pub loop-i-preserved : goal.loop-i-preserved
loop-i-preserved c =
    let d : Name = record { 0 = 0 } in still_distinct c.args.names.now c.loop-i.i d c.loop-i-test.true c.loop-i.invariant (sym c.is_there.ensures ∙ c.if-is_there.false)
