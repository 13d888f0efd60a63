-- The function is there and its rules are kept, so what is left to derive is that of the arguments.
use Rattle.std.proofs.Common.{◌∙◌, List, map, subst, sym}
use Rattle.std.specs.Prelude.{Option, IfOk}
use Rattle.stream_type.specs.StreamType.{type_of}
use Rattle.bunch.specs.BunchTree.{tree_of}
use Rattle.hist_value.specs.HistExpr.{expr_of}
use Rattle.hist_value.specs.Environment.{types_of}
use Rattle.core_term.specs.CoreTerm.{core_of, core_body_of, term_of, terms_from}
use Rattle.delta_check.specs.Counting.{counts_in}
use Rattle.delta_derive.specs.Claims.{Claim}
use Rattle.delta_derive.specs.OpenTerms.{Adds}
use Rattle.delta_derive.proofs.Passed.{call_passed}
use Rattle.delta_derive.proofs.calling.call_parts.Goals as goal

pub returns-in-Ok-true : goal.returns-in-Ok-true
returns-in-Ok-true c =
    let funs = (core_of c.args.c.now).funs in
    let kept = call_passed funs (counts_in funs c.args.marks.now) (types_of c.args.aim.now.known.items) (tree_of c.args.aim.now.bunch) c.args.f (map expr_of c.args.past.now) (terms_from (map term_of c.args.arguments.now)) (type_of c.args.aim.now.result.now)
    (core_body_of c.in-Some.b.now) c.in-Some.ensures.there c.in-Some.ensures.body (sym c.in-Ok-true.ensures ∙ c.in-Ok-true.field-0-test) in
    subst (λ (o : Option (List Claim)). IfOk c.pass.result (Adds o c.args.parts.now.items c.pass.new.parts.items)) (sym kept) (rw c.deref.ensures.value at c.pass.ensures)
