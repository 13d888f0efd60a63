-- Its subject is a stream of a sum, and both branches are good.
use Rattle.std.proofs.lemmas.Bool.{iff_false}
use Rattle.stream_type.specs.StreamType.{type_of, sum}
use Rattle.core_term.specs.Parts.{sum_left, sum_right}
use Rattle.core_term.specs.Typing.{HasForm, type_at}
use Rattle.delta_check.specs.Scopes.{context_in}
use Rattle.delta_keep.specs.KeptView.{later_of}
use Rattle.kept_rules.specs.StateRules.{IsGoodSum}
use Rattle.kept_check.specs.Judging.{funs_of}
use Rattle.kept_check.proofs.StateForms.{fails, left_bad, right_told}
use Rattle.kept_check.proofs.rules.has_sides.Goals as goal

pub returns-in-None : goal.returns-in-None
returns-in-None c =
    let d = context_in c.args.scope.now in
    let z = c.args.z.0 in
    fails (HasForm d z (sum (sum_left (type_at d z)) (sum_right (type_at d z)))) (IsGoodSum (funs_of c.args.judge.now) c.args.judge.now.depth d z c.args.x.0 (later_of c.args.l.now) c.args.y.0 (later_of c.args.m.now) (type_of c.args.r.now)) (λ g. g.subject) c.in-None.ensures.none

pub returns-in-Ok-false : goal.returns-in-Ok-false
returns-in-Ok-false c =
    left_bad (funs_of c.args.judge.now) c.args.judge.now.depth (context_in c.args.scope.now) c.args.z.0 c.args.x.0 (later_of c.args.l.now) c.args.y.0 (later_of c.args.m.now) (type_of c.args.r.now)
    (iff_false (rw c.in-Some.ensures.some.first at c.in-Ok-false.ensures) c.in-Ok-false.field-0-test)

pub returns-in-Ok-true : goal.returns-in-Ok-true
returns-in-Ok-true c =
    let left = rw c.in-Some.ensures.some.first at c.in-Ok-true.ensures in
    right_told (funs_of c.args.judge.now) c.args.judge.now.depth (context_in c.args.scope.now) c.args.z.0 c.is_good-in-Ok-true.result c.args.x.0 (later_of c.args.l.now) c.args.y.0 (later_of c.args.m.now) (type_of c.args.r.now)
    c.in-Some.ensures.some.whole (left.0 c.in-Ok-true.field-0-test) (rw c.in-Some.ensures.some.second at c.is_good-in-Ok-true.ensures)
