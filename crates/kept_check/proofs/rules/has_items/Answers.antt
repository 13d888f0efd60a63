-- Its subject is a stream of a star, and both branches are good.
use Rattle.std.proofs.Common.{[]}
use Rattle.std.proofs.lemmas.Bool.{iff_false}
use Rattle.stream_type.specs.StreamType.{type_of, star}
use Rattle.core_term.specs.Parts.{star_item}
use Rattle.core_term.specs.Typing.{HasForm, type_at}
use Rattle.delta_check.specs.Scopes.{context_in}
use Rattle.delta_keep.specs.KeptView.{later_of}
use Rattle.kept_rules.specs.StateRules.{IsGoodLater, IsGoodStar}
use Rattle.kept_check.specs.Judging.{funs_of}
use Rattle.kept_check.proofs.StateForms.{fails, item_told}
use Rattle.kept_check.proofs.rules.has_items.Goals as goal

pub returns-in-None : goal.returns-in-None
returns-in-None c =
    let d = context_in c.args.scope.now in
    let z = c.args.z.0 in
    fails (HasForm d z (star (star_item (type_at d z)))) (IsGoodStar (funs_of c.args.judge.now) c.args.judge.now.depth d z (later_of c.args.l.now) c.args.y.0 c.args.ys.0 (later_of c.args.m.now) (type_of c.args.r.now)) (λ g. g.subject) c.in-None.ensures.none

pub returns-in-Ok-false : goal.returns-in-Ok-false
returns-in-Ok-false c =
    let funs = funs_of c.args.judge.now in
    let d = context_in c.args.scope.now in
    let l = later_of c.args.l.now in
    let r = type_of c.args.r.now in
    fails (IsGoodLater funs c.args.judge.now.depth d (λ e. e) [] l r) (IsGoodStar funs c.args.judge.now.depth d c.args.z.0 l c.args.y.0 c.args.ys.0 (later_of c.args.m.now) r) (λ g. g.at_end) (iff_false c.in-Ok-false.ensures c.in-Ok-false.field-0-test)

pub returns-in-Ok-true : goal.returns-in-Ok-true
returns-in-Ok-true c =
    item_told (funs_of c.args.judge.now) c.args.judge.now.depth (context_in c.args.scope.now) c.args.z.0 c.is_good_item.result (later_of c.args.l.now) c.args.y.0 c.args.ys.0 (later_of c.args.m.now) (type_of c.args.r.now)
    c.in-Some.ensures.some.whole (c.in-Ok-true.ensures.0 c.in-Ok-true.field-0-test) (rw (c.in-Some.ensures.some.first, c.in-Some.ensures.some.second) at c.is_good_item.ensures)
