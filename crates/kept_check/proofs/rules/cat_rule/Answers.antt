-- Its type, a first part that isn't null, code that is good, and names in order.
use Rattle.std.proofs.Common.{◌≡◌, ◌∙◌, false, true≢false, [], ap, sym}
use Rattle.std.proofs.lemmas.Bool.{iff_false}
use Rattle.stream_type.specs.StreamType.{type_of, cat, null_of}
use Rattle.core_term.specs.FreeNames.{free_names}
use Rattle.core_term.specs.Parts.{cat_first, cat_second}
use Rattle.core_term.specs.Typing.{AllBefore}
use Rattle.delta_check.specs.Scopes.{context_in}
use Rattle.delta_state.specs.StateTree.{cat_state, free_in_state}
use Rattle.delta_keep.specs.KeptView.{state_of, later_of}
use Rattle.kept_rules.specs.StateRules.{FollowsRule, IsGoodLater}
use Rattle.kept_check.specs.Judging.{funs_of}
use Rattle.kept_check.proofs.StateForms.{fails, last_of_four}
use Rattle.kept_check.proofs.rules.cat_rule.Goals as goal

pub returns-then-not-has_form : goal.returns-then-not-has_form
returns-then-not-has_form c =
    let r = type_of c.args.r.now in
    fails (r ≡ cat (cat_first r) (cat_second r)) (FollowsRule (funs_of c.args.judge.now) c.args.judge.now.depth (context_in c.args.scope.now) (cat_state (state_of c.args.a.now) (later_of c.args.l.now)) r) (λ f. f.0)
    (iff_false c.has_form.ensures c.if-not-has_form.true)

pub returns-then-null : goal.returns-then-null
returns-then-null c =
    let r = type_of c.args.r.now in
    let test : c.null.result ≡ null_of (cat_first r) = c.null.ensures ∙ ap null_of c.cat_types.ensures.first in
    fails (null_of (cat_first r) ≡ false) (FollowsRule (funs_of c.args.judge.now) c.args.judge.now.depth (context_in c.args.scope.now) (cat_state (state_of c.args.a.now) (later_of c.args.l.now)) r) (λ f. f.1)
    (λ e. true≢false (sym (sym test ∙ c.if-null.true) ∙ e))

pub returns-in-Ok-false : goal.returns-in-Ok-false
returns-in-Ok-false c =
    let funs = funs_of c.args.judge.now in
    let d = context_in c.args.scope.now in
    let l = later_of c.args.l.now in
    let r = type_of c.args.r.now in
    fails (IsGoodLater funs c.args.judge.now.depth d (λ e. e) [] l (cat_second r)) (FollowsRule funs c.args.judge.now.depth d (cat_state (state_of c.args.a.now) l) r) (λ f. f.2)
    (iff_false (rw c.cat_types.ensures.second at c.in-Ok-false.ensures) c.in-Ok-false.field-0-test)

pub returns-in-Ok-true : goal.returns-in-Ok-true
returns-in-Ok-true c =
    let d = context_in c.args.scope.now in
    let l = later_of c.args.l.now in
    let r = type_of c.args.r.now in
    let test : c.null.result ≡ null_of (cat_first r) = c.null.ensures ∙ ap null_of c.cat_types.ensures.first in
    let good = rw c.cat_types.ensures.second at c.in-Ok-true.ensures in
    last_of_four c.is_behind.result (r ≡ cat (cat_first r) (cat_second r)) (null_of (cat_first r) ≡ false) (IsGoodLater (funs_of c.args.judge.now) c.args.judge.now.depth d (λ e. e) [] l (cat_second r))
    (AllBefore d (free_in_state (state_of c.args.a.now)) (free_names l.term)) (c.has_form.ensures.0 c.if-not-has_form.false) (sym test ∙ c.if-null.false) (good.0 c.in-Ok-true.field-0-test) c.is_behind.ensures
