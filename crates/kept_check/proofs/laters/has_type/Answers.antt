-- Its values stand beside the context; and it has the type, or it is told why it hasn't.
use Rattle.std.proofs.Common.{◌≡◌, ◌∙◌, ap, refl, subst}
use Rattle.stream_type.specs.StreamType.{type_of}
use Rattle.core_term.specs.Inert.{is_inert_fun}
use Rattle.core_term.specs.Typing.{Context, HasType}
use Rattle.delta_check.specs.Checking.{Denies}
use Rattle.delta_check.specs.Scopes.{context_in, with_values}
use Rattle.delta_state.specs.StateTyping.{with_past}
use Rattle.delta_keep.specs.KeptView.{later_of}
use Rattle.kept_check.specs.Judging.{funs_of}
use Rattle.kept_check.proofs.LaterRules.{denied_rightly}
use Rattle.kept_check.proofs.laters.has_type.Goals as goal

pub returns-in-Ok-told : goal.returns-in-Ok-told
returns-in-Ok-told c =
    let funs = funs_of c.args.judge.now in
    let d = context_in c.args.scope.now in
    let l = later_of c.args.l.now in
    let r = type_of c.args.r.now in
    let beside : with_values c.deref-in-Ok.result.now d ≡ with_past l.past d = ap (λ v. with_values v d) c.deref-in-Ok.ensures.value ∙ (rw c.deref.ensures.value at (c.in-Ok.ensures d)) in
    let typed = rw c.deref-in-Ok-2.ensures at c.in-Ok-told.ensures.typed in
    (λ t. subst (λ (k : Context). HasType funs (is_inert_fun funs) k l.term r) beside typed, λ h. refl)

pub returns-in-Err-told : goal.returns-in-Err-told
returns-in-Err-told c =
    let funs = funs_of c.args.judge.now in
    let d = context_in c.args.scope.now in
    let l = later_of c.args.l.now in
    let r = type_of c.args.r.now in
    let beside : with_values c.deref-in-Ok.result.now d ≡ with_past l.past d = ap (λ v. with_values v d) c.deref-in-Ok.ensures.value ∙ (rw c.deref.ensures.value at (c.in-Ok.ensures d)) in
    let untyped = rw c.deref-in-Ok-2.ensures at c.in-Err-told.ensures.untyped in
    denied_rightly c.in-Err-told.fault (HasType funs (is_inert_fun funs) (with_past l.past d) l.term r) c.denied.result (subst (λ (k : Context). Denies c.in-Err-told.fault (HasType funs (is_inert_fun funs) k l.term r)) beside untyped) c.denied.ensures
