-- The scope is that of what is held.
use Rattle.std.proofs.Common.{◌≡◌, ◌↔◌, IsTrue, map, subst}
use Rattle.std.specs.Prelude.{IfOk}
use Rattle.stream_type.specs.StreamType.{type_of}
use Rattle.core_term.specs.Typing.{Context}
use Rattle.delta_check.specs.Scopes.{context_in, context_given, facts_given}
use Rattle.delta_state.specs.StateTyping.{context_held}
use Rattle.delta_keep.specs.KeptView.{state_of, held_of}
use Rattle.kept_check.specs.HeldRules.{MayGoOn}
use Rattle.kept_check.specs.Judging.{funs_of}
use Rattle.kept_check.proofs.rules.goes_on.Goals as goal

pub returns-in-Ok : goal.returns-in-Ok
returns-in-Ok c =
    let held = map held_of c.args.held.now in
    let before = (context_in c.args.scope.now).order in
    let scope : context_given c.deref.result.now (facts_given c.deref-in-Ok.result.now) ≡ context_held held before =
    rw (c.deref.ensures.value, c.deref-in-Ok.ensures.value) c.in-Ok.ensures in
    subst (λ (d : Context). IfOk c.may_go_on-good.result (λ b. IsTrue b ↔ MayGoOn (funs_of c.args.judge.now) c.args.judge.now.depth d (state_of c.args.s.now) (type_of c.args.r.now))) scope c.may_go_on-good.ensures
