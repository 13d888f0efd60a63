-- The first argument, where it is that of the parameter, or one behind it; and one that isn't there is finished.
use Rattle.std.proofs.Common.{◌≡◌, ◌∙◌, ℕ, Bool, true, false, if◌then◌else◌, ap, sym}
use Rattle.std.proofs.lemmas.Bool.{eq-eqb, ne_eqb}
use Rattle.std.proofs.lemmas.Result.{IfOk-weaker}
use Rattle.std.specs.Prelude.{◌==◌}
use Rattle.stream_type.specs.StreamType.{StreamType, type_of}
use Rattle.delta_state.specs.StateTree.{StateTree, ArgumentTrees, argument_before, argument_at}
use Rattle.template_state.specs.declared.live.Live.{Live}
use Rattle.template_state.specs.declared.live.Arguments.{Arguments}
use Rattle.template_state.specs.Readers.{state_in, arguments_in}
use Rattle.delta_code.proofs.framing.+argument_of.Goals as goal

first_or_other : (args rest : ArgumentTrees) (x u : ℕ) (t : StreamType) (s : StateTree) (w : Bool) → args ≡ argument_before x t s rest → (u == x) ≡ w
    → (if w then s else argument_at rest u) ≡ argument_at args u
first_or_other args rest x u t s w is h =
    ap (λ (b : Bool). if b then s else argument_at rest u) (sym h) ∙ ap (λ (a : ArgumentTrees). argument_at a u) (sym is)

pub returns-in-None : goal.returns-in-None
returns-in-None t c = ap (λ (a : Arguments). argument_at (arguments_in a) c.args.u.0) (sym c.in-None.is)

pub returns-then-u-x : goal.returns-then-u-x
returns-then-u-x t c =
    let b = c.in-Before in
    let first = first_or_other (arguments_in c.args.args.now) (arguments_in b.others.value) b.x.0 c.args.u.0 (type_of b.field-1) (state_in b.a.value) true (ap arguments_in b.is) (eq-eqb c.args.u.0 b.x.0 c.if-u-x.true) in
    IfOk-weaker c.again.result _ _ (λ r h. h ∙ (ap (λ (s : Live). state_in s) c.deref.ensures ∙ first)) c.again.ensures

pub returns-else-u-x : goal.returns-else-u-x
returns-else-u-x t c =
    let b = c.in-Before in
    let other = first_or_other (arguments_in c.args.args.now) (arguments_in b.others.value) b.x.0 c.args.u.0 (type_of b.field-1) (state_in b.a.value) false (ap arguments_in b.is) (ne_eqb c.args.u.0 b.x.0 c.if-u-x.false) in
    IfOk-weaker c.argument_of.result _ _ (λ r h. h ∙ (ap (λ (a : Arguments). argument_at (arguments_in a) c.args.u.0) c.deref-else-u-x.ensures ∙ other)) c.argument_of.ensures
