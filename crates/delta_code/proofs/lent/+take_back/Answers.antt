-- Each type goes back to its argument.
use Rattle.std.proofs.Common.{◌≡◌, ◌∙◌, map, ap, subst, sym, refl}
use Rattle.std.proofs.lemmas.Result.{IfOk-weaker}
use Rattle.stream_type.specs.StreamType.{type_of}
use Rattle.machine_parts.specs.Entry.{entry_in}
use Rattle.template_state.specs.declared.live.Arguments.{Arguments}
use Rattle.template_state.specs.Readers.{state_in, arguments_in}
use Rattle.delta_code.specs.GivenBack.{given_back}
use Rattle.delta_code.proofs.Binding.{none_back, one_back}
use Rattle.delta_code.proofs.lent.+take_back.Goals as goal

pub returns-in_default : goal.returns-in_default
returns-in_default t c =
    let b = c.in-Before in
    none_back c.args.lent.now (arguments_in c.args.args.now) b.field-0.0 (type_of b.t) (state_in b.field-2.value) (arguments_in b.others.value) c.in_default.ensures.cases (ap arguments_in b.is)

pub returns-in_ok-give_back-in-Before : goal.returns-in_ok-give_back-in-Before
returns-in_ok-give_back-in-Before t c =
    let b = c.in-Before in
    IfOk-weaker c.take_back.result _ _
    (λ r h. one_back c.args.lent.now c.in-Some.rest.now c.in-Some.first.now (arguments_in c.args.args.now) b.field-0.0 (type_of b.t) (type_of c.give_back.new.t) (state_in b.field-2.value) (arguments_in b.others.value) (arguments_in c.take_back.new.args)
    c.in-Some.ensures.cases.0 (ap arguments_in b.is) c.in_ok-give_back-in-Before.ensures
    (h ∙ ap (λ (a : Arguments). given_back (map entry_in c.in-Some.rest.now) (arguments_in a)) c.deref_mut.ensures.value))
    c.take_back.ensures

pub returns-in-None : goal.returns-in-None
returns-in-None t c = subst (λ (a : Arguments). arguments_in a ≡ given_back (map entry_in c.args.lent.now) (arguments_in a)) (sym c.in-None.is) refl
