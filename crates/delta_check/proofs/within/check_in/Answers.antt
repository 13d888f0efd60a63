-- What is told of the program that is checked is told of that program.
use Rattle.std.proofs.Common.{subst}
use Rattle.std.specs.Prelude.{IfOk, IfErr}
use Rattle.stream_type.specs.StreamType.{type_of}
use Rattle.bunch.specs.NameOrder.{facts_of}
use Rattle.core_term.specs.declared.program.Core.{Core}
use Rattle.core_term.specs.CoreTerm.{term_of, core_of}
use Rattle.core_term.specs.Inert.{is_inert_fun}
use Rattle.core_term.specs.Typing.{HasType}
use Rattle.delta_check.specs.Checking.{Denies}
use Rattle.delta_check.specs.Scopes.{context_given, with_values}
use Rattle.delta_check.proofs.within.check_in.Goals as goal

pub returns-clause-typed : goal.returns-clause-typed
returns-clause-typed c =
    let g = with_values c.args.past.now (context_given c.args.vars.now (facts_of c.args.order.now)) in
    let P : Core → Type 0 = λ k. IfOk c.check_under.result (λ x. HasType (core_of k).funs (is_inert_fun (core_of k).funs) g (term_of c.args.n.now) (type_of c.args.r.now)) in
    subst P c.core-core.ensures.program c.check_under.ensures.typed

pub returns-clause-untyped : goal.returns-clause-untyped
returns-clause-untyped c =
    let g = with_values c.args.past.now (context_given c.args.vars.now (facts_of c.args.order.now)) in
    let P : Core → Type 0 = λ k. IfErr c.check_under.result (λ f. Denies f (HasType (core_of k).funs (is_inert_fun (core_of k).funs) g (term_of c.args.n.now) (type_of c.args.r.now))) in
    subst P c.core-core.ensures.program c.check_under.ensures.untyped
