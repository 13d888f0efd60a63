-- What the machine holds at its start is what it has to keep, and what it stops for is the program's.
use Rattle.std.proofs.Common.{◌≡◌, ◌<◌, Err, sym, ap, ◌∙◌, subst}
use Rattle.stream_type.specs.StreamType.{type_of}
use Rattle.stream_prefix.specs.declared.prefix.Prefix.{Prefix}
use Rattle.stream_prefix.specs.StreamPrefix.{emp, der}
use Rattle.stream_prefix.specs.Tree.{prefix_of}
use Rattle.std.proofs.lemmas.Result.{err_from_is_err_and}
use Rattle.core_term.specs.declared.program.Core.{Core}
use Rattle.core_term.specs.CoreTerm.{CoreProgram, core_of}
use Rattle.core_term.specs.Meaning.{mean, calls_of, level_of}
use Rattle.delta_state.specs.declared.machine.StepRefusal.{StepRefusal}
use Rattle.delta_state.specs.declared.machine.StepRefusal.TheVariants.{Budget, Deep}
use Rattle.delta_state.specs.Stands.{input_type}
use Rattle.delta_step.specs.Reached.{run_of, rest_of}
use Rattle.machine_parts.specs.AwaitedTree.{awaited_in}
use Rattle.machine_parts.proofs.StandingTrees.{begins_answer, begins_costly, begins_deep}
use Rattle.machine_bounds.proofs.BelowBounds.{begins_below_with}
use Rattle.delta_step.proofs.machine.TreeMachine.start.Goals as goal

pub returns-in_err-run-clause-costly : goal.returns-in_err-run-clause-costly
returns-in_err-run-clause-costly c n q =
    let same = ap (λ (k : Core). core_of k) c.core-core.ensures.program in
    let exit = err_from_is_err_and c.from_residual-in_err-run.result c.from_residual-in_err-run.ensures.1 in
    let is : c.in_err-run.field-0.0 ≡ Budget n = cc (exit.1, exit.2, q) in
    let told = c.in_err-run.ensures.costly n (ap (λ (r : StepRefusal). Err r) is) in
    (told.0, subst (λ (p : CoreProgram). c.args.budget < calls_of p (emp (input_type p))) same (begins_costly (core_of c.core-core.result.now) c.args.budget told.1))

pub returns-in_err-run-clause-deep : goal.returns-in_err-run-clause-deep
returns-in_err-run-clause-deep c n q =
    let same = ap (λ (k : Core). core_of k) c.core-core.ensures.program in
    let exit = err_from_is_err_and c.from_residual-in_err-run.result c.from_residual-in_err-run.ensures.1 in
    let is : c.in_err-run.field-0.0 ≡ Deep n = cc (exit.1, exit.2, q) in
    let told = c.in_err-run.ensures.deep n (ap (λ (r : StepRefusal). Err r) is) in
    (told.0, subst (λ (p : CoreProgram). 1000 < level_of p (emp (input_type p))) same (begins_deep (core_of c.core-core.result.now) told.1))

pub returns-clause-stands : goal.returns-clause-stands
returns-clause-stands c =
    let d = core_of c.core-core.result.now in
    let same = ap (λ (k : Core). core_of k) c.core-core.ensures.program in
    let reached = c.in_ok-run.run' in
    begins_below_with d (record { is_core = c.core-core.ensures.core; is_typed = c.core-core.ensures.typed }) c.args.budget (run_of reached) (rest_of reached) c.in_ok-run.ensures.run c.in_ok-run.ensures.rest c.in_ok-run.ensures.counted c.requires.budget
    (core_of c.in_ok-core.core.value) (awaited_in c.in_ok-awaited.awaited.value) (type_of c.in_ok-input.input.value) (type_of c.in_ok-output.output.value)
    c.in_ok-core.ensures
    c.in_ok-awaited.ensures
    (c.in_ok-input.ensures ∙ (c.input-2.ensures ∙ ap (λ (p : CoreProgram). input_type p) (sym same)))
    (c.in_ok-output.ensures ∙ ap (λ (p : Prefix). der (prefix_of p) d.main.result) c.deref-2.ensures)

pub returns-clause-answer : goal.returns-clause-answer
returns-clause-answer c =
    let same = ap (λ (k : Core). core_of k) c.core-core.ensures.program in
    let is : c.into_inner.result ≡ c.in_ok-run.run'.output.value = cc (c.into_inner.ensures) in
    ap (λ (p : Prefix). prefix_of p) is ∙ (begins_answer (core_of c.core-core.result.now) (run_of c.in_ok-run.run') c.in_ok-run.ensures.run ∙ ap (λ (p : CoreProgram). mean p (emp (input_type p))) same)
