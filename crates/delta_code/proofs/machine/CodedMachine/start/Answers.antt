-- What the machine holds at its start is what it has to keep, and what it stops for is the program's.
use Rattle.std.proofs.Common.{◌≡◌, ◌<◌, Err, List, [], map, string_bytes, sym, ap, ◌∙◌, subst, refl}
use Rattle.std.specs.declared.alloc.Global.{Global}
use Rattle.std.specs.declared.string.String.{String}
use Rattle.stream_type.specs.declared.ty.Ty.{Ty}
use Rattle.stream_type.specs.StreamType.{type_of}
use Rattle.stream_prefix.specs.declared.prefix.Prefix.{Prefix}
use Rattle.stream_prefix.specs.StreamPrefix.{emp, der}
use Rattle.stream_prefix.specs.Tree.{prefix_of}
use Rattle.std.proofs.lemmas.Result.{err_from_is_err_and}
use Rattle.core_term.specs.declared.program.Core.{Core}
use Rattle.core_term.specs.CoreTerm.{CoreProgram, core_of}
use Rattle.core_term.specs.Meaning.{mean, calls_of, level_of}
use Rattle.delta_state.specs.declared.machine.StepRefusal.{StepRefusal}
use Rattle.delta_state.specs.declared.machine.StepRefusal.TheVariants.{Budget, Deep}
use Rattle.delta_state.specs.Stands.{input_type}
use Rattle.machine_parts.specs.AwaitedTree.{awaited_in}
use Rattle.machine_parts.proofs.StandingTrees.{begins_answer, begins_costly, begins_deep}
use Rattle.machine_kept.proofs.TidySteps.{begins_tidy_with, keeps_tidy_simpler}
use Rattle.state_rewriting.specs.Rewriting.{SimplerBy}
use Rattle.template_state.specs.Readers.{state_in}
use Rattle.template_state.specs.Templates.{bodies_in, body_in}
use Rattle.delta_code.specs.Begun.{run_of, rest_of}
use Rattle.state_rewriting.proofs.RewritingsInside.{by_then}
use Rattle.delta_code.proofs.SameProgram.{same_program}
use Rattle.delta_code.proofs.machine.CodedMachine.start.Goals as goal

pub returns-in_err-run-clause-costly : goal.returns-in_err-run-clause-costly
returns-in_err-run-clause-costly c n q =
    let same = ap (λ (k : Core). core_of k) c.core-core.ensures.program in
    let exit = err_from_is_err_and c.from_residual-in_err-run.result c.from_residual-in_err-run.ensures.1 in
    let is : c.in_err-run.field-0.0 ≡ Budget n = cc (exit.1, exit.2, q) in
    let told = c.in_err-run.ensures.costly n (ap (λ (r : StepRefusal). Err r) is) in
    (told.0, subst (λ (p : CoreProgram). c.args.budget < calls_of p (emp (input_type p))) same (begins_costly (core_of c.core-core.result.now) c.args.budget told.1))

pub returns-in_err-run-clause-deep : goal.returns-in_err-run-clause-deep
returns-in_err-run-clause-deep c n q =
    let same = ap (λ (k : Core). core_of k) c.core-core.ensures.program in
    let exit = err_from_is_err_and c.from_residual-in_err-run.result c.from_residual-in_err-run.ensures.1 in
    let is : c.in_err-run.field-0.0 ≡ Deep n = cc (exit.1, exit.2, q) in
    let told = c.in_err-run.ensures.deep n (ap (λ (r : StepRefusal). Err r) is) in
    (told.0, subst (λ (p : CoreProgram). 1000 < level_of p (emp (input_type p))) same (begins_deep (core_of c.core-core.result.now) told.1))

pub returns-clause-program : goal.returns-clause-program
returns-clause-program c =
    let d = core_of c.core-core.result.now in
    let code = c.in_ok-code.code.value in
    let texts : map string_bytes c.in_ok-texts.texts.items ≡ d.texts = c.in_ok-texts.ensures ∙ ap (λ (l : List (String Global)). map string_bytes l) c.deref-4.ensures.value in
    same_program d (bodies_in code) (body_in code.main) (map string_bytes c.in_ok-texts.texts.items) c.in_ok-code.ensures.funs c.in_ok-code.ensures.main texts ∙ ap (λ (k : Core). core_of k) c.core-core.ensures.program

pub returns-clause-stands : goal.returns-clause-stands
returns-clause-stands c =
    let d = core_of c.core-core.result.now in
    let same = ap (λ (k : Core). core_of k) c.core-core.ensures.program in
    let code = c.in_ok-code.code.value in
    let begun = c.in_ok-run.run' in
    let texts : map string_bytes c.in_ok-texts.texts.items ≡ d.texts = c.in_ok-texts.ensures ∙ ap (λ (l : List (String Global)). map string_bytes l) c.deref-4.ensures.value in
    let program : CoreProgram = record { funs = bodies_in code; main = body_in code.main; texts = map string_bytes c.in_ok-texts.texts.items } in
    let kept = begins_tidy_with d (record { is_core = c.core-core.ensures.core; is_typed = c.core-core.ensures.typed }) c.args.budget (run_of begun) _ c.in_ok-run.ensures.run refl c.in_ok-run.ensures.counted c.requires.budget
    program (awaited_in c.in_ok-awaited.awaited.value) (type_of c.in_ok-input.input.value) (type_of c.in_ok-output.output.value)
    (same_program d (bodies_in code) (body_in code.main) (map string_bytes c.in_ok-texts.texts.items) c.in_ok-code.ensures.funs c.in_ok-code.ensures.main texts)
    c.in_ok-awaited.ensures
    (c.in_ok-input.ensures ∙ (c.input-2.ensures ∙ ap (λ (p : CoreProgram). input_type p) (sym same)))
    (c.in_ok-output.ensures ∙ ap (λ (p : Prefix). der (prefix_of p) d.main.result) c.deref-3.ensures) in
    keeps_tidy_simpler program c.args.budget _ (state_in c.in_ok-state.state.value) (awaited_in c.in_ok-awaited.awaited.value) (type_of c.in_ok-input.input.value) (type_of c.in_ok-output.output.value) 0 begun.calls [] kept
    (by_then (c.in_ok-run.ensures.rest.at (type_of c.in_ok-output.output.value)) (subst (λ (t : Ty). SimplerBy (type_of t) (rest_of begun) (state_in c.in_ok-state.state.value)) c.deref-5.ensures c.in_ok-state.ensures))

pub returns-clause-answer : goal.returns-clause-answer
returns-clause-answer c =
    let same = ap (λ (k : Core). core_of k) c.core-core.ensures.program in
    let is : c.into_inner.result ≡ c.in_ok-run.run'.output.value = cc (c.into_inner.ensures) in
    ap (λ (p : Prefix). prefix_of p) is ∙ (begins_answer (core_of c.core-core.result.now) (run_of c.in_ok-run.run') c.in_ok-run.ensures.run ∙ ap (λ (p : CoreProgram). mean p (emp (input_type p))) same)
