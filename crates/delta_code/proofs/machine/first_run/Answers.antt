-- The first run is that of main's body on the names at the start, with all the depth there is.
use Rattle.std.proofs.Common.{◌≡◌, ◌<◌, List, map, sym, ap, ap₂, ◌∙◌, subst, refl}
use Rattle.stream_prefix.specs.StreamPrefix.{emp}
use Rattle.core_term.specs.CoreTerm.{core_of}
use Rattle.core_term.specs.Run.{Run}
use Rattle.delta_state.specs.declared.machine.StepRefusal.TheVariants.{Budget, Deep}
use Rattle.delta_state.specs.Stands.{input_type}
use Rattle.machine_parts.specs.declared.entry.Entry.{Entry}
use Rattle.machine_parts.specs.Entry.{entry_in}
use Rattle.machine_parts.specs.AwaitedTree.{whole_of, entries_on}
use Rattle.machine_parts.proofs.StandingTrees.{horizon_is}
use Rattle.template_state.specs.Templates.{bodies_in, body_in}
use Rattle.delta_code.proofs.Easing.{same_eased}
use Rattle.delta_code.proofs.SameProgram.{same_run, same_rest}
use Rattle.delta_code.proofs.machine.first_run.Goals as goal

pub returns-in-Ok-clause-run : goal.returns-in-Ok-clause-run
returns-in-Ok-clause-run c =
    let d = core_of c.args.core.now in
    let same : map entry_in c.deref.result.now ≡ entries_on (whole_of d.main.params) (emp (input_type d)) =
    ap (λ (l : List Entry). map entry_in l) c.deref.ensures.value ∙ (c.in_ok-entries.ensures ∙ ap₂ entries_on c.requires.awaited (c.in_ok-nothing.ensures ∙ ap emp c.requires.input)) in
    c.in-Ok.ensures.run ∙ same_run d (bodies_in c.args.code.now) _ (body_in c.args.code.now.main) _ _ _ c.requires.funs (sym horizon_is) c.requires.main c.in_ok-past.ensures same

pub returns-in-Ok-clause-rest : goal.returns-in-Ok-clause-rest
returns-in-Ok-clause-rest c =
    let d = core_of c.args.core.now in
    let same : map entry_in c.deref.result.now ≡ entries_on (whole_of d.main.params) (emp (input_type d)) =
    ap (λ (l : List Entry). map entry_in l) c.deref.ensures.value ∙ (c.in_ok-entries.ensures ∙ ap₂ entries_on c.requires.awaited (c.in_ok-nothing.ensures ∙ ap emp c.requires.input)) in
    same_eased c.in-Ok.ensures.rest (sym (same_rest d (bodies_in c.args.code.now) _ (body_in c.args.code.now.main) _ _ _ c.requires.funs (sym horizon_is) c.requires.main c.in_ok-past.ensures same)) refl

pub returns-clause-costly : goal.returns-clause-costly
returns-clause-costly c n q =
    let d = core_of c.args.core.now in
    let same : map entry_in c.deref.result.now ≡ entries_on (whole_of d.main.params) (emp (input_type d)) =
    ap (λ (l : List Entry). map entry_in l) c.deref.ensures.value ∙ (c.in_ok-entries.ensures ∙ ap₂ entries_on c.requires.awaited (c.in_ok-nothing.ensures ∙ ap emp c.requires.input)) in
    let is : c.refusal.result ≡ Budget n = cc in
    let told = c.refusal.ensures.budget n is in
    (told.0, subst (λ (r : Run). c.args.budget < r.calls) (same_run d (bodies_in c.args.code.now) _ (body_in c.args.code.now.main) _ _ _ c.requires.funs (sym horizon_is) c.requires.main c.in_ok-past.ensures same) (c.in-Err.ensures.spent told.1))

pub returns-clause-deep : goal.returns-clause-deep
returns-clause-deep c n q =
    let d = core_of c.args.core.now in
    let same : map entry_in c.deref.result.now ≡ entries_on (whole_of d.main.params) (emp (input_type d)) =
    ap (λ (l : List Entry). map entry_in l) c.deref.ensures.value ∙ (c.in_ok-entries.ensures ∙ ap₂ entries_on c.requires.awaited (c.in_ok-nothing.ensures ∙ ap emp c.requires.input)) in
    let is : c.refusal.result ≡ Deep n = cc in
    let told = c.refusal.ensures.deep n is in
    (told.0, subst (λ (r : Run). 1001 < r.level) (same_run d (bodies_in c.args.code.now) _ (body_in c.args.code.now.main) _ _ _ c.requires.funs (sym horizon_is) c.requires.main c.in_ok-past.ensures same) (c.in-Err.ensures.deep told.1))
