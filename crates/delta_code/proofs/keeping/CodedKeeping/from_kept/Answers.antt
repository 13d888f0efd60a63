-- The machine has what was kept, and stands for it before anything more comes.
use Rattle.std.proofs.Common.{◌≡◌, ◌∙◌, Bool, List, map, string_bytes, ap, ap₂, sym, subst, refl}
use Rattle.std.specs.declared.alloc.Global.{Global}
use Rattle.std.specs.declared.string.String.{String}
use Rattle.stream_type.specs.declared.ty.Ty.{Ty}
use Rattle.stream_type.specs.StreamType.{type_of}
use Rattle.core_term.specs.declared.program.Core.{Core}
use Rattle.core_term.specs.CoreTerm.{CoreProgram, core_of}
use Rattle.delta_state.specs.PlainState.{without_marks}
use Rattle.machine_parts.specs.declared.awaited.Awaited.{Awaited}
use Rattle.machine_parts.specs.AwaitedTree.{awaited_in, place_in}
use Rattle.kept_state.specs.KeptPlace.{types_left}
use Rattle.kept_state.specs.KeptTyping.{IsTypedKept, types_kept}
use Rattle.delta_keep.specs.declared.kept.KeptState.{KeptState}
use Rattle.delta_keep.specs.KeptView.{kept_of, state_of}
use Rattle.machine_kept.specs.KeptAwaiting.{awaited_left, awaited_type}
use Rattle.machine_kept.proofs.KeptAwaited.{type_awaited}
use Rattle.machine_kept.proofs.SinceSteps.{place_resumed, resumes_with}
use Rattle.template_state.specs.Readers.{state_in}
use Rattle.template_state.specs.Templates.{bodies_in, body_in}
use Rattle.delta_code.proofs.SameProgram.{same_program}
use Rattle.delta_code.proofs.keeping.CodedKeeping.from_kept.Goals as goal

pub returns-clause-program : goal.returns-clause-program
returns-clause-program c =
    let d = core_of c.core-core.result.now in
    let code = c.in_ok-code.code.value in
    let texts : map string_bytes c.in_ok-texts.texts.items ≡ d.texts = c.in_ok-texts.ensures ∙ ap (λ (l : List (String Global)). map string_bytes l) c.deref.ensures.value in
    same_program d (bodies_in code) (body_in code.main) (map string_bytes c.in_ok-texts.texts.items) c.in_ok-code.ensures.funs c.in_ok-code.ensures.main texts ∙ ap (λ (k : Core). core_of k) c.core-core.ensures.program

pub returns-clause-place : goal.returns-clause-place
returns-clause-place c =
    let d = core_of c.core-core.result.now in
    let k = kept_of c.args.k.now in
    let same = ap (λ (l : Core). core_of l) c.core-core.ensures.program in
    let typed : IsTypedKept d k = subst (λ (p : CoreProgram). IsTypedKept p k) (sym same) c.requires.typed in
    ap place_in
    (c.in_ok-awaited.ensures ∙ ap₂ (λ (ts : List Ty) (cs : List Bool). awaited_left d.main.params (types_left d.main.params (map type_of ts)) cs) c.deref-2.ensures.value c.deref-3.ensures.value)
    ∙ place_resumed d (record { is_core = c.core-core.ensures.core; is_typed = c.core-core.ensures.typed }) k typed

pub returns-clause-state : goal.returns-clause-state
returns-clause-state c = ap without_marks (c.in_ok-state.ensures ∙ ap (λ (s : KeptState). state_of s) c.deref-6.ensures)

pub returns-clause-stands : goal.returns-clause-stands
returns-clause-stands c =
    let d = core_of c.core-core.result.now in
    let k = kept_of c.args.k.now in
    let same = ap (λ (l : Core). core_of l) c.core-core.ensures.program in
    let typed : IsTypedKept d k = subst (λ (p : CoreProgram). IsTypedKept p k) (sym same) c.requires.typed in
    let code = c.in_ok-code.code.value in
    let texts : map string_bytes c.in_ok-texts.texts.items ≡ d.texts = c.in_ok-texts.ensures ∙ ap (λ (l : List (String Global)). map string_bytes l) c.deref.ensures.value in
    let program : CoreProgram = record { funs = bodies_in code; main = body_in code.main; texts = map string_bytes c.in_ok-texts.texts.items } in
    let awaits = c.in_ok-awaited.ensures ∙ ap₂ (λ (ts : List Ty) (cs : List Bool). awaited_left d.main.params (types_left d.main.params (map type_of ts)) cs) c.deref-2.ensures.value c.deref-3.ensures.value in
    resumes_with d (record { is_core = c.core-core.ensures.core; is_typed = c.core-core.ensures.typed }) k typed c.args.budget c.requires.budget
    program (state_in c.in_ok-state.state.value) (awaited_in c.in_ok-awaited.awaited.value) (type_of c.in_ok-input.input.value) (type_of c.in_ok-output.output.value) c.args.k.now.events
    (same_program d (bodies_in code) (body_in code.main) (map string_bytes c.in_ok-texts.texts.items) c.in_ok-code.ensures.funs c.in_ok-code.ensures.main texts)
    (c.in_ok-state.ensures ∙ ap (λ (s : KeptState). state_of s) c.deref-6.ensures)
    awaits
    (c.in_ok-input.ensures ∙ (ap awaited_type (ap (λ (a : Awaited). awaited_in a) c.deref-4.ensures ∙ awaits) ∙ type_awaited d.main.params (types_kept d k) k.cuts))
    (c.in_ok-output.ensures ∙ ap (λ (t : Ty). type_of t) c.deref-5.ensures)
    refl
