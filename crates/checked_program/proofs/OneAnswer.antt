-- Texts have one answer: one program with one core, or one refusal.
use Rattle.std.specs.Prelude.{slice_get}
use Rattle.std.proofs.Common.{◌≡◌, ◌∙◌, inl, inr, ℕ, List, Option, Some, None, Ok, Err, sym, ap, ap₂, arith}
use Rattle.hist_value.specs.Refusal.{HistRefusal}
use Rattle.stream_type.specs.StreamType.{reach_of}
use Rattle.event_frame.specs.declared.version.Version.{Version}
use Rattle.delta_tree.specs.SyntaxTree.{ProgramTree}
use Rattle.core_term.specs.CoreTerm.{CoreProgram}
use Rattle.core_term.specs.TypeFaults.{Cause, first_fault}
use Rattle.core_term.proofs.Unbroken.{typed_is_unbroken}
use Rattle.delta_meaning.specs.Faults.{Fault}
use Rattle.delta_meaning.specs.NodePlaces.{program_places}
use Rattle.delta_meaning.specs.Elaborated.{elaborate}
use Rattle.program_refusal.specs.declared.refusal.Refusal.{Refusal}
use Rattle.program_refusal.specs.declared.refusal.RefusalName.TheVariants.{WideOutput}
use Rattle.program_text.specs.ProgramText.{IsTextOf, IsRefusedFor}
use Rattle.program_text.proofs.OneAnswer.{program_is_one, programs_are_not_refused}
use Rattle.program_text.proofs.OneAnswer.{refusal_is_one as text_refusal_is_one}
use Rattle.checked_program.specs.Naming.{refusal, refusal_of, name_of_rule}
use Rattle.checked_program.specs.Acceptance.{IsMisnamed, IsMistyped, IsElaboratedAs, IsUnelaborated, IsTooWide, IsWritable, IsRefusedToWrite}
use Rattle.checked_program.specs.Laws.{AcceptedIsOne, RefusalIsOne, AcceptedIsNotRefused, CoreIsJudged, WritingIsJudged}

-- a program elaborates to one core
core_is_one : (p q : ProgramTree) (c d : CoreProgram) → p ≡ q → elaborate p ≡ Ok c → elaborate q ≡ Ok d → c ≡ d
core_is_one p q c d e a b = let both : Ok c ≡ Ok d = sym a ∙ ap elaborate e ∙ b in cc

-- it doesn't both elaborate and not
not_both : (p q : ProgramTree) (c : CoreProgram) (x : Fault) → p ≡ q → elaborate p ≡ Ok c → elaborate q ≡ Err x → ⊥
not_both p q c x e a b = let both : Ok c ≡ Err x = sym a ∙ ap elaborate e ∙ b in cc

fault_is_one : (p q : ProgramTree) (x y : Fault) → p ≡ q → elaborate p ≡ Err x → elaborate q ≡ Err y → x ≡ y
fault_is_one p q x y e a b = let both : Err x ≡ Err y = sym a ∙ ap elaborate e ∙ b in cc

pub accepted_is_one : AcceptedIsOne
accepted_is_one text p q c d a b =
    let e = program_is_one text p q a.is_its b.is_its in
    (e, core_is_one p q c d e a.accepted.elaborated b.accepted.elaborated)

misnamed_is_one : (text : List ℕ) (w v : Refusal) → IsMisnamed text w → IsMisnamed text v → w ≡ v
misnamed_is_one text w v a b =
    let e = program_is_one text a.program b.program a.is_its b.is_its in
    a.is ∙ ap refusal_of (fault_is_one a.program b.program a.fault b.fault e a.found b.found) ∙ sym b.is

not_misnamed_and_mistyped : (text : List ℕ) (w v : Refusal) → IsMisnamed text w → IsMistyped text v → ⊥
not_misnamed_and_mistyped text w v a b =
    not_both b.program a.program b.breaks.core a.fault (program_is_one text b.program a.program b.is_its a.is_its) b.breaks.elaborated a.found

abbrev number_in : Option (ℕ × Cause HistRefusal) → ℕ
number_in None = 0
number_in (Some n) = n.0

abbrev rule_or : Cause HistRefusal → Option (ℕ × Cause HistRefusal) → Cause HistRefusal
rule_or k None = k
rule_or k (Some n) = n.1

abbrev place_in : Option ℕ → ℕ
place_in None = 0
place_in (Some at) = at

mistyped_is_one : (text : List ℕ) (w v : Refusal) → IsMistyped text w → IsMistyped text v → w ≡ v
mistyped_is_one text w v a b =
    let e = program_is_one text a.program b.program a.is_its b.is_its in
    let same = core_is_one a.program b.program a.breaks.core b.breaks.core e a.breaks.elaborated b.breaks.elaborated in
    let first : Some (a.breaks.node, a.rule) ≡ Some (b.breaks.node, b.rule) = sym a.breaks.first ∙ ap first_fault same ∙ b.breaks.first in
    let node : a.breaks.node ≡ b.breaks.node = ap number_in first in
    let rule : a.rule ≡ b.rule = ap (rule_or a.rule) first in
    let places : slice_get (program_places a.program) a.breaks.node ≡ slice_get (program_places b.program) b.breaks.node =
    ap (λ (p : ProgramTree). slice_get (program_places p) a.breaks.node) e ∙ ap (slice_get (program_places b.program)) node in
    let at : w.at ≡ v.at = ap place_in (sym a.breaks.place ∙ places ∙ b.breaks.place) in
    ap₂ refusal (a.is ∙ ap name_of_rule rule ∙ sym b.is) at

text_not_refused : (text : List ℕ) (w : Refusal) (p : ProgramTree) → IsRefusedFor text w → IsTextOf text p → ⊥
text_not_refused text w p r is = programs_are_not_refused text p w is r

pub refusal_is_one : RefusalIsOne
refusal_is_one text w v (inl a) (inl b) = text_refusal_is_one text w v a b
refusal_is_one text w v (inl a) (inr (inl b)) = absurd (text_not_refused text w b.program a b.is_its)
refusal_is_one text w v (inl a) (inr (inr b)) = absurd (text_not_refused text w b.program a b.is_its)
refusal_is_one text w v (inr (inl a)) (inl b) = absurd (text_not_refused text v a.program b a.is_its)
refusal_is_one text w v (inr (inr a)) (inl b) = absurd (text_not_refused text v a.program b a.is_its)
refusal_is_one text w v (inr (inl a)) (inr (inl b)) = misnamed_is_one text w v a b
refusal_is_one text w v (inr (inl a)) (inr (inr b)) = absurd (not_misnamed_and_mistyped text w v a b)
refusal_is_one text w v (inr (inr a)) (inr (inl b)) = absurd (not_misnamed_and_mistyped text v w b a)
refusal_is_one text w v (inr (inr a)) (inr (inr b)) = mistyped_is_one text w v a b

pub accepted_is_not_refused : AcceptedIsNotRefused
accepted_is_not_refused text p c w a (inl r) = text_not_refused text w p r a.is_its
accepted_is_not_refused text p c w a (inr (inl r)) =
    not_both p r.program c r.fault (program_is_one text p r.program a.is_its r.is_its) a.accepted.elaborated r.found
accepted_is_not_refused text p c w a (inr (inr r)) =
    let same = core_is_one p r.program c r.breaks.core (program_is_one text p r.program a.is_its r.is_its) a.accepted.elaborated r.breaks.elaborated in
    let none : first_fault c ≡ None = (typed_is_unbroken c).0 a.accepted.typed in
    let clash : None ≡ Some (r.breaks.node, r.rule) = sym none ∙ ap first_fault same ∙ r.breaks.first in cc

one_core : (text : List ℕ) (c d : CoreProgram) → IsElaboratedAs text c → IsElaboratedAs text d → c ≡ d
one_core text c d a b = core_is_one a.program b.program c d (program_is_one text a.program b.program a.is_its b.is_its) a.elaborated b.elaborated

one_refusal : (text : List ℕ) (w v : Refusal) → IsUnelaborated text w → IsUnelaborated text v → w ≡ v
one_refusal text w v (inl a) (inl b) = text_refusal_is_one text w v a b
one_refusal text w v (inl a) (inr b) = absurd (text_not_refused text w b.program a b.is_its)
one_refusal text w v (inr a) (inl b) = absurd (text_not_refused text v a.program b a.is_its)
one_refusal text w v (inr a) (inr b) = misnamed_is_one text w v a b

core_or_refusal : (text : List ℕ) (c : CoreProgram) (w : Refusal) → IsElaboratedAs text c → IsUnelaborated text w → ⊥
core_or_refusal text c w a (inl r) = text_not_refused text w a.program r a.is_its
core_or_refusal text c w a (inr r) = not_both a.program r.program c r.fault (program_is_one text a.program r.program a.is_its r.is_its) a.elaborated r.found

pub core_is_judged : CoreIsJudged
core_is_judged = record { core_is_one = one_core; refusal_is_one = one_refusal; not_refused = core_or_refusal }

wide_is_one : (text : List ℕ) (version : Version) (w v : Refusal) → IsTooWide text version w → IsTooWide text version v → w ≡ v
wide_is_one text version w v a b =
    let e = (accepted_is_one text a.program b.program a.core b.core a.accepted b.accepted).0 in
    a.is ∙ ap (λ (p : ProgramTree). refusal WideOutput p.main.at) e ∙ sym b.is

writing_refusal_is_one : (text : List ℕ) (version : Version) (w v : Refusal) → IsRefusedToWrite text version w → IsRefusedToWrite text version v → w ≡ v
writing_refusal_is_one text version w v (inl a) (inl b) = refusal_is_one text w v a b
writing_refusal_is_one text version w v (inl a) (inr b) = absurd (accepted_is_not_refused text b.program b.core w b.accepted a)
writing_refusal_is_one text version w v (inr a) (inl b) = absurd (accepted_is_not_refused text a.program a.core v a.accepted b)
writing_refusal_is_one text version w v (inr a) (inr b) = wide_is_one text version w v a b

writing_not_refused : (text : List ℕ) (version : Version) (p : ProgramTree) (c : CoreProgram) (w : Refusal) → IsWritable text version p c → IsRefusedToWrite text version w → ⊥
writing_not_refused text version p c w a (inl r) = accepted_is_not_refused text p c w a.accepted r
writing_not_refused text version p c w a (inr r) =
    let same : c ≡ r.core = (accepted_is_one text p r.program c r.core a.accepted r.accepted).1 in
    let reach : reach_of c.main.result ≡ reach_of r.core.main.result = ap (λ (d : CoreProgram). reach_of d.main.result) same in
    omega (arith, a.narrow, r.wide, reach)

pub writing_is_judged : WritingIsJudged
writing_is_judged = record { refusal_is_one = writing_refusal_is_one; not_refused = writing_not_refused }
