-- What is said of a program that isn't accepted, and what holds of one that is.
use Rattle.std.proofs.Common.{◌≡◌, ◌≤◌, ◌<◌, ◌^◌, ℕ, List, Option, Some, None, Ok, Err, refl, sym, ap₂, ◌∙◌, subst, arith}
use Rattle.std.specs.Prelude.{IsTrue, IsSomeAnd, slice_get}
use Rattle.stream_type.specs.StreamType.{StreamType}
use Rattle.stream_prefix.specs.StreamPrefix.{IsPrefix, IsPart, is_maximal}
use Rattle.delta_tree.specs.SyntaxTree.{ProgramTree}
use Rattle.core_term.specs.CoreTerm.{CoreProgram}
use Rattle.core_term.specs.Run.{Run}
use Rattle.core_term.specs.Typing.{IsTypedCore}
use Rattle.core_term.specs.TypeFaults.{first_fault}
use Rattle.core_term.specs.Meaning.{horizon, program_run}
use Rattle.core_term.proofs.TypedRuns.{mean_grows}
use Rattle.core_term.proofs.WholeRuns.{mean_is_whole}
use Rattle.delta_check.specs.declared.fault.TypeFault.{TypeFault}
use Rattle.delta_check.specs.declared.fault.TypeFault.TheVariants as types
use Rattle.delta_check.specs.Checking.{Denies}
use Rattle.delta_check.specs.Faults.{TellsFirst, TellsPlace}
use Rattle.delta_meaning.specs.SourceBody.{main_of}
use Rattle.delta_meaning.specs.SourceMeaning.{source_program_run}
use Rattle.delta_meaning.proofs.BoundOnce.{elaborated_is_core}
use Rattle.delta_meaning.proofs.WholePrograms.{core_keeps_meaning}
use Rattle.delta_meaning.proofs.KeptTypes.{elaborated_has_types}
use Rattle.delta_meaning.specs.NodePlaces.{program_places}
use Rattle.delta_meaning.specs.Elaborated.{elaborate}
use Rattle.delta_meaning.specs.Faults.{Fault}
use Rattle.delta_elab.specs.declared.fault.ProgramFault.TheVariants.{Memory, Elab, «Type»}
use Rattle.delta_elab.specs.FirstFault.{fault_of}
use Rattle.delta_elab.specs.ProgramFaults.{of_type}
use Rattle.delta_elab.specs.Accepted.{SaysWhy}
use Rattle.delta_elab.specs.Laws.{AcceptedIsNotRefused, AcceptedGrows, AcceptedIsWhole}

-- what a fault of the checker says, where these are the places of the core's nodes
pub says-type : (p : ProgramTree) (c : CoreProgram) (places : List ℕ) (f : TypeFault) → elaborate p ≡ Ok c → places ≡ program_places p
    → Denies f (IsTypedCore c) → TellsFirst f (first_fault c) → TellsPlace f 0 places → SaysWhy p (of_type f)
says-type p c places types.Memory elaborated same untyped first place = tt
says-type p c places (types.Refused node at cause) elaborated same untyped first place =
    let number : node ≡ place.0 = omega (arith, place.1) in (
      c,
      record {
        elaborated = elaborated;
        untyped = untyped;
        first = first;
        place = ap₂ slice_get (sym same) number ∙ place.2;
      },
    )

-- a program isn't both accepted and refused
pub accepted_is_not_refused : AcceptedIsNotRefused
accepted_is_not_refused p c Memory a h = refl
accepted_is_not_refused p c (Elab e) a h = absurd (go (fault_of e) h)
  where
    go : (o : Option Fault) → IsSomeAnd o (λ x. elaborate p ≡ Err x) → ⊥
    go None k = k
    go (Some x) k = cc (a.elaborated, k)
accepted_is_not_refused p c («Type» types.Memory) a h = absurd h
accepted_is_not_refused p c («Type» (types.Refused node at cause)) a h =
    let same : c ≡ h.0 = cc (a.elaborated, h.1.elaborated) in
    absurd (h.1.untyped (subst IsTypedCore same a.typed))

below_horizon : (n : ℕ) → n < 2 ^ 62 → n ≤ horizon
unfolding horizon
below_horizon n lt = omega arith

pub accepted_grows : AcceptedGrows
accepted_grows p c a q more is_prefix is_part =
    let types = elaborated_has_types p c a.elaborated in
    let input = sym types.input in
    let grows = mean_grows c (elaborated_is_core p c a.elaborated) a.typed q more
    (subst (λ (t : StreamType). IsPrefix t q) input is_prefix) (subst (λ (t : StreamType). IsPart t q more) input is_part) in
    let first = core_keeps_meaning p c a.elaborated a.typed q in
    let second = core_keeps_meaning p c a.elaborated a.typed more in
    let result = subst (λ (t : StreamType). IsPart t (program_run c q).out (program_run c more).out) types.result grows.0 in
    let out = subst (λ (r : Run). IsPart (main_of p).result r.out (program_run c more).out) first result in
    let calls = subst (λ (r : Run). r.calls ≤ (program_run c more).calls) first grows.1 in (
      subst (λ (r : Run). IsPart (main_of p).result (source_program_run p q).out r.out) second out,
      subst (λ (r : Run). (source_program_run p q).calls ≤ r.calls) second calls,
    )

pub accepted_is_whole : AcceptedIsWhole
accepted_is_whole p c a q is_prefix whole few =
    let types = elaborated_has_types p c a.elaborated in
    let same = core_keeps_meaning p c a.elaborated a.typed q in
    let calls = subst (λ (r : Run). r.calls ≤ horizon) (sym same) (below_horizon _ few) in
    subst (λ (r : Run). IsTrue (is_maximal r.out)) same
    (mean_is_whole c (elaborated_is_core p c a.elaborated) a.typed q (subst (λ (t : StreamType). IsPrefix t q) (sym types.input) is_prefix) whole calls)
