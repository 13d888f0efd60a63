-- From the end of the check of a derivation to what its caller may know.
use Rattle.std.proofs.Common.{◌≡◌, inl, ℕ, List, None, Some, Result, subst}
use Rattle.port.specs.declared.fault.IoFault.{IoFault}
use Rattle.port.specs.Faults.{HasCause}
use Rattle.core_term.specs.CoreTerm.{CoreProgram}
use Rattle.delta_end.specs.declared.objection.Objection.TheVariants.{Derivation, Bound, Table, State}
use Rattle.delta_end.specs.declared.end.End.{End}
use Rattle.delta_end.specs.declared.end.End.TheVariants.{Done, Usage, Refused, Input, Budget, Deep, Open, FileFailed, ReadFailed, WriteFailed, Memory, Long, Objected}
use Rattle.delta_end.specs.End.{FileCause}
use Rattle.delta_end.specs.Status.{AnswerOf, IsStill}
use Rattle.delta_end.proofs.Statuses.{not_rose, answered, answered_eight}
use Rattle.checked_program.specs.Acceptance.{IsElaboratedAs}
use Rattle.checked_program.proofs.OneAnswer.{core_is_judged}
use Rattle.commands.specs.Deriving.{IsDerivation, DerivesText}
use Rattle.delta_run.specs.Derived.{PassesDerived, RefusesUnderived, RefusesUnelaborated}

module _ (text proof : List ℕ) (file0 file1 note0 note1 : ℕ) (file_still : IsStill file0 file1) (note_still : IsStill note0 note1) (said : Result (Unit {0}) IoFault) (status : ℕ) (cause : HasCause said note0 note1) where
  wanting : AnswerOf Memory said status → status ≡ 8
  wanting is = answered_eight said status note0 note1 is cause note_still

  -- a text has one core
  of_same : (c d : CoreProgram) → IsElaboratedAs text c → IsElaboratedAs text d → IsDerivation c proof → IsDerivation d proof
  of_same c d a b is = subst (λ (e : CoreProgram). IsDerivation e proof) (core_is_judged.core_is_one text c d a b) is

  -- a derivation passes
  pub passes_derived : (end : End) → DerivesText text proof end → FileCause end file0 file1 → AnswerOf end said status → PassesDerived text proof status
  passes_derived Done derives file is derived = answered Done said status note0 note1 is cause note_still
  passes_derived Memory derives file is derived = inl (wanting is)
  passes_derived FileFailed derives file is derived = absurd (not_rose file0 file1 file file_still)
  passes_derived (Refused (Some wrong)) derives file is derived = absurd (core_is_judged.not_refused text derived.core wrong derived.elaborated derives)
  passes_derived (Objected (Derivation told there)) derives file is derived = absurd (derives.refuted.invalid (of_same derived.core derives.core derived.elaborated derives.elaborated derived.derivation))
  passes_derived (Refused None) derives file is derived = absurd derives
  passes_derived (Objected (Bound told there)) derives file is derived = absurd derives
  passes_derived (Objected (Table told there row)) derives file is derived = absurd derives
  passes_derived (Objected (State told there)) derives file is derived = absurd derives
  passes_derived Usage derives file is derived = absurd derives
  passes_derived (Input fault) derives file is derived = absurd derives
  passes_derived (Budget place) derives file is derived = absurd derives
  passes_derived (Deep place) derives file is derived = absurd derives
  passes_derived Open derives file is derived = absurd derives
  passes_derived ReadFailed derives file is derived = absurd derives
  passes_derived WriteFailed derives file is derived = absurd derives
  passes_derived Long derives file is derived = absurd derives

  -- and what is none doesn't
  pub refuses_underived : (end : End) → DerivesText text proof end → FileCause end file0 file1 → AnswerOf end said status → RefusesUnderived text proof status
  refuses_underived Done derives file is why at under = absurd (under.refuted.invalid (of_same derives.core under.core derives.elaborated under.elaborated derives.derivation))
  refuses_underived Memory derives file is why at under = inl (wanting is)
  refuses_underived FileFailed derives file is why at under = absurd (not_rose file0 file1 file file_still)
  refuses_underived (Refused (Some wrong)) derives file is why at under = absurd (core_is_judged.not_refused text under.core wrong under.elaborated derives)
  refuses_underived (Objected (Derivation told there)) derives file is why at under = answered (Objected (Derivation told there)) said status note0 note1 is cause note_still
  refuses_underived (Refused None) derives file is why at under = absurd derives
  refuses_underived (Objected (Bound told there)) derives file is why at under = absurd derives
  refuses_underived (Objected (Table told there row)) derives file is why at under = absurd derives
  refuses_underived (Objected (State told there)) derives file is why at under = absurd derives
  refuses_underived Usage derives file is why at under = absurd derives
  refuses_underived (Input fault) derives file is why at under = absurd derives
  refuses_underived (Budget place) derives file is why at under = absurd derives
  refuses_underived (Deep place) derives file is why at under = absurd derives
  refuses_underived Open derives file is why at under = absurd derives
  refuses_underived ReadFailed derives file is why at under = absurd derives
  refuses_underived WriteFailed derives file is why at under = absurd derives
  refuses_underived Long derives file is why at under = absurd derives

  -- a text without a core is refused
  pub refuses_unelaborated : (end : End) → DerivesText text proof end → FileCause end file0 file1 → AnswerOf end said status → RefusesUnelaborated text status
  refuses_unelaborated Done derives file is why r = absurd (core_is_judged.not_refused text derives.core why derives.elaborated r)
  refuses_unelaborated Memory derives file is why r = inl (wanting is)
  refuses_unelaborated FileFailed derives file is why r = absurd (not_rose file0 file1 file file_still)
  refuses_unelaborated (Refused (Some wrong)) derives file is why r = answered (Refused (Some wrong)) said status note0 note1 is cause note_still
  refuses_unelaborated (Objected (Derivation told there)) derives file is why r = absurd (core_is_judged.not_refused text derives.core why derives.elaborated r)
  refuses_unelaborated (Refused None) derives file is why r = absurd derives
  refuses_unelaborated (Objected (Bound told there)) derives file is why r = absurd derives
  refuses_unelaborated (Objected (Table told there row)) derives file is why r = absurd derives
  refuses_unelaborated (Objected (State told there)) derives file is why r = absurd derives
  refuses_unelaborated Usage derives file is why r = absurd derives
  refuses_unelaborated (Input fault) derives file is why r = absurd derives
  refuses_unelaborated (Budget place) derives file is why r = absurd derives
  refuses_unelaborated (Deep place) derives file is why r = absurd derives
  refuses_unelaborated Open derives file is why r = absurd derives
  refuses_unelaborated ReadFailed derives file is why r = absurd derives
  refuses_unelaborated WriteFailed derives file is why r = absurd derives
  refuses_unelaborated Long derives file is why r = absurd derives
