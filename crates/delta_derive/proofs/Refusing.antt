-- What a text without a fault, and one with a fault, says of a program.
use Rattle.std.proofs.Common.{◌≡◌, ◌∙◌, ℕ, List, sym}
use Rattle.std.specs.Prelude.{None}
use Rattle.core_term.specs.CoreTerm.{CoreProgram}
use Rattle.core_term.specs.FreeNames.{IsCore}
use Rattle.core_term.specs.Typing.{IsTypedCore}
use Rattle.bunch_rules.proofs.Lines.{written_program_is_typed}
use Rattle.delta_derive.specs.declared.fault.DeriveFault.{DeriveFault}
use Rattle.delta_derive.specs.declared.fault.DeriveFault.TheVariants.{Memory, BadLine, BadStep, BadRule, Short, Long}
use Rattle.delta_derive.specs.FirstFault.{first_fault, IsValidText, TellsFirst, Denies}
use Rattle.delta_derive.proofs.Options.{none_some}
use Rattle.delta_derive.proofs.Texts.{faultless_is_valid, valid_is_faultless}

pub typed_text : (c : CoreProgram) (text : List ℕ) → IsCore c → first_fault c text ≡ None → IsTypedCore c
typed_text c text core e = let v = faultless_is_valid c text e in written_program_is_typed c v.0 core v.2

pub denied : (c : CoreProgram) (text : List ℕ) (f : DeriveFault) → IsCore c → TellsFirst f (first_fault c text) → Denies f (IsValidText c text)
denied c text Memory core h = tt
denied c text (BadLine n) core h = λ v. none_some (sym (valid_is_faultless c text core v) ∙ h)
denied c text (BadStep n) core h = λ v. none_some (sym (valid_is_faultless c text core v) ∙ h)
denied c text (BadRule n) core h = λ v. none_some (sym (valid_is_faultless c text core v) ∙ h)
denied c text (Short n) core h = λ v. none_some (sym (valid_is_faultless c text core v) ∙ h)
denied c text (Long n) core h = λ v. none_some (sym (valid_is_faultless c text core v) ∙ h)

pub ruleset refusing = (faultless_is_valid, typed_text, denied)
