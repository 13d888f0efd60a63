-- From what is said of a program to what its text is refused for.
use Rattle.std.proofs.Common.{◌≡◌, ℕ, List, Option, Some, None, Err}
use Rattle.std.specs.Prelude.{IsSomeAnd, IfSome, option_map}
use Rattle.hist_value.specs.Refusal.{HistRefusal}
use Rattle.delta_tree.specs.SyntaxTree.{ProgramTree}
use Rattle.core_term.specs.CoreTerm.{CoreProgram}
use Rattle.core_term.specs.TypeFaults.{Cause, first_fault}
use Rattle.delta_check.specs.declared.fault.TypeCause.{TypeCause}
use Rattle.delta_check.specs.Faults.{cause_of}
use Rattle.delta_elab.specs.Accepted.{IsUntyped}
use Rattle.delta_meaning.specs.Faults.{Fault}
use Rattle.delta_meaning.specs.Elaborated.{elaborate}
use Rattle.program_refusal.specs.declared.refusal.Refusal.{Refusal}
use Rattle.program_refusal.specs.declared.refusal.RefusalName.{RefusalName}
use Rattle.program_text.specs.ProgramText.{IsTextOf}
use Rattle.checked_program.specs.Naming.{refusal, refusal_of, name_of_rule}
use Rattle.checked_program.specs.Acceptance.{IsMisnamed, IsMistyped}

-- a broken rule by its name, at its place
pub mistyped : (text : List ℕ) (p : ProgramTree) (c : CoreProgram) (node at : ℕ) (cause : TypeCause) (name : RefusalName) → IsTextOf text p → IsUntyped p c node at cause
    → IfSome (cause_of cause) (λ rule. name ≡ name_of_rule rule) → IsMistyped text (refusal name at)
mistyped text p c node at cause name is untyped named = go (cause_of cause) untyped.first named
  where
    go : (o : Option (Cause HistRefusal)) → IsSomeAnd o (λ k. first_fault c ≡ Some (node, k)) → IfSome o (λ rule. name ≡ name_of_rule rule) → IsMistyped text (refusal name at)
    go None none named = absurd none
    go (Some rule) first named = record {
      program = p;
      is_its = is;
      rule = rule;
      breaks = record { core = c; elaborated = untyped.elaborated; node = node; first = first; place = untyped.place };
      is = named;
    }

-- a fault of names and types by its name, at its place
pub misnamed : (text : List ℕ) (p : ProgramTree) (o : Option Fault) (why : Refusal) → IsTextOf text p → IfSome o (λ x. elaborate p ≡ Err x) → Some why ≡ option_map refusal_of o → IsMisnamed text why
misnamed text p None why is found told = absurd (let none : ⊥ = cc in none)
misnamed text p (Some x) why is found told = record { program = p; is_its = is; fault = x; found = found; is = cc }
