-- The text of the load's program is accepted, and as nothing else.
use Rattle.std.proofs.Common.{◌≡◌}
use Rattle.delta_tree.specs.SyntaxTree.{ProgramTree}
use Rattle.core_term.specs.CoreTerm.{CoreProgram}
use Rattle.program_refusal.specs.declared.refusal.Refusal.{Refusal}
use Rattle.checked_program.specs.Acceptance.{IsAcceptedAs, IsRefusedAs}
use Rattle.checked_program.proofs.OneAnswer.{accepted_is_one, accepted_is_not_refused}
use Rattle.delta_load.specs.LoadText.{load_text, load_tree}
use Rattle.delta_load.specs.LoadCore.{load_core}
use Rattle.delta_load.proofs.Belonging.{is_text}
use Rattle.delta_load.proofs.Elaborating.{elaborates, is_typed}
use Rattle.delta_load.specs.ProgramLaws.{TextIsAccepted}

pub text_is_accepted : TextIsAccepted
text_is_accepted = record { is_its = is_text; accepted = record { elaborated = elaborates; typed = is_typed } }

-- what is accepted of it has the core
pub core_is : (p : ProgramTree) (c : CoreProgram) → IsAcceptedAs load_text p c → c ≡ load_core
core_is p c accepted = (accepted_is_one load_text p load_tree c load_core accepted text_is_accepted).1

-- and it isn't refused
pub not_refused : (why : Refusal) → IsRefusedAs load_text why → ⊥
not_refused why refused = accepted_is_not_refused load_text load_tree load_core why text_is_accepted refused
