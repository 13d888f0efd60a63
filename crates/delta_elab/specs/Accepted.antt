-- Which programs are accepted, and what is said of the others.
use Rattle.std.specs.Prelude.{ℕ, ◌≡◌, Some, Ok, Err, IsSomeAnd, slice_get}
use Rattle.delta_tree.specs.SyntaxTree.{ProgramTree}
use Rattle.core_term.specs.CoreTerm.{CoreProgram}
use Rattle.core_term.specs.Typing.{IsTypedCore}
use Rattle.core_term.specs.TypeFaults.{first_fault}
use Rattle.delta_check.specs.declared.fault.TypeCause.{TypeCause}
use Rattle.delta_check.specs.declared.fault.TypeFault.{TypeFault}
use Rattle.delta_check.specs.declared.fault.TypeFault.TheVariants as types
use Rattle.delta_check.specs.Faults.{cause_of}
use Rattle.delta_meaning.specs.NodePlaces.{program_places}
use Rattle.delta_meaning.specs.Elaborated.{elaborate}
use Rattle.delta_elab.specs.declared.fault.ProgramFault.{ProgramFault}
use Rattle.delta_elab.specs.declared.fault.ProgramFault.TheVariants.{Memory, Elab, «Type»}
use Rattle.delta_elab.specs.FirstFault.{fault_of}

-- a program is accepted with a core: it elaborates to it, and the core is typed
pub record IsAccepted (p : ProgramTree) (c : CoreProgram) : Type 0 where
  pub elaborated : elaborate p ≡ Ok c
  pub typed : IsTypedCore c

-- a program elaborates to a core that isn't typed: of its nodes the one with this number, at this place, is the
-- first that breaks a rule, and this is the rule
pub record IsUntyped (p : ProgramTree) (c : CoreProgram) (node at : ℕ) (cause : TypeCause) : Type 0 where
  pub elaborated : elaborate p ≡ Ok c
  pub untyped : IsTypedCore c → ⊥
  pub first : IsSomeAnd (cause_of cause) (λ k. first_fault c ≡ Some (node, k))
  pub place : slice_get (program_places p) node ≡ Some at

-- what a fault of the checker says of a program; it isn't want of memory
abbrev pub SaysUntyped : ProgramTree → TypeFault → Type 0
SaysUntyped p types.Memory = ⊥
SaysUntyped p (types.Refused node at cause) = (c : CoreProgram) × IsUntyped p c node at cause

-- what a fault says of a program: want of memory nothing, another one why the program isn't accepted
abbrev pub SaysWhy : ProgramTree → ProgramFault → Type 0
SaysWhy p Memory = Unit {0}
SaysWhy p (Elab e) = IsSomeAnd (fault_of e) (λ x. elaborate p ≡ Err x)
SaysWhy p («Type» f) = SaysUntyped p f
