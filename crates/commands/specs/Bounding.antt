-- What the command that tells a bound does, by how it ended.
use Rattle.std.specs.Prelude.{◌≡◌, ◌⊎◌, ◌<◌, ℕ, List, [], ◌∷◌, ◌++◌, None, Some, codes, decimal, slice_get}
use Rattle.core_term.specs.CoreTerm.{CoreProgram}
use Rattle.state_bounds.specs.Bounds.{limit}
use Rattle.state_bounds.specs.ProgramBound.{program_bound, first_cycle}
use Rattle.delta_tree.specs.SyntaxTree.{ProgramTree}
use Rattle.delta_meaning.specs.NodePlaces.{program_places}
use Rattle.delta_end.specs.declared.objection.BoundName.{BoundName}
use Rattle.delta_end.specs.declared.objection.BoundName.TheVariants.{Unbounded, Cycle, Large}
use Rattle.delta_end.specs.declared.objection.Objection.TheVariants.{Derivation, Bound, Table, State}
use Rattle.delta_end.specs.declared.end.End.{End}
use Rattle.delta_end.specs.declared.end.End.TheVariants.{Done, Usage, Refused, Input, Budget, Deep, Open, FileFailed, ReadFailed, WriteFailed, Memory, Long, Objected}
use Rattle.checked_program.specs.Acceptance.{IsAcceptedAs, IsRefusedAs}
use Rattle.delta_loop.specs.Return.{Begins}
use Rattle.commands.specs.Unsized.{core_unsized, bodies_at}

-- n is the bound of a program whose nodes have these places, and below the limit: no case and no wait that is
-- reached counts a name without a size, and no function's number still grows
pub record IsBound (places : List ℕ) (c : CoreProgram) (n : ℕ) : Type 0 where
  pub sized : core_unsized places c ≡ None
  pub settled : first_cycle c ≡ None
  pub is_bound : program_bound c ≡ Some n
  pub is_small : n < limit

-- why a program has none, and where: the place of the first case or wait that counts a name without a size; or else
-- that of the body of the lowest function whose number still grows; or else that the bound is the limit, at 0
abbrev pub HasNoBound : List ℕ → CoreProgram → BoundName → ℕ → Type 0
HasNoBound places c Unbounded at = (x : ℕ) × (core_unsized places c ≡ Some (x, at))
HasNoBound places c Cycle at = (core_unsized places c ≡ None) × (f : ℕ) × (first_cycle c ≡ Some f) × (slice_get (bodies_at places c.funs) f ≡ Some at)
HasNoBound places c Large at = (core_unsized places c ≡ None) × (first_cycle c ≡ None) × (program_bound c ≡ Some limit) × (at ≡ 0)

-- the text is accepted, and its program has this bound
pub record IsBounded (text : List ℕ) (n : ℕ) : Type 0 where
  pub program : ProgramTree
  pub core : CoreProgram
  pub accepted : IsAcceptedAs text program core
  pub bound : IsBound (program_places program) core n

-- the text is accepted, and its program has no bound for this cause, at this place
pub record IsUnbounded (text : List ℕ) (why : BoundName) (at : ℕ) : Type 0 where
  pub program : ProgramTree
  pub core : CoreProgram
  pub accepted : IsAcceptedAs text program core
  pub no_bound : HasNoBound (program_places program) core why at

-- the line that tells a bound
abbrev pub bound_line : ℕ → List ℕ
bound_line n = codes "bound " ++ (decimal n ++ 10 ∷ [])

-- the line that tells the bound of the text's program was written
pub record TellsAll (text written : List ℕ) : Type 0 where
  pub number : ℕ
  pub bounded : IsBounded text number
  pub all : written ≡ bound_line number

-- a front of it was written
pub record TellsFront (text written : List ℕ) : Type 0 where
  pub number : ℕ
  pub bounded : IsBounded text number
  pub front : Begins written (bound_line number)

-- these bytes were written for the text, and then the command ended so
abbrev pub Tells : List ℕ → List ℕ → End → Type 0
Tells text written Done = TellsAll text written
Tells text written (Refused None) = ⊥
Tells text written (Refused (Some why)) = IsRefusedAs text why × (written ≡ [])
Tells text written (Objected (Bound why at)) = IsUnbounded text why at × (written ≡ [])
Tells text written (Objected (Derivation why at)) = ⊥
Tells text written (Objected (Table name file row)) = ⊥
Tells text written (Objected (State name at)) = ⊥
Tells text written WriteFailed = TellsFront text written
Tells text written Memory = (written ≡ []) ⊎ TellsFront text written
Tells text written Usage = ⊥
Tells text written (Input fault) = ⊥
Tells text written Open = ⊥
Tells text written (Budget at) = ⊥
Tells text written (Deep at) = ⊥
Tells text written FileFailed = ⊥
Tells text written ReadFailed = ⊥
Tells text written Long = ⊥
