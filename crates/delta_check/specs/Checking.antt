-- What the check of nodes answers.
use Rattle.std.specs.Prelude.{ℕ, ◌≡◌, ◌+◌, Bool, List, [], ◌∷◌, length, Option, Result, Ok, Err, None}
use Rattle.stream_type.specs.StreamType.{StreamType}
use Rattle.hist_value.specs.Refusal.{HistRefusal}
use Rattle.core_term.specs.CoreTerm.{CoreTerm, CoreBody}
use Rattle.core_term.specs.Inert.{is_inert_fun}
use Rattle.core_term.specs.Typing.{Context}
use Rattle.core_term.specs.TypeFaults.{NodeAt, Cause, nodes_of, first_broken_of, expr_refusal}
use Rattle.delta_check.specs.declared.fault.TypeFault.{TypeFault}
use Rattle.delta_check.specs.declared.fault.TypeFault.TheVariants.{Memory, Refused}
use Rattle.delta_check.specs.Faults.{TellsFirst, TellsPlace}

-- what is answered of nodes that are numbered from n and stand at these places: the number after them
-- where none of them breaks a rule, and else the first one that does, with the rule and its place
abbrev pub Finds : List CoreBody → (ℕ → Bool) → ℕ → List NodeAt → List ℕ → Result ℕ TypeFault → Type 0
Finds funs counts n js places (Ok next) = (first_broken_of funs counts expr_refusal n js ≡ None) × (next ≡ n + length js)
Finds funs counts n js places (Err fault) = TellsFirst fault (first_broken_of funs counts expr_refusal n js) × TellsPlace fault n places

-- the nodes of a term's parts: all but the first
abbrev pub parts_of : List NodeAt → List NodeAt
parts_of [] = []
parts_of (j ∷ js) = js

-- a fault that isn't want of memory says that something isn't so
abbrev pub Denies : TypeFault → Type 0 → Type 0
Denies Memory P = Unit {0}
Denies (Refused node at cause) P = P → ⊥

-- the number of the first node of a term that breaks a rule in a context, counted from 0, and the first rule
-- that it breaks
abbrev pub fault_within : List CoreBody → Context → CoreTerm → StreamType → Option (ℕ × Cause HistRefusal)
fault_within funs c e r = first_broken_of funs (is_inert_fun funs) expr_refusal 0 (nodes_of funs (is_inert_fun funs) c e r)
