-- Environments: what stands at each name.
use Rattle.std.specs.Prelude.{ℕ, ◌==◌, List, [], ◌∷◌, if◌then◌else◌, Option, Some, None}
use Rattle.bunch.specs.declared.name.Name.{Name}
use Rattle.hist_value.specs.declared.history.Value.{Value}
use Rattle.hist_value.specs.declared.hist_type.HTy.{HTy}
use Rattle.hist_value.specs.HistType.{HistType, hist_type_of}
use Rattle.hist_value.specs.HistValue.{HistValue, unit_value, hist_value_of}

-- what the last entry at the name x holds, or d where there is none
abbrev pub entry_at : {A : Type 0} → A → List (ℕ × A) → ℕ → A
entry_at d [] x = d
entry_at d (e ∷ es) x = entry_at (if x == e.0 then e.1 else d) es x

-- the entries of a program's environment
abbrev pub entries_of : List (Name × Value) → List (ℕ × HistValue)
entries_of [] = []
entries_of (e ∷ es) = (e.0.0, hist_value_of e.1) ∷ entries_of es

-- the environment of a program's entries; where there is no entry the unit value stands
abbrev pub environment_of : List (Name × Value) → ℕ → HistValue
environment_of es = entry_at unit_value (entries_of es)

-- the entries of a program's environment of types
abbrev pub typed_entries_of : List (Name × HTy) → List (ℕ × Option HistType)
typed_entries_of [] = []
typed_entries_of (e ∷ es) = (e.0.0, Some (hist_type_of e.1)) ∷ typed_entries_of es

-- the types that a program's entries give to names
abbrev pub types_of : List (Name × HTy) → ℕ → Option HistType
types_of es = entry_at None (typed_entries_of es)
