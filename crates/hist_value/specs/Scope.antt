-- What the program's scopes stand for.
use Rattle.std.specs.Prelude.{ℕ, Option, Some}
use Rattle.hist_value.specs.declared.scope.Scope.{Scope}
use Rattle.hist_value.specs.declared.scope.Scope.TheVariants.{Entries, Bound'}
use Rattle.hist_value.specs.declared.type_scope.TypeScope.{TypeScope}
use Rattle.hist_value.specs.declared.type_scope.TypeScope.TheVariants.{Entries as TypedEntries, Bound' as TypedBound'}
use Rattle.hist_value.specs.HistType.{HistType, hist_type_of}
use Rattle.hist_value.specs.HistValue.{HistValue, hist_value_of}
use Rattle.bunch.specs.Names.{put}
use Rattle.hist_value.specs.Environment.{environment_of, types_of}

-- the environment that a scope stands for
abbrev pub past_of : Scope → ℕ → HistValue
past_of (Entries es) = environment_of es.now
past_of (Bound' x v r s) = put x.0 (hist_value_of v.now) (past_of s)

-- the types that a scope gives to names
abbrev pub types_in : TypeScope → ℕ → Option HistType
types_in (TypedEntries es) = types_of es.now
types_in (TypedBound' x t r s) = put x.0 (Some (hist_type_of t.now)) (types_in s)
