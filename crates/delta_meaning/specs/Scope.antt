-- What the evaluator's scopes stand for.
use Rattle.std.specs.Prelude.{ℕ, map}
use Rattle.stream_type.specs.StreamType.{type_of, eps}
use Rattle.stream_prefix.specs.StreamPrefix.{eps_emp}
use Rattle.stream_prefix.specs.Tree.{prefix_of}
use Rattle.bunch.specs.declared.name.Name.{Name}
use Rattle.bunch.specs.Names.{put, value_at}
use Rattle.hist_value.specs.declared.history.Value.{Value}
use Rattle.hist_value.specs.HistValue.{HistValue, hist_value_of}
use Rattle.hist_value.specs.Environment.{environment_of}
use Rattle.core_term.specs.Environment.{Environment, NameTypes}
use Rattle.core_term.specs.Meaning.{Past}
use Rattle.core_term.specs.Params.{names_in, types_listed}
use Rattle.delta_meaning.specs.SourceMeaning.{without_value}
use Rattle.delta_meaning.specs.declared.scope.Scope.{Scope}
use Rattle.delta_meaning.specs.declared.scope.Scope.TheVariants.{Params, Stream', Waited'}

-- an entry: the number of a name, and its value
abbrev pub entry_of : Name × Value → ℕ × HistValue
entry_of e = (e.0.0, hist_value_of e.1)

-- the types that a scope gives to stream names
abbrev pub types_in : Scope → NameTypes
types_in (Params ps qs es) = value_at eps (names_in ps.now) (types_listed ps.now)
types_in (Stream' x t p r s) = put x.0 (type_of t.now) (types_in s)
types_in (Waited' x v r s) = put x.0 eps (types_in s)

-- what has come on the stream names of a scope
abbrev pub streams_in : Scope → Environment
streams_in (Params ps qs es) = value_at eps_emp (names_in ps.now) (map prefix_of qs.now)
streams_in (Stream' x t p r s) = put x.0 (prefix_of p.now) (streams_in s)
streams_in (Waited' x v r s) = put x.0 eps_emp (streams_in s)

-- the values that a scope gives to historical names
abbrev pub past_in : Scope → Past
past_in (Params ps qs es) = environment_of es.now
past_in (Stream' x t p r s) = without_value x.0 (past_in s)
past_in (Waited' x v r s) = put x.0 (hist_value_of v.now) (past_in s)
