-- What templates ask in a scope, with the values that they see, and what states ask there: `asked_at` and `asked_of`
-- of `other_numbers`.
use Rattle.std.specs.Prelude.{ℕ, List}
use Rattle.stream_type.specs.StreamType.{StreamType}
use Rattle.core_term.specs.CoreTerm.{CoreTerm, CoreTerms}
use Rattle.core_term.specs.Meaning.{call_at}
use Rattle.delta_state.specs.StateTree.{StateTree, ArgumentTrees, LaterTree}
use Rattle.delta_state.specs.StateMeaning.{past_in}
use Rattle.machine_parts.specs.declared.scope.Scope.{Scope}
use Rattle.machine_parts.specs.Scope.{types_in, streams_in}
use Rattle.template_state.specs.declared.code.Code.{Code}
use Rattle.template_state.specs.declared.live.Past.{Past}
use Rattle.template_state.specs.Readers.{known_in}
use Rattle.other_numbers.specs.Asked.{Asked, asked_at, asked_all, call_asked_at}
use Rattle.other_numbers.specs.StateAsked.{asked_later, asked_of, asked_of_arguments}
use Rattle.delta_code.specs.Steps.{funs_of}

-- what a template asks where calls may be so deep
abbrev pub op_asks : Code → ℕ → Scope → Past → CoreTerm → StreamType → List Asked
op_asks c k s es e r = asked_at (funs_of c) k e (types_in s) r (streams_in s) (past_in (known_in es))

-- the same of arguments, for parameters of these types
abbrev pub ops_asks : Code → ℕ → Scope → Past → CoreTerms → List StreamType → List Asked
ops_asks c k s es as' ts = asked_all (funs_of c) (call_at (funs_of c) k) (call_asked_at (funs_of c) k) as' ts (types_in s) (streams_in s) (past_in (known_in es))

-- what code asks once it is reached
abbrev pub later_asks : Code → Scope → LaterTree → StreamType → List Asked
later_asks c s l r = asked_later (funs_of c) l (types_in s) r (streams_in s)

-- what a state asks on what comes
abbrev pub live_asks : Code → Scope → StateTree → StreamType → List Asked
live_asks c s a r = asked_of (funs_of c) a (types_in s) r (streams_in s)

-- the same of the arguments of a frame
abbrev pub lives_asks : Code → Scope → ArgumentTrees → List Asked
lives_asks c s args = asked_of_arguments (funs_of c) args (types_in s) (streams_in s)
