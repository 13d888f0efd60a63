-- What the functions of a step are to give: the run and what is left of templates, in a scope with the values
-- that they see, and of states.
use Rattle.std.specs.Prelude.{ℕ, List}
use Rattle.stream_type.specs.StreamType.{StreamType}
use Rattle.core_term.specs.CoreTerm.{CoreTerm, CoreTerms, CoreBody, fun_at}
use Rattle.core_term.specs.Environment.{Environment, NameTypes}
use Rattle.core_term.specs.Run.{Run, Runs}
use Rattle.core_term.specs.Meaning.{run_at, run_all, call_at}
use Rattle.delta_state.specs.StateTree.{StateTree, ArgumentTrees}
use Rattle.delta_state.specs.StateMeaning.{past_in, run_state, run_arguments}
use Rattle.delta_state.specs.Rest.{rest_at, rest_all, call_rest_at, rest_of, rest_of_arguments}
use Rattle.machine_parts.specs.declared.scope.Scope.{Scope}
use Rattle.machine_parts.specs.Scope.{types_in, streams_in}
use Rattle.template_state.specs.declared.code.Code.{Code}
use Rattle.template_state.specs.declared.live.Past.{Past}
use Rattle.template_state.specs.Readers.{known_in}
use Rattle.template_state.specs.Templates.{bodies_in}

-- the functions of the code
abbrev pub funs_of : Code → ℕ → CoreBody
funs_of c = fun_at (bodies_in c)

-- a term where these types stand for names, and this comes on them, and what is left of it
abbrev pub run_where : Code → ℕ → Past → CoreTerm → NameTypes → StreamType → Environment → Run
run_where c k es e types r env = run_at (funs_of c) k e types r env (past_in (known_in es))

abbrev pub rest_where : Code → ℕ → Past → CoreTerm → NameTypes → StreamType → Environment → StateTree
rest_where c k es e types r env = rest_at (funs_of c) k e types r env (known_in es)

-- the run of a template, and what is left of it
abbrev pub op_run : Code → ℕ → Scope → Past → CoreTerm → StreamType → Run
op_run c k s es e r = run_where c k es e (types_in s) r (streams_in s)

abbrev pub op_rest : Code → ℕ → Scope → Past → CoreTerm → StreamType → StateTree
op_rest c k s es e r = rest_where c k es e (types_in s) r (streams_in s)

-- the same of arguments, for parameters of these names and types
abbrev pub ops_run : Code → ℕ → Scope → Past → CoreTerms → List StreamType → Runs
ops_run c k s es as' ts = run_all (funs_of c) (call_at (funs_of c) k) as' ts (types_in s) (streams_in s) (past_in (known_in es))

abbrev pub ops_rest : Code → ℕ → Scope → Past → CoreTerms → List ℕ → List StreamType → ArgumentTrees
ops_rest c k s es as' us ts = rest_all (funs_of c) k (call_rest_at (funs_of c) k) as' us ts (types_in s) (streams_in s) (known_in es)

-- the run of a state, and what is left of it
abbrev pub live_run : Code → Scope → StateTree → StreamType → Run
live_run c s a r = run_state (funs_of c) a (types_in s) r (streams_in s)

abbrev pub live_rest : Code → Scope → StateTree → StreamType → StateTree
live_rest c s a r = rest_of (funs_of c) a (types_in s) r (streams_in s)

-- the same of the arguments of a frame
abbrev pub lives_run : Code → Scope → ArgumentTrees → Runs
lives_run c s args = run_arguments (funs_of c) args (types_in s) (streams_in s)

abbrev pub lives_rest : Code → Scope → ArgumentTrees → ArgumentTrees
lives_rest c s args = rest_of_arguments (funs_of c) args (types_in s) (streams_in s)
