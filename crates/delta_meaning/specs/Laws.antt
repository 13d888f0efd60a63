-- The laws of elaboration, over all programs.
use Rattle.std.specs.Prelude.{ℕ, Bool, ◌≡◌, ◌≤◌, ◌<◌, ◌↔◌, ◌^◌, ◌+◌, true, false, List, [], ◌∷◌, length, Ok, Err}
use Rattle.stream_type.specs.StreamType.{StreamType, height_of, size_of}
use Rattle.stream_prefix.specs.StreamPrefix.{StreamPrefix}
use Rattle.bunch.specs.Names.{holds}
use Rattle.bunch.specs.BunchTree.{leaf_names, as_type}
use Rattle.hist_value.specs.HistValue.{HistValue}
use Rattle.delta_tree.specs.SyntaxTree.{ProgramTree}
use Rattle.core_term.specs.CoreTerm.{CoreTerm, CoreBody, CoreProgram, wait_term, fun_at, leaf_types, node_count}
use Rattle.core_term.specs.FreeNames.{IsCore, free_names, nodes_of_bodies}
use Rattle.core_term.specs.Environment.{Environment}
use Rattle.core_term.specs.Agreement.{types_in}
use Rattle.core_term.specs.Meaning.{no_past, body_run, call_at, run_at, main_run, program_run}
use Rattle.core_term.specs.Typing.{Context, HasType, IsTypedCore}
use Rattle.delta_meaning.specs.SourceBody.{functions_of, main_of, function_named, number_named, is_function}
use Rattle.delta_meaning.specs.SourceMeaning.{source_run, source_call_at, source_body_run, source_main_run, source_program_run}
use Rattle.delta_meaning.specs.NewNames.{new_in_bodies}
use Rattle.delta_meaning.specs.Elaboration.{param_numbers}
use Rattle.delta_meaning.specs.NodePlaces.{program_places}
use Rattle.delta_meaning.specs.Faults.{Fault, faults}
use Rattle.delta_meaning.specs.Elaborated.{new_in_program, core_of_tree, elaborate}

-- a program elaborates to a core exactly where nothing is wrong, and then to that core
abbrev pub ElaboratesWhereFine : Type 0
ElaboratesWhereFine = (p : ProgramTree) (c : CoreProgram) → (elaborate p ≡ Ok c) ↔ ((faults p ≡ []) × (core_of_tree p ≡ c))

-- and is refused exactly with the first thing that is wrong
abbrev pub RefusedAtFirst : Type 0
RefusedAtFirst = (p : ProgramTree) (x : Fault) → (elaborate p ≡ Err x) ↔ ((xs : List Fault) × (faults p ≡ x ∷ xs))

-- a program's core gives what the program gives, with as many calls and the same level, on each prefix of its
-- input's type
abbrev pub CoreKeepsMeaning : Type 0
CoreKeepsMeaning =
    (p : ProgramTree) (c : CoreProgram) → elaborate p ≡ Ok c → IsTypedCore c → (q : StreamPrefix) → program_run c q ≡ source_program_run p q

-- so it is at each depth
abbrev pub CoreKeepsRun : Type 0
CoreKeepsRun =
    (p : ProgramTree) (c : CoreProgram) → elaborate p ≡ Ok c → IsTypedCore c → (k : ℕ) (q : StreamPrefix)
    → main_run (fun_at c.funs) k c.main q ≡ source_main_run (function_named (functions_of p)) k (main_of p) q

-- and on each list of prefixes for the main program's names
abbrev pub CoreKeepsArguments : Type 0
CoreKeepsArguments =
    (p : ProgramTree) (c : CoreProgram) → elaborate p ≡ Ok c → IsTypedCore c → (k : ℕ) (ps : List StreamPrefix)
    → body_run (fun_at c.funs) (call_at (fun_at c.funs) k) c.main [] ps
    ≡ source_body_run (function_named (functions_of p)) (source_call_at (function_named (functions_of p)) k) (main_of p) [] ps

-- and in each environment: that of the core has at the number of a parameter what stands at its name
abbrev pub CoreKeepsEnvironment : Type 0
CoreKeepsEnvironment =
    (p : ProgramTree) (c : CoreProgram) → elaborate p ≡ Ok c → IsTypedCore c → (k : ℕ) (env core_env : Environment)
    → ((x : ℕ) → holds x (leaf_names (main_of p).params) ≡ true → env x ≡ core_env (param_numbers (main_of p) (length (new_in_bodies (functions_of p))) x))
    → run_at (fun_at c.funs) k c.main.body (types_in c.main.params) c.main.result core_env no_past
    ≡ source_run (function_named (functions_of p)) (source_call_at (function_named (functions_of p)) k) (main_of p).type_names (main_of p).body
    (types_in (main_of p).params) (main_of p).result env no_past

-- a call of a function's number gives what a call of its name gives
abbrev pub CoreKeepsCalls : Type 0
CoreKeepsCalls =
    (p : ProgramTree) (c : CoreProgram) → elaborate p ≡ Ok c → IsTypedCore c → (k f : ℕ) (vs : List HistValue) (ps : List StreamPrefix)
    → is_function (functions_of p) f ≡ true
    → call_at (fun_at c.funs) k (number_named (functions_of p) f) vs ps ≡ source_call_at (function_named (functions_of p)) k f vs ps

-- in a typed term what follows a wait doesn't read the wait's name as a stream name: the core leaves it among
-- the stream names, and the tree hides it
abbrev pub WaitedIsUnread : Type 0
WaitedIsUnread =
    (funs : List CoreBody) (counts : ℕ → Bool) (c : Context) (x : ℕ) (t : StreamType) (a : CoreTerm) (r : StreamType)
    → HasType funs counts c (wait_term x t a) r → holds x (free_names a) ≡ false

-- what a program elaborates to binds each name at most once in each body, and has a text for each
abbrev pub ElaboratedIsCore : Type 0
ElaboratedIsCore = (p : ProgramTree) (c : CoreProgram) → elaborate p ≡ Ok c → IsCore c

-- it has the program's functions, and their types
pub record HasTypesOf (p : ProgramTree) (c : CoreProgram) : Type 0 where
  pub functions : length c.funs ≡ length (functions_of p)
  pub input : as_type c.main.params ≡ as_type (main_of p).params
  pub result : c.main.result ≡ (main_of p).result
  pub parameters : (f : ℕ) → is_function (functions_of p) f ≡ true
      → leaf_types (fun_at c.funs (number_named (functions_of p) f)).params ≡ leaf_types (function_named (functions_of p) f).params
  pub results : (f : ℕ) → is_function (functions_of p) f ≡ true
      → (fun_at c.funs (number_named (functions_of p) f)).result ≡ (function_named (functions_of p) f).result

abbrev pub ElaboratedHasTypes : Type 0
ElaboratedHasTypes = (p : ProgramTree) (c : CoreProgram) → elaborate p ≡ Ok c → HasTypesOf p c

-- it has as many texts as variables
abbrev pub EachVariableHasText : Type 0
EachVariableHasText = (p : ProgramTree) (c : CoreProgram) → elaborate p ≡ Ok c → length c.texts ≡ length (new_in_program p)

-- and as many nodes as places
abbrev pub EachNodeHasPlace : Type 0
EachNodeHasPlace =
    (p : ProgramTree) (c : CoreProgram) → elaborate p ≡ Ok c → length (program_places p) ≡ nodes_of_bodies c.funs + node_count c.main.body

-- its input's type and its result are at most 64 high and have at most 4,096 nodes
pub record IsWithinLimits (c : CoreProgram) : Type 0 where
  pub input_height : height_of (as_type c.main.params) ≤ 64
  pub input_size : size_of (as_type c.main.params) ≤ 4096
  pub result_height : height_of c.main.result ≤ 64
  pub result_size : size_of c.main.result ≤ 4096

abbrev pub ElaboratedIsWithinLimits : Type 0
ElaboratedIsWithinLimits = (p : ProgramTree) (c : CoreProgram) → elaborate p ≡ Ok c → IsWithinLimits c
