-- The run of the main program, in a scope of its parameters.
use mathlib.Core.Path.{fun_ext}
use Rattle.std.proofs.Common.{◌≡◌, ℕ, List, [], ap, ◌∙◌}
use Rattle.stream_type.specs.StreamType.{StreamType, eps}
use Rattle.stream_prefix.specs.StreamPrefix.{StreamPrefix, eps_emp}
use Rattle.bunch.specs.Names.{value_at}
use Rattle.bunch.specs.BunchTree.{BunchTree, leaf_names}
use Rattle.hist_value.specs.Environment.{environment_of}
use Rattle.delta_tree.specs.SyntaxTree.{Expression}
use Rattle.core_term.specs.CoreTerm.{leaf_types}
use Rattle.core_term.specs.Environment.{Environment, NameTypes}
use Rattle.core_term.specs.Agreement.{types_in}
use Rattle.core_term.specs.Split.{split}
use Rattle.core_term.specs.Meaning.{no_past}
use Rattle.core_term.specs.Run.{Run}
use Rattle.core_term.proofs.Parameters.{value_at-leaf_types}
use Rattle.delta_meaning.specs.TypeNames.{TypeNames}
use Rattle.delta_meaning.specs.SourceBody.{SourceBody, function_named}
use Rattle.delta_meaning.specs.SourceMeaning.{source_run, source_call_at}
use Rattle.delta_meaning.specs.Splitting.{parts}
use Rattle.delta_meaning.proofs.Splittings.{parts_are_split}

-- the types of parameters, beside their names
pub params_have_types : (b : BunchTree) (xs : List ℕ) (ts : List StreamType) → xs ≡ leaf_names b → ts ≡ leaf_types b → value_at eps xs ts ≡ types_in b
params_have_types b xs ts e h = ap (λ l. value_at eps l ts) e ∙ (ap (value_at eps (leaf_names b)) h ∙ fun_ext (value_at-leaf_types b))

-- what has come on them
params_have_parts : (b : BunchTree) (xs : List ℕ) (ps : List StreamPrefix) (p : StreamPrefix) → xs ≡ leaf_names b → ps ≡ parts b p → value_at eps_emp xs ps ≡ split b p
params_have_parts b xs ps p e h = ap (λ l. value_at eps_emp l ps) e ∙ (ap (value_at eps_emp (leaf_names b)) h ∙ parts_are_split b p)

-- of equal functions, names of types and parameters a body gives equal runs
pub same_main_runs : (bs cs : List SourceBody) (k n : ℕ) (ns ms : TypeNames) (e : Expression) (b : BunchTree) (t u : StreamType) (xs : List ℕ) (ts : List StreamType) (ps : List StreamPrefix) (p : StreamPrefix)
    → bs ≡ cs → k ≡ n → ns ≡ ms → t ≡ u → xs ≡ leaf_names b → ts ≡ leaf_types b → ps ≡ parts b p
    → source_run (function_named bs) (source_call_at (function_named bs) k) ns e (value_at eps xs ts) t (value_at eps_emp xs ps) (environment_of []) ≡ source_run (function_named cs) (source_call_at (function_named cs) n) ms e (types_in b) u (split b p) no_past
same_main_runs bs cs k n ns ms e b t u xs ts ps p h1 h2 h3 h4 h5 h6 h7 =
    let f1 : List SourceBody → Run = λ l. source_run (function_named l) (source_call_at (function_named l) k) ns e (value_at eps xs ts) t (value_at eps_emp xs ps) no_past in
    let f2 : ℕ → Run = λ l. source_run (function_named cs) (source_call_at (function_named cs) l) ns e (value_at eps xs ts) t (value_at eps_emp xs ps) no_past in
    let f3 : TypeNames → Run = λ l. source_run (function_named cs) (source_call_at (function_named cs) n) l e (value_at eps xs ts) t (value_at eps_emp xs ps) no_past in
    let f4 : StreamType → Run = λ l. source_run (function_named cs) (source_call_at (function_named cs) n) ms e (value_at eps xs ts) l (value_at eps_emp xs ps) no_past in
    let f5 : NameTypes → Run = λ l. source_run (function_named cs) (source_call_at (function_named cs) n) ms e l u (value_at eps_emp xs ps) no_past in
    let f6 : Environment → Run = λ l. source_run (function_named cs) (source_call_at (function_named cs) n) ms e (types_in b) u l no_past in
    ap f1 h1 ∙ (ap f2 h2 ∙ (ap f3 h3 ∙ (ap f4 h4 ∙ (ap f5 (params_have_types b xs ts h5 h6) ∙ ap f6 (params_have_parts b xs ps p h5 h7)))))

-- of equal functions, names of types, parameters and types of results too
pub same_program_runs : (bs cs : List SourceBody) (k n : ℕ) (ns ms : TypeNames) (e : Expression) (b d : BunchTree) (t u : StreamType) (p : StreamPrefix)
    → bs ≡ cs → k ≡ n → ns ≡ ms → b ≡ d → t ≡ u
    → source_run (function_named bs) (source_call_at (function_named bs) k) ns e (types_in b) t (split b p) no_past ≡ source_run (function_named cs) (source_call_at (function_named cs) n) ms e (types_in d) u (split d p) no_past
same_program_runs bs cs k n ns ms e b d t u p h1 h2 h3 h4 h5 =
    let f1 : List SourceBody → Run = λ l. source_run (function_named l) (source_call_at (function_named l) k) ns e (types_in b) t (split b p) no_past in
    let f2 : ℕ → Run = λ l. source_run (function_named cs) (source_call_at (function_named cs) l) ns e (types_in b) t (split b p) no_past in
    let f3 : TypeNames → Run = λ l. source_run (function_named cs) (source_call_at (function_named cs) n) l e (types_in b) t (split b p) no_past in
    let f4 : BunchTree → Run = λ l. source_run (function_named cs) (source_call_at (function_named cs) n) ms e (types_in l) t (split l p) no_past in
    let f5 : StreamType → Run = λ l. source_run (function_named cs) (source_call_at (function_named cs) n) ms e (types_in d) l (split d p) no_past in
    ap f1 h1 ∙ (ap f2 h2 ∙ (ap f3 h3 ∙ (ap f4 h4 ∙ ap f5 h5)))
