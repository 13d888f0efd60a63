-- The program of code, and its first run.
use Rattle.std.proofs.Common.{◌≡◌, ℕ, List, []}
use Rattle.core_term.specs.CoreTerm.{CoreBody, CoreProgram, fun_at}
use Rattle.core_term.specs.Meaning.{run_at, horizon}
use Rattle.delta_state.specs.StateTree.{Known, HeldName}
use Rattle.delta_state.specs.StateMeaning.{past_in, types_held, prefixes_held}
use Rattle.delta_state.specs.Rest.{rest_at}
use Rattle.main_steps.specs.Laws.{first_run_on, first_state_on}

-- a program is that of its parts
pub same_program : (c : CoreProgram) (funs : List CoreBody) (main : CoreBody) (texts : List (List ℕ)) → funs ≡ c.funs → main ≡ c.main → texts ≡ c.texts → record { funs = funs; main = main; texts = texts } ≡ c
same_program c funs main texts e f g = λ i. record { funs = e i; main = f i; texts = g i }

-- the run of its main on these names, with all the depth there is and no value known, and what is left of it
pub same_run : (c : CoreProgram) (funs : List CoreBody) (k : ℕ) (main : CoreBody) (past : List Known) (es fs : List HeldName) → funs ≡ c.funs → k ≡ horizon → main ≡ c.main → past ≡ [] → es ≡ fs
    → run_at (fun_at funs) k main.body (types_held es) main.result (prefixes_held es) (past_in past) ≡ first_run_on c fs
same_run c funs k main past es fs e h f g is = λ i. run_at (fun_at (e i)) (h i) (f i).body (types_held (is i)) (f i).result (prefixes_held (is i)) (past_in (g i))

pub same_rest : (c : CoreProgram) (funs : List CoreBody) (k : ℕ) (main : CoreBody) (past : List Known) (es fs : List HeldName) → funs ≡ c.funs → k ≡ horizon → main ≡ c.main → past ≡ [] → es ≡ fs
    → rest_at (fun_at funs) k main.body (types_held es) main.result (prefixes_held es) past ≡ first_state_on c fs
same_rest c funs k main past es fs e h f g is = λ i. rest_at (fun_at (e i)) (h i) (f i).body (types_held (is i)) (f i).result (prefixes_held (is i)) (g i)
