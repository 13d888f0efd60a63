-- A command line asks for one thing.
use Rattle.std.proofs.Common.{◌≡◌, ◌∙◌, List, Option, Some, None, sym, subst}
use Rattle.std.specs.declared.string.String.{String}
use Rattle.std.specs.declared.alloc.Global.{Global}
use Rattle.delta_words.specs.CommandTask.{CommandTask}
use Rattle.delta_run.specs.CommandLine.{Asks}

same_task : (task other : CommandTask) → Some task ≡ Some other → task ≡ other
same_task task other e = cc

-- what is done for the task that words ask for is done for each that they ask for
pub for_each : (words : List (String Global)) (asked : CommandTask) (Done : CommandTask → Type 0) → Asks words asked → Done asked → (task : CommandTask) → Asks words task → Done task
for_each words asked Done asks done task again = subst Done (same_task asked task (sym asks ∙ again)) done

-- words that ask for something are a command line
pub asks_something : {o : Option CommandTask} {task : CommandTask} → o ≡ None → o ≡ Some task → ⊥
asks_something {task = task} none some = let clash : None ≡ Some task = sym none ∙ some in cc
