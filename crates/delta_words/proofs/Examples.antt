-- Worked command lines.
use Rattle.std.proofs.Common.{◌≡◌, [], ◌∷◌, refl, codes, Some, None}
use Rattle.delta_words.specs.CommandTask.{run, eval, frames, gen, bound, derive, feed, save, save_again, resume, task_of}
use Rattle.delta_words.specs.declared.task.Version.TheVariants.{V1, V2}

-- `--` ends the options
end_of_options : task_of (codes "run" ∷ codes "--" ∷ codes "-x" ∷ []) ≡ Some (run (codes "-x") 1000000 V1)
end_of_options = refl

-- after it a second `--` is an operand
second_end : task_of (codes "run" ∷ codes "--" ∷ codes "--" ∷ []) ≡ Some (run (codes "--") 1000000 V1)
second_end = refl

-- a budget before FILE, and behind it with needless zeros
budget_first : task_of (codes "run" ∷ codes "--budget=5" ∷ codes "a" ∷ []) ≡ Some (run (codes "a") 5 V1)
budget_first = refl

budget_last : task_of (codes "run" ∷ codes "a" ∷ codes "--budget" ∷ codes "0005" ∷ []) ≡ Some (run (codes "a") 5 V1)
budget_last = refl

-- each option at most once
two_budgets : task_of (codes "run" ∷ codes "a" ∷ codes "--budget" ∷ codes "5" ∷ codes "--budget" ∷ codes "6" ∷ []) ≡ None
two_budgets = refl

-- no budget without its value, and none above the limit of its command
no_value : task_of (codes "run" ∷ codes "a" ∷ codes "--budget" ∷ []) ≡ None
no_value = refl

above : task_of (codes "eval" ∷ codes "a" ∷ codes "--budget" ∷ codes "10001" ∷ []) ≡ None
above = refl

-- the defaults differ
usual : task_of (codes "eval" ∷ codes "a" ∷ []) ≡ Some (eval (codes "a") 1000 V1)
usual = refl

-- `--v2` of `text` stands with `--frames`, in either order, and alone is usage
second_version : task_of (codes "text" ∷ codes "--v2" ∷ codes "--frames" ∷ []) ≡ Some (frames V2)
second_version = refl

version_alone : task_of (codes "text" ∷ codes "--v2" ∷ []) ≡ None
version_alone = refl

-- numbers, with needless zeros and up to their limits
numbers : task_of (codes "gen" ∷ codes "007" ∷ codes "1" ∷ []) ≡ Some (gen 7 1)
numbers = refl

start_above : task_of (codes "gen" ∷ codes "1000000" ∷ codes "1" ∷ []) ≡ None
start_above = refl

nine_digits : task_of (codes "gen" ∷ codes "1" ∷ codes "000000001" ∷ []) ≡ None
nine_digits = refl

-- a bound asks for one file, and takes no option
bound_of_file : task_of (codes "bound" ∷ codes "a" ∷ []) ≡ Some (bound (codes "a"))
bound_of_file = refl

bound_with_budget : task_of (codes "bound" ∷ codes "a" ∷ codes "--budget" ∷ codes "5" ∷ []) ≡ None
bound_with_budget = refl

-- a derivation is asked for by two files, the second of which may stand behind `--`
derivation : task_of (codes "derive" ∷ codes "a" ∷ codes "--" ∷ codes "-b" ∷ []) ≡ Some (derive (codes "a") (codes "-b"))
derivation = refl

no_proof : task_of (codes "derive" ∷ codes "a" ∷ []) ≡ None
no_proof = refl

-- tables are fed in the order of the digits, each below the number of tables
two_tables : task_of (codes "feed" ∷ codes "p" ∷ codes "0011" ∷ codes "a" ∷ codes "b" ∷ []) ≡ Some (feed (codes "p") (0 ∷ 0 ∷ 1 ∷ 1 ∷ []) (codes "a" ∷ codes "b" ∷ []) 1000000)
two_tables = refl

no_such_table : task_of (codes "feed" ∷ codes "p" ∷ codes "02" ∷ codes "a" ∷ codes "b" ∷ []) ≡ None
no_such_table = refl

no_schedule : task_of (codes "feed" ∷ codes "p" ∷ codes "a" ∷ codes "b" ∷ []) ≡ None
no_schedule = refl

no_table : task_of (codes "feed" ∷ codes "p" ∷ codes "0" ∷ []) ≡ None
no_table = refl

nine_tables : task_of (codes "feed" ∷ codes "p" ∷ codes "0" ∷ codes "a" ∷ codes "a" ∷ codes "a" ∷ codes "a" ∷ codes "a" ∷ codes "a" ∷ codes "a" ∷ codes "a" ∷ codes "a" ∷ []) ≡ None
nine_tables = refl

-- the budget stands before, between or behind FILE, SCHEDULE and the tables, but not between two tables
budget_before_tables : task_of (codes "feed" ∷ codes "p" ∷ codes "--budget" ∷ codes "7" ∷ codes "0" ∷ codes "a" ∷ []) ≡ Some (feed (codes "p") (0 ∷ []) (codes "a" ∷ []) 7)
budget_before_tables = refl

budget_behind_tables : task_of (codes "feed" ∷ codes "p" ∷ codes "0" ∷ codes "a" ∷ codes "b" ∷ codes "--budget=7" ∷ []) ≡ Some (feed (codes "p") (0 ∷ []) (codes "a" ∷ codes "b" ∷ []) 7)
budget_behind_tables = refl

budget_between_tables : task_of (codes "feed" ∷ codes "p" ∷ codes "0" ∷ codes "a" ∷ codes "--budget=7" ∷ codes "b" ∷ []) ≡ None
budget_between_tables = refl

-- `--` may stand there
end_between_tables : task_of (codes "feed" ∷ codes "p" ∷ codes "0" ∷ codes "a" ∷ codes "--" ∷ codes "-b" ∷ []) ≡ Some (feed (codes "p") (0 ∷ []) (codes "a" ∷ codes "-b" ∷ []) 1000000)
end_between_tables = refl

-- a saved run has two files and the options of `run`, which may stand between them; both files must stand there
saved : task_of (codes "save" ∷ codes "p" ∷ codes "--budget=7" ∷ codes "s" ∷ []) ≡ Some (save (codes "p") (codes "s") 7 V1)
saved = refl

resumed : task_of (codes "resume" ∷ codes "--v2" ∷ codes "p" ∷ codes "s" ∷ []) ≡ Some (resume (codes "p") (codes "s") 1000000 V2)
resumed = refl

no_state : task_of (codes "save" ∷ codes "p" ∷ []) ≡ None
no_state = refl

two_states : task_of (codes "resume" ∷ codes "p" ∷ codes "s" ∷ codes "t" ∷ []) ≡ None
two_states = refl

-- a third operand of `save` is the state to go on from, and may be the state that is left
saved_again : task_of (codes "save" ∷ codes "p" ∷ codes "s" ∷ codes "o" ∷ []) ≡ Some (save_again (codes "p") (codes "s") (codes "o") 1000000 V1)
saved_again = refl

saved_over : task_of (codes "save" ∷ codes "p" ∷ codes "s" ∷ codes "s" ∷ []) ≡ Some (save_again (codes "p") (codes "s") (codes "s") 1000000 V1)
saved_over = refl

-- the options stand before, between or behind FILE, STATE and OLD, but not between STATE and OLD
options_before_old : task_of (codes "save" ∷ codes "--v2" ∷ codes "p" ∷ codes "--budget" ∷ codes "7" ∷ codes "s" ∷ codes "o" ∷ []) ≡ Some (save_again (codes "p") (codes "s") (codes "o") 7 V2)
options_before_old = refl

options_behind_old : task_of (codes "save" ∷ codes "p" ∷ codes "s" ∷ codes "o" ∷ codes "--v2" ∷ codes "--budget=7" ∷ []) ≡ Some (save_again (codes "p") (codes "s") (codes "o") 7 V2)
options_behind_old = refl

options_behind_state : task_of (codes "save" ∷ codes "p" ∷ codes "s" ∷ codes "--v2" ∷ []) ≡ Some (save (codes "p") (codes "s") 1000000 V2)
options_behind_state = refl

option_before_old : task_of (codes "save" ∷ codes "p" ∷ codes "s" ∷ codes "--v2" ∷ codes "o" ∷ []) ≡ None
option_before_old = refl

-- `--` may stand there
end_before_old : task_of (codes "save" ∷ codes "p" ∷ codes "s" ∷ codes "--" ∷ codes "-old" ∷ []) ≡ Some (save_again (codes "p") (codes "s") (codes "-old") 1000000 V1)
end_before_old = refl

-- a fourth operand is none
two_old_states : task_of (codes "save" ∷ codes "p" ∷ codes "s" ∷ codes "o" ∷ codes "x" ∷ []) ≡ None
two_old_states = refl

-- no abbreviation
abbreviated : task_of (codes "text" ∷ codes "--fra" ∷ []) ≡ None
abbreviated = refl
