-- What a command line asks for.
use Rattle.std.specs.Prelude.{ℕ, Bool, true, false, List, [], ◌∷◌, Option, Some, None, option_and_then, option_map, map, length, string_bytes, if◌then◌else◌}
use Rattle.delta_words.specs.declared.task.Task.{Task}
use Rattle.delta_words.specs.declared.task.Task.TheVariants as rust
use Rattle.delta_words.specs.declared.task.Version.{Version}
use Rattle.delta_words.specs.declared.task.Version.TheVariants.{V1, V2}
use Rattle.delta_words.specs.declared.command.Command.{Command}
use Rattle.delta_words.specs.declared.command.Command.TheVariants as command
use Rattle.delta_words.specs.Numbers.{number_within, schedule_of}
use Rattle.delta_words.specs.Commands.{command_of, takes_of}
use Rattle.delta_words.specs.CommandLine.{WrittenLine, line_of}

-- a file's name, a budget and the version of what is written; a file's name; the version; the first item and how many; a file's name; two
-- files' names; a file's name, the numbers of a schedule, the tables' names and a budget; a file's name, a state's name, a budget and the
-- version; a file's name, a state's name, the name of the state to go on from, a budget and the version; a file's name, a state's name, a
-- budget and the version
pub data CommandTask : Type 0 where
  run : List ℕ → ℕ → Version → CommandTask
  eval : List ℕ → ℕ → Version → CommandTask
  check : List ℕ → CommandTask
  print : List ℕ → CommandTask
  text : CommandTask
  frames : Version → CommandTask
  gen : ℕ → ℕ → CommandTask
  bound : List ℕ → CommandTask
  derive : List ℕ → List ℕ → CommandTask
  feed : List ℕ → List ℕ → List (List ℕ) → ℕ → CommandTask
  save : List ℕ → List ℕ → ℕ → Version → CommandTask
  save_again : List ℕ → List ℕ → List ℕ → ℕ → Version → CommandTask
  resume : List ℕ → List ℕ → ℕ → Version → CommandTask

-- what a task of the code stands for
abbrev pub asked : Task → CommandTask
asked (rust.Run file budget version) = run (string_bytes file) budget version
asked (rust.Eval file budget version) = eval (string_bytes file) budget version
asked (rust.Check file) = check (string_bytes file)
asked (rust.Print file) = print (string_bytes file)
asked rust.Text = text
asked (rust.Frames version) = frames version
asked (rust.Gen start items) = gen start items
asked (rust.Bound file) = bound (string_bytes file)
asked (rust.Derive file proof) = derive (string_bytes file) (string_bytes proof)
asked (rust.Feed file schedule tables budget) = feed (string_bytes file) schedule.items (map string_bytes tables.items) budget
asked (rust.Save file state budget version) = save (string_bytes file) (string_bytes state) budget version
asked (rust.SaveAgain file state old budget version) = save_again (string_bytes file) (string_bytes state) (string_bytes old) budget version
asked (rust.Resume file state budget version) = resume (string_bytes file) (string_bytes state) budget version

-- version 2 where `--v2` stands
abbrev pub version_of : Bool → Version
version_of true = V2
version_of false = V1

-- the budget that a line names, of one to thirteen digits within the limit, or else the default
abbrev pub budget_of : ℕ → ℕ → Option (List ℕ) → Option ℕ
budget_of limit usual None = Some usual
budget_of limit usual (Some value) = number_within 13 limit value

-- the one operand
abbrev pub file_of : List (List ℕ) → Option (List ℕ)
file_of (file ∷ []) = Some file
file_of _ = None

-- a file and a budget
abbrev pub file_and_budget : (List ℕ → ℕ → Version → CommandTask) → ℕ → ℕ → WrittenLine → Option CommandTask
file_and_budget make limit usual line =
    option_and_then (λ file. option_map (λ budget. make file budget (version_of line.v2)) (budget_of limit usual line.budget)) (file_of line.operands)

-- `--frames` and maybe `--v2`, or neither
abbrev pub text_or_frames : WrittenLine → Option CommandTask
text_or_frames line = if line.frames then Some (frames (version_of line.v2)) else (if line.v2 then None else Some text)

-- START and ITEMS, of one to eight digits within their limits
abbrev pub start_and_items : List (List ℕ) → Option CommandTask
start_and_items (first ∷ items ∷ []) =
    option_and_then (λ a. option_map (λ b. gen a b) (number_within 8 10000000 items)) (number_within 8 999999 first)
start_and_items _ = None

-- FILE and PROOF
abbrev pub two_files : List (List ℕ) → Option CommandTask
two_files (file ∷ proof ∷ []) = Some (derive file proof)
two_files _ = None

-- FILE, STATE and a budget, as `run` has it
abbrev pub state_with : (List ℕ → List ℕ → ℕ → Version → CommandTask) → Bool → List (List ℕ) → Option ℕ → Option CommandTask
state_with make v2 (file ∷ state ∷ []) (Some budget) = Some (make file state budget (version_of v2))
state_with make v2 operands budget = None

abbrev pub state_and_budget : (List ℕ → List ℕ → ℕ → Version → CommandTask) → WrittenLine → Option CommandTask
state_and_budget make line = state_with make line.v2 line.operands (budget_of 1000000 1000000 line.budget)

-- FILE, STATE, OLD where it stands there, and a budget, as `run` has it
abbrev pub save_with : Bool → List (List ℕ) → Option ℕ → Option CommandTask
save_with v2 (file ∷ state ∷ old ∷ []) (Some budget) = Some (save_again file state old budget (version_of v2))
save_with v2 operands budget = state_with save v2 operands budget

abbrev pub save_of : WrittenLine → Option CommandTask
save_of line = save_with line.v2 line.operands (budget_of 1000000 1000000 line.budget)

-- FILE, SCHEDULE and the tables, whose number is above each digit of SCHEDULE
abbrev pub feed_of : List (List ℕ) → Option ℕ → Option CommandTask
feed_of (file ∷ schedule ∷ tables) (Some budget) = option_map (λ numbers. feed file numbers tables budget) (schedule_of (length tables) schedule)
feed_of operands budget = None

-- what a command's line asks for
abbrev pub task_of_line : Command → WrittenLine → Option CommandTask
task_of_line command.Run line = file_and_budget run 1000000 1000000 line
task_of_line command.Eval line = file_and_budget eval 10000 1000 line
task_of_line command.Check line = option_map check (file_of line.operands)
task_of_line command.Print line = option_map print (file_of line.operands)
task_of_line command.Text line = text_or_frames line
task_of_line command.Gen line = start_and_items line.operands
task_of_line command.Bound line = option_map bound (file_of line.operands)
task_of_line command.Derive line = two_files line.operands
task_of_line command.Feed line = feed_of line.operands (budget_of 1000000 1000000 line.budget)
task_of_line command.Save line = save_of line
task_of_line command.Resume line = state_and_budget resume line

-- what a command and the words behind it ask for
abbrev pub task_of_command : List (List ℕ) → Command → Option CommandTask
task_of_command words command = option_and_then (task_of_line command) (line_of (takes_of command) words)

-- what the words of a command line ask for; none where they are no command line
abbrev pub task_of : List (List ℕ) → Option CommandTask
task_of [] = None
task_of (word ∷ words) = option_and_then (task_of_command words) (command_of word)
