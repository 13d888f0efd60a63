-- The budgets of runs and of evaluations are small, and so is a load.
use Rattle.std.proofs.Common.{◌≡◌, ℕ, ◌≤◌, ◌<◌, ◌^◌, Bool, true, false, ◌&&◌, List, [], ◌∷◌, length, Option, Some, None, refl, subst, arith, if◌then◌else◌}
use Rattle.std.specs.Prelude.{IfSome, option_and_then, option_map, nat_le}
use Rattle.std.specs.Str.Parse.{digits_value}
use Rattle.std.proofs.lemmas.Bool.{leb-true}
use Rattle.delta_words.specs.declared.task.Version.{Version}
use Rattle.delta_words.specs.declared.command.Command.{Command}
use Rattle.delta_words.specs.declared.command.Command.TheVariants.{Run, Eval, Check, Print, Text, Gen, Bound, Derive, Feed, Save, Resume}
use Rattle.delta_words.specs.Numbers.{has_digits, number_within, schedule_of}
use Rattle.delta_words.specs.Commands.{command_of, takes_of}
use Rattle.delta_words.specs.CommandLine.{WrittenLine, line_of}
use Rattle.delta_words.specs.CommandTask.{CommandTask, run, eval, check, print, text, frames, gen, bound, feed, save, save_again, resume, budget_of, file_of, version_of, file_and_budget, start_and_items, two_files, state_with, state_and_budget, save_with, feed_of, task_of_line, task_of_command, task_of}

-- a run, one that is saved or resumed too, and a feeding of tables have a budget of at most 1,000,000, an evaluation one of at most 10,000; a load begins at 999,999 at most, and has at most
-- 10,000,000 items
abbrev IsSmall : Option CommandTask → Type 0
IsSmall (Some (eval file budget v)) = budget ≤ 10000
IsSmall (Some (run file budget v)) = budget ≤ 1000000
IsSmall (Some (feed file schedule names budget)) = budget ≤ 1000000
IsSmall (Some (save file state budget v)) = budget ≤ 1000000
IsSmall (Some (save_again file state old budget v)) = budget ≤ 1000000
IsSmall (Some (resume file state budget v)) = budget ≤ 1000000
IsSmall (Some (gen start items)) = (start ≤ 999999) × (items ≤ 10000000)
IsSmall o = Unit {0}

within : (limit d : ℕ) (a b : Bool) → nat_le d limit ≡ b → IfSome (let o : Option ℕ = if a && b then Some d else None in o) (λ n. n ≤ limit)
within limit d true true h = leb-true d limit h
within limit d true false h = tt
within limit d false b h = tt

budget_is_small : (limit usual : ℕ) → usual ≤ limit → (o : Option (List ℕ)) → IfSome (budget_of limit usual o) (λ n. n ≤ limit)
budget_is_small limit usual less None = less
budget_is_small limit usual less (Some value) = within limit (digits_value 10 value) (has_digits 13 value) (nat_le (digits_value 10 value) limit) refl

with_budget : (make : List ℕ → ℕ → Version → CommandTask) (limit : ℕ) → ((file : List ℕ) (n : ℕ) (v : Version) → n ≤ limit → IsSmall (Some (make file n v)))
    → (file : List ℕ) (v : Version) (o : Option ℕ) → IfSome o (λ n. n ≤ limit) → IsSmall (option_map (λ budget. make file budget v) o)
with_budget make limit small file v None h = tt
with_budget make limit small file v (Some n) h = small file n v h

with_file : (make : List ℕ → ℕ → Version → CommandTask) (limit usual : ℕ) → usual ≤ limit → ((file : List ℕ) (n : ℕ) (v : Version) → n ≤ limit → IsSmall (Some (make file n v)))
    → (line : WrittenLine) → IsSmall (file_and_budget make limit usual line)
with_file make limit usual less small line = go (file_of line.operands)
  where
    go : (o : Option (List ℕ)) → IsSmall (option_and_then (λ file. option_map (λ budget. make file budget (version_of line.v2)) (budget_of limit usual line.budget)) o)
    go None = tt
    go (Some file) = with_budget make limit small file (version_of line.v2) (budget_of limit usual line.budget) (budget_is_small limit usual less line.budget)

evals : (line : WrittenLine) → IsSmall (file_and_budget eval 10000 1000 line)
evals line = with_file eval 10000 1000 (omega arith) (λ file n v h. h) line

runs : (line : WrittenLine) → IsSmall (file_and_budget run 1000000 1000000 line)
runs line = with_file run 1000000 1000000 (omega arith) (λ file n v h. h) line

checks : (o : Option (List ℕ)) → IsSmall (option_map check o)
checks None = tt
checks (Some file) = tt

prints : (o : Option (List ℕ)) → IsSmall (option_map print o)
prints None = tt
prints (Some file) = tt

bounds : (o : Option (List ℕ)) → IsSmall (option_map bound o)
bounds None = tt
bounds (Some file) = tt

derivations : (words : List (List ℕ)) → IsSmall (two_files words)
derivations [] = tt
derivations (a ∷ []) = tt
derivations (a ∷ b ∷ []) = tt
derivations (a ∷ b ∷ c ∷ words) = tt

texts : (v : Version) (a b : Bool) → IsSmall (if a then Some (frames v) else (if b then None else Some text))
texts v true b = tt
texts v false true = tt
texts v false false = tt

small_number : (digits limit : ℕ) (value : List ℕ) → IfSome (number_within digits limit value) (λ n. n ≤ limit)
small_number digits limit value = within limit (digits_value 10 value) (has_digits digits value) (nat_le (digits_value 10 value) limit) refl

gens : (words : List (List ℕ)) → IsSmall (start_and_items words)
gens [] = tt
gens (a ∷ []) = tt
gens (a ∷ b ∷ []) = go (number_within 8 999999 a) (small_number 8 999999 a)
  where
    inside : (n : ℕ) → n ≤ 999999 → (o : Option ℕ) → IfSome o (λ m. m ≤ 10000000) → IsSmall (option_map (λ m. gen n m) o)
    inside n small None h = tt
    inside n small (Some m) h = (small, h)

    go : (o : Option ℕ) → IfSome o (λ n. n ≤ 999999) → IsSmall (option_and_then (λ n. option_map (λ m. gen n m) (number_within 8 10000000 b)) o)
    go None h = tt
    go (Some n) h = inside n h (number_within 8 10000000 b) (small_number 8 10000000 b)
gens (a ∷ b ∷ c ∷ words) = tt

feeds : (operands : List (List ℕ)) (o : Option ℕ) → IfSome o (λ n. n ≤ 1000000) → IsSmall (feed_of operands o)
feeds [] o h = tt
feeds (file ∷ []) o h = tt
feeds (file ∷ schedule ∷ tables) None h = tt
feeds (file ∷ schedule ∷ tables) (Some budget) h = go (schedule_of (length tables) schedule)
  where
    go : (o : Option (List ℕ)) → IsSmall (option_map (λ numbers. feed file numbers tables budget) o)
    go None = tt
    go (Some numbers) = h

with_state : (make : List ℕ → List ℕ → ℕ → Version → CommandTask) → ((file state : List ℕ) (n : ℕ) (v : Version) → n ≤ 1000000 → IsSmall (Some (make file state n v)))
    → (v2 : Bool) (operands : List (List ℕ)) (o : Option ℕ) → IfSome o (λ n. n ≤ 1000000) → IsSmall (state_with make v2 operands o)
with_state make small v2 [] o h = tt
with_state make small v2 (file ∷ []) o h = tt
with_state make small v2 (file ∷ state ∷ []) None h = tt
with_state make small v2 (file ∷ state ∷ []) (Some budget) h = small file state budget (version_of v2) h
with_state make small v2 (file ∷ state ∷ other ∷ more) o h = tt

states : (make : List ℕ → List ℕ → ℕ → Version → CommandTask) → ((file state : List ℕ) (n : ℕ) (v : Version) → n ≤ 1000000 → IsSmall (Some (make file state n v)))
    → (line : WrittenLine) → IsSmall (state_and_budget make line)
states make small line = with_state make small line.v2 line.operands (budget_of 1000000 1000000 line.budget) (budget_is_small 1000000 1000000 (omega arith) line.budget)

saves : (v2 : Bool) (operands : List (List ℕ)) (o : Option ℕ) → IfSome o (λ n. n ≤ 1000000) → IsSmall (save_with v2 operands o)
saves v2 [] o h = tt
saves v2 (file ∷ []) o h = tt
saves v2 (file ∷ state ∷ []) o h = with_state save (λ file state n v h. h) v2 (file ∷ state ∷ []) o h
saves v2 (file ∷ state ∷ old ∷ []) None h = tt
saves v2 (file ∷ state ∷ old ∷ []) (Some budget) h = h
saves v2 (file ∷ state ∷ old ∷ other ∷ more) o h = tt

of_line : (c : Command) (line : WrittenLine) → IsSmall (task_of_line c line)
of_line Run line = runs line
of_line Eval line = evals line
of_line Check line = checks (file_of line.operands)
of_line Print line = prints (file_of line.operands)
of_line Text line = texts (version_of line.v2) line.frames line.v2
of_line Gen line = gens line.operands
of_line Bound line = bounds (file_of line.operands)
of_line Derive line = derivations line.operands
of_line Feed line = feeds line.operands (budget_of 1000000 1000000 line.budget) (budget_is_small 1000000 1000000 (omega arith) line.budget)
of_line Save line = saves line.v2 line.operands (budget_of 1000000 1000000 line.budget) (budget_is_small 1000000 1000000 (omega arith) line.budget)
of_line Resume line = states resume (λ file state n v h. h) line

of_command : (words : List (List ℕ)) (c : Command) → IsSmall (task_of_command words c)
of_command words c = go (line_of (takes_of c) words)
  where
    go : (o : Option WrittenLine) → IsSmall (option_and_then (task_of_line c) o)
    go None = tt
    go (Some line) = of_line c line

of_words : (words : List (List ℕ)) → IsSmall (task_of words)
of_words [] = tt
of_words (word ∷ words) = go (command_of word)
  where
    go : (o : Option Command) → IsSmall (option_and_then (task_of_command words) o)
    go None = tt
    go (Some c) = of_command words c

pub eval_is_small : (words : List (List ℕ)) (file : List ℕ) (budget : ℕ) (v : Version) → task_of words ≡ Some (eval file budget v) → budget < 2 ^ 62
eval_is_small words file budget v e =
    let small : budget ≤ 10000 = subst IsSmall e (of_words words) in omega (arith, small)

pub run_is_small : (words : List (List ℕ)) (file : List ℕ) (budget : ℕ) (v : Version) → task_of words ≡ Some (run file budget v) → budget ≤ 1000000
run_is_small words file budget v e = subst IsSmall e (of_words words)

pub feed_is_small : (words : List (List ℕ)) (file schedule : List ℕ) (names : List (List ℕ)) (budget : ℕ) → task_of words ≡ Some (feed file schedule names budget) → budget ≤ 1000000
feed_is_small words file schedule names budget e = subst IsSmall e (of_words words)

pub save_is_small : (words : List (List ℕ)) (file state : List ℕ) (budget : ℕ) (v : Version) → task_of words ≡ Some (save file state budget v) → budget ≤ 1000000
save_is_small words file state budget v e = subst IsSmall e (of_words words)

pub save_again_is_small : (words : List (List ℕ)) (file state old : List ℕ) (budget : ℕ) (v : Version) → task_of words ≡ Some (save_again file state old budget v) → budget ≤ 1000000
save_again_is_small words file state old budget v e = subst IsSmall e (of_words words)

pub resume_is_small : (words : List (List ℕ)) (file state : List ℕ) (budget : ℕ) (v : Version) → task_of words ≡ Some (resume file state budget v) → budget ≤ 1000000
resume_is_small words file state budget v e = subst IsSmall e (of_words words)

pub load_is_small : (words : List (List ℕ)) (start items : ℕ) → task_of words ≡ Some (gen start items) → (start ≤ 999999) × (items ≤ 10000000)
load_is_small words start items e = subst IsSmall e (of_words words)
