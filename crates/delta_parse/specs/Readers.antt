-- What the parser's readers answer, against what reading gives.
use Rattle.std.specs.Prelude.{◌≡◌, ℕ, List, ◌++◌, Result, Ok, Err}
use Rattle.grammar.specs.Reading.{Outcome, got, stuck, ◌>>=◌}
use Rattle.delta_tree.specs.SyntaxTree.{WrittenType, WrittenHist, Expression}
use Rattle.delta_tree.specs.Tree.{expression_of}
use Rattle.delta_parse.specs.declared.cursor.Halt.{Halt}
use Rattle.delta_parse.specs.declared.cursor.Halt.TheVariants as halts
use Rattle.delta_parse.specs.declared.pattern_reader.Pattern.{Pattern as RustPattern}
use Rattle.delta_parse.specs.declared.pattern_reader.Pattern.TheVariants as patterns
use Rattle.delta_parse.specs.declared.forms_done.Arms.{Arms as RustArms}
use Rattle.delta_parse.specs.declared.forms_done.Arms.TheVariants as arms
use Rattle.delta_parse.specs.Terminals.{Tok}
use Rattle.delta_parse.specs.Parts.{Pattern, one_name, two_at_once, two_in_turn, Arms, sum_arms, star_arms, Ending}
use Rattle.delta_parse.specs.Actions.{starred, to_left, ended}

-- a reader stopped where reading is stuck, unless memory ran out
abbrev pub Halts : {Y : Type 0} → Halt → Outcome Tok Y → Type 0
Halts halts.Memory o = Unit {0}
Halts (halts.At n) o = o ≡ stuck n

-- what a reader answered, seen as a value and a rest, is what reading gives
abbrev pub Gives : {X Y : Type 0} → (X → Y) → (X → List Tok) → Result X Halt → Outcome Tok Y → Type 0
Gives view rest (Ok x) o = o ≡ got (view x) (rest x)
Gives view rest (Err e) o = Halts e o

-- stars that are read, on a type
abbrev pub with_stars : ℕ → WrittenType → Outcome Tok (List Tok) → Outcome Tok WrittenType
with_stars at t o = o >>= λ y. got (starred at t y.0) y.1

-- operands that are read, on what stands before them
abbrev pub with_operands : ℕ → WrittenHist → Outcome Tok (List (Tok × WrittenHist)) → Outcome Tok WrittenHist
with_operands at h o = o >>= λ y. got (to_left at h y.0) y.1

-- more that is read, behind what was read before
abbrev pub behind : {A : Type 0} → List A → Outcome Tok (List A) → Outcome Tok (List A)
behind xs o = o >>= λ y. got (xs ++ y.0) y.1

-- how a bracket ends, read behind its first expression
abbrev pub with_ending : ℕ → Expression → Outcome Tok Ending → Outcome Tok Expression
with_ending at e o = o >>= λ y. got (ended at e y.0) y.1

-- what a `let` binds, and what a case goes on with, as the grammar's actions see them
abbrev pub pattern_tree : RustPattern → Pattern
pattern_tree (patterns.One x) = one_name x.0
pattern_tree (patterns.AtOnce x y) = two_at_once x.0 y.0
pattern_tree (patterns.InTurn x y) = two_in_turn x.0 y.0

abbrev pub arms_of : RustArms → Arms
arms_of (arms.Sum x a y b) = sum_arms x.0 (expression_of a) y.0 (expression_of b)
arms_of (arms.Star a y ys b) = star_arms (expression_of a) y.0 ys.0 (expression_of b)
