-- The lines of a text, and which of them are lines of a derivation.
use Rattle.std.specs.Prelude.{ℕ, List, [], ◌∷◌, map, codes, Option, Some, None, option_map, ◌==◌, if◌then◌else◌}
use Rattle.std.specs.List.{slice_split, list_any, before_first, after_first}
use Rattle.std.specs.Str.{bytes_eq}
use Rattle.bunch_rules.specs.Rearranging.{Turn, to_left, to_right, StepName, drop_step, swap_step, left_step, right_step, loosen_step, unit_step, before_step, after_step, beside_step}
use Rattle.bunch_rules.specs.Written.{Line, plain_rule, rule_at, step_at}
use Rattle.delta_derive.specs.Rearranged.{then_by}
use Rattle.delta_derive.specs.declared.line.Turn.{Turn as ProgramTurn}
use Rattle.delta_derive.specs.declared.line.Turn.TheVariants.{Left, Right}
use Rattle.delta_derive.specs.declared.line.Step.{Step}
use Rattle.delta_derive.specs.declared.line.Step.TheVariants.{Drop, Swap, Left as GroupLeft, Right as GroupRight, Loosen, Unit as TakeUnit, Before, After, Beside}
use Rattle.delta_derive.specs.declared.line.Line.{Line as ProgramLine}
use Rattle.delta_derive.specs.declared.line.Line.TheVariants.{Rule, RuleAt, Step as StepAt}

-- what the program's turns, steps and lines stand for
abbrev pub turn_of : ProgramTurn → Turn
turn_of Left = to_left
turn_of Right = to_right

abbrev pub step_of : Step → StepName
step_of Drop = drop_step
step_of Swap = swap_step
step_of GroupLeft = left_step
step_of GroupRight = right_step
step_of Loosen = loosen_step
step_of TakeUnit = unit_step
step_of Before = before_step
step_of After = after_step
step_of Beside = beside_step

abbrev pub line_of : ProgramLine → Line
line_of Rule = plain_rule
line_of (RuleAt p) = rule_at (map turn_of p.items)
line_of (StepAt w p) = step_at (step_of w) (map turn_of p.items)

-- the turn of a letter
abbrev pub turn_at : ℕ → Option Turn
turn_at byte = if byte == 108 then Some to_left else (if byte == 114 then Some to_right else None)

-- the turns of letters
abbrev pub add_turn : Option Turn → Option (List Turn) → Option (List Turn)
add_turn (Some t) (Some ts) = Some (t ∷ ts)
add_turn _ _ = None

abbrev pub turns_in : List ℕ → Option (List Turn)
turns_in [] = Some []
turns_in (byte ∷ bytes) = add_turn (turn_at byte) (turns_in bytes)

-- the path that a word is: a dot for the root, or else a letter for each turn
abbrev pub path_in : List ℕ → Option (List Turn)
path_in [] = None
path_in (byte ∷ bytes) = if bytes_eq (byte ∷ bytes) (codes ".") then Some [] else turns_in (byte ∷ bytes)

-- the step that a word is, of those that make or take away an empty part
abbrev pub unit_step_in : List ℕ → Option StepName
unit_step_in w =
    if bytes_eq w (codes "unit") then Some unit_step
    else (if bytes_eq w (codes "before") then Some before_step
    else (if bytes_eq w (codes "after") then Some after_step
    else (if bytes_eq w (codes "beside") then Some beside_step else None)))

-- the step that a word is
abbrev pub step_in : List ℕ → Option StepName
step_in w =
    if bytes_eq w (codes "drop") then Some drop_step
    else (if bytes_eq w (codes "swap") then Some swap_step
    else (if bytes_eq w (codes "left") then Some left_step
    else (if bytes_eq w (codes "right") then Some right_step
    else (if bytes_eq w (codes "loosen") then Some loosen_step else unit_step_in w))))

-- the line of one word
abbrev pub bare_line : List ℕ → Option Line
bare_line w = if bytes_eq w (codes "rule") then Some plain_rule else None

-- the line of a word and a path
abbrev pub line_of_word : List ℕ → List Turn → Option Line
line_of_word w p = if bytes_eq w (codes "rule") then Some (rule_at p) else option_map (λ v. step_at v p) (step_in w)

-- the line whose first word is followed by a space and these bytes
abbrev pub line_with_path : List ℕ → List ℕ → Option Line
line_with_path w bytes = then_by (path_in bytes) (line_of_word w)

-- the line of a derivation that these bytes are, without a line feed
abbrev pub line_in : List ℕ → Option Line
line_in bytes =
    if list_any (λ byte. byte == 32) bytes then line_with_path (before_first (λ byte. byte == 32) bytes) (after_first (λ byte. byte == 32) bytes)
    else bare_line bytes

-- the lines that a piece and those behind it are, where each but the last is ended: a last one that isn't empty is
-- no line
abbrev pub lines_from : List (List ℕ) → List ℕ → List (Option Line)
lines_from [] [] = []
lines_from [] (byte ∷ bytes) = None ∷ []
lines_from (next ∷ pieces) piece = line_in piece ∷ lines_from pieces next

abbrev pub lines_among : List (List ℕ) → List (Option Line)
lines_among [] = []
lines_among (piece ∷ pieces) = lines_from pieces piece

-- the lines of a text, each ended by a line feed; None stands for what is no line of a derivation
abbrev pub lines_in : List ℕ → List (Option Line)
lines_in text = lines_among (slice_split (λ byte. byte == 10) text)
