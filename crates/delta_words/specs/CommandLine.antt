-- A command line: its words, read from the left. Options stand in any order, before, between or after operands, each at most once and
-- only where the command takes it; but behind an option that follows all operands that must stand there no further operand comes. A
-- word that begins with `-`, other than `-` alone, is an option, up to the word `--`, which ends the options and is no operand itself.
use Rattle.std.specs.Prelude.{ℕ, ◌==◌, ◌&&◌, ◌||◌, Bool, true, false, not, List, [], ◌∷◌, ◌++◌, length, drop, codes, Option, Some, None, is_some, option_and_then, nat_eq, nat_le, if◌then◌else◌}
use Rattle.std.specs.List.{starts_with}
use Rattle.std.specs.Str.{bytes_eq}
use Rattle.delta_words.specs.declared.command.Takes.{Takes}

-- a word begins with `-` (45) and isn't `-` alone
abbrev pub is_option : List ℕ → Bool
is_option [] = false
is_option (byte ∷ []) = false
is_option (byte ∷ next ∷ more) = byte == 45

-- what was read: the operands, the value of `--budget`, whether `--v2` and `--frames` stand there, whether `--` was read, whether the
-- value of `--budget` is to come, and whether an option stands behind the operands that must stand there
pub record WrittenLine : Type 0 where
  pub operands : List (List ℕ)
  pub budget : Option (List ℕ)
  pub v2 : Bool
  pub frames : Bool
  pub ended : Bool
  pub awaits : Bool
  pub closed : Bool

-- the line of no words
abbrev pub no_words : WrittenLine
no_words = record { operands = []; budget = None; v2 = false; frames = false; ended = false; awaits = false; closed = false }

-- what stands behind `--budget=` in a word
abbrev pub value_of : List ℕ → Option (List ℕ)
value_of word = if starts_with nat_eq word (codes "--budget=") then Some (drop 9 word) else None

-- a line with one operand more, where the command takes one more
abbrev pub with_operand : Takes → WrittenLine → List ℕ → Option WrittenLine
with_operand takes line word =
    if line.closed || length line.operands == takes.most then None else Some (record line { operands = line.operands ++ word ∷ [] })

-- the value of `--budget`, which is no option
abbrev pub with_value : WrittenLine → List ℕ → Option WrittenLine
with_value line word = if is_option word then None else Some (record line { budget = Some word; awaits = false })

-- `--budget=` and its value, where that is the word
abbrev pub with_both : WrittenLine → Option (List ℕ) → Option WrittenLine
with_both line None = None
with_both line (Some value) = Some (record line { budget = Some value })

-- `--budget`, with its value behind it or with `=` and its value
abbrev pub with_budget : WrittenLine → List ℕ → Option WrittenLine
with_budget line word = if bytes_eq word (codes "--budget") then Some (record line { awaits = true }) else with_both line (value_of word)

-- a line with the option other than `--` that a word is, where the command takes it and it hasn't come yet
abbrev pub with_setting : Takes → WrittenLine → List ℕ → Option WrittenLine
with_setting takes line word =
    if bytes_eq word (codes "--v2") then (if takes.v2 && not line.v2 then Some (record line { v2 = true }) else None)
    else (if bytes_eq word (codes "--frames") then (if takes.frames && not line.frames then Some (record line { frames = true }) else None)
    else (if takes.budget && not (is_some line.budget)
    then with_budget line word else None))

-- a line with the option that a word is; behind the operands that must stand there it lets no other follow
abbrev pub with_option : Takes → WrittenLine → List ℕ → Option WrittenLine
with_option takes line word =
    if bytes_eq word (codes "--") then Some (record line { ended = true })
    else with_setting takes (record line { closed = nat_le takes.operands (length line.operands) }) word

-- one word more
abbrev pub read_word : Takes → WrittenLine → List ℕ → Option WrittenLine
read_word takes line word =
    if line.awaits then with_value line word
    else (if is_option word && not line.ended then with_option takes line word else with_operand takes line word)

-- the words that are left
abbrev pub read_rest : Takes → WrittenLine → List (List ℕ) → Option WrittenLine
read_rest takes line [] = Some line
read_rest takes line (word ∷ words) = option_and_then (λ longer. read_rest takes longer words) (read_word takes line word)

-- a line that ends: the operands that the command asks for, and no value to come
abbrev pub whole_line : Takes → WrittenLine → Option WrittenLine
whole_line takes line = if not line.awaits && nat_le takes.operands (length line.operands) then Some line else None

-- the line that the words behind the first are
abbrev pub line_of : Takes → List (List ℕ) → Option WrittenLine
line_of takes words = option_and_then (whole_line takes) (read_rest takes no_words words)
