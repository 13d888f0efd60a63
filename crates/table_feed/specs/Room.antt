-- What private clauses cite of the steps that lead to a word among several, and of what is still to come.
use Rattle.std.specs.Prelude.{ℕ, zero, suc, ◌+◌, ◌≤◌, Bool, List, [], ◌∷◌, ◌++◌, length, All, ⊤, if◌then◌else◌}
use Rattle.event_word.specs.declared.event.Step.TheVariants.{Left, Right}
use Rattle.event_word.specs.StreamEvent.{StreamEvent, under}
use Rattle.table_feed.specs.Mixing.{rounds, in_order}

-- an event under so many steps to the right
abbrev pub right_by : ℕ → StreamEvent → StreamEvent
right_by zero x = x
right_by (suc depth) x = under Right (right_by depth x)

-- an event of the word of a number, under its steps; the last word has none to the left
abbrev pub placed : ℕ → Bool → StreamEvent → StreamEvent
placed depth last x = right_by depth (if last then x else under Left x)

-- the events at a depth have room for so many steps
abbrev pub HasSteps : ℕ → List StreamEvent → Type 0
HasSteps depth w = All (λ x. depth + length x.path ≤ 63) w

-- the words from a depth on have room for the steps that lead to them
abbrev pub HasRoom : ℕ → List (List StreamEvent) → Type 0
HasRoom depth [] = ⊤
HasRoom depth (w ∷ []) = HasSteps depth w
HasRoom depth (w ∷ v ∷ ws) = HasSteps (depth + 1) w × HasRoom (depth + 1) (v ∷ ws)

-- what comes in so many rounds and then in order
abbrev pub rest_of : ℕ → List ℕ → List (List StreamEvent) → List StreamEvent
rest_of n schedule ws = (rounds n schedule ws).events ++ in_order (rounds n schedule ws).left
