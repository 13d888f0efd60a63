-- An event as the list of its steps and its leaf.
use Rattle.std.specs.Prelude.{⊤, ℕ, ◌≤◌, List, [], ◌∷◌, length, All, FitsSigned}
use Rattle.std.specs.Int.{w64}
use Rattle.event_word.specs.declared.event.Step.{Step}
use Rattle.event_word.specs.declared.event.Leaf.{Leaf}
use Rattle.event_word.specs.declared.event.Leaf.TheVariants.{Int}

-- the steps from the whole type down, and the leaf at their end
pub record StreamEvent : Type 0 where
  pub path : List Step
  pub leaf : Leaf

-- the event with no step
abbrev pub leaf_of : Leaf → StreamEvent
leaf_of x = record { path = []; leaf = x }

-- the event with a step in front
abbrev pub under : Step → StreamEvent → StreamEvent
under i x = record { path = i ∷ x.path; leaf = x.leaf }

-- each event has at most n steps
abbrev pub IsWithin : ℕ → List StreamEvent → Type 0
IsWithin n w = All (λ x. length x.path ≤ n) w

-- the number of a leaf has 64 bits
abbrev pub FitsLeaf : Leaf → Type 0
FitsLeaf (Int n) = FitsSigned w64 n
FitsLeaf _ = ⊤
