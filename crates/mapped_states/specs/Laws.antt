-- What the law of maps of states says: rewritings go along with a map that keeps the terms of code. They look at names,
-- at types and at terms, and at nothing else that a map can change.
use Rattle.std.specs.Prelude.{◌≡◌, List}
use Rattle.stream_type.specs.StreamType.{StreamType}
use Rattle.delta_state.specs.StateTree.{HeldName, LaterTree, StateTree}
use Rattle.state_rewriting.specs.Rewriting.{SimplerBy}
use Rattle.mapped_states.specs.Mapped.{mapped}

-- f keeps the term of code: its values and its depth alone may change
abbrev pub KeepsTerms : (LaterTree → LaterTree) → Type 0
KeepsTerms f = (l : LaterTree) → (f l).term ≡ l.term

-- then what is made simpler is so when it is mapped, whatever is done to what is held
abbrev pub SimplerMapped : Type 0
SimplerMapped =
    (f : LaterTree → LaterTree) (g : List HeldName → List HeldName) → KeepsTerms f → (r : StreamType) (a b : StateTree) → SimplerBy r a b
    → SimplerBy r (mapped f g a) (mapped f g b)
