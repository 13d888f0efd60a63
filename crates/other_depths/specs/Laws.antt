-- What the laws of other depths say: how deep code may go doesn't matter where it is deep enough for the calls that
-- are made.
--
-- Choices that are not obvious:
-- - Nothing is asked of types: the laws hold of any state, over any functions.
-- - The number of calls is that of the state as it is. At the other depths it makes as many, since the run is the same.
use Rattle.std.specs.Prelude.{ℕ, ◌+◌, ◌≤◌, ◌≡◌}
use Rattle.std.specs.List.{All}
use Rattle.stream_type.specs.StreamType.{StreamType}
use Rattle.core_term.specs.CoreTerm.{CoreBody}
use Rattle.core_term.specs.Environment.{Environment, NameTypes}
use Rattle.delta_state.specs.StateTree.{StateTree, laters_of}
use Rattle.delta_state.specs.StateMeaning.{run_state}
use Rattle.delta_state.specs.Rest.{rest_of}
use Rattle.state_rewriting.specs.Rewriting.{SimplerBy}
use Rattle.other_depths.specs.Depths.{depths_of, deepened}
use Rattle.other_depths.specs.Suits.{Suits, ComesFrom}

-- a state that makes at most n calls, which g's depths suit at each of its code, gives at these depths the same, and
-- makes as many calls at the same level
abbrev pub RunsAtOtherDepths : Type 0
RunsAtOtherDepths =
    (g : ℕ → ℕ) (n : ℕ) (funs : ℕ → CoreBody) (s : StateTree) (types : NameTypes) (r : StreamType) (env : Environment)
    → (run_state funs s types r env).calls ≤ n → Suits g n s → run_state funs (deepened g s) types r env ≡ run_state funs s types r env

-- it leaves the same state, at g's depths
abbrev pub RestsAtOtherDepths : Type 0
RestsAtOtherDepths =
    (g : ℕ → ℕ) (n : ℕ) (funs : ℕ → CoreBody) (s : StateTree) (types : NameTypes) (r : StreamType) (env : Environment)
    → (run_state funs s types r env).calls ≤ n → Suits g n s → rest_of funs (deepened g s) types r env ≡ deepened g (rest_of funs s types r env)

-- what is made simpler is so at any other depths: no rewriting looks at one
abbrev pub SimplerAtOtherDepths : Type 0
SimplerAtOtherDepths = (g : ℕ → ℕ) (r : StreamType) (a b : StateTree) → SimplerBy r a b → SimplerBy r (deepened g a) (deepened g b)

-- what a state leaves has the depths of its code, each less some of the calls that it made
abbrev pub DepthsAfter : Type 0
DepthsAfter =
    (funs : ℕ → CoreBody) (s : StateTree) (types : NameTypes) (r : StreamType) (env : Environment)
    → All (λ l. ComesFrom (depths_of s) (run_state funs s types r env).calls l.depth) (laters_of (rest_of funs s types r env))

-- so where depths suit n calls, they suit, after a run, those that it leaves of n
abbrev pub SuitsAfter : Type 0
SuitsAfter =
    (g : ℕ → ℕ) (n m : ℕ) (funs : ℕ → CoreBody) (s : StateTree) (types : NameTypes) (r : StreamType) (env : Environment) → Suits g n s
    → (run_state funs s types r env).calls + m ≤ n → Suits g m (rest_of funs s types r env)

-- depths that are put in twice are put in at once
abbrev pub DepthsTwice : Type 0
DepthsTwice = (g h : ℕ → ℕ) (s : StateTree) → deepened g (deepened h s) ≡ deepened (λ d. g (h d)) s

-- and where each is put in for itself the state stays
abbrev pub DepthsStay : Type 0
DepthsStay = (s : StateTree) → deepened (λ d. d) s ≡ s
