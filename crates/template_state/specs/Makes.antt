-- What it is for a result to be what was to be made.
use Rattle.std.specs.Prelude.{◌≡◌, Result, IfOk}
use Rattle.std.specs.declared.boxed.Box.{Box}
use Rattle.std.specs.declared.alloc.Global.{Global}
use Rattle.core_term.specs.declared.term.Node.{Node}
use Rattle.core_term.specs.CoreTerm.{CoreTerm, term_of}
use Rattle.delta_state.specs.declared.state.State.{State}
use Rattle.delta_state.specs.PlainState.{PlainState, state_of}

-- what is made stands for this
abbrev pub Makes : {A B E : Type 0} → (A → B) → Result A E → B → Type 0
Makes reads result x = IfOk result (λ a. reads a ≡ x)

-- both that are made stand for these
abbrev pub MakesBoth : {A B E : Type 0} → (A → B) → Result (A × A) E → B → B → Type 0
MakesBoth reads result x y = IfOk result (λ p. (reads p.0 ≡ x) × (reads p.1 ≡ y))

-- the term in a box
abbrev pub boxed_term : Box Node Global → CoreTerm
boxed_term n = term_of n.value

-- the state in a box
abbrev pub boxed_state : Box State Global → PlainState
boxed_state s = state_of s.value
