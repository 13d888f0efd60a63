-- What the laws of rewritings and buffer bounds say.
--
-- Choices that are not obvious:
-- - A bound is compared over one context, in which the state is typed. A simpler state is typed there too, so where
--   a state has a typing in which its bound is at most n, the simpler one has such a typing.
-- - The numbers of the functions are any: a rewriting reaches no code.
use Rattle.std.specs.Prelude.{ℕ, Bool, IsTrue, List, Some}
use Rattle.std.specs.List.{All}
use Rattle.stream_type.specs.StreamType.{StreamType}
use Rattle.stream_prefix.specs.StreamPrefix.{StreamPrefix}
use Rattle.event_word.specs.StreamEvent.{StreamEvent}
use Rattle.core_term.specs.CoreTerm.{CoreBody, CoreProgram}
use Rattle.core_term.specs.Typing.{Context, IsTypedBody}
use Rattle.delta_state.specs.StateTree.{StateTree}
use Rattle.delta_state.specs.StateTyping.{HasStateType}
use Rattle.delta_state.specs.Settled.{is_settled}
use Rattle.delta_state.specs.Stands.{StandsFor, output_left}
use Rattle.delta_state.specs.PlainState.{without_marks}
use Rattle.delta_state.specs.MachineView.{MachineView, input_of}
use Rattle.state_rewriting.specs.Rewriting.{Simpler, SimplerBy}
use Rattle.state_rewriting.specs.Laws.{with_state}
use Rattle.state_bounds.specs.Bounds.{Bound, ◌⊑◌}
use Rattle.state_bounds.specs.StateBounds.{state_bound}
use Rattle.state_bounds.specs.Laws.{IsWithin, bound_after}

-- a state that is made simpler can hold no more
abbrev pub SimplerHoldsNoMore : Type 0
SimplerHoldsNoMore =
    (funs : List CoreBody) (counts : ℕ → Bool) (numbers : ℕ → Bound) (c : Context) (r : StreamType) (a b : StateTree)
    → HasStateType funs counts c a r → IsTrue (is_settled a r) → Simpler r a b
    → state_bound funs numbers b c ⊑ state_bound funs numbers a c

-- a state has the type r in a context, is settled, and has a bound of n at most there
pub record IsBounded (funs : List CoreBody) (counts : ℕ → Bool) (numbers : ℕ → Bound) (c : Context) (r : StreamType) (n : ℕ) (s : StateTree) : Type 0 where
  pub typed : HasStateType funs counts c s r
  pub settled : IsTrue (is_settled s r)
  pub within : state_bound funs numbers s c ⊑ Some n

-- so is a state that it becomes by rewritings
abbrev pub SimplerKeepsBound : Type 0
SimplerKeepsBound =
    (funs : List CoreBody) (counts : ℕ → Bool) (numbers : ℕ → Bound) (c : Context) (r : StreamType) (n : ℕ) (a b : StateTree)
    → IsBounded funs counts numbers c r n a → SimplerBy r a b → IsBounded funs counts numbers c r n b

-- what stands for a program after p can hold no more after any number of rewritings
abbrev pub SimplerStaysBelow : Type 0
SimplerStaysBelow =
    (c : CoreProgram) (numbers : ℕ → Bound) (n : ℕ) (p : StreamPrefix) (a b : StateTree) → StandsFor c n p a → SimplerBy (output_left c p) a b
    → bound_after c numbers p b ⊑ bound_after c numbers p a

-- a machine that stands after a word within n does so with the simpler state in place of its own
abbrev pub SimplerIsWithin : Type 0
SimplerIsWithin =
    (m : MachineView) (word : List StreamEvent) (numbers : ℕ → Bound) (n : ℕ) (b : StateTree) (h : IsWithin m word numbers n)
    → All (IsTypedBody m.program.funs) m.program.funs → SimplerBy (output_left m.program (input_of m.program word)) h.stands.marked b
    → IsWithin (with_state (without_marks b) m) word numbers n
