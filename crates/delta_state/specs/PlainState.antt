-- States as a program keeps them: without the types that the meaning of a state needs.
--
-- A plain state stands for what a state stands for from which it is got by leaving out its marks. No
-- machine has to keep them, and contracts see of a machine's state the plain one alone.
use Rattle.std.specs.Prelude.{ℕ, ◌+◌, ◌-◌, ◌^◌, min, List, [], ◌∷◌, map, length, sum_by}
use Rattle.stream_type.specs.StreamType.{StreamType, type_of}
use Rattle.stream_prefix.specs.declared.prefix.Prefix.{Prefix}
use Rattle.stream_prefix.specs.StreamPrefix.{StreamPrefix}
use Rattle.stream_prefix.specs.Tree.{prefix_of}
use Rattle.bunch.specs.declared.name.Name.{Name}
use Rattle.hist_value.specs.declared.history.Value.{Value}
use Rattle.hist_value.specs.HistValue.{HistValue, hist_value_of}
use Rattle.event_word.specs.Canon.{canon}
use Rattle.core_term.specs.CoreTerm.{CoreTerm, term_of}
use Rattle.delta_state.specs.declared.state.Argument.{Argument}
use Rattle.delta_state.specs.declared.state.Later.{Later}
use Rattle.delta_state.specs.declared.state.State.{State, Row_of-Argument, end_of-Argument, more_of-Argument}
use Rattle.delta_state.specs.declared.state.State.TheVariants.{Sink, Var, Par', Cat', Let', LetPar', LetCat', CaseSum, CaseStar, Wait, Frame'}
use Rattle.delta_state.specs.StateTree.{HeldName, LaterTree, StateTree, ArgumentTrees, sink, var_state, par_state, cat_state, let_state, let_par_state, let_cat_state, sum_state, star_state, wait_state, frame_state, no_arguments, argument_before}

-- a term that isn't reached yet, with the values of the historical names that it may use, and its depth
pub record PlainLater : Type 0 where
  pub term : CoreTerm
  pub past : List (ℕ × HistValue)
  pub depth : ℕ

mutual
  -- a state without marks; the forms are those of `StateTree`
  pub data PlainState : Type 0 where
    plain_sink : (t : StreamType) → PlainState
    plain_var : (x : ℕ) → PlainState
    plain_par : (a b : PlainState) → PlainState
    plain_cat : (a : PlainState) (l : PlainLater) → PlainState
    plain_let : (x : ℕ) (a b : PlainState) → PlainState
    plain_let_par : (x y z : ℕ) (a : PlainState) → PlainState
    plain_let_cat : (x y z : ℕ) (a : PlainState) → PlainState
    plain_sum : (z : ℕ) (t : StreamType) (held : List (ℕ × StreamPrefix)) (x : ℕ) (l : PlainLater) (y : ℕ) (m : PlainLater) → PlainState
    plain_star : (z : ℕ) (t : StreamType) (held : List (ℕ × StreamPrefix)) (l : PlainLater) (y ys : ℕ) (m : PlainLater) → PlainState
    plain_wait : (x : ℕ) (t : StreamType) (held : List (ℕ × StreamPrefix)) (l : PlainLater) → PlainState
    plain_frame : (args : PlainArguments) (s : PlainState) → PlainState

  -- the arguments of a call
  pub data PlainArguments : Type 0 where
    no_plain_arguments : PlainArguments
    plain_argument_before : (x : ℕ) (s : PlainState) (args : PlainArguments) → PlainArguments

-- code, and what is held, without marks
abbrev pub plain_later : LaterTree → PlainLater
plain_later l = record { term = l.term; past = map (λ e. (e.name, e.value)) l.past; depth = l.depth }

abbrev pub plain_held : List HeldName → List (ℕ × StreamPrefix)
plain_held held = map (λ h. (h.name, h.prefix)) held

abbrev mutual
  -- a state without its marks
  pub without_marks : StateTree → PlainState
  without_marks (sink t) = plain_sink t
  without_marks (var_state x) = plain_var x
  without_marks (par_state a b) = plain_par (without_marks a) (without_marks b)
  without_marks (cat_state a l) = plain_cat (without_marks a) (plain_later l)
  without_marks (let_state x s a b) = plain_let x (without_marks a) (without_marks b)
  without_marks (let_par_state x y z a) = plain_let_par x y z (without_marks a)
  without_marks (let_cat_state x y z a) = plain_let_cat x y z (without_marks a)
  without_marks (sum_state z t held x l y m) = plain_sum z t (plain_held held) x (plain_later l) y (plain_later m)
  without_marks (star_state z t held l y ys m) = plain_star z t (plain_held held) (plain_later l) y ys (plain_later m)
  without_marks (wait_state x t held l) = plain_wait x t (plain_held held) (plain_later l)
  without_marks (frame_state args s) = plain_frame (arguments_without_marks args) (without_marks s)

  pub arguments_without_marks : ArgumentTrees → PlainArguments
  arguments_without_marks no_arguments = no_plain_arguments
  arguments_without_marks (argument_before x t s args) = plain_argument_before x (without_marks s) (arguments_without_marks args)

-- the values that the program keeps
abbrev pub past_of : List (Name × Value) → List (ℕ × HistValue)
past_of past = map (λ e. (e.0.0, hist_value_of e.1)) past

-- the code that a tree of the program stands for
abbrev pub later_of : Later → PlainLater
later_of l = record { term = term_of l.term; past = past_of l.past.items; depth = l.depth }

-- the held prefixes that the program keeps
abbrev pub held_of : List (Name × Prefix) → List (ℕ × StreamPrefix)
held_of held = map (λ h. (h.0.0, prefix_of h.1)) held

abbrev mutual
  -- the state that a tree of the program stands for
  pub state_of : State → PlainState
  state_of (Sink t) = plain_sink (type_of t)
  state_of (Var x) = plain_var x.0
  state_of (Par' p a q b) = plain_par (state_of a) (state_of b)
  state_of (Cat' p a l) = plain_cat (state_of a) (later_of l)
  state_of (Let' x p a q b) = plain_let x.0 (state_of a) (state_of b)
  state_of (LetPar' x y z p a) = plain_let_par x.0 y.0 z.0 (state_of a)
  state_of (LetCat' x y z p a) = plain_let_cat x.0 y.0 z.0 (state_of a)
  state_of (CaseSum z t held x l y m) = plain_sum z.0 (type_of t) (held_of held.items) x.0 (later_of l) y.0 (later_of m)
  state_of (CaseStar z t held l y ys m) = plain_star z.0 (type_of t) (held_of held.items) (later_of l) y.0 ys.0 (later_of m)
  state_of (Wait x t held l) = plain_wait x.0 (type_of t) (held_of held.items) (later_of l)
  state_of (Frame' shape args p s) = plain_frame (arguments_of args) (state_of s)

  pub arguments_of : {n : _} → Row_of-Argument n → PlainArguments
  arguments_of end_of-Argument = no_plain_arguments
  arguments_of (more_of-Argument x s args) = plain_argument_before x.0 (state_of s) (arguments_of args)

-- what an argument stands for
abbrev pub argument_of : Argument → ℕ × PlainState
argument_of a = (a.name.0, state_of a.state)

-- parameters with their states as the arguments of a call
abbrev pub arguments_from : List (ℕ × PlainState) → PlainArguments
arguments_from [] = no_plain_arguments
arguments_from (a ∷ args) = plain_argument_before a.0 a.1 (arguments_from args)

-- a count that stops at the greatest number of 64 bits
abbrev pub capped : ℕ → ℕ
capped n = min n (2 ^ 64 - 1)

-- the number of events in the canonical words of held prefixes
abbrev pub events_in : List (ℕ × StreamPrefix) → ℕ
events_in held = sum_by (λ h. length (canon h.1)) held

abbrev mutual
  -- the number of events in the canonical words of all that a state holds
  pub events_held : PlainState → ℕ
  events_held (plain_sink t) = 0
  events_held (plain_var x) = 0
  events_held (plain_par a b) = events_held a + events_held b
  events_held (plain_cat a l) = events_held a
  events_held (plain_let x a b) = events_held a + events_held b
  events_held (plain_let_par x y z a) = events_held a
  events_held (plain_let_cat x y z a) = events_held a
  events_held (plain_sum z t held x l y m) = events_in held
  events_held (plain_star z t held l y ys m) = events_in held
  events_held (plain_wait x t held l) = events_in held
  events_held (plain_frame args s) = events_held_by args + events_held s

  pub events_held_by : PlainArguments → ℕ
  events_held_by no_plain_arguments = 0
  events_held_by (plain_argument_before x s args) = events_held s + events_held_by args

abbrev mutual
  -- the number of states in a state, with all code that isn't reached counted as one state each
  pub state_count : PlainState → ℕ
  state_count (plain_sink t) = 1
  state_count (plain_var x) = 1
  state_count (plain_par a b) = 1 + (state_count a + state_count b)
  state_count (plain_cat a l) = 1 + (state_count a + 1)
  state_count (plain_let x a b) = 1 + (state_count a + state_count b)
  state_count (plain_let_par x y z a) = 1 + state_count a
  state_count (plain_let_cat x y z a) = 1 + state_count a
  state_count (plain_sum z t held x l y m) = 3
  state_count (plain_star z t held l y ys m) = 3
  state_count (plain_wait x t held l) = 2
  state_count (plain_frame args s) = 1 + (state_counts args + state_count s)

  pub state_counts : PlainArguments → ℕ
  state_counts no_plain_arguments = 0
  state_counts (plain_argument_before x s args) = state_count s + state_counts args
