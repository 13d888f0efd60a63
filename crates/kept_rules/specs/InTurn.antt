-- The states of a kept state in turn, a form before its parts: each with all that its rule asks of what stands
-- around it.
--
-- Choices that are not obvious:
-- - A state's context and its type are told from outside in, whether or not the forms around it are typed. Where one of
--   them isn't, that one comes first, and what is said of its parts no longer matters.
-- - Names are bound in the order of the states: those of a form, and of its code that isn't reached, before those of its
--   parts. In a called body the names of its arguments are bound before it, and no others.
use Rattle.std.specs.Prelude.{ℕ, true, List, [], ◌∷◌, ◌++◌}
use Rattle.stream_type.specs.StreamType.{StreamType}
use Rattle.bunch.specs.Facts.{place_let}
use Rattle.bunch.specs.BunchTree.{leaf_names}
use Rattle.core_term.specs.CoreTerm.{CoreProgram}
use Rattle.core_term.specs.FreeNames.{bound_names}
use Rattle.core_term.specs.Parts.{par_left, par_right, cat_first, cat_second}
use Rattle.core_term.specs.Typing.{Context, type_at, with_name, with_parts, with_fact}
use Rattle.delta_state.specs.StateTree.{StateTree, ArgumentTrees, sink, var_state, par_state, cat_state, let_state, let_par_state, let_cat_state, sum_state, star_state, wait_state, frame_state, no_arguments, argument_before, argument_names, free_in_state}
use Rattle.delta_state.specs.StateTyping.{context_of_arguments}
use Rattle.kept_state.specs.KeptTree.{KeptTree}
use Rattle.kept_state.specs.KeptTyping.{context_kept}

-- x is the stream that the state a gives, of which the type s is left
abbrev pub with_state : ℕ → StreamType → StateTree → Context → Context
with_state x s a c = with_name x s (place_let x (free_in_state a) true c.order) c

-- x and y are the sides of z's stream
abbrev pub with_sides : ℕ → ℕ → ℕ → Context → Context
with_sides x y z c = with_parts x (par_left (type_at c z)) y (par_right (type_at c z)) z c

-- x and y are the first part of z's stream and the second
abbrev pub with_steps : ℕ → ℕ → ℕ → Context → Context
with_steps x y z c = with_fact x y (with_parts x (cat_first (type_at c z)) y (cat_second (type_at c z)) z c)

-- the names that a state binds by its own form, and in its code that isn't reached
abbrev pub own_names : StateTree → List ℕ
own_names (sink t) = []
own_names (var_state x) = []
own_names (par_state a b) = []
own_names (cat_state a l) = bound_names l.term
own_names (let_state x s a b) = x ∷ []
own_names (let_par_state x y z a) = x ∷ (y ∷ [])
own_names (let_cat_state x y z a) = x ∷ (y ∷ [])
own_names (sum_state z t held x l y m) = x ∷ (bound_names l.term ++ (y ∷ bound_names m.term))
own_names (star_state z t held l y ys m) = bound_names l.term ++ (y ∷ (ys ∷ bound_names m.term))
own_names (wait_state x t held l) = bound_names l.term
own_names (frame_state args s) = []

abbrev mutual
  -- the names that the parts of a state's form bind outside all frames' bodies, in the order of their states
  pub names_of_parts : StateTree → List ℕ
  names_of_parts (sink t) = []
  names_of_parts (var_state x) = []
  names_of_parts (par_state a b) = (own_names a ++ names_of_parts a) ++ (own_names b ++ names_of_parts b)
  names_of_parts (cat_state a l) = own_names a ++ names_of_parts a
  names_of_parts (let_state x s a b) = (own_names a ++ names_of_parts a) ++ (own_names b ++ names_of_parts b)
  names_of_parts (let_par_state x y z a) = own_names a ++ names_of_parts a
  names_of_parts (let_cat_state x y z a) = own_names a ++ names_of_parts a
  names_of_parts (sum_state z t held x l y m) = []
  names_of_parts (star_state z t held l y ys m) = []
  names_of_parts (wait_state x t held l) = []
  names_of_parts (frame_state args s) = names_of_arguments args

  pub names_of_arguments : ArgumentTrees → List ℕ
  names_of_arguments no_arguments = []
  names_of_arguments (argument_before x t s args) = (own_names s ++ names_of_parts s) ++ names_of_arguments args

-- the names that a state binds outside all frames' bodies, in the order of its states
abbrev pub names_in_turn : StateTree → List ℕ
names_in_turn s = own_names s ++ names_of_parts s

-- a state, the type that it is to have, its context, and the names that are bound before it
pub record StateAt : Type 0 where
  pub context : Context
  pub wanted : StreamType
  pub before : List ℕ
  pub state : StateTree

abbrev pub state_at : Context → StreamType → List ℕ → StateTree → StateAt
state_at c r before s = record { context = c; wanted = r; before = before; state = s }

abbrev mutual
  -- the states in a state, in turn, where these names are bound before them
  pub states_in : Context → StreamType → List ℕ → StateTree → List StateAt
  states_in c r before (sink t) = []
  states_in c r before (var_state x) = []
  states_in c r before (par_state a b) =
      (state_at c (par_left r) before a ∷ states_in c (par_left r) (before ++ own_names a) a)
      ++ (state_at c (par_right r) (before ++ names_in_turn a) b ∷ states_in c (par_right r) ((before ++ names_in_turn a) ++ own_names b) b)
  states_in c r before (cat_state a l) = state_at c (cat_first r) before a ∷ states_in c (cat_first r) (before ++ own_names a) a
  states_in c r before (let_state x s a b) =
      (state_at c s before a ∷ states_in c s (before ++ own_names a) a)
      ++ (state_at (with_state x s a c) r (before ++ names_in_turn a) b
      ∷ states_in (with_state x s a c) r ((before ++ names_in_turn a) ++ own_names b) b)
  states_in c r before (let_par_state x y z a) =
      state_at (with_sides x y z c) r before a ∷ states_in (with_sides x y z c) r (before ++ own_names a) a
  states_in c r before (let_cat_state x y z a) =
      state_at (with_steps x y z c) r before a ∷ states_in (with_steps x y z c) r (before ++ own_names a) a
  states_in c r before (sum_state z t held x l y m) = []
  states_in c r before (star_state z t held l y ys m) = []
  states_in c r before (wait_state x t held l) = []
  states_in c r before (frame_state args s) =
      states_of_arguments c before args
      ++ (state_at (context_of_arguments c args) r (argument_names args) s
      ∷ states_in (context_of_arguments c args) r (argument_names args ++ own_names s) s)

  pub states_of_arguments : Context → List ℕ → ArgumentTrees → List StateAt
  states_of_arguments c before no_arguments = []
  states_of_arguments c before (argument_before x t s args) =
      (state_at c t before s ∷ states_in c t (before ++ own_names s) s) ++ states_of_arguments c (before ++ names_in_turn s) args

-- a state and the states in it, in turn, where these names are bound before it
abbrev pub states_of : Context → StreamType → List ℕ → StateTree → List StateAt
states_of c r before s = state_at c r before s ∷ states_in c r (before ++ own_names s) s

-- the states of a kept state in turn, where main's parameters are bound before them
abbrev pub states_kept : CoreProgram → KeptTree → List StateAt
states_kept c k = states_of (context_kept c k) k.out (leaf_names c.main.params) k.state
