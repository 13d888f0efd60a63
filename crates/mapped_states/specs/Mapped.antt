-- A map of states: f is put in for code that isn't reached, and g for what is held. All else stays as it is.
--
-- Choices that are not obvious:
-- - What a case or a wait holds is mapped as one list, so that a map which leaves it alone is the identity, and a
--   state that is mapped by it holds the very list that it held.
use Rattle.std.specs.Prelude.{List}
use Rattle.delta_state.specs.StateTree.{HeldName, LaterTree, StateTree, ArgumentTrees, sink, var_state, par_state, cat_state, let_state, let_par_state, let_cat_state, sum_state, star_state, wait_state, frame_state, no_arguments, argument_before}

module _ (f : LaterTree → LaterTree) (g : List HeldName → List HeldName) where
  abbrev mutual
    -- a state
    pub mapped : StateTree → StateTree
    mapped (sink t) = sink t
    mapped (var_state x) = var_state x
    mapped (par_state a b) = par_state (mapped a) (mapped b)
    mapped (cat_state a l) = cat_state (mapped a) (f l)
    mapped (let_state x s a b) = let_state x s (mapped a) (mapped b)
    mapped (let_par_state x y z a) = let_par_state x y z (mapped a)
    mapped (let_cat_state x y z a) = let_cat_state x y z (mapped a)
    mapped (sum_state z t held x l y m) = sum_state z t (g held) x (f l) y (f m)
    mapped (star_state z t held l y ys m) = star_state z t (g held) (f l) y ys (f m)
    mapped (wait_state x t held l) = wait_state x t (g held) (f l)
    mapped (frame_state args s) = frame_state (mapped_arguments args) (mapped s)

    -- the arguments of a call
    pub mapped_arguments : ArgumentTrees → ArgumentTrees
    mapped_arguments no_arguments = no_arguments
    mapped_arguments (argument_before x t s args) = argument_before x t (mapped s) (mapped_arguments args)
