-- What states are: core terms that were partly run, as plain data.
--
-- Choices that are not obvious:
-- - A state here has marks: the type of a let's name, of each argument of a frame, of each held name from
--   before it was held, and of the stream behind each value of code that isn't reached. The program's own
--   states have none of them (`PlainState.antt`). The meaning of a state needs them, since before the mark
--   of a sequence nothing has come of its second part, and what "nothing" is depends on its type.
-- - Code that isn't reached stands as it was written, beside the values that it sees and its depth.
-- - A case and a wait whose subject hasn't told yet hold what came on each of their names, and nothing
--   else holds anything: what came elsewhere was used, and is gone.
-- - There is no state of an item in front of others, nor of a side of a sum. Once what they are is put
--   out, what is left is a sequence, or the part itself.
use Rattle.std.specs.Prelude.{ℕ, Bool, true, false, ◌==◌, List, [], ◌∷◌, ◌++◌, map, if◌then◌else◌}
use Rattle.stream_type.specs.StreamType.{StreamType, eps}
use Rattle.stream_prefix.specs.StreamPrefix.{StreamPrefix}
use Rattle.hist_value.specs.HistValue.{HistValue}
use Rattle.core_term.specs.CoreTerm.{CoreTerm}
use Rattle.core_term.specs.FreeNames.{free_names, without}

-- a historical name: its value, and the type of the stream that was whole with this value
pub record Known : Type 0 where
  pub name : ℕ
  pub type : StreamType
  pub value : HistValue

-- what was held of a name: its type before anything was held, and what came since
pub record HeldName : Type 0 where
  pub name : ℕ
  pub type : StreamType
  pub prefix : StreamPrefix

-- a term that isn't reached yet, with the historical names that it may use, and its depth
pub record LaterTree : Type 0 where
  pub term : CoreTerm
  pub past : List Known
  pub depth : ℕ

mutual
  -- a state
  pub data StateTree : Type 0 where
    -- nothing comes any more; t is null
    sink : (t : StreamType) → StateTree
    -- the rest of the stream of a name
    var_state : (x : ℕ) → StateTree
    par_state : (a b : StateTree) → StateTree
    -- the rest of the first part, and then the second
    cat_state : (a : StateTree) (l : LaterTree) → StateTree
    -- x, whose type left is s, is a's stream in b
    let_state : (x : ℕ) (s : StreamType) (a b : StateTree) → StateTree
    -- x and y are the parts of what is left of z's stream in a
    let_par_state : (x y z : ℕ) (a : StateTree) → StateTree
    let_cat_state : (x y z : ℕ) (a : StateTree) → StateTree
    -- a case on z whose side hasn't come; t is the result's type
    sum_state : (z : ℕ) (t : StreamType) (held : List HeldName) (x : ℕ) (l : LaterTree) (y : ℕ) (m : LaterTree) → StateTree
    -- a case on z of which neither an item nor the end has come
    star_state : (z : ℕ) (t : StreamType) (held : List HeldName) (l : LaterTree) (y ys : ℕ) (m : LaterTree) → StateTree
    -- a wait for x, whose stream isn't whole
    wait_state : (x : ℕ) (t : StreamType) (held : List HeldName) (l : LaterTree) → StateTree
    -- a called body on its arguments
    frame_state : (args : ArgumentTrees) (s : StateTree) → StateTree

  -- the arguments of a call
  pub data ArgumentTrees : Type 0 where
    no_arguments : ArgumentTrees
    -- the parameter x, whose type left is t, has what s gives
    argument_before : (x : ℕ) (t : StreamType) (s : StateTree) (args : ArgumentTrees) → ArgumentTrees

-- whether the state is a name
abbrev pub is_var_state : StateTree → Bool
is_var_state (var_state x) = true
is_var_state _ = false

-- the names that are held
abbrev pub held_names : List HeldName → List ℕ
held_names held = map (λ h. h.name) held

-- the parameters that have arguments
abbrev pub argument_names : ArgumentTrees → List ℕ
argument_names no_arguments = []
argument_names (argument_before x t s args) = x ∷ argument_names args

-- the argument of a parameter
abbrev pub argument_at : ArgumentTrees → ℕ → StateTree
argument_at no_arguments u = sink eps
argument_at (argument_before x t s args) u = if u == x then s else argument_at args u

-- the free stream names of a case on z, each as often as it is used
abbrev pub free_in_sum : ℕ → ℕ → LaterTree → ℕ → LaterTree → List ℕ
free_in_sum z x l y m = z ∷ (without x (free_names l.term) ++ without y (free_names m.term))

abbrev pub free_in_star : ℕ → LaterTree → ℕ → ℕ → LaterTree → List ℕ
free_in_star z l y ys m = z ∷ (free_names l.term ++ without y (without ys (free_names m.term)))

-- those of a wait
abbrev pub free_in_wait : ℕ → LaterTree → List ℕ
free_in_wait x l = x ∷ free_names l.term

abbrev mutual
  -- the free stream names of a state
  pub free_in_state : StateTree → List ℕ
  free_in_state (sink t) = []
  free_in_state (var_state x) = x ∷ []
  free_in_state (par_state a b) = free_in_state a ++ free_in_state b
  free_in_state (cat_state a l) = free_in_state a ++ free_names l.term
  free_in_state (let_state x s a b) = free_in_state a ++ without x (free_in_state b)
  free_in_state (let_par_state x y z a) = z ∷ without x (without y (free_in_state a))
  free_in_state (let_cat_state x y z a) = z ∷ without x (without y (free_in_state a))
  free_in_state (sum_state z t held x l y m) = free_in_sum z x l y m
  free_in_state (star_state z t held l y ys m) = free_in_star z l y ys m
  free_in_state (wait_state x t held l) = free_in_wait x l
  free_in_state (frame_state args s) = free_in_arguments args

  pub free_in_arguments : ArgumentTrees → List ℕ
  free_in_arguments no_arguments = []
  free_in_arguments (argument_before x t s args) = free_in_state s ++ free_in_arguments args

abbrev mutual
  -- the code that isn't reached, from left to right
  pub laters_of : StateTree → List LaterTree
  laters_of (sink t) = []
  laters_of (var_state x) = []
  laters_of (par_state a b) = laters_of a ++ laters_of b
  laters_of (cat_state a l) = laters_of a ++ l ∷ []
  laters_of (let_state x s a b) = laters_of a ++ laters_of b
  laters_of (let_par_state x y z a) = laters_of a
  laters_of (let_cat_state x y z a) = laters_of a
  laters_of (sum_state z t held x l y m) = l ∷ (m ∷ [])
  laters_of (star_state z t held l y ys m) = l ∷ (m ∷ [])
  laters_of (wait_state x t held l) = l ∷ []
  laters_of (frame_state args s) = laters_in args ++ laters_of s

  pub laters_in : ArgumentTrees → List LaterTree
  laters_in no_arguments = []
  laters_in (argument_before x t s args) = laters_of s ++ laters_in args
