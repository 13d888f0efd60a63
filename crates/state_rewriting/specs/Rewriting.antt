-- Rewritings of states: how a state that was partly run is put into a simpler form.
--
-- A loop that runs on leaves behind, at each item, bindings of what is over, names for names and a call
-- inside a call. Without rewritings its state would grow with its input.
--
-- Choices that are not obvious:
-- - A rewriting replaces one part of a state, at any place that a run of it comes to: it isn't done in code
--   that isn't reached, nor where something is held. Many are done one after the other.
-- - It is over the type that is left at its place, since a part is finished where that type is null.
-- - A name is put in for another one, or for a pair, only at places where none of the names is bound anew,
--   and not under a destructuring of one of them. Under one of the name that is put in, the order between
--   the two names and the parts isn't the same, and the state may lose its type (`proofs/Examples.antt`).
-- - A called body sees its parameters alone, so no name from outside is put in there.
use Rattle.std.specs.Prelude.{ℕ, ◌≡◌, ◌≢◌, ◌==◌, Bool, true, false, ◌&&◌, ◌||◌, not, if◌then◌else◌, List, [], ◌∷◌}
use Rattle.stream_type.specs.StreamType.{StreamType, null_of}
use Rattle.bunch.specs.Names.{holds}
use Rattle.core_term.specs.CoreTerm.{var_term}
use Rattle.core_term.specs.FreeNames.{without}
use Rattle.core_term.specs.Parts.{par_left, par_right, cat_first}
use Rattle.delta_state.specs.StateTree.{LaterTree, StateTree, ArgumentTrees, sink, var_state, par_state, cat_state, let_state, let_par_state, let_cat_state, frame_state, no_arguments, argument_before, argument_names, argument_at, free_in_state}
use Rattle.state_rewriting.specs.MarksAtOnce.{marks_at_once}

module _ (names : List ℕ) (R : StreamType → StateTree → StateTree → Type 0) where
  mutual
    -- of a state with this type left, the second is the first with one part replaced, as R says, at a place
    -- where none of the names is bound anew or taken apart; each constructor says in which part that place is
    pub data Replaced : StreamType → StateTree → StateTree → Type 0 where
      here : {r : StreamType} {a b : StateTree} → R r a b → Replaced r a b
      in_left : {r : StreamType} {a b e : StateTree} → Replaced (par_left r) a b → Replaced r (par_state a e) (par_state b e)
      in_right : {r : StreamType} {a b e : StateTree} → Replaced (par_right r) a b → Replaced r (par_state e a) (par_state e b)
      in_first : {r : StreamType} {a b : StateTree} {l : LaterTree} → Replaced (cat_first r) a b → Replaced r (cat_state a l) (cat_state b l)
      in_bound : {r s : StreamType} {x : ℕ} {a b e : StateTree} → Replaced s a b → Replaced r (let_state x s a e) (let_state x s b e)
      in_let : {r s : StreamType} {x : ℕ} {a b e : StateTree} → holds x names ≡ false → Replaced r a b → Replaced r (let_state x s e a) (let_state x s e b)
      in_let_par : {r : StreamType} {x y z : ℕ} {a b : StateTree} → holds x names ≡ false → holds y names ≡ false → holds z names ≡ false
          → Replaced r a b → Replaced r (let_par_state x y z a) (let_par_state x y z b)
      in_let_cat : {r : StreamType} {x y z : ℕ} {a b : StateTree} → holds x names ≡ false → holds y names ≡ false → holds z names ≡ false
          → Replaced r a b → Replaced r (let_cat_state x y z a) (let_cat_state x y z b)
      in_arguments : {r : StreamType} {args others : ArgumentTrees} {a : StateTree} → ReplacedArgument args others
          → Replaced r (frame_state args a) (frame_state others a)
      in_body : {r : StreamType} {args : ArgumentTrees} {a b : StateTree} → names ≡ [] → Replaced r a b → Replaced r (frame_state args a) (frame_state args b)

    -- the same in one of the arguments
    pub data ReplacedArgument : ArgumentTrees → ArgumentTrees → Type 0 where
      at_first : {x : ℕ} {t : StreamType} {a b : StateTree} {args : ArgumentTrees} → Replaced t a b
          → ReplacedArgument (argument_before x t a args) (argument_before x t b args)
      at_other : {x : ℕ} {t : StreamType} {a : StateTree} {args others : ArgumentTrees} → ReplacedArgument args others
          → ReplacedArgument (argument_before x t a args) (argument_before x t a others)

  -- the second state is the first after any number of such replacements, one after the other
  pub data ReplacedBy : StreamType → StateTree → StateTree → Type 0 where
    as_it_is : {r : StreamType} {a : StateTree} → ReplacedBy r a a
    one_more : {r : StreamType} {a b e : StateTree} → ReplacedBy r a b → Replaced r b e → ReplacedBy r a e

  -- the same of arguments
  pub data ReplacedArgumentsBy : ArgumentTrees → ArgumentTrees → Type 0 where
    as_they_are : {args : ArgumentTrees} → ReplacedArgumentsBy args args
    one_more_of : {args others rest : ArgumentTrees} → ReplacedArgumentsBy args others → ReplacedArgument others rest → ReplacedArgumentsBy args rest

-- the name z in the place of the name y
pub data IsAlias (y z : ℕ) : StreamType → StateTree → StateTree → Type 0 where
  alias_for : {r : StreamType} → IsAlias y z r (var_state y) (var_state z)

-- the name z in the place of the pair of x and y
pub data IsPair (x y z : ℕ) : StreamType → StateTree → StateTree → Type 0 where
  pair_for : {r : StreamType} → IsPair x y z r (par_state (var_state x) (var_state y)) (var_state z)

-- whether a state is a name or finished
abbrev pub is_plain : StateTree → Bool
is_plain (sink t) = true
is_plain (var_state x) = true
is_plain _ = false

-- whether all arguments are names or finished
abbrev pub are_plain : ArgumentTrees → Bool
are_plain no_arguments = true
are_plain (argument_before x t s args) = is_plain s && are_plain args

-- the names that stand as arguments, each as often as it does
abbrev pub names_passed : ArgumentTrees → List ℕ
names_passed no_arguments = []
names_passed (argument_before x t (var_state u) args) = u ∷ names_passed args
names_passed (argument_before x t s args) = names_passed args

-- whether a name stands at most once in a list
abbrev pub at_most_once : ℕ → List ℕ → Bool
at_most_once x [] = true
at_most_once x (y ∷ ys) = if y == x then not (holds x ys) else at_most_once x ys

-- whether each argument that is neither a name nor finished has its parameter at most once in the list
abbrev pub stand_once : ArgumentTrees → List ℕ → Bool
stand_once no_arguments us = true
stand_once (argument_before x t s args) us = (is_plain s || at_most_once x us) && stand_once args (without x us)

-- an argument of a call inside a body: where it is a name, what the arguments of that body have for it
abbrev pub passed_on : ArgumentTrees → StateTree → StateTree
passed_on args (var_state u) = argument_at args u
passed_on args s = s

-- so are all arguments of a call inside a body
abbrev pub composed : ArgumentTrees → ArgumentTrees → ArgumentTrees
composed args no_arguments = no_arguments
composed args (argument_before x t s inner) = argument_before x t (passed_on args s) (composed args inner)

-- the arguments less those of a parameter
abbrev pub without_argument : ℕ → ArgumentTrees → ArgumentTrees
without_argument u no_arguments = no_arguments
without_argument u (argument_before x t s args) = if x == u then without_argument u args else argument_before x t s (without_argument u args)

-- the rewritings, of a state with the type r left
pub data Rewritten : StreamType → StateTree → StateTree → Type 0 where
  -- nothing more comes of what has a null type
  finished : {r : StreamType} {a : StateTree} → null_of r ≡ true → Rewritten r a (sink r)
  -- a binding whose name isn't used
  unused : {r s : StreamType} {x : ℕ} {a b : StateTree} → holds x (free_in_state b) ≡ false → Rewritten r (let_state x s a b) b
  -- a destructuring neither of whose names is used, of a pair and of a sequence
  unused_pair : {r : StreamType} {x y z : ℕ} {a : StateTree} → holds x (free_in_state a) ≡ false → holds y (free_in_state a) ≡ false
      → Rewritten r (let_par_state x y z a) a
  unused_row : {r : StreamType} {x y z : ℕ} {a : StateTree} → holds x (free_in_state a) ≡ false → holds y (free_in_state a) ≡ false
      → Rewritten r (let_cat_state x y z a) a
  -- the arguments of a parameter that isn't used
  unused_argument : {r : StreamType} {args : ArgumentTrees} {a : StateTree} (u : ℕ) → holds u (free_in_state a) ≡ false
      → Rewritten r (frame_state args a) (frame_state (without_argument u args) a)
  -- y is bound to z: z is put in for y at one place
  alias : {r s : StreamType} {y z : ℕ} {a b : StateTree} → Replaced (y ∷ z ∷ []) (IsAlias y z) r a b
      → Rewritten r (let_state y s (var_state z) a) (let_state y s (var_state z) b)
  -- x and y are the parts of z: z is put in for the pair of them at one place
  pair : {r : StreamType} {x y z : ℕ} {a b : StateTree} → x ≢ y → y ≢ z → Replaced (x ∷ y ∷ z ∷ []) (IsPair x y z) r a b
      → Rewritten r (let_par_state x y z a) (let_par_state x y z b)
  -- a binding whose name is all that follows
  renamed : {r s : StreamType} {x : ℕ} {a : StateTree} → Rewritten r (let_state x s a (var_state x)) a
  -- a let whose name is taken apart and put together again. What is bound gives the mark between the parts at once,
  -- and something comes before it; else the mark may come later than the pair would give it
  row : {r s : StreamType} {w x y : ℕ} {a : StateTree} {l : LaterTree} → l.term ≡ var_term y → null_of (cat_first s) ≡ false → marks_at_once a ≡ true
      → Rewritten r (let_state w s a (let_cat_state x y w (cat_state (var_state x) l))) a
  -- a call that is the whole body of another one: both become one. Its arguments are names or finished, and
  -- no argument outside that is neither is passed on twice, since it would then run twice
  frames : {r : StreamType} {args inner : ArgumentTrees} {a : StateTree} → are_plain inner ≡ true → stand_once args (names_passed inner) ≡ true
      → Rewritten r (frame_state args (frame_state inner a)) (frame_state (composed args inner) a)
  -- a call whose body is the name of one of its parameters: it gives what the argument of that gives, and nothing
  -- reads the others
  returned : {r : StreamType} {args : ArgumentTrees} {u : ℕ} → holds u (argument_names args) ≡ true → Rewritten r (frame_state args (var_state u)) (argument_at args u)

-- of a state with this type left, the second is the first with one of its parts rewritten
abbrev pub Simpler : StreamType → StateTree → StateTree → Type 0
Simpler = Replaced [] Rewritten

-- the same after any number of rewritings
abbrev pub SimplerBy : StreamType → StateTree → StateTree → Type 0
SimplerBy = ReplacedBy [] Rewritten
