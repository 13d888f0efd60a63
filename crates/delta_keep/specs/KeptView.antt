-- What the program's trees of kept states stand for.
use Rattle.std.specs.Prelude.{ℕ, List, [], ◌∷◌, ◌++◌, map}
use Rattle.stream_type.specs.StreamType.{type_of}
use Rattle.stream_prefix.specs.Tree.{prefix_of}
use Rattle.hist_value.specs.HistValue.{hist_value_of}
use Rattle.core_term.specs.CoreTerm.{term_of, places_of}
use Rattle.delta_state.specs.StateTree.{Known as KnownName, HeldName as HeldTree, LaterTree, StateTree, ArgumentTrees, sink, var_state, par_state, cat_state, let_state, let_par_state, let_cat_state, sum_state, star_state, wait_state, frame_state, no_arguments, argument_before}
use Rattle.kept_state.specs.KeptTree.{KeptTree}
use Rattle.delta_keep.specs.declared.kept.Known.{Known}
use Rattle.delta_keep.specs.declared.kept.HeldName.{HeldName}
use Rattle.delta_keep.specs.declared.kept.Waiting.{Waiting}
use Rattle.delta_keep.specs.declared.kept.Kept.{Kept}
use Rattle.delta_keep.specs.declared.kept.Argument.{Argument}
use Rattle.delta_keep.specs.declared.kept.KeptState.{KeptState, Row_of-Argument, end_of-Argument, more_of-Argument}
use Rattle.delta_keep.specs.declared.kept.KeptState.TheVariants.{Sink, Var, Par', Cat', Let', LetPar', LetCat', CaseSum, CaseStar, Wait, Frame'}

-- a name that has a value
abbrev pub known_of : Known → KnownName
known_of k = record { name = k.name.0; type = type_of k.ty.value; value = hist_value_of k.value.value }

-- a name of which something is held
abbrev pub held_of : HeldName → HeldTree
held_of h = record { name = h.name.0; type = type_of h.ty.value; prefix = prefix_of h.prefix.value }

-- code that isn't reached
abbrev pub later_of : Waiting → LaterTree
later_of l = record { term = term_of l.code.value; past = map known_of l.past.items; depth = l.depth }

-- the places of the nodes of such code
abbrev pub places_of_later : Waiting → List ℕ
places_of_later l = places_of l.code.value

abbrev mutual
  -- the state that a tree stands for
  pub state_of : KeptState → StateTree
  state_of (Sink t) = sink (type_of t.value)
  state_of (Var x) = var_state x.0
  state_of (Par' p a q b) = par_state (state_of a) (state_of b)
  state_of (Cat' p a l) = cat_state (state_of a) (later_of l.value)
  state_of (Let' x t p a q b) = let_state x.0 (type_of t.value) (state_of a) (state_of b)
  state_of (LetPar' x y z p a) = let_par_state x.0 y.0 z.0 (state_of a)
  state_of (LetCat' x y z p a) = let_cat_state x.0 y.0 z.0 (state_of a)
  state_of (CaseSum z t held x l y m) = sum_state z.0 (type_of t.value) (map held_of held.items) x.0 (later_of l.value) y.0 (later_of m.value)
  state_of (CaseStar z t held l y ys m) = star_state z.0 (type_of t.value) (map held_of held.items) (later_of l.value) y.0 ys.0 (later_of m.value)
  state_of (Wait x t held l) = wait_state x.0 (type_of t.value) (map held_of held.items) (later_of l.value)
  state_of (Frame' shape args p s) = frame_state (arguments_of args) (state_of s)

  pub arguments_of : {n : _} → Row_of-Argument n → ArgumentTrees
  arguments_of end_of-Argument = no_arguments
  arguments_of (more_of-Argument x t p s args) = argument_before x.0 (type_of t.value) (state_of s) (arguments_of args)

-- what arguments in a list stand for
abbrev pub arguments_from : List Argument → ArgumentTrees
arguments_from [] = no_arguments
arguments_from (a ∷ args) = argument_before a.name.0 (type_of a.ty.value) (state_of a.state.value) (arguments_from args)

abbrev mutual
  -- the places of the nodes of its code, in the order of reading
  pub places_in_state : KeptState → List ℕ
  places_in_state (Sink t) = []
  places_in_state (Var x) = []
  places_in_state (Par' p a q b) = places_in_state a ++ places_in_state b
  places_in_state (Cat' p a l) = places_in_state a ++ places_of_later l.value
  places_in_state (Let' x t p a q b) = places_in_state a ++ places_in_state b
  places_in_state (LetPar' x y z p a) = places_in_state a
  places_in_state (LetCat' x y z p a) = places_in_state a
  places_in_state (CaseSum z t held x l y m) = places_of_later l.value ++ places_of_later m.value
  places_in_state (CaseStar z t held l y ys m) = places_of_later l.value ++ places_of_later m.value
  places_in_state (Wait x t held l) = places_of_later l.value
  places_in_state (Frame' shape args p s) = places_in_arguments args ++ places_in_state s

  pub places_in_arguments : {n : _} → Row_of-Argument n → List ℕ
  places_in_arguments end_of-Argument = []
  places_in_arguments (more_of-Argument x t p s args) = places_in_state s ++ places_in_arguments args

-- the kept state that a tree stands for
abbrev pub kept_of : Kept → KeptTree
kept_of k = record { events = k.events; ins = map type_of k.ins.items; cuts = k.cuts.items; out = type_of k.out.value; state = state_of k.state.value }

-- the places of the nodes of its code
abbrev pub places_kept : Kept → List ℕ
places_kept k = places_in_state k.state.value
