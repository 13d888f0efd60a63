-- The bytes of the program's trees, where each node stands with its own place.
--
-- They are those of what the trees stand for (`written_kept_is` in `proofs/PlacedBytes.antt`). There the places of all
-- nodes are given beside; here they are at the nodes, as code has them when it writes and reads.
use Rattle.std.specs.Prelude.{ℕ, suc, List, [], ◌∷◌, ◌++◌, map}
use Rattle.stream_type.specs.StreamType.{type_of}
use Rattle.hist_value.specs.HistExpr.{expr_of}
use Rattle.core_term.specs.declared.term.Node.{Node}
use Rattle.core_term.specs.declared.term.Term.{Term, Row_of-Node, end_of-Node, more_of-Node}
use Rattle.core_term.specs.declared.term.Term.TheVariants.{Var, Eps, Unit as IsUnit, Past, Par', Cat', Inl', Inr', Nil, Cons', Let', LetPar', LetCat', CaseSum', CaseStar', Wait', Call'}
use Rattle.kept_state.specs.KeptBytes.{short_bytes, long_bytes, list_bytes, bool_bytes, type_bytes, expr_bytes, known_bytes, held_name_bytes}
use Rattle.delta_keep.specs.declared.kept.Waiting.{Waiting}
use Rattle.delta_keep.specs.declared.kept.Argument.{Argument}
use Rattle.delta_keep.specs.declared.kept.Kept.{Kept}
use Rattle.delta_keep.specs.declared.kept.KeptState.{KeptState, Row_of-Argument, end_of-Argument, more_of-Argument}
use Rattle.delta_keep.specs.declared.kept.KeptState.TheVariants.{Sink, Var as NameState, Par' as ParState', Cat' as CatState', Let' as LetState', LetPar' as LetParState', LetCat' as LetCatState', CaseSum as SumState, CaseStar as StarState, Wait as WaitState, Frame'}
use Rattle.delta_keep.specs.KeptView.{known_of, held_of}

abbrev mutual
  -- a term
  pub written_term : Term → List ℕ
  written_term (Var x) = 0 ∷ short_bytes x.0
  written_term Eps = 1 ∷ []
  written_term IsUnit = 2 ∷ []
  written_term (Past m) = 3 ∷ expr_bytes (expr_of m)
  written_term (Par' p i a q j b) = 4 ∷ (short_bytes i ++ written_term a) ++ (short_bytes j ++ written_term b)
  written_term (Cat' p i a q j b) = 5 ∷ (short_bytes i ++ written_term a) ++ (short_bytes j ++ written_term b)
  written_term (Inl' p i a) = 6 ∷ short_bytes i ++ written_term a
  written_term (Inr' p i a) = 7 ∷ short_bytes i ++ written_term a
  written_term Nil = 8 ∷ []
  written_term (Cons' p i a q j b) = 9 ∷ (short_bytes i ++ written_term a) ++ (short_bytes j ++ written_term b)
  written_term (Let' x s p i a q j b) =
      10 ∷ short_bytes x.0 ++ (type_bytes (type_of s) ++ ((short_bytes i ++ written_term a) ++ (short_bytes j ++ written_term b)))
  written_term (LetPar' x y z p i a) = 11 ∷ short_bytes x.0 ++ (short_bytes y.0 ++ (short_bytes z.0 ++ (short_bytes i ++ written_term a)))
  written_term (LetCat' x y z p i a) = 12 ∷ short_bytes x.0 ++ (short_bytes y.0 ++ (short_bytes z.0 ++ (short_bytes i ++ written_term a)))
  written_term (CaseSum' z t x p i a y q j b) =
      13 ∷ short_bytes z.0
      ++ (type_bytes (type_of t) ++ (short_bytes x.0 ++ ((short_bytes i ++ written_term a) ++ (short_bytes y.0 ++ (short_bytes j ++ written_term b)))))
  written_term (CaseStar' z t p i a y ys q j b) =
      14 ∷ short_bytes z.0
      ++ (type_bytes (type_of t) ++ ((short_bytes i ++ written_term a) ++ (short_bytes y.0 ++ (short_bytes ys.0 ++ (short_bytes j ++ written_term b)))))
  written_term (Wait' x t p i a) = 15 ∷ short_bytes x.0 ++ (type_bytes (type_of t) ++ (short_bytes i ++ written_term a))
  written_term (Call' f ms shape es) = 16 ∷ short_bytes f ++ (list_bytes expr_bytes (map expr_of ms.items) ++ (short_bytes (nodes_of es) ++ written_nodes es))

  -- the terms of a call
  pub written_nodes : {n : _} → Row_of-Node n → List ℕ
  written_nodes end_of-Node = []
  written_nodes (more_of-Node i a es) = (short_bytes i ++ written_term a) ++ written_nodes es

  -- how many they are
  pub nodes_of : {n : _} → Row_of-Node n → ℕ
  nodes_of end_of-Node = 0
  nodes_of (more_of-Node i a es) = suc (nodes_of es)

-- a node: its place and its term
abbrev pub written_node : Node → List ℕ
written_node n = short_bytes n.at ++ written_term n.term

-- code that isn't reached
abbrev pub written_later : Waiting → List ℕ
written_later l = written_node l.code.value ++ (list_bytes known_bytes (map known_of l.past.items) ++ long_bytes l.depth)

abbrev mutual
  -- a state
  pub written_state : KeptState → List ℕ
  written_state (Sink t) = 0 ∷ type_bytes (type_of t.value)
  written_state (NameState x) = 1 ∷ short_bytes x.0
  written_state (ParState' p a q b) = 2 ∷ written_state a ++ written_state b
  written_state (CatState' p a l) = 3 ∷ written_state a ++ written_later l.value
  written_state (LetState' x t p a q b) = 4 ∷ short_bytes x.0 ++ (type_bytes (type_of t.value) ++ (written_state a ++ written_state b))
  written_state (LetParState' x y z p a) = 5 ∷ short_bytes x.0 ++ (short_bytes y.0 ++ (short_bytes z.0 ++ written_state a))
  written_state (LetCatState' x y z p a) = 6 ∷ short_bytes x.0 ++ (short_bytes y.0 ++ (short_bytes z.0 ++ written_state a))
  written_state (SumState z t held x l y m) =
      7 ∷ short_bytes z.0 ++
      (type_bytes (type_of t.value)
      ++ (list_bytes held_name_bytes (map held_of held.items)
      ++ (short_bytes x.0 ++ (written_later l.value ++ (short_bytes y.0 ++ written_later m.value)))))
  written_state (StarState z t held l y ys m) =
      8 ∷ short_bytes z.0 ++
      (type_bytes (type_of t.value)
      ++ (list_bytes held_name_bytes (map held_of held.items)
      ++ (written_later l.value ++ (short_bytes y.0 ++ (short_bytes ys.0 ++ written_later m.value)))))
  written_state (WaitState x t held l) =
      9 ∷ short_bytes x.0 ++ (type_bytes (type_of t.value) ++ (list_bytes held_name_bytes (map held_of held.items) ++ written_later l.value))
  written_state (Frame' shape args p s) = 10 ∷ (short_bytes (arguments_in args) ++ written_arguments args) ++ written_state s

  -- the arguments of a frame
  pub written_arguments : {n : _} → Row_of-Argument n → List ℕ
  written_arguments end_of-Argument = []
  written_arguments (more_of-Argument x t p s args) = (short_bytes x.0 ++ (type_bytes (type_of t.value) ++ written_state s)) ++ written_arguments args

  -- how many they are
  pub arguments_in : {n : _} → Row_of-Argument n → ℕ
  arguments_in end_of-Argument = 0
  arguments_in (more_of-Argument x t p s args) = suc (arguments_in args)

-- an argument: its parameter with the mark, and its state
abbrev pub written_argument : Argument → List ℕ
written_argument a = short_bytes a.name.0 ++ (type_bytes (type_of a.ty.value) ++ written_state a.state.value)

-- a kept state
abbrev pub written_kept : Kept → List ℕ
written_kept k =
    0x44 ∷ 0x53 ∷ 0x54 ∷ 0x01 ∷ long_bytes k.events
    ++ (list_bytes type_bytes (map type_of k.ins.items)
    ++ (list_bytes bool_bytes k.cuts.items ++ (type_bytes (type_of k.out.value) ++ written_state k.state.value)))
