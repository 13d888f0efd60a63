-- The bytes of the program's trees are those of what the trees stand for, where each node stands at its place.
use Rattle.std.proofs.Common.{◌≡◌, ◌∙◌, ◌+◌, ℕ, suc, List, [], ◌∷◌, ◌++◌, map, length, drop, ap, ap₂, refl, sym, arith, append_assoc, length-append}
use Rattle.std.proofs.lemmas.List.{append-nil}
use Rattle.stream_type.specs.StreamType.{type_of}
use Rattle.hist_value.specs.HistExpr.{expr_of}
use Rattle.core_term.specs.declared.term.Term.{Term, Row_of-Node, end_of-Node, more_of-Node}
use Rattle.core_term.specs.declared.term.Term.TheVariants.{Var, Eps, Unit as IsUnit, Past, Par', Cat', Inl', Inr', Nil, Cons', Let', LetPar', LetCat', CaseSum', CaseStar', Wait', Call'}
use Rattle.core_term.specs.CoreTerm.{term_in, terms_of, term_count, places_in, places_among, node_count, node_counts}
use Rattle.delta_state.specs.StateTree.{argument_names}
use Rattle.kept_state.specs.KeptBytes.{short_bytes, long_bytes, list_bytes, bool_bytes, type_bytes, expr_bytes, known_bytes, held_name_bytes, places_behind, inside, node_bytes, term_bytes, terms_bytes, later_bytes, nodes_in_state, nodes_in_arguments, state_bytes, arguments_bytes, kept_bytes}
use Rattle.delta_keep.specs.declared.kept.Waiting.{Waiting}
use Rattle.delta_keep.specs.declared.kept.Kept.{Kept}
use Rattle.delta_keep.specs.declared.kept.KeptState.{KeptState, Row_of-Argument, end_of-Argument, more_of-Argument}
use Rattle.delta_keep.specs.declared.kept.KeptState.TheVariants.{Sink, Var as NameState, Par' as ParState', Cat' as CatState', Let' as LetState', LetPar' as LetParState', LetCat' as LetCatState', CaseSum as SumState, CaseStar as StarState, Wait as WaitState, Frame'}
use Rattle.delta_keep.specs.KeptView.{known_of, held_of, later_of, places_of_later, state_of, arguments_of, places_in_state, places_in_arguments, kept_of, places_kept}
use Rattle.delta_keep.specs.Written.{written_term, written_nodes, nodes_of, written_later, written_state, written_arguments, arguments_in, written_kept}

-- what is left behind the first part
drop_first : (n : ℕ) (xs ys : List ℕ) → n ≡ length xs → drop n (xs ++ ys) ≡ ys
drop_first n [] ys e = ap (λ k. drop k ys) e
drop_first n (x ∷ xs) ys e = ap (λ k. drop k (x ∷ (xs ++ ys))) e ∙ drop_first (length xs) xs ys refl

mutual
  -- each node has a place
  count_in : (t : Term) → node_count (term_in t) ≡ suc (length (places_in t))
  count_in (Var x) = refl
  count_in Eps = refl
  count_in IsUnit = refl
  count_in (Past m) = refl
  count_in (Par' p i a q j b) = let e = count_in a in let f = count_in b in let g = length-append (places_in a) (j ∷ places_in b) in omega (arith, e, f, g)
  count_in (Cat' p i a q j b) = let e = count_in a in let f = count_in b in let g = length-append (places_in a) (j ∷ places_in b) in omega (arith, e, f, g)
  count_in (Inl' p i a) = let e = count_in a in omega (arith, e)
  count_in (Inr' p i a) = let e = count_in a in omega (arith, e)
  count_in Nil = refl
  count_in (Cons' p i a q j b) = let e = count_in a in let f = count_in b in let g = length-append (places_in a) (j ∷ places_in b) in omega (arith, e, f, g)
  count_in (Let' x s p i a q j b) = let e = count_in a in let f = count_in b in let g = length-append (places_in a) (j ∷ places_in b) in omega (arith, e, f, g)
  count_in (LetPar' x y z p i a) = let e = count_in a in omega (arith, e)
  count_in (LetCat' x y z p i a) = let e = count_in a in omega (arith, e)
  count_in (CaseSum' z t x p i a y q j b) = let e = count_in a in let f = count_in b in let g = length-append (places_in a) (j ∷ places_in b) in omega (arith, e, f, g)
  count_in (CaseStar' z t p i a y ys q j b) = let e = count_in a in let f = count_in b in let g = length-append (places_in a) (j ∷ places_in b) in omega (arith, e, f, g)
  count_in (Wait' x t p i a) = let e = count_in a in omega (arith, e)
  count_in (Call' f ms shape es) = let e = count_among es in omega (arith, e)

  count_among : {n : _} (es : Row_of-Node n) → node_counts (terms_of es) ≡ length (places_among es)
  count_among end_of-Node = refl
  count_among (more_of-Node i a es) = let e = count_in a in let f = count_among es in let g = length-append (places_in a) (places_among es) in omega (arith, e, f, g)

-- the places of one node, of a second one, and of those behind, are those of the first and of what is behind it
place_first : (i : ℕ) (pa qs more : List ℕ) → ((i ∷ pa) ++ qs) ++ more ≡ (i ∷ pa) ++ (qs ++ more)
place_first i pa qs more = append_assoc (i ∷ pa) qs more

-- a node at the front of places
pub front_node : (i : ℕ) (a : Term) (ps more : List ℕ) → ((rest : List ℕ) → term_bytes (term_in a) (places_in a ++ rest) ≡ written_term a) → ps ≡ (i ∷ places_in a) ++ more → node_bytes ps (term_bytes (term_in a) (inside ps)) ≡ short_bytes i ++ written_term a
front_node i a ps more h e = ap (λ qs. node_bytes qs (term_bytes (term_in a) (inside qs))) e ∙ ap (λ bs. short_bytes i ++ bs) (h more)

-- the places behind it
behind_node : (i : ℕ) (a : Term) (ps more : List ℕ) → ps ≡ (i ∷ places_in a) ++ more → places_behind (term_in a) ps ≡ more
behind_node i a ps more e = ap (places_behind (term_in a)) e ∙ drop_first (node_count (term_in a)) (i ∷ places_in a) more (count_in a)

-- a node behind another
next_node : (i : ℕ) (a : Term) (j : ℕ) (b : Term) (ps more : List ℕ) → ((rest : List ℕ) → term_bytes (term_in b) (places_in b ++ rest) ≡ written_term b) → ps ≡ (i ∷ places_in a) ++ ((j ∷ places_in b) ++ more)
    → node_bytes (places_behind (term_in a) ps) (term_bytes (term_in b) (inside (places_behind (term_in a) ps))) ≡ short_bytes j ++ written_term b
next_node i a j b ps more h e = front_node j b (places_behind (term_in a) ps) more h (behind_node i a ps ((j ∷ places_in b) ++ more) e)

-- both nodes of a form
two_nodes : (i : ℕ) (a : Term) (j : ℕ) (b : Term) (more : List ℕ) → ((rest : List ℕ) → term_bytes (term_in a) (places_in a ++ rest) ≡ written_term a) → ((rest : List ℕ) → term_bytes (term_in b) (places_in b ++ rest) ≡ written_term b)
    → let ps = ((i ∷ places_in a) ++ (j ∷ places_in b)) ++ more in
    node_bytes ps (term_bytes (term_in a) (inside ps)) ++ node_bytes (places_behind (term_in a) ps) (term_bytes (term_in b) (inside (places_behind (term_in a) ps))) ≡ (short_bytes i ++ written_term a) ++ (short_bytes j ++ written_term b)
two_nodes i a j b more h k =
    let ps = ((i ∷ places_in a) ++ (j ∷ places_in b)) ++ more in
    let e : ps ≡ (i ∷ places_in a) ++ ((j ∷ places_in b) ++ more) = place_first i (places_in a) (j ∷ places_in b) more in
    ap₂ (λ x y. x ++ y) (front_node i a ps ((j ∷ places_in b) ++ more) h e) (next_node i a j b ps more k e)

mutual
  -- a term
  placed_term : (t : Term) (more : List ℕ) → term_bytes (term_in t) (places_in t ++ more) ≡ written_term t
  placed_term (Var x) more = refl
  placed_term Eps more = refl
  placed_term IsUnit more = refl
  placed_term (Past m) more = refl
  placed_term (Par' p i a q j b) more = ap (λ bs. 4 ∷ bs) (two_nodes i a j b more (placed_term a) (placed_term b))
  placed_term (Cat' p i a q j b) more = ap (λ bs. 5 ∷ bs) (two_nodes i a j b more (placed_term a) (placed_term b))
  placed_term (Inl' p i a) more = ap (λ bs. 6 ∷ short_bytes i ++ bs) (placed_term a more)
  placed_term (Inr' p i a) more = ap (λ bs. 7 ∷ short_bytes i ++ bs) (placed_term a more)
  placed_term Nil more = refl
  placed_term (Cons' p i a q j b) more = ap (λ bs. 9 ∷ bs) (two_nodes i a j b more (placed_term a) (placed_term b))
  placed_term (Let' x s p i a q j b) more = ap (λ bs. 10 ∷ short_bytes x.0 ++ (type_bytes (type_of s) ++ bs)) (two_nodes i a j b more (placed_term a) (placed_term b))
  placed_term (LetPar' x y z p i a) more = ap (λ bs. 11 ∷ short_bytes x.0 ++ (short_bytes y.0 ++ (short_bytes z.0 ++ (short_bytes i ++ bs)))) (placed_term a more)
  placed_term (LetCat' x y z p i a) more = ap (λ bs. 12 ∷ short_bytes x.0 ++ (short_bytes y.0 ++ (short_bytes z.0 ++ (short_bytes i ++ bs)))) (placed_term a more)
  placed_term (CaseSum' z t x p i a y q j b) more =
      let ps = ((i ∷ places_in a) ++ (j ∷ places_in b)) ++ more in
      let e : ps ≡ (i ∷ places_in a) ++ ((j ∷ places_in b) ++ more) = place_first i (places_in a) (j ∷ places_in b) more in
      ap₂ (λ bs cs. 13 ∷ short_bytes z.0 ++ (type_bytes (type_of t) ++ (short_bytes x.0 ++ (bs ++ (short_bytes y.0 ++ cs))))) (front_node i a ps ((j ∷ places_in b) ++ more) (placed_term a) e) (next_node i a j b ps more (placed_term b) e)
  placed_term (CaseStar' z t p i a y ys q j b) more =
      let ps = ((i ∷ places_in a) ++ (j ∷ places_in b)) ++ more in
      let e : ps ≡ (i ∷ places_in a) ++ ((j ∷ places_in b) ++ more) = place_first i (places_in a) (j ∷ places_in b) more in
      ap₂ (λ bs cs. 14 ∷ short_bytes z.0 ++ (type_bytes (type_of t) ++ (bs ++ (short_bytes y.0 ++ (short_bytes ys.0 ++ cs))))) (front_node i a ps ((j ∷ places_in b) ++ more) (placed_term a) e) (next_node i a j b ps more (placed_term b) e)
  placed_term (Wait' x t p i a) more = ap (λ bs. 15 ∷ short_bytes x.0 ++ (type_bytes (type_of t) ++ (short_bytes i ++ bs))) (placed_term a more)
  placed_term (Call' f ms shape es) more = ap₂ (λ n bs. 16 ∷ short_bytes f ++ (list_bytes expr_bytes (map expr_of ms.items) ++ (short_bytes n ++ bs))) (count_terms es) (placed_nodes es more)

  -- the terms of a call
  placed_nodes : {n : _} (es : Row_of-Node n) (more : List ℕ) → terms_bytes (terms_of es) (places_among es ++ more) ≡ written_nodes es
  placed_nodes end_of-Node more = refl
  placed_nodes (more_of-Node i a es) more =
      let ps = ((i ∷ places_in a) ++ places_among es) ++ more in
      let e : ps ≡ (i ∷ places_in a) ++ (places_among es ++ more) = place_first i (places_in a) (places_among es) more in
      ap₂ (λ bs cs. bs ++ cs) (front_node i a ps (places_among es ++ more) (placed_term a) e)
      (ap (terms_bytes (terms_of es)) (behind_node i a ps (places_among es ++ more) e) ∙ placed_nodes es more)

  -- how many they are
  count_terms : {n : _} (es : Row_of-Node n) → term_count (terms_of es) ≡ nodes_of es
  count_terms end_of-Node = refl
  count_terms (more_of-Node i a es) = let e = count_terms es in omega (arith, e)

-- code that isn't reached
placed_later : (l : Waiting) (more : List ℕ) → later_bytes (later_of l) (places_of_later l ++ more) ≡ written_later l
placed_later l more = ap (λ bs. (short_bytes l.code.value.at ++ bs) ++ (list_bytes known_bytes (map known_of l.past.items) ++ long_bytes l.depth)) (placed_term l.code.value.term more)

-- the places behind it
behind_later : (l : Waiting) (more : List ℕ) → places_behind (later_of l).term (places_of_later l ++ more) ≡ more
behind_later l more = behind_node l.code.value.at l.code.value.term (places_of_later l ++ more) more refl

-- code behind other code
next_later : (l m : Waiting) (more : List ℕ) → later_bytes (later_of m) (places_behind (later_of l).term ((places_of_later l ++ places_of_later m) ++ more)) ≡ written_later m
next_later l m more =
    ap (λ ps. later_bytes (later_of m) (places_behind (later_of l).term ps)) (append_assoc (places_of_later l) (places_of_later m) more)
    ∙ (ap (later_bytes (later_of m)) (behind_later l (places_of_later m ++ more)) ∙ placed_later m more)

-- code at the front
front_later : (l m : Waiting) (more : List ℕ) → later_bytes (later_of l) ((places_of_later l ++ places_of_later m) ++ more) ≡ written_later l
front_later l m more = ap (later_bytes (later_of l)) (append_assoc (places_of_later l) (places_of_later m) more) ∙ placed_later l (places_of_later m ++ more)

-- its nodes
count_later : (l : Waiting) → node_count (later_of l).term ≡ length (places_of_later l)
count_later l = count_in l.code.value.term

mutual
  -- each node of a state's code has a place
  count_state : (s : KeptState) → nodes_in_state (state_of s) ≡ length (places_in_state s)
  count_state (Sink t) = refl
  count_state (NameState x) = refl
  count_state (ParState' p a q b) = ap₂ (λ m n. m + n) (count_state a) (count_state b) ∙ sym (length-append (places_in_state a) (places_in_state b))
  count_state (CatState' p a l) = ap₂ (λ m n. m + n) (count_state a) (count_later l.value) ∙ sym (length-append (places_in_state a) (places_of_later l.value))
  count_state (LetState' x t p a q b) = ap₂ (λ m n. m + n) (count_state a) (count_state b) ∙ sym (length-append (places_in_state a) (places_in_state b))
  count_state (LetParState' x y z p a) = count_state a
  count_state (LetCatState' x y z p a) = count_state a
  count_state (SumState z t held x l y m) = ap₂ (λ i j. i + j) (count_later l.value) (count_later m.value) ∙ sym (length-append (places_of_later l.value) (places_of_later m.value))
  count_state (StarState z t held l y ys m) = ap₂ (λ i j. i + j) (count_later l.value) (count_later m.value) ∙ sym (length-append (places_of_later l.value) (places_of_later m.value))
  count_state (WaitState x t held l) = count_later l.value
  count_state (Frame' shape args p s) = ap₂ (λ m n. m + n) (count_arguments args) (count_state s) ∙ sym (length-append (places_in_arguments args) (places_in_state s))

  count_arguments : {n : _} (args : Row_of-Argument n) → nodes_in_arguments (arguments_of args) ≡ length (places_in_arguments args)
  count_arguments end_of-Argument = refl
  count_arguments (more_of-Argument x t p s args) = ap₂ (λ m n. m + n) (count_state s) (count_arguments args) ∙ sym (length-append (places_in_state s) (places_in_arguments args))

-- the places of a second part, behind those of a first one
behind_first : (n : ℕ) (ps qs more : List ℕ) → n ≡ length ps → drop n ((ps ++ qs) ++ more) ≡ qs ++ more
behind_first n ps qs more e = ap (drop n) (append_assoc ps qs more) ∙ drop_first n ps (qs ++ more) e

-- the first of two parts, the second one, each where its own bytes are known
first_state : (a : KeptState) (qs more : List ℕ) → ((rest : List ℕ) → state_bytes (state_of a) (places_in_state a ++ rest) ≡ written_state a) → state_bytes (state_of a) ((places_in_state a ++ qs) ++ more) ≡ written_state a
first_state a qs more h = ap (state_bytes (state_of a)) (append_assoc (places_in_state a) qs more) ∙ h (qs ++ more)

second_state : (a b : KeptState) (more : List ℕ) → ((rest : List ℕ) → state_bytes (state_of b) (places_in_state b ++ rest) ≡ written_state b)
    → state_bytes (state_of b) (drop (nodes_in_state (state_of a)) ((places_in_state a ++ places_in_state b) ++ more)) ≡ written_state b
second_state a b more h = ap (state_bytes (state_of b)) (behind_first (nodes_in_state (state_of a)) (places_in_state a) (places_in_state b) more (count_state a)) ∙ h more

mutual
  -- a state
  placed_state : (s : KeptState) (more : List ℕ) → state_bytes (state_of s) (places_in_state s ++ more) ≡ written_state s
  placed_state (Sink t) more = refl
  placed_state (NameState x) more = refl
  placed_state (ParState' p a q b) more = ap₂ (λ bs cs. 2 ∷ bs ++ cs) (first_state a (places_in_state b) more (placed_state a)) (second_state a b more (placed_state b))
  placed_state (CatState' p a l) more =
      ap₂ (λ bs cs. 3 ∷ bs ++ cs) (first_state a (places_of_later l.value) more (placed_state a))
      (ap (later_bytes (later_of l.value)) (behind_first (nodes_in_state (state_of a)) (places_in_state a) (places_of_later l.value) more (count_state a)) ∙ placed_later l.value more)
  placed_state (LetState' x t p a q b) more = ap₂ (λ bs cs. 4 ∷ short_bytes x.0 ++ (type_bytes (type_of t.value) ++ (bs ++ cs))) (first_state a (places_in_state b) more (placed_state a)) (second_state a b more (placed_state b))
  placed_state (LetParState' x y z p a) more = ap (λ bs. 5 ∷ short_bytes x.0 ++ (short_bytes y.0 ++ (short_bytes z.0 ++ bs))) (placed_state a more)
  placed_state (LetCatState' x y z p a) more = ap (λ bs. 6 ∷ short_bytes x.0 ++ (short_bytes y.0 ++ (short_bytes z.0 ++ bs))) (placed_state a more)
  placed_state (SumState z t held x l y m) more =
      ap₂ (λ bs cs. 7 ∷ short_bytes z.0 ++ (type_bytes (type_of t.value) ++ (list_bytes held_name_bytes (map held_of held.items) ++ (short_bytes x.0 ++ (bs ++ (short_bytes y.0 ++ cs))))))
      (front_later l.value m.value more) (next_later l.value m.value more)
  placed_state (StarState z t held l y ys m) more =
      ap₂ (λ bs cs. 8 ∷ short_bytes z.0 ++ (type_bytes (type_of t.value) ++ (list_bytes held_name_bytes (map held_of held.items) ++ (bs ++ (short_bytes y.0 ++ (short_bytes ys.0 ++ cs))))))
      (front_later l.value m.value more) (next_later l.value m.value more)
  placed_state (WaitState x t held l) more = ap (λ bs. 9 ∷ short_bytes x.0 ++ (type_bytes (type_of t.value) ++ (list_bytes held_name_bytes (map held_of held.items) ++ bs))) (placed_later l.value more)
  placed_state (Frame' shape args p s) more =
      ap₂ (λ bs cs. 10 ∷ bs ++ cs)
      (ap₂ (λ n bs. short_bytes n ++ bs) (count_names args) (ap (arguments_bytes (arguments_of args)) (append_assoc (places_in_arguments args) (places_in_state s) more) ∙ placed_arguments args (places_in_state s ++ more)))
      (ap (state_bytes (state_of s)) (behind_first (nodes_in_arguments (arguments_of args)) (places_in_arguments args) (places_in_state s) more (count_arguments args)) ∙ placed_state s more)

  -- the arguments of a frame
  placed_arguments : {n : _} (args : Row_of-Argument n) (more : List ℕ) → arguments_bytes (arguments_of args) (places_in_arguments args ++ more) ≡ written_arguments args
  placed_arguments end_of-Argument more = refl
  placed_arguments (more_of-Argument x t p s args) more =
      ap₂ (λ bs cs. (short_bytes x.0 ++ (type_bytes (type_of t.value) ++ bs)) ++ cs) (first_state s (places_in_arguments args) more (placed_state s))
      (ap (arguments_bytes (arguments_of args)) (behind_first (nodes_in_state (state_of s)) (places_in_state s) (places_in_arguments args) more (count_state s)) ∙ placed_arguments args more)

  -- how many they are
  count_names : {n : _} (args : Row_of-Argument n) → length (argument_names (arguments_of args)) ≡ arguments_in args
  count_names end_of-Argument = refl
  count_names (more_of-Argument x t p s args) = ap suc (count_names args)

-- a kept state
pub written_kept_is : (k : Kept) → written_kept k ≡ kept_bytes (kept_of k) (places_kept k)
written_kept_is k =
    ap
    (λ bs. 0x44 ∷ 0x53 ∷ 0x54 ∷ 0x01 ∷ long_bytes k.events ++ (list_bytes type_bytes (map type_of k.ins.items) ++ (list_bytes bool_bytes k.cuts.items ++ (type_bytes (type_of k.out.value) ++ bs))))
    (sym (placed_state k.state.value []) ∙ ap (state_bytes (state_of k.state.value)) (append-nil (places_in_state k.state.value)))
