-- What core terms and programs are, as plain data, without the places where they stand in a text.
--
-- Choices that are not obvious:
-- - A name that a form binds stands before the part in which it is bound. The subject of a
--   destructuring stands after the names of its parts, that of a case or a wait first.
-- - A case and a wait have the type of their result with them, and a let the type of its name, so
--   that the meaning of each part can be read off without rules of typing.
-- - A function is known by its number, and a name too; the text of a name is for messages alone.
use Rattle.std.specs.Prelude.{ℕ, ◌+◌, Bool, true, false, List, [], ◌∷◌, ◌++◌, ◌&&◌, map, length, nat_lt, nat_le, slice_index_or, string_bytes}
use Rattle.std.specs.List.{concat}
use Rattle.stream_type.specs.declared.ty.Ty.{Ty}
use Rattle.stream_type.specs.StreamType.{StreamType, type_of, eps, height_of}
use Rattle.bunch.specs.declared.name.Name.{Name}
use Rattle.bunch.specs.BunchTree.{BunchTree, tree_of, as_type, empty, leaf, comma, semi}
use Rattle.hist_value.specs.HistExpr.{HistExpr, expr_of}
use Rattle.core_term.specs.declared.term.Node.{Node}
use Rattle.core_term.specs.declared.term.Term.{Term, Row_of-Node, end_of-Node, more_of-Node}
use Rattle.core_term.specs.declared.term.Term.TheVariants.{Var, Eps, Unit as IsUnit, Past, Par', Cat', Inl', Inr', Nil, Cons', Let', LetPar', LetCat', CaseSum', CaseStar', Wait', Call'}
use Rattle.core_term.specs.declared.program.Body.{Body}
use Rattle.core_term.specs.declared.program.Core.{Core}

mutual
  -- a core term
  pub data CoreTerm : Type 0 where
    -- the stream of a name
    var_term : (x : ℕ) → CoreTerm
    eps_term : CoreTerm
    unit_term : CoreTerm
    nil_term : CoreTerm
    -- the whole stream with the value of a historical expression
    past_term : (m : HistExpr) → CoreTerm
    par_term : (a b : CoreTerm) → CoreTerm
    cat_term : (a b : CoreTerm) → CoreTerm
    cons_term : (a b : CoreTerm) → CoreTerm
    inl_term : (a : CoreTerm) → CoreTerm
    inr_term : (a : CoreTerm) → CoreTerm
    -- x, of type s, is a's stream in b
    let_term : (x : ℕ) (s : StreamType) (a b : CoreTerm) → CoreTerm
    -- x and y are the parts of z's stream in a
    let_par_term : (x y z : ℕ) (a : CoreTerm) → CoreTerm
    let_cat_term : (x y z : ℕ) (a : CoreTerm) → CoreTerm
    -- by the side of z's stream, a with x or b with y; t is the result's type
    case_sum_term : (z : ℕ) (t : StreamType) (x : ℕ) (a : CoreTerm) (y : ℕ) (b : CoreTerm) → CoreTerm
    -- a where z's stream has no item, and else b with y as its first item and ys as the others
    case_star_term : (z : ℕ) (t : StreamType) (a : CoreTerm) (y ys : ℕ) (b : CoreTerm) → CoreTerm
    -- a once x's stream is whole, with x as its value
    wait_term : (x : ℕ) (t : StreamType) (a : CoreTerm) → CoreTerm
    call_term : (f : ℕ) (ms : List HistExpr) (es : CoreTerms) → CoreTerm

  -- the arguments of a call
  pub data CoreTerms : Type 0 where
    no_terms : CoreTerms
    term_before : (a : CoreTerm) (es : CoreTerms) → CoreTerms

-- a function, or the main program: its historical parameters with the types of the streams whose
-- values they are, its parameters, its result and its body
pub record CoreBody : Type 0 where
  pub past : List (ℕ × StreamType)
  pub params : BunchTree
  pub result : StreamType
  pub body : CoreTerm

-- a program: its functions by number, its main program, and the bytes of each name's text
pub record CoreProgram : Type 0 where
  pub funs : List CoreBody
  pub main : CoreBody
  pub texts : List (List ℕ)

abbrev mutual
  -- the term that a tree of the program stands for
  pub term_in : Term → CoreTerm
  term_in (Var x) = var_term x.0
  term_in Eps = eps_term
  term_in IsUnit = unit_term
  term_in (Past m) = past_term (expr_of m)
  term_in (Par' p i a q j b) = par_term (term_in a) (term_in b)
  term_in (Cat' p i a q j b) = cat_term (term_in a) (term_in b)
  term_in (Inl' p i a) = inl_term (term_in a)
  term_in (Inr' p i a) = inr_term (term_in a)
  term_in Nil = nil_term
  term_in (Cons' p i a q j b) = cons_term (term_in a) (term_in b)
  term_in (Let' x s p i a q j b) = let_term x.0 (type_of s) (term_in a) (term_in b)
  term_in (LetPar' x y z p i a) = let_par_term x.0 y.0 z.0 (term_in a)
  term_in (LetCat' x y z p i a) = let_cat_term x.0 y.0 z.0 (term_in a)
  term_in (CaseSum' z t x p i a y q j b) = case_sum_term z.0 (type_of t) x.0 (term_in a) y.0 (term_in b)
  term_in (CaseStar' z t p i a y ys q j b) = case_star_term z.0 (type_of t) (term_in a) y.0 ys.0 (term_in b)
  term_in (Wait' x t p i a) = wait_term x.0 (type_of t) (term_in a)
  term_in (Call' f ms shape es) = call_term f (map expr_of ms.items) (terms_of es)

  pub terms_of : {n : _} → Row_of-Node n → CoreTerms
  terms_of end_of-Node = no_terms
  terms_of (more_of-Node i a es) = term_before (term_in a) (terms_of es)

abbrev pub term_of : Node → CoreTerm
term_of n = term_in n.term

-- terms as the arguments of a call
abbrev pub terms_from : List CoreTerm → CoreTerms
terms_from [] = no_terms
terms_from (a ∷ as') = term_before a (terms_from as')

abbrev mutual
  -- the places of a term's parts, in the order of reading: a form before its parts
  pub places_in : Term → List ℕ
  places_in (Var x) = []
  places_in Eps = []
  places_in IsUnit = []
  places_in (Past m) = []
  places_in (Par' p i a q j b) = (i ∷ places_in a) ++ (j ∷ places_in b)
  places_in (Cat' p i a q j b) = (i ∷ places_in a) ++ (j ∷ places_in b)
  places_in (Inl' p i a) = i ∷ places_in a
  places_in (Inr' p i a) = i ∷ places_in a
  places_in Nil = []
  places_in (Cons' p i a q j b) = (i ∷ places_in a) ++ (j ∷ places_in b)
  places_in (Let' x s p i a q j b) = (i ∷ places_in a) ++ (j ∷ places_in b)
  places_in (LetPar' x y z p i a) = i ∷ places_in a
  places_in (LetCat' x y z p i a) = i ∷ places_in a
  places_in (CaseSum' z t x p i a y q j b) = (i ∷ places_in a) ++ (j ∷ places_in b)
  places_in (CaseStar' z t p i a y ys q j b) = (i ∷ places_in a) ++ (j ∷ places_in b)
  places_in (Wait' x t p i a) = i ∷ places_in a
  places_in (Call' f ms shape es) = places_among es

  pub places_among : {n : _} → Row_of-Node n → List ℕ
  places_among end_of-Node = []
  places_among (more_of-Node i a es) = (i ∷ places_in a) ++ places_among es

-- the places of the nodes, in the order of reading
abbrev pub places_of : Node → List ℕ
places_of n = n.at ∷ places_in n.term

-- names with their types, as the program keeps them
abbrev pub typed_names_of : List (Name × Ty) → List (ℕ × StreamType)
typed_names_of ps = map (λ p. (p.0.0, type_of p.1)) ps

abbrev pub core_body_of : Body → CoreBody
core_body_of b = record { past = typed_names_of b.past.items; params = tree_of b.params; result = type_of b.result; body = term_of b.body }

abbrev pub core_of : Core → CoreProgram
core_of c = record { funs = map core_body_of c.funs.items; main = core_body_of c.main; texts = map string_bytes c.texts.items }

-- the places of the nodes of a body
abbrev pub body_places : Body → List ℕ
body_places b = places_of b.body

-- the places of a program's nodes: its functions in turn, and the main program last
abbrev pub core_places : Core → List ℕ
core_places c = concat (map body_places c.funs.items) ++ body_places c.main

abbrev mutual
  -- the number of nodes
  pub node_count : CoreTerm → ℕ
  node_count (var_term x) = 1
  node_count eps_term = 1
  node_count unit_term = 1
  node_count nil_term = 1
  node_count (past_term m) = 1
  node_count (par_term a b) = 1 + (node_count a + node_count b)
  node_count (cat_term a b) = 1 + (node_count a + node_count b)
  node_count (cons_term a b) = 1 + (node_count a + node_count b)
  node_count (inl_term a) = 1 + node_count a
  node_count (inr_term a) = 1 + node_count a
  node_count (let_term x s a b) = 1 + (node_count a + node_count b)
  node_count (let_par_term x y z a) = 1 + node_count a
  node_count (let_cat_term x y z a) = 1 + node_count a
  node_count (case_sum_term z t x a y b) = 1 + (node_count a + node_count b)
  node_count (case_star_term z t a y ys b) = 1 + (node_count a + node_count b)
  node_count (wait_term x t a) = 1 + node_count a
  node_count (call_term f ms es) = 1 + node_counts es

  pub node_counts : CoreTerms → ℕ
  node_counts no_terms = 0
  node_counts (term_before a es) = node_count a + node_counts es

-- the number of arguments
abbrev pub term_count : CoreTerms → ℕ
term_count no_terms = 0
term_count (term_before a es) = 1 + term_count es

-- whether the term is a name
abbrev pub is_var : CoreTerm → Bool
is_var (var_term x) = true
is_var _ = false

-- the types of a bunch's names, from left to right
abbrev pub leaf_types : BunchTree → List StreamType
leaf_types empty = []
leaf_types (leaf x t) = t ∷ []
leaf_types (comma a b) = leaf_types a ++ leaf_types b
leaf_types (semi a b) = leaf_types a ++ leaf_types b

-- the names of a body's historical parameters
abbrev pub past_names : CoreBody → List ℕ
past_names b = map (λ e. e.0) b.past

-- the types of the streams whose values a body's historical parameters are
abbrev pub past_types : CoreBody → List StreamType
past_types b = map (λ e. e.1) b.past

-- a body without parameters that gives `eps`: it stands for each function that isn't there
abbrev pub no_body : CoreBody
no_body = record { past = []; params = empty; result = eps; body = eps_term }

-- the function with a number
abbrev pub fun_at : List CoreBody → ℕ → CoreBody
fun_at funs f = slice_index_or funs f no_body

-- whether there is a function with this number
abbrev pub is_there : List CoreBody → ℕ → Bool
is_there funs f = nat_lt f (length funs)

-- whether main's input type and result are at most 64 high
abbrev pub fits_of : CoreProgram → Bool
fits_of c = nat_le (height_of (as_type c.main.params)) 64 && nat_le (height_of c.main.result) 64
