-- Which rule a program breaks first: its nodes by number, the context and the expected type of each,
-- and the first rule of its own that it breaks there.
--
-- Choices that are not obvious:
-- - Nodes are numbered from 0 in the order of reading, a form before its parts, functions in their order
--   and the main program last. The context and the expected type of a node are given also where a node
--   before it breaks a rule; where an expected type hasn't the form, parts count as of type `eps`.
-- - Each cause has a number. Of the rules that a node breaks the one with the lowest number counts, and
--   of two with one number the rule on the subject.
-- - What a historical expression does wrong is told by `refusal`, which stands open up to the last
--   definitions: there it is what `judge` answers.
use Rattle.std.specs.Prelude.{ℕ, suc, Bool, ◌&&◌, not, if◌then◌else◌, nat_lt, List, [], ◌∷◌, ◌++◌, Option, Some, None, option_map}
use Rattle.std.specs.List.{list_any}
use Rattle.stream_type.specs.StreamType.{StreamType, eps, one, null_of}
use Rattle.bunch.specs.BunchTree.{leaf_names, stands_before}
use Rattle.hist_value.specs.HistType.{HistType, past}
use Rattle.hist_value.specs.HistExpr.{HistExpr}
use Rattle.hist_value.specs.Refusal.{HistRefusal}
use Rattle.hist_value.specs.Judge.{Judged, good, bad, judge}
use Rattle.core_term.specs.CoreTerm.{CoreTerm, CoreTerms, CoreBody, CoreProgram, var_term, eps_term, unit_term, nil_term, past_term, par_term, cat_term, cons_term, inl_term, inr_term, let_term, let_par_term, let_cat_term, case_sum_term, case_star_term, wait_term, call_term, no_terms, term_before, leaf_types, past_types, fun_at, is_there}
use Rattle.core_term.specs.FreeNames.{free_names}
use Rattle.core_term.specs.Agreement.{types_in}
use Rattle.core_term.specs.Inert.{is_inert, has_arity, is_inert_fun}
use Rattle.core_term.specs.Parts.{par_left, par_right, cat_first, cat_second, sum_left, sum_right, star_item, star_items, is_par, is_cat, is_sum, is_star, is_same_type}
use Rattle.core_term.specs.Typing.{Context, type_at, is_before, with_name_like, with_fact, with_parts, waited, with_let, passed, context_of}

-- a broken rule; Fault is what a historical expression can do wrong
pub data Cause (Fault : Type 0) : Type 0 where
  -- the name isn't bound
  unbound_name : (x : ℕ) → Cause Fault
  -- another type was wanted, or where wanted is None a type of another form; found is None where it is
  -- the term itself that hasn't the form of what is wanted
  other_type : (wanted found : Option StreamType) → Cause Fault
  -- x is used before y and doesn't stand before it
  out_of_order : (x y : ℕ) → Cause Fault
  -- the argument of this parameter isn't inert, and another parameter stands before it
  jumpy : (v : ℕ) → Cause Fault
  -- a wait for a stream of a null type
  wait_null : (x : ℕ) → Cause Fault
  -- there is no such function, or it has other numbers of parameters
  other_arity : (f : ℕ) → Cause Fault
  -- a historical expression isn't of the wanted type
  history_fault : (fault : Fault) → Cause Fault
  -- a historical variable where a stream variable is asked for
  not_stream : (x : ℕ) → Cause Fault

-- a node: its context, its term and the type that is expected of it
pub record NodeAt : Type 0 where
  pub context : Context
  pub term : CoreTerm
  pub wanted : StreamType

abbrev pub node : Context → CoreTerm → StreamType → NodeAt
node c e r = record { context = c; term = e; wanted = r }

-- the first of two that is there
abbrev pub first_some : {A : Type 0} → Option A → Option A → Option A
first_some None b = b
first_some (Some a) b = Some a

-- what f finds first in the list
abbrev pub first_found : {A B : Type 0} → (A → Option B) → List A → Option B
first_found f [] = None
first_found f (x ∷ xs) = first_some (f x) (first_found f xs)

-- b where the test is true
abbrev pub found_where : {A : Type 0} → Bool → A → Option A
found_where c a = if c then Some a else None

-- the first x of the first list, and with it the first y of the second, with x not before y
abbrev pub first_pair : Context → List ℕ → List ℕ → Option (ℕ × ℕ)
first_pair c xs ys = first_found (λ x. first_found (λ y. found_where (not (is_before c x y)) (x, y)) ys) xs

module _ {Fault : Type 0} where
  -- the number of a cause
  abbrev pub cause_number : Cause Fault → ℕ
  cause_number (unbound_name x) = 1
  cause_number (other_type wanted found) = 2
  cause_number (out_of_order x y) = 3
  cause_number (jumpy v) = 4
  cause_number (wait_null x) = 5
  cause_number (other_arity f) = 6
  cause_number (history_fault fault) = 7
  cause_number (not_stream x) = 8

  -- the one with the lower number; the first of two with one number
  abbrev pub lower : Option (Cause Fault) → Option (Cause Fault) → Option (Cause Fault)
  lower None b = b
  lower (Some a) None = Some a
  lower (Some a) (Some b) = if nat_lt (cause_number b) (cause_number a) then Some b else Some a

  -- what a rule says of the type of a stream variable
  abbrev pub of_stream : ℕ → (StreamType → Option (Cause Fault)) → Option StreamType → Option HistType → Option (Cause Fault)
  of_stream x rule (Some t) h = rule t
  of_stream x rule None (Some h) = Some (not_stream x)
  of_stream x rule None None = Some (unbound_name x)

  -- a subject, which must be a stream variable and keep the rule
  abbrev pub of_subject : Context → ℕ → (StreamType → Option (Cause Fault)) → Option (Cause Fault)
  of_subject c x rule = of_stream x rule (c.types x) (c.past x)

  -- the type of a subject must have a form
  abbrev pub of_form : (StreamType → Bool) → StreamType → Option (Cause Fault)
  of_form has_form t = found_where (not (has_form t)) (other_type None (Some t))

  -- the expected type must have the form of the term
  abbrev pub of_term : Bool → StreamType → Option (Cause Fault)
  of_term fits r = found_where (not fits) (other_type (Some r) None)

  -- the type that was found must be the expected one
  abbrev pub of_type : StreamType → StreamType → Option (Cause Fault)
  of_type t r = found_where (not (is_same_type t r)) (other_type (Some r) (Some t))

  -- the names of the first list must stand before those of the second
  abbrev pub of_order : Context → List ℕ → List ℕ → Option (Cause Fault)
  of_order c xs ys = option_map (λ p. out_of_order p.0 p.1) (first_pair c xs ys)

module _ (funs : List CoreBody) (counts : ℕ → Bool) where
  -- of a call: the first two parameters, one before the other, whose arguments aren't in order
  abbrev pub first_passed : Context → CoreBody → CoreTerms → Option (ℕ × ℕ)
  first_passed c b es =
      first_found (λ u. first_found (λ v. if stands_before b.params u v then first_pair c (free_names (passed b es u)) (free_names (passed b es v)) else None)
      (leaf_names b.params)) (leaf_names b.params)

  -- the first parameter after another one with an argument that isn't inert
  abbrev pub first_jumpy : CoreBody → CoreTerms → Option ℕ
  first_jumpy b es =
      first_found (λ v. found_where
      (list_any (λ u. stands_before b.params u v) (leaf_names b.params) && not (is_inert (fun_at funs) counts (passed b es v) (types_in b.params v))) v)
      (leaf_names b.params)

  abbrev mutual
    -- the nodes of a term, in the order of reading
    pub nodes_of : Context → CoreTerm → StreamType → List NodeAt
    nodes_of c (var_term x) r = node c (var_term x) r ∷ []
    nodes_of c eps_term r = node c eps_term r ∷ []
    nodes_of c unit_term r = node c unit_term r ∷ []
    nodes_of c nil_term r = node c nil_term r ∷ []
    nodes_of c (past_term m) r = node c (past_term m) r ∷ []
    nodes_of c (par_term a b) r = node c (par_term a b) r ∷ (nodes_of c a (par_left r) ++ nodes_of c b (par_right r))
    nodes_of c (cat_term a b) r = node c (cat_term a b) r ∷ (nodes_of c a (cat_first r) ++ nodes_of c b (cat_second r))
    nodes_of c (cons_term a b) r = node c (cons_term a b) r ∷ (nodes_of c a (star_item r) ++ nodes_of c b (star_items r))
    nodes_of c (inl_term a) r = node c (inl_term a) r ∷ nodes_of c a (sum_left r)
    nodes_of c (inr_term a) r = node c (inr_term a) r ∷ nodes_of c a (sum_right r)
    nodes_of c (let_term x s a b) r = node c (let_term x s a b) r ∷ (nodes_of c a s ++ nodes_of (with_let funs counts x s a c) b r)
    nodes_of c (let_par_term x y z a) r =
        node c (let_par_term x y z a) r ∷ nodes_of (with_parts x (par_left (type_at c z)) y (par_right (type_at c z)) z c) a r
    nodes_of c (let_cat_term x y z a) r =
        node c (let_cat_term x y z a) r ∷ nodes_of (with_fact x y (with_parts x (cat_first (type_at c z)) y (cat_second (type_at c z)) z c)) a r
    nodes_of c (case_sum_term z t x a y b) r =
        node c (case_sum_term z t x a y b) r
        ∷ (nodes_of (with_name_like x (sum_left (type_at c z)) z c) a r ++ nodes_of (with_name_like y (sum_right (type_at c z)) z c) b r)
    nodes_of c (case_star_term z t a y ys b) r =
        node c (case_star_term z t a y ys b) r
        ∷ (nodes_of c a r ++ nodes_of (with_fact y ys (with_parts y (star_item (type_at c z)) ys (star_items (type_at c z)) z c)) b r)
    nodes_of c (wait_term x t a) r = node c (wait_term x t a) r ∷ nodes_of (waited x c) a r
    nodes_of c (call_term f ms es) r = node c (call_term f ms es) r ∷ nodes_among c es (leaf_types (fun_at funs f).params)

    -- the nodes of arguments; one without a parameter is expected to be of type `eps`
    pub nodes_among : Context → CoreTerms → List StreamType → List NodeAt
    nodes_among c no_terms ts = []
    nodes_among c (term_before e es) [] = nodes_of c e eps ++ nodes_among c es []
    nodes_among c (term_before e es) (t ∷ ts) = nodes_of c e t ++ nodes_among c es ts

  module _ {Fault : Type 0} (refusal : (ℕ → Option HistType) → HistExpr → HistType → Option Fault) where
    -- the first of historical arguments that isn't of its type
    abbrev pub of_pasts : (ℕ → Option HistType) → List HistExpr → List StreamType → Option (Cause Fault)
    of_pasts env (m ∷ ms) (t ∷ ts) = first_some (option_map history_fault (refusal env m (past t))) (of_pasts env ms ts)
    of_pasts env _ _ = None

    -- the rules on the arguments of a call
    abbrev pub of_passing : Context → CoreBody → List HistExpr → CoreTerms → Option (Cause Fault)
    of_passing c b ms es =
        lower (option_map (λ p. out_of_order p.0 p.1) (first_passed c b es)) (lower (option_map jumpy (first_jumpy b es)) (of_pasts c.past ms (past_types b)))

    -- the rules on a call of a function that is there; with other numbers of arguments the rules on them
    -- aren't read
    abbrev pub of_call : Context → ℕ → List HistExpr → CoreTerms → StreamType → Option (Cause Fault)
    of_call c f ms es r =
        lower (of_type (fun_at funs f).result r) (if has_arity (fun_at funs f) ms es then of_passing c (fun_at funs f) ms es else Some (other_arity f))

    -- the first rule that a node itself breaks
    abbrev pub broken : Context → CoreTerm → StreamType → Option (Cause Fault)
    broken c (var_term x) r = of_subject c x (λ t. of_type t r)
    broken c eps_term r = of_term (is_same_type r eps) r
    broken c unit_term r = of_term (is_same_type r one) r
    broken c nil_term r = of_term (is_star r) r
    broken c (past_term m) r = option_map history_fault (refusal c.past m (past r))
    broken c (par_term a b) r = of_term (is_par r) r
    broken c (cat_term a b) r = lower (of_term (is_cat r) r) (of_order c (free_names a) (free_names b))
    broken c (cons_term a b) r = lower (of_term (is_star r) r) (of_order c (free_names a) (free_names b))
    broken c (inl_term a) r = of_term (is_sum r) r
    broken c (inr_term a) r = of_term (is_sum r) r
    broken c (let_term x s a b) r = None
    broken c (let_par_term x y z a) r = of_subject c z (of_form is_par)
    broken c (let_cat_term x y z a) r = of_subject c z (of_form is_cat)
    broken c (case_sum_term z t x a y b) r = lower (of_subject c z (of_form is_sum)) (of_type t r)
    broken c (case_star_term z t a y ys b) r = lower (of_subject c z (of_form is_star)) (of_type t r)
    broken c (wait_term x t a) r = lower (of_subject c x (λ s. found_where (null_of s) (wait_null x))) (of_type t r)
    broken c (call_term f ms es) r = if is_there funs f then of_call c f ms es r else Some (other_arity f)

    -- the number of the first node of the list that breaks a rule, counted from n, and the cause
    abbrev pub first_broken_of : ℕ → List NodeAt → Option (ℕ × Cause Fault)
    first_broken_of n [] = None
    first_broken_of n (j ∷ js) = first_some (option_map (λ k. (n, k)) (broken j.context j.term j.wanted)) (first_broken_of (suc n) js)

-- the nodes of a body among functions
abbrev pub nodes_of_body : List CoreBody → CoreBody → List NodeAt
nodes_of_body funs b = nodes_of funs (is_inert_fun funs) (context_of b) b.body b.result

-- the nodes of bodies, in turn
abbrev pub nodes_in_bodies : List CoreBody → List CoreBody → List NodeAt
nodes_in_bodies funs [] = []
nodes_in_bodies funs (b ∷ bs) = nodes_of_body funs b ++ nodes_in_bodies funs bs

-- the nodes of a program
abbrev pub program_nodes : CoreProgram → List NodeAt
program_nodes c = nodes_in_bodies c.funs c.funs ++ nodes_of_body c.funs c.main

-- the number of the first node of a program that breaks a rule, and the first rule that it breaks
abbrev pub first_broken : {Fault : Type 0} → ((ℕ → Option HistType) → HistExpr → HistType → Option Fault) → CoreProgram → Option (ℕ × Cause Fault)
first_broken refusal c = first_broken_of c.funs (is_inert_fun c.funs) refusal 0 (program_nodes c)

-- what a historical expression does wrong where a type is wanted
abbrev pub refusal_in : Judged → Option HistRefusal
refusal_in (good t) = None
refusal_in (bad r) = Some r

abbrev pub expr_refusal : (ℕ → Option HistType) → HistExpr → HistType → Option HistRefusal
expr_refusal env m t = refusal_in (judge env m (Some t))

-- the number of the first node of a program that breaks a rule, and the first rule that it breaks, with
-- what a historical expression does wrong as its type is judged
abbrev pub first_fault : CoreProgram → Option (ℕ × Cause HistRefusal)
first_fault c = first_broken expr_refusal c
