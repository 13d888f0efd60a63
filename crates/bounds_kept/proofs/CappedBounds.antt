-- No bound of a term or of a state is above the limit of sums. So a bound beside another one is at least itself.
use Rattle.std.proofs.Common.{◌≤◌, ℕ, Bool, List, [], ◌∷◌, arith}
use Rattle.std.specs.Prelude.{Some, None, ⊤}
use Rattle.bunch.specs.Facts.{Facts}
use Rattle.core_term.specs.CoreTerm.{CoreTerm, CoreBody, var_term, eps_term, unit_term, nil_term, past_term, par_term, cat_term, cons_term, inl_term, inr_term, let_term, let_par_term, let_cat_term, case_sum_term, case_star_term, wait_term, call_term, fun_at}
use Rattle.core_term.specs.FreeNames.{free_names, without, once}
use Rattle.core_term.specs.Environment.{NameTypes}
use Rattle.core_term.specs.Inert.{is_inert_fun}
use Rattle.core_term.specs.Typing.{Context, types_of}
use Rattle.delta_state.specs.StateTree.{StateTree, ArgumentTrees, sink, var_state, par_state, cat_state, let_state, let_par_state, let_cat_state, sum_state, star_state, wait_state, frame_state, no_arguments, argument_before}
use Rattle.delta_state.specs.StateMeaning.{types_held}
use Rattle.delta_state.specs.StateTyping.{facts_held}
use Rattle.state_bounds.specs.Bounds.{Bound, both, greater, ◌⊑◌, limit, total}
use Rattle.state_bounds.specs.TermBounds.{room_of, bound_of}
use Rattle.state_bounds.specs.StateBounds.{state_bound, argument_bounds}

-- the bound isn't above the limit
abbrev pub IsCapped : Bound → Type 0
IsCapped None = ⊤
IsCapped (Some n) = n ≤ limit

-- two bounds together aren't,
pub both_capped : (a b : Bound) → IsCapped (both a b)
both_capped None b = tt
both_capped (Some m) None = tt
both_capped (Some m) (Some n) = omega arith

-- nor is the greater of two that aren't,
greater_capped : (a b : Bound) → IsCapped a → IsCapped b → IsCapped (greater a b)
greater_capped None b h k = tt
greater_capped (Some m) None h k = tt
greater_capped (Some m) (Some n) h k = omega (arith, h, k)

-- nor are the bounds of names together
pub total_capped : (f : ℕ → Bound) (xs : List ℕ) → IsCapped (total f xs)
total_capped f [] = omega arith
total_capped f (x ∷ xs) = both_capped (f x) (total f xs)

-- so a bound is at most itself and another one,
pub beside_left : (a b : Bound) → IsCapped a → a ⊑ both a b
beside_left None b h = tt
beside_left (Some m) None h = tt
beside_left (Some m) (Some n) h = omega (arith, h)

-- on either side
pub beside_right : (a b : Bound) → IsCapped b → b ⊑ both a b
beside_right None b h = tt
beside_right (Some m) None h = tt
beside_right (Some m) (Some n) h = omega (arith, h)

module _ (funs : ℕ → CoreBody) (counts : ℕ → Bool) (numbers : ℕ → Bound) where
  -- no term's bound is above the limit,
  term_capped : (e : CoreTerm) (T : NameTypes) (O : Facts) → IsCapped (bound_of funs counts numbers e T O)
  term_capped (var_term x) T O = omega arith
  term_capped eps_term T O = omega arith
  term_capped unit_term T O = omega arith
  term_capped nil_term T O = omega arith
  term_capped (past_term m) T O = omega arith
  term_capped (par_term a b) T O = both_capped _ _
  term_capped (cat_term a b) T O = greater_capped _ _ (term_capped a T O) (term_capped b T O)
  term_capped (cons_term a b) T O = greater_capped _ _ (term_capped a T O) (term_capped b T O)
  term_capped (inl_term a) T O = term_capped a T O
  term_capped (inr_term a) T O = term_capped a T O
  term_capped (let_term x s a b) T O = both_capped _ _
  term_capped (let_par_term x y z a) T O = term_capped a _ _
  term_capped (let_cat_term x y z a) T O = term_capped a _ _
  term_capped (case_sum_term z t x a y b) T O = greater_capped _ _ (total_capped (room_of T O z) (without z (once (free_names (case_sum_term z t x a y b))))) (greater_capped _ _ (term_capped a _ _) (term_capped b _ _))
  term_capped (case_star_term z t a y ys b) T O = greater_capped _ _ (total_capped (room_of T O z) (without z (once (free_names (case_star_term z t a y ys b))))) (greater_capped _ _ (term_capped a T O) (term_capped b _ _))
  term_capped (wait_term x t a) T O = greater_capped _ _ (total_capped (room_of T O x) (once (free_names (wait_term x t a)))) (term_capped a T O)
  term_capped (call_term f ms es) T O = both_capped _ _

module _ (funs : List CoreBody) (numbers : ℕ → Bound) where
  -- nor is any state's,
  pub state_capped : (s : StateTree) (c : Context) → IsCapped (state_bound funs numbers s c)
  state_capped (sink t) c = omega arith
  state_capped (var_state x) c = omega arith
  state_capped (par_state a b) c = both_capped _ _
  state_capped (cat_state a l) c = greater_capped _ _ (state_capped a c) (term_capped (fun_at funs) (is_inert_fun funs) numbers l.term (types_of c) c.order)
  state_capped (let_state x s a b) c = both_capped _ _
  state_capped (let_par_state x y z a) c = state_capped a _
  state_capped (let_cat_state x y z a) c = state_capped a _
  state_capped (sum_state z t held x l y m) c = term_capped (fun_at funs) (is_inert_fun funs) numbers (case_sum_term z t x l.term y m.term) (types_held held) (facts_held held c.order)
  state_capped (star_state z t held l y ys m) c = term_capped (fun_at funs) (is_inert_fun funs) numbers (case_star_term z t l.term y ys m.term) (types_held held) (facts_held held c.order)
  state_capped (wait_state x t held l) c = term_capped (fun_at funs) (is_inert_fun funs) numbers (wait_term x t l.term) (types_held held) (facts_held held c.order)
  state_capped (frame_state args s) c = both_capped _ _

  -- nor that of arguments
  pub arguments_capped : (args : ArgumentTrees) (c : Context) → IsCapped (argument_bounds funs numbers args c)
  arguments_capped no_arguments c = omega arith
  arguments_capped (argument_before x t s args) c = both_capped _ _
