-- How many events a state can ever hold back, over the context in which it is typed.
--
-- Choices that are not obvious:
-- - A state that is finished or a name holds nothing. Of a pair, a let and a call all parts run at a time.
-- - Of a sequence the second part is code that isn't reached before the first has ended. It counts as a term,
--   over the context in which it is typed.
-- - A held case or wait counts as the term that it was, over the types from before anything was held, and in the
--   order with which what is held agrees. So what is held already is counted with what may come.
use Rattle.std.specs.Prelude.{ℕ, true, List, Some}
use Rattle.bunch.specs.Facts.{Facts, place_let}
use Rattle.core_term.specs.CoreTerm.{CoreTerm, CoreBody, case_sum_term, case_star_term, wait_term, fun_at}
use Rattle.core_term.specs.Environment.{NameTypes}
use Rattle.core_term.specs.Inert.{is_inert_fun}
use Rattle.core_term.specs.Parts.{par_left, par_right, cat_first, cat_second}
use Rattle.core_term.specs.Typing.{Context, type_at, types_of, with_name, with_fact, with_parts}
use Rattle.delta_state.specs.StateTree.{StateTree, ArgumentTrees, sink, var_state, par_state, cat_state, let_state, let_par_state, let_cat_state, sum_state, star_state, wait_state, frame_state, no_arguments, argument_before, free_in_state}
use Rattle.delta_state.specs.StateMeaning.{types_held}
use Rattle.delta_state.specs.StateTyping.{facts_held, context_of_arguments}
use Rattle.state_bounds.specs.Bounds.{Bound, both, greater}
use Rattle.state_bounds.specs.TermBounds.{bound_of}

module _ (funs : List CoreBody) (numbers : ℕ → Bound) where
  -- what code that isn't reached can hold at most
  abbrev pub code_bound : CoreTerm → NameTypes → Facts → Bound
  code_bound e types before = bound_of (fun_at funs) (is_inert_fun funs) numbers e types before

  abbrev mutual
    -- what a state can hold at most, from here on
    pub state_bound : StateTree → Context → Bound
    state_bound (sink t) c = Some 0
    state_bound (var_state x) c = Some 0
    state_bound (par_state a b) c = both (state_bound a c) (state_bound b c)
    state_bound (cat_state a l) c = greater (state_bound a c) (code_bound l.term (types_of c) c.order)
    state_bound (let_state x s a b) c = both (state_bound a c) (state_bound b (with_name x s (place_let x (free_in_state a) true c.order) c))
    state_bound (let_par_state x y z a) c = state_bound a (with_parts x (par_left (type_at c z)) y (par_right (type_at c z)) z c)
    state_bound (let_cat_state x y z a) c = state_bound a (with_fact x y (with_parts x (cat_first (type_at c z)) y (cat_second (type_at c z)) z c))
    state_bound (sum_state z t held x l y m) c = code_bound (case_sum_term z t x l.term y m.term) (types_held held) (facts_held held c.order)
    state_bound (star_state z t held l y ys m) c = code_bound (case_star_term z t l.term y ys m.term) (types_held held) (facts_held held c.order)
    state_bound (wait_state x t held l) c = code_bound (wait_term x t l.term) (types_held held) (facts_held held c.order)
    state_bound (frame_state args s) c = both (argument_bounds args c) (state_bound s (context_of_arguments c args))

    -- what the arguments of a call can hold at most
    pub argument_bounds : ArgumentTrees → Context → Bound
    argument_bounds no_arguments c = Some 0
    argument_bounds (argument_before x t s args) c = both (state_bound s c) (argument_bounds args c)
