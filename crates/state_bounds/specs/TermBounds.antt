-- How many events a term can ever hold back, with a number for each function.
--
-- Choices that are not obvious:
-- - Only a case and a wait hold anything back, and once they go on they hold nothing. So a case holds at most
--   what can come on its free names while its subject hasn't told its side, and a wait what can come before
--   its subject is whole. What stands behind the subject can't come meanwhile.
-- - Of a case's subject nothing counts: what would come on it first is its side. A wait's subject counts.
-- - Of a pair and of a let both parts run at a time, of a sequence one.
-- - A call holds what its arguments hold, and what the number of its function says.
-- - The types are those of all names, as the meaning takes them, where a name that isn't there has type `eps`,
--   on whose stream nothing comes. A name that a wait made historical is free in no typed term, so nothing is
--   done about it here.
use Rattle.std.specs.Prelude.{ℕ, Bool, List, Some, if◌then◌else◌}
use Rattle.bunch.specs.Names.{put}
use Rattle.bunch.specs.Facts.{Facts, place_like, place_let, put_before}
use Rattle.core_term.specs.CoreTerm.{CoreTerm, CoreTerms, CoreBody, var_term, eps_term, unit_term, nil_term, past_term, par_term, cat_term, cons_term, inl_term, inr_term, let_term, let_par_term, let_cat_term, case_sum_term, case_star_term, wait_term, call_term, no_terms, term_before}
use Rattle.core_term.specs.FreeNames.{free_names, without, once}
use Rattle.core_term.specs.Environment.{NameTypes}
use Rattle.core_term.specs.Agreement.{types_in}
use Rattle.core_term.specs.Inert.{is_inert}
use Rattle.core_term.specs.Parts.{par_left, par_right, cat_first, cat_second, sum_left, sum_right, star_item, star_items}
use Rattle.bunch.specs.BunchTree.{stands_before}
use Rattle.state_bounds.specs.Bounds.{Bound, both, greater, size_of, total}

-- what can come on y while something waits for z: nothing where z stands before it
abbrev pub room_of : NameTypes → Facts → ℕ → ℕ → Bound
room_of types before z y = if before z y then Some 0 else size_of (types y)

-- what a case on z with these free names can hold at most itself,
abbrev pub case_room : NameTypes → Facts → ℕ → List ℕ → Bound
case_room types before z free = total (room_of types before z) (without z (once free))

-- and what a wait for z can
abbrev pub wait_room : NameTypes → Facts → ℕ → List ℕ → Bound
wait_room types before z free = total (room_of types before z) (once free)

module _ (funs : ℕ → CoreBody) (counts : ℕ → Bool) (numbers : ℕ → Bound) where
  abbrev mutual
    -- what a term can hold at most
    pub bound_of : CoreTerm → NameTypes → Facts → Bound
    bound_of (var_term x) types before = Some 0
    bound_of eps_term types before = Some 0
    bound_of unit_term types before = Some 0
    bound_of nil_term types before = Some 0
    bound_of (past_term m) types before = Some 0
    bound_of (par_term a b) types before = both (bound_of a types before) (bound_of b types before)
    bound_of (cat_term a b) types before = greater (bound_of a types before) (bound_of b types before)
    bound_of (cons_term a b) types before = greater (bound_of a types before) (bound_of b types before)
    bound_of (inl_term a) types before = bound_of a types before
    bound_of (inr_term a) types before = bound_of a types before
    bound_of (let_term x s a b) types before =
        both (bound_of a types before) (bound_of b (put x s types) (place_let x (free_names a) (is_inert funs counts a s) before))
    bound_of (let_par_term x y z a) types before =
        bound_of a (put y (par_right (types z)) (put x (par_left (types z)) types)) (place_like y z (place_like x z before))
    bound_of (let_cat_term x y z a) types before =
        bound_of a (put y (cat_second (types z)) (put x (cat_first (types z)) types)) (put_before x y (place_like y z (place_like x z before)))
    bound_of (case_sum_term z t x a y b) types before =
        greater (case_room types before z (free_names (case_sum_term z t x a y b)))
        (greater (bound_of a (put x (sum_left (types z)) types) (place_like x z before))
        (bound_of b (put y (sum_right (types z)) types) (place_like y z before)))
    bound_of (case_star_term z t a y ys b) types before =
        greater (case_room types before z (free_names (case_star_term z t a y ys b)))
        (greater (bound_of a types before)
        (bound_of b (put ys (star_items (types z)) (put y (star_item (types z)) types)) (put_before y ys (place_like ys z (place_like y z before)))))
    bound_of (wait_term x t a) types before =
        greater (wait_room types before x (free_names (wait_term x t a))) (bound_of a types before)
    bound_of (call_term f ms es) types before = both (bounds_of es types before) (numbers f)

    -- what the arguments of a call can hold at most
    pub bounds_of : CoreTerms → NameTypes → Facts → Bound
    bounds_of no_terms types before = Some 0
    bounds_of (term_before e es) types before = both (bound_of e types before) (bounds_of es types before)

  -- what a body can hold at most, over its parameters
  abbrev pub body_bound : CoreBody → Bound
  body_bound b = bound_of b.body (types_in b.params) (stands_before b.params)
