-- The first case or wait of a program that counts a name whose type has no size, read off the program's core and
-- the places of its nodes in the text.
--
-- Choices that are not obvious:
-- - Core terms are plain data and have no places. The places of their nodes stand in a list of their own, in the
--   order of reading: a form before its parts, functions in turn and the main program last. A term's own place is
--   the first of the list; places behind those of its nodes play no part.
-- - So what is told hangs on nothing but the program.
use Rattle.std.specs.Prelude.{ℕ, suc, Bool, List, [], ◌∷◌, drop, Option, None, if◌then◌else◌}
use Rattle.core_term.specs.CoreTerm.{CoreTerm, CoreTerms, CoreBody, CoreProgram, var_term, eps_term, unit_term, nil_term, past_term, par_term, cat_term, cons_term, inl_term, inr_term, let_term, let_par_term, let_cat_term, case_sum_term, case_star_term, wait_term, call_term, no_terms, term_before, node_count}
use Rattle.core_term.specs.FreeNames.{free_names}
use Rattle.core_term.specs.Inert.{is_inert_fun}
use Rattle.core_term.specs.Parts.{par_left, par_right, cat_first, cat_second, sum_left, sum_right, star_item, star_items}
use Rattle.core_term.specs.TypeFaults.{first_some}
use Rattle.core_term.specs.Typing.{Context, type_at, context_of, with_name_like, with_fact, with_parts, with_let}
use Rattle.state_bounds.specs.ProgramBound.{is_marked, reached_marks}
use Rattle.delta_bound.specs.Unsized.{case_unsized, wait_unsized, placed}

-- the place of a term whose nodes have these places,
abbrev pub own_place : List ℕ → ℕ
own_place [] = 0
own_place (at ∷ places) = at

-- those of its parts,
abbrev pub inner_places : List ℕ → List ℕ
inner_places [] = []
inner_places (at ∷ places) = places

-- and those behind the nodes of a term
abbrev pub places_behind : CoreTerm → List ℕ → List ℕ
places_behind a places = drop (node_count a) places

module _ (funs : List CoreBody) (counts : ℕ → Bool) where
  abbrev mutual
    -- the first name without a size that a case or a wait of a term counts, with the place of that node
    pub first_unsized : List ℕ → CoreTerm → Context → Option (ℕ × ℕ)
    first_unsized places (var_term x) c = None
    first_unsized places eps_term c = None
    first_unsized places unit_term c = None
    first_unsized places nil_term c = None
    first_unsized places (past_term m) c = None
    first_unsized places (par_term a b) c =
        first_some (first_unsized (inner_places places) a c) (first_unsized (places_behind a (inner_places places)) b c)
    first_unsized places (cat_term a b) c =
        first_some (first_unsized (inner_places places) a c) (first_unsized (places_behind a (inner_places places)) b c)
    first_unsized places (cons_term a b) c =
        first_some (first_unsized (inner_places places) a c) (first_unsized (places_behind a (inner_places places)) b c)
    first_unsized places (inl_term a) c = first_unsized (inner_places places) a c
    first_unsized places (inr_term a) c = first_unsized (inner_places places) a c
    first_unsized places (let_term x s a b) c =
        first_some (first_unsized (inner_places places) a c) (first_unsized (places_behind a (inner_places places)) b (with_let funs counts x s a c))
    first_unsized places (let_par_term x y z a) c =
        first_unsized (inner_places places) a (with_parts x (par_left (type_at c z)) y (par_right (type_at c z)) z c)
    first_unsized places (let_cat_term x y z a) c =
        first_unsized (inner_places places) a (with_fact x y (with_parts x (cat_first (type_at c z)) y (cat_second (type_at c z)) z c))
    first_unsized places (case_sum_term z t x a y b) c =
        first_some
        (first_some (placed (own_place places) (case_unsized c z (free_names (case_sum_term z t x a y b))))
        (first_unsized (inner_places places) a (with_name_like x (sum_left (type_at c z)) z c)))
        (first_unsized (places_behind a (inner_places places)) b (with_name_like y (sum_right (type_at c z)) z c))
    first_unsized places (case_star_term z t a y ys b) c =
        first_some
        (first_some (placed (own_place places) (case_unsized c z (free_names (case_star_term z t a y ys b)))) (first_unsized (inner_places places) a c))
        (first_unsized (places_behind a (inner_places places)) b (with_fact y ys (with_parts y (star_item (type_at c z)) ys (star_items (type_at c z)) z c)))
    first_unsized places (wait_term x t a) c =
        first_some (placed (own_place places) (wait_unsized c x (free_names (wait_term x t a)))) (first_unsized (inner_places places) a c)
    first_unsized places (call_term f ms es) c = first_unsized_among (inner_places places) es c

    -- of the arguments of a call
    pub first_unsized_among : List ℕ → CoreTerms → Context → Option (ℕ × ℕ)
    first_unsized_among places no_terms c = None
    first_unsized_among places (term_before e es) c = first_some (first_unsized places e c) (first_unsized_among (places_behind e places) es c)

  -- of a body
  abbrev pub first_unsized_in : List ℕ → CoreBody → Option (ℕ × ℕ)
  first_unsized_in places b = first_unsized places b.body (context_of b)

  -- of the marked ones of these functions, which have numbers from i on
  abbrev pub first_unsized_from : List Bool → ℕ → List ℕ → List CoreBody → Option (ℕ × ℕ)
  first_unsized_from marks i places [] = None
  first_unsized_from marks i places (b ∷ bs) =
      first_some (if is_marked marks i then first_unsized_in places b else None) (first_unsized_from marks (suc i) (places_behind b.body places) bs)

-- the places behind the nodes of these functions
abbrev pub main_places : List ℕ → List CoreBody → List ℕ
main_places places [] = places
main_places places (b ∷ bs) = main_places (places_behind b.body places) bs

-- of a program whose nodes have these places
abbrev pub core_unsized : List ℕ → CoreProgram → Option (ℕ × ℕ)
core_unsized places c =
    let counts = is_inert_fun c.funs in
    first_some (first_unsized_from c.funs counts (reached_marks c) 0 places c.funs) (first_unsized_in c.funs counts (main_places places c.funs) c.main)

-- the places of the functions' bodies
abbrev pub bodies_at : List ℕ → List CoreBody → List ℕ
bodies_at places [] = []
bodies_at places (b ∷ bs) = own_place places ∷ bodies_at (places_behind b.body places) bs
