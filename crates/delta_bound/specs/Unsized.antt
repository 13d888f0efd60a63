-- The first case or wait of a program that counts a name whose type has no size.
--
-- Choices that are not obvious:
-- - Nodes are met in the order of reading, a form before its parts: those of the functions that are reached,
--   in turn, and those of the main program last.
-- - Of a node the first such name in the order of first use is told, with the node's place.
-- - All this is read off the program's own trees, since terms as plain data have no places.
use Rattle.std.specs.Prelude.{ℕ, suc, Bool, List, [], ◌∷◌, Option, None, option_map, if◌then◌else◌}
use Rattle.stream_type.specs.StreamType.{type_of}
use Rattle.core_term.specs.declared.term.Node.{Node}
use Rattle.core_term.specs.declared.term.Term.{Term, Row_of-Node, end_of-Node, more_of-Node}
use Rattle.core_term.specs.declared.term.Term.TheVariants.{Var, Eps, Unit as IsUnit, Past, Par', Cat', Inl', Inr', Nil, Cons', Let', LetPar', LetCat', CaseSum', CaseStar', Wait', Call'}
use Rattle.core_term.specs.declared.program.Body.{Body}
use Rattle.core_term.specs.declared.program.Core.{Core}
use Rattle.core_term.specs.CoreTerm.{CoreBody, term_in, core_of, core_body_of}
use Rattle.core_term.specs.FreeNames.{free_names, without, once}
use Rattle.core_term.specs.Inert.{is_inert_fun}
use Rattle.core_term.specs.Parts.{par_left, par_right, cat_first, cat_second, sum_left, sum_right, star_item, star_items}
use Rattle.core_term.specs.TypeFaults.{first_some}
use Rattle.core_term.specs.Typing.{Context, type_at, types_of, context_of, with_name_like, with_fact, with_parts, with_let}
use Rattle.state_bounds.specs.TermBounds.{room_of}
use Rattle.state_bounds.specs.ProgramBound.{first_large, is_marked, reached_marks}
use Rattle.delta_bound.specs.declared.stop.Unsized.{Unsized}

-- of a case on z with these free names the first that it counts without a size,
abbrev pub case_unsized : Context → ℕ → List ℕ → Option ℕ
case_unsized c z free = first_large (room_of (types_of c) c.order z) (without z (once free))

-- and of a wait for z
abbrev pub wait_unsized : Context → ℕ → List ℕ → Option ℕ
wait_unsized c z free = first_large (room_of (types_of c) c.order z) (once free)

-- a name with a place
abbrev pub placed : ℕ → Option ℕ → Option (ℕ × ℕ)
placed at x = option_map (λ y. (y, at)) x

-- the name and the place that the measure tells
abbrev pub told : Unsized → ℕ × ℕ
told u = (u.name.0, u.at)

module _ (funs : List CoreBody) (counts : ℕ → Bool) where
  abbrev mutual
    -- the first such name of a term at this place, with the place of its node
    pub unsized_at : ℕ → Term → Context → Option (ℕ × ℕ)
    unsized_at at (Var x) c = None
    unsized_at at Eps c = None
    unsized_at at IsUnit c = None
    unsized_at at (Past m) c = None
    unsized_at at (Par' p i a q j b) c = first_some (unsized_at i a c) (unsized_at j b c)
    unsized_at at (Cat' p i a q j b) c = first_some (unsized_at i a c) (unsized_at j b c)
    unsized_at at (Inl' p i a) c = unsized_at i a c
    unsized_at at (Inr' p i a) c = unsized_at i a c
    unsized_at at Nil c = None
    unsized_at at (Cons' p i a q j b) c = first_some (unsized_at i a c) (unsized_at j b c)
    unsized_at at (Let' x s p i a q j b) c = first_some (unsized_at i a c) (unsized_at j b (with_let funs counts x.0 (type_of s) (term_in a) c))
    unsized_at at (LetPar' x y z p i a) c = unsized_at i a (with_parts x.0 (par_left (type_at c z.0)) y.0 (par_right (type_at c z.0)) z.0 c)
    unsized_at at (LetCat' x y z p i a) c =
        unsized_at i a (with_fact x.0 y.0 (with_parts x.0 (cat_first (type_at c z.0)) y.0 (cat_second (type_at c z.0)) z.0 c))
    unsized_at at (CaseSum' z t x p i a y q j b) c =
        first_some
        (first_some (placed at (case_unsized c z.0 (free_names (term_in (CaseSum' z t x p i a y q j b)))))
        (unsized_at i a (with_name_like x.0 (sum_left (type_at c z.0)) z.0 c)))
        (unsized_at j b (with_name_like y.0 (sum_right (type_at c z.0)) z.0 c))
    unsized_at at (CaseStar' z t p i a y ys q j b) c =
        first_some (first_some (placed at (case_unsized c z.0 (free_names (term_in (CaseStar' z t p i a y ys q j b))))) (unsized_at i a c))
        (unsized_at j b (with_fact y.0 ys.0 (with_parts y.0 (star_item (type_at c z.0)) ys.0 (star_items (type_at c z.0)) z.0 c)))
    unsized_at at (Wait' x t p i a) c =
        first_some (placed at (wait_unsized c x.0 (free_names (term_in (Wait' x t p i a))))) (unsized_at i a c)
    unsized_at at (Call' f ms shape es) c = unsized_row es c

    -- of the arguments of a call
    pub unsized_row : {n : _} → Row_of-Node n → Context → Option (ℕ × ℕ)
    unsized_row end_of-Node c = None
    unsized_row (more_of-Node i a es) c = first_some (unsized_at i a c) (unsized_row es c)

  -- of a term where it stands, and of terms in turn
  abbrev pub unsized_of : Node → Context → Option (ℕ × ℕ)
  unsized_of n c = unsized_at n.at n.term c

  abbrev pub unsized_among : List Node → Context → Option (ℕ × ℕ)
  unsized_among [] c = None
  unsized_among (n ∷ ns) c = first_some (unsized_of n c) (unsized_among ns c)

  -- of a body
  abbrev pub unsized_in : Body → Option (ℕ × ℕ)
  unsized_in b = unsized_of b.body (context_of (core_body_of b))

  -- of the marked ones of these functions, which have numbers from i on
  abbrev pub unsized_from : List Bool → ℕ → List Body → Option (ℕ × ℕ)
  unsized_from marks i [] = None
  unsized_from marks i (b ∷ bs) = first_some (if is_marked marks i then unsized_in b else None) (unsized_from marks (suc i) bs)

-- of a program
abbrev pub program_unsized : Core → Option (ℕ × ℕ)
program_unsized c =
    let funs = (core_of c).funs in
    let counts = is_inert_fun funs in
    first_some (unsized_from funs counts (reached_marks (core_of c)) 0 c.funs.items) (unsized_in funs counts c.main)
