-- Where a case or a wait counts a name without a size, there is no bound.
use mathlib.Core.Former.{Count}
use Rattle.std.proofs.Common.{◌≡◌, ◌∙◌, ℕ, Bool, List, [], ◌∷◌, ap, refl}
use Rattle.std.specs.Prelude.{Option, Some, None, ⊤}
use Rattle.core_term.specs.declared.term.Term.{Term, Row_of-Node, end_of-Node, more_of-Node}
use Rattle.core_term.specs.declared.term.Term.TheVariants.{Var, Eps, Unit as IsUnit, Past, Par', Cat', Inl', Inr', Nil, Cons', Let', LetPar', LetCat', CaseSum', CaseStar', Wait', Call'}
use Rattle.core_term.specs.CoreTerm.{CoreBody, term_in, terms_of}
use Rattle.core_term.specs.FreeNames.{free_names, without, once}
use Rattle.core_term.specs.TypeFaults.{first_some}
use Rattle.core_term.specs.Typing.{Context, types_of}
use Rattle.state_bounds.specs.Bounds.{Bound, both, greater, total}
use Rattle.state_bounds.specs.TermBounds.{room_of}
use Rattle.state_bounds.specs.ProgramBound.{or_large, first_large}
use Rattle.delta_bound.specs.BoundIn.{bound_in, bounds_in}
use Rattle.delta_bound.specs.Unsized.{placed, case_unsized, wait_unsized, unsized_at, unsized_row}

-- where something is found, there is no bound
abbrev pub IsLarge : Option (ℕ × ℕ) → Bound → Type 0
IsLarge None b = ⊤
IsLarge (Some u) b = b ≡ None

both-none : (a : Bound) → both a None ≡ None
both-none None = refl
both-none (Some m) = refl

greater-none : (a : Bound) → greater a None ≡ None
greater-none None = refl
greater-none (Some m) = refl

both_large : (x y : Option (ℕ × ℕ)) (a b : Bound) → IsLarge x a → IsLarge y b → IsLarge (first_some x y) (both a b)
both_large None None a b h k = tt
both_large None (Some u) a b h k = ap (both a) k ∙ both-none a
both_large (Some u) y a b h k = ap (λ t. both t b) h

greater_large : (x y : Option (ℕ × ℕ)) (a b : Bound) → IsLarge x a → IsLarge y b → IsLarge (first_some x y) (greater a b)
greater_large None None a b h k = tt
greater_large None (Some u) a b h k = ap (greater a) k ∙ greater-none a
greater_large (Some u) y a b h k = ap (λ t. greater t b) h

branches_large : (r x y : Option (ℕ × ℕ)) (m a b : Bound) → IsLarge r m → IsLarge x a → IsLarge y b → IsLarge (first_some (first_some r x) y) (greater m (greater a b))
branches_large None None None m a b h k l = tt
branches_large None None (Some u) m a b h k l = ap (λ t. greater m (greater a t)) l ∙ (ap (greater m) (greater-none a) ∙ greater-none m)
branches_large None (Some u) y m a b h k l = ap (λ t. greater m (greater t b)) k ∙ greater-none m
branches_large (Some u) x y m a b h k l = ap (λ t. greater t (greater a b)) h

number_large : (x : Option (ℕ × ℕ)) (a n : Bound) → IsLarge x a → IsLarge x (both a n)
number_large None a n h = tt
number_large (Some u) a n h = ap (λ t. both t n) h

total_large : (at : ℕ) (room : ℕ → Bound) (xs : List ℕ) → IsLarge (placed at (first_large room xs)) (total room xs)
total_large at room [] = tt
total_large at room (x ∷ xs) = go (room x) (first_large room xs) (total_large at room xs)
  where
    go : (a : Bound) (o : Option ℕ) → IsLarge (placed at o) (total room xs) → IsLarge (placed at (or_large x a o)) (both a (total room xs))
    go None o h = refl
    go (Some n) None h = tt
    go (Some n) (Some y) h = ap (both (Some n)) h

module _ (funs : List CoreBody) (counts : ℕ → Bool) (numbers : ℕ → Bound) where
  mutual
    pub term_large : (at : ℕ) (e : Term) (c : Context) → IsLarge (unsized_at funs counts at e c) (bound_in funs counts numbers (term_in e) c)
    term_large at (Var x) c = tt
    term_large at Eps c = tt
    term_large at IsUnit c = tt
    term_large at (Past m) c = tt
    term_large at (Par' p i a q j b) c = both_large (unsized_at funs counts i a c) (unsized_at funs counts j b c) _ _ (term_large i a c) (term_large j b c)
    term_large at (Cat' p i a q j b) c = greater_large (unsized_at funs counts i a c) (unsized_at funs counts j b c) _ _ (term_large i a c) (term_large j b c)
    term_large at (Inl' p i a) c = term_large i a c
    term_large at (Inr' p i a) c = term_large i a c
    term_large at Nil c = tt
    term_large at (Cons' p i a q j b) c = greater_large (unsized_at funs counts i a c) (unsized_at funs counts j b c) _ _ (term_large i a c) (term_large j b c)
    term_large at (Let' x s p i a q j b) c = both_large (unsized_at funs counts i a c) (unsized_at funs counts j b _) _ _ (term_large i a c) (term_large j b _)
    term_large at (LetPar' x y z p i a) c = term_large i a _
    term_large at (LetCat' x y z p i a) c = term_large i a _
    term_large at (CaseSum' z t x p i a y q j b) c =
        branches_large (placed at (case_unsized c z.0 (free_names (term_in (CaseSum' z t x p i a y q j b))))) (unsized_at funs counts i a _) (unsized_at funs counts j b _) _ _ _
        (total_large at (room_of (types_of c) c.order z.0) (without z.0 (once (free_names (term_in (CaseSum' z t x p i a y q j b)))))) (term_large i a _) (term_large j b _)
    term_large at (CaseStar' z t p i a y ys q j b) c =
        branches_large (placed at (case_unsized c z.0 (free_names (term_in (CaseStar' z t p i a y ys q j b))))) (unsized_at funs counts i a _) (unsized_at funs counts j b _) _ _ _
        (total_large at (room_of (types_of c) c.order z.0) (without z.0 (once (free_names (term_in (CaseStar' z t p i a y ys q j b)))))) (term_large i a _) (term_large j b _)
    term_large at (Wait' x t p i a) c =
        greater_large (placed at (wait_unsized c x.0 (free_names (term_in (Wait' x t p i a))))) (unsized_at funs counts i a c) _ _
        (total_large at (room_of (types_of c) c.order x.0) (once (free_names (term_in (Wait' x t p i a))))) (term_large i a c)
    term_large at (Call' f ms shape es) c = number_large (unsized_row funs counts es c) _ (numbers f) (row_large es c)

    row_large : {m : Count} (es : Row_of-Node m) (c : Context) → IsLarge (unsized_row funs counts es c) (bounds_in funs counts numbers (terms_of es) c)
    row_large end_of-Node c = tt
    row_large (more_of-Node i a es) c = both_large (unsized_at funs counts i a c) (unsized_row funs counts es c) _ _ (term_large i a c) (row_large es c)
