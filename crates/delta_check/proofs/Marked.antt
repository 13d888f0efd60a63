-- The marks of a round, with one more at the end.
use Rattle.std.proofs.Common.{◌≡◌, ◌⊎◌, inl, inr, ℕ, zero, suc, arith, ◌+◌, ◌<◌, Bool, false, List, [], ◌∷◌, ◌++◌, length, length-append, map, get_or, refl, ap, sym, ◌∙◌}
use Rattle.std.specs.Prelude.{slice_index_or}
use Rattle.core_term.specs.declared.program.Body.{Body}
use Rattle.core_term.specs.CoreTerm.{CoreBody, core_body_of, fun_at}
use Rattle.delta_check.specs.Counting.{stays_inert}

-- the function at a place
pub body_there : (bs : List Body) (f : ℕ) (b : Body) → f < length bs → b ≡ get_or bs f b → fun_at (map core_body_of bs) f ≡ core_body_of b
body_there [] f b h e = absurd (omega arith)
body_there (a ∷ bs) zero b h e = ap core_body_of (sym e)
body_there (a ∷ bs) (suc f) b h e = body_there bs f b (omega arith) e

at_less : (xs ys : List Bool) (g : ℕ) → g < length xs → slice_index_or (xs ++ ys) g false ≡ slice_index_or xs g false
at_less [] ys g h = absurd (omega arith)
at_less (x ∷ xs) ys zero h = refl
at_less (x ∷ xs) ys (suc g) h = at_less xs ys g (omega arith)

at_end : (xs : List Bool) (k : Bool) → slice_index_or (xs ++ k ∷ []) (length xs) false ≡ k
at_end [] k = refl
at_end (x ∷ xs) k = at_end xs k

less_or_same : (g f : ℕ) → g < f + 1 → (g < f) ⊎ (g ≡ f)
less_or_same zero zero h = inr refl
less_or_same zero (suc f) h = inl (omega arith)
less_or_same (suc g) zero h = absurd (omega arith)
less_or_same (suc g) (suc f) h = elim (less_or_same g f (omega arith)) [ inl a ↦ inl (omega arith) | inr b ↦ inr (ap suc b) ]

-- one more mark
pub marks_more : (funs : List CoreBody) (marks kept new : List Bool) (f : ℕ) (k : Bool) → new ≡ kept ++ k ∷ [] → length kept ≡ f → ((g : ℕ) → g < f → slice_index_or kept g false ≡ stays_inert funs marks g)
    → k ≡ stays_inert funs marks f → (length new ≡ f + 1) × ((g : ℕ) → g < f + 1 → slice_index_or new g false ≡ stays_inert funs marks g)
marks_more funs marks kept new f k e long before here = (ap length e ∙ count, λ g h. go g (less_or_same g f h))
  where
    count : length (kept ++ k ∷ []) ≡ f + 1
    count = let both = length-append kept (k ∷ []) in omega (arith, both, long)

    go : (g : ℕ) → (g < f) ⊎ (g ≡ f) → slice_index_or new g false ≡ stays_inert funs marks g
    go g (inl h) = ap (λ l. slice_index_or l g false) e ∙ at_less kept (k ∷ []) g (omega arith) ∙ before g h
    go g (inr h) =
        ap (λ l. slice_index_or l g false) e ∙ ap (λ i. slice_index_or (kept ++ k ∷ []) i false) (h ∙ sym long) ∙ at_end kept k ∙ here ∙ ap (stays_inert funs marks) (sym h)
