-- Expressions that only move numbers about: at other numbers they have the value that they had, with these in it.
use Rattle.std.proofs.Common.{◌≡◌, ◌∙◌, ℤ, true, true≢false, ◌&&◌, ap, ap₂, refl, sym}
use Rattle.bunch.specs.Names.{put}
use Rattle.bunch.proofs.Tests.{and_first, and_second}
use Rattle.hist_value.specs.HistExpr.{HistExpr, variable, literal, unit_expr, reckoned, pair_expr, first_expr, second_expr, left_expr, right_expr, choice, nil_expr, cons_expr, fold_expr}
use Rattle.hist_value.specs.HistValue.{HistValue, pair_of, left_of, right_of, item_before}
use Rattle.hist_value.specs.Evaluate.{value, first_of, second_of, choose, cons_of, gather, gathering}
use Rattle.core_term.specs.Meaning.{Past}
use Rattle.other_numbers.specs.Numbers.{exchanged_value, exchanged_past}
use Rattle.other_numbers.specs.Commutes.{only_moves}
use Rattle.other_numbers.specs.Laws.{MovesCommute}
use Rattle.other_numbers.proofs.NameNumbers.{Along, along_put}

module _ (f : ℤ → ℤ) where
  first_goes : (v : HistValue) → first_of (exchanged_value f v) ≡ exchanged_value f (first_of v)
  first_goes (pair_of v w) = refl
  first_goes _ = refl

  second_goes : (v : HistValue) → second_of (exchanged_value f v) ≡ exchanged_value f (second_of v)
  second_goes (pair_of v w) = refl
  second_goes _ = refl

  cons_goes : (v w : HistValue) → cons_of (exchanged_value f v) (exchanged_value f w) ≡ exchanged_value f (cons_of v w)
  cons_goes v (item_before w ws) = refl
  cons_goes v _ = refl

  -- by the side of a sum's value
  choose_goes : (g g' h h' : HistValue → HistValue) → ((v : HistValue) → g' (exchanged_value f v) ≡ exchanged_value f (g v)) → ((v : HistValue) → h' (exchanged_value f v) ≡ exchanged_value f (h v)) → (v : HistValue)
      → choose g' h' (exchanged_value f v) ≡ exchanged_value f (choose g h v)
  choose_goes g g' h h' eg eh (left_of v) = eg v
  choose_goes g g' h h' eg eh (right_of v) = eh v
  choose_goes g g' h h' eg eh _ = refl

  -- what is gathered from a list
  gather_goes : (g g' : HistValue → HistValue → HistValue) → ((u v : HistValue) → g' (exchanged_value f u) (exchanged_value f v) ≡ exchanged_value f (g u v)) → (u v : HistValue)
      → gather g' (exchanged_value f u) (exchanged_value f v) ≡ exchanged_value f (gather g u v)
  gather_goes g g' e u (item_before v w) = ap (λ a. gather g' a (exchanged_value f w)) (e u v) ∙ gather_goes g g' e (g u v) w
  gather_goes g g' e u _ = refl

  pub moved_value : (m : HistExpr) (p p' : Past) → Along (exchanged_value f) p p' → only_moves m ≡ true → value m p' ≡ exchanged_value f (value m p)
  moved_value (variable x) p p' k o = k.at x
  moved_value (literal n) p p' k o = absurd (true≢false (sym o))
  moved_value unit_expr p p' k o = refl
  moved_value (reckoned q a b) p p' k o = absurd (true≢false (sym o))
  moved_value (pair_expr a b) p p' k o = ap₂ pair_of (moved_value a p p' k (and_first (only_moves a) (only_moves b) o)) (moved_value b p p' k (and_second (only_moves a) (only_moves b) o))
  moved_value (first_expr a) p p' k o = ap first_of (moved_value a p p' k o) ∙ first_goes (value a p)
  moved_value (second_expr a) p p' k o = ap second_of (moved_value a p p' k o) ∙ second_goes (value a p)
  moved_value (left_expr a) p p' k o = ap left_of (moved_value a p p' k o)
  moved_value (right_expr a) p p' k o = ap right_of (moved_value a p p' k o)
  moved_value (choice a x b y c) p p' k o =
      let i = and_second (only_moves a) (only_moves b && only_moves c) o in
      ap (choose (λ v. value b (put x v p')) (λ v. value c (put y v p'))) (moved_value a p p' k (and_first (only_moves a) (only_moves b && only_moves c) o))
      ∙ choose_goes (λ v. value b (put x v p)) (λ v. value b (put x v p')) (λ v. value c (put y v p)) (λ v. value c (put y v p'))
      (λ v. moved_value b (put x v p) (put x (exchanged_value f v) p') (along_put (exchanged_value f) x v (exchanged_value f v) p p' refl k) (and_first (only_moves b) (only_moves c) i))
      (λ v. moved_value c (put y v p) (put y (exchanged_value f v) p') (along_put (exchanged_value f) y v (exchanged_value f v) p p' refl k) (and_second (only_moves b) (only_moves c) i)) (value a p)
  moved_value nil_expr p p' k o = refl
  moved_value (cons_expr a b) p p' k o =
      ap₂ cons_of (moved_value a p p' k (and_first (only_moves a) (only_moves b) o)) (moved_value b p p' k (and_second (only_moves a) (only_moves b) o)) ∙ cons_goes (value a p) (value b p)
  moved_value (fold_expr a s x y b) p p' k o =
      let i = and_second (only_moves a) (only_moves s && only_moves b) o in
      ap₂ (gather (gathering b x y p')) (moved_value s p p' k (and_first (only_moves s) (only_moves b) i)) (moved_value a p p' k (and_first (only_moves a) (only_moves s && only_moves b) o))
      ∙ gather_goes (gathering b x y p) (gathering b x y p')
      (λ u v. moved_value b (put y v (put x u p)) (put y (exchanged_value f v) (put x (exchanged_value f u) p'))
      (along_put (exchanged_value f) y v (exchanged_value f v) _ _ refl (along_put (exchanged_value f) x u (exchanged_value f u) p p' refl k)) (and_second (only_moves s) (only_moves b) i)) (value s p) (value a p)

pub moves_commute : MovesCommute
moves_commute f m p o = moved_value f m p (exchanged_past f p) (record { at = λ x. refl }) o
