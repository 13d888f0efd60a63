-- When the value of an expression goes along with a change of numbers.
use Rattle.std.specs.Prelude.{ℤ, ◌≡◌, Bool, true, false, ◌&&◌, List}
use Rattle.std.specs.List.{All}
use Rattle.hist_value.specs.HistExpr.{HistExpr, variable, literal, unit_expr, reckoned, pair_expr, first_expr, second_expr, left_expr, right_expr, choice, nil_expr, cons_expr, fold_expr}
use Rattle.hist_value.specs.Evaluate.{value}
use Rattle.other_numbers.specs.Numbers.{exchanged_value, exchanged_past}
use Rattle.other_numbers.specs.Asked.{Asked}

module _ (f : ℤ → ℤ) where
  -- the same expression at the other numbers
  abbrev pub exchanged_asked : Asked → Asked
  exchanged_asked a = record { expr = a.expr; past = exchanged_past f a.past }

  -- the value there is the one that it had, with the other numbers in it
  abbrev pub Commutes : Asked → Type 0
  Commutes a = value a.expr (exchanged_past f a.past) ≡ exchanged_value f (value a.expr a.past)

  -- this holds of all that is asked
  abbrev pub AllCommute : List Asked → Type 0
  AllCommute as' = All Commutes as'

-- whether an expression only moves numbers about: it has no literal, and reckons nothing
abbrev pub only_moves : HistExpr → Bool
only_moves (variable x) = true
only_moves (literal n) = false
only_moves unit_expr = true
only_moves (reckoned o a b) = false
only_moves (pair_expr a b) = only_moves a && only_moves b
only_moves (first_expr a) = only_moves a
only_moves (second_expr a) = only_moves a
only_moves (left_expr a) = only_moves a
only_moves (right_expr a) = only_moves a
only_moves (choice a x b y c) = only_moves a && (only_moves b && only_moves c)
only_moves nil_expr = true
only_moves (cons_expr a b) = only_moves a && only_moves b
only_moves (fold_expr a s x y b) = only_moves a && (only_moves s && only_moves b)
