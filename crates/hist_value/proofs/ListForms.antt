-- A list is no pair, no number and no sum's value.
use Rattle.std.proofs.Common.{◌≡◌, ℤ, List, [], ◌∷◌, refl}
use Rattle.hist_value.specs.declared.expr.Op.{Op}
use Rattle.hist_value.specs.HistValue.{HistValue, unit_value, number, item_before, list_of}
use Rattle.hist_value.specs.Evaluate.{reckon_values, first_of, second_of, choose, cons_of}
use Rattle.hist_value.proofs.Rows.{row_of-hidden}

pub first_of-list_of : (vs : List HistValue) → first_of (list_of vs) ≡ unit_value
first_of-list_of [] = refl
first_of-list_of (v ∷ vs) = refl

pub second_of-list_of : (vs : List HistValue) → second_of (list_of vs) ≡ unit_value
second_of-list_of [] = refl
second_of-list_of (v ∷ vs) = refl

pub choose-list_of : (f g : HistValue → HistValue) (vs : List HistValue) → choose f g (list_of vs) ≡ unit_value
choose-list_of f g [] = refl
choose-list_of f g (v ∷ vs) = refl

pub reckon_values-first_list : (o : Op) (vs : List HistValue) (w : HistValue) → reckon_values o (list_of vs) w ≡ unit_value
reckon_values-first_list o [] w = refl
reckon_values-first_list o (v ∷ vs) w = refl

pub reckon_values-second_list : (o : Op) (a : ℤ) (vs : List HistValue) → reckon_values o (number a) (list_of vs) ≡ unit_value
reckon_values-second_list o a [] = refl
reckon_values-second_list o a (v ∷ vs) = refl

-- an item may stand in front of a list
pub cons_of-list_of : (v : HistValue) (vs : List HistValue) → cons_of v (list_of vs) ≡ item_before v (list_of vs)
cons_of-list_of v [] = refl
cons_of-list_of v (w ∷ vs) = refl

-- for functions that ask for the form of a value
pub ruleset list_forms = (row_of-hidden, first_of-list_of, second_of-list_of, choose-list_of, reckon_values-first_list, reckon_values-second_list, cons_of-list_of)
