-- Other numbers in a list and in a star, item by item.
use Rattle.std.proofs.Common.{◌≡◌, ℤ, List, [], ◌∷◌, map, refl, ap}
use Rattle.stream_prefix.specs.StreamPrefix.{StreamPrefix, star_rest}
use Rattle.stream_prefix.specs.Tree.{star_of}
use Rattle.stream_prefix.proofs.Rows.{row_of-hidden as prefixes_of-hidden}
use Rattle.hist_value.specs.HistValue.{HistValue, item_before, list_of}
use Rattle.hist_value.proofs.Rows.{row_of-hidden as values_of-hidden}
use Rattle.other_numbers.specs.Numbers.{exchanged, exchanged_value}

-- a list
pub exchanged_value-list_of : (f : ℤ → ℤ) (vs : List HistValue) → exchanged_value f (list_of vs) ≡ list_of (map (exchanged_value f) vs)
exchanged_value-list_of f [] = refl
exchanged_value-list_of f (v ∷ vs) = ap (λ w. item_before (exchanged_value f v) w) (exchanged_value-list_of f vs)

-- a star
pub exchanged-star_of : (f : ℤ → ℤ) (ps : List StreamPrefix) (q : StreamPrefix) → exchanged f (star_of ps q) ≡ star_of (map (exchanged f) ps) (exchanged f q)
exchanged-star_of f [] q = refl
exchanged-star_of f (p ∷ ps) q = ap (λ r. star_rest (exchanged f p) r) (exchanged-star_of f ps q)

-- for functions over the trees
pub ruleset rows = (prefixes_of-hidden, values_of-hidden, exchanged_value-list_of, exchanged-star_of)
