-- Lists are as long as what they are made from.
use Rattle.std.proofs.Common.{◌≡◌, suc, arith, List, [], ◌∷◌, length, map, refl, ap}
use Rattle.core_term.specs.CoreTerm.{CoreTerm, terms_from, term_count}

pub length_map : {A B : Type 0} (f : A → B) (xs : List A) → length (map f xs) ≡ length xs
length_map f [] = refl
length_map f (x ∷ xs) = ap suc (length_map f xs)

pub term_count-list : {A : Type 0} (f : A → CoreTerm) (xs : List A) → term_count (terms_from (map f xs)) ≡ length xs
term_count-list f [] = refl
term_count-list f (x ∷ xs) = let e = term_count-list f xs in omega arith

pub ruleset counts = (length_map, term_count-list)
