-- Lists of variables joined.
use Rattle.std.proofs.Common.{◌≡◌, ℕ, ◌+◌, List, [], ◌∷◌, ◌++◌, length, Option, map, option_map, refl, ap, length-append, append_assoc}
use Rattle.bunch.specs.declared.name.Name.{Name}
use Rattle.bunch.specs.Names.{number_of}
use Rattle.delta_elab.specs.Numbering.{origins_of}

pub origins_of-append : (xs ys : List (Option Name)) → origins_of (xs ++ ys) ≡ origins_of xs ++ origins_of ys
origins_of-append [] ys = refl
origins_of-append (x ∷ xs) ys = ap (λ l. option_map number_of x ∷ l) (origins_of-append xs ys)

pub length-origins_of : (xs : List (Option Name)) → length (origins_of xs) ≡ length xs
length-origins_of [] = refl
length-origins_of (x ∷ xs) = cc (length-origins_of xs)

pub ruleset origin_lists = (origins_of-append, length-origins_of, length-append, append_assoc)
