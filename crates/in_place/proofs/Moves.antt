-- What is left of types, and what prefixes of stars join to: rules for the functions that change them in place.
use Rattle.std.proofs.Common.{◌≡◌, List, [], ◌∷◌, ◌++◌, map, refl, ap}
use Rattle.stream_prefix.specs.declared.prefix.Prefix.{Prefix}
use Rattle.stream_prefix.specs.StreamPrefix.{StreamPrefix, star_rest}
use Rattle.stream_prefix.specs.Tree.{prefix_of, star_of}
use Rattle.stream_prefix.proofs.Joins.{der-emp}
use Rattle.stream_prefix.proofs.Rows.{der-star_of, row_of-hidden}
use Rattle.stream_prefix.proofs.Follow.{join-star_of, star_of-append}

-- an item behind items
pub item_pushed : (v : List Prefix) (x : Prefix) (e : StreamPrefix) → star_of (map prefix_of (v ++ x ∷ [])) e ≡ star_of (map prefix_of v) (star_rest (prefix_of x) e)
item_pushed [] x e = refl
item_pushed (y ∷ v) x e = ap (star_rest (prefix_of y)) (item_pushed v x e)

pub ruleset moves = (der-emp, der-star_of, row_of-hidden)

pub ruleset joins = (row_of-hidden, join-star_of, star_of-append, item_pushed)
