-- What the trees of stars stand for: their items as a list, and their ends.
use mathlib.Core.Former.{Count}
use Rattle.std.proofs.Common.{◌≡◌, Bool, true, false, ◌&&◌, ◌↔◌, List, [], ◌∷◌, map, refl, ap, ◌∙◌}
use Rattle.std.proofs.Math.Bool.{and_assoc}
use Rattle.std.specs.declared.vec.Vec.{Vec}
use Rattle.std.specs.declared.alloc.Global.{Global}
use Rattle.stream_prefix.specs.declared.prefix.Prefix.{Prefix, Row_of-Prefix, end_of-Prefix, more_of-Prefix, items-the_row-Prefix, items_hidden-the_row-Prefix-0}
use Rattle.stream_prefix.specs.declared.prefix.Prefix.TheBlock.{hidden-the_row-Prefix-0}
use Rattle.stream_prefix.specs.declared.prefix.Prefix.TheVariants.{Star}
use Rattle.stream_prefix.specs.declared.prefix.StarEnd.{StarEnd}
use Rattle.stream_prefix.specs.declared.prefix.StarEnd.TheVariants.{Emp, Done, First'}
use Rattle.stream_prefix.specs.StreamPrefix.{StreamPrefix, star_done, is_maximal, der, IsPrefix}
use Rattle.stream_type.specs.StreamType.{StreamType, star}
use Rattle.stream_prefix.specs.Tree.{prefix_of, row_of, end_of, star_of}

-- what a row of trees stands for, item by item
row_of-list : (m : Count) (k : Row_of-Prefix m) → row_of k ≡ map prefix_of (items-the_row-Prefix m k)
row_of-list m end_of-Prefix = refl
row_of-list m (more_of-Prefix p k) = cc (row_of-list _ k)

-- what a star's items stand for
pub row_of-hidden : (v : Vec Prefix Global) → row_of (hidden-the_row-Prefix-0 v) ≡ map prefix_of v.items
row_of-hidden v = row_of-list _ (hidden-the_row-Prefix-0 v) ∙ ap (map prefix_of) (items_hidden-the_row-Prefix-0 v)

-- what a star stands for
pub prefix_of-star : (v : Vec Prefix Global) (e : StarEnd) → prefix_of (Star v e) ≡ star_of (map prefix_of v.items) (end_of e)
prefix_of-star v e = ap (λ ps. star_of ps (end_of e)) (row_of-hidden v)

-- a star is maximal where its whole items and its end are
pub is_maximal-star_of : (ps : List StreamPrefix) (e : StreamPrefix) → is_maximal (star_of ps e) ≡ (is_maximal (star_of ps star_done) && is_maximal e)
is_maximal-star_of [] e = refl
is_maximal-star_of (p ∷ ps) e = rw (is_maximal-star_of ps e, ← (and_assoc (is_maximal p) (is_maximal (star_of ps star_done)) (is_maximal e)))

-- what isn't so isn't so beside anything
pub no_second : (a b : Bool) → b ≡ false → (a && b) ≡ false
no_second true b e = e
no_second false b e = refl

-- a star is a prefix where its whole items and its end are
pub IsPrefix-star_of : (s : StreamType) (ps : List StreamPrefix) (e : StreamPrefix) → (IsPrefix (star s) (star_of ps star_done) × IsPrefix (star s) e) ↔ IsPrefix (star s) (star_of ps e)
IsPrefix-star_of s [] e = (λ h. h.1, λ h. (tt, h))
IsPrefix-star_of s (p ∷ ps) e =
    let ih = IsPrefix-star_of s ps e in
    (λ h. (h.0.0, h.0.1, ih.0 (h.0.2, h.1)), λ h. let m = ih.1 h.2 in ((h.0, h.1, m.0), m.1))

-- whether it is a type of lists
abbrev pub is_star : StreamType → Bool
is_star (star s) = true
is_star _ = false

-- a star is no prefix of any other type
pub IsPrefix-off_star : (s : StreamType) (ps : List StreamPrefix) (e : StarEnd) → is_star s ≡ false → IsPrefix s (star_of ps (end_of e)) → ⊥
IsPrefix-off_star (star s) ps e h k = absurd (cc h)
IsPrefix-off_star _ [] Emp h k = k
IsPrefix-off_star _ [] Done h k = k
IsPrefix-off_star _ [] (First' x p) h k = k
IsPrefix-off_star _ (p ∷ ps) e h k = k

-- what a star leaves depends on its end alone
pub der-star_of : (ps : List StreamPrefix) (e : StreamPrefix) (s : StreamType) → der (star_of ps e) s ≡ der e s
der-star_of [] e s = refl
der-star_of (p ∷ ps) e s = der-star_of ps e s

-- the end of a star that is a prefix is one too
pub IsPrefix-end : (s : StreamType) (ps : List StreamPrefix) (e : StreamPrefix) → IsPrefix (star s) (star_of ps e) → IsPrefix (star s) e
IsPrefix-end s [] e h = h
IsPrefix-end s (p ∷ ps) e h = IsPrefix-end s ps e h.2

-- for functions over the trees, here and in the crates above
pub ruleset rows = (der-star_of, IsPrefix-end, row_of-hidden, is_maximal-star_of, IsPrefix-star_of, IsPrefix-off_star)
