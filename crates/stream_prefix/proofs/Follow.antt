-- That what comes after a prefix fits it, part by part, and what a join is where nothing fits.
use Rattle.std.proofs.Common.{◌≡◌, List, [], ◌∷◌, ◌++◌, refl, ap}
use Rattle.std.specs.Prelude.{IsTrue}
use Rattle.std.specs.declared.boxed.Box.{Box}
use Rattle.std.specs.declared.alloc.Global.{Global}
use Rattle.stream_prefix.specs.declared.prefix.Prefix.{Prefix}
use Rattle.stream_prefix.specs.declared.prefix.Prefix.TheVariants.{Par, Par', CatFst, CatFst', CatBoth, CatBoth', Star, Star'}
use Rattle.stream_prefix.specs.declared.prefix.Prefix.TheBlock.{hidden-the_row-Prefix-0}
use Rattle.std.specs.declared.vec.Vec.{Vec}
use Rattle.stream_type.specs.StreamType.{StreamType, star}
use Rattle.stream_prefix.specs.declared.prefix.StarEnd.{StarEnd}
use Rattle.stream_prefix.specs.declared.prefix.StarEnd.TheVariants.{Emp, Done, First'}
use Rattle.stream_prefix.proofs.Derivations.{derives, Derives, eps_has_emp, one_has_emp, one_has_full, int_has_emp, int_has_full, par_has_both, cat_has_fst, cat_has_both, sum_has_emp, sum_has_left, sum_has_right, star_has_emp, star_has_done, star_has_first, star_has_rest}
use Rattle.stream_prefix.specs.StreamPrefix.{StreamPrefix, par_both, cat_fst, star_first, star_rest, Follows, follows, join, der}
use Rattle.stream_prefix.specs.Fit.{Fits, is_of_star}
use Rattle.stream_prefix.specs.Tree.{prefix_of, row_of, star_of, end_of}
use Rattle.stream_prefix.proofs.Rows.{row_of-hidden}

-- a prefix of a star has the form of one
of_star : {s : _} {q : StreamPrefix} → Derives (star s) q → IsTrue (is_of_star q)
of_star star_has_emp = refl
of_star star_has_done = refl
of_star (star_has_first h) = refl
of_star (star_has_rest h m k) = refl

-- what comes after a prefix fits it
fits : {s : StreamType} {p q : StreamPrefix} → Derives s p → Derives (der p s) q → Fits p q
fits eps_has_emp k = tt
fits one_has_emp k = tt
fits one_has_full k = tt
fits int_has_emp k = tt
fits int_has_full k = tt
fits (par_has_both h1 h2) (par_has_both k1 k2) = (fits h1 k1, fits h2 k2)
fits (cat_has_fst h) (cat_has_fst k) = fits h k
fits (cat_has_fst h) (cat_has_both k m k2) = fits h k
fits (cat_has_both h m h2) k = fits h2 k
fits sum_has_emp k = tt
fits (sum_has_left h) k = fits h k
fits (sum_has_right h) k = fits h k
fits star_has_emp k = of_star k
fits star_has_done k = tt
fits (star_has_first h) (cat_has_fst k) = fits h k
fits (star_has_first h) (cat_has_both k m k2) = (fits h k, of_star k2)
fits (star_has_rest h m h2) k = fits h2 k

-- the same without its type
pub fits_from_follows : {p q : StreamPrefix} → Follows p q → Fits p q
fits_from_follows (follows s {p = p} {q = q} h k) = fits (derives s p h) (derives (der p s) q k)

-- what fits a star fits its end
fits_star_of : (ps : List StreamPrefix) (e r : StreamPrefix) → Fits (star_of ps e) r → Fits e r
fits_star_of [] e r h = h
fits_star_of (p ∷ ps) e r h = fits_star_of ps e r h

-- the same for a tree
pub fits_end : (v : Vec Prefix Global) (e : StarEnd) (r : StreamPrefix) → Fits (prefix_of (Star v e)) r → Fits (end_of e) r
fits_end v e r h = fits_star_of (row_of (hidden-the_row-Prefix-0 v)) (end_of e) r h

-- what comes after a star comes after its end
pub join-star_of : (ps : List StreamPrefix) (e r : StreamPrefix) → join (star_of ps e) r ≡ star_of ps (join e r)
join-star_of [] e r = refl
join-star_of (p ∷ ps) e r = ap (star_rest p) (join-star_of ps e r)

-- a tree in a box
abbrev Boxed : Type 0
Boxed = Box Prefix Global

-- where the second tree does not fit the first, the join is the first
pub join-par_off : (a b : StreamPrefix) (q : Prefix) → ((x y : Boxed) → q ≡ Par x y → ⊥) → join (par_both a b) (prefix_of q) ≡ par_both a b
join-par_off a b (Par' x p y q) h = absurd (h record { ptr = x.ptr; alloc = x.alloc; value = p } record { ptr = y.ptr; alloc = y.alloc; value = q } refl)
join-par_off a b (Star' x row e) h = off (row_of row) e
  where
    off : (ps : List StreamPrefix) (e : StarEnd) → join (par_both a b) (star_of ps (end_of e)) ≡ par_both a b
    off [] Emp = refl
    off [] Done = refl
    off [] (First' x r) = refl
    off (r ∷ ps) e = refl
join-par_off a b _ h = refl

pub join-cat_off : (a : StreamPrefix) (q : Prefix) → ((x : Boxed) → q ≡ CatFst x → ⊥) → ((x y : Boxed) → q ≡ CatBoth x y → ⊥) → join (cat_fst a) (prefix_of q) ≡ cat_fst a
join-cat_off a (CatFst' x p) h k = absurd (h record { ptr = x.ptr; alloc = x.alloc; value = p } refl)
join-cat_off a (CatBoth' x p y q) h k = absurd (k record { ptr = x.ptr; alloc = x.alloc; value = p } record { ptr = y.ptr; alloc = y.alloc; value = q } refl)
join-cat_off a (Star' x row e) h k = off (row_of row) e
  where
    off : (ps : List StreamPrefix) (e : StarEnd) → join (cat_fst a) (star_of ps (end_of e)) ≡ cat_fst a
    off [] Emp = refl
    off [] Done = refl
    off [] (First' x r) = refl
    off (r ∷ ps) e = refl
join-cat_off a _ h k = refl

pub join-first_off : (a : StreamPrefix) (q : Prefix) → ((x : Boxed) → q ≡ CatFst x → ⊥) → ((x y : Boxed) → q ≡ CatBoth x y → ⊥) → join (star_first a) (prefix_of q) ≡ star_first a
join-first_off a (CatFst' x p) h k = absurd (h record { ptr = x.ptr; alloc = x.alloc; value = p } refl)
join-first_off a (CatBoth' x p y q) h k = absurd (k record { ptr = x.ptr; alloc = x.alloc; value = p } record { ptr = y.ptr; alloc = y.alloc; value = q } refl)
join-first_off a (Star' x row e) h k = off (row_of row) e
  where
    off : (ps : List StreamPrefix) (e : StarEnd) → join (star_first a) (star_of ps (end_of e)) ≡ star_first a
    off [] Emp = refl
    off [] Done = refl
    off [] (First' x r) = refl
    off (r ∷ ps) e = refl
join-first_off a _ h k = refl

-- items before items
pub star_of-append : (ps qs : List StreamPrefix) (e : StreamPrefix) → star_of (ps ++ qs) e ≡ star_of ps (star_of qs e)
star_of-append [] qs e = refl
star_of-append (p ∷ ps) qs e = ap (star_rest p) (star_of-append ps qs e)

-- for the functions that join trees
pub ruleset follow = (row_of-hidden, join-star_of, join-par_off, join-cat_off, join-first_off, star_of-append)
