-- What is left of what was left of a bunch: the types and marks that p leaves there are a place of the bunch again.
use Rattle.std.proofs.Common.{◌≡◌, ◌∙◌, ◌≤◌, ◌+◌, ◌-◌, ℕ, suc, Bool, true, false, ⊎_elim, List, [], ◌∷◌, ◌++◌, length, map, take, drop, cond, ap, ap₂, refl, subst, sym, arith, length-append, length-drop, length-take-le}
use Rattle.std.proofs.Math.Seq.{take-append_seam, drop-append_seam}
use Rattle.stream_type.specs.StreamType.{StreamType, eps, null_of}
use Rattle.stream_prefix.specs.StreamPrefix.{StreamPrefix, emp, is_maximal, der}
use Rattle.stream_prefix.proofs.Derivations.{Derives, eps_has_emp, par_has_both, cat_has_fst, cat_has_both}
use Rattle.stream_prefix.proofs.Joins.{der-emp, null_of-der}
use Rattle.stream_prefix.proofs.MaximalPrefixes.{null_is_maximal}
use Rattle.bunch.specs.Names.{holds}
use Rattle.bunch.specs.BunchTree.{BunchTree, empty, leaf, comma, semi, IsDistinct, as_type, leaf_names}
use Rattle.bunch.proofs.Tables.{value_at-map, value_at-none}
use Rattle.core_term.specs.Environment.{Environment, NameTypes, by_side, empty_at, left_at}
use Rattle.core_term.specs.Agreement.{types_in}
use Rattle.core_term.specs.Split.{split, split_after}
use Rattle.core_term.proofs.Retyping.{Among}
use Rattle.core_term.proofs.Sides.{by_left, by_right, holds-left, holds-right}
use Rattle.core_term.proofs.Splits.{split_whole}
use Rattle.delta_state.specs.PlaceTree.{cuts_of}
use Rattle.kept_state.specs.KeptPlace.{semi_count, types_left, first_cuts, second_cuts, rest_bunch, IsUncut, IsPlace, split_rest, split_rest_after}
use Rattle.kept_state.specs.KeptSince.{cuts_since}
use Rattle.kept_state.proofs.RestBunches.{outside, rest_types, rest_names, rest_distinct, left_or_over}
use Rattle.kept_state.proofs.RestSplits.{rest_derives, split_left, left_same}
use Rattle.kept_state.proofs.InputPlaces.{first_of_cuts, second_of_cuts, not_left, sides_of_rest, empty_by_side, input_rest, input_split}

-- of the marks of a part and n more, as many are the part's as it has semicolons,
pub first_length : (a : BunchTree) (n : ℕ) (cuts : List Bool) → length cuts ≡ semi_count a + n → length (first_cuts a cuts) ≡ semi_count a
first_length a n cuts e = length-take-le (semi_count a) cuts (let l : semi_count a ≤ length cuts = omega (arith, e) in l)

-- and n are the others
pub second_length : (a : BunchTree) (n : ℕ) (cuts : List Bool) → length cuts ≡ semi_count a + n → length (second_cuts a cuts) ≡ n
second_length a n cuts e = length-drop (semi_count a) cuts ∙ (let l : length cuts - semi_count a ≡ n = omega (arith, e) in l)

-- behind a first mark there is one less
tail_length : (c : Bool) (n : ℕ) (cuts : List Bool) → length (c ∷ cuts) ≡ suc n → length cuts ≡ n
tail_length c n cuts e = omega (arith, e)

-- where a part has as many marks as semicolons, they are the first of these and others,
first_seam : (a : BunchTree) (cs ds : List Bool) → length cs ≡ semi_count a → first_cuts a (cs ++ ds) ≡ cs
first_seam a cs ds e = ap (λ n. take n (cs ++ ds)) (sym e) ∙ take-append_seam cs ds

-- and the others are the second
second_seam : (a : BunchTree) (cs ds : List Bool) → length cs ≡ semi_count a → second_cuts a (cs ++ ds) ≡ ds
second_seam a cs ds e = ap (λ n. drop n (cs ++ ds)) (sym e) ∙ drop-append_seam cs ds

-- two lists of marks in a row are as long as both parts need
both_length : (m n : ℕ) (cs ds : List Bool) → length cs ≡ m → length ds ≡ n → length (cs ++ ds) ≡ m + n
both_length m n cs ds e f = length-append cs ds ∙ ap₂ ◌+◌ e f

-- once p has come there are as many marks as before
pub since_length : (b : BunchTree) (T : NameTypes) (cuts : List Bool) {p : StreamPrefix} → length cuts ≡ semi_count b → Derives (as_type (rest_bunch b T cuts)) p → length (cuts_since b cuts p) ≡ semi_count b
since_length empty T cuts n h = n
since_length (leaf x t) T cuts n h = n
since_length (comma a b) T cuts n (par_has_both {p = p} {q = q} h i) =
    let ca = first_cuts a cuts in
    let cb = second_cuts a cuts in
    both_length (semi_count a) (semi_count b) (cuts_since a ca p) (cuts_since b cb q) (since_length a T ca (first_length a (semi_count b) cuts n) h) (since_length b T cb (second_length a (semi_count b) cuts n) i)
since_length (semi a b) T [] n eps_has_emp = n
since_length (semi a b) T (true ∷ cuts) {p = p} n h =
    let m = tail_length true (semi_count a + semi_count b) cuts n in
    let ca = first_cuts a cuts in
    let cb = second_cuts a cuts in
    ap suc (both_length (semi_count a) (semi_count b) ca (cuts_since b cb p) (first_length a (semi_count b) cuts m) (since_length b T cb (second_length a (semi_count b) cuts m) h))
since_length (semi a b) T (false ∷ cuts) n (cat_has_fst {p = p} h) =
    let m = tail_length false (semi_count a + semi_count b) cuts n in
    let ca = first_cuts a cuts in
    let cb = second_cuts a cuts in
    ap suc (both_length (semi_count a) (semi_count b) (cuts_since a ca p) cb (since_length a T ca (first_length a (semi_count b) cuts m) h) (second_length a (semi_count b) cuts m))
since_length (semi a b) T (false ∷ cuts) n (cat_has_both {p = p} {q = q} h o i) =
    let m = tail_length false (semi_count a + semi_count b) cuts n in
    let ca = first_cuts a cuts in
    let cb = second_cuts a cuts in
    ap suc (both_length (semi_count a) (semi_count b) (cuts_since a ca p) (cuts_since b cb q) (since_length a T ca (first_length a (semi_count b) cuts m) h) (since_length b T cb (second_length a (semi_count b) cuts m) i))

-- what is left over the types U, where these marks had come, is what is left over U of what was left, nothing having
-- come since
rest_nothing : (b : BunchTree) (T U : NameTypes) (cuts : List Bool) → rest_bunch b U cuts ≡ rest_bunch (rest_bunch b T cuts) U (cuts_of (rest_bunch b T cuts) (emp (as_type (rest_bunch b T cuts))))
rest_nothing empty T U cuts = refl
rest_nothing (leaf x t) T U cuts = refl
rest_nothing (comma a b) T U cuts =
    let A = rest_bunch a T (first_cuts a cuts) in
    let B = rest_bunch b T (second_cuts a cuts) in
    let eb = cuts_of B (emp (as_type B)) in
    ap₂ comma (rest_nothing a T U (first_cuts a cuts) ∙ ap (rest_bunch A U) (sym (first_of_cuts A (emp (as_type A)) eb)))
    (rest_nothing b T U (second_cuts a cuts) ∙ ap (rest_bunch B U) (sym (second_of_cuts A (emp (as_type A)) eb)))
rest_nothing (semi a b) T U [] = refl
rest_nothing (semi a b) T U (true ∷ cuts) = rest_nothing b T U (second_cuts a cuts)
rest_nothing (semi a b) T U (false ∷ cuts) =
    let A = rest_bunch a T (first_cuts a cuts) in
    let B = rest_bunch b T (second_cuts a cuts) in
    let eb = cuts_of B (emp (as_type B)) in
    ap₂ semi (rest_nothing a T U (first_cuts a cuts) ∙ ap (rest_bunch A U) (sym (first_of_cuts A (emp (as_type A)) eb)))
    (rest_nothing b T U (second_cuts a cuts) ∙ ap (rest_bunch B U) (sym (second_of_cuts A (emp (as_type A)) eb)))

-- and where p has come since, it is what p leaves over U of what was left
pub rest_again : (b : BunchTree) (T U : NameTypes) (cuts : List Bool) {p : StreamPrefix} → length cuts ≡ semi_count b → Derives (as_type (rest_bunch b T cuts)) p
    → rest_bunch b U (cuts_since b cuts p) ≡ rest_bunch (rest_bunch b T cuts) U (cuts_of (rest_bunch b T cuts) p)
rest_again empty T U cuts n h = refl
rest_again (leaf x t) T U cuts n h = refl
rest_again (comma a b) T U cuts n (par_has_both {p = p} {q = q} h i) =
    let ca = first_cuts a cuts in
    let cb = second_cuts a cuts in
    let A = rest_bunch a T ca in
    let B = rest_bunch b T cb in
    let na = first_length a (semi_count b) cuts n in
    let nb = second_length a (semi_count b) cuts n in
    let l = since_length a T ca na h in
    ap₂ comma (ap (rest_bunch a U) (first_seam a (cuts_since a ca p) (cuts_since b cb q) l) ∙ (rest_again a T U ca na h ∙ ap (rest_bunch A U) (sym (first_of_cuts A p (cuts_of B q)))))
    (ap (rest_bunch b U) (second_seam a (cuts_since a ca p) (cuts_since b cb q) l) ∙ (rest_again b T U cb nb i ∙ ap (rest_bunch B U) (sym (second_of_cuts A p (cuts_of B q)))))
rest_again (semi a b) T U [] n eps_has_emp = refl
rest_again (semi a b) T U (true ∷ cuts) {p = p} n h =
    let m = tail_length true (semi_count a + semi_count b) cuts n in
    let ca = first_cuts a cuts in
    let cb = second_cuts a cuts in
    ap (rest_bunch b U) (second_seam a ca (cuts_since b cb p) (first_length a (semi_count b) cuts m)) ∙ rest_again b T U cb (second_length a (semi_count b) cuts m) h
rest_again (semi a b) T U (false ∷ cuts) n (cat_has_fst {p = p} h) =
    let m = tail_length false (semi_count a + semi_count b) cuts n in
    let ca = first_cuts a cuts in
    let cb = second_cuts a cuts in
    let A = rest_bunch a T ca in
    let B = rest_bunch b T cb in
    let eb = cuts_of B (emp (as_type B)) in
    let na = first_length a (semi_count b) cuts m in
    let l = since_length a T ca na h in
    ap₂ semi (ap (rest_bunch a U) (first_seam a (cuts_since a ca p) cb l) ∙ (rest_again a T U ca na h ∙ ap (rest_bunch A U) (sym (first_of_cuts A p eb))))
    (ap (rest_bunch b U) (second_seam a (cuts_since a ca p) cb l) ∙ (rest_nothing b T U cb ∙ ap (rest_bunch B U) (sym (second_of_cuts A p eb))))
rest_again (semi a b) T U (false ∷ cuts) n (cat_has_both {p = p} {q = q} h o i) =
    let m = tail_length false (semi_count a + semi_count b) cuts n in
    let ca = first_cuts a cuts in
    let cb = second_cuts a cuts in
    let A = rest_bunch a T ca in
    let B = rest_bunch b T cb in
    let l = since_length a T ca (first_length a (semi_count b) cuts m) h in
    ap (rest_bunch b U) (second_seam a (cuts_since a ca p) (cuts_since b cb q) l)
    ∙ (rest_again b T U cb (second_length a (semi_count b) cuts m) i ∙ ap (rest_bunch B U) (sym (second_of_cuts A p (cuts_of B q))))

-- a bunch of which nothing has begun is at a place
untouched_place : (b : BunchTree) (T : NameTypes) (cuts : List Bool) → IsDistinct b → ((x : ℕ) → holds x (leaf_names b) ≡ true → T x ≡ types_in b x) → IsUncut b cuts → IsPlace b T cuts
untouched_place empty T cuts d f u = tt
untouched_place (leaf y t) T cuts d f u = tt
untouched_place (comma a b) T cuts d f u = (
  untouched_place a T (first_cuts a cuts) d.0 (λ x m. f x (holds-left x (leaf_names a) (leaf_names b) m) ∙ by_left (leaf_names a) (types_in a) (types_in b) x m) u.0,
  untouched_place b T (second_cuts a cuts) d.1 (λ x m. f x (holds-right x (leaf_names a) (leaf_names b) m) ∙ by_right (leaf_names a) (types_in a) (types_in b) x (d.2 x m)) u.1,
)
untouched_place (semi a b) T [] d f u = absurd u
untouched_place (semi a b) T (true ∷ cuts) d f u = absurd u
untouched_place (semi a b) T (false ∷ cuts) d f u = (
  untouched_place a T (first_cuts a cuts) d.0 (λ x m. f x (holds-left x (leaf_names a) (leaf_names b) m) ∙ by_left (leaf_names a) (types_in a) (types_in b) x m) u.0,
  record {
    are_declared = λ x m. f x (holds-right x (leaf_names a) (leaf_names b) m) ∙ by_right (leaf_names a) (types_in a) (types_in b) x (d.2 x m);
    are_uncut = u.1;
  },
)

-- types that are the same at the names of a bunch are at the same places of it
place_same : (b : BunchTree) (T U : NameTypes) (cuts : List Bool) → ((x : ℕ) → holds x (leaf_names b) ≡ true → U x ≡ T x) → IsPlace b T cuts → IsPlace b U cuts
place_same empty T U cuts f p = tt
place_same (leaf y t) T U cuts f p = tt
place_same (comma a b) T U cuts f p = (
  place_same a T U (first_cuts a cuts) (λ x m. f x (holds-left x (leaf_names a) (leaf_names b) m)) p.0,
  place_same b T U (second_cuts a cuts) (λ x m. f x (holds-right x (leaf_names a) (leaf_names b) m)) p.1,
)
place_same (semi a b) T U [] f p = p
place_same (semi a b) T U (true ∷ cuts) f p = (
  λ x m. ap null_of (f x (holds-left x (leaf_names a) (leaf_names b) m)) ∙ p.0 x m,
  place_same a T U (first_cuts a cuts) (λ x m. f x (holds-left x (leaf_names a) (leaf_names b) m)) p.1,
  place_same b T U (second_cuts a cuts) (λ x m. f x (holds-right x (leaf_names a) (leaf_names b) m)) p.2,
)
place_same (semi a b) T U (false ∷ cuts) f p = (
  place_same a T U (first_cuts a cuts) (λ x m. f x (holds-left x (leaf_names a) (leaf_names b) m)) p.0,
  record { are_declared = λ x m. f x (holds-right x (leaf_names a) (leaf_names b) m) ∙ p.1.are_declared x m; are_uncut = p.1.are_uncut },
)

-- where all that was left of a bunch has come, the stream of each of its names is whole
whole_rest : (b : BunchTree) (T : NameTypes) (cuts : List Bool) {p : StreamPrefix} → IsPlace b T cuts → Derives (as_type (rest_bunch b T cuts)) p → is_maximal p ≡ true → (x : ℕ) → holds x (leaf_names b) ≡ true → is_maximal (split_rest b T cuts p x) ≡ true
whole_rest b T cuts {p = p} place h m x n =
    ⊎_elim (λ k. null_is_maximal (rest_derives b T cuts h x) k) (λ k. ap is_maximal (split_left b T cuts p x k) ∙ split_whole (rest_bunch b T cuts) h m x) (left_or_over b T cuts x place n)

-- in U each name of a bunch has the type that p leaves, where these types of T were left and these marks had come
pub record LeftSince (b : BunchTree) (T U : NameTypes) (cuts : List Bool) (p : StreamPrefix) : Type 0 where
  pub at : (x : ℕ) → holds x (leaf_names b) ≡ true → U x ≡ left_at (split_rest b T cuts p) T x

-- of what two parts have, where each name of a that is left has its part of f, each of b its part of g, and any other
-- nothing: u is what the names of a have so, and v is what those of b have
module _ (a b : BunchTree) (apart : (x : ℕ) → holds x (leaf_names b) ≡ true → holds x (leaf_names a) ≡ false) {xs ys : List ℕ} (i : Among xs (leaf_names a)) (j : Among ys (leaf_names b)) (T U : NameTypes) (f g u v : Environment)
    (h : (x : ℕ) → holds x (leaf_names a) ≡ true → by_side xs f (empty_at T) x ≡ u x) (k : (x : ℕ) → holds x (leaf_names b) ≡ true → by_side ys g (empty_at T) x ≡ v x)
    (l : (x : ℕ) → holds x (leaf_names a ++ leaf_names b) ≡ true → U x ≡ left_at (by_side (xs ++ ys) (by_side xs f g) (empty_at T)) T x) where
  -- the first part has what u leaves,
  since_first : (x : ℕ) → holds x (leaf_names a) ≡ true → U x ≡ left_at u T x
  since_first x m =
      let n = holds-left x (leaf_names a) (leaf_names b) m in
      l x n ∙ ap (λ w. der w (T x)) (sides_of_rest a b apart i j T f g u v h k x n ∙ by_left (leaf_names a) u v x m)

  -- and the second what v leaves
  since_second : (x : ℕ) → holds x (leaf_names b) ≡ true → U x ≡ left_at v T x
  since_second x m =
      let n = holds-right x (leaf_names a) (leaf_names b) m in
      l x n ∙ ap (λ w. der w (T x)) (sides_of_rest a b apart i j T f g u v h k x n ∙ by_right (leaf_names a) u v x (apart x m))

-- from a place p leads to a place
pub place_again : (b : BunchTree) → IsDistinct b → (T U : NameTypes) (cuts : List Bool) {p : StreamPrefix} → length cuts ≡ semi_count b → IsPlace b T cuts → Derives (as_type (rest_bunch b T cuts)) p → LeftSince b T U cuts p → IsPlace b U (cuts_since b cuts p)
place_again empty d T U cuts n place h l = tt
place_again (leaf x t) d T U cuts n place h l = tt
place_again (comma a b) d T U cuts n place (par_has_both {p = p} {q = q} h i) l =
    let ca = first_cuts a cuts in
    let cb = second_cuts a cuts in
    let A = rest_bunch a T ca in
    let B = rest_bunch b T cb in
    let u = split_rest a T ca p in
    let v = split_rest b T cb q in
    let na = first_length a (semi_count b) cuts n in
    let nb = second_length a (semi_count b) cuts n in
    let s = since_length a T ca na h in
    let la : LeftSince a T U ca p = record { at = since_first a b d.2 (rest_names a T ca) (rest_names b T cb) T U (split A p) (split B q) u v (λ x m. refl) (λ x m. refl) l.at } in
    let lb : LeftSince b T U cb q = record { at = since_second a b d.2 (rest_names a T ca) (rest_names b T cb) T U (split A p) (split B q) u v (λ x m. refl) (λ x m. refl) l.at } in (
      subst (IsPlace a U) (sym (first_seam a (cuts_since a ca p) (cuts_since b cb q) s)) (place_again a d.0 T U ca na place.0 h la),
      subst (IsPlace b U) (sym (second_seam a (cuts_since a ca p) (cuts_since b cb q) s)) (place_again b d.1 T U cb nb place.1 i lb),
    )
place_again (semi a b) d T U [] n place h l = absurd place
place_again (semi a b) d T U (true ∷ cuts) {p = p} n place h l =
    let m = tail_length true (semi_count a + semi_count b) cuts n in
    let ca = first_cuts a cuts in
    let cb = second_cuts a cuts in
    let B = rest_bunch b T cb in
    let na = first_length a (semi_count b) cuts m in
    let nb = second_length a (semi_count b) cuts m in
    let same : (x : ℕ) → holds x (leaf_names a) ≡ true → U x ≡ T x =
    λ x k. l.at x (holds-left x (leaf_names a) (leaf_names b) k)
    ∙ (ap (λ w. der w (T x)) (by_right (leaf_names B) (split B p) (empty_at T) x (outside (rest_names b T cb) x (not_left x (leaf_names a) (leaf_names b) d.2 k))) ∙ der-emp (T x)) in
    let lb : LeftSince b T U cb p = record { at = λ x k. l.at x (holds-right x (leaf_names a) (leaf_names b) k) } in (
      λ x k. ap null_of (same x k) ∙ place.0 x k,
      subst (IsPlace a U) (sym (first_seam a ca (cuts_since b cb p) na)) (place_same a T U ca same place.1),
      subst (IsPlace b U) (sym (second_seam a ca (cuts_since b cb p) na)) (place_again b d.1 T U cb nb place.2 h lb),
    )
place_again (semi a b) d T U (false ∷ cuts) n place (cat_has_fst {p = p} h) l =
    let m = tail_length false (semi_count a + semi_count b) cuts n in
    let ca = first_cuts a cuts in
    let cb = second_cuts a cuts in
    let A = rest_bunch a T ca in
    let B = rest_bunch b T cb in
    let u = split_rest a T ca p in
    let v = empty_at T in
    let na = first_length a (semi_count b) cuts m in
    let s = since_length a T ca na h in
    let nothing_there : (x : ℕ) → holds x (leaf_names b) ≡ true → by_side (leaf_names B) (empty_at (types_in B)) (empty_at T) x ≡ emp (T x) = λ x k. empty_by_side B T T x (rest_types b T cb x) refl in
    let la : LeftSince a T U ca p = record { at = since_first a b d.2 (rest_names a T ca) (rest_names b T cb) T U (split A p) (empty_at (types_in B)) u v (λ x k. refl) nothing_there l.at } in
    let lb = since_second a b d.2 (rest_names a T ca) (rest_names b T cb) T U (split A p) (empty_at (types_in B)) u v (λ x k. refl) nothing_there l.at in (
      subst (IsPlace a U) (sym (first_seam a (cuts_since a ca p) cb s)) (place_again a d.0 T U ca na place.0 h la),
      record {
        are_declared = λ x k. lb x k ∙ (der-emp (T x) ∙ place.1.are_declared x k);
        are_uncut = subst (IsUncut b) (sym (second_seam a (cuts_since a ca p) cb s)) place.1.are_uncut;
      },
    )
place_again (semi a b) d T U (false ∷ cuts) n place (cat_has_both {p = p} {q = q} h o i) l =
    let m = tail_length false (semi_count a + semi_count b) cuts n in
    let ca = first_cuts a cuts in
    let cb = second_cuts a cuts in
    let A = rest_bunch a T ca in
    let B = rest_bunch b T cb in
    let u = split_rest a T ca p in
    let v = split_rest b T cb q in
    let na = first_length a (semi_count b) cuts m in
    let nb = second_length a (semi_count b) cuts m in
    let s = since_length a T ca na h in
    let la : LeftSince a T U ca p = record { at = since_first a b d.2 (rest_names a T ca) (rest_names b T cb) T U (split A p) (split B q) u v (λ x k. refl) (λ x k. refl) l.at } in
    let lb : LeftSince b T U cb q = record { at = since_second a b d.2 (rest_names a T ca) (rest_names b T cb) T U (split A p) (split B q) u v (λ x k. refl) (λ x k. refl) l.at } in (
      λ x k. ap null_of (la.at x k) ∙ (null_of-der (rest_derives a T ca h x) ∙ whole_rest a T ca place.0 h o x k),
      subst (IsPlace a U) (sym (first_seam a (cuts_since a ca p) (cuts_since b cb q) s)) (place_again a d.0 T U ca na place.0 h la),
      subst (IsPlace b U) (sym (second_seam a (cuts_since a ca p) (cuts_since b cb q) s))
          (place_again b d.1 T U cb nb (untouched_place b T cb d.1 place.1.are_declared place.1.are_uncut) i lb),
    )

-- at a place with these types in turn, p having come since,
module _ (b : BunchTree) (ins : List StreamType) (cuts : List Bool) (p : StreamPrefix) where
  -- the types before,
  abbrev T : NameTypes
  T = types_left b ins

  -- and those that p leaves
  abbrev U : NameTypes
  U = left_at (split_rest b (types_left b ins) cuts p) (types_left b ins)

  -- what was left
  abbrev B : BunchTree
  B = rest_bunch b (types_left b ins) cuts

  -- of a name that isn't in the bunch `eps` is left,
  none_left : (x : ℕ) → holds x (leaf_names b) ≡ false → left_at (split_rest b (types_left b ins) cuts p) (types_left b ins) x ≡ eps
  none_left x n =
      ap (λ w. der w (T x)) (by_right (leaf_names B) (split B p) (empty_at T) x (outside (rest_names b T cuts) x n))
      ∙ (der-emp (T x) ∙ value_at-none eps (leaf_names b) ins x n)

  -- so the types that are left, in turn, are those that p leaves at every name,
  pub types_again : types_left b (map (left_at (split_rest b (types_left b ins) cuts p) (types_left b ins)) (leaf_names b)) ≡ left_at (split_rest b (types_left b ins) cuts p) (types_left b ins)
  types_again = λ i x. at x i
    where
      go : (x : ℕ) (c : Bool) → holds x (leaf_names b) ≡ c → cond c (left_at (split_rest b (types_left b ins) cuts p) (types_left b ins) x) eps ≡ left_at (split_rest b (types_left b ins) cuts p) (types_left b ins) x
      go x true e = refl
      go x false e = sym (none_left x e)

      at : (x : ℕ) → types_left b (map (left_at (split_rest b (types_left b ins) cuts p) (types_left b ins)) (leaf_names b)) x ≡ left_at (split_rest b (types_left b ins) cuts p) (types_left b ins) x
      at x = value_at-map eps U (leaf_names b) x ∙ go x (holds x (leaf_names b)) refl

  module _ (d : IsDistinct b) (n : length cuts ≡ semi_count b) (h : Derives (as_type (rest_bunch b (types_left b ins) cuts)) p) where
    -- what is left of the bunch is what p leaves of the type of what was left,
    pub input_again : as_type (rest_bunch b (left_at (split_rest b (types_left b ins) cuts p) (types_left b ins)) (cuts_since b cuts p)) ≡ der p (as_type (rest_bunch b (types_left b ins) cuts))
    input_again = ap as_type (rest_again b T U cuts n h) ∙ input_rest B (rest_distinct b T cuts d) U h (record { at = λ x m. sym (left_same b T cuts p x m) })

    -- and what comes then is split over it as what comes after p, at every name
    pub split_again : {q : StreamPrefix} → Derives (der p (as_type (rest_bunch b (types_left b ins) cuts))) q
        → split_rest b (left_at (split_rest b (types_left b ins) cuts p) (types_left b ins)) (cuts_since b cuts p) q ≡ split_rest_after b (types_left b ins) cuts p q
    split_again {q = q} k = ap (λ R. by_side (leaf_names R) (split R q) (empty_at U)) (rest_again b T U cuts n h) ∙ (λ i x. go x (holds x (leaf_names B)) refl i)
      where
        go : (x : ℕ) (c : Bool) → holds x (leaf_names (rest_bunch b (types_left b ins) cuts)) ≡ c
            → split_rest (rest_bunch b (types_left b ins) cuts) (left_at (split_rest b (types_left b ins) cuts p) (types_left b ins)) (cuts_of (rest_bunch b (types_left b ins) cuts) p) q x ≡ split_rest_after b (types_left b ins) cuts p q x
        go x true e =
            input_split B (rest_distinct b T cuts d) U h k (record { at = λ y m. sym (left_same b T cuts p y m) }) x e
            ∙ sym (by_left (leaf_names B) (split_after B p q) (empty_at U) x e)
        go x false e =
            let R = rest_bunch B U (cuts_of B p) in
            by_right (leaf_names R) (split R q) (empty_at U) x (outside (rest_names B U (cuts_of B p)) x e)
            ∙ sym (by_right (leaf_names B) (split_after B p q) (empty_at U) x e)
