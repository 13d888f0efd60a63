-- What is awaited after a kept state: the names with what comes on them are those over which its input is split, its
-- type is that of the input, and its place is the kept state's own, gone on by what came.
use Rattle.std.proofs.Common.{◌≡◌, ◌∙◌, ◌+◌, ℕ, suc, Bool, true, false, List, [], ◌∷◌, ◌++◌, map, length, eqb, if◌then◌else◌, ap, ap₂, refl, sym, subst, arith}
use Rattle.std.proofs.lemmas.Bool.{eqb-true, or_right}
use Rattle.std.proofs.lemmas.List.{take-append-drop}
use Rattle.stream_type.specs.StreamType.{eps, par, cat}
use Rattle.stream_prefix.specs.StreamPrefix.{StreamPrefix, emp, der, join}
use Rattle.stream_prefix.proofs.Derivations.{Derives, eps_has_emp, par_has_both, cat_has_fst, cat_has_both}
use Rattle.stream_prefix.proofs.Joins.{der-emp, der-join}
use Rattle.bunch.specs.Names.{holds, value_at}
use Rattle.bunch.specs.BunchTree.{BunchTree, empty, leaf, comma, semi, as_type, leaf_names}
use Rattle.core_term.specs.Environment.{Environment, NameTypes, by_side, empty_at, left_at}
use Rattle.core_term.specs.Agreement.{types_in}
use Rattle.core_term.specs.FreeNames.{is_distinct}
use Rattle.core_term.specs.Split.{split}
use Rattle.core_term.proofs.BoundOnce.{not_again, distinct_tail}
use Rattle.core_term.proofs.Sides.{eqb-same, holds-head}
use Rattle.delta_state.specs.StateTree.{HeldName}
use Rattle.delta_state.specs.StateMeaning.{types_held, prefixes_held}
use Rattle.main_steps.specs.Splitting.{empty_entries, split_entries, over_entries, later_entries}
use Rattle.main_steps.proofs.SplitLists.{Lists, over_lists, later_lists}
use Rattle.machine_parts.specs.AwaitedTree.{stream_awaited, both_awaited, turns_awaited, still_entries, entries_on, awaited_after, marks_of, place_in}
use Rattle.kept_state.specs.KeptPlace.{semi_count, first_cuts, second_cuts, rest_bunch, split_rest, split_rest_after}
use Rattle.kept_state.proofs.RestBunches.{outside, rest_types, rest_names}
use Rattle.kept_state.specs.KeptSince.{cuts_since}
use Rattle.kept_state.proofs.RestAgain.{first_length, second_length}
use Rattle.kept_state.proofs.SameNumbers.{pred_same}
use Rattle.machine_kept.specs.KeptAwaiting.{awaited_left, awaited_type}
use Rattle.machine_kept.proofs.PaddedLists.{Padded, no_name, same_name, left_out, padded_both, padded_names, types_outside_both, prefixes_outside_both, types_padded, prefixes_padded}

-- a semicolon has a mark
none_left : {A : Type 0} (n : ℕ) → 0 ≡ suc n → A
none_left n h = absurd (omega (arith, h))

-- the type of what is awaited is that of what is left of the bunch
pub type_awaited : (b : BunchTree) (T : NameTypes) (cuts : List Bool) → awaited_type (awaited_left b T cuts) ≡ as_type (rest_bunch b T cuts)
type_awaited empty T cuts = refl
type_awaited (leaf x t) T cuts = refl
type_awaited (comma a b) T cuts = ap₂ par (type_awaited a T (first_cuts a cuts)) (type_awaited b T (second_cuts a cuts))
type_awaited (semi a b) T [] = refl
type_awaited (semi a b) T (true ∷ cuts) = type_awaited b T (second_cuts a cuts)
type_awaited (semi a b) T (false ∷ cuts) = ap₂ cat (type_awaited a T (first_cuts a cuts)) (type_awaited b T (second_cuts a cuts))

-- of what stands left of a mark that has come nothing is in what is left of the bunch
pub dropped : (b : BunchTree) (T : NameTypes) (cuts : List Bool) → length cuts ≡ semi_count b → Padded T (leaf_names b) (still_entries (awaited_left b T cuts)) []
dropped empty T cuts l = no_name
dropped (leaf y t) T cuts l = left_out no_name
dropped (comma a b) T cuts l = padded_both (dropped a T (first_cuts a cuts) (first_length a (semi_count b) cuts l)) (dropped b T (second_cuts a cuts) (second_length a (semi_count b) cuts l))
dropped (semi a b) T [] l = none_left (semi_count a + semi_count b) l
dropped (semi a b) T (cut ∷ cuts) l =
    let k = pred_same (length cuts) (semi_count a + semi_count b) l in
    padded_both (dropped a T (first_cuts a cuts) (first_length a (semi_count b) cuts k)) (dropped b T (second_cuts a cuts) (second_length a (semi_count b) cuts k))

-- the names of what is awaited: with nothing on them, or what comes first,
pads_still : (b : BunchTree) (T : NameTypes) (cuts : List Bool) → length cuts ≡ semi_count b → Padded T (leaf_names b) (still_entries (awaited_left b T cuts)) (empty_entries (rest_bunch b T cuts))
pads_still empty T cuts l = no_name
pads_still (leaf y t) T cuts l = same_name no_name
pads_still (comma a b) T cuts l = padded_both (pads_still a T (first_cuts a cuts) (first_length a (semi_count b) cuts l)) (pads_still b T (second_cuts a cuts) (second_length a (semi_count b) cuts l))
pads_still (semi a b) T [] l = none_left (semi_count a + semi_count b) l
pads_still (semi a b) T (true ∷ cuts) l =
    let k = pred_same (length cuts) (semi_count a + semi_count b) l in
    padded_both (dropped a T (first_cuts a cuts) (first_length a (semi_count b) cuts k)) (pads_still b T (second_cuts a cuts) (second_length a (semi_count b) cuts k))
pads_still (semi a b) T (false ∷ cuts) l =
    let k = pred_same (length cuts) (semi_count a + semi_count b) l in
    padded_both (pads_still a T (first_cuts a cuts) (first_length a (semi_count b) cuts k)) (pads_still b T (second_cuts a cuts) (second_length a (semi_count b) cuts k))

pads_split : (b : BunchTree) (T : NameTypes) (cuts : List Bool) → length cuts ≡ semi_count b → {p : StreamPrefix} → Derives (as_type (rest_bunch b T cuts)) p → Padded T (leaf_names b) (entries_on (awaited_left b T cuts) p) (split_entries (rest_bunch b T cuts) p)
pads_split empty T cuts l eps_has_emp = no_name
pads_split (leaf y t) T cuts l h = same_name no_name
pads_split (comma a b) T cuts l (par_has_both h k) = padded_both (pads_split a T (first_cuts a cuts) (first_length a (semi_count b) cuts l) h) (pads_split b T (second_cuts a cuts) (second_length a (semi_count b) cuts l) k)
pads_split (semi a b) T [] l h = none_left (semi_count a + semi_count b) l
pads_split (semi a b) T (true ∷ cuts) l h =
    let n = pred_same (length cuts) (semi_count a + semi_count b) l in
    padded_both (dropped a T (first_cuts a cuts) (first_length a (semi_count b) cuts n)) (pads_split b T (second_cuts a cuts) (second_length a (semi_count b) cuts n) h)
pads_split (semi a b) T (false ∷ cuts) l (cat_has_fst h) =
    let n = pred_same (length cuts) (semi_count a + semi_count b) l in
    padded_both (pads_split a T (first_cuts a cuts) (first_length a (semi_count b) cuts n) h) (pads_still b T (second_cuts a cuts) (second_length a (semi_count b) cuts n))
pads_split (semi a b) T (false ∷ cuts) l (cat_has_both h m k) =
    let n = pred_same (length cuts) (semi_count a + semi_count b) l in
    padded_both (pads_split a T (first_cuts a cuts) (first_length a (semi_count b) cuts n) h) (pads_split b T (second_cuts a cuts) (second_length a (semi_count b) cuts n) k)

-- and after a prefix: with nothing more on them, or what comes behind it
pub pads_over : (b : BunchTree) (T : NameTypes) (cuts : List Bool) → length cuts ≡ semi_count b → {p : StreamPrefix} → Derives (as_type (rest_bunch b T cuts)) p
    → Padded T (leaf_names b) (still_entries (awaited_after (awaited_left b T cuts) p)) (over_entries (rest_bunch b T cuts) p)
pads_over empty T cuts l eps_has_emp = no_name
pads_over (leaf y t) T cuts l h = same_name no_name
pads_over (comma a b) T cuts l (par_has_both h k) = padded_both (pads_over a T (first_cuts a cuts) (first_length a (semi_count b) cuts l) h) (pads_over b T (second_cuts a cuts) (second_length a (semi_count b) cuts l) k)
pads_over (semi a b) T [] l h = none_left (semi_count a + semi_count b) l
pads_over (semi a b) T (true ∷ cuts) l h =
    let n = pred_same (length cuts) (semi_count a + semi_count b) l in
    padded_both (dropped a T (first_cuts a cuts) (first_length a (semi_count b) cuts n)) (pads_over b T (second_cuts a cuts) (second_length a (semi_count b) cuts n) h)
pads_over (semi a b) T (false ∷ cuts) l (cat_has_fst h) =
    let n = pred_same (length cuts) (semi_count a + semi_count b) l in
    padded_both (pads_over a T (first_cuts a cuts) (first_length a (semi_count b) cuts n) h) (pads_still b T (second_cuts a cuts) (second_length a (semi_count b) cuts n))
pads_over (semi a b) T (false ∷ cuts) l (cat_has_both h m k) =
    let n = pred_same (length cuts) (semi_count a + semi_count b) l in
    padded_both (pads_over a T (first_cuts a cuts) (first_length a (semi_count b) cuts n) h) (pads_over b T (second_cuts a cuts) (second_length a (semi_count b) cuts n) k)

pub pads_later : (b : BunchTree) (T : NameTypes) (cuts : List Bool) → length cuts ≡ semi_count b → {p d : StreamPrefix} → Derives (as_type (rest_bunch b T cuts)) p → Derives (der p (as_type (rest_bunch b T cuts))) d
    → Padded T (leaf_names b) (entries_on (awaited_after (awaited_left b T cuts) p) d) (later_entries (rest_bunch b T cuts) p d)
pads_later empty T cuts l eps_has_emp eps_has_emp = no_name
pads_later (leaf y t) T cuts l h i = same_name no_name
pads_later (comma a b) T cuts l (par_has_both h k) (par_has_both i j) =
    padded_both (pads_later a T (first_cuts a cuts) (first_length a (semi_count b) cuts l) h i) (pads_later b T (second_cuts a cuts) (second_length a (semi_count b) cuts l) k j)
pads_later (semi a b) T [] l h i = none_left (semi_count a + semi_count b) l
pads_later (semi a b) T (true ∷ cuts) l h i =
    let n = pred_same (length cuts) (semi_count a + semi_count b) l in
    padded_both (dropped a T (first_cuts a cuts) (first_length a (semi_count b) cuts n)) (pads_later b T (second_cuts a cuts) (second_length a (semi_count b) cuts n) h i)
pads_later (semi a b) T (false ∷ cuts) l (cat_has_fst h) (cat_has_fst i) =
    let n = pred_same (length cuts) (semi_count a + semi_count b) l in
    padded_both (pads_later a T (first_cuts a cuts) (first_length a (semi_count b) cuts n) h i) (pads_still b T (second_cuts a cuts) (second_length a (semi_count b) cuts n))
pads_later (semi a b) T (false ∷ cuts) l (cat_has_fst h) (cat_has_both i m j) =
    let n = pred_same (length cuts) (semi_count a + semi_count b) l in
    padded_both (pads_later a T (first_cuts a cuts) (first_length a (semi_count b) cuts n) h i) (pads_split b T (second_cuts a cuts) (second_length a (semi_count b) cuts n) j)
pads_later (semi a b) T (false ∷ cuts) l (cat_has_both h m k) i =
    let n = pred_same (length cuts) (semi_count a + semi_count b) l in
    padded_both (pads_over a T (first_cuts a cuts) (first_length a (semi_count b) cuts n) h) (pads_later b T (second_cuts a cuts) (second_length a (semi_count b) cuts n) k i)

-- after nothing the same is awaited,
pub after_nothing : (b : BunchTree) (T : NameTypes) (cuts : List Bool) → awaited_after (awaited_left b T cuts) (emp (as_type (rest_bunch b T cuts))) ≡ awaited_left b T cuts
after_nothing empty T cuts = refl
after_nothing (leaf y t) T cuts = ap (stream_awaited y) (der-emp (T y))
after_nothing (comma a b) T cuts = ap₂ both_awaited (after_nothing a T (first_cuts a cuts)) (after_nothing b T (second_cuts a cuts))
after_nothing (semi a b) T [] = refl
after_nothing (semi a b) T (true ∷ cuts) = ap (turns_awaited true (awaited_left a T (first_cuts a cuts))) (after_nothing b T (second_cuts a cuts))
after_nothing (semi a b) T (false ∷ cuts) = ap (λ l. turns_awaited false l (awaited_left b T (second_cuts a cuts))) (after_nothing a T (first_cuts a cuts))

-- and what is awaited after both is what is awaited after their join
pub after_both : (b : BunchTree) (T : NameTypes) (cuts : List Bool) {p d : StreamPrefix} → Derives (as_type (rest_bunch b T cuts)) p → Derives (der p (as_type (rest_bunch b T cuts))) d
    → awaited_after (awaited_after (awaited_left b T cuts) p) d ≡ awaited_after (awaited_left b T cuts) (join p d)
after_both empty T cuts eps_has_emp eps_has_emp = refl
after_both (leaf y t) T cuts h i = ap (stream_awaited y) (sym (der-join h i))
after_both (comma a b) T cuts (par_has_both h k) (par_has_both i j) = ap₂ both_awaited (after_both a T (first_cuts a cuts) h i) (after_both b T (second_cuts a cuts) k j)
after_both (semi a b) T [] eps_has_emp eps_has_emp = refl
after_both (semi a b) T (true ∷ cuts) h i = ap (turns_awaited true (awaited_left a T (first_cuts a cuts))) (after_both b T (second_cuts a cuts) h i)
after_both (semi a b) T (false ∷ cuts) (cat_has_fst h) (cat_has_fst i) = ap (λ l. turns_awaited false l (awaited_left b T (second_cuts a cuts))) (after_both a T (first_cuts a cuts) h i)
after_both (semi a b) T (false ∷ cuts) (cat_has_fst h) (cat_has_both {q = q} i m j) = ap (λ l. turns_awaited true l (awaited_after (awaited_left b T (second_cuts a cuts)) q)) (after_both a T (first_cuts a cuts) h i)
after_both (semi a b) T (false ∷ cuts) (cat_has_both {p = p} h m k) i = ap (turns_awaited true (awaited_after (awaited_left a T (first_cuts a cuts)) p)) (after_both b T (second_cuts a cuts) k i)

-- the marks that have come: those of the kept state,
pub marks_left : (b : BunchTree) (T : NameTypes) (cuts : List Bool) → length cuts ≡ semi_count b → marks_of (awaited_left b T cuts) ≡ cuts
marks_left empty T [] l = refl
marks_left empty T (cut ∷ cuts) l = none_left (length cuts) (sym l)
marks_left (leaf y t) T [] l = refl
marks_left (leaf y t) T (cut ∷ cuts) l = none_left (length cuts) (sym l)
marks_left (comma a b) T cuts l =
    ap₂ ◌++◌ (marks_left a T (first_cuts a cuts) (first_length a (semi_count b) cuts l)) (marks_left b T (second_cuts a cuts) (second_length a (semi_count b) cuts l)) ∙ take-append-drop (semi_count a) cuts
marks_left (semi a b) T [] l = none_left (semi_count a + semi_count b) l
marks_left (semi a b) T (cut ∷ cuts) l =
    let k = pred_same (length cuts) (semi_count a + semi_count b) l in
    ap (λ cs. cut ∷ cs)
    (ap₂ ◌++◌ (marks_left a T (first_cuts a cuts) (first_length a (semi_count b) cuts k)) (marks_left b T (second_cuts a cuts) (second_length a (semi_count b) cuts k)) ∙ take-append-drop (semi_count a) cuts)

-- and those that came since
pub marks_since : (b : BunchTree) (T : NameTypes) (cuts : List Bool) → length cuts ≡ semi_count b → {p : StreamPrefix} → Derives (as_type (rest_bunch b T cuts)) p → marks_of (awaited_after (awaited_left b T cuts) p) ≡ cuts_since b cuts p
marks_since empty T [] l eps_has_emp = refl
marks_since empty T (cut ∷ cuts) l h = none_left (length cuts) (sym l)
marks_since (leaf y t) T [] l h = refl
marks_since (leaf y t) T (cut ∷ cuts) l h = none_left (length cuts) (sym l)
marks_since (comma a b) T cuts l (par_has_both h k) = ap₂ ◌++◌ (marks_since a T (first_cuts a cuts) (first_length a (semi_count b) cuts l) h) (marks_since b T (second_cuts a cuts) (second_length a (semi_count b) cuts l) k)
marks_since (semi a b) T [] l h = none_left (semi_count a + semi_count b) l
marks_since (semi a b) T (true ∷ cuts) l h =
    let n = pred_same (length cuts) (semi_count a + semi_count b) l in
    ap₂ (λ xs ys. true ∷ (xs ++ ys)) (marks_left a T (first_cuts a cuts) (first_length a (semi_count b) cuts n)) (marks_since b T (second_cuts a cuts) (second_length a (semi_count b) cuts n) h)
marks_since (semi a b) T (false ∷ cuts) l (cat_has_fst h) =
    let n = pred_same (length cuts) (semi_count a + semi_count b) l in
    ap₂ (λ xs ys. false ∷ (xs ++ ys)) (marks_since a T (first_cuts a cuts) (first_length a (semi_count b) cuts n) h) (marks_left b T (second_cuts a cuts) (second_length a (semi_count b) cuts n))
marks_since (semi a b) T (false ∷ cuts) l (cat_has_both h m k) =
    let n = pred_same (length cuts) (semi_count a + semi_count b) l in
    ap₂ (λ xs ys. true ∷ (xs ++ ys)) (marks_since a T (first_cuts a cuts) (first_length a (semi_count b) cuts n) h) (marks_since b T (second_cuts a cuts) (second_length a (semi_count b) cuts n) k)

-- the values at the names of a list, in turn, are the list of the values
pub values_in_turn : {A : Type 0} (d : A) (xs : List ℕ) (vs : List A) → is_distinct xs ≡ true → length vs ≡ length xs → map (value_at d xs vs) xs ≡ vs
values_in_turn d [] [] h l = refl
values_in_turn d [] (v ∷ vs) h l = none_left (length vs) (sym l)
values_in_turn d (x ∷ xs) [] h l = none_left (length xs) l
values_in_turn {A} d (x ∷ xs) (v ∷ vs) h l =
    ap₂ (λ w ws. w ∷ ws) (ap (λ c. if c then v else value_at d xs vs x) (eqb-same x))
    (others xs (λ y m. go y m (eqb y x) refl) ∙ values_in_turn d xs vs (distinct_tail x xs h) (pred_same (length vs) (length xs) l))
  where
    go : (y : ℕ) → holds y xs ≡ true → (c : Bool) → eqb y x ≡ c → (if c then v else value_at d xs vs y) ≡ value_at d xs vs y
    go y m true e = absurd (not_again x xs h (subst (λ z. holds z xs ≡ true) (eqb-true y x e) m))
    go y m false e = refl

    others : (ys : List ℕ) → ((y : ℕ) → holds y ys ≡ true → value_at d (x ∷ xs) (v ∷ vs) y ≡ value_at d xs vs y) → map (value_at d (x ∷ xs) (v ∷ vs)) ys ≡ map (value_at d xs vs) ys
    others [] f = refl
    others (y ∷ ys) f = ap₂ (λ w ws. w ∷ ws) (f y (holds-head y ys)) (others ys (λ z m. f z (or_right (eqb z y) (holds z ys) m)))

-- a bunch whose names are distinct, the types left of them, of which no other name has one, and its marks
module _ (b : BunchTree) (T : NameTypes) (cuts : List Bool) (distinct : is_distinct (leaf_names b) ≡ true) (none : (x : ℕ) → holds x (leaf_names b) ≡ false → T x ≡ eps) where
  -- a list of all of its names beside one of what is left of it, p having come and e coming
  module _ (p : StreamPrefix) {e : Environment} {es fs : List HeldName} (padded : Padded T (leaf_names b) es fs) (lists : Lists (leaf_names (rest_bunch b T cuts)) (left_at (split (rest_bunch b T cuts) p) (types_in (rest_bunch b T cuts))) e fs) where
    -- what is left of the type of a name that isn't in the bunch is `eps`
    left_outside : (x : ℕ) → holds x (leaf_names b) ≡ false → left_at (split_rest b T cuts p) T x ≡ eps
    left_outside x n =
        ap (λ c. der (if c then split (rest_bunch b T cuts) p x else emp (T x)) (T x)) (outside (rest_names b T cuts) x n)
        ∙ (der-emp (T x) ∙ none x n)

    -- has the types that are left,
    pub types_are : (x : ℕ) → types_held es x ≡ left_at (split_rest b T cuts p) T x
    types_are x = go (holds x (leaf_names b)) refl
      where
        there : (c : Bool) → holds x (leaf_names (rest_bunch b T cuts)) ≡ c → (if c then types_held fs x else T x) ≡ der (if c then split (rest_bunch b T cuts) p x else emp (T x)) (T x)
        there true m = lists.are_types x ∙ ap (der (split (rest_bunch b T cuts) p x)) (rest_types b T cuts x m)
        there false m = sym (der-emp (T x))

        go : (c : Bool) → holds x (leaf_names b) ≡ c → types_held es x ≡ left_at (split_rest b T cuts p) T x
        go true m =
            types_padded padded distinct x m
            ∙ (ap (λ l. if holds x l then types_held fs x else T x) lists.are_names ∙ there (holds x (leaf_names (rest_bunch b T cuts))) refl)
        go false n = types_outside_both padded x n ∙ sym (left_outside x n)

    -- and what comes on them
    pub prefixes_are : (x : ℕ) → prefixes_held es x ≡ by_side (leaf_names (rest_bunch b T cuts)) e (empty_at (left_at (split_rest b T cuts p) T)) x
    prefixes_are x = go (holds x (leaf_names b)) refl
      where
        there : (c : Bool) → holds x (leaf_names (rest_bunch b T cuts)) ≡ c → (if c then prefixes_held fs x else emp (T x)) ≡ (if c then e x else emp (left_at (split_rest b T cuts p) T x))
        there true m = lists.are_prefixes x
        there false m = sym (ap (λ c. emp (der (if c then split (rest_bunch b T cuts) p x else emp (T x)) (T x))) m ∙ ap emp (der-emp (T x)))

        go : (c : Bool) → holds x (leaf_names b) ≡ c → prefixes_held es x ≡ by_side (leaf_names (rest_bunch b T cuts)) e (empty_at (left_at (split_rest b T cuts p) T)) x
        go true m =
            prefixes_padded padded distinct x m
            ∙ (ap (λ l. if holds x l then prefixes_held fs x else emp (T x)) lists.are_names ∙ there (holds x (leaf_names (rest_bunch b T cuts))) refl)
        go false n =
            prefixes_outside_both padded x n
            ∙ sym (ap (λ c. if c then e x else emp (left_at (split_rest b T cuts p) T x)) (outside (rest_names b T cuts) x n) ∙ ap emp (left_outside x n))

  module _ (many : length cuts ≡ semi_count b) where
    -- the names with what comes behind p
    pub types_later : {p d : StreamPrefix} → Derives (as_type (rest_bunch b T cuts)) p → Derives (der p (as_type (rest_bunch b T cuts))) d → (x : ℕ) → types_held (entries_on (awaited_after (awaited_left b T cuts) p) d) x ≡ left_at (split_rest b T cuts p) T x
    types_later {p = p} h i = types_are p (pads_later b T cuts many h i) (later_lists (rest_bunch b T cuts) h i)

    pub prefixes_later : {p d : StreamPrefix} → Derives (as_type (rest_bunch b T cuts)) p → Derives (der p (as_type (rest_bunch b T cuts))) d → (x : ℕ) → prefixes_held (entries_on (awaited_after (awaited_left b T cuts) p) d) x ≡ split_rest_after b T cuts p d x
    prefixes_later {p = p} h i = prefixes_are p (pads_later b T cuts many h i) (later_lists (rest_bunch b T cuts) h i)

    -- the place, gone on by p,
    pub place_after : {p : StreamPrefix} → Derives (as_type (rest_bunch b T cuts)) p → place_in (awaited_after (awaited_left b T cuts) p) ≡ record { ins = map (left_at (split_rest b T cuts p) T) (leaf_names b); cuts = cuts_since b cuts p }
    place_after {p = p} h =
        let padded = pads_over b T cuts many h in
        let types = types_are p padded (over_lists (rest_bunch b T cuts) h) in
        ap₂ (λ i l. record { ins = i; cuts = l }) (ap₂ map (λ i x. types x i) (padded_names padded)) (marks_since b T cuts many h)

    -- and that of the kept state
    pub place_first : place_in (awaited_left b T cuts) ≡ record { ins = map T (leaf_names b); cuts = cuts }
    place_first =
        let padded = dropped b T cuts many in
        ap₂ (λ i l. record { ins = i; cuts = l })
        (ap (map (types_held (still_entries (awaited_left b T cuts)))) (padded_names padded) ∙ mapped (leaf_names b) (λ x m. types_padded padded distinct x m))
        (marks_left b T cuts many)
      where
        mapped : (xs : List ℕ) → ((x : ℕ) → holds x xs ≡ true → types_held (still_entries (awaited_left b T cuts)) x ≡ T x) → map (types_held (still_entries (awaited_left b T cuts))) xs ≡ map T xs
        mapped [] f = refl
        mapped (x ∷ xs) f = ap₂ (λ t ts. t ∷ ts) (f x (holds-head x xs)) (mapped xs (λ y m. f y (or_right (eqb y x) (holds y xs) m)))
