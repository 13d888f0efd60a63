-- What a split gives to each name: a prefix of its type, the empty one, a whole one, and a join of two.
use Rattle.std.proofs.Common.{◌≡◌, ◌∙◌, ℕ, Bool, true, false, true≢false, if◌then◌else◌, List, ap, eqb, refl, subst, sym}
use Rattle.stream_type.specs.StreamType.{StreamType, eps}
use Rattle.stream_prefix.specs.StreamPrefix.{StreamPrefix, eps_emp, emp, is_maximal, der, join}
use Rattle.stream_prefix.proofs.Derivations.{Derives, derives, is_prefix, eps_has_emp, par_has_both, cat_has_fst, cat_has_both}
use Rattle.stream_prefix.proofs.Joins.{emp_is_prefix, der-emp, join-emp, join-emp-der}
use Rattle.stream_prefix.proofs.Parts.{part, rest_derives}
use Rattle.bunch.specs.Names.{holds}
use Rattle.bunch.specs.BunchTree.{BunchTree, empty, leaf, comma, semi, leaf_names, as_type}
use Rattle.bunch.proofs.Tests.{and_first, and_second}
use Rattle.core_term.specs.Environment.{Environment, NameTypes, by_side, untyped, nothing, empty_at, left_at}
use Rattle.core_term.specs.Agreement.{types_in}
use Rattle.core_term.specs.Split.{split, split_after}
use Rattle.core_term.specs.Laws.{SplitIsTyped, SplitKeepsParts, SplitOfJoin, SplitAfterIsTyped, SplitOfEmpty, SplitOfWhole}
use Rattle.core_term.proofs.Sides.{by_both, put_both}

-- a prefix of its type for each name
pub split_derives : (b : BunchTree) {p : StreamPrefix} → Derives (as_type b) p → (x : ℕ) → Derives (types_in b x) (split b p x)
split_derives empty h x = eps_has_emp
split_derives (leaf z t) {p = p} h x = put_both Derives z t p untyped nothing x h eps_has_emp
split_derives (comma a b) (par_has_both {p = p} {q = q} h k) x =
    by_both Derives (leaf_names a) (types_in a) (types_in b) (split a p) (split b q) x (split_derives a h x) (split_derives b k x)
split_derives (semi a b) (cat_has_fst {p = p} h) x =
    by_both Derives (leaf_names a) (types_in a) (types_in b) (split a p) (empty_at (types_in b)) x (split_derives a h x) (emp_is_prefix (types_in b x))
split_derives (semi a b) (cat_has_both {p = p} {q = q} h m k) x =
    by_both Derives (leaf_names a) (types_in a) (types_in b) (split a p) (split b q) x (split_derives a h x) (split_derives b k x)

-- whole on both sides
whole_by_side : (xs : List ℕ) (f g : Environment) (x : ℕ) → is_maximal (f x) ≡ true → is_maximal (g x) ≡ true → is_maximal (by_side xs f g x) ≡ true
whole_by_side xs f g x l r = by_both {A = StreamPrefix} {B = StreamPrefix} (λ p _. is_maximal p ≡ true) xs f g f g x l r

-- a whole prefix for each name
pub split_whole : (b : BunchTree) {p : StreamPrefix} → Derives (as_type b) p → is_maximal p ≡ true → (x : ℕ) → is_maximal (split b p x) ≡ true
split_whole empty h m x = refl
split_whole (leaf z t) {p = p} h m x = put_both {A = StreamPrefix} {B = StreamPrefix} (λ q _. is_maximal q ≡ true) z p p nothing nothing x m refl
split_whole (comma a b) (par_has_both {p = p} {q = q} h k) m x =
    whole_by_side (leaf_names a) (split a p) (split b q) x (split_whole a h (and_first (is_maximal p) (is_maximal q) m) x) (split_whole b k (and_second (is_maximal p) (is_maximal q) m) x)
split_whole (semi a b) (cat_has_fst h) m x = absurd (true≢false (sym m))
split_whole (semi a b) (cat_has_both {p = p} {q = q} h n k) m x =
    whole_by_side (leaf_names a) (split a p) (split b q) x (split_whole a h n x) (split_whole b k (and_second (is_maximal p) (is_maximal q) m) x)

-- the empty prefix for each name
pub split_empty : (b : BunchTree) (x : ℕ) → split b (emp (as_type b)) x ≡ emp (types_in b x)
split_empty empty x = refl
split_empty (leaf z t) x = put_both (λ s p. p ≡ emp s) z t (emp t) untyped nothing x refl refl
split_empty (comma a b) x =
    by_both (λ s p. p ≡ emp s) (leaf_names a) (types_in a) (types_in b) (split a (emp (as_type a))) (split b (emp (as_type b))) x (split_empty a x) (split_empty b x)
split_empty (semi a b) x =
    by_both (λ s p. p ≡ emp s) (leaf_names a) (types_in a) (types_in b) (split a (emp (as_type a))) (empty_at (types_in b)) x (split_empty a x) refl

-- a prefix of what is left on both sides
left_by_side : (xs : List ℕ) (S U : NameTypes) (d e v w : Environment) (x : ℕ) → Derives (der (d x) (S x)) (v x) → Derives (der (e x) (U x)) (w x)
    → Derives (der (by_side xs d e x) (by_side xs S U x)) (by_side xs v w x)
left_by_side xs S U d e v w x l r = go (holds x xs)
  where
    go : (c : Bool) → Derives (der (if c then d x else e x) (if c then S x else U x)) (if c then v x else w x)
    go true = l
    go false = r

-- what comes for a name on whose stream nothing has come
after_nothing : (t : StreamType) (p : StreamPrefix) → Derives t p → Derives (der (emp t) t) p
after_nothing t p h = subst (λ s. Derives s p) (sym (der-emp t)) h

-- what comes later, for each name
pub split_after_derives : (b : BunchTree) {p r : StreamPrefix} → Derives (as_type b) p → Derives (der p (as_type b)) r → (x : ℕ) → Derives (left_at (split b p) (types_in b) x) (split_after b p r x)
split_after_derives empty h k x = eps_has_emp
split_after_derives (leaf z t) {p = p} {r = r} h k x = go (eqb x z)
  where
    go : (c : Bool) → Derives (der (if c then p else eps_emp) (if c then t else eps)) (if c then r else eps_emp)
    go true = k
    go false = eps_has_emp
split_after_derives (comma a b) (par_has_both {p = p} {q = q} h i) (par_has_both {p = r} {q = w} k l) x =
    left_by_side (leaf_names a) (types_in a) (types_in b) (split a p) (split b q) (split_after a p r) (split_after b q w) x (split_after_derives a h k x) (split_after_derives b i l x)
split_after_derives (semi a b) (cat_has_fst {p = p} h) (cat_has_fst {p = r} k) x =
    left_by_side (leaf_names a) (types_in a) (types_in b) (split a p) (empty_at (types_in b)) (split_after a p r) (empty_at (types_in b)) x
    (split_after_derives a h k x) (after_nothing (types_in b x) (emp (types_in b x)) (emp_is_prefix (types_in b x)))
split_after_derives (semi a b) (cat_has_fst {p = p} h) (cat_has_both {p = r} {q = w} k m l) x =
    left_by_side (leaf_names a) (types_in a) (types_in b) (split a p) (empty_at (types_in b)) (split_after a p r) (split b w) x
    (split_after_derives a h k x) (after_nothing (types_in b x) (split b w x) (split_derives b l x))
split_after_derives (semi a b) {r = r} (cat_has_both {p = p} {q = q} h m i) k x =
    left_by_side (leaf_names a) (types_in a) (types_in b) (split a p) (split b q) (empty_at (left_at (split a p) (types_in a))) (split_after b q r) x
    (emp_is_prefix (der (split a p x) (types_in a x))) (split_after_derives b i k x)

-- a join on both sides
join_by_side : (xs : List ℕ) (f g d e v w : Environment) (x : ℕ) → f x ≡ join (d x) (v x) → g x ≡ join (e x) (w x) → by_side xs f g x ≡ join (by_side xs d e x) (by_side xs v w x)
join_by_side xs f g d e v w x l r = go (holds x xs)
  where
    go : (c : Bool) → (if c then f x else g x) ≡ join (if c then d x else e x) (if c then v x else w x)
    go true = l
    go false = r

-- the split of a join, name by name
pub split_join : (b : BunchTree) {p r : StreamPrefix} → Derives (as_type b) p → Derives (der p (as_type b)) r → (x : ℕ) → split b (join p r) x ≡ join (split b p x) (split_after b p r x)
split_join empty h k x = refl
split_join (leaf z t) {p = p} {r = r} h k x = go (eqb x z)
  where
    go : (c : Bool) → (if c then join p r else eps_emp) ≡ join (if c then p else eps_emp) (if c then r else eps_emp)
    go true = refl
    go false = refl
split_join (comma a b) (par_has_both {p = p} {q = q} h i) (par_has_both {p = r} {q = w} k l) x =
    join_by_side (leaf_names a) (split a (join p r)) (split b (join q w)) (split a p) (split b q) (split_after a p r) (split_after b q w) x (split_join a h k x) (split_join b i l x)
split_join (semi a b) (cat_has_fst {p = p} h) (cat_has_fst {p = r} k) x =
    join_by_side (leaf_names a) (split a (join p r)) (empty_at (types_in b)) (split a p) (empty_at (types_in b)) (split_after a p r) (empty_at (types_in b)) x
    (split_join a h k x) (sym (join-emp (emp_is_prefix (types_in b x))))
split_join (semi a b) (cat_has_fst {p = p} h) (cat_has_both {p = r} {q = w} k m l) x =
    join_by_side (leaf_names a) (split a (join p r)) (split b w) (split a p) (empty_at (types_in b)) (split_after a p r) (split b w) x
    (split_join a h k x) (sym (join-emp (split_derives b l x)))
split_join (semi a b) {r = r} (cat_has_both {p = p} {q = q} h m i) k x =
    join_by_side (leaf_names a) (split a p) (split b (join q r)) (split a p) (split b q) (empty_at (left_at (split a p) (types_in a))) (split_after b q r) x
    (sym (join-emp-der (split_derives a h x))) (split_join b i k x)

pub split_is_typed : SplitIsTyped
split_is_typed b p h x = is_prefix (split_derives b (derives (as_type b) p h) x)

pub split_of_empty : SplitOfEmpty
split_of_empty b = λ i x. split_empty b x i

pub split_of_whole : SplitOfWhole
split_of_whole b p h m x = split_whole b (derives (as_type b) p h) m x

pub split_after_is_typed : SplitAfterIsTyped
split_after_is_typed b p r h k x = is_prefix (split_after_derives b (derives (as_type b) p h) (derives (der p (as_type b)) r k) x)

pub split_of_join : SplitOfJoin
split_of_join b p r h k = λ i x. split_join b (derives (as_type b) p h) (derives (der p (as_type b)) r k) x i

pub split_keeps_parts : SplitKeepsParts
split_keeps_parts b p q h g x =
    let a = derives (as_type b) p h in
    let k = rest_derives g in
    part (split_after_derives b a k x) (sym (split_join b a k x) ∙ ap (λ w. split b w x) g.joins)
