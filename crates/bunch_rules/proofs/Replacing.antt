-- A part of a bunch, and the bunch with another part in its place: which names, types and facts are there.
use Rattle.std.proofs.Common.{◌≡◌, ◌∙◌, ℕ, Bool, true, false, true≢false, ◌&&◌, ◌||◌, ◌⊎◌, inl, inr, List, [], ◌∷◌, ◌++◌, ap₂, refl, sym, subst}
use Rattle.std.proofs.lemmas.Bool.{or_left, or_right, false_from_ne_true}
use Rattle.stream_type.specs.StreamType.{StreamType}
use Rattle.bunch.specs.Names.{holds}
use Rattle.bunch.specs.BunchTree.{BunchTree, empty, leaf, comma, semi, leaf_names, stands_before, AreApart, IsDistinct}
use Rattle.bunch.proofs.Tests.{and_first, and_second, or_split}
use Rattle.core_term.proofs.Sides.{holds-head, holds-left, holds-right, holds-split}
use Rattle.bunch_rules.specs.Rearranging.{Turn, Replaces, right_here, left_of_comma, right_of_comma, left_of_semi, right_of_semi, stays_first}
use Rattle.bunch_rules.specs.Derivation.{HasLeaf}

pub true_not_false : (b : Bool) → b ≡ true → b ≡ false → ⊥
true_not_false b t f = true≢false (sym t ∙ f)

-- the facts of a semicolon are those across it and those of its sides
pub data AtSemi (a b : BunchTree) (x y : ℕ) : Type 0 where
  crossing : holds x (leaf_names a) ≡ true → holds y (leaf_names b) ≡ true → AtSemi a b x y
  at_first : stands_before a x y ≡ true → AtSemi a b x y
  at_second : stands_before b x y ≡ true → AtSemi a b x y

pub at_semi : (a b : BunchTree) (x y : ℕ) → stands_before (semi a b) x y ≡ true → AtSemi a b x y
at_semi a b x y k = go (or_split (holds x (leaf_names a) && holds y (leaf_names b)) (stands_before a x y || stands_before b x y) k)
  where
    sides : (stands_before a x y ≡ true) ⊎ (stands_before b x y ≡ true) → AtSemi a b x y
    sides (inl l) = at_first l
    sides (inr r) = at_second r

    go : ((holds x (leaf_names a) && holds y (leaf_names b)) ≡ true) ⊎ ((stands_before a x y || stands_before b x y) ≡ true) → AtSemi a b x y
    go (inl m) = crossing (and_first (holds x (leaf_names a)) (holds y (leaf_names b)) m) (and_second (holds x (leaf_names a)) (holds y (leaf_names b)) m)
    go (inr m) = sides (or_split (stands_before a x y) (stands_before b x y) m)

pub across : (a b : BunchTree) (x y : ℕ) → holds x (leaf_names a) ≡ true → holds y (leaf_names b) ≡ true → stands_before (semi a b) x y ≡ true
across a b x y m n = or_left (holds x (leaf_names a) && holds y (leaf_names b)) (stands_before a x y || stands_before b x y) (ap₂ (λ u v. u && v) m n)

pub semi_first : (a b : BunchTree) (x y : ℕ) → stands_before a x y ≡ true → stands_before (semi a b) x y ≡ true
semi_first a b x y k = or_right (holds x (leaf_names a) && holds y (leaf_names b)) (stands_before a x y || stands_before b x y) (or_left (stands_before a x y) (stands_before b x y) k)

pub semi_second : (a b : BunchTree) (x y : ℕ) → stands_before b x y ≡ true → stands_before (semi a b) x y ≡ true
semi_second a b x y k = or_right (holds x (leaf_names a) && holds y (leaf_names b)) (stands_before a x y || stands_before b x y) (or_right (stands_before a x y) (stands_before b x y) k)

pub comma_first : (a b : BunchTree) (x y : ℕ) → stands_before a x y ≡ true → stands_before (comma a b) x y ≡ true
comma_first a b x y k = or_left (stands_before a x y) (stands_before b x y) k

pub comma_second : (a b : BunchTree) (x y : ℕ) → stands_before b x y ≡ true → stands_before (comma a b) x y ≡ true
comma_second a b x y k = or_right (stands_before a x y) (stands_before b x y) k

-- the names of a part are names of the bunch,
pub part_names : {d e g h : BunchTree} {p : List Turn} → Replaces d e p g h → (x : ℕ) → holds x (leaf_names d) ≡ true → holds x (leaf_names g) ≡ true
part_names right_here x m = m
part_names (left_of_comma {a = a} {b = b} k) x m = holds-left x (leaf_names a) (leaf_names b) (part_names k x m)
part_names (right_of_comma {a = a} {b = b} k) x m = holds-right x (leaf_names a) (leaf_names b) (part_names k x m)
part_names (left_of_semi {a = a} {b = b} k) x m = holds-left x (leaf_names a) (leaf_names b) (part_names k x m)
part_names (right_of_semi {a = a} {b = b} k) x m = holds-right x (leaf_names a) (leaf_names b) (part_names k x m)

-- so are its facts
pub part_facts : {d e g h : BunchTree} {p : List Turn} → Replaces d e p g h → (x y : ℕ) → stands_before d x y ≡ true → stands_before g x y ≡ true
part_facts right_here x y m = m
part_facts (left_of_comma {a = a} {b = b} k) x y m = comma_first a b x y (part_facts k x y m)
part_facts (right_of_comma {a = a} {b = b} k) x y m = comma_second a b x y (part_facts k x y m)
part_facts (left_of_semi {a = a} {b = b} k) x y m = semi_first a b x y (part_facts k x y m)
part_facts (right_of_semi {a = a} {b = b} k) x y m = semi_second a b x y (part_facts k x y m)

-- and its leaves
pub part_leaf : {d e g h : BunchTree} {p : List Turn} → Replaces d e p g h → (x : ℕ) (t : StreamType) → HasLeaf d x t → HasLeaf g x t
part_leaf right_here x t m = m
part_leaf (left_of_comma k) x t m = inl (part_leaf k x t m)
part_leaf (right_of_comma k) x t m = inr (part_leaf k x t m)
part_leaf (left_of_semi k) x t m = inl (part_leaf k x t m)
part_leaf (right_of_semi k) x t m = inr (part_leaf k x t m)

-- where names are distinct they are in each part
pub part_distinct : {d e g h : BunchTree} {p : List Turn} → Replaces d e p g h → IsDistinct g → IsDistinct d
part_distinct right_here m = m
part_distinct (left_of_comma k) m = part_distinct k m.0
part_distinct (right_of_comma k) m = part_distinct k m.1
part_distinct (left_of_semi k) m = part_distinct k m.0
part_distinct (right_of_semi k) m = part_distinct k m.1

names_of_left : (x : ℕ) (a b c e : BunchTree) → (holds x (leaf_names c) ≡ true → (holds x (leaf_names a) ≡ true) ⊎ (holds x (leaf_names e) ≡ true)) → holds x (leaf_names c ++ leaf_names b) ≡ true
    → (holds x (leaf_names a ++ leaf_names b) ≡ true) ⊎ (holds x (leaf_names e) ≡ true)
names_of_left x a b c e f m = go (holds-split x (leaf_names c) (leaf_names b) m)
  where
    lift : (holds x (leaf_names a) ≡ true) ⊎ (holds x (leaf_names e) ≡ true) → (holds x (leaf_names a ++ leaf_names b) ≡ true) ⊎ (holds x (leaf_names e) ≡ true)
    lift (inl n) = inl (holds-left x (leaf_names a) (leaf_names b) n)
    lift (inr n) = inr n

    go : (holds x (leaf_names c) ≡ true) ⊎ (holds x (leaf_names b) ≡ true) → (holds x (leaf_names a ++ leaf_names b) ≡ true) ⊎ (holds x (leaf_names e) ≡ true)
    go (inl n) = lift (f n)
    go (inr n) = inl (holds-right x (leaf_names a) (leaf_names b) n)

names_of_right : (x : ℕ) (a b c e : BunchTree) → (holds x (leaf_names c) ≡ true → (holds x (leaf_names b) ≡ true) ⊎ (holds x (leaf_names e) ≡ true)) → holds x (leaf_names a ++ leaf_names c) ≡ true
    → (holds x (leaf_names a ++ leaf_names b) ≡ true) ⊎ (holds x (leaf_names e) ≡ true)
names_of_right x a b c e f m = go (holds-split x (leaf_names a) (leaf_names c) m)
  where
    lift : (holds x (leaf_names b) ≡ true) ⊎ (holds x (leaf_names e) ≡ true) → (holds x (leaf_names a ++ leaf_names b) ≡ true) ⊎ (holds x (leaf_names e) ≡ true)
    lift (inl n) = inl (holds-right x (leaf_names a) (leaf_names b) n)
    lift (inr n) = inr n

    go : (holds x (leaf_names a) ≡ true) ⊎ (holds x (leaf_names c) ≡ true) → (holds x (leaf_names a ++ leaf_names b) ≡ true) ⊎ (holds x (leaf_names e) ≡ true)
    go (inl n) = inl (holds-left x (leaf_names a) (leaf_names b) n)
    go (inr n) = lift (f n)

-- a name of the other bunch was there, or is one of the new part
pub new_names : {d e g h : BunchTree} {p : List Turn} → Replaces d e p g h → (x : ℕ) → holds x (leaf_names h) ≡ true → (holds x (leaf_names g) ≡ true) ⊎ (holds x (leaf_names e) ≡ true)
new_names right_here x m = inr m
new_names {e = e} (left_of_comma {a = a} {b = b} {c = c} k) x m = names_of_left x a b c e (new_names k x) m
new_names {e = e} (right_of_comma {a = a} {b = b} {c = c} k) x m = names_of_right x a b c e (new_names k x) m
new_names {e = e} (left_of_semi {a = a} {b = b} {c = c} k) x m = names_of_left x a b c e (new_names k x) m
new_names {e = e} (right_of_semi {a = a} {b = b} {c = c} k) x m = names_of_right x a b c e (new_names k x) m

first_side : {A B C : Type 0} → A ⊎ C → (A ⊎ B) ⊎ C
first_side (inl a) = inl (inl a)
first_side (inr c) = inr c

second_side : {A B C : Type 0} → B ⊎ C → (A ⊎ B) ⊎ C
second_side (inl b) = inl (inr b)
second_side (inr c) = inr c

-- so is a leaf
pub new_leaf : {d e g h : BunchTree} {p : List Turn} → Replaces d e p g h → (x : ℕ) (t : StreamType) → HasLeaf h x t → HasLeaf g x t ⊎ HasLeaf e x t
new_leaf right_here x t m = inr m
new_leaf (left_of_comma k) x t (inl m) = first_side (new_leaf k x t m)
new_leaf (left_of_comma k) x t (inr m) = inl (inr m)
new_leaf (right_of_comma k) x t (inl m) = inl (inl m)
new_leaf (right_of_comma k) x t (inr m) = second_side (new_leaf k x t m)
new_leaf (left_of_semi k) x t (inl m) = first_side (new_leaf k x t m)
new_leaf (left_of_semi k) x t (inr m) = inl (inr m)
new_leaf (right_of_semi k) x t (inl m) = inl (inl m)
new_leaf (right_of_semi k) x t (inr m) = second_side (new_leaf k x t m)

-- a fact of the other bunch was there, or is one of the new part, or it is between a name that was there and one
-- of the new part, and was there between that name and all of the old part
pub data NewFact (d e g : BunchTree) (first : Bool) (x y : ℕ) : Type 0 where
  was_there : stands_before g x y ≡ true → NewFact d e g first x y
  inside : stands_before e x y ≡ true → NewFact d e g first x y
  onto : first ≡ false → holds x (leaf_names g) ≡ true → holds y (leaf_names e) ≡ true → ((w : ℕ) → holds w (leaf_names d) ≡ true → stands_before g x w ≡ true) → NewFact d e g first x y
  from : holds x (leaf_names e) ≡ true → holds y (leaf_names g) ≡ true → ((w : ℕ) → holds w (leaf_names d) ≡ true → stands_before g w y ≡ true) → NewFact d e g first x y

lift_fact : (d e a g : BunchTree) (first : Bool) (x y : ℕ) → ((u v : ℕ) → stands_before a u v ≡ true → stands_before g u v ≡ true) → ((u : ℕ) → holds u (leaf_names a) ≡ true → holds u (leaf_names g) ≡ true)
    → NewFact d e a first x y → NewFact d e g first x y
lift_fact d e a g first x y f n (was_there k) = was_there (f x y k)
lift_fact d e a g first x y f n (inside k) = inside k
lift_fact d e a g first x y f n (onto i l m k) = onto i (n x l) m (λ w j. f x w (k w j))
lift_fact d e a g first x y f n (from l m k) = from l (n y m) (λ w j. f w y (k w j))

not_first : (d e g : BunchTree) (first : Bool) (x y : ℕ) → NewFact d e g first x y → NewFact d e g false x y
not_first d e g first x y (was_there k) = was_there k
not_first d e g first x y (inside k) = inside k
not_first d e g first x y (onto i l m k) = onto refl l m k
not_first d e g first x y (from l m k) = from l m k

comma_left_fact : (d e a b c : BunchTree) (first : Bool) (x y : ℕ) → (stands_before c x y ≡ true → NewFact d e a first x y) → stands_before (comma c b) x y ≡ true → NewFact d e (comma a b) first x y
comma_left_fact d e a b c first x y f m = go (or_split (stands_before c x y) (stands_before b x y) m)
  where
    go : (stands_before c x y ≡ true) ⊎ (stands_before b x y ≡ true) → NewFact d e (comma a b) first x y
    go (inl n) = lift_fact d e a (comma a b) first x y (comma_first a b) (λ u. holds-left u (leaf_names a) (leaf_names b)) (f n)
    go (inr n) = was_there (comma_second a b x y n)

comma_right_fact : (d e a b c : BunchTree) (first : Bool) (x y : ℕ) → (stands_before c x y ≡ true → NewFact d e b first x y) → stands_before (comma a c) x y ≡ true → NewFact d e (comma a b) first x y
comma_right_fact d e a b c first x y f m = go (or_split (stands_before a x y) (stands_before c x y) m)
  where
    go : (stands_before a x y ≡ true) ⊎ (stands_before c x y ≡ true) → NewFact d e (comma a b) first x y
    go (inl n) = was_there (comma_first a b x y n)
    go (inr n) = lift_fact d e b (comma a b) first x y (comma_second a b) (λ u. holds-right u (leaf_names a) (leaf_names b)) (f n)

semi_left_fact : (d e a b c : BunchTree) (p : List Turn) (x y : ℕ) → Replaces d e p a c → (stands_before c x y ≡ true → NewFact d e a (stays_first p a) x y) → stands_before (semi c b) x y ≡ true → NewFact d e (semi a b) (stays_first p a) x y
semi_left_fact d e a b c p x y k f m = go (at_semi c b x y m)
  where
    cross : holds y (leaf_names b) ≡ true → (holds x (leaf_names a) ≡ true) ⊎ (holds x (leaf_names e) ≡ true) → NewFact d e (semi a b) (stays_first p a) x y
    cross n (inl l) = was_there (across a b x y l n)
    cross n (inr l) = from l (holds-right y (leaf_names a) (leaf_names b) n) (λ w j. across a b w y (part_names k w j) n)

    go : AtSemi c b x y → NewFact d e (semi a b) (stays_first p a) x y
    go (crossing l n) = cross n (new_names k x l)
    go (at_first n) = lift_fact d e a (semi a b) (stays_first p a) x y (semi_first a b) (λ u. holds-left u (leaf_names a) (leaf_names b)) (f n)
    go (at_second n) = was_there (semi_second a b x y n)

semi_right_fact : (d e a b c : BunchTree) (p : List Turn) (x y : ℕ) → Replaces d e p b c → (stands_before c x y ≡ true → NewFact d e b (stays_first p b) x y) → stands_before (semi a c) x y ≡ true → NewFact d e (semi a b) false x y
semi_right_fact d e a b c p x y k f m = go (at_semi a c x y m)
  where
    cross : holds x (leaf_names a) ≡ true → (holds y (leaf_names b) ≡ true) ⊎ (holds y (leaf_names e) ≡ true) → NewFact d e (semi a b) false x y
    cross l (inl n) = was_there (across a b x y l n)
    cross l (inr n) = onto refl (holds-left x (leaf_names a) (leaf_names b) l) n (λ w j. across a b x w l (part_names k w j))

    go : AtSemi a c x y → NewFact d e (semi a b) false x y
    go (crossing l n) = cross l (new_names k y n)
    go (at_first n) = was_there (semi_first a b x y n)
    go (at_second n) = lift_fact d e b (semi a b) false x y (semi_second a b) (λ u. holds-right u (leaf_names a) (leaf_names b)) (not_first d e b (stays_first p b) x y (f n))

pub new_fact : {d e g h : BunchTree} {p : List Turn} → Replaces d e p g h → (x y : ℕ) → stands_before h x y ≡ true → NewFact d e g (stays_first p g) x y
new_fact right_here x y m = inside m
new_fact {d = d} {e = e} (left_of_comma {p = p} {a = a} {b = b} {c = c} k) x y m = comma_left_fact d e a b c (stays_first p a) x y (new_fact k x y) m
new_fact {d = d} {e = e} (right_of_comma {p = p} {a = a} {b = b} {c = c} k) x y m = comma_right_fact d e a b c (stays_first p b) x y (new_fact k x y) m
new_fact {d = d} {e = e} (left_of_semi {p = p} {a = a} {b = b} {c = c} k) x y m = semi_left_fact d e a b c p x y k (new_fact k x y) m
new_fact {d = d} {e = e} (right_of_semi {p = p} {a = a} {b = b} {c = c} k) x y m = semi_right_fact d e a b c p x y k (new_fact k x y) m

-- each name of the new part is one of the old part, or it isn't in the bunch
abbrev pub IsNew : BunchTree → BunchTree → BunchTree → Type 0
IsNew d e g = (x : ℕ) → holds x (leaf_names e) ≡ true → (holds x (leaf_names d) ≡ true) ⊎ (holds x (leaf_names g) ≡ false)

pub not_left : (x : ℕ) (xs ys : List ℕ) → holds x (xs ++ ys) ≡ false → holds x xs ≡ false
not_left x xs ys f = false_from_ne_true (holds x xs) (λ m. true_not_false (holds x (xs ++ ys)) (holds-left x xs ys m) f)

pub not_right : (x : ℕ) (xs ys : List ℕ) → holds x (xs ++ ys) ≡ false → holds x ys ≡ false
not_right x xs ys f = false_from_ne_true (holds x ys) (λ m. true_not_false (holds x (xs ++ ys)) (holds-right x xs ys m) f)

new_left : (d e a b : BunchTree) → ((x : ℕ) → holds x (leaf_names e) ≡ true → (holds x (leaf_names d) ≡ true) ⊎ (holds x (leaf_names a ++ leaf_names b) ≡ false)) → IsNew d e a
new_left d e a b f x m = go (f x m)
  where
    go : (holds x (leaf_names d) ≡ true) ⊎ (holds x (leaf_names a ++ leaf_names b) ≡ false) → (holds x (leaf_names d) ≡ true) ⊎ (holds x (leaf_names a) ≡ false)
    go (inl n) = inl n
    go (inr n) = inr (not_left x (leaf_names a) (leaf_names b) n)

new_right : (d e a b : BunchTree) → ((x : ℕ) → holds x (leaf_names e) ≡ true → (holds x (leaf_names d) ≡ true) ⊎ (holds x (leaf_names a ++ leaf_names b) ≡ false)) → IsNew d e b
new_right d e a b f x m = go (f x m)
  where
    go : (holds x (leaf_names d) ≡ true) ⊎ (holds x (leaf_names a ++ leaf_names b) ≡ false) → (holds x (leaf_names d) ≡ true) ⊎ (holds x (leaf_names b) ≡ false)
    go (inl n) = inl n
    go (inr n) = inr (not_right x (leaf_names a) (leaf_names b) n)

-- both sides stay apart, whichever is replaced
apart_left : {d e a c : BunchTree} {p : List Turn} (b : BunchTree) → Replaces d e p a c → AreApart (leaf_names a) (leaf_names b)
    → ((x : ℕ) → holds x (leaf_names e) ≡ true → (holds x (leaf_names d) ≡ true) ⊎ (holds x (leaf_names a ++ leaf_names b) ≡ false)) → AreApart (leaf_names c) (leaf_names b)
apart_left {d = d} {e = e} {a = a} {c = c} b k o f x m = false_from_ne_true (holds x (leaf_names c)) (λ n. go (new_names k x n))
  where
    fresh : (holds x (leaf_names d) ≡ true) ⊎ (holds x (leaf_names a ++ leaf_names b) ≡ false) → ⊥
    fresh (inl n) = true_not_false (holds x (leaf_names a)) (part_names k x n) (o x m)
    fresh (inr n) = true_not_false (holds x (leaf_names b)) m (not_right x (leaf_names a) (leaf_names b) n)

    go : (holds x (leaf_names a) ≡ true) ⊎ (holds x (leaf_names e) ≡ true) → ⊥
    go (inl n) = true_not_false (holds x (leaf_names a)) n (o x m)
    go (inr n) = fresh (f x n)

apart_right : {d e b c : BunchTree} {p : List Turn} (a : BunchTree) → Replaces d e p b c → AreApart (leaf_names a) (leaf_names b)
    → ((x : ℕ) → holds x (leaf_names e) ≡ true → (holds x (leaf_names d) ≡ true) ⊎ (holds x (leaf_names a ++ leaf_names b) ≡ false)) → AreApart (leaf_names a) (leaf_names c)
apart_right {d = d} {e = e} {b = b} {c = c} a k o f x m = go (new_names k x m)
  where
    fresh : (holds x (leaf_names d) ≡ true) ⊎ (holds x (leaf_names a ++ leaf_names b) ≡ false) → holds x (leaf_names a) ≡ false
    fresh (inl n) = o x (part_names k x n)
    fresh (inr n) = not_left x (leaf_names a) (leaf_names b) n

    go : (holds x (leaf_names b) ≡ true) ⊎ (holds x (leaf_names e) ≡ true) → holds x (leaf_names a) ≡ false
    go (inl n) = o x n
    go (inr n) = fresh (f x n)

-- so names stay distinct
pub still_distinct : {d e g h : BunchTree} {p : List Turn} → Replaces d e p g h → IsDistinct g → IsDistinct e → IsNew d e g → IsDistinct h
still_distinct right_here m n f = n
still_distinct {d = d} {e = e} (left_of_comma {a = a} {b = b} k) m n f = (still_distinct k m.0 n (new_left d e a b f), m.1, apart_left b k m.2 f)
still_distinct {d = d} {e = e} (right_of_comma {a = a} {b = b} k) m n f = (m.0, still_distinct k m.1 n (new_right d e a b f), apart_right a k m.2 f)
still_distinct {d = d} {e = e} (left_of_semi {a = a} {b = b} k) m n f = (still_distinct k m.0 n (new_left d e a b f), m.1, apart_left b k m.2 f)
still_distinct {d = d} {e = e} (right_of_semi {a = a} {b = b} k) m n f = (m.0, still_distinct k m.1 n (new_right d e a b f), apart_right a k m.2 f)

-- a leaf's name is a name of the bunch
pub leaf_is_name : (g : BunchTree) (x : ℕ) (t : StreamType) → HasLeaf g x t → holds x (leaf_names g) ≡ true
leaf_is_name empty x t m = absurd m
leaf_is_name (leaf z s) x t m = subst (λ w. holds w (z ∷ []) ≡ true) m.0 (holds-head z [])
leaf_is_name (comma a b) x t (inl m) = holds-left x (leaf_names a) (leaf_names b) (leaf_is_name a x t m)
leaf_is_name (comma a b) x t (inr m) = holds-right x (leaf_names a) (leaf_names b) (leaf_is_name b x t m)
leaf_is_name (semi a b) x t (inl m) = holds-left x (leaf_names a) (leaf_names b) (leaf_is_name a x t m)
leaf_is_name (semi a b) x t (inr m) = holds-right x (leaf_names a) (leaf_names b) (leaf_is_name b x t m)
