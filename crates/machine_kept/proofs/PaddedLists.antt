-- Lists of names with their types and what comes on them, where some names are left out in the one that stand in the
-- other with the types that are left and nothing on them.
use Rattle.std.proofs.Common.{◌≡◌, ◌∙◌, ℕ, Bool, true, false, true≢false, ◌||◌, List, [], ◌∷◌, ◌++◌, eqb, if◌then◌else◌, ap, refl, sym}
use Rattle.std.proofs.lemmas.Bool.{eqb-true, false_from_ne_true}
use Rattle.stream_type.specs.StreamType.{StreamType, eps}
use Rattle.stream_prefix.specs.StreamPrefix.{StreamPrefix, eps_emp, emp}
use Rattle.bunch.specs.Names.{holds}
use Rattle.core_term.specs.Environment.{NameTypes}
use Rattle.core_term.specs.FreeNames.{is_distinct}
use Rattle.core_term.proofs.BoundOnce.{not_again, distinct_tail}
use Rattle.delta_state.specs.StateTree.{HeldName, held_names}
use Rattle.delta_state.specs.StateMeaning.{types_held, prefixes_held}

-- a list has these names, and the other is what it is without some of them, of which all of the type T is left
pub data Padded (T : NameTypes) : List ℕ → List HeldName → List HeldName → Type 0 where
  no_name : Padded T [] [] []
  same_name : {x : ℕ} {t : StreamType} {p : StreamPrefix} {xs : List ℕ} {es fs : List HeldName} → Padded T xs es fs → Padded T (x ∷ xs) (record { name = x; type = t; prefix = p } ∷ es) (record { name = x; type = t; prefix = p } ∷ fs)
  left_out : {x : ℕ} {xs : List ℕ} {es fs : List HeldName} → Padded T xs es fs → Padded T (x ∷ xs) (record { name = x; type = T x; prefix = emp (T x) } ∷ es) fs

-- two in a row
pub padded_both : {T : NameTypes} {xs ys : List ℕ} {es gs fs hs : List HeldName} → Padded T xs es fs → Padded T ys gs hs → Padded T (xs ++ ys) (es ++ gs) (fs ++ hs)
padded_both no_name k = k
padded_both (same_name h) k = same_name (padded_both h k)
padded_both (left_out h) k = left_out (padded_both h k)

-- its names
pub padded_names : {T : NameTypes} {xs : List ℕ} {es fs : List HeldName} → Padded T xs es fs → held_names es ≡ xs
padded_names no_name = refl
padded_names (same_name {x = x} h) = ap (λ l. x ∷ l) (padded_names h)
padded_names (left_out {x = x} h) = ap (λ l. x ∷ l) (padded_names h)

-- the other has no others
pub padded_few : {T : NameTypes} {xs : List ℕ} {es fs : List HeldName} → Padded T xs es fs → (x : ℕ) → holds x xs ≡ false → holds x (held_names fs) ≡ false
padded_few no_name x n = refl
padded_few (same_name {x = y} {xs = xs} {fs = fs} h) x n = go (eqb x y) n (padded_few h x)
  where
    go : (c : Bool) → (c || holds x xs) ≡ false → (holds x xs ≡ false → holds x (held_names fs) ≡ false) → (c || holds x (held_names fs)) ≡ false
    go true n f = n
    go false n f = f n
padded_few (left_out {x = y} {xs = xs} {fs = fs} h) x n = go (eqb x y) n (padded_few h x)
  where
    go : (c : Bool) → (c || holds x xs) ≡ false → (holds x xs ≡ false → holds x (held_names fs) ≡ false) → holds x (held_names fs) ≡ false
    go true n f = absurd (true≢false n)
    go false n f = f n

-- a name of neither has no type and nothing on it
pub types_outside_both : {T : NameTypes} {xs : List ℕ} {es fs : List HeldName} → Padded T xs es fs → (x : ℕ) → holds x xs ≡ false → types_held es x ≡ eps
types_outside_both no_name x n = refl
types_outside_both (same_name {x = y} {t = t} {xs = xs} {es = es} h) x n = go (eqb x y) n (types_outside_both h x)
  where
    go : (c : Bool) → (c || holds x xs) ≡ false → (holds x xs ≡ false → types_held es x ≡ eps) → (if c then t else types_held es x) ≡ eps
    go true n f = absurd (true≢false n)
    go false n f = f n
types_outside_both {T = T} (left_out {x = y} {xs = xs} {es = es} h) x n = go (eqb x y) n (types_outside_both h x)
  where
    go : (c : Bool) → (c || holds x xs) ≡ false → (holds x xs ≡ false → types_held es x ≡ eps) → (if c then T y else types_held es x) ≡ eps
    go true n f = absurd (true≢false n)
    go false n f = f n

pub prefixes_outside_both : {T : NameTypes} {xs : List ℕ} {es fs : List HeldName} → Padded T xs es fs → (x : ℕ) → holds x xs ≡ false → prefixes_held es x ≡ eps_emp
prefixes_outside_both no_name x n = refl
prefixes_outside_both (same_name {x = y} {p = p} {xs = xs} {es = es} h) x n = go (eqb x y) n (prefixes_outside_both h x)
  where
    go : (c : Bool) → (c || holds x xs) ≡ false → (holds x xs ≡ false → prefixes_held es x ≡ eps_emp) → (if c then p else prefixes_held es x) ≡ eps_emp
    go true n f = absurd (true≢false n)
    go false n f = f n
prefixes_outside_both {T = T} (left_out {x = y} {xs = xs} {es = es} h) x n = go (eqb x y) n (prefixes_outside_both h x)
  where
    go : (c : Bool) → (c || holds x xs) ≡ false → (holds x xs ≡ false → prefixes_held es x ≡ eps_emp) → (if c then emp (T y) else prefixes_held es x) ≡ eps_emp
    go true n f = absurd (true≢false n)
    go false n f = f n

-- a name that stands once doesn't stand among the others
once : (y : ℕ) (xs : List ℕ) → is_distinct (y ∷ xs) ≡ true → holds y xs ≡ false
once y xs d = false_from_ne_true (holds y xs) (not_again y xs d)

-- a name of both has what the other has, and one that is left out there has all of its type and nothing on it
pub types_padded : {T : NameTypes} {xs : List ℕ} {es fs : List HeldName} → Padded T xs es fs → is_distinct xs ≡ true → (x : ℕ) → holds x xs ≡ true → types_held es x ≡ (if holds x (held_names fs) then types_held fs x else T x)
types_padded no_name d x m = absurd (true≢false (sym m))
types_padded {T = T} (same_name {x = y} {t = t} {xs = xs} {es = es} {fs = fs} h) d x m = go (eqb x y) m (types_padded h (distinct_tail y xs d) x)
  where
    go : (c : Bool) → (c || holds x xs) ≡ true → (holds x xs ≡ true → types_held es x ≡ (if holds x (held_names fs) then types_held fs x else T x))
        → (if c then t else types_held es x) ≡ (if (c || holds x (held_names fs)) then (if c then t else types_held fs x) else T x)
    go true m f = refl
    go false m f = f m
types_padded {T = T} (left_out {x = y} {xs = xs} {es = es} {fs = fs} h) d x m = go (eqb x y) refl m (types_padded h (distinct_tail y xs d) x)
  where
    here : eqb x y ≡ true → T y ≡ (if holds x (held_names fs) then types_held fs x else T x)
    here e =
        let same = eqb-true x y e in
        let gone : holds x (held_names fs) ≡ false = ap (λ z. holds z (held_names fs)) same ∙ padded_few h y (once y xs d) in
        ap T (sym same) ∙ sym (ap (λ c. if c then types_held fs x else T x) gone)

    go : (c : Bool) → eqb x y ≡ c → (c || holds x xs) ≡ true → (holds x xs ≡ true → types_held es x ≡ (if holds x (held_names fs) then types_held fs x else T x))
        → (if c then T y else types_held es x) ≡ (if holds x (held_names fs) then types_held fs x else T x)
    go true e m f = here e
    go false e m f = f m

pub prefixes_padded : {T : NameTypes} {xs : List ℕ} {es fs : List HeldName} → Padded T xs es fs → is_distinct xs ≡ true → (x : ℕ) → holds x xs ≡ true → prefixes_held es x ≡ (if holds x (held_names fs) then prefixes_held fs x else emp (T x))
prefixes_padded no_name d x m = absurd (true≢false (sym m))
prefixes_padded {T = T} (same_name {x = y} {p = p} {xs = xs} {es = es} {fs = fs} h) d x m = go (eqb x y) m (prefixes_padded h (distinct_tail y xs d) x)
  where
    go : (c : Bool) → (c || holds x xs) ≡ true → (holds x xs ≡ true → prefixes_held es x ≡ (if holds x (held_names fs) then prefixes_held fs x else emp (T x)))
        → (if c then p else prefixes_held es x) ≡ (if (c || holds x (held_names fs)) then (if c then p else prefixes_held fs x) else emp (T x))
    go true m f = refl
    go false m f = f m
prefixes_padded {T = T} (left_out {x = y} {xs = xs} {es = es} {fs = fs} h) d x m = go (eqb x y) refl m (prefixes_padded h (distinct_tail y xs d) x)
  where
    here : eqb x y ≡ true → emp (T y) ≡ (if holds x (held_names fs) then prefixes_held fs x else emp (T x))
    here e =
        let same = eqb-true x y e in
        let gone : holds x (held_names fs) ≡ false = ap (λ z. holds z (held_names fs)) same ∙ padded_few h y (once y xs d) in
        ap (λ z. emp (T z)) (sym same) ∙ sym (ap (λ c. if c then prefixes_held fs x else emp (T x)) gone)

    go : (c : Bool) → eqb x y ≡ c → (c || holds x xs) ≡ true → (holds x xs ≡ true → prefixes_held es x ≡ (if holds x (held_names fs) then prefixes_held fs x else emp (T x)))
        → (if c then emp (T y) else prefixes_held es x) ≡ (if holds x (held_names fs) then prefixes_held fs x else emp (T x))
    go true e m f = here e
    go false e m f = f m
