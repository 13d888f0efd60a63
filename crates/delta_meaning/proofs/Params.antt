-- Parameters and their numbers: what stands at a name stands at its number.
use Rattle.std.proofs.Common.{◌≡◌, ◌≢◌, ℕ, suc, ◌+◌, ◌≤◌, ◌<◌, Bool, true, false, true≢false, ◌||◌, List, [], ◌∷◌, ◌++◌, length, map, eqb, if◌then◌else◌, refl, sym, ap, ap₂, ◌∙◌, subst, arith}
use Rattle.std.proofs.lemmas.Bool.{eqb-true, eq-eqb, ne_eqb}
use Rattle.stream_type.specs.StreamType.{StreamType, eps}
use Rattle.stream_prefix.specs.StreamPrefix.{StreamPrefix, par_both, cat_fst, cat_both, emp}
use Rattle.bunch.specs.Names.{put, holds, place_in, value_at}
use Rattle.bunch.specs.BunchTree.{BunchTree, empty, leaf, comma, semi, leaf_names}
use Rattle.bunch.proofs.NameLists.{holds-append}
use Rattle.bunch.proofs.Tables.{place_in-within}
use Rattle.core_term.specs.Environment.{by_side, untyped, nothing, empty_at}
use Rattle.core_term.specs.Agreement.{types_in}
use Rattle.core_term.specs.Split.{split}
use Rattle.core_term.proofs.Sides.{by_left, by_right}
use Rattle.delta_meaning.specs.Elaboration.{Numbers, numbered_names, numbered_past, numbered_params}

-- a number for each name of a list, from m on
abbrev pub counted : List ℕ → ℕ → List ℕ
counted [] m = []
counted (x ∷ xs) m = m ∷ counted xs (suc m)

-- what f has at each name of a list g has at its number, where the names are numbered from m on
pub record Renamed {A : Type 0} (xs : List ℕ) (m : ℕ) (f g : ℕ → A) : Type 0 where
  pub at : (x k : ℕ) → holds x xs ≡ true → k ≡ m + place_in x xs → f x ≡ g k

pub counted-append : (xs ys : List ℕ) (m : ℕ) → counted (xs ++ ys) m ≡ counted xs m ++ counted ys (m + length xs)
counted-append [] ys m = ap (counted ys) (omega arith)
counted-append (x ∷ xs) ys m =
    let e : suc m + length xs ≡ m + suc (length xs) = omega arith in
    ap (λ l. m ∷ l) (counted-append xs ys (suc m) ∙ ap (λ k. counted xs (suc m) ++ counted ys k) e)

pub holds-counted : (xs : List ℕ) (m k : ℕ) → m ≤ k → k < m + length xs → holds k (counted xs m) ≡ true
holds-counted [] m k le lt = absurd (omega (arith, le, lt))
holds-counted (x ∷ xs) m k le lt = go (eqb k m) refl (λ l. holds-counted xs (suc m) k l (omega (arith, lt)))
  where
    go : (c : Bool) → eqb k m ≡ c → (suc m ≤ k → holds k (counted xs (suc m)) ≡ true) → (c || holds k (counted xs (suc m))) ≡ true
    go true e next = refl
    go false e next =
        let ne : k ≢ m = λ q. true≢false (sym (eq-eqb k m q) ∙ e) in
        next (omega (arith, le, ne))

pub holds-counted-below : (xs : List ℕ) (m k : ℕ) → k < m → holds k (counted xs m) ≡ false
holds-counted-below [] m k lt = refl
holds-counted-below (x ∷ xs) m k lt =
    ap (λ b. b || holds k (counted xs (suc m))) (ne_eqb k m (λ q. absurd (omega (arith, lt, q)))) ∙ holds-counted-below xs (suc m) k (omega (arith, lt))

pub holds-counted-above : (xs : List ℕ) (m k : ℕ) → m + length xs ≤ k → holds k (counted xs m) ≡ false
holds-counted-above [] m k le = refl
holds-counted-above (x ∷ xs) m k le =
    ap (λ b. b || holds k (counted xs (suc m))) (ne_eqb k m (λ q. absurd (omega (arith, le, q)))) ∙ holds-counted-above xs (suc m) k (omega (arith, le))

place_in-left : (x : ℕ) (xs ys : List ℕ) → holds x xs ≡ true → place_in x (xs ++ ys) ≡ place_in x xs
place_in-left x [] ys h = absurd (true≢false (sym h))
place_in-left x (z ∷ zs) ys h = go (eqb x z) h (place_in-left x zs ys)
  where
    go : (c : Bool) → (c || holds x zs) ≡ true → (holds x zs ≡ true → place_in x (zs ++ ys) ≡ place_in x zs) → (if c then 0 else suc (place_in x (zs ++ ys))) ≡ (if c then 0 else suc (place_in x zs))
    go true h next = refl
    go false h next = ap suc (next h)

place_in-right : (x : ℕ) (xs ys : List ℕ) → holds x xs ≡ false → place_in x (xs ++ ys) ≡ length xs + place_in x ys
place_in-right x [] ys h = omega arith
place_in-right x (z ∷ zs) ys h = go (eqb x z) h (place_in-right x zs ys)
  where
    go : (c : Bool) → (c || holds x zs) ≡ false → (holds x zs ≡ false → place_in x (zs ++ ys) ≡ length zs + place_in x ys) → (if c then 0 else suc (place_in x (zs ++ ys))) ≡ suc (length zs) + place_in x ys
    go true h next = absurd (true≢false h)
    go false h next = let e = next h in omega (arith, e)

-- two names of a list with one place are one
pub place_in-apart : (xs : List ℕ) (x y : ℕ) → holds x xs ≡ true → holds y xs ≡ true → place_in x xs ≡ place_in y xs → x ≡ y
place_in-apart [] x y h i e = absurd (true≢false (sym h))
place_in-apart (z ∷ zs) x y h i e = go (place_in-apart zs x y) (eqb x z) (eqb y z) refl refl h i e
  where
    go : (holds x zs ≡ true → holds y zs ≡ true → place_in x zs ≡ place_in y zs → x ≡ y) → (c d : Bool) → eqb x z ≡ c → eqb y z ≡ d → (c || holds x zs) ≡ true → (d || holds y zs) ≡ true → (if c then 0 else suc (place_in x zs)) ≡ (if d then 0 else suc (place_in y zs)) → x ≡ y
    go next true true p q h i e = eqb-true x z p ∙ sym (eqb-true y z q)
    go next true false p q h i e = absurd (omega (arith, e))
    go next false true p q h i e = absurd (omega (arith, e))
    go next false false p q h i e = next h i (omega (arith, e))

pub numbered_names-there : (xs : List ℕ) (n : ℕ) (numbers : Numbers) (x : ℕ) → holds x xs ≡ true → numbered_names xs n numbers x ≡ n + place_in x xs
numbered_names-there [] n numbers x h = absurd (true≢false (sym h))
numbered_names-there (z ∷ zs) n numbers x h = go (eqb x z) (numbered_names-there zs (suc n) numbers x) h
  where
    go : (c : Bool) → (holds x zs ≡ true → numbered_names zs (suc n) numbers x ≡ suc n + place_in x zs) → (c || holds x zs) ≡ true → (if c then n else numbered_names zs (suc n) numbers x) ≡ n + (if c then 0 else suc (place_in x zs))
    go true next h = omega arith
    go false next h = let e = next h in omega (arith, e)

pub numbered_names-other : (xs : List ℕ) (n : ℕ) (numbers : Numbers) (x : ℕ) → holds x xs ≡ false → numbered_names xs n numbers x ≡ numbers x
numbered_names-other [] n numbers x h = refl
numbered_names-other (z ∷ zs) n numbers x h = go (eqb x z) (numbered_names-other zs (suc n) numbers x) h
  where
    go : (c : Bool) → (holds x zs ≡ false → numbered_names zs (suc n) numbers x ≡ numbers x) → (c || holds x zs) ≡ false → (if c then n else numbered_names zs (suc n) numbers x) ≡ numbers x
    go true next h = absurd (true≢false h)
    go false next h = next h

-- the numbers of stream parameters
pub leaf_names-numbered : (b : BunchTree) (m : ℕ) → leaf_names (numbered_params b m) ≡ counted (leaf_names b) m
leaf_names-numbered empty m = refl
leaf_names-numbered (leaf x t) m = refl
leaf_names-numbered (comma a b) m =
    ap₂ ◌++◌ (leaf_names-numbered a m) (leaf_names-numbered b (m + length (leaf_names a))) ∙ sym (counted-append (leaf_names a) (leaf_names b) m)
leaf_names-numbered (semi a b) m =
    ap₂ ◌++◌ (leaf_names-numbered a m) (leaf_names-numbered b (m + length (leaf_names a))) ∙ sym (counted-append (leaf_names a) (leaf_names b) m)

-- and of historical ones
pub past_names-numbered : (ps : List (ℕ × StreamType)) (n : ℕ) → map (λ e. e.0) (numbered_past ps n) ≡ counted (map (λ e. e.0) ps) n
past_names-numbered [] n = refl
past_names-numbered (p ∷ ps) n = ap (λ l. n ∷ l) (past_names-numbered ps (suc n))

-- the value at a name stands at its number
value_at-counted : {A : Type 0} (d : A) (xs : List ℕ) (vs : List A) (m x k : ℕ) → holds x xs ≡ true → k ≡ m + place_in x xs → value_at d xs vs x ≡ value_at d (counted xs m) vs k
value_at-counted d [] vs m x k h e = refl
value_at-counted d (z ∷ zs) [] m x k h e = refl
value_at-counted d (z ∷ zs) (v ∷ vs) m x k h e = go (eqb x z) h e (λ i q. value_at-counted d zs vs (suc m) x k i q)
  where
    go : (c : Bool) → (c || holds x zs) ≡ true → k ≡ m + (if c then 0 else suc (place_in x zs)) → (holds x zs ≡ true → k ≡ suc m + place_in x zs → value_at d zs vs x ≡ value_at d (counted zs (suc m)) vs k)
        → (if c then v else value_at d zs vs x) ≡ value_at d (m ∷ counted zs (suc m)) (v ∷ vs) k
    go true h e next = sym (ap (λ b. if b then v else value_at d (counted zs (suc m)) vs k) (eq-eqb k m (omega (arith, e))))
    go false h e next =
        next h (omega (arith, e)) ∙ sym (ap (λ b. if b then v else value_at d (counted zs (suc m)) vs k) (ne_eqb k m (λ q. absurd (omega (arith, e, q)))))

-- values beside names, in turn
pub renamed-list : {A : Type 0} (d : A) (xs : List ℕ) (vs : List A) (m : ℕ) → Renamed xs m (value_at d xs vs) (value_at d (counted xs m) vs)
renamed-list d xs vs m = record { at = value_at-counted d xs vs m }

-- two sides, the right one numbered after the left one
renamed-sides : {A : Type 0} (xs ys : List ℕ) (m : ℕ) (f g i j : ℕ → A) → Renamed xs m f i → Renamed ys (m + length xs) g j → Renamed (xs ++ ys) m (by_side xs f g) (by_side (counted xs m) i j)
renamed-sides xs ys m f g i j l r = record { at = λ x k h e. go x k h e (holds x xs) refl }
  where
    go : (x k : ℕ) → holds x (xs ++ ys) ≡ true → k ≡ m + place_in x (xs ++ ys) → (c : Bool) → holds x xs ≡ c → by_side xs f g x ≡ by_side (counted xs m) i j k
    go x k h e true q =
        let p = place_in-left x xs ys q in
        let w = place_in-within x xs q in
        by_left xs f g x q ∙ (l.at x k q (omega (arith, e, p)) ∙ sym (by_left (counted xs m) i j k (holds-counted xs m k (omega (arith, e, p)) (omega (arith, e, p, w)))))
    go x k h e false q =
        let p = place_in-right x xs ys q in
        let there = sym (holds-append x xs ys ∙ ap (λ b. b || holds x ys) q) ∙ h in
        by_right xs f g x q ∙ (r.at x k there (omega (arith, e, p)) ∙ sym (by_right (counted xs m) i j k (holds-counted-above xs m k (omega (arith, e, p)))))

-- one name
renamed-leaf : {A : Type 0} (z m : ℕ) (a : A) (f g : ℕ → A) → Renamed (z ∷ []) m (put z a f) (put m a g)
renamed-leaf z m a f g = record { at = λ x k h e. go x k (eqb x z) h e }
  where
    go : (x k : ℕ) (c : Bool) → (c || false) ≡ true → k ≡ m + (if c then 0 else 1) → (if c then a else f x) ≡ put m a g k
    go x k true h e = sym (ap (λ b. if b then a else g k) (eq-eqb k m (omega (arith, e))))
    go x k false h e = absurd (true≢false (sym h))

-- nothing stands at any name
renamed-same : {A : Type 0} (xs : List ℕ) (m : ℕ) (a : A) → Renamed xs m (λ x. a) (λ k. a)
renamed-same xs m a = record { at = λ x k h e. refl }

renamed-params : {A : Type 0} (a : BunchTree) (ys : List ℕ) (m : ℕ) (f g i j : ℕ → A) → Renamed (leaf_names a) m f i → Renamed ys (m + length (leaf_names a)) g j
    → Renamed (leaf_names a ++ ys) m (by_side (leaf_names a) f g) (by_side (leaf_names (numbered_params a m)) i j)
renamed-params a ys m f g i j l r =
    subst (λ ns. Renamed (leaf_names a ++ ys) m (by_side (leaf_names a) f g) (by_side ns i j)) (sym (leaf_names-numbered a m)) (renamed-sides (leaf_names a) ys m f g i j l r)

-- the types of parameters
pub renamed-types : (b : BunchTree) (m : ℕ) → Renamed (leaf_names b) m (types_in b) (types_in (numbered_params b m))
renamed-types empty m = renamed-same [] m eps
renamed-types (leaf x t) m = renamed-leaf x m t untyped untyped
renamed-types (comma a b) m = renamed-params a (leaf_names b) m _ _ _ _ (renamed-types a m) (renamed-types b (m + length (leaf_names a)))
renamed-types (semi a b) m = renamed-params a (leaf_names b) m _ _ _ _ (renamed-types a m) (renamed-types b (m + length (leaf_names a)))

renamed-empty : (b : BunchTree) (m : ℕ) → Renamed (leaf_names b) m (empty_at (types_in b)) (empty_at (types_in (numbered_params b m)))
renamed-empty b m = record { at = λ x k h e. ap emp ((renamed-types b m).at x k h e) }

-- the parts of a prefix
pub renamed-split : (b : BunchTree) (p : StreamPrefix) (m : ℕ) → Renamed (leaf_names b) m (split b p) (split (numbered_params b m) p)
renamed-split empty p m = renamed-same [] m _
renamed-split (leaf x t) p m = renamed-leaf x m p nothing nothing
renamed-split (comma a b) (par_both p q) m = renamed-params a (leaf_names b) m _ _ _ _ (renamed-split a p m) (renamed-split b q (m + length (leaf_names a)))
renamed-split (comma a b) _ m = renamed-same (leaf_names a ++ leaf_names b) m _
renamed-split (semi a b) (cat_fst p) m = renamed-params a (leaf_names b) m _ _ _ _ (renamed-split a p m) (renamed-empty b (m + length (leaf_names a)))
renamed-split (semi a b) (cat_both p q) m = renamed-params a (leaf_names b) m _ _ _ _ (renamed-split a p m) (renamed-split b q (m + length (leaf_names a)))
renamed-split (semi a b) _ m = renamed-same (leaf_names a ++ leaf_names b) m _
