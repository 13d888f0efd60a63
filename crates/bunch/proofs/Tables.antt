-- Values beside names, and tables of facts: what a name more and a fact more leave of them.
use Rattle.std.proofs.Common.{◌≡◌, ℕ, suc, Bool, true, false, true≢false, ◌||◌, List, [], ◌∷◌, ◌++◌, map, length, cond, eqb, refl, ap, sym, ◌∙◌, arith, get_or, set, ◌<◌}
use Rattle.std.proofs.lemmas.Bool.{eqb-true}
use Rattle.bunch.specs.Names.{holds, place_in, value_at}
use Rattle.bunch.proofs.Tests.{or_false_left, or_false_right}

-- a name that is tested equal to one that differs from z differs from z
apart : (x y z : ℕ) → eqb x z ≡ false → eqb y z ≡ true → eqb y x ≡ true → {A : Type 0} → A
apart x y z e f g = absurd (true≢false (sym f ∙ (ap (λ n. eqb n z) (eqb-true y x g) ∙ e)))

-- no value stands beside a name that isn't there
pub value_at-none : {A : Type 0} (d : A) (ns : List ℕ) (vs : List A) (y : ℕ) → holds y ns ≡ false → value_at d ns vs y ≡ d
value_at-none d [] vs y h = refl
value_at-none d (n ∷ ns) [] y h = refl
value_at-none d (n ∷ ns) (v ∷ vs) y h =
    ap (λ b. cond b v (value_at d ns vs y)) (or_false_left (eqb y n) (holds y ns) h) ∙ value_at-none d ns vs y (or_false_right (eqb y n) (holds y ns) h)

-- no value stands beside a name where there are no values
pub value_at-nil : {A : Type 0} (d : A) (ns : List ℕ) (y : ℕ) → value_at d ns [] y ≡ d
value_at-nil d [] y = refl
value_at-nil d (n ∷ ns) y = refl

-- values that are made of their names
pub value_at-map : {A : Type 0} (d : A) (f : ℕ → A) (ns : List ℕ) (y : ℕ) → value_at d ns (map f ns) y ≡ cond (holds y ns) (f y) d
value_at-map d f [] y = refl
value_at-map d f (n ∷ ns) y = go (eqb y n) refl (value_at-map d f ns y)
  where
    go : (b : Bool) → eqb y n ≡ b → value_at d ns (map f ns) y ≡ cond (holds y ns) (f y) d → cond b (f n) (value_at d ns (map f ns) y) ≡ cond (b || holds y ns) (f y) d
    go true e ih = ap f (sym (eqb-true y n e))
    go false e ih = ih

-- a name and its value at the end
pub value_at-end : {A : Type 0} (d : A) (ns : List ℕ) (vs : List A) (x : ℕ) (v : A) (y : ℕ) → length vs ≡ length ns → holds x ns ≡ false → value_at d (ns ++ x ∷ []) (vs ++ v ∷ []) y ≡ cond (eqb y x) v (value_at d ns vs y)
value_at-end d [] [] x v y h new = refl
value_at-end d [] (w ∷ ws) x v y h new = absurd (omega arith)
value_at-end d (n ∷ ns) [] x v y h new = absurd (omega arith)
value_at-end d (n ∷ ns) (w ∷ ws) x v y h new =
    go (eqb y n) refl (eqb y x) refl (value_at-end d ns ws x v y (omega arith) (or_false_right (eqb x n) (holds x ns) new))
  where
    go : (b : Bool) → eqb y n ≡ b → (c : Bool) → eqb y x ≡ c → value_at d (ns ++ x ∷ []) (ws ++ v ∷ []) y ≡ cond (eqb y x) v (value_at d ns ws y)
        → cond b w (value_at d (ns ++ x ∷ []) (ws ++ v ∷ []) y) ≡ cond c v (cond b w (value_at d ns ws y))
    go true e true f ih = apart x y n (or_false_left (eqb x n) (holds x ns) new) e f
    go true e false f ih = refl
    go false e c f ih = ih ∙ ap (λ b. cond b v (value_at d ns ws y)) f

-- the value beside a name, by the name's place
pub value_at-place : {A : Type 0} (d : A) (ns : List ℕ) (vs : List A) (x : ℕ) → length vs ≡ length ns → value_at d ns vs x ≡ get_or vs (place_in x ns) d
value_at-place d [] [] x h = refl
value_at-place d [] (v ∷ vs) x h = absurd (omega arith)
value_at-place d (n ∷ ns) [] x h = absurd (omega arith)
value_at-place d (n ∷ ns) (v ∷ vs) x h = go (eqb x n) (value_at-place d ns vs x (omega arith))
  where
    go : (b : Bool) → value_at d ns vs x ≡ get_or vs (place_in x ns) d → cond b v (value_at d ns vs x) ≡ get_or (v ∷ vs) (cond b 0 (suc (place_in x ns))) d
    go true ih = refl
    go false ih = ih

-- another value at a name's place
pub value_at-set : {A : Type 0} (d : A) (ns : List ℕ) (vs : List A) (x : ℕ) (v : A) (y : ℕ) → length vs ≡ length ns → holds x ns ≡ true → value_at d ns (set vs (place_in x ns) v) y ≡ cond (eqb y x) v (value_at d ns vs y)
value_at-set d [] vs x v y h there = absurd (true≢false (sym there))
value_at-set d (n ∷ ns) [] x v y h there = absurd (omega arith)
value_at-set d (n ∷ ns) (w ∷ ws) x v y h there = go (eqb x n) refl (eqb y n) refl (eqb y x) refl there (value_at-set d ns ws x v y (omega arith))
  where
    go : (a : Bool) → eqb x n ≡ a → (b : Bool) → eqb y n ≡ b → (c : Bool) → eqb y x ≡ c → (a || holds x ns) ≡ true
        → (holds x ns ≡ true → value_at d ns (set ws (place_in x ns) v) y ≡ cond (eqb y x) v (value_at d ns ws y))
        → value_at d (n ∷ ns) (set (w ∷ ws) (cond a 0 (suc (place_in x ns))) v) y ≡ cond c v (cond b w (value_at d ns ws y))
    go true e b f c g th ih = same b f c g
      where
        yx : eqb y x ≡ eqb y n
        yx = ap (λ m. eqb y m) (eqb-true x n e)

        same : (b : Bool) → eqb y n ≡ b → (c : Bool) → eqb y x ≡ c → cond (eqb y n) v (value_at d ns ws y) ≡ cond c v (cond b w (value_at d ns ws y))
        same true f true g = ap (λ t. cond t v (value_at d ns ws y)) f
        same true f false g = absurd (true≢false (sym f ∙ (sym yx ∙ g)))
        same false f true g = absurd (true≢false (sym g ∙ (yx ∙ f)))
        same false f false g = ap (λ t. cond t v (value_at d ns ws y)) f
    go false e true f true g th ih = apart x y n e f g
    go false e true f false g th ih = ap (λ t. cond t w (value_at d ns (set ws (place_in x ns) v) y)) f
    go false e false f c g th ih = ap (λ t. cond t w (value_at d ns (set ws (place_in x ns) v) y)) f ∙ (ih th ∙ ap (λ t. cond t v (value_at d ns ws y)) g)

-- a name is there where its place is within the list
pub place_in-within : (x : ℕ) (ns : List ℕ) → holds x ns ≡ true → place_in x ns < length ns
place_in-within x [] h = absurd (true≢false (sym h))
place_in-within x (n ∷ ns) h = go (eqb x n) h (place_in-within x ns)
  where
    go : (b : Bool) → (b || holds x ns) ≡ true → (holds x ns ≡ true → place_in x ns < length ns) → cond b 0 (suc (place_in x ns)) < suc (length ns)
    go true h ih = omega arith
    go false h ih = omega (arith, ih h)

-- and past it elsewhere
pub place_in-none : (x : ℕ) (ns : List ℕ) → holds x ns ≡ false → place_in x ns ≡ length ns
place_in-none x [] h = refl
place_in-none x (n ∷ ns) h = ap (λ b. cond b 0 (suc (place_in x ns))) (or_false_left (eqb x n) (holds x ns) h) ∙ ap suc (place_in-none x ns (or_false_right (eqb x n) (holds x ns) h))
