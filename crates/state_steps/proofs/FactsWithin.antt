-- Orders that have the facts of another order between the names of a list, and more: where names are placed.
use Rattle.std.proofs.Common.{◌≡◌, ◌∙◌, ◌≢◌, ℕ, true, true≢false, List, [], ◌∷◌, ap, ap₂, refl, subst, sym, Bool, false, ◌||◌, eqb, ◌&&◌, if◌then◌else◌, ◌++◌}
use Rattle.std.proofs.lemmas.Bool.{eqb-true, ne_eqb}
use Rattle.std.specs.List.{list_all}
use Rattle.bunch.specs.Facts.{Facts, place_like, place_let, put_before, before_like, after_like, before_let, after_let}
use Rattle.bunch.specs.Names.{holds}
use Rattle.core_term.specs.FreeNames.{without}
use Rattle.core_term.proofs.Retyping.{Among, and_both, unless}
use Rattle.core_term.proofs.Sides.{eqb-same, holds-head, holds-left, holds-right, all-holds, holds-all}
use Rattle.core_term.proofs.Without.{holds-tail, holds-without}

-- between names of the list each fact of the first order is one of the second
pub record WithinOn (xs : List ℕ) (O Q : Facts) : Type 0 where
  pub at : (x y : ℕ) → holds x xs ≡ true → holds y xs ≡ true → O x y ≡ true → Q x y ≡ true

-- an order has its own facts
pub within_itself : (xs : List ℕ) (O : Facts) → WithinOn xs O O
within_itself xs O = record { at = λ x y m n h. h }

-- fewer names ask for fewer facts
pub within_fewer : (xs ys : List ℕ) (O Q : Facts) → Among ys xs → WithinOn xs O Q → WithinOn ys O Q
within_fewer xs ys O Q a w = record { at = λ x y m n h. w.at x y (a.at x m) (a.at y n) h }

-- once x is placed like z, the facts of z and of the other names do
pub within_on_like : (x z : ℕ) (ys : List ℕ) (O Q : Facts) → WithinOn (z ∷ without x ys) O Q → WithinOn ys (place_like x z O) (place_like x z Q)
within_on_like x z ys O Q w = record { at = λ u v m n. go u v m n (eqb u x) refl (eqb v x) refl }
  where
    kept : (u : ℕ) → holds u ys ≡ true → eqb u x ≡ false → holds u (z ∷ without x ys) ≡ true
    kept u m e = holds-tail u z (without x ys) (holds-without u x ys e m)

    go : (u v : ℕ) → holds u ys ≡ true → holds v ys ≡ true → (a : Bool) → eqb u x ≡ a → (b : Bool) → eqb v x ≡ b → (if a then (if b then false else after_like z O v) else (if b then before_like z O u else O u v)) ≡ true
        → (if a then (if b then false else after_like z Q v) else (if b then before_like z Q u else Q u v)) ≡ true
    go u v m n true e true f h = h
    go u v m n true e false f h = unless (eqb v z) (O z v) (Q z v) (w.at z v (holds-head z (without x ys)) (kept v n f)) h
    go u v m n false e true f h = unless (eqb u z) (O u z) (Q u z) (w.at u z (kept u m e) (holds-head z (without x ys))) h
    go u v m n false e false f h = w.at u v (kept u m e) (kept v n f) h

-- a let that is placed by fewer names, and that is inert if the other is, has no fewer facts
pub within_on_let : (x : ℕ) (fs gs ys : List ℕ) (i j : Bool) (O Q : Facts) → WithinOn (fs ++ without x ys) O Q → Among gs fs → (i ≡ true → j ≡ true) → WithinOn ys (place_let x fs i O) (place_let x gs j Q)
within_on_let x fs gs ys i j O Q w s ij = record { at = λ u v m n. go u v m n (eqb u x) refl (eqb v x) refl }
  where
    kept : (u : ℕ) → holds u ys ≡ true → eqb u x ≡ false → holds u (fs ++ without x ys) ≡ true
    kept u m e = holds-right u fs (without x ys) (holds-without u x ys e m)

    used : (z : ℕ) → holds z gs ≡ true → holds z (fs ++ without x ys) ≡ true
    used z m = holds-left z fs (without x ys) (s.at z m)

    go : (u v : ℕ) → holds u ys ≡ true → holds v ys ≡ true → (a : Bool) → eqb u x ≡ a → (b : Bool) → eqb v x ≡ b → (if a then (if b then false else after_let fs O v) else (if b then before_let fs i O u else O u v)) ≡ true
        → (if a then (if b then false else after_let gs Q v) else (if b then before_let gs j Q u else Q u v)) ≡ true
    go u v m n true e true f h = h
    go u v m n true e false f h = holds-all (λ z. Q z v) gs (λ z k. w.at z v (used z k) (kept v n f) (all-holds (λ z. O z v) fs h z (s.at z k)))
    go u v m n false e true f h =
        and_both i (list_all (λ z. O u z) fs) j (list_all (λ z. Q u z) gs) ij (λ l. holds-all (λ z. Q u z) gs (λ z k. w.at u z (kept u m e) (used z k) (all-holds (λ z. O u z) fs l z (s.at z k)))) h
    go u v m n false e false f h = w.at u v (kept u m e) (kept v n f) h

-- once one name is put before another the same facts do
pub within_on_before : (x y : ℕ) (ys : List ℕ) (O Q : Facts) → WithinOn ys O Q → WithinOn ys (put_before x y O) (put_before x y Q)
within_on_before x y ys O Q w = record { at = λ u v m n. go u v m n (eqb u x && eqb v y) }
  where
    go : (u v : ℕ) → holds u ys ≡ true → holds v ys ≡ true → (a : Bool) → (a || O u v) ≡ true → (a || Q u v) ≡ true
    go u v m n true h = refl
    go u v m n false h = w.at u v m n h

-- a name that stands like z may be bound to z, and a finished one to nothing
pub alias_facts : (x z : ℕ) (O Q : Facts) → ((u v : ℕ) → O u v ≡ true → Q u v ≡ true) → (u v : ℕ) → place_like x z O u v ≡ true → place_let x (z ∷ []) true Q u v ≡ true
alias_facts x z O Q w u v h = go (eqb u x) (eqb v x) h
  where
    kept : (c o q : Bool) → (o ≡ true → q ≡ true) → (if c then false else o) ≡ true → (q && true) ≡ true
    kept true o q f k = absurd (true≢false (sym k))
    kept false o q f k = ap (λ b. b && true) (f k)

    go : (a b : Bool) → (if a then (if b then false else after_like z O v) else (if b then before_like z O u else O u v)) ≡ true
        → (if a then (if b then false else after_let (z ∷ []) Q v) else (if b then before_let (z ∷ []) true Q u else Q u v)) ≡ true
    go true true k = k
    go true false k = kept (eqb v z) (O z v) (Q z v) (w z v) k
    go false true k = kept (eqb u z) (O u z) (Q u z) (w u z) k
    go false false k = w u v k

-- so such a name keeps its facts once it is bound to z
pub like_alias : (x z : ℕ) (ys : List ℕ) (O Q : Facts) → ((u v : ℕ) → O u v ≡ true → Q u v ≡ true) → WithinOn ys (place_like x z O) (place_let x (z ∷ []) true Q)
like_alias x z ys O Q w = record { at = λ u v m n h. alias_facts x z O Q w u v h }

-- a name that is bound to nothing stands before and after all
sink_facts : (x z : ℕ) (O : Facts) (u v : ℕ) → place_like x z O u v ≡ true → place_let x [] true O u v ≡ true
sink_facts x z O u v h = go (eqb u x) (eqb v x) h
  where
    go : (a b : Bool) → (if a then (if b then false else after_like z O v) else (if b then before_like z O u else O u v)) ≡ true
        → (if a then (if b then false else after_let [] O v) else (if b then before_let [] true O u else O u v)) ≡ true
    go true true k = k
    go true false k = refl
    go false true k = refl
    go false false k = k

-- the names of a destructuring, once its first part is finished
pub row_facts : (x y z : ℕ) (ys : List ℕ) (O : Facts) → x ≢ z → x ≢ y → WithinOn ys (put_before x y (place_like y z (place_like x z O))) (place_let y (z ∷ []) true (place_let x [] true O))
row_facts x y z ys O nz ny = record { at = λ u v m n h. go u v (eqb u x) refl (eqb v y) refl h }
  where
    Q : Facts
    Q = place_let x [] true O

    others : (u v : ℕ) → place_like y z (place_like x z O) u v ≡ true → place_let y (z ∷ []) true (place_let x [] true O) u v ≡ true
    others u v h = alias_facts y z (place_like x z O) (place_let x [] true O) (sink_facts x z O) u v h

    at : place_let y (z ∷ []) true (place_let x [] true O) x y ≡ true
    at =
        ap₂ (λ a b. if a then (if b then false else after_let (z ∷ []) Q y) else (if b then before_let (z ∷ []) true Q x else Q x y)) (ne_eqb x y ny) (eqb-same y)
        ∙ ap₂ (λ a b. (if a then (if b then false else after_let [] O z) else (if b then before_let [] true O x else O x z)) && true) (eqb-same x) (ne_eqb z x (λ e. nz (sym e)))

    go : (u v : ℕ) (a : Bool) → eqb u x ≡ a → (b : Bool) → eqb v y ≡ b → ((a && b) || place_like y z (place_like x z O) u v) ≡ true → place_let y (z ∷ []) true (place_let x [] true O) u v ≡ true
    go u v true e true f h = subst (λ w. place_let y (z ∷ []) true (place_let x [] true O) w v ≡ true) (sym (eqb-true u x e)) (subst (λ w. place_let y (z ∷ []) true (place_let x [] true O) x w ≡ true) (sym (eqb-true v y f)) at)
    go u v true e false f h = others u v h
    go u v false e b f h = others u v h
