-- Typing depends on the types of the free stream names alone, and more facts of order and types of more
-- historical names do no harm.
use Rattle.std.proofs.Common.{◌≡◌, ◌∙◌, ℕ, Bool, true, false, ◌&&◌, ◌||◌, List, [], ◌∷◌, ◌++◌, eqb, if◌then◌else◌, ap, ap₂, refl, subst, sym}
use Rattle.std.specs.Prelude.{Some}
use Rattle.std.specs.List.{list_all}
use Rattle.stream_type.specs.StreamType.{StreamType, cat, par, sum, star, null_of}
use Rattle.bunch.specs.Names.{put, holds}
use Rattle.bunch.specs.Facts.{Facts, before_like, after_like, before_let, after_let, place_like, place_let, put_before}
use Rattle.bunch.proofs.Tests.{and_first, and_second}
use Rattle.hist_value.specs.HistType.{past}
use Rattle.core_term.specs.CoreTerm.{CoreTerm, CoreTerms, CoreBody, past_types}
use Rattle.core_term.specs.FreeNames.{without, free_names, free_in_terms}
use Rattle.core_term.specs.Environment.{NameTypes}
use Rattle.core_term.specs.Inert.{is_inert}
use Rattle.core_term.specs.Parts.{par_left, par_right, cat_first, cat_second, sum_left, sum_right, star_item, star_items}
use Rattle.core_term.specs.Typing.{passed}
use Rattle.core_term.proofs.Sides.{holds-head, holds-left, holds-right, all-holds, holds-all}
use Rattle.core_term.proofs.Without.{holds-tail, put_on}
use Rattle.core_term.proofs.TypedTerms.{PastTypes, StandBefore, HasMore, more_under, gives_more, pasts_more, Typed, TypedAll, var_typed, eps_typed, unit_typed, nil_typed, past_typed, par_typed, cat_typed, cons_typed, inl_typed, inr_typed, let_typed, let_par_typed, let_cat_typed, case_sum_typed, case_star_typed, wait_typed, call_typed, none_typed, more_typed}

-- each fact of the first order is one of the second
pub record Within (O Q : Facts) : Type 0 where
  pub at : (x y : ℕ) → O x y ≡ true → Q x y ≡ true

-- each name of the first list is in the second
pub record Among (xs ys : List ℕ) : Type 0 where
  pub at : (x : ℕ) → holds x xs ≡ true → holds x ys ≡ true

pub among_same : (xs : List ℕ) → Among xs xs
among_same xs = record { at = λ x m. m }

-- both have the same types at these names
pub record SameTypes (xs : List ℕ) (T U : NameTypes) : Type 0 where
  pub at : (x : ℕ) → holds x xs ≡ true → T x ≡ U x

pub unless : (c o q : Bool) → (o ≡ true → q ≡ true) → (if c then false else o) ≡ true → (if c then false else q) ≡ true
unless true o q f h = h
unless false o q f h = f h

pub and_both : (a b c d : Bool) → (a ≡ true → c ≡ true) → (b ≡ true → d ≡ true) → (a && b) ≡ true → (c && d) ≡ true
and_both a b c d f g h = ap₂ ◌&&◌ (f (and_first a b h)) (g (and_second a b h))

pub within_like : (O Q : Facts) (x z : ℕ) → Within O Q → Within (place_like x z O) (place_like x z Q)
within_like O Q x z w = record { at = λ u v. go u v (eqb u x) (eqb v x) }
  where
    go : (u v : ℕ) (a b : Bool) → (if a then (if b then false else after_like z O v) else (if b then before_like z O u else O u v)) ≡ true
        → (if a then (if b then false else after_like z Q v) else (if b then before_like z Q u else Q u v)) ≡ true
    go u v true true h = h
    go u v true false h = unless (eqb v z) (O z v) (Q z v) (w.at z v) h
    go u v false true h = unless (eqb u z) (O u z) (Q u z) (w.at u z) h
    go u v false false h = w.at u v h

-- a let that is placed by fewer names, and that is inert if the other is, has no fewer facts
pub within_let : (O Q : Facts) (x : ℕ) (xs ys : List ℕ) (i j : Bool) → Within O Q → Among ys xs → (i ≡ true → j ≡ true) → Within (place_let x xs i O) (place_let x ys j Q)
within_let O Q x xs ys i j w s ij = record { at = λ u v. go u v (eqb u x) (eqb v x) }
  where
    go : (u v : ℕ) (a b : Bool) → (if a then (if b then false else after_let xs O v) else (if b then before_let xs i O u else O u v)) ≡ true
        → (if a then (if b then false else after_let ys Q v) else (if b then before_let ys j Q u else Q u v)) ≡ true
    go u v true true h = h
    go u v true false h = holds-all (λ z. Q z v) ys (λ z m. w.at z v (all-holds (λ z. O z v) xs h z (s.at z m)))
    go u v false true h =
        and_both i (list_all (λ z. O u z) xs) j (list_all (λ z. Q u z) ys) ij (λ k. holds-all (λ z. Q u z) ys (λ z m. w.at u z (all-holds (λ z. O u z) xs k z (s.at z m)))) h
    go u v false false h = w.at u v h

pub within_before : (O Q : Facts) (x y : ℕ) → Within O Q → Within (put_before x y O) (put_before x y Q)
within_before O Q x y w = record { at = λ u v. go u v (eqb u x && eqb v y) }
  where
    go : (u v : ℕ) (a : Bool) → (a || O u v) ≡ true → (a || Q u v) ≡ true
    go u v true h = refl
    go u v false h = w.at u v h

pub within_pair : (O Q : Facts) (x y z : ℕ) → Within O Q → Within (place_like y z (place_like x z O)) (place_like y z (place_like x z Q))
within_pair O Q x y z w = within_like (place_like x z O) (place_like x z Q) y z (within_like O Q x z w)

pub within_row : (O Q : Facts) (x y z : ℕ) → Within O Q → Within (put_before x y (place_like y z (place_like x z O))) (put_before x y (place_like y z (place_like x z Q)))
within_row O Q x y z w = within_before (place_like y z (place_like x z O)) (place_like y z (place_like x z Q)) x y (within_pair O Q x y z w)

pub before_within : (O Q : Facts) (xs ys : List ℕ) → Within O Q → StandBefore O xs ys → StandBefore Q xs ys
before_within O Q xs ys w h = record { at = λ x y m n. w.at x y (h.at x y m n) }

types_left : (xs ys : List ℕ) (T U : NameTypes) → SameTypes (xs ++ ys) T U → SameTypes xs T U
types_left xs ys T U h = record { at = λ x m. h.at x (holds-left x xs ys m) }

types_right : (xs ys : List ℕ) (T U : NameTypes) → SameTypes (xs ++ ys) T U → SameTypes ys T U
types_right xs ys T U h = record { at = λ x m. h.at x (holds-right x xs ys m) }

types_tail : (z : ℕ) (xs : List ℕ) (T U : NameTypes) → SameTypes (z ∷ xs) T U → SameTypes xs T U
types_tail z xs T U h = record { at = λ x m. h.at x (holds-tail x z xs m) }

types_put : (x : ℕ) (s t : StreamType) (T U : NameTypes) (xs : List ℕ) → s ≡ t → SameTypes (without x xs) T U → SameTypes xs (put x s T) (put x t U)
types_put x s t T U xs e h = record { at = put_on (λ a b. a ≡ b) x s t T U xs e h.at }

module _ (funs : ℕ → CoreBody) (counts : ℕ → Bool) (Apart : ℕ → ℕ → Type 0) where
  mutual
    -- a term keeps its type over other types, facts and historical types
    pub retype : {T : NameTypes} {O : Facts} {H : PastTypes} {e : CoreTerm} {r : StreamType} → Typed funs counts Apart T O H e r → (U : NameTypes) (Q : Facts) (K : PastTypes) → SameTypes (free_names e) T U → Within O Q → HasMore H K
        → Typed funs counts Apart U Q K e r
    retype (var_typed {x = x} e) U Q K h w m = var_typed (sym (h.at x (holds-head x [])) ∙ e)
    retype eps_typed U Q K h w m = eps_typed
    retype unit_typed U Q K h w m = unit_typed
    retype nil_typed U Q K h w m = nil_typed
    retype (past_typed i) U Q K h w m = past_typed (gives_more i K m)
    retype (par_typed {T = T} {a = a} {b = b} i j) U Q K h w m =
        par_typed (retype i U Q K (types_left (free_names a) (free_names b) T U h) w m) (retype j U Q K (types_right (free_names a) (free_names b) T U h) w m)
    retype (cat_typed {T = T} {O = O} {a = a} {b = b} i j o) U Q K h w m =
        cat_typed (retype i U Q K (types_left (free_names a) (free_names b) T U h) w m) (retype j U Q K (types_right (free_names a) (free_names b) T U h) w m) (before_within O Q (free_names a) (free_names b) w o)
    retype (cons_typed {T = T} {O = O} {a = a} {b = b} i j o) U Q K h w m =
        cons_typed (retype i U Q K (types_left (free_names a) (free_names b) T U h) w m) (retype j U Q K (types_right (free_names a) (free_names b) T U h) w m) (before_within O Q (free_names a) (free_names b) w o)
    retype (inl_typed i) U Q K h w m = inl_typed (retype i U Q K h w m)
    retype (inr_typed i) U Q K h w m = inr_typed (retype i U Q K h w m)
    retype (let_typed {T = T} {O = O} {x = x} {s = s} {a = a} {b = b} i j) U Q K h w m =
        let_typed (retype i U Q K (types_left (free_names a) (without x (free_names b)) T U h) w m)
        (retype j _ _ K (types_put x s s T U (free_names b) refl (types_right (free_names a) (without x (free_names b)) T U h))
        (within_let O Q x (free_names a) (free_names a) (is_inert funs counts a s) (is_inert funs counts a s) w (among_same (free_names a)) (λ k. k)) m)
    retype (let_par_typed {T = T} {O = O} {x = x} {y = y} {z = z} {a = a} n e i) U Q K h w m =
        let f = h.at z (holds-head z (without x (without y (free_names a)))) in
        let_par_typed n (subst (λ t. t ≡ par (par_left t) (par_right t)) f e)
        (retype i _ _ K
        (types_put y (par_right (T z)) (par_right (U z)) (put x (par_left (T z)) T) (put x (par_left (U z)) U) (free_names a) (ap par_right f)
        (types_put x (par_left (T z)) (par_left (U z)) T U (without y (free_names a)) (ap par_left f) (types_tail z _ T U h))) (within_pair O Q x y z w) m)
    retype (let_cat_typed {T = T} {O = O} {x = x} {y = y} {z = z} {a = a} n n' e i) U Q K h w m =
        let f = h.at z (holds-head z (without x (without y (free_names a)))) in
        let_cat_typed n n' (subst (λ t. t ≡ cat (cat_first t) (cat_second t)) f e)
        (retype i _ _ K
        (types_put y (cat_second (T z)) (cat_second (U z)) (put x (cat_first (T z)) T) (put x (cat_first (U z)) U) (free_names a) (ap cat_second f)
        (types_put x (cat_first (T z)) (cat_first (U z)) T U (without y (free_names a)) (ap cat_first f) (types_tail z _ T U h))) (within_row O Q x y z w) m)
    retype (case_sum_typed {T = T} {O = O} {x = x} {y = y} {z = z} {a = a} {b = b} e i j) U Q K h w m =
        let f = h.at z (holds-head z (without x (free_names a) ++ without y (free_names b))) in
        let t = types_tail z (without x (free_names a) ++ without y (free_names b)) T U h in
        case_sum_typed (subst (λ t. t ≡ sum (sum_left t) (sum_right t)) f e)
        (retype i _ _ K (types_put x (sum_left (T z)) (sum_left (U z)) T U (free_names a) (ap sum_left f) (types_left (without x (free_names a)) (without y (free_names b)) T U t)) (within_like O Q x z w) m)
        (retype j _ _ K (types_put y (sum_right (T z)) (sum_right (U z)) T U (free_names b) (ap sum_right f) (types_right (without x (free_names a)) (without y (free_names b)) T U t)) (within_like O Q y z w) m)
    retype (case_star_typed {T = T} {O = O} {y = y} {ys = ys} {z = z} {a = a} {b = b} n n' e i j) U Q K h w m =
        let f = h.at z (holds-head z (free_names a ++ without y (without ys (free_names b)))) in
        let t = types_tail z (free_names a ++ without y (without ys (free_names b))) T U h in
        case_star_typed n n' (subst (λ t. t ≡ star (star_item t)) f e)
        (retype i U Q K (types_left (free_names a) (without y (without ys (free_names b))) T U t) w m)
        (retype j _ _ K
        (types_put ys (star_items (T z)) (star_items (U z)) (put y (star_item (T z)) T) (put y (star_item (U z)) U) (free_names b) (ap star_items f)
        (types_put y (star_item (T z)) (star_item (U z)) T U (without ys (free_names b)) (ap star_item f) (types_right (free_names a) (without y (without ys (free_names b))) T U t))) (within_row O Q y ys z w) m)
    retype (wait_typed {T = T} {H = H} {x = x} {r = r} {a = a} n i) U Q K h w m =
        let f = h.at x (holds-head x (free_names a)) in
        wait_typed (subst (λ t. null_of t ≡ false) f n)
        (subst (λ t. Typed funs counts Apart U Q (put x (Some (past t)) K) a r) f (retype i U Q (put x (Some (past (T x))) K) (types_tail x (free_names a) T U h) w (more_under x (past (T x)) H K m)))
    retype (call_typed {T = T} {O = O} {H = H} {f = f} {ms = ms} {es = es} e i as' o) U Q K h w m =
        call_typed e (pasts_more H K ms (past_types (funs f)) m i) (retype_all as' U Q K h w m)
        (λ u v k. record { in_order = before_within O Q (free_names (passed (funs f) es u)) (free_names (passed (funs f) es v)) w (o u v k).in_order; is_still = (o u v k).is_still })

    pub retype_all : {T : NameTypes} {O : Facts} {H : PastTypes} {es : CoreTerms} {ts : List StreamType} → TypedAll funs counts Apart T O H es ts → (U : NameTypes) (Q : Facts) (K : PastTypes) → SameTypes (free_in_terms es) T U → Within O Q → HasMore H K
        → TypedAll funs counts Apart U Q K es ts
    retype_all none_typed U Q K h w m = none_typed
    retype_all (more_typed {T = T} {e = e} {es = es} i as') U Q K h w m =
        more_typed (retype i U Q K (types_left (free_names e) (free_in_terms es) T U h) w m) (retype_all as' U Q K (types_right (free_names e) (free_in_terms es) T U h) w m)
