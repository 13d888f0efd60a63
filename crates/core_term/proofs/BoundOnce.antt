-- Where each name is bound once, the names of a destructuring are other than its subject and than one
-- another, and so the bodies of a program have derivations that keep this.
use Rattle.std.proofs.Common.{◌≡◌, ◌≢◌, ℕ, Bool, true, false, true≢false, not, ◌&&◌, ◌||◌, List, [], ◌∷◌, ◌++◌, eqb, if◌then◌else◌, length, refl, subst, sym}
use Rattle.std.proofs.lemmas.Bool.{eqb-true}
use Rattle.std.specs.Prelude.{is_some, Some, None}
use Rattle.stream_type.specs.StreamType.{StreamType}
use Rattle.bunch.specs.Names.{holds}
use Rattle.bunch.specs.BunchTree.{BunchTree, empty, leaf, comma, semi, leaf_names, IsDistinct, stands_before}
use Rattle.bunch.specs.Facts.{Facts}
use Rattle.bunch.proofs.Tests.{and_first, and_second}
use Rattle.core_term.specs.CoreTerm.{CoreTerm, CoreTerms, CoreBody, CoreProgram, past_names, fun_at, no_body}
use Rattle.core_term.specs.FreeNames.{without, free_names, free_in_terms, bound_in_exprs, bound_names, bound_in_terms, is_distinct, IsBoundOnce, IsCore}
use Rattle.core_term.specs.Environment.{NameTypes}
use Rattle.core_term.specs.Agreement.{types_in}
use Rattle.core_term.specs.Inert.{is_inert_fun}
use Rattle.core_term.specs.Typing.{context_of, past_params, IsTypedBody, IsTypedCore}
use Rattle.core_term.proofs.Sides.{holds-head, holds-left, holds-right}
use Rattle.core_term.proofs.Without.{holds-without, holds-tail}
use Rattle.core_term.proofs.TypedTerms.{PastTypes, Typed, TypedAll, derive, var_typed, eps_typed, unit_typed, nil_typed, past_typed, par_typed, cat_typed, cons_typed, inl_typed, inr_typed, let_typed, let_par_typed, let_cat_typed, case_sum_typed, case_star_typed, wait_typed, call_typed, none_typed, more_typed}
use Rattle.core_term.proofs.Monotone.{TypedBodies}
use Rattle.core_term.proofs.TypedRuns.{Any, at_index, extends_body, AreStreams, free_are_streams}

-- no name is bound twice, and none of the free ones is bound
pub record Once (free bound : List ℕ) : Type 0 where
  pub distinct : is_distinct bound ≡ true
  pub apart : (x : ℕ) → holds x free ≡ true → holds x bound ≡ true → ⊥

not-true : (b : Bool) → not b ≡ true → b ≡ true → ⊥
not-true true h e = true≢false (sym h)
not-true false h e = true≢false (sym e)

-- the first of distinct names isn't among the others
pub not_again : (x : ℕ) (xs : List ℕ) → is_distinct (x ∷ xs) ≡ true → holds x xs ≡ true → ⊥
not_again x xs d m = not-true (holds x xs) (and_first (not (holds x xs)) (is_distinct xs) d) m

pub distinct_tail : (x : ℕ) (xs : List ℕ) → is_distinct (x ∷ xs) ≡ true → is_distinct xs ≡ true
distinct_tail x xs d = and_second (not (holds x xs)) (is_distinct xs) d

pub distinct_head : (x : ℕ) (xs : List ℕ) → (holds x xs ≡ true → ⊥) → is_distinct xs ≡ true → is_distinct (x ∷ xs) ≡ true
distinct_head x xs n d = go (holds x xs) refl
  where
    go : (c : Bool) → holds x xs ≡ c → (not c && is_distinct xs) ≡ true
    go true e = absurd (n e)
    go false e = d

pub distinct_left : (xs ys : List ℕ) → is_distinct (xs ++ ys) ≡ true → is_distinct xs ≡ true
distinct_left [] ys d = refl
distinct_left (x ∷ xs) ys d = distinct_head x xs (λ m. not_again x (xs ++ ys) d (holds-left x xs ys m)) (distinct_left xs ys (distinct_tail x (xs ++ ys) d))

pub distinct_right : (xs ys : List ℕ) → is_distinct (xs ++ ys) ≡ true → is_distinct ys ≡ true
distinct_right [] ys d = d
distinct_right (x ∷ xs) ys d = distinct_right xs ys (distinct_tail x (xs ++ ys) d)

-- and no name of the left list is one of the right
pub distinct_apart : (xs ys : List ℕ) → is_distinct (xs ++ ys) ≡ true → (x : ℕ) → holds x xs ≡ true → holds x ys ≡ true → ⊥
distinct_apart [] ys d x m n = true≢false (sym m)
distinct_apart (z ∷ zs) ys d x m n = go (distinct_apart zs ys (distinct_tail z (zs ++ ys) d) x) (eqb x z) refl m
  where
    go : (holds x zs ≡ true → holds x ys ≡ true → ⊥) → (c : Bool) → eqb x z ≡ c → (c || holds x zs) ≡ true → ⊥
    go f true e k = not_again z (zs ++ ys) d (holds-right z zs ys (subst (λ w. holds w ys ≡ true) (eqb-true x z e) n))
    go f false e k = f k n

-- of two lists without a name twice each name of the second isn't in the first
pub parts_apart : (xs ys : List ℕ) → is_distinct (xs ++ ys) ≡ true → (x : ℕ) → holds x ys ≡ true → holds x xs ≡ false
parts_apart xs ys h x m = go (holds x xs) refl
  where
    go : (c : Bool) → holds x xs ≡ c → c ≡ false
    go true e = absurd (distinct_apart xs ys h x e m)
    go false e = refl

-- so a bunch without a name twice is distinct
pub distinct_bunch : (b : BunchTree) → is_distinct (leaf_names b) ≡ true → IsDistinct b
distinct_bunch empty h = tt
distinct_bunch (leaf x t) h = tt
distinct_bunch (comma a b) h = (distinct_bunch a (distinct_left (leaf_names a) (leaf_names b) h), distinct_bunch b (distinct_right (leaf_names a) (leaf_names b) h), parts_apart (leaf_names a) (leaf_names b) h)
distinct_bunch (semi a b) h = (distinct_bunch a (distinct_left (leaf_names a) (leaf_names b) h), distinct_bunch b (distinct_right (leaf_names a) (leaf_names b) h), parts_apart (leaf_names a) (leaf_names b) h)

once_left : (f g b c : List ℕ) → Once (f ++ g) (b ++ c) → Once f b
once_left f g b c h = record { distinct = distinct_left b c h.distinct; apart = λ x m n. h.apart x (holds-left x f g m) (holds-left x b c n) }

once_right : (f g b c : List ℕ) → Once (f ++ g) (b ++ c) → Once g c
once_right f g b c h = record { distinct = distinct_right b c h.distinct; apart = λ x m n. h.apart x (holds-right x f g m) (holds-right x b c n) }

once_bound_right : (f b c : List ℕ) → Once f (b ++ c) → Once f c
once_bound_right f b c h = record { distinct = distinct_right b c h.distinct; apart = λ x m n. h.apart x m (holds-right x b c n) }

once_tail : (z : ℕ) (f b : List ℕ) → Once (z ∷ f) b → Once f b
once_tail z f b h = record { distinct = h.distinct; apart = λ x m n. h.apart x (holds-tail x z f m) n }

once_bound_tail : (f : List ℕ) (x : ℕ) (b : List ℕ) → Once f (x ∷ b) → Once f b
once_bound_tail f x b h = record { distinct = distinct_tail x b h.distinct; apart = λ y m n. h.apart y m (holds-tail y x b n) }

-- under a name that isn't bound again
once_under : (x : ℕ) (f b : List ℕ) → (holds x b ≡ true → ⊥) → Once (without x f) b → Once f b
once_under x f b k h = record { distinct = h.distinct; apart = λ y m n. go y (eqb y x) refl m n }
  where
    go : (y : ℕ) (c : Bool) → eqb y x ≡ c → holds y f ≡ true → holds y b ≡ true → ⊥
    go y true e m n = k (subst (λ w. holds w b ≡ true) (eqb-true y x e) n)
    go y false e m n = h.apart y (holds-without y x f e m) n

once_below : (x : ℕ) (f b : List ℕ) → Once (without x f) (x ∷ b) → Once f b
once_below x f b h = once_under x f b (not_again x b h.distinct) (once_bound_tail (without x f) x b h)

-- under two names
once_below_two : (x y : ℕ) (f b : List ℕ) → Once (without x (without y f)) (x ∷ (y ∷ b)) → Once f b
once_below_two x y f b h = once_below y f b (once_below x (without y f) (y ∷ b) h)

-- a bound name isn't a free one
differs : (z x : ℕ) (f b : List ℕ) → Once (z ∷ f) b → holds x b ≡ true → x ≢ z
differs z x f b h m e = h.apart z (holds-head z f) (subst (λ w. holds w b ≡ true) e m)

-- and two bound names are different
pub differ : (x y : ℕ) (b : List ℕ) → is_distinct (x ∷ (y ∷ b)) ≡ true → x ≢ y
differ x y b d e = not_again x (y ∷ b) d (subst (λ w. holds w (y ∷ b) ≡ true) (sym e) (holds-head y b))

module _ (funs : ℕ → CoreBody) (counts : ℕ → Bool) where
  mutual
    -- a derivation of a term that binds each name once, and none of its free names
    pub bound_once : {T : NameTypes} {O : Facts} {H : PastTypes} {e : CoreTerm} {r : StreamType} → Typed funs counts Any T O H e r → Once (free_names e) (bound_names e) → Typed funs counts ◌≢◌ T O H e r
    bound_once (var_typed i) h = var_typed i
    bound_once eps_typed h = eps_typed
    bound_once unit_typed h = unit_typed
    bound_once nil_typed h = nil_typed
    bound_once (past_typed i) h = past_typed i
    bound_once (par_typed {a = a} {b = b} i j) h =
        par_typed (bound_once i (once_left (free_names a) (free_names b) (bound_names a) (bound_names b) h)) (bound_once j (once_right (free_names a) (free_names b) (bound_names a) (bound_names b) h))
    bound_once (cat_typed {a = a} {b = b} i j o) h =
        cat_typed (bound_once i (once_left (free_names a) (free_names b) (bound_names a) (bound_names b) h)) (bound_once j (once_right (free_names a) (free_names b) (bound_names a) (bound_names b) h)) o
    bound_once (cons_typed {a = a} {b = b} i j o) h =
        cons_typed (bound_once i (once_left (free_names a) (free_names b) (bound_names a) (bound_names b) h)) (bound_once j (once_right (free_names a) (free_names b) (bound_names a) (bound_names b) h)) o
    bound_once (inl_typed i) h = inl_typed (bound_once i h)
    bound_once (inr_typed i) h = inr_typed (bound_once i h)
    bound_once (let_typed {x = x} {a = a} {b = b} i j) h =
        let f = free_names a ++ without x (free_names b) in
        let k = once_bound_tail f x (bound_names a ++ bound_names b) h in
        let_typed (bound_once i (once_left (free_names a) (without x (free_names b)) (bound_names a) (bound_names b) k))
        (bound_once j (once_under x (free_names b) (bound_names b) (λ m. not_again x (bound_names a ++ bound_names b) h.distinct (holds-right x (bound_names a) (bound_names b) m))
        (once_right (free_names a) (without x (free_names b)) (bound_names a) (bound_names b) k)))
    bound_once (let_par_typed {x = x} {y = y} {z = z} {a = a} n e i) h =
        let_par_typed (differs z x _ _ h (holds-head x (y ∷ bound_names a))) e (bound_once i (once_below_two x y (free_names a) (bound_names a) (once_tail z _ _ h)))
    bound_once (let_cat_typed {x = x} {y = y} {z = z} {a = a} n m e i) h =
        let_cat_typed (differs z x _ _ h (holds-head x (y ∷ bound_names a))) (differ x y (bound_names a) h.distinct) e (bound_once i (once_below_two x y (free_names a) (bound_names a) (once_tail z _ _ h)))
    bound_once (case_sum_typed {x = x} {y = y} {z = z} {a = a} {b = b} e i j) h =
        let k = once_tail z (without x (free_names a) ++ without y (free_names b)) ((x ∷ bound_names a) ++ (y ∷ bound_names b)) h in
        case_sum_typed e (bound_once i (once_below x (free_names a) (bound_names a) (once_left (without x (free_names a)) (without y (free_names b)) (x ∷ bound_names a) (y ∷ bound_names b) k)))
        (bound_once j (once_below y (free_names b) (bound_names b) (once_right (without x (free_names a)) (without y (free_names b)) (x ∷ bound_names a) (y ∷ bound_names b) k)))
    bound_once (case_star_typed {y = y} {ys = ys} {z = z} {a = a} {b = b} n m e i j) h =
        let f = without y (without ys (free_names b)) in
        let k = once_tail z (free_names a ++ f) (bound_names a ++ (y ∷ (ys ∷ bound_names b))) h in
        let l = once_right (free_names a) f (bound_names a) (y ∷ (ys ∷ bound_names b)) k in
        case_star_typed (differs z y _ _ h (holds-right y (bound_names a) (y ∷ (ys ∷ bound_names b)) (holds-head y (ys ∷ bound_names b)))) (differ y ys (bound_names b) l.distinct) e
        (bound_once i (once_left (free_names a) f (bound_names a) (y ∷ (ys ∷ bound_names b)) k)) (bound_once j (once_below_two y ys (free_names b) (bound_names b) l))
    bound_once (wait_typed {x = x} {a = a} n i) h = wait_typed n (bound_once i (once_tail x (free_names a) (bound_names a) h))
    bound_once (call_typed {ms = ms} {es = es} e i as' o) h = call_typed e i (bound_once_all as' (once_bound_right (free_in_terms es) (bound_in_exprs ms) (bound_in_terms es) h)) o

    pub bound_once_all : {T : NameTypes} {O : Facts} {H : PastTypes} {es : CoreTerms} {ts : List StreamType} → TypedAll funs counts Any T O H es ts → Once (free_in_terms es) (bound_in_terms es) → TypedAll funs counts ◌≢◌ T O H es ts
    bound_once_all none_typed h = none_typed
    bound_once_all (more_typed {e = e} {es = es} i as') h =
        more_typed (bound_once i (once_left (free_names e) (free_in_terms es) (bound_names e) (bound_in_terms es) h)) (bound_once_all as' (once_right (free_names e) (free_in_terms es) (bound_names e) (bound_in_terms es) h))

-- a typed body that binds each name once has a derivation that keeps it, over the types of its parameters
pub body_derivation : (funs : List CoreBody) (texts : ℕ) (b : CoreBody) → IsBoundOnce texts b → IsTypedBody funs b
    → Typed (fun_at funs) (is_inert_fun funs) ◌≢◌ (types_in b.params) (stands_before b.params) (past_params b.past) b.body b.result
body_derivation funs texts b o h =
    bound_once (fun_at funs) (is_inert_fun funs) (derive funs (is_inert_fun funs) Any (λ x z. tt) b.body (context_of b) (types_in b.params) (past_params b.past) b.result (extends_body b) h)
    (record {
      distinct = distinct_right (leaf_names b.params) (bound_names b.body) d;
      apart = λ x m n. distinct_apart (leaf_names b.params) (bound_names b.body) d x (param x (streams.at x m)) n;
    })
  where
    d : is_distinct (leaf_names b.params ++ bound_names b.body) ≡ true
    d = distinct_right (past_names b) (leaf_names b.params ++ bound_names b.body) o.is_once

    streams : AreStreams (context_of b) (free_names b.body)
    streams = free_are_streams funs (is_inert_fun funs) b.body (context_of b) b.result h

    param : (x : ℕ) → is_some ((context_of b).types x) ≡ true → holds x (leaf_names b.params) ≡ true
    param x m = go (holds x (leaf_names b.params)) m
      where
        go : (c : Bool) → is_some (if c then Some (types_in b.params x) else None) ≡ true → c ≡ true
        go true k = refl
        go false k = k

module _ (c : CoreProgram) (core : IsCore c) (typed : IsTypedCore c) where
  -- so has each function's body
  pub core_bodies : TypedBodies (fun_at c.funs) (is_inert_fun c.funs) ◌≢◌
  core_bodies = record {
    body = λ f. body_derivation c.funs (length c.texts) (fun_at c.funs f)
        (at_index (IsBoundOnce (length c.texts)) no_body c.funs core.funs_once (record { is_once = refl; has_text = λ x m. absurd (true≢false (sym m)) }) f)
        (at_index (IsTypedBody c.funs) no_body c.funs typed.funs_typed refl f);
  }

  -- and the main program's
  pub core_main : Typed (fun_at c.funs) (is_inert_fun c.funs) ◌≢◌ (types_in c.main.params) (stands_before c.main.params) (past_params c.main.past) c.main.body c.main.result
  core_main = body_derivation c.funs (length c.texts) c.main core.main_once typed.main_typed
