-- Each split agrees, and each environment that agrees is the split of a prefix, the greatest of which is the gathered one.
use Rattle.std.proofs.Common.{◌≡◌, ◌∙◌, Bool, true, false, true≢false, [], ◌&&◌, ◌||◌, ◌++◌, inl, inr, ⊎_elim, if◌then◌else◌, ap, ap₂, eqb, refl, subst, sym}
use Rattle.std.proofs.lemmas.Bool.{eqb-true}
use Rattle.std.specs.List.{list_all}
use Rattle.stream_type.specs.StreamType.{cat}
use Rattle.stream_prefix.specs.StreamPrefix.{StreamPrefix, eps_emp, cat_fst, cat_both, emp, is_maximal, IsPrefix, IsPart}
use Rattle.stream_prefix.proofs.Derivations.{Derives, derives, is_prefix, eps_has_emp, par_has_both, cat_has_fst, cat_has_both}
use Rattle.stream_prefix.proofs.Joins.{emp_is_prefix}
use Rattle.stream_prefix.proofs.Parts.{part_refl, part_of_maximal, part_par, part_fst, part_cut, part_both}
use Rattle.bunch.specs.BunchTree.{BunchTree, empty, leaf, comma, semi, leaf_names, as_type, stands_before, AreApart, IsDistinct}
use Rattle.core_term.specs.Environment.{Environment, by_side, untyped, nothing, empty_at, IsTypedOn, IsWholeOn, IsEmptyOn, IsSameOn}
use Rattle.core_term.specs.Agreement.{types_in, AgreesInTree, Agrees}
use Rattle.core_term.specs.Split.{split, split_after, gathered}
use Rattle.core_term.specs.Laws.{SplitAgrees, GatheredSplits, GatheredIsGreatest, SplitAfterAgrees}
use Rattle.core_term.proofs.Sides.{holds-head, holds-left, holds-right, holds-split, all-holds, holds-all, by_left, by_right, put-same}
use Rattle.core_term.proofs.Agreements.{order_of_tree}
use Rattle.core_term.proofs.Splits.{split_whole, split_is_typed, split_after_is_typed, split_of_join}
use Rattle.core_term.proofs.Taking.{rest_agrees}
use Rattle.stream_prefix.proofs.PrefixLaws.{join_is_prefix}

-- agreement depends on the bunch's names alone
same_agrees : (b : BunchTree) (env other : Environment) → IsSameOn (leaf_names b) env other → AgreesInTree b env → AgreesInTree b other
same_agrees empty env other s h = tt
same_agrees (leaf z t) env other s h = tt
same_agrees (comma a b) env other s h = (
  same_agrees a env other (λ x m. s x (holds-left x (leaf_names a) (leaf_names b) m)) h.0,
  same_agrees b env other (λ x m. s x (holds-right x (leaf_names a) (leaf_names b) m)) h.1,
)
same_agrees (semi a b) env other s h = (
  same_agrees a env other (λ x m. s x (holds-left x (leaf_names a) (leaf_names b) m)) h.0,
  same_agrees b env other (λ x m. s x (holds-right x (leaf_names a) (leaf_names b) m)) h.1,
  ⊎_elim (λ w. inl (λ x m. ap is_maximal (sym (s x (holds-left x (leaf_names a) (leaf_names b) m))) ∙ w x m))
      (λ e. inr (λ x m. sym (s x (holds-right x (leaf_names a) (leaf_names b) m)) ∙ e x m)) h.2,
)

-- what each side has is what both have, at its own names
pub same_left : (a : BunchTree) (f g : Environment) → IsSameOn (leaf_names a) f (by_side (leaf_names a) f g)
same_left a f g x m = sym (by_left (leaf_names a) f g x m)

pub same_right : (a b : BunchTree) → AreApart (leaf_names a) (leaf_names b) → (f g : Environment) → IsSameOn (leaf_names b) g (by_side (leaf_names a) f g)
same_right a b apart f g x m = sym (by_right (leaf_names a) f g x (apart x m))

-- nothing has come on any stream: this agrees with every bunch
empty_agrees : (b : BunchTree) → IsDistinct b → AgreesInTree b (empty_at (types_in b))
empty_agrees empty d = tt
empty_agrees (leaf z t) d = tt
empty_agrees (comma a b) d = (
  same_agrees a (empty_at (types_in a)) (empty_at (types_in (comma a b))) (λ x m. ap emp (sym (by_left (leaf_names a) (types_in a) (types_in b) x m))) (empty_agrees a d.0),
  same_agrees b (empty_at (types_in b)) (empty_at (types_in (comma a b))) (λ x m. ap emp (sym (by_right (leaf_names a) (types_in a) (types_in b) x (d.2 x m)))) (empty_agrees b d.1),
)
empty_agrees (semi a b) d = (
  same_agrees a (empty_at (types_in a)) (empty_at (types_in (semi a b))) (λ x m. ap emp (sym (by_left (leaf_names a) (types_in a) (types_in b) x m))) (empty_agrees a d.0),
  same_agrees b (empty_at (types_in b)) (empty_at (types_in (semi a b))) (λ x m. ap emp (sym (by_right (leaf_names a) (types_in a) (types_in b) x (d.2 x m)))) (empty_agrees b d.1),
  inr (λ x m. ap emp (by_right (leaf_names a) (types_in a) (types_in b) x (d.2 x m))),
)

-- a split agrees
pub split_agrees_in_tree : (b : BunchTree) → IsDistinct b → {p : StreamPrefix} → Derives (as_type b) p → AgreesInTree b (split b p)
split_agrees_in_tree empty d h = tt
split_agrees_in_tree (leaf z t) d h = tt
split_agrees_in_tree (comma a b) d (par_has_both {p = p} {q = q} h k) = (
  same_agrees a (split a p) (by_side (leaf_names a) (split a p) (split b q)) (same_left a (split a p) (split b q)) (split_agrees_in_tree a d.0 h),
  same_agrees b (split b q) (by_side (leaf_names a) (split a p) (split b q)) (same_right a b d.2 (split a p) (split b q)) (split_agrees_in_tree b d.1 k),
)
split_agrees_in_tree (semi a b) d (cat_has_fst {p = p} h) = (
  same_agrees a (split a p) (by_side (leaf_names a) (split a p) (empty_at (types_in b))) (same_left a (split a p) (empty_at (types_in b))) (split_agrees_in_tree a d.0 h),
  same_agrees b (empty_at (types_in b)) (by_side (leaf_names a) (split a p) (empty_at (types_in b))) (same_right a b d.2 (split a p) (empty_at (types_in b))) (empty_agrees b d.1),
  inr (λ x m. by_right (leaf_names a) (split a p) (empty_at (types_in b)) x (d.2 x m)),
)
split_agrees_in_tree (semi a b) d (cat_has_both {p = p} {q = q} h m k) = (
  same_agrees a (split a p) (by_side (leaf_names a) (split a p) (split b q)) (same_left a (split a p) (split b q)) (split_agrees_in_tree a d.0 h),
  same_agrees b (split b q) (by_side (leaf_names a) (split a p) (split b q)) (same_right a b d.2 (split a p) (split b q)) (split_agrees_in_tree b d.1 k),
  inl (λ x l. ap is_maximal (by_left (leaf_names a) (split a p) (split b q) x l) ∙ split_whole a h m x),
)

pub split_agrees : SplitAgrees
split_agrees b d p h = split_agrees_in_tree b d (derives (as_type b) p h)

-- what comes later agrees too, since the split of both together does
pub split_after_agrees : SplitAfterAgrees
split_after_agrees b d p r h k =
    rest_agrees (types_in b) (stands_before b) (split b p) (split_after b p r) (split_is_typed b p h) (split_after_is_typed b p r h k)
    (subst (Agrees (types_in b) (stands_before b)) (split_of_join b p r h k)
    (order_of_tree b d _ (split_agrees b d _ (join_is_prefix (as_type b) p r h k))))

-- a whole environment gathers to a whole prefix
pub gathered_whole : (b : BunchTree) (env : Environment) → IsWholeOn (leaf_names b) env → is_maximal (gathered b env) ≡ true
gathered_whole empty env h = refl
gathered_whole (leaf x t) env h = h x (holds-head x [])
gathered_whole (comma a b) env h =
    ap₂ ◌&&◌ (gathered_whole a env (λ x m. h x (holds-left x (leaf_names a) (leaf_names b) m))) (gathered_whole b env (λ x m. h x (holds-right x (leaf_names a) (leaf_names b) m)))
gathered_whole (semi a b) env h =
    ap (λ c. is_maximal (if c then cat_both (gathered a env) (gathered b env) else cat_fst (gathered a env)))
    (holds-all (λ x. is_maximal (env x)) (leaf_names a) (λ x m. h x (holds-left x (leaf_names a) (leaf_names b) m)))
    ∙ ap₂ ◌&&◌ (gathered_whole a env (λ x m. h x (holds-left x (leaf_names a) (leaf_names b) m))) (gathered_whole b env (λ x m. h x (holds-right x (leaf_names a) (leaf_names b) m)))

-- the types of the two sides
typed_left : (a b : BunchTree) (env : Environment) → IsTypedOn (leaf_names a ++ leaf_names b) (by_side (leaf_names a) (types_in a) (types_in b)) env → IsTypedOn (leaf_names a) (types_in a) env
typed_left a b env h x m = subst (λ t. IsPrefix t (env x)) (by_left (leaf_names a) (types_in a) (types_in b) x m) (h x (holds-left x (leaf_names a) (leaf_names b) m))

typed_right : (a b : BunchTree) → AreApart (leaf_names a) (leaf_names b) → (env : Environment) → IsTypedOn (leaf_names a ++ leaf_names b) (by_side (leaf_names a) (types_in a) (types_in b)) env → IsTypedOn (leaf_names b) (types_in b) env
typed_right a b apart env h x m = subst (λ t. IsPrefix t (env x)) (by_right (leaf_names a) (types_in a) (types_in b) x (apart x m)) (h x (holds-right x (leaf_names a) (leaf_names b) m))

-- an environment gathers to a prefix of the bunch's type
pub gathered_derives : (b : BunchTree) → IsDistinct b → (env : Environment) → IsTypedOn (leaf_names b) (types_in b) env → Derives (as_type b) (gathered b env)
gathered_derives empty d env h = eps_has_emp
gathered_derives (leaf x t) d env h = derives t (env x) (subst (λ s. IsPrefix s (env x)) (put-same x t untyped) (h x (holds-head x [])))
gathered_derives (comma a b) d env h = par_has_both (gathered_derives a d.0 env (typed_left a b env h)) (gathered_derives b d.1 env (typed_right a b d.2 env h))
gathered_derives (semi a b) d env h =
    go (list_all (λ x. is_maximal (env x)) (leaf_names a)) refl (gathered_derives a d.0 env (typed_left a b env h)) (gathered_derives b d.1 env (typed_right a b d.2 env h))
  where
    go : (c : Bool) → list_all (λ x. is_maximal (env x)) (leaf_names a) ≡ c → Derives (as_type a) (gathered a env) → Derives (as_type b) (gathered b env)
        → Derives (cat (as_type a) (as_type b)) (if c then cat_both (gathered a env) (gathered b env) else cat_fst (gathered a env))
    go true e l r = cat_has_both l (gathered_whole a env (all-holds (λ x. is_maximal (env x)) (leaf_names a) e)) r
    go false e l r = cat_has_fst l

-- a name is on one side
one_side : (a b : BunchTree) → AreApart (leaf_names a) (leaf_names b) → (f g env : Environment) → IsSameOn (leaf_names a) f env → IsSameOn (leaf_names b) g env → IsSameOn (leaf_names a ++ leaf_names b) (by_side (leaf_names a) f g) env
one_side a b apart f g env l r x m =
    ⊎_elim (λ i. by_left (leaf_names a) f g x i ∙ l x i) (λ i. by_right (leaf_names a) f g x (apart x i) ∙ r x i) (holds-split x (leaf_names a) (leaf_names b) m)

-- and the split of that prefix is the environment
pub split_gathered : (b : BunchTree) → IsDistinct b → (env : Environment) → AgreesInTree b env → IsSameOn (leaf_names b) (split b (gathered b env)) env
split_gathered empty d env h x m = absurd (true≢false (sym m))
split_gathered (leaf z t) d env h x m = go (eqb x z) refl m
  where
    go : (c : Bool) → eqb x z ≡ c → (c || false) ≡ true → (if c then env z else eps_emp) ≡ env x
    go true e n = ap env (sym (eqb-true x z e))
    go false e n = absurd (true≢false (sym n))
split_gathered (comma a b) d env h x m = one_side a b d.2 (split a (gathered a env)) (split b (gathered b env)) env (split_gathered a d.0 env h.0) (split_gathered b d.1 env h.1) x m
split_gathered (semi a b) d env h x m = go (list_all (λ z. is_maximal (env z)) (leaf_names a)) refl (split_gathered a d.0 env h.0) (split_gathered b d.1 env h.1) x m
  where
    go : (c : Bool) → list_all (λ z. is_maximal (env z)) (leaf_names a) ≡ c → IsSameOn (leaf_names a) (split a (gathered a env)) env → IsSameOn (leaf_names b) (split b (gathered b env)) env
        → IsSameOn (leaf_names a ++ leaf_names b) (split (semi a b) (if c then cat_both (gathered a env) (gathered b env) else cat_fst (gathered a env))) env
    go true e l r = one_side a b d.2 (split a (gathered a env)) (split b (gathered b env)) env l r
    go false e l r =
        one_side a b d.2 (split a (gathered a env)) (empty_at (types_in b)) env l
        (λ y n. ⊎_elim (λ w. absurd (true≢false (sym (holds-all (λ z. is_maximal (env z)) (leaf_names a) w) ∙ e))) (λ f. sym (f y n)) h.2)

pub gathered_splits : GatheredSplits
gathered_splits b d env t h = record { is_prefix = is_prefix (gathered_derives b d env t); splits = split_gathered b d env h }

-- each prefix that splits into an environment is a part of the gathered one
pub part_of_gathered : (b : BunchTree) → IsDistinct b → (env : Environment) {p : StreamPrefix} → Derives (as_type b) p → IsSameOn (leaf_names b) (split b p) env → IsPart (as_type b) p (gathered b env)
part_of_gathered empty d env eps_has_emp s = part_refl eps_has_emp
part_of_gathered (leaf z t) d env {p = p} h s = subst (IsPart t p) (sym (put-same z p nothing) ∙ s z (holds-head z [])) (part_refl h)
part_of_gathered (comma a b) d env (par_has_both {p = p} {q = q} h k) s =
    part_par
    (part_of_gathered a d.0 env h (λ x m. same_left a (split a p) (split b q) x m ∙ s x (holds-left x (leaf_names a) (leaf_names b) m)))
    (part_of_gathered b d.1 env k (λ x m. same_right a b d.2 (split a p) (split b q) x m ∙ s x (holds-right x (leaf_names a) (leaf_names b) m)))
part_of_gathered (semi a b) d env (cat_has_fst {p = p} h) s =
    go (list_all (λ x. is_maximal (env x)) (leaf_names a)) refl
    (part_of_gathered a d.0 env h (λ x m. same_left a (split a p) (empty_at (types_in b)) x m ∙ s x (holds-left x (leaf_names a) (leaf_names b) m)))
  where
    empty_right : IsEmptyOn (leaf_names b) (types_in b) env
    empty_right x m = sym (s x (holds-right x (leaf_names a) (leaf_names b) m)) ∙ by_right (leaf_names a) (split a p) (empty_at (types_in b)) x (d.2 x m)

    go : (c : Bool) → list_all (λ x. is_maximal (env x)) (leaf_names a) ≡ c → IsPart (as_type a) p (gathered a env)
        → IsPart (cat (as_type a) (as_type b)) (cat_fst p) (if c then cat_both (gathered a env) (gathered b env) else cat_fst (gathered a env))
    go true e g =
        part_cut h g (gathered_whole a env (all-holds (λ x. is_maximal (env x)) (leaf_names a) e))
        (gathered_derives b d.1 env (λ x m. subst (IsPrefix (types_in b x)) (sym (empty_right x m)) (is_prefix (emp_is_prefix (types_in b x)))))
    go false e g = part_fst g
part_of_gathered (semi a b) d env (cat_has_both {p = p} {q = q} h n k) s =
    subst (λ c. IsPart (cat (as_type a) (as_type b)) (cat_both p q) (if c then cat_both (gathered a env) (gathered b env) else cat_fst (gathered a env)))
    (sym (holds-all (λ x. is_maximal (env x)) (leaf_names a) whole_left))
    (subst (λ w. IsPart (cat (as_type a) (as_type b)) (cat_both p q) (cat_both w (gathered b env)))
    (sym (part_of_maximal h n (part_of_gathered a d.0 env h (λ x m. same_left a (split a p) (split b q) x m ∙ s x (holds-left x (leaf_names a) (leaf_names b) m)))))
    (part_both (part_of_gathered b d.1 env k (λ x m. same_right a b d.2 (split a p) (split b q) x m ∙ s x (holds-right x (leaf_names a) (leaf_names b) m)))))
  where
    whole_left : IsWholeOn (leaf_names a) env
    whole_left x m =
        ap is_maximal (sym (s x (holds-left x (leaf_names a) (leaf_names b) m)) ∙ by_left (leaf_names a) (split a p) (split b q) x m) ∙ split_whole a h n x

pub gathered_is_greatest : GatheredIsGreatest
gathered_is_greatest b d env p s = part_of_gathered b d env (derives (as_type b) p s.is_prefix) s.splits
