-- Of the prefixes that split into an environment one has each mark that may have come.
use Rattle.std.proofs.Common.{◌≡◌, ◌∙◌, Bool, true, false, true≢false, [], ◌&&◌, ◌||◌, ⊎_elim, if◌then◌else◌, ap, ap₂, eqb, refl, sym}
use Rattle.std.proofs.lemmas.Bool.{eqb-true}
use Rattle.std.specs.Prelude.{IsTrue}
use Rattle.std.specs.List.{list_all}
use Rattle.stream_prefix.specs.StreamPrefix.{StreamPrefix, par_both, cat_fst, cat_both, is_maximal}
use Rattle.stream_prefix.proofs.Derivations.{Derives, derives, eps_has_emp, par_has_both, cat_has_fst, cat_has_both}
use Rattle.bunch.specs.BunchTree.{BunchTree, empty, leaf, comma, semi, leaf_names, as_type, IsDistinct}
use Rattle.bunch.proofs.Tests.{and_first, and_second}
use Rattle.core_term.specs.Environment.{Environment, nothing, empty_at, IsWholeOn, IsSameOn}
use Rattle.core_term.specs.Agreement.{types_in}
use Rattle.core_term.specs.Split.{split, gathered, HasEachMark}
use Rattle.core_term.specs.Laws.{GatheredHasEachMark, GatheredIsUnique}
use Rattle.core_term.proofs.Sides.{holds-head, holds-left, holds-right, holds-split, all-holds, holds-all, by_left, put-same}
use Rattle.core_term.proofs.Splits.{split_whole}
use Rattle.core_term.proofs.Gathering.{same_left, same_right, gathered_whole}

-- what gathers to a whole prefix is whole
whole_gathered : (b : BunchTree) (env : Environment) → is_maximal (gathered b env) ≡ true → IsWholeOn (leaf_names b) env
whole_gathered empty env w x m = absurd (true≢false (sym m))
whole_gathered (leaf z t) env w x m = go (eqb x z) refl m
  where
    go : (c : Bool) → eqb x z ≡ c → (c || false) ≡ true → IsTrue (is_maximal (env x))
    go true e n = ap (λ y. is_maximal (env y)) (eqb-true x z e) ∙ w
    go false e n = absurd (true≢false (sym n))
whole_gathered (comma a b) env w x m =
    ⊎_elim (λ l. whole_gathered a env (and_first (is_maximal (gathered a env)) (is_maximal (gathered b env)) w) x l)
    (λ r. whole_gathered b env (and_second (is_maximal (gathered a env)) (is_maximal (gathered b env)) w) x r)
    (holds-split x (leaf_names a) (leaf_names b) m)
whole_gathered (semi a b) env w x m =
    ⊎_elim (λ l. whole_gathered a env (and_first (is_maximal (gathered a env)) (is_maximal (gathered b env)) (cut (list_all (λ z. is_maximal (env z)) (leaf_names a)) w)) x l)
    (λ r. whole_gathered b env (and_second (is_maximal (gathered a env)) (is_maximal (gathered b env)) (cut (list_all (λ z. is_maximal (env z)) (leaf_names a)) w)) x r)
    (holds-split x (leaf_names a) (leaf_names b) m)
  where
    cut : (c : Bool) → is_maximal (if c then cat_both (gathered a env) (gathered b env) else cat_fst (gathered a env)) ≡ true → (is_maximal (gathered a env) && is_maximal (gathered b env)) ≡ true
    cut true k = k
    cut false k = absurd (true≢false (sym k))

pub gathered_has_each_mark : GatheredHasEachMark
gathered_has_each_mark empty env = tt
gathered_has_each_mark (leaf x t) env = tt
gathered_has_each_mark (comma a b) env = (gathered_has_each_mark a env, gathered_has_each_mark b env)
gathered_has_each_mark (semi a b) env = go (list_all (λ z. is_maximal (env z)) (leaf_names a)) refl (gathered_has_each_mark a env) (gathered_has_each_mark b env)
  where
    short : list_all (λ z. is_maximal (env z)) (leaf_names a) ≡ false → (c : Bool) → is_maximal (gathered a env) ≡ c → is_maximal (gathered a env) ≡ false
    short e true w = absurd (true≢false (sym (holds-all (λ z. is_maximal (env z)) (leaf_names a) (whole_gathered a env w)) ∙ e))
    short e false w = w

    go : (c : Bool) → list_all (λ z. is_maximal (env z)) (leaf_names a) ≡ c → HasEachMark a (gathered a env) → HasEachMark b (gathered b env)
        → HasEachMark (semi a b) (if c then cat_both (gathered a env) (gathered b env) else cat_fst (gathered a env))
    go true e l r = (l, r)
    go false e l r = (l, short e (is_maximal (gathered a env)) refl)

-- a prefix with each mark is what its split gathers to
is_gathered : (b : BunchTree) → IsDistinct b → (env : Environment) {p : StreamPrefix} → Derives (as_type b) p → HasEachMark b p → IsSameOn (leaf_names b) (split b p) env → p ≡ gathered b env
is_gathered empty d env eps_has_emp k s = refl
is_gathered (leaf z t) d env {p = p} h k s = sym (put-same z p nothing) ∙ s z (holds-head z [])
is_gathered (comma a b) d env (par_has_both {p = p} {q = q} h i) k s =
    ap₂ par_both (is_gathered a d.0 env h k.0 (λ x m. same_left a (split a p) (split b q) x m ∙ s x (holds-left x (leaf_names a) (leaf_names b) m)))
    (is_gathered b d.1 env i k.1 (λ x m. same_right a b d.2 (split a p) (split b q) x m ∙ s x (holds-right x (leaf_names a) (leaf_names b) m)))
is_gathered (semi a b) d env (cat_has_fst {p = p} h) k s =
    go (list_all (λ z. is_maximal (env z)) (leaf_names a)) refl
    (is_gathered a d.0 env h k.0 (λ x m. same_left a (split a p) (empty_at (types_in b)) x m ∙ s x (holds-left x (leaf_names a) (leaf_names b) m)))
  where
    go : (c : Bool) → list_all (λ z. is_maximal (env z)) (leaf_names a) ≡ c → p ≡ gathered a env → cat_fst p ≡ (if c then cat_both (gathered a env) (gathered b env) else cat_fst (gathered a env))
    go true e g = absurd (true≢false (sym (ap is_maximal g ∙ gathered_whole a env (all-holds (λ z. is_maximal (env z)) (leaf_names a) e)) ∙ k.1))
    go false e g = ap cat_fst g
is_gathered (semi a b) d env (cat_has_both {p = p} {q = q} h n i) k s =
    ap₂ cat_both (is_gathered a d.0 env h k.0 (λ x m. same_left a (split a p) (split b q) x m ∙ s x (holds-left x (leaf_names a) (leaf_names b) m)))
    (is_gathered b d.1 env i k.1 (λ x m. same_right a b d.2 (split a p) (split b q) x m ∙ s x (holds-right x (leaf_names a) (leaf_names b) m)))
    ∙ sym (ap (λ c. if c then cat_both (gathered a env) (gathered b env) else cat_fst (gathered a env)) (holds-all (λ z. is_maximal (env z)) (leaf_names a) whole_left))
  where
    whole_left : IsWholeOn (leaf_names a) env
    whole_left x m =
        ap is_maximal (sym (s x (holds-left x (leaf_names a) (leaf_names b) m)) ∙ by_left (leaf_names a) (split a p) (split b q) x m) ∙ split_whole a h n x

pub gathered_is_unique : GatheredIsUnique
gathered_is_unique b d env p s k = is_gathered b d env (derives (as_type b) p s.is_prefix) k s.splits
