-- A core binds each number at most once, and those that it binds are the numbers of its variables.
use Rattle.std.proofs.Common.{◌≡◌, ◌≢◌, ℕ, zero, suc, ◌+◌, ◌≤◌, ◌<◌, ◌⊎◌, inl, inr, Bool, true, false, true≢false, not, ◌&&◌, ◌||◌, if◌then◌else◌, List, [], ◌∷◌, ◌++◌, length, map, eqb, Some, None, refl, sym, ap, ap₂, ◌∙◌, subst, arith, length-append, append-nil}
use Rattle.std.specs.List.{All}
use Rattle.std.proofs.lemmas.List.{length-map}
use Rattle.std.proofs.lemmas.Bool.{eqb-true, eq-eqb, ne_eqb, cases_lt}
use Rattle.stream_type.specs.StreamType.{StreamType}
use Rattle.bunch.specs.Names.{holds}
use Rattle.bunch.specs.BunchTree.{leaf_names}
use Rattle.hist_value.specs.HistExpr.{HistExpr, variable, literal, unit_expr, reckoned, pair_expr, first_expr, second_expr, left_expr, right_expr, choice, nil_expr, cons_expr, fold_expr}
use Rattle.delta_tree.specs.SyntaxTree.{WrittenHist, Expression, name_at, eps_at, unit_at, nil_at, hist_at, par_at, cat_at, cons_at, inl_at, inr_at, typed_at, let_at, let_par_at, let_cat_at, case_sum_at, case_star_at, wait_at, if_at, call_at, Head, name_head, call_head, typed_head, Expressions, no_expressions, expression_before, ProgramTree}
use Rattle.core_term.specs.CoreTerm.{CoreTerm, CoreBody, CoreProgram}
use Rattle.core_term.specs.FreeNames.{bound_in_expr, bound_in_exprs, bound_names, bound_in_terms, is_distinct, names_bound_by, IsBoundOnce, IsCore}
use Rattle.core_term.specs.Environment.{NameTypes}
use Rattle.delta_meaning.specs.TypeNames.{TypeNames}
use Rattle.delta_meaning.specs.SourceBody.{SourceBody, functions_of, main_of, function_named, number_named}
use Rattle.delta_meaning.specs.SourceMeaning.{source_past_names}
use Rattle.delta_meaning.specs.NewNames.{Origin, new_in_expr, new_in_exprs, new_in, new_in_head, new_in_subject, new_in_arguments, new_in_body, new_in_bodies}
use Rattle.delta_meaning.specs.Elaboration.{Numbers, numbered_expr, numbered_exprs, round, core_at, core_of_head, core_of_arguments, core_body, core_bodies}
use Rattle.delta_meaning.specs.Elaborated.{texts_of, new_in_program, core_of_tree}
use Rattle.delta_meaning.specs.Laws.{EachVariableHasText, ElaboratedIsCore}
use Rattle.delta_meaning.proofs.Params.{counted, leaf_names-numbered, past_names-numbered}
use Rattle.delta_meaning.proofs.WholePrograms.{is_fine}

-- 1 where two names are one
unfoldable one_if : ℕ → ℕ → ℕ
one_if x k = if eqb k x then 1 else 0

-- how often a name stands in a list
abbrev times : ℕ → List ℕ → ℕ
times k [] = 0
times k (x ∷ xs) = one_if x k + times k xs

one_if-same : (x : ℕ) → one_if x x ≡ 1
unfolding one_if
one_if-same x = ap (λ b. if b then 1 else 0) (eq-eqb x x refl)

one_if-other : (x k : ℕ) → k ≢ x → one_if x k ≡ 0
unfolding one_if
one_if-other x k ne = ap (λ b. if b then 1 else 0) (ne_eqb k x ne)

one_if-most : (x k : ℕ) → one_if x k ≤ 1
unfolding one_if
one_if-most x k = go (eqb k x)
  where
    go : (b : Bool) → (if b then 1 else 0) ≤ 1
    go true = omega arith
    go false = omega arith

times-append : (k : ℕ) (xs ys : List ℕ) → times k (xs ++ ys) ≡ times k xs + times k ys
times-append k [] ys = omega arith
times-append k (x ∷ xs) ys = let e = times-append k xs ys in omega (arith, e)

-- a name that stands nowhere isn't held
holds-none : (k : ℕ) (xs : List ℕ) → times k xs ≡ 0 → holds k xs ≡ false
holds-none k [] h = refl
holds-none k (x ∷ xs) h = go (eqb k x) refl (holds-none k xs (omega (arith, h)))
  where
    go : (b : Bool) → eqb k x ≡ b → holds k xs ≡ false → (b || holds k xs) ≡ false
    go true e next =
        let s : one_if x k ≡ 1 = ap (one_if x) (eqb-true k x e) ∙ one_if-same x in
        absurd (omega (arith, h, s))
    go false e next = next

distinct_of : (xs : List ℕ) → ((k : ℕ) → times k xs ≤ 1) → is_distinct xs ≡ true
distinct_of [] h = refl
distinct_of (x ∷ xs) h =
    let s = one_if-same x in
    let t = h x in
    ap (λ b. not b && is_distinct xs) (holds-none x xs (omega (arith, s, t)))
    ∙ distinct_of xs (λ k. let l = h k in omega (arith, l))

-- the numbers of a list are those of variables that are numbered from n on, each at most once
record Takes (n : ℕ) (new : List Origin) (xs : List ℕ) : Type 0 where
  once : (k : ℕ) → times k xs ≤ 1
  low : (k : ℕ) → k < n → times k xs ≡ 0
  high : (k : ℕ) → n + length new ≤ k → times k xs ≡ 0

takes_none : (n : ℕ) → Takes n [] []
takes_none n = record { once = λ k. omega arith; low = λ k l. refl; high = λ k l. refl }

takes_new : {n : ℕ} (o : Origin) {new : List Origin} {xs : List ℕ} → Takes (suc n) new xs → Takes n (o ∷ new) (n ∷ xs)
takes_new {n = n} o {new = new} {xs = xs} t = record {
  once = λ k. once k (cases_lt k (suc n));
  low = λ k l. let e = one_if-other n k (λ q. absurd (omega (arith, q, l))) in let u = t.low k (omega (arith, l)) in omega (arith, e, u);
  high = λ k l. let e = one_if-other n k (λ q. absurd (omega (arith, q, l))) in let u = t.high k (omega (arith, l)) in omega (arith, e, u);
}
  where
    once : (k : ℕ) → (k < suc n) ⊎ (suc n ≤ k) → one_if n k + times k xs ≤ 1
    once k (inl l) = let e = one_if-most n k in let u = t.low k l in omega (arith, e, u)
    once k (inr l) = let e = one_if-other n k (λ q. absurd (omega (arith, q, l))) in let u = t.once k in omega (arith, e, u)

takes_append : {n : ℕ} {new : List Origin} {later : List Origin} {xs ys : List ℕ} → Takes n new xs → Takes (n + length new) later ys → Takes n (new ++ later) (xs ++ ys)
takes_append {n = n} {new = new} {later = later} {xs = xs} {ys = ys} s t = record {
  once = λ k. let a = times-append k xs ys in once k a (cases_lt k (n + length new));
  low = λ k l. let a = times-append k xs ys in let u = s.low k l in let v = t.low k (omega (arith, l)) in omega (arith, a, u, v);
  high = λ k l. let a = times-append k xs ys in let e = length-append new later in let u = s.high k (omega (arith, l, e)) in let v = t.high k (omega (arith, l, e)) in omega (arith, a, u, v);
}
  where
    once : (k : ℕ) → times k (xs ++ ys) ≡ times k xs + times k ys → (k < n + length new) ⊎ (n + length new ≤ k) → times k (xs ++ ys) ≤ 1
    once k a (inl l) = let u = s.once k in let v = t.low k l in omega (arith, a, u, v)
    once k a (inr l) = let u = s.high k l in let v = t.once k in omega (arith, a, u, v)

-- the same names in another order
takes_same : {n : ℕ} {new : List Origin} {xs : List ℕ} (ys : List ℕ) → ((k : ℕ) → times k ys ≡ times k xs) → Takes n new xs → Takes n new ys
takes_same ys e t = record {
  once = λ k. let u = t.once k in let v = e k in omega (arith, u, v);
  low = λ k l. e k ∙ t.low k l;
  high = λ k l. e k ∙ t.high k l;
}

takes_expr : (m : HistExpr) (numbers : Numbers) (n : ℕ) → Takes n (new_in_expr m) (bound_in_expr (numbered_expr m numbers n))
takes_expr (variable x) numbers n = takes_none n
takes_expr (literal z) numbers n = takes_none n
takes_expr unit_expr numbers n = takes_none n
takes_expr (reckoned o a b) numbers n = takes_append (takes_expr a numbers n) (takes_expr b numbers (n + length (new_in_expr a)))
takes_expr (pair_expr a b) numbers n = takes_append (takes_expr a numbers n) (takes_expr b numbers (n + length (new_in_expr a)))
takes_expr (first_expr a) numbers n = takes_expr a numbers n
takes_expr (second_expr a) numbers n = takes_expr a numbers n
takes_expr (left_expr a) numbers n = takes_expr a numbers n
takes_expr (right_expr a) numbers n = takes_expr a numbers n
takes_expr (choice a x b y d) numbers n =
    takes_append (takes_expr a numbers n) (takes_new (Some x) (takes_append (takes_expr b _ _) (takes_new (Some y) (takes_expr d _ _))))
takes_expr nil_expr numbers n = takes_none n
takes_expr (cons_expr a b) numbers n = takes_append (takes_expr a numbers n) (takes_expr b numbers (n + length (new_in_expr a)))
takes_expr (fold_expr a s x y b) numbers n =
    takes_append (takes_expr a numbers n) (takes_append (takes_expr s numbers _) (takes_new (Some x) (takes_new (Some y) (takes_expr b _ _))))

takes_exprs : (ms : List WrittenHist) (numbers : Numbers) (n : ℕ) → Takes n (new_in_exprs ms) (bound_in_exprs (numbered_exprs ms numbers n))
takes_exprs [] numbers n = takes_none n
takes_exprs (m ∷ ms) numbers n = takes_append (takes_expr m.expr numbers n) (takes_exprs ms numbers (n + length (new_in_expr m.expr)))

-- the names that an `if` adds stand before its test in number, and at their places in the core
times-if : (k a b c : ℕ) (ms xs ys : List ℕ) → times k (a ∷ (ms ++ ((b ∷ xs) ++ (c ∷ ys)))) ≡ times k (a ∷ (b ∷ (c ∷ (ms ++ (xs ++ ys)))))
times-if k a b c ms xs ys =
    let i = times-append k ms ((b ∷ xs) ++ (c ∷ ys)) in
    let j = times-append k xs (c ∷ ys) in
    let l = times-append k ms (xs ++ ys) in
    let m = times-append k xs ys in
    omega (arith, i, j, l, m)

-- what stands round a form that takes a head apart binds
abbrev round_bound : Head → ℕ → CoreTerm → List ℕ
round_bound (name_head at x) z a = []
round_bound (call_head at f ms es) z a = z ∷ bound_names a
round_bound (typed_head at e t) z a = z ∷ bound_names a

bound_names-round : (h : Head) (z : ℕ) (s : StreamType) (a e : CoreTerm) → bound_names (round h z s a e) ≡ round_bound h z a ++ bound_names e
bound_names-round (name_head at x) z s a e = refl
bound_names-round (call_head at f ms es) z s a e = refl
bound_names-round (typed_head at b t) z s a e = refl

module _ (functions : ℕ → SourceBody) (number : ℕ → ℕ) (names : TypeNames) where
  takes_subject : (h : Head) (numbers : Numbers) (types : NameTypes) (n : ℕ) → Takes (suc n) (new_in_head h) (bound_names (core_of_head functions number names h numbers types (suc n)))
      → Takes n (new_in_subject h) (round_bound h n (core_of_head functions number names h numbers types (suc n)))
  takes_subject (name_head at x) numbers types n t = takes_none n
  takes_subject (call_head at f ms es) numbers types n t = takes_new _ t
  takes_subject (typed_head at e s) numbers types n t = takes_new _ t

  -- the names of a pattern stand before the subject in number, and after it in the core
  takes_pattern : (h : Head) (x y : ℕ) {n : ℕ} {new : List Origin} {xs : List ℕ} (a form : CoreTerm) (s : StreamType) → bound_names form ≡ n ∷ (suc n ∷ xs)
      → Takes (suc (suc n)) (new_in_subject h) (round_bound h (suc (suc n)) a) → Takes (suc (suc n) + length (new_in_subject h)) new xs
      → Takes n (Some x ∷ (Some y ∷ (new_in_subject h ++ new))) (bound_names (round h (suc (suc n)) s a form))
  takes_pattern h x y {n = n} {xs = xs} a form s e t u =
      let z = suc (suc n) in
      takes_same (bound_names (round h z s a form)) (λ k.
      let l = ap (times k) (bound_names-round h z s a form) in
      let m = times-append k (round_bound h z a) (bound_names form) in
      let o = ap (times k) e in
      let p = times-append k (round_bound h z a) xs in
      omega (arith, l, m, o, p)) (takes_new (Some x) (takes_new (Some y) (takes_append t u)))

  mutual
    takes : (e : Expression) (numbers : Numbers) (types : NameTypes) (r : StreamType) (n : ℕ) → Takes n (new_in e) (bound_names (core_at functions number names e numbers types r n))
    takes (name_at at x) numbers types r n = takes_none n
    takes (eps_at at) numbers types r n = takes_none n
    takes (unit_at at) numbers types r n = takes_none n
    takes (nil_at at) numbers types r n = takes_none n
    takes (hist_at at m) numbers types r n = takes_expr m.expr numbers n
    takes (par_at at a b) numbers types r n = takes_append (takes a _ _ _ _) (takes b _ _ _ _)
    takes (cat_at at a b) numbers types r n = takes_append (takes a _ _ _ _) (takes b _ _ _ _)
    takes (cons_at at a b) numbers types r n = takes_append (takes a _ _ _ _) (takes b _ _ _ _)
    takes (inl_at at a) numbers types r n = takes a _ _ _ n
    takes (inr_at at a) numbers types r n = takes a _ _ _ n
    takes (typed_at at a t) numbers types r n = takes_new _ (subst (Takes (suc n) (new_in a)) (sym (append-nil _)) (takes a _ _ _ _))
    takes (let_at at x h e) numbers types r n = takes_new (Some x) (takes_append (takes_head h _ _ _) (takes e _ _ _ _))
    takes (let_par_at at x y h e) numbers types r n = takes_pattern h x y _ _ _ refl (takes_subject h numbers types _ (takes_head h _ _ _)) (takes e _ _ _ _)
    takes (let_cat_at at x y h e) numbers types r n = takes_pattern h x y _ _ _ refl (takes_subject h numbers types _ (takes_head h _ _ _)) (takes e _ _ _ _)
    takes (case_sum_at at h x a y b) numbers types r n =
        subst (Takes n _) (sym (bound_names-round h n _ _ _))
        (takes_append (takes_subject h numbers types n (takes_head h _ _ _)) (takes_new (Some x) (takes_append (takes a _ _ _ _) (takes_new (Some y) (takes b _ _ _ _)))))
    takes (case_star_at at h a y ys b) numbers types r n =
        subst (Takes n _) (sym (bound_names-round h n _ _ _))
        (takes_append (takes_subject h numbers types n (takes_head h _ _ _)) (takes_append (takes a _ _ _ _) (takes_new (Some y) (takes_new (Some ys) (takes b _ _ _ _)))))
    takes (wait_at at x e) numbers types r n = takes e _ _ _ n
    takes (if_at at m a b) numbers types r n =
        let t = takes_expr m.expr numbers (suc (suc (suc n))) in
        let u = takes a numbers types r (suc (suc (suc n)) + length (new_in_expr m.expr)) in
        let v = takes b numbers types r (suc (suc (suc n)) + length (new_in_expr m.expr) + length (new_in a)) in
        takes_same _ (λ k. times-if k n (suc n) (suc (suc n)) _ _ _)
        (takes_new _ (takes_new _ (takes_new _ (takes_append t (takes_append u v)))))
    takes (call_at at f ms es) numbers types r n = takes_append (takes_exprs ms numbers n) (takes_arguments es _ _ _ _)

    takes_head : (h : Head) (numbers : Numbers) (types : NameTypes) (n : ℕ) → Takes n (new_in_head h) (bound_names (core_of_head functions number names h numbers types n))
    takes_head (name_head at x) numbers types n = takes_none n
    takes_head (call_head at f ms es) numbers types n = takes_append (takes_exprs ms numbers n) (takes_arguments es _ _ _ _)
    takes_head (typed_head at e t) numbers types n = takes e _ _ _ n

    takes_arguments : (es : Expressions) (ts : List StreamType) (numbers : Numbers) (types : NameTypes) (n : ℕ) → Takes n (new_in_arguments es) (bound_in_terms (core_of_arguments functions number names es ts numbers types n))
    takes_arguments no_expressions ts numbers types n = takes_none n
    takes_arguments (expression_before e es) [] numbers types n = takes_append (takes e _ _ _ n) (takes_arguments es [] _ _ _)
    takes_arguments (expression_before e es) (t ∷ ts) numbers types n = takes_append (takes e _ _ _ n) (takes_arguments es ts _ _ _)

takes_names : (xs : List ℕ) (n : ℕ) → Takes n (map Some xs) (counted xs n)
takes_names [] n = takes_none n
takes_names (x ∷ xs) n = takes_new (Some x) (takes_names xs (suc n))

-- what holds of variables that begin after some names holds of those that begin after as many
after_names : (xs : List ℕ) (n : ℕ) {new : List Origin} {ys : List ℕ} → Takes (n + length xs) new ys → Takes (n + length (map Some xs)) new ys
after_names xs n {new = new} {ys = ys} t = subst (λ k. Takes (n + k) new ys) (sym (length-map xs Some)) t

-- a body binds each name at most once
once_of : {n : ℕ} {new : List Origin} {b : CoreBody} (texts : ℕ) → Takes n new (names_bound_by b) → n + length new ≤ texts → IsBoundOnce texts b
once_of {n = n} {new = new} {b = b} texts t le = record { is_once = distinct_of (names_bound_by b) t.once; has_text = λ x h. go x h (cases_lt x (n + length new)) }
  where
    go : (x : ℕ) → holds x (names_bound_by b) ≡ true → (x < n + length new) ⊎ (n + length new ≤ x) → x < texts
    go x h (inl l) = omega (arith, l, le)
    go x h (inr l) = absurd (true≢false (sym h ∙ holds-none x (names_bound_by b) (t.high x l)))

module _ (functions : ℕ → SourceBody) (number : ℕ → ℕ) where
  takes_body : (b : SourceBody) (n : ℕ) → Takes n (new_in_body b) (names_bound_by (core_body functions number b n))
  takes_body b n =
      let pasts = source_past_names b in
      let streams = leaf_names b.params in
      let m = n + length pasts in
      let core = core_body functions number b n in
      let inside = takes functions number b.type_names b.body _ _ b.result (m + length streams) in
      let whole = takes_append (takes_names pasts n) (after_names pasts n (takes_append (takes_names streams m) (after_names streams m inside))) in
      subst (Takes n (new_in_body b)) (sym (ap₂ (λ xs ys. xs ++ (ys ++ bound_names core.body)) (past_names-numbered b.past n) (leaf_names-numbered b.params m))) whole

  once_bodies : (bs : List SourceBody) (n texts : ℕ) → n + length (new_in_bodies bs) ≤ texts → All (IsBoundOnce texts) (core_bodies functions number bs n)
  once_bodies [] n texts le k d lt = absurd (omega (arith, lt))
  once_bodies (b ∷ bs) n texts le zero d lt =
      let l = length-append (new_in_body b) (new_in_bodies bs) in
      once_of texts (takes_body b n) (omega (arith, l, le))
  once_bodies (b ∷ bs) n texts le (suc k) d lt =
      let l = length-append (new_in_body b) (new_in_bodies bs) in
      once_bodies bs (n + length (new_in_body b)) texts (omega (arith, l, le)) k d (omega (arith, lt))

length-texts_of : (names : List (List ℕ)) (n : ℕ) (new : List Origin) → length (texts_of names n new) ≡ length new
length-texts_of names n [] = refl
length-texts_of names n (Some x ∷ new) = ap suc (length-texts_of names (suc n) new)
length-texts_of names n (None ∷ new) = ap suc (length-texts_of names (suc n) new)

pub each_variable_has_text : EachVariableHasText
each_variable_has_text p c h = let e = is_fine p c h in subst (λ c. length (CoreProgram.texts c) ≡ length (new_in_program p)) e.is (length-texts_of p.names 0 (new_in_program p))

pub elaborated_is_core : ElaboratedIsCore
elaborated_is_core p c h =
    let e = is_fine p c h in
    subst IsCore e.is (go p)
  where
    go : (p : ProgramTree) → IsCore (core_of_tree p)
    go p =
        let functions = function_named (functions_of p) in
        let number = number_named (functions_of p) in
        let l = length-texts_of p.names 0 (new_in_program p) in
        let m = length-append (new_in_bodies (functions_of p)) (new_in_body (main_of p)) in
        record {
          funs_once = once_bodies functions number (functions_of p) 0 (length (core_of_tree p).texts) (omega (arith, l, m));
          main_once = once_of (length (core_of_tree p).texts) (takes_body functions number (main_of p) (length (new_in_bodies (functions_of p)))) (omega (arith, l, m));
          main_past = refl;
        }
