-- Programs that are alike but for names run alike, where the second binds each name once.
use Rattle.std.proofs.Common.{◌≡◌, ◌∙◌, ℕ, zero, suc, Bool, true, false, true≢false, ◌||◌, List, [], ◌∷◌, ◌++◌, length, eqb, if◌then◌else◌, ap, ap₂, refl, subst, sym, arith}
use Rattle.std.proofs.lemmas.Bool.{eqb-true, or_right}
use Rattle.std.specs.Prelude.{Some, slice_index_or}
use Rattle.std.specs.List.{AllZip}
use Rattle.stream_type.specs.StreamType.{eps}
use Rattle.stream_prefix.specs.StreamPrefix.{StreamPrefix, eps_emp, par_both, cat_fst, cat_both, emp}
use Rattle.bunch.specs.Names.{holds, value_at}
use Rattle.bunch.specs.BunchTree.{BunchTree, leaf_names}
use Rattle.hist_value.specs.HistValue.{HistValue, unit_value}
use Rattle.core_term.specs.CoreTerm.{CoreBody, leaf_types, past_names, fun_at, no_body}
use Rattle.core_term.specs.FreeNames.{is_distinct, bound_names, IsBoundOnce}
use Rattle.core_term.specs.Environment.{by_side, nothing, empty_at}
use Rattle.core_term.specs.Agreement.{types_in}
use Rattle.core_term.specs.Split.{split}
use Rattle.core_term.specs.Run.{one_call}
use Rattle.core_term.specs.Meaning.{run_with, call_at, no_past, horizon}
use Rattle.core_term.specs.Renaming.{Scope, numbered, IsRenamedBunch, empty_renamed, leaf_renamed, comma_renamed, semi_renamed, IsRenamedBody, eps_renamed}
use Rattle.core_term.specs.MeaningLaws.{RenamedProgramRun}
use Rattle.core_term.proofs.Sides.{eqb-same, holds-head}
use Rattle.core_term.proofs.Parameters.{length-leaf_types}
use Rattle.core_term.proofs.TypedRuns.{at_index}
use Rattle.core_term.proofs.BoundOnce.{not_again, distinct_tail, distinct_left, distinct_right, distinct_apart}
use Rattle.core_term.proofs.Renamings.{Along, run_renamed}

-- a number that a name has is in the list
numbered-holds : (xs ns : List ℕ) (x n : ℕ) → numbered xs ns x ≡ Some n → holds n ns ≡ true
numbered-holds [] ns x n k = absurd (cc k)
numbered-holds (y ∷ ys) [] x n k = absurd (cc k)
numbered-holds (y ∷ ys) (m ∷ ms) x n k = go (numbered-holds ys ms x n) (eqb x y) k
  where
    go : (numbered ys ms x ≡ Some n → holds n ms ≡ true) → (c : Bool) → (if c then Some m else numbered ys ms x) ≡ Some n → holds n (m ∷ ms) ≡ true
    go f true k = let same : m ≡ n = cc k in subst (λ w. holds w (m ∷ ms) ≡ true) same (holds-head m ms)
    go f false k = or_right (eqb n m) (holds n ms) (f k)

-- the same list stands along names and their numbers
along_list : {A : Type 0} (d : A) (xs ns : List ℕ) (vs : List A) → is_distinct ns ≡ true → Along (numbered xs ns) (value_at d xs vs) (value_at d ns vs)
along_list d [] ns vs o = record { at = λ x n k. absurd (cc k) }
along_list d (y ∷ ys) [] vs o = record { at = λ x n k. absurd (cc k) }
along_list d (y ∷ ys) (m ∷ ms) [] o = record { at = λ x n k. refl }
along_list {A = A} d (y ∷ ys) (m ∷ ms) (v ∷ vs) o = rest (along_list d ys ms vs (distinct_tail m ms o))
  where
    rest : Along (numbered ys ms) (value_at d ys vs) (value_at d ms vs) → Along (numbered (y ∷ ys) (m ∷ ms)) (value_at d (y ∷ ys) (v ∷ vs)) (value_at d (m ∷ ms) (v ∷ vs))
    rest h = record { at = λ x n k. go x n (eqb x y) (eqb n m) refl k }
      where
        go : (x n : ℕ) (b c : Bool) → eqb n m ≡ c → (if b then Some m else numbered ys ms x) ≡ Some n → (if b then v else value_at d ys vs x) ≡ (if c then v else value_at d ms vs n)
        go x n true true e k = refl
        go x n true false e k = let same : m ≡ n = cc k in absurd (true≢false (sym (ap (λ u. eqb u m) (sym same) ∙ eqb-same m) ∙ e))
        go x n false true e k = absurd (not_again m ms o (subst (λ u. holds u ms ≡ true) (eqb-true n m e) (numbered-holds ys ms x n k)))
        go x n false false e k = h.at x n k

numbered-append : (xs ys ms ns : List ℕ) (x : ℕ) → length ms ≡ length xs → numbered (xs ++ ys) (ms ++ ns) x ≡ (if holds x xs then numbered xs ms x else numbered ys ns x)
numbered-append [] ys [] ns x e = refl
numbered-append [] ys (m ∷ ms) ns x e = absurd (omega arith)
numbered-append (z ∷ zs) ys [] ns x e = absurd (omega arith)
numbered-append (z ∷ zs) ys (m ∷ ms) ns x e = let l : length ms ≡ length zs = omega arith in go (eqb x z) (numbered-append zs ys ms ns x l)
  where
    go : (c : Bool) → numbered (zs ++ ys) (ms ++ ns) x ≡ (if holds x zs then numbered zs ms x else numbered ys ns x)
        → (if c then Some m else numbered (zs ++ ys) (ms ++ ns) x) ≡ (if (c || holds x zs) then (if c then Some m else numbered zs ms x) else numbered ys ns x)
    go true k = refl
    go false k = k

-- what stands along both sides stands along them together
along_sides : {A : Type 0} (xs ys ms ns : List ℕ) (f g u v : ℕ → A) → length ms ≡ length xs → is_distinct (ms ++ ns) ≡ true → Along (numbered xs ms) f u → Along (numbered ys ns) g v
    → Along (numbered (xs ++ ys) (ms ++ ns)) (by_side xs f g) (by_side ms u v)
along_sides xs ys ms ns f g u v l o h k = record { at = λ x n e. go x n (holds x xs) (holds n ms) refl (sym (numbered-append xs ys ms ns x l) ∙ e) }
  where
    go : (x n : ℕ) (b c : Bool) → holds n ms ≡ c → (if b then numbered xs ms x else numbered ys ns x) ≡ Some n → (if b then f x else g x) ≡ (if c then u n else v n)
    go x n true true m e = h.at x n e
    go x n true false m e = absurd (true≢false (sym (numbered-holds xs ms x n e) ∙ m))
    go x n false true m e = absurd (distinct_apart ms ns o n m (numbered-holds ys ns x n e))
    go x n false false m e = k.at x n e

same_leaf_types : {b o : BunchTree} → IsRenamedBunch b o → leaf_types b ≡ leaf_types o
same_leaf_types empty_renamed = refl
same_leaf_types leaf_renamed = refl
same_leaf_types (comma_renamed i j) = ap₂ ◌++◌ (same_leaf_types i) (same_leaf_types j)
same_leaf_types (semi_renamed i j) = ap₂ ◌++◌ (same_leaf_types i) (same_leaf_types j)

same_length : {b o : BunchTree} → IsRenamedBunch b o → length (leaf_names o) ≡ length (leaf_names b)
same_length {b = b} {o = o} i = sym (length-leaf_types o) ∙ (ap length (sym (same_leaf_types i)) ∙ length-leaf_types b)

along_types : {b o : BunchTree} → IsRenamedBunch b o → is_distinct (leaf_names o) ≡ true → Along (numbered (leaf_names b) (leaf_names o)) (types_in b) (types_in o)
along_types empty_renamed d = record { at = λ x n k. refl }
along_types (leaf_renamed {x = x} {n = n} {t = t}) d = record { at = (along_list eps (x ∷ []) (n ∷ []) (t ∷ []) d).at }
along_types (comma_renamed {a = a} {b = b} {c = c} {d = o} i j) d =
    along_sides (leaf_names a) (leaf_names b) (leaf_names c) (leaf_names o) (types_in a) (types_in b) (types_in c) (types_in o) (same_length i) d
    (along_types i (distinct_left (leaf_names c) (leaf_names o) d)) (along_types j (distinct_right (leaf_names c) (leaf_names o) d))
along_types (semi_renamed {a = a} {b = b} {c = c} {d = o} i j) d =
    along_sides (leaf_names a) (leaf_names b) (leaf_names c) (leaf_names o) (types_in a) (types_in b) (types_in c) (types_in o) (same_length i) d
    (along_types i (distinct_left (leaf_names c) (leaf_names o) d)) (along_types j (distinct_right (leaf_names c) (leaf_names o) d))

along_nothing : (scope : Scope) → Along scope nothing nothing
along_nothing scope = record { at = λ x n k. refl }

along_empty : {b o : BunchTree} → IsRenamedBunch b o → is_distinct (leaf_names o) ≡ true → Along (numbered (leaf_names b) (leaf_names o)) (empty_at (types_in b)) (empty_at (types_in o))
along_empty i d = record { at = λ x n k. ap emp ((along_types i d).at x n k) }

along_split : {b o : BunchTree} → IsRenamedBunch b o → is_distinct (leaf_names o) ≡ true → (p : StreamPrefix) → Along (numbered (leaf_names b) (leaf_names o)) (split b p) (split o p)
along_split empty_renamed d p = record { at = λ x n k. refl }
along_split (leaf_renamed {x = x} {n = n}) d p = record { at = (along_list eps_emp (x ∷ []) (n ∷ []) (p ∷ []) d).at }
along_split (comma_renamed {a = a} {b = b} {c = c} {d = o} i j) d (par_both p q) =
    along_sides (leaf_names a) (leaf_names b) (leaf_names c) (leaf_names o) (split a p) (split b q) (split c p) (split o q) (same_length i) d
    (along_split i (distinct_left (leaf_names c) (leaf_names o) d) p) (along_split j (distinct_right (leaf_names c) (leaf_names o) d) q)
along_split (comma_renamed i j) d _ = along_nothing _
along_split (semi_renamed {a = a} {b = b} {c = c} {d = o} i j) d (cat_fst p) =
    along_sides (leaf_names a) (leaf_names b) (leaf_names c) (leaf_names o) (split a p) (empty_at (types_in b)) (split c p) (empty_at (types_in o)) (same_length i) d
    (along_split i (distinct_left (leaf_names c) (leaf_names o) d) p) (along_empty j (distinct_right (leaf_names c) (leaf_names o) d))
along_split (semi_renamed {a = a} {b = b} {c = c} {d = o} i j) d (cat_both p q) =
    along_sides (leaf_names a) (leaf_names b) (leaf_names c) (leaf_names o) (split a p) (split b q) (split c p) (split o q) (same_length i) d
    (along_split i (distinct_left (leaf_names c) (leaf_names o) d) p) (along_split j (distinct_right (leaf_names c) (leaf_names o) d) q)
along_split (semi_renamed i j) d _ = along_nothing _

-- the parameters of a body that binds each name once are distinct
params_distinct : (texts : ℕ) (b : CoreBody) → IsBoundOnce texts b → is_distinct (leaf_names b.params) ≡ true
params_distinct texts b o = distinct_left (leaf_names b.params) (bound_names b.body) (distinct_right (past_names b) (leaf_names b.params ++ bound_names b.body) o.is_once)

pasts_distinct : (texts : ℕ) (b : CoreBody) → IsBoundOnce texts b → is_distinct (past_names b) ≡ true
pasts_distinct texts b o = distinct_left (past_names b) (leaf_names b.params ++ bound_names b.body) o.is_once

module _ (funs others : ℕ → CoreBody) (texts : ℕ) (like : (f : ℕ) → IsRenamedBody (funs f) (others f)) (once : (f : ℕ) → IsBoundOnce texts (others f)) where
  -- calls of functions that are alike but for names give the same, at each depth
  pub calls_renamed : (k f : ℕ) (vs : List HistValue) (ps : List StreamPrefix) → call_at funs k f vs ps ≡ call_at others k f vs ps
  unfolding call_at
  calls_renamed zero f vs ps = ap (λ r. record { out = emp r; calls = 1; level = 0 }) (like f).same_result
  calls_renamed (suc k) f vs ps =
      let l = like f in
      let d = params_distinct texts (others f) (once f) in
      ap one_call
      (run_renamed funs others (call_at funs k) (call_at others k) (λ g. same_leaf_types (like g).like_params) (calls_renamed k) l.like_body (types_in (funs f).params) (types_in (others f).params) (funs f).result
      (value_at eps_emp (leaf_names (funs f).params) ps) (value_at eps_emp (leaf_names (others f).params) ps) (value_at unit_value (past_names (funs f)) vs) (value_at unit_value (past_names (others f)) vs)
      (along_types l.like_params d) (along_list eps_emp (leaf_names (funs f).params) (leaf_names (others f).params) ps d)
      (along_list unit_value (past_names (funs f)) (past_names (others f)) vs (pasts_distinct texts (others f) (once f))))
      ∙ ap (λ r. one_call (run_with others (call_at others k) (others f).body (types_in (others f).params) r (value_at eps_emp (leaf_names (others f).params) ps) (value_at unit_value (past_names (others f)) vs))) l.same_result

-- what is related element by element is so at each index
all_zip_at : {A : Type 0} (R : A → A → Type 0) (d : A) (xs ys : List A) → AllZip R xs ys → R d d → (i : ℕ) → R (slice_index_or xs i d) (slice_index_or ys i d)
all_zip_at R d [] [] h k i = k
all_zip_at R d [] (y ∷ ys) h k i = absurd h
all_zip_at R d (x ∷ xs) [] h k i = absurd h
all_zip_at R d (x ∷ xs) (y ∷ ys) h k zero = h.0
all_zip_at R d (x ∷ xs) (y ∷ ys) h k (suc i) = all_zip_at R d xs ys h.1 k i

pub renamed_program_run : RenamedProgramRun
renamed_program_run c d core like p =
    run_renamed (fun_at c.funs) (fun_at d.funs) (call_at (fun_at c.funs) horizon) (call_at (fun_at d.funs) horizon) (λ f. same_leaf_types (funs f).like_params)
    (calls_renamed (fun_at c.funs) (fun_at d.funs) (length d.texts) funs once horizon) like.like_main.like_body (types_in c.main.params) (types_in d.main.params) c.main.result
    (split c.main.params p) (split d.main.params p) no_past no_past (along_types like.like_main.like_params distinct) (along_split like.like_main.like_params distinct p) (record { at = λ x n k. refl })
    ∙ ap (λ r. run_with (fun_at d.funs) (call_at (fun_at d.funs) horizon) d.main.body (types_in d.main.params) r (split d.main.params p) no_past) like.like_main.same_result
  where
    funs : (f : ℕ) → IsRenamedBody (fun_at c.funs f) (fun_at d.funs f)
    funs f = all_zip_at IsRenamedBody no_body c.funs d.funs like.like_funs (record { same_past = refl; like_params = empty_renamed; same_result = refl; like_body = eps_renamed }) f

    once : (f : ℕ) → IsBoundOnce (length d.texts) (fun_at d.funs f)
    once f = at_index (IsBoundOnce (length d.texts)) no_body d.funs core.funs_once (record { is_once = refl; has_text = λ x m. absurd (true≢false (sym m)) }) f

    distinct : is_distinct (leaf_names d.main.params) ≡ true
    distinct = params_distinct (length d.texts) d.main core.main_once
