-- The first broken rule among nodes that stand one after the other.
use Rattle.std.proofs.Common.{◌≡◌, ℕ, suc, arith, ◌+◌, Bool, List, [], ◌∷◌, ◌++◌, length, refl, ap, ◌∙◌, length-append}
use Rattle.std.specs.Prelude.{Option, Some, None, option_map}
use Rattle.stream_type.specs.StreamType.{StreamType}
use Rattle.hist_value.specs.Refusal.{HistRefusal}
use Rattle.core_term.specs.CoreTerm.{CoreTerm, CoreTerms, CoreBody, var_term, eps_term, unit_term, nil_term, past_term, par_term, cat_term, cons_term, inl_term, inr_term, let_term, let_par_term, let_cat_term, case_sum_term, case_star_term, wait_term, call_term, no_terms, term_before, node_count, node_counts, fun_at, leaf_types}
use Rattle.core_term.specs.Typing.{Context, with_name_like, with_fact, with_parts, waited, with_let, type_at}
use Rattle.core_term.specs.Parts.{par_left, par_right, cat_first, cat_second, sum_left, sum_right, star_item, star_items}
use Rattle.stream_type.specs.StreamType.{eps}
use Rattle.core_term.specs.TypeFaults.{Cause, expr_refusal, NodeAt, first_some, nodes_of, nodes_among, first_broken_of}
use Rattle.delta_check.specs.Refused.{rule_broken}

pub some_assoc : {A : Type 0} (a b d : Option A) → first_some a (first_some b d) ≡ first_some (first_some a b) d
some_assoc None b d = refl
some_assoc (Some a) b d = refl

module _ (funs : List CoreBody) (counts : ℕ → Bool) where
  -- the first broken rule of the list, whose nodes are counted from n
  abbrev pub first_in : ℕ → List NodeAt → Option (ℕ × Cause HistRefusal)
  first_in n js = first_broken_of funs counts expr_refusal n js

  -- that of a node itself
  abbrev pub own_at : ℕ → Context → CoreTerm → StreamType → Option (ℕ × Cause HistRefusal)
  own_at n c e r = option_map (λ k. (n, k)) (rule_broken funs counts c e r)

  pub first_in-append : (n : ℕ) (is js : List NodeAt) → first_in n (is ++ js) ≡ first_some (first_in n is) (first_in (n + length is) js)
  first_in-append n [] js = ap (λ m. first_in m js) (omega arith)
  first_in-append n (i ∷ is) js =
      let own = own_at n i.context i.term i.wanted in
      let step : first_some own (first_in (suc n) (is ++ js)) ≡ first_some own (first_some (first_in (suc n) is) (first_in (suc n + length is) js)) =
      ap (first_some own) (first_in-append (suc n) is js) in
      let count : suc n + length is ≡ n + suc (length is) = omega arith in
      step ∙ some_assoc own (first_in (suc n) is) (first_in (suc n + length is) js) ∙ ap (λ m. first_some (first_some own (first_in (suc n) is)) (first_in m js)) count

  two : (is js : List NodeAt) (m n : ℕ) → length is ≡ m → length js ≡ n → suc (length (is ++ js)) ≡ 1 + (m + n)
  two is js m n h k = let e = length-append is js in omega arith

  one : (is : List NodeAt) (m : ℕ) → length is ≡ m → suc (length is) ≡ 1 + m
  one is m h = omega arith

  both : (is js : List NodeAt) (m n : ℕ) → length is ≡ m → length js ≡ n → length (is ++ js) ≡ m + n
  both is js m n h k = let e = length-append is js in omega arith

  mutual
    -- the nodes of a term are as many as the term has
    pub length-nodes : (c : Context) (e : CoreTerm) (r : StreamType) → length (nodes_of funs counts c e r) ≡ node_count e
    length-nodes c (var_term x) r = refl
    length-nodes c eps_term r = refl
    length-nodes c unit_term r = refl
    length-nodes c nil_term r = refl
    length-nodes c (past_term m) r = refl
    length-nodes c (inl_term a) r = one (nodes_of funs counts c a (sum_left r)) (node_count a) (length-nodes c a (sum_left r))
    length-nodes c (inr_term a) r = one (nodes_of funs counts c a (sum_right r)) (node_count a) (length-nodes c a (sum_right r))
    length-nodes c (let_par_term x y z a) r = one (nodes_of funs counts (with_parts x (par_left (type_at c z)) y (par_right (type_at c z)) z c) a r) (node_count a) (length-nodes (with_parts x (par_left (type_at c z)) y (par_right (type_at c z)) z c) a r)
    length-nodes c (let_cat_term x y z a) r = one (nodes_of funs counts (with_fact x y (with_parts x (cat_first (type_at c z)) y (cat_second (type_at c z)) z c)) a r) (node_count a) (length-nodes (with_fact x y (with_parts x (cat_first (type_at c z)) y (cat_second (type_at c z)) z c)) a r)
    length-nodes c (wait_term x t a) r = one (nodes_of funs counts (waited x c) a r) (node_count a) (length-nodes (waited x c) a r)
    length-nodes c (par_term a b) r =
        two (nodes_of funs counts c a (par_left r)) (nodes_of funs counts c b (par_right r)) (node_count a) (node_count b) (length-nodes c a (par_left r)) (length-nodes c b (par_right r))
    length-nodes c (cat_term a b) r =
        two (nodes_of funs counts c a (cat_first r)) (nodes_of funs counts c b (cat_second r)) (node_count a) (node_count b) (length-nodes c a (cat_first r)) (length-nodes c b (cat_second r))
    length-nodes c (cons_term a b) r =
        two (nodes_of funs counts c a (star_item r)) (nodes_of funs counts c b (star_items r)) (node_count a) (node_count b) (length-nodes c a (star_item r)) (length-nodes c b (star_items r))
    length-nodes c (let_term x s a b) r =
        two (nodes_of funs counts c a s) (nodes_of funs counts (with_let funs counts x s a c) b r) (node_count a) (node_count b) (length-nodes c a s) (length-nodes (with_let funs counts x s a c) b r)
    length-nodes c (case_sum_term z t x a y b) r =
        two (nodes_of funs counts (with_name_like x (sum_left (type_at c z)) z c) a r) (nodes_of funs counts (with_name_like y (sum_right (type_at c z)) z c) b r) (node_count a) (node_count b) (length-nodes (with_name_like x (sum_left (type_at c z)) z c) a r) (length-nodes (with_name_like y (sum_right (type_at c z)) z c) b r)
    length-nodes c (case_star_term z t a y ys b) r =
        two (nodes_of funs counts c a r) (nodes_of funs counts (with_fact y ys (with_parts y (star_item (type_at c z)) ys (star_items (type_at c z)) z c)) b r) (node_count a) (node_count b) (length-nodes c a r) (length-nodes (with_fact y ys (with_parts y (star_item (type_at c z)) ys (star_items (type_at c z)) z c)) b r)
    length-nodes c (call_term f ms es) r = one (nodes_among funs counts c es (leaf_types (fun_at funs f).params)) (node_counts es) (length-among c es (leaf_types (fun_at funs f).params))

    pub length-among : (c : Context) (es : CoreTerms) (ts : List StreamType) → length (nodes_among funs counts c es ts) ≡ node_counts es
    length-among c no_terms ts = refl
    length-among c (term_before e es) [] =
        both (nodes_of funs counts c e eps) (nodes_among funs counts c es []) (node_count e) (node_counts es) (length-nodes c e eps) (length-among c es [])
    length-among c (term_before e es) (t ∷ ts) =
        both (nodes_of funs counts c e t) (nodes_among funs counts c es ts) (node_count e) (node_counts es) (length-nodes c e t) (length-among c es ts)

  -- where the nodes of a term come first
  pub first_in-term : (n : ℕ) (c : Context) (e : CoreTerm) (r : StreamType) (js : List NodeAt)
      → first_in n (nodes_of funs counts c e r ++ js) ≡ first_some (first_in n (nodes_of funs counts c e r)) (first_in (n + node_count e) js)
  first_in-term n c e r js =
      first_in-append n (nodes_of funs counts c e r) js ∙ ap (λ m. first_some (first_in n (nodes_of funs counts c e r)) (first_in (n + m) js)) (length-nodes c e r)
