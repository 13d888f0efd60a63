-- What is answered of the parts of a form, each at its type and in its context, is answered of the nodes below it.
use Rattle.std.proofs.Common.{◌≡◌, ◌⊎◌, inl, inr, refl, [], ℕ, arith, ◌+◌, ◌<◌, ◌≤◌, ◌^◌, Bool, List, ◌++◌, ap, sym, subst, ◌∙◌}
use Rattle.std.specs.Prelude.{Result, Ok}
use Rattle.stream_type.specs.StreamType.{StreamType}
use Rattle.bunch.specs.declared.name.Name.{Name}
use Rattle.hist_value.specs.declared.expr.Expr.{Expr}
use Rattle.core_term.specs.declared.term.Node.{Node}
use Rattle.core_term.specs.declared.term.Term.{Term, Var, Eps, Unit as IsUnit, Nil, Past}
use Rattle.core_term.specs.CoreTerm.{CoreTerm, CoreBody, par_term, cat_term, cons_term, inl_term, inr_term, let_term, let_par_term, let_cat_term, case_sum_term, case_star_term, wait_term, term_of, term_in, places_of, node_count}
use Rattle.core_term.specs.Parts.{par_left, par_right, cat_first, cat_second, sum_left, sum_right, star_item, star_items}
use Rattle.core_term.specs.Typing.{Context, type_at, with_name_like, with_fact, waited, with_let}
use Rattle.core_term.specs.TypeFaults.{NodeAt, nodes_of}
use Rattle.delta_check.specs.Checking.{Finds, parts_of}
use Rattle.delta_check.specs.declared.fault.TypeFault.{TypeFault}
use Rattle.delta_check.proofs.Joined.{node_count-one}

-- a node fits where its term does
pub own_fits : (n : ℕ) (e : CoreTerm) → n + node_count e < 2 ^ 32 → n + 1 < 2 ^ 32
own_fits n e h = let one = node_count-one e in omega arith

-- the first of two fits where both do
pub first_fits : (n i j : ℕ) → n + (i + j) < 2 ^ 32 → n + i < 2 ^ 32
first_fits n i j h = omega arith

-- and one more than both
pub both_fit : (n i j : ℕ) → n + (i + j) < 2 ^ 32 → n + (1 + (i + j)) ≤ 2 ^ 32
both_fit n i j h = omega arith

-- all but one fit
pub rest_fits : (n i j : ℕ) → i ≡ 1 + j → n + i ≤ 2 ^ 32 → n + j < 2 ^ 32
rest_fits n i j e h = omega arith

-- the parts of a form fit where the form does
pub one_fits : (n : ℕ) (e whole : CoreTerm) (a u : Node) → a ≡ u → e ≡ whole → node_count whole ≡ 1 + node_count (term_of u) → n + node_count e ≤ 2 ^ 32 → n + node_count (term_of a) < 2 ^ 32
one_fits n e whole a u is same count h =
    let all = ap node_count same ∙ count in
    subst (λ (x : Node). n + node_count (term_of x) < 2 ^ 32) (sym is) (omega (arith, all, h))

pub two_fit : (n : ℕ) (e whole : CoreTerm) (a b u v : Node) → a ≡ u → b ≡ v → e ≡ whole → node_count whole ≡ 1 + (node_count (term_of u) + node_count (term_of v)) → n + node_count e ≤ 2 ^ 32
    → n + (node_count (term_of a) + node_count (term_of b)) < 2 ^ 32
two_fit n e whole a b u v is is2 same count h =
    let all = ap node_count same ∙ count in
    subst (λ (x : Node). n + (node_count (term_of x) + node_count (term_of b)) < 2 ^ 32) (sym is)
    (subst (λ (x : Node). n + (node_count (term_of u) + node_count (term_of x)) < 2 ^ 32) (sym is2) (omega (arith, all, h)))

module _ (funs : List CoreBody) (counts : ℕ → Bool) where
  -- a form without parts
  pub no_parts : (c : Context) (r : StreamType) (e : Term) → ((x : Name) × (e ≡ Var x)) ⊎ ((e ≡ Eps) ⊎ ((e ≡ IsUnit) ⊎ ((e ≡ Nil) ⊎ ((m : Expr) × (e ≡ Past m)))))
      → parts_of (nodes_of funs counts c (term_in e) r) ≡ []
  no_parts c r e (inl h) = ap (λ (x : Term). parts_of (nodes_of funs counts c (term_in x) r)) h.1
  no_parts c r e (inr (inl h)) = ap (λ (x : Term). parts_of (nodes_of funs counts c (term_in x) r)) h
  no_parts c r e (inr (inr (inl h))) = ap (λ (x : Term). parts_of (nodes_of funs counts c (term_in x) r)) h
  no_parts c r e (inr (inr (inr (inl h)))) = ap (λ (x : Term). parts_of (nodes_of funs counts c (term_in x) r)) h
  no_parts c r e (inr (inr (inr (inr h)))) = ap (λ (x : Term). parts_of (nodes_of funs counts c (term_in x) r)) h.1

  -- nothing is found where there is no node
  pub none_found : (n : ℕ) (js : List NodeAt) (ps : List ℕ) → js ≡ [] → Finds funs counts n js ps (Ok n)
  none_found n js ps e = subst (λ (l : List NodeAt). Finds funs counts n l ps (Ok n)) (sym e) (refl, omega arith)

module _ (funs : List CoreBody) (counts : ℕ → Bool) (n : ℕ) (q : Result ℕ TypeFault) where
  -- what is answered of nodes at places
  abbrev At : List NodeAt → List ℕ → Type 0
  At js ps = Finds funs counts n js ps q

  -- what is answered of a form of one part
  one_formed : (f : CoreTerm → CoreTerm) (c : Context) (e : CoreTerm) (a u : Node) (r : StreamType) (ps : List ℕ) → a ≡ u → e ≡ f (term_of u) → ps ≡ places_of u
      → At (parts_of (nodes_of funs counts c (f (term_of a)) r)) (places_of a) → At (parts_of (nodes_of funs counts c e r)) ps
  one_formed f c e a u r ps is same places h =
      subst (λ (l : List ℕ). At (parts_of (nodes_of funs counts c e r)) l) (sym places)
      (subst (λ (x : CoreTerm). At (parts_of (nodes_of funs counts c x r)) (places_of u)) (sym same)
      (subst (λ (x : Node). At (parts_of (nodes_of funs counts c (f (term_of x)) r)) (places_of x)) is h))

  -- and of one of two parts
  two_formed : (f : CoreTerm → CoreTerm → CoreTerm) (c : Context) (e : CoreTerm) (a b u v : Node) (r : StreamType) (ps : List ℕ) → a ≡ u → b ≡ v → e ≡ f (term_of u) (term_of v) → ps ≡ places_of u ++ places_of v
      → At (parts_of (nodes_of funs counts c (f (term_of a) (term_of b)) r)) (places_of a ++ places_of b) → At (parts_of (nodes_of funs counts c e r)) ps
  two_formed f c e a b u v r ps is is2 same places h =
      subst (λ (l : List ℕ). At (parts_of (nodes_of funs counts c e r)) l) (sym places)
      (subst (λ (x : CoreTerm). At (parts_of (nodes_of funs counts c x r)) (places_of u ++ places_of v)) (sym same)
      (subst (λ (x : Node). At (parts_of (nodes_of funs counts c (f (term_of u) (term_of x)) r)) (places_of u ++ places_of x)) is2
      (subst (λ (x : Node). At (parts_of (nodes_of funs counts c (f (term_of x) (term_of b)) r)) (places_of x ++ places_of b)) is h)))

  -- of one part at a type
  one_at : (c : Context) (a : Node) (s t : StreamType) → s ≡ t → At (nodes_of funs counts c (term_of a) s) (places_of a) → At (nodes_of funs counts c (term_of a) t) (places_of a)
  one_at c a s t e h = subst (λ (x : StreamType). At (nodes_of funs counts c (term_of a) x) (places_of a)) e h

  -- and of two
  two_at : (c : Context) (a b : Node) (s t x y : StreamType) → s ≡ x → t ≡ y → At (nodes_of funs counts c (term_of a) s ++ nodes_of funs counts c (term_of b) t) (places_of a ++ places_of b)
      → At (nodes_of funs counts c (term_of a) x ++ nodes_of funs counts c (term_of b) y) (places_of a ++ places_of b)
  two_at c a b s t x y e f h =
      subst (λ (z : StreamType). At (nodes_of funs counts c (term_of a) x ++ nodes_of funs counts c (term_of b) z) (places_of a ++ places_of b)) f
      (subst (λ (z : StreamType). At (nodes_of funs counts c (term_of a) z ++ nodes_of funs counts c (term_of b) t) (places_of a ++ places_of b)) e h)

  pub par_found : (c : Context) (e : CoreTerm) (a b u v : Node) (r s t : StreamType) (ps : List ℕ) → a ≡ u → b ≡ v → e ≡ par_term (term_of u) (term_of v) → ps ≡ places_of u ++ places_of v → s ≡ par_left r → t ≡ par_right r
      → At (nodes_of funs counts c (term_of a) s ++ nodes_of funs counts c (term_of b) t) (places_of a ++ places_of b) → At (parts_of (nodes_of funs counts c e r)) ps
  par_found c e a b u v r s t ps is is2 same places first second h = two_formed par_term c e a b u v r ps is is2 same places (two_at c a b s t (par_left r) (par_right r) first second h)

  pub cat_found : (c : Context) (e : CoreTerm) (a b u v : Node) (r s t : StreamType) (ps : List ℕ) → a ≡ u → b ≡ v → e ≡ cat_term (term_of u) (term_of v) → ps ≡ places_of u ++ places_of v → s ≡ cat_first r → t ≡ cat_second r
      → At (nodes_of funs counts c (term_of a) s ++ nodes_of funs counts c (term_of b) t) (places_of a ++ places_of b) → At (parts_of (nodes_of funs counts c e r)) ps
  cat_found c e a b u v r s t ps is is2 same places first second h = two_formed cat_term c e a b u v r ps is is2 same places (two_at c a b s t (cat_first r) (cat_second r) first second h)

  pub cons_found : (c : Context) (e : CoreTerm) (a b u v : Node) (r s t : StreamType) (ps : List ℕ) → a ≡ u → b ≡ v → e ≡ cons_term (term_of u) (term_of v) → ps ≡ places_of u ++ places_of v → s ≡ star_item r → t ≡ star_items r
      → At (nodes_of funs counts c (term_of a) s ++ nodes_of funs counts c (term_of b) t) (places_of a ++ places_of b) → At (parts_of (nodes_of funs counts c e r)) ps
  cons_found c e a b u v r s t ps is is2 same places first second h = two_formed cons_term c e a b u v r ps is is2 same places (two_at c a b s t (star_item r) (star_items r) first second h)

  pub inl_found : (c : Context) (e : CoreTerm) (a u : Node) (r s : StreamType) (ps : List ℕ) → a ≡ u → e ≡ inl_term (term_of u) → ps ≡ places_of u → s ≡ sum_left r
      → At (nodes_of funs counts c (term_of a) s) (places_of a) → At (parts_of (nodes_of funs counts c e r)) ps
  inl_found c e a u r s ps is same places first h = one_formed inl_term c e a u r ps is same places (one_at c a s (sum_left r) first h)

  pub inr_found : (c : Context) (e : CoreTerm) (a u : Node) (r s : StreamType) (ps : List ℕ) → a ≡ u → e ≡ inr_term (term_of u) → ps ≡ places_of u → s ≡ sum_right r
      → At (nodes_of funs counts c (term_of a) s) (places_of a) → At (parts_of (nodes_of funs counts c e r)) ps
  inr_found c e a u r s ps is same places first h = one_formed inr_term c e a u r ps is same places (one_at c a s (sum_right r) first h)

  pub let_found : (c : Context) (e : CoreTerm) (x : ℕ) (k : StreamType) (a b u v : Node) (r : StreamType) (ps : List ℕ) → a ≡ u → b ≡ v → e ≡ let_term x k (term_of u) (term_of v) → ps ≡ places_of u ++ places_of v
      → At (nodes_of funs counts c (term_of a) k ++ nodes_of funs counts (with_let funs counts x k (term_of a) c) (term_of b) r) (places_of a ++ places_of b) → At (parts_of (nodes_of funs counts c e r)) ps
  let_found c e x k a b u v r ps is is2 same places h = two_formed (let_term x k) c e a b u v r ps is is2 same places h

  pub wait_found : (c : Context) (e : CoreTerm) (x : ℕ) (k : StreamType) (a u : Node) (r : StreamType) (ps : List ℕ) → a ≡ u → e ≡ wait_term x k (term_of u) → ps ≡ places_of u
      → At (nodes_of funs counts (waited x c) (term_of a) r) (places_of a) → At (parts_of (nodes_of funs counts c e r)) ps
  wait_found c e x k a u r ps is same places h = one_formed (wait_term x k) c e a u r ps is same places h

  pub let_par_found : (c : Context) (e : CoreTerm) (x y z : ℕ) (a u : Node) (r w s t : StreamType) (ps : List ℕ) → a ≡ u → e ≡ let_par_term x y z (term_of u) → ps ≡ places_of u
      → w ≡ type_at c z → s ≡ par_left w → t ≡ par_right w
      → At (nodes_of funs counts (with_name_like y t z (with_name_like x s z c)) (term_of a) r) (places_of a) → At (parts_of (nodes_of funs counts c e r)) ps
  let_par_found c e x y z a u r w s t ps is same places typed first second h =
      one_formed (let_par_term x y z) c e a u r ps is same places
      (subst (λ (i : StreamType). At (nodes_of funs counts (with_name_like y (par_right i) z (with_name_like x (par_left i) z c)) (term_of a) r) (places_of a)) typed
      (subst (λ (i : StreamType). At (nodes_of funs counts (with_name_like y i z (with_name_like x (par_left w) z c)) (term_of a) r) (places_of a)) second
      (subst (λ (i : StreamType). At (nodes_of funs counts (with_name_like y t z (with_name_like x i z c)) (term_of a) r) (places_of a)) first h)))

  pub let_cat_found : (c : Context) (e : CoreTerm) (x y z : ℕ) (a u : Node) (r w s t : StreamType) (ps : List ℕ) → a ≡ u → e ≡ let_cat_term x y z (term_of u) → ps ≡ places_of u
      → w ≡ type_at c z → s ≡ cat_first w → t ≡ cat_second w
      → At (nodes_of funs counts (with_fact x y (with_name_like y t z (with_name_like x s z c))) (term_of a) r) (places_of a) → At (parts_of (nodes_of funs counts c e r)) ps
  let_cat_found c e x y z a u r w s t ps is same places typed first second h =
      one_formed (let_cat_term x y z) c e a u r ps is same places
      (subst (λ (i : StreamType). At (nodes_of funs counts (with_fact x y (with_name_like y (cat_second i) z (with_name_like x (cat_first i) z c))) (term_of a) r) (places_of a)) typed
      (subst (λ (i : StreamType). At (nodes_of funs counts (with_fact x y (with_name_like y i z (with_name_like x (cat_first w) z c))) (term_of a) r) (places_of a)) second
      (subst (λ (i : StreamType). At (nodes_of funs counts (with_fact x y (with_name_like y t z (with_name_like x i z c))) (term_of a) r) (places_of a)) first h)))

  pub case_sum_found : (c : Context) (e : CoreTerm) (z : ℕ) (k : StreamType) (x y : ℕ) (a b u v : Node) (r w s t : StreamType) (ps : List ℕ) → a ≡ u → b ≡ v → e ≡ case_sum_term z k x (term_of u) y (term_of v) → ps ≡ places_of u ++ places_of v
      → w ≡ type_at c z → s ≡ sum_left w → t ≡ sum_right w
      → At (nodes_of funs counts (with_name_like x s z c) (term_of a) r ++ nodes_of funs counts (with_name_like y t z c) (term_of b) r) (places_of a ++ places_of b) → At (parts_of (nodes_of funs counts c e r)) ps
  case_sum_found c e z k x y a b u v r w s t ps is is2 same places typed first second h =
      two_formed (λ i j. case_sum_term z k x i y j) c e a b u v r ps is is2 same places
      (subst (λ (i : StreamType). At (nodes_of funs counts (with_name_like x (sum_left i) z c) (term_of a) r ++ nodes_of funs counts (with_name_like y (sum_right i) z c) (term_of b) r) (places_of a ++ places_of b)) typed
      (subst (λ (i : StreamType). At (nodes_of funs counts (with_name_like x (sum_left w) z c) (term_of a) r ++ nodes_of funs counts (with_name_like y i z c) (term_of b) r) (places_of a ++ places_of b)) second
      (subst (λ (i : StreamType). At (nodes_of funs counts (with_name_like x i z c) (term_of a) r ++ nodes_of funs counts (with_name_like y t z c) (term_of b) r) (places_of a ++ places_of b)) first h)))

  pub case_star_found : (c : Context) (e : CoreTerm) (z : ℕ) (k : StreamType) (y ys : ℕ) (a b u v : Node) (r w s t : StreamType) (ps : List ℕ) → a ≡ u → b ≡ v → e ≡ case_star_term z k (term_of u) y ys (term_of v) → ps ≡ places_of u ++ places_of v
      → w ≡ type_at c z → s ≡ star_item w → t ≡ star_items w
      → At (nodes_of funs counts c (term_of a) r ++ nodes_of funs counts (with_fact y ys (with_name_like ys t z (with_name_like y s z c))) (term_of b) r) (places_of a ++ places_of b) → At (parts_of (nodes_of funs counts c e r)) ps
  case_star_found c e z k y ys a b u v r w s t ps is is2 same places typed first second h =
      two_formed (λ i j. case_star_term z k i y ys j) c e a b u v r ps is is2 same places
      (subst (λ (i : StreamType). At (nodes_of funs counts c (term_of a) r ++ nodes_of funs counts (with_fact y ys (with_name_like ys (star_items i) z (with_name_like y (star_item i) z c))) (term_of b) r) (places_of a ++ places_of b)) typed
      (subst (λ (i : StreamType). At (nodes_of funs counts c (term_of a) r ++ nodes_of funs counts (with_fact y ys (with_name_like ys i z (with_name_like y (star_item w) z c))) (term_of b) r) (places_of a ++ places_of b)) second
      (subst (λ (i : StreamType). At (nodes_of funs counts c (term_of a) r ++ nodes_of funs counts (with_fact y ys (with_name_like ys t z (with_name_like y i z c))) (term_of b) r) (places_of a ++ places_of b)) first h)))
