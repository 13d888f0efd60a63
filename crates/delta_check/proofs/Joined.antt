-- What is answered of nodes that stand one after the other.
use Rattle.std.proofs.Common.{◌≡◌, ℕ, arith, ◌+◌, ◌<◌, ◌≤◌, ◌^◌, Bool, List, [], ◌∷◌, ◌++◌, length, length-append, refl, ap, sym, subst, ◌∙◌}
use Rattle.std.specs.Prelude.{Option, Some, None, option_map, Result, Ok, Err, IsSomeAnd}
use Rattle.hist_value.specs.HistExpr.{HistExpr}
use Rattle.hist_value.specs.Refusal.{HistRefusal}
use Rattle.stream_type.specs.StreamType.{StreamType}
use Rattle.core_term.specs.CoreTerm.{CoreTerm, CoreTerms, CoreBody, leaf_types, fun_at, var_term, eps_term, unit_term, nil_term, past_term, par_term, cat_term, cons_term, inl_term, inr_term, let_term, let_par_term, let_cat_term, case_sum_term, case_star_term, wait_term, call_term, node_count}
use Rattle.core_term.specs.Typing.{Context}
use Rattle.core_term.specs.TypeFaults.{Cause, NodeAt, node, first_some, nodes_of, nodes_among}
use Rattle.delta_check.specs.Checking.{Finds, parts_of}
use Rattle.delta_check.specs.Faults.{cause_of, Tells, TellsFirst, TellsPlace}
use Rattle.delta_check.specs.Refused.{rule_broken}
use Rattle.delta_check.specs.declared.fault.TypeCause.{TypeCause}
use Rattle.delta_check.specs.declared.fault.TypeFault.{TypeFault}
use Rattle.delta_check.specs.declared.fault.TypeFault.TheVariants.{Memory, Refused}
use Rattle.delta_check.proofs.Firsts.{first_in, first_in-append, length-nodes}
use Rattle.delta_check.proofs.Places.{at_first, at_second}

-- a fault tells what is found first, wherever that is found
pub tells_first-as : (f : TypeFault) (p q : Option (ℕ × Cause HistRefusal)) → ((k : ℕ × Cause HistRefusal) → p ≡ Some k → q ≡ Some k) → TellsFirst f p → TellsFirst f q
tells_first-as Memory p q g h = tt
tells_first-as (Refused node at cause) p q g h = go (cause_of cause) h
  where
    go : (o : Option (Cause HistRefusal)) → IsSomeAnd o (λ k. p ≡ Some (node, k)) → IsSomeAnd o (λ k. q ≡ Some (node, k))
    go None h = h
    go (Some k) h = g (node, k) h

-- a place among the first of two lists
pub place_in-first : (f : TypeFault) (n : ℕ) (ps qs : List ℕ) → TellsPlace f n ps → TellsPlace f n (ps ++ qs)
place_in-first Memory n ps qs h = tt
place_in-first (Refused node at cause) n ps qs h = (h.0, h.1, at_first ps qs h.0 at h.2)

-- a place among the second
pub place_in-second : (f : TypeFault) (m n : ℕ) (ps qs : List ℕ) → m ≡ n + length ps → TellsPlace f m qs → TellsPlace f n (ps ++ qs)
place_in-second Memory m n ps qs e h = tt
place_in-second (Refused node at cause) m n ps qs e h =
    let i = h.0 in
    let number : node ≡ m + i = h.1 in
    (length ps + i, omega (arith, e, number), at_second ps qs (length ps + i) i (omega arith) ∙ h.2)

-- what a node itself breaks is found at its number
abbrev pub FoundAt : ℕ → Option (Cause HistRefusal) → Cause HistRefusal → Type 0
FoundAt n b k = first_some {A = ℕ × Cause HistRefusal} (option_map (λ j. (n, j)) b) None ≡ Some (n, k)

module _ (funs : List CoreBody) (counts : ℕ → Bool) where
  -- of two lists of nodes the first breaks a rule
  pub finds_first : (n : ℕ) (is js : List NodeAt) (ps qs : List ℕ) (f : TypeFault) → Finds funs counts n is ps (Err f) → Finds funs counts n (is ++ js) (ps ++ qs) (Err f)
  finds_first n is js ps qs f h = (tells_first-as f (first_in funs counts n is) (first_in funs counts n (is ++ js)) first (h.0), place_in-first f n ps qs (h.1))
    where
      first : (k : ℕ × Cause HistRefusal) → first_in funs counts n is ≡ Some k → first_in funs counts n (is ++ js) ≡ Some k
      first k e = first_in-append funs counts n is js ∙ ap (λ o. first_some o (first_in funs counts (n + length is) js)) e

  -- the first breaks none
  pub finds_then : (n m : ℕ) (is js : List NodeAt) (ps qs : List ℕ) (r : Result ℕ TypeFault) → length ps ≡ length is
      → Finds funs counts n is ps (Ok m) → Finds funs counts m js qs r → Finds funs counts n (is ++ js) (ps ++ qs) r
  finds_then n m is js ps qs r l h g = go r g
    where
      next : m ≡ n + length is
      next = h.1

      same : first_in funs counts n (is ++ js) ≡ first_in funs counts m js
      same =
          first_in-append funs counts n is js ∙ ap (λ o. first_some o (first_in funs counts (n + length is) js)) (h.0)
          ∙ ap (λ k. first_in funs counts k js) (sym next)

      go : (r : Result ℕ TypeFault) → Finds funs counts m js qs r → Finds funs counts n (is ++ js) (ps ++ qs) r
      go (Ok k) g =
          let e : k ≡ m + length js = g.1 in
          let both = length-append is js in (same ∙ g.0, omega (arith, e, next, both))
      go (Err f) g =
          let e : m ≡ n + length ps = omega (arith, next, l) in
          (tells_first-as f (first_in funs counts m js) (first_in funs counts n (is ++ js)) (λ k e. same ∙ e) (g.0), place_in-second f m n ps qs e (g.1))

  -- the arguments of a call are its parts
  pub call_found : (n : ℕ) (c : Context) (e : CoreTerm) (r : StreamType) (f : ℕ) (ms : List HistExpr) (es : CoreTerms) (ts : List StreamType) (ps qs : List ℕ) (q : Result ℕ TypeFault)
      → call_term f ms es ≡ e → ts ≡ leaf_types (fun_at funs f).params → ps ≡ qs → Finds funs counts n (nodes_among funs counts c es ts) ps q
      → Finds funs counts n (parts_of (nodes_of funs counts c e r)) qs q
  call_found n c e r f ms es ts ps qs q ee et ep h =
      let P : List StreamType → Type 0 = λ x. Finds funs counts n (nodes_among funs counts c es x) ps q in
      let Q : CoreTerm → Type 0 = λ x. Finds funs counts n (parts_of (nodes_of funs counts c x r)) ps q in
      let R : List ℕ → Type 0 = λ x. Finds funs counts n (parts_of (nodes_of funs counts c e r)) x q in
      subst R ep (subst Q ee (subst P et h))

  -- a node comes before those of its parts
  nodes_of-first : (c : Context) (e : CoreTerm) (r : StreamType) → node c e r ∷ parts_of (nodes_of funs counts c e r) ≡ nodes_of funs counts c e r
  nodes_of-first c (var_term x) r = refl
  nodes_of-first c eps_term r = refl
  nodes_of-first c unit_term r = refl
  nodes_of-first c nil_term r = refl
  nodes_of-first c (past_term m) r = refl
  nodes_of-first c (par_term a b) r = refl
  nodes_of-first c (cat_term a b) r = refl
  nodes_of-first c (cons_term a b) r = refl
  nodes_of-first c (inl_term a) r = refl
  nodes_of-first c (inr_term a) r = refl
  nodes_of-first c (let_term x s a b) r = refl
  nodes_of-first c (let_par_term x y z a) r = refl
  nodes_of-first c (let_cat_term x y z a) r = refl
  nodes_of-first c (case_sum_term z t x a y b) r = refl
  nodes_of-first c (case_star_term z t a y ys b) r = refl
  nodes_of-first c (wait_term x t a) r = refl
  nodes_of-first c (call_term f ms es) r = refl

  -- a node that itself breaks a rule
  pub own_first : (n : ℕ) (c : Context) (e : CoreTerm) (r : StreamType) (place : ℕ) (places : List ℕ) (f : TypeFault)
      → Finds funs counts n (node c e r ∷ []) (place ∷ []) (Err f) → Finds funs counts n (nodes_of funs counts c e r) (place ∷ places) (Err f)
  own_first n c e r place places f h =
      subst (λ l. Finds funs counts n l (place ∷ places) (Err f)) (nodes_of-first c e r)
      (finds_first n (node c e r ∷ []) (parts_of (nodes_of funs counts c e r)) (place ∷ []) places f h)

  -- one that breaks none
  pub own_then : (n m : ℕ) (c : Context) (e : CoreTerm) (r : StreamType) (place : ℕ) (places : List ℕ) (q : Result ℕ TypeFault)
      → Finds funs counts n (node c e r ∷ []) (place ∷ []) (Ok m) → Finds funs counts m (parts_of (nodes_of funs counts c e r)) places q
      → Finds funs counts n (nodes_of funs counts c e r) (place ∷ places) q
  own_then n m c e r place places q h g =
      subst (λ l. Finds funs counts n l (place ∷ places) q) (nodes_of-first c e r)
      (finds_then n m (node c e r ∷ []) (parts_of (nodes_of funs counts c e r)) (place ∷ []) places q refl h g)

  -- what is told of the node itself is told of it as the first of its nodes
  pub own_told : (n : ℕ) (c : Context) (e : CoreTerm) (r : StreamType) (place : ℕ) (cause : TypeCause) → Tells (Some cause) (rule_broken funs counts c e r)
      → Finds funs counts n (node c e r ∷ []) (place ∷ []) (Err (Refused n place cause))
  own_told n c e r place cause h = (go (rule_broken funs counts c e r) h, (0, omega arith, refl))
    where
      at : (k : Cause HistRefusal) (o : Option (Cause HistRefusal)) → o ≡ Some k → IsSomeAnd o (FoundAt n (Some k))
      at k o q = subst (λ v. IsSomeAnd v (FoundAt n (Some k))) (sym q) refl

      go : (b : Option (Cause HistRefusal)) → Some (cause_of cause) ≡ option_map Some b → IsSomeAnd (cause_of cause) (FoundAt n b)
      go None q = absurd (cc q)
      go (Some k) q = at k (cause_of cause) (cc q)

  -- the nodes of the first of two parts are counted before those of the second
  pub second_fits : (n m j k : ℕ) (c : Context) (e : CoreTerm) (r : StreamType) (places : List ℕ) → Finds funs counts n (nodes_of funs counts c e r) places (Ok m)
      → n + k ≤ 2 ^ 32 → k ≡ 1 + (node_count e + j) → m + j < 2 ^ 32
  second_fits n m j k c e r places h l e2 =
      let next : m ≡ n + length (nodes_of funs counts c e r) = h.1 in
      let long = length-nodes funs counts c e r in omega (arith, next, long, l, e2)

-- a term has a node
pub node_count-one : (e : CoreTerm) → 1 ≤ node_count e
node_count-one (var_term x) = omega arith
node_count-one eps_term = omega arith
node_count-one unit_term = omega arith
node_count-one nil_term = omega arith
node_count-one (past_term m) = omega arith
node_count-one (par_term a b) = omega arith
node_count-one (cat_term a b) = omega arith
node_count-one (cons_term a b) = omega arith
node_count-one (inl_term a) = omega arith
node_count-one (inr_term a) = omega arith
node_count-one (let_term x s a b) = omega arith
node_count-one (let_par_term x y z a) = omega arith
node_count-one (let_cat_term x y z a) = omega arith
node_count-one (case_sum_term z t x a y b) = omega arith
node_count-one (case_star_term z t a y ys b) = omega arith
node_count-one (wait_term x t a) = omega arith
node_count-one (call_term f ms es) = omega arith
