-- Arguments and bodies in turn: what is answered of all of them, where those so far break no rule.
use Rattle.std.proofs.Common.{◌≡◌, ℕ, zero, suc, arith, ◌+◌, ◌<◌, ◌≤◌, ◌^◌, Bool, List, [], ◌∷◌, ◌++◌, length, map, drop, get_or, refl, ap, sym, subst, ◌∙◌, append_assoc}
use Rattle.std.specs.Prelude.{Result, Ok, Err, slice_index_or}
use Rattle.std.specs.List.{concat}
use Rattle.std.proofs.lemmas.List.{at_drop_more, at_drop_all}
use Rattle.stream_type.specs.StreamType.{StreamType, eps}
use Rattle.core_term.specs.declared.program.Body.{Body}
use Rattle.core_term.specs.declared.program.Core.{Core}
use Rattle.core_term.specs.declared.term.Node.{Node}
use Rattle.core_term.specs.CoreTerm.{CoreTerm, CoreTerms, CoreBody, term_before, term_of, terms_from, places_of, node_count, node_counts, core_of, core_body_of, body_places, core_places}
use Rattle.core_term.specs.FreeNames.{nodes_of_bodies}
use Rattle.core_term.specs.Typing.{Context}
use Rattle.core_term.specs.TypeFaults.{NodeAt, nodes_of, nodes_among, nodes_of_body, nodes_in_bodies, program_nodes}
use Rattle.core_term.specs.Inert.{is_inert_fun}
use Rattle.core_term.specs.Typing.{context_of}
use Rattle.delta_check.specs.Checking.{Finds}
use Rattle.delta_check.specs.declared.fault.TypeFault.{TypeFault}
use Rattle.delta_check.proofs.Firsts.{length-nodes}
use Rattle.delta_check.proofs.Joined.{finds_first, finds_then}
use Rattle.delta_check.proofs.NodePlaces.{length-places}

module _ (funs : List CoreBody) (counts : ℕ → Bool) (c : Context) where
  -- the nodes of arguments
  abbrev pub among : List Node → List StreamType → List NodeAt
  among es ts = nodes_among funs counts c (terms_from (map term_of es)) ts

  by_type : (e : CoreTerm) (es : CoreTerms) (ts : List StreamType) (i : ℕ)
      → nodes_among funs counts c (term_before e es) (drop i ts) ≡ nodes_of funs counts c e (slice_index_or ts i eps) ++ nodes_among funs counts c es (drop (suc i) ts)
  by_type e es [] zero = refl
  by_type e es [] (suc i) = refl
  by_type e es (t ∷ ts) zero = refl
  by_type e es (t ∷ ts) (suc i) = by_type e es ts i

  -- the next argument's nodes stand first
  pub among-next : (es : List Node) (ts : List StreamType) (i : ℕ) (e : Node) → i < length es → e ≡ get_or es i e
      → among (drop i es) (drop i ts) ≡ nodes_of funs counts c (term_of e) (slice_index_or ts i eps) ++ among (drop (i + 1) es) (drop (i + 1) ts)
  among-next es ts i e h q =
      let one : suc i ≡ i + 1 = omega arith in
      at_drop_more (λ l. among l (drop i ts)) es i e h ∙ ap (λ a. among (a ∷ drop (i + 1) es) (drop i ts)) (sym q)
      ∙ by_type (term_of e) (terms_from (map term_of (drop (i + 1) es))) ts i ∙ ap (λ j. nodes_of funs counts c (term_of e) (slice_index_or ts i eps) ++ among (drop (i + 1) es) (drop j ts)) one

  -- of arguments whose nodes are numbered from n, those before i break no rule, and m is the number
  -- after them
  pub record ArgumentsLeft (n m : ℕ) (es : List Node) (ts : List StreamType) (i : ℕ) : Type 0 where
    pub count : m + node_counts (terms_from (map term_of (drop i es))) ≡ n + node_counts (terms_from (map term_of es))
    pub decides : (r : Result ℕ TypeFault) → Finds funs counts m (among (drop i es) (drop i ts)) (concat (map places_of (drop i es))) r → Finds funs counts n (among es ts) (concat (map places_of es)) r

  places-next : (es : List Node) (i : ℕ) (e : Node) → i < length es → e ≡ get_or es i e → concat (map places_of (drop i es)) ≡ places_of e ++ concat (map places_of (drop (i + 1) es))
  places-next es i e h q = at_drop_more (λ l. concat (map places_of l)) es i e h ∙ ap (λ a. places_of a ++ concat (map places_of (drop (i + 1) es))) (sym q)

  counts-next : (es : List Node) (i : ℕ) (e : Node) → i < length es → e ≡ get_or es i e
      → node_counts (terms_from (map term_of (drop i es))) ≡ node_count (term_of e) + node_counts (terms_from (map term_of (drop (i + 1) es)))
  counts-next es i e h q =
      at_drop_more (λ l. node_counts (terms_from (map term_of l))) es i e h ∙ ap (λ a. node_count (term_of a) + node_counts (terms_from (map term_of (drop (i + 1) es)))) (sym q)

  -- at the first argument
  pub arguments-init : (n : ℕ) (es : List Node) (ts : List StreamType) → ArgumentsLeft n n es ts 0
  arguments-init n es ts = record { count = refl; decides = λ r h. h }

  module _ (n m : ℕ) (es : List Node) (ts : List StreamType) (i : ℕ) (e : Node) (t : StreamType) (less : i < length es) (is : e ≡ get_or es i e) (typed : t ≡ slice_index_or ts i eps)
      (left : ArgumentsLeft n m es ts i) where
    -- its number fits
    pub argument-count : n + node_counts (terms_from (map term_of es)) < 2 ^ 32 → m + node_count (term_of e) < 2 ^ 32
    argument-count h = let k = counts-next es i e less is in omega (arith, h, k, left.count)

    -- the next argument breaks a rule
    pub arguments-first : (f : TypeFault) → Finds funs counts m (nodes_of funs counts c (term_of e) t) (places_of e) (Err f) → Finds funs counts n (among es ts) (concat (map places_of es)) (Err f)
    arguments-first f h =
        left.decides (Err f)
        (subst (λ l. Finds funs counts m l (concat (map places_of (drop i es))) (Err f)) (sym (among-next es ts i e less is))
        (subst (λ l. Finds funs counts m (nodes_of funs counts c (term_of e) (slice_index_or ts i eps) ++ among (drop (i + 1) es) (drop (i + 1) ts)) l (Err f)) (sym (places-next es i e less is))
        (finds_first funs counts m (nodes_of funs counts c (term_of e) (slice_index_or ts i eps)) (among (drop (i + 1) es) (drop (i + 1) ts)) (places_of e) (concat (map places_of (drop (i + 1) es))) f
        (subst (λ u. Finds funs counts m (nodes_of funs counts c (term_of e) u) (places_of e) (Err f)) typed h))))

    -- it breaks none
    pub arguments-then : (k : ℕ) → Finds funs counts m (nodes_of funs counts c (term_of e) t) (places_of e) (Ok k) → ArgumentsLeft n k es ts (i + 1)
    arguments-then k h =
        let next : k ≡ m + length (nodes_of funs counts c (term_of e) t) = h.1 in
        record {
          count =
              let count = counts-next es i e less is in
              let long = length-nodes funs counts c (term_of e) t in omega (arith, count, long, next, left.count);
          decides = λ r g.
              left.decides r
              (subst (λ l. Finds funs counts m l (concat (map places_of (drop i es))) r) (sym (among-next es ts i e less is))
              (subst (λ l. Finds funs counts m (nodes_of funs counts c (term_of e) (slice_index_or ts i eps) ++ among (drop (i + 1) es) (drop (i + 1) ts)) l r) (sym (places-next es i e less is))
              (finds_then funs counts m k (nodes_of funs counts c (term_of e) (slice_index_or ts i eps)) (among (drop (i + 1) es) (drop (i + 1) ts)) (places_of e) (concat (map places_of (drop (i + 1) es))) r
              (length-places e ∙ sym (length-nodes funs counts c (term_of e) (slice_index_or ts i eps)))
              (subst (λ u. Finds funs counts m (nodes_of funs counts c (term_of e) u) (places_of e) (Ok k)) typed h) g)));
        }

  -- after the last argument
  pub arguments-end : (n m : ℕ) (es : List Node) (ts : List StreamType) (i : ℕ) → length es ≤ i → ArgumentsLeft n m es ts i → Finds funs counts n (among es ts) (concat (map places_of es)) (Ok m)
  arguments-end n m es ts i h left =
      left.decides (Ok m)
      (subst (λ l. Finds funs counts m l (concat (map places_of (drop i es))) (Ok m)) (sym (at_drop_all (λ l. among l (drop i ts)) es i h)) (refl, omega arith))

module _ (p : Core) where
  -- the functions, and which of them are inert
  abbrev pub functions : List CoreBody
  functions = (core_of p).funs

  abbrev pub inert_ones : ℕ → Bool
  inert_ones = is_inert_fun functions

  -- the nodes of bodies and of the main program after them, and their places
  abbrev pub nodes_from : List Body → List NodeAt
  nodes_from bs = nodes_in_bodies functions (map core_body_of bs) ++ nodes_of_body functions (core_of p).main

  abbrev pub places_from : List Body → List ℕ
  places_from bs = concat (map body_places bs) ++ body_places p.main

  -- the functions before i break no rule, and m is the number after their nodes
  pub record BodiesLeft (m i : ℕ) : Type 0 where
    pub count : m + nodes_of_bodies (map core_body_of (drop i p.funs.items)) ≡ nodes_of_bodies functions
    pub decides : (r : Result ℕ TypeFault) → Finds functions inert_ones m (nodes_from (drop i p.funs.items)) (places_from (drop i p.funs.items)) r
        → Finds functions inert_ones 0 (program_nodes (core_of p)) (core_places p) r

  -- at the first function
  pub bodies-init : BodiesLeft 0 0
  bodies-init = record { count = omega arith; decides = λ r h. h }

  module _ (m i : ℕ) (b : Body) (less : i < length p.funs.items) (is : b ≡ get_or p.funs.items i b) (left : BodiesLeft m i) where
    abbrev mine : List NodeAt
    mine = nodes_of_body functions (core_body_of b)

    nodes-next : nodes_from (drop i p.funs.items) ≡ mine ++ nodes_from (drop (i + 1) p.funs.items)
    nodes-next =
        at_drop_more nodes_from p.funs.items i b less ∙ ap (λ a. nodes_from (a ∷ drop (i + 1) p.funs.items)) (sym is)
        ∙ append_assoc mine (nodes_in_bodies functions (map core_body_of (drop (i + 1) p.funs.items))) (nodes_of_body functions (core_of p).main)

    body-places-next : places_from (drop i p.funs.items) ≡ body_places b ++ places_from (drop (i + 1) p.funs.items)
    body-places-next =
        at_drop_more places_from p.funs.items i b less ∙ ap (λ a. places_from (a ∷ drop (i + 1) p.funs.items)) (sym is)
        ∙ append_assoc (body_places b) (concat (map body_places (drop (i + 1) p.funs.items))) (body_places p.main)

    bodies-next : nodes_of_bodies (map core_body_of (drop i p.funs.items)) ≡ node_count (core_body_of b).body + nodes_of_bodies (map core_body_of (drop (i + 1) p.funs.items))
    bodies-next =
        at_drop_more (λ l. nodes_of_bodies (map core_body_of l)) p.funs.items i b less
        ∙ ap (λ a. node_count (core_body_of a).body + nodes_of_bodies (map core_body_of (drop (i + 1) p.funs.items))) (sym is)

    -- the number of its nodes fits
    pub body-count : nodes_of_bodies functions + node_count (core_of p).main.body < 2 ^ 32 → m + node_count (core_body_of b).body < 2 ^ 32
    body-count h = let k = bodies-next in omega (arith, h, k, left.count)

    -- the next body breaks a rule
    pub bodies-first : (f : TypeFault) → Finds functions inert_ones m mine (body_places b) (Err f) → Finds functions inert_ones 0 (program_nodes (core_of p)) (core_places p) (Err f)
    bodies-first f h =
        left.decides (Err f)
        (subst (λ l. Finds functions inert_ones m l (places_from (drop i p.funs.items)) (Err f)) (sym nodes-next)
        (subst (λ l. Finds functions inert_ones m (mine ++ nodes_from (drop (i + 1) p.funs.items)) l (Err f)) (sym body-places-next)
        (finds_first functions inert_ones m mine (nodes_from (drop (i + 1) p.funs.items)) (body_places b) (places_from (drop (i + 1) p.funs.items)) f h)))

    -- it breaks none
    pub bodies-then : (k : ℕ) → Finds functions inert_ones m mine (body_places b) (Ok k) → BodiesLeft k (i + 1)
    bodies-then k h =
        let next : k ≡ m + length mine = h.1 in
        let long : length mine ≡ node_count (core_body_of b).body =
        length-nodes functions inert_ones (context_of (core_body_of b)) (core_body_of b).body (core_body_of b).result in
        record {
          count = let count = bodies-next in omega (arith, count, long, next, left.count);
          decides = λ r g.
              left.decides r
              (subst (λ l. Finds functions inert_ones m l (places_from (drop i p.funs.items)) r) (sym nodes-next)
              (subst (λ l. Finds functions inert_ones m (mine ++ nodes_from (drop (i + 1) p.funs.items)) l r) (sym body-places-next)
              (finds_then functions inert_ones m k mine (nodes_from (drop (i + 1) p.funs.items)) (body_places b) (places_from (drop (i + 1) p.funs.items)) r
              (length-places b.body ∙ sym long) h g)));
        }

  -- after the last function the main program is left
  pub bodies-end : (m i : ℕ) → length p.funs.items ≤ i → BodiesLeft m i → (r : Result ℕ TypeFault)
      → Finds functions inert_ones m (nodes_of_body functions (core_of p).main) (body_places p.main) r → Finds functions inert_ones 0 (program_nodes (core_of p)) (core_places p) r
  bodies-end m i h left r g =
      left.decides r
      (subst (λ l. Finds functions inert_ones m l (places_from (drop i p.funs.items)) r) (sym (at_drop_all nodes_from p.funs.items i h))
      (subst (λ l. Finds functions inert_ones m (nodes_of_body functions (core_of p).main) l r) (sym (at_drop_all places_from p.funs.items i h)) g))

  -- and the number of its nodes fits
  pub main-count : (m i : ℕ) → length p.funs.items ≤ i → BodiesLeft m i → nodes_of_bodies functions + node_count (core_of p).main.body < 2 ^ 32 → m + node_count (core_of p).main.body < 2 ^ 32
  main-count m i h left k =
      let e = at_drop_all (λ l. nodes_of_bodies (map core_body_of l)) p.funs.items i h in omega (arith, k, e, left.count)
