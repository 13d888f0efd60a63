-- The core of an expression has as many nodes as places.
use Rattle.std.proofs.Common.{◌≡◌, ℕ, suc, ◌+◌, List, [], ◌∷◌, ◌++◌, length, refl, sym, subst, arith, length-append}
use Rattle.stream_type.specs.StreamType.{StreamType}
use Rattle.delta_tree.specs.SyntaxTree.{Expression, name_at, eps_at, unit_at, nil_at, hist_at, par_at, cat_at, cons_at, inl_at, inr_at, typed_at, let_at, let_par_at, let_cat_at, case_sum_at, case_star_at, wait_at, if_at, call_at, Head, name_head, call_head, typed_head, Expressions, no_expressions, expression_before}
use Rattle.core_term.specs.CoreTerm.{CoreTerm, CoreBody, CoreProgram, node_count, node_counts}
use Rattle.core_term.specs.FreeNames.{nodes_of_bodies}
use Rattle.core_term.specs.Environment.{NameTypes}
use Rattle.delta_meaning.specs.TypeNames.{TypeNames}
use Rattle.delta_meaning.specs.SourceBody.{SourceBody, functions_of, main_of, function_named, number_named}
use Rattle.delta_meaning.specs.NewNames.{new_in_body}
use Rattle.delta_meaning.specs.Elaboration.{Numbers, round, core_at, core_of_head, core_of_arguments, core_bodies}
use Rattle.delta_meaning.specs.NodePlaces.{node_places, head_places, subject_places, argument_places, body_places, program_places}
use Rattle.delta_meaning.specs.Laws.{EachNodeHasPlace}
use Rattle.delta_meaning.proofs.WholePrograms.{is_fine}

-- what stands round a form that takes a head apart, and the form
node_count-round : (h : Head) (z : ℕ) (s : StreamType) (a e : CoreTerm) (places : List ℕ) → node_count a ≡ length (head_places h) → node_count e ≡ length places → node_count (round h z s a e) ≡ length (subject_places h ++ places)
node_count-round (name_head at x) z s a e places ea ee = ee
node_count-round (call_head at f ms es) z s a e places ea ee = let l = length-append (at ∷ argument_places es) places in omega (arith, ea, ee, l)
node_count-round (typed_head at b t) z s a e places ea ee = let l = length-append (node_places b) places in omega (arith, ea, ee, l)

-- a node with one part
one_more : {m k : ℕ} → m ≡ k → 1 + m ≡ suc k
one_more u = omega (arith, u)

-- a node with two parts
both : {m k : ℕ} (xs ys : List ℕ) → m ≡ length xs → k ≡ length ys → 1 + (m + k) ≡ suc (length (xs ++ ys))
both xs ys u v = let l = length-append xs ys in omega (arith, u, v, l)

-- parts one after the other
joined : {m k : ℕ} (xs ys : List ℕ) → m ≡ length xs → k ≡ length ys → m + k ≡ length (xs ++ ys)
joined xs ys u v = let l = length-append xs ys in omega (arith, u, v, l)

module _ (functions : ℕ → SourceBody) (number : ℕ → ℕ) (names : TypeNames) where
  mutual
    counts : (e : Expression) (numbers : Numbers) (types : NameTypes) (r : StreamType) (n : ℕ) → node_count (core_at functions number names e numbers types r n) ≡ length (node_places e)
    counts (name_at at x) numbers types r n = refl
    counts (eps_at at) numbers types r n = refl
    counts (unit_at at) numbers types r n = refl
    counts (nil_at at) numbers types r n = refl
    counts (hist_at at m) numbers types r n = refl
    counts (par_at at a b) numbers types r n = both (node_places a) (node_places b) (counts a _ _ _ _) (counts b _ _ _ _)
    counts (cat_at at a b) numbers types r n = both (node_places a) (node_places b) (counts a _ _ _ _) (counts b _ _ _ _)
    counts (cons_at at a b) numbers types r n = both (node_places a) (node_places b) (counts a _ _ _ _) (counts b _ _ _ _)
    counts (inl_at at a) numbers types r n = one_more (counts a _ _ _ _)
    counts (inr_at at a) numbers types r n = one_more (counts a _ _ _ _)
    counts (typed_at at a t) numbers types r n = both (node_places a) (at ∷ []) (counts a _ _ _ _) refl
    counts (let_at at x h e) numbers types r n = both (head_places h) (node_places e) (counts_head h _ _ _) (counts e _ _ _ _)
    counts (let_par_at at x y h e) numbers types r n = node_count-round h _ _ _ _ (at ∷ node_places e) (counts_head h _ _ _) (one_more (counts e _ _ r _))
    counts (let_cat_at at x y h e) numbers types r n = node_count-round h _ _ _ _ (at ∷ node_places e) (counts_head h _ _ _) (one_more (counts e _ _ r _))
    counts (case_sum_at at h x a y b) numbers types r n = node_count-round h _ _ _ _ (at ∷ (node_places a ++ node_places b)) (counts_head h _ _ _) (both (node_places a) (node_places b) (counts a _ _ _ _) (counts b _ _ _ _))
    counts (case_star_at at h a y ys b) numbers types r n = node_count-round h _ _ _ _ (at ∷ (node_places a ++ node_places b)) (counts_head h _ _ _) (both (node_places a) (node_places b) (counts a _ _ _ _) (counts b _ _ _ _))
    counts (wait_at at x e) numbers types r n = one_more (counts e _ _ _ _)
    counts (if_at at m a b) numbers types r n = one_more (one_more (both (node_places a) (node_places b) (counts a _ _ _ _) (counts b _ _ _ _)))
    counts (call_at at f ms es) numbers types r n = one_more (counts_arguments es _ _ _ _)

    counts_head : (h : Head) (numbers : Numbers) (types : NameTypes) (n : ℕ) → node_count (core_of_head functions number names h numbers types n) ≡ length (head_places h)
    counts_head (name_head at x) numbers types n = refl
    counts_head (call_head at f ms es) numbers types n = one_more (counts_arguments es _ _ _ _)
    counts_head (typed_head at e t) numbers types n = counts e _ _ _ n

    counts_arguments : (es : Expressions) (ts : List StreamType) (numbers : Numbers) (types : NameTypes) (n : ℕ) → node_counts (core_of_arguments functions number names es ts numbers types n) ≡ length (argument_places es)
    counts_arguments no_expressions ts numbers types n = refl
    counts_arguments (expression_before e es) [] numbers types n =
        joined (node_places e) (argument_places es) (counts e _ _ _ _) (counts_arguments es [] _ _ _)
    counts_arguments (expression_before e es) (t ∷ ts) numbers types n =
        joined (node_places e) (argument_places es) (counts e _ _ _ _) (counts_arguments es ts _ _ _)

module _ (functions : ℕ → SourceBody) (number : ℕ → ℕ) where
  counts_bodies : (bs : List SourceBody) (n : ℕ) → nodes_of_bodies (core_bodies functions number bs n) ≡ length (body_places bs)
  counts_bodies [] n = refl
  counts_bodies (b ∷ bs) n =
      joined (node_places b.body) (body_places bs) (counts functions number b.type_names b.body _ _ _ _) (counts_bodies bs (n + length (new_in_body b)))

pub each_node_has_place : EachNodeHasPlace
each_node_has_place p c h =
    let e = is_fine p c h in
    let functions = function_named (functions_of p) in
    let number = number_named (functions_of p) in
    let main = main_of p in
    subst (λ c. length (program_places p) ≡ nodes_of_bodies (CoreProgram.funs c) + node_count (CoreBody.body c.main)) e.is
    (sym (joined (body_places (functions_of p)) (node_places main.body) (counts_bodies functions number (functions_of p) 0) (counts functions number main.type_names main.body _ _ _ _)))
