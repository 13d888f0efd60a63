-- The core term that an expression elaborates to: each variable gets a number of its own, names of types give
-- way to their types, and what the core doesn't have is said by what it has.
--
-- Choices that are not obvious:
-- - An elaboration begins at a number, from which it numbers its variables in the order of `NewNames.antt`.
-- - It is total: a name that isn't bound has any number, and a type that isn't known counts as `eps`. Only where
--   nothing is wrong (`Faults.antt`) is it what a program elaborates to.
-- - A head that is a name is the subject itself. Round a form that takes another head apart stands a `let` of
--   an added name.
-- - A case and a wait have the expected type with them. Where an expected type hasn't the form, its parts
--   count as `eps`.
use Rattle.std.specs.Prelude.{ℕ, suc, ◌+◌, List, [], ◌∷◌, length}
use Rattle.stream_type.specs.StreamType.{StreamType, eps, one, sum}
use Rattle.bunch.specs.BunchTree.{BunchTree, empty, leaf, comma, semi, leaf_names}
use Rattle.bunch.specs.Names.{put}
use Rattle.hist_value.specs.HistExpr.{HistExpr, variable, literal, unit_expr, reckoned, pair_expr, first_expr, second_expr, left_expr, right_expr, choice, nil_expr, cons_expr, fold_expr}
use Rattle.delta_tree.specs.SyntaxTree.{WrittenHist, Expression, name_at, eps_at, unit_at, nil_at, hist_at, par_at, cat_at, cons_at, inl_at, inr_at, typed_at, let_at, let_par_at, let_cat_at, case_sum_at, case_star_at, wait_at, if_at, call_at, Head, name_head, call_head, typed_head, Expressions, no_expressions, expression_before}
use Rattle.core_term.specs.CoreTerm.{CoreTerm, CoreTerms, CoreBody, var_term, eps_term, unit_term, nil_term, past_term, par_term, cat_term, cons_term, inl_term, inr_term, let_term, let_par_term, let_cat_term, case_sum_term, case_star_term, wait_term, call_term, no_terms, term_before, leaf_types}
use Rattle.core_term.specs.Environment.{NameTypes}
use Rattle.core_term.specs.Agreement.{types_in}
use Rattle.core_term.specs.Parts.{par_left, par_right, cat_first, cat_second, sum_left, sum_right, star_item, star_items}
use Rattle.delta_meaning.specs.TypeNames.{TypeNames, type_meant}
use Rattle.delta_meaning.specs.SourceBody.{SourceBody}
use Rattle.delta_meaning.specs.SourceMeaning.{head_type, source_past_names}
use Rattle.delta_meaning.specs.NewNames.{new_in_expr, new_in_exprs, new_in, new_in_head, new_in_subject, new_in_body}

-- the number of each name
abbrev pub Numbers : Type 0
Numbers = ℕ → ℕ

-- no name has a number of its own
abbrev pub no_numbers : Numbers
no_numbers x = 0

-- a historical expression with numbers for its names
abbrev pub numbered_expr : HistExpr → Numbers → ℕ → HistExpr
numbered_expr (variable x) numbers n = variable (numbers x)
numbered_expr (literal z) numbers n = literal z
numbered_expr unit_expr numbers n = unit_expr
numbered_expr (reckoned o a b) numbers n = reckoned o (numbered_expr a numbers n) (numbered_expr b numbers (n + length (new_in_expr a)))
numbered_expr (pair_expr a b) numbers n = pair_expr (numbered_expr a numbers n) (numbered_expr b numbers (n + length (new_in_expr a)))
numbered_expr (first_expr a) numbers n = first_expr (numbered_expr a numbers n)
numbered_expr (second_expr a) numbers n = second_expr (numbered_expr a numbers n)
numbered_expr (left_expr a) numbers n = left_expr (numbered_expr a numbers n)
numbered_expr (right_expr a) numbers n = right_expr (numbered_expr a numbers n)
numbered_expr (choice a x b y d) numbers n =
    let i = n + length (new_in_expr a) in
    let j = suc i + length (new_in_expr b) in
    choice (numbered_expr a numbers n) i (numbered_expr b (put x i numbers) (suc i)) j (numbered_expr d (put y j numbers) (suc j))
numbered_expr nil_expr numbers n = nil_expr
numbered_expr (cons_expr a b) numbers n = cons_expr (numbered_expr a numbers n) (numbered_expr b numbers (n + length (new_in_expr a)))
numbered_expr (fold_expr a s x y b) numbers n =
    let i = n + length (new_in_expr a) in
    let j = i + length (new_in_expr s) in
    fold_expr (numbered_expr a numbers n) (numbered_expr s numbers i) j (suc j) (numbered_expr b (put y (suc j) (put x j numbers)) (suc (suc j)))

abbrev pub numbered_exprs : List WrittenHist → Numbers → ℕ → List HistExpr
numbered_exprs [] numbers n = []
numbered_exprs (m ∷ ms) numbers n = numbered_expr m.expr numbers n ∷ numbered_exprs ms numbers (n + length (new_in_expr m.expr))

-- the subject of a form that takes a head apart: the head's name, or else the added one
abbrev pub subject : Head → Numbers → ℕ → ℕ
subject (name_head at x) numbers z = numbers x
subject (call_head at f ms es) numbers z = z
subject (typed_head at e t) numbers z = z

-- the form itself where the head is a name, and else in a `let` of the added name z, of type s, to the head's core
abbrev pub round : Head → ℕ → StreamType → CoreTerm → CoreTerm → CoreTerm
round (name_head at x) z s a e = e
round (call_head at f ms es) z s a e = let_term z s a e
round (typed_head at b t) z s a e = let_term z s a e

module _ (functions : ℕ → SourceBody) (number : ℕ → ℕ) (names : TypeNames) where
  abbrev mutual
    -- the core of an expression, with the numbers of names, the types of stream names, the expected type, and
    -- the first number that is free
    pub core_at : Expression → Numbers → NameTypes → StreamType → ℕ → CoreTerm
    core_at (name_at at x) numbers types r n = var_term (numbers x)
    core_at (eps_at at) numbers types r n = eps_term
    core_at (unit_at at) numbers types r n = unit_term
    core_at (nil_at at) numbers types r n = nil_term
    core_at (hist_at at m) numbers types r n = past_term (numbered_expr m.expr numbers n)
    core_at (par_at at a b) numbers types r n =
        par_term (core_at a numbers types (par_left r) n) (core_at b numbers types (par_right r) (n + length (new_in a)))
    core_at (cat_at at a b) numbers types r n =
        cat_term (core_at a numbers types (cat_first r) n) (core_at b numbers types (cat_second r) (n + length (new_in a)))
    core_at (cons_at at a b) numbers types r n =
        cons_term (core_at a numbers types (star_item r) n) (core_at b numbers types (star_items r) (n + length (new_in a)))
    core_at (inl_at at a) numbers types r n = inl_term (core_at a numbers types (sum_left r) n)
    core_at (inr_at at a) numbers types r n = inr_term (core_at a numbers types (sum_right r) n)
    core_at (typed_at at a t) numbers types r n = let_term n (type_meant names t) (core_at a numbers types (type_meant names t) (suc n)) (var_term n)
    core_at (let_at at x h e) numbers types r n =
        let s = head_type functions names h types in
        let_term n s (core_of_head h numbers types (suc n)) (core_at e (put x n numbers) (put x s types) r (suc n + length (new_in_head h)))
    core_at (let_par_at at x y h e) numbers types r n =
        let s = head_type functions names h types in
        let z = suc (suc n) in
        round h z s (core_of_head h numbers types (suc z)) (let_par_term n (suc n) (subject h numbers z)
        (core_at e (put y (suc n) (put x n numbers)) (put y (par_right s) (put x (par_left s) types)) r (z + length (new_in_subject h))))
    core_at (let_cat_at at x y h e) numbers types r n =
        let s = head_type functions names h types in
        let z = suc (suc n) in
        round h z s (core_of_head h numbers types (suc z)) (let_cat_term n (suc n) (subject h numbers z)
        (core_at e (put y (suc n) (put x n numbers)) (put y (cat_second s) (put x (cat_first s) types)) r (z + length (new_in_subject h))))
    core_at (case_sum_at at h x a y b) numbers types r n =
        let s = head_type functions names h types in
        let i = n + length (new_in_subject h) in
        let j = suc i + length (new_in a) in
        round h n s (core_of_head h numbers types (suc n)) (case_sum_term (subject h numbers n) r
        i (core_at a (put x i numbers) (put x (sum_left s) types) r (suc i))
        j (core_at b (put y j numbers) (put y (sum_right s) types) r (suc j)))
    core_at (case_star_at at h a y ys b) numbers types r n =
        let s = head_type functions names h types in
        let i = n + length (new_in_subject h) in
        let j = i + length (new_in a) in
        round h n s (core_of_head h numbers types (suc n)) (case_star_term (subject h numbers n) r (core_at a numbers types r i)
        j (suc j) (core_at b (put ys (suc j) (put y j numbers)) (put ys (star_items s) (put y (star_item s) types)) r (suc (suc j))))
    core_at (wait_at at x e) numbers types r n = wait_term (numbers x) r (core_at e numbers (put x eps types) r n)
    core_at (if_at at m a b) numbers types r n =
        let i = suc (suc (suc n)) + length (new_in_expr m.expr) in
        let_term n (sum one one) (past_term (numbered_expr m.expr numbers (suc (suc (suc n))))) (case_sum_term n r
        (suc n) (core_at a numbers types r i)
        (suc (suc n)) (core_at b numbers types r (i + length (new_in a))))
    core_at (call_at at f ms es) numbers types r n =
        call_term (number f) (numbered_exprs ms numbers n) (core_of_arguments es (leaf_types (functions f).params) numbers types (n + length (new_in_exprs ms)))

    -- the core of a head, at its type
    pub core_of_head : Head → Numbers → NameTypes → ℕ → CoreTerm
    core_of_head (name_head at x) numbers types n = var_term (numbers x)
    core_of_head (call_head at f ms es) numbers types n =
        call_term (number f) (numbered_exprs ms numbers n) (core_of_arguments es (leaf_types (functions f).params) numbers types (n + length (new_in_exprs ms)))
    core_of_head (typed_head at e t) numbers types n = core_at e numbers types (type_meant names t) n

    -- the cores of arguments, at the types of their parameters; one without a parameter has the expected type `eps`
    pub core_of_arguments : Expressions → List StreamType → Numbers → NameTypes → ℕ → CoreTerms
    core_of_arguments no_expressions ts numbers types n = no_terms
    core_of_arguments (expression_before e es) [] numbers types n =
        term_before (core_at e numbers types eps n) (core_of_arguments es [] numbers types (n + length (new_in e)))
    core_of_arguments (expression_before e es) (t ∷ ts) numbers types n =
        term_before (core_at e numbers types t n) (core_of_arguments es ts numbers types (n + length (new_in e)))

-- names with numbers from n on, in turn; a name that stands twice has the first of its numbers
abbrev pub numbered_names : List ℕ → ℕ → Numbers → Numbers
numbered_names [] n numbers = numbers
numbered_names (x ∷ xs) n numbers = put x n (numbered_names xs (suc n) numbers)

-- historical parameters with numbers from n on in place of their names
abbrev pub numbered_past : List (ℕ × StreamType) → ℕ → List (ℕ × StreamType)
numbered_past [] n = []
numbered_past (e ∷ es) n = (n, e.1) ∷ numbered_past es (suc n)

-- stream parameters with numbers from n on in place of their names, from left to right
abbrev pub numbered_params : BunchTree → ℕ → BunchTree
numbered_params empty n = empty
numbered_params (leaf x t) n = leaf n t
numbered_params (comma a b) n = comma (numbered_params a n) (numbered_params b (n + length (leaf_names a)))
numbered_params (semi a b) n = semi (numbered_params a n) (numbered_params b (n + length (leaf_names a)))

-- the numbers of a body's parameters, of which the historical ones come first; a stream parameter hides a
-- historical one with its name
abbrev pub param_numbers : SourceBody → ℕ → Numbers
param_numbers b n = numbered_names (leaf_names b.params) (n + length (source_past_names b)) (numbered_names (source_past_names b) n no_numbers)

module _ (functions : ℕ → SourceBody) (number : ℕ → ℕ) where
  -- the core of a function whose variables are numbered from n on
  abbrev pub core_body : SourceBody → ℕ → CoreBody
  core_body b n =
      let m = n + length (source_past_names b) in
      record {
        past = numbered_past b.past n;
        params = numbered_params b.params m;
        result = b.result;
        body = core_at functions number b.type_names b.body (param_numbers b n) (types_in b.params) b.result (m + length (leaf_names b.params));
      }

  -- the cores of functions, in turn
  abbrev pub core_bodies : List SourceBody → ℕ → List CoreBody
  core_bodies [] n = []
  core_bodies (b ∷ bs) n = core_body b n ∷ core_bodies bs (n + length (new_in_body b))
