-- The context of a called body, as its arguments are gone through.
use mathlib.Core.Path.{fun_ext}
use Rattle.std.proofs.Common.{◌≡◌, ◌∙◌, ℕ, ◌+◌, ◌<◌, ◌≤◌, Bool, true, false, true≢false, ◌&&◌, ◌||◌, not, if◌then◌else◌, List, [], ◌∷◌, ◌++◌, map, length, get_or, take, drop, refl, ap, ap₂, sym}
use Rattle.std.specs.Prelude.{Option, Some, IsTrue, ◌↔◌, ◌==◌}
use Rattle.std.specs.List.{list_all}
use Rattle.std.proofs.lemmas.Bool.{eqb-true, not-true}
use Rattle.std.proofs.lemmas.List.{drop_all, drop_more, take_all}
use Rattle.std.proofs.lemmas.List.Folds.{list_any-append}
use Rattle.stream_type.specs.declared.ty.Ty.{Ty}
use Rattle.stream_type.specs.StreamType.{StreamType, type_of}
use Rattle.bunch.specs.declared.name.Name.{Name}
use Rattle.bunch.specs.Facts.{Facts}
use Rattle.bunch.specs.Names.{numbers_of, holds}
use Rattle.bunch.proofs.Tests.{and_first, and_second, or_assoc}
use Rattle.core_term.specs.CoreTerm.{typed_names_of}
use Rattle.core_term.specs.FreeNames.{is_distinct}
use Rattle.core_term.specs.Typing.{Context, is_before, AllBefore}
use Rattle.core_term.proofs.Sides.{all-holds, holds-all}
use Rattle.core_term.proofs.OnceEach.{or_false}
use Rattle.delta_check.specs.Scopes.{given_at, facts_given, context_given}
use Rattle.delta_check.proofs.Once.{and_assoc}
use Rattle.delta_state.specs.StateTree.{StateTree, ArgumentTrees, no_arguments, argument_before, argument_names, argument_at, free_in_state}
use Rattle.delta_state.specs.StateTyping.{marks_of_arguments, facts_of_arguments, context_of_arguments, no_pasts}
use Rattle.delta_keep.specs.declared.kept.Argument.{Argument}
use Rattle.delta_keep.specs.KeptView.{state_of, arguments_from}
use Rattle.kept_check.specs.Arguments.{some_argument, are_before, are_behind, are_in_order}
use Rattle.kept_check.specs.Free.{HasNames}

-- the types of parameters, as they are listed
abbrev pub types_from : List Argument → List (ℕ × StreamType)
types_from args = map (λ a. (a.name.0, type_of a.ty.value)) args

listed-marks : (args : List Argument) (x : ℕ) → given_at (types_from args) x ≡ marks_of_arguments (arguments_from args) x
listed-marks [] x = refl
listed-marks (a ∷ args) x = ap (λ o. if x == a.name.0 then Some (type_of a.ty.value) else o) (listed-marks args x)

pub types_are : (args : List Argument) (i : ℕ) (v : List (Name × Ty)) → length args ≤ i → typed_names_of v ≡ types_from (take i args)
    → (x : ℕ) → given_at (typed_names_of v) x ≡ marks_of_arguments (arguments_from args) x
types_are args i v l e x = ap (λ l. given_at l x) (e ∙ ap types_from (take_all i args l)) ∙ listed-marks args x

-- whether names stand before others asks only which they are
pub same_list : (p : ℕ → Bool) (xs ys : List ℕ) → ((x : ℕ) → holds x xs ≡ holds x ys) → list_all p xs ≡ list_all p ys
same_list p xs ys h = go (list_all p xs) (list_all p ys) refl refl
  where
    go : (a b : Bool) → list_all p xs ≡ a → list_all p ys ≡ b → list_all p xs ≡ list_all p ys
    go true true e f = e ∙ sym f
    go true false e f = absurd (true≢false (sym (holds-all p ys (λ x i. all-holds p xs e x (h x ∙ i))) ∙ f))
    go false true e f = absurd (true≢false (sym (holds-all p xs (λ x i. all-holds p ys f x (sym (h x) ∙ i))) ∙ e))
    go false false e f = e ∙ sym f

all_same : (p q : ℕ → Bool) (xs : List ℕ) → ((x : ℕ) → p x ≡ q x) → list_all p xs ≡ list_all q xs
all_same p q xs h = ap (λ f. list_all f xs) (fun_ext h)

before_same : (c : Context) (xs ys us vs : List ℕ) → ((x : ℕ) → holds x xs ≡ holds x us) → ((y : ℕ) → holds y ys ≡ holds y vs) → are_before c xs ys ≡ are_before c us vs
before_same c xs ys us vs h k =
    all_same (λ x. list_all (λ y. is_before c x y) ys) (λ x. list_all (λ y. is_before c x y) vs) xs (λ x. same_list (λ y. is_before c x y) ys vs k)
    ∙ same_list (λ x. list_all (λ y. is_before c x y) vs) xs us h

before_all : (c : Context) (xs ys : List ℕ) → are_before c xs ys ≡ true → AllBefore c xs ys
before_all c xs ys e x y i j = all-holds (λ v. is_before c x v) ys (all-holds (λ u. list_all (λ v. is_before c u v) ys) xs e x i) y j

all_before : (c : Context) (xs ys : List ℕ) → AllBefore c xs ys → are_before c xs ys ≡ true
all_before c xs ys h = holds-all (λ u. list_all (λ v. is_before c u v) ys) xs (λ x i. holds-all (λ v. is_before c x v) ys (λ y j. h x y i j))

-- what was tested of the names that were found
pub tested : (c : Context) (b : Bool) (xs : List ℕ) (found : List Name) (ys : List ℕ) → b ≡ are_before c xs (numbers_of found) → HasNames found ys → b ≡ are_before c xs ys
tested c b xs found ys h k = h ∙ before_same c xs (numbers_of found) xs ys (λ x. refl) k

pub before_told : (c : Context) (b : Bool) (v w : List Name) (xs ys : List ℕ) → HasNames v xs → HasNames w ys → b ≡ are_before c (numbers_of v) (numbers_of w) → IsTrue b ↔ AllBefore c xs ys
before_told c b v w xs ys h k e =
    let same = e ∙ before_same c (numbers_of v) (numbers_of w) xs ys h k in (λ t. before_all c xs ys (sym same ∙ t), λ a. same ∙ all_before c xs ys a)

some_same : (p q : StateTree → Bool) (args : ArgumentTrees) (x : ℕ) → ((s : StateTree) → p s ≡ q s) → some_argument p args x ≡ some_argument q args x
some_same p q args x h = ap (λ f. some_argument f args x) (fun_ext h)

-- the same from the free names of an argument as they were found
behind_found : (c : Context) (found : List Name) (xs : List ℕ) (args : ArgumentTrees) (y : ℕ) → HasNames found xs → are_behind c (numbers_of found) args y ≡ are_behind c xs args y
behind_found c found xs args y k =
    some_same (λ s. are_before c (numbers_of found) (free_in_state s)) (λ s. are_before c xs (free_in_state s)) args y
    (λ s. before_same c (numbers_of found) (free_in_state s) xs (free_in_state s) k (λ z. refl))

-- one more fact
facts_more : (fs : List (Name × Name)) (u v : Name) (x y : ℕ) → facts_given (fs ++ (u, v) ∷ []) x y ≡ (facts_given fs x y || ((x == u.0) && (y == v.0)))
facts_more fs u v x y = list_any-append _ fs ((u, v) ∷ []) ∙ ap (λ b. facts_given fs x y || b) (or_false ((x == u.0) && (y == v.0)))

-- it says what the test of the next argument says
fact_put : (f a b r : Bool) → ((f || (a && b)) || (a && r)) ≡ (f || (a && ((b && true) || r)))
fact_put true a b r = refl
fact_put false false b r = refl
fact_put false true true r = refl
fact_put false true false r = refl

-- there is none where the test fails
fact_left : (f a b r : Bool) → (f || (a && r)) ≡ (f || (a && ((b && false) || r)))
fact_left f a true r = refl
fact_left f a false r = refl

-- where no parameter stands twice, the one with a name is the first
not_there : (p : StateTree → Bool) (args : ArgumentTrees) (x : ℕ) → holds x (argument_names args) ≡ false → some_argument p args x ≡ false
not_there p no_arguments x h = refl
not_there p (argument_before u t s args) x h = go (x == u) (not_there p args x) h
  where
    go : (b : Bool) → (holds x (argument_names args) ≡ false → some_argument p args x ≡ false) → (b || holds x (argument_names args)) ≡ false → ((b && p s) || some_argument p args x) ≡ false
    go true f i = absurd (true≢false i)
    go false f i = f i

some_is : (p : StateTree → Bool) (args : ArgumentTrees) (x : ℕ) → is_distinct (argument_names args) ≡ true → some_argument p args x ≡ (holds x (argument_names args) && p (argument_at args x))
some_is p no_arguments x d = refl
some_is p (argument_before u t s args) x d = go (x == u) refl (some_is p args x (and_second (not (holds u (argument_names args))) (is_distinct (argument_names args)) d))
  where
    rest : Bool
    rest = some_argument p args x

    alone : x ≡ u → rest ≡ false
    alone e = not_there p args x (ap (λ z. holds z (argument_names args)) e ∙ not-true (holds u (argument_names args)) (and_first (not (holds u (argument_names args))) (is_distinct (argument_names args)) d))

    or_not : (a r : Bool) → r ≡ false → (a || r) ≡ a
    or_not true r e = refl
    or_not false r e = e

    go : (b : Bool) → (x == u) ≡ b → rest ≡ (holds x (argument_names args) && p (argument_at args x)) → ((b && p s) || rest) ≡ ((b || holds x (argument_names args)) && p (if b then s else argument_at args x))
    go true e f = or_not (p s) rest (alone (eqb-true x u e))
    go false e f = f

-- so the facts of all parameters are those of the called body
order_is : (c : Context) (args : ArgumentTrees) (x y : ℕ) → is_distinct (argument_names args) ≡ true → are_in_order c args args x y ≡ facts_of_arguments c args x y
order_is c args x y d =
    some_is (λ s. are_behind c (free_in_state s) args y) args x d
    ∙ ap (λ b. holds x (argument_names args) && b) (some_is (λ s. are_before c (free_in_state (argument_at args x)) (free_in_state s)) args y d)
    ∙ and_assoc (holds x (argument_names args)) (holds y (argument_names args)) (are_before c (free_in_state (argument_at args x)) (free_in_state (argument_at args y)))

-- the next argument stands before those behind it
next_argument : (args : List Argument) (i : ℕ) (a : Argument) → i < length args → a ≡ get_or args i a → drop i args ≡ a ∷ drop (i + 1) args
next_argument args i a l e = drop_more args i a l ∙ ap (λ b. b ∷ drop (i + 1) args) (sym e)

-- with the facts of the next parameter, those of the ones behind it are left
pub order_more : (c : Context) (args : List Argument) (i : ℕ) (a : Argument) (found : List Name) (before after all : Facts) → i < length args → a ≡ get_or args i a
    → HasNames found (free_in_state (state_of a.state.value)) → ((x y : ℕ) → after x y ≡ (before x y || ((x == a.name.0) && are_behind c (numbers_of found) (arguments_from args) y)))
    → ((x y : ℕ) → (before x y || are_in_order c (arguments_from (drop i args)) (arguments_from args) x y) ≡ all x y)
    → (x y : ℕ) → (after x y || are_in_order c (arguments_from (drop (i + 1) args)) (arguments_from args) x y) ≡ all x y
order_more c args i a found before after all l e n step left x y =
    let whole = arguments_from args in
    let more = are_in_order c (arguments_from (drop (i + 1) args)) whole x y in
    ap (λ b. b || more) (step x y ∙ ap (λ b. before x y || ((x == a.name.0) && b)) (behind_found c found (free_in_state (state_of a.state.value)) whole y n))
    ∙ or_assoc (before x y) ((x == a.name.0) && are_behind c (free_in_state (state_of a.state.value)) whole y) more
    ∙ ap (λ rest. before x y || are_in_order c (arguments_from rest) whole x y) (sym (next_argument args i a l e))
    ∙ left x y

-- at the end all are those of the called body
pub order_whole : (c : Context) (args : List Argument) (i : ℕ) (facts : Facts) → length args ≤ i → is_distinct (argument_names (arguments_from args)) ≡ true
    → ((x y : ℕ) → (facts x y || are_in_order c (arguments_from (drop i args)) (arguments_from args) x y) ≡ are_in_order c (arguments_from args) (arguments_from args) x y)
    → (x y : ℕ) → facts x y ≡ facts_of_arguments c (arguments_from args) x y
order_whole c args i facts l d left x y =
    sym (or_false (facts x y)) ∙ ap (λ rest. facts x y || are_in_order c (arguments_from rest) (arguments_from args) x y) (sym (drop_all i args l)) ∙ left x y
    ∙ order_is c (arguments_from args) x y d

-- with the fact of the next argument, those of the ones behind it are left
pub row_then : (c : Context) (u : Name) (xs : List ℕ) (args : List Argument) (i : ℕ) (a : Argument) (fs gs : List (Name × Name)) (all : Facts) (b : Bool) → i < length args → a ≡ get_or args i a
    → b ≡ are_before c xs (free_in_state (state_of a.state.value)) → b ≡ true → gs ≡ fs ++ (u, a.name) ∷ []
    → ((x y : ℕ) → (facts_given fs x y || ((x == u.0) && are_behind c xs (arguments_from (drop i args)) y)) ≡ all x y)
    → (x y : ℕ) → (facts_given gs x y || ((x == u.0) && are_behind c xs (arguments_from (drop (i + 1) args)) y)) ≡ all x y
row_then c u xs args i a fs gs all b l e t h g left x y =
    let more = are_behind c xs (arguments_from (drop (i + 1) args)) y in
    ap (λ f. facts_given f x y || ((x == u.0) && more)) g
    ∙ ap (λ f. f || ((x == u.0) && more)) (facts_more fs u a.name x y)
    ∙ fact_put (facts_given fs x y) (x == u.0) (y == a.name.0) more
    ∙ ap (λ d. facts_given fs x y || ((x == u.0) && (((y == a.name.0) && d) || more))) (sym h ∙ t)
    ∙ ap (λ rest. facts_given fs x y || ((x == u.0) && are_behind c xs (arguments_from rest) y)) (sym (next_argument args i a l e))
    ∙ left x y

-- so it is where there is none
pub row_else : (c : Context) (u : Name) (xs : List ℕ) (args : List Argument) (i : ℕ) (a : Argument) (fs : List (Name × Name)) (all : Facts) (b : Bool) → i < length args → a ≡ get_or args i a
    → b ≡ are_before c xs (free_in_state (state_of a.state.value)) → b ≡ false
    → ((x y : ℕ) → (facts_given fs x y || ((x == u.0) && are_behind c xs (arguments_from (drop i args)) y)) ≡ all x y)
    → (x y : ℕ) → (facts_given fs x y || ((x == u.0) && are_behind c xs (arguments_from (drop (i + 1) args)) y)) ≡ all x y
row_else c u xs args i a fs all b l e t h left x y =
    let more = are_behind c xs (arguments_from (drop (i + 1) args)) y in
    fact_left (facts_given fs x y) (x == u.0) (y == a.name.0) more
    ∙ ap (λ d. facts_given fs x y || ((x == u.0) && (((y == a.name.0) && d) || more))) (sym h ∙ t)
    ∙ ap (λ rest. facts_given fs x y || ((x == u.0) && are_behind c xs (arguments_from rest) y)) (sym (next_argument args i a l e))
    ∙ left x y

-- at the end all are there
pub row_whole : (c : Context) (u : Name) (xs : List ℕ) (args : List Argument) (i : ℕ) (fs : List (Name × Name)) (all : Facts) → length args ≤ i
    → ((x y : ℕ) → (facts_given fs x y || ((x == u.0) && are_behind c xs (arguments_from (drop i args)) y)) ≡ all x y) → (x y : ℕ) → facts_given fs x y ≡ all x y
row_whole c u xs args i fs all l left x y =
    sym (or_false (facts_given fs x y)) ∙ ap (λ b. facts_given fs x y || b) (sym (and_none (x == u.0)))
    ∙ ap (λ rest. facts_given fs x y || ((x == u.0) && are_behind c xs (arguments_from rest) y)) (sym (drop_all i args l)) ∙ left x y
  where
    and_none : (b : Bool) → (b && false) ≡ false
    and_none true = refl
    and_none false = refl

-- the scope of the parameters is the context of the called body
pub body_context : (c : Context) (args : List Argument) (vars : List (Name × Ty)) (facts : List (Name × Name)) → ((x : ℕ) → given_at (typed_names_of vars) x ≡ marks_of_arguments (arguments_from args) x)
    → ((x y : ℕ) → facts_given facts x y ≡ facts_of_arguments c (arguments_from args) x y) → context_given vars (facts_given facts) ≡ context_of_arguments c (arguments_from args)
body_context c args vars facts h k =
    let made : (ℕ → Option StreamType) → Facts → Context = λ types order. record { types = types; order = order; past = no_pasts } in ap₂ made (fun_ext h) (fun_ext (λ x. fun_ext (k x)))
