-- What is judged of a form, by what is judged of its parts: what a part's broken rule breaks of the whole, what is
-- left to judge where a part is good, and what the form of the wanted type and of a found one leave.
use Rattle.std.proofs.Common.{◌≡◌, ℕ, refl, sym, ap, subst, Err}
use Rattle.std.proofs.lemmas.Result.{err_from_is_err_and}
use Rattle.std.specs.Prelude.{Result, Option, Some, None, option_map, IfOk, IfErr, IfSome, IsErrAnd}
use Rattle.std.specs.declared.boxed.Box.{Box}
use Rattle.std.specs.declared.alloc.Global.{Global}
use Rattle.hist_value.specs.declared.hist_type.HTy.{HTy}
use Rattle.hist_value.specs.declared.hist_type.HTy.TheVariants.{Unit as IsUnit, Int, Pair, Pair', Sum, Sum', List as IsList, List'}
use Rattle.hist_value.specs.declared.fault.HistFault.{HistFault}
use Rattle.hist_value.specs.declared.fault.HistFault.TheVariants.{Memory}
use Rattle.hist_value.specs.HistType.{HistType, hist_type_of, unit_type, int_type, pair_type, sum_type, list_type}
use Rattle.hist_value.specs.HistExpr.{HistExpr}
use Rattle.hist_value.specs.Refusal.{HistRefusal, refusal_of, mismatch, needs_type}
use Rattle.hist_value.specs.Judge.{Judged, good, bad, and_then, of_pair, of_sum, of_items, in_pair, in_sum, in_list, judge}

-- the program's result is what is judged, unless memory was wanting
abbrev pub Says : Result HTy HistFault → Judged → Type 0
Says q j = record { ok : IfOk q (λ t. j ≡ good (hist_type_of t)); refused : IfErr q (λ f. IfSome (refusal_of f) (λ r. j ≡ bad r)) }

-- what says of one judgment says it of an equal one
pub as_judged : (q : Result HTy HistFault) (j k : Judged) → k ≡ j → Says q j → Says q k
as_judged q j k e h = subst (λ (i : Judged). Says q i) (sym e) h

-- what is said of a form is said of the expression that has it
pub as_form : (q : Result HTy HistFault) (env : ℕ → Option HistType) (w : Option HistType) (e f : HistExpr) → e ≡ f → Says q (judge env f w) → Says q (judge env e w)
as_form q env w e f is h = subst (λ (x : HistExpr). Says q (judge env x w)) (sym is) h

-- memory was wanting
pub wanting : (q : Result HTy HistFault) (k : Judged) → IsErrAnd q (λ f. f ≡ Memory) → Says q k
wanting q k h = let exit = err_from_is_err_and q h in rw (exit.1, exit.2) (record { ok = tt; refused = tt })

-- what breaks a rule of one judgment breaks it of another
broken : (o : Option HistRefusal) (j k : Judged) → ((r : HistRefusal) → j ≡ bad r → k ≡ bad r) → IfSome o (λ r. j ≡ bad r) → IfSome o (λ r. k ≡ bad r)
broken None j k g h = tt
broken (Some r) j k g h = g r h

-- a part's rule is broken, and so one of the whole
pub stops : (q : Result HTy HistFault) (g : HistFault) (j k : Judged) → IsErrAnd q (λ f. f ≡ g) → IfSome (refusal_of g) (λ r. j ≡ bad r) → ((r : HistRefusal) → j ≡ bad r → k ≡ bad r) → Says q k
stops q g j k is e h = let exit = err_from_is_err_and q is in rw (exit.1, exit.2) (record { ok = tt; refused = broken (refusal_of g) j k h e })

-- what follows a part
pub after_bad : (j : Judged) (f : HistType → Judged) (r : HistRefusal) → j ≡ bad r → and_then j f ≡ bad r
after_bad j f r e = rw e refl

pub after_good : (j : Judged) (f : HistType → Judged) (t : HistType) → j ≡ good t → and_then j f ≡ f t
after_good j f t e = rw e refl

-- the same type is wanted
pub judged_for : (env : ℕ → Option HistType) (e : HistExpr) (s t : HistType) → s ≡ t → judge env e (Some t) ≡ judge env e (Some s)
judged_for env e s t h = ap (λ (u : HistType). judge env e (Some u)) (sym h)

-- no type is wanted
pub no_pair : {W : Type 0} (g : W → HistType) (w : Option W) (f : Option HistType → Option HistType → Judged) → w ≡ None → of_pair (option_map g w) f ≡ f None None
no_pair g w f e = rw e refl

pub no_sum : {W : Type 0} (g : W → HistType) (w : Option W) (f : HistType → HistType → Judged) → w ≡ None → of_sum (option_map g w) f ≡ bad needs_type
no_sum g w f e = rw e refl

pub no_items : {W : Type 0} (g : W → HistType) (w : Option W) (f : Option HistType → Judged) → w ≡ None → of_items (option_map g w) f ≡ f None
no_items g w f e = rw e refl

-- a type of the form is wanted
pub wanted_pair : {W : Type 0} (g : W → HistType) (w : Option W) (f : Option HistType → Option HistType → Judged) (x : W) (s t : HistType) → w ≡ Some x → g x ≡ pair_type s t → of_pair (option_map g w) f ≡ f (Some s) (Some t)
wanted_pair g w f x s t e h = rw (e, h) refl

pub wanted_sum : {W : Type 0} (g : W → HistType) (w : Option W) (f : HistType → HistType → Judged) (x : W) (s t : HistType) → w ≡ Some x → g x ≡ sum_type s t → of_sum (option_map g w) f ≡ f s t
wanted_sum g w f x s t e h = rw (e, h) refl

pub wanted_items : {W : Type 0} (g : W → HistType) (w : Option W) (f : Option HistType → Judged) (x : W) (s : HistType) → w ≡ Some x → g x ≡ list_type s → of_items (option_map g w) f ≡ f (Some s)
wanted_items g w f x s e h = rw (e, h) refl

-- a tree in a box
abbrev Boxed : Type 0
Boxed = Box HTy Global

-- what a tree of the form stands for
pub pair_read : (h : HTy) (x y : Boxed) (s t : HTy) → h ≡ Pair x y → s ≡ x.value → t ≡ y.value → hist_type_of h ≡ pair_type (hist_type_of s) (hist_type_of t)
pair_read h x y s t e p q = rw (e, p, q) refl

pub sum_read : (h : HTy) (x y : Boxed) (s t : HTy) → h ≡ Sum x y → s ≡ x.value → t ≡ y.value → hist_type_of h ≡ sum_type (hist_type_of s) (hist_type_of t)
sum_read h x y s t e p q = rw (e, p, q) refl

pub list_read : (h : HTy) (x : Boxed) (s : HTy) → h ≡ IsList x → s ≡ x.value → hist_type_of h ≡ list_type (hist_type_of s)
list_read h x s e p = rw (e, p) refl

-- a type of the form was found
pub found_pair : (h : HTy) (f : HistType → HistType → Judged) (x y : Boxed) (s t : HTy) → h ≡ Pair x y → s ≡ x.value → t ≡ y.value → in_pair (hist_type_of h) f ≡ f (hist_type_of s) (hist_type_of t)
found_pair h f x y s t e p q = rw (e, p, q) refl

pub found_sum : (h : HTy) (f : HistType → HistType → Judged) (x y : Boxed) (s t : HTy) → h ≡ Sum x y → s ≡ x.value → t ≡ y.value → in_sum (hist_type_of h) f ≡ f (hist_type_of s) (hist_type_of t)
found_sum h f x y s t e p q = rw (e, p, q) refl

pub found_list : (h : HTy) (f : HistType → Judged) (x : Boxed) (s : HTy) → h ≡ IsList x → s ≡ x.value → in_list (hist_type_of h) f ≡ f (hist_type_of s)
found_list h f x s e p = rw (e, p) refl

-- a type of another form was found
pub found_no_pair : (h : HTy) (f : HistType → HistType → Judged) → ((x y : Boxed) → h ≡ Pair x y → ⊥) → in_pair (hist_type_of h) f ≡ bad (mismatch None (Some (hist_type_of h)))
found_no_pair (Pair' x s y t) f n = absurd (n record { ptr = x.ptr; alloc = x.alloc; value = s } record { ptr = y.ptr; alloc = y.alloc; value = t } refl)
found_no_pair _ f n = refl

pub found_no_sum : (h : HTy) (f : HistType → HistType → Judged) → ((x y : Boxed) → h ≡ Sum x y → ⊥) → in_sum (hist_type_of h) f ≡ bad (mismatch None (Some (hist_type_of h)))
found_no_sum (Sum' x s y t) f n = absurd (n record { ptr = x.ptr; alloc = x.alloc; value = s } record { ptr = y.ptr; alloc = y.alloc; value = t } refl)
found_no_sum _ f n = refl

pub found_no_list : (h : HTy) (f : HistType → Judged) → ((x : Boxed) → h ≡ IsList x → ⊥) → in_list (hist_type_of h) f ≡ bad (mismatch None (Some (hist_type_of h)))
found_no_list (List' x s) f n = absurd (n record { ptr = x.ptr; alloc = x.alloc; value = s } refl)
found_no_list _ f n = refl
