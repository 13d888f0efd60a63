-- Whether a tree of a value has the type of a tree: one lemma for each form that fits, and one for a form that doesn't.
use Rattle.std.proofs.Common.{◌≡◌, ◌↔◌, ℕ, suc, ◌+◌, ◌<◌, ◌≤◌, ℤ, Bool, true, false, List, [], ◌∷◌, map, length, drop, get_or, refl, sym, subst, ap, ◌∙◌, add-one, drop-cons}
use Rattle.std.proofs.lemmas.List.{drop_all}
use Rattle.std.specs.Prelude.{IsTrue}
use Rattle.std.specs.declared.boxed.Box.{Box}
use Rattle.std.specs.declared.vec.Vec.{Vec}
use Rattle.std.specs.declared.alloc.Global.{Global}
use Rattle.hist_value.specs.declared.hist_type.HTy.{HTy}
use Rattle.hist_value.specs.declared.hist_type.HTy.TheVariants.{Unit as UnitType, Int as IntType, Pair as PairType, Pair' as PairType', Sum as SumType, Sum' as SumType', List as ListType, List' as ListType'}
use Rattle.hist_value.specs.declared.history.Value.{Value}
use Rattle.hist_value.specs.declared.history.Value.TheVariants.{Unit as IsUnit, Int, Pair, Inl, Inr, List as IsList}
use Rattle.hist_value.specs.HistType.{HistType, hist_type_of, list_type}
use Rattle.hist_value.specs.HistValue.{HistValue, HasType, hist_value_of, list_of, unit_value, number, pair_of, left_of, right_of}
use Rattle.hist_value.proofs.Rows.{hist_value_of-list, HasType-off_list}

-- a tree in a box
abbrev Boxed : Type 0
Boxed = Box HTy Global

abbrev BoxedValue : Type 0
BoxedValue = Box Value Global

-- what isn't so is false
never : (P : Type 0) → (P → ⊥) → IsTrue false ↔ P
never P n = (λ h. absurd (cc h), λ h. absurd (n h))

-- the one value that carries nothing
pub unit_fits : (v : Value) (t : HTy) → v ≡ IsUnit → t ≡ UnitType → IsTrue true ↔ HasType (hist_type_of t) (hist_value_of v)
unit_fits v t e f = rw (e, f) (λ h. tt, λ h. refl)

unit_only : (t : HTy) → (t ≡ UnitType → ⊥) → HasType (hist_type_of t) unit_value → ⊥
unit_only UnitType n h = n refl
unit_only _ n h = h

pub unit_off : (v : Value) (t : HTy) → v ≡ IsUnit → (t ≡ UnitType → ⊥) → IsTrue false ↔ HasType (hist_type_of t) (hist_value_of v)
unit_off v t e n = rw e (never (HasType (hist_type_of t) unit_value) (unit_only t n))

-- numbers
pub int_fits : (v : Value) (t : HTy) (n : ℤ) → v ≡ Int n → t ≡ IntType → IsTrue true ↔ HasType (hist_type_of t) (hist_value_of v)
int_fits v t n e f = rw (e, f) (λ h. tt, λ h. refl)

int_only : (t : HTy) (k : ℤ) → (t ≡ IntType → ⊥) → HasType (hist_type_of t) (number k) → ⊥
int_only IntType k n h = n refl
int_only _ k n h = h

pub int_off : (v : Value) (t : HTy) (k : ℤ) → v ≡ Int k → (t ≡ IntType → ⊥) → IsTrue false ↔ HasType (hist_type_of t) (hist_value_of v)
int_off v t k e n = rw e (never (HasType (hist_type_of t) (number k)) (int_only t k n))

-- pairs
pub pair_fits : (a b : Bool) (v : Value) (t : HTy) (x y : BoxedValue) (p q : Boxed) (v1 : Value) (s1 : HTy) (w1 : Value) (t1 : HTy) → v ≡ Pair x y → t ≡ PairType p q → v1 ≡ x.value → s1 ≡ p.value → w1 ≡ y.value → t1 ≡ q.value
    → IsTrue a ↔ HasType (hist_type_of s1) (hist_value_of v1)
    → a ≡ true
    → IsTrue b ↔ HasType (hist_type_of t1) (hist_value_of w1)
    → IsTrue b ↔ HasType (hist_type_of t) (hist_value_of v)
pair_fits a b v t x y p q v1 s1 w1 t1 e f ve se we te k is l = rw (e, f, ← ve, ← se, ← we, ← te) (λ h. (k.0 is, l.0 h), λ h. l.1 h.1)

pub pair_fails : (a : Bool) (v : Value) (t : HTy) (x y : BoxedValue) (p q : Boxed) (v1 : Value) (s1 : HTy) → v ≡ Pair x y → t ≡ PairType p q → v1 ≡ x.value → s1 ≡ p.value
    → IsTrue a ↔ HasType (hist_type_of s1) (hist_value_of v1)
    → a ≡ false
    → IsTrue a ↔ HasType (hist_type_of t) (hist_value_of v)
pair_fails a v t x y p q v1 s1 e f ve se k is = rw (e, f, ← ve, ← se) (λ h. absurd (cc (h, is)), λ h. k.1 h.0)

pair_only : (t : HTy) (a b : HistValue) → ((p q : Boxed) → t ≡ PairType p q → ⊥) → HasType (hist_type_of t) (pair_of a b) → ⊥
pair_only (PairType' x s y t) a b n h = n record { ptr = x.ptr; alloc = x.alloc; value = s } record { ptr = y.ptr; alloc = y.alloc; value = t } refl
pair_only _ a b n h = h

pub pair_off : (v : Value) (t : HTy) (x y : BoxedValue) → v ≡ Pair x y → ((p q : Boxed) → t ≡ PairType p q → ⊥) → IsTrue false ↔ HasType (hist_type_of t) (hist_value_of v)
pair_off v t x y e n = rw e (never (HasType (hist_type_of t) (pair_of (hist_value_of x.value) (hist_value_of y.value))) (pair_only t (hist_value_of x.value) (hist_value_of y.value) n))

-- the sides of a sum
pub left_fits : (b : Bool) (v : Value) (t : HTy) (x : BoxedValue) (p q : Boxed) (v1 : Value) (s1 : HTy) → v ≡ Inl x → t ≡ SumType p q → v1 ≡ x.value → s1 ≡ p.value
    → IsTrue b ↔ HasType (hist_type_of s1) (hist_value_of v1)
    → IsTrue b ↔ HasType (hist_type_of t) (hist_value_of v)
left_fits b v t x p q v1 s1 e f ve se k = rw (e, f, ← ve, ← se) k

left_only : (t : HTy) (a : HistValue) → ((p q : Boxed) → t ≡ SumType p q → ⊥) → HasType (hist_type_of t) (left_of a) → ⊥
left_only (SumType' x s y t) a n h = n record { ptr = x.ptr; alloc = x.alloc; value = s } record { ptr = y.ptr; alloc = y.alloc; value = t } refl
left_only _ a n h = h

pub left_off : (v : Value) (t : HTy) (x : BoxedValue) → v ≡ Inl x → ((p q : Boxed) → t ≡ SumType p q → ⊥) → IsTrue false ↔ HasType (hist_type_of t) (hist_value_of v)
left_off v t x e n = rw e (never (HasType (hist_type_of t) (left_of (hist_value_of x.value))) (left_only t (hist_value_of x.value) n))

pub right_fits : (b : Bool) (v : Value) (t : HTy) (x : BoxedValue) (p q : Boxed) (v1 : Value) (t1 : HTy) → v ≡ Inr x → t ≡ SumType p q → v1 ≡ x.value → t1 ≡ q.value
    → IsTrue b ↔ HasType (hist_type_of t1) (hist_value_of v1)
    → IsTrue b ↔ HasType (hist_type_of t) (hist_value_of v)
right_fits b v t x p q v1 t1 e f ve te k = rw (e, f, ← ve, ← te) k

right_only : (t : HTy) (a : HistValue) → ((p q : Boxed) → t ≡ SumType p q → ⊥) → HasType (hist_type_of t) (right_of a) → ⊥
right_only (SumType' x s y t) a n h = n record { ptr = x.ptr; alloc = x.alloc; value = s } record { ptr = y.ptr; alloc = y.alloc; value = t } refl
right_only _ a n h = h

pub right_off : (v : Value) (t : HTy) (x : BoxedValue) → v ≡ Inr x → ((p q : Boxed) → t ≡ SumType p q → ⊥) → IsTrue false ↔ HasType (hist_type_of t) (hist_value_of v)
right_off v t x e n = rw e (never (HasType (hist_type_of t) (right_of (hist_value_of x.value))) (right_only t (hist_value_of x.value) n))

-- lists
pub list_fits : (b : Bool) (v : Value) (t : HTy) (xs : Vec Value Global) (p : Boxed) (l : List Value) (s1 : HTy) → v ≡ IsList xs → t ≡ ListType p → l ≡ xs.items → s1 ≡ p.value
    → IsTrue b ↔ HasType (list_type (hist_type_of s1)) (list_of (map hist_value_of l))
    → IsTrue b ↔ HasType (hist_type_of t) (hist_value_of v)
list_fits b v t xs p l s1 e f le se k =
    let whole : hist_value_of v ≡ list_of (map hist_value_of l) = ap hist_value_of e ∙ (hist_value_of-list xs ∙ ap (λ (i : List Value). list_of (map hist_value_of i)) (sym le)) in
    subst (λ (w : HistValue). IsTrue b ↔ HasType (hist_type_of t) w) (sym whole) (rw (f, ← se) k)

list_only : (t : HTy) (vs : List HistValue) → ((p : Boxed) → t ≡ ListType p → ⊥) → HasType (hist_type_of t) (list_of vs) → ⊥
list_only (ListType' x s) vs n h = n record { ptr = x.ptr; alloc = x.alloc; value = s } refl
list_only UnitType vs n h = HasType-off_list (hist_type_of UnitType) vs refl h
list_only IntType vs n h = HasType-off_list (hist_type_of IntType) vs refl h
list_only (PairType' x s y t) vs n h = HasType-off_list (hist_type_of (PairType' x s y t)) vs refl h
list_only (SumType' x s y t) vs n h = HasType-off_list (hist_type_of (SumType' x s y t)) vs refl h

pub list_off : (v : Value) (t : HTy) (xs : Vec Value Global) → v ≡ IsList xs → ((p : Boxed) → t ≡ ListType p → ⊥) → IsTrue false ↔ HasType (hist_type_of t) (hist_value_of v)
list_off v t xs e n =
    let whole : hist_value_of v ≡ list_of (map hist_value_of xs.items) = ap hist_value_of e ∙ hist_value_of-list xs in
    never (HasType (hist_type_of t) (hist_value_of v)) (λ h. list_only t (map hist_value_of xs.items) n (subst (λ (w : HistValue). HasType (hist_type_of t) w) whole h))

-- the items from the one that a loop has come to
pub from_here : (l : List Value) (i : ℕ) (x : Value) → i < length l → x ≡ get_or l i x → drop i l ≡ x ∷ drop (i + 1) l
from_here l i x h e = rw (add-one, drop-cons l i x h) (ap (λ (y : Value). y ∷ drop (suc i) l) (sym e))

-- an item doesn't have the type, and so the list has it not
pub items_fail : (s : HistType) (l : List Value) (i : ℕ) (x : Value) → i < length l → x ≡ get_or l i x
    → HasType (list_type s) (list_of (map hist_value_of l)) ↔ HasType (list_type s) (list_of (map hist_value_of (drop i l)))
    → IsTrue false ↔ HasType s (hist_value_of x)
    → IsTrue false ↔ HasType (list_type s) (list_of (map hist_value_of l))
items_fail s l i x h e so_far k =
    let all = subst (λ (r : List Value). HasType (list_type s) (list_of (map hist_value_of l)) ↔ HasType (list_type s) (list_of (map hist_value_of r))) (from_here l i x h e) so_far in
    (λ a. absurd (cc a), λ a. k.1 (all.0 a).0)

-- an item has the type, and so the rest decides
pub items_turn : (s : HistType) (l : List Value) (i : ℕ) (x : Value) → i < length l → x ≡ get_or l i x
    → HasType (list_type s) (list_of (map hist_value_of l)) ↔ HasType (list_type s) (list_of (map hist_value_of (drop i l)))
    → IsTrue true ↔ HasType s (hist_value_of x)
    → HasType (list_type s) (list_of (map hist_value_of l)) ↔ HasType (list_type s) (list_of (map hist_value_of (drop (i + 1) l)))
items_turn s l i x h e so_far k =
    let all = subst (λ (r : List Value). HasType (list_type s) (list_of (map hist_value_of l)) ↔ HasType (list_type s) (list_of (map hist_value_of r))) (from_here l i x h e) so_far in
    (λ a. (all.0 a).1, λ a. all.1 (k.0 refl, a))

-- no item is left
pub items_end : (s : HistType) (l : List Value) (i : ℕ) → length l ≤ i
    → HasType (list_type s) (list_of (map hist_value_of l)) ↔ HasType (list_type s) (list_of (map hist_value_of (drop i l)))
    → IsTrue true ↔ HasType (list_type s) (list_of (map hist_value_of l))
items_end s l i h so_far =
    let all = subst (λ (r : List Value). HasType (list_type s) (list_of (map hist_value_of l)) ↔ HasType (list_type s) (list_of (map hist_value_of r))) (drop_all i l h) so_far in
    (λ a. all.1 tt, λ a. refl)
