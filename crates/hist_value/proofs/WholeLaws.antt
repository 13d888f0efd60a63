-- Whole streams and their values are one for one.
use Rattle.std.proofs.Common.{◌≡◌, refl, ap, ap₂, Bool, true, false, true≢false, sym, ◌&&◌}
use Rattle.std.specs.Prelude.{IsTrue}
use Rattle.stream_type.specs.StreamType.{StreamType, eps, one, int, cat, par, sum, star}
use Rattle.stream_prefix.specs.StreamPrefix.{StreamPrefix, par_both, cat_both, in_left, in_right, star_rest, IsPrefix, is_maximal}
use Rattle.stream_prefix.proofs.Derivations.{Derives, derives, eps_has_emp, one_has_emp, one_has_full, int_has_emp, int_has_full, par_has_both, cat_has_fst, cat_has_both, sum_has_emp, sum_has_left, sum_has_right, star_has_emp, star_has_done, star_has_first, star_has_rest}
use Rattle.hist_value.specs.HistType.{HistType, unit_type, int_type, pair_type, sum_type, list_type, past}
use Rattle.hist_value.specs.HistValue.{HistValue, unit_value, number, pair_of, left_of, right_of, no_items, item_before, HasType}
use Rattle.hist_value.specs.Wholes.{value_of, full, full_list}
use Rattle.hist_value.specs.Laws.{ValueHasPast, FullIsPrefix, FullIsMaximal, ValueOfFull, FullOfValue}

-- a value of a type, by the form of both
pub data Has : HistType → HistValue → Type 0 where
  has_unit : Has unit_type unit_value
  has_number : {n : _} → Has int_type (number n)
  has_pair : {s t : HistType} {v w : HistValue} → Has s v → Has t w → Has (pair_type s t) (pair_of v w)
  has_left : {s t : HistType} {v : HistValue} → Has s v → Has (sum_type s t) (left_of v)
  has_right : {s t : HistType} {v : HistValue} → Has t v → Has (sum_type s t) (right_of v)
  has_none : {s : HistType} → Has (list_type s) no_items
  has_item : {s : HistType} {v w : HistValue} → Has s v → Has (list_type s) w → Has (list_type s) (item_before v w)

pub has : (t : HistType) (v : HistValue) → HasType t v → Has t v
has unit_type unit_value h = has_unit
has int_type (number n) h = has_number
has (pair_type s t) (pair_of v w) h = has_pair (has s v h.0) (has t w h.1)
has (sum_type s t) (left_of v) h = has_left (has s v h)
has (sum_type s t) (right_of v) h = has_right (has t v h)
has (list_type s) no_items h = has_none
has (list_type s) (item_before v w) h = has_item (has s v h.0) (has (list_type s) w h.1)
has _ _ h = absurd h

pub has_type : {t : HistType} {v : HistValue} → Has t v → HasType t v
has_type has_unit = tt
has_type has_number = tt
has_type (has_pair h k) = (has_type h, has_type k)
has_type (has_left h) = has_type h
has_type (has_right h) = has_type h
has_type has_none = tt
has_type (has_item h k) = (has_type h, has_type k)

both : (a b : Bool) → IsTrue a → IsTrue b → IsTrue (a && b)
both true b h k = k
both false b h k = h

first : (a b : Bool) → IsTrue (a && b) → IsTrue a
first true b h = refl
first false b h = h

second : (a b : Bool) → IsTrue (a && b) → IsTrue b
second true b h = h
second false b h = absurd (true≢false (sym h))

-- a maximal prefix has a value of its past's type
value_has : {s : StreamType} {p : StreamPrefix} → Derives s p → IsTrue (is_maximal p) → Has (past s) (value_of p)
value_has eps_has_emp m = has_unit
value_has one_has_emp m = absurd (true≢false (sym m))
value_has one_has_full m = has_unit
value_has int_has_emp m = absurd (true≢false (sym m))
value_has int_has_full m = has_number
value_has (par_has_both {p = p} {q = q} h k) m = has_pair (value_has h (first (is_maximal p) (is_maximal q) m)) (value_has k (second (is_maximal p) (is_maximal q) m))
value_has (cat_has_fst h) m = absurd (true≢false (sym m))
value_has (cat_has_both {p = p} {q = q} h n k) m = has_pair (value_has h n) (value_has k (second (is_maximal p) (is_maximal q) m))
value_has sum_has_emp m = absurd (true≢false (sym m))
value_has (sum_has_left h) m = has_left (value_has h m)
value_has (sum_has_right h) m = has_right (value_has h m)
value_has star_has_emp m = absurd (true≢false (sym m))
value_has star_has_done m = has_none
value_has (star_has_first h) m = absurd (true≢false (sym m))
value_has (star_has_rest {p = p} {q = q} h n k) m = has_item (value_has h n) (value_has k (second (is_maximal p) (is_maximal q) m))

-- and is the whole stream of that value
full_value : {s : StreamType} {p : StreamPrefix} → Derives s p → IsTrue (is_maximal p) → full s (value_of p) ≡ p
full_value eps_has_emp m = refl
full_value one_has_emp m = absurd (true≢false (sym m))
full_value one_has_full m = refl
full_value int_has_emp m = absurd (true≢false (sym m))
full_value int_has_full m = refl
full_value (par_has_both {p = p} {q = q} h k) m = ap₂ par_both (full_value h (first (is_maximal p) (is_maximal q) m)) (full_value k (second (is_maximal p) (is_maximal q) m))
full_value (cat_has_fst h) m = absurd (true≢false (sym m))
full_value (cat_has_both {p = p} {q = q} h n k) m = ap₂ cat_both (full_value h n) (full_value k (second (is_maximal p) (is_maximal q) m))
full_value sum_has_emp m = absurd (true≢false (sym m))
full_value (sum_has_left h) m = ap in_left (full_value h m)
full_value (sum_has_right h) m = ap in_right (full_value h m)
full_value star_has_emp m = absurd (true≢false (sym m))
full_value star_has_done m = refl
full_value (star_has_first h) m = absurd (true≢false (sym m))
full_value (star_has_rest {p = p} {q = q} h n k) m = ap₂ star_rest (full_value h n) (full_value k (second (is_maximal p) (is_maximal q) m))

-- a whole stream with this value
record IsWhole (s : StreamType) (v : HistValue) (p : StreamPrefix) : Type 0 where
  pub is_prefix : IsPrefix s p
  pub maximal : IsTrue (is_maximal p)
  pub value : value_of p ≡ v

list_whole : {h : HistType} (s : StreamType) (f : HistValue → StreamPrefix) → ((v : HistValue) → Has h v → IsWhole s v (f v)) → {v : HistValue} → Has (list_type h) v → IsWhole (star s) v (full_list f v)
list_whole s f g has_none = record { is_prefix = tt; maximal = refl; value = refl }
list_whole s f g (has_item {v = v} {w = w} h k) =
    let a = g v h in
    let b = list_whole s f g k in
    record { is_prefix = (a.is_prefix, a.maximal, b.is_prefix); maximal = both (is_maximal (f v)) (is_maximal (full_list f w)) a.maximal b.maximal; value = ap₂ item_before a.value b.value }

full_whole : (s : StreamType) {v : HistValue} → Has (past s) v → IsWhole s v (full s v)
full_whole eps has_unit = record { is_prefix = tt; maximal = refl; value = refl }
full_whole one has_unit = record { is_prefix = tt; maximal = refl; value = refl }
full_whole int has_number = record { is_prefix = tt; maximal = refl; value = refl }
full_whole (cat s t) (has_pair {v = v} {w = w} h k) =
    let a = full_whole s h in
    let b = full_whole t k in
    record { is_prefix = (a.is_prefix, a.maximal, b.is_prefix); maximal = both (is_maximal (full s v)) (is_maximal (full t w)) a.maximal b.maximal; value = ap₂ pair_of a.value b.value }
full_whole (par s t) (has_pair {v = v} {w = w} h k) =
    let a = full_whole s h in
    let b = full_whole t k in
    record { is_prefix = (a.is_prefix, b.is_prefix); maximal = both (is_maximal (full s v)) (is_maximal (full t w)) a.maximal b.maximal; value = ap₂ pair_of a.value b.value }
full_whole (sum s t) (has_left h) =
    let a = full_whole s h in
    record { is_prefix = a.is_prefix; maximal = a.maximal; value = ap left_of a.value }
full_whole (sum s t) (has_right h) =
    let a = full_whole t h in
    record { is_prefix = a.is_prefix; maximal = a.maximal; value = ap right_of a.value }
full_whole (star s) h = list_whole s (full s) (λ v k. full_whole s k) h

pub value_has_past : ValueHasPast
value_has_past s p h m = has_type (value_has (derives s p h) m)

pub full_is_prefix : FullIsPrefix
full_is_prefix s v h = (full_whole s (has (past s) v h)).is_prefix

pub full_is_maximal : FullIsMaximal
full_is_maximal s v h = (full_whole s (has (past s) v h)).maximal

pub value_of_full : ValueOfFull
value_of_full s v h = (full_whole s (has (past s) v h)).value

pub full_of_value : FullOfValue
full_of_value s p h m = full_value (derives s p h) m
