-- The value of a whole star, and the whole star of a list, item by item.
use Rattle.std.proofs.Common.{◌≡◌, ℤ, List, [], ◌∷◌, map, refl}
use Rattle.std.specs.declared.boxed.Box.{Box}
use Rattle.std.specs.declared.alloc.Global.{Global}
use Rattle.stream_type.specs.StreamType.{StreamType, int, cat, par, sum}
use Rattle.stream_prefix.specs.declared.prefix.StarEnd.{StarEnd}
use Rattle.stream_prefix.specs.declared.prefix.StarEnd.TheVariants.{Emp, Done, First'}
use Rattle.stream_prefix.specs.StreamPrefix.{StreamPrefix, int_emp, in_right, star_done, emp}
use Rattle.stream_prefix.specs.Tree.{star_of, end_of}
use Rattle.stream_prefix.proofs.Rows.{row_of-hidden as star_row_of-hidden}
use Rattle.hist_value.specs.declared.history.Value.{Value}
use Rattle.hist_value.specs.declared.history.Value.TheVariants.{Int, Pair, Pair', Inl, Inl', Inr, Inr', List'}
use Rattle.hist_value.specs.HistValue.{HistValue, hist_value_of, row_of, list_of}
use Rattle.hist_value.specs.Wholes.{value_of, full, full_list}
use Rattle.hist_value.proofs.Rows.{row_of-hidden}

-- the value of a star is the list of its items' values
pub value_of-star_of : (ps : List StreamPrefix) (e : StarEnd) → value_of (star_of ps (end_of e)) ≡ list_of (map value_of ps)
value_of-star_of [] Emp = refl
value_of-star_of [] Done = refl
value_of-star_of [] (First' x p) = refl
value_of-star_of (p ∷ ps) e = cc (value_of-star_of ps e)

-- the whole star of a list is that of its items' whole streams
pub full-list_of : (s : StreamType) (vs : List HistValue) → full_list (full s) (list_of vs) ≡ star_of (map (full s) vs) star_done
full-list_of s [] = refl
full-list_of s (v ∷ vs) = cc (full-list_of s vs)

-- a tree in a box
abbrev Boxed : Type 0
Boxed = Box Value Global

-- where the value isn't of the type's form
pub full-int_off : (v : Value) → ((n : ℤ) → v ≡ Int n → ⊥) → full int (hist_value_of v) ≡ int_emp
full-int_off (Int n) h = absurd (h n refl)
full-int_off (List' shape row) h = off (row_of row)
  where
    off : (vs : List HistValue) → full int (list_of vs) ≡ int_emp
    off [] = refl
    off (v ∷ vs) = refl
full-int_off _ h = refl

pub full-cat_off : (s t : StreamType) (v : Value) → ((x y : Boxed) → v ≡ Pair x y → ⊥) → full (cat s t) (hist_value_of v) ≡ emp (cat s t)
full-cat_off s t (Pair' x v y w) h = absurd (h record { ptr = x.ptr; alloc = x.alloc; value = v } record { ptr = y.ptr; alloc = y.alloc; value = w } refl)
full-cat_off s t (List' shape row) h = off (row_of row)
  where
    off : (vs : List HistValue) → full (cat s t) (list_of vs) ≡ emp (cat s t)
    off [] = refl
    off (v ∷ vs) = refl
full-cat_off s t _ h = refl

pub full-par_off : (s t : StreamType) (v : Value) → ((x y : Boxed) → v ≡ Pair x y → ⊥) → full (par s t) (hist_value_of v) ≡ emp (par s t)
full-par_off s t (Pair' x v y w) h = absurd (h record { ptr = x.ptr; alloc = x.alloc; value = v } record { ptr = y.ptr; alloc = y.alloc; value = w } refl)
full-par_off s t (List' shape row) h = off (row_of row)
  where
    off : (vs : List HistValue) → full (par s t) (list_of vs) ≡ emp (par s t)
    off [] = refl
    off (v ∷ vs) = refl
full-par_off s t _ h = refl

pub full-sum_off : (s t : StreamType) (v : Value) → ((x : Boxed) → v ≡ Inl x → ⊥) → ((x : Boxed) → v ≡ Inr x → ⊥) → full (sum s t) (hist_value_of v) ≡ in_right (full t (hist_value_of v))
full-sum_off s t (Inl' x v) h k = absurd (h record { ptr = x.ptr; alloc = x.alloc; value = v } refl)
full-sum_off s t (Inr' x v) h k = absurd (k record { ptr = x.ptr; alloc = x.alloc; value = v } refl)
full-sum_off s t (List' shape row) h k = off (row_of row)
  where
    off : (vs : List HistValue) → full (sum s t) (list_of vs) ≡ in_right (full t (list_of vs))
    off [] = refl
    off (v ∷ vs) = refl
full-sum_off s t _ h k = refl

-- for functions that turn streams into values and back
pub ruleset lists = (star_row_of-hidden, row_of-hidden, value_of-star_of, full-list_of, full-int_off, full-cat_off, full-par_off, full-sum_off)
