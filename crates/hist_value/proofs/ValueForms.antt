-- The value of a form, by the values of its parts.
use Rattle.std.proofs.Common.{◌≡◌, ◌⊎◌, inl, inr, ℕ, ◌+◌, ◌<◌, ◌≤◌, ℤ, List, [], ◌∷◌, map, length, drop, get_or, refl, sym, ap, ap₂, subst, ◌∙◌}
use Rattle.std.proofs.lemmas.List.{drop_all}
use Rattle.std.specs.Prelude.{Result, IfOk}
use Rattle.std.specs.declared.boxed.Box.{Box}
use Rattle.std.specs.declared.vec.Vec.{Vec}
use Rattle.std.specs.declared.alloc.Global.{Global}
use Rattle.stream_type.specs.declared.memory.Memory.{Memory}
use Rattle.hist_value.specs.declared.history.Value.{Value}
use Rattle.hist_value.specs.declared.history.Value.TheVariants.{Unit, Int, Pair, Inl, Inr, List as IsList}
use Rattle.hist_value.specs.HistExpr.{HistExpr}
use Rattle.hist_value.specs.HistValue.{HistValue, hist_value_of, list_of, unit_value}
use Rattle.hist_value.specs.Evaluate.{value, choose, gather}
use Rattle.hist_value.proofs.Rows.{hist_value_of-list}
use Rattle.hist_value.proofs.ListForms.{choose-list_of}
use Rattle.hist_value.proofs.ItemsBefore.{OffList}
use Rattle.hist_value.proofs.TypedForms.{from_here}

-- a result that has one value has an equal one
pub result_as : (q : Result Value Memory) (x y : HistValue) → x ≡ y → IfOk q (λ v. hist_value_of v ≡ x) → IfOk q (λ v. hist_value_of v ≡ y)
result_as q x y e h = subst (λ (z : HistValue). IfOk q (λ v. hist_value_of v ≡ z)) e h

-- the value of a form is that of the expression that has it
pub of_form : (q : Result Value Memory) (past : ℕ → HistValue) (e f : HistExpr) → e ≡ f → IfOk q (λ v. hist_value_of v ≡ value f past) → IfOk q (λ v. hist_value_of v ≡ value e past)
of_form q past e f is h = result_as q (value f past) (value e past) (ap (λ (x : HistExpr). value x past) (sym is)) h

-- a tree in a box
abbrev Boxed : Type 0
Boxed = Box Value Global

-- by the side of a sum's value
pub chosen_left : (f g : HistValue → HistValue) (v : Value) (x : Boxed) (w : Value) (s : HistValue) → hist_value_of v ≡ s → v ≡ Inl x → w ≡ x.value → f (hist_value_of w) ≡ choose f g s
chosen_left f g v x w s e is h = rw (← e, is, h) refl

pub chosen_right : (f g : HistValue → HistValue) (v : Value) (x : Boxed) (w : Value) (s : HistValue) → hist_value_of v ≡ s → v ≡ Inr x → w ≡ x.value → g (hist_value_of w) ≡ choose f g s
chosen_right f g v x w s e is h = rw (← e, is, h) refl

-- a value that is no sum's
abbrev pub OffSum : Value → Type 0
OffSum v = (v ≡ Unit) ⊎ (((n : ℤ) × v ≡ Int n) ⊎ (((x : Boxed) × (y : Boxed) × v ≡ Pair x y) ⊎ ((l : Vec Value Global) × v ≡ IsList l)))

not_chosen : (f g : HistValue → HistValue) (v : Value) → OffSum v → unit_value ≡ choose f g (hist_value_of v)
not_chosen f g v (inl e) = rw e refl
not_chosen f g v (inr (inl (n, e))) = rw e refl
not_chosen f g v (inr (inr (inl (x, y, e)))) = rw e refl
not_chosen f g v (inr (inr (inr (l, e)))) = sym (ap (choose f g) (ap hist_value_of e ∙ hist_value_of-list l) ∙ choose-list_of f g (map hist_value_of l.items))

pub none_chosen : (f g : HistValue → HistValue) (v : Value) (s : HistValue) → hist_value_of v ≡ s → OffSum v → unit_value ≡ choose f g s
none_chosen f g v s e off = not_chosen f g v off ∙ ap (choose f g) e

-- what is gathered from a list
pub folded_list : (f : HistValue → HistValue → HistValue) (start list : Value) (xs : Vec Value Global) (l : List Value) (s a : HistValue) → hist_value_of start ≡ s → hist_value_of list ≡ a → list ≡ IsList xs → l ≡ xs.items
    → gather f (hist_value_of start) (list_of (map hist_value_of l)) ≡ gather f s a
folded_list f start list xs l s a se ae is le =
    let items : list_of (map hist_value_of l) ≡ a = ap (λ (i : List Value). list_of (map hist_value_of i)) le ∙ (sym (hist_value_of-list xs) ∙ (sym (ap hist_value_of is) ∙ ae)) in
    ap₂ (gather f) se items

off_gathered : (f : HistValue → HistValue → HistValue) (g : HistValue) (v : Value) → OffList v → g ≡ gather f g (hist_value_of v)
off_gathered f g v (inl e) = rw e refl
off_gathered f g v (inr (inl (n, e))) = rw e refl
off_gathered f g v (inr (inr (inl (x, y, e)))) = rw e refl
off_gathered f g v (inr (inr (inr (inl (x, e))))) = rw e refl
off_gathered f g v (inr (inr (inr (inr (x, e))))) = rw e refl

pub folded_off : (f : HistValue → HistValue → HistValue) (start list : Value) (s a : HistValue) → hist_value_of start ≡ s → hist_value_of list ≡ a → OffList list → hist_value_of start ≡ gather f s a
folded_off f start list s a se ae off = off_gathered f (hist_value_of start) list off ∙ ap₂ (gather f) se ae

-- one more item is gathered
pub gather_turn : (f : HistValue → HistValue → HistValue) (g n all : HistValue) (l : List Value) (i : ℕ) (x : Value) → i < length l → x ≡ get_or l i x → n ≡ f g (hist_value_of x)
    → all ≡ gather f g (list_of (map hist_value_of (drop i l)))
    → all ≡ gather f n (list_of (map hist_value_of (drop (i + 1) l)))
gather_turn f g n all l i x h e next so_far =
    so_far ∙ (ap (λ (r : List Value). gather f g (list_of (map hist_value_of r))) (from_here l i x h e) ∙ ap (λ (z : HistValue). gather f z (list_of (map hist_value_of (drop (i + 1) l)))) (sym next))

-- no item is left
pub gather_end : (f : HistValue → HistValue → HistValue) (g all : HistValue) (l : List Value) (i : ℕ) → length l ≤ i → all ≡ gather f g (list_of (map hist_value_of (drop i l))) → g ≡ all
gather_end f g all l i h so_far = sym (so_far ∙ ap (λ (r : List Value). gather f g (list_of (map hist_value_of r))) (drop_all i l h))
