-- An item in front of the items of a list is an item in front of what the list stands for; in front of another value it
-- stands alone.
use Rattle.std.proofs.Common.{◌≡◌, ◌⊎◌, inl, inr, ℤ, List, [], ◌∷◌, ◌++◌, map, refl, sym, ap, ◌∙◌}
use Rattle.std.specs.declared.boxed.Box.{Box}
use Rattle.std.specs.declared.vec.Vec.{Vec}
use Rattle.std.specs.declared.alloc.Global.{Global}
use Rattle.hist_value.specs.declared.history.Value.{Value}
use Rattle.hist_value.specs.declared.history.Value.TheVariants.{Unit, Int, Pair, Inl, Inr, List as IsList}
use Rattle.hist_value.specs.HistValue.{hist_value_of, list_of, item_before, no_items}
use Rattle.hist_value.specs.Evaluate.{cons_of}
use Rattle.hist_value.proofs.Rows.{hist_value_of-list}
use Rattle.hist_value.proofs.ListForms.{cons_of-list_of}

pub before_list : (v list : Value) (rest all : Vec Value Global) (start pushed : List Value) → list ≡ IsList rest → start ≡ [] → pushed ≡ start ++ (v ∷ []) → all.items ≡ pushed ++ rest.items
    → hist_value_of (IsList all) ≡ cons_of (hist_value_of v) (hist_value_of list)
before_list v list rest all start pushed le none push append =
    let items : all.items ≡ v ∷ rest.items = append ∙ ap (λ (l : List Value). l ++ rest.items) (push ∙ ap (λ (l : List Value). l ++ (v ∷ [])) none) in
    let read : hist_value_of list ≡ list_of (map hist_value_of rest.items) = ap hist_value_of le ∙ hist_value_of-list rest in
    hist_value_of-list all ∙ (ap (λ (l : List Value). list_of (map hist_value_of l)) items ∙ sym (ap (cons_of (hist_value_of v)) read ∙ cons_of-list_of (hist_value_of v) (map hist_value_of rest.items)))

-- a tree in a box
abbrev Boxed : Type 0
Boxed = Box Value Global

-- a value that is no list
abbrev pub OffList : Value → Type 0
OffList v = (v ≡ Unit) ⊎ (((n : ℤ) × v ≡ Int n) ⊎ (((x : Boxed) × (y : Boxed) × v ≡ Pair x y) ⊎ (((x : Boxed) × v ≡ Inl x) ⊎ ((x : Boxed) × v ≡ Inr x))))

before_off : (v list : Value) → OffList list → item_before (hist_value_of v) no_items ≡ cons_of (hist_value_of v) (hist_value_of list)
before_off v list (inl e) = rw e refl
before_off v list (inr (inl (n, e))) = rw e refl
before_off v list (inr (inr (inl (x, y, e)))) = rw e refl
before_off v list (inr (inr (inr (inl (x, e))))) = rw e refl
before_off v list (inr (inr (inr (inr (x, e))))) = rw e refl

pub alone : (v list : Value) (all : Vec Value Global) (start : List Value) → OffList list → start ≡ [] → all.items ≡ start ++ (v ∷ []) → hist_value_of (IsList all) ≡ cons_of (hist_value_of v) (hist_value_of list)
alone v list all start off none push =
    let items : all.items ≡ v ∷ [] = push ∙ ap (λ (l : List Value). l ++ (v ∷ [])) none in
    hist_value_of-list all ∙ (ap (λ (l : List Value). list_of (map hist_value_of l)) items ∙ before_off v list off)
