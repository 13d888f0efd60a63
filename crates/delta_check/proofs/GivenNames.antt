-- The names of what is given in a list.
use Rattle.std.proofs.Common.{◌≡◌, ◌∙◌, ◌<◌, ◌+◌, inl, inr, ℕ, Bool, true, false, ◌||◌, length, take, get_or, List, [], ◌∷◌, ◌++◌, refl, ap, sym}
use Rattle.std.specs.Prelude.{Some, None, if◌then◌else◌, ◌==◌, is_some}
use Rattle.std.proofs.lemmas.List.{take_more}
use Rattle.std.proofs.lemmas.Bool.{or_left, or_right}
use Rattle.bunch.specs.declared.name.Name.{Name}
use Rattle.bunch.specs.Names.{numbers_of, holds}
use Rattle.bunch.proofs.NameLists.{holds-append, numbers_of-append}
use Rattle.bunch.proofs.Tests.{or_split}
use Rattle.hist_value.specs.declared.hist_type.HTy.{HTy}
use Rattle.hist_value.specs.HistType.{hist_type_of}
use Rattle.delta_check.specs.Scopes.{given_at, historical_of}

-- whether something is given of the name, with one more entry at the end
given_last : {A : Type 0} (es : List (ℕ × A)) (e : ℕ × A) (x : ℕ) → is_some (given_at (es ++ e ∷ []) x) ≡ (is_some (given_at es x) || (x == e.0))
given_last [] e x = go (x == e.0)
  where
    go : (b : Bool) → is_some (if b then Some e.1 else None) ≡ b
    go true = refl
    go false = refl
given_last (a ∷ es) e x = go (x == a.0) (given_last es e x)
  where
    go : (b : Bool) → is_some (given_at (es ++ e ∷ []) x) ≡ (is_some (given_at es x) || (x == e.0))
        → is_some (if b then Some a.1 else given_at (es ++ e ∷ []) x) ≡ (is_some (if b then Some a.1 else given_at es x) || (x == e.0))
    go true ih = refl
    go false ih = ih

historical_last : (ps : List (Name × HTy)) (p : Name × HTy) → historical_of (ps ++ p ∷ []) ≡ historical_of ps ++ (p.0.0, hist_type_of p.1) ∷ []
historical_last [] p = refl
historical_last (a ∷ ps) p = ap (λ l. (a.0.0, hist_type_of a.1) ∷ l) (historical_last ps p)

-- a name that was there is there with one more
pub still_there : (p : Name × HTy) (names more : List Name) → more ≡ names ++ p.0 ∷ [] → (x : ℕ) → holds x (numbers_of names) ≡ true → holds x (numbers_of more) ≡ true
still_there p names more m x k =
    ap (λ l. holds x (numbers_of l)) m ∙ ap (λ l. holds x l) (numbers_of-append names (p.0 ∷ [])) ∙ holds-append x (numbers_of names) (p.0.0 ∷ [])
    ∙ or_left (holds x (numbers_of names)) ((x == p.0.0) || false) k

-- the names so far are there, and the next one
pub next_given : (past : List (Name × HTy)) (i : ℕ) (p : Name × HTy) (names more : List Name) → i < length past → p ≡ get_or past i p → more ≡ names ++ p.0 ∷ []
    → ((x : ℕ) → is_some (given_at (historical_of (take i past)) x) ≡ true → holds x (numbers_of names) ≡ true)
    → (x : ℕ) → is_some (given_at (historical_of (take (i + 1) past)) x) ≡ true → holds x (numbers_of more) ≡ true
next_given past i p names more h e m known x k =
    let taken : take (i + 1) past ≡ take i past ++ p ∷ [] = take_more past i p h ∙ ap (λ q. take i past ++ q ∷ []) (sym e) in
    let parts : (is_some (given_at (historical_of (take i past)) x) || (x == p.0.0)) ≡ true =
    sym (ap (λ l. is_some (given_at (historical_of l) x)) taken ∙ ap (λ l. is_some (given_at l x)) (historical_last (take i past) p) ∙ given_last (historical_of (take i past)) (p.0.0, hist_type_of p.1) x) ∙ k in
    ap (λ l. holds x (numbers_of l)) m ∙ ap (λ l. holds x l) (numbers_of-append names (p.0 ∷ [])) ∙ holds-append x (numbers_of names) (p.0.0 ∷ [])
    ∙ (elim (or_split (is_some (given_at (historical_of (take i past)) x)) (x == p.0.0) parts) [
      | inl a ↦ or_left (holds x (numbers_of names)) ((x == p.0.0) || false) (known x a)
      | inr b ↦ or_right (holds x (numbers_of names)) ((x == p.0.0) || false) (or_left (x == p.0.0) false b)
    ])
