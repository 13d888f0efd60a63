-- The types that a list of entries gives, with one more entry, and without those of a name.
use Rattle.std.proofs.Common.{◌≡◌, ◌<◌, ◌+◌, inl, inr, ℕ, Bool, true, false, ◌||◌, length, take, get_or, List, [], ◌∷◌, ◌++◌, refl, ap, sym, ◌∙◌}
use Rattle.std.specs.Prelude.{Option, Some, None, if◌then◌else◌, ◌==◌, is_some}
use Rattle.std.proofs.lemmas.List.{take_more}
use Rattle.std.proofs.lemmas.Bool.{eqb-true, or_left, or_right}
use Rattle.stream_type.specs.declared.ty.Ty.{Ty}
use Rattle.stream_type.specs.StreamType.{StreamType, type_of}
use Rattle.bunch.specs.Names.{numbers_of, holds}
use Rattle.bunch.proofs.NameLists.{holds-append, numbers_of-append}
use Rattle.core_term.specs.CoreTerm.{typed_names_of}
use Rattle.core_term.specs.Typing.{past_params}
use Rattle.core_term.specs.TypeFaults.{first_some}
use Rattle.core_term.proofs.OnceEach.{or_false}
use Rattle.bunch.specs.declared.name.Name.{Name}
use Rattle.bunch.proofs.Tests.{or_split}
use Rattle.hist_value.specs.declared.hist_type.HTy.{HTy}
use Rattle.hist_value.specs.HistType.{HistType, hist_type_of, past}
use Rattle.hist_value.specs.Environment.{entry_at, typed_entries_of, types_of}

entry_at-push : (d : Option HistType) (es : List (Name × HTy)) (e : Name × HTy) (x : ℕ)
    → entry_at d (typed_entries_of (es ++ e ∷ [])) x ≡ (if x == e.0.0 then Some (hist_type_of e.1) else entry_at d (typed_entries_of es) x)
entry_at-push d [] e x = refl
entry_at-push d (a ∷ es) e x = entry_at-push (if x == a.0.0 then Some (hist_type_of a.1) else d) es e x

-- the last entry gives its name's type
pub types_of-push : (es : List (Name × HTy)) (e : Name × HTy) (x : ℕ) → types_of (es ++ e ∷ []) x ≡ (if x == e.0.0 then Some (hist_type_of e.1) else types_of es x)
types_of-push es e x = entry_at-push None es e x

-- the names of a list up to the next one
holds-next : (names : List Name) (i : ℕ) (n : Name) (x : ℕ) → i < length names → holds x (numbers_of (take (i + 1) names)) ≡ (holds x (numbers_of (take i names)) || (x == (get_or names i n).0))
holds-next names i n x h =
    ap (λ l. holds x (numbers_of l)) (take_more names i n h)
    ∙ ap (λ l. holds x l) (numbers_of-append (take i names) (get_or names i n ∷ []))
    ∙ holds-append x (numbers_of (take i names)) ((get_or names i n).0 ∷ [])
    ∙ ap (λ b. holds x (numbers_of (take i names)) || b) (or_false (x == (get_or names i n).0))

-- the entries of the names so far, and one more where the next name has a type
pub next_typed : (p : ℕ → Option HistType) (names : List Name) (i : ℕ) (d : Name) (old new : ℕ → Option HistType) → i < length names
    → ((x : ℕ) → old x ≡ (if holds x (numbers_of (take i names)) then p x else None))
    → ((x : ℕ) → new x ≡ (if x == (get_or names i d).0 then first_some (p (get_or names i d).0) (old x) else old x))
    → (x : ℕ) → new x ≡ (if holds x (numbers_of (take (i + 1) names)) then p x else None)
next_typed p names i d old new h before after x =
    go (x == (get_or names i d).0) refl (holds x (numbers_of (take i names))) refl ∙ sym (ap (λ b. if b then p x else None) (holds-next names i d x h))
  where
    known : (hold : Bool) (o : Option HistType) → first_some o (if hold then o else None) ≡ o
    known hold (Some t) = refl
    known true None = refl
    known false None = refl

    go : (b : Bool) → (x == (get_or names i d).0) ≡ b → (hold : Bool) → holds x (numbers_of (take i names)) ≡ hold
        → new x ≡ (if holds x (numbers_of (take i names)) || (x == (get_or names i d).0) then p x else None)
    go true k hold q =
        let same : x ≡ (get_or names i d).0 = eqb-true x (get_or names i d).0 k in
        after x ∙ ap (λ b. if b then first_some (p (get_or names i d).0) (old x) else old x) k ∙ ap (λ o. first_some (p (get_or names i d).0) o) (before x)
        ∙ ap (λ b. first_some (p (get_or names i d).0) (if b then p x else None)) q
        ∙ ap (λ m. first_some (p m) (if hold then p x else None)) (sym same)
        ∙ known hold (p x)
        ∙ sym (ap (λ b. if b then p x else None) (or_right (holds x (numbers_of (take i names))) (x == (get_or names i d).0) k))
    go false k hold q =
        after x ∙ ap (λ b. if b then first_some (p (get_or names i d).0) (old x) else old x) k ∙ before x
        ∙ ap (λ b. if b then p x else None) (sym (or_false (holds x (numbers_of (take i names)))))
        ∙ sym (ap (λ d. if holds x (numbers_of (take i names)) || d then p x else None) k)

-- whether one of the parameters has the name, with one more parameter at the end
past_last : (es : List (ℕ × StreamType)) (e : ℕ × StreamType) (x : ℕ) → is_some (past_params (es ++ e ∷ []) x) ≡ (is_some (past_params es x) || (x == e.0))
past_last [] e x = go (x == e.0)
  where
    go : (b : Bool) → is_some (if b then Some (past e.1) else None) ≡ b
    go true = refl
    go false = refl
past_last (a ∷ es) e x = go (x == a.0) (past_last es e x)
  where
    go : (b : Bool) → is_some (past_params (es ++ e ∷ []) x) ≡ (is_some (past_params es x) || (x == e.0))
        → is_some (if b then Some (past a.1) else past_params (es ++ e ∷ []) x) ≡ (is_some (if b then Some (past a.1) else past_params es x) || (x == e.0))
    go true ih = refl
    go false ih = ih

typed_names_of-last : (ps : List (Name × Ty)) (p : Name × Ty) → typed_names_of (ps ++ p ∷ []) ≡ typed_names_of ps ++ (p.0.0, type_of p.1) ∷ []
typed_names_of-last [] p = refl
typed_names_of-last (a ∷ ps) p = ap (λ l. (a.0.0, type_of a.1) ∷ l) (typed_names_of-last ps p)

-- the names of the parameters so far are there, and the next one's
pub next_param : (params : List (Name × Ty)) (i : ℕ) (p : Name × Ty) (names more : List Name) → i < length params → p ≡ get_or params i p → more ≡ names ++ p.0 ∷ []
    → ((x : ℕ) → is_some (past_params (typed_names_of (take i params)) x) ≡ true → holds x (numbers_of names) ≡ true)
    → (x : ℕ) → is_some (past_params (typed_names_of (take (i + 1) params)) x) ≡ true → holds x (numbers_of more) ≡ true
next_param params i p names more h e m known x k =
    let taken : take (i + 1) params ≡ take i params ++ p ∷ [] = take_more params i p h ∙ ap (λ q. take i params ++ q ∷ []) (sym e) in
    let parts : (is_some (past_params (typed_names_of (take i params)) x) || (x == p.0.0)) ≡ true =
    sym (ap (λ l. is_some (past_params (typed_names_of l) x)) taken ∙ ap (λ l. is_some (past_params l x)) (typed_names_of-last (take i params) p) ∙ past_last (typed_names_of (take i params)) (p.0.0, type_of p.1) x) ∙ k in
    ap (λ l. holds x (numbers_of l)) m ∙ ap (λ l. holds x l) (numbers_of-append names (p.0 ∷ [])) ∙ holds-append x (numbers_of names) (p.0.0 ∷ [])
    ∙ (elim (or_split (is_some (past_params (typed_names_of (take i params)) x)) (x == p.0.0) parts) [
      | inl a ↦ or_left (holds x (numbers_of names)) ((x == p.0.0) || false) (known x a)
      | inr b ↦ or_right (holds x (numbers_of names)) ((x == p.0.0) || false) (or_left (x == p.0.0) false b)
    ])

pub ruleset entries = (types_of-push)
