-- The environment of entries with other numbers is the environment with these.
use Rattle.std.proofs.Common.{◌≡◌, ◌≤◌, ◌<◌, ◌+◌, ℕ, ℤ, Bool, true, false, List, [], ◌∷◌, ◌++◌, ◌==◌, if◌then◌else◌, length, take, get_or, refl, ap, sym, ◌∙◌}
use Rattle.std.proofs.lemmas.List.{take_more, take_all}
use Rattle.bunch.specs.declared.name.Name.{Name}
use Rattle.hist_value.specs.declared.history.Value.{Value}
use Rattle.hist_value.specs.HistValue.{HistValue, unit_value, hist_value_of}
use Rattle.hist_value.specs.Environment.{entry_at, entries_of, environment_of}
use Rattle.other_numbers.specs.Numbers.{exchanged_value, exchanged_past}

-- each entry with f in the place of the numbers of its value
abbrev pub exchanged_entries : (ℤ → ℤ) → List (ℕ × HistValue) → List (ℕ × HistValue)
exchanged_entries f [] = []
exchanged_entries f (e ∷ es) = (e.0, exchanged_value f e.1) ∷ exchanged_entries f es

-- an entry, by whether it is the one
entry_or : (f : ℤ → ℤ) (b : Bool) (v d : HistValue) → (if b then exchanged_value f v else exchanged_value f d) ≡ exchanged_value f (if b then v else d)
entry_or f true v d = refl
entry_or f false v d = refl

-- what the last entry holds
entry_at-exchanged : (f : ℤ → ℤ) (d : HistValue) (es : List (ℕ × HistValue)) (x : ℕ) → entry_at (exchanged_value f d) (exchanged_entries f es) x ≡ exchanged_value f (entry_at d es x)
entry_at-exchanged f d [] x = refl
entry_at-exchanged f d (e ∷ es) x =
    ap (λ v. entry_at v (exchanged_entries f es) x) (entry_or f (x == e.0) e.1 d) ∙ entry_at-exchanged f (if x == e.0 then e.1 else d) es x

-- so at each name
environment_of-exchanged : (f : ℤ → ℤ) (seen past : List (Name × Value)) → entries_of seen ≡ exchanged_entries f (entries_of past) → environment_of seen ≡ exchanged_past f (environment_of past)
environment_of-exchanged f seen past h =
    ap (λ es. λ x. entry_at unit_value es x) h ∙ (λ i x. entry_at-exchanged f unit_value (entries_of past) x i)

-- one more entry
entries_of-more : (es : List (Name × Value)) (e : Name × Value) → entries_of (es ++ e ∷ []) ≡ entries_of es ++ (e.0.0, hist_value_of e.1) ∷ []
entries_of-more [] e = refl
entries_of-more (d ∷ es) e = ap (λ l. (d.0.0, hist_value_of d.1) ∷ l) (entries_of-more es e)

-- so with other numbers
exchanged_entries-more : (f : ℤ → ℤ) (es : List (ℕ × HistValue)) (e : ℕ × HistValue) → exchanged_entries f (es ++ e ∷ []) ≡ exchanged_entries f es ++ (e.0, exchanged_value f e.1) ∷ []
exchanged_entries-more f [] e = refl
exchanged_entries-more f (d ∷ es) e = ap (λ l. (d.0, exchanged_value f d.1) ∷ l) (exchanged_entries-more f es e)

-- an entry that is put behind others, with the value that it stands for
pub entry_behind : (old new : List (Name × Value)) (x : Name) (v : Value) (w : HistValue) → new ≡ old ++ (x, v) ∷ [] → hist_value_of v ≡ w → entries_of new ≡ entries_of old ++ (x.0, w) ∷ []
entry_behind old new x v w h e = ap entries_of h ∙ entries_of-more old (x, v) ∙ ap (λ u. entries_of old ++ (x.0, u) ∷ []) e

-- one more name that was seen
pub one_name : (f : ℤ → ℤ) (past seen more : List (Name × Value)) (i : ℕ) (e : Name × Value) → i < length past → e ≡ get_or past i e → entries_of seen ≡ exchanged_entries f (entries_of (take i past))
    → entries_of more ≡ entries_of seen ++ (e.0.0, exchanged_value f (hist_value_of e.1)) ∷ [] → entries_of more ≡ exchanged_entries f (entries_of (take (i + 1) past))
one_name f past seen more i e within is h k =
    k ∙ ap (λ es. es ++ (e.0.0, exchanged_value f (hist_value_of e.1)) ∷ []) h ∙ sym (exchanged_entries-more f (entries_of (take i past)) (e.0.0, hist_value_of e.1))
    ∙ sym (ap (λ es. exchanged_entries f es) (ap entries_of (take_more past i e within ∙ ap (λ y. take i past ++ y ∷ []) (sym is)) ∙ entries_of-more (take i past) e))

-- all names
pub all_names : (f : ℤ → ℤ) (past seen : List (Name × Value)) (i : ℕ) → length past ≤ i → entries_of seen ≡ exchanged_entries f (entries_of (take i past)) → environment_of seen ≡ exchanged_past f (environment_of past)
all_names f past seen i h e = environment_of-exchanged f seen past (e ∙ ap (λ es. exchanged_entries f (entries_of es)) (take_all i past h))
