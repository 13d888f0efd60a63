-- Entries of values, and names that are hidden.
use mathlib.Core.Path.{fun_ext}
use Rattle.std.proofs.Common.{◌≡◌, ℕ, ◌==◌, Bool, true, false, ◌||◌, List, [], ◌∷◌, map, if◌then◌else◌, refl, sym, ap, ◌∙◌}
use Rattle.bunch.specs.declared.name.Name.{Name}
use Rattle.bunch.specs.Names.{put, holds}
use Rattle.hist_value.specs.declared.history.Value.{Value}
use Rattle.hist_value.specs.HistValue.{unit_value}
use Rattle.hist_value.specs.Environment.{entry_at, entries_of, environment_of}
use Rattle.core_term.specs.Environment.{by_side}
use Rattle.core_term.specs.Meaning.{Past, no_past}
use Rattle.core_term.proofs.ValueEntries.{environment-push}
use Rattle.delta_meaning.specs.Scope.{entry_of}

by_side-more-at : (x : ℕ) (xs : List ℕ) (f : Past) (y : ℕ) → by_side (x ∷ xs) no_past f y ≡ put x unit_value (by_side xs no_past f) y
by_side-more-at x xs f y = go (y == x)
  where
    go : (c : Bool) → (if c || holds y xs then unit_value else f y) ≡ (if c then unit_value else (if holds y xs then unit_value else f y))
    go true = refl
    go false = refl

-- one name more is hidden
pub by_side-more : (x : ℕ) (xs : List ℕ) (f : Past) → by_side (x ∷ xs) no_past f ≡ put x unit_value (by_side xs no_past f)
by_side-more x xs f = fun_ext (by_side-more-at x xs f)

entries_of-map : (es : List (Name × Value)) → entries_of es ≡ map entry_of es
entries_of-map [] = refl
entries_of-map (e ∷ es) = ap (λ l. entry_of e ∷ l) (entries_of-map es)

-- equal entries give equal values
pub same_entries : (es fs : List (Name × Value)) → map entry_of es ≡ map entry_of fs → environment_of es ≡ environment_of fs
same_entries es fs h = ap (entry_at unit_value) (entries_of-map es ∙ (h ∙ sym (entries_of-map fs)))

-- for functions over entries
pub ruleset entries = (environment-push, same_entries)
