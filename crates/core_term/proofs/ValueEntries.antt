-- Entries of values, of which a later one hides an earlier one.
use mathlib.Core.Path.{fun_ext}
use Rattle.std.proofs.Common.{◌≡◌, ℕ, ◌==◌, List, [], ◌∷◌, ◌++◌, if◌then◌else◌, refl}
use Rattle.bunch.specs.declared.name.Name.{Name}
use Rattle.bunch.specs.Names.{put}
use Rattle.hist_value.specs.declared.history.Value.{Value}
use Rattle.hist_value.specs.HistValue.{HistValue, unit_value, hist_value_of}
use Rattle.hist_value.specs.Environment.{entry_at, entries_of, environment_of}

entry_at-push : (d : HistValue) (es : List (Name × Value)) (e : Name × Value) (y : ℕ) → entry_at d (entries_of (es ++ e ∷ [])) y ≡ put e.0.0 (hist_value_of e.1) (entry_at d (entries_of es)) y
entry_at-push d [] e y = refl
entry_at-push d (f ∷ es) e y = entry_at-push (if y == f.0.0 then hist_value_of f.1 else d) es e y

-- one entry after others hides what they have at its name
pub environment-push : (es : List (Name × Value)) (e : Name × Value) → environment_of (es ++ e ∷ []) ≡ put e.0.0 (hist_value_of e.1) (environment_of es)
environment-push es e = fun_ext (entry_at-push unit_value es e)

-- for functions over entries
pub ruleset entries = (environment-push)
