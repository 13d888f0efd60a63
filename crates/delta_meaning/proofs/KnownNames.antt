-- The type at a name of a table.
use Rattle.std.proofs.Common.{◌≡◌, ℕ, ◌==◌, Bool, true, false, List, [], ◌∷◌, Option, Some, None, unwrap_or, if◌then◌else◌, refl, ap, ◌∙◌}
use Rattle.stream_type.specs.declared.ty.Ty.{Ty}
use Rattle.stream_type.specs.StreamType.{StreamType, type_of, eps}
use Rattle.bunch.specs.declared.name.Name.{Name}
use Rattle.hist_value.specs.Environment.{entry_at}
use Rattle.core_term.specs.CoreTerm.{typed_names_of}
use Rattle.delta_meaning.specs.KnownTypes.{known_entries, names_known}

entry_at-known : (o : Option StreamType) (es : List (Name × Ty)) (x : ℕ) → unwrap_or (entry_at o (known_entries es) x) eps ≡ entry_at (unwrap_or o eps) (typed_names_of es) x
entry_at-known o [] x = refl
entry_at-known o (e ∷ es) x =
    entry_at-known (if x == e.0.0 then Some (type_of e.1) else o) es x ∙ ap (λ t. entry_at t (typed_names_of es) x) (go (x == e.0.0))
  where
    go : (b : Bool) → unwrap_or (if b then Some (type_of e.1) else o) eps ≡ (if b then type_of e.1 else unwrap_or o eps)
    go true = refl
    go false = refl

-- the type at a name is that of its last entry, or `eps` where it has none
pub type_at_known : (es : List (Name × Ty)) (x : ℕ) → unwrap_or (names_known es x) eps ≡ entry_at eps (typed_names_of es) x
type_at_known es x = entry_at-known None es x
