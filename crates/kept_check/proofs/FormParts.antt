-- The parts of the type of a stream.
use Rattle.std.proofs.Common.{◌≡◌, ◌∙◌, ℕ, Bor, ap, sym}
use Rattle.std.specs.Prelude.{Option, Some, None, unwrap_or, IfSome, IfNone}
use Rattle.stream_type.specs.declared.ty.Ty.{Ty}
use Rattle.stream_type.specs.StreamType.{StreamType, type_of, eps}
use Rattle.core_term.specs.Typing.{Context, type_at, HasForm}
use Rattle.kept_check.specs.declared.forms.Form.{Form}
use Rattle.kept_check.specs.Forms.{AreParts, ArePartsAt, in_form, first_in, second_in}
use Rattle.kept_check.proofs.StateForms.{form_at}

module _ (form : Form) (c : Context) (z : ℕ) (s : StreamType) where
  -- those of its type
  pub parts_at : (q : Option (Bor Ty × Bor Ty)) → c.types z ≡ Some s → IfSome q (λ p. AreParts form s (type_of p.0.now) (type_of p.1.now)) → IfSome q (λ p. ArePartsAt form c z (type_of p.0.now) (type_of p.1.now))
  parts_at (Some p) e h =
      let same : s ≡ type_at c z = sym (ap (λ o. unwrap_or o eps) e) in
      record { whole = (form_at c z s (in_form form) e).0 h.whole; first = h.first ∙ ap (first_in form) same; second = h.second ∙ ap (second_in form) same }
  parts_at None e h = h

  -- where it has none
  pub no_parts_at : (q : Option (Bor Ty × Bor Ty)) → c.types z ≡ Some s → IfNone q (s ≡ in_form form s → ⊥) → IfNone q (HasForm c z (in_form form (type_at c z)) → ⊥)
  no_parts_at (Some p) e h = h
  no_parts_at None e h = λ k. h ((form_at c z s (in_form form) e).1 k)
