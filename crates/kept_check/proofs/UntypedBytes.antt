-- The bytes of a kept state that isn't typed are those of no typed one.
use Rattle.std.proofs.Common.{◌≡◌, ◌∙◌, ℕ, List, Err, sym, subst}
use Rattle.core_term.specs.CoreTerm.{CoreProgram}
use Rattle.kept_state.specs.KeptTyping.{IsTypedKept}
use Rattle.kept_state.specs.KeptBytes.{kept_bytes}
use Rattle.kept_state.specs.KeptSizes.{HasSizes}
use Rattle.kept_state.proofs.SameStates.{one_spelling}
use Rattle.kept_state.proofs.TypedShapes.{typed_is_shaped}
use Rattle.kept_rules.specs.FirstUntyped.{IsFirstUntyped}
use Rattle.kept_rules.proofs.GoodStates.{untyped_is_not_typed}
use Rattle.delta_keep.specs.declared.kept.Kept.{Kept}
use Rattle.delta_keep.specs.KeptView.{kept_of, places_kept}
use Rattle.delta_keep.proofs.Shapes.{shaped_state}
use Rattle.kept_check.specs.declared.fault.KeepFault.{KeepFault}
use Rattle.kept_check.specs.declared.fault.KeepFault.TheVariants.{Memory, Form, Untyped, Version}
use Rattle.kept_check.specs.Loading.{TellsForm, IsOfNone, RefusesNone}

-- where the numbers of what was read have their sizes
pub of_none : (c : CoreProgram) (k : Kept) (bytes : List ℕ) (n : ℕ) → bytes ≡ kept_bytes (kept_of k) (places_kept k) → HasSizes (kept_of k) → IsFirstUntyped c (kept_of k) n → IsOfNone c bytes
of_none c k bytes n e h u t places g typed f =
    let same : t ≡ kept_of k = one_spelling t (kept_of k) places (places_kept k) g h (typed_is_shaped c t typed) (shaped_state k.state.value) (sym f ∙ e) in
    untyped_is_not_typed c (kept_of k) n u (subst (IsTypedKept c) same typed)

-- what is wrong with the form refuses none for its types
pub form_refuses : (c : CoreProgram) (bytes : List ℕ) (e : KeepFault) → TellsForm bytes (Err e) → RefusesNone c bytes e
form_refuses c bytes Memory h = tt
form_refuses c bytes (Form at) h = tt
form_refuses c bytes (Untyped n) h = absurd h
form_refuses c bytes (Version n) h = tt
