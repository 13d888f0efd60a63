-- Claims that are added one after another, and tests of types as booleans.
use Rattle.std.proofs.Common.{◌≡◌, ◌∙◌, ◌↔◌, IsTrue, Bool, true, false, true≢false, List, [], ◌∷◌, ◌++◌, append_assoc, ap, refl, sym}
use Rattle.std.specs.Prelude.{Result, Ok, Err, IfOk, Some}
use Rattle.stream_type.specs.StreamType.{StreamType}
use Rattle.core_term.specs.Parts.{is_same_type}
use Rattle.core_term.specs.TypeFaults.{found_where}
use Rattle.core_term.proofs.Causes.{is_same_type-same, is_same_type-true}
use Rattle.delta_derive.specs.Claims.{Claim}
use Rattle.delta_derive.proofs.Options.{found}

pub two_added : {E : Type 0} (r : Result Bool E) (v : Bool) (old mid new : List Claim) (g h : Claim) → found_where v mid ≡ Some (old ++ g ∷ []) → IfOk r (λ w. found_where w new ≡ Some (mid ++ h ∷ [])) → IfOk r (λ w. found_where w new ≡ Some (old ++ g ∷ (h ∷ [])))
two_added (Ok w) v old mid new g h p q = q ∙ ap Some (ap (λ l. l ++ h ∷ []) ((found v mid (old ++ g ∷ []) p).1) ∙ append_assoc old (g ∷ []) (h ∷ []))
two_added (Err e) v old mid new g h p q = tt

pub same_test : (r : Bool) (s t : StreamType) → IsTrue r ↔ (s ≡ t) → r ≡ is_same_type s t
same_test true s t h = sym (ap (λ u. is_same_type s u) (sym (h.0 refl)) ∙ is_same_type-same s)
same_test false s t h = go (is_same_type s t) refl
  where
    go : (b : Bool) → is_same_type s t ≡ b → false ≡ b
    go true e = absurd (true≢false (sym (h.1 (is_same_type-true s t e))))
    go false e = refl
