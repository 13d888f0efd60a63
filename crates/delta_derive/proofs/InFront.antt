-- What a line leaves is put in front of the other claims.
use Rattle.std.proofs.Common.{◌≡◌, ◌∙◌, ℕ, suc, Bool, true, false, List, [], ◌∷◌, ◌++◌, map, ap, refl, sym}
use Rattle.std.specs.Prelude.{Option, Some, None, option_map, Result, Ok, Err, IfOk}
use Rattle.std.proofs.lemmas.Result.{IfOk-at_ok}
use Rattle.core_term.specs.CoreTerm.{CoreBody}
use Rattle.core_term.specs.TypeFaults.{found_where}
use Rattle.bunch_rules.specs.Written.{Line}
use Rattle.delta_derive.specs.declared.open.OpenTerm.{OpenTerm}
use Rattle.delta_derive.specs.declared.fault.DeriveFault.TheVariants.{Long}
use Rattle.delta_derive.specs.Claims.{Claim}
use Rattle.delta_derive.specs.OpenTerms.{claim_of, claims_in, Adds, Leaves}
use Rattle.delta_derive.specs.FirstFault.{TextLines, judged, fault_at, after, first_from}
use Rattle.delta_derive.proofs.Options.{some_same, none_some}
use Rattle.delta_derive.proofs.Fronts.{claims_last}

pub left_in_front : (hs : Option (List Claim)) (first parts old new : List OpenTerm) (valid : Bool) → first ≡ [] → Adds hs first parts valid → claims_in new ≡ map claim_of parts ++ claims_in old → Leaves hs old new valid
left_in_front hs first parts old new valid e a p = go hs valid (a ∙ ap (λ os. option_map (λ gs. map claim_of os ++ gs) hs) e)
  where
    go : (os : Option (List Claim)) (v : Bool) → found_where v (map claim_of parts) ≡ option_map (λ gs. gs) os → found_where v (claims_in new) ≡ option_map (λ gs. gs ++ claims_in old) os
    go (Some gs) true q = ap Some (p ∙ ap (λ l. l ++ claims_in old) (some_same q))
    go (Some gs) false q = none_some q
    go None true q = none_some (sym q)
    go None false q = refl

-- where it was tried to add them to none
pub put_first : {E : Type 0} (r s : Result Bool E) (hs : Option (List Claim)) (first parts old new : List OpenTerm) → first ≡ [] → IfOk r (Adds hs first parts) → IfOk s (λ _. claims_in new ≡ map claim_of parts ++ claims_in old) → IfOk s (λ v. r ≡ Ok v) → IfOk s (Leaves hs old new)
put_first r (Ok v) hs first parts old new e a p q = left_in_front hs first parts old new v e (IfOk-at_ok (Adds hs first parts) q a) p
put_first r (Err x) hs first parts old new e a p q = tt

module _ (funs : List CoreBody) (counts : ℕ → Bool) (n : ℕ) where
  -- a line that is valid goes on, and one that isn't is at fault
  pub line_taken : (l : Line) (g : Claim) (gs hs : List Claim) (ls : TextLines) → Some hs ≡ option_map (λ is. is ++ gs) (after funs counts l g) → first_from funs counts n (g ∷ gs) (Some l ∷ ls) ≡ first_from funs counts (suc n) hs ls
  line_taken l g gs hs ls e = go (after funs counts l g) e
    where
      go : (o : Option (List Claim)) → Some hs ≡ option_map (λ is. is ++ gs) o → judged (fault_at n l) o (λ is. first_from funs counts (suc n) (is ++ gs) ls) ≡ first_from funs counts (suc n) hs ls
      go (Some is) q = ap (λ js. first_from funs counts (suc n) js ls) (sym (some_same q))
      go None q = none_some (sym q)

  pub line_refused : (l : Line) (g : Claim) (gs : List Claim) (ls : TextLines) → None ≡ option_map (λ is. is ++ gs) (after funs counts l g) → first_from funs counts n (g ∷ gs) (Some l ∷ ls) ≡ Some (fault_at n l)
  line_refused l g gs ls e = go (after funs counts l g) e
    where
      go : (o : Option (List Claim)) → None ≡ option_map (λ is. is ++ gs) o → judged (fault_at n l) o (λ is. first_from funs counts (suc n) (is ++ gs) ls) ≡ Some (fault_at n l)
      go (Some is) q = none_some q
      go None q = refl

  -- the last open term is next
  pub line_goes_on : (l : Line) (o : OpenTerm) (old rest new : List OpenTerm) (ls : TextLines) → old ≡ rest ++ o ∷ [] → Leaves (after funs counts l (claim_of o)) rest new true → first_from funs counts n (claims_in old) (Some l ∷ ls) ≡ first_from funs counts (suc n) (claims_in new) ls
  line_goes_on l o old rest new ls e h =
      ap (λ gs. first_from funs counts n gs (Some l ∷ ls)) (ap claims_in e ∙ claims_last rest o) ∙ line_taken l (claim_of o) (claims_in rest) (claims_in new) ls h

  pub line_at_fault : (l : Line) (o : OpenTerm) (old rest new : List OpenTerm) (ls : TextLines) → old ≡ rest ++ o ∷ [] → Leaves (after funs counts l (claim_of o)) rest new false → first_from funs counts n (claims_in old) (Some l ∷ ls) ≡ Some (fault_at n l)
  line_at_fault l o old rest new ls e h =
      ap (λ gs. first_from funs counts n gs (Some l ∷ ls)) (ap claims_in e ∙ claims_last rest o) ∙ line_refused l (claim_of o) (claims_in rest) ls h

  -- no claim is left
  pub line_over : (l : Line) (old : List OpenTerm) (ls : TextLines) → old ≡ [] → first_from funs counts n (claims_in old) (Some l ∷ ls) ≡ Some (Long n)
  line_over l old ls e = ap (λ os. first_from funs counts n (claims_in os) (Some l ∷ ls)) e

pub ruleset in_front = (left_in_front, line_goes_on, line_at_fault, line_over)
