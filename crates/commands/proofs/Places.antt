-- The first fault of bytes stands no further than the most bytes that a state may have.
use Rattle.std.proofs.Common.{◌≡◌, ◌≤◌, ◌+◌, ℕ, suc, Bool, true, false, List, [], ◌∷◌, Option, Some, None, option_map, length, nat_lt, if◌then◌else◌, refl, ap, arith}
use Rattle.std.proofs.lemmas.Bool.{ltb-false}
use Rattle.kept_state.specs.KeptBytes.{most_bytes}
use Rattle.kept_state.specs.KeptForm.{Part, settle, after_byte, is_whole, go_on, fault_from, kept_parts, FormFault, bad_form, bad_version, version_fault, or_else, form_fault}

end_within : (b : Bool) (at n : ℕ) → (if b then None else Some at) ≡ Some n → n ≤ at
end_within true at n e = absurd (let none : ⊥ = cc e in none)
end_within false at n e = let same : at ≡ n = cc in omega (arith, same)

next_within : (o : Option (List Part)) (at : ℕ) (bytes : List ℕ) (n : ℕ) → go_on o at (λ next. fault_from next (suc at) bytes) ≡ Some n
    → ((next : List Part) → fault_from next (suc at) bytes ≡ Some n → n ≤ suc at + length bytes) → n ≤ at + suc (length bytes)
next_within None at bytes n e rest = let same : at ≡ n = cc in omega (arith, same)
next_within (Some parts) at bytes n e rest = let within = rest parts e in omega (arith, within)

fault_within : (parts : List Part) (at : ℕ) (bytes : List ℕ) (n : ℕ) → fault_from parts at bytes ≡ Some n → n ≤ at + length bytes
fault_within parts at [] n e = let within = end_within (is_whole (settle parts)) at n e in omega (arith, within)
fault_within parts at (byte ∷ bytes) n e = next_within (after_byte (settle parts) byte) at bytes n e (λ next h. fault_within next (suc at) bytes n h)

-- another version isn't told as a byte in a wrong place
no_form : (b : Bool) (n at : ℕ) → (if b then Some (bad_version n) else None) ≡ Some (bad_form at) → ⊥
no_form true n at e = let none : ⊥ = cc e in none
no_form false n at e = let none : ⊥ = cc e in none

version_is : (bytes : List ℕ) (at : ℕ) → version_fault bytes ≡ Some (bad_form at) → ⊥
version_is [] at e = let none : ⊥ = cc e in none
version_is (a ∷ []) at e = let none : ⊥ = cc e in none
version_is (a ∷ b ∷ []) at e = let none : ⊥ = cc e in none
version_is (a ∷ b ∷ c ∷ []) at e = let none : ⊥ = cc e in none
version_is (a ∷ b ∷ c ∷ n ∷ bytes) at e = no_form _ n at e

by_place : (o : Option ℕ) (at : ℕ) → option_map bad_form o ≡ Some (bad_form at) → o ≡ Some at
by_place None at e = absurd (let none : ⊥ = cc e in none)
by_place (Some m) at e = let same : m ≡ at = cc in ap Some same

by_version : (v : Option FormFault) (o : Option ℕ) (at : ℕ) → (v ≡ Some (bad_form at) → ⊥) → or_else v (option_map bad_form o) ≡ Some (bad_form at) → o ≡ Some at
by_version None o at never e = by_place o at e
by_version (Some f) o at never e = absurd (never e)

by_length : (b : Bool) (bytes : List ℕ) (at : ℕ) → nat_lt most_bytes (length bytes) ≡ b
    → (if b then Some (bad_form most_bytes) else or_else (version_fault bytes) (option_map bad_form (fault_from kept_parts 0 bytes))) ≡ Some (bad_form at) → at ≤ most_bytes
by_length true bytes at many e = let same : most_bytes ≡ at = cc in omega (arith, same)
by_length false bytes at few e =
    let place = by_version (version_fault bytes) (fault_from kept_parts 0 bytes) at (version_is bytes at) e in
    let within = fault_within kept_parts 0 bytes at place in
    let most = ltb-false most_bytes (length bytes) few in omega (arith, most, within)

pub form_within : (bytes : List ℕ) (at : ℕ) → form_fault bytes ≡ Some (bad_form at) → at ≤ most_bytes
form_within bytes at e = by_length (nat_lt most_bytes (length bytes)) bytes at refl e
