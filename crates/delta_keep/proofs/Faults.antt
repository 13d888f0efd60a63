-- Where going over bytes ends is where their fault of form is.
use Rattle.std.proofs.Common.{◌≡◌, ◌∙◌, ◌<◌, ◌≤◌, ◌+◌, ◌-◌, ℕ, suc, Bool, true, false, List, [], ◌∷◌, ◌++◌, length, ap, refl, subst, arith}
use Rattle.std.specs.Prelude.{Option, Some, None, Err, nat_lt, if◌then◌else◌, option_map}
use Rattle.std.proofs.lemmas.List.{append-nil}
use Rattle.std.proofs.lemmas.Bool.{ltb-false}
use Rattle.kept_state.specs.KeptBytes.{most_bytes}
use Rattle.kept_state.specs.KeptForm.{Part, settle, after_byte, is_whole, go_on, fault_from, kept_parts, bad_form, bad_version, version_fault, or_else, form_fault}
use Rattle.kept_state.proofs.WrittenBytes.{not_many}
use Rattle.delta_keep.specs.declared.halt.Halt.{Halt}
use Rattle.delta_keep.specs.declared.halt.Halt.TheVariants.{Memory, At}
use Rattle.delta_keep.specs.declared.kept.Kept.{Kept}
use Rattle.delta_keep.specs.Reading.{Ends}
use Rattle.delta_keep.specs.Reads.{Stops}
use Rattle.delta_keep.specs.Walking.{Walk, passed, stuck, walk_on, walk}

-- how many bytes are left
abbrev pub left_of : Walk → ℕ
left_of (passed rest) = length rest
left_of (stuck left) = left

-- they aren't more than there were
left_within_on : (o : Option (List Part)) (bs : List ℕ) → ((f : List Part) → left_of (walk (settle f) bs) ≤ length bs) → left_of (walk_on o (suc (length bs)) (λ next. walk (settle next) bs)) ≤ suc (length bs)
left_within_on None bs h = omega arith
left_within_on (Some f) bs h = let k = h f in omega (arith, k)

pub left_within : (parts : List Part) (bytes : List ℕ) → left_of (walk parts bytes) ≤ length bytes
left_within [] bytes = omega arith
left_within (p ∷ ps) [] = omega arith
left_within (p ∷ ps) (b ∷ bs) = left_within_on (after_byte (p ∷ ps) b) bs (λ f. left_within (settle f) bs)

-- the place at which it ends, of so many bytes from a place on, or None where they end with what is awaited
abbrev pub place_of : ℕ → ℕ → Walk → Option ℕ
place_of at n (passed []) = None
place_of at n (passed (b ∷ bs)) = Some (at + (n - suc (length bs)))
place_of at n (stuck left) = Some (at + (n - left))

-- counted from the next place on
place_next : (w : Walk) (at n : ℕ) → left_of w ≤ n → place_of (suc at) n w ≡ place_of at (suc n) w
place_next (passed []) at n h = refl
place_next (passed (b ∷ bs)) at n h = ap Some (let e : suc at + (n - suc (length bs)) ≡ at + (suc n - suc (length bs)) = omega (arith, h) in e)
place_next (stuck left) at n h = ap Some (let e : suc at + (n - left) ≡ at + (suc n - left) = omega (arith, h) in e)

-- where bytes end
ended : (s : List Part) (at : ℕ) → (if is_whole s then None else Some at) ≡ place_of at 0 (walk s [])
ended [] at = refl
ended (p ∷ ps) at = ap Some (let e : at ≡ at + (0 - 0) = omega arith in e)

-- how it goes on after a byte
goes_on : (o : Option (List Part)) (at : ℕ) (bs : List ℕ) → ((f : List Part) → fault_from f (suc at) bs ≡ place_of (suc at) (length bs) (walk (settle f) bs))
    → go_on o at (λ next. fault_from next (suc at) bs) ≡ place_of at (suc (length bs)) (walk_on o (suc (length bs)) (λ next. walk (settle next) bs))
goes_on None at bs h = ap Some (let e : at ≡ at + (suc (length bs) - suc (length bs)) = omega arith in e)
goes_on (Some f) at bs h = h f ∙ place_next (walk (settle f) bs) at (length bs) (left_within (settle f) bs)

-- with what is awaited settled
goes_on_settled : (s : List Part) (at b : ℕ) (bs : List ℕ) → ((f : List Part) → fault_from f (suc at) bs ≡ place_of (suc at) (length bs) (walk (settle f) bs))
    → go_on (after_byte s b) at (λ next. fault_from next (suc at) bs) ≡ place_of at (suc (length bs)) (walk s (b ∷ bs))
goes_on_settled [] at b bs h = ap Some (let e : at ≡ at + (suc (length bs) - suc (length bs)) = omega arith in e)
goes_on_settled (p ∷ ps) at b bs h = goes_on (after_byte (p ∷ ps) b) at bs h

-- so the fault is where it ends
pub fault_is : (parts : List Part) (at : ℕ) (bytes : List ℕ) → fault_from parts at bytes ≡ place_of at (length bytes) (walk (settle parts) bytes)
fault_is parts at [] = ended (settle parts) at
fault_is parts at (b ∷ bs) = goes_on_settled (settle parts) at b bs (λ f. fault_is f (suc at) bs)

-- of a kept state: all was read,
pub ends_whole : (bytes rest : List ℕ) → walk kept_parts bytes ≡ passed rest → length rest ≡ 0 → fault_from kept_parts 0 bytes ≡ None
ends_whole bytes [] h e = fault_is kept_parts 0 bytes ∙ ap (place_of 0 (length bytes)) h
ends_whole bytes (b ∷ rest) h e = absurd (omega (arith, e))

-- or something stands behind it,
pub ends_behind : (bytes rest : List ℕ) → walk kept_parts bytes ≡ passed rest → 0 < length rest → (length rest ≤ length bytes) × (fault_from kept_parts 0 bytes ≡ Some (length bytes - length rest))
ends_behind bytes [] h more = absurd (omega (arith, more))
ends_behind bytes (b ∷ rest) h more = (
  subst (λ w. left_of w ≤ length bytes) h (left_within kept_parts bytes),
  fault_is kept_parts 0 bytes ∙ (ap (place_of 0 (length bytes)) h ∙ ap Some (let e : 0 + (length bytes - suc (length rest)) ≡ length bytes - suc (length rest) = omega arith in e)),
)

-- or it stopped
pub ends_stopped : (bytes : List ℕ) (left : ℕ) → walk kept_parts bytes ≡ stuck left → (left ≤ length bytes) × (fault_from kept_parts 0 bytes ≡ Some (length bytes - left))
ends_stopped bytes left h = (
  subst (λ w. left_of w ≤ length bytes) h (left_within kept_parts bytes),
  fault_is kept_parts 0 bytes ∙ (ap (place_of 0 (length bytes)) h ∙ ap Some (let e : 0 + (length bytes - left) ≡ length bytes - left = omega arith in e)),
)

-- whatever stopped it
pub ends_so : (bytes : List ℕ) (e : Halt) → Stops kept_parts bytes e → Ends {K = Kept} bytes (Err e) (fault_from kept_parts 0 bytes)
ends_so bytes Memory h = tt
ends_so bytes (At left) h = ends_stopped bytes left h

-- nothing stands behind
pub whole : (bytes w rest : List ℕ) → bytes ≡ w ++ rest → length rest ≡ 0 → bytes ≡ w
whole bytes w [] h e = h ∙ append-nil w
whole bytes w (b ∷ rest) h e = absurd (omega (arith, e))

-- too many bytes
below : (n : ℕ) → most_bytes < n → nat_lt most_bytes n ≡ true
below n h = go (nat_lt most_bytes n) refl
  where
    go : (b : Bool) → nat_lt most_bytes n ≡ b → b ≡ true
    go true e = refl
    go false e = let k = ltb-false most_bytes n e in absurd (omega (arith, h, k))

pub many_told : (bytes : List ℕ) → most_bytes < length bytes → form_fault bytes ≡ Some (bad_form most_bytes)
many_told bytes h = ap (λ b. if b then Some (bad_form most_bytes) else or_else (version_fault bytes) (option_map bad_form (fault_from kept_parts 0 bytes))) (below (length bytes) h)

-- another version, where there aren't too many bytes
pub version_told : (bytes : List ℕ) (n : ℕ) → length bytes ≤ most_bytes → version_fault bytes ≡ Some (bad_version n) → form_fault bytes ≡ Some (bad_version n)
version_told bytes n l v =
    ap (λ b. if b then Some (bad_form most_bytes) else or_else (version_fault bytes) (option_map bad_form (fault_from kept_parts 0 bytes))) (not_many (length bytes) l)
    ∙ ap (λ o. or_else o (option_map bad_form (fault_from kept_parts 0 bytes))) v

-- where the version is the known one, the fault is that of the first byte in a wrong place
pub fault_told : (bytes : List ℕ) (place : Option ℕ) → length bytes ≤ most_bytes → version_fault bytes ≡ None → fault_from kept_parts 0 bytes ≡ place → form_fault bytes ≡ option_map bad_form place
fault_told bytes place l v f =
    ap (λ b. if b then Some (bad_form most_bytes) else or_else (version_fault bytes) (option_map bad_form (fault_from kept_parts 0 bytes))) (not_many (length bytes) l)
    ∙ (ap (λ o. or_else o (option_map bad_form (fault_from kept_parts 0 bytes))) v ∙ ap (option_map bad_form) f)
