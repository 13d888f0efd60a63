-- What is left of an input, one read on.
use Rattle.std.proofs.Common.{◌≡◌, ℕ, ◌≤◌, List, [], ◌++◌, Option, Some, length, take, ◌∙◌, ap, sym, refl, append_assoc, append-nil, arith, length-take}
use Rattle.port.specs.Told.{Loses, IsUsedUp}

pub nothing_taken : (n : ℕ) (xs : List ℕ) → n ≤ length xs → take n xs ≡ [] → n ≡ 0
nothing_taken n xs within none = omega (arith, length-take n xs, ap length none)

pub loses_nothing : (old new : Option (List ℕ)) → new ≡ old → Loses old new []
loses_nothing old new same told is = (told, same ∙ is, refl)

pub loses_more : (start old new : Option (List ℕ)) (first more : List ℕ) → Loses start old first → Loses old new more → Loses start new (first ++ more)
loses_more start old new first more before then told is =
    let mid = before told is in
    let last = then mid.0 mid.1 in
    (last.0, last.1, mid.2 ∙ ap (λ (xs : List ℕ). first ++ xs) last.2 ∙ sym (append_assoc first more last.0))

-- all that was left was read
pub read_all : (start old : Option (List ℕ)) (first : List ℕ) → Loses start old first → IsUsedUp old → (told : List ℕ) → start ≡ Some told → told ≡ first
read_all start old first before up told is =
    let mid = before told is in
    mid.2 ∙ ap (λ (xs : List ℕ). first ++ xs) (up mid.0 mid.1) ∙ append-nil first
