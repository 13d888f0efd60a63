-- What a call does to a list that an object may tell: none where it doesn't tell.
use Rattle.std.specs.Prelude.{◌≡◌, List, [], ◌++◌, Option, Some}

-- where the old list is told, the new one is told, and has these at its end
abbrev pub Grows : {A : Type 0} → Option (List A) → Option (List A) → List A → Type 0
Grows {A} old new more = (told : List A) → old ≡ Some told → new ≡ Some (told ++ more)

-- where the old list is told, the new one is told, and these were taken from the old one's front
abbrev pub Loses : {A : Type 0} → Option (List A) → Option (List A) → List A → Type 0
Loses {A} old new front = (told : List A) → old ≡ Some told → (rest : List A) × (new ≡ Some rest) × (told ≡ front ++ rest)

-- where the list is told, it is empty
abbrev pub IsUsedUp : {A : Type 0} → Option (List A) → Type 0
IsUsedUp {A} old = (told : List A) → old ≡ Some told → told ≡ []
