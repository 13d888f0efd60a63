-- What a shelf holds: for each name, the bytes of its file.
use Rattle.std.specs.Prelude.{◌≡◌, ◌≢◌, ℕ, Bool, if◌then◌else◌, List, [], ◌∷◌, Option, Some, None, Vec, String, string_bytes}
use Rattle.std.specs.Str.{bytes_eq}
use Rattle.std.specs.List.{position}
use Rattle.std.specs.declared.alloc.Global.{Global}

-- where the shelf tells, this name stands for these bytes
abbrev pub Keeps : Option (List ℕ → List ℕ) → List ℕ → List ℕ → Type 0
Keeps now name bytes = (files : List ℕ → List ℕ) → now ≡ Some files → files name ≡ bytes

-- where the old files are told, the new ones are told, and each name but this one stands for what it stood for
abbrev pub ChangesOnly : Option (List ℕ → List ℕ) → Option (List ℕ → List ℕ) → List ℕ → Type 0
ChangesOnly old new name =
    (files : List ℕ → List ℕ) → old ≡ Some files → (later : List ℕ → List ℕ) × (new ≡ Some later)
    × ((other : List ℕ) → other ≢ name → later other ≡ files other)

-- this file has this name
abbrev pub has_name : String Global × Vec ℕ Global → List ℕ → Bool
has_name file name = bytes_eq (string_bytes file.0) name

-- what named files hold: the bytes of the first one of that name, or none
abbrev pub held_by : List (String Global × Vec ℕ Global) → List ℕ → List ℕ
held_by [] name = []
held_by (file ∷ files) name = if has_name file name then file.1.items else held_by files name

-- the place of the first file of this name
abbrev pub place_of : List (String Global × Vec ℕ Global) → List ℕ → Option ℕ
place_of files name = position (λ file. has_name file name) files

-- no file has this name
abbrev pub IsMissing : List (String Global × Vec ℕ Global) → List ℕ → Type 0
IsMissing files name = place_of files name ≡ None
