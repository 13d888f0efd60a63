-- Which bytes a name stands for among named files, and after one was written.
use Rattle.std.proofs.Common.{◌≡◌, ◌≢◌, ℕ, zero, suc, ◌+◌, ◌<◌, ◌≤◌, Bool, true, false, not, cond, ltb, List, [], ◌∷◌, ◌++◌, length, get_or, Some, None, Vec, String, refl, sym, ap, subst, ◌∙◌, arith}
use Rattle.std.proofs.Math.ListN.{set}
use borrow.Author.Tests.{ltb-true, ltb-false}
use Rattle.std.specs.String.{string_bytes}
use Rattle.std.specs.declared.alloc.Global.{Global}
use Rattle.std.specs.List.{prefix_len}
use Rattle.std.proofs.lemmas.Slice.Eq.{bytes_eq-Decides}
use Rattle.port.specs.Files.{has_name, held_by, place_of}

abbrev File : Type 0
File = String Global × Vec ℕ Global

-- the first file of this name stands here
abbrev pub StandsAt : List File → List ℕ → ℕ → Type 0
StandsAt [] name place = ⊥
StandsAt (file ∷ files) name zero = has_name file name ≡ true
StandsAt (file ∷ files) name (suc place) = (has_name file name ≡ false) × StandsAt files name place

-- no file has this name
abbrev pub StandsNowhere : List File → List ℕ → Type 0
StandsNowhere [] name = Unit {0}
StandsNowhere (file ∷ files) name = (has_name file name ≡ false) × StandsNowhere files name

-- a name that no file has stands for no bytes
pub nowhere_holds_none : (files : List File) (name : List ℕ) → StandsNowhere files name → held_by files name ≡ []
nowhere_holds_none [] name nowhere = refl
nowhere_holds_none (file ∷ files) name nowhere = rw nowhere.0 (nowhere_holds_none files name nowhere.1)

-- where a file stands is within the files
pub stands_within : (files : List File) (name : List ℕ) (place : ℕ) → StandsAt files name place → place < length files
stands_within [] name place stands = absurd stands
stands_within (file ∷ files) name zero stands = omega arith
stands_within (file ∷ files) name (suc place) stands = omega (arith, stands_within files name place stands.1)

-- the first file of a name holds what the name stands for
pub stands_holds : (files : List File) (name : List ℕ) (place : ℕ) (other : File) → StandsAt files name place → held_by files name ≡ (get_or files place other).1.items
stands_holds [] name place other stands = absurd stands
stands_holds (file ∷ files) name zero other stands = rw stands refl
stands_holds (file ∷ files) name (suc place) other stands = rw stands.0 (stands_holds files name place other stands.1)

-- the first file of a name has it
pub stands_named : (files : List File) (name : List ℕ) (place : ℕ) (other : File) → StandsAt files name place → has_name (get_or files place other) name ≡ true
stands_named [] name place other stands = absurd stands
stands_named (file ∷ files) name zero other stands = stands
stands_named (file ∷ files) name (suc place) other stands = stands_named files name place other stands.1

-- after a file was put in the place of the first one of this name
pub set_holds : (files : List File) (name : List ℕ) (place : ℕ) (file : File) → StandsAt files name place → has_name file name ≡ true → held_by (set files place file) name ≡ file.1.items
set_holds [] name place file stands named = absurd stands
set_holds (first ∷ files) name zero file stands named = rw named refl
set_holds (first ∷ files) name (suc place) file stands named = rw stands.0 (set_holds files name place file stands.1 named)

-- a file that hasn't this name may be put in the place of another that hasn't
pub set_keeps : (files : List File) (name : List ℕ) (place : ℕ) (old file : File) → get_or files place old ≡ old → has_name old name ≡ false → has_name file name ≡ false → held_by (set files place file) name ≡ held_by files name
set_keeps [] name place old file there without named = refl
set_keeps (first ∷ files) name zero old file there without named = rw (named, there, without) refl
set_keeps (first ∷ files) name (suc place) old file there without named = ap (λ held. cond (has_name first name) first.1.items held) (set_keeps files name place old file there without named)

-- a new file at the end holds what its name stands for
pub push_holds : (files : List File) (name : List ℕ) (file : File) → StandsNowhere files name → has_name file name ≡ true → held_by (files ++ file ∷ []) name ≡ file.1.items
push_holds [] name file nowhere named = rw named refl
push_holds (first ∷ files) name file nowhere named = rw nowhere.0 (push_holds files name file nowhere.1 named)

-- another name stands for what it stood for
pub push_keeps : (files : List File) (name : List ℕ) (file : File) → has_name file name ≡ false → held_by (files ++ file ∷ []) name ≡ held_by files name
push_keeps [] name file named = rw named refl
push_keeps (first ∷ files) name file named = ap (λ held. cond (has_name first name) first.1.items held) (push_keeps files name file named)

-- a file that has a name is named by its bytes
pub named_is : (file : File) (name : List ℕ) → has_name file name ≡ true → string_bytes file.0 ≡ name
named_is file name named = (bytes_eq-Decides (string_bytes file.0) name).0 named

-- and the other way round
pub is_named : (file : File) (name : List ℕ) → string_bytes file.0 ≡ name → has_name file name ≡ true
is_named file name same = (bytes_eq-Decides (string_bytes file.0) name).1 same

-- a file of one name has no other
pub not_named : (file : File) (name other : List ℕ) → string_bytes file.0 ≡ name → other ≢ name → has_name file other ≡ false
not_named file name other same apart = by_test (has_name file other) (λ named. absurd (apart (sym (named_is file other named) ∙ same)))
  where
    by_test : (test : Bool) → (test ≡ true → ⊥) → test ≡ false
    by_test true never = absurd (never refl)
    by_test false never = refl

-- how many files from the first on have another name
abbrev others_before : List File → List ℕ → ℕ
others_before files name = prefix_len (λ file. not (has_name file name)) files

by_first : (file : File) (files : List File) (name : List ℕ) (others : ℕ) (test : Bool) → has_name file name ≡ test → (others < length files → StandsAt files name others)
    → cond (not test) (1 + others) 0 < length (file ∷ files) → StandsAt (file ∷ files) name (cond (not test) (1 + others) 0)
by_first file files name others true named more low = named
by_first file files name others false named more low =
    let next : 1 + others ≡ suc others = omega arith in
    subst (λ place. StandsAt (file ∷ files) name place) (sym next) (named, more (omega (arith, low)))

stands_after : (files : List File) (name : List ℕ) → others_before files name < length files → StandsAt files name (others_before files name)
stands_after [] name low = absurd (omega (arith, low))
stands_after (file ∷ files) name low = by_first file files name (others_before files name) (has_name file name) refl (stands_after files name) low

by_others : (file : File) (files : List File) (name : List ℕ) (others : ℕ) (test : Bool) → has_name file name ≡ test → (length files ≤ others → StandsNowhere files name)
    → length (file ∷ files) ≤ cond (not test) (1 + others) 0 → StandsNowhere (file ∷ files) name
by_others file files name others true named more high = absurd (omega (arith, high))
by_others file files name others false named more high = (named, more (omega (arith, high)))

nowhere_after : (files : List File) (name : List ℕ) → length files ≤ others_before files name → StandsNowhere files name
nowhere_after [] name high = tt
nowhere_after (file ∷ files) name high = by_others file files name (others_before files name) (has_name file name) refl (nowhere_after files name) high

-- the place that was found is where the first file of the name stands
pub placed : (files : List File) (name : List ℕ) (place : ℕ) → place_of files name ≡ Some place → StandsAt files name place
placed files name place found = by_test (ltb (others_before files name) (length files)) refl found
  where
    by_test : (test : Bool) → ltb (others_before files name) (length files) ≡ test → cond test (Some (others_before files name)) None ≡ Some place → StandsAt files name place
    by_test true low found =
        let same : others_before files name ≡ place = cc in
        subst (λ place. StandsAt files name place) same (stands_after files name (ltb-true (others_before files name) (length files) low))
    by_test false high found = absurd (let never : ⊥ = cc in never)

-- where no place was found no file has the name
pub unplaced : (files : List File) (name : List ℕ) → place_of files name ≡ None → StandsNowhere files name
unplaced files name missing = by_test (ltb (others_before files name) (length files)) refl missing
  where
    by_test : (test : Bool) → ltb (others_before files name) (length files) ≡ test → cond test (Some (others_before files name)) None ≡ None → StandsNowhere files name
    by_test true low missing = absurd (let never : ⊥ = cc in never)
    by_test false high missing = nowhere_after files name (ltb-false (others_before files name) (length files) high)

-- the files that are told are the shelf's
pub told_same : (held files : List ℕ → List ℕ) (name : List ℕ) → Some held ≡ Some files → files name ≡ held name
told_same held files name told = let same : held ≡ files = cc in ap (λ (f : List ℕ → List ℕ). f name) (sym same)

set_named : (files : List File) (name : List ℕ) (place : ℕ) (file old : File) → StandsAt files name place → old ≡ get_or files place old → string_bytes file.0 ≡ string_bytes old.0 → has_name file name ≡ true
set_named files name place file old stands there same =
    is_named file name (same ∙ named_is old name (ap (λ file. has_name file name) there ∙ stands_named files name place old stands))

-- once new bytes stand in the place of the first file of this name, it stands for them
pub set_is_kept : (files : List File) (name : List ℕ) (place : ℕ) (file old : File) → StandsAt files name place → old ≡ get_or files place old → string_bytes file.0 ≡ string_bytes old.0
    → held_by (set files place file) name ≡ file.1.items
set_is_kept files name place file old stands there same = set_holds files name place file stands (set_named files name place file old stands there same)

-- and the other names for what they stood for
pub set_is_other : (files : List File) (name other : List ℕ) (place : ℕ) (file old : File) → StandsAt files name place → old ≡ get_or files place old → string_bytes file.0 ≡ string_bytes old.0
    → other ≢ name → held_by (set files place file) other ≡ held_by files other
set_is_other files name other place file old stands there same apart =
    let named : string_bytes old.0 ≡ name = named_is old name (ap (λ file. has_name file name) there ∙ stands_named files name place old stands) in
    set_keeps files other place old file (sym there) (not_named old name other named apart) (not_named file name other (same ∙ named) apart)
