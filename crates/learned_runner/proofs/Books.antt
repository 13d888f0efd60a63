-- Books of which more is known.
use Rattle.std.proofs.Common.{◌≡◌, ◌<◌, length, map, get_or, ℕ, zero, suc, ◌∙◌, Some, List, [], ◌∷◌, ◌++◌, refl, ap, subst}
use Rattle.std.specs.Prelude.{slice_get}
use Rattle.std.specs.Option.{option_map}
use Rattle.std.proofs.lemmas.Option.{slice_get-map, slice_get_read}
use Rattle.core_term.specs.CoreTerm.{CoreProgram}
use Rattle.stations.specs.StationTree.{StationTree}
use Rattle.step_learning.specs.IsLearned.{IsLearned}
use Rattle.learned_runner.specs.Book.{At, IsKnown, KnownTree}

-- what stands at a place stays there where more is put behind
pub stays_there : {A : Type 0} (xs ys : List A) (n : ℕ) (x : A) → slice_get xs n ≡ Some x → slice_get (xs ++ ys) n ≡ Some x
stays_there [] ys n x h = absurd (cc h)
stays_there (y ∷ xs) ys zero x h = h
stays_there (y ∷ xs) ys (suc n) x h = stays_there xs ys n x h

-- what a lookup found stands at its place, also where each is read
pub mapped_there : {A B : Type 0} (v : A → B) (xs ys : List A) (i : ℕ) (x : A) → xs ≡ ys → i < length xs → x ≡ get_or xs i x → slice_get (map v ys) i ≡ Some (v x)
mapped_there v xs ys i x same l e = subst (λ zs. slice_get (map v zs) i ≡ Some (v x)) same (slice_get-map v xs i ∙ ap (λ o. option_map v o) (slice_get_read xs (length xs) i x refl l e))

-- so does what holds of it
pub at_grown : (stations more : List StationTree) (n : ℕ) (holds : StationTree → Type 0) → At stations n holds → At (stations ++ more) n holds
at_grown stations more n holds a = record { station = a.station; is_there = stays_there stations more n a.station a.is_there; holds_there = a.holds_there }

-- and what is known stays known
pub known_grown : (c : CoreProgram) (budget : ℕ) (stations more : List StationTree) (k : KnownTree) → IsKnown c budget stations k → IsKnown c budget (stations ++ more) k
known_grown c budget stations more k a = record {
  station = a.station;
  is_there = stays_there stations more k.from a.station a.is_there;
  holds_there = at_grown stations more k.to (λ b. IsLearned c budget a.station b k.step) a.holds_there;
}
