-- Names that are distinct, gone through in turn.
use Rattle.std.proofs.Common.{◌≡◌, ◌∙◌, ◌<◌, ◌+◌, ℕ, Bool, true, false, List, [], ◌∷◌, ◌++◌, length, get_or, take, drop, refl, ap, ap₂, sym}
use Rattle.std.proofs.lemmas.List.{at_drop_more, take-append-drop, take-map, take_more, length-map}
use Rattle.std.proofs.Math.Seq.{take-append_seam}
use Rattle.bunch.specs.declared.name.Name.{Name}
use Rattle.bunch.specs.Names.{holds, number_of, numbers_of}
use Rattle.bunch.proofs.NameLists.{numbers_of-append}
use Rattle.core_term.specs.FreeNames.{is_distinct}
use Rattle.core_term.proofs.Sides.{holds-head}
use Rattle.core_term.proofs.BoundOnce.{distinct_apart}
use Rattle.state_steps.proofs.HeldForms.{distinct-last}

module _ (names : List Name) (i : ℕ) (d : Name) (h : i < length names) where
  -- a name more that isn't among those so far
  pub still_distinct : is_distinct (numbers_of (take i names)) ≡ true → holds (get_or names i d).0 (numbers_of (take i names)) ≡ false → is_distinct (numbers_of (take (i + 1) names)) ≡ true
  still_distinct e f =
      ap (λ l. is_distinct (numbers_of l)) (take_more names i d h) ∙ ap is_distinct (numbers_of-append (take i names) (get_or names i d ∷ []))
      ∙ distinct-last (numbers_of (take i names)) (get_or names i d).0 e f

  -- or is
  pub not_distinct : holds (get_or names i d).0 (numbers_of (take i names)) ≡ true → is_distinct (numbers_of names) ≡ false
  not_distinct f = go (is_distinct (numbers_of names)) refl
    where
      x : ℕ
      x = (get_or names i d).0

      there : holds x (numbers_of (drop i names)) ≡ true
      there = at_drop_more (λ l. holds x (numbers_of l)) names i d h ∙ holds-head x (numbers_of (drop (i + 1) names))

      parts : numbers_of (take i names) ++ numbers_of (drop i names) ≡ numbers_of names
      parts = sym (numbers_of-append (take i names) (drop i names)) ∙ ap numbers_of (take-append-drop i names)

      go : (b : Bool) → is_distinct (numbers_of names) ≡ b → b ≡ false
      go true e = absurd (distinct_apart (numbers_of (take i names)) (numbers_of (drop i names)) (ap is_distinct parts ∙ e) x f there)
      go false e = refl

-- names that were put behind others, as many as these
module _ (old new : List Name) (own : List ℕ) (n : ℕ) (h : n ≡ length old) (e : numbers_of new ≡ numbers_of old ++ own) where
  pub before_own : numbers_of (take n new) ≡ numbers_of old
  before_own = sym (take-map number_of n new) ∙ ap₂ take (h ∙ sym (length-map old number_of)) e ∙ take-append_seam (numbers_of old) own

  pub own_behind : numbers_of new ≡ numbers_of (take n new) ++ own
  own_behind = e ∙ ap (λ l. l ++ own) (sym before_own)
