-- Names one after the other: what those from one on tell, where those before it decide nothing. And what is kept of a name.
use Rattle.std.proofs.Common.{◌≡◌, ℕ, ◌+◌, ◌<◌, ◌≤◌, Bool, true, false, ◌&&◌, List, length, drop, get_or, ap, sym, ◌∙◌}
use Rattle.std.specs.Prelude.{Option, Some, None, option_map}
use Rattle.std.specs.List.{list_all}
use Rattle.std.proofs.lemmas.List.{at_drop_more, at_drop_all}
use Rattle.bunch.specs.declared.name.Name.{Name}
use Rattle.bunch.specs.Names.{numbers_of}
use Rattle.core_term.specs.TypeFaults.{first_some, first_found}
use Rattle.delta_check.specs.declared.scope.Known.{Known}
use Rattle.delta_check.specs.Scopes.{before_by, after_by}

module _ (p : ℕ → Bool) where
  -- the next name passes the test
  pub all_more : (ns : List Name) (i : ℕ) (d : Name) (k whole : Bool) → i < length ns → k ≡ p (get_or ns i d).0 → k ≡ true
      → list_all p (numbers_of (drop i ns)) ≡ whole → list_all p (numbers_of (drop (i + 1) ns)) ≡ whole
  all_more ns i d k whole less h f left =
      sym (ap (λ b. b && list_all p (numbers_of (drop (i + 1) ns))) (sym h ∙ f)) ∙ sym (at_drop_more (λ l. list_all p (numbers_of l)) ns i d less) ∙ left

  -- it doesn't
  pub all_not : (ns : List Name) (i : ℕ) (d : Name) (k whole : Bool) → i < length ns → k ≡ p (get_or ns i d).0 → k ≡ false
      → list_all p (numbers_of (drop i ns)) ≡ whole → false ≡ whole
  all_not ns i d k whole less h f left =
      sym (ap (λ b. b && list_all p (numbers_of (drop (i + 1) ns))) (sym h ∙ f)) ∙ sym (at_drop_more (λ l. list_all p (numbers_of l)) ns i d less) ∙ left

  -- no name is left
  pub all_end : (ns : List Name) (i : ℕ) (whole : Bool) → length ns ≤ i → list_all p (numbers_of (drop i ns)) ≡ whole → true ≡ whole
  all_end ns i whole h left = sym (at_drop_all (λ l. list_all p (numbers_of l)) ns i h) ∙ left

module _ {A B : Type 0} (g : A → B) (f : ℕ → Option B) where
  -- nothing is found at the next name
  pub found_more : (ns : List Name) (i : ℕ) (d : Name) (o : Option A) (whole : Option B) → i < length ns → option_map g o ≡ f (get_or ns i d).0 → o ≡ None
      → first_found f (numbers_of (drop i ns)) ≡ whole → first_found f (numbers_of (drop (i + 1) ns)) ≡ whole
  found_more ns i d o whole less h e left =
      ap (λ v. first_some v (first_found f (numbers_of (drop (i + 1) ns)))) (sym (ap (option_map g) e) ∙ h) ∙ sym (at_drop_more (λ l. first_found f (numbers_of l)) ns i d less) ∙ left

  -- something is
  pub found_here : (ns : List Name) (i : ℕ) (d : Name) (o : Option A) (a : A) (whole : Option B) → i < length ns → option_map g o ≡ f (get_or ns i d).0 → o ≡ Some a
      → first_found f (numbers_of (drop i ns)) ≡ whole → Some (g a) ≡ whole
  found_here ns i d o a whole less h e left =
      ap (λ v. first_some v (first_found f (numbers_of (drop (i + 1) ns)))) (sym (ap (option_map g) e) ∙ h) ∙ sym (at_drop_more (λ l. first_found f (numbers_of l)) ns i d less) ∙ left

module _ {B : Type 0} (f : ℕ → Option B) where
  -- no name is left
  pub found_end : (ns : List Name) (i : ℕ) (whole : Option B) → length ns ≤ i → first_found f (numbers_of (drop i ns)) ≡ whole → None ≡ whole
  found_end ns i whole h left = sym (at_drop_all (λ l. first_found f (numbers_of l)) ns i h) ∙ left

-- what is kept of a name
pub kept_after : (o p : Option Known) (k : Known) (d : Bool) → o ≡ Some k → o ≡ p → k.after ≡ after_by p d
kept_after o p k d e f = ap (λ z. after_by z d) (sym e ∙ f)

pub kept_before : (o p : Option Known) (k : Known) (d : Bool) → o ≡ Some k → o ≡ p → k.before ≡ before_by p d
kept_before o p k d e f = ap (λ z. before_by z d) (sym e ∙ f)

-- nothing is
pub none_after : (o p : Option Known) (d q : Bool) → o ≡ None → o ≡ p → q ≡ d → q ≡ after_by p d
none_after o p d q e f h = h ∙ ap (λ z. after_by z d) (sym e ∙ f)

pub none_before : (o p : Option Known) (still d q : Bool) → o ≡ None → o ≡ p → still ≡ true → q ≡ d → q ≡ before_by p (still && d)
none_before o p still d q e f k h = h ∙ sym (ap (λ b. b && d) k) ∙ ap (λ z. before_by z (still && d)) (sym e ∙ f)

pub never_before : (o p : Option Known) (still d : Bool) → o ≡ None → o ≡ p → still ≡ false → still ≡ before_by p (still && d)
never_before o p still d e f k = k ∙ sym (ap (λ b. b && d) k) ∙ ap (λ z. before_by z (still && d)) (sym e ∙ f)
