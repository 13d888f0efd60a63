-- Measures put together.
use Rattle.std.proofs.Common.{◌≡◌, ◌∙◌, ℕ, ap, ap₂, sym, subst}
use Rattle.std.specs.Prelude.{Result, Ok, Err, IfOk, Option, option_map, None}
use Rattle.bunch.specs.declared.name.Name.{Name}
use Rattle.core_term.specs.TypeFaults.{first_some}
use Rattle.state_bounds.specs.Bounds.{Bound, both, greater}
use Rattle.delta_bound.specs.declared.stop.Stop.{Stop}
use Rattle.delta_bound.specs.declared.stop.Stop.TheVariants.{Memory, Found}
use Rattle.delta_bound.specs.declared.stop.Unsized.{Unsized}
use Rattle.delta_bound.specs.Measured.{Measures, MeasuresTwo, Sums, in_turn, together, either, beside, with_number, at_place, IsHeld, IsFound}
use Rattle.delta_bound.specs.Unsized.{told, placed}
use Rattle.delta_bound.proofs.LargeTerms.{IsLarge}

-- a second measure after one that found nothing, and none after one that stopped
pub in_turn_of : (s : Result (Bound × Bound) Stop) (a x y : Bound) (u v : Option (ℕ × ℕ)) (r : Result Bound Stop) → s ≡ in_turn a r → a ≡ x → u ≡ None → Measures r y v → MeasuresTwo s x y (first_some u v)
in_turn_of s a x y u v r q e n h = subst (λ (o : Result (Bound × Bound) Stop). MeasuresTwo o x y (first_some u v)) (sym q) (go r h)
  where
    go : (r : Result Bound Stop) → Measures r y v → MeasuresTwo (in_turn a r) x y (first_some u v)
    go (Ok b) h = (e, h.0, ap (λ o. first_some o v) n ∙ h.1)
    go (Err Memory) h = tt
    go (Err (Found w)) h = ap (λ o. first_some o v) n ∙ h

pub first_stops : (e : Stop) (x y : Bound) (z : Bound) (u v : Option (ℕ × ℕ)) → Measures (Err e) z u → MeasuresTwo (Err e) x y (first_some u v)
first_stops Memory x y z u v h = tt
first_stops (Found w) x y z u v h = ap (λ o. first_some o v) h

-- parts at a time, and one of them
pub together_of : (s : Result Bound Stop) (r : Result (Bound × Bound) Stop) (x y : Bound) (u : Option (ℕ × ℕ)) → s ≡ together r → MeasuresTwo r x y u → Measures s (both x y) u
together_of s r x y u q h = subst (λ (o : Result Bound Stop). Measures o (both x y) u) (sym q) (go r h)
  where
    go : (r : Result (Bound × Bound) Stop) → MeasuresTwo r x y u → Measures (together r) (both x y) u
    go (Ok b) h = (ap₂ both h.0 h.1, h.2)
    go (Err Memory) h = tt
    go (Err (Found w)) h = h

pub either_of : (s : Result Bound Stop) (r : Result (Bound × Bound) Stop) (x y : Bound) (u : Option (ℕ × ℕ)) → s ≡ either r → MeasuresTwo r x y u → Measures s (greater x y) u
either_of s r x y u q h = subst (λ (o : Result Bound Stop). Measures o (greater x y) u) (sym q) (go r h)
  where
    go : (r : Result (Bound × Bound) Stop) → MeasuresTwo r x y u → Measures (either r) (greater x y) u
    go (Ok b) h = (ap₂ greater h.0 h.1, h.2)
    go (Err Memory) h = tt
    go (Err (Found w)) h = h

-- what waits for a part that it precedes, and the part
pub beside_of : (s : Result Bound Stop) (a x y : Bound) (u v : Option (ℕ × ℕ)) (r : Result Bound Stop) → s ≡ beside a r → a ≡ x → u ≡ None → Measures r y v → Measures s (greater x y) (first_some u v)
beside_of s a x y u v r q e n h = subst (λ (o : Result Bound Stop). Measures o (greater x y) (first_some u v)) (sym q) (go r h)
  where
    go : (r : Result Bound Stop) → Measures r y v → Measures (beside a r) (greater x y) (first_some u v)
    go (Ok b) h = (ap₂ greater e h.0, ap (λ o. first_some o v) n ∙ h.1)
    go (Err Memory) h = tt
    go (Err (Found w)) h = ap (λ o. first_some o v) n ∙ h

pub wait_stops : (e : Stop) (x y : Bound) (u v : Option (ℕ × ℕ)) → Measures (Err e) x u → Measures (Err e) (greater x y) (first_some u v)
wait_stops Memory x y u v h = tt
wait_stops (Found w) x y u v h = ap (λ o. first_some o v) h

-- a case that finds nothing itself, and its branches
pub branches_of : (s q : Result Bound Stop) (a x y z : Bound) (u v w : Option (ℕ × ℕ)) (r : Result (Bound × Bound) Stop) → s ≡ beside a q → q ≡ either r → a ≡ x → u ≡ None → MeasuresTwo r y z (first_some v w)
    → Measures s (greater x (greater y z)) (first_some (first_some u v) w)
branches_of s q a x y z u v w r p o e n h = subst (λ (l : Result Bound Stop). Measures l (greater x (greater y z)) (first_some (first_some u v) w)) (sym (p ∙ ap (beside a) o)) (go r h)
  where
    go : (r : Result (Bound × Bound) Stop) → MeasuresTwo r y z (first_some v w) → Measures (beside a (either r)) (greater x (greater y z)) (first_some (first_some u v) w)
    go (Ok b) h = (ap₂ greater e (ap₂ greater h.0 h.1), ap (λ l. first_some (first_some l v) w) n ∙ h.2)
    go (Err Memory) h = tt
    go (Err (Found f)) h = ap (λ l. first_some (first_some l v) w) n ∙ h

pub case_stops : (e : Stop) (x y : Bound) (u v w : Option (ℕ × ℕ)) → Measures (Err e) x u → Measures (Err e) (greater x y) (first_some (first_some u v) w)
case_stops Memory x y u v w h = tt
case_stops (Found f) x y u v w h = ap (λ l. first_some (first_some l v) w) h

-- a call
pub number_of : (s r : Result Bound Stop) (x m n : Bound) (u : Option (ℕ × ℕ)) → s ≡ with_number r m → m ≡ n → Measures r x u → Measures s (both x n) u
number_of s r x m n u q e h = subst (λ (o : Result Bound Stop). Measures o (both x n) u) (sym q) (go r h)
  where
    go : (r : Result Bound Stop) → Measures r x u → Measures (with_number r m) (both x n) u
    go (Ok b) h = (ap₂ both h.0 e, h.1)
    go (Err Memory) h = tt
    go (Err (Found w)) h = h

-- a measure of what is the same
pub measures_at : (s : Result Bound Stop) (x y : Bound) (u v : Option (ℕ × ℕ)) → x ≡ y → u ≡ v → Measures s y v → Measures s x u
measures_at s x y u v e k h = subst (λ b. Measures s b u) (sym e) (subst (λ o. Measures s y o) (sym k) h)

-- arguments, of which one stops
pub argument_stops : (e : Stop) (x y : Bound) (u v whole : Option (ℕ × ℕ)) → Measures (Err e) x u → first_some u v ≡ whole → Measures (Err e) y whole
argument_stops Memory x y u v whole h k = tt
argument_stops (Found w) x y u v whole h k = sym k ∙ ap (λ o. first_some o v) h

-- a sum of names, with the place of their node
pub sum_of : (s : Result Bound Stop) (at : ℕ) (r : Result Bound Name) (x : Bound) (o : Option ℕ) → s ≡ at_place at r → Sums r x o → Measures s x (placed at o)
sum_of s at r x o q h = subst (λ (p : Result Bound Stop). Measures p x (placed at o)) (sym q) (go r h)
  where
    go : (r : Result Bound Name) → Sums r x o → Measures (at_place at r) x (placed at o)
    go (Ok b) h = (h.0, ap (placed at) h.1)
    go (Err y) h = ap (placed at) h

-- what a measure tells of a bound, and of a name
pub held_is : {E : Type 0} (m : Result Bound Stop) (x : Bound) (u : Option (ℕ × ℕ)) (r : Result Bound E) → IsLarge u x → Measures m x u → IfOk r (λ b. IsHeld m b) → IfOk r (λ b. b ≡ x)
held_is m x u (Err e) l h k = tt
held_is (Ok b) x u (Ok d) l h k = k ∙ h.0
held_is (Err Memory) x u (Ok d) l h k = absurd k
held_is (Err (Found w)) x u (Ok d) l h k = k ∙ sym (subst (λ o. IsLarge o x) h l)

pub found_is : {E : Type 0} (m : Result Bound Stop) (x : Bound) (u : Option (ℕ × ℕ)) (r : Result (Option Unsized) E) → Measures m x u → IfOk r (λ o. IsFound m o) → IfOk r (λ o. option_map told o ≡ u)
found_is m x u (Err e) h k = tt
found_is (Ok b) x u (Ok o) h k = ap (option_map told) k ∙ sym h.1
found_is (Err Memory) x u (Ok o) h k = absurd k
found_is (Err (Found w)) x u (Ok o) h k = ap (option_map told) k ∙ sym h
