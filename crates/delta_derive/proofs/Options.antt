-- What is there, and what follows where something is there.
use Rattle.std.proofs.Common.{◌≡◌, Bool, true, false, true≢false, ap, refl, sym}
use Rattle.std.specs.Prelude.{Option, Some, None, option_map, unwrap_or, is_some, not}
use Rattle.core_term.specs.TypeFaults.{found_where}
use Rattle.delta_derive.specs.Rearranged.{then_by}

pub some_same : {A : Type 0} {a b : A} → Some a ≡ Some b → a ≡ b
some_same {a = a} h = ap (λ o. unwrap_or o a) h

pub none_some : {A B : Type 0} {a : A} → None ≡ Some a → B
none_some h = absurd (true≢false (sym (ap is_some h)))

pub mapped : {A B : Type 0} (f : A → B) (o : Option A) (b : B) → option_map f o ≡ Some b → (a : A) × (o ≡ Some a) × (f a ≡ b)
mapped f None b h = none_some h
mapped f (Some a) b h = (a, refl, some_same h)

pub bound : {A B : Type 0} (o : Option A) (f : A → Option B) (b : B) → then_by o f ≡ Some b → (a : A) × (o ≡ Some a) × (f a ≡ Some b)
bound None f b h = none_some h
bound (Some a) f b h = (a, refl, h)

pub found : {A : Type 0} (c : Bool) (a b : A) → found_where c a ≡ Some b → (c ≡ true) × (a ≡ b)
found true a b h = (refl, some_same h)
found false a b h = none_some h

pub not_some : {A : Type 0} (o : Option A) → not (is_some o) ≡ true → o ≡ None
not_some None h = refl
not_some (Some a) h = absurd (true≢false (sym h))
