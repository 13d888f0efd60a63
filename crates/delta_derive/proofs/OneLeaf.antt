-- The leaf of a name is what stands at the end of some path, and in a distinct bunch no other leaf has the name.
use Rattle.std.proofs.Common.{◌≡◌, ◌∙◌, ℕ, Bool, true, false, true≢false, ◌||◌, ◌⊎◌, inl, inr, List, [], ◌∷◌, eqb, if◌then◌else◌, ap, ap₂, refl, sym, subst}
use Rattle.std.proofs.lemmas.Bool.{eqb-true, eq-eqb, or_left, or_right, and_parts, and_from}
use Rattle.std.specs.Prelude.{Option, Some, None, is_some}
use Rattle.stream_type.specs.StreamType.{StreamType}
use Rattle.bunch.specs.Names.{holds}
use Rattle.bunch.specs.BunchTree.{BunchTree, empty, leaf, comma, semi, leaf_names, IsDistinct}
use Rattle.core_term.specs.Parts.{is_same_type}
use Rattle.core_term.specs.TypeFaults.{first_some}
use Rattle.core_term.proofs.Causes.{is_same_type-true, is_same_type-same}
use Rattle.core_term.proofs.Sides.{holds-head}
use Rattle.bunch_rules.specs.Rearranging.{Turn, to_left, to_right, Replaces, right_here, left_of_comma, right_of_comma, left_of_semi, right_of_semi}
use Rattle.bunch_rules.specs.Derivation.{HasLeaf}
use Rattle.bunch_rules.proofs.Replacing.{part_names, not_left, not_right}
use Rattle.delta_derive.specs.Rearranged.{has_leaf, leaf_type, with_leaf}
use Rattle.delta_derive.proofs.Options.{some_same, none_some}

or_there : {A B : Type 0} (a b : Bool) → (a ≡ true → A) → (b ≡ true → B) → (a || b) ≡ true → A ⊎ B
or_there true b f g h = inl (f refl)
or_there false b f g h = inr (g h)

pub leaf_there : (g : BunchTree) (x : ℕ) (t : StreamType) → has_leaf g x t ≡ true → HasLeaf g x t
leaf_there empty x t h = absurd (true≢false (sym h))
leaf_there (leaf z s) x t h = let b = and_parts (eqb z x) (is_same_type s t) h in (eqb-true z x b.0, is_same_type-true s t b.1)
leaf_there (comma a b) x t h = or_there (has_leaf a x t) (has_leaf b x t) (leaf_there a x t) (leaf_there b x t) h
leaf_there (semi a b) x t h = or_there (has_leaf a x t) (has_leaf b x t) (leaf_there a x t) (leaf_there b x t) h

pub leaf_found : (g : BunchTree) (x : ℕ) (t : StreamType) → HasLeaf g x t → has_leaf g x t ≡ true
leaf_found empty x t h = absurd h
leaf_found (leaf z s) x t h = and_from (eqb z x) (is_same_type s t) (eq-eqb z x h.0) (ap (λ u. is_same_type s u) (sym h.1) ∙ is_same_type-same s)
leaf_found (comma a b) x t (inl h) = or_left (has_leaf a x t) (has_leaf b x t) (leaf_found a x t h)
leaf_found (comma a b) x t (inr h) = or_right (has_leaf a x t) (has_leaf b x t) (leaf_found b x t h)
leaf_found (semi a b) x t (inl h) = or_left (has_leaf a x t) (has_leaf b x t) (leaf_found a x t h)
leaf_found (semi a b) x t (inr h) = or_right (has_leaf a x t) (has_leaf b x t) (leaf_found b x t h)

-- the leaf of a name is replaced at the end of some path
abbrev IsReplaced : ℕ → BunchTree → BunchTree → StreamType → BunchTree → Type 0
IsReplaced z e g t h = (p : List Turn) × Replaces (leaf z t) e p g h

in_comma : (z : ℕ) (e a b : BunchTree) (t : StreamType) → (leaf_type z a ≡ Some t → IsReplaced z e a t (with_leaf z e a)) → (leaf_type z b ≡ Some t → IsReplaced z e b t (with_leaf z e b)) → (o : Option StreamType) → leaf_type z a ≡ o
    → first_some o (leaf_type z b) ≡ Some t → IsReplaced z e (comma a b) t (if is_some o then comma (with_leaf z e a) b else comma a (with_leaf z e b))
in_comma z e a b t f g None k q = let r = g q in (to_right ∷ r.0, right_of_comma r.1)
in_comma z e a b t f g (Some s) k q = let r = f (k ∙ q) in (to_left ∷ r.0, left_of_comma r.1)

in_semi : (z : ℕ) (e a b : BunchTree) (t : StreamType) → (leaf_type z a ≡ Some t → IsReplaced z e a t (with_leaf z e a)) → (leaf_type z b ≡ Some t → IsReplaced z e b t (with_leaf z e b)) → (o : Option StreamType) → leaf_type z a ≡ o
    → first_some o (leaf_type z b) ≡ Some t → IsReplaced z e (semi a b) t (if is_some o then semi (with_leaf z e a) b else semi a (with_leaf z e b))
in_semi z e a b t f g None k q = let r = g q in (to_right ∷ r.0, right_of_semi r.1)
in_semi z e a b t f g (Some s) k q = let r = f (k ∙ q) in (to_left ∷ r.0, left_of_semi r.1)

at_leaf : (z x : ℕ) (e : BunchTree) (s t : StreamType) (b : Bool) → eqb z x ≡ b → (if b then Some s else None) ≡ Some t → IsReplaced z e (leaf x s) t (if b then e else leaf x s)
at_leaf z x e s t true k q = ([], subst (λ y. Replaces (leaf z t) e [] (leaf y s) e) (eqb-true z x k) (subst (λ u. Replaces (leaf z u) e [] (leaf z s) e) (some_same q) right_here))
at_leaf z x e s t false k q = none_some q

pub leaf_replaced : (z : ℕ) (e g : BunchTree) (t : StreamType) → leaf_type z g ≡ Some t → (p : List Turn) × Replaces (leaf z t) e p g (with_leaf z e g)
leaf_replaced z e empty t h = none_some h
leaf_replaced z e (leaf x s) t h = at_leaf z x e s t (eqb z x) refl h
leaf_replaced z e (comma a b) t h = in_comma z e a b t (leaf_replaced z e a t) (leaf_replaced z e b t) (leaf_type z a) refl h
leaf_replaced z e (semi a b) t h = in_semi z e a b t (leaf_replaced z e a t) (leaf_replaced z e b t) (leaf_type z a) refl h

-- what isn't a name of the bunch has no leaf
no_leaf : (z : ℕ) (g : BunchTree) → holds z (leaf_names g) ≡ false → leaf_type z g ≡ None
no_leaf z empty h = refl
no_leaf z (leaf x t) h = go (eqb z x) h
  where
    go : (b : Bool) → (b || false) ≡ false → (if b then Some t else None) ≡ None
    go true k = absurd (true≢false k)
    go false k = refl
no_leaf z (comma a b) h = ap₂ first_some (no_leaf z a (not_left z (leaf_names a) (leaf_names b) h)) (no_leaf z b (not_right z (leaf_names a) (leaf_names b) h))
no_leaf z (semi a b) h = ap₂ first_some (no_leaf z a (not_left z (leaf_names a) (leaf_names b) h)) (no_leaf z b (not_right z (leaf_names a) (leaf_names b) h))

-- a leaf that stands in a distinct bunch is that of its name
pub only_leaf : {z : ℕ} {t : StreamType} {e g h : BunchTree} {p : List Turn} → Replaces (leaf z t) e p g h → IsDistinct g → leaf_type z g ≡ Some t
only_leaf {z = z} {t = t} right_here d = ap (λ b. if b then Some t else None) (eq-eqb z z refl)
only_leaf {z = z} (left_of_comma {a = a} {b = b} k) d = ap (λ o. first_some o (leaf_type z b)) (only_leaf k d.0)
only_leaf {z = z} (right_of_comma {a = a} {b = b} k) d = ap (λ o. first_some o (leaf_type z b)) (no_leaf z a (d.2 z (part_names k z (holds-head z [])))) ∙ only_leaf k d.1
only_leaf {z = z} (left_of_semi {a = a} {b = b} k) d = ap (λ o. first_some o (leaf_type z b)) (only_leaf k d.0)
only_leaf {z = z} (right_of_semi {a = a} {b = b} k) d = ap (λ o. first_some o (leaf_type z b)) (no_leaf z a (d.2 z (part_names k z (holds-head z [])))) ∙ only_leaf k d.1

pub only_replaced : {z : ℕ} {t : StreamType} {e g h : BunchTree} {p : List Turn} → Replaces (leaf z t) e p g h → IsDistinct g → h ≡ with_leaf z e g
only_replaced {z = z} {t = t} {e = e} right_here d = sym (ap (λ b. if b then e else leaf z t) (eq-eqb z z refl))
only_replaced {z = z} {e = e} (left_of_comma {a = a} {b = b} k) d =
    ap (λ c. comma c b) (only_replaced k d.0) ∙ sym (ap (λ o. if is_some o then comma (with_leaf z e a) b else comma a (with_leaf z e b)) (only_leaf k d.0))
only_replaced {z = z} {e = e} (right_of_comma {a = a} {b = b} k) d =
    ap (λ c. comma a c) (only_replaced k d.1) ∙ sym (ap (λ o. if is_some o then comma (with_leaf z e a) b else comma a (with_leaf z e b)) (no_leaf z a (d.2 z (part_names k z (holds-head z [])))))
only_replaced {z = z} {e = e} (left_of_semi {a = a} {b = b} k) d =
    ap (λ c. semi c b) (only_replaced k d.0) ∙ sym (ap (λ o. if is_some o then semi (with_leaf z e a) b else semi a (with_leaf z e b)) (only_leaf k d.0))
only_replaced {z = z} {e = e} (right_of_semi {a = a} {b = b} k) d =
    ap (λ c. semi a c) (only_replaced k d.1) ∙ sym (ap (λ o. if is_some o then semi (with_leaf z e a) b else semi a (with_leaf z e b)) (no_leaf z a (d.2 z (part_names k z (holds-head z [])))))
