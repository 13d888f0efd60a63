-- What a context that serves a bunch has for the bunches that the rules make of it.
use Rattle.std.proofs.Common.{◌≡◌, ◌≢◌, ◌∙◌, ℕ, Bool, true, false, true≢false, ◌&&◌, ◌||◌, ◌⊎◌, inl, inr, List, [], ◌∷◌, eqb, if◌then◌else◌, ap, ap₂, refl, sym, subst}
use Rattle.std.proofs.lemmas.Bool.{eqb-true, eq-eqb, ne_eqb, or_left, or_right}
use Rattle.std.specs.Prelude.{Option, Some, None, is_some}
use Rattle.stream_type.specs.StreamType.{StreamType}
use Rattle.bunch.specs.Names.{holds, put}
use Rattle.bunch.specs.Facts.{Facts, place_like, place_let, before_like, after_like, before_let, after_let}
use Rattle.bunch.specs.BunchTree.{BunchTree, empty, leaf, comma, semi, leaf_names, stands_before}
use Rattle.bunch.proofs.Bunches.{first_is_there, second_is_there}
use Rattle.bunch.proofs.Tests.{or_split}
use Rattle.bunch.proofs.NameLists.{one_name}
use Rattle.core_term.specs.Typing.{Context, is_before, with_name}
use Rattle.core_term.proofs.Sides.{holds-split, holds-all, put-same, put-other}
use Rattle.bunch_rules.specs.Rearranging.{Turn, Replaces, StepName, Becomes, stays_first}
use Rattle.bunch_rules.specs.Derivation.{Known, hidden, HasLeaf}
use Rattle.bunch_rules.specs.Laws.{Serves}
use Rattle.bunch_rules.proofs.Replacing.{true_not_false, part_names, part_facts, part_leaf, new_names, new_leaf, NewFact, was_there, inside, onto, from, new_fact, leaf_is_name}
use Rattle.bunch_rules.proofs.Steps.{names_kept, leaf_kept, facts_kept}

-- a name of a bunch is a stream variable
name_is_typed : (g : BunchTree) (types : ℕ → Option StreamType) → ((x : ℕ) (t : StreamType) → HasLeaf g x t → types x ≡ Some t) → (x : ℕ) → holds x (leaf_names g) ≡ true → is_some (types x) ≡ true
name_is_typed empty types f x m = absurd (true≢false (sym m))
name_is_typed (leaf z s) types f x m = go (eqb x z) refl m
  where
    go : (b : Bool) → eqb x z ≡ b → (b || false) ≡ true → is_some (types x) ≡ true
    go true e k = ap is_some (ap types (eqb-true x z e) ∙ f z s (refl, refl))
    go false e k = absurd (true≢false (sym k))
name_is_typed (comma a b) types f x m = go (name_is_typed a types (λ y t k. f y t (inl k)) x) (name_is_typed b types (λ y t k. f y t (inr k)) x) (holds-split x (leaf_names a) (leaf_names b) m)
  where
    go : (holds x (leaf_names a) ≡ true → is_some (types x) ≡ true) → (holds x (leaf_names b) ≡ true → is_some (types x) ≡ true) → (holds x (leaf_names a) ≡ true) ⊎ (holds x (leaf_names b) ≡ true) → is_some (types x) ≡ true
    go l r (inl n) = l n
    go l r (inr n) = r n
name_is_typed (semi a b) types f x m = go (name_is_typed a types (λ y t k. f y t (inl k)) x) (name_is_typed b types (λ y t k. f y t (inr k)) x) (holds-split x (leaf_names a) (leaf_names b) m)
  where
    go : (holds x (leaf_names a) ≡ true → is_some (types x) ≡ true) → (holds x (leaf_names b) ≡ true → is_some (types x) ≡ true) → (holds x (leaf_names a) ≡ true) ⊎ (holds x (leaf_names b) ≡ true) → is_some (types x) ≡ true
    go l r (inl n) = l n
    go l r (inr n) = r n

-- what stands before in the bunch does in the context
pub served_before : {known : Known} {g : BunchTree} {c : Context} → Serves known g c → (x y : ℕ) → stands_before g x y ≡ true → is_before c x y ≡ true
served_before {g = g} {c = c} v x y k =
    ap₂ (λ a b. a && b) (ap₂ (λ a b. a && b) (name_is_typed g c.types v.has_name x (first_is_there g x y k)) (name_is_typed g c.types v.has_name y (second_is_there g x y k))) (v.has_fact x y k)

-- a part of the bunch is served too
pub serves_part : {known : Known} {d e g h : BunchTree} {p : List Turn} {c : Context} → Replaces d e p g h → Serves known g c → Serves known d c
serves_part k v = record { knows = v.knows; has_name = λ x t m. v.has_name x t (part_leaf k x t m); has_fact = λ x y m. v.has_fact x y (part_facts k x y m) }

pub serves_comma_first : {known : Known} {a b : BunchTree} {c : Context} → Serves known (comma a b) c → Serves known a c
serves_comma_first {a = a} {b = b} v = record { knows = v.knows; has_name = λ x t m. v.has_name x t (inl m); has_fact = λ x y m. v.has_fact x y (or_left (stands_before a x y) (stands_before b x y) m) }

pub serves_comma_second : {known : Known} {a b : BunchTree} {c : Context} → Serves known (comma a b) c → Serves known b c
serves_comma_second {a = a} {b = b} v = record { knows = v.knows; has_name = λ x t m. v.has_name x t (inr m); has_fact = λ x y m. v.has_fact x y (or_right (stands_before a x y) (stands_before b x y) m) }

pub serves_loosened : {known : Known} {a b : BunchTree} {c : Context} → Serves known (semi a b) c → Serves known (comma a b) c
serves_loosened {a = a} {b = b} v = record { knows = v.knows; has_name = v.has_name; has_fact = λ x y m. v.has_fact x y (or_right (holds x (leaf_names a) && holds y (leaf_names b)) (stands_before a x y || stands_before b x y) m) }

-- facts of a part whose new form has no new fact
old_fact : (d e g : BunchTree) (first : Bool) (x y : ℕ) → ((u : ℕ) → holds u (leaf_names e) ≡ true → holds u (leaf_names d) ≡ true) → (stands_before e x y ≡ true → stands_before g x y ≡ true) → NewFact d e g first x y → stands_before g x y ≡ true
old_fact d e g first x y n f (was_there k) = k
old_fact d e g first x y n f (inside k) = f k
old_fact d e g first x y n f (onto i l m k) = k y (n y m)
old_fact d e g first x y n f (from l m k) = k x (n x l)

-- where the new part has no names, types or facts but those of the old one, so is the whole
serves_fewer : {known : Known} {d e g h : BunchTree} {p : List Turn} {c : Context} → Replaces d e p g h → ((u : ℕ) → holds u (leaf_names e) ≡ true → holds u (leaf_names d) ≡ true)
    → ((u : ℕ) (t : StreamType) → HasLeaf e u t → HasLeaf d u t) → ((u v : ℕ) → stands_before e u v ≡ true → stands_before d u v ≡ true) → Serves known g c → Serves known h c
serves_fewer {d = d} {e = e} {g = g} {h = h} {p = p} {c = c} k n l f v = record {
  knows = v.knows;
  has_name = λ x t m. leaf_of x t (new_leaf k x t m);
  has_fact = λ x y m. v.has_fact x y (old_fact d e g (stays_first p g) x y n (λ i. part_facts k x y (f x y i)) (new_fact k x y m));
}
  where
    leaf_of : (x : ℕ) (t : StreamType) → HasLeaf g x t ⊎ HasLeaf e x t → c.types x ≡ Some t
    leaf_of x t (inl m) = v.has_name x t m
    leaf_of x t (inr m) = v.has_name x t (part_leaf k x t (l x t m))

-- a rearranged bunch is served
pub serves_step : {known : Known} {w : StepName} {d e g h : BunchTree} {p : List Turn} {c : Context} → Becomes w d e → Replaces d e p g h → Serves known g c → Serves known h c
serves_step b k v = serves_fewer k (names_kept b) (leaf_kept b) (facts_kept b) v

pub step_names : {w : StepName} {d e g h : BunchTree} {p : List Turn} → Becomes w d e → Replaces d e p g h → (x : ℕ) → holds x (leaf_names h) ≡ true → holds x (leaf_names g) ≡ true
step_names {d = d} {e = e} {g = g} b k x m = go (new_names k x m)
  where
    go : (holds x (leaf_names g) ≡ true) ⊎ (holds x (leaf_names e) ≡ true) → holds x (leaf_names g) ≡ true
    go (inl n) = n
    go (inr n) = part_names k x (names_kept b x n)

-- a name other than x keeps its place when x is placed like z,
pub like_old : (x z : ℕ) (before : Facts) (u v : ℕ) → u ≢ x → v ≢ x → before u v ≡ true → place_like x z before u v ≡ true
like_old x z before u v nu nv k =
    ap (λ c. if c then (if eqb v x then false else after_like z before v) else (if eqb v x then before_like z before u else before u v)) (ne_eqb u x nu)
    ∙ (ap (λ c. if c then before_like z before u else before u v) (ne_eqb v x nv) ∙ k)

-- and what stands before z stands before x
pub like_to : (x z : ℕ) (before : Facts) (u : ℕ) → u ≢ x → u ≢ z → before u z ≡ true → place_like x z before u x ≡ true
like_to x z before u nu nz k =
    ap (λ c. if c then (if eqb x x then false else after_like z before x) else (if eqb x x then before_like z before u else before u x)) (ne_eqb u x nu)
    ∙ (ap (λ c. if c then before_like z before u else before u x) (eq-eqb x x refl) ∙ (ap (λ c. if c then false else before u z) (ne_eqb u z nz) ∙ k))

-- and after z after x
pub like_from : (x z : ℕ) (before : Facts) (v : ℕ) → v ≢ x → v ≢ z → before z v ≡ true → place_like x z before x v ≡ true
like_from x z before v nv nz k =
    ap (λ c. if c then (if eqb v x then false else after_like z before v) else (if eqb v x then before_like z before x else before x v)) (eq-eqb x x refl)
    ∙ (ap (λ c. if c then false else after_like z before v) (ne_eqb v x nv) ∙ (ap (λ c. if c then false else before z v) (ne_eqb v z nz) ∙ k))

-- the same of a name that is placed by what it is bound to
let_old : (x : ℕ) (free : List ℕ) (inert : Bool) (before : Facts) (u v : ℕ) → u ≢ x → v ≢ x → before u v ≡ true → place_let x free inert before u v ≡ true
let_old x free inert before u v nu nv k =
    ap (λ c. if c then (if eqb v x then false else after_let free before v) else (if eqb v x then before_let free inert before u else before u v)) (ne_eqb u x nu)
    ∙ (ap (λ c. if c then before_let free inert before u else before u v) (ne_eqb v x nv) ∙ k)

let_to : (x : ℕ) (free : List ℕ) (inert : Bool) (before : Facts) (u : ℕ) → u ≢ x → inert ≡ true → ((w : ℕ) → holds w free ≡ true → before u w ≡ true) → place_let x free inert before u x ≡ true
let_to x free inert before u nu i f =
    ap (λ c. if c then (if eqb x x then false else after_let free before x) else (if eqb x x then before_let free inert before u else before u x)) (ne_eqb u x nu)
    ∙ (ap (λ c. if c then before_let free inert before u else before u x) (eq-eqb x x refl) ∙ ap₂ (λ a b. a && b) i (holds-all (λ w. before u w) free f))

let_from : (x : ℕ) (free : List ℕ) (inert : Bool) (before : Facts) (v : ℕ) → v ≢ x → ((w : ℕ) → holds w free ≡ true → before w v ≡ true) → place_let x free inert before x v ≡ true
let_from x free inert before v nv f =
    ap (λ c. if c then (if eqb v x then false else after_let free before v) else (if eqb v x then before_let free inert before x else before x v)) (eq-eqb x x refl)
    ∙ (ap (λ c. if c then false else after_let free before v) (ne_eqb v x nv) ∙ holds-all (λ w. before w v) free f)

-- names of the bunch are other than new ones
pub other : (g : BunchTree) (x u : ℕ) → holds x (leaf_names g) ≡ false → holds u (leaf_names g) ≡ true → u ≢ x
other g x u f m e = true_not_false (holds x (leaf_names g)) (subst (λ w. holds w (leaf_names g) ≡ true) e m) f

-- a let's name beside a part of the bunch
module _ (d g h : BunchTree) (p : List Turn) (x : ℕ) (s : StreamType) (free : List ℕ) (inert : Bool) (c : Context) where
  let_fact : holds x (leaf_names g) ≡ false → ((u v : ℕ) → stands_before g u v ≡ true → c.order u v ≡ true) → (inert ≡ true) ⊎ (stays_first p g ≡ true) → ((w : ℕ) → holds w free ≡ true → holds w (leaf_names d) ≡ true)
      → ((u v : ℕ) → stands_before d u v ≡ true → stands_before g u v ≡ true)
      → (u v : ℕ) → NewFact d (comma d (leaf x s)) g (stays_first p g) u v → place_let x free inert c.order u v ≡ true
  let_fact new f i within part u v (was_there k) = let_old x free inert c.order u v (other g x u new (first_is_there g u v k)) (other g x v new (second_is_there g u v k)) (f u v k)
  let_fact new f i within part u v (inside k) = go (or_split (stands_before d u v) false k)
    where
      go : (stands_before d u v ≡ true) ⊎ (false ≡ true) → place_let x free inert c.order u v ≡ true
      go (inl m) = let n = part u v m in let_old x free inert c.order u v (other g x u new (first_is_there g u v n)) (other g x v new (second_is_there g u v n)) (f u v n)
      go (inr m) = absurd (true≢false (sym m))
  let_fact new f i within part u v (onto nf mu mv all) = go (holds-split v (leaf_names d) (x ∷ []) mv)
    where
      is_inert' : (inert ≡ true) ⊎ (stays_first p g ≡ true) → inert ≡ true
      is_inert' (inl m) = m
      is_inert' (inr m) = absurd (true_not_false (stays_first p g) m nf)

      go : (holds v (leaf_names d) ≡ true) ⊎ (holds v (x ∷ []) ≡ true) → place_let x free inert c.order u v ≡ true
      go (inl m) = let n = all v m in let_old x free inert c.order u v (other g x u new mu) (other g x v new (second_is_there g u v n)) (f u v n)
      go (inr m) = subst (λ w. place_let x free inert c.order u w ≡ true) (sym (one_name v x m)) (let_to x free inert c.order u (other g x u new mu) (is_inert' i) (λ w k. f u w (all w (within w k))))
  let_fact new f i within part u v (from mu mv all) = go (holds-split u (leaf_names d) (x ∷ []) mu)
    where
      go : (holds u (leaf_names d) ≡ true) ⊎ (holds u (x ∷ []) ≡ true) → place_let x free inert c.order u v ≡ true
      go (inl m) = let n = all u m in let_old x free inert c.order u v (other g x u new (first_is_there g u v n)) (other g x v new mv) (f u v n)
      go (inr m) = subst (λ w. place_let x free inert c.order w v ≡ true) (sym (one_name u x m)) (let_from x free inert c.order v (other g x v new mv) (λ w k. f w v (all w (within w k))))

  -- is served by the context with the name placed by what it is bound to
  pub serves_let : {known : Known} → Replaces d (comma d (leaf x s)) p g h → (inert ≡ true) ⊎ (stays_first p g ≡ true) → ((w : ℕ) → holds w free ≡ true → holds w (leaf_names d) ≡ true) → holds x (leaf_names g) ≡ false
      → Serves known g c → Serves (hidden x known) h (with_name x s (place_let x free inert c.order) c)
  serves_let k i within new v = record {
    knows = ap (λ l. put x None l) v.knows;
    has_name = λ u t m. leaf_of u t (new_leaf k u t m);
    has_fact = λ u w m. let_fact new v.has_fact i within (part_facts k) u w (new_fact k u w m);
  }
    where
      old_leaf : (u : ℕ) (t : StreamType) → HasLeaf g u t → put x (Some s) c.types u ≡ Some t
      old_leaf u t m = put-other x u (Some s) c.types (λ e. other g x u new (leaf_is_name g u t m) (sym e)) ∙ v.has_name u t m

      leaf_of : (u : ℕ) (t : StreamType) → HasLeaf g u t ⊎ (HasLeaf d u t ⊎ ((x ≡ u) × (s ≡ t))) → put x (Some s) c.types u ≡ Some t
      leaf_of u t (inl m) = old_leaf u t m
      leaf_of u t (inr (inl m)) = old_leaf u t (part_leaf k u t m)
      leaf_of u t (inr (inr m)) = subst (λ w. put x (Some s) c.types w ≡ Some t) m.0 (put-same x (Some s) c.types ∙ ap (λ l. Some l) m.1)
