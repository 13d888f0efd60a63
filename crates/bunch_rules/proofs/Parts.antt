-- Names that stand beside the name that they are parts of, and a name that was waited for.
use Rattle.std.proofs.Common.{◌≡◌, ◌≢◌, ◌∙◌, ℕ, Bool, true, false, true≢false, ◌||◌, ◌⊎◌, inl, inr, List, [], ◌∷◌, eqb, ap, ap₂, refl, sym, subst}
use Rattle.std.proofs.lemmas.Bool.{eqb-true, ne_eqb, false_from_ne_true}
use Rattle.std.specs.Prelude.{Some, None, unwrap_or}
use Rattle.stream_type.specs.StreamType.{StreamType, eps}
use Rattle.bunch.specs.Names.{holds, put}
use Rattle.bunch.specs.Facts.{Facts, place_like}
use Rattle.bunch.specs.BunchTree.{BunchTree, empty, leaf, comma, leaf_names, stands_before, AreApart, IsDistinct}
use Rattle.bunch.proofs.Bunches.{first_is_there, second_is_there, stands_before-same}
use Rattle.bunch.proofs.NameLists.{one_name}
use Rattle.hist_value.specs.HistType.{past}
use Rattle.core_term.specs.Typing.{Context, with_name_like, waited}
use Rattle.core_term.proofs.Sides.{holds-head, put-same, put-other}
use Rattle.bunch_rules.specs.Rearranging.{Turn, Replaces, right_here, left_of_comma, right_of_comma, left_of_semi, right_of_semi, stays_first}
use Rattle.bunch_rules.specs.Derivation.{Known, hidden, learned, HasLeaf}
use Rattle.bunch_rules.specs.Laws.{Serves}
use Rattle.bunch_rules.proofs.Replacing.{true_not_false, part_names, part_leaf, new_leaf, NewFact, was_there, inside, onto, from, new_fact, leaf_is_name, IsNew, still_distinct}
use Rattle.bunch_rules.proofs.Serving.{like_old, like_to, like_from, other}
use Rattle.bunch_rules.proofs.Steps.{neither}

pub two_names : (u z x : ℕ) → holds u (z ∷ (x ∷ [])) ≡ true → (u ≡ z) ⊎ (u ≡ x)
two_names u z x m = go (eqb u z) refl m
  where
    go : (b : Bool) → eqb u z ≡ b → (b || holds u (x ∷ [])) ≡ true → (u ≡ z) ⊎ (u ≡ x)
    go true e k = inl (eqb-true u z e)
    go false e k = inr (one_name u x k)

pub three_names : (u z x y : ℕ) → holds u (z ∷ (x ∷ (y ∷ []))) ≡ true → (u ≡ z) ⊎ ((u ≡ x) ⊎ (u ≡ y))
three_names u z x y m = go (eqb u z) refl m
  where
    go : (b : Bool) → eqb u z ≡ b → (b || holds u (x ∷ (y ∷ []))) ≡ true → (u ≡ z) ⊎ ((u ≡ x) ⊎ (u ≡ y))
    go true e k = inl (eqb-true u z e)
    go false e k = inr (two_names u x y k)

pub not_itself : (g : BunchTree) → IsDistinct g → (u z : ℕ) → stands_before g u z ≡ true → u ≢ z
not_itself g d u z n e = true_not_false (stands_before g z z) (subst (λ w. stands_before g w z ≡ true) e n) (stands_before-same g d z)

pub flip : (x y : ℕ) → x ≢ y → y ≢ x
flip x y n e = n (sym e)

-- one name placed like z
module _ (g : BunchTree) (distinct : IsDistinct g) (before : Facts) (served : (u v : ℕ) → stands_before g u v ≡ true → before u v ≡ true) (x z : ℕ) (nx : holds x (leaf_names g) ≡ false) (mz : holds z (leaf_names g) ≡ true) where
  single_old : (u v : ℕ) → stands_before g u v ≡ true → place_like x z before u v ≡ true
  single_old u v k = like_old x z before u v (other g x u nx (first_is_there g u v k)) (other g x v nx (second_is_there g u v k)) (served u v k)

  single_onto : (u v : ℕ) → stands_before g u z ≡ true → (v ≡ z) ⊎ (v ≡ x) → place_like x z before u v ≡ true
  single_onto u v k (inl e) = subst (λ w. place_like x z before u w ≡ true) (sym e) (single_old u z k)
  single_onto u v k (inr e) = subst (λ w. place_like x z before u w ≡ true) (sym e) (like_to x z before u (other g x u nx (first_is_there g u z k)) (not_itself g distinct u z k) (served u z k))

  single_from : (u v : ℕ) → stands_before g z v ≡ true → (u ≡ z) ⊎ (u ≡ x) → place_like x z before u v ≡ true
  single_from u v k (inl e) = subst (λ w. place_like x z before w v ≡ true) (sym e) (single_old z v k)
  single_from u v k (inr e) =
      subst (λ w. place_like x z before w v ≡ true) (sym e) (like_from x z before v (other g x v nx (second_is_there g z v k)) (flip z v (not_itself g distinct z v k)) (served z v k))

  -- and a second one, other than the first
  module _ (y : ℕ) (ny : holds y (leaf_names g) ≡ false) (xy : x ≢ y) where
    abbrev both_placed : Facts
    both_placed = place_like y z (place_like x z before)

    pair_old : (u v : ℕ) → stands_before g u v ≡ true → both_placed u v ≡ true
    pair_old u v k = like_old y z (place_like x z before) u v (other g y u ny (first_is_there g u v k)) (other g y v ny (second_is_there g u v k)) (single_old u v k)

    pair_onto : (u v : ℕ) → stands_before g u z ≡ true → (v ≡ z) ⊎ ((v ≡ x) ⊎ (v ≡ y)) → both_placed u v ≡ true
    pair_onto u v k (inl e) = subst (λ w. both_placed u w ≡ true) (sym e) (pair_old u z k)
    pair_onto u v k (inr (inl e)) = subst (λ w. both_placed u w ≡ true) (sym e) (like_old y z (place_like x z before) u x (other g y u ny (first_is_there g u z k)) xy (single_onto u x k (inr refl)))
    pair_onto u v k (inr (inr e)) = subst (λ w. both_placed u w ≡ true) (sym e) (like_to y z (place_like x z before) u (other g y u ny (first_is_there g u z k)) (not_itself g distinct u z k) (single_old u z k))

    pair_from : (u v : ℕ) → stands_before g z v ≡ true → (u ≡ z) ⊎ ((u ≡ x) ⊎ (u ≡ y)) → both_placed u v ≡ true
    pair_from u v k (inl e) = subst (λ w. both_placed w v ≡ true) (sym e) (pair_old z v k)
    pair_from u v k (inr (inl e)) = subst (λ w. both_placed w v ≡ true) (sym e) (like_old y z (place_like x z before) x v xy (other g y v ny (second_is_there g z v k)) (single_from x v k (inr refl)))
    pair_from u v k (inr (inr e)) =
        subst (λ w. both_placed w v ≡ true) (sym e) (like_from y z (place_like x z before) v (other g y v ny (second_is_there g z v k)) (flip z v (not_itself g distinct z v k)) (single_old z v k))

-- a name beside z
module _ (g h : BunchTree) (p : List Turn) (x z : ℕ) (s t : StreamType) (c : Context) (distinct : IsDistinct g) (nx : holds x (leaf_names g) ≡ false) (k : Replaces (leaf z t) (comma (leaf z t) (leaf x s)) p g h) where
  z_there : holds z (leaf_names g) ≡ true
  z_there = part_names k z (holds-head z [])

  pub serves_beside : {known : Known} → Serves known g c → Serves (hidden x known) h (with_name_like x s z c)
  serves_beside v = record {
    knows = ap (λ l. put x None l) v.knows;
    has_name = λ u r m. leaf_of u r (new_leaf k u r m);
    has_fact = λ u w m. fact_of u w (new_fact k u w m);
  }
    where
      old_leaf : (u : ℕ) (r : StreamType) → HasLeaf g u r → put x (Some s) c.types u ≡ Some r
      old_leaf u r m = put-other x u (Some s) c.types (λ e. other g x u nx (leaf_is_name g u r m) (sym e)) ∙ v.has_name u r m

      leaf_of : (u : ℕ) (r : StreamType) → HasLeaf g u r ⊎ (((z ≡ u) × (t ≡ r)) ⊎ ((x ≡ u) × (s ≡ r))) → put x (Some s) c.types u ≡ Some r
      leaf_of u r (inl m) = old_leaf u r m
      leaf_of u r (inr (inl m)) = old_leaf u r (part_leaf k u r m)
      leaf_of u r (inr (inr m)) = subst (λ w. put x (Some s) c.types w ≡ Some r) m.0 (put-same x (Some s) c.types ∙ ap (λ l. Some l) m.1)

      fact_of : (u w : ℕ) → NewFact (leaf z t) (comma (leaf z t) (leaf x s)) g (stays_first p g) u w → place_like x z c.order u w ≡ true
      fact_of u w (was_there m) = single_old g distinct c.order v.has_fact x z nx z_there u w m
      fact_of u w (inside m) = absurd (true≢false (sym m))
      fact_of u w (onto i l m f) = single_onto g distinct c.order v.has_fact x z nx z_there u w (f z (holds-head z [])) (two_names w z x m)
      fact_of u w (from l m f) = single_from g distinct c.order v.has_fact x z nx z_there u w (f z (holds-head z [])) (two_names u z x l)

  beside_new : IsNew (leaf z t) (comma (leaf z t) (leaf x s)) g
  beside_new u m = go (two_names u z x m)
    where
      go : (u ≡ z) ⊎ (u ≡ x) → (holds u (z ∷ []) ≡ true) ⊎ (holds u (leaf_names g) ≡ false)
      go (inl e) = inl (subst (λ w. holds w (z ∷ []) ≡ true) (sym e) (holds-head z []))
      go (inr e) = inr (subst (λ w. holds w (leaf_names g) ≡ false) (sym e) nx)

  pub beside_distinct : IsDistinct h
  beside_distinct = still_distinct k distinct (tt, tt, λ u m. apart u (one_name u x m)) beside_new
    where
      apart : (u : ℕ) → u ≡ x → holds u (z ∷ []) ≡ false
      apart u e = ap (λ b. b || false) (ne_eqb u z (λ i. other g x z nx z_there (sym i ∙ e)))

-- two names beside z, in a part of these two names alone
module _ (g h w : BunchTree) (p : List Turn) (x y z : ℕ) (s t r : StreamType) (c : Context) (distinct : IsDistinct g) (nx : holds x (leaf_names g) ≡ false) (ny : holds y (leaf_names g) ≡ false) (xy : x ≢ y)
    (names : leaf_names w ≡ x ∷ (y ∷ [])) (leaves : (u : ℕ) (q : StreamType) → HasLeaf w u q → ((x ≡ u) × (s ≡ q)) ⊎ ((y ≡ u) × (t ≡ q))) (k : Replaces (leaf z r) (comma (leaf z r) w) p g h) where
  z_is_there : holds z (leaf_names g) ≡ true
  z_is_there = part_names k z (holds-head z [])

  all_names : (u : ℕ) → holds u (z ∷ leaf_names w) ≡ true → (u ≡ z) ⊎ ((u ≡ x) ⊎ (u ≡ y))
  all_names u m = three_names u z x y (subst (λ l. holds u (z ∷ l) ≡ true) names m)

  pub serves_pair : {known : Known} (order : Facts) → ((u v : ℕ) → place_like y z (place_like x z c.order) u v ≡ true → order u v ≡ true) → ((u v : ℕ) → stands_before w u v ≡ true → order u v ≡ true)
      → Serves known g c → Serves (hidden y (hidden x known)) h (record { types = put y (Some t) (put x (Some s) c.types); order = order; past = put y None (put x None c.past) })
  serves_pair order more own v = record {
    knows = ap (λ l. put y None (put x None l)) v.knows;
    has_name = λ u q m. leaf_of u q (new_leaf k u q m);
    has_fact = λ u q m. fact_of u q (new_fact k u q m);
  }
    where
      old_leaf : (u : ℕ) (q : StreamType) → HasLeaf g u q → put y (Some t) (put x (Some s) c.types) u ≡ Some q
      old_leaf u q m =
          put-other y u (Some t) (put x (Some s) c.types) (λ e. other g y u ny (leaf_is_name g u q m) (sym e)) ∙ (put-other x u (Some s) c.types (λ e. other g x u nx (leaf_is_name g u q m) (sym e)) ∙ v.has_name u q m)

      part_of : (u : ℕ) (q : StreamType) → ((x ≡ u) × (s ≡ q)) ⊎ ((y ≡ u) × (t ≡ q)) → put y (Some t) (put x (Some s) c.types) u ≡ Some q
      part_of u q (inl m) =
          subst (λ i. put y (Some t) (put x (Some s) c.types) i ≡ Some q) m.0 (put-other y x (Some t) (put x (Some s) c.types) (flip x y xy) ∙ (put-same x (Some s) c.types ∙ ap (λ l. Some l) m.1))
      part_of u q (inr m) = subst (λ i. put y (Some t) (put x (Some s) c.types) i ≡ Some q) m.0 (put-same y (Some t) (put x (Some s) c.types) ∙ ap (λ l. Some l) m.1)

      leaf_of : (u : ℕ) (q : StreamType) → HasLeaf g u q ⊎ (((z ≡ u) × (r ≡ q)) ⊎ HasLeaf w u q) → put y (Some t) (put x (Some s) c.types) u ≡ Some q
      leaf_of u q (inl m) = old_leaf u q m
      leaf_of u q (inr (inl m)) = old_leaf u q (part_leaf k u q m)
      leaf_of u q (inr (inr m)) = part_of u q (leaves u q m)

      fact_of : (u q : ℕ) → NewFact (leaf z r) (comma (leaf z r) w) g (stays_first p g) u q → order u q ≡ true
      fact_of u q (was_there m) = more u q (pair_old g distinct c.order v.has_fact x z nx z_is_there y ny xy u q m)
      fact_of u q (inside m) = own u q m
      fact_of u q (onto i l m f) = more u q (pair_onto g distinct c.order v.has_fact x z nx z_is_there y ny xy u q (f z (holds-head z [])) (all_names q m))
      fact_of u q (from l m f) = more u q (pair_from g distinct c.order v.has_fact x z nx z_is_there y ny xy u q (f z (holds-head z [])) (all_names u l))

  pair_new : IsNew (leaf z r) (comma (leaf z r) w) g
  pair_new u m = go (all_names u m)
    where
      go : (u ≡ z) ⊎ ((u ≡ x) ⊎ (u ≡ y)) → (holds u (z ∷ []) ≡ true) ⊎ (holds u (leaf_names g) ≡ false)
      go (inl e) = inl (subst (λ i. holds i (z ∷ []) ≡ true) (sym e) (holds-head z []))
      go (inr (inl e)) = inr (subst (λ i. holds i (leaf_names g) ≡ false) (sym e) nx)
      go (inr (inr e)) = inr (subst (λ i. holds i (leaf_names g) ≡ false) (sym e) ny)

  pub pair_distinct : IsDistinct w → IsDistinct h
  pair_distinct d = still_distinct k distinct (tt, d, λ u m. apart u (two_names u x y (subst (λ l. holds u l ≡ true) names m))) pair_new
    where
      apart : (u : ℕ) → (u ≡ x) ⊎ (u ≡ y) → holds u (z ∷ []) ≡ false
      apart u (inl e) = ap (λ b. b || false) (ne_eqb u z (λ i. other g x z nx z_is_there (sym i ∙ e)))
      apart u (inr e) = ap (λ b. b || false) (ne_eqb u z (λ i. other g y z ny z_is_there (sym i ∙ e)))

-- different names are apart
pub single_apart : (x y : ℕ) → x ≢ y → AreApart (x ∷ []) (y ∷ [])
single_apart x y n u m = ap (λ b. b || false) (ne_eqb u x (λ e. n (sym e ∙ one_name u y m)))

-- a leaf that is replaced by nothing is gone
pub gone : {x : ℕ} {s : StreamType} {g h : BunchTree} {p : List Turn} → Replaces (leaf x s) empty p g h → IsDistinct g → holds x (leaf_names h) ≡ false
gone right_here d = refl
gone {x = x} (left_of_comma {a = a} {b = b} {c = c} k) d =
    neither x (leaf_names c) (leaf_names b) (gone k d.0) (false_from_ne_true (holds x (leaf_names b)) (λ m. true_not_false (holds x (leaf_names a)) (part_names k x (holds-head x [])) (d.2 x m)))
gone {x = x} (right_of_comma {a = a} {b = b} {c = c} k) d = neither x (leaf_names a) (leaf_names c) (d.2 x (part_names k x (holds-head x []))) (gone k d.1)
gone {x = x} (left_of_semi {a = a} {b = b} {c = c} k) d =
    neither x (leaf_names c) (leaf_names b) (gone k d.0) (false_from_ne_true (holds x (leaf_names b)) (λ m. true_not_false (holds x (leaf_names a)) (part_names k x (holds-head x [])) (d.2 x m)))
gone {x = x} (right_of_semi {a = a} {b = b} {c = c} k) d = neither x (leaf_names a) (leaf_names c) (d.2 x (part_names k x (holds-head x []))) (gone k d.1)

-- what is left is served once the name is historical
module _ (g h : BunchTree) (p : List Turn) (x : ℕ) (s : StreamType) (c : Context) (distinct : IsDistinct g) (k : Replaces (leaf x s) empty p g h) where
  fewer_new : IsNew (leaf x s) empty g
  fewer_new u m = absurd (true≢false (sym m))

  pub waited_distinct : IsDistinct h
  waited_distinct = still_distinct k distinct tt fewer_new

  pub serves_waited : {known : Known} → Serves known g c → Serves (learned x s known) h (waited x c)
  serves_waited v = record {
    knows = ap₂ (λ t l. put x (Some (past t)) l) (ap (λ o. unwrap_or o eps) (v.has_name x s (part_leaf k x s (refl, refl)))) v.knows;
    has_name = λ u t m. put-other x u None c.types (λ e. true_not_false (holds x (leaf_names h)) (subst (λ i. holds i (leaf_names h) ≡ true) (sym e) (leaf_is_name h u t m)) (gone k distinct)) ∙ leaf_of u t (new_leaf k u t m);
    has_fact = λ u w m. fact_of u w (new_fact k u w m);
  }
    where
      leaf_of : (u : ℕ) (t : StreamType) → HasLeaf g u t ⊎ ⊥ → c.types u ≡ Some t
      leaf_of u t (inl m) = v.has_name u t m
      leaf_of u t (inr m) = absurd m

      fact_of : (u w : ℕ) → NewFact (leaf x s) empty g (stays_first p g) u w → c.order u w ≡ true
      fact_of u w (was_there m) = v.has_fact u w m
      fact_of u w (inside m) = absurd (true≢false (sym m))
      fact_of u w (onto i l m f) = absurd (true≢false (sym m))
      fact_of u w (from l m f) = absurd (true≢false (sym l))
