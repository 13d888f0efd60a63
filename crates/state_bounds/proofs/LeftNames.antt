-- What a context has of names after something came on them, and what a state made of a part holds over it.
use Rattle.std.proofs.Common.{◌≡◌, ◌≢◌, ◌∙◌, ◌⊎◌, inl, inr, ℕ, Bool, true, false, List, [], ◌∷◌, ◌++◌, ◌&&◌, eqb, if◌then◌else◌, ap, ap₂, refl, subst, sym}
use Rattle.std.specs.Prelude.{Some, unwrap_or, is_some}
use Rattle.stream_type.specs.StreamType.{StreamType, eps, cat, par, sum, star}
use Rattle.stream_prefix.specs.StreamPrefix.{StreamPrefix, in_left, in_right, sum_emp, star_emp, star_done, star_first, star_rest, emp, der}
use Rattle.stream_prefix.proofs.Derivations.{Derives, cat_has_fst, cat_has_both, sum_has_emp, sum_has_left, sum_has_right, star_has_emp, star_has_done, star_has_first, star_has_rest}
use Rattle.stream_prefix.proofs.Joins.{der-emp}
use Rattle.bunch.specs.Names.{put, holds}
use Rattle.bunch.specs.Facts.{Facts, place_like, place_let, put_before}
use Rattle.core_term.specs.CoreTerm.{CoreBody}
use Rattle.core_term.specs.FreeNames.{without}
use Rattle.core_term.specs.Agreement.{Agrees}
use Rattle.core_term.specs.Environment.{Environment, NameTypes, left_at}
use Rattle.core_term.specs.Parts.{par_left, par_right, cat_first, cat_second, sum_left, sum_right, star_item, star_items, first_part, second_part}
use Rattle.core_term.specs.Typing.{Context, type_at, types_of, is_before, with_name, with_name_like, with_fact, with_parts}
use Rattle.core_term.proofs.InertRuns.{EmptyOn}
use Rattle.core_term.proofs.Sides.{holds-head}
use Rattle.delta_state.specs.StateTree.{HeldName, StateTree, let_par_state, let_cat_state}
use Rattle.delta_state.specs.Rest.{cut_state, sum_rest, star_rest_state}
use Rattle.state_steps.proofs.NamesAmong.{among_under, among_first, among_second}
use Rattle.state_steps.proofs.FactsWithin.{WithinOn, within_on_like, within_on_before, like_alias, row_facts}
use Rattle.delta_state.specs.StateMeaning.{types_held}
use Rattle.delta_state.specs.StateTyping.{facts_held}
use Rattle.state_steps.proofs.HeldForms.{Holds, held_is, within_held}
use Rattle.state_bounds.specs.Bounds.{Bound, ◌⊑◌}
use Rattle.state_bounds.specs.StateBounds.{state_bound}
use Rattle.state_bounds.proofs.BoundOrder.{beside_nothing}
use Rattle.state_bounds.proofs.MoreFacts.{Gains, gains_fewer, gains_tail, gains_put}

-- of the names of the list the context has what d leaves of their types, and each fact of the order
abbrev pub Leaves : List ℕ → NameTypes → Facts → Environment → Context → Type 0
Leaves xs T O d c = Gains xs (λ x. Some (left_at d T x)) c.types O c.order

-- such a name has its type there
pub leaves_type : (xs : List ℕ) (T : NameTypes) (O : Facts) (d : Environment) (c : Context) → Leaves xs T O d c → (x : ℕ) → holds x xs ≡ true → c.types x ≡ Some (der (d x) (T x))
leaves_type xs T O d c h x m = sym (h.types x m)

-- where nothing came on names they keep their types
pub nothing_left : (xs : List ℕ) (T : NameTypes) (O : Facts) (d : Environment) (c : Context) → EmptyOn xs T d → Leaves xs T O d c → Gains xs T (types_of c) O c.order
nothing_left xs T O d c e h = record {
  types = λ x m. sym (ap (λ o. unwrap_or o eps) (leaves_type xs T O d c h x m ∙ ap Some (ap (λ p. der p (T x)) (e.at x m) ∙ der-emp (T x))));
  order = h.order;
}

-- what is held is of the types from before, and agrees with each fact with which what came does
pub gains_held : (free : List ℕ) (T : NameTypes) (O Q : Facts) (d : Environment) (held : List HeldName) → Holds free T d held → Agrees T O d → WithinOn free O Q → Gains free T (types_held held) O (facts_held held Q)
gains_held free T O Q d held h agrees w = record { types = λ x m. (held_is free T d held h x m).0; order = within_held free T d held h O Q agrees w }

-- a name that is before another is so among what is left
pub before_after : (xs : List ℕ) (T : NameTypes) (O : Facts) (d : Environment) (c : Context) → Leaves xs T O d c → (x y : ℕ) → holds x xs ≡ true → holds y xs ≡ true → O x y ≡ true → is_before c x y ≡ true
before_after xs T O d c h x y m n k = ap₂ ◌&&◌ (ap₂ ◌&&◌ (ap is_some (leaves_type xs T O d c h x m)) (ap is_some (leaves_type xs T O d c h y n))) (h.order.at x y m n k)

-- a name may be put of which p came, once it has what p leaves of its type,
pub leaves_put : (x : ℕ) (s t : StreamType) (p : StreamPrefix) (ys : List ℕ) (T : NameTypes) (O F G : Facts) (d : Environment) (c : Context) → t ≡ der p s → Leaves (without x ys) T O d c → WithinOn ys F G
    → Leaves ys (put x s T) F (put x p d) (with_name x t G c)
leaves_put x s t p ys T O F G d c e h w =
    let put_some : (λ y. Some (left_at (put x p d) (put x s T) y)) ≡ put x (Some (der p s)) (λ y. Some (left_at d T y)) = λ i y. go y (eqb y x) i in
    subst (λ L. Gains ys L (put x (Some t) c.types) F G) (sym put_some) (gains_put x (Some (der p s)) (Some t) ys _ c.types O c.order F G (ap Some (sym e)) h w)
  where
    go : (y : ℕ) (b : Bool) → Some (der (if b then p else d y) (if b then s else T y)) ≡ (if b then Some (der p s) else Some (der (d y) (T y)))
    go y true = refl
    go y false = refl

-- and be placed like z,
pub leaves_like : (x z : ℕ) (s t : StreamType) (p : StreamPrefix) (ys : List ℕ) (T : NameTypes) (O : Facts) (d : Environment) (c : Context) → t ≡ der p s → Leaves (z ∷ without x ys) T O d c
    → Leaves ys (put x s T) (place_like x z O) (put x p d) (with_name_like x t z c)
leaves_like x z s t p ys T O d c e h = leaves_put x s t p ys T O (place_like x z O) (place_like x z c.order) d c e (gains_tail z (without x ys) _ c.types O c.order h) (within_on_like x z ys O c.order h.order)

-- or be bound to z;
pub leaves_alias : (x z : ℕ) (s t : StreamType) (p : StreamPrefix) (ys : List ℕ) (T : NameTypes) (O : Facts) (d : Environment) (c : Context) → t ≡ der p s → Leaves (z ∷ without x ys) T O d c
    → Leaves ys (put x s T) (place_like x z O) (put x p d) (with_name x t (place_let x (z ∷ []) true c.order) c)
leaves_alias x z s t p ys T O d c e h =
    let near = within_on_like x z ys O c.order h.order in
    let far = like_alias x z ys c.order c.order (λ u v i. i) in
    leaves_put x s t p ys T O (place_like x z O) (place_let x (z ∷ []) true c.order) d c e (gains_tail z (without x ys) _ c.types O c.order h)
    (record { at = λ u v m n i. far.at u v m n (near.at u v m n i) })

-- so may both parts of a subject,
pub leaves_pair : (x y z : ℕ) (s s' t t' : StreamType) (p o : StreamPrefix) (ys : List ℕ) (T : NameTypes) (O : Facts) (d : Environment) (c : Context) → s' ≡ der p s → t' ≡ der o t → Leaves (z ∷ without x (without y ys)) T O d c
    → Leaves ys (put y t (put x s T)) (place_like y z (place_like x z O)) (put y o (put x p d)) (with_parts x s' y t' z c)
leaves_pair x y z s s' t t' p o ys T O d c e f h =
    let near = gains_fewer (z ∷ without x (without y ys)) (z ∷ without x (z ∷ without y ys)) _ c.types O c.order (among_under x z (without y ys)) h in
    leaves_like y z t t' o ys (put x s T) (place_like x z O) (put x p d) (with_name_like x s' z c) f (leaves_like x z s s' p (z ∷ without y ys) T O d c e near)

-- the first before the second,
pub leaves_row : (x y z : ℕ) (s s' t t' : StreamType) (p o : StreamPrefix) (ys : List ℕ) (T : NameTypes) (O : Facts) (d : Environment) (c : Context) → s' ≡ der p s → t' ≡ der o t → Leaves (z ∷ without x (without y ys)) T O d c
    → Leaves ys (put y t (put x s T)) (put_before x y (place_like y z (place_like x z O))) (put y o (put x p d)) (with_fact x y (with_parts x s' y t' z c))
leaves_row x y z s s' t t' p o ys T O d c e f h =
    let pair = leaves_pair x y z s s' t t' p o ys T O d c e f h in
    record { types = pair.types; order = within_on_before x y ys _ _ pair.order }

-- or the first finished and the second bound to the subject
pub leaves_sunk : (x y z : ℕ) (s s' t t' : StreamType) (p o : StreamPrefix) (ys : List ℕ) (T : NameTypes) (O : Facts) (d : Environment) (c : Context) → x ≢ z → x ≢ y → s' ≡ der p s → t' ≡ der o t → Leaves (z ∷ without x (without y ys)) T O d c
    → Leaves ys (put y t (put x s T)) (put_before x y (place_like y z (place_like x z O))) (put y o (put x p d))
    (with_name y t' (place_let y (z ∷ []) true (place_let x [] true c.order)) (with_name x s' (place_let x [] true c.order) c))
leaves_sunk x y z s s' t t' p o ys T O d c nz ny e f h =
    let row = leaves_row x y z s s' t t' p o ys T O d c e f h in
    let far = row_facts x y z ys c.order nz ny in
    record { types = row.types; order = record { at = λ u v m n i. far.at u v m n (row.order.at u v m n i) } }

module _ (funs : List CoreBody) (numbers : ℕ → Bound) where
  -- a destructuring of `||` holds what its body does over both parts,
  pub pair_bound : (x y z : ℕ) (s s' t t' : StreamType) (p o : StreamPrefix) (ys : List ℕ) (T : NameTypes) (O : Facts) (d : Environment) (c : Context) (a : StateTree) (b : Bound) → c.types z ≡ Some (par s' t') → s' ≡ der p s → t' ≡ der o t
      → Leaves (z ∷ without x (without y ys)) T O d c
      → ((e : Context) → Leaves ys (put y t (put x s T)) (place_like y z (place_like x z O)) (put y o (put x p d)) e → state_bound funs numbers a e ⊑ b) → state_bound funs numbers (let_par_state x y z a) c ⊑ b
  pair_bound x y z s s' t t' p o ys T O d c a b k e f h g =
      let now : type_at c z ≡ par s' t' = ap (λ u. unwrap_or u eps) k in
      subst (λ u. state_bound funs numbers a (with_parts x (par_left u) y (par_right u) z c) ⊑ b) (sym now) (g _ (leaves_pair x y z s s' t t' p o ys T O d c e f h))

  -- one of `.` what its body does over both parts in a row,
  pub row_bound : (x y z : ℕ) (s s' t t' : StreamType) (p o : StreamPrefix) (ys : List ℕ) (T : NameTypes) (O : Facts) (d : Environment) (c : Context) (a : StateTree) (b : Bound) → c.types z ≡ Some (cat s' t') → s' ≡ der p s → t' ≡ der o t
      → Leaves (z ∷ without x (without y ys)) T O d c
      → ((e : Context) → Leaves ys (put y t (put x s T)) (put_before x y (place_like y z (place_like x z O))) (put y o (put x p d)) e → state_bound funs numbers a e ⊑ b) → state_bound funs numbers (let_cat_state x y z a) c ⊑ b
  row_bound x y z s s' t t' p o ys T O d c a b k e f h g =
      let now : type_at c z ≡ cat s' t' = ap (λ u. unwrap_or u eps) k in
      subst (λ u. state_bound funs numbers a (with_fact x y (with_parts x (cat_first u) y (cat_second u) z c)) ⊑ b) (sym now) (g _ (leaves_row x y z s s' t t' p o ys T O d c e f h))

  -- and what is left of one of `.`, after what came on its subject, what is left of its body does
  pub cut_bound : (x y z : ℕ) (u : StreamType) {w : StreamPrefix} (ys : List ℕ) (T : NameTypes) (O : Facts) (d : Environment) (c : Context) (a : StateTree) (b : Bound) → x ≢ z → x ≢ y → T z ≡ cat (cat_first u) (cat_second u) → d z ≡ w
      → Derives (cat (cat_first u) (cat_second u)) w → Leaves (z ∷ without x (without y ys)) T O d c
      → ((e : Context) → Leaves ys (put y (cat_second u) (put x (cat_first u) T)) (put_before x y (place_like y z (place_like x z O))) (put y (second_part (cat_second u) w) (put x (first_part w) d)) e → state_bound funs numbers a e ⊑ b)
      → state_bound funs numbers (cut_state x y z u w a) c ⊑ b
  cut_bound x y z u ys T O d c a b nz ny e ew (cat_has_fst {p = p} k) h g =
      row_bound x y z (cat_first u) (der p (cat_first u)) (cat_second u) (cat_second u) p (emp (cat_second u)) ys T O d c a b (leaves_type _ T O d c h z (holds-head z _) ∙ ap₂ (λ p t. Some (der p t)) ew e) refl (sym (der-emp (cat_second u))) h g
  cut_bound x y z u ys T O d c a b nz ny e ew (cat_has_both {p = p} {q = o} k m i) h g =
      beside_nothing _ b (beside_nothing _ b (g _ (leaves_sunk x y z (cat_first u) (der p (cat_first u)) (cat_second u) (der o (cat_second u)) p o ys T O d c nz ny refl refl h)))

  -- what is left of a case on a sum is what is left of a branch, or the case that waits on,
  pub sum_rest_bound : (z x y : ℕ) (u : StreamType) {o : StreamPrefix} (xs ys : List ℕ) (T : NameTypes) (O : Facts) (d : Environment) (c : Context) (w : StateTree) (f g : StreamPrefix → StateTree) (b : Bound)
      → Derives (sum (sum_left u) (sum_right u)) o → Leaves (z ∷ (without x xs ++ without y ys)) T O d c
      → ((p : StreamPrefix) → o ≡ in_left p → Derives (sum_left u) p → (e : Context) → Leaves xs (put x (sum_left u) T) (place_like x z O) (put x p d) e → state_bound funs numbers (f p) e ⊑ b)
      → ((p : StreamPrefix) → o ≡ in_right p → Derives (sum_right u) p → (e : Context) → Leaves ys (put y (sum_right u) T) (place_like y z O) (put y p d) e → state_bound funs numbers (g p) e ⊑ b)
      → (o ≡ sum_emp → state_bound funs numbers w c ⊑ b) → state_bound funs numbers (sum_rest z x y u o w f g) c ⊑ b
  sum_rest_bound z x y u xs ys T O d c w f g b sum_has_emp h l r n = n refl
  sum_rest_bound z x y u xs ys T O d c w f g b (sum_has_left {p = p} k) h l r n =
      beside_nothing _ b (l p refl k _ (leaves_alias x z (sum_left u) (der p (sum_left u)) p xs T O d c refl (gains_fewer _ (z ∷ without x xs) _ c.types O c.order (among_first z (without x xs) (without y ys)) h)))
  sum_rest_bound z x y u xs ys T O d c w f g b (sum_has_right {p = p} k) h l r n =
      beside_nothing _ b (r p refl k _ (leaves_alias y z (sum_right u) (der p (sum_right u)) p ys T O d c refl (gains_fewer _ (z ∷ without y ys) _ c.types O c.order (among_second z (without x xs) (without y ys)) h)))

  -- and so it is with a case on a star
  pub star_rest_bound : (z y ys : ℕ) (u : StreamType) {o : StreamPrefix} (xs zs : List ℕ) (T : NameTypes) (O : Facts) (d : Environment) (c : Context) (w a : StateTree) (f : StreamPrefix → StreamPrefix → StateTree) (b : Bound) → y ≢ z → y ≢ ys
      → T z ≡ u → u ≡ star (star_item u) → star_items u ≡ u → d z ≡ o → Derives (star (star_item u)) o → Leaves (z ∷ (xs ++ without y (without ys zs))) T O d c
      → (o ≡ star_done → state_bound funs numbers a c ⊑ b)
      → ((p q : StreamPrefix) → (o ≡ star_rest p q) ⊎ ((o ≡ star_first p) × (q ≡ star_emp)) → (e : Context)
      → Leaves zs (put ys (star_items u) (put y (star_item u) T)) (put_before y ys (place_like ys z (place_like y z O))) (put ys q (put y p d)) e → state_bound funs numbers (f p q) e ⊑ b)
      → (o ≡ star_emp → state_bound funs numbers w c ⊑ b) → state_bound funs numbers (star_rest_state z y ys u o w a f) c ⊑ b
  star_rest_bound z y ys u xs zs T O d c w a f b nz ny et eu ei eo star_has_emp h l r n = n refl
  star_rest_bound z y ys u xs zs T O d c w a f b nz ny et eu ei eo star_has_done h l r n = l refl
  star_rest_bound z y ys u xs zs T O d c w a f b nz ny et eu ei eo (star_has_first {p = p} k) h l r n =
      let items : star_items u ≡ star (star_item u) = ei ∙ eu in
      row_bound y ys z (star_item u) (der p (star_item u)) (star_items u) (star_items u) p star_emp zs T O d c (f p star_emp) b
      (leaves_type _ T O d c h z (holds-head z _) ∙ (ap₂ (λ p t. Some (der p t)) eo (et ∙ eu) ∙ ap (λ t. Some (cat (der p (star_item u)) t)) (sym items)))
      refl (items ∙ ap (der star_emp) (sym items)) (gains_fewer _ (z ∷ without y (without ys zs)) _ c.types O c.order (among_second z xs (without y (without ys zs))) h) (r p star_emp (inr (refl, refl)))
  star_rest_bound z y ys u xs zs T O d c w a f b nz ny et eu ei eo (star_has_rest {p = p} {q = o} k m i) h l r n =
      beside_nothing _ b (beside_nothing _ b (r p o (inl refl) _ (leaves_sunk y ys z (star_item u) (der p (star_item u)) (star_items u) (der o u) p o zs T O d c nz ny refl (ap (der o) (sym ei))
      (gains_fewer _ (z ∷ without y (without ys zs)) _ c.types O c.order (among_second z xs (without y (without ys zs))) h))))
