-- The rules of the forms of states, from what their parts are asked.
use Rattle.std.proofs.Common.{◌≡◌, ◌∙◌, ◌↔◌, ℕ, Bool, false, true≢false, IsTrue, List, [], ◌∷◌, ap, refl, sym, subst}
use Rattle.std.specs.Prelude.{Result, IfOk, Option, Some, None, unwrap_or}
use Rattle.std.proofs.lemmas.Result.{IfOk-weaker}
use Rattle.stream_type.specs.StreamType.{StreamType, eps, sum, star, null_of}
use Rattle.bunch.specs.Names.{holds}
use Rattle.core_term.specs.CoreTerm.{CoreBody}
use Rattle.core_term.specs.FreeNames.{free_names}
use Rattle.core_term.specs.Parts.{sum_left, sum_right, star_item, star_items}
use Rattle.core_term.specs.Typing.{Context, type_at, HasForm, with_name_like, with_fact, with_parts}
use Rattle.delta_state.specs.StateTree.{HeldName, LaterTree, StateTree, sink, var_state, par_state, cat_state, let_state, let_par_state, let_cat_state, sum_state, star_state, wait_state, frame_state, free_in_state}
use Rattle.delta_state.specs.StateTyping.{context_held, with_known, IsHeld}
use Rattle.kept_rules.specs.StateRules.{FollowsRule, IsGoodLater, IsGoodSum, IsGoodStar, IsGoodWait}
use Rattle.kept_check.specs.HeldRules.{IsHolding, is_decided, MayGoOn}
use Rattle.kept_check.proofs.KnownApart.{name_before, item_before, value_before}
use Rattle.kept_check.proofs.LaterRules.{bound_before}

-- a part that isn't so
pub fails : (P R : Type 0) → (R → P) → (P → ⊥) → IsTrue false ↔ R
fails P R i n = (λ t. absurd (true≢false (sym t)), λ r. absurd (n (i r)))

-- the last of several parts, where the others are so
pub last_of_four : {E : Type 0} (b : Result Bool E) (P Q R S : Type 0) → P → Q → R → IfOk b (λ t. IsTrue t ↔ S) → IfOk b (λ t. IsTrue t ↔ (P × Q × R × S))
last_of_four b P Q R S p q r h = IfOk-weaker b (λ t. IsTrue t ↔ S) (λ t. IsTrue t ↔ (P × Q × R × S)) (λ t i. (λ y. (p, q, r, i.0 y), λ f. i.1 f.3)) h

same_type : (s t : StreamType) → Some s ≡ Some t → s ≡ t
same_type s t e = ap (λ o. unwrap_or o eps) e

-- the form of the type of a stream name
pub form_at : (c : Context) (z : ℕ) (s : StreamType) (F : StreamType → StreamType) → c.types z ≡ Some s → (s ≡ F s) ↔ HasForm c z (F (type_at c z))
form_at c z s F e = subst (λ (o : Option StreamType). (s ≡ F s) ↔ (o ≡ Some (F (unwrap_or o eps)))) (sym e) (λ k. ap Some k, λ k. same_type s (F s) k)

-- no other name has one
pub form_none : (c : Context) (z : ℕ) (s : StreamType) → c.types z ≡ None → HasForm c z s → ⊥
form_none c z s e h = absurd (cc (sym e ∙ h))

module _ (funs : List CoreBody) (depth : ℕ) (c : Context) (z : ℕ) where
  -- the branches of a case on a sum
  pub left_bad : (x : ℕ) (l : LaterTree) (y : ℕ) (m : LaterTree) (r : StreamType) → (IsGoodLater funs depth (with_name_like x (sum_left (type_at c z)) z c) (λ d. d) (x ∷ []) l r → ⊥) → IsTrue false ↔ IsGoodSum funs depth c z x l y m r
  left_bad x l y m r n =
      fails (IsGoodLater funs depth c (with_name_like x (sum_left (type_at c z)) z) (x ∷ []) l r) (IsGoodSum funs depth c z x l y m r) (λ g. g.left)
      (λ g. n ((bound_before funs depth c (with_name_like x (sum_left (type_at c z)) z c) (with_name_like x (sum_left (type_at c z)) z) (x ∷ []) l r (name_before c l x (sum_left (type_at c z)) z)).1 g))

  pub right_told : {E : Type 0} (b : Result Bool E) (x : ℕ) (l : LaterTree) (y : ℕ) (m : LaterTree) (r : StreamType) → HasForm c z (sum (sum_left (type_at c z)) (sum_right (type_at c z)))
      → IsGoodLater funs depth (with_name_like x (sum_left (type_at c z)) z c) (λ d. d) (x ∷ []) l r
      → IfOk b (λ t. IsTrue t ↔ IsGoodLater funs depth (with_name_like y (sum_right (type_at c z)) z c) (λ d. d) (y ∷ []) m r) → IfOk b (λ t. IsTrue t ↔ IsGoodSum funs depth c z x l y m r)
  right_told b x l y m r f g h =
      let left = bound_before funs depth c (with_name_like x (sum_left (type_at c z)) z c) (with_name_like x (sum_left (type_at c z)) z) (x ∷ []) l r (name_before c l x (sum_left (type_at c z)) z) in
      let right = bound_before funs depth c (with_name_like y (sum_right (type_at c z)) z c) (with_name_like y (sum_right (type_at c z)) z) (y ∷ []) m r (name_before c m y (sum_right (type_at c z)) z) in
      IfOk-weaker b (λ t. IsTrue t ↔ IsGoodLater funs depth (with_name_like y (sum_right (type_at c z)) z c) (λ d. d) (y ∷ []) m r) (λ t. IsTrue t ↔ IsGoodSum funs depth c z x l y m r)
      (λ t i. (λ k. record { subject = f; left = left.0 g; right = right.0 (i.0 k) }, λ k. i.1 (right.1 k.right))) h

  -- the branch of an item
  pub item_told : {E : Type 0} (b : Result Bool E) (l : LaterTree) (y ys : ℕ) (m : LaterTree) (r : StreamType) → HasForm c z (star (star_item (type_at c z))) → IsGoodLater funs depth c (λ d. d) [] l r
      → IfOk b (λ t. IsTrue t ↔ IsGoodLater funs depth (with_fact y ys (with_parts y (star_item (type_at c z)) ys (star_items (type_at c z)) z c)) (λ d. d) (y ∷ (ys ∷ [])) m r)
      → IfOk b (λ t. IsTrue t ↔ IsGoodStar funs depth c z l y ys m r)
  item_told b l y ys m r f g h =
      let inner = with_fact y ys (with_parts y (star_item (type_at c z)) ys (star_items (type_at c z)) z c) in
      let item = bound_before funs depth c inner (λ d. with_fact y ys (with_parts y (star_item (type_at c z)) ys (star_items (type_at c z)) z d)) (y ∷ (ys ∷ [])) m r (item_before c m y ys (star_item (type_at c z)) (star_items (type_at c z)) z) in
      IfOk-weaker b (λ t. IsTrue t ↔ IsGoodLater funs depth inner (λ d. d) (y ∷ (ys ∷ [])) m r) (λ t. IsTrue t ↔ IsGoodStar funs depth c z l y ys m r)
      (λ t i. (λ k. record { subject = f; at_end = g; at_item = item.0 (i.0 k) }, λ k. i.1 (item.1 k.at_item))) h

  -- what is of no stream is null
  subject_is : null_of (type_at c z) ≡ false → HasForm c z (type_at c z)
  subject_is n = go (c.types z) n
    where
      go : (o : Option StreamType) → null_of (unwrap_or o eps) ≡ false → o ≡ Some (unwrap_or o eps)
      go (Some t) k = refl
      go None k = absurd (true≢false k)

  -- what follows a wait
  pub rest_told : {E : Type 0} (b : Result Bool E) (l : LaterTree) (r : StreamType) → null_of (type_at c z) ≡ false → holds z (free_names l.term) ≡ false
      → IfOk b (λ t. IsTrue t ↔ IsGoodLater funs depth c (with_known z (type_at c z)) (z ∷ []) l r) → IfOk b (λ t. IsTrue t ↔ IsGoodWait funs depth c z l r)
  rest_told b l r n u h =
      IfOk-weaker b (λ t. IsTrue t ↔ IsGoodLater funs depth c (with_known z (type_at c z)) (z ∷ []) l r) (λ t. IsTrue t ↔ IsGoodWait funs depth c z l r)
      (λ t i. (λ k. record { subject = subject_is n; not_null = n; rest = i.0 k; not_used = u }, λ k. i.1 k.rest)) h

  -- where its subject has a value
  pub value_told : {E : Type 0} (b : Result Bool E) (d : Context) (t : StreamType) (l : LaterTree) (r : StreamType) → d ≡ with_known z t c → IfOk b (λ u. IsTrue u ↔ IsGoodLater funs depth d (λ e. e) (z ∷ []) l r)
      → IfOk b (λ u. IsTrue u ↔ IsGoodLater funs depth c (with_known z t) (z ∷ []) l r)
  value_told b d t l r e h =
      let moved = bound_before funs depth c (with_known z t c) (with_known z t) (z ∷ []) l r (value_before c l z t) in
      IfOk-weaker b (λ u. IsTrue u ↔ IsGoodLater funs depth (with_known z t c) (λ k. k) (z ∷ []) l r) (λ u. IsTrue u ↔ IsGoodLater funs depth c (with_known z t) (z ∷ []) l r) (λ u i. (λ k. moved.0 (i.0 k), λ k. i.1 (moved.1 k)))
      (subst (λ (k : Context). IfOk b (λ u. IsTrue u ↔ IsGoodLater funs depth k (λ w. w) (z ∷ []) l r)) e h)

-- a case or a wait
module _ (funs : List CoreBody) (depth : ℕ) (c : Context) (t : StreamType) (held : List HeldName) (r : StreamType) where
  -- is asked for its type, what it holds, and how it goes on
  abbrev Asked : StateTree → Type 0
  Asked s = (t ≡ r) × IsHeld c (free_in_state s) held × (is_decided s ≡ false) × MayGoOn funs depth (context_held held c.order) s r

  pub asked_held : (s : StateTree) → IsHolding t held s → FollowsRule funs depth c s r ↔ Asked s
  asked_held (sum_state z u more x l y m) h = rw (h.0, h.1) (λ f. f, λ f. f)
  asked_held (star_state z u more l y ys m) h = rw (h.0, h.1) (λ f. f, λ f. f)
  asked_held (wait_state x u more l) h = rw (h.0, h.1) (λ f. f, λ f. f)
  asked_held (sink u) h = absurd h
  asked_held (var_state x) h = absurd h
  asked_held (par_state a b) h = absurd h
  asked_held (cat_state a l) h = absurd h
  asked_held (let_state x u a b) h = absurd h
  asked_held (let_par_state x y z a) h = absurd h
  asked_held (let_cat_state x y z a) h = absurd h
  asked_held (frame_state args s) h = absurd h

  -- one of these isn't so
  pub not_asked : (s : StateTree) → IsHolding t held s → (Asked s → ⊥) → IsTrue false ↔ FollowsRule funs depth c s r
  not_asked s h n = fails (Asked s) (FollowsRule funs depth c s r) (asked_held s h).0 n

  -- the last decides
  pub asked_last : {E : Type 0} (b : Result Bool E) (s : StateTree) → IsHolding t held s → t ≡ r → IsHeld c (free_in_state s) held → is_decided s ≡ false
      → IfOk b (λ u. IsTrue u ↔ MayGoOn funs depth (context_held held c.order) s r) → IfOk b (λ u. IsTrue u ↔ FollowsRule funs depth c s r)
  asked_last b s h e i d k =
      let asked = asked_held s h in
      IfOk-weaker b (λ u. IsTrue u ↔ MayGoOn funs depth (context_held held c.order) s r) (λ u. IsTrue u ↔ FollowsRule funs depth c s r) (λ u j. (λ y. asked.1 (e, i, d, j.0 y), λ f. j.1 (asked.0 f).3)) k
