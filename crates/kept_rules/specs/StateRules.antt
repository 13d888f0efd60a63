-- What is asked of each state of a kept state for itself, whatever its parts are.
use Rattle.std.specs.Prelude.{ℕ, ◌≡◌, ◌≤◌, true, false, Some, ⊤, IsTrue, List, [], ◌∷◌, ◌++◌}
use Rattle.std.specs.List.{All}
use Rattle.stream_type.specs.StreamType.{StreamType, cat, par, sum, star, null_of}
use Rattle.stream_prefix.specs.StreamPrefix.{is_maximal}
use Rattle.bunch.specs.Names.{holds}
use Rattle.hist_value.specs.HistType.{past}
use Rattle.hist_value.specs.HistValue.{HasType as HasValueType}
use Rattle.core_term.specs.CoreTerm.{CoreBody, CoreProgram}
use Rattle.core_term.specs.FreeNames.{free_names, is_distinct}
use Rattle.core_term.specs.Inert.{is_inert_fun}
use Rattle.core_term.specs.Parts.{par_left, par_right, cat_first, cat_second, sum_left, sum_right, star_item, star_items}
use Rattle.core_term.specs.Typing.{Context, type_at, AllBefore, HasForm, HasType, with_name_like, with_fact, with_parts}
use Rattle.delta_state.specs.StateTree.{LaterTree, StateTree, sink, var_state, par_state, cat_state, let_state, let_par_state, let_cat_state, sum_state, star_state, wait_state, frame_state, argument_names, free_in_state, free_in_sum, free_in_star, free_in_wait}
use Rattle.delta_state.specs.StateMeaning.{prefixes_held}
use Rattle.delta_state.specs.StateTyping.{with_known, with_past, context_held, IsHeld}
use Rattle.delta_state.specs.Settled.{has_tag}
use Rattle.delta_state.specs.Stands.{depth_after}
use Rattle.kept_state.specs.KeptTree.{KeptTree}
use Rattle.kept_state.specs.KeptNames.{IsPastApart}
use Rattle.kept_state.specs.KeptTyping.{IsPlaced}
use Rattle.kept_rules.specs.InTurn.{StateAt, own_names}

module _ (funs : List CoreBody) (depth : ℕ) where
  -- code that isn't reached: `inside` binds the names of the form that it belongs to, which are `others`
  pub record IsGoodLater (c : Context) (inside : Context → Context) (others : List ℕ) (l : LaterTree) (r : StreamType) : Type 0 where
    pub has_values : All (λ e. HasValueType (past e.type) e.value) l.past
    pub has_type : HasType funs (is_inert_fun funs) (inside (with_past l.past c)) l.term r
    pub is_apart : IsPastApart others l
    pub is_deep : depth ≤ l.depth

  -- a case on a sum, over the types from before anything was held
  pub record IsGoodSum (c : Context) (z x : ℕ) (l : LaterTree) (y : ℕ) (m : LaterTree) (r : StreamType) : Type 0 where
    pub subject : HasForm c z (sum (sum_left (type_at c z)) (sum_right (type_at c z)))
    pub left : IsGoodLater c (with_name_like x (sum_left (type_at c z)) z) (x ∷ []) l r
    pub right : IsGoodLater c (with_name_like y (sum_right (type_at c z)) z) (y ∷ []) m r

  -- a case on a star
  pub record IsGoodStar (c : Context) (z : ℕ) (l : LaterTree) (y ys : ℕ) (m : LaterTree) (r : StreamType) : Type 0 where
    pub subject : HasForm c z (star (star_item (type_at c z)))
    pub at_end : IsGoodLater c (λ d. d) [] l r
    pub at_item : IsGoodLater c (λ d. with_fact y ys (with_parts y (star_item (type_at c z)) ys (star_items (type_at c z)) z d)) (y ∷ (ys ∷ [])) m r

  -- a wait
  pub record IsGoodWait (c : Context) (x : ℕ) (l : LaterTree) (r : StreamType) : Type 0 where
    pub subject : HasForm c x (type_at c x)
    pub not_null : null_of (type_at c x) ≡ false
    pub rest : IsGoodLater c (with_known x (type_at c x)) (x ∷ []) l r
    pub not_used : holds x (free_names l.term) ≡ false

  -- the rule of a state's own form: of its parts nothing is asked but their free names
  abbrev pub FollowsRule : Context → StateTree → StreamType → Type 0
  FollowsRule c (sink t) r = (t ≡ r) × (null_of t ≡ true)
  FollowsRule c (var_state x) r = c.types x ≡ Some r
  FollowsRule c (par_state a b) r = r ≡ par (par_left r) (par_right r)
  FollowsRule c (cat_state a l) r =
      (r ≡ cat (cat_first r) (cat_second r)) × (null_of (cat_first r) ≡ false)
      × IsGoodLater c (λ d. d) [] l (cat_second r) × AllBefore c (free_in_state a) (free_names l.term)
  FollowsRule c (let_state x s a b) r = ⊤
  FollowsRule c (let_par_state x y z a) r = HasForm c z (par (par_left (type_at c z)) (par_right (type_at c z)))
  FollowsRule c (let_cat_state x y z a) r = HasForm c z (cat (cat_first (type_at c z)) (cat_second (type_at c z)))
  FollowsRule c (sum_state z t held x l y m) r =
      (t ≡ r) × IsHeld c (free_in_sum z x l y m) held × (has_tag (prefixes_held held z) ≡ false) × IsGoodSum (context_held held c.order) z x l y m r
  FollowsRule c (star_state z t held l y ys m) r =
      (t ≡ r) × IsHeld c (free_in_star z l y ys m) held × (has_tag (prefixes_held held z) ≡ false) × IsGoodStar (context_held held c.order) z l y ys m r
  FollowsRule c (wait_state x t held l) r =
      (t ≡ r) × IsHeld c (free_in_wait x l) held × (is_maximal (prefixes_held held x) ≡ false) × IsGoodWait (context_held held c.order) x l r
  FollowsRule c (frame_state args s) r = IsTrue (is_distinct (argument_names args))

  -- a state follows its rule, and binds no name again
  pub record IsGood (j : StateAt) : Type 0 where
    pub rule : FollowsRule j.context j.state j.wanted
    pub once : IsTrue (is_distinct (j.before ++ own_names j.state))

-- each of these is good
abbrev pub AreGood : List CoreBody → ℕ → List StateAt → Type 0
AreGood funs depth [] = ⊤
AreGood funs depth (j ∷ js) = IsGood funs depth j × AreGood funs depth js

-- what is asked of the state with the number n: the first one answers for what stands beside the state, too
pub record IsGoodAt (c : CoreProgram) (k : KeptTree) (n : ℕ) (j : StateAt) : Type 0 where
  pub placed : n ≡ 0 → IsPlaced c k
  pub good : IsGood c.funs (depth_after k.events) j
