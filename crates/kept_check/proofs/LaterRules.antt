-- What is asked of code that isn't reached, from what its parts are asked.
use Rattle.std.proofs.Common.{◌≡◌, ◌∙◌, ◌↔◌, ◌≤◌, ℕ, Bool, ◌||◌, not, IsTrue, List, ◌++◌, true, false, true≢false, refl, ap, sym, subst}
use Rattle.std.specs.Prelude.{Result, IfOk}
use Rattle.std.specs.List.{All, list_all}
use Rattle.std.proofs.lemmas.Result.{IfOk-weaker}
use Rattle.std.proofs.lemmas.Bool.{or_parts}
use Rattle.stream_type.specs.StreamType.{StreamType}
use Rattle.bunch.specs.Names.{holds}
use Rattle.bunch.proofs.NameLists.{holds-append}
use Rattle.hist_value.specs.HistType.{past}
use Rattle.hist_value.specs.HistValue.{HasType as HasValueType}
use Rattle.core_term.specs.CoreTerm.{CoreBody}
use Rattle.core_term.specs.FreeNames.{is_distinct, bound_names, free_names, once}
use Rattle.core_term.specs.Inert.{is_inert_fun}
use Rattle.core_term.specs.Typing.{Context, HasType}
use Rattle.core_term.proofs.OnceEach.{holds-once}
use Rattle.delta_check.specs.declared.fault.TypeFault.{TypeFault}
use Rattle.delta_check.specs.declared.fault.TypeFault.TheVariants.{Memory, Refused}
use Rattle.delta_check.specs.Checking.{Denies}
use Rattle.delta_state.specs.StateTree.{LaterTree}
use Rattle.delta_state.specs.StateTyping.{with_past}
use Rattle.kept_state.specs.KeptNames.{known_names, IsPastApart}
use Rattle.kept_rules.specs.StateRules.{IsGoodLater}
use Rattle.kept_check.specs.Laters.{IsFitLater}
use Rattle.kept_check.proofs.SameNames.{apart_at, apart_of}

neither : {a b : Bool} → a ≡ false → b ≡ false → (a || b) ≡ false
neither {b = b} h k = ap (λ c. c || b) h ∙ k

-- code is fit
module _ (depth : ℕ) (others : List ℕ) (l : LaterTree) where
  pub fit_apart : {E : Type 0} (r : Result Bool E) → All (λ e. HasValueType (past e.type) e.value) l.past → depth ≤ l.depth → IfOk r (λ b. IsTrue b ↔ IsPastApart others l) → IfOk r (λ b. IsTrue b ↔ IsFitLater depth others l)
  fit_apart r v d h = IfOk-weaker r (λ b. IsTrue b ↔ IsPastApart others l) (λ b. IsTrue b ↔ IsFitLater depth others l) (λ b i. (λ t. record { has_values = v; is_apart = i.0 t; is_deep = d }, λ f. i.1 f.is_apart)) h

-- code that is fit, with its type beside its values
module _ (funs : List CoreBody) (depth : ℕ) (c : Context) (others : List ℕ) (l : LaterTree) (r : StreamType) where
  fit_of : IsGoodLater funs depth c (λ d. d) others l r → IsFitLater depth others l
  fit_of g = record { has_values = g.has_values; is_apart = g.is_apart; is_deep = g.is_deep }

  pub good_typed : {E : Type 0} (b : Result Bool E) → IsFitLater depth others l → IfOk b (λ t. IsTrue t ↔ HasType funs (is_inert_fun funs) (with_past l.past c) l.term r) → IfOk b (λ t. IsTrue t ↔ IsGoodLater funs depth c (λ d. d) others l r)
  good_typed b f h =
      IfOk-weaker b (λ t. IsTrue t ↔ HasType funs (is_inert_fun funs) (with_past l.past c) l.term r) (λ t. IsTrue t ↔ IsGoodLater funs depth c (λ d. d) others l r)
      (λ t i. (λ y. record { has_values = f.has_values; has_type = i.0 y; is_apart = f.is_apart; is_deep = f.is_deep }, λ g. i.1 g.has_type)) h

  pub good_unfit : (IsFitLater depth others l → ⊥) → IsTrue false ↔ IsGoodLater funs depth c (λ d. d) others l r
  good_unfit n = (λ t. absurd (true≢false (sym t)), λ g. absurd (n (fit_of g)))

-- what its form binds for it may be bound before its values are there, as their names are others
module _ (funs : List CoreBody) (depth : ℕ) (c d : Context) (inside : Context → Context) (others : List ℕ) (l : LaterTree) (r : StreamType) (m : IsPastApart others l → inside (with_past l.past c) ≡ with_past l.past d) where
  pub bound_before : IsGoodLater funs depth d (λ e. e) others l r ↔ IsGoodLater funs depth c inside others l r
  bound_before = (
    λ g. record {
      has_values = g.has_values;
      has_type = subst (λ (k : Context). HasType funs (is_inert_fun funs) k l.term r) (sym (m g.is_apart)) g.has_type;
      is_apart = g.is_apart;
      is_deep = g.is_deep;
    },
    λ g. record {
      has_values = g.has_values;
      has_type = subst (λ (k : Context). HasType funs (is_inert_fun funs) k l.term r) (m g.is_apart) g.has_type;
      is_apart = g.is_apart;
      is_deep = g.is_deep;
    },
  )

-- the names of values, which are these
module _ (others : List ℕ) (l : LaterTree) (names : List ℕ) (e : names ≡ known_names l.past) where
  -- one of them stands twice
  pub not_once : is_distinct names ≡ false → IsTrue false ↔ IsPastApart others l
  not_once d = (λ t. absurd (true≢false (sym t)), λ a. absurd (true≢false (sym (ap is_distinct e ∙ a.are_once) ∙ d)))

  -- they stand once: whether one is taken decides
  pub apart_told : (b : Bool) (taken : List ℕ) → taken ≡ once (free_names l.term) ++ (others ++ bound_names l.term) → is_distinct names ≡ true → b ≡ list_all (λ x. not (holds x taken)) names
      → IsTrue b ↔ IsPastApart others l
  apart_told b taken w d h = (
    λ t. record { are_once = ap is_distinct (sym e) ∙ d; not_bound = λ x i. (both x (at t x i)).1; not_used = λ x i. sym (holds-once x (free_names l.term)) ∙ (both x (at t x i)).0 },
    λ a. h ∙ apart_of names taken (λ x i. ap (holds x) w ∙ holds-append x (once (free_names l.term)) (others ++ bound_names l.term)
        ∙ neither (holds-once x (free_names l.term) ∙ a.not_used x (sym (ap (holds x) e) ∙ i)) (a.not_bound x (sym (ap (holds x) e) ∙ i))),
  )
    where
      at : IsTrue b → (x : ℕ) → holds x (known_names l.past) ≡ true → holds x taken ≡ false
      at t x i = apart_at names taken (sym h ∙ t) x (ap (holds x) e ∙ i)

      both : (x : ℕ) → holds x taken ≡ false → (holds x (once (free_names l.term)) ≡ false) × (holds x (others ++ bound_names l.term) ≡ false)
      both x n = or_parts (holds x (once (free_names l.term))) (holds x (others ++ bound_names l.term)) (sym (holds-append x (once (free_names l.term)) (others ++ bound_names l.term)) ∙ sym (ap (holds x) w) ∙ n)

-- a term that is found to have no type has none
denies : (f : TypeFault) (P : Type 0) → Denies f P → (f ≡ Memory → ⊥) → P → ⊥
denies Memory P d n p = n refl
denies (Refused node at cause) P d n p = d p

pub denied_rightly : {E : Type 0} (f : TypeFault) (P : Type 0) (r : Result Bool E) → Denies f P → IfOk r (λ b. (b ≡ false) × (f ≡ Memory → ⊥)) → IfOk r (λ b. IsTrue b ↔ P)
denied_rightly f P r d h =
    IfOk-weaker r (λ b. (b ≡ false) × (f ≡ Memory → ⊥)) (λ b. IsTrue b ↔ P) (λ b k. (λ t. absurd (true≢false (sym t ∙ k.0)), λ p. absurd (denies f P d k.1 p))) h
