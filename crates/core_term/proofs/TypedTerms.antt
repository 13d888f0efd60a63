-- That a term has a type, as a derivation: a constructor for each rule of `HasType`, on which laws recurse.
--
-- It is over the types of all stream names: a wait leaves its subject among them, and which names are
-- stream variables is forgotten. A historical name is hidden by no stream variable. `Apart` is what is
-- kept of the names of a destructuring: that the first is other than the subject and than the second
-- where a program binds each name once, or nothing.
use Rattle.std.proofs.Common.{◌≡◌, ◌∙◌, ℕ, Bool, true, false, List, [], ◌∷◌, eqb, if◌then◌else◌, ap, refl, subst, sym}
use Rattle.std.specs.Prelude.{Option, Some, None, is_some, unwrap_or, ◌&&◌}
use Rattle.stream_type.specs.StreamType.{StreamType, eps, one, cat, par, sum, star, null_of}
use Rattle.bunch.specs.Names.{put, holds}
use Rattle.bunch.specs.BunchTree.{stands_before}
use Rattle.bunch.specs.Facts.{Facts, place_like, place_let, put_before}
use Rattle.bunch.proofs.Tests.{and_second}
use Rattle.hist_value.specs.HistType.{HistType, past}
use Rattle.hist_value.specs.HistExpr.{HistExpr}
use Rattle.hist_value.specs.Typing.{Gives, gives_variable, gives_literal, gives_unit, gives_reckoned, gives_pair, gives_wanted_pair, gives_first, gives_second, gives_left, gives_right, gives_choice, gives_nil, gives_cons, gives_wanted_cons, gives_fold}
use Rattle.core_term.specs.CoreTerm.{CoreTerm, CoreTerms, CoreBody, var_term, eps_term, unit_term, nil_term, past_term, par_term, cat_term, cons_term, inl_term, inr_term, let_term, let_par_term, let_cat_term, case_sum_term, case_star_term, wait_term, call_term, no_terms, term_before, leaf_types, past_types, fun_at}
use Rattle.core_term.specs.FreeNames.{free_names}
use Rattle.core_term.specs.Environment.{NameTypes}
use Rattle.core_term.specs.Agreement.{types_in}
use Rattle.core_term.specs.Inert.{is_inert}
use Rattle.core_term.specs.Parts.{par_left, par_right, cat_first, cat_second, sum_left, sum_right, star_item, star_items}
use Rattle.core_term.specs.Typing.{Context, type_at, AllBefore, with_name, with_fact, waited, HavePasts, passed, PassesInOrder, HasType, HaveTypes}

-- the types of historical names, as far as they have one
abbrev pub PastTypes : Type 0
PastTypes = ℕ → Option HistType

-- each name of the first list stands before each of the second
pub record StandBefore (order : Facts) (xs ys : List ℕ) : Type 0 where
  pub at : (x y : ℕ) → holds x xs ≡ true → holds y ys ≡ true → order x y ≡ true

module _ (funs : ℕ → CoreBody) (counts : ℕ → Bool) where
  -- of a call, where the parameter u stands before v: the free names of u's argument stand before those of
  -- v's, and v's argument is inert
  pub record PassedInOrder (order : Facts) (b : CoreBody) (es : CoreTerms) (u v : ℕ) : Type 0 where
    pub in_order : StandBefore order (free_names (passed b es u)) (free_names (passed b es v))
    pub is_still : is_inert funs counts (passed b es v) (types_in b.params v) ≡ true

module _ (funs : ℕ → CoreBody) (counts : ℕ → Bool) (Apart : ℕ → ℕ → Type 0) where
  mutual
    -- a term has a type, where T are the types of the stream names, O the facts of order between them and
    -- H the types of the historical names
    pub data Typed : NameTypes → Facts → PastTypes → CoreTerm → StreamType → Type 0 where
      var_typed : {T : NameTypes} {O : Facts} {H : PastTypes} {x : ℕ} {r : StreamType} → T x ≡ r → Typed T O H (var_term x) r
      eps_typed : {T : NameTypes} {O : Facts} {H : PastTypes} → Typed T O H eps_term eps
      unit_typed : {T : NameTypes} {O : Facts} {H : PastTypes} → Typed T O H unit_term one
      nil_typed : {T : NameTypes} {O : Facts} {H : PastTypes} {s : StreamType} → Typed T O H nil_term (star s)
      past_typed : {T : NameTypes} {O : Facts} {H : PastTypes} {m : HistExpr} {r : StreamType} → Gives H m (Some (past r)) (past r) → Typed T O H (past_term m) r
      par_typed : {T : NameTypes} {O : Facts} {H : PastTypes} {a b : CoreTerm} {s t : StreamType} → Typed T O H a s → Typed T O H b t → Typed T O H (par_term a b) (par s t)
      cat_typed : {T : NameTypes} {O : Facts} {H : PastTypes} {a b : CoreTerm} {s t : StreamType} → Typed T O H a s → Typed T O H b t → StandBefore O (free_names a) (free_names b) → Typed T O H (cat_term a b) (cat s t)
      cons_typed : {T : NameTypes} {O : Facts} {H : PastTypes} {a b : CoreTerm} {s : StreamType} → Typed T O H a s → Typed T O H b (star s) → StandBefore O (free_names a) (free_names b) → Typed T O H (cons_term a b) (star s)
      inl_typed : {T : NameTypes} {O : Facts} {H : PastTypes} {a : CoreTerm} {s t : StreamType} → Typed T O H a s → Typed T O H (inl_term a) (sum s t)
      inr_typed : {T : NameTypes} {O : Facts} {H : PastTypes} {a : CoreTerm} {s t : StreamType} → Typed T O H a t → Typed T O H (inr_term a) (sum s t)
      let_typed : {T : NameTypes} {O : Facts} {H : PastTypes} {x : ℕ} {s r : StreamType} {a b : CoreTerm} → Typed T O H a s
          → Typed (put x s T) (place_let x (free_names a) (is_inert funs counts a s) O) H b r → Typed T O H (let_term x s a b) r
      let_par_typed : {T : NameTypes} {O : Facts} {H : PastTypes} {x y z : ℕ} {r : StreamType} {a : CoreTerm} → Apart x z → T z ≡ par (par_left (T z)) (par_right (T z))
          → Typed (put y (par_right (T z)) (put x (par_left (T z)) T)) (place_like y z (place_like x z O)) H a r → Typed T O H (let_par_term x y z a) r
      let_cat_typed : {T : NameTypes} {O : Facts} {H : PastTypes} {x y z : ℕ} {r : StreamType} {a : CoreTerm} → Apart x z → Apart x y → T z ≡ cat (cat_first (T z)) (cat_second (T z))
          → Typed (put y (cat_second (T z)) (put x (cat_first (T z)) T)) (put_before x y (place_like y z (place_like x z O))) H a r → Typed T O H (let_cat_term x y z a) r
      case_sum_typed : {T : NameTypes} {O : Facts} {H : PastTypes} {x y z : ℕ} {r : StreamType} {a b : CoreTerm} → T z ≡ sum (sum_left (T z)) (sum_right (T z))
          → Typed (put x (sum_left (T z)) T) (place_like x z O) H a r → Typed (put y (sum_right (T z)) T) (place_like y z O) H b r → Typed T O H (case_sum_term z r x a y b) r
      case_star_typed : {T : NameTypes} {O : Facts} {H : PastTypes} {y ys z : ℕ} {r : StreamType} {a b : CoreTerm} → Apart y z → Apart y ys → T z ≡ star (star_item (T z))
          → Typed T O H a r → Typed (put ys (star_items (T z)) (put y (star_item (T z)) T)) (put_before y ys (place_like ys z (place_like y z O))) H b r → Typed T O H (case_star_term z r a y ys b) r
      wait_typed : {T : NameTypes} {O : Facts} {H : PastTypes} {x : ℕ} {r : StreamType} {a : CoreTerm} → null_of (T x) ≡ false → Typed T O (put x (Some (past (T x))) H) a r → Typed T O H (wait_term x r a) r
      call_typed : {T : NameTypes} {O : Facts} {H : PastTypes} {f : ℕ} {ms : List HistExpr} {es : CoreTerms} {r : StreamType} → (funs f).result ≡ r → HavePasts H ms (past_types (funs f)) → TypedAll T O H es (leaf_types (funs f).params)
          → ((u v : ℕ) → stands_before (funs f).params u v ≡ true → PassedInOrder funs counts O (funs f) es u v) → Typed T O H (call_term f ms es) r

    -- arguments have types, one by one
    pub data TypedAll : NameTypes → Facts → PastTypes → CoreTerms → List StreamType → Type 0 where
      none_typed : {T : NameTypes} {O : Facts} {H : PastTypes} → TypedAll T O H no_terms []
      more_typed : {T : NameTypes} {O : Facts} {H : PastTypes} {e : CoreTerm} {es : CoreTerms} {t : StreamType} {ts : List StreamType} → Typed T O H e t → TypedAll T O H es ts → TypedAll T O H (term_before e es) (t ∷ ts)

-- T and H are the types of a context's names, and types of any others
pub record Extends (c : Context) (T : NameTypes) (H : PastTypes) : Type 0 where
  pub stream : (x : ℕ) (s : StreamType) → c.types x ≡ Some s → T x ≡ s
  pub historical : (x : ℕ) (h : HistType) → c.past x ≡ Some h → H x ≡ Some h

-- a name's type in the context is that of all names
pub type_in : (c : Context) (T : NameTypes) (H : PastTypes) → Extends c T H → (z : ℕ) (s : StreamType) → c.types z ≡ Some s → type_at c z ≡ T z
type_in c T H x z s e = ap (λ o. unwrap_or o eps) e ∙ sym (x.stream z s e)

-- they still are once a stream variable is put
pub extends_name : (c : Context) (T : NameTypes) (H : PastTypes) (x : ℕ) (s t : StreamType) (o : Facts) → Extends c T H → s ≡ t → Extends (with_name x s o c) (put x t T) H
extends_name c T H x s t o h e = record { stream = λ y u k. go y u (eqb y x) k; historical = λ y u k. past_of y u (eqb y x) k }
  where
    go : (y : ℕ) (u : StreamType) (b : Bool) → (if b then Some s else c.types y) ≡ Some u → (if b then t else T y) ≡ u
    go y u true k = sym e ∙ cc k
    go y u false k = h.stream y u k

    past_of : (y : ℕ) (u : HistType) (b : Bool) → (if b then None else c.past y) ≡ Some u → H y ≡ Some u
    past_of y u true k = absurd (cc k)
    past_of y u false k = h.historical y u k

-- expressions keep their types where more names have one
pub record HasMore (env other : PastTypes) : Type 0 where
  pub at : (x : ℕ) (h : HistType) → env x ≡ Some h → other x ≡ Some h

pub more_under : (x : ℕ) (s : HistType) (env other : PastTypes) → HasMore env other → HasMore (put x (Some s) env) (put x (Some s) other)
more_under x s env other h = record { at = λ y u k. go y u (eqb y x) k }
  where
    go : (y : ℕ) (u : HistType) (b : Bool) → (if b then Some s else env y) ≡ Some u → (if b then Some s else other y) ≡ Some u
    go y u true k = k
    go y u false k = h.at y u k

pub gives_more : {env : PastTypes} {e : HistExpr} {w : Option HistType} {t : HistType} → Gives env e w t → (other : PastTypes) → HasMore env other → Gives other e w t
gives_more (gives_variable {x = x} {t = t} k a) other m = gives_variable (m.at x t k) a
gives_more (gives_literal a) other m = gives_literal a
gives_more (gives_unit a) other m = gives_unit a
gives_more (gives_reckoned h k a) other m = gives_reckoned (gives_more h other m) (gives_more k other m) a
gives_more (gives_pair h k) other m = gives_pair (gives_more h other m) (gives_more k other m)
gives_more (gives_wanted_pair h k) other m = gives_wanted_pair (gives_more h other m) (gives_more k other m)
gives_more (gives_first h a) other m = gives_first (gives_more h other m) a
gives_more (gives_second h a) other m = gives_second (gives_more h other m) a
gives_more (gives_left h) other m = gives_left (gives_more h other m)
gives_more (gives_right h) other m = gives_right (gives_more h other m)
gives_more (gives_choice {env = env} {x = x} {y = y} {s = s} {t = t} h k l) other m =
    gives_choice (gives_more h other m) (gives_more k (put x (Some s) other) (more_under x s env other m)) (gives_more l (put y (Some t) other) (more_under y t env other m))
gives_more gives_nil other m = gives_nil
gives_more (gives_cons h k) other m = gives_cons (gives_more h other m) (gives_more k other m)
gives_more (gives_wanted_cons h k) other m = gives_wanted_cons (gives_more h other m) (gives_more k other m)
gives_more (gives_fold {env = env} {x = x} {y = y} {s = s} {r = r} h k l) other m =
    gives_fold (gives_more h other m) (gives_more k other m) (gives_more l (put y (Some s) (put x (Some r) other)) (more_under y s (put x (Some r) env) (put x (Some r) other) (more_under x r env other m)))

pub pasts_more : (env other : PastTypes) (ms : List HistExpr) (ts : List StreamType) → HasMore env other → HavePasts env ms ts → HavePasts other ms ts
pasts_more env other [] [] m h = tt
pasts_more env other (e ∷ es) (t ∷ ts) m h = (gives_more h.0 other m, pasts_more env other es ts m h.1)
pasts_more env other [] (t ∷ ts) m h = absurd h
pasts_more env other (e ∷ es) [] m h = absurd h

-- the order of the rules is that of the context
pub stand_before : (c : Context) (xs ys : List ℕ) → AllBefore c xs ys → StandBefore c.order xs ys
stand_before c xs ys h = record { at = λ x y m k. and_second (is_some (c.types x) && is_some (c.types y)) (c.order x y) (h x y m k) }

-- one more fact changes no type
extends_fact : (c : Context) (T : NameTypes) (H : PastTypes) (x y : ℕ) → Extends c T H → Extends (with_fact x y c) T H
extends_fact c T H x y h = record { stream = h.stream; historical = h.historical }

-- a name that was waited for keeps its type among all names
extends_waited : (c : Context) (T : NameTypes) (H : PastTypes) (x : ℕ) → Extends c T H → type_at c x ≡ T x → Extends (waited x c) T (put x (Some (past (T x))) H)
extends_waited c T H x h e = record { stream = λ y u k. go y u (eqb y x) k; historical = λ y u k. past_of y u (eqb y x) k }
  where
    go : (y : ℕ) (u : StreamType) (b : Bool) → (if b then None else c.types y) ≡ Some u → T y ≡ u
    go y u true k = absurd (cc k)
    go y u false k = h.stream y u k

    past_of : (y : ℕ) (u : HistType) (b : Bool) → (if b then Some (past (type_at c x)) else c.past y) ≡ Some u → (if b then Some (past (T x)) else H y) ≡ Some u
    past_of y u true k = ap (λ t. Some (past t)) (sym e) ∙ k
    past_of y u false k = h.historical y u k

more_of : (c : Context) (T : NameTypes) (H : PastTypes) → Extends c T H → HasMore c.past H
more_of c T H h = record { at = h.historical }

module _ (funs : List CoreBody) (counts : ℕ → Bool) (Apart : ℕ → ℕ → Type 0) (all : (x z : ℕ) → Apart x z) where
  passed_in_order : (c : Context) (b : CoreBody) (es : CoreTerms) (u v : ℕ) → PassesInOrder funs counts c b es u v → PassedInOrder (fun_at funs) counts c.order b es u v
  passed_in_order c b es u v h = record { in_order = stand_before c (free_names (passed b es u)) (free_names (passed b es v)) h.in_order; is_still = h.is_still }

  mutual
    -- a term that has a type by the rules has a derivation, over any types that extend the context's
    pub derive : (e : CoreTerm) (c : Context) (T : NameTypes) (H : PastTypes) (r : StreamType) → Extends c T H → HasType funs counts c e r → Typed (fun_at funs) counts Apart T c.order H e r
    derive (var_term x) c T H r h k = var_typed (h.stream x r k)
    derive eps_term c T H r h k = subst (Typed (fun_at funs) counts Apart T c.order H eps_term) (sym k) eps_typed
    derive unit_term c T H r h k = subst (Typed (fun_at funs) counts Apart T c.order H unit_term) (sym k) unit_typed
    derive nil_term c T H r h k = subst (Typed (fun_at funs) counts Apart T c.order H nil_term) (sym k) nil_typed
    derive (past_term m) c T H r h k = past_typed (gives_more k H (more_of c T H h))
    derive (par_term a b) c T H (par s t) h k = par_typed (derive a c T H s h k.0) (derive b c T H t h k.1)
    derive (par_term a b) c T H _ h k = absurd k
    derive (cat_term a b) c T H (cat s t) h k = cat_typed (derive a c T H s h k.0) (derive b c T H t h k.1) (stand_before c (free_names a) (free_names b) k.2)
    derive (cat_term a b) c T H _ h k = absurd k
    derive (cons_term a b) c T H (star s) h k = cons_typed (derive a c T H s h k.0) (derive b c T H (star s) h k.1) (stand_before c (free_names a) (free_names b) k.2)
    derive (cons_term a b) c T H _ h k = absurd k
    derive (inl_term a) c T H (sum s t) h k = inl_typed (derive a c T H s h k)
    derive (inl_term a) c T H _ h k = absurd k
    derive (inr_term a) c T H (sum s t) h k = inr_typed (derive a c T H t h k)
    derive (inr_term a) c T H _ h k = absurd k
    derive (let_term x s a b) c T H r h k = let_typed (derive a c T H s h k.0) (derive b _ _ H r (extends_name c T H x s s _ h refl) k.1)
    derive (let_par_term x y z a) c T H r h k =
        let e = type_in c T H h z _ k.0 in
        let_par_typed (all x z) (subst (λ t. T z ≡ par (par_left t) (par_right t)) e (h.stream z _ k.0))
        (derive a _ _ H r (extends_name _ _ H y _ _ _ (extends_name c T H x _ _ (place_like x z c.order) h (ap par_left e)) (ap par_right e)) k.1)
    derive (let_cat_term x y z a) c T H r h k =
        let e = type_in c T H h z _ k.0 in
        let_cat_typed (all x z) (all x y) (subst (λ t. T z ≡ cat (cat_first t) (cat_second t)) e (h.stream z _ k.0))
        (derive a _ _ H r (extends_fact _ _ H x y (extends_name _ _ H y _ _ _ (extends_name c T H x _ _ (place_like x z c.order) h (ap cat_first e)) (ap cat_second e))) k.1)
    derive (case_sum_term z t x a y b) c T H r h k =
        let e = type_in c T H h z _ k.1 in
        subst (λ t. Typed (fun_at funs) counts Apart T c.order H (case_sum_term z t x a y b) r) (sym k.0)
        (case_sum_typed (subst (λ t. T z ≡ sum (sum_left t) (sum_right t)) e (h.stream z _ k.1))
        (derive a _ _ H r (extends_name c T H x _ _ _ h (ap sum_left e)) k.2) (derive b _ _ H r (extends_name c T H y _ _ _ h (ap sum_right e)) k.3))
    derive (case_star_term z t a y ys b) c T H r h k =
        let e = type_in c T H h z _ k.1 in
        subst (λ t. Typed (fun_at funs) counts Apart T c.order H (case_star_term z t a y ys b) r) (sym k.0)
        (case_star_typed (all y z) (all y ys) (subst (λ t. T z ≡ star (star_item t)) e (h.stream z _ k.1)) (derive a c T H r h k.2)
        (derive b _ _ H r (extends_fact _ _ H y ys (extends_name _ _ H ys _ _ _ (extends_name c T H y _ _ (place_like y z c.order) h (ap star_item e)) (ap star_items e))) k.3))
    derive (wait_term x t a) c T H r h k =
        let e = type_in c T H h x _ k.1 in
        subst (λ t. Typed (fun_at funs) counts Apart T c.order H (wait_term x t a) r) (sym k.0)
        (wait_typed (subst (λ t. null_of t ≡ false) e k.2) (derive a _ _ _ r (extends_waited c T H x h e) k.3))
    derive (call_term f ms es) c T H r h k =
        call_typed k.1 (pasts_more c.past H ms _ (more_of c T H h) k.2) (derive_all es c T H _ h k.3) (λ u v o. passed_in_order c (fun_at funs f) es u v (k.4 u v o))

    pub derive_all : (es : CoreTerms) (c : Context) (T : NameTypes) (H : PastTypes) (ts : List StreamType) → Extends c T H → HaveTypes funs counts c es ts → TypedAll (fun_at funs) counts Apart T c.order H es ts
    derive_all no_terms c T H [] h k = none_typed
    derive_all (term_before e es) c T H (t ∷ ts) h k = more_typed (derive e c T H t h k.0) (derive_all es c T H ts h k.1)
    derive_all no_terms c T H (t ∷ ts) h k = absurd k
    derive_all (term_before e es) c T H [] h k = absurd k
