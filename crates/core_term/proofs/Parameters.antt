-- What stands at the parameters of a body, once its arguments are bound to them.
use Rattle.std.proofs.Common.{◌≡◌, ◌∙◌, ℕ, suc, Bool, true, false, ◌||◌, List, [], ◌∷◌, ◌++◌, length, eqb, if◌then◌else◌, ap, ap₂, refl, subst, arith, map}
use Rattle.std.specs.Prelude.{Option, Some, IsTrue}
use Rattle.stream_type.specs.StreamType.{StreamType, eps}
use Rattle.stream_prefix.specs.StreamPrefix.{StreamPrefix, eps_emp, emp, is_maximal, IsPart}
use Rattle.stream_prefix.proofs.Derivations.{Derives, eps_has_emp}
use Rattle.stream_prefix.proofs.Parts.{part_refl}
use Rattle.bunch.specs.Names.{holds, value_at}
use Rattle.bunch.specs.BunchTree.{BunchTree, empty, leaf, comma, semi, leaf_names}
use Rattle.hist_value.specs.HistType.{HistType, past}
use Rattle.hist_value.specs.HistValue.{HistValue, HasType, unit_value}
use Rattle.hist_value.specs.HistExpr.{HistExpr}
use Rattle.hist_value.specs.Laws.{HasTypes}
use Rattle.hist_value.proofs.TypedValues.{value_has_type}
use Rattle.core_term.specs.CoreTerm.{CoreBody, leaf_types, past_names, past_types}
use Rattle.core_term.specs.Agreement.{types_in}
use Rattle.core_term.specs.Meaning.{Past, values}
use Rattle.core_term.specs.Typing.{HavePasts, past_params}

-- the values of two lists of names, one after the other
value_at-append : {A : Type 0} (d : A) (xs ys : List ℕ) (vs ws : List A) (x : ℕ) → length vs ≡ length xs → value_at d (xs ++ ys) (vs ++ ws) x ≡ (if holds x xs then value_at d xs vs x else value_at d ys ws x)
value_at-append d [] ys [] ws x e = refl
value_at-append d [] ys (v ∷ vs) ws x e = absurd (omega arith)
value_at-append d (z ∷ zs) ys [] ws x e = absurd (omega arith)
value_at-append d (z ∷ zs) ys (v ∷ vs) ws x e = let n : length vs ≡ length zs = omega arith in go (eqb x z) (value_at-append d zs ys vs ws x n)
  where
    go : (c : Bool) → value_at d (zs ++ ys) (vs ++ ws) x ≡ (if holds x zs then value_at d zs vs x else value_at d ys ws x)
        → (if c then v else value_at d (zs ++ ys) (vs ++ ws) x) ≡ (if (c || holds x zs) then (if c then v else value_at d zs vs x) else value_at d ys ws x)
    go true k = refl
    go false k = k

pub length-appended : {A B : Type 0} (as' bs : List A) (cs ds : List B) → length as' ≡ length cs → length bs ≡ length ds → length (as' ++ bs) ≡ length (cs ++ ds)
length-appended [] bs [] ds e h = h
length-appended [] bs (c ∷ cs) ds e h = absurd (omega arith)
length-appended (a ∷ as') bs [] ds e h = absurd (omega arith)
length-appended (a ∷ as') bs (c ∷ cs) ds e h = let n : length as' ≡ length cs = omega arith in ap suc (length-appended as' bs cs ds n h)

-- a bunch has as many types as names
pub length-leaf_types : (b : BunchTree) → length (leaf_types b) ≡ length (leaf_names b)
length-leaf_types empty = refl
length-leaf_types (leaf x t) = refl
length-leaf_types (comma a b) = length-appended (leaf_types a) (leaf_types b) (leaf_names a) (leaf_names b) (length-leaf_types a) (length-leaf_types b)
length-leaf_types (semi a b) = length-appended (leaf_types a) (leaf_types b) (leaf_names a) (leaf_names b) (length-leaf_types a) (length-leaf_types b)

-- the type of each name is the one that stands beside it
pub value_at-leaf_types : (b : BunchTree) (x : ℕ) → value_at eps (leaf_names b) (leaf_types b) x ≡ types_in b x
value_at-leaf_types empty x = refl
value_at-leaf_types (leaf z t) x = refl
value_at-leaf_types (comma a b) x =
    value_at-append eps (leaf_names a) (leaf_names b) (leaf_types a) (leaf_types b) x (length-leaf_types a) ∙ ap₂ (λ s t. if holds x (leaf_names a) then s else t) (value_at-leaf_types a x) (value_at-leaf_types b x)
value_at-leaf_types (semi a b) x =
    value_at-append eps (leaf_names a) (leaf_names b) (leaf_types a) (leaf_types b) x (length-leaf_types a) ∙ ap₂ (λ s t. if holds x (leaf_names a) then s else t) (value_at-leaf_types a x) (value_at-leaf_types b x)

-- prefixes of these types, one by one
pub data Prefixes : List StreamType → List StreamPrefix → Type 0 where
  no_prefixes : Prefixes [] []
  prefix_before : {t : StreamType} {ts : List StreamType} {p : StreamPrefix} {ps : List StreamPrefix} → Derives t p → Prefixes ts ps → Prefixes (t ∷ ts) (p ∷ ps)

-- prefixes of these types, and for each a longer one
pub data Longer : List StreamType → List StreamPrefix → List StreamPrefix → Type 0 where
  none_longer : Longer [] [] []
  one_longer : {t : StreamType} {ts : List StreamType} {p q : StreamPrefix} {ps qs : List StreamPrefix} → Derives t p → IsPart t p q → Longer ts ps qs → Longer (t ∷ ts) (p ∷ ps) (q ∷ qs)

-- each of them is whole
pub data Wholes : List StreamPrefix → Type 0 where
  no_wholes : Wholes []
  whole_before : {p : StreamPrefix} {ps : List StreamPrefix} → IsTrue (is_maximal p) → Wholes ps → Wholes (p ∷ ps)

-- each of them is the empty one of its type
pub data Empties : List StreamType → List StreamPrefix → Type 0 where
  no_empties : Empties [] []
  empty_before : {t : StreamType} {ts : List StreamType} {p : StreamPrefix} {ps : List StreamPrefix} → p ≡ emp t → Empties ts ps → Empties (t ∷ ts) (p ∷ ps)

-- values of whole streams of these types, one by one
pub data PastValues : List StreamType → List HistValue → Type 0 where
  no_values : PastValues [] []
  value_before : {t : StreamType} {ts : List StreamType} {v : HistValue} {vs : List HistValue} → HasType (past t) v → PastValues ts vs → PastValues (t ∷ ts) (v ∷ vs)

pub prefixes_of_longer : {ts : List StreamType} {ps qs : List StreamPrefix} → Longer ts ps qs → Prefixes ts ps
prefixes_of_longer none_longer = no_prefixes
prefixes_of_longer (one_longer h g k) = prefix_before h (prefixes_of_longer k)

module _ (x : ℕ) where
  at_names : (us : List ℕ) {ts : List StreamType} {ps : List StreamPrefix} → Prefixes ts ps → Derives (value_at eps us ts x) (value_at eps_emp us ps x)
  at_names [] no_prefixes = eps_has_emp
  at_names [] (prefix_before h k) = eps_has_emp
  at_names (u ∷ us) no_prefixes = eps_has_emp
  at_names (u ∷ us) (prefix_before {t = t} {ts = ts} {p = p} {ps = ps} h k) = go (eqb x u) (at_names us k)
    where
      go : (c : Bool) → Derives (value_at eps us ts x) (value_at eps_emp us ps x) → Derives (if c then t else value_at eps us ts x) (if c then p else value_at eps_emp us ps x)
      go true i = h
      go false i = i

  longer_at_names : (us : List ℕ) {ts : List StreamType} {ps qs : List StreamPrefix} → Longer ts ps qs → IsPart (value_at eps us ts x) (value_at eps_emp us ps x) (value_at eps_emp us qs x)
  longer_at_names [] none_longer = part_refl eps_has_emp
  longer_at_names [] (one_longer h g k) = part_refl eps_has_emp
  longer_at_names (u ∷ us) none_longer = part_refl eps_has_emp
  longer_at_names (u ∷ us) (one_longer {t = t} {ts = ts} {p = p} {q = q} {ps = ps} {qs = qs} h g k) = go (eqb x u) (longer_at_names us k)
    where
      go : (c : Bool) → IsPart (value_at eps us ts x) (value_at eps_emp us ps x) (value_at eps_emp us qs x)
          → IsPart (if c then t else value_at eps us ts x) (if c then p else value_at eps_emp us ps x) (if c then q else value_at eps_emp us qs x)
      go true i = g
      go false i = i

  -- what is bound to whole arguments is whole
  pub whole_at_names : (us : List ℕ) {ps : List StreamPrefix} → Wholes ps → IsTrue (is_maximal (value_at eps_emp us ps x))
  whole_at_names [] no_wholes = refl
  whole_at_names [] (whole_before m k) = refl
  whole_at_names (u ∷ us) no_wholes = refl
  whole_at_names (u ∷ us) (whole_before {p = p} {ps = ps} m k) = go (eqb x u) (whole_at_names us k)
    where
      go : (c : Bool) → IsTrue (is_maximal (value_at eps_emp us ps x)) → IsTrue (is_maximal (if c then p else value_at eps_emp us ps x))
      go true i = m
      go false i = i

  empty_at_names : (us : List ℕ) {ts : List StreamType} {ps : List StreamPrefix} → Empties ts ps → value_at eps_emp us ps x ≡ emp (value_at eps us ts x)
  empty_at_names [] no_empties = refl
  empty_at_names [] (empty_before e k) = refl
  empty_at_names (u ∷ us) no_empties = refl
  empty_at_names (u ∷ us) (empty_before {t = t} {ts = ts} {p = p} {ps = ps} e k) = go (eqb x u) (empty_at_names us k)
    where
      go : (c : Bool) → value_at eps_emp us ps x ≡ emp (value_at eps us ts x) → (if c then p else value_at eps_emp us ps x) ≡ emp (if c then t else value_at eps us ts x)
      go true i = e
      go false i = i

-- each parameter has a prefix of its type
pub params_derive : (b : BunchTree) {ps : List StreamPrefix} → Prefixes (leaf_types b) ps → (x : ℕ) → Derives (types_in b x) (value_at eps_emp (leaf_names b) ps x)
params_derive b {ps = ps} h x = subst (λ t. Derives t (value_at eps_emp (leaf_names b) ps x)) (value_at-leaf_types b x) (at_names x (leaf_names b) h)

-- and a longer one where the argument is longer
pub params_grow : (b : BunchTree) {ps qs : List StreamPrefix} → Longer (leaf_types b) ps qs → (x : ℕ) → IsPart (types_in b x) (value_at eps_emp (leaf_names b) ps x) (value_at eps_emp (leaf_names b) qs x)
params_grow b {ps = ps} {qs = qs} h x = subst (λ t. IsPart t (value_at eps_emp (leaf_names b) ps x) (value_at eps_emp (leaf_names b) qs x)) (value_at-leaf_types b x) (longer_at_names x (leaf_names b) h)

-- nothing has come on a parameter whose argument is empty
pub params_empty : (b : BunchTree) {ps : List StreamPrefix} → Empties (leaf_types b) ps → (x : ℕ) → value_at eps_emp (leaf_names b) ps x ≡ emp (types_in b x)
params_empty b h x = empty_at_names x (leaf_names b) h ∙ ap emp (value_at-leaf_types b x)

-- historical arguments have values of their types
pub values_have : (H : ℕ → Option HistType) (ms : List HistExpr) (ts : List StreamType) (p : Past) → HasTypes H p → HavePasts H ms ts → PastValues ts (values ms p)
values_have H [] [] p f h = no_values
values_have H (m ∷ ms) (t ∷ ts) p f h = value_before (value_has_type H p f m (Some (past t)) (past t) h.0) (values_have H ms ts p f h.1)
values_have H [] (t ∷ ts) p f h = absurd h
values_have H (m ∷ ms) [] p f h = absurd h

-- so the historical parameters have
params_have : (es : List (ℕ × StreamType)) {vs : List HistValue} → PastValues (map (λ e. e.1) es) vs → HasTypes (past_params es) (value_at unit_value (map (λ e. e.0) es) vs)
params_have [] h x t k = absurd (cc k)
params_have (e ∷ es) (value_before {v = v} {vs = vs} h i) x t k = go (eqb x e.0) (params_have es i x t) k
  where
    go : (c : Bool) → (past_params es x ≡ Some t → HasType t (value_at unit_value (map (λ e. e.0) es) vs x)) → (if c then Some (past e.1) else past_params es x) ≡ Some t
        → HasType t (if c then v else value_at unit_value (map (λ e. e.0) es) vs x)
    go true f k = let same : past e.1 ≡ t = cc k in subst (λ u. HasType u v) same h
    go false f k = f k

pub past_params_have : (b : CoreBody) {vs : List HistValue} → PastValues (past_types b) vs → HasTypes (past_params b.past) (value_at unit_value (past_names b) vs)
past_params_have b h = params_have b.past h
