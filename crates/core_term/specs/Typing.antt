-- Which core terms are typed: the rules, by recursion on the term.
--
-- Choices that are not obvious:
-- - A context says of each name whether it is a stream variable, a historical one or neither, so that
--   the rules can ask. The types of all names, as the meaning takes them, are `types_of` of it.
-- - A wait makes its subject historical, and a historical name stands before nothing and nothing before
--   it. The facts of the context stay as they are: the rules on order read them of stream names alone.
-- - That a form's new names are other than its subject isn't asked here: a program binds each name at
--   most once (`IsCore`).
use Rattle.std.specs.Prelude.{ℕ, ◌≡◌, ◌==◌, Bool, true, false, ◌&&◌, ⊤, if◌then◌else◌, List, [], ◌∷◌, Option, Some, None, is_some, unwrap_or, IsTrue}
use Rattle.std.specs.List.{All}
use Rattle.stream_type.specs.StreamType.{StreamType, eps, one, cat, par, sum, star, null_of}
use Rattle.bunch.specs.Names.{put, holds}
use Rattle.bunch.specs.BunchTree.{leaf_names, stands_before}
use Rattle.bunch.specs.Facts.{Facts, place_like, place_let, put_before}
use Rattle.hist_value.specs.HistType.{HistType, past}
use Rattle.hist_value.specs.HistExpr.{HistExpr}
use Rattle.hist_value.specs.Typing.{Gives}
use Rattle.core_term.specs.CoreTerm.{CoreTerm, CoreTerms, CoreBody, CoreProgram, var_term, eps_term, unit_term, nil_term, past_term, par_term, cat_term, cons_term, inl_term, inr_term, let_term, let_par_term, let_cat_term, case_sum_term, case_star_term, wait_term, call_term, no_terms, term_before, leaf_types, past_types, fun_at, is_there}
use Rattle.core_term.specs.FreeNames.{free_names}
use Rattle.core_term.specs.Environment.{NameTypes}
use Rattle.core_term.specs.Agreement.{types_in}
use Rattle.core_term.specs.Inert.{is_inert, is_inert_fun}
use Rattle.core_term.specs.Parts.{par_left, par_right, cat_first, cat_second, sum_left, sum_right, star_item, star_items}

-- the names that a term may use: the types of the stream variables, which of them stand before which,
-- and the types of the historical variables
pub record Context : Type 0 where
  pub types : ℕ → Option StreamType
  pub order : Facts
  pub past : ℕ → Option HistType

-- the type of a stream variable; any other name counts as of type `eps`
abbrev pub type_at : Context → ℕ → StreamType
type_at c x = unwrap_or (c.types x) eps

-- the types of all names, as the meaning takes them
abbrev pub types_of : Context → NameTypes
types_of c x = type_at c x

-- whether x and y are stream variables and x stands before y
abbrev pub is_before : Context → ℕ → ℕ → Bool
is_before c x y = (is_some (c.types x) && is_some (c.types y)) && c.order x y

-- each name of the first list stands before each of the second
abbrev pub AllBefore : Context → List ℕ → List ℕ → Type 0
AllBefore c xs ys = (x y : ℕ) → holds x xs ≡ true → holds y ys ≡ true → is_before c x y ≡ true

-- a new stream variable x of type s, with the facts that are known then; it hides what stood at x
abbrev pub with_name : ℕ → StreamType → Facts → Context → Context
with_name x s order c = record { types = put x (Some s) c.types; order = order; past = put x None c.past }

-- the same, placed like z
abbrev pub with_name_like : ℕ → StreamType → ℕ → Context → Context
with_name_like x s z c = with_name x s (place_like x z c.order) c

-- x before y
abbrev pub with_fact : ℕ → ℕ → Context → Context
with_fact x y c = record { types = c.types; order = put_before x y c.order; past = c.past }

-- both parts of z's stream: x of type s, and y of type t
abbrev pub with_parts : ℕ → StreamType → ℕ → StreamType → ℕ → Context → Context
with_parts x s y t z c = with_name_like y t z (with_name_like x s z c)

-- x is historical from here on
abbrev pub waited : ℕ → Context → Context
waited x c = record { types = put x None c.types; order = c.order; past = put x (Some (past (type_at c x))) c.past }

-- x is a stream variable, and its type has the form of t
abbrev pub HasForm : Context → ℕ → StreamType → Type 0
HasForm c z t = c.types z ≡ Some t

-- historical arguments have the types of the values of these streams
abbrev pub HavePasts : (ℕ → Option HistType) → List HistExpr → List StreamType → Type 0
HavePasts env [] [] = ⊤
HavePasts env (m ∷ ms) (t ∷ ts) = Gives env m (Some (past t)) (past t) × HavePasts env ms ts
HavePasts env _ _ = ⊥

-- the argument in the place of a parameter
abbrev pub argument_of : List ℕ → CoreTerms → ℕ → CoreTerm
argument_of [] es u = eps_term
argument_of (v ∷ us) no_terms u = eps_term
argument_of (v ∷ us) (term_before e es) u = if u == v then e else argument_of us es u

-- the argument of a body's parameter
abbrev pub passed : CoreBody → CoreTerms → ℕ → CoreTerm
passed b es u = argument_of (leaf_names b.params) es u

module _ (funs : List CoreBody) (counts : ℕ → Bool) where
  -- a let's name: it is placed by the free names of what it is bound to, and by whether that is inert
  abbrev pub with_let : ℕ → StreamType → CoreTerm → Context → Context
  with_let x s a c = with_name x s (place_let x (free_names a) (is_inert (fun_at funs) counts a s) c.order) c

  -- of a call, where the parameter u stands before v: the free names of u's argument stand before those
  -- of v's, and v's argument is inert
  pub record PassesInOrder (c : Context) (b : CoreBody) (es : CoreTerms) (u v : ℕ) : Type 0 where
    pub in_order : AllBefore c (free_names (passed b es u)) (free_names (passed b es v))
    pub is_still : is_inert (fun_at funs) counts (passed b es v) (types_in b.params v) ≡ true

  abbrev mutual
    -- a term has a type in a context
    pub HasType : Context → CoreTerm → StreamType → Type 0
    HasType c (var_term x) r = c.types x ≡ Some r
    HasType c eps_term r = r ≡ eps
    HasType c unit_term r = r ≡ one
    HasType c nil_term r = r ≡ star (star_item r)
    HasType c (past_term m) r = Gives c.past m (Some (past r)) (past r)
    HasType c (par_term a b) (par s t) = HasType c a s × HasType c b t
    HasType c (par_term a b) _ = ⊥
    HasType c (cat_term a b) (cat s t) = HasType c a s × HasType c b t × AllBefore c (free_names a) (free_names b)
    HasType c (cat_term a b) _ = ⊥
    HasType c (cons_term a b) (star s) = HasType c a s × HasType c b (star s) × AllBefore c (free_names a) (free_names b)
    HasType c (cons_term a b) _ = ⊥
    HasType c (inl_term a) (sum s t) = HasType c a s
    HasType c (inl_term a) _ = ⊥
    HasType c (inr_term a) (sum s t) = HasType c a t
    HasType c (inr_term a) _ = ⊥
    HasType c (let_term x s a b) r = HasType c a s × HasType (with_let x s a c) b r
    HasType c (let_par_term x y z a) r =
        HasForm c z (par (par_left (type_at c z)) (par_right (type_at c z)))
        × HasType (with_parts x (par_left (type_at c z)) y (par_right (type_at c z)) z c) a r
    HasType c (let_cat_term x y z a) r =
        HasForm c z (cat (cat_first (type_at c z)) (cat_second (type_at c z)))
        × HasType (with_fact x y (with_parts x (cat_first (type_at c z)) y (cat_second (type_at c z)) z c)) a r
    HasType c (case_sum_term z t x a y b) r =
        (t ≡ r) × HasForm c z (sum (sum_left (type_at c z)) (sum_right (type_at c z)))
        × HasType (with_name_like x (sum_left (type_at c z)) z c) a r
        × HasType (with_name_like y (sum_right (type_at c z)) z c) b r
    HasType c (case_star_term z t a y ys b) r =
        (t ≡ r) × HasForm c z (star (star_item (type_at c z)))
        × HasType c a r
        × HasType (with_fact y ys (with_parts y (star_item (type_at c z)) ys (star_items (type_at c z)) z c)) b r
    HasType c (wait_term x t a) r =
        (t ≡ r) × HasForm c x (type_at c x) × (null_of (type_at c x) ≡ false) × HasType (waited x c) a r
    HasType c (call_term f ms es) r =
        IsTrue (is_there funs f) × ((fun_at funs f).result ≡ r) × HavePasts c.past ms (past_types (fun_at funs f))
        × HaveTypes c es (leaf_types (fun_at funs f).params)
        × ((u v : ℕ) → stands_before (fun_at funs f).params u v ≡ true → PassesInOrder c (fun_at funs f) es u v)

    -- arguments have types, one by one
    pub HaveTypes : Context → CoreTerms → List StreamType → Type 0
    HaveTypes c no_terms [] = ⊤
    HaveTypes c (term_before e es) (t ∷ ts) = HasType c e t × HaveTypes c es ts
    HaveTypes c _ _ = ⊥

-- the types of historical parameters
abbrev pub past_params : List (ℕ × StreamType) → ℕ → Option HistType
past_params [] x = None
past_params (e ∷ es) x = if x == e.0 then Some (past e.1) else past_params es x

-- the context of a body: its parameters in their order
abbrev pub context_of : CoreBody → Context
context_of b =
    record {
      types = λ x. if holds x (leaf_names b.params) then Some (types_in b.params x) else None;
      order = stands_before b.params;
      past =
          past_params b.past;
    }

-- a body has its result's type, among these functions
abbrev pub IsTypedBody : List CoreBody → CoreBody → Type 0
IsTypedBody funs b = HasType funs (is_inert_fun funs) (context_of b) b.body b.result

-- a program is typed where each of its bodies is
pub record IsTypedCore (c : CoreProgram) : Type 0 where
  pub funs_typed : All (IsTypedBody c.funs) c.funs
  pub main_typed : IsTypedBody c.funs c.main
