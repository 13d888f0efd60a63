-- When a bunch derives a term at a type: a bunch is rearranged by any steps, and then the rule of the term's form
-- is used. How a derivation is written down or checked isn't said here.
--
-- Choices that are not obvious:
-- - Each rule takes its bunch as it stands: what is to stand apart, or at the root, is put there by steps before it.
-- - Historical names are known beside the bunch. A new stream name hides a historical one of the same number,
--   as it does in the rules of typing.
-- - The names of a leaf aren't asked to be distinct. Where a program binds each name once they are, and no rule
--   or step makes a name stand twice.
use Rattle.std.specs.Prelude.{ℕ, ◌≡◌, ◌⊎◌, Bool, true, false, List, Option, Some, None, IsTrue}
use Rattle.std.specs.List.{All}
use Rattle.stream_type.specs.StreamType.{StreamType, eps, one, cat, par, sum, star, null_of}
use Rattle.bunch.specs.Names.{put}
use Rattle.bunch.specs.BunchTree.{BunchTree, empty, leaf, comma, semi, stands_before}
use Rattle.hist_value.specs.HistType.{HistType, past}
use Rattle.hist_value.specs.HistExpr.{HistExpr}
use Rattle.hist_value.specs.Typing.{Gives}
use Rattle.core_term.specs.CoreTerm.{CoreTerm, CoreTerms, CoreBody, CoreProgram, var_term, eps_term, unit_term, nil_term, past_term, par_term, cat_term, cons_term, inl_term, inr_term, let_term, let_par_term, let_cat_term, case_sum_term, case_star_term, wait_term, call_term, no_terms, term_before, past_types, fun_at, is_there}
use Rattle.core_term.specs.Agreement.{types_in}
use Rattle.core_term.specs.Inert.{is_inert, is_inert_fun}
use Rattle.core_term.specs.Typing.{HavePasts, passed, past_params}
use Rattle.bunch_rules.specs.Rearranging.{Turn, Replaces, StepName, Becomes, stays_first}

-- the types of the historical names
abbrev pub Known : Type 0
Known = ℕ → Option HistType

-- a new stream name hides a historical one
abbrev pub hidden : ℕ → Known → Known
hidden x known = put x None known

-- the whole stream of x, of type t, is known
abbrev pub learned : ℕ → StreamType → Known → Known
learned x t known = put x (Some (past t)) known

-- somewhere in the bunch stands x with the type t
abbrev pub HasLeaf : BunchTree → ℕ → StreamType → Type 0
HasLeaf empty x t = ⊥
HasLeaf (leaf z s) x t = (z ≡ x) × (s ≡ t)
HasLeaf (comma a b) x t = HasLeaf a x t ⊎ HasLeaf b x t
HasLeaf (semi a b) x t = HasLeaf a x t ⊎ HasLeaf b x t

module _ (funs : List CoreBody) (counts : ℕ → Bool) where
  -- of a call, each argument that has a parameter before it is inert
  abbrev pub WaitTheirTurn : CoreBody → CoreTerms → Type 0
  WaitTheirTurn b es = (u v : ℕ) → stands_before b.params u v ≡ true → is_inert (fun_at funs) counts (passed b es v) (types_in b.params v) ≡ true

  mutual
    -- a bunch derives a term at a type
    pub data Derives : Known → BunchTree → CoreTerm → StreamType → Type 0 where
      -- after a step at the end of a path
      rearranged : {known : Known} {w : StepName} {p : List Turn} {d e g h : BunchTree} {a : CoreTerm} {r : StreamType}
          → Becomes w d e → Replaces d e p g h → Derives known h a r → Derives known g a r
      -- a name that stands anywhere in the bunch
      var_rule : {known : Known} {g : BunchTree} {x : ℕ} {r : StreamType} → HasLeaf g x r → Derives known g (var_term x) r
      eps_rule : {known : Known} {g : BunchTree} → Derives known g eps_term eps
      unit_rule : {known : Known} {g : BunchTree} → Derives known g unit_term one
      nil_rule : {known : Known} {g : BunchTree} {s : StreamType} → Derives known g nil_term (star s)
      past_rule : {known : Known} {g : BunchTree} {m : HistExpr} {r : StreamType} → Gives known m (Some (past r)) (past r) → Derives known g (past_term m) r
      -- both parts are derived in the whole bunch
      par_rule : {known : Known} {g : BunchTree} {a b : CoreTerm} {s t : StreamType} → Derives known g a s → Derives known g b t
          → Derives known g (par_term a b) (par s t)
      inl_rule : {known : Known} {g : BunchTree} {a : CoreTerm} {s t : StreamType} → Derives known g a s → Derives known g (inl_term a) (sum s t)
      inr_rule : {known : Known} {g : BunchTree} {a : CoreTerm} {s t : StreamType} → Derives known g a t → Derives known g (inr_term a) (sum s t)
      -- the first part is derived left of a semicolon, and the second right of it
      cat_rule : {known : Known} {g h : BunchTree} {a b : CoreTerm} {s t : StreamType} → Derives known g a s → Derives known h b t
          → Derives known (semi g h) (cat_term a b) (cat s t)
      cons_rule : {known : Known} {g h : BunchTree} {a b : CoreTerm} {s : StreamType} → Derives known g a s → Derives known h b (star s)
          → Derives known (semi g h) (cons_term a b) (star s)
      -- what x is bound to is derived in a part of the bunch; there x stands beside that part. What isn't inert
      -- may stand right of no semicolon
      let_rule : {known : Known} {p : List Turn} {d g h : BunchTree} {x : ℕ} {s r : StreamType} {a b : CoreTerm} → Replaces d (comma d (leaf x s)) p g h
          → (is_inert (fun_at funs) counts a s ≡ true) ⊎ (stays_first p g ≡ true) → Derives known d a s → Derives (hidden x known) h b r
          → Derives known g (let_term x s a b) r
      -- the parts stand beside the name that they are of
      let_par_rule : {known : Known} {p : List Turn} {g h : BunchTree} {x y z : ℕ} {s t r : StreamType} {a : CoreTerm}
          → Replaces (leaf z (par s t)) (comma (leaf z (par s t)) (comma (leaf x s) (leaf y t))) p g h
          → Derives (hidden y (hidden x known)) h a r → Derives known g (let_par_term x y z a) r
      let_cat_rule : {known : Known} {p : List Turn} {g h : BunchTree} {x y z : ℕ} {s t r : StreamType} {a : CoreTerm}
          → Replaces (leaf z (cat s t)) (comma (leaf z (cat s t)) (semi (leaf x s) (leaf y t))) p g h
          → Derives (hidden y (hidden x known)) h a r → Derives known g (let_cat_term x y z a) r
      case_sum_rule : {known : Known} {p q : List Turn} {g h k : BunchTree} {x y z : ℕ} {s t r : StreamType} {a b : CoreTerm}
          → Replaces (leaf z (sum s t)) (comma (leaf z (sum s t)) (leaf x s)) p g h → Derives (hidden x known) h a r
          → Replaces (leaf z (sum s t)) (comma (leaf z (sum s t)) (leaf y t)) q g k → Derives (hidden y known) k b r
          → Derives known g (case_sum_term z r x a y b) r
      -- where there is no item nothing is added
      case_star_rule : {known : Known} {p : List Turn} {g h : BunchTree} {y ys z : ℕ} {s r : StreamType} {a b : CoreTerm} → Derives known g a r
          → Replaces (leaf z (star s)) (comma (leaf z (star s)) (semi (leaf y s) (leaf ys (star s)))) p g h
          → Derives (hidden ys (hidden y known)) h b r → Derives known g (case_star_term z r a y ys b) r
      -- the name leaves the bunch and is known, where its stream has something to wait for
      wait_rule : {known : Known} {p : List Turn} {g h : BunchTree} {x : ℕ} {s r : StreamType} {a : CoreTerm} → null_of s ≡ false
          → Replaces (leaf x s) empty p g h
          → Derives (learned x s known) h a r → Derives known g (wait_term x r a) r
      -- the arguments share the bunch as the parameters share theirs
      call_rule : {known : Known} {g : BunchTree} {f : ℕ} {ms : List HistExpr} {es : CoreTerms} {r : StreamType} → IsTrue (is_there funs f)
          → (fun_at funs f).result ≡ r → HavePasts known ms (past_types (fun_at funs f))
          → Passes known (fun_at funs f).params g es → WaitTheirTurn (fun_at funs f) es → Derives known g (call_term f ms es) r

    -- a bunch derives the arguments of parameters
    pub data Passes : Known → BunchTree → BunchTree → CoreTerms → Type 0 where
      -- without parameters any bunch will do
      nothing_passed : {known : Known} {g : BunchTree} → Passes known empty g no_terms
      shared : {known : Known} {params g : BunchTree} {es : CoreTerms} → Shares known params g es no_terms → Passes known params g es

    -- a bunch of the shape of the parameters, with a bunch in the place of each leaf, derives the first of the
    -- arguments, each in its own bunch at its parameter's type; the second arguments are those that are left
    pub data Shares : Known → BunchTree → BunchTree → CoreTerms → CoreTerms → Type 0 where
      empty_shared : {known : Known} {es : CoreTerms} → Shares known empty empty es es
      leaf_shared : {known : Known} {u : ℕ} {t : StreamType} {g : BunchTree} {e : CoreTerm} {es : CoreTerms} → Derives known g e t
          → Shares known (leaf u t) g (term_before e es) es
      comma_shared : {known : Known} {a b g h : BunchTree} {es fs gs : CoreTerms} → Shares known a g es fs → Shares known b h fs gs
          → Shares known (comma a b) (comma g h) es gs
      semi_shared : {known : Known} {a b g h : BunchTree} {es fs gs : CoreTerms} → Shares known a g es fs → Shares known b h fs gs
          → Shares known (semi a b) (semi g h) es gs

-- the parameters of a body derive it at its result
abbrev pub IsDerivedBody : List CoreBody → CoreBody → Type 0
IsDerivedBody funs b = Derives funs (is_inert_fun funs) (past_params b.past) b.params b.body b.result

-- a program is derived where each of its bodies is
pub record IsDerived (c : CoreProgram) : Type 0 where
  pub funs_derived : All (IsDerivedBody c.funs) c.funs
  pub main_derived : IsDerivedBody c.funs c.main
