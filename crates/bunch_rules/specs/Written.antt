-- Derivations written down: lines, of which each is a step or a rule, in the order of reading the terms.
--
-- Choices that are not obvious:
-- - Each relation takes the lines from some place on and says which are left behind its term. A program's lines
--   are those of its functions in turn and of main last, and none is left.
-- - Only a let's rule has a path, which says what the let's name stands beside; each other form finds its leaf.
use Rattle.std.specs.Prelude.{ℕ, ◌≡◌, ◌⊎◌, Bool, true, false, List, [], ◌∷◌, Some, IsTrue}
use Rattle.stream_type.specs.StreamType.{StreamType, eps, one, cat, par, sum, star, null_of}
use Rattle.bunch.specs.BunchTree.{BunchTree, empty, leaf, comma, semi}
use Rattle.hist_value.specs.HistType.{past}
use Rattle.hist_value.specs.HistExpr.{HistExpr}
use Rattle.hist_value.specs.Typing.{Gives}
use Rattle.core_term.specs.CoreTerm.{CoreTerm, CoreTerms, CoreBody, CoreProgram, var_term, eps_term, unit_term, nil_term, past_term, par_term, cat_term, cons_term, inl_term, inr_term, let_term, let_par_term, let_cat_term, case_sum_term, case_star_term, wait_term, call_term, no_terms, term_before, past_types, fun_at, is_there}
use Rattle.core_term.specs.Inert.{is_inert, is_inert_fun}
use Rattle.core_term.specs.Typing.{HavePasts, past_params}
use Rattle.bunch_rules.specs.Rearranging.{Turn, Replaces, StepName, Becomes, stays_first}
use Rattle.bunch_rules.specs.Derivation.{Known, hidden, learned, HasLeaf, WaitTheirTurn}

-- a line: a rule, a rule at the end of a path, or a step there
pub data Line : Type 0 where
  plain_rule : Line
  rule_at : (p : List Turn) → Line
  step_at : (w : StepName) (p : List Turn) → Line

module _ (funs : List CoreBody) (counts : ℕ → Bool) where
  mutual
    -- the first lines write that a bunch derives a term at a type, and the second are left
    pub data Writes : Known → BunchTree → CoreTerm → StreamType → List Line → List Line → Type 0 where
      line_of_step : {known : Known} {w : StepName} {p : List Turn} {d e g h : BunchTree} {a : CoreTerm} {r : StreamType} {ls ms : List Line}
          → Becomes w d e → Replaces d e p g h → Writes known h a r ls ms → Writes known g a r (step_at w p ∷ ls) ms
      var_line : {known : Known} {g : BunchTree} {x : ℕ} {r : StreamType} {ls : List Line} → HasLeaf g x r → Writes known g (var_term x) r (plain_rule ∷ ls) ls
      eps_line : {known : Known} {g : BunchTree} {ls : List Line} → Writes known g eps_term eps (plain_rule ∷ ls) ls
      unit_line : {known : Known} {g : BunchTree} {ls : List Line} → Writes known g unit_term one (plain_rule ∷ ls) ls
      nil_line : {known : Known} {g : BunchTree} {s : StreamType} {ls : List Line} → Writes known g nil_term (star s) (plain_rule ∷ ls) ls
      past_line : {known : Known} {g : BunchTree} {m : HistExpr} {r : StreamType} {ls : List Line} → Gives known m (Some (past r)) (past r)
          → Writes known g (past_term m) r (plain_rule ∷ ls) ls
      par_line : {known : Known} {g : BunchTree} {a b : CoreTerm} {s t : StreamType} {ls ms ns : List Line} → Writes known g a s ls ms
          → Writes known g b t ms ns → Writes known g (par_term a b) (par s t) (plain_rule ∷ ls) ns
      inl_line : {known : Known} {g : BunchTree} {a : CoreTerm} {s t : StreamType} {ls ms : List Line} → Writes known g a s ls ms
          → Writes known g (inl_term a) (sum s t) (plain_rule ∷ ls) ms
      inr_line : {known : Known} {g : BunchTree} {a : CoreTerm} {s t : StreamType} {ls ms : List Line} → Writes known g a t ls ms
          → Writes known g (inr_term a) (sum s t) (plain_rule ∷ ls) ms
      cat_line : {known : Known} {g h : BunchTree} {a b : CoreTerm} {s t : StreamType} {ls ms ns : List Line} → Writes known g a s ls ms
          → Writes known h b t ms ns → Writes known (semi g h) (cat_term a b) (cat s t) (plain_rule ∷ ls) ns
      cons_line : {known : Known} {g h : BunchTree} {a b : CoreTerm} {s : StreamType} {ls ms ns : List Line} → Writes known g a s ls ms
          → Writes known h b (star s) ms ns → Writes known (semi g h) (cons_term a b) (star s) (plain_rule ∷ ls) ns
      let_line : {known : Known} {p : List Turn} {d g h : BunchTree} {x : ℕ} {s r : StreamType} {a b : CoreTerm} {ls ms ns : List Line}
          → Replaces d (comma d (leaf x s)) p g h → (is_inert (fun_at funs) counts a s ≡ true) ⊎ (stays_first p g ≡ true) → Writes known d a s ls ms
          → Writes (hidden x known) h b r ms ns → Writes known g (let_term x s a b) r (rule_at p ∷ ls) ns
      let_par_line : {known : Known} {p : List Turn} {g h : BunchTree} {x y z : ℕ} {s t r : StreamType} {a : CoreTerm} {ls ms : List Line}
          → Replaces (leaf z (par s t)) (comma (leaf z (par s t)) (comma (leaf x s) (leaf y t))) p g h
          → Writes (hidden y (hidden x known)) h a r ls ms → Writes known g (let_par_term x y z a) r (plain_rule ∷ ls) ms
      let_cat_line : {known : Known} {p : List Turn} {g h : BunchTree} {x y z : ℕ} {s t r : StreamType} {a : CoreTerm} {ls ms : List Line}
          → Replaces (leaf z (cat s t)) (comma (leaf z (cat s t)) (semi (leaf x s) (leaf y t))) p g h
          → Writes (hidden y (hidden x known)) h a r ls ms → Writes known g (let_cat_term x y z a) r (plain_rule ∷ ls) ms
      case_sum_line : {known : Known} {p q : List Turn} {g h k : BunchTree} {x y z : ℕ} {s t r : StreamType} {a b : CoreTerm} {ls ms ns : List Line}
          → Replaces (leaf z (sum s t)) (comma (leaf z (sum s t)) (leaf x s)) p g h → Writes (hidden x known) h a r ls ms
          → Replaces (leaf z (sum s t)) (comma (leaf z (sum s t)) (leaf y t)) q g k → Writes (hidden y known) k b r ms ns
          → Writes known g (case_sum_term z r x a y b) r (plain_rule ∷ ls) ns
      case_star_line : {known : Known} {p : List Turn} {g h : BunchTree} {y ys z : ℕ} {s r : StreamType} {a b : CoreTerm} {ls ms ns : List Line}
          → Writes known g a r ls ms → Replaces (leaf z (star s)) (comma (leaf z (star s)) (semi (leaf y s) (leaf ys (star s)))) p g h
          → Writes (hidden ys (hidden y known)) h b r ms ns → Writes known g (case_star_term z r a y ys b) r (plain_rule ∷ ls) ns
      wait_line : {known : Known} {p : List Turn} {g h : BunchTree} {x : ℕ} {s r : StreamType} {a : CoreTerm} {ls ms : List Line} → null_of s ≡ false
          → Replaces (leaf x s) empty p g h → Writes (learned x s known) h a r ls ms → Writes known g (wait_term x r a) r (plain_rule ∷ ls) ms
      call_line : {known : Known} {g : BunchTree} {f : ℕ} {ms : List HistExpr} {es : CoreTerms} {r : StreamType} {ls ks : List Line}
          → IsTrue (is_there funs f) → (fun_at funs f).result ≡ r → HavePasts known ms (past_types (fun_at funs f))
          → WritesPassed known (fun_at funs f).params g es ls ks → WaitTheirTurn funs counts (fun_at funs f) es
          → Writes known g (call_term f ms es) r (plain_rule ∷ ls) ks

    -- they write the arguments of parameters
    pub data WritesPassed : Known → BunchTree → BunchTree → CoreTerms → List Line → List Line → Type 0 where
      nothing_written : {known : Known} {g : BunchTree} {ls : List Line} → WritesPassed known empty g no_terms ls ls
      shared_lines : {known : Known} {params g : BunchTree} {es : CoreTerms} {ls ms : List Line} → WritesShared known params g es no_terms ls ms
          → WritesPassed known params g es ls ms

    -- they write the first of the arguments, where the second are left
    pub data WritesShared : Known → BunchTree → BunchTree → CoreTerms → CoreTerms → List Line → List Line → Type 0 where
      empty_lines : {known : Known} {es : CoreTerms} {ls : List Line} → WritesShared known empty empty es es ls ls
      leaf_lines : {known : Known} {u : ℕ} {t : StreamType} {g : BunchTree} {e : CoreTerm} {es : CoreTerms} {ls ms : List Line}
          → Writes known g e t ls ms → WritesShared known (leaf u t) g (term_before e es) es ls ms
      comma_lines : {known : Known} {a b g h : BunchTree} {es fs gs : CoreTerms} {ls ms ns : List Line} → WritesShared known a g es fs ls ms
          → WritesShared known b h fs gs ms ns → WritesShared known (comma a b) (comma g h) es gs ls ns
      semi_lines : {known : Known} {a b g h : BunchTree} {es fs gs : CoreTerms} {ls ms ns : List Line} → WritesShared known a g es fs ls ms
          → WritesShared known b h fs gs ms ns → WritesShared known (semi a b) (semi g h) es gs ls ns

-- the parameters of a body derive it at its result
abbrev pub WritesBody : List CoreBody → CoreBody → List Line → List Line → Type 0
WritesBody funs b ls ms = Writes funs (is_inert_fun funs) (past_params b.past) b.params b.body b.result ls ms

-- so they do of each of these bodies in turn, among all functions
pub data WritesBodies (funs : List CoreBody) : List CoreBody → List Line → List Line → Type 0 where
  no_bodies : {ls : List Line} → WritesBodies funs [] ls ls
  body_first : {b : CoreBody} {bs : List CoreBody} {ls ms ns : List Line} → WritesBody funs b ls ms → WritesBodies funs bs ms ns
      → WritesBodies funs (b ∷ bs) ls ns

-- lines write a derivation of a program
pub record IsWritten (c : CoreProgram) (ls : List Line) : Type 0 where
  pub main_lines : List Line
  pub funs_written : WritesBodies c.funs c.funs ls main_lines
  pub main_written : WritesBody c.funs c.main main_lines []
