-- What is still to be derived, and what a line makes of it.
--
-- A claim says that a bunch is to derive a term at a type. A step gives the claim another bunch, and a rule puts
-- the claims of the term's parts in its place, in the order of reading.
use Rattle.std.specs.Prelude.{ℕ, ◌==◌, Bool, false, ◌&&◌, ◌||◌, not, is_some, if◌then◌else◌, List, [], ◌∷◌, ◌++◌, length, Option, Some, None}
use Rattle.stream_type.specs.StreamType.{StreamType, eps, one, null_of}
use Rattle.bunch.specs.BunchTree.{BunchTree, empty, leaf, comma, semi}
use Rattle.hist_value.specs.HistType.{past}
use Rattle.hist_value.specs.HistExpr.{HistExpr}
use Rattle.core_term.specs.CoreTerm.{CoreTerm, CoreTerms, CoreBody, CoreProgram, var_term, eps_term, unit_term, nil_term, past_term, par_term, cat_term, cons_term, inl_term, inr_term, let_term, let_par_term, let_cat_term, case_sum_term, case_star_term, wait_term, call_term, no_terms, term_before, past_types, fun_at, is_there}
use Rattle.core_term.specs.Inert.{is_inert}
use Rattle.core_term.specs.Parts.{par_left, par_right, cat_first, cat_second, sum_left, sum_right, star_item, star_items, is_par, is_cat, is_sum, is_star, is_same_type}
use Rattle.core_term.specs.Typing.{past_params}
use Rattle.core_term.specs.TypeFaults.{found_where, expr_refusal, of_pasts, first_jumpy}
use Rattle.bunch_rules.specs.Rearranging.{Turn, stays_first}
use Rattle.bunch_rules.specs.Derivation.{Known, hidden, learned}
use Rattle.delta_derive.specs.Rearranged.{then_by, part_at, put_at, has_leaf, leaf_type, with_leaf}

-- a bunch is to derive a term at a type, where the types of the historical names are known
pub record Claim : Type 0 where
  pub known : Known
  pub bunch : BunchTree
  pub term : CoreTerm
  pub result : StreamType

abbrev pub claim : Known → BunchTree → CoreTerm → StreamType → Claim
claim known g e r = record { known = known; bunch = g; term = e; result = r }

-- what f makes of the sides of a semicolon
abbrev pub of_semi : {A : Type 0} → BunchTree → (BunchTree → BunchTree → Option A) → Option A
of_semi (semi g h) f = f g h
of_semi _ f = None

-- the claims of two lists of parts, and what is left after the second
abbrev pub with_claims : List Claim → Option (List Claim × CoreTerms) → Option (List Claim × CoreTerms)
with_claims gs None = None
with_claims gs (Some r) = Some (gs ++ r.0, r.1)

-- the claim of the first of these arguments, for a parameter of this type, and the arguments that are left
abbrev pub first_shared : Known → StreamType → BunchTree → CoreTerms → Option (List Claim × CoreTerms)
first_shared known t g no_terms = None
first_shared known t g (term_before e es) = Some (claim known g e t ∷ [], es)

-- the claims of the first of these arguments, where the bunch has the shape of the parameters with a bunch in the
-- place of each leaf, and the arguments that are left
abbrev pub shares : Known → BunchTree → BunchTree → CoreTerms → Option (List Claim × CoreTerms)
shares known empty empty es = Some ([], es)
shares known (leaf u t) g es = first_shared known t g es
shares known (comma a b) (comma g h) es = then_by (shares known a g es) (λ r. with_claims r.0 (shares known b h r.1))
shares known (semi a b) (semi g h) es = then_by (shares known a g es) (λ r. with_claims r.0 (shares known b h r.1))
shares known _ _ es = None

-- the claims where no argument is left
abbrev pub where_none : List Claim → CoreTerms → Option (List Claim)
where_none gs no_terms = Some gs
where_none gs (term_before e es) = None

abbrev pub all_shared : Option (List Claim × CoreTerms) → Option (List Claim)
all_shared None = None
all_shared (Some r) = where_none r.0 r.1

-- the claims of the arguments of parameters; where there is no parameter any bunch will do
abbrev pub passes : Known → BunchTree → BunchTree → CoreTerms → Option (List Claim)
passes known empty g es = where_none [] es
passes known (leaf u t) g es = all_shared (shares known (leaf u t) g es)
passes known (comma a b) g es = all_shared (shares known (comma a b) g es)
passes known (semi a b) g es = all_shared (shares known (semi a b) g es)

-- the claims of two terms
abbrev pub two : Known → BunchTree → BunchTree → CoreTerm → CoreTerm → StreamType → StreamType → List Claim
two known g h a b s t = claim known g a s ∷ claim known h b t ∷ []

-- z with its type, and beside it what stands for its parts
abbrev pub beside : ℕ → StreamType → BunchTree → BunchTree
beside z t w = comma (leaf z t) w

-- the claim of a term under one new name, and under two, where w stands beside z
abbrev pub below_one : Known → ℕ → ℕ → StreamType → BunchTree → BunchTree → CoreTerm → StreamType → Claim
below_one known x z t w g a r = claim (hidden x known) (with_leaf z (beside z t w) g) a r

abbrev pub below_two : Known → ℕ → ℕ → ℕ → StreamType → BunchTree → BunchTree → CoreTerm → StreamType → Claim
below_two known x y z t w g a r = claim (hidden y (hidden x known)) (with_leaf z (beside z t w) g) a r

-- the claims of a let, whose name stands beside d
abbrev pub let_claims : Known → List Turn → BunchTree → BunchTree → ℕ → StreamType → CoreTerm → CoreTerm → StreamType → List Claim
let_claims known p d g x s a b r = claim known d a s ∷ claim (hidden x known) (put_at p (comma d (leaf x s)) g) b r ∷ []

-- the claims of the parts of a term that takes a stream of its bunch apart, or waits for one
abbrev pub apart_parts : Known → BunchTree → CoreTerm → StreamType → Option (List Claim)
apart_parts known g (let_par_term x y z a) r =
    then_by (leaf_type z g) (λ t. found_where (is_par t) (below_two known x y z t (comma (leaf x (par_left t)) (leaf y (par_right t))) g a r ∷ []))
apart_parts known g (let_cat_term x y z a) r =
    then_by (leaf_type z g) (λ t. found_where (is_cat t) (below_two known x y z t (semi (leaf x (cat_first t)) (leaf y (cat_second t))) g a r ∷ []))
apart_parts known g (case_sum_term z s x a y b) r =
    then_by (leaf_type z g)
    (λ t. found_where (is_sum t && is_same_type s r)
    (below_one known x z t (leaf x (sum_left t)) g a r ∷ below_one known y z t (leaf y (sum_right t)) g b r ∷ []))
apart_parts known g (case_star_term z s a y ys b) r =
    then_by (leaf_type z g)
    (λ t. found_where (is_star t && is_same_type s r)
    (claim known g a r ∷ below_two known y ys z t (semi (leaf y (star_item t)) (leaf ys (star_items t))) g b r ∷ []))
apart_parts known g (wait_term x s a) r =
    then_by (leaf_type x g) (λ t. found_where (not (null_of t) && is_same_type s r) (claim (learned x t known) (with_leaf x empty g) a r ∷ []))
apart_parts known g _ r = None

module _ (funs : List CoreBody) (counts : ℕ → Bool) where
  -- whether a call keeps the rules on its result, on its historical arguments and on the arguments behind others
  abbrev pub is_called : Known → CoreBody → List HistExpr → CoreTerms → StreamType → Bool
  is_called known b ms es r =
      (is_same_type b.result r && (length ms == length b.past))
      && (not (is_some (of_pasts [] (λ _. false) expr_refusal known ms (past_types b))) && not (is_some (first_jumpy funs counts b es)))

  -- the claims of the arguments of a call
  abbrev pub call_parts : Known → BunchTree → ℕ → List HistExpr → CoreTerms → StreamType → Option (List Claim)
  call_parts known g f ms es r =
      if is_there funs f && is_called known (fun_at funs f) ms es r then passes known (fun_at funs f).params g es else None

  -- the claims of a term's parts by a rule without a path, or None where it isn't valid
  abbrev pub rule_parts : Known → BunchTree → CoreTerm → StreamType → Option (List Claim)
  rule_parts known g (var_term x) r = found_where (has_leaf g x r) []
  rule_parts known g eps_term r = found_where (is_same_type r eps) []
  rule_parts known g unit_term r = found_where (is_same_type r one) []
  rule_parts known g nil_term r = found_where (is_star r) []
  rule_parts known g (past_term m) r = found_where (not (is_some (expr_refusal known m (past r)))) []
  rule_parts known g (par_term a b) r = found_where (is_par r) (two known g g a b (par_left r) (par_right r))
  rule_parts known g (cat_term a b) r = of_semi g (λ h k. found_where (is_cat r) (two known h k a b (cat_first r) (cat_second r)))
  rule_parts known g (cons_term a b) r = of_semi g (λ h k. found_where (is_star r) (two known h k a b (star_item r) (star_items r)))
  rule_parts known g (inl_term a) r = found_where (is_sum r) (claim known g a (sum_left r) ∷ [])
  rule_parts known g (inr_term a) r = found_where (is_sum r) (claim known g a (sum_right r) ∷ [])
  rule_parts known g (let_term x s a b) r = None
  rule_parts known g (let_par_term x y z a) r = apart_parts known g (let_par_term x y z a) r
  rule_parts known g (let_cat_term x y z a) r = apart_parts known g (let_cat_term x y z a) r
  rule_parts known g (case_sum_term z s x a y b) r = apart_parts known g (case_sum_term z s x a y b) r
  rule_parts known g (case_star_term z s a y ys b) r = apart_parts known g (case_star_term z s a y ys b) r
  rule_parts known g (wait_term x s a) r = apart_parts known g (wait_term x s a) r
  rule_parts known g (call_term f ms es) r = call_parts known g f ms es r

  -- the same by a rule with a path, which a let has: d stands at its end
  abbrev pub rule_parts_by : List Turn → Known → BunchTree → CoreTerm → StreamType → Option (List Claim)
  rule_parts_by p known g (let_term x s a b) r =
      then_by (part_at p g) (λ d. found_where (is_inert (fun_at funs) counts a s || stays_first p g) (let_claims known p d g x s a b r))
  rule_parts_by p known g _ r = None

-- the first claims of a program, in turn
abbrev pub body_claim : CoreBody → Claim
body_claim b = claim (past_params b.past) b.params b.body b.result

abbrev pub body_claims : List CoreBody → List Claim
body_claims [] = []
body_claims (b ∷ bs) = body_claim b ∷ body_claims bs

abbrev pub program_claims : CoreProgram → List Claim
program_claims c = body_claims c.funs ++ body_claim c.main ∷ []
