-- The core of a program has no more nodes than the program has tokens.
use Rattle.std.proofs.Common.{◌≡◌, ℕ, ◌+◌, ◌≤◌, List, ◌++◌, Option, Some, None, length, refl, sym, subst, ◌∙◌, arith, length-append, ◌⊎◌, inl, inr}
use Rattle.grammar.specs.Rules.{Sort, one_of, part, both, either, maybe, placed, make}
use Rattle.grammar.specs.Grammar.{Derives, by_token, by_part, by_both, by_left, by_right, by_none, by_some, by_placed, by_make}
use Rattle.delta_tree.specs.SyntaxTree.{WrittenHist, Expression, Head, WrittenFunction, Declaration}
use Rattle.delta_parse.specs.Terminals.{Tok}
use Rattle.delta_parse.specs.Parts.{Pattern, one_name, two_at_once, two_in_turn, Arms, sum_arms, star_arms, Ending, plain_ending, at_once, in_turn, of_type, Thing, Part, a_program, declarations, a_declaration, a_main, an_expression, a_head, an_application, an_atom, an_ending, the_arms, arguments, more_expressions, stands_for, delta, Meant, RuleFor}
use Rattle.delta_parse.specs.Rules.{rule_of}
use Rattle.delta_parse.specs.Actions.{more_of, more_behind, expression_list, let_with, consed, head_from, atom_from, ended, bracketed, case_with}
use Rattle.delta_parse.specs.Tables.{delta_grammar}
use Rattle.delta_parse.specs.Programs.{IsProgram}
use Rattle.accept_laws.proofs.NodeNumbers.{nodes, head_nodes, subject_nodes, argument_nodes, nodes_of_declaration, nodes_of_declarations}

-- those that what stands in a bracket behind its first expression adds, with one for the bracket
abbrev ending_nodes : Ending → ℕ
ending_nodes plain_ending = 0
ending_nodes (at_once b) = nodes b
ending_nodes (in_turn b) = nodes b
ending_nodes (of_type t) = 1

abbrev arms_nodes : Arms → ℕ
arms_nodes (sum_arms x a y b) = nodes a + nodes b
arms_nodes (star_arms a y ys b) = nodes a + nodes b

-- the value of a part that stands for so many tokens has no more nodes
abbrev PartHas : (p : Part) → ℕ → Meant (stands_for p) → Type 0
PartHas a_program n v = nodes_of_declarations v.0 + nodes v.1.body ≤ n
PartHas declarations n v = nodes_of_declarations v ≤ n
PartHas a_declaration n v = nodes_of_declaration v ≤ n
PartHas a_main n v = nodes v.body ≤ n
PartHas an_expression n v = nodes v ≤ n
PartHas a_head n v = (head_nodes v ≤ n) × (subject_nodes v ≤ n)
PartHas an_application n v = nodes v ≤ n
PartHas an_atom n v = nodes v ≤ n
PartHas an_ending n v = ending_nodes v ≤ n
PartHas the_arms n v = arms_nodes v ≤ n
PartHas arguments n v = 2 + argument_nodes (expression_list v.1) ≤ n
PartHas more_expressions n v = argument_nodes (expression_list v) ≤ n
PartHas _ n v = Unit {0}

abbrev OptionHas : {A : Type 0} → (ℕ → A → Type 0) → ℕ → Option A → Type 0
OptionHas P n None = Unit {0}
OptionHas P n (Some x) = P n x

-- so it is of each part of a value that a rule makes of so many tokens
abbrev RuleHas : {s : Sort Thing} → RuleFor s → ℕ → Meant s → Type 0
RuleHas (one_of is) n v = 1 ≤ n
RuleHas (part p) n v = PartHas p n v
RuleHas (both a b) n v = (k : ℕ) × ((m : ℕ) × ((k + m ≤ n) × (RuleHas a k v.0 × RuleHas b m v.1)))
RuleHas (either a b) n v = RuleHas a n v ⊎ RuleHas b n v
RuleHas (maybe a) n v = OptionHas (RuleHas a) n v
RuleHas (placed a) n v = RuleHas a n v.1
RuleHas (make {s = s} f a) n v = (x : Meant s) × ((v ≡ f x) × RuleHas a n x)

-- what is measured of a value is no more than what is measured of one that is the same
same : {A : Type 0} (f : A → ℕ) {v w : A} {n : ℕ} → v ≡ w → f w ≤ n → f v ≤ n
same f {n = n} e h = subst (λ u. f u ≤ n) (sym e) h

more_declarations : (n : ℕ) (x : Option (Declaration × List Declaration)) → OptionHas (λ n v. (k : ℕ) × ((m : ℕ) × ((k + m ≤ n) × ((nodes_of_declaration v.0 ≤ k) × (nodes_of_declarations v.1 ≤ m))))) n x → nodes_of_declarations (more_of x) ≤ n
more_declarations n None h = omega arith
more_declarations n (Some (d, ds)) (k, (m, (u, (h, g)))) = omega arith

more_arguments : (n : ℕ) (x : Option (Tok × (Expression × List Expression)))
    → OptionHas (λ n v. (k : ℕ) × ((m : ℕ) × ((k + m ≤ n) × ((1 ≤ k) × ((i : ℕ) × ((j : ℕ) × ((i + j ≤ m) × ((nodes v.1.0 ≤ i) × (argument_nodes (expression_list v.1.1) ≤ j))))))))) n x
    → argument_nodes (expression_list (more_behind x)) ≤ n
more_arguments n None h = omega arith
more_arguments n (Some (t, (e, es))) (k, (m, (u, (o, (i, (j, (w, (h, g)))))))) = omega arith

let_has : (at : ℕ) (p : Pattern) (h : Head) (e : Expression) (i j n : ℕ) → (head_nodes h ≤ i) × (subject_nodes h ≤ i) → nodes e ≤ j → 1 + (i + j) ≤ n → nodes (let_with at p h e) ≤ n
let_has at (one_name x) h e i j n (a, b) g u = omega arith
let_has at (two_at_once x y) h e i j n (a, b) g u = omega arith
let_has at (two_in_turn x y) h e i j n (a, b) g u = omega arith

cons_has : (at : ℕ) (e : Expression) (x : Option (Tok × Expression)) (k m n : ℕ) → k + m ≤ n → nodes e ≤ k
    → OptionHas (λ n v. (k : ℕ) × ((m : ℕ) × ((k + m ≤ n) × ((1 ≤ k) × (nodes v.1 ≤ m))))) m x → nodes (consed (at, (e, x))) ≤ n
cons_has at e None k m n u h g = omega arith
cons_has at e (Some (t, f)) k m n u h (i, (j, (w, (o, g)))) = omega arith

head_has : (t : Tok) (x : Option (List WrittenHist × List Expression)) (k m n : ℕ) → k + m ≤ n → 1 ≤ k
    → OptionHas (λ n v. 2 + argument_nodes (expression_list v.1) ≤ n) m x → (head_nodes (head_from (t, x)) ≤ n) × (subject_nodes (head_from (t, x)) ≤ n)
head_has t None k m n u h g = (omega arith, omega arith)
head_has t (Some (ms, es)) k m n u h g = (omega arith, omega arith)

atom_has : (t : Tok) (x : Option (List WrittenHist × List Expression)) (k m n : ℕ) → k + m ≤ n → 1 ≤ k
    → OptionHas (λ n v. 2 + argument_nodes (expression_list v.1) ≤ n) m x → nodes (atom_from (t, x)) ≤ n
atom_has t None k m n u h g = omega arith
atom_has t (Some (ms, es)) k m n u h g = omega arith

ended_has : (at : ℕ) (e : Expression) (x : Ending) (i j n : ℕ) → nodes e ≤ i → ending_nodes x ≤ j → 1 + (i + j) ≤ n → nodes (ended at e x) ≤ n
ended_has at e plain_ending i j n h g u = omega arith
ended_has at e (at_once f) i j n h g u = omega arith
ended_has at e (in_turn f) i j n h g u = omega arith
ended_has at e (of_type t) i j n h g u = omega arith

case_has : (at : ℕ) (h : Head) (x : Arms) (i j n : ℕ) → (head_nodes h ≤ i) × (subject_nodes h ≤ i) → arms_nodes x ≤ j → 1 + (i + j) ≤ n → nodes (case_with at h x) ≤ n
case_has at h (sum_arms x a y b) i j n (p, q) g u = omega arith
case_has at h (star_arms a y ys b) i j n (p, q) g u = omega arith

part_has : (p : Part) (n : ℕ) (v : Meant (stands_for p)) → RuleHas (rule_of p) n v → PartHas p n v
part_has a_program n v (k1, (m1, (u1, (h, g)))) = omega arith
part_has declarations n v (x, (e, h)) = same nodes_of_declarations e (more_declarations n x h)
part_has a_declaration n v (inl (x, (e, h))) = same nodes_of_declaration e (omega arith)
part_has a_declaration n v (inr (x, (e, (k1, (m1, (u1, (o1, (k2, (m2, (u2, (o2, (k3, (m3, (u3, (p, (k4, (m4, (u4, (c, (k5, (m5, (u5, (o3, (k6, (m6, (u6, (t, (k7, (m7, (u7, (o4, h))))))))))))))))))))))))))))))) = same nodes_of_declaration e (omega arith)
part_has a_main n v (x, (e, (k1, (m1, (u1, (o1, (k2, (m2, (u2, (c, (k3, (m3, (u3, (o2, (k4, (m4, (u4, (t, (k5, (m5, (u5, (o3, h)))))))))))))))))))))) = same (λ (f : WrittenFunction). nodes f.body) e (omega arith)
part_has an_expression n v (inl (x, (e, (k1, (m1, (u1, (o1, (k2, (m2, (u2, (p, (k3, (m3, (u3, (o2, (k4, (m4, (u4, (h, (k5, (m5, (u5, (o3, g))))))))))))))))))))))) = same nodes e (let_has x.0.at x.1.0 x.1.1.1.0 x.1.1.1.1.1 k4 m5 n h g (omega arith))
part_has an_expression n v (inr (inl (x, (e, (k1, (m1, (u1, (o1, (k2, (m2, (u2, (o2, (k3, (m3, (u3, (o3, h)))))))))))))))) = same nodes e (omega arith)
part_has an_expression n v (inr (inr (inl (x, (e, (k1, (m1, (u1, (o1, (k2, (m2, (u2, (q, (k3, (m3, (u3, (o2, (k4, (m4, (u4, (h, (k5, (m5, (u5, (o3, g))))))))))))))))))))))))) = same nodes e (omega arith)
part_has an_expression n v (inr (inr (inr (x, (e, (k1, (m1, (u1, (h, g))))))))) = same nodes e (cons_has x.0 x.1.0 x.1.1 k1 m1 n u1 h g)
part_has a_head n v (inl (x, (e, (k1, (m1, (u1, (o, g))))))) = (let w = head_has x.0 x.1 k1 m1 n u1 o g in (same head_nodes e w.0, same subject_nodes e w.1))
part_has a_head n v (inr (x, (e, (k1, (m1, (u1, (o1, (k2, (m2, (u2, (h, (k3, (m3, (u3, (o2, (k4, (m4, (u4, (t, o3))))))))))))))))))) = (same head_nodes e (omega arith), same subject_nodes e (omega arith))
part_has an_application n v (inl (x, (e, (k1, (m1, (u1, (o, h))))))) = same nodes e (omega arith)
part_has an_application n v (inr (inl (x, (e, (k1, (m1, (u1, (o, h)))))))) = same nodes e (omega arith)
part_has an_application n v (inr (inr h)) = h
part_has an_atom n v (inl (x, (e, (k1, (m1, (u1, (o, g))))))) = same nodes e (atom_has x.0 x.1 k1 m1 n u1 o g)
part_has an_atom n v (inr (inl (x, (e, o)))) = same nodes e o
part_has an_atom n v (inr (inr (inl (x, (e, o))))) = same nodes e o
part_has an_atom n v (inr (inr (inr (inl (x, (e, (k1, (m1, (u1, (o, inl (y, (f, c)))))))))))) = same nodes e (same (λ q. nodes (bracketed (x.0, q))) f (omega arith))
part_has an_atom n v (inr (inr (inr (inl (x, (e, (k1, (m1, (u1, (o, inr (y, (f, (i, (j, (w, (h, g)))))))))))))))) = same nodes e (same (λ q. nodes (bracketed (x.0, q))) f (ended_has x.0.at y.0 y.1 i j n h g (omega arith)))
part_has an_atom n v (inr (inr (inr (inr (inl (x, (e, (k1, (m1, (u1, (o1, (k2, (m2, (u2, (q, o2))))))))))))))) = same nodes e (omega arith)
part_has an_atom n v (inr (inr (inr (inr (inr (x, (e, (k1, (m1, (u1, (o1, (k2, (m2, (u2, (h, (k3, (m3, (u3, (o2, (k4, (m4, (u4, (o3, (k5, (m5, (u5, (g, o4))))))))))))))))))))))))))) = same nodes e (case_has x.0.at x.1.0 x.1.1.1.1.0 k2 k5 n h g (omega arith))
part_has an_ending n v (inl (x, (e, o))) = same ending_nodes e (omega arith)
part_has an_ending n v (inr (inl (x, (e, (k1, (m1, (u1, (o1, (k2, (m2, (u2, (h, o2)))))))))))) = same ending_nodes e (omega arith)
part_has an_ending n v (inr (inr (inl (x, (e, (k1, (m1, (u1, (o1, (k2, (m2, (u2, (h, o2))))))))))))) = same ending_nodes e (omega arith)
part_has an_ending n v (inr (inr (inr (x, (e, (k1, (m1, (u1, (o1, (k2, (m2, (u2, (t, o2))))))))))))) = same ending_nodes e (omega arith)
part_has the_arms n v (inl (x, (e, (k1, (m1, (u1, (o1, (k2, (m2, (u2, (o2, (k3, (m3, (u3, (o3, (k4, (m4, (u4, (h, (k5, (m5, (u5, (o4, (k6, (m6, (u6, (o5, (k7, (m7, (u7, (o6, (k8, (m8, (u8, (o7, g))))))))))))))))))))))))))))))))))) = same arms_nodes e (omega arith)
part_has the_arms n v (inr (x, (e, (k1, (m1, (u1, (o1, (k2, (m2, (u2, (o2, (k3, (m3, (u3, (h, (k4, (m4, (u4, (o3, (k5, (m5, (u5, (o4, (k6, (m6, (u6, (o5, (k7, (m7, (u7, (o6, (k8, (m8, (u8, (o7, g))))))))))))))))))))))))))))))))))) = same arms_nodes e (omega arith)
part_has arguments n v (x, (e, (k1, (m1, (u1, (q, (k2, (m2, (u2, (o, inl (y, (f, c)))))))))))) =
    same (λ (w : List WrittenHist × List Expression). 2 + argument_nodes (expression_list w.1)) e (same (λ l. 2 + argument_nodes (expression_list l)) f (omega arith))
part_has arguments n v (x, (e, (k1, (m1, (u1, (q, (k2, (m2, (u2, (o, inr (y, (f, (k3, (m3, (u3, ((z, (d, (i, (j, (w, (h, l)))))), c)))))))))))))))) =
    same (λ (w : List WrittenHist × List Expression). 2 + argument_nodes (expression_list w.1)) e (same (λ l. 2 + argument_nodes (expression_list l)) (f ∙ d) (omega arith))
part_has more_expressions n v (x, (e, h)) = same (λ l. argument_nodes (expression_list l)) e (more_arguments n x h)
part_has _ n v h = tt

sum_le : (u w : List Tok) → length u + length w ≤ length (u ++ w)
sum_le u w = let e = length-append u w in omega (arith, e)

module _ (part_is : (p : Part) (n : ℕ) (v : Meant (stands_for p)) → RuleHas (rule_of p) n v → PartHas p n v) where
  derived_has : {s : Sort Thing} {a : RuleFor s} {ts : List Tok} {v : Meant s} → Derives delta delta_grammar s a ts v → RuleHas a (length ts) v
  derived_has (by_token h) = omega arith
  derived_has (by_part {p = p} {u = u} {v = v} d) = part_is p (length u) v (derived_has d)
  derived_has (by_both {u = u} {w = w} d e) = (length u, (length w, (sum_le u w, (derived_has d, derived_has e))))
  derived_has (by_left d) = inl (derived_has d)
  derived_has (by_right d) = inr (derived_has d)
  derived_has by_none = tt
  derived_has (by_some d) = derived_has d
  derived_has (by_placed d) = derived_has d
  derived_has (by_make {x = x} d) = (x, (refl, derived_has d))

-- a program has no more nodes than tokens
pub nodes_by_tokens : (ts : List Tok) (ds : List Declaration) (m : WrittenFunction) → IsProgram ts ds m → nodes_of_declarations ds + nodes m.body ≤ length ts
nodes_by_tokens ts ds m p = derived_has part_has p.derived
