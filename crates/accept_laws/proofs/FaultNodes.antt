-- The node of a core that breaks a rule first is one of its nodes, and has a place.
use Rattle.std.proofs.Common.{◌≡◌, ℕ, suc, ◌+◌, ◌<◌, Bool, List, [], ◌∷◌, Option, Some, None, Ok, length, get_or, refl, ap, arith, length-append}
use Rattle.std.specs.Prelude.{option_map, slice_get}
use Rattle.std.proofs.lemmas.Option.{slice_get-get_or}
use Rattle.hist_value.specs.Refusal.{HistRefusal}
use Rattle.delta_tree.specs.SyntaxTree.{ProgramTree}
use Rattle.core_term.specs.CoreTerm.{CoreBody, CoreProgram, node_count}
use Rattle.core_term.specs.FreeNames.{nodes_of_bodies}
use Rattle.core_term.specs.Inert.{is_inert_fun}
use Rattle.core_term.specs.Typing.{context_of}
use Rattle.core_term.specs.TypeFaults.{Cause, NodeAt, first_some, broken, first_broken_of, expr_refusal, nodes_of_body, nodes_in_bodies, program_nodes, first_fault}
use Rattle.delta_check.proofs.Firsts.{length-nodes}
use Rattle.delta_meaning.specs.NodePlaces.{program_places}
use Rattle.delta_meaning.specs.Elaborated.{elaborate}
use Rattle.delta_meaning.proofs.Counts.{each_node_has_place}

-- the number of what is found, or 0
abbrev number_in : Option (ℕ × Cause HistRefusal) → ℕ
number_in None = 0
number_in (Some x) = x.0

module _ (funs : List CoreBody) (counts : ℕ → Bool) where
  -- what is found first of nodes that are numbered from n is one of them
  within : (js : List NodeAt) (n m : ℕ) (k : Cause HistRefusal) → first_broken_of funs counts expr_refusal n js ≡ Some (m, k) → m < n + length js
  within [] n m k e = absurd (cc e)
  within (j ∷ js) n m k e = step (λ h. within js (suc n) m k h) (broken funs counts expr_refusal j.context j.term j.wanted) e
    where
      step : (first_broken_of funs counts expr_refusal (suc n) js ≡ Some (m, k) → m < suc n + length js) → (o : Option (Cause HistRefusal))
          → first_some (option_map (λ k. (n, k)) o) (first_broken_of funs counts expr_refusal (suc n) js) ≡ Some (m, k) → m < n + suc (length js)
      step rest None h = (let w = rest h in omega (arith, w))
      step rest (Some c) h = (let same : n ≡ m = ap number_in h in omega (arith, same))

length_bodies : (funs bs : List CoreBody) → length (nodes_in_bodies funs bs) ≡ nodes_of_bodies bs
length_bodies funs [] = refl
length_bodies funs (b ∷ bs) =
    let l = length-append (nodes_of_body funs b) (nodes_in_bodies funs bs) in
    let e = length-nodes funs (is_inert_fun funs) (context_of b) b.body b.result in
    let g = length_bodies funs bs in
    omega (arith, l, e, g)

length_program : (c : CoreProgram) → length (program_nodes c) ≡ nodes_of_bodies c.funs + node_count c.main.body
length_program c =
    let l = length-append (nodes_in_bodies c.funs c.funs) (nodes_of_body c.funs c.main) in
    let e = length-nodes c.funs (is_inert_fun c.funs) (context_of c.main) c.main.body c.main.result in
    let g = length_bodies c.funs c.funs in
    omega (arith, l, e, g)

-- the first node that breaks a rule has a place in the text
pub has_place : (p : ProgramTree) (c : CoreProgram) (node : ℕ) (rule : Cause HistRefusal) → elaborate p ≡ Ok c → first_fault c ≡ Some (node, rule)
    → (at : ℕ) × (slice_get (program_places p) node ≡ Some at)
has_place p c node rule elaborated first =
    let below : node < 0 + length (program_nodes c) = within c.funs (is_inert_fun c.funs) (program_nodes c) 0 node rule first in
    let many = length_program c in
    let places : length (program_places p) ≡ nodes_of_bodies c.funs + node_count c.main.body = each_node_has_place p c elaborated in
    (get_or (program_places p) node 0, slice_get-get_or (program_places p) node 0 (omega (arith, below, many, places)))
