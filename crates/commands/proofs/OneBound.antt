-- What is told of a text is one.
use Rattle.std.proofs.Common.{◌≡◌, ◌∙◌, ℕ, List, Some, None, ap, sym, refl, subst, arith}
use Rattle.core_term.specs.CoreTerm.{CoreProgram}
use Rattle.delta_tree.specs.SyntaxTree.{ProgramTree}
use Rattle.delta_meaning.specs.NodePlaces.{program_places}
use Rattle.delta_end.specs.declared.objection.BoundName.{BoundName}
use Rattle.delta_end.specs.declared.objection.BoundName.TheVariants.{Unbounded, Cycle, Large}
use Rattle.checked_program.specs.Acceptance.{IsAcceptedAs}
use Rattle.checked_program.proofs.OneAnswer.{accepted_is_one}
use Rattle.commands.specs.Bounding.{IsBound, HasNoBound, IsBounded, IsUnbounded}

-- nothing isn't something
not_none : {A : Type 0} {a : A} → None ≡ Some a → ⊥
not_none {a = a} e = cc

module _ (places : List ℕ) (c : CoreProgram) where
  one_bound : (m n : ℕ) → IsBound places c m → IsBound places c n → m ≡ n
  one_bound m n h k = let e : Some m ≡ Some n = sym h.is_bound ∙ k.is_bound in cc

  not_both : (n : ℕ) (why : BoundName) (at : ℕ) → IsBound places c n → HasNoBound places c why at → ⊥
  not_both n Unbounded at h k = not_none (sym h.sized ∙ k.1)
  not_both n Cycle at h k = not_none (sym h.settled ∙ k.2)
  not_both n Large at h k = let e : Some n ≡ Some 1000000000000000000 = sym h.is_bound ∙ k.2 in let i : n ≡ 1000000000000000000 = cc in omega (arith, i, h.is_small)

  one_refusal : (why other : BoundName) (at there : ℕ) → HasNoBound places c why at → HasNoBound places c other there → (why ≡ other) × (at ≡ there)
  one_refusal Unbounded Unbounded at there h k = (refl, let e : Some (h.0, at) ≡ Some (k.0, there) = sym h.1 ∙ k.1 in let i : (h.0, at) ≡ (k.0, there) = cc in ap (λ (q : ℕ × ℕ). q.1) i)
  one_refusal Unbounded Cycle at there h k = absurd (not_none (sym k.0 ∙ h.1))
  one_refusal Unbounded Large at there h k = absurd (not_none (sym k.0 ∙ h.1))
  one_refusal Cycle Unbounded at there h k = absurd (not_none (sym h.0 ∙ k.1))
  one_refusal Cycle Cycle at there h k =
      let e : Some h.1 ≡ Some k.1 = sym h.2 ∙ k.2 in
      let i : h.1 ≡ k.1 = cc in
      let j = h.3 in
      let l = k.3 in (refl, let r : Some at ≡ Some there = cc in let s : at ≡ there = cc in s)
  one_refusal Cycle Large at there h k = absurd (not_none (sym k.1 ∙ h.2))
  one_refusal Large Unbounded at there h k = absurd (not_none (sym h.0 ∙ k.1))
  one_refusal Large Cycle at there h k = absurd (not_none (sym h.1 ∙ k.2))
  one_refusal Large Large at there h k = (refl, h.3 ∙ sym k.3)

-- what holds of the program of one is said of that of the other
of_same : (Q : List ℕ → CoreProgram → Type 0) (text : List ℕ) (p q : ProgramTree) (c d : CoreProgram) → IsAcceptedAs text p c → IsAcceptedAs text q d
    → Q (program_places q) d → Q (program_places p) c
of_same Q text p q c d a b h =
    let same = accepted_is_one text p q c d a b in
    subst (λ (r : ProgramTree). Q (program_places r) c) (sym same.0) (subst (λ (e : CoreProgram). Q (program_places q) e) (sym same.1) h)

pub bounds_are_one : (text : List ℕ) (m n : ℕ) → IsBounded text m → IsBounded text n → m ≡ n
bounds_are_one text m n h k =
    one_bound (program_places h.program) h.core m n h.bound
    (of_same (λ (places : List ℕ) (c : CoreProgram). IsBound places c n) text h.program k.program h.core k.core h.accepted k.accepted k.bound)

pub refusals_are_one : (text : List ℕ) (why other : BoundName) (at there : ℕ) → IsUnbounded text why at → IsUnbounded text other there → (why ≡ other) × (at ≡ there)
refusals_are_one text why other at there h k =
    one_refusal (program_places h.program) h.core why other at there h.no_bound
    (of_same (λ (places : List ℕ) (c : CoreProgram). HasNoBound places c other there) text h.program k.program h.core k.core h.accepted k.accepted k.no_bound)

pub bounded_is_not_unbounded : (text : List ℕ) (n : ℕ) (why : BoundName) (at : ℕ) → IsBounded text n → IsUnbounded text why at → ⊥
bounded_is_not_unbounded text n why at h k =
    not_both (program_places h.program) h.core n why at h.bound
    (of_same (λ (places : List ℕ) (c : CoreProgram). HasNoBound places c why at) text h.program k.program h.core k.core h.accepted k.accepted k.no_bound)
