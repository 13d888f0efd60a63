-- A program is typed where nothing is found in it.
use mathlib.Core.Path.{fun_ext}
use Rattle.std.proofs.Common.{◌≡◌, ℕ, Bool, List, subst, sym, ◌∙◌}
use Rattle.std.specs.Prelude.{Option, Some, None, Result, IsSomeAnd}
use Rattle.stream_type.specs.StreamType.{type_of}
use Rattle.hist_value.specs.Refusal.{HistRefusal}
use Rattle.core_term.specs.declared.program.Body.{Body}
use Rattle.core_term.specs.CoreTerm.{CoreBody, CoreProgram, term_of, places_of, core_body_of, body_places}
use Rattle.core_term.specs.Inert.{is_inert_fun}
use Rattle.core_term.specs.Typing.{IsTypedCore, context_of}
use Rattle.core_term.specs.TypeFaults.{Cause, first_fault, nodes_of, nodes_of_body}
use Rattle.core_term.proofs.Unbroken.{typed_is_unbroken}
use Rattle.delta_check.specs.Checking.{Finds, Denies}
use Rattle.delta_check.specs.Faults.{cause_of, TellsFirst}
use Rattle.delta_check.specs.declared.fault.TypeFault.{TypeFault}
use Rattle.delta_check.specs.declared.fault.TypeFault.TheVariants.{Memory, Refused}

pub typed_where : (c : CoreProgram) → first_fault c ≡ None → IsTypedCore c
typed_where c h = (typed_is_unbroken c).1 h

-- what is told of a program denies that it is typed
pub untyped_where : (c : CoreProgram) (f : TypeFault) → TellsFirst f (first_fault c) → Denies f (IsTypedCore c)
untyped_where c Memory h = tt
untyped_where c (Refused node at cause) h = λ t. go (cause_of cause) h ((typed_is_unbroken c).0 t)
  where
    go : (o : Option (Cause HistRefusal)) → IsSomeAnd o (λ k. first_fault c ≡ Some (node, k)) → first_fault c ≡ None → ⊥
    go None h e = h
    go (Some k) h e = absurd (cc (sym e ∙ h))

-- what is found in a body, where the functions that count as inert are the inert ones
pub body_found : (funs : List CoreBody) (counts : ℕ → Bool) (b : Body) (n : ℕ) (r : Result ℕ TypeFault) → ((f : ℕ) → counts f ≡ is_inert_fun funs f)
    → Finds funs counts n (nodes_of funs counts (context_of (core_body_of b)) (term_of b.body) (type_of b.result)) (places_of b.body) r
    → Finds funs (is_inert_fun funs) n (nodes_of_body funs (core_body_of b)) (body_places b) r
body_found funs counts b n r e h =
    let Q : (ℕ → Bool) → Type 0 = λ ones. Finds funs ones n (nodes_of funs ones (context_of (core_body_of b)) (term_of b.body) (type_of b.result)) (places_of b.body) r in
    subst Q (fun_ext e) h
