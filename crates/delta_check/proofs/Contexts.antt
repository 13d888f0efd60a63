-- A term has a type in a context where nothing is found in it.
use mathlib.Core.Path.{fun_ext}
use Rattle.std.proofs.Common.{◌≡◌, ◌∙◌, ℕ, Bool, List, ap, subst, sym}
use Rattle.std.specs.Prelude.{Option, Some, None, IsSomeAnd}
use Rattle.stream_type.specs.StreamType.{StreamType}
use Rattle.hist_value.specs.Refusal.{HistRefusal}
use Rattle.core_term.specs.CoreTerm.{CoreTerm, CoreBody}
use Rattle.core_term.specs.Inert.{is_inert_fun}
use Rattle.core_term.specs.Typing.{Context, HasType}
use Rattle.core_term.specs.TypeFaults.{Cause, nodes_of, first_broken_of, expr_refusal}
use Rattle.core_term.proofs.Unbroken.{typed, unbroken, first_broken-none, first_broken-all, expr_refusal_is_exact}
use Rattle.delta_check.specs.Checking.{Denies, fault_within}
use Rattle.delta_check.specs.Faults.{cause_of, TellsFirst}
use Rattle.delta_check.specs.declared.fault.TypeFault.{TypeFault}
use Rattle.delta_check.specs.declared.fault.TypeFault.TheVariants.{Memory, Refused}

typed_within : (funs : List CoreBody) (c : Context) (e : CoreTerm) (r : StreamType) → fault_within funs c e r ≡ None → HasType funs (is_inert_fun funs) c e r
typed_within funs c e r h = typed funs (is_inert_fun funs) expr_refusal expr_refusal_is_exact c e r (first_broken-none funs (is_inert_fun funs) expr_refusal 0 (nodes_of funs (is_inert_fun funs) c e r) h)

none_within : (funs : List CoreBody) (c : Context) (e : CoreTerm) (r : StreamType) → HasType funs (is_inert_fun funs) c e r → fault_within funs c e r ≡ None
none_within funs c e r h = first_broken-all funs (is_inert_fun funs) expr_refusal 0 (nodes_of funs (is_inert_fun funs) c e r) (unbroken funs (is_inert_fun funs) expr_refusal expr_refusal_is_exact c e r h)

-- what is told of a term denies that it has the type
untyped_within : (funs : List CoreBody) (c : Context) (e : CoreTerm) (r : StreamType) (f : TypeFault) → TellsFirst f (fault_within funs c e r) → Denies f (HasType funs (is_inert_fun funs) c e r)
untyped_within funs c e r Memory h = tt
untyped_within funs c e r (Refused node at cause) h = λ t. go (cause_of cause) h (none_within funs c e r t)
  where
    go : (o : Option (Cause HistRefusal)) → IsSomeAnd o (λ k. fault_within funs c e r ≡ Some (node, k)) → fault_within funs c e r ≡ None → ⊥
    go None h e = h
    go (Some k) h e = absurd (cc (sym e ∙ h))

-- what is found in a term, where the functions that count as inert are the inert ones
module _ (funs : List CoreBody) (counts : ℕ → Bool) (same : (f : ℕ) → counts f ≡ is_inert_fun funs f) (g : Context) (e : CoreTerm) (r : StreamType) where
  fault_same : first_broken_of funs counts expr_refusal 0 (nodes_of funs counts g e r) ≡ fault_within funs g e r
  fault_same = ap (λ ones. first_broken_of funs ones expr_refusal 0 (nodes_of funs ones g e r)) (fun_ext same)

  pub found_typed : first_broken_of funs counts expr_refusal 0 (nodes_of funs counts g e r) ≡ None → HasType funs (is_inert_fun funs) g e r
  found_typed h = typed_within funs g e r (sym fault_same ∙ h)

  pub found_first : (f : TypeFault) → TellsFirst f (first_broken_of funs counts expr_refusal 0 (nodes_of funs counts g e r)) → TellsFirst f (fault_within funs g e r)
  found_first f h = subst (TellsFirst f) fault_same h

  pub found_untyped : (f : TypeFault) → TellsFirst f (first_broken_of funs counts expr_refusal 0 (nodes_of funs counts g e r)) → Denies f (HasType funs (is_inert_fun funs) g e r)
  found_untyped f h = untyped_within funs g e r f (found_first f h)
