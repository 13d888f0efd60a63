-- The first name without a size in bodies in turn, one body more and past the last.
use Rattle.std.proofs.Common.{◌≡◌, ◌∙◌, ◌<◌, ◌≤◌, ◌+◌, ℕ, Bool, add-one, drop, get_or, List, length, if◌then◌else◌, ap, sym}
use Rattle.std.specs.Prelude.{Option, Some, None}
use Rattle.core_term.specs.declared.program.Body.{Body}
use Rattle.core_term.specs.CoreTerm.{CoreBody}
use Rattle.core_term.specs.TypeFaults.{first_some}
use Rattle.state_bounds.specs.ProgramBound.{is_marked}
use Rattle.delta_bound.specs.Unsized.{unsized_in, unsized_from}
use Rattle.delta_bound.proofs.ListPlaces.{drop-next}
use Rattle.delta_bound.proofs.Others.{drop-end}

module _ (funs : List CoreBody) (counts : ℕ → Bool) (marks : List Bool) (bs : List Body) (i : ℕ) where
  -- that of a body, if it is marked
  abbrev pub own : Body → Option (ℕ × ℕ)
  own b = if is_marked marks i then unsized_in funs counts b else None

  from-next : (b : Body) → i < length bs → b ≡ get_or bs i b → unsized_from funs counts marks i (drop i bs) ≡ first_some (own b) (unsized_from funs counts marks (i + 1) (drop (i + 1) bs))
  from-next b h k = ap (unsized_from funs counts marks i) (drop-next bs i b h k) ∙ ap (λ n. first_some (own b) (unsized_from funs counts marks n (drop (i + 1) bs))) (sym (add-one i))

  -- where the body has one, that is the first, and otherwise the rest decide
  pub from-found : (b : Body) (u : ℕ × ℕ) (whole : Option (ℕ × ℕ)) → i < length bs → b ≡ get_or bs i b → own b ≡ Some u → unsized_from funs counts marks i (drop i bs) ≡ whole → Some u ≡ whole
  from-found b u whole h k e w = sym (ap (λ o. first_some o (unsized_from funs counts marks (i + 1) (drop (i + 1) bs))) e) ∙ (sym (from-next b h k) ∙ w)

  pub from-none : (b : Body) (whole : Option (ℕ × ℕ)) → i < length bs → b ≡ get_or bs i b → own b ≡ None → unsized_from funs counts marks i (drop i bs) ≡ whole → unsized_from funs counts marks (i + 1) (drop (i + 1) bs) ≡ whole
  from-none b whole h k e w = sym (ap (λ o. first_some o (unsized_from funs counts marks (i + 1) (drop (i + 1) bs))) e) ∙ (sym (from-next b h k) ∙ w)

  pub from-end : (whole : Option (ℕ × ℕ)) → length bs ≤ i → unsized_from funs counts marks i (drop i bs) ≡ whole → None ≡ whole
  from-end whole h w = sym (ap (unsized_from funs counts marks i) (drop-end bs i h)) ∙ w
