-- The claims of arguments, added one after another.
use Rattle.std.proofs.Common.{◌≡◌, ◌∙◌, suc, false, List, [], ◌∷◌, ◌++◌, length, map, append_assoc, ap, sym, arith}
use Rattle.std.specs.Prelude.{Option, Some, None, option_map, ◌==◌}
use Rattle.std.proofs.lemmas.Bool.{ne_eqb}
use Rattle.std.proofs.lemmas.List.{append-nil}
use Rattle.bunch.specs.BunchTree.{BunchTree}
use Rattle.core_term.specs.declared.term.Node.{Node}
use Rattle.core_term.specs.CoreTerm.{CoreTerms, term_of, terms_from}
use Rattle.core_term.specs.TypeFaults.{found_where}
use Rattle.bunch_rules.specs.Derivation.{Known}
use Rattle.delta_derive.specs.declared.open.OpenTerm.{OpenTerm}
use Rattle.delta_derive.specs.Rearranged.{then_by}
use Rattle.delta_derive.specs.Claims.{Claim, shares, with_claims, where_none, all_shared}
use Rattle.delta_derive.specs.OpenTerms.{claim_of, Shared, Adds}

-- the claims of both sides
abbrev pub both : Known → BunchTree → BunchTree → BunchTree → BunchTree → CoreTerms → Option (List Claim × CoreTerms)
both known a b g h es = then_by (shares known a g es) (λ r. with_claims r.0 (shares known b h r.1))

module _ (known : Known) (a b g h : BunchTree) (es : CoreTerms) where
  -- a side that hasn't the shape
  pub first_unshared : shares known a g es ≡ None → both known a b g h es ≡ None
  first_unshared e = ap (λ o. then_by o (λ r. with_claims r.0 (shares known b h r.1))) e

  pub second_unshared : (old mid : List OpenTerm) (rest : List Node) → Shared (shares known a g es) old mid rest → shares known b h (terms_from (map term_of rest)) ≡ None → both known a b g h es ≡ None
  second_unshared old mid rest u e = ap (λ o. then_by o (λ r. with_claims r.0 (shares known b h r.1))) u.1 ∙ ap (with_claims u.0) e

  -- both have it
  pub both_shared : (old mid new : List OpenTerm) (rest more : List Node) → Shared (shares known a g es) old mid rest → Shared (shares known b h (terms_from (map term_of rest))) mid new more → Shared (both known a b g h es) old new more
  both_shared old mid new rest more u v = (
    u.0 ++ v.0,
    ap (λ o. then_by o (λ r. with_claims r.0 (shares known b h r.1))) u.1 ∙ ap (with_claims u.0) v.1,
    v.2 ∙ ap (λ l. l ++ v.0) u.2 ∙ append_assoc (map claim_of old) u.0 v.0,
  )

not_none : (rest : List Node) → (suc (length rest) == 0) ≡ false
not_none rest = ne_eqb (suc (length rest)) 0 (λ e. omega (arith, e))

-- where no argument is left their claims were added, and else the call isn't valid
pub left_added : (o : Option (List Claim × CoreTerms)) (old new : List OpenTerm) (rest : List Node) → Shared o old new rest → Adds (all_shared o) old new (length rest == 0)
left_added o old new [] s = ap Some s.2 ∙ sym (ap (λ p. option_map (λ gs. map claim_of old ++ gs) (all_shared p)) s.1)
left_added o old new (n ∷ rest) s = ap (λ e. found_where e (map claim_of new)) (not_none rest) ∙ sym (ap (λ p. option_map (λ gs. map claim_of old ++ gs) (all_shared p)) s.1)

-- a body without parameters has no arguments
pub none_passed : (old : List OpenTerm) (rest : List Node) → Adds (where_none [] (terms_from (map term_of rest))) old old (length rest == 0)
none_passed old [] = ap Some (sym (append-nil (map claim_of old)))
none_passed old (n ∷ rest) = ap (λ e. found_where e (map claim_of old)) (not_none rest)

pub ruleset sharing = (none_passed, left_added)
