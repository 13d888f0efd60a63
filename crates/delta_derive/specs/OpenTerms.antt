-- What open terms stand for: claims.
use Rattle.std.specs.Prelude.{◌≡◌, Bool, Some, List, ◌++◌, Option, option_map, map, reverse}
use Rattle.stream_type.specs.StreamType.{type_of}
use Rattle.bunch.specs.BunchTree.{tree_of}
use Rattle.hist_value.specs.Environment.{types_of}
use Rattle.core_term.specs.declared.term.Node.{Node}
use Rattle.core_term.specs.CoreTerm.{CoreTerms, term_of, terms_from}
use Rattle.core_term.specs.TypeFaults.{found_where}
use Rattle.delta_derive.specs.declared.open.OpenTerm.{OpenTerm}
use Rattle.delta_derive.specs.Claims.{Claim, claim}

-- the claim that an open term is
abbrev pub claim_of : OpenTerm → Claim
claim_of o = claim (types_of o.known.items) (tree_of o.bunch) (term_of o.node.now) (type_of o.result.now)

-- the claims that are still to be derived, the next one first: it stands last among the open terms
abbrev pub claims_in : List OpenTerm → List Claim
claims_in os = map claim_of (reverse os)

-- the claims were added to those of the old open terms where they are there, and else it was said that they aren't
abbrev pub Adds : Option (List Claim) → List OpenTerm → List OpenTerm → Bool → Type 0
Adds hs old new valid = found_where valid (map claim_of new) ≡ option_map (λ gs. map claim_of old ++ gs) hs

-- the claims of some arguments were added, and these arguments are left
abbrev pub Shared : Option (List Claim × CoreTerms) → List OpenTerm → List OpenTerm → List Node → Type 0
Shared hs old new rest = (gs : List Claim) × (hs ≡ Some (gs, terms_from (map term_of rest))) × (map claim_of new ≡ map claim_of old ++ gs)

-- the claims stand in front of the others where they are there, and else it was said that they aren't
abbrev pub Leaves : Option (List Claim) → List OpenTerm → List OpenTerm → Bool → Type 0
Leaves hs old new valid = found_where valid (claims_in new) ≡ option_map (λ gs. gs ++ claims_in old) hs
