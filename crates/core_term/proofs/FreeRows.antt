-- The new names of the terms of a list, one term after the other.
use Rattle.std.proofs.Common.{◌≡◌, ℕ, ◌+◌, ◌<◌, ◌≤◌, List, map, drop, get_or, length, ap, ◌∙◌}
use Rattle.std.proofs.lemmas.List.{at_drop_more, at_drop_all}
use Rattle.core_term.specs.declared.term.Node.{Node}
use Rattle.core_term.specs.Around.{less}
use Rattle.core_term.specs.CoreTerm.{term_of, terms_from}
use Rattle.core_term.specs.FreeNames.{free_names, free_in_terms, add_new}
use Rattle.core_term.proofs.NameLists.{less-nil, add_new-less-append}

-- those found, and the new ones of the terms
abbrev pub added_by : List ℕ → List ℕ → List Node → List ℕ
added_by found around ns = add_new found (less around (free_in_terms (terms_from (map term_of ns))))

-- the next term adds its names first
pub added_by-more : (found around : List ℕ) (ns : List Node) (i : ℕ) (n : Node) → i < length ns
    → added_by found around (drop i ns) ≡ added_by (add_new found (less around (free_names (term_of (get_or ns i n))))) around (drop (i + 1) ns)
added_by-more found around ns i n h =
    at_drop_more (added_by found around) ns i n h ∙ add_new-less-append found around (free_names (term_of (get_or ns i n))) (free_in_terms (terms_from (map term_of (drop (i + 1) ns))))

-- no terms add none
pub added_by-all : (found around : List ℕ) (ns : List Node) (i : ℕ) → length ns ≤ i → added_by found around (drop i ns) ≡ found
added_by-all found around ns i h = at_drop_all (added_by found around) ns i h ∙ ap (add_new found) (less-nil around)
