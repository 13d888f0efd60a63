-- Tokens that a rule derives, split into those of its parts.
use Rattle.std.proofs.Common.{◌≡◌, true, List, [], ◌∷◌, ◌++◌, Option, Some, None, refl, ◌⊎◌, inl, inr}
use Rattle.grammar.specs.Rules.{Sort, one_of, part, both, either, maybe, placed, make}
use Rattle.grammar.specs.Grammar.{Derives, by_token, by_part, by_both, by_left, by_right, by_none, by_some, by_placed, by_make}
use Rattle.delta_parse.specs.Terminals.{Tok}
use Rattle.delta_parse.specs.Parts.{Thing, Part, stands_for, delta, Meant, RuleFor}
use Rattle.delta_parse.specs.Rules.{rule_of}
use Rattle.delta_parse.specs.Tables.{delta_grammar}

-- an option of which this is said where it is there, and where it isn't there are no tokens
abbrev pub OptionSays : {A : Type 0} → (List Tok → A → Type 0) → List Tok → Option A → Type 0
OptionSays P u None = u ≡ []
OptionSays P u (Some x) = P u x

module _ (PartSays : (p : Part) → List Tok → Meant (stands_for p) → Type 0) where
  -- the rule is made of tokens and of parts of which this is said
  abbrev pub Says : {s : Sort Thing} → RuleFor s → List Tok → Meant s → Type 0
  Says (one_of is) u v = (u ≡ v ∷ []) × (is v.kind ≡ true)
  Says (part p) u v = PartSays p u v
  Says (both a b) u v = (x : List Tok) × ((y : List Tok) × ((u ≡ x ++ y) × (Says a x v.0 × Says b y v.1)))
  Says (either a b) u v = Says a u v ⊎ Says b u v
  Says (maybe a) u v = OptionSays (Says a) u v
  Says (placed a) u v = Says a u v.1
  Says (make {s = s} f a) u v = (x : Meant s) × ((v ≡ f x) × Says a u x)

  module _ (part_says : (p : Part) (u : List Tok) (v : Meant (stands_for p)) → Says (rule_of p) u v → PartSays p u v) where
    pub says : {s : Sort Thing} {a : RuleFor s} {u : List Tok} {v : Meant s} → Derives delta delta_grammar s a u v → Says a u v
    says (by_token h) = (refl, h)
    says (by_part {p = p} {u = u} {v = v} d) = part_says p u v (says d)
    says (by_both {u = u} {w = w} d e) = (u, (w, (refl, (says d, says e))))
    says (by_left d) = inl (says d)
    says (by_right d) = inr (says d)
    says by_none = refl
    says (by_some d) = says d
    says (by_placed d) = says d
    says (by_make {x = x} d) = (x, (refl, says d))
