-- By which way of deriving each rule derived what it did.
use Rattle.std.proofs.Common.{◌≡◌, true, List, [], ◌∷◌, ◌++◌, Option, Some, None, refl, ◌⊎◌, inl, inr}
use Rattle.grammar.specs.Rules.{Sort, one_of, part, both, either, maybe, placed, make}
use Rattle.grammar.specs.Grammar.{Derives, by_token, by_part, by_both, by_left, by_right, by_none, by_some, by_placed, by_make}
use Rattle.delta_parse.specs.Terminals.{Tok}
use Rattle.delta_parse.specs.Parts.{Thing, delta, Meant, RuleFor}
use Rattle.delta_parse.specs.Rules.{rule_of}
use Rattle.delta_parse.specs.Tables.{delta_grammar}

-- one part after the other
pub record InTwo {s t : Sort Thing} (a : RuleFor s) (b : RuleFor t) (ts : List Tok) (x : Meant s) (y : Meant t) : Type 0 where
  pub front : List Tok
  pub back : List Tok
  pub whole : ts ≡ front ++ back
  pub first : Derives delta delta_grammar s a front x
  pub second : Derives delta delta_grammar t b back y

-- there, or nothing at all
pub data Perhaps {s : Sort Thing} (a : RuleFor s) (ts : List Tok) (v : Option (Meant s)) : Type 0 where
  nothing : ts ≡ [] → v ≡ None → Perhaps a ts v
  something : (x : Meant s) → v ≡ Some x → Derives delta delta_grammar s a ts x → Perhaps a ts v

-- made of something
pub record Made {s : Sort Thing} (t : Sort Thing) (f : Meant s → Meant t) (a : RuleFor s) (ts : List Tok) (v : Meant t) : Type 0 where
  pub of : Meant s
  pub is : v ≡ f of
  pub derived : Derives delta delta_grammar s a ts of

abbrev pub Inverse : {s : Sort Thing} → RuleFor s → List Tok → Meant s → Type 0
Inverse (one_of is) ts v = (ts ≡ v ∷ []) × (is v.kind ≡ true)
Inverse (part p) ts v = Derives delta delta_grammar _ (rule_of p) ts v
Inverse (both a b) ts v = InTwo a b ts v.0 v.1
Inverse (either a b) ts v = Derives delta delta_grammar _ a ts v ⊎ Derives delta delta_grammar _ b ts v
Inverse (maybe a) ts v = Perhaps a ts v
Inverse (placed a) ts v = Derives delta delta_grammar _ a ts v.1
Inverse (make {t = t} f a) ts v = Made t f a ts v

pub invert : {s : Sort Thing} {a : RuleFor s} {ts : List Tok} {v : Meant s} → Derives delta delta_grammar s a ts v → Inverse a ts v
invert (by_token h) = (refl, h)
invert (by_part d) = d
invert (by_both d e) = record { front = _; back = _; whole = refl; first = d; second = e }
invert (by_left d) = inl d
invert (by_right d) = inr d
invert by_none = nothing refl refl
invert (by_some d) = something _ refl d
invert (by_placed d) = d
invert (by_make d) = record { of = _; is = refl; derived = d }
