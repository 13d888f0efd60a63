-- The first tokens of what a rule derives.
use Rattle.std.proofs.Common.{◌≡◌, true, List, [], ◌∷◌, ◌++◌, inl, inr, refl}
use Rattle.grammar.specs.Rules.{Sort, Language, TokenOf, Value, Rule}
use Rattle.grammar.specs.Grammar.{Grammar, Derives, by_token, by_part, by_both, by_left, by_right, by_none, by_some, by_placed, by_make}
use Rattle.grammar.specs.Reading.{nullable, first}
use Rattle.grammar.proofs.Tests.{or_true, implied, implied_is, either_way}
use Rattle.grammar.proofs.Checked.{Checked}

append_nil : {K : Type 0} → (u w : List K) → u ++ w ≡ [] → (u ≡ []) × (w ≡ [])
append_nil [] w e = (refl, e)
append_nil (t ∷ u) w e = cc

module _ (L : Language) (G : Grammar L) (C : Checked L G) where
  pub nullable_law : {s : Sort L.Thing} {a : Rule L s} {u : List (TokenOf L)} {v : Value L s} → Derives L G s a u v → u ≡ [] → nullable L G a ≡ true
  nullable_law (by_token h) e = cc
  nullable_law (by_part {p = p} d) e = C.nullable_is p (nullable_law d e)
  nullable_law (by_both {u = u} {w = w} d k) e =
      let n = append_nil u w e in
      rw (nullable_law d n.0, nullable_law k n.1) refl
  nullable_law (by_left d) e = or_true _ _ (inl (nullable_law d e))
  nullable_law (by_right d) e = or_true _ _ (inr (nullable_law d e))
  nullable_law by_none e = refl
  nullable_law (by_some d) e = refl
  nullable_law (by_placed d) e = nullable_law d e
  nullable_law (by_make d) e = nullable_law d e

  first_part : (p : L.Part) (t : L.Terminal) → first L G (G.rule_of p) t ≡ true → G.part_first p t ≡ true
  first_part p t e = implied_is _ _ (C.every_is (λ t. implied (first L G (G.rule_of p) t) (G.part_first p t)) (C.first_is p) t) e

  pub first_law : {s : Sort L.Thing} {a : Rule L s} {u : List (TokenOf L)} {v : Value L s} → Derives L G s a u v → (t : TokenOf L) (w : List (TokenOf L)) → u ≡ t ∷ w → first L G a t.kind ≡ true
  first_law (by_token {is = is} {t = x} h) t w e = let same : x ≡ t = cc in rw (← same) h
  first_law (by_part {p = p} d) t w e = first_part p t.kind (first_law d t w e)
  first_law (by_both {a = a} {b = b} {u = []} {w = uw} d k) t w e =
      let n : nullable L G a ≡ true = nullable_law d refl in
      let f : first L G b t.kind ≡ true = first_law k t w e in
      rw n (or_true (first L G a t.kind) (first L G b t.kind) (inr f))
  first_law (by_both {a = a} {b = b} {u = x ∷ u} {w = uw} d k) t w e =
      let same : x ≡ t = cc in
      let f : first L G a t.kind ≡ true = first_law d t u (rw same refl) in
      either_way (nullable L G a) (first L G a t.kind) (first L G b t.kind) f
  first_law (by_left d) t w e = or_true _ _ (inl (first_law d t w e))
  first_law (by_right d) t w e = or_true _ _ (inr (first_law d t w e))
  first_law by_none t w e = cc
  first_law (by_some d) t w e = first_law d t w e
  first_law (by_placed d) t w e = first_law d t w e
  first_law (by_make d) t w e = first_law d t w e
