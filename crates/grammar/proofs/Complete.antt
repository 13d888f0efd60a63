-- What is derived is read, where no token follows that could go on with it.
use Rattle.std.proofs.Common.{◌≡◌, Bool, true, false, List, [], ◌∷◌, ◌++◌, ◌&&◌, not, refl, ◌∙◌, append_assoc}
use Rattle.std.proofs.lemmas.Bool.{not-true, or_parts, and_parts}
use Rattle.grammar.specs.Rules.{Sort, Language, TokenOf, Value, Rule, both, either, maybe}
use Rattle.grammar.specs.Grammar.{Grammar, place_of, Derives, by_token, by_part, by_both, by_left, by_right, by_none, by_some, by_placed, by_make}
use Rattle.grammar.specs.Reading.{got, starts, nullable, first, read_with, reading, token_at}
use Rattle.grammar.proofs.Tests.{last_false, implied, implied_is}
use Rattle.grammar.proofs.Checked.{next, apart, is_decided, Checked}
use Rattle.grammar.proofs.FirstTokens.{nullable_law, first_law}
use Rattle.grammar.proofs.Levels.{reading_is}

module _ (L : Language) (G : Grammar L) (C : Checked L G) where
  next_part : (p : L.Part) (t : L.Terminal) → next L G C.part_next (G.rule_of p) t ≡ true → C.part_next p t ≡ true
  next_part p t e = implied_is _ _ (C.every_is (λ t. implied (next L G C.part_next (G.rule_of p) t) (C.part_next p t)) (C.next_is p) t) e

  apart_is : (p q : L.Terminal → Bool) → apart L G C.part_next C.every p q ≡ true → (t : L.Terminal) → q t ≡ true → p t ≡ false
  apart_is p q e t h =
      let n : (p t && q t) ≡ false = not-true (p t && q t) (C.every_is (λ t. not (p t && q t)) e t) in
      last_false (p t) (q t) n h

  not_next : (p : L.Part) (r : List (TokenOf L)) → starts (C.part_next p) r ≡ false → starts (next L G C.part_next (G.rule_of p)) r ≡ false
  not_next p [] h = refl
  not_next p (t ∷ r) h = cases (next L G C.part_next (G.rule_of p) t.kind) refl
    where
      cases : (b : Bool) → next L G C.part_next (G.rule_of p) t.kind ≡ b → b ≡ false
      cases true e = let k : C.part_next p t.kind ≡ true = next_part p t.kind e in cc
      cases false e = refl

  first_false : {s t : Sort L.Thing} → (a : Rule L s) (b : Rule L t) {w : List (TokenOf L)} {y : Value L t} → Derives L G t b w y → (r : List (TokenOf L))
      → apart L G C.part_next C.every (next L G C.part_next a) (first L G b) ≡ true → starts (next L G C.part_next (both a b)) r ≡ false → starts (next L G C.part_next a) (w ++ r) ≡ false
  first_false a b {w = []} d [] c h = refl
  first_false a b {w = []} d (x ∷ r) c h =
      let n : nullable L G b ≡ true = nullable_law L G C d refl in
      let k : (nullable L G b && next L G C.part_next a x.kind) ≡ false = (or_parts (next L G C.part_next b x.kind) (nullable L G b && next L G C.part_next a x.kind) h).1 in
      (rw n at k)
  first_false a b {w = x ∷ w} d r c h = apart_is (next L G C.part_next a) (first L G b) c x.kind (first_law L G C d x w refl)

  second_next : {s t : Sort L.Thing} → (a : Rule L s) (b : Rule L t) (r : List (TokenOf L)) → starts (next L G C.part_next (both a b)) r ≡ false → starts (next L G C.part_next b) r ≡ false
  second_next a b [] h = refl
  second_next a b (x ∷ r) h = (or_parts (next L G C.part_next b x.kind) (nullable L G b && next L G C.part_next a x.kind) h).0

  left_next : {s : Sort L.Thing} → (a b : Rule L s) (r : List (TokenOf L)) → starts (next L G C.part_next (either a b)) r ≡ false → (starts (next L G C.part_next a) r ≡ false) × (starts (next L G C.part_next b) r ≡ false)
  left_next a b [] h = (refl, refl)
  left_next a b (x ∷ r) h = or_parts (next L G C.part_next a x.kind) (next L G C.part_next b x.kind) h

  some_next : {s : Sort L.Thing} → (a : Rule L s) (r : List (TokenOf L)) → starts (next L G C.part_next (maybe a)) r ≡ false → (starts (first L G a) r ≡ false) × (starts (next L G C.part_next a) r ≡ false)
  some_next a [] h = (refl, refl)
  some_next a (x ∷ r) h = or_parts (first L G a x.kind) (next L G C.part_next a x.kind) h

  begins : {s : Sort L.Thing} → (a : Rule L s) {u : List (TokenOf L)} {v : Value L s} → Derives L G s a u v → nullable L G a ≡ false → (r : List (TokenOf L)) → starts (first L G a) (u ++ r) ≡ true
  begins a {u = []} d n r = let m : nullable L G a ≡ true = nullable_law L G C d refl in cc
  begins a {u = x ∷ u} d n r = first_law L G C d x u refl

  not_left : {s : Sort L.Thing} → (a b : Rule L s) {u : List (TokenOf L)} {v : Value L s} → Derives L G s b u v → nullable L G b ≡ false → apart L G C.part_next C.every (first L G a) (first L G b) ≡ true → (r : List (TokenOf L)) → starts (first L G a) (u ++ r) ≡ false
  not_left a b {u = []} d n c r = let m : nullable L G b ≡ true = nullable_law L G C d refl in cc
  not_left a b {u = x ∷ u} d n c r = apart_is (first L G a) (first L G b) c x.kind (first_law L G C d x u refl)

  same_place : {s : Sort L.Thing} → (a : Rule L s) {u : List (TokenOf L)} {v : Value L s} → Derives L G s a u v → nullable L G a ≡ false → (r : List (TokenOf L)) → place_of (u ++ r) ≡ place_of u
  same_place a {u = []} d n r = let m : nullable L G a ≡ true = nullable_law L G C d refl in cc
  same_place a {u = x ∷ u} d n r = refl

  token_here : (is : L.Terminal → Bool) (t : TokenOf L) (r : List (TokenOf L)) → is t.kind ≡ true → token_at is (t ∷ r) ≡ got t r
  token_here is t r h = rw h refl

  pub complete : {s : Sort L.Thing} {a : Rule L s} {u : List (TokenOf L)} {v : Value L s} → Derives L G s a u v → is_decided L G C.part_next C.every a ≡ true → (r : List (TokenOf L)) → starts (next L G C.part_next a) r ≡ false
      → read_with L G (reading L G) a (u ++ r) ≡ got v r
  complete (by_token {is = is} {t = t} h) c r n = token_here is t r h
  complete (by_part {p = p} {u = u} d) c r n = reading_is L G C p (u ++ r) ∙ complete d (C.decided p) r (not_next p r n)
  complete (by_both {a = a} {b = b} {u = u} {w = w} d k) c r n =
      let c1 = and_parts _ _ c in
      let c2 = and_parts _ _ c1.1 in
      let e = complete d c1.0 (w ++ r) (first_false a b k r c2.1 n) in
      let g = complete k c2.0 r (second_next a b r n) in
      rw (append_assoc u w r, e, g) refl
  complete (by_left {a = a} {b = b} {u = u} d) c r n =
      let c1 = and_parts _ _ c in
      let c2 = and_parts _ _ c1.1 in
      let c3 = and_parts _ _ c2.1 in
      let c4 = and_parts _ _ c3.1 in
      let t = begins a d (not-true _ c4.0) r in
      rw t (complete d c1.0 r (left_next a b r n).0)
  complete (by_right {a = a} {b = b} {u = u} d) c r n =
      let c1 = and_parts _ _ c in
      let c2 = and_parts _ _ c1.1 in
      let c3 = and_parts _ _ c2.1 in
      let c4 = and_parts _ _ c3.1 in
      let t = not_left a b d (not-true _ c4.1) c3.0 r in
      rw t (complete d c2.0 r (left_next a b r n).1)
  complete (by_none {a = a}) c r n = let t = (some_next a r n).0 in rw t refl
  complete (by_some {a = a} {u = u} d) c r n =
      let c1 = and_parts _ _ c in
      let t = begins a d (not-true _ c1.1) r in
      let e = complete d c1.0 r (some_next a r n).1 in
      rw (t, e) refl
  complete (by_placed {a = a} {u = u} d) c r n =
      let c1 = and_parts _ _ c in
      let t = same_place a d (not-true _ c1.1) r in
      let e = complete d c1.0 r n in
      rw (e, t) refl
  complete (by_make {a = a} d) c r n =
      let e = complete d c r n in
      rw e refl
