-- Reading has levels enough: it ends with a value and what is left, or at a token that doesn't fit.
use Rattle.std.proofs.Common.{◌≡◌, ℕ, zero, suc, ◌+◌, ◌*◌, ◌<◌, Bool, true, false, List, [], ◌∷◌, Some, None, refl, ap, ◌∙◌, cond, length, arith, length-append}
use Rattle.std.proofs.lemmas.Bool.{and_parts}
use Rattle.grammar.specs.Rules.{Token, Sort, Language, TokenOf, Value, Rule, one_of, part, both, either, maybe, placed, make}
use Rattle.grammar.specs.Grammar.{Grammar, place_of}
use Rattle.grammar.specs.Reading.{Outcome, got, stuck, out, ◌>>=◌, starts, token_at, nullable, first, Reads, read_with, read, weight, reading}
use Rattle.grammar.proofs.Tests.{cond_true, lt_of}
use Rattle.grammar.proofs.Checked.{IsSound, left_below, Checked}
use Rattle.grammar.proofs.FirstTokens.{nullable_law}
use Rattle.grammar.proofs.Prefixes.{IsGood, good_rule}
use Rattle.grammar.proofs.Levels.{good_read, no_tokens}

-- reading wasn't out of levels
abbrev pub Ends : {K A : Type 0} → Outcome K A → Type 0
Ends (got x rest) = Unit {0}
Ends (stuck n) = Unit {0}
Ends out = ⊥

token_ends : {T W : Type 0} → (is : T → Bool) (ts : List (Token T W)) → Ends (token_at is ts)
token_ends is [] = tt
token_ends is (t ∷ ts) = cases (is t.kind)
  where
    cases : (b : Bool) → Ends (cond b (got t ts) (stuck (length (t ∷ ts))))
    cases true = tt
    cases false = tt

abbrev pair_up : {K A B : Type 0} → Outcome K A → (List K → Outcome K B) → Outcome K (A × B)
pair_up o F = o >>= λ x. F x.1 >>= λ y. got (x.0, y.0) y.1

-- what goes on with a value and what is left
mapped_ends : {K A B : Type 0} → (o : Outcome K A) (f : A → B) → Ends o → Ends (o >>= λ x. got (f x.0) x.1)
mapped_ends (got x rest) f h = tt
mapped_ends (stuck n) f h = tt
mapped_ends out f h = absurd h

either_ends : {K A : Type 0} → (b : Bool) (o q : Outcome K A) → Ends o → Ends q → Ends (cond b o q)
either_ends true o q h g = h
either_ends false o q h g = g

module _ (L : Language) (G : Grammar L) (C : Checked L G) where
  left_all : {s : Sort L.Thing} → (a : Rule L s) → left_below L G 64 a ≡ true
  left_all (one_of is) = refl
  left_all (part p) = C.rank_below p
  left_all (both a b) = rw (left_all a, left_all b) (cond_true (nullable L G a))
  left_all (either a b) = rw (left_all a, left_all b) refl
  left_all (maybe a) = left_all a
  left_all (placed a) = left_all a
  left_all (make m a) = left_all a

  module _ (f : Reads L) where
    -- the second of two rules: where the first takes no token, its parts have lower ranks, and else fewer tokens are left
    second : {s t : Sort L.Thing} → (a : Rule L s) (b : Rule L t) (ts : List (TokenOf L)) (r : ℕ)
        → ((p : L.Part) (us : List (TokenOf L)) → weight L G p us < length ts * 64 + r → Ends (f p us))
        → ((rest : List (TokenOf L)) (q : ℕ) → left_below L G q b ≡ true → ((p : L.Part) (us : List (TokenOf L)) → weight L G p us < length rest * 64 + q → Ends (f p us)) → Ends (read_with L G f b rest))
        → (n : Bool) → nullable L G a ≡ n → cond n (left_below L G r b) true ≡ true
        → (o : Outcome (TokenOf L) (Value L s)) → IsGood L G s a (read_with L G f a) ts o → Ends o
        → Ends (pair_up o (read_with L G f b))
    second {s = s} {t = t} a b ts r ends next true n c (got v rest) k h =
        let count : length ts ≡ length k.taken + length rest = ap length k.split ∙ length-append k.taken rest in
        mapped_ends (read_with L G f b rest) (λ y. (v, y)) (next rest r c (λ p us w. ends p us (omega arith)))
    second {s = s} {t = t} a b ts r ends next false n c (got v rest) k h =
        let count : length ts ≡ length k.taken + length rest = ap length k.split ∙ length-append k.taken rest in
        let full : 0 < length k.taken = no_tokens k.taken (λ e. let m : nullable L G a ≡ true = nullable_law L G C k.derived e in cc) in
        mapped_ends (read_with L G f b rest) (λ y. (v, y)) (next rest 64 (left_all b) (λ p us w. ends p us (omega arith)))
    second a b ts r ends next m n c (stuck i) k h = tt
    second a b ts r ends next m n c out k h = absurd h

    module _ (good : (p : L.Part) (ts : List (TokenOf L)) → IsGood L G (L.stands_for p) (part p) (f p) ts (f p ts)) where
      rule_ends : {s : Sort L.Thing} → (a : Rule L s) (ts : List (TokenOf L)) (r : ℕ) → IsSound L G a → left_below L G r a ≡ true
          → ((p : L.Part) (us : List (TokenOf L)) → weight L G p us < length ts * 64 + r → Ends (f p us))
          → Ends (read_with L G f a ts)
      rule_ends (one_of is) ts r h l ends = token_ends is ts
      rule_ends (part p) ts r h l ends = (let below : G.rank p < r = lt_of (G.rank p) r l in ends p ts (omega arith))
      rule_ends (both a b) ts r h l ends =
          let c = and_parts _ _ l in
          second a b ts r ends (λ rest q m w. rule_ends b rest q h.1 m w) (nullable L G a) refl c.1 (read_with L G f a ts)
          (good_rule L G C f good a h.0 ts) (rule_ends a ts r h.0 c.0 ends)
      rule_ends (either a b) ts r h l ends =
          let c = and_parts _ _ l in
          either_ends (starts (first L G a) ts) (read_with L G f a ts) (read_with L G f b ts) (rule_ends a ts r h.0 c.0 ends) (rule_ends b ts r h.1 c.1 ends)
      rule_ends (maybe a) ts r h l ends =
          either_ends (starts (first L G a) ts) (read_with L G f a ts >>= λ x. got (Some x.0) x.1) (got None ts) (mapped_ends (read_with L G f a ts) Some (rule_ends a ts r h l ends)) tt
      rule_ends (placed a) ts r h l ends = mapped_ends (read_with L G f a ts) (λ x. (place_of ts, x)) (rule_ends a ts r h.0 l ends)
      rule_ends (make m a) ts r h l ends = mapped_ends (read_with L G f a ts) m (rule_ends a ts r h l ends)

  levels_end : (k : ℕ) (p : L.Part) (ts : List (TokenOf L)) → weight L G p ts < k → Ends (read L G k p ts)
  levels_end zero p ts h = absurd (omega arith)
  levels_end (suc k) p ts h =
      rule_ends (read L G k) (good_read L G C k) (G.rule_of p) ts (G.rank p) (C.sound p) (C.ranked p) (λ q us w. levels_end k q us (omega arith))

  pub reading_ends : (p : L.Part) (ts : List (TokenOf L)) → Ends (reading L G p ts)
  unfolding reading
  reading_ends p ts = levels_end (suc (weight L G p ts)) p ts (omega arith)
