-- Enough levels read the same, so reading needs no count of levels: it is the rule, read with reading itself.
use Rattle.std.proofs.Common.{◌≡◌, ℕ, zero, suc, ◌+◌, ◌*◌, ◌<◌, Bool, true, false, List, [], ◌∷◌, refl, sym, ap, ◌∙◌, cond, length, arith, length-append}
use Rattle.std.proofs.lemmas.Bool.{and_parts}
use Rattle.grammar.specs.Rules.{Sort, Language, TokenOf, Value, Rule, one_of, part, both, either, maybe, placed, make}
use Rattle.grammar.specs.Grammar.{Grammar, by_part}
use Rattle.grammar.specs.Reading.{Outcome, got, stuck, out, ◌>>=◌, nullable, Reads, read_with, read, weight, reading}
use Rattle.grammar.proofs.Tests.{cond_true, lt_of}
use Rattle.grammar.proofs.Checked.{IsSound, left_below, Checked}
use Rattle.grammar.proofs.FirstTokens.{nullable_law}
use Rattle.grammar.proofs.Prefixes.{IsGood, good_rule}

pub no_tokens : {K : Type 0} → (u : List K) → (u ≡ [] → ⊥) → 0 < length u
no_tokens [] h = absurd (h refl)
no_tokens (t ∷ u) h = omega arith

abbrev pair_up : {K A B : Type 0} → Outcome K A → (List K → Outcome K B) → Outcome K (A × B)
pair_up o F = o >>= λ x. F x.1 >>= λ y. got (x.0, y.0) y.1

module _ (L : Language) (G : Grammar L) (C : Checked L G) where
  left_all : {s : Sort L.Thing} → (a : Rule L s) → left_below L G 64 a ≡ true
  left_all (one_of is) = refl
  left_all (part p) = C.rank_below p
  left_all (both a b) = rw (left_all a, left_all b) (cond_true (nullable L G a))
  left_all (either a b) = rw (left_all a, left_all b) refl
  left_all (maybe a) = left_all a
  left_all (placed a) = left_all a
  left_all (make m a) = left_all a

  module _ (f g : Reads L) where
    second : {s t : Sort L.Thing} → (a : Rule L s) (b : Rule L t) (ts : List (TokenOf L)) (r : ℕ)
        → ((p : L.Part) (us : List (TokenOf L)) → weight L G p us < length ts * 64 + r → f p us ≡ g p us)
        → ((rest : List (TokenOf L)) (q : ℕ) → left_below L G q b ≡ true → ((p : L.Part) (us : List (TokenOf L)) → weight L G p us < length rest * 64 + q → f p us ≡ g p us) → read_with L G f b rest ≡ read_with L G g b rest)
        → (n : Bool) → nullable L G a ≡ n → cond n (left_below L G r b) true ≡ true
        → (o : Outcome (TokenOf L) (Value L s)) → IsGood L G s a (read_with L G g a) ts o
        → pair_up o (read_with L G f b) ≡ pair_up o (read_with L G g b)
    second {s = s} {t = t} a b ts r same next true n c (got v rest) k =
        let count : length ts ≡ length k.taken + length rest = ap length k.split ∙ length-append k.taken rest in
        let e : read_with L G f b rest ≡ read_with L G g b rest = next rest r c (λ p us h. same p us (omega arith)) in
        rw e refl
    second {s = s} {t = t} a b ts r same next false n c (got v rest) k =
        let count : length ts ≡ length k.taken + length rest = ap length k.split ∙ length-append k.taken rest in
        let full : 0 < length k.taken = no_tokens k.taken (λ e. let m : nullable L G a ≡ true = nullable_law L G C k.derived e in cc) in
        let e : read_with L G f b rest ≡ read_with L G g b rest = next rest 64 (left_all b) (λ p us h. same p us (omega arith)) in
        rw e refl
    second a b ts r same next n m c (stuck i) k = refl
    second a b ts r same next n m c out k = refl

    module _ (good : (p : L.Part) (ts : List (TokenOf L)) → IsGood L G (L.stands_for p) (part p) (g p) ts (g p ts)) where
      pub agree : {s : Sort L.Thing} → (a : Rule L s) (ts : List (TokenOf L)) (r : ℕ) → IsSound L G a → left_below L G r a ≡ true
          → ((p : L.Part) (us : List (TokenOf L)) → weight L G p us < length ts * 64 + r → f p us ≡ g p us)
          → read_with L G f a ts ≡ read_with L G g a ts
      agree (one_of is) ts r h l same = refl
      agree (part p) ts r h l same = (let below : G.rank p < r = lt_of (G.rank p) r l in same p ts (omega arith))
      agree (both a b) ts r h l same =
          let c = and_parts _ _ l in
          let e : read_with L G f a ts ≡ read_with L G g a ts = agree a ts r h.0 c.0 same in
          rw e (second a b ts r same (λ rest q m w. agree b rest q h.1 m w) (nullable L G a) refl c.1 (read_with L G g a ts) (good_rule L G C g good a h.0 ts))
      agree (either a b) ts r h l same =
          let c = and_parts _ _ l in
          let e : read_with L G f a ts ≡ read_with L G g a ts = agree a ts r h.0 c.0 same in
          let k : read_with L G f b ts ≡ read_with L G g b ts = agree b ts r h.1 c.1 same in
          rw (e, k) refl
      agree (maybe a) ts r h l same =
          let e : read_with L G f a ts ≡ read_with L G g a ts = agree a ts r h l same in
          rw e refl
      agree (placed a) ts r h l same =
          let e : read_with L G f a ts ≡ read_with L G g a ts = agree a ts r h.0 l same in
          rw e refl
      agree (make m a) ts r h l same =
          let e : read_with L G f a ts ≡ read_with L G g a ts = agree a ts r h l same in
          rw e refl

  good_named : (k : ℕ) (p : L.Part) (ts : List (TokenOf L)) (o : Outcome (TokenOf L) (Value L (L.stands_for p))) → IsGood L G (L.stands_for p) (G.rule_of p) (read_with L G (read L G k) (G.rule_of p)) ts o
      → IsGood L G (L.stands_for p) (part p) (read L G (suc k) p) ts o
  good_named k p ts (got v rest) r = record { taken = r.taken; split = r.split; derived = by_part r.derived; again = r.again }
  good_named k p ts (stuck n) r = record { taken = r.taken; rest = r.rest; split = r.split; left = r.left; more = r.more; value = r.value; completed = by_part r.completed; again = r.again }
  good_named k p ts out r = tt

  pub good_read : (k : ℕ) (p : L.Part) (ts : List (TokenOf L)) → IsGood L G (L.stands_for p) (part p) (read L G k p) ts (read L G k p ts)
  good_read zero p ts = tt
  good_read (suc k) p ts = good_named k p ts (read_with L G (read L G k) (G.rule_of p) ts) (good_rule L G C (read L G k) (good_read k) (G.rule_of p) (C.sound p) ts)

  -- levels enough are levels enough
  pub levels : (j k : ℕ) (p : L.Part) (ts : List (TokenOf L)) → weight L G p ts < j → weight L G p ts < k → read L G j p ts ≡ read L G k p ts
  levels zero k p ts a b = absurd (omega arith)
  levels (suc j) zero p ts a b = absurd (omega arith)
  levels (suc j) (suc k) p ts a b =
      agree (read L G j) (read L G k) (good_read k) (G.rule_of p) ts (G.rank p) (C.sound p) (C.ranked p) (λ q us h. levels j k q us (omega arith) (omega arith))

  pub reading_is : (p : L.Part) (ts : List (TokenOf L)) → reading L G p ts ≡ read_with L G (reading L G) (G.rule_of p) ts
  unfolding reading
  reading_is p ts =
      sym (agree (reading L G) (read L G (weight L G p ts)) (good_read (weight L G p ts)) (G.rule_of p) ts (G.rank p) (C.sound p) (C.ranked p) (λ q us h. levels (suc (weight L G q us)) (weight L G p ts) q us (omega arith) h))
