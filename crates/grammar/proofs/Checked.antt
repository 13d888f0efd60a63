-- What is checked of a grammar: its tables are right, one token decides each choice, and each part has a sentence.
use Rattle.std.proofs.Common.{◌≡◌, ℕ, Bool, true, false, List, ◌||◌, ◌&&◌, not, cond, nat_lt}
use Rattle.grammar.specs.Rules.{Sort, Language, TokenOf, Value, Rule, one_of, part, both, either, maybe, placed, make}
use Rattle.grammar.specs.Grammar.{Grammar, Derives}
use Rattle.grammar.specs.Reading.{nullable, first}
use Rattle.grammar.proofs.Tests.{implied}

-- a sentence of a rule
pub record Sample (L : Language) (G : Grammar L) (s : Sort L.Thing) (a : Rule L s) : Type 0 where
  pub tokens : List (TokenOf L)
  pub value : Value L s
  pub derived : Derives L G s a tokens value

module _ (L : Language) (G : Grammar L) where
  -- what is asked of a rule: its tokens exist, and a place is asked of what takes a token
  abbrev pub IsSound : {s : Sort L.Thing} → Rule L s → Type 0
  IsSound (one_of is) = (x : TokenOf L) × (is x.kind ≡ true)
  IsSound (part p) = Unit {0}
  IsSound (both a b) = IsSound a × IsSound b
  IsSound (either a b) = IsSound a × IsSound b
  IsSound (maybe a) = IsSound a
  IsSound (placed a) = IsSound a × (nullable L G a ≡ false)
  IsSound (make m a) = IsSound a

  -- the parts that a rule may read before any token have a rank below r
  abbrev pub left_below : {s : Sort L.Thing} → ℕ → Rule L s → Bool
  left_below r (one_of is) = true
  left_below r (part p) = nat_lt (G.rank p) r
  left_below r (both a b) = left_below r a && (cond (nullable L G a) (left_below r b) true)
  left_below r (either a b) = left_below r a && left_below r b
  left_below r (maybe a) = left_below r a
  left_below r (placed a) = left_below r a
  left_below r (make m a) = left_below r a

  module _ (part_next : L.Part → L.Terminal → Bool) where
    -- the terminals with which a rule that is over could go on
    abbrev pub next : {s : Sort L.Thing} → Rule L s → L.Terminal → Bool
    next (one_of is) t = false
    next (part p) t = part_next p t
    next (both a b) t = next b t || (nullable L G b && next a t)
    next (either a b) t = next a t || next b t
    next (maybe a) t = first L G a t || next a t
    next (placed a) t = next a t
    next (make m a) t = next a t

    module _ (every : (L.Terminal → Bool) → Bool) where
      abbrev pub apart : (L.Terminal → Bool) → (L.Terminal → Bool) → Bool
      apart p q = every (λ t. not (p t && q t))

      -- one token decides each choice
      abbrev pub is_decided : {s : Sort L.Thing} → Rule L s → Bool
      is_decided (one_of is) = true
      is_decided (part p) = true
      is_decided (both a b) = is_decided a && (is_decided b && apart (next a) (first L G b))
      is_decided (either a b) = is_decided a && (is_decided b && (apart (first L G a) (first L G b) && (not (nullable L G a) && not (nullable L G b))))
      is_decided (maybe a) = is_decided a && not (nullable L G a)
      is_decided (placed a) = is_decided a && not (nullable L G a)
      is_decided (make m a) = is_decided a

-- a test over all terminals, and the terminals with which each part could go on
pub record Checked (L : Language) (G : Grammar L) : Type 0 where
  pub every : (L.Terminal → Bool) → Bool
  pub every_is : (p : L.Terminal → Bool) → every p ≡ true → (t : L.Terminal) → p t ≡ true
  pub part_next : L.Part → L.Terminal → Bool
  pub nullable_is : (p : L.Part) → nullable L G (G.rule_of p) ≡ true → G.part_nullable p ≡ true
  pub first_is : (p : L.Part) → every (λ t. implied (first L G (G.rule_of p) t) (G.part_first p t)) ≡ true
  pub next_is : (p : L.Part) → every (λ t. implied (next L G part_next (G.rule_of p) t) (part_next p t)) ≡ true
  pub decided : (p : L.Part) → is_decided L G part_next every (G.rule_of p) ≡ true
  pub ranked : (p : L.Part) → left_below L G (G.rank p) (G.rule_of p) ≡ true
  pub rank_below : (p : L.Part) → nat_lt (G.rank p) 64 ≡ true
  pub sound : (p : L.Part) → IsSound L G (G.rule_of p)
  pub sample : (p : L.Part) → Sample L G (L.stands_for p) (part p)
