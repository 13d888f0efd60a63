-- Grammars, and what they derive.
use Rattle.std.specs.Prelude.{◌≡◌, ℕ, Bool, true, List, Some, None, [], ◌∷◌, ◌++◌}
use Rattle.grammar.specs.Rules.{Token, Sort, token, place, pair, option, Language, TokenOf, Value, Rule, one_of, part, both, either, maybe, placed, make}

-- a grammar: the rule of each part. The other three are tables by which it is read: the parts that derive no token at all, the
-- terminals with which a part may begin, and a number for each part that is lower where a part stands first in another
pub record Grammar (L : Language) : Type 0 where
  pub rule_of : (p : L.Part) → Rule L (L.stands_for p)
  pub part_nullable : L.Part → Bool
  pub part_first : L.Part → L.Terminal → Bool
  pub rank : L.Part → ℕ

-- the place of the first token
abbrev pub place_of : {T W : Type 0} → List (Token T W) → ℕ
place_of [] = 0
place_of (t ∷ rest) = t.at

-- the tokens are derived by the rule, and stand for the value
pub data Derives (L : Language) (G : Grammar L) : (s : Sort L.Thing) → Rule L s → List (TokenOf L) → Value L s → Type 0 where
  by_token : {is : L.Terminal → Bool} {t : TokenOf L} → is t.kind ≡ true → Derives L G token (one_of is) (t ∷ []) t
  by_part : {p : L.Part} {u : List (TokenOf L)} {v : Value L (L.stands_for p)} → Derives L G (L.stands_for p) (G.rule_of p) u v
      → Derives L G (L.stands_for p) (part p) u v
  by_both : {s t : Sort L.Thing} {a : Rule L s} {b : Rule L t} {u w : List (TokenOf L)} {x : Value L s} {y : Value L t} → Derives L G s a u x
      → Derives L G t b w y → Derives L G (pair s t) (both a b) (u ++ w) (x, y)
  by_left : {s : Sort L.Thing} {a b : Rule L s} {u : List (TokenOf L)} {x : Value L s} → Derives L G s a u x → Derives L G s (either a b) u x
  by_right : {s : Sort L.Thing} {a b : Rule L s} {u : List (TokenOf L)} {x : Value L s} → Derives L G s b u x → Derives L G s (either a b) u x
  by_none : {s : Sort L.Thing} {a : Rule L s} → Derives L G (option s) (maybe a) [] None
  by_some : {s : Sort L.Thing} {a : Rule L s} {u : List (TokenOf L)} {x : Value L s} → Derives L G s a u x → Derives L G (option s) (maybe a) u (Some x)
  by_placed : {s : Sort L.Thing} {a : Rule L s} {u : List (TokenOf L)} {x : Value L s} → Derives L G s a u x
      → Derives L G (pair place s) (placed a) u (place_of u, x)
  by_make : {s t : Sort L.Thing} {f : Value L s → Value L t} {a : Rule L s} {u : List (TokenOf L)} {x : Value L s} → Derives L G s a u x
      → Derives L G t (make f a) u (f x)
