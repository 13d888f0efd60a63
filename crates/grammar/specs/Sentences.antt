-- Which lists of tokens a part derives, and where a list stops being the beginning of one.
use Rattle.std.specs.Prelude.{◌≡◌, ℕ, ◌+◌, ◌<◌, ◌≤◌, List, ◌++◌, length, take}
use Rattle.grammar.specs.Rules.{Language, TokenOf, Value, part}
use Rattle.grammar.specs.Grammar.{Grammar, Derives}

module _ (L : Language) (G : Grammar L) (p : L.Part) where
  -- the tokens are the part with this value
  abbrev pub IsSentence : List (TokenOf L) → Value L (L.stands_for p) → Type 0
  IsSentence ts v = Derives L G (L.stands_for p) (part p) ts v

  -- some sentence begins with the tokens
  abbrev pub Begins : List (TokenOf L) → Type 0
  Begins ts = (more : List (TokenOf L)) × (v : Value L (L.stands_for p)) × IsSentence (ts ++ more) v

  -- a sentence begins with the tokens before number n, but none with those up to it; or they end there and are none
  pub record IsMisfit (ts : List (TokenOf L)) (n : ℕ) : Type 0 where
    pub within : n ≤ length ts
    pub begins : Begins (take n ts)
    pub fails : n < length ts → Begins (take (n + 1) ts) → ⊥
    pub ends : n ≡ length ts → (v : Value L (L.stands_for p)) → IsSentence ts v → ⊥
