-- Reading from left to right by the next token alone, with the first place at which no token fits.
use Rattle.std.specs.Prelude.{ℕ, zero, suc, ◌+◌, ◌*◌, Bool, true, false, List, Some, None, [], ◌∷◌, ◌||◌, ◌&&◌, length, if◌then◌else◌}
use Rattle.grammar.specs.Rules.{Token, Sort, Language, TokenOf, Value, Rule, one_of, part, both, either, maybe, placed, make}
use Rattle.grammar.specs.Grammar.{Grammar, place_of}

-- a value and the tokens after it; or stuck with so many tokens left, the next of which doesn't fit; or out of levels
pub data Outcome (K A : Type 0) : Type 0 where
  got : A → List K → Outcome K A
  stuck : ℕ → Outcome K A
  out : Outcome K A

infixl 10 ◌>>=◌
abbrev pub ◌>>=◌ : {K A B : Type 0} → Outcome K A → (A × List K → Outcome K B) → Outcome K B
(got x rest) >>= f = f (x, rest)
(stuck n) >>= f = stuck n
out >>= f = out

-- a token of these kinds stands next
abbrev pub starts : {T W : Type 0} → (T → Bool) → List (Token T W) → Bool
starts is [] = false
starts is (t ∷ rest) = is t.kind

abbrev pub front : {K : Type 0} → List K → Outcome K K
front [] = out
front (t ∷ rest) = got t rest

-- a token of these kinds
abbrev pub token_at : {T W : Type 0} → (T → Bool) → List (Token T W) → Outcome (Token T W) (Token T W)
token_at is ts = if starts is ts then front ts else stuck (length ts)

-- what reads each part
abbrev pub Reads : Language → Type 0
Reads L = (p : L.Part) → List (TokenOf L) → Outcome (TokenOf L) (Value L (L.stands_for p))

module _ (L : Language) (G : Grammar L) where
  -- whether a rule derives no token at all
  abbrev pub nullable : {s : Sort L.Thing} → Rule L s → Bool
  nullable (one_of is) = false
  nullable (part p) = G.part_nullable p
  nullable (both a b) = nullable a && nullable b
  nullable (either a b) = nullable a || nullable b
  nullable (maybe a) = true
  nullable (placed a) = nullable a
  nullable (make f a) = nullable a

  -- the terminals with which a rule may begin
  abbrev pub first : {s : Sort L.Thing} → Rule L s → L.Terminal → Bool
  first (one_of is) t = is t
  first (part p) t = G.part_first p t
  first (both a b) t = if nullable a then (first a t || first b t) else first a t
  first (either a b) t = first a t || first b t
  first (maybe a) t = first a t
  first (placed a) t = first a t
  first (make f a) t = first a t

  module _ (f : Reads L) where
    -- a rule, where f reads its parts
    abbrev pub read_with : {s : Sort L.Thing} → Rule L s → List (TokenOf L) → Outcome (TokenOf L) (Value L s)
    read_with (one_of is) ts = token_at is ts
    read_with (part p) ts = f p ts
    read_with (both a b) ts = do
      x ← read_with a ts
      y ← read_with b x.1
      got (x.0, y.0) y.1
    read_with (either a b) ts = if starts (first a) ts then read_with a ts else read_with b ts
    read_with (maybe a) ts = if starts (first a) ts then (read_with a ts >>= λ x. got (Some x.0) x.1) else got None ts
    read_with (placed a) ts = do
      x ← read_with a ts
      got (place_of ts, x.0) x.1
    read_with (make h a) ts = do
      x ← read_with a ts
      got (h x.0) x.1

  -- a part, in so many levels of parts
  abbrev pub read : ℕ → Reads L
  read zero p ts = out
  read (suc k) p ts = read_with (read k) (G.rule_of p) ts

  -- more levels than reading needs: each level takes a token or goes to a part of a lower rank
  abbrev pub weight : L.Part → List (TokenOf L) → ℕ
  weight p ts = length ts * 64 + G.rank p

  unfoldable pub reading : Reads L
  reading p ts = read (suc (weight p ts)) p ts
