-- Rules with an action each, as in a generator of parsers, over any terminals, parts and values.
use Rattle.std.specs.Prelude.{ℕ, Bool, List, Option}

-- a token: the terminal of the grammar that it is, the place of its first byte, and what else it says
pub record Token (T W : Type 0) : Type 0 where
  pub kind : T
  pub at : ℕ
  pub worth : W

-- what a rule stands for, over some things: codes for types, since a type of rules may not hold types
pub data Sort (B : Type 0) : Type 0 where
  token : Sort B
  place : Sort B
  thing : B → Sort B
  pair : Sort B → Sort B → Sort B
  option : Sort B → Sort B
  list : Sort B → Sort B

-- what a grammar is written over: its terminals, what a token says beside its terminal, the things that parts stand for with
-- their values, and the parts that have a name with what each stands for
pub record Language : Type 1 where
  pub Terminal : Type 0
  pub Worth : Type 0
  pub Thing : Type 0
  pub Meaning : Thing → Type 0
  pub Part : Type 0
  pub stands_for : Part → Sort Thing

abbrev pub TokenOf : Language → Type 0
TokenOf L = Token L.Terminal L.Worth

module _ (L : Language) where
  -- the values of a sort
  abbrev pub Value : Sort L.Thing → Type 0
  Value token = TokenOf L
  Value place = ℕ
  Value (thing b) = L.Meaning b
  Value (pair s t) = Value s × Value t
  Value (option s) = Option (Value s)
  Value (list s) = List (Value s)

  -- one_of: a token of these kinds; part: a part by its name; both: one after the other; either: one of two;
  -- maybe: an option; placed: with the place of its first token; make: with its value changed
  pub data Rule : Sort L.Thing → Type 0 where
    one_of : (L.Terminal → Bool) → Rule token
    part : (p : L.Part) → Rule (L.stands_for p)
    both : {s t : Sort L.Thing} → Rule s → Rule t → Rule (pair s t)
    either : {s : Sort L.Thing} → Rule s → Rule s → Rule s
    maybe : {s : Sort L.Thing} → Rule s → Rule (option s)
    placed : {s : Sort L.Thing} → Rule s → Rule (pair place s)
    make : {s t : Sort L.Thing} → (Value s → Value t) → Rule s → Rule t
