-- The shapes of tokens, apart from how they are found in a text.
use Rattle.std.specs.Prelude.{◌≡◌, ℕ, ◌≤◌, Bool, true, false, ◌&&◌, List, [], ◌∷◌, length, take}
use Rattle.std.specs.List.{list_all}
use Rattle.delta_lex.specs.declared.token.Kind.{Kind}
use Rattle.delta_lex.specs.declared.token.Kind.TheVariants.{Name, Word, Number, Sign}
use Rattle.delta_lex.specs.declared.piece.Piece.{Piece}
use Rattle.delta_lex.specs.declared.piece.Piece.TheVariants.{Gap, Solid, Stray}
use Rattle.delta_lex.specs.declared.character.Run.TheVariants.{Letters, Digits}
use Rattle.delta_lex.specs.Characters.{is_separator, starts_name, is_digit, is_sign, goes_on}
use Rattle.delta_lex.specs.Pieces.{joins}

-- the characters are a name or a word, a number, or a sign
abbrev pub has_shape : Kind → List ℕ → Bool
has_shape Name [] = false
has_shape Name (c ∷ cs) = starts_name c && list_all (goes_on Letters) cs
has_shape Word cs = false
has_shape Number [] = false
has_shape Number (c ∷ cs) = is_digit c && list_all (goes_on Digits) cs
has_shape Sign [] = false
has_shape Sign (c ∷ []) = is_sign c
has_shape Sign (c ∷ d ∷ []) = joins c (d ∷ [])
has_shape Sign (c ∷ d ∷ e ∷ cs) = false

-- each token that a character and so many behind it make is of this kind and no longer than this
abbrev pub NoneLonger : Kind → ℕ → ℕ → List ℕ → Type 0
NoneLonger kind n c cs = (k : Kind) (m : ℕ) → m ≤ length cs → has_shape k (c ∷ take m cs) ≡ true → (k ≡ kind) × (m ≤ n)

-- the character starts no token
abbrev pub StartsNone : ℕ → List ℕ → Type 0
StartsNone c cs = (k : Kind) (m : ℕ) → m ≤ length cs → has_shape k (c ∷ take m cs) ≡ true → ⊥

-- a token at the front is the longest one, and a separator or a stray character starts none
abbrev pub IsLongest : Piece → ℕ → List ℕ → Type 0
IsLongest (Gap n) c cs = is_separator c ≡ true → StartsNone c cs
IsLongest (Solid kind n) c cs = (n ≤ length cs) × ((has_shape kind (c ∷ take n cs) ≡ true) × NoneLonger kind n c cs)
IsLongest Stray c cs = StartsNone c cs
