-- What characters can do in a token, and the words.
use Rattle.std.specs.Prelude.{ℕ, Bool, ◌||◌, ◌&&◌, ◌==◌, not, nat_le, List, [], ◌∷◌}
use Rattle.std.specs.List.{list_any}
use Rattle.std.specs.Str.{bytes_eq}
use lib.Chars.{codes}
use Rattle.unicode_ident.specs.Ident.{is_xid_start, is_xid_continue}
use Rattle.delta_lex.specs.declared.character.Run.{Run}
use Rattle.delta_lex.specs.declared.character.Run.TheVariants.{Letters, Digits, Comment}

-- space, tab, carriage return and line feed separate tokens
abbrev pub is_separator : ℕ → Bool
is_separator c = c == 32 || (c == 9 || (c == 13 || c == 10))

-- a name starts with _ or with a character that can start an identifier
abbrev pub starts_name : ℕ → Bool
starts_name c = c == 95 || is_xid_start c

-- a number is made of ASCII digits
abbrev pub is_digit : ℕ → Bool
is_digit c = nat_le 48 c && nat_le c 57

-- the signs of one character: ( ) { } , ; : = | + - * / < .
abbrev pub signs : List ℕ
signs = codes "(){},;:=|+-*/<."

abbrev pub is_sign : ℕ → Bool
is_sign c = list_any (λ s. s == c) signs

-- a name goes on with what can go on an identifier, a number with digits, and a comment up to before a line feed
abbrev pub goes_on : Run → ℕ → Bool
goes_on Letters c = is_xid_continue c
goes_on Digits c = is_digit c
goes_on Comment c = not (c == 10)

-- the words of the language, which are no names
abbrev pub words : List (List ℕ)
words = codes "fun" ∷ codes "main" ∷ codes "type" ∷ codes "let" ∷ codes "in" ∷ codes "case" ∷ codes "of"
    ∷ codes "inl" ∷ codes "inr" ∷ codes "nil" ∷ codes "wait" ∷ codes "eps" ∷ codes "if" ∷ codes "then" ∷ codes "else"
    ∷ codes "fold" ∷ codes "from" ∷ codes "with" ∷ codes "Int" ∷ codes "fst" ∷ codes "snd" ∷ []

abbrev pub is_word : List ℕ → Bool
is_word text = list_any (λ word. bytes_eq word text) words
