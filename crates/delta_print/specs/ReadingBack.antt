-- What a canonical text is when it is read again.
use Rattle.std.specs.Prelude.{◌≡◌, ◌==◌, ℕ, ◌+◌, ◌<◌, ◌≤◌, ◌^◌, true, false, List, [], ◌∷◌, length, nat_lt, ◌||◌, ⊤, if◌then◌else◌}
use Rattle.std.specs.Str.{chars, IsUtf8}
use Rattle.delta_lex.specs.declared.token.Kind.{Kind}
use Rattle.delta_lex.specs.declared.token.Kind.TheVariants.{Name, Word, Number, Sign}
use Rattle.delta_lex.specs.Characters.{is_word}
use Rattle.delta_lex.specs.Shapes.{has_shape}
use Rattle.delta_lex.specs.Tokens.{Lexeme}
use Rattle.delta_lex.specs.Division.{Divides}
use Rattle.delta_tree.specs.SyntaxTree.{ProgramTree}
use Rattle.delta_tree.specs.Unplaced.{unplaced_program}
use Rattle.delta_parse.specs.declared.terminal.Terminal.TheVariants.{OneToken}
use Rattle.delta_parse.specs.Terminals.{code_of, is_kind}
use Rattle.delta_parse.specs.Programs.{IsTreeOf}
use Rattle.delta_print.specs.declared.chunk.Chunk.{Chunk}
use Rattle.delta_print.specs.declared.chunk.Chunk.TheVariants.{Fixed, Named, Digits, Minus, TypeStar}
use Rattle.delta_print.specs.Chunks.{name_text, chunk_text}
use Rattle.delta_print.specs.Printable.{program_row, IsMade}

-- the text is a name, and no word of the language
pub record IsNameText (text : List ℕ) : Type 0 where
  pub utf8 : IsUtf8 text
  pub shape : has_shape Name (chars text) ≡ true
  pub no_word : is_word text ≡ false

-- the token has a text that is a token: a word or a sign of the language, a name with a text, or a number within range
abbrev pub IsSpelled : List (List ℕ) → Chunk → Type 0
IsSpelled names (Fixed k) = nat_lt (code_of k) 39 || is_kind k OneToken ≡ true
IsSpelled names (Named x) = (x.0 < length names) × IsNameText (name_text names x.0)
IsSpelled names (Digits n) = n < 2 ^ 63
IsSpelled names Minus = ⊤
IsSpelled names TypeStar = ⊤

abbrev pub AreSpelled : List (List ℕ) → List Chunk → Type 0
AreSpelled names [] = ⊤
AreSpelled names (c ∷ cs) = IsSpelled names c × AreSpelled names cs

-- what a token of a text is where it is this token of a row
abbrev pub chunk_lexeme_kind : Chunk → Kind
chunk_lexeme_kind (Fixed k) = if nat_lt (code_of k) 21 then Word else (if is_kind k OneToken then Number else Sign)
chunk_lexeme_kind (Named x) = Name
chunk_lexeme_kind (Digits n) = Number
chunk_lexeme_kind Minus = Sign
chunk_lexeme_kind TypeStar = Sign

-- the tokens of a text are those of the row, one by one
abbrev pub AreLexemesOf : List (List ℕ) → List Chunk → List Lexeme → Type 0
AreLexemesOf names [] [] = ⊤
AreLexemesOf names (c ∷ cs) (l ∷ ls) = (l.kind ≡ chunk_lexeme_kind c) × ((l.text ≡ chunk_text names c) × AreLexemesOf names cs ls)
AreLexemesOf names _ _ = ⊥

-- the characters of the text divide into the tokens of the row, where those that stand in front have so many bytes
pub record DividesInto (names : List (List ℕ)) (text : List ℕ) (row : List Chunk) (at : ℕ) : Type 0 where
  pub tokens : List Lexeme
  pub divides : Divides at (chars text) tokens
  pub are : AreLexemesOf names row tokens

-- a name is one of those that stood before, so many, or the next
abbrev pub IsNextOf : ℕ → Chunk → Type 0
IsNextOf n (Fixed k) = ⊤
IsNextOf n (Named x) = x.0 ≤ n
IsNextOf n (Digits m) = ⊤
IsNextOf n Minus = ⊤
IsNextOf n TypeStar = ⊤

-- how many names stood before and with it
abbrev pub names_with : ℕ → Chunk → ℕ
names_with n (Fixed k) = n
names_with n (Named x) = if x.0 == n then n + 1 else n
names_with n (Digits m) = n
names_with n Minus = n
names_with n TypeStar = n

-- names are numbered in the order in which they first stand, behind so many, and there are so many of them in all
abbrev pub AreInOrder : ℕ → ℕ → List Chunk → Type 0
AreInOrder all n [] = n ≡ all
AreInOrder all n (c ∷ cs) = IsNextOf n c × AreInOrder all (names_with n c) cs

-- each text stands once
abbrev pub AreDistinct : List (List ℕ) → Type 0
AreDistinct names = (i j : ℕ) → i < j → j < length names → name_text names i ≡ name_text names j → ⊥

-- a program that can be read again: the grammar makes its tree; its names have texts that are names, each once, and are numbered in
-- the order in which they first stand in the text; its numbers are within range; the name of `main` is the number behind the names
pub record IsPrintable (p : ProgramTree) : Type 0 where
  pub made : IsMade p
  pub spelled : AreSpelled p.names (program_row p)
  pub ordered : AreInOrder (length p.names) 0 (program_row p)
  pub distinct : AreDistinct p.names
  pub main : p.main.name ≡ length p.names

-- the text, read without any limit, is the program but for places
pub record IsReadAs (text : List ℕ) (p : ProgramTree) : Type 0 where
  pub tokens : List Lexeme
  pub tree : ProgramTree
  pub divides : Divides 0 (chars text) tokens
  pub is_tree : IsTreeOf tokens tree
  pub same : unplaced_program tree ≡ unplaced_program p
