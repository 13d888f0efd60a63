-- How the tokens of a canonical text are laid out in a line.
use Rattle.std.specs.Prelude.{ℕ, Bool, true, false, ◌||◌, List, [], ◌∷◌, ◌++◌, Option, Some, None, if◌then◌else◌}
use Rattle.delta_parse.specs.declared.terminal.Terminal.TheVariants.{Open, Close, Comma, Semicolon}
use Rattle.delta_parse.specs.Terminals.{is_kind}
use Rattle.delta_print.specs.declared.chunk.Chunk.{Chunk}
use Rattle.delta_print.specs.declared.chunk.Chunk.TheVariants.{Fixed, Named, Digits, Minus, TypeStar}
use Rattle.delta_print.specs.Chunks.{chunk_text}

-- no space stands behind an opening bracket, and none behind the minus of a negative number
abbrev pub holds_next : Chunk → Bool
holds_next (Fixed k) = is_kind k Open
holds_next (Named x) = false
holds_next (Digits n) = false
holds_next Minus = true
holds_next TypeStar = false

-- no space stands before a closing bracket, a comma, a semicolon, or the star of a type
abbrev pub holds_back : Chunk → Bool
holds_back (Fixed k) = is_kind k Close || (is_kind k Comma || is_kind k Semicolon)
holds_back (Named x) = false
holds_back (Digits n) = false
holds_back Minus = false
holds_back TypeStar = true

-- what stands between a token and the one before it, if there is one: one space, or nothing
abbrev pub gap : Option Chunk → Chunk → List ℕ
gap None c = []
gap (Some b) c = if holds_next b || holds_back c then [] else 32 ∷ []

-- tokens behind another, where these are the texts of the names
abbrev pub laid_behind : List (List ℕ) → Option Chunk → List Chunk → List ℕ
laid_behind names before [] = []
laid_behind names before (c ∷ cs) = gap before c ++ (chunk_text names c ++ laid_behind names (Some c) cs)

-- the text of tokens in a line
abbrev pub laid_out : List (List ℕ) → List Chunk → List ℕ
laid_out names row = laid_behind names None row
