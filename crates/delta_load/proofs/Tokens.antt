-- The tokens of the load's program.
use Rattle.std.proofs.Common.{◌≡◌, ℕ, List, [], ◌∷◌, Ok, refl, pos}
use lib.Chars.{codes}
use lib.Utf8.{encode}
use Rattle.unicode_ident.proofs.Computing.{unicode_ident}
use Rattle.delta_lex.specs.declared.token.Kind.TheVariants.{Name, Word, Number, Sign}
use Rattle.delta_lex.specs.Tokens.{Lexeme, lexeme, reading}
use Rattle.delta_parse.specs.declared.terminal.Terminal.{Terminal}
use Rattle.delta_parse.specs.declared.terminal.Terminal.TheVariants.{Arrow, Bar, CaseWord, Close, CloseBrace, Colon, Colons, Dot, ElseWord, Equals, FunWord, IfWord, InWord, IntWord, Less, LetWord, MainWord, NilWord, OfWord, Open, OpenBrace, Semicolon, ThenWord, Times, WaitWord, NameToken, NumberToken}
use Rattle.delta_parse.specs.Terminals.{Tok}
use Rattle.delta_parse.specs.Plain.{grammar_tokens}
use Rattle.delta_load.specs.LoadText.{load_text}

abbrev pub load_tokens : List Lexeme
load_tokens =
    lexeme Word 0 (codes "fun") ∷ lexeme Name 4 (codes "over") ∷ lexeme Sign 9 (codes "(") ∷ lexeme Name 10 (codes "xs") ∷
    lexeme Sign 13 (codes ":") ∷ lexeme Sign 15 (codes "(") ∷ lexeme Word 16 (codes "Int") ∷ lexeme Sign 20 (codes ".") ∷
    lexeme Word 22 (codes "Int") ∷ lexeme Sign 25 (codes ")") ∷ lexeme Sign 26 (codes "*") ∷ lexeme Sign 27 (codes ")") ∷
    lexeme Sign 29 (codes ":") ∷ lexeme Word 31 (codes "Int") ∷ lexeme Sign 34 (codes "*") ∷ lexeme Sign 36 (codes "=") ∷
    lexeme Word 38 (codes "case") ∷ lexeme Name 43 (codes "xs") ∷ lexeme Word 46 (codes "of") ∷ lexeme Sign 49 (codes "{") ∷
    lexeme Word 51 (codes "nil") ∷ lexeme Sign 55 (codes "=>") ∷ lexeme Word 58 (codes "nil") ∷ lexeme Sign 62 (codes "|") ∷
    lexeme Name 64 (codes "y") ∷ lexeme Sign 66 (codes "::") ∷ lexeme Name 69 (codes "ys") ∷ lexeme Sign 72 (codes "=>") ∷
    lexeme Word 75 (codes "let") ∷ lexeme Sign 79 (codes "(") ∷ lexeme Name 80 (codes "k") ∷ lexeme Sign 81 (codes ";") ∷
    lexeme Name 83 (codes "v") ∷ lexeme Sign 84 (codes ")") ∷ lexeme Sign 86 (codes "=") ∷ lexeme Name 88 (codes "y") ∷
    lexeme Word 90 (codes "in") ∷ lexeme Word 93 (codes "wait") ∷ lexeme Name 98 (codes "k") ∷ lexeme Word 100 (codes "in") ∷
    lexeme Word 103 (codes "wait") ∷ lexeme Name 108 (codes "v") ∷ lexeme Word 110 (codes "in") ∷ lexeme Word 113 (codes "if") ∷
    lexeme Number 116 (codes "500") ∷ lexeme Sign 120 (codes "<") ∷ lexeme Name 122 (codes "v") ∷ lexeme Word 124 (codes "then") ∷
    lexeme Sign 129 (codes "{") ∷ lexeme Name 131 (codes "k") ∷ lexeme Sign 133 (codes "}") ∷ lexeme Sign 135 (codes "::") ∷
    lexeme Name 138 (codes "over") ∷ lexeme Sign 143 (codes "(") ∷ lexeme Name 144 (codes "ys") ∷ lexeme Sign 146 (codes ")") ∷
    lexeme Word 148 (codes "else") ∷ lexeme Name 153 (codes "over") ∷ lexeme Sign 158 (codes "(") ∷ lexeme Name 159 (codes "ys") ∷
    lexeme Sign 161 (codes ")") ∷ lexeme Sign 163 (codes "}") ∷ lexeme Word 165 (codes "main") ∷ lexeme Sign 170 (codes "(") ∷
    lexeme Name 171 (codes "xs") ∷ lexeme Sign 174 (codes ":") ∷ lexeme Sign 176 (codes "(") ∷ lexeme Word 177 (codes "Int") ∷
    lexeme Sign 181 (codes ".") ∷ lexeme Word 183 (codes "Int") ∷ lexeme Sign 186 (codes ")") ∷ lexeme Sign 187 (codes "*") ∷
    lexeme Sign 188 (codes ")") ∷ lexeme Sign 190 (codes ":") ∷ lexeme Word 192 (codes "Int") ∷ lexeme Sign 195 (codes "*") ∷
    lexeme Sign 197 (codes "=") ∷ lexeme Name 199 (codes "over") ∷ lexeme Sign 204 (codes "(") ∷ lexeme Name 205 (codes "xs") ∷
    lexeme Sign 207 (codes ")") ∷ []

pub tokens_read : reading 0 0 load_text ≡ Ok load_tokens
unfolding unicode_ident encode
tokens_read = refl

abbrev pub plain_token : Terminal → ℕ → Tok
plain_token k at = record { kind = k; at = at; worth = record { name = 0; number = pos 0 } }

abbrev pub name_token : ℕ → ℕ → Tok
name_token at n = record { kind = NameToken; at = at; worth = record { name = n; number = pos 0 } }

abbrev pub number_token : ℕ → ℕ → Tok
number_token at n = record { kind = NumberToken; at = at; worth = record { name = 0; number = pos n } }

abbrev pub load_plain : List Tok
load_plain =
    plain_token FunWord 0 ∷ name_token 4 0 ∷ plain_token Open 9 ∷ name_token 10 1 ∷ plain_token Colon 13 ∷ plain_token Open 15 ∷
    plain_token IntWord 16 ∷ plain_token Dot 20 ∷ plain_token IntWord 22 ∷ plain_token Close 25 ∷ plain_token Times 26 ∷
    plain_token Close 27 ∷ plain_token Colon 29 ∷ plain_token IntWord 31 ∷ plain_token Times 34 ∷ plain_token Equals 36 ∷
    plain_token CaseWord 38 ∷ name_token 43 1 ∷ plain_token OfWord 46 ∷ plain_token OpenBrace 49 ∷ plain_token NilWord 51 ∷
    plain_token Arrow 55 ∷ plain_token NilWord 58 ∷ plain_token Bar 62 ∷ name_token 64 2 ∷ plain_token Colons 66 ∷ name_token 69 3 ∷
    plain_token Arrow 72 ∷ plain_token LetWord 75 ∷ plain_token Open 79 ∷ name_token 80 4 ∷ plain_token Semicolon 81 ∷ name_token 83 5 ∷
    plain_token Close 84 ∷ plain_token Equals 86 ∷ name_token 88 2 ∷ plain_token InWord 90 ∷ plain_token WaitWord 93 ∷ name_token 98 4 ∷
    plain_token InWord 100 ∷ plain_token WaitWord 103 ∷ name_token 108 5 ∷ plain_token InWord 110 ∷ plain_token IfWord 113 ∷
    number_token 116 500 ∷ plain_token Less 120 ∷ name_token 122 5 ∷ plain_token ThenWord 124 ∷ plain_token OpenBrace 129 ∷
    name_token 131 4 ∷ plain_token CloseBrace 133 ∷ plain_token Colons 135 ∷ name_token 138 0 ∷ plain_token Open 143 ∷ name_token 144 3 ∷
    plain_token Close 146 ∷ plain_token ElseWord 148 ∷ name_token 153 0 ∷ plain_token Open 158 ∷ name_token 159 3 ∷ plain_token Close 161 ∷
    plain_token CloseBrace 163 ∷ plain_token MainWord 165 ∷ plain_token Open 170 ∷ name_token 171 1 ∷ plain_token Colon 174 ∷
    plain_token Open 176 ∷ plain_token IntWord 177 ∷ plain_token Dot 181 ∷ plain_token IntWord 183 ∷ plain_token Close 186 ∷
    plain_token Times 187 ∷ plain_token Close 188 ∷ plain_token Colon 190 ∷ plain_token IntWord 192 ∷ plain_token Times 195 ∷
    plain_token Equals 197 ∷ name_token 199 0 ∷ plain_token Open 204 ∷ name_token 205 1 ∷ plain_token Close 207 ∷ []

pub plain_is : grammar_tokens load_tokens ≡ load_plain
plain_is = refl
