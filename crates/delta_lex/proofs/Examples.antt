-- Readings and numbers, worked out.
use Rattle.std.proofs.Common.{◌≡◌, [], ◌∷◌, refl, Ok, Err, Some, None}
use Rattle.std.specs.Prelude.{pos}
use lib.Chars.{codes}
use lib.Utf8.{encode}
use Rattle.unicode_ident.proofs.Computing.{unicode_ident}
use Rattle.delta_lex.specs.declared.token.Kind.TheVariants.{Name, Word, Number, Sign}
use Rattle.delta_lex.specs.declared.fault.LexFault.TheVariants.{BadChar, BigNumber}
use Rattle.delta_lex.specs.Numbers.{number_of}
use Rattle.delta_lex.specs.Tokens.{lexeme, reading}

-- a comment is no token
comment : reading 0 0 (codes "x // c") ≡ Ok (lexeme Name 0 (codes "x") ∷ [])
unfolding unicode_ident encode
comment = refl

-- what stands behind a comment's line is read
next_line : reading 0 0 (codes "// c\n7") ≡ Ok (lexeme Number 5 (codes "7") ∷ [])
unfolding unicode_ident encode
next_line = refl

-- a character that starts no token, behind one that does
stray : reading 0 0 (codes ":#") ≡ Err (BadChar 1)
unfolding unicode_ident encode
stray = refl

-- the longest sign is taken
signs : reading 0 0 (codes ":::=>") ≡ Ok (lexeme Sign 0 (codes "::") ∷ lexeme Sign 2 (codes ":") ∷ lexeme Sign 3 (codes "=>") ∷ [])
unfolding unicode_ident encode
signs = refl

-- a word, and a name that begins as one
words : reading 0 0 (codes "fun fun1") ≡ Ok (lexeme Word 0 (codes "fun") ∷ lexeme Name 4 (codes "fun1") ∷ [])
unfolding unicode_ident encode
words = refl

-- the greatest number, and one more
greatest : number_of (codes "9223372036854775807") ≡ Some (pos 9223372036854775807)
greatest = refl

one_more : reading 0 0 (codes "9223372036854775808") ≡ Err (BigNumber 0)
unfolding unicode_ident encode
one_more = refl

no_digits : number_of (codes "+1") ≡ None
no_digits = refl

nothing : number_of [] ≡ None
nothing = refl
