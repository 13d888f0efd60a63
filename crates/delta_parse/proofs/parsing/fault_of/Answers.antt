use Rattle.std.proofs.Common.{◌≡◌, ◌∙◌, ℕ, suc, List, [], ◌∷◌, refl, ap, length, subst}
use Rattle.std.proofs.lemmas.List.{length-map}
use Rattle.delta_lex.specs.Tokens.{Lexeme, lexeme_of, lexemes}
use Rattle.delta_parse.specs.Plain.{add_name, numbered, grammar_tokens}
use Rattle.delta_parse.specs.Causes.{no_main, IsFirstWrong}
use Rattle.delta_parse.proofs.parsing.fault_of.Goals as goal

numbered_length : (names : List (List ℕ)) (ls : List Lexeme) → length (numbered names ls) ≡ length ls
numbered_length names [] = refl
numbered_length names (t ∷ ls) = ap suc (numbered_length (add_name names t) ls)

pub returns-in-NoMain : goal.returns-in-NoMain
returns-in-NoMain c =
    let ls = lexemes c.args.tokens.now in
    let n : length (grammar_tokens ls) ≡ length c.args.tokens.now = numbered_length [] ls ∙ length-map c.args.tokens.now lexeme_of in
    let first : IsFirstWrong (grammar_tokens ls) (length (grammar_tokens ls)) no_main = (rw c.in-NoMain.is at c.requires.complaint) in
    let P : ℕ → Type 0 = λ k. IsFirstWrong (grammar_tokens ls) k no_main in
    record { number = length c.args.tokens.now; place = c.place_at-in-NoMain.ensures; is_first = subst P n first }
