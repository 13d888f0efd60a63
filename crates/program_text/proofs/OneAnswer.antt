-- Texts have one answer: one program, or one refusal.
use Rattle.std.proofs.Common.{◌≡◌, ◌∙◌, ◌⊎◌, inl, inr, ℕ, List, refl, sym, ap, subst}
use Rattle.delta_lex.specs.declared.fault.LexFault.{LexFault}
use Rattle.delta_lex.specs.declared.fault.LexFault.TheVariants as lex
use Rattle.delta_lex.specs.Tokens.{Lexeme, HasTokens, IsCause as IsCauseOfTokens}
use Rattle.delta_lex.proofs.OneAnswer.{tokens_are_one, tokens_have_no_cause, cause_is_one as token_cause_is_one}
use Rattle.delta_tree.specs.SyntaxTree.{ProgramTree}
use Rattle.delta_parse.specs.Causes.{Belongs, Wrong, too_deep, unexpected, bound_twice, too_many, no_main, IsFirstAt}
use Rattle.delta_parse.proofs.OneAnswer.{tree_is_one, cause_is_one, programs_have_no_cause}
use Rattle.program_refusal.specs.declared.refusal.Refusal.{Refusal}
use Rattle.program_refusal.specs.declared.refusal.RefusalName.{RefusalName}
use Rattle.program_refusal.specs.declared.refusal.RefusalName.TheVariants.{LongText, BadUtf8, BadChar, BigNumber, Deep, Expected, Twice, Many, NoMain, Unbound, NoFunction, NoType, TooTall, TooWide, Mismatch, OutOfOrder, Jumpy, WaitNull, Arity, History, NotStream, WideOutput}
use Rattle.program_text.specs.declared.fault.TextFault.{TextFault}
use Rattle.program_text.specs.declared.fault.TextFault.TheVariants.{Memory, Refused}
use Rattle.program_text.specs.Fault.{of_tokens, refused_for}
use Rattle.program_text.specs.ProgramText.{IsTextOf, IsWrong, IsRefusedFor}
use Rattle.program_text.specs.Laws.{ProgramIsOne, RefusalIsOne, ProgramsAreNotRefused}

-- the fault is no want of memory
abbrev IsReal : LexFault → Type 0
IsReal lex.Memory = ⊥
IsReal fault = Unit {0}

no_memory : (fault : LexFault) → IsReal fault → fault ≡ lex.Memory → ⊥
no_memory fault real e = subst (λ (f : LexFault). IsReal f) e real

-- the name of what is wrong by grammar
abbrev name_of : Wrong → RefusalName
name_of too_deep = Deep
name_of unexpected = Expected
name_of bound_twice = Twice
name_of too_many = Many
name_of no_main = NoMain

-- what is wrong first is a fault of the tokens
record ByTokens (text : List ℕ) (name : RefusalName) (at : ℕ) : Type 0 where
  pub fault : LexFault
  pub real : IsReal fault
  pub cause : IsCauseOfTokens text fault
  pub is : of_tokens fault ≡ refused_for name at

-- or of grammar
record ByGrammar (text : List ℕ) (name : RefusalName) (at : ℕ) : Type 0 where
  pub tokens : List Lexeme
  pub are_its : HasTokens text tokens
  pub wrong : Wrong
  pub is_first : IsFirstAt tokens wrong at
  pub is : name ≡ name_of wrong

found_by : (text : List ℕ) (name : RefusalName) (at : ℕ) → IsWrong text name at → ByTokens text name at ⊎ ByGrammar text name at
found_by text LongText at w = inl (record { fault = lex.LongText; real = tt; cause = w.0; is = ap (refused_for LongText) (sym w.1) })
found_by text BadUtf8 at w = inl (record { fault = lex.BadUtf8 at; real = tt; cause = w; is = refl })
found_by text BadChar at w = inl (record { fault = lex.BadChar at; real = tt; cause = w; is = refl })
found_by text BigNumber at w = inl (record { fault = lex.BigNumber at; real = tt; cause = w; is = refl })
found_by text Deep at w = inr (record { tokens = w.tokens; are_its = w.are_its; wrong = too_deep; is_first = w.cause; is = refl })
found_by text Expected at w = inr (record { tokens = w.tokens; are_its = w.are_its; wrong = unexpected; is_first = w.cause; is = refl })
found_by text Twice at w = inr (record { tokens = w.tokens; are_its = w.are_its; wrong = bound_twice; is_first = w.cause; is = refl })
found_by text Many at w = inr (record { tokens = w.tokens; are_its = w.are_its; wrong = too_many; is_first = w.cause; is = refl })
found_by text NoMain at w = inr (record { tokens = w.tokens; are_its = w.are_its; wrong = no_main; is_first = w.cause; is = refl })
found_by text Unbound at w = absurd w
found_by text NoFunction at w = absurd w
found_by text NoType at w = absurd w
found_by text TooTall at w = absurd w
found_by text TooWide at w = absurd w
found_by text Mismatch at w = absurd w
found_by text OutOfOrder at w = absurd w
found_by text Jumpy at w = absurd w
found_by text WaitNull at w = absurd w
found_by text Arity at w = absurd w
found_by text History at w = absurd w
found_by text NotStream at w = absurd w
found_by text WideOutput at w = absurd w

-- the refusal in a fault
abbrev why_or : Refusal → TextFault → Refusal
why_or w Memory = w
why_or w (Refused v) = v

same_refusal : (w v : Refusal) → refused_for w.name w.at ≡ refused_for v.name v.at → w ≡ v
same_refusal w v e = ap (why_or w) e

-- a text with tokens is refused by grammar alone
tokens_stand : (text : List ℕ) (name : RefusalName) (at : ℕ) (tokens : List Lexeme) → HasTokens text tokens → ByTokens text name at → ⊥
tokens_stand text name at tokens are_its f = no_memory f.fault f.real (tokens_have_no_cause text tokens f.fault are_its f.cause)

both : (text : List ℕ) (w v : Refusal) → ByTokens text w.name w.at ⊎ ByGrammar text w.name w.at → ByTokens text v.name v.at ⊎ ByGrammar text v.name v.at → w ≡ v
both text w v (inl f) (inl g) =
    let e = token_cause_is_one text f.fault g.fault (no_memory f.fault f.real) (no_memory g.fault g.real) f.cause g.cause in
    same_refusal w v (sym f.is ∙ ap of_tokens e ∙ g.is)
both text w v (inl f) (inr g) = absurd (tokens_stand text w.name w.at g.tokens g.are_its f)
both text w v (inr f) (inl g) = absurd (tokens_stand text v.name v.at f.tokens f.are_its g)
both text w v (inr f) (inr g) =
    let e = tokens_are_one text g.tokens f.tokens g.are_its f.are_its in
    let s = cause_is_one f.tokens f.wrong g.wrong w.at v.at f.is_first (subst (λ (ls : List Lexeme). IsFirstAt ls g.wrong v.at) e g.is_first) in
    same_refusal w v (ap (λ n. refused_for n w.at) (f.is ∙ ap name_of s.0 ∙ sym g.is) ∙ ap (refused_for v.name) s.1)

pub refusal_is_one : RefusalIsOne
refusal_is_one text w v a b = both text w v (found_by text w.name w.at a) (found_by text v.name v.at b)

pub program_is_one : ProgramIsOne
program_is_one text p q a b =
    let e = tokens_are_one text b.tokens a.tokens b.are_its a.are_its in
    tree_is_one a.tokens p q a.belongs (subst (λ (ls : List Lexeme). Belongs ls q) e b.belongs)

not_found : (text : List ℕ) (p : ProgramTree) (name : RefusalName) (at : ℕ) → IsTextOf text p → ByTokens text name at ⊎ ByGrammar text name at → ⊥
not_found text p name at is (inl f) = tokens_stand text name at is.tokens is.are_its f
not_found text p name at is (inr f) =
    let e = tokens_are_one text f.tokens is.tokens f.are_its is.are_its in
    programs_have_no_cause is.tokens p f.wrong at is.belongs (subst (λ (ls : List Lexeme). IsFirstAt ls f.wrong at) e f.is_first)

pub programs_are_not_refused : ProgramsAreNotRefused
programs_are_not_refused text p w is r = not_found text p w.name w.at is (found_by text w.name w.at r)
