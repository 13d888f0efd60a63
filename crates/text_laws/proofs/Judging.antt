-- Tokens belong to a program or have a first fault, and a text is that of a program or refused.
use Rattle.std.proofs.Common.{◌≡◌, ℕ, zero, suc, ◌+◌, ◌-◌, ◌<◌, ◌≤◌, ◌⊎◌, inl, inr, Bool, true, false, List, [], ◌∷◌, refl, subst, length, take, arith, add-one, below_more}
use Rattle.std.proofs.Math.Seq.{take-length}
use Rattle.std.proofs.lemmas.Bool.{cases_lt}
use Rattle.grammar.specs.Reading.{Outcome, got, stuck, out}
use Rattle.delta_lex.specs.declared.fault.LexFault.{LexFault}
use Rattle.delta_lex.specs.declared.fault.LexFault.TheVariants as lex
use Rattle.delta_lex.specs.Tokens.{Lexeme, HasTokens, IsCause as IsCauseOfTokens, longest}
use Rattle.delta_lex.proofs.OneAnswer.{texts_are_judged as tokens_judged}
use Rattle.delta_tree.specs.SyntaxTree.{WrittenFunction, Declaration, ProgramTree}
use Rattle.delta_parse.specs.declared.fault.ParseFault.{ParseFault}
use Rattle.delta_parse.specs.declared.fault.ParseFault.TheVariants as faults
use Rattle.delta_parse.specs.declared.bindings.NameFault.{NameFault}
use Rattle.delta_parse.specs.declared.bindings.NameFault.TheVariants.{Twice, Many}
use Rattle.delta_parse.specs.Terminals.{Tok}
use Rattle.delta_parse.specs.Parts.{Part, declarations, a_main, delta}
use Rattle.delta_parse.specs.Tables.{delta_grammar, reading}
use Rattle.delta_parse.specs.Plain.{grammar_tokens, names_in}
use Rattle.delta_parse.specs.Programs.{IsProgram, BeginsProgram, AreDeclarations, IsUnexpected, tree_with}
use Rattle.delta_parse.specs.Marks.{marks_before, IsShallow, IsFirstDeep}
use Rattle.delta_parse.specs.Bindings.{is_twice, is_many, AreNamed, IsFaultAt}
use Rattle.delta_parse.specs.Places.{place_at}
use Rattle.delta_parse.specs.Causes.{Belongs, Wrong, too_deep, unexpected, bound_twice, too_many, no_main, IsFirstWrong, IsFirstAt, IsCause}
use Rattle.delta_parse.proofs.Samples.{delta_checked}
use Rattle.delta_parse.proofs.BindingSteps.{named_shorter}
use Rattle.delta_parse.proofs.Firsts.{begins_shorter, begins_whole, name_first, deep_first, unexpected_first, no_main_first}
use Rattle.delta_parse.proofs.Programs.{program_found, stuck_before, no_main as only_declarations, stuck_in_main, more_behind_main}
use Rattle.program_refusal.specs.declared.refusal.Refusal.{Refusal}
use Rattle.program_refusal.specs.declared.refusal.RefusalName.{RefusalName}
use Rattle.program_refusal.specs.declared.refusal.RefusalName.TheVariants.{LongText, BadUtf8, BadChar, BigNumber, Deep, Expected, Twice as TwiceName, Many as ManyName, NoMain}
use Rattle.program_text.specs.ProgramText.{IsTextOf, IsRefusedFor}
use Rattle.text_laws.specs.Laws.{TokensAreJudged, TextsAreJudged}
use Rattle.text_laws.proofs.Enough.{Ends, reading_ends}

-- HOW FAR A PROGRAM BEGINS

-- tokens are a program, or whole declarations alone, or a program begins with those before one that doesn't fit
data Reach (ts : List Tok) : Type 0 where
  whole : (ds : List Declaration) (m : WrittenFunction) → IsProgram ts ds m → Reach ts
  declared : AreDeclarations ts → BeginsProgram ts → Reach ts
  stops : (n : ℕ) → n ≤ length ts → IsUnexpected ts n → BeginsProgram (take n ts) → Reach ts

part_ends : (p : Part) (ts : List Tok) → Ends (reading p ts)
unfolding reading
part_ends p ts = reading_ends delta delta_grammar delta_checked p ts

stopped : (ts : List Tok) (left : ℕ) → (left ≤ length ts) × (IsUnexpected ts (length ts - left) × BeginsProgram (take (length ts - left) ts)) → Reach ts
stopped ts left s = stops (length ts - left) (omega arith) s.1.0 s.1.1

empty_or_not : {A : Type 0} → (xs : List A) → (length xs ≡ 0) ⊎ (length xs ≡ 0 → ⊥)
empty_or_not [] = inl refl
empty_or_not (x ∷ xs) = inr (λ e. omega arith)

behind_main : (ts : List Tok) (ds : List Declaration) (rest : List Tok) (m : WrittenFunction) (r : List Tok) → reading declarations ts ≡ got ds rest → (length rest ≡ 0 → ⊥) → reading a_main rest ≡ got m r
    → (length r ≡ 0) ⊎ (length r ≡ 0 → ⊥) → Reach ts
behind_main ts ds rest m r e z h (inl w) = whole ds m (program_found ts ds rest m r e h w)
behind_main ts ds rest m r e z h (inr w) = stopped ts (length r) (more_behind_main ts ds rest m r e z h w)

at_main : (ts : List Tok) (ds : List Declaration) (rest : List Tok) → reading declarations ts ≡ got ds rest → (length rest ≡ 0 → ⊥) → (o : Outcome Tok WrittenFunction) → reading a_main rest ≡ o → Ends o → Reach ts
at_main ts ds rest e z (got m r) h k = behind_main ts ds rest m r e z h (empty_or_not r)
at_main ts ds rest e z (stuck n) h k = stopped ts n (stuck_in_main ts ds rest n e z h)
at_main ts ds rest e z out h k = absurd k

behind_declarations : (ts : List Tok) (ds : List Declaration) (rest : List Tok) → reading declarations ts ≡ got ds rest → (length rest ≡ 0) ⊎ (length rest ≡ 0 → ⊥) → Reach ts
behind_declarations ts ds rest e (inl z) = (let s = only_declarations ts ds rest e z in declared s.0 s.1)
behind_declarations ts ds rest e (inr z) = at_main ts ds rest e z (reading a_main rest) refl (part_ends a_main rest)

from_declarations : (ts : List Tok) (o : Outcome Tok (List Declaration)) → reading declarations ts ≡ o → Ends o → Reach ts
from_declarations ts (got ds rest) e k = behind_declarations ts ds rest e (empty_or_not rest)
from_declarations ts (stuck n) e k = stopped ts n (stuck_before ts n e)
from_declarations ts out e k = absurd k

reach : (ts : List Tok) → Reach ts
reach ts = from_declarations ts (reading declarations ts) refl (part_ends declarations ts)

-- WHICH MARK AND WHICH NAME IS WRONG FIRST

-- no mark of the first n tokens is too much, or one is the first that is
abbrev DeepSo : List Tok → ℕ → Type 0
DeepSo ts n = IsShallow ts n ⊎ ((d : ℕ) × ((d < n) × IsFirstDeep ts d))

deep_next : (ts : List Tok) (n : ℕ) → n < length ts → IsShallow ts n → (marks_before ts n ≤ 64) ⊎ (64 < marks_before ts n) → DeepSo ts (n + 1)
deep_next ts n h s (inl w) = inl (below_more _ n s w)
deep_next ts n h s (inr w) = inr (n, (omega arith, record { within = omega arith; shallow = s; deep = λ _. w }))

deep_step : (ts : List Tok) (n : ℕ) → n < length ts → DeepSo ts n → DeepSo ts (n + 1)
deep_step ts n h (inl s) = deep_next ts n h s (elim (cases_lt 64 (marks_before ts n)) [ inl w ↦ inr w | inr w ↦ inl (omega arith) ])
deep_step ts n h (inr (d, (w, f))) = inr (d, (omega arith, f))

deep_so : (ts : List Tok) (n : ℕ) → n ≤ length ts → DeepSo ts n
deep_so ts zero h = inl (λ k w. absurd (omega arith))
deep_so ts (suc n) h = subst (DeepSo ts) (add-one n) (deep_step ts n (omega arith) (deep_so ts n (omega arith)))

-- none of the first n tokens is a wrong name, or one is the first that is
abbrev NamedSo : List Tok → ℕ → Type 0
NamedSo ts n = AreNamed ts n ⊎ ((i : ℕ) × ((x : NameFault) × ((i < n) × IsFaultAt ts i x)))

named_next : (ts : List Tok) (n : ℕ) → n < length ts → AreNamed ts n → (a b : Bool) → is_twice ts n ≡ a → is_many ts n ≡ b → NamedSo ts (n + 1)
named_next ts n h s true b e g = inr (n, (Twice, (omega arith, record { within = h; before = s; is = e })))
named_next ts n h s false true e g = inr (n, (Many, (omega arith, record { within = h; before = s; is = (e, g) })))
named_next ts n h s false false e g = inl (record { once = below_more _ n s.once e; few = below_more _ n s.few g })

named_step : (ts : List Tok) (n : ℕ) → n < length ts → NamedSo ts n → NamedSo ts (n + 1)
named_step ts n h (inl s) = named_next ts n h s (is_twice ts n) (is_many ts n) refl refl
named_step ts n h (inr (i, (x, (w, f)))) = inr (i, (x, (omega arith, f)))

named_so : (ts : List Tok) (n : ℕ) → n ≤ length ts → NamedSo ts n
named_so ts zero h = inl (record { once = λ k w. absurd (omega arith); few = λ k w. absurd (omega arith) })
named_so ts (suc n) h = subst (NamedSo ts) (add-one n) (named_step ts n (omega arith) (named_so ts n (omega arith)))

-- the first mark too much, or none up to the end
first_deep : (ts : List Tok) → DeepSo ts (length ts) → (d : ℕ) × IsFirstDeep ts d
first_deep ts (inl s) = (length ts, record { within = omega arith; shallow = s; deep = λ h. absurd (omega arith) })
first_deep ts (inr (d, (w, f))) = (d, f)

-- THE FIRST OF ALL

-- something is wrong first
record AnyFirst (ts : List Tok) : Type 0 where
  pub number : ℕ
  pub wrong : Wrong
  pub is_first : IsFirstWrong ts number wrong

-- with the marks and the names before a token nothing is wrong, nor with the marks before it
record IsFine (ts : List Tok) (n : ℕ) : Type 0 where
  pub shallow : IsShallow ts n
  pub here : n < length ts → marks_before ts n ≤ 64
  pub named : AreNamed ts n

-- a wrong name up to which a program begins
name_told : (ts : List Tok) (i d : ℕ) (x : NameFault) → IsFirstDeep ts d → IsFaultAt ts i x → i < d → BeginsProgram (take (i + 1) ts) → AnyFirst ts
name_told ts i d Twice f a h b = record { number = i; wrong = bound_twice; is_first = name_first ts i d Twice f a h b }
name_told ts i d Many f a h b = record { number = i; wrong = too_many; is_first = name_first ts i d Many f a h b }

-- a mark too much before which no name is wrong
deep_told : (ts : List Tok) (d n : ℕ) → IsFirstDeep ts d → AreNamed ts d → d < length ts → d ≤ n → BeginsProgram (take n ts) → AnyFirst ts
deep_told ts d n f a h w b = record { number = d; wrong = too_deep; is_first = deep_first ts d f a h (begins_shorter ts d n w b) }

-- a wrong name before token n, and the first mark too much
name_or_deep : (ts : List Tok) (n i d : ℕ) (x : NameFault) → i < n → IsFirstDeep ts d → IsFaultAt ts i x → BeginsProgram (take n ts) → (i < d) ⊎ (d ≤ i) → AnyFirst ts
name_or_deep ts n i d x w f a b (inl h) = name_told ts i d x f a h (begins_shorter ts (i + 1) n (omega arith) b)
name_or_deep ts n i d x w f a b (inr h) = deep_told ts d n f (named_shorter ts d i h a.before) (let l = a.within in omega arith) (omega arith) b

deep_or_fine : (ts : List Tok) (n d : ℕ) → n ≤ length ts → IsFirstDeep ts d → AreNamed ts n → BeginsProgram (take n ts) → (d < length ts) ⊎ (length ts ≤ d) → (n < d) ⊎ (d ≤ n) → AnyFirst ts ⊎ IsFine ts n
deep_or_fine ts n d u f a b l (inl h) = inr (record { shallow = λ k w. f.shallow k (omega arith); here = λ _. f.shallow n h; named = a })
deep_or_fine ts n d u f a b (inl l) (inr h) = inl (deep_told ts d n f (named_shorter ts d n h a) l h b)
deep_or_fine ts n d u f a b (inr l) (inr h) = inr (record { shallow = λ k w. f.shallow k (omega arith); here = λ w. absurd (omega arith); named = a })

-- what is wrong first with the tokens before number n, with which a program begins, or nothing
before_told : (ts : List Tok) (n : ℕ) → n ≤ length ts → BeginsProgram (take n ts) → NamedSo ts n → (d : ℕ) × IsFirstDeep ts d → AnyFirst ts ⊎ IsFine ts n
before_told ts n u b (inl a) (d, f) = deep_or_fine ts n d u f a b (cases_lt d (length ts)) (cases_lt n d)
before_told ts n u b (inr (i, (x, (w, a)))) (d, f) = inl (name_or_deep ts n i d x w f a b (cases_lt i d))

told : (ts : List Tok) (n : ℕ) → n ≤ length ts → BeginsProgram (take n ts) → AnyFirst ts ⊎ IsFine ts n
told ts n u b = before_told ts n u b (named_so ts n u) (first_deep ts (deep_so ts (length ts) (omega arith)))

whole_told : (ts : List Tok) → BeginsProgram ts → AnyFirst ts ⊎ IsFine ts (length ts)
whole_told ts b = told ts (length ts) (omega arith) (rw (take-length ts) b)

-- nothing is wrong with these tokens, which are a program
record IsSound (ts : List Tok) : Type 0 where
  pub found : List Declaration
  pub main : WrittenFunction
  pub program : IsProgram ts found main
  pub fine : IsFine ts (length ts)

sound_or_not : (ts : List Tok) (ds : List Declaration) (m : WrittenFunction) → IsProgram ts ds m → AnyFirst ts ⊎ IsFine ts (length ts) → IsSound ts ⊎ AnyFirst ts
sound_or_not ts ds m p (inl f) = inr f
sound_or_not ts ds m p (inr f) = inl (record { found = ds; main = m; program = p; fine = f })

main_lacks : (ts : List Tok) → AreDeclarations ts → BeginsProgram ts → AnyFirst ts ⊎ IsFine ts (length ts) → AnyFirst ts
main_lacks ts a b (inl f) = f
main_lacks ts a b (inr f) = record { number = length ts; wrong = no_main; is_first = no_main_first ts a b f.shallow f.named }

does_not_fit : (ts : List Tok) (n : ℕ) → IsUnexpected ts n → BeginsProgram (take n ts) → AnyFirst ts ⊎ IsFine ts n → AnyFirst ts
does_not_fit ts n u b (inl f) = f
does_not_fit ts n u b (inr f) = record { number = n; wrong = unexpected; is_first = unexpected_first ts n u b f.shallow f.here f.named }

judged_by : (ts : List Tok) → Reach ts → IsSound ts ⊎ AnyFirst ts
judged_by ts (whole ds m p) = sound_or_not ts ds m p (whole_told ts (begins_whole ts ds m p))
judged_by ts (declared a b) = inr (main_lacks ts a b (whole_told ts b))
judged_by ts (stops n u x b) = inr (does_not_fit ts n x b (told ts n u b))

-- LAWS

abbrev Judged : List Lexeme → Type 0
Judged ls = ((p : ProgramTree) × Belongs ls p) ⊎ ((fault : ParseFault) × ((fault ≡ faults.Memory → ⊥) × IsCause ls fault))

at_place : (ls : List Lexeme) (n : ℕ) (w : Wrong) → IsFirstWrong (grammar_tokens ls) n w → IsFirstAt ls w (place_at ls n)
at_place ls n w f = record { number = n; place = refl; is_first = f }

cause_of : (ls : List Lexeme) (n : ℕ) (w : Wrong) → IsFirstWrong (grammar_tokens ls) n w → (fault : ParseFault) × ((fault ≡ faults.Memory → ⊥) × IsCause ls fault)
cause_of ls n too_deep f = (faults.Deep (place_at ls n), ((λ e. cc), at_place ls n too_deep f))
cause_of ls n unexpected f = (faults.Expected (place_at ls n), ((λ e. cc), at_place ls n unexpected f))
cause_of ls n bound_twice f = (faults.Twice (place_at ls n), ((λ e. cc), at_place ls n bound_twice f))
cause_of ls n too_many f = (faults.Many (place_at ls n), ((λ e. cc), at_place ls n too_many f))
cause_of ls n no_main f = (faults.NoMain (place_at ls n), ((λ e. cc), at_place ls n no_main f))

of_sound : (ls : List Lexeme) → IsSound (grammar_tokens ls) ⊎ AnyFirst (grammar_tokens ls) → Judged ls
of_sound ls (inl s) = inl (
  tree_with (names_in ls) s.found s.main,
  record {
    is_tree = record { found = s.found; main = s.main; program = s.program; is = refl };
    shallow = s.fine.shallow;
    named = s.fine.named;
  },
)
of_sound ls (inr f) = inr (cause_of ls f.number f.wrong f.is_first)

pub tokens_are_judged : TokensAreJudged
tokens_are_judged ls = of_sound ls (judged_by (grammar_tokens ls) (reach (grammar_tokens ls)))

abbrev TextJudged : List ℕ → Type 0
TextJudged text = ((p : ProgramTree) × IsTextOf text p) ⊎ ((why : Refusal) × IsRefusedFor text why)

-- for this name, at this place
abbrev named : RefusalName → ℕ → Refusal
named name at = record { name = name; at = at }

by_tokens : (text : List ℕ) (fault : LexFault) → (fault ≡ lex.Memory → ⊥) → IsCauseOfTokens text fault → TextJudged text
by_tokens text lex.Memory real c = absurd (real refl)
by_tokens text lex.LongText real c = inr (named LongText longest, (c, refl))
by_tokens text (lex.BadUtf8 at) real c = inr (named BadUtf8 at, c)
by_tokens text (lex.BadChar at) real c = inr (named BadChar at, c)
by_tokens text (lex.BigNumber at) real c = inr (named BigNumber at, c)

by_grammar : (text : List ℕ) (ls : List Lexeme) → HasTokens text ls → (fault : ParseFault) → (fault ≡ faults.Memory → ⊥) → IsCause ls fault → TextJudged text
by_grammar text ls h faults.Memory real c = absurd (real refl)
by_grammar text ls h (faults.Deep at) real c = inr (named Deep at, record { tokens = ls; are_its = h; cause = c })
by_grammar text ls h (faults.Expected at) real c = inr (named Expected at, record { tokens = ls; are_its = h; cause = c })
by_grammar text ls h (faults.Twice at) real c = inr (named TwiceName at, record { tokens = ls; are_its = h; cause = c })
by_grammar text ls h (faults.Many at) real c = inr (named ManyName at, record { tokens = ls; are_its = h; cause = c })
by_grammar text ls h (faults.NoMain at) real c = inr (named NoMain at, record { tokens = ls; are_its = h; cause = c })

by_judged : (text : List ℕ) (ls : List Lexeme) → HasTokens text ls → Judged ls → TextJudged text
by_judged text ls h (inl (p, b)) = inl (p, record { tokens = ls; are_its = h; belongs = b })
by_judged text ls h (inr (fault, (real, c))) = by_grammar text ls h fault real c

by_tokens_judged : (text : List ℕ) → ((tokens : List Lexeme) × HasTokens text tokens) ⊎ ((fault : LexFault) × ((fault ≡ lex.Memory → ⊥) × IsCauseOfTokens text fault)) → TextJudged text
by_tokens_judged text (inl (ls, h)) = by_judged text ls h (tokens_are_judged ls)
by_tokens_judged text (inr (fault, (real, c))) = by_tokens text fault real c

pub texts_are_judged : TextsAreJudged
texts_are_judged text = by_tokens_judged text (tokens_judged text)
