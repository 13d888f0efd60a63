-- A text has tokens or a cause, and one of them.
use Rattle.std.proofs.Common.{◌≡◌, ℕ, ◌<◌, ◌≤◌, Bool, true, false, List, length, sym, ap, ◌∙◌, refl, arith, ◌⊎◌, inl, inr, Result, Ok, Err}
use Rattle.std.specs.Str.{chars, is_utf8, IsUtf8}
use Rattle.std.specs.Str.Lossy.{utf8_valid_len}
use Rattle.std.proofs.lemmas.Str.{IsUtf8-from_is_utf8, is_utf8-from_IsUtf8}
use Rattle.std.proofs.lemmas.Bool.{cases_lt}
use Rattle.delta_lex.specs.declared.fault.LexFault.{LexFault}
use Rattle.delta_lex.specs.declared.fault.LexFault.TheVariants.{Memory, BadUtf8, BadChar, BigNumber, LongText}
use Rattle.delta_lex.specs.Tokens.{Lexeme, reading, longest, IsText, HasTokens, IsBadUtf8, MeetsFault, IsCause}
use Rattle.delta_lex.proofs.Causes.{IsInText, fault_in_text}

pub tokens_are_one : (text : List ℕ) (a b : List Lexeme) → HasTokens text a → HasTokens text b → a ≡ b
tokens_are_one text a b h k = let e : Ok a ≡ Ok b = sym h.read ∙ k.read in cc

ok_is_no_err : (r : Result (List Lexeme) LexFault) (a : List Lexeme) (fault : LexFault) → r ≡ Ok a → r ≡ Err fault → ⊥
ok_is_no_err r a fault h k = cc

pub tokens_have_no_cause : (text : List ℕ) (tokens : List Lexeme) (fault : LexFault) → HasTokens text tokens → IsCause text fault → fault ≡ Memory
tokens_have_no_cause text tokens Memory h k = refl
tokens_have_no_cause text tokens LongText h k = let short : length text ≤ longest = h.is_text.short in absurd (omega arith)
tokens_have_no_cause text tokens (BadUtf8 at) h k = absurd (k.bad h.is_text.utf8)
tokens_have_no_cause text tokens (BadChar at) h k = absurd (ok_is_no_err _ tokens (BadChar at) h.read k.read)
tokens_have_no_cause text tokens (BigNumber at) h k = absurd (ok_is_no_err _ tokens (BigNumber at) h.read k.read)

same_err : (r : Result (List Lexeme) LexFault) (a b : LexFault) → r ≡ Err a → r ≡ Err b → a ≡ b
same_err r a b h k = cc

-- the fault of a text that is met in its characters, and another cause
met_is_one : (text : List ℕ) (a b : LexFault) → MeetsFault text a → (b ≡ Memory → ⊥) → IsCause text b → a ≡ b
met_is_one text a Memory h given k = absurd (given refl)
met_is_one text a LongText h given k = let short : length text ≤ longest = h.is_text.short in absurd (omega arith)
met_is_one text a (BadUtf8 at) h given k = absurd (k.bad h.is_text.utf8)
met_is_one text a (BadChar at) h given k = same_err _ a (BadChar at) h.read k.read
met_is_one text a (BigNumber at) h given k = same_err _ a (BigNumber at) h.read k.read

long_is_one : (text : List ℕ) (b : LexFault) → longest < length text → (b ≡ Memory → ⊥) → IsCause text b → LongText ≡ b
long_is_one text Memory h given k = absurd (given refl)
long_is_one text LongText h given k = refl
long_is_one text (BadUtf8 at) h given k = let short : length text ≤ longest = k.short in absurd (omega arith)
long_is_one text (BadChar at) h given k = let short : length text ≤ longest = k.is_text.short in absurd (omega arith)
long_is_one text (BigNumber at) h given k = let short : length text ≤ longest = k.is_text.short in absurd (omega arith)

bad_is_one : (text : List ℕ) (at : ℕ) (b : LexFault) → IsBadUtf8 text at → (b ≡ Memory → ⊥) → IsCause text b → BadUtf8 at ≡ b
bad_is_one text at Memory h given k = absurd (given refl)
bad_is_one text at LongText h given k = let short : length text ≤ longest = h.short in absurd (omega arith)
bad_is_one text at (BadUtf8 there) h given k = ap BadUtf8 (h.place ∙ sym k.place)
bad_is_one text at (BadChar there) h given k = absurd (h.bad k.is_text.utf8)
bad_is_one text at (BigNumber there) h given k = absurd (h.bad k.is_text.utf8)

pub cause_is_one : (text : List ℕ) (a b : LexFault) → (a ≡ Memory → ⊥) → (b ≡ Memory → ⊥) → IsCause text a → IsCause text b → a ≡ b
cause_is_one text Memory b given other h k = absurd (given refl)
cause_is_one text LongText b given other h k = long_is_one text b h other k
cause_is_one text (BadUtf8 at) b given other h k = bad_is_one text at b h other k
cause_is_one text (BadChar at) b given other h k = met_is_one text (BadChar at) b h other k
cause_is_one text (BigNumber at) b given other h k = met_is_one text (BigNumber at) b h other k

abbrev Judged : List ℕ → Type 0
Judged text = ((tokens : List Lexeme) × HasTokens text tokens) ⊎ ((fault : LexFault) × ((fault ≡ Memory → ⊥) × IsCause text fault))

fault_judged : (text : List ℕ) (fault : LexFault) → IsText text → reading 0 0 (chars text) ≡ Err fault → IsInText fault → Judged text
fault_judged text Memory is e h = absurd h
fault_judged text LongText is e h = absurd h
fault_judged text (BadUtf8 at) is e h = absurd h
fault_judged text (BadChar at) is e h = inr (BadChar at, ((λ e. cc), record { is_text = is; read = e }))
fault_judged text (BigNumber at) is e h = inr (BigNumber at, ((λ e. cc), record { is_text = is; read = e }))

read_judged : (text : List ℕ) (r : Result (List Lexeme) LexFault) → IsText text → reading 0 0 (chars text) ≡ r → Judged text
read_judged text (Ok tokens) is e = inl (tokens, record { is_text = is; read = e })
read_judged text (Err fault) is e = fault_judged text fault is e (fault_in_text 0 0 (chars text) fault e)

not_utf8 : (text : List ℕ) → is_utf8 text ≡ false → IsUtf8 text → ⊥
not_utf8 text e u = let good = is_utf8-from_IsUtf8 text u in cc

short_judged : (text : List ℕ) (b : Bool) → length text ≤ longest → is_utf8 text ≡ b → Judged text
short_judged text true short e =
    read_judged text (reading 0 0 (chars text)) (record { short = short; utf8 = IsUtf8-from_is_utf8 text e }) refl
short_judged text false short e =
    inr (BadUtf8 (utf8_valid_len text), ((λ e. cc), record { short = short; bad = not_utf8 text e; place = refl }))

short_or_long : (n : ℕ) → (n ≤ longest) ⊎ (longest < n)
short_or_long n = elim (cases_lt longest n) [ inl h ↦ inr h | inr h ↦ inl (omega arith) ]

pub texts_are_judged : (text : List ℕ) → Judged text
texts_are_judged text =
    elim (short_or_long (length text)) [
      | inl short ↦ short_judged text (is_utf8 text) short refl
      | inr long ↦ inr (LongText, ((λ e. cc), long))
    ]
