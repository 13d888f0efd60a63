-- What the rule of patterns reads, with its parts in one row.
use Rattle.std.proofs.Common.{◌≡◌, ◌∙◌, ℕ, true, false, List, ◌∷◌, ◌||◌, length, refl, ap}
use Rattle.grammar.specs.Reading.{got, stuck, ◌>>=◌, starts, token_at}
use Rattle.delta_parse.specs.declared.terminal.Terminal.TheVariants.{NameToken, Open, Close, Comma, Semicolon}
use Rattle.delta_parse.specs.Terminals.{Tok, is_kind}
use Rattle.delta_parse.specs.Parts.{a_pattern, one_name}
use Rattle.delta_parse.specs.Actions.{pattern_with}
use Rattle.delta_parse.specs.Tables.{reading}
use Rattle.delta_parse.specs.Reads.{before, second_name}
use Rattle.delta_parse.proofs.Steps.{pattern_is}
use Rattle.delta_parse.proofs.Flat.{assoc}

pub pattern_named : (ts : List Tok) (t : Tok) (mid : List Tok) → ts ≡ t ∷ mid → is_kind NameToken t.kind ≡ true → reading a_pattern ts ≡ got (one_name t.worth.name) mid
pattern_named ts t mid q k = ap (reading a_pattern) q ∙ rw (pattern_is (t ∷ mid), k) (refl {a = got (one_name t.worth.name) mid})

pub pattern_flat : (ts : List Tok) → starts (is_kind NameToken) ts ≡ false → reading a_pattern ts ≡ (token_at (is_kind Open) ts >>= λ o. token_at (is_kind NameToken) o.1 >>= λ x. second_name x.0.worth.name x.1)
pattern_flat ts n = rw (pattern_is ts, n) (simp assoc)

pub second_read : (x : ℕ) (ts : List Tok) (t : Tok) (mid : List Tok) → ts ≡ t ∷ mid → (is_kind Comma t.kind || is_kind Semicolon t.kind) ≡ true
    → second_name x ts ≡ (before Close (token_at (is_kind NameToken) mid) >>= λ y. got (pattern_with t.kind x y.0.worth.name) y.1)
second_read x ts t mid q k = ap (second_name x) q ∙ rw k refl

pub second_stuck : (x : ℕ) (ts : List Tok) → starts (λ k. is_kind Comma k || is_kind Semicolon k) ts ≡ false → second_name x ts ≡ stuck (length ts)
second_stuck x ts k = rw k refl
