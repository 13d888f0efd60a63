-- What the rules of types read, with their parts in one row.
use Rattle.std.proofs.Common.{◌≡◌, ◌∙◌, ℕ, true, false, List, ◌∷◌, refl, ap, sym}
use Rattle.grammar.specs.Grammar.{place_of}
use Rattle.grammar.specs.Rules.{thing, part, both, maybe}
use Rattle.grammar.specs.Reading.{Outcome, got, ◌>>=◌, starts, token_at}
use Rattle.delta_tree.specs.SyntaxTree.{WrittenType, eps_written, one_written, int_written, named_written, cat_written, par_written, sum_written, star_written}
use Rattle.delta_parse.specs.declared.terminal.Terminal.{Terminal}
use Rattle.delta_parse.specs.declared.terminal.Terminal.TheVariants.{EpsWord, OneToken, IntWord, NameToken, Open, Close, Plus, Bars, Dot, Times}
use Rattle.delta_parse.specs.Terminals.{Tok, is_kind}
use Rattle.delta_parse.specs.Parts.{type_thing, RuleFor, a_type, a_par, a_cat, a_star, more_stars, a_base}
use Rattle.delta_parse.specs.Actions.{joined}
use Rattle.delta_parse.specs.Rules.{sign, infix_rule}
use Rattle.delta_parse.specs.Tables.{reading, read_rule}
use Rattle.delta_parse.specs.Readers.{with_stars}
use Rattle.delta_parse.specs.Reads.{before}
use Rattle.delta_parse.proofs.Steps.{type_is, par_is, cat_is, star_is, stars_is, base_is}
use Rattle.delta_parse.proofs.Flat.{assoc}

-- a type, and maybe a sign and another behind it
abbrev pub tail : Terminal → RuleFor (thing type_thing) → (ℕ → WrittenType → WrittenType → WrittenType) → ℕ → WrittenType → List Tok → Outcome Tok WrittenType
tail k right form at t ts = read_rule (maybe (both (sign k) right)) ts >>= λ y. got (joined form (at, (t, y.0))) y.1

infix_flat : (left right : RuleFor (thing type_thing)) (k : Terminal) (form : ℕ → WrittenType → WrittenType → WrittenType) (ts : List Tok)
    → read_rule {s = thing type_thing} (infix_rule left k right form) ts ≡ (read_rule left ts >>= λ x. tail k right form (place_of ts) x.0 x.1)
infix_flat left right k form ts = simp assoc

pub type_flat : (ts : List Tok) → reading a_type ts ≡ (reading a_par ts >>= λ x. tail Plus (part a_type) sum_written (place_of ts) x.0 x.1)
type_flat ts = type_is ts ∙ infix_flat (part a_par) (part a_type) Plus sum_written ts

pub par_flat : (ts : List Tok) → reading a_par ts ≡ (reading a_cat ts >>= λ x. tail Bars (part a_par) par_written (place_of ts) x.0 x.1)
par_flat ts = par_is ts ∙ infix_flat (part a_cat) (part a_par) Bars par_written ts

pub cat_flat : (ts : List Tok) → reading a_cat ts ≡ (reading a_star ts >>= λ x. tail Dot (part a_cat) cat_written (place_of ts) x.0 x.1)
cat_flat ts = cat_is ts ∙ infix_flat (part a_star) (part a_cat) Dot cat_written ts

pub tail_alone : (k : Terminal) (right : RuleFor (thing type_thing)) (form : ℕ → WrittenType → WrittenType → WrittenType) (at : ℕ) (t : WrittenType) (ts : List Tok)
    → starts (is_kind k) ts ≡ false → tail k right form at t ts ≡ got t ts
tail_alone k right form at t ts e = rw e refl

pub tail_more : (k : Terminal) (right : RuleFor (thing type_thing)) (form : ℕ → WrittenType → WrittenType → WrittenType) (at : ℕ) (t : WrittenType) (ts : List Tok) (x : Tok) (mid : List Tok)
    → ts ≡ x ∷ mid → is_kind k x.kind ≡ true → tail k right form at t ts ≡ (read_rule right mid >>= λ y. got (form at t y.0) y.1)
tail_more k right form at t ts x mid q e = ap (tail k right form at t) q ∙ rw e (simp assoc)

pub star_flat : (ts : List Tok) → reading a_star ts ≡ (reading a_base ts >>= λ x. with_stars (place_of ts) x.0 (reading more_stars x.1))
star_flat ts = rw (star_is ts) (simp assoc)

pub stars_none : (at : ℕ) (t : WrittenType) (ts : List Tok) → starts (is_kind Times) ts ≡ false → with_stars at t (reading more_stars ts) ≡ got t ts
stars_none at t ts k = rw (stars_is ts, k) refl

pub stars_more : (at : ℕ) (t : WrittenType) (ts : List Tok) (x : Tok) (mid : List Tok) → ts ≡ x ∷ mid → is_kind Times x.kind ≡ true → with_stars at t (reading more_stars ts) ≡ with_stars at (star_written at t) (reading more_stars mid)
stars_more at t ts x mid q k = ap (λ us. with_stars at t (reading more_stars us)) q ∙ rw (stars_is (x ∷ mid), k) (simp assoc)

-- where the first token isn't of a kind
not_first : (k : Terminal) (ts : List Tok) (t : Tok) (mid : List Tok) → starts (is_kind k) ts ≡ false → ts ≡ t ∷ mid → is_kind k t.kind ≡ false
not_first k ts t mid n q = sym (ap (λ us. starts (is_kind k) us) q) ∙ n

pub base_eps : (ts : List Tok) (t : Tok) (mid : List Tok) → ts ≡ t ∷ mid → is_kind EpsWord t.kind ≡ true → reading a_base ts ≡ got (eps_written t.at) mid
base_eps ts t mid q k = ap (reading a_base) q ∙ rw (base_is (t ∷ mid), k) (refl {a = got (eps_written t.at) mid})

pub base_one : (ts : List Tok) (t : Tok) (mid : List Tok) → starts (is_kind EpsWord) ts ≡ false → ts ≡ t ∷ mid → is_kind OneToken t.kind ≡ true → reading a_base ts ≡ got (one_written t.at) mid
base_one ts t mid a q k = let l = not_first EpsWord ts t mid a q in ap (reading a_base) q ∙ rw (base_is (t ∷ mid), l, k) (refl {a = got (one_written t.at) mid})

pub base_int : (ts : List Tok) (t : Tok) (mid : List Tok) → starts (is_kind EpsWord) ts ≡ false → starts (is_kind OneToken) ts ≡ false → ts ≡ t ∷ mid → is_kind IntWord t.kind ≡ true → reading a_base ts ≡ got (int_written t.at) mid
base_int ts t mid a b q k =
    let l = not_first EpsWord ts t mid a q in
    let m = not_first OneToken ts t mid b q in
    ap (reading a_base) q ∙ rw (base_is (t ∷ mid), l, m, k) (refl {a = got (int_written t.at) mid})

pub base_named : (ts : List Tok) (t : Tok) (mid : List Tok) → starts (is_kind EpsWord) ts ≡ false → starts (is_kind OneToken) ts ≡ false → starts (is_kind IntWord) ts ≡ false → ts ≡ t ∷ mid → is_kind NameToken t.kind ≡ true
    → reading a_base ts ≡ got (named_written t.at t.worth.name) mid
base_named ts t mid a b d q k =
    let l = not_first EpsWord ts t mid a q in
    let m = not_first OneToken ts t mid b q in
    let n = not_first IntWord ts t mid d q in
    ap (reading a_base) q ∙ rw (base_is (t ∷ mid), l, m, n, k) (refl {a = got (named_written t.at t.worth.name) mid})

pub base_bracket : (ts : List Tok) → starts (is_kind EpsWord) ts ≡ false → starts (is_kind OneToken) ts ≡ false → starts (is_kind IntWord) ts ≡ false → starts (is_kind NameToken) ts ≡ false
    → reading a_base ts ≡ (token_at (is_kind Open) ts >>= λ t. before Close (reading a_type t.1))
base_bracket ts a b d e = rw (base_is ts, a, b, d, e) (simp assoc)
