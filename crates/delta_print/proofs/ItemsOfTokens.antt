-- The items of what the grammar derives are those of its tokens: the same names in the same order, and numbers within range.
use Rattle.std.proofs.Common.{◌≡◌, ℕ, ◌<◌, ◌^◌, Bool, true, false, List, [], ◌∷◌, ◌++◌, refl, sym, ap, subst, ◌∙◌, append_assoc}
use Rattle.std.specs.Prelude.{ℤ, pos, negsuc, if◌then◌else◌}
use Rattle.grammar.specs.Rules.{Sort}
use Rattle.grammar.specs.Grammar.{Derives, by_token, by_part, by_both, by_left, by_right, by_none, by_some, by_placed, by_make}
use Rattle.delta_parse.specs.declared.terminal.Terminal.TheVariants.{NameToken, NumberToken}
use Rattle.delta_parse.specs.Terminals.{Tok, is_kind}
use Rattle.delta_parse.specs.Parts.{Thing, Part, stands_for, delta, Meant, RuleFor}
use Rattle.delta_parse.specs.Rules.{rule_of}
use Rattle.delta_parse.specs.Tables.{delta_grammar}
use Rattle.delta_print.specs.Rows.{number_row}
use Rattle.delta_print.proofs.Items.{Item, name, number, textless, items, value_items, rule_items, Keeps}

-- the number of a token's name, and those of some tokens in turn
abbrev pub token_name : Tok → List ℕ
token_name t = if is_kind NameToken t.kind then t.worth.name ∷ [] else []

abbrev pub token_names : List Tok → List ℕ
token_names [] = []
token_names (t ∷ ts) = token_name t ++ token_names ts

abbrev pub item_names : List Item → List ℕ
item_names [] = []
item_names (name x ∷ r) = x ∷ item_names r
item_names (number n ∷ r) = item_names r
item_names (textless ∷ r) = item_names r

-- an item that can be written
abbrev pub IsWritable : Item → Type 0
IsWritable (name x) = Unit {0}
IsWritable (number n) = n < 2 ^ 63
IsWritable textless = ⊥

abbrev pub AreWritable : List Item → Type 0
AreWritable [] = Unit {0}
AreWritable (i ∷ r) = IsWritable i × AreWritable r

-- what a token writes is a number within range
abbrev pub IsNumber : ℤ → Type 0
IsNumber (pos n) = n < 2 ^ 63
IsNumber (negsuc n) = ⊥

abbrev pub AreNumbers : List Tok → Type 0
AreNumbers [] = Unit {0}
AreNumbers (t ∷ ts) = IsNumber t.worth.number × AreNumbers ts

-- the items are those of the tokens
pub record AreItemsOf (ts : List Tok) (r : List Item) : Type 0 where
  pub names : item_names r ≡ token_names ts
  pub writable : AreNumbers ts → AreWritable r

item_names-append : (a b : List Item) → item_names (a ++ b) ≡ item_names a ++ item_names b
item_names-append [] b = refl
item_names-append (name x ∷ a) b = ap (λ r. x ∷ r) (item_names-append a b)
item_names-append (number n ∷ a) b = item_names-append a b
item_names-append (textless ∷ a) b = item_names-append a b

token_names-append : (u w : List Tok) → token_names (u ++ w) ≡ token_names u ++ token_names w
token_names-append [] w = refl
token_names-append (t ∷ u) w = ap (λ r. token_name t ++ r) (token_names-append u w) ∙ sym (append_assoc (token_name t) (token_names u) (token_names w))

writable_both : (a b : List Item) → AreWritable a → AreWritable b → AreWritable (a ++ b)
writable_both [] b h k = k
writable_both (i ∷ a) b h k = (h.0, writable_both a b h.1 k)

numbers_front : (u w : List Tok) → AreNumbers (u ++ w) → AreNumbers u
numbers_front [] w h = tt
numbers_front (t ∷ u) w h = (h.0, numbers_front u w h.1)

numbers_back : (u w : List Tok) → AreNumbers (u ++ w) → AreNumbers w
numbers_back [] w h = h
numbers_back (t ∷ u) w h = numbers_back u w h.1

items_of_both : (u w : List Tok) (a b : List Item) → AreItemsOf u a → AreItemsOf w b → AreItemsOf (u ++ w) (a ++ b)
items_of_both u w a b d e = record {
  names = item_names-append a b ∙ ap (λ r. r ++ item_names b) d.names ∙ ap (λ r. token_names u ++ r) e.names ∙ sym (token_names-append u w);
  writable = λ h. writable_both a b (d.writable (numbers_front u w h)) (e.writable (numbers_back u w h));
}

number_names : (z : ℤ) → item_names (items (number_row z)) ≡ []
number_names (pos n) = refl
number_names (negsuc n) = refl

number_writable : (z : ℤ) → IsNumber z → AreWritable (items (number_row z))
number_writable (pos n) h = (h, tt)
number_writable (negsuc n) h = absurd h

-- a token alone, by whether a name stands there or a number
items_of_token : (t : Tok) (b c : Bool) → is_kind NameToken t.kind ≡ b
    → AreItemsOf (t ∷ []) (if b then name t.worth.name ∷ [] else (if c then items (number_row t.worth.number) else []))
items_of_token t true c e = record { names = ap (λ b. (if b then t.worth.name ∷ [] else []) ++ []) (sym e); writable = λ h. (tt, tt) }
items_of_token t false true e = record { names = number_names t.worth.number ∙ ap (λ b. (if b then t.worth.name ∷ [] else []) ++ []) (sym e); writable = λ h. number_writable t.worth.number h.0 }
items_of_token t false false e = record { names = ap (λ b. (if b then t.worth.name ∷ [] else []) ++ []) (sym e); writable = λ h. tt }

module _ (keeps : (p : Part) → Keeps (rule_of p)) (part_items : (p : Part) (v : Meant (stands_for p)) → rule_items (rule_of p) v ≡ value_items (stands_for p) v) where
  pub items_of_derived : {s : Sort Thing} {a : RuleFor s} {ts : List Tok} {v : Meant s} → Derives delta delta_grammar s a ts v → Keeps a → AreItemsOf ts (rule_items a v)
  items_of_derived (by_token {is = is} {t = t} h) k = items_of_token t (is NameToken) (is NumberToken) (k t.kind h)
  items_of_derived (by_part {p = p} {u = u} {v = v} d) k = subst (AreItemsOf u) (part_items p v) (items_of_derived d (keeps p))
  items_of_derived (by_both {a = a} {b = b} {u = u} {w = w} {x = x} {y = y} d e) k = items_of_both u w (rule_items a x) (rule_items b y) (items_of_derived d k.0) (items_of_derived e k.1)
  items_of_derived (by_left d) k = items_of_derived d k.1.0
  items_of_derived (by_right {u = u} {x = x} d) k = subst (AreItemsOf u) (k.0 x) (items_of_derived d k.1.1)
  items_of_derived by_none k = record { names = refl; writable = λ h. tt }
  items_of_derived (by_some d) k = items_of_derived d k
  items_of_derived (by_placed d) k = items_of_derived d k
  items_of_derived (by_make {u = u} {x = x} d) k = subst (AreItemsOf u) (sym (k.0 x)) (items_of_derived d k.1)
