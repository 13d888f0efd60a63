-- Numbers exchanged twice, or each for itself.
use Rattle.std.proofs.Common.{◌≡◌, ◌∙◌, ℤ, List, [], ◌∷◌, map, ap, ap₂, refl}
use Rattle.stream_prefix.specs.StreamPrefix.{StreamPrefix, par_both, cat_fst, cat_both, in_left, in_right, star_first, star_rest}
use Rattle.hist_value.specs.HistValue.{HistValue, pair_of, left_of, right_of, item_before}
use Rattle.delta_state.specs.StateTree.{Known, HeldName, LaterTree}
use Rattle.mapped_states.specs.Mapped.{mapped}
use Rattle.mapped_states.proofs.MappedTwice.{mapped_twice, mapped_same}
use Rattle.other_numbers.specs.Numbers.{exchanged, exchanged_value}
use Rattle.other_numbers.specs.StateNumbers.{exchanged_known, exchanged_held, exchanged_later}
use Rattle.other_numbers.specs.Laws.{NumbersTwice, NumbersStay}

module _ (f g : ℤ → ℤ) where
  pub prefix_twice : (p : StreamPrefix) → exchanged f (exchanged g p) ≡ exchanged (λ n. f (g n)) p
  prefix_twice (par_both p q) = ap₂ par_both (prefix_twice p) (prefix_twice q)
  prefix_twice (cat_fst p) = ap cat_fst (prefix_twice p)
  prefix_twice (cat_both p q) = ap₂ cat_both (prefix_twice p) (prefix_twice q)
  prefix_twice (in_left p) = ap in_left (prefix_twice p)
  prefix_twice (in_right p) = ap in_right (prefix_twice p)
  prefix_twice (star_first p) = ap star_first (prefix_twice p)
  prefix_twice (star_rest p q) = ap₂ star_rest (prefix_twice p) (prefix_twice q)
  prefix_twice _ = refl

  pub value_twice : (v : HistValue) → exchanged_value f (exchanged_value g v) ≡ exchanged_value (λ n. f (g n)) v
  value_twice (pair_of v w) = ap₂ pair_of (value_twice v) (value_twice w)
  value_twice (left_of v) = ap left_of (value_twice v)
  value_twice (right_of v) = ap right_of (value_twice v)
  value_twice (item_before v w) = ap₂ item_before (value_twice v) (value_twice w)
  value_twice _ = refl

  -- what a state keeps
  known_twice : (es : List Known) → map (exchanged_known f) (map (exchanged_known g) es) ≡ map (exchanged_known (λ n. f (g n))) es
  known_twice [] = refl
  known_twice (e ∷ es) = ap₂ (λ v ks. record { name = e.name; type = e.type; value = v } ∷ ks) (value_twice e.value) (known_twice es)

  held_twice : (hs : List HeldName) → map (exchanged_held f) (map (exchanged_held g) hs) ≡ map (exchanged_held (λ n. f (g n))) hs
  held_twice [] = refl
  held_twice (h ∷ hs) = ap₂ (λ p ns. record { name = h.name; type = h.type; prefix = p } ∷ ns) (prefix_twice h.prefix) (held_twice hs)

  later_twice : (l : LaterTree) → exchanged_later f (exchanged_later g l) ≡ exchanged_later (λ n. f (g n)) l
  later_twice l = ap (λ es. record { term = l.term; past = es; depth = l.depth }) (known_twice l.past)

-- each number for itself
pub prefix_same : (p : StreamPrefix) → exchanged (λ n. n) p ≡ p
prefix_same (par_both p q) = ap₂ par_both (prefix_same p) (prefix_same q)
prefix_same (cat_fst p) = ap cat_fst (prefix_same p)
prefix_same (cat_both p q) = ap₂ cat_both (prefix_same p) (prefix_same q)
prefix_same (in_left p) = ap in_left (prefix_same p)
prefix_same (in_right p) = ap in_right (prefix_same p)
prefix_same (star_first p) = ap star_first (prefix_same p)
prefix_same (star_rest p q) = ap₂ star_rest (prefix_same p) (prefix_same q)
prefix_same _ = refl

pub value_same : (v : HistValue) → exchanged_value (λ n. n) v ≡ v
value_same (pair_of v w) = ap₂ pair_of (value_same v) (value_same w)
value_same (left_of v) = ap left_of (value_same v)
value_same (right_of v) = ap right_of (value_same v)
value_same (item_before v w) = ap₂ item_before (value_same v) (value_same w)
value_same _ = refl

known_same : (es : List Known) → map (exchanged_known (λ n. n)) es ≡ es
known_same [] = refl
known_same (e ∷ es) = ap₂ (λ v ks. record { name = e.name; type = e.type; value = v } ∷ ks) (value_same e.value) (known_same es)

held_same : (hs : List HeldName) → map (exchanged_held (λ n. n)) hs ≡ hs
held_same [] = refl
held_same (h ∷ hs) = ap₂ (λ p ns. record { name = h.name; type = h.type; prefix = p } ∷ ns) (prefix_same h.prefix) (held_same hs)

later_same : (l : LaterTree) → exchanged_later (λ n. n) l ≡ l
later_same l = ap (λ es. record { term = l.term; past = es; depth = l.depth }) (known_same l.past)

pub numbers_twice : NumbersTwice
numbers_twice f g s =
    mapped_twice (exchanged_later f) (exchanged_later g) (map (exchanged_held f)) (map (exchanged_held g)) s ∙ (λ i. mapped (λ l. later_twice f g l i) (λ held. held_twice f g held i) s)

pub numbers_stay : NumbersStay
numbers_stay s = (λ i. mapped (λ l. later_same l i) (λ held. held_same held i) s) ∙ mapped_same s
