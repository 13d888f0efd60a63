-- What is read of a line is spelled by it.
use Rattle.std.proofs.Common.{◌≡◌, ℕ, zero, suc, ◌+◌, ◌-◌, ◌^◌, ◌<◌, ◌≤◌, List, [], ◌∷◌, ◌++◌, Bool, true, false, cond, length, inl, inr, refl, ap, ◌∙◌, sym, subst, append_assoc, arith}
use Rattle.std.specs.Prelude.{Option, Some, None, Result, Ok, Err, pos, neg_ℤ, nat_lt, nat_le, ◌==◌, codes, find, FitsSigned, if◌then◌else◌, ⊤}
use Rattle.std.specs.List.{join_with_byte}
use Rattle.std.specs.Int.{w64}
use Rattle.std.specs.Str.{bytes_eq}
use Rattle.std.specs.Str.Parse.{digits_value}
use Rattle.std.proofs.lemmas.Bool.{eqb-true}
use Rattle.std.proofs.lemmas.Bool.Decides.{nat_tests}
use Rattle.std.proofs.lemmas.List.Splits.{join_with_byte-slice_split}
use Rattle.std.proofs.lemmas.Slice.Eq.{bytes_eq-Decides}
use Rattle.event_word.specs.declared.event.Step.{Step}
use Rattle.event_word.specs.declared.event.Step.TheVariants.{Left, Right, First}
use Rattle.event_word.specs.declared.event.Leaf.{Leaf}
use Rattle.event_word.specs.declared.event.Leaf.TheVariants.{One, Int, Inl, Inr, Cut, Item, End}
use Rattle.event_word.specs.StreamEvent.{StreamEvent, leaf_of, under, FitsLeaf}
use Rattle.event_text.specs.declared.fault.LineFault.{LineFault}
use Rattle.event_text.specs.declared.fault.LineFault.TheVariants.{BadWord, BigNumber, NoLeaf}
use Rattle.event_text.specs.Lines.{step_word, path_words, leaf_words, Fits}
use Rattle.event_text.specs.Spells.{SpellsNumber, SpellsLeaf, Spells}
use Rattle.event_text.specs.Reading.{words, step_of, word_leaf, is_number, number_leaf, is_end, last_word, at_number, at_leaf, with_step, alone, step_or_leaf, at_words, read}
use Rattle.event_text.proofs.Numbers.{own, some_digits}

-- a fact of each element
abbrev Each : {X : Type 0} → (X → Type 0) → List X → Type 0
Each P [] = ⊤
Each P (x ∷ xs) = P x × Each P xs

found : {X : Type 0} (P : X → Type 0) (p : X → Bool) (xs : List X) (x : X) → Each (λ y. p y ≡ true → P y) xs → find p xs ≡ Some x → P x
found P p [] x each e = absurd (let none : ⊥ = cc in none)
found P p (y ∷ ys) x each e = by_test (p y) refl (found P p ys x each.1) e
  where
    by_test : (t : Bool) → p y ≡ t → (find p ys ≡ Some x → P x) → cond t (Some y) (find p ys) ≡ Some x → P x
    by_test true passes later e = let same : y ≡ x = cc in subst P same (each.0 passes)
    by_test false fails later e = later e

-- a word is that which it is compared with
is_word : (w text : List ℕ) → bytes_eq w text ≡ true → w ≡ text
is_word w text same = (bytes_eq-Decides w text).0 same

step_spelled : (w : List ℕ) (step : Step) → step_of w ≡ Some step → w ≡ step_word step
step_spelled w step e =
    found (λ (s : Step). w ≡ step_word s) (λ (s : Step). bytes_eq w (step_word s)) (Left ∷ Right ∷ First ∷ []) step
    (is_word w (codes "L"), (is_word w (codes "R"), (is_word w (codes "F"), tt))) e

-- a leaf that is within the limits is spelled
record IsLeaf (line : List ℕ) (leaf : Leaf) : Type 0 where
  spelled : SpellsLeaf leaf line
  fits : FitsLeaf leaf

word_spelled : (w : List ℕ) (leaf : Leaf) → word_leaf w ≡ Some leaf → IsLeaf w leaf
word_spelled w leaf e =
    found (IsLeaf w) (λ (l : Leaf). bytes_eq w (leaf_words l)) (One ∷ Inl ∷ Inr ∷ Cut ∷ Item ∷ End ∷ []) leaf (
      (λ same. record { spelled = is_word w (codes "one") same; fits = tt }),
      (
        (λ same. record { spelled = is_word w (codes "inl") same; fits = tt }),
        (
          (λ same. record { spelled = is_word w (codes "inr") same; fits = tt }),
          (
            (λ same. record { spelled = is_word w (codes "cut") same; fits = tt }),
            (
              (λ same. record { spelled = is_word w (codes "item") same; fits = tt }),
              ((λ same. record { spelled = is_word w (codes "end") same; fits = tt }), tt),
            ),
          ),
        ),
      ),
    ) e

negative_fits : (n : ℕ) → n ≤ 2 ^ 63 → FitsSigned w64 (neg_ℤ (pos n))
negative_fits zero low = record { sfits = omega arith }
negative_fits (suc n) low = record { sfits = omega arith }

number_spelled : (w : List ℕ) (leaf : Leaf) → is_number w ≡ true → number_leaf w ≡ Some leaf → IsLeaf (codes "int " ++ w) leaf
number_spelled [] leaf is e = absurd (let none : ⊥ = cc in none)
number_spelled (b ∷ bs) leaf is e = by_sign (b == 45) refl
  where
    low : (n : ℕ) (t : Bool) → nat_le n (2 ^ 63) ≡ t → SpellsNumber (neg_ℤ (pos n)) (b ∷ bs) → cond t (Some (Int (neg_ℤ (pos n)))) None ≡ Some leaf → IsLeaf (codes "int " ++ b ∷ bs) leaf
    low n true is_low spelled e =
        let same : Int (neg_ℤ (pos n)) ≡ leaf = cc in
        let within : n ≤ 2 ^ 63 = grind (arith, nat_tests) in
        subst (IsLeaf (codes "int " ++ b ∷ bs)) same (record { spelled = (b ∷ bs, refl, spelled); fits = negative_fits n within })
    low n false is_low spelled e = absurd (let none : ⊥ = cc in none)

    high : (n : ℕ) (t : Bool) → nat_lt n (2 ^ 63) ≡ t → SpellsNumber (pos n) (b ∷ bs) → cond t (Some (Int (pos n))) None ≡ Some leaf → IsLeaf (codes "int " ++ b ∷ bs) leaf
    high n true is_high spelled e =
        let same : Int (pos n) ≡ leaf = cc in
        let within : n < 2 ^ 63 = grind (arith, nat_tests) in
        subst (IsLeaf (codes "int " ++ b ∷ bs)) same (record { spelled = (b ∷ bs, refl, spelled); fits = record { sfits = within } })
    high n false is_high spelled e = absurd (let none : ⊥ = cc in none)

    by_sign : (t : Bool) → (b == 45) ≡ t → IsLeaf (codes "int " ++ b ∷ bs) leaf
    by_sign true minus =
        let digits = some_digits bs (rw minus at is) in
        let n : ℕ = digits_value 10 bs in
        let sign : b ≡ 45 = eqb-true b 45 minus in
        low n (nat_le n (2 ^ 63)) refl
        (n, inr (bs, ap (λ (c : ℕ). c ∷ bs) sign, record { numeral = (digits.1, own.to bs digits.0); value = refl }, refl))
        (rw minus at e)
    by_sign false plain =
        let digits = some_digits (b ∷ bs) (rw plain at is) in
        let n : ℕ = digits_value 10 (b ∷ bs) in
        high n (nat_lt n (2 ^ 63)) refl
        (n, inl (record { numeral = (digits.1, own.to (b ∷ bs) digits.0); value = refl }, refl))
        (rw plain at e)

last_is : (o : Option Leaf) (fault : LineFault) (column : ℕ) (ws : List (List ℕ)) (leaf : Leaf) → last_word o fault column ws ≡ Ok leaf → (o ≡ Some leaf) × (ws ≡ [])
last_is None fault column ws leaf e = absurd (let none : ⊥ = cc in none)
last_is (Some l) fault column [] leaf e = (let same : Some l ≡ Some leaf = cc in same, refl)
last_is (Some l) fault column (w ∷ ws) leaf e = absurd (let none : ⊥ = cc in none)

behind_int : (column : ℕ) (ws : List (List ℕ)) (leaf : Leaf) → at_number column ws ≡ Ok leaf → IsLeaf (join_with_byte 32 (codes "int" ∷ ws)) leaf
behind_int column [] leaf e = absurd (let none : ⊥ = cc in none)
behind_int column (w ∷ ws) leaf e = by_end (is_end w ws) e
  where
    by_number : (t : Bool) → is_number w ≡ t → (if t then last_word (number_leaf w) (BigNumber column) (column + length w) ws else Err (BadWord column)) ≡ Ok leaf → IsLeaf (join_with_byte 32 (codes "int" ∷ w ∷ ws)) leaf
    by_number true is e =
        let last = last_is (number_leaf w) (BigNumber column) (column + length w) ws leaf e in
        subst (λ (vs : List (List ℕ)). IsLeaf (join_with_byte 32 (codes "int" ∷ w ∷ vs)) leaf) (sym last.1) (number_spelled w leaf is last.0)
    by_number false is e = absurd (let none : ⊥ = cc in none)

    by_end : (t : Bool) → (if t then Err NoLeaf else (if is_number w then last_word (number_leaf w) (BigNumber column) (column + length w) ws else Err (BadWord column))) ≡ Ok leaf → IsLeaf (join_with_byte 32 (codes "int" ∷ w ∷ ws)) leaf
    by_end true e = absurd (let none : ⊥ = cc in none)
    by_end false e = by_number (is_number w) refl e

leaf_spelled : (column : ℕ) (w : List ℕ) (ws : List (List ℕ)) (leaf : Leaf) → at_leaf column w ws ≡ Ok leaf → IsLeaf (join_with_byte 32 (w ∷ ws)) leaf
leaf_spelled column w ws leaf e = by_int (bytes_eq w (codes "int")) refl e
  where
    by_int : (t : Bool) → bytes_eq w (codes "int") ≡ t → (if t then at_number (column + 4) ws else last_word (word_leaf w) (BadWord column) (column + length w) ws) ≡ Ok leaf → IsLeaf (join_with_byte 32 (w ∷ ws)) leaf
    by_int true is e = subst (λ (v : List ℕ). IsLeaf (join_with_byte 32 (v ∷ ws)) leaf) (sym (is_word w (codes "int") is)) (behind_int (column + 4) ws leaf e)
    by_int false is e =
        let last = last_is (word_leaf w) (BadWord column) (column + length w) ws leaf e in
        subst (λ (vs : List (List ℕ)). IsLeaf (join_with_byte 32 (w ∷ vs)) leaf) (sym last.1) (word_spelled w leaf last.0)

-- words that are read as an event spell it
record IsRead (left : ℕ) (ws : List (List ℕ)) (x : StreamEvent) : Type 0 where
  rest : List ℕ
  line : join_with_byte 32 ws ≡ path_words x.path ++ rest
  steps : length x.path ≤ left
  leaf : IsLeaf rest x.leaf

joined : (w : List ℕ) (ws : List (List ℕ)) (left column : ℕ) (x : StreamEvent) → at_words left column ws ≡ Ok x → join_with_byte 32 (w ∷ ws) ≡ w ++ 32 ∷ join_with_byte 32 ws
joined w [] left column x e = absurd (let none : ⊥ = cc in none)
joined w (v ∷ vs) left column x e = refl

step_more : (a p r : List ℕ) → a ++ (32 ∷ (p ++ r)) ≡ ((a ++ codes " ") ++ p) ++ r
step_more a p r = sym (ap (λ (bs : List ℕ). bs ++ r) (append_assoc a (codes " ") p) ∙ append_assoc a (32 ∷ p) r)

step_read : (w : List ℕ) (ws : List (List ℕ)) (step : Step) (left column : ℕ) (y : StreamEvent) → w ≡ step_word step → at_words (suc left - 1) column ws ≡ Ok y → IsRead (suc left - 1) ws y → IsRead (suc left) (w ∷ ws) (under step y)
step_read w ws step left column y word e is = record {
  rest = is.rest;
  line = joined w ws (suc left - 1) column y e ∙ ap (λ (v : List ℕ). v ++ 32 ∷ join_with_byte 32 ws) word ∙ ap (λ (v : List ℕ). step_word step ++ 32 ∷ v) is.line ∙ step_more (step_word step) (path_words y.path) is.rest;
  steps = omega (arith, is.steps);
  leaf = is.leaf;
}

one_word : (w : List ℕ) (ws : List (List ℕ)) → ((left column : ℕ) (y : StreamEvent) → at_words left column ws ≡ Ok y → IsRead left ws y)
    → (left column : ℕ) (x : StreamEvent) → at_words left column (w ∷ ws) ≡ Ok x → IsRead left (w ∷ ws) x
one_word w ws more left column x e = by_end (is_end w ws) e
  where
    after_step : (step : Step) (left : ℕ) (r : Result StreamEvent LineFault) → step_of w ≡ Some step → at_words (suc left - 1) (column + length w + 1) ws ≡ r → with_step step r ≡ Ok x → IsRead (suc left) (w ∷ ws) x
    after_step step left (Ok y) is behind e =
        let same : under step y ≡ x = cc in
        subst (IsRead (suc left) (w ∷ ws)) same (step_read w ws step left (column + length w + 1) y (step_spelled w step is) behind (more (suc left - 1) (column + length w + 1) y behind))
    after_step step left (Err fault) is behind e = absurd (let none : ⊥ = cc in none)

    by_leaf : (left : ℕ) (r : Result Leaf LineFault) → at_leaf column w ws ≡ r → alone r ≡ Ok x → IsRead left (w ∷ ws) x
    by_leaf left (Ok leaf) is e =
        let same : leaf_of leaf ≡ x = cc in
        subst (IsRead left (w ∷ ws)) same (record { rest = join_with_byte 32 (w ∷ ws); line = refl; steps = omega arith; leaf = leaf_spelled column w ws leaf is })
    by_leaf left (Err fault) is e = absurd (let none : ⊥ = cc in none)

    by_step : (o : Option Step) (left : ℕ) → step_of w ≡ o → step_or_leaf o left (at_words (left - 1) (column + length w + 1) ws) (at_leaf column w ws) ≡ Ok x → IsRead left (w ∷ ws) x
    by_step (Some step) zero is e = absurd (let none : ⊥ = cc in none)
    by_step (Some step) (suc left) is e = after_step step left (at_words (suc left - 1) (column + length w + 1) ws) is refl e
    by_step None left is e = by_leaf left (at_leaf column w ws) refl e

    by_end : (t : Bool) → (if t then Err NoLeaf else step_or_leaf (step_of w) left (at_words (left - 1) (column + length w + 1) ws) (at_leaf column w ws)) ≡ Ok x → IsRead left (w ∷ ws) x
    by_end true e = absurd (let none : ⊥ = cc in none)
    by_end false e = by_step (step_of w) left refl e

all_words : (ws : List (List ℕ)) (left column : ℕ) (x : StreamEvent) → at_words left column ws ≡ Ok x → IsRead left ws x
all_words [] left column x e = absurd (let none : ⊥ = cc in none)
all_words (w ∷ ws) left column x e = one_word w ws (λ l c y h. all_words ws l c y h) left column x e

pub read_is_spelled : (line : List ℕ) (x : StreamEvent) → read line ≡ Ok x → Spells x line × Fits x
read_is_spelled line x e =
    let is = all_words (words line) 63 0 x e in
    ((is.rest, sym (join_with_byte-slice_split 32 line) ∙ is.line, is.leaf.spelled), record { steps = is.steps; leaf = is.leaf.fits })
