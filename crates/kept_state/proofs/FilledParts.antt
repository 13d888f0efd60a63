-- Bytes that fill what is awaited: none of them is wrong, and after them awaited is what stood behind.
use Rattle.std.proofs.Common.{◌≡◌, ◌∙◌, ◌≤◌, ◌<◌, ◌+◌, ◌*◌, ◌^◌, ℕ, zero, suc, List, [], ◌∷◌, ◌++◌, length, ap, ap₂, refl, sym, arith, append_assoc, length-append}
use Rattle.std.specs.Prelude.{Some, None, if◌then◌else◌, option_map, map}
use Rattle.std.specs.Int.{byte_at}
use Rattle.std.specs.List.{concat}
use Rattle.std.proofs.lemmas.Nat.{from_be_bytes-to_be_bytes_4}
use Rattle.kept_state.specs.KeptBytes.{short_bytes, list_bytes, most_bytes}
use Rattle.kept_state.specs.KeptForm.{Kind, Item, bool_item, type_item, prefix_item, value_item, expr_item, node_item, known_item, held_item, argument_item, Part, any, form, count, items, list_part, item_parts, forms_of, form_at, go_on, settle, after_byte, is_whole, fault_from}

-- these bytes fill these parts, whatever is awaited behind them; there aren't too many of them
pub record Fills (ps : List Part) (bs : List ℕ) : Type 0 where
  pub at : length bs ≤ most_bytes → (rest : List Part) (n : ℕ) (more : List ℕ) → fault_from (ps ++ rest) n (bs ++ more) ≡ fault_from rest (n + length bs) more

-- no bytes fill no parts
pub fills_nil : Fills [] []
fills_nil = record { at = λ l rest n more. ap (λ i. fault_from rest i more) (let e : n ≡ n + 0 = omega arith in e) }

-- bytes that fill parts, and behind them bytes that fill other parts, fill all of these
pub fills_both : (ps qs : List Part) (a b : List ℕ) → Fills ps a → Fills qs b → Fills (ps ++ qs) (a ++ b)
fills_both ps qs a b h k = record {
  at = λ l rest n more.
      let e = length-append a b in
      ap₂ (λ p x. fault_from p n x) (append_assoc ps qs rest) (append_assoc a b more)
      ∙ (h.at (omega (arith, l, e)) (qs ++ rest) n (b ++ more)
      ∙ (k.at (omega (arith, l, e)) rest (n + length a) more
      ∙ ap (λ i. fault_from rest i more) (let f : n + length a + length b ≡ n + length (a ++ b) = omega (arith, e) in f)));
}

-- the byte of a form, and bytes that fill its fields, fill a part of its kind
pub fills_form : (kind : Kind) (byte : ℕ) (fields : List Part) (bs : List ℕ) → form_at (forms_of kind) byte ≡ Some fields → Fills fields bs → Fills (form kind ∷ []) (byte ∷ bs)
fills_form kind byte fields bs e h = record {
  at = λ l rest n more.
      ap (λ o. go_on (option_map (λ f. f ++ rest) o) n (λ next. fault_from next (suc n) (bs ++ more))) e
      ∙ (h.at (omega (arith, l)) rest (suc n) more ∙ ap (λ i. fault_from rest i more) (let f : suc n + length bs ≡ n + suc (length bs) = omega arith in f));
}

-- no bytes at all are as nothing awaited
pub skip_any : (rest : List Part) (n : ℕ) (more : List ℕ) → fault_from (any zero ∷ rest) n more ≡ fault_from rest n more
skip_any rest n [] = refl
skip_any rest n (b ∷ more) = refl

-- so many bytes fill a part of as many, whichever they are
pub fills_any : (bs : List ℕ) → Fills (any (length bs) ∷ []) bs
fills_any [] = record { at = λ l rest n more. skip_any rest n more ∙ ap (λ i. fault_from rest i more) (let e : n ≡ n + 0 = omega arith in e) }
fills_any (b ∷ bs) = record {
  at = λ l rest n more. (fills_any bs).at (omega (arith, l)) rest (suc n) more ∙ ap (λ i. fault_from rest i more) (let f : suc n + length bs ≡ n + suc (length bs) = omega arith in f);
}

-- these bytes fill so many items; as many items have as many bytes or more, so a count of them is small
pub record FillItems (k : ℕ) (item : Item) (bs : List ℕ) : Type 0 where
  pub few : k ≤ length bs
  pub at : length bs ≤ most_bytes → (rest : List Part) (n : ℕ) (more : List ℕ) → fault_from (items k item ∷ rest) n (bs ++ more) ≡ fault_from rest (n + length bs) more

-- no items at all are as nothing awaited
pub skip_items : (item : Item) (rest : List Part) (n : ℕ) (more : List ℕ) → fault_from (items zero item ∷ rest) n more ≡ fault_from rest n more
skip_items item rest n [] = refl
skip_items item rest n (b ∷ more) = refl

-- the parts of an item begin with a byte
item_settled : (item : Item) (rest : List Part) → settle (item_parts item ++ rest) ≡ item_parts item ++ rest
item_settled bool_item rest = refl
item_settled type_item rest = refl
item_settled prefix_item rest = refl
item_settled value_item rest = refl
item_settled expr_item rest = refl
item_settled node_item rest = refl
item_settled known_item rest = refl
item_settled held_item rest = refl
item_settled argument_item rest = refl

-- so a list of one item or more is as its first item's parts, and the others behind them
pub open_items : (item : Item) (k : ℕ) (rest : List Part) (n : ℕ) (more : List ℕ) → fault_from (items (suc k) item ∷ rest) n more ≡ fault_from (item_parts item ++ items k item ∷ rest) n more
open_items item k rest n [] = ap (λ ps. if is_whole ps then None else Some n) (sym (item_settled item (items k item ∷ rest)))
open_items item k rest n (b ∷ more) = ap (λ ps. go_on (after_byte ps b) n (λ next. fault_from next (suc n) more)) (sym (item_settled item (items k item ∷ rest)))

-- no bytes fill no items
pub fill_no_items : (item : Item) → FillItems 0 item []
fill_no_items item = record { few = omega arith; at = λ l rest n more. skip_items item rest n more ∙ ap (λ i. fault_from rest i more) (let e : n ≡ n + 0 = omega arith in e) }

-- bytes of an item, and behind them bytes of others, fill one item more
pub fill_more_items : (item : Item) (k : ℕ) (a bs : List ℕ) → Fills (item_parts item) a → 1 ≤ length a → FillItems k item bs → FillItems (suc k) item (a ++ bs)
fill_more_items item k a bs h s t =
    let e = length-append a bs in
    record {
      few = let f = t.few in omega (arith, e, s, f);
      at = λ l rest n more.
          open_items item k rest n ((a ++ bs) ++ more)
          ∙ (ap (fault_from (item_parts item ++ (items k item ∷ rest)) n) (append_assoc a bs more)
          ∙ (h.at (omega (arith, l, e)) (items k item ∷ rest) n (bs ++ more)
          ∙ (t.at (omega (arith, l, e)) rest (n + length a) more ∙ ap (λ i. fault_from rest i more) (let f : n + length a + length bs ≡ n + length (a ++ bs) = omega (arith, e) in f))));
    }

-- the four bytes of a count make the number that was written
pub count_made : (n : ℕ) → n < 2 ^ 32 → (((0 * 256 + byte_at 3 n) * 256 + byte_at 2 n) * 256 + byte_at 1 n) * 256 + byte_at 0 n ≡ n
count_made n h = omega (arith, from_be_bytes-to_be_bytes_4 n h)

-- after a count so many items are awaited
pub counted : (k : ℕ) (item : Item) (rest : List Part) (n : ℕ) (more : List ℕ) → fault_from (count zero k item ∷ rest) n more ≡ fault_from (items k item ∷ rest) n more
counted zero item rest n [] = refl
counted zero item rest n (b ∷ more) = refl
counted (suc k) item rest n [] = refl
counted (suc k) item rest n (b ∷ more) = refl

-- a count, and bytes of so many items, fill a list
pub fills_counted : (item : Item) (k : ℕ) (bs : List ℕ) → FillItems k item bs → Fills (list_part item ∷ []) (short_bytes k ++ bs)
fills_counted item k bs h = record {
  at = λ l rest n more.
      let f = h.few in
      ap (λ m. fault_from (count zero m item ∷ rest) (suc (suc (suc (suc n)))) (bs ++ more)) (count_made k (omega (arith, l, f)))
      ∙ (counted k item rest (suc (suc (suc (suc n)))) (bs ++ more)
      ∙ (h.at (omega (arith, l)) rest (suc (suc (suc (suc n)))) more ∙ ap (λ i. fault_from rest i more) (let e : suc (suc (suc (suc n))) + length bs ≡ n + suc (suc (suc (suc (length bs)))) = omega arith in e)));
}

-- bytes of each of some things
fill_each : {A : Type 0} (item : Item) (bytes : A → List ℕ) → ((x : A) → Fills (item_parts item) (bytes x)) → ((x : A) → 1 ≤ length (bytes x)) → (xs : List A) → FillItems (length xs) item (concat (map bytes xs))
fill_each item bytes h some [] = fill_no_items item
fill_each item bytes h some (x ∷ xs) = fill_more_items item (length xs) (bytes x) (concat (map bytes xs)) (h x) (some x) (fill_each item bytes h some xs)

-- a list of things whose bytes fill an item, at least one byte each, fills a list of such items
pub fills_list : {A : Type 0} (item : Item) (bytes : A → List ℕ) → ((x : A) → Fills (item_parts item) (bytes x)) → ((x : A) → 1 ≤ length (bytes x)) → (xs : List A) → Fills (list_part item ∷ []) (list_bytes bytes xs)
fills_list item bytes h some xs = fills_counted item (length xs) (concat (map bytes xs)) (fill_each item bytes h some xs)
