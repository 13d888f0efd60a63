-- Going over bytes in pieces: what is awaited first, and then what is awaited behind it.
use Rattle.std.proofs.Common.{◌≡◌, ◌∙◌, ◌<◌, ◌^◌, ◌+◌, ℕ, zero, suc, Bool, true, false, List, [], ◌∷◌, ◌++◌, length, ap, refl, sym, append_assoc}
use Rattle.std.specs.Prelude.{Option, Some, None, ◌==◌, if◌then◌else◌, option_map}
use Rattle.kept_state.specs.KeptBytes.{short_bytes}
use Rattle.kept_state.specs.KeptForm.{Item, bool_item, type_item, prefix_item, value_item, expr_item, node_item, known_item, held_item, argument_item, Part, exactly, any, form, count, items, list_part, item_parts, forms_of, form_at, settle, after_byte}
use Rattle.kept_state.proofs.FilledParts.{count_made}
use Rattle.delta_keep.specs.Walking.{Walk, passed, stuck, walk_on, walk}

infixl 10 ◌>>=◌
-- what comes behind bytes that were passed
abbrev pub ◌>>=◌ : Walk → (List ℕ → Walk) → Walk
(passed rest) >>= f = f rest
(stuck left) >>= f = stuck left

-- parts that begin with a byte, or none, before others
abbrev before : List Part → List Part → List Part
before [] qs = settle qs
before (p ∷ ps) qs = p ∷ ps ++ qs

-- a list opened at its next item
opened : (item : Item) (n : ℕ) (ps qs : List Part) → item_parts item ++ items n item ∷ (ps ++ qs) ≡ before (item_parts item ++ items n item ∷ ps) qs
opened bool_item n ps qs = refl
opened type_item n ps qs = refl
opened prefix_item n ps qs = refl
opened value_item n ps qs = refl
opened expr_item n ps qs = refl
opened node_item n ps qs = refl
opened known_item n ps qs = refl
opened held_item n ps qs = refl
opened argument_item n ps qs = refl

settle_both : (ps qs : List Part) → settle (ps ++ qs) ≡ before (settle ps) qs
settle_both [] qs = refl
settle_both (exactly b ∷ ps) qs = refl
settle_both (any zero ∷ ps) qs = settle_both ps qs
settle_both (any (suc k) ∷ ps) qs = refl
settle_both (form kind ∷ ps) qs = refl
settle_both (count zero zero item ∷ ps) qs = settle_both ps qs
settle_both (count zero (suc n) item ∷ ps) qs = opened item n ps qs
settle_both (count (suc k) n item ∷ ps) qs = refl
settle_both (items zero item ∷ ps) qs = settle_both ps qs
settle_both (items (suc n) item ∷ ps) qs = opened item n ps qs

-- what is awaited after a byte, with others behind
tested_both : (t : Bool) (ps qs : List Part) → (if t then Some (ps ++ qs) else None) ≡ option_map (λ f. f ++ qs) (if t then Some ps else None)
tested_both true ps qs = refl
tested_both false ps qs = refl

fields_both : (o : Option (List Part)) (ps qs : List Part) → option_map (λ f. f ++ (ps ++ qs)) o ≡ option_map (λ f. f ++ qs) (option_map (λ f. f ++ ps) o)
fields_both None ps qs = refl
fields_both (Some f) ps qs = ap Some (sym (append_assoc f ps qs))

after_both : (p : Part) (ps qs : List Part) (b : ℕ) → after_byte (p ∷ (ps ++ qs)) b ≡ option_map (λ f. f ++ qs) (after_byte (p ∷ ps) b)
after_both (exactly c) ps qs b = tested_both (b == c) ps qs
after_both (any zero) ps qs b = refl
after_both (any (suc k)) ps qs b = refl
after_both (form kind) ps qs b = fields_both (form_at (forms_of kind) b) ps qs
after_both (count zero n item) ps qs b = refl
after_both (count (suc k) n item) ps qs b = refl
after_both (items n item) ps qs b = refl

-- how it goes on after a byte
on_both : (o : Option (List Part)) (qs : List Part) (left : ℕ) (bs : List ℕ) → ((f : List Part) → walk (settle (f ++ qs)) bs ≡ walk (settle f) bs >>= λ rest. walk (settle qs) rest)
    → walk_on (option_map (λ f. f ++ qs) o) left (λ next. walk (settle next) bs) ≡ walk_on o left (λ next. walk (settle next) bs) >>= λ rest. walk (settle qs) rest
on_both None qs left bs h = refl
on_both (Some f) qs left bs h = h f

-- parts that begin with a byte, and then others
pub walk_before : (ps qs : List Part) (bytes : List ℕ) → walk (before ps qs) bytes ≡ walk ps bytes >>= λ rest. walk (settle qs) rest
walk_before [] qs bytes = refl
walk_before (p ∷ ps) qs [] = refl
walk_before (p ∷ ps) qs (b ∷ bs) =
    ap (λ o. walk_on o (suc (length bs)) (λ next. walk (settle next) bs)) (after_both p ps qs b)
    ∙ on_both (after_byte (p ∷ ps) b) qs (suc (length bs)) bs (λ f. ap (λ s. walk s bs) (settle_both f qs) ∙ walk_before (settle f) qs bs)

-- some parts, and then others
pub walk_2 : (ps qs : List Part) (bytes : List ℕ) → walk (settle (ps ++ qs)) bytes ≡ walk (settle ps) bytes >>= λ rest. walk (settle qs) rest
walk_2 ps qs bytes = ap (λ s. walk s bytes) (settle_both ps qs) ∙ walk_before (settle ps) qs bytes

-- a list behind its count
counted : (n : ℕ) (item : Item) → settle (count zero n item ∷ []) ≡ settle (items n item ∷ [])
counted zero item = refl
counted (suc n) item = refl

pub listed : (item : Item) (n : ℕ) (bytes start : List ℕ) → n < 2 ^ 32 → bytes ≡ short_bytes n ++ start → walk (list_part item ∷ []) bytes ≡ walk (settle (items n item ∷ [])) start
listed item n bytes start h e =
    ap (walk (list_part item ∷ [])) e
    ∙ (ap (λ m. walk (settle (count zero m item ∷ [])) start) (count_made n h) ∙ ap (λ s. walk s start) (counted n item))

-- an item, and those behind it
item_before : (item : Item) (qs : List Part) → item_parts item ++ qs ≡ before (item_parts item) qs
item_before bool_item qs = refl
item_before type_item qs = refl
item_before prefix_item qs = refl
item_before value_item qs = refl
item_before expr_item qs = refl
item_before node_item qs = refl
item_before known_item qs = refl
item_before held_item qs = refl
item_before argument_item qs = refl

pub next_item : (item : Item) (n : ℕ) (bytes : List ℕ) → walk (settle (items (suc n) item ∷ [])) bytes ≡ walk (item_parts item) bytes >>= λ rest. walk (settle (items n item ∷ [])) rest
next_item item n bytes = ap (λ s. walk s bytes) (item_before item (items n item ∷ [])) ∙ walk_before (item_parts item) (items n item ∷ []) bytes
