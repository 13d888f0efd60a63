-- Lists read item by item.
use Rattle.std.proofs.Common.{◌≡◌, ◌∙◌, ◌<◌, ◌+◌, ◌-◌, ℕ, suc, List, [], ◌∷◌, ◌++◌, map, length, ap, sym, refl, arith, subst}
use Rattle.std.specs.List.{AllByRecursion}
use Rattle.std.proofs.lemmas.List.{map-append, length-map, map-id}
use Rattle.std.specs.Prelude.{Result, Ok, Err}
use Rattle.kept_state.specs.KeptBytes.{short_bytes, list_bytes}
use Rattle.kept_state.specs.KeptForm.{Item, bool_item, type_item, prefix_item, value_item, expr_item, node_item, known_item, held_item, argument_item, any, items, list_part, item_parts, settle}
use Rattle.kept_state.specs.KeptSizes.{FitsShort}
use Rattle.delta_keep.specs.declared.halt.Halt.{Halt}
use Rattle.delta_keep.specs.declared.halt.Halt.TheVariants.{Memory, At}
use Rattle.delta_keep.specs.Walking.{Walk, walk, passed, stuck}
use Rattle.delta_keep.specs.Reads.{Read, Reads, Stops, Pushes, FitsList}
use Rattle.delta_keep.proofs.Lists.{items_bytes, read_next, read_all, count_next}
use Rattle.delta_keep.proofs.Walks.{◌>>=◌, next_item, listed}

-- of a list of so many items, whose bytes begin here, these n are read, and these bytes are left
pub record ReadSome {A B : Type 0} (item : Item) (f : B → List ℕ) (g : A → B) (Fits : B → Type 0) (many : ℕ) (start : List ℕ) (n : ℕ) (xs : List A) (rest : List ℕ) : Type 0 where
  pub spelled : start ≡ items_bytes f g xs ++ rest
  pub counted : length xs ≡ n
  pub walked : walk (settle (items many item ∷ [])) start ≡ walk (settle (items (many - n) item ∷ [])) rest
  pub sizes : AllByRecursion Fits (map g xs)

-- a fact of all is one of one more
pub all_more : {B : Type 0} (Fits : B → Type 0) (ys : List B) (y : B) → AllByRecursion Fits ys → Fits y → AllByRecursion Fits (ys ++ y ∷ [])
all_more Fits [] y h k = (k, tt)
all_more Fits (z ∷ ys) y (h, hs) k = (h, all_more Fits ys y hs k)

-- the parts of an item begin with a byte
settled : (item : Item) → settle (item_parts item) ≡ item_parts item
settled bool_item = refl
settled type_item = refl
settled prefix_item = refl
settled value_item = refl
settled expr_item = refl
settled node_item = refl
settled known_item = refl
settled held_item = refl
settled argument_item = refl

item_walk : (item : Item) (rest : List ℕ) (w : Walk) → walk (settle (item_parts item)) rest ≡ w → walk (item_parts item) rest ≡ w
item_walk item rest w h = ap (λ ps. walk ps rest) (sym (settled item)) ∙ h

-- none are read yet
pub none_read : {A B : Type 0} (item : Item) (f : B → List ℕ) (g : A → B) (Fits : B → Type 0) (many : ℕ) (start : List ℕ) (xs : List A) → xs ≡ [] → ReadSome item f g Fits many start 0 xs start
none_read item f g Fits many start xs q = rw q (record { spelled = refl; counted = refl; walked = ap (λ m. walk (settle (items m item ∷ [])) start) (let k : many ≡ many - 0 = omega arith in k); sizes = tt })

-- with one more
pub read_one_more : {A B : Type 0} {item : Item} {f : B → List ℕ} {g : A → B} {Fits : B → Type 0} {many n : ℕ} {start rest behind : List ℕ} {xs next : List A} {x y : A} → ReadSome item f g Fits many start n xs rest → n < many → next ≡ xs ++ x ∷ [] → x ≡ y
    → Read (item_parts item) rest (f (g y)) behind (Fits (g y)) → ReadSome item f g Fits many start (n + 1) next behind
read_one_more {A} {B} {item} {f} {g} {Fits} {many} {n} {start} {rest} {behind} {xs} {next} {x} {y} h l p q r = record {
  spelled = read_next f g xs next x y start rest behind p q h.spelled r.spelled;
  counted = count_next xs next x n p h.counted;
  walked =
      h.walked
      ∙ (ap (λ m. walk (settle (items m item ∷ [])) rest) (let k : many - n ≡ suc (many - (n + 1)) = omega (arith, l) in k)
      ∙ (next_item item (many - (n + 1)) rest ∙ ap (λ v. v >>= λ s. walk (settle (items (many - (n + 1)) item ∷ [])) s) (item_walk item rest (passed behind) r.walked)));
  sizes =
      subst (AllByRecursion Fits)
      (sym (map-append g xs (y ∷ [])) ∙ ap (map g) (ap (λ z. xs ++ z ∷ []) (sym q) ∙ sym p))
      (all_more Fits (map g xs) (g y) h.sizes r.sizes);
}

-- where it stops at the next
pub list_stops : {A B : Type 0} (item : Item) {f : B → List ℕ} {g : A → B} {Fits : B → Type 0} {many n : ℕ} {bytes start rest : List ℕ} {xs : List A} (e : Halt) → Read (any 4 ∷ []) bytes (short_bytes many) start (FitsShort many) → ReadSome item f g Fits many start n xs rest → n < many
    → Stops (item_parts item) rest e → Stops (list_part item ∷ []) bytes e
list_stops item Memory c h l w = tt
list_stops {A} {B} item {f} {g} {Fits} {many} {n} {bytes} {start} {rest} {xs} (At left) c h l w =
    listed item many bytes start c.sizes c.spelled
    ∙ (h.walked
    ∙ (ap (λ m. walk (settle (items m item ∷ [])) rest) (let k : many - n ≡ suc (many - (n + 1)) = omega (arith, l) in k)
    ∙ (next_item item (many - (n + 1)) rest ∙ ap (λ v. v >>= λ s. walk (settle (items (many - (n + 1)) item ∷ [])) s) (item_walk item rest (stuck left) w))))

-- what was pushed, told of what holds it
pub pushes_as : {V U W A : Type 0} (value : V → A) (behind : V → List ℕ) (of : U → A) (left : U → List ℕ) (end : W → List ℕ) (old new : List A) (v : V) (u : U) (r : Result W Halt) → of u ≡ value v → left u ≡ behind v → Pushes of left end old new (Ok u) r → Pushes value behind end old new (Ok v) r
pushes_as value behind of left end old new v u (Ok w) q k (p, e) = (p ∙ ap (λ a. old ++ a ∷ []) q, e ∙ k)
pushes_as value behind of left end old new v u (Err Memory) q k p = tt
pushes_as value behind of left end old new v u (Err (At n)) q k p = absurd p

-- with one that was put behind them,
pub list_pushed : {V W A B : Type 0} {item : Item} {f : B → List ℕ} {g : A → B} {Fits : B → Type 0} {many n : ℕ} {start rest : List ℕ} {xs next : List A} (r : Result V Halt) (w : W) (value : V → A) (behind : V → List ℕ) (end : W → List ℕ) → ReadSome item f g Fits many start n xs rest → n < many
    → Pushes value behind end xs next r (Ok w) → Reads (item_parts item) rest (λ v. f (g (value v))) behind (λ v. Fits (g (value v))) r → ReadSome item f g Fits many start (n + 1) next (end w)
list_pushed {V} {W} {A} {B} {item} {f} {g} {Fits} {many} {n} {start} {rest} {xs} {next} (Ok v) w value behind end h l (p, q) k =
    subst (λ bs. ReadSome item f g Fits many start (n + 1) next bs) (sym q) (read_one_more h l p refl k)
list_pushed (Err e) w value behind end h l p k = absurd p

-- and where that stops
pub list_ended : {V W A B : Type 0} (item : Item) {f : B → List ℕ} {g : A → B} {Fits : B → Type 0} {many n : ℕ} {bytes start rest : List ℕ} {xs : List A} (next : List A) (r : Result V Halt) (e : Halt) (value : V → A) (behind : V → List ℕ) (end : W → List ℕ) → Read (any 4 ∷ []) bytes (short_bytes many) start (FitsShort many)
    → ReadSome item f g Fits many start n xs rest → n < many → Pushes value behind end xs next r (Err e) → Reads (item_parts item) rest (λ v. f (g (value v))) behind (λ v. Fits (g (value v))) r → Stops (list_part item ∷ []) bytes e
list_ended item next (Ok v) Memory value behind end c h l p k = tt
list_ended item next (Ok v) (At left) value behind end c h l p k = absurd p
list_ended {V} {W} {A} {B} item {f} {g} {Fits} {many} {n} {bytes} next (Err d) e value behind end c h l p k = subst (λ (a : Halt). Stops (list_part item ∷ []) bytes a) (sym p) (list_stops item d c h l k)

-- where its count isn't read
pub count_stops : (item : Item) (bytes : List ℕ) (e : Halt) → Stops (any 4 ∷ []) bytes e → Stops (list_part item ∷ []) bytes e
count_stops item [] e h = h
count_stops item (a ∷ []) e h = h
count_stops item (a ∷ b ∷ []) e h = h
count_stops item (a ∷ b ∷ c ∷ []) e h = h
count_stops item (a ∷ b ∷ c ∷ d ∷ bs) Memory h = tt
count_stops item (a ∷ b ∷ c ∷ d ∷ bs) (At left) h = cc

-- when all are read
pub list_read : {A B : Type 0} {item : Item} {f : B → List ℕ} {g : A → B} {Fits : B → Type 0} {many n : ℕ} {bytes start rest : List ℕ} {xs : List A} → Read (any 4 ∷ []) bytes (short_bytes many) start (FitsShort many) → ReadSome item f g Fits many start n xs rest → n ≡ many
    → Read (list_part item ∷ []) bytes (list_bytes f (map g xs)) rest (FitsList Fits (map g xs))
list_read {A} {B} {item} {f} {g} {Fits} {many} {n} {bytes} {start} {rest} {xs} c h q = record {
  spelled = read_all f g xs many bytes start rest c.spelled h.spelled (h.counted ∙ q);
  walked =
      listed item many bytes start c.sizes c.spelled
      ∙ (h.walked ∙ ap (λ m. walk (settle (items m item ∷ [])) rest) (let k : many - n ≡ 0 = omega (arith, q) in k));
  sizes = (subst FitsShort (sym (length-map xs g ∙ (h.counted ∙ q))) c.sizes, h.sizes);
}

-- where the items are told as they are
pub list_read_same : {A : Type 0} {item : Item} {f : A → List ℕ} {Fits : A → Type 0} {many n : ℕ} {bytes start rest : List ℕ} {xs : List A} → Read (any 4 ∷ []) bytes (short_bytes many) start (FitsShort many) → ReadSome item f (λ x. x) Fits many start n xs rest → n ≡ many
    → Read (list_part item ∷ []) bytes (list_bytes f xs) rest (FitsList Fits xs)
list_read_same {A} {item} {f} {Fits} {many} {n} {bytes} {start} {rest} {xs} c h q = subst (λ ys. Read (list_part item ∷ []) bytes (list_bytes f ys) rest (FitsList Fits ys)) (map-id xs) (list_read c h q)
