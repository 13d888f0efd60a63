-- Lists of names, joined.
use Rattle.std.proofs.Common.{◌≡◌, ◌∙◌, ◌<◌, ◌≤◌, ◌+◌, ℕ, List, [], ◌∷◌, ◌++◌, length, get_or, drop, ap, sym, append_assoc, append-nil}
use Rattle.std.proofs.lemmas.List.{at_drop_more, drop_all}
use Rattle.bunch.proofs.NameLists.{numbers_of-append}

pub ruleset name_lists = (append_assoc, append-nil, numbers_of-append)

-- names of items, found one item after the other
module _ {A : Type 0} (F : List A → List ℕ) (G : A → List ℕ) (xs : List A) (i : ℕ) where
  -- those of the next are put behind those found
  pub next_found : (x : A) (old new whole : List ℕ) → ((y : A) (ys : List A) → F (y ∷ ys) ≡ G y ++ F ys) → i < length xs → x ≡ get_or xs i x → new ≡ old ++ G x → old ++ F (drop i xs) ≡ whole
      → new ++ F (drop (i + 1) xs) ≡ whole
  next_found x old new whole f h e n w =
      ap (λ l. l ++ F (drop (i + 1) xs)) n ∙ append_assoc old (G x) (F (drop (i + 1) xs))
      ∙ ap (λ l. old ++ l) (ap (λ y. G y ++ F (drop (i + 1) xs)) e ∙ sym (f (get_or xs i x) (drop (i + 1) xs)) ∙ sym (at_drop_more F xs i x h)) ∙ w

-- all are found
pub all_found : {A : Type 0} (F : List A → List ℕ) (xs : List A) (i : ℕ) (found whole : List ℕ) → F [] ≡ [] → length xs ≤ i → found ++ F (drop i xs) ≡ whole → found ≡ whole
all_found F xs i found whole n h w = sym (ap (λ l. found ++ F l) (drop_all i xs h) ∙ ap (λ l. found ++ l) n ∙ append-nil found) ∙ w
