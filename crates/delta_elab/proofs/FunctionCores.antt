-- The core of a function from its parts, and the cores of functions in turn.
use Rattle.std.proofs.Common.{◌≡◌, ℕ, ◌+◌, List, [], ◌∷◌, ◌++◌, length, sym, ap, ap₂, ◌∙◌, append_assoc, length-append}
use Rattle.stream_type.specs.StreamType.{StreamType}
use Rattle.bunch.specs.BunchTree.{BunchTree, leaf_names}
use Rattle.core_term.specs.CoreTerm.{CoreTerm, CoreBody}
use Rattle.core_term.specs.Agreement.{types_in}
use Rattle.delta_meaning.specs.SourceBody.{SourceBody}
use Rattle.delta_meaning.specs.SourceMeaning.{source_past_names}
use Rattle.delta_meaning.specs.NewNames.{Origin, new_in_body, new_in_bodies}
use Rattle.delta_meaning.specs.NodePlaces.{node_places, body_places}
use Rattle.delta_meaning.specs.Elaboration.{core_at, core_body, core_bodies, param_numbers, numbered_names, numbered_past, numbered_params, no_numbers}
use Rattle.delta_elab.specs.Numbering.{entries_from, numbers_at}
use Rattle.delta_elab.proofs.ParamNumbers.{numbers_at-two}

module _ (functions : ℕ → SourceBody) (number : ℕ → ℕ) (b : SourceBody) (n m k : ℕ) where
  pub body-made : (entries : List (ℕ × ℕ)) (past : List (ℕ × StreamType)) (params : BunchTree) (gives : StreamType) (t : CoreTerm)
      → m ≡ n + length (source_past_names b) → k ≡ m + length (leaf_names b.params)
      → entries ≡ entries_from (leaf_names b.params) m ++ entries_from (source_past_names b) n
      → past ≡ numbered_past b.past n → params ≡ numbered_params b.params m → gives ≡ b.result
      → t ≡ core_at functions number b.type_names b.body (numbers_at entries) (types_in b.params) b.result k
      → (let made : CoreBody = record { past = past; params = params; result = gives; body = t } in made) ≡ core_body functions number b n
  body-made entries past params gives t em ek ee ep eq er et =
      let leafs = leaf_names b.params in
      let pasts = source_past_names b in
      let numbers : numbers_at entries ≡ param_numbers b n =
      ap numbers_at ee ∙ (numbers_at-two leafs pasts m n ∙ ap (λ i. numbered_names leafs i (numbered_names pasts n no_numbers)) em) in
      let last : k ≡ (n + length pasts) + length leafs = ek ∙ ap (λ i. i + length leafs) em in
      let term : t ≡ core_at functions number b.type_names b.body (param_numbers b n) (types_in b.params) b.result ((n + length pasts) + length leafs) =
      et ∙ ap₂ (λ f i. core_at functions number b.type_names b.body f (types_in b.params) b.result i) numbers last in
      let bunch : params ≡ numbered_params b.params (n + length pasts) = eq ∙ ap (numbered_params b.params) em in
      cc (ep, bunch, er, term)

-- one more core is done
pub pass_core : (functions : ℕ → SourceBody) (number : ℕ → ℕ) (all done : List CoreBody) (origins more : List Origin) (b : SourceBody) (left : List SourceBody) (c : CoreBody)
    → all ≡ done ++ core_bodies functions number (b ∷ left) (length origins) → c ≡ core_body functions number b (length origins) → more ≡ origins ++ new_in_body b
    → all ≡ (done ++ c ∷ []) ++ core_bodies functions number left (length more)
pass_core functions number all done origins more b left c e ec em =
    let next : length origins + length (new_in_body b) ≡ length more = sym (ap length em ∙ length-append origins (new_in_body b)) in
    e ∙ (ap₂ (λ x k. done ++ x ∷ core_bodies functions number left k) (sym ec) next ∙ sym (append_assoc done (c ∷ []) (core_bodies functions number left (length more))))

-- and its places
pub pass_places : (all done : List ℕ) (b : SourceBody) (left : List SourceBody) (places : List ℕ)
    → all ≡ done ++ body_places (b ∷ left) → places ≡ node_places b.body → all ≡ (done ++ places) ++ body_places left
pass_places all done b left places e ep = e ∙ (ap (λ ps. done ++ (ps ++ body_places left)) (sym ep) ∙ sym (append_assoc done places (body_places left)))

-- and its variables
pub pass_variables : (all origins more : List Origin) (b : SourceBody) (left : List SourceBody)
    → all ≡ origins ++ new_in_bodies (b ∷ left) → more ≡ origins ++ new_in_body b → all ≡ more ++ new_in_bodies left
pass_variables all origins more b left e em = e ∙ (sym (append_assoc origins (new_in_body b) (new_in_bodies left)) ∙ ap (λ os. os ++ new_in_bodies left) (sym em))
