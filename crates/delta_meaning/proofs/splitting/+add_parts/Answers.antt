-- What is added for two parts is what is added for the whole.
use Rattle.std.proofs.Common.{◌≡◌, List, ◌++◌, map, sym, ap, ap₂, ◌∙◌, append_assoc}
use Rattle.std.proofs.lemmas.List.{append-nil}
use Rattle.std.proofs.lemmas.Result.{on_ok_weaker}
use Rattle.bunch.specs.declared.bunch.Bunch.{Bunch}
use Rattle.bunch.specs.BunchTree.{tree_of}
use Rattle.stream_prefix.specs.declared.prefix.Prefix.{Prefix}
use Rattle.stream_prefix.specs.StreamPrefix.{StreamPrefix}
use Rattle.stream_prefix.specs.Tree.{prefix_of}
use Rattle.delta_meaning.specs.Splitting.{parts, empties}
use Rattle.delta_meaning.proofs.splitting.+add_parts.Goals as goal

both_added : (old one two first second whole : List StreamPrefix) → one ≡ old ++ first → whole ≡ first ++ second → two ≡ one ++ second → two ≡ old ++ whole
both_added old one two first second whole e w h = h ∙ (ap (λ (l : List StreamPrefix). l ++ second) e ∙ (append_assoc old first second ∙ ap (λ (l : List StreamPrefix). old ++ l) (sym w)))

pub returns-in-Empty : goal.returns-in-Empty
returns-in-Empty t c = rw c.in-Empty.is (sym (append-nil (map prefix_of c.args.found.now.items)))

pub returns-in-Leaf : goal.returns-in-Leaf
returns-in-Leaf t c = rw c.in-Leaf.is c.add_copy.ensures

pub returns-in_ok-add_parts-in-Par : goal.returns-in_ok-add_parts-in-Par
returns-in_ok-add_parts-in-Par t c =
    let of : Bunch → Prefix → List StreamPrefix = λ b p. parts (tree_of b) (prefix_of p) in
    let first = of c.deref.result.now c.deref-in-Par.result.now in
    let second = of c.deref-in-Par-2.result.now c.deref-in-Par-3.result.now in
    let whole : of c.args.b.now c.args.p.now ≡ first ++ second =
    ap₂ of c.in-Comma.is c.in-Par.is ∙ ap₂ (λ (x y : List StreamPrefix). x ++ y) (sym (ap₂ of c.deref.ensures c.deref-in-Par.ensures)) (sym (ap₂ of c.deref-in-Par-2.ensures c.deref-in-Par-3.ensures)) in
    on_ok_weaker c.add_parts-in-Par.result (both_added _ _ _ first second _ c.in_ok-add_parts-in-Par.ensures whole) c.add_parts-in-Par.ensures

pub returns-in_ok-add_parts-in-CatBoth : goal.returns-in_ok-add_parts-in-CatBoth
returns-in_ok-add_parts-in-CatBoth t c =
    let of : Bunch → Prefix → List StreamPrefix = λ b p. parts (tree_of b) (prefix_of p) in
    let first = of c.deref-in-CatBoth.result.now c.deref-in-CatBoth-2.result.now in
    let second = of c.deref-in-CatBoth-3.result.now c.deref-in-CatBoth-4.result.now in
    let whole : of c.args.b.now c.args.p.now ≡ first ++ second =
    ap₂ of c.in-Semi.is c.in-CatBoth.is ∙ ap₂ (λ (x y : List StreamPrefix). x ++ y) (sym (ap₂ of c.deref-in-CatBoth.ensures c.deref-in-CatBoth-2.ensures)) (sym (ap₂ of c.deref-in-CatBoth-3.ensures c.deref-in-CatBoth-4.ensures)) in
    on_ok_weaker c.add_parts-in-CatBoth-2.result (both_added _ _ _ first second _ c.in_ok-add_parts-in-CatBoth.ensures whole) c.add_parts-in-CatBoth-2.ensures

pub returns-in_ok-add_parts-in-CatFst : goal.returns-in_ok-add_parts-in-CatFst
returns-in_ok-add_parts-in-CatFst t c =
    let of : Bunch → Prefix → List StreamPrefix = λ b p. parts (tree_of b) (prefix_of p) in
    let first = of c.deref-in-CatFst.result.now c.deref-in-CatFst-2.result.now in
    let second = empties (tree_of c.deref-in-CatFst-3.result.now) in
    let whole : of c.args.b.now c.args.p.now ≡ first ++ second =
    ap₂ of c.in-Semi.is c.in-CatFst.is ∙ ap₂ (λ (x y : List StreamPrefix). x ++ y) (sym (ap₂ of c.deref-in-CatFst.ensures c.deref-in-CatFst-2.ensures)) (sym (ap (λ (b : Bunch). empties (tree_of b)) c.deref-in-CatFst-3.ensures)) in
    on_ok_weaker c.add_empties.result (both_added _ _ _ first second _ c.in_ok-add_parts-in-CatFst.ensures whole) c.add_empties.ensures
