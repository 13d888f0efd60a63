-- A read of a calm shelf gives the named file, cut.
use Rattle.std.proofs.Common.{◌≡◌, length, min, take, sym, ap, ◌∙◌, arith}
use Rattle.port.specs.Files.{held_by}
use Rattle.port.proofs.Cuts.{cut_file}
use Rattle.port.proofs.FirstHolds.{placed, unplaced, stands_within, stands_holds, nowhere_holds_none}
use Rattle.port.proofs.calm.CalmShelfShelf.read.Goals as goal

pub returns-in_default-clause-held : goal.returns-in_default-clause-held
returns-in_default-clause-held c =
    let nowhere = unplaced c.args.self.now.files.items c.args.name.now (sym c.place.ensures ∙ c.in_default.is) in
    c.new.ensures.items ∙ sym (ap (take 1048577) (nowhere_holds_none c.args.self.now.files.items c.args.name.now nowhere))

pub index-requires : goal.index-requires
index-requires c =
    let stands = placed c.args.self.now.files.items c.args.name.now c.in-Some.place (sym c.place.ensures ∙ c.in-Some.is) in
    omega (arith, stands_within c.args.self.now.files.items c.args.name.now c.in-Some.place stands, c.args.self.now.files.ok.0)

pub returns-clause-held : goal.returns-clause-held
returns-clause-held c =
    let stands = placed c.args.self.now.files.items c.args.name.now c.in-Some.place (sym c.place.ensures ∙ c.in-Some.is) in
    let held : held_by c.args.self.now.files.items c.args.name.now ≡ c.index.result.now.1.items =
    stands_holds c.args.self.now.files.items c.args.name.now c.in-Some.place c.index.result.now stands ∙ sym (ap (λ file. file.1.items) c.index.ensures) in
    let count : c.min-count.result ≡ min (length c.index.result.now.1.items) 1048577 = omega (arith, c.len.ensures, c.index.result.now.1.ok.0) in
    c.in_ok-from_slice.ensures.items ∙ (cut_file c.index.result.now.1.items _ _ _ c.deref.ensures.value count ∙ ap (take 1048577) (sym held))
